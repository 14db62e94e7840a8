use Rattle.std.proofs.lemmas.Result.{err_from_is_err_and}
use Rattle.plan.proofs.Outcomes.{read_outcome, read_written, read_accepted, only_memory}
use Rattle.plan.proofs.plan.Plan.read.Goals as goal

pub returns-in_err-parsed-clause-accepted : goal.returns-in_err-parsed-clause-accepted
returns-in_err-parsed-clause-accepted c =
    let p = err_from_is_err_and c.from_residual.result c.from_residual.ensures.1 in
    λ u h. rw (p.1, p.2) (only_memory _ _ c.in_err-parsed.ensures u h)

pub returns : goal.returns
returns c =
    let said = c.in_ok-parsed.ensures in
    let is = c.in_ok-self.ensures in
    record { outcome = read_outcome _ _ _ said is; written = read_written _ _ _ said is; accepted = read_accepted _ _ _ said is }
