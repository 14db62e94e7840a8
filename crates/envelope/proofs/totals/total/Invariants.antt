use Rattle.std.proofs.Common.{◌≡◌, ◌≤◌, take}
use Rattle.envelope.specs.Answers.{load}
use Rattle.envelope.specs.Totals.{sum_at, least_reach}
use Rattle.envelope.proofs.totals.total.Given as goal

abbrev pub invariant-loop-each : goal.invariant-loop-each
invariant-loop-each g l =
    let e = g.E.Envelope in
    (l.sum ≡ load (sum_at e.alpha (take l.each-index l.row) l.span.0)) × (l.span.0 ≤ least_reach e.reach (take l.each-index l.row))
