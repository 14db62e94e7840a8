use Rattle.std.proofs.Common.{ap, arith}
use Rattle.plan.specs.PlanContents.{contents}
use Rattle.class_bound.proofs.Flows.{by_search}
use Rattle.class_bound.proofs.bound_under.Goals as goal

pub returns : goal.returns
returns g c =
    let s = c.in_ok-service.ensures in
    rw c.ok_or.ensures.value
    (by_search (contents c.args.plan.now) c.args.class _ _ s.0 (omega (arith, c.if-sure-eq0.false, s.1.1, ap (λ t. t.0) c.sure.ensures)) s.1.0 c.bound_over.result c.bound_over.ensures)
