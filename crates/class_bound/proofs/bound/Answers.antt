use Rattle.std.proofs.Common.{arith}
use Rattle.plan.specs.PlanContents.{contents}
use Rattle.class_bound.proofs.Flows.{by_flows}
use Rattle.class_bound.proofs.bound.Goals as goal

pub returns : goal.returns
returns c =
    by_flows (contents c.args.plan.now) c.args.class _ c.in_ok-envelope.ensures.1 (omega (arith, c.if-branch-eq0.false, c.in_ok-flow_count.ensures.1)) c.bound_under.result c.bound_under.ensures
