use Rattle.plan.specs.PlanContents.{contents}
use Rattle.arrivals.proofs.Flows.{all_kinds}
use Rattle.arrivals.proofs.class_envelope.Goals as goal

pub returns : goal.returns
returns c =
    let b = c.in_ok-buckets.ensures in
    let p = c.in_ok-periodics.ensures in
    (b.0, all_kinds (contents c.args.plan.now) c.args.class c.in_ok-buckets.buckets.now c.in_ok-periodics.periodics.now b.1 p.1)
