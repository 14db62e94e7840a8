use Rattle.plan.specs.PlanContents.{contents}
use Rattle.arrivals.proofs.Flows.{all_counted}
use Rattle.arrivals.proofs.flow_count.Goals as goal

pub returns : goal.returns
returns c =
    let b = c.in_ok-bucket_flows.ensures in
    let p = c.in_ok-periodic_flows.ensures in
    (b.0, all_counted (contents c.args.plan.now) c.args.class c.in_ok-bucket_flows.bucket_flows.now c.in_ok-periodic_flows.periodic_flows.now b.1 p.1)
