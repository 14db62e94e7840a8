use Rattle.std.proofs.Common.{map, ap}
use Rattle.reader.specs.Views.{sizes_of}
use Rattle.plan.proofs.Outcomes.{shut_contents_lem}
use Rattle.plan.proofs.plan.Plan.new.Goals as goal

pub returns : goal.returns
returns c =
    let gates = c.in_ok-gates.ensures in
    let classes = c.in_ok-classes.ensures in
    shut_contents_lem _ _ c.silent.result _ _ gates.0 gates.1 c.silent.ensures.0 c.silent.ensures.1 (ap (map sizes_of) classes.sizes) classes.flows.1
