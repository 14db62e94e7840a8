use Rattle.std.proofs.Common.{◌∙◌}
use Rattle.slots.proofs.OfPlans.{plan_small}
use Rattle.slots.proofs.calls.slots.Goals as goal

pub write-requires-clause-small : goal.write-requires-clause-small
write-requires-clause-small c = plan_small c.args.plan.now c.from-class.result c.as_slice.result.now (c.as_slice.ensures ∙ c.find-found.ensures)
