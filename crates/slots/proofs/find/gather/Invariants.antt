use Rattle.std.proofs.Common.{vec_items}
use Rattle.plan.specs.PlanContents.{contents}
use Rattle.slots.specs.Beginnings.{late}
use Rattle.slots.specs.OfPlan.{longest}
use Rattle.slots.specs.Listed.{items}
use Rattle.slots.proofs.Gathers.{Gathered}
use Rattle.slots.proofs.find.gather.Given as goal

abbrev pub invariant-loop-index : goal.invariant-loop-index
invariant-loop-index l = Gathered (vec_items l.plan.gates.lines) l.plan.gates.cycle.0 (late l.fn.asked) (longest (contents l.plan)) l.class (items l.initial.slots) l.index l.tick (items l.slots)
