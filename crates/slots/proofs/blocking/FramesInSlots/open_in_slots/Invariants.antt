use Rattle.std.proofs.Common.{vec_items}
use Rattle.slots.proofs.Meets.{Passed}
use Rattle.slots.proofs.blocking.FramesInSlots.open_in_slots.Given as goal

abbrev pub invariant-loop-line : goal.invariant-loop-line
invariant-loop-line l = Passed l.self.plan.now.gates.cycle.0 (vec_items l.self.plan.now.gates.lines) l.self.slots.now l.class l.line-index l.begin
