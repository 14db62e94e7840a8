use Rattle.std.proofs.Common.{sym, ap, ◌∙◌, ◌+◌}
use Rattle.sure_ticks.proofs.Found.{run_slot_empty}
use Rattle.slots.specs.Beginnings.{late}
use Rattle.slots.proofs.RunSlots.{here, slot_here, slot_elsewhere}
use Rattle.slots.proofs.runs.slot_of.Goals as goal
use Rattle.slots.proofs.runs.slot_of.Goals.{in-SameCycle, in-NextCycle}

pub returns-then-free-wait : goal.returns-then-free-wait
returns-then-free-wait c = sym (run_slot_empty (late c.args.asked) c.args.cycle c.args.tick c.args.wait c.args.free c.if-free-wait.true)

pub returns-then-not-here : goal.returns-then-not-here
returns-then-not-here c =
    sym (slot_elsewhere c.args.cycle c.args.tick c.args.wait c.args.free c.if-free-wait.false c.args.asked
    (elim c.match-asked.branch [
      | in-SameCycle w ↦ ap (λ b. here b c.args.cycle (c.args.tick + c.args.wait)) w.in-SameCycle.is ∙ sym w.here-is ∙ c.if-not-here.true
      | in-NextCycle w ↦ ap (λ b. here b c.args.cycle (c.args.tick + c.args.wait)) w.in-NextCycle.is ∙ sym w.here-is ∙ c.if-not-here.true
    ]))

pub returns : goal.returns
returns c =
    sym (slot_here c.args.cycle c.args.tick c.args.wait c.args.free c.if-free-wait.false c.args.asked
    (elim c.match-asked.branch [
      | in-SameCycle w ↦ ap (λ b. here b c.args.cycle (c.args.tick + c.args.wait)) w.in-SameCycle.is ∙ sym w.here-is ∙ c.if-not-here.false
      | in-NextCycle w ↦ ap (λ b. here b c.args.cycle (c.args.tick + c.args.wait)) w.in-NextCycle.is ∙ sym w.here-is ∙ c.if-not-here.false
    ]))
