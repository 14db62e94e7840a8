use Rattle.std.proofs.Common.{◌-◌, cond, vec_items, sym, ap}
use Rattle.std.proofs.lemmas.Bool.{eqb-true}
use Rattle.gates.specs.Opened.{opened}
use Rattle.plan.specs.PlanContents.{contents}
use Rattle.slots.specs.OfPlan.{longest}
use Rattle.slots.proofs.Meets.{never_covered}
use Rattle.slots.proofs.blocking.FramesInSlotsWaits.ticks.Goals as goal
use Rattle.slots.proofs.blocking.FramesInSlotsWaits.ticks.Goals.{then-is_empty-via-then-is_empty, then-is_empty-via-else-is_empty+then-not-open_in_slots}

pub returns-then-is_empty : goal.returns-then-is_empty
returns-then-is_empty c =
    let s = c.args.self.now in
    let most = longest (contents s.plan.now) c.args.class - 1 in
    elim c.then-is_empty.branch [
      | then-is_empty-via-then-is_empty w ↦ sym (ap (λ b. cond b most 0) (never_covered s.plan.now.gates.cycle.0 (opened (vec_items s.plan.now.gates.lines) c.args.class) s.slots.now (eqb-true _ _ (sym w.if-is_empty.ensures)) s.plan.now.gates.cycle.0))
      | then-is_empty-via-else-is_empty+then-not-open_in_slots w ↦ ap (λ b. cond b most 0) w.if-not-open_in_slots.ensures
    ]
