use Rattle.std.proofs.Common.{◌<◌, ◌++◌, length, vec_items, sym, ap, ◌∙◌, arith}
use Rattle.std.proofs.lemmas.List.{append-nil}
use Rattle.gates.specs.Opened.{line}
use Rattle.plan.specs.PlanContents.{contents}
use Rattle.slots.specs.Beginnings.{late}
use Rattle.slots.specs.OfPlan.{longest}
use Rattle.slots.specs.Listed.{items}
use Rattle.slots.proofs.Walks.{lines_same}
use Rattle.slots.proofs.Gathers.{gather_none, gather_fits, gather_room, gather_more}
use Rattle.slots.proofs.find.gather.Goals as goal
use Rattle.slots.proofs.find.gather.Goals.{in-Some, in_default}

pub loop-index-init : goal.loop-index-init
loop-index-init c = gather_none _ _ (late c.args.asked) (longest (contents c.args.plan.now)) c.args.class (items c.args.slots.now)

pub push-requires : goal.push-requires
push-requires c =
    let e = lines_same _ _ _ c.lines-line-items.ensures c.gates.ensures in
    let lt : c.loop-index.index < length (vec_items c.args.plan.now.gates.lines) = omega (arith, ap length e, c.loop-index-test.true) in
    let r = gather_room _ _ (late c.args.asked) (longest (contents c.args.plan.now)) c.args.class (items c.args.slots.now) c.args.plan.now.gates.lawful c.loop-index.index c.loop-index.tick (items c.loop-index.slots) lt c.loop-index.invariant c.requires in
    omega (arith, r, ap length c.in-Some.ensures)

pub overflow_add-tick : goal.overflow_add-tick
overflow_add-tick c =
    let e = lines_same _ _ _ c.lines-line-items.ensures c.gates.ensures in
    let lt : c.loop-index.index < length (vec_items c.args.plan.now.gates.lines) = omega (arith, ap length e, c.loop-index-test.true) in
    let f = gather_fits _ _ (late c.args.asked) (longest (contents c.args.plan.now)) c.args.class (items c.args.slots.now) c.args.plan.now.gates.lawful c.loop-index.index c.loop-index.tick (items c.loop-index.slots) lt c.loop-index.invariant _ (ap (λ xs. line xs c.loop-index.index) e) in
    omega (arith, f, c.args.plan.now.gates.lawful.most)

pub loop-index-preserved : goal.loop-index-preserved
loop-index-preserved c =
    let e = lines_same _ _ _ c.lines-line-items.ensures c.gates.ensures in
    let lt : c.loop-index.index < length (vec_items c.args.plan.now.gates.lines) = omega (arith, ap length e, c.loop-index-test.true) in
    gather_more _ _ (late c.args.asked) (longest (contents c.args.plan.now)) c.args.class (items c.args.slots.now) c.args.plan.now.gates.lawful c.loop-index.index c.loop-index.tick (items c.loop-index.slots) lt c.loop-index.invariant _ (ap (λ xs. line xs c.loop-index.index) e) (items c.match-slot.slots)
    (elim c.match-slot.branch [
      | in-Some w ↦ ap items w.slots-is ∙ w.push.ensures ∙ ap (λ v. items c.loop-index.slots ++ v) w.in-Some.ensures
      | in_default w ↦ ap items w.slots-is ∙ sym (append-nil (items c.loop-index.slots)) ∙ ap (λ v. items c.loop-index.slots ++ v) w.in_default.ensures
    ])
