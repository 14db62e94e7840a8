use Rattle.std.proofs.Common.{◌<◌, false, length, vec_items, sym, refl, ap, inl, inr, arith}
use Rattle.std.proofs.lemmas.Bool.{both_ways}
use Rattle.gates.specs.Opened.{line}
use Rattle.slots.proofs.Walks.{lines_same}
use Rattle.slots.proofs.Meets.{passed_none, passed_all, line_in, passed_yes, passed_more}
use Rattle.slots.proofs.blocking.FramesInSlots.open_in_slots.Goals as goal
use Rattle.slots.proofs.blocking.FramesInSlots.open_in_slots.Goals.{else-is_open-via-then-is_open+else-meets, else-is_open-via-else-is_open}

pub loop-line-init : goal.loop-line-init
loop-line-init c = passed_none _ _ c.args.self.now.slots.now c.args.class

pub overflow_add-end : goal.overflow_add-end
overflow_add-end c =
    let z = c.args.self.now in
    let e = lines_same _ _ _ c.lines-line-items.ensures c.gates.ensures in
    let lt : c.loop-line.line-index < length (vec_items z.plan.now.gates.lines) = omega (arith, ap length e, c.loop-line-test.true) in
    omega (arith, (line_in _ _ z.plan.now.gates.lawful z.slots.now c.args.class c.loop-line.line-index c.loop-line.begin c.loop-line.invariant lt _ (ap (λ xs. line xs c.loop-line.line-index) e)).1, z.plan.now.gates.lawful.most)

pub meets-requires-clause-inside : goal.meets-requires-clause-inside
meets-requires-clause-inside c =
    let z = c.args.self.now in
    let e = lines_same _ _ _ c.lines-line-items.ensures c.gates.ensures in
    let lt : c.loop-line.line-index < length (vec_items z.plan.now.gates.lines) = omega (arith, ap length e, c.loop-line-test.true) in
    (line_in _ _ z.plan.now.gates.lawful z.slots.now c.args.class c.loop-line.line-index c.loop-line.begin c.loop-line.invariant lt _ (ap (λ xs. line xs c.loop-line.line-index) e)).1

pub returns-then-meets : goal.returns-then-meets
returns-then-meets c =
    let z = c.args.self.now in
    let e = lines_same _ _ _ c.lines-line-items.ensures c.gates.ensures in
    let lt : c.loop-line.line-index < length (vec_items z.plan.now.gates.lines) = omega (arith, ap length e, c.loop-line-test.true) in
    sym (passed_yes _ _ z.plan.now.gates.lawful z.slots.now c.args.class c.loop-line.line-index c.loop-line.begin c.loop-line.invariant lt _ (ap (λ xs. line xs c.loop-line.line-index) e)
    (sym c.if-is_open.ensures) (c.if-meets.ensures.0 refl))

pub loop-line-preserved : goal.loop-line-preserved
loop-line-preserved c =
    let z = c.args.self.now in
    let e = lines_same _ _ _ c.lines-line-items.ensures c.gates.ensures in
    let lt : c.loop-line.line-index < length (vec_items z.plan.now.gates.lines) = omega (arith, ap length e, c.loop-line-test.true) in
    passed_more _ _ z.plan.now.gates.lawful z.slots.now c.args.class c.loop-line.line-index c.loop-line.begin c.loop-line.invariant lt _ (ap (λ xs. line xs c.loop-line.line-index) e)
    (elim c.else-is_open.branch [
      | else-is_open-via-then-is_open+else-meets w ↦ inr (λ h. both_ways false refl (w.if-meets.ensures.1 h))
      | else-is_open-via-else-is_open w ↦ inl (sym w.if-is_open.ensures)
    ])

pub returns : goal.returns
returns c =
    let z = c.args.self.now in
    let e = lines_same _ _ _ c.lines-line-items.ensures c.gates.ensures in
    sym (passed_all _ _ z.plan.now.gates.lawful z.slots.now c.args.class c.loop-line.line-index c.loop-line.begin c.loop-line.invariant (omega (arith, ap length e, c.loop-line-test.false)))
