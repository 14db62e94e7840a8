use Rattle.std.proofs.Common.{◌≡◌, ℕ, ◌+◌, ◌-◌, ◌≤◌, max, List, get_or, sym, subst, rules, tests, arith, take_all}
use Rattle.std.specs.List.{AllByRecursion}
use Rattle.calculus.specs.Searches.{count}
use Rattle.calculus.proofs.Counts.{count_grows}
use Rattle.sure_ticks.specs.declared.slot.Slot.{Slot}
use Rattle.sure_ticks.specs.Slots.{slot}
use Rattle.sure_ticks.specs.Sure.{covered, lengths}
use Rattle.sure_ticks.proofs.Sums.{lengths_some}
use Rattle.curve.specs.Table.{place_of, before_of}
use Rattle.curve.specs.Laws.{FirstSpan}
use Rattle.curve.proofs.Sliding.{end_of}
use Rattle.curve.proofs.Least.{least_below, least_above}
use Rattle.curve.proofs.Turns.{marks_size, first_before, last_before, turn, end_place, place_le, tick_turn, ends_wider}
use Rattle.service.proofs.Reaching.{passes, reached_from, ready_of, turn_of}
use Rattle.service.proofs.class_service.ClassService.first_with.Goals as goal

pub loop-slot-init : goal.loop-slot-init
loop-slot-init c =
    let L = c.args.self.now.cycle.0 in
    let ss = c.as_slice-slots.result.now in
    let ms = c.marks-marks.result.now in
    let r = ready_of c.args.self.now ss ms c.as_slice-slots.ensures c.marks-marks.ensures in
    let n = marks_size L ss ms r in
    let m : c.args.ticks ≤ lengths ss = subst (λ xs. c.args.ticks ≤ lengths xs) (sym c.as_slice-slots.ensures) c.requires.there in
    let some = lengths_some ss (omega (arith, c.requires.some)) in
    (omega arith, sym (first_before L ss ms r), omega (arith, c.requires.some), tt, λ x h. omega arith)

pub overflow_add-done : goal.overflow_add-done
overflow_add-done c =
    let t = turn_of c.args.self.now _ _ c.as_slice-slots.ensures c.marks-marks.ensures c.loop-slot.slot-index c.loop-slot-test.true in
    omega (arith, c.loop-slot.invariant.1)

pub overflow_add-number : goal.overflow_add-number
overflow_add-number c =
    let L = c.args.self.now.cycle.0 in
    let ss = c.as_slice-slots.result.now in
    let ms = c.marks-marks.result.now in
    let r = ready_of c.args.self.now ss ms c.as_slice-slots.ensures c.marks-marks.ensures in
    let t = turn L ss ms r c.loop-slot.slot-index c.loop-slot-test.true in
    let m : c.args.ticks ≤ lengths ss = subst (λ xs. c.args.ticks ≤ lengths xs) (sym c.as_slice-slots.ensures) c.requires.there in
    omega (arith, c.loop-slot.invariant.1)

pub reach-k-requires-clause-inside : goal.reach-k-requires-clause-inside
reach-k-requires-clause-inside c =
    let L = c.args.self.now.cycle.0 in
    let ss = c.as_slice-slots.result.now in
    let ms = c.marks-marks.result.now in
    let r = ready_of c.args.self.now ss ms c.as_slice-slots.ensures c.marks-marks.ensures in
    let t = turn L ss ms r c.loop-slot.slot-index c.loop-slot-test.true in
    let l = last_before L ss ms r in
    let m : c.args.ticks ≤ lengths ss = subst (λ xs. c.args.ticks ≤ lengths xs) (sym c.as_slice-slots.ensures) c.requires.there in
    λ p. let k = passes _ _ (λ m. m.before.0) (c.loop-slot.done + (get_or ss c.loop-slot.slot-index (slot 0 0)).length.0 + c.args.ticks) (λ m q e. search (rules, tests)) ms _ p in omega (arith, k, c.loop-slot.invariant.1)

pub place_after-end-requires-clause-small : goal.place_after-end-requires-clause-small
place_after-end-requires-clause-small c =
    let L = c.args.self.now.cycle.0 in
    let ss = c.as_slice-slots.result.now in
    let ms = c.marks-marks.result.now in
    let r = ready_of c.args.self.now ss ms c.as_slice-slots.ensures c.marks-marks.ensures in
    let t = turn L ss ms r c.loop-slot.slot-index c.loop-slot-test.true in
    let m : c.args.ticks ≤ lengths ss = subst (λ xs. c.args.ticks ≤ lengths xs) (sym c.as_slice-slots.ensures) c.requires.there in
    let p = place_le L ss ms r c.reach-k.result (omega (arith, c.reach-k.ensures.there)) in
    omega (arith, c.loop-slot.invariant.1)

pub overflow_sub-slot : goal.overflow_sub-slot
overflow_sub-slot c =
    let t = turn_of c.args.self.now _ _ c.as_slice-slots.ensures c.marks-marks.ensures c.loop-slot.slot-index c.loop-slot-test.true in
    omega (arith, c.first_begin-first.ensures)

pub overflow_add-slot : goal.overflow_add-slot
overflow_add-slot c =
    let t = turn_of c.args.self.now _ _ c.as_slice-slots.ensures c.marks-marks.ensures c.loop-slot.slot-index c.loop-slot-test.true in
    omega (arith, c.first_begin-first.ensures)

pub overflow_sub-end : goal.overflow_sub-end
overflow_sub-end c =
    let L = c.args.self.now.cycle.0 in
    let ss = c.as_slice-slots.result.now in
    let ms = c.marks-marks.result.now in
    let r = ready_of c.args.self.now ss ms c.as_slice-slots.ensures c.marks-marks.ensures in
    let j = c.loop-slot.slot-index in
    let h = c.loop-slot-test.true in
    let t = turn L ss ms r j h in
    let f = reached_from _ _ (λ m. m.before.0) (c.loop-slot.done + (get_or ss c.loop-slot.slot-index (slot 0 0)).length.0 + c.args.ticks) (λ m q e. search (rules, tests)) ms c.loop-slot.k c.reach-k.result c.reach-k.ensures.there (omega (arith, c.loop-slot.invariant.1, c.loop-slot.invariant.2)) c.reach-k.ensures.begun c.reach-k.ensures.ends in
    let w = tick_turn L ss ms r j c.reach-k.result c.args.ticks h f.there c.requires.some (omega (arith, f.begun, c.loop-slot.invariant.1)) (omega (arith, f.ends, c.loop-slot.invariant.1)) in
    omega (arith, w.0, c.loop-slot.invariant.1, c.place_after-end.ensures, c.first_begin-first.ensures)

pub loop-slot-preserved : goal.loop-slot-preserved
loop-slot-preserved c =
    let L = c.args.self.now.cycle.0 in
    let ss = c.as_slice-slots.result.now in
    let ms = c.marks-marks.result.now in
    let r = ready_of c.args.self.now ss ms c.as_slice-slots.ensures c.marks-marks.ensures in
    let j = c.loop-slot.slot-index in
    let h = c.loop-slot-test.true in
    let t = turn L ss ms r j h in
    let f = reached_from _ _ (λ m. m.before.0) (c.loop-slot.done + (get_or ss c.loop-slot.slot-index (slot 0 0)).length.0 + c.args.ticks) (λ m q e. search (rules, tests)) ms c.loop-slot.k c.reach-k.result c.reach-k.ensures.there (omega (arith, c.loop-slot.invariant.1, c.loop-slot.invariant.2)) c.reach-k.ensures.begun c.reach-k.ensures.ends in
    let w = tick_turn L ss ms r j c.reach-k.result c.args.ticks h f.there c.requires.some (omega (arith, f.begun, c.loop-slot.invariant.1)) (omega (arith, f.ends, c.loop-slot.invariant.1)) in
    let e = end_of (get_or ss j (slot 0 0)) in
    let s = get_or ss j (slot 0 0) in
    let d : ℕ = place_of ms c.reach-k.result + (before_of ms (j + 1) + c.args.ticks - before_of ms c.reach-k.result) - end_place ms j in
    let most : c.max-far.result ≡ max c.loop-slot.far (c.place_after-end.result - (s.begin.0 - c.first_begin-first.result + s.length.0)) = c.max-far.ensures in
    let far : c.max-far.result ≡ max c.loop-slot.far d = omega (arith, c.place_after-end.ensures, c.first_begin-first.ensures, c.loop-slot.invariant.1) in
    let g = count_grows (covered L ss) e d c.max-far.result (omega arith) in (
      f.there,
      omega (arith, c.loop-slot.invariant.1),
      omega (arith, f.begun, c.loop-slot.invariant.1),
      ends_wider L ss c.args.ticks j c.loop-slot.far c.max-far.result (slot 0 0) h (omega arith) (omega (arith, w.2)) c.loop-slot.invariant.3,
      λ x q. let m = c.loop-slot.invariant.4 x q in let b = least_below L r.some ss x e in let v = w.3 x (omega arith) in omega arith,
    )

pub returns : goal.returns
returns c =
    let L = c.args.self.now.cycle.0 in
    let ss = c.as_slice-slots.result.now in
    let ms = c.marks-marks.result.now in
    let r = ready_of c.args.self.now ss ms c.as_slice-slots.ensures c.marks-marks.ensures in
    let P : List Slot → Type 0 = λ xs. AllByRecursion (λ s. c.args.ticks ≤ count (covered L ss) (end_of s) c.loop-slot.far) xs in
    let m : c.args.ticks ≤ lengths ss = subst (λ xs. c.args.ticks ≤ lengths xs) (sym c.as_slice-slots.ensures) c.requires.there in
    let a = least_above L r.some ss r.apart (lengths_some ss (omega (arith, c.requires.some))) c.loop-slot.far c.args.ticks (subst P (take_all _ _ c.loop-slot-test.false) c.loop-slot.invariant.3) in
    subst (λ xs. FirstSpan L xs c.args.ticks c.loop-slot.far) c.as_slice-slots.ensures (a, c.loop-slot.invariant.4)
