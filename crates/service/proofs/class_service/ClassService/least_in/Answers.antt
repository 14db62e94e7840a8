use Rattle.std.proofs.Common.{◌≡◌, ◌+◌, ◌-◌, ◌≤◌, List, length, get_or, eqb-true, sym, ap, ◌∙◌, subst, rules, tests, arith, take_all}
use Rattle.std.specs.List.{AllByRecursion}
use Rattle.std.proofs.lemmas.Bool.{eqb-false}
use Rattle.calculus.specs.Searches.{count}
use Rattle.sure_ticks.specs.declared.slot.Slot.{Slot}
use Rattle.sure_ticks.specs.Slots.{slot}
use Rattle.sure_ticks.specs.Sure.{covered}
use Rattle.slots.specs.Listed.{items}
use Rattle.curve.specs.Curve.{least_covered}
use Rattle.curve.proofs.Sliding.{end_of}
use Rattle.curve.proofs.Least.{least_below, least_most, least_empty, least_above}
use Rattle.curve.proofs.Turns.{marks_size, first_before, last_place, turn, mark_le, window_turn, ends_more}
use Rattle.service.proofs.Reaching.{passes, reached_from, ready_of, turn_of}
use Rattle.service.proofs.class_service.ClassService.least_in.Goals as goal

pub returns-then-is_empty : goal.returns-then-is_empty
returns-then-is_empty c =
    let s = c.args.self.now in
    sym (least_empty s.cycle.0 s.ready.some (items s.slots) c.args.window (ap length (sym c.as_slice-slots.ensures) ∙ eqb-true _ 0 (sym c.is_empty.ensures ∙ c.if-is_empty.true)))

pub loop-slot-init : goal.loop-slot-init
loop-slot-init c =
    let L = c.args.self.now.cycle.0 in
    let ss = c.as_slice-slots.result.now in
    let ms = c.marks-marks.result.now in
    let r = ready_of c.args.self.now ss ms c.as_slice-slots.ensures c.marks-marks.ensures in
    let n = marks_size L ss ms r in
    let some = eqb-false (length ss) 0 (sym c.is_empty.ensures ∙ c.if-is_empty.false) in
    (least_most L r.some ss c.args.window, tt, omega arith, sym (first_before L ss ms r), omega arith)

pub overflow_add-done : goal.overflow_add-done
overflow_add-done c =
    let t = turn_of c.args.self.now _ _ c.as_slice-slots.ensures c.marks-marks.ensures c.loop-slot.slot-index c.loop-slot-test.true in
    omega (arith, c.loop-slot.invariant.3)

pub overflow_sub-end : goal.overflow_sub-end
overflow_sub-end c =
    let t = turn_of c.args.self.now _ _ c.as_slice-slots.ensures c.marks-marks.ensures c.loop-slot.slot-index c.loop-slot-test.true in
    omega (arith, c.first_begin-first.ensures)

pub overflow_add-end : goal.overflow_add-end
overflow_add-end c =
    let t = turn_of c.args.self.now _ _ c.as_slice-slots.ensures c.marks-marks.ensures c.loop-slot.slot-index c.loop-slot-test.true in
    omega (arith, c.first_begin-first.ensures)

pub overflow_add-end-in-loop-slot : goal.overflow_add-end-in-loop-slot
overflow_add-end-in-loop-slot c =
    let t = turn_of c.args.self.now _ _ c.as_slice-slots.ensures c.marks-marks.ensures c.loop-slot.slot-index c.loop-slot-test.true in
    omega (arith, c.first_begin-first.ensures, c.requires)

pub reach-k-requires-clause-inside : goal.reach-k-requires-clause-inside
reach-k-requires-clause-inside c =
    let L = c.args.self.now.cycle.0 in
    let ss = c.as_slice-slots.result.now in
    let ms = c.marks-marks.result.now in
    let r = ready_of c.args.self.now ss ms c.as_slice-slots.ensures c.marks-marks.ensures in
    let t = turn L ss ms r c.loop-slot.slot-index c.loop-slot-test.true in
    let l = last_place L ss ms r in
    λ p. let m = passes _ _ (λ m. m.place.0) ((get_or ss c.loop-slot.slot-index (slot 0 0)).begin.0 - c.first_begin-first.result + (get_or ss c.loop-slot.slot-index (slot 0 0)).length.0 + c.args.window) (λ m q e. search (rules, tests)) ms _ p in omega (arith, m, c.first_begin-first.ensures, c.requires)

pub before_place-requires : goal.before_place-requires
before_place-requires c =
    let L = c.args.self.now.cycle.0 in
    let ss = c.as_slice-slots.result.now in
    let ms = c.marks-marks.result.now in
    let r = ready_of c.args.self.now ss ms c.as_slice-slots.ensures c.marks-marks.ensures in
    let j = c.loop-slot.slot-index in
    let h = c.loop-slot-test.true in
    let t = turn L ss ms r j h in
    let f = reached_from _ _ (λ m. m.place.0) ((get_or ss c.loop-slot.slot-index (slot 0 0)).begin.0 - c.first_begin-first.result + (get_or ss c.loop-slot.slot-index (slot 0 0)).length.0 + c.args.window) (λ m q e. search (rules, tests)) ms c.loop-slot.k c.reach-k.result c.reach-k.ensures.there (omega (arith, c.loop-slot.invariant.4, c.first_begin-first.ensures)) c.reach-k.ensures.begun c.reach-k.ensures.ends in
    let m = mark_le L ss ms r c.reach-k.result f.there in
    record { there = f.there; begun = omega (arith, c.first_begin-first.ensures); small = omega (arith, c.first_begin-first.ensures, c.requires) }

pub overflow_sub-before_place : goal.overflow_sub-before_place
overflow_sub-before_place c =
    let L = c.args.self.now.cycle.0 in
    let ss = c.as_slice-slots.result.now in
    let ms = c.marks-marks.result.now in
    let r = ready_of c.args.self.now ss ms c.as_slice-slots.ensures c.marks-marks.ensures in
    let j = c.loop-slot.slot-index in
    let h = c.loop-slot-test.true in
    let t = turn L ss ms r j h in
    let f = reached_from _ _ (λ m. m.place.0) ((get_or ss c.loop-slot.slot-index (slot 0 0)).begin.0 - c.first_begin-first.result + (get_or ss c.loop-slot.slot-index (slot 0 0)).length.0 + c.args.window) (λ m q e. search (rules, tests)) ms c.loop-slot.k c.reach-k.result c.reach-k.ensures.there (omega (arith, c.loop-slot.invariant.4, c.first_begin-first.ensures)) c.reach-k.ensures.begun c.reach-k.ensures.ends in
    let w = window_turn L ss ms r j c.reach-k.result c.args.window h f.there (omega arith) (omega arith) in
    omega (arith, c.before_place.ensures, c.first_begin-first.ensures)

pub loop-slot-preserved : goal.loop-slot-preserved
loop-slot-preserved c =
    let L = c.args.self.now.cycle.0 in
    let ss = c.as_slice-slots.result.now in
    let ms = c.marks-marks.result.now in
    let r = ready_of c.args.self.now ss ms c.as_slice-slots.ensures c.marks-marks.ensures in
    let j = c.loop-slot.slot-index in
    let h = c.loop-slot-test.true in
    let t = turn L ss ms r j h in
    let f = reached_from _ _ (λ m. m.place.0) ((get_or ss c.loop-slot.slot-index (slot 0 0)).begin.0 - c.first_begin-first.result + (get_or ss c.loop-slot.slot-index (slot 0 0)).length.0 + c.args.window) (λ m q e. search (rules, tests)) ms c.loop-slot.k c.reach-k.result c.reach-k.ensures.there (omega (arith, c.loop-slot.invariant.4, c.first_begin-first.ensures)) c.reach-k.ensures.begun c.reach-k.ensures.ends in
    let w = window_turn L ss ms r j c.reach-k.result c.args.window h f.there (omega arith) (omega arith) in
    let n = least_below L r.some ss c.args.window (end_of (get_or ss j (slot 0 0))) in (
      omega (arith, c.loop-slot.invariant.0, c.min-best.ensures, c.before_place.ensures, c.first_begin-first.ensures),
      ends_more L ss c.args.window j c.loop-slot.best c.min-best.result (slot 0 0) h (omega (arith, c.min-best.ensures)) (omega (arith, c.min-best.ensures, c.before_place.ensures, c.first_begin-first.ensures)) c.loop-slot.invariant.1,
      f.there,
      omega (arith, c.loop-slot.invariant.3),
      omega (arith, f.begun),
    )

pub returns : goal.returns
returns c =
    let L = c.args.self.now.cycle.0 in
    let ss = c.as_slice-slots.result.now in
    let ms = c.marks-marks.result.now in
    let r = ready_of c.args.self.now ss ms c.as_slice-slots.ensures c.marks-marks.ensures in
    let best = c.loop-slot.best in
    let P : List Slot → Type 0 = λ xs. AllByRecursion (λ s. best ≤ count (covered L ss) (end_of s) c.args.window) xs in
    let a = least_above L r.some ss r.apart (eqb-false (length ss) 0 (sym c.is_empty.ensures ∙ c.if-is_empty.false)) c.args.window best (subst P (take_all _ _ c.loop-slot-test.false) c.loop-slot.invariant.1) in
    let e : best ≡ least_covered L ss c.args.window = omega (arith, c.loop-slot.invariant.0) in
    e ∙ ap (λ xs. least_covered L xs c.args.window) c.as_slice-slots.ensures
