use Rattle.std.proofs.Common.{take, drop, vec_items, ap, ◌∙◌, arith}
use Rattle.calculus.specs.Searches.{lasts}
use Rattle.gates.specs.Opened.{total, opened}
use Rattle.gates.proofs.Lines.{start_most}
use Rattle.slots.proofs.Walks.{lines_same, round_parts, round_short, round_long}
use Rattle.slots.proofs.walk.LineStart.lasting.Goals as goal

pub walk-first-requires-clause-short : goal.walk-first-requires-clause-short
walk-first-requires-clause-short g c =
    let s = c.args.self.now in
    let e = c.split_at.ensures.back ∙ ap (drop s.index) (lines_same _ _ _ c.lines.ensures c.gates.ensures) in
    omega (arith, ap total e, round_parts _ _ s.plan.now.gates.lawful s.index, s.plan.now.gates.lawful.most)

pub overflow_sub-cycle : goal.overflow_sub-cycle
overflow_sub-cycle g c = let s = c.args.self.now in omega (arith, s.begun, c.cycle.ensures, round_parts _ _ s.plan.now.gates.lawful s.index)

pub returns-then-first-cycle : goal.returns-then-first-cycle
returns-then-first-cycle g c = λ test at says.
    let s = c.args.self.now in
    let e = c.split_at.ensures.back ∙ ap (drop s.index) (lines_same _ _ _ c.lines.ensures c.gates.ensures) in
    let f = ap (λ a. lasts (test (opened (vec_items s.plan.now.gates.lines))) a s.plan.now.gates.cycle.0) s.begun in
    let r = round_short _ _ s.plan.now.gates.lawful s.index test at _ (λ l b a. says l b (record { shown = a.shown; shows = a.shows; says = record { met = a.says.met } })) _ e _ c.walk-first.ensures
    (omega (arith, c.if-first-cycle.true, c.cycle.ensures, s.begun)) in
    cc

pub walk-requires-clause-short : goal.walk-requires-clause-short
walk-requires-clause-short g c =
    let s = c.args.self.now in
    let e = c.split_at.ensures.front ∙ ap (take s.index) (lines_same _ _ _ c.lines.ensures c.gates.ensures) in
    omega (arith, ap total e, round_parts _ _ s.plan.now.gates.lawful s.index, s.plan.now.gates.lawful.most)

pub overflow_add-result : goal.overflow_add-result
overflow_add-result g c =
    let s = c.args.self.now in
    let e = c.split_at.ensures.back ∙ ap (drop s.index) (lines_same _ _ _ c.lines.ensures c.gates.ensures) in
    let d = c.split_at.ensures.front ∙ ap (take s.index) (lines_same _ _ _ c.lines.ensures c.gates.ensures) in
    let a = start_most c.split_at.result.1.now c.walk-first.ensures.past in
    let b = start_most c.split_at.result.0.now c.walk.ensures.past in
    omega (arith, c.walk-first.ensures.added, c.walk.ensures.added, ap total e, ap total d, round_parts _ _ s.plan.now.gates.lawful s.index, s.plan.now.gates.lawful.most)

pub returns : goal.returns
returns g c = λ test at says.
    let s = c.args.self.now in
    let e = c.split_at.ensures.back ∙ ap (drop s.index) (lines_same _ _ _ c.lines.ensures c.gates.ensures) in
    let d = c.split_at.ensures.front ∙ ap (take s.index) (lines_same _ _ _ c.lines.ensures c.gates.ensures) in
    let f = ap (λ a. lasts (test (opened (vec_items s.plan.now.gates.lines))) a s.plan.now.gates.cycle.0) s.begun in
    let r = round_long _ _ s.plan.now.gates.lawful s.index test at _ _ (λ l b a. says l b (record { shown = a.shown; shows = a.shows; says = record { met = a.says.met } })) (λ l b a. says l b (record { shown = a.shown; shows = a.shows; says = record { met = a.says.met } })) _ _ e d _ _ c.walk-first.ensures c.walk.ensures
    (omega (arith, c.if-first-cycle.false, c.cycle.ensures, s.begun)) in
    cc
