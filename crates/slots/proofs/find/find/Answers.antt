use Rattle.std.proofs.Common.{ℕ, ◌<◌, true, false, [], ◌∷◌, ◌++◌, length, vec_items, sym, ap, ◌∙◌, arith}
use Rattle.std.proofs.lemmas.List.{length-append}
use Rattle.calculus.specs.Searches.{lasts}
use Rattle.calculus.proofs.Lasts.{lasts_most, holds_lasts, holds_short}
use Rattle.gates.specs.declared.gate_list.GateList.{GateList}
use Rattle.gates.specs.Opened.{total, opened}
use Rattle.plan.specs.PlanContents.{contents}
use Rattle.sure_ticks.specs.Runs.{clear}
use Rattle.sure_ticks.specs.Slots.{slot, found}
use Rattle.sure_ticks.proofs.Found.{slots_none, slots_always, slots_found}
use Rattle.slots.specs.OfPlan.{longest}
use Rattle.slots.specs.Listed.{items}
use Rattle.slots.proofs.LineRuns.{found_few}
use Rattle.slots.proofs.find.find.Goals as goal

pub returns-then-hold-eq0 : goal.returns-then-hold-eq0
returns-then-hold-eq0 c =
    let g : GateList = c.args.plan.now.gates in
    let M = longest (contents c.args.plan.now) in
    c.empty-slots.ensures ∙ sym (slots_none g.cycle.0 (opened (vec_items g.lines)) M c.args.class (sym c.hold.ensures.value ∙ c.if-hold-eq0.true))

pub invariant_of-first : goal.invariant_of-first
unfolding total
invariant_of-first c = record { there = c.args.plan.now.gates.lawful.some; begun = omega arith }

pub returns-then-clear_for-cycle : goal.returns-then-clear_for-cycle
returns-then-clear_for-cycle c =
    let g : GateList = c.args.plan.now.gates in
    let M : ℕ → ℕ = longest (contents c.args.plan.now) in
    let some : 0 < M c.args.class = omega (arith, c.hold.ensures.value, c.if-hold-eq0.false) in
    let all = holds_lasts (clear (opened (vec_items g.lines)) c.args.class) g.cycle.0 (sym c.clear_for.ensures ∙ c.if-clear_for-cycle.true ∙ c.cycle.ensures) in
    c.push.ensures ∙ ap (λ v. v ++ (slot 0 c.cycle-then-clear_for-cycle.result ∷ [])) c.empty-slots.ensures ∙ ap (λ v. slot 0 v ∷ []) c.cycle-then-clear_for-cycle.ensures
    ∙ sym (slots_always g.cycle.0 (opened (vec_items g.lines)) M c.args.class some all)

pub gather-requires : goal.gather-requires
gather-requires c =
    let few = found_few _ _ c.args.plan.now.gates.lawful (longest (contents c.args.plan.now)) c.args.class in
    omega (arith, few, ap length c.empty-slots.ensures)

pub gather-requires-2 : goal.gather-requires-2
gather-requires-2 c =
    let g : GateList = c.args.plan.now.gates in
    let M : ℕ → ℕ = longest (contents c.args.plan.now) in
    let few = found_few _ _ g.lawful M c.args.class in
    let n = ap length c.gather.ensures ∙ length-append (items c.empty-slots.result) (found true g.cycle.0 (opened (vec_items g.lines)) M c.args.class g.cycle.0) in
    omega (arith, few, n, ap length c.empty-slots.ensures)

pub returns : goal.returns
returns c =
    let g : GateList = c.args.plan.now.gates in
    let M : ℕ → ℕ = longest (contents c.args.plan.now) in
    let some : 0 < M c.args.class = omega (arith, c.hold.ensures.value, c.if-hold-eq0.false) in
    let most = lasts_most (clear (opened (vec_items g.lines)) c.args.class) g.cycle.0 0 in
    let short : lasts (clear (opened (vec_items g.lines)) c.args.class) 0 g.cycle.0 < g.cycle.0 = omega (arith, c.clear_for.ensures, c.cycle.ensures, c.if-clear_for-cycle.false) in
    c.gather-2.ensures ∙ ap (λ v. v ++ found false g.cycle.0 (opened (vec_items g.lines)) M c.args.class g.cycle.0) c.gather.ensures
    ∙ ap (λ v. (v ++ found true g.cycle.0 (opened (vec_items g.lines)) M c.args.class g.cycle.0) ++ found false g.cycle.0 (opened (vec_items g.lines)) M c.args.class g.cycle.0) c.empty-slots.ensures
    ∙ sym (slots_found g.cycle.0 (opened (vec_items g.lines)) M c.args.class some (holds_short (clear (opened (vec_items g.lines)) c.args.class) g.cycle.0 short))
