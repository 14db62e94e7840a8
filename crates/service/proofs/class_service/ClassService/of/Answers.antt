use Rattle.std.proofs.Common.{◌≡◌, ℕ, ◌+◌, ◌-◌, ◌*◌, length, take, vec_items, sym, ap, ◌∙◌, subst, arith}
use Rattle.gates.specs.declared.gate_list.GateList.{GateList}
use Rattle.gates.specs.Opened.{opened}
use Rattle.plan.specs.PlanContents.{contents}
use Rattle.sure_ticks.specs.Laws.{Apart}
use Rattle.sure_ticks.specs.Sure.{block}
use Rattle.curve.specs.Curve.{least_covered, curve}
use Rattle.curve.specs.Table.{table_of}
use Rattle.curve.proofs.Least.{sure_least}
use Rattle.slots.specs.OfPlan.{longest, slots_of}
use Rattle.slots.specs.Listed.{items}
use Rattle.slots.proofs.Walks.{cycle_some}
use Rattle.slots.proofs.OfPlans.{plan_apart, plan_sure, plan_block}
use Rattle.service.proofs.class_service.ClassService.of.Goals as goal

-- the cycle is the plan's
same_cycle : (n : ℕ) (g h : GateList) → n ≡ g.cycle.0 → g ≡ h → n ≡ h.cycle.0
same_cycle n g h e f = e ∙ ap (λ (v : GateList). v.cycle.0) f

pub table-marks-requires-clause-apart : goal.table-marks-requires-clause-apart
table-marks-requires-clause-apart c =
    let p = c.args.plan.now in
    let n = same_cycle c.cycle-cycle.result.0 _ _ (ap (λ t. t.0) c.cycle-cycle.ensures) c.gates.ensures in
    subst (λ v. Apart v c.as_slice.result.now) (sym n) (plan_apart p c.args.class c.as_slice.result.now (c.as_slice.ensures ∙ c.in_ok-slots.ensures.1.0))

pub table-marks-requires-clause-whole : goal.table-marks-requires-clause-whole
table-marks-requires-clause-whole c = c.in_ok-slots.ensures.1.1 ∙ sym (plan_sure c.args.plan.now c.args.class c.as_slice.result.now (c.as_slice.ensures ∙ c.in_ok-slots.ensures.1.0))

pub invariant_of-result : goal.invariant_of-result
invariant_of-result c =
    let p = c.args.plan.now in
    let n = same_cycle c.cycle-cycle.result.0 _ _ (ap (λ t. t.0) c.cycle-cycle.ensures) c.gates.ensures in
    let e = c.in_ok-slots.ensures.1.0 in
    let ss = items c.in_ok-slots.field-0.slots in
    let some = cycle_some _ _ p.gates.lawful in
    let b = plan_block p c.args.class in
    record {
      room = c.table-marks.ensures.room;
      ready = record {
        apart = subst (λ v. Apart v ss) (sym n) (plan_apart p c.args.class ss e);
        some = omega arith;
        short = omega (arith, n, p.gates.lawful.most);
        table = subst (λ xs. take (2 * length xs + 1) c.table-marks.result ≡ table_of c.cycle-cycle.result.0 xs) c.as_slice.ensures c.table-marks.ensures.table;
      };
      whole = c.in_ok-slots.ensures.1.1 ∙ sym (plan_sure p c.args.class ss e);
      low = omega (arith, c.in_ok-slots.ensures.1.2);
    }

pub returns : goal.returns
unfolding curve
returns c =
    let p = c.args.plan.now in
    let L : ℕ = p.gates.cycle.0 in
    let o = opened (vec_items p.gates.lines) in
    let M : ℕ → ℕ = longest (contents p) in
    let k = c.args.class in
    let s = c.in_ok-slots.field-0.slots in
    let b = c.in_ok-slots.field-0.block.0 in
    let n = same_cycle c.cycle-cycle.result.0 _ _ (ap (λ t. t.0) c.cycle-cycle.ensures) c.gates.ensures in (
      c.in_ok-slots.ensures.0,
      (
        λ d.
            ap (λ v. least_covered v (items s) d - b) n
            ∙ ap (λ ss. least_covered L ss d - b) c.in_ok-slots.ensures.1.0
            ∙ ap (λ v. least_covered L (slots_of (contents p) k) d - v) c.in_ok-slots.ensures.1.2
            ∙ ap (λ v. v - block L o M k) (sym (sure_least L o M k d)),
        c.in_ok-slots.ensures.1.1,
      ),
    )
