use Rattle.std.proofs.Common.{ℕ, ◌-◌, cond, ◌&&◌, vec_items, ap, ◌∙◌}
use Rattle.calculus.specs.Searches.{any}
use Rattle.calculus.proofs.Bounded.{greatest_same}
use Rattle.gates.specs.Opened.{opened}
use Rattle.plan.specs.PlanContents.{contents}
use Rattle.sure_ticks.specs.Sure.{covered, sure, block_of, block}
use Rattle.slots.specs.OfPlan.{longest}
use Rattle.slots.proofs.OfPlans.{plan_apart, plan_lengths, plan_sure}
use Rattle.slots.proofs.class_slots.ClassSlots.of.Goals as goal

pub total_length-requires : goal.total_length-requires
total_length-requires c = plan_lengths c.args.plan.now c.args.class c.as_slice.result.now (c.as_slice.ensures ∙ c.in_ok-slots.ensures.1)

pub invariant_of-frames : goal.invariant_of-frames
invariant_of-frames c = record { apart = plan_apart c.args.plan.now c.args.class c.as_slice-2.result.now (c.as_slice-2.ensures ∙ c.in_ok-slots.ensures.1) }

pub returns : goal.returns
unfolding sure block_of block
returns c =
    let p = c.args.plan.now in
    let L : ℕ = p.gates.cycle.0 in
    let o = opened (vec_items p.gates.lines) in
    let M : ℕ → ℕ = longest (contents p) in
    let k = c.args.class in
    let is = c.in_ok-slots.ensures in
    let e = c.as_slice-2.ensures ∙ is.1 in (
      is.0,
      (
        is.1,
        c.total_length.ensures ∙ plan_sure p k c.as_slice.result.now (c.as_slice.ensures ∙ is.1),
        c.greatest_below.ensures ∙
            greatest_same (λ k. cond (any (λ t. covered L c.as_slice-2.result.now t && o k t) L) (M k - 1) 0) (block_of L o M k) k
            (λ k _. ap (λ ss. cond (any (λ t. covered L ss t && o k t) L) (M k - 1) 0) e),
      ),
    )
