-- The slots of a plan are apart and small. Assumes nothing.
use Rattle.std.proofs.Common.{◌≡◌, ℕ, zero, suc, ◌-◌, ◌<◌, ◌≤◌, ◌&&◌, List, [], ◌∷◌, length, map, vec_items, sym, ap, ◌∙◌, subst, arith}
use Rattle.std.specs.List.{AllByRecursion}
use Rattle.std.proofs.ByRecursion.{All-weaker}
use Rattle.std.proofs.lemmas.Bool.{cond_both}
use Rattle.std.proofs.lemmas.List.{length-map, length-reverse}
use Rattle.std.proofs.Math.ListN.{get_or-eq_default}
use Rattle.units.specs.Limits.{most_cycle, most_frame}
use Rattle.calculus.specs.Searches.{any}
use Rattle.calculus.proofs.Bounded.{greatest_from}
use Rattle.gates.specs.declared.traffic_class.TrafficClass.{TrafficClass}
use Rattle.gates.specs.Opened.{opened}
use Rattle.gates.specs.Sizes.{hold, hold_limit}
use Rattle.gates.proofs.Sizes.{hold_most}
use Rattle.reader.specs.Contents.{ClassEntry, largest_of}
use Rattle.reader.specs.Views.{sizes_of}
use Rattle.plan.specs.declared.plan.Plan.{Plan}
use Rattle.plan.specs.ByClass.{sizes_up}
use Rattle.plan.specs.PlanContents.{contents}
use Rattle.sure_ticks.specs.declared.slot.Slot.{Slot}
use Rattle.sure_ticks.specs.Laws.{Apart}
use Rattle.sure_ticks.specs.Sure.{sure, lengths, block, block_of as classBlock}
use Rattle.sure_ticks.proofs.Covered.{Fit}
use Rattle.sure_ticks.proofs.Apart.{apart_fit}
use Rattle.sure_ticks.proofs.Order.{slots_apart}
use Rattle.sure_ticks.proofs.Sums.{lengths_most, sure_lengths}
use Rattle.slots.specs.OfPlan.{longest, slots_of, sure_ticks_of, block_of}
use Rattle.slots.specs.Turns.{Small}
use Rattle.slots.proofs.Walks.{cycle_some, opened_later}

module _ (p : Plan) (k : ℕ) (ss : List Slot) (e : ss ≡ slots_of (contents p) k) where
  -- they are apart
  pub plan_apart : Apart p.gates.cycle.0 ss
  plan_apart =
      subst (Apart p.gates.cycle.0) (sym e)
      (slots_apart p.gates.cycle.0 (cycle_some _ _ p.gates.lawful) (opened (vec_items p.gates.lines)) (opened_later _ _ p.gates.lawful) (longest (contents p)) k)

  -- their numbers have 32 bits
  pub plan_small : AllByRecursion Small ss
  plan_small = All-weaker (Fit p.gates.cycle.0) Small (λ s f. (omega (arith, f.0, p.gates.lawful.most), omega (arith, f.2, p.gates.lawful.most))) ss (apart_fit p.gates.cycle.0 ss plan_apart)

  -- their lengths fit into a cycle
  pub plan_lengths : lengths ss ≤ most_cycle
  plan_lengths = let m = lengths_most p.gates.cycle.0 ss plan_apart in omega (arith, p.gates.lawful.most)

  -- and are the sure ticks
  pub plan_sure : lengths ss ≡ sure_ticks_of (contents p) k
  plan_sure = ap lengths e ∙ sym (sure_lengths p.gates.cycle.0 (cycle_some _ _ p.gates.lawful) (opened (vec_items p.gates.lines)) (opened_later _ _ p.gates.lawful) (longest (contents p)) k)

-- no class above 7 sends
pub longest_none : (p : Plan) (k : ℕ) → 7 < k → longest (contents p) k ≡ 0
unfolding hold
longest_none p k h =
    let n : length (map sizes_of (sizes_up (vec_items p.classes))) ≤ k = simp (length-map, length-reverse) (omega (arith, p.every)) in
    ap (λ (e : ClassEntry). e.largest) (get_or-eq_default (map sizes_of (sizes_up (vec_items p.classes))) (record { largest = 0; depth = 0 }) n)

-- no class has a larger frame than there is
largest_most : (ts : List TrafficClass) (k : ℕ) → largest_of (map sizes_of ts) k ≤ most_frame
largest_most [] k = omega arith
largest_most (t ∷ ts) zero = t.sized.most
largest_most (t ∷ ts) (suc k) = largest_most ts k

-- so no block is long
pub plan_block : (p : Plan) (k : ℕ) → block_of (contents p) k ≤ hold_limit
unfolding block classBlock
plan_block p k =
    greatest_from (classBlock p.gates.cycle.0 (opened (vec_items p.gates.lines)) (longest (contents p)) k) k hold_limit (λ j _.
    let ts = sizes_up (vec_items p.classes) in
    let h = hold_most (largest_of (map sizes_of ts) j) (largest_most ts j) in
    cond_both (any (λ t. sure p.gates.cycle.0 (opened (vec_items p.gates.lines)) (longest (contents p)) k t && opened (vec_items p.gates.lines) j t) p.gates.cycle.0) (longest (contents p) j - 1) 0 (λ v. v ≤ hold_limit)
    (λ _. omega arith) (λ _. omega arith))
