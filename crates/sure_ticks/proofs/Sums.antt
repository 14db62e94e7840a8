-- The sure ticks of a cycle, from the slots. Assumes nothing.
use Rattle.std.proofs.Common.{◌≡◌, ℕ, ◌+◌, ◌<◌, ◌≤◌, List, [], ◌∷◌, length, get_or, take, refl, ◌∙◌, arith}
use Rattle.std.proofs.lemmas.List.Sums.{sum_by_more, sum_by-take-le}
use Rattle.calculus.proofs.Counts.{count_le, count_shift}
use Rattle.sure_ticks.specs.declared.slot.Slot.{Slot}
use Rattle.sure_ticks.specs.Slots.{slots}
use Rattle.sure_ticks.specs.Sure.{covered, sure, sure_tick_count, lengths}
use Rattle.sure_ticks.specs.Laws.{Apart, SureLengths}
use Rattle.sure_ticks.proofs.Apart.{covered_cycle}
use Rattle.sure_ticks.proofs.Order.{slots_apart}

-- the lengths of slots that are apart fit into a cycle
pub lengths_most : (L : ℕ) (ss : List Slot) → Apart L ss → lengths ss ≤ L
lengths_most L ss a = let e = covered_cycle L ss a 0 in let m = count_le (covered L ss) 0 L in omega arith

-- the sure ticks of a cycle are the lengths of its slots, added
pub sure_lengths : SureLengths
unfolding sure sure_tick_count
sure_lengths L pos o per M c =
    count_shift (sure L o M c) (covered L (slots L o M c)) 0 0 (λ t. refl) L ∙ covered_cycle L (slots L o M c) (slots_apart L pos o per M c) 0

-- the lengths of none of the slots
pub lengths_none : (ss : List Slot) → lengths (take 0 ss) ≡ 0
unfolding lengths
lengths_none ss = refl

-- the lengths of one slot more
pub lengths_more : (ss : List Slot) (i : ℕ) (x : Slot) → i < length ss → lengths (take (i + 1) ss) ≡ lengths (take i ss) + (get_or ss i x).length.0
unfolding lengths
lengths_more ss i x h = sum_by_more (λ (s : Slot). s.length.0) ss i x h

-- the lengths of the first slots are at most those of all
pub lengths_take_le : (ss : List Slot) (i : ℕ) → lengths (take i ss) ≤ lengths ss
unfolding lengths
lengths_take_le ss i = sum_by-take-le (λ (s : Slot). s.length.0) ss i

-- slots with some length are some
pub lengths_some : (ss : List Slot) → 0 < lengths ss → ¬ (length ss ≡ 0)
unfolding lengths
lengths_some [] h e = omega arith
lengths_some (s ∷ ss) h e = omega arith
