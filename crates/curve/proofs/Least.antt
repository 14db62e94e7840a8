-- The least count of any window of a length: its laws, its first window that has enough, and the laws of every curve. Assumes nothing.
use Rattle.std.proofs.Common.{◌≡◌, ℕ, zero, suc, ◌+◌, ◌-◌, ◌*◌, ◌%◌, ◌<◌, ◌≤◌, Bool, List, [], ◌∷◌, length, sym, refl, ap, ◌∙◌, inl, inr, add-zero, mod-lt, arith}
use Rattle.std.specs.List.{AllByRecursion}
use Rattle.std.proofs.lemmas.Bool.{cases_lt}
use Rattle.calculus.specs.Searches.{count}
use Rattle.calculus.proofs.Bounded.{least_le, least_at}
use Rattle.calculus.proofs.Counts.{bit_le, count_more, count_zero, count_le, count_round, count_cycles_split}
use Rattle.calculus.proofs.Cycles.{in_cycle}
use Rattle.sure_ticks.specs.declared.slot.Slot.{Slot}
use Rattle.sure_ticks.specs.Slots.{slots}
use Rattle.sure_ticks.specs.Sure.{covered, sure, sure_tick_count, lengths}
use Rattle.sure_ticks.specs.Laws.{Apart}
use Rattle.sure_ticks.proofs.Covered.{Fit, covered_round}
use Rattle.sure_ticks.proofs.Apart.{none_covered, apart_fit, covered_cycle}
use Rattle.sure_ticks.proofs.Order.{slots_apart}
use Rattle.sure_ticks.proofs.Sums.{sure_lengths}
use Rattle.curve.specs.Curve.{least_covered, least_sure, curve}
use Rattle.curve.specs.Laws.{FirstSpan, CurveLaws}
use Rattle.curve.proofs.Sliding.{end_of, ends_enough}

-- the least count of windows over any slots
module _ (L : ℕ) (pos : 0 < L) (ss : List Slot) where
  -- no window has fewer
  pub least_below : (d t : ℕ) → least_covered L ss d ≤ count (covered L ss) t d
  unfolding least_covered
  least_below d t =
      let a = least_le (λ u. count (covered L ss) u d) L (t % L) (mod-lt t pos) in
      let e = in_cycle L (λ u. count (covered L ss) u d) (λ u. count_round (covered L ss) L (covered_round L ss) u d) t in
      omega arith

  -- and one has as few
  pub least_reached : (d : ℕ) → (t : ℕ) × (t < L) × (least_covered L ss d ≡ count (covered L ss) t d)
  unfolding least_covered
  least_reached d = least_at (λ u. count (covered L ss) u d) L pos

  -- what no window has fewer than, and one has, is the least
  least_is : (d m t : ℕ) → ((u : ℕ) → m ≤ count (covered L ss) u d) → m ≡ count (covered L ss) t d → m ≡ least_covered L ss d
  least_is d m t low at =
      let a = least_below d t in
      let r = least_reached d in
      let b = low r.0 in
      omega (arith, r.2)

  -- of no ticks the least is 0
  pub least_none : least_covered L ss 0 ≡ 0
  least_none = let a = least_below 0 0 in let b = count_zero (covered L ss) 0 in omega arith

  -- one tick more adds nothing or 1
  pub least_rises : (d : ℕ) → (least_covered L ss d ≤ least_covered L ss (d + 1)) × (least_covered L ss (d + 1) ≤ least_covered L ss d + 1)
  least_rises d =
      let r = least_reached (d + 1) in
      let a = least_below d r.0 in
      let b = count_more (covered L ss) r.0 d in
      let q = least_reached d in
      let c = least_below (d + 1) q.0 in
      let e = count_more (covered L ss) q.0 d in
      let f = bit_le (covered L ss) (q.0 + d) in
      (omega (arith, r.2), omega (arith, q.2))

  -- over more ticks the least is no less
  pub least_mono : (d k : ℕ) → least_covered L ss d ≤ least_covered L ss (d + k)
  least_mono d zero = let e = ap (least_covered L ss) (add-zero d) in omega arith
  least_mono d (suc k) =
      let ih = least_mono d k in
      let r = least_rises (d + k) in
      let e : least_covered L ss (d + suc k) ≡ least_covered L ss (d + k + 1) = ap (least_covered L ss) (omega arith) in
      omega (arith, r.0)

  -- the least is no more than the ticks
  pub least_most : (d : ℕ) → least_covered L ss d ≤ d
  least_most d = let a = least_below d 0 in let b = count_le (covered L ss) 0 d in omega arith

  -- so it goes too for what is left of the least above a number
  module _ (block : ℕ) where
    pub above_none : least_covered L ss 0 - block ≡ 0
    above_none = let n = least_none in omega arith

    pub above_rises : (d : ℕ) → least_covered L ss d - block ≤ least_covered L ss (d + 1) - block
    above_rises d = let r = least_rises d in omega (arith, r.0)

    pub above_slow : (d : ℕ) → least_covered L ss (d + 1) - block ≤ least_covered L ss d - block + 1
    above_slow d = let r = least_rises d in omega (arith, r.1)

-- without slots the least is 0
pub least_empty : (L : ℕ) → 0 < L → (ss : List Slot) (d : ℕ) → length ss ≡ 0 → least_covered L ss d ≡ 0
least_empty L pos [] d e = let a = least_below L pos [] d 0 in let b = none_covered L 0 d in omega arith
least_empty L pos (s ∷ ss) d e = absurd (omega arith)

-- whole cycles come out of a count over slots that are apart
count_cycles : (L : ℕ) (ss : List Slot) → Apart L ss → (q t d : ℕ) → count (covered L ss) t (q * L + d) ≡ q * lengths ss + count (covered L ss) t d
count_cycles L ss v q t d = count_cycles_split (covered L ss) L (covered_round L ss) q t d ∙ ap (λ n. q * n + count (covered L ss) t d) (covered_cycle L ss v 0)

-- the least count of windows over slots that are apart
module _ (L : ℕ) (pos : 0 < L) (ss : List Slot) (v : Apart L ss) where
  -- whole cycles come out of it
  pub least_cycles : (q d : ℕ) → least_covered L ss (q * L + d) ≡ q * lengths ss + least_covered L ss d
  least_cycles q d =
      let r = least_reached L pos ss d in
      let e = count_cycles L ss v q r.0 d in
      sym (least_is L pos ss (q * L + d) (q * lengths ss + least_covered L ss d) r.0
      (λ u. let a = count_cycles L ss v q u d in let b = least_below L pos ss d u in omega arith)
      (omega (arith, r.2)))

  -- where one tick more brings the least to y, that is the first span that has y; q cycles more have q times the lengths more
  pub first_span_is : (q low y : ℕ) → least_covered L ss low < y → y ≤ least_covered L ss (low + 1) → FirstSpan L ss (q * lengths ss + y) (q * L + (low + 1))
  first_span_is q low y below above =
      let a = least_cycles q (low + 1) in
      let b = least_cycles q low in (
        omega arith,
        λ x h. elim (cases_lt x (q * L + (low + 1))) [
          | inl l ↦ absurd (
              let k = q * L + low - x in
              let m = least_mono L pos ss x k in
              let e : least_covered L ss (x + k) ≡ least_covered L ss (q * L + low) = ap (least_covered L ss) (omega arith) in
              omega arith)
          | inr g ↦ g
        ],
      )

-- each slot fits, and what holds of each
fit_and : (L : ℕ) (P : Slot → Type 0) (ss : List Slot) → AllByRecursion (Fit L) ss → AllByRecursion P ss → AllByRecursion (λ s. Fit L s × P s) ss
fit_and L P [] a b = tt
fit_and L P (s ∷ ss) a b = ((a.0, b.0), fit_and L P ss a.1 b.1)

-- what each window from a slot's end on has at least, the least is at least
pub least_above : (L : ℕ) → 0 < L → (ss : List Slot) → Apart L ss → ¬ (length ss ≡ 0) → (d m : ℕ) → AllByRecursion (λ s. m ≤ count (covered L ss) (end_of s) d) ss → m ≤ least_covered L ss d
least_above L pos [] v some d m ends = absurd (some refl)
least_above L pos (s ∷ ss) v some d m ends =
    let r = least_reached L pos (s ∷ ss) d in
    let h = ends_enough L s ss d m (fit_and L (λ x. m ≤ count (covered L (s ∷ ss)) (end_of x) d) (s ∷ ss) (apart_fit L (s ∷ ss) v) ends) r.0 in
    omega (arith, r.2)

-- the sure ticks of a class are the ticks in its slots, and so the least number of the ones is that of the others
pub sure_least : (L : ℕ) (o : ℕ → ℕ → Bool) (M : ℕ → ℕ) (c n : ℕ) → least_sure L o M c n ≡ least_covered L (slots L o M c) n
unfolding least_sure least_covered sure
sure_least L o M c n = refl

-- the laws of every curve
pub curve_laws : CurveLaws
unfolding curve
curve_laws L pos o per M c =
    let ss = slots L o M c in
    let v = slots_apart L pos o per M c in
    let same = sure_least L o M c in
    let rises : (n : ℕ) → least_sure L o M c n ≤ least_sure L o M c (n + 1) = λ n. let r = least_rises L pos ss n in omega (arith, same n, same (n + 1), r.0) in
    let slow : (n : ℕ) → least_sure L o M c (n + 1) ≤ least_sure L o M c n + 1 = λ n. let r = least_rises L pos ss n in omega (arith, same n, same (n + 1), r.1) in
    let none : least_sure L o M c 0 ≡ 0 = same 0 ∙ least_none L pos ss in
    record {
      none = none;
      rises = rises;
      slow = slow;
      cycles = λ q n. same (q * L + n) ∙ least_cycles L pos ss v q n ∙ ap (λ m. q * m + least_covered L ss n) (sym (sure_lengths L pos o per M c)) ∙ ap (λ m. q * sure_tick_count L o M c + m) (sym (same n));
      curve_none = omega arith;
      curve_rises = λ n. omega (arith, rises n);
      curve_slow = λ n. omega (arith, slow n);
    }
