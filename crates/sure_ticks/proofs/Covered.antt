-- The ticks of a slot, and of a list of slots. Assumes nothing.
use Rattle.std.proofs.Common.{◌≡◌, ℕ, zero, suc, ◌+◌, ◌-◌, ◌%◌, ◌<◌, ◌≤◌, min, Bool, true, ltb, List, [], ◌∷◌, sym, refl, ap, ◌∙◌, inl, inr, mod-eq_of_lt, zero-add, add-one, arith}
use native.Mathlib.Nat.{mod-add-mod, add-mod_right}
use Rattle.std.proofs.lemmas.Bool.{ltb-true, lt-ltb, le-ltb, cases_lt}
use Rattle.calculus.specs.Searches.{count}
use Rattle.calculus.proofs.Counts.{bit_yes, bit_no, count_more, count_zero, count_shift, count_cycle}
use Rattle.sure_ticks.specs.declared.slot.Slot.{Slot}
use Rattle.sure_ticks.specs.Sure.{since, in_slot, covered}

-- a slot that fits its cycle
abbrev pub Fit : ℕ → Slot → Type 0
Fit L s = (s.begin.0 < L) × (0 < s.length.0) × (s.length.0 ≤ L)

-- how long ago a slot began, as one remainder
pub since_is : (L : ℕ) (s : Slot) (t : ℕ) → s.begin.0 ≤ L → since L s t ≡ (t + (L - s.begin.0)) % L
unfolding since
since_is L s t b =
    let e : (t % L) + L - s.begin.0 ≡ (t % L) + (L - s.begin.0) = omega arith in
    ap (λ n. n % L) e ∙ mod-add-mod t L (L - s.begin.0)

-- it depends on the place in the cycle alone
pub since_same : (L : ℕ) (s : Slot) (t u : ℕ) → t % L ≡ u % L → since L s t ≡ since L s u
unfolding since
since_same L s t u e = ap (λ n. (n + L - s.begin.0) % L) e

-- and so does whether a tick is in the slot
pub in_slot_same : (L : ℕ) (s : Slot) (t u : ℕ) → t % L ≡ u % L → in_slot L s t ≡ in_slot L s u
unfolding in_slot
in_slot_same L s t u e = ap (λ n. ltb n s.length.0) (since_same L s t u e)

-- a tick in a slot
pub in_slot_lt : (L : ℕ) (s : Slot) (t : ℕ) → in_slot L s t ≡ true → since L s t < s.length.0
unfolding in_slot
in_slot_lt L s t e = ltb-true _ _ e

-- and the other way round
pub lt_in_slot : (L : ℕ) (s : Slot) (t : ℕ) → since L s t < s.length.0 → in_slot L s t ≡ true
unfolding in_slot
lt_in_slot L s t h = lt-ltb _ _ h

-- whether a tick is in one of the slots depends on its place in the cycle alone
pub covered_same : (L : ℕ) (ss : List Slot) (t u : ℕ) → t % L ≡ u % L → covered L ss t ≡ covered L ss u
unfolding covered
covered_same L [] t u e = refl
covered_same L (s ∷ ss) t u e = rw (in_slot_same L s t u e, covered_same L ss t u e)

-- so it repeats with the cycle
pub covered_round : (L : ℕ) (ss : List Slot) (t : ℕ) → covered L ss (t + L) ≡ covered L ss t
covered_round L ss t = covered_same L ss (t + L) t (add-mod_right t L)

-- the remainder of v is below len
inside : ℕ → ℕ → ℕ → Bool
inside L len v = ltb (v % L) len

-- this repeats
inside_round : (L len v : ℕ) → inside L len (v + L) ≡ inside L len v
unfolding inside
inside_round L len v = ap (λ n. ltb n len) (add-mod_right v L)

-- how many of the first y ticks
inside_low : (L len y : ℕ) → y ≤ L → count (inside L len) 0 y ≡ min y len
unfolding inside
inside_low L len zero h = let e = count_zero (inside L len) 0 in omega arith
inside_low L len (suc y) h =
    let ih = inside_low L len y (omega arith) in
    let a = ap (count (inside L len) 0) (sym (add-one y)) in
    let b = count_more (inside L len) 0 y in
    let e : (0 + y) % L ≡ y = ap (λ n. n % L) (zero-add y) ∙ mod-eq_of_lt (omega arith) in
    elim (cases_lt y len) [
      | inl l ↦ let c = bit_yes (inside L len) (0 + y) (ap (λ n. ltb n len) e ∙ lt-ltb y len l) in omega arith
      | inr g ↦ let c = bit_no (inside L len) (0 + y) (ap (λ n. ltb n len) e ∙ le-ltb y len g) in omega arith
    ]

-- the ticks of a slot from t on, counted from the slot's last beginning
one_is : (L : ℕ) (s : Slot) (t d : ℕ) → s.begin.0 ≤ L → count (in_slot L s) t d ≡ count (inside L s.length.0) (since L s t) d
unfolding in_slot inside
one_is L s t d b =
    count_shift (in_slot L s) (inside L s.length.0) t (since L s t)
    (λ k.
    let e : (t + k) + (L - s.begin.0) ≡ (t + (L - s.begin.0)) + k = omega arith in
    ap (λ n. ltb n s.length.0) (since_is L s (t + k) b ∙ ap (λ n. n % L) e ∙ sym (mod-add-mod (t + (L - s.begin.0)) L k) ∙ ap (λ n. (n + k) % L) (sym (since_is L s t b))))
    d

-- a slot has all its ticks in any cycle
pub one_cycle : (L : ℕ) (s : Slot) (t : ℕ) → Fit L s → count (in_slot L s) t L ≡ s.length.0
one_cycle L s t f =
    let a = one_is L s t L (omega arith) in
    let b = count_cycle (inside L s.length.0) L (inside_round L s.length.0) (since L s t) in
    let c = inside_low L s.length.0 L (omega arith) in
    omega arith
