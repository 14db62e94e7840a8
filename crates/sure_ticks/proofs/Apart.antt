-- Slots that are apart: each tick is in one of them at the most, and a cycle has their lengths. Assumes nothing.
use Rattle.std.proofs.Common.{◌≡◌, ℕ, zero, suc, ◌+◌, ◌-◌, ◌%◌, ◌<◌, ◌≤◌, Bool, true, false, ltb, leb, List, [], ◌∷◌, sum_by, sym, refl, ap, ◌∙◌, inl, inr, mod-lt, mod-eq_of_lt, add-one, arith}
use native.Mathlib.Nat.{add-mod-mod, add-mod_right}
use Rattle.std.specs.List.{AllByRecursion}
use Rattle.std.proofs.lemmas.List.Sums.{sum_by-cons}
use Rattle.std.proofs.lemmas.Bool.{ltb-true, lt-ltb, or_left, or_right, or_from, and_parts, leb-true, le-leb, and_from, cases_Bool, cases_lt}
use Rattle.calculus.specs.Searches.{bit, count}
use Rattle.calculus.proofs.Counts.{bit_yes, bit_no, count_more, count_zero}
use Rattle.sure_ticks.specs.declared.slot.Slot.{Slot}
use Rattle.sure_ticks.specs.Sure.{in_slot, covered, lengths}
use Rattle.sure_ticks.specs.Laws.{next, chained, Apart}
use Rattle.sure_ticks.proofs.Covered.{Fit, since_is, in_slot_same, in_slot_lt, covered_same, one_cycle}

-- a tick of the cycle that begins at b is in a slot between b and b + L only where it plainly is
pub in_slot_in : (L b : ℕ) (s : Slot) (t : ℕ) → b ≤ s.begin.0 → s.begin.0 < L → s.begin.0 + s.length.0 ≤ b + L → b ≤ t → t < b + L → in_slot L s t ≡ true → (s.begin.0 ≤ t) × (t < s.begin.0 + s.length.0)
in_slot_in L b s t low up top from to h =
    let l = in_slot_lt L s t h in
    let e = since_is L s t (omega arith) in
    elim (cases_lt t s.begin.0) [
      | inl g ↦
          let f : (t + (L - s.begin.0)) % L ≡ t + (L - s.begin.0) = mod-eq_of_lt (omega arith) in
          omega arith
      | inr g ↦
          let x : t + (L - s.begin.0) ≡ (t - s.begin.0) + L = omega arith in
          let f : (t + (L - s.begin.0)) % L ≡ t - s.begin.0 = ap (λ n. n % L) x ∙ add-mod_right (t - s.begin.0) L ∙ mod-eq_of_lt (omega arith) in
          omega arith
    ]

-- what the test of a chain says
abbrev pub Chain : ℕ → ℕ → List Slot → Type 0
Chain L limit [] = Unit {0}
Chain L limit (s ∷ ss) = (s.begin.0 < L) × (0 < s.length.0) × (s.begin.0 + s.length.0 ≤ next limit ss) × Chain L limit ss

-- the test of a chain, taken apart
pub chain_of : (L limit : ℕ) (ss : List Slot) → chained L limit ss ≡ true → Chain L limit ss
unfolding chained
chain_of L limit [] e = tt
chain_of L limit (s ∷ ss) e =
    let a = and_parts _ (chained L limit ss) e in
    let b = and_parts _ (leb (s.begin.0 + s.length.0) (next limit ss)) a.0 in
    let c = and_parts (ltb s.begin.0 L) (ltb 0 s.length.0) b.0 in
    (ltb-true _ _ c.0, ltb-true _ _ c.1, leb-true _ _ b.1, chain_of L limit ss a.1)

-- and put together
pub of_chain : (L limit : ℕ) (ss : List Slot) → Chain L limit ss → chained L limit ss ≡ true
unfolding chained
of_chain L limit [] c = refl
of_chain L limit (s ∷ ss) c =
    and_from _ _ (and_from _ _ (and_from _ _ (lt-ltb _ _ c.0) (lt-ltb _ _ c.1)) (le-leb _ _ c.2)) (of_chain L limit ss c.3)

-- the first of the slots begins by the limit
pub next_le : (L limit : ℕ) (ss : List Slot) → Chain L limit ss → next limit ss ≤ limit
unfolding next
next_le L limit [] c = omega arith
next_le L limit (s ∷ ss) c = let h = next_le L limit ss c.3 in omega arith

-- before the first of the slots no tick is in one
before_first : (L b : ℕ) (ss : List Slot) (t : ℕ) → Chain L (b + L) ss → b ≤ next (b + L) ss → b ≤ t → t < next (b + L) ss → t < b + L → covered L ss t ≡ false
unfolding covered next
before_first L b [] t c low from to up = refl
before_first L b (s ∷ ss) t c low from to up =
    let n = next_le L (b + L) ss c.3 in
    let top : s.begin.0 + s.length.0 ≤ b + L = omega arith in
    let rest = before_first L b ss t c.3 (omega arith) from (omega arith) up in
    elim (cases_Bool (in_slot L s t)) [
      | inl h ↦ absurd (let i = in_slot_in L b s t low c.0 top from up h in omega arith)
      | inr h ↦ or_from (in_slot L s t) (covered L ss t) h rest
    ]

-- a slot and the later ones share no tick of that cycle
apart_here : (L b : ℕ) (s : Slot) (ss : List Slot) (t : ℕ) → Chain L (b + L) (s ∷ ss) → b ≤ s.begin.0 → b ≤ t → t < b + L → in_slot L s t ≡ true → covered L ss t ≡ false
apart_here L b s ss t c low from up h =
    let n = next_le L (b + L) ss c.3 in
    let i = in_slot_in L b s t low c.0 (omega arith) from up h in
    before_first L b ss t c.3 (omega arith) from (omega arith) up

-- nor any tick at all
apart : (L b : ℕ) (s : Slot) (ss : List Slot) (t : ℕ) → Chain L (b + L) (s ∷ ss) → b ≤ s.begin.0 → in_slot L s t ≡ true → covered L ss t ≡ false
apart L b s ss t c low h =
    let p : 0 < L = omega arith in
    let a = (t + (L - b)) % L in
    let l : a < L = mod-lt (t + (L - b)) p in
    let e : (b + a) % L ≡ t % L =
    add-mod-mod b (t + (L - b)) L ∙ ap (λ n. n % L) (let g : b + (t + (L - b)) ≡ t + L = omega arith in g) ∙ add-mod_right t L in
    covered_same L ss t (b + a) (sym e) ∙ apart_here L b s ss (b + a) c low (omega arith) (omega arith) (in_slot_same L s (b + a) t e ∙ h)

-- the ticks of each slot from t on, added
unfoldable pub added : ℕ → List Slot → ℕ → ℕ → ℕ
added L ss t d = sum_by (λ s. count (in_slot L s) t d) ss

-- one slot more
added_cons : (L : ℕ) (s : Slot) (ss : List Slot) (t d : ℕ) → added L (s ∷ ss) t d ≡ count (in_slot L s) t d + added L ss t d
unfolding added
added_cons L s ss t d = sum_by-cons (λ s. count (in_slot L s) t d) s ss

-- no slot has no tick
pub none_covered : (L t d : ℕ) → count (covered L []) t d ≡ 0
unfolding covered
none_covered L t zero = count_zero (covered L []) t
none_covered L t (suc d) =
    let ih = none_covered L t d in
    let a = ap (count (covered L []) t) (sym (add-one d)) in
    let b = count_more (covered L []) t d in
    let c = bit_no (covered L []) (t + d) refl in
    omega arith

-- two tests that never pass together, counted
both : (p q r : ℕ → Bool) → ((t : ℕ) → bit r t ≡ bit p t + bit q t) → (t d : ℕ) → count r t d ≡ count p t d + count q t d
both p q r same t zero = let a = count_zero p t in let b = count_zero q t in let c = count_zero r t in omega arith
both p q r same t (suc d) =
    let ih = both p q r same t d in
    let a = count_more p t d in
    let b = count_more q t d in
    let c = count_more r t d in
    let e = same (t + d) in
    rw (← add-one) (omega arith)

-- a slot and the later ones, tick by tick
bits_add : (L b : ℕ) (s : Slot) (ss : List Slot) → Chain L (b + L) (s ∷ ss) → b ≤ s.begin.0 → (t : ℕ) → bit (covered L (s ∷ ss)) t ≡ bit (in_slot L s) t + bit (covered L ss) t
unfolding covered
bits_add L b s ss c low t =
    elim (cases_Bool (in_slot L s t)) [
      | inl h ↦
          let x = bit_yes (covered L (s ∷ ss)) t (or_left (in_slot L s t) (covered L ss t) h) in
          let y = bit_yes (in_slot L s) t h in
          let z = bit_no (covered L ss) t (apart L b s ss t c low h) in
          omega arith
      | inr h ↦
          let y = bit_no (in_slot L s) t h in
          elim (cases_Bool (covered L ss t)) [
            | inl k ↦
                let x = bit_yes (covered L (s ∷ ss)) t (or_right (in_slot L s t) (covered L ss t) k) in
                let z = bit_yes (covered L ss) t k in
                omega arith
            | inr k ↦
                let x = bit_no (covered L (s ∷ ss)) t (or_from (in_slot L s t) (covered L ss t) h k) in
                let z = bit_no (covered L ss) t k in
                omega arith
          ]
    ]

-- the ticks in slots that follow one another are those of each slot, added
chain_sum : (L b : ℕ) (ss : List Slot) → Chain L (b + L) ss → b ≤ next (b + L) ss → (t d : ℕ) → count (covered L ss) t d ≡ added L ss t d
unfolding next added
chain_sum L b [] c low t d = none_covered L t d
chain_sum L b (s ∷ ss) c low t d =
    let n = next_le L (b + L) ss c.3 in
    both (in_slot L s) (covered L ss) (covered L (s ∷ ss)) (bits_add L b s ss c low) t d
    ∙ ap (λ n. count (in_slot L s) t d + n) (chain_sum L b ss c.3 (omega arith) t d)
    ∙ sym (added_cons L s ss t d)

-- so are those of slots that are apart
pub covered_added : (L : ℕ) (ss : List Slot) → Apart L ss → (t d : ℕ) → count (covered L ss) t d ≡ added L ss t d
unfolding next
covered_added L [] v t d = chain_sum L 0 [] tt (omega arith) t d
covered_added L (s ∷ ss) v t d = chain_sum L s.begin.0 (s ∷ ss) (chain_of L (s.begin.0 + L) (s ∷ ss) v) (omega arith) t d

-- each slot of a chain fits
chain_fit : (L b : ℕ) (ss : List Slot) → Chain L (b + L) ss → b ≤ next (b + L) ss → AllByRecursion (Fit L) ss
unfolding next
chain_fit L b [] c low = tt
chain_fit L b (s ∷ ss) c low =
    let n = next_le L (b + L) ss c.3 in
    ((c.0, c.1, omega arith), chain_fit L b ss c.3 (omega arith))

-- each slot fits
pub apart_fit : (L : ℕ) (ss : List Slot) → Apart L ss → AllByRecursion (Fit L) ss
unfolding next
apart_fit L [] v = tt
apart_fit L (s ∷ ss) v = chain_fit L s.begin.0 (s ∷ ss) (chain_of L (s.begin.0 + L) (s ∷ ss) v) (omega arith)

-- over a cycle these are the lengths
added_cycle : (L : ℕ) (ss : List Slot) (t : ℕ) → AllByRecursion (Fit L) ss → added L ss t L ≡ lengths ss
unfolding added lengths
added_cycle L [] t a = refl
added_cycle L (s ∷ ss) t a = let b = sum_by-cons (λ (x : Slot). x.length.0) s ss in let c = added_cons L s ss t L in let e = one_cycle L s t a.0 in let ih = added_cycle L ss t a.1 in omega arith

-- a whole cycle has the slots' lengths, wherever it starts
pub covered_cycle : (L : ℕ) (ss : List Slot) → Apart L ss → (t : ℕ) → count (covered L ss) t L ≡ lengths ss
covered_cycle L ss v t = covered_added L ss v t L ∙ added_cycle L ss t (apart_fit L ss v)
