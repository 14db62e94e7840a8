-- Windows over slots: how a count changes as its window slides, and that no window has fewer than each that begins where a slot ends.
-- Assumes nothing.
use Rattle.std.proofs.Common.{◌≡◌, ℕ, zero, suc, ◌+◌, ◌-◌, ◌*◌, ◌/◌, ◌%◌, ◌<◌, ◌≤◌, true, false, List, [], ◌∷◌, sym, refl, ap, ◌∙◌, inl, inr, add-zero, mod-eq_of_lt, arith}
use native.Mathlib.Nat.{suc-mod, add-mod_right}
use Rattle.std.specs.List.{AllByRecursion}
use Rattle.std.proofs.lemmas.Bool.{or_left, or_right, cases_Bool, both_ways}
use Rattle.calculus.specs.Searches.{count}
use Rattle.calculus.proofs.Counts.{bit_le, bit_yes, bit_no, count_slide, count_round, count_rounds}
use Rattle.sure_ticks.specs.declared.slot.Slot.{Slot}
use Rattle.sure_ticks.specs.Sure.{since, in_slot, covered}
use Rattle.sure_ticks.proofs.Covered.{Fit, since_is, in_slot_lt, lt_in_slot, covered_round}

-- the tick after the last one of a slot
abbrev pub end_of : Slot → ℕ
end_of s = s.begin.0 + s.length.0

-- less than a cycle after a slot began, it began as many ticks ago
pub since_past : (L : ℕ) (s : Slot) (t : ℕ) → s.begin.0 ≤ L → s.begin.0 ≤ t → t < s.begin.0 + L → since L s t ≡ t - s.begin.0
since_past L s t b from to =
    let e : t + (L - s.begin.0) ≡ (t - s.begin.0) + L = omega arith in
    since_is L s t b ∙ ap (λ n. n % L) e ∙ add-mod_right (t - s.begin.0) L ∙ mod-eq_of_lt (omega arith)

-- one tick on, a slot began one tick longer ago, until it begins again
since_more : (L : ℕ) (s : Slot) (t : ℕ) → s.begin.0 ≤ L → since L s t + 1 < L → since L s (t + 1) ≡ since L s t + 1
since_more L s t b h =
    let d = since_is L s t b in
    let x = t + (L - s.begin.0) in
    let e : (t + 1) + (L - s.begin.0) ≡ suc x = omega arith in
    let f : suc (x % L) < L = omega arith in
    let g : suc x % L ≡ suc (x % L) = suc-mod x L ∙ mod-eq_of_lt f in
    let k : since L s (t + 1) ≡ suc x % L = since_is L s (t + 1) b ∙ ap (λ n. n % L) e in
    omega arith

-- windows of d ticks over the slots ss
module _ (L : ℕ) (ss : List Slot) (d : ℕ) where
  -- a window that slides off a tick in a slot has no more
  slide_in : (t : ℕ) → covered L ss t ≡ true → count (covered L ss) (t + 1) d ≤ count (covered L ss) t d
  slide_in t e =
      let a = count_slide (covered L ss) t d in
      let b = bit_yes (covered L ss) t e in
      let c = bit_le (covered L ss) (t + d) in
      omega arith

  -- a window that slides off a tick in no slot has no fewer
  slide_out : (t : ℕ) → covered L ss t ≡ false → count (covered L ss) t d ≤ count (covered L ss) (t + 1) d
  slide_out t e = let a = count_slide (covered L ss) t d in let b = bit_no (covered L ss) t e in omega arith

  -- one of the slots
  module _ (s : Slot) (f : Fit L s) (among : (v : ℕ) → in_slot L s v ≡ true → covered L ss v ≡ true) where
    -- from a tick in it a window that slides to its end has no more
    slide_on : (k t : ℕ) → since L s t + 1 + k ≡ s.length.0 → count (covered L ss) (t + 1 + k) d ≤ count (covered L ss) (t + 1) d
    slide_on zero t e = let r : count (covered L ss) (t + 1 + 0) d ≡ count (covered L ss) (t + 1) d = ap (λ n. count (covered L ss) n d) (add-zero (t + 1)) in omega arith
    slide_on (suc k) t e =
        let m : since L s (t + 1) ≡ since L s t + 1 = since_more L s t (omega arith) (omega arith) in
        let h : covered L ss (t + 1) ≡ true = among (t + 1) (lt_in_slot L s (t + 1) (omega arith)) in
        let a = slide_in (t + 1) h in
        let ih = slide_on k (t + 1) (omega arith) in
        let r : count (covered L ss) (t + 1 + suc k) d ≡ count (covered L ss) (t + 1 + 1 + k) d = ap (λ n. count (covered L ss) n d) (omega arith) in
        omega arith

    -- and that is the count from the slot's end on
    slide_end : (k t : ℕ) → since L s t + 1 + k ≡ s.length.0 → count (covered L ss) (t + 1 + k) d ≡ count (covered L ss) (end_of s) d
    slide_end k t e =
        let x = t + (L - s.begin.0) in
        let g : since L s t ≡ x % L = since_is L s t (omega arith) in
        let h : (t + 1 + k) + L ≡ end_of s + x / L * L = omega arith in
        sym (count_round (covered L ss) L (covered_round L ss) (t + 1 + k) d) ∙ ap (λ n. count (covered L ss) n d) h ∙ count_rounds (covered L ss) L (covered_round L ss) (x / L) (end_of s) d

    -- so a window from the slot's end on has no more than one from after a tick of the slot on
    end_least : (t : ℕ) → in_slot L s t ≡ true → count (covered L ss) (end_of s) d ≤ count (covered L ss) (t + 1) d
    end_least t h =
        let l = in_slot_lt L s t h in
        let k = s.length.0 - (since L s t + 1) in
        let e : since L s t + 1 + k ≡ s.length.0 = omega arith in
        let a = slide_on k t e in
        let b = slide_end k t e in
        omega arith

-- the slot that a tick is in, and what holds of each slot
slot_of : (L : ℕ) (P : Slot → Type 0) (ss : List Slot) (t : ℕ) → covered L ss t ≡ true → AllByRecursion P ss → (s : Slot) × (in_slot L s t ≡ true) × P s × ((v : ℕ) → in_slot L s v ≡ true → covered L ss v ≡ true)
unfolding covered
slot_of L P [] t e a = absurd (both_ways false refl e)
slot_of L P (s ∷ ss) t e a =
    elim (cases_Bool (in_slot L s t)) [
      | inl h ↦ (s, h, a.0, λ v g. or_left (in_slot L s v) (covered L ss v) g)
      | inr h ↦
          let r = slot_of L P ss t (rw h at e) a.1 in
          (r.0, r.1, r.2, λ v g. or_right (in_slot L s v) (covered L ss v) (r.3 v g))
    ]

-- at least m of the d ticks from each slot's end on are in slots
module _ (L : ℕ) (ss : List Slot) (d m : ℕ) (ends : AllByRecursion (λ s. Fit L s × (m ≤ count (covered L ss) (end_of s) d)) ss) where
  -- so are they of the d ticks after a tick in a slot
  window_in : (t : ℕ) → covered L ss t ≡ true → m ≤ count (covered L ss) (t + 1) d
  window_in t e =
      let r = slot_of L (λ s. Fit L s × (m ≤ count (covered L ss) (end_of s) d)) ss t e ends in
      let h = end_least L ss d r.0 r.2.0 r.3 t r.1 in
      omega (arith, r.2.1)

  -- and of those from any later tick on
  window_later : (t : ℕ) → covered L ss t ≡ true → (n : ℕ) → m ≤ count (covered L ss) (t + n + 1) d
  window_later t e zero =
      let a = window_in t e in
      let r : count (covered L ss) (t + 0 + 1) d ≡ count (covered L ss) (t + 1) d = ap (λ n. count (covered L ss) n d) (omega arith) in
      omega arith
  window_later t e (suc n) =
      let ih = window_later t e n in
      let r : count (covered L ss) (t + suc n + 1) d ≡ count (covered L ss) ((t + n + 1) + 1) d = ap (λ n. count (covered L ss) n d) (omega arith) in
      elim (cases_Bool (covered L ss (t + n + 1))) [
        | inl h ↦ let a = window_in (t + n + 1) h in omega arith
        | inr h ↦ let a = slide_out L ss d (t + n + 1) h in omega arith
      ]

-- a slot has its first tick
slot_begins : (L : ℕ) (s : Slot) → Fit L s → in_slot L s s.begin.0 ≡ true
slot_begins L s f = let a = since_past L s s.begin.0 (omega arith) (omega arith) (omega arith) in lt_in_slot L s s.begin.0 (omega arith)

-- what each window from a slot's end on has at least, every window has at least
pub ends_enough : (L : ℕ) (s : Slot) (ss : List Slot) (d m : ℕ) → AllByRecursion (λ x. Fit L x × (m ≤ count (covered L (s ∷ ss)) (end_of x) d)) (s ∷ ss) → (t : ℕ) → m ≤ count (covered L (s ∷ ss)) t d
unfolding covered
ends_enough L s ss d m ends t =
    let f : Fit L s = ends.0.0 in
    let h : covered L (s ∷ ss) s.begin.0 ≡ true = or_left (in_slot L s s.begin.0) (covered L ss s.begin.0) (slot_begins L s f) in
    let n = t + L - s.begin.0 - 1 in
    let w = window_later L (s ∷ ss) d m ends s.begin.0 h n in
    let e : s.begin.0 + n + 1 ≡ t + L = omega arith in
    let g : count (covered L (s ∷ ss)) (s.begin.0 + n + 1) d ≡ count (covered L (s ∷ ss)) t d = ap (λ k. count (covered L (s ∷ ss)) k d) e ∙ count_round (covered L (s ∷ ss)) L (covered_round L (s ∷ ss)) t d in
    omega arith
