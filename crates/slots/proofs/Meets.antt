-- The ticks that slots and lines have in common. Assumes nothing.
use Rattle.std.proofs.Common.{◌≡◌, ℕ, zero, suc, ◌+◌, ◌-◌, ◌%◌, ◌<◌, ◌≤◌, max, Bool, true, false, ◌&&◌, ◌⊎◌, List, [], ◌∷◌, length, get_or, Decides, sym, refl, ap, subst, ◌∙◌, inl, inr, mod-eq_of_lt, add-one, arith}
use native.Mathlib.Nat.{add-mod_right}
use Rattle.std.proofs.lemmas.Bool.{and_from, and_left, and_right, or_cases, or_left, or_right, both_ways, cases_Bool, cases_lt}
use Rattle.std.proofs.lemmas.List.{get_or_default}
use Rattle.std.proofs.ByRecursion.{All-get_or}
use Rattle.std.specs.Bool.{MatchBool}
use Rattle.std.specs.List.{HoldsAt, AllWithin}
use Rattle.calculus.specs.Searches.{any}
use Rattle.calculus.proofs.Bounded.{any_at, any_from}
use Rattle.gates.specs.declared.gate_line.GateLine.{GateLine}
use Rattle.gates.specs.Opened.{total, shows, opened, start, line, Lawful}
use Rattle.gates.proofs.Lines.{start_next, start_all, start_most, refuted}
use Rattle.sure_ticks.specs.declared.slot.Slot.{Slot}
use Rattle.sure_ticks.specs.Slots.{slot}
use Rattle.sure_ticks.specs.Sure.{since, in_slot, covered}
use Rattle.sure_ticks.specs.Laws.{Apart}
use Rattle.sure_ticks.proofs.Covered.{Fit, since_is, in_slot_lt, lt_in_slot}
use Rattle.sure_ticks.proofs.Apart.{apart_fit}
use Rattle.slots.proofs.Walks.{opened_at}

-- one slot and a tick of the cycle
module _ (L : ℕ) (s : Slot) (f : Fit L s) (t : ℕ) (lt : t < L) where
  -- how long ago the slot began: in this cycle, or in the one before
  since_two : ((s.begin.0 ≤ t) × (since L s t ≡ t - s.begin.0)) ⊎ ((t < s.begin.0) × (since L s t ≡ t + L - s.begin.0))
  since_two =
      let e = since_is L s t (omega (arith, f.0)) in
      elim (cases_lt t s.begin.0) [
        | inl before ↦
            let m : (t + (L - s.begin.0)) % L ≡ t + (L - s.begin.0) = mod-eq_of_lt (omega (arith, f.0)) in
            inr (before, omega (arith, f.0))
        | inr begun ↦
            let x : t + (L - s.begin.0) ≡ (t - s.begin.0) + L = omega (arith, f.0) in
            let m : (t + (L - s.begin.0)) % L ≡ t - s.begin.0 = ap (λ n. n % L) x ∙ add-mod_right (t - s.begin.0) L ∙ mod-eq_of_lt (omega arith) in
            inl (begun, omega arith)
      ]

  -- it is in the slot between the slot's ends, or past the cycle's end
  in_ends : in_slot L s t ≡ true → ((s.begin.0 ≤ t) × (t < s.begin.0 + s.length.0)) ⊎ (t + L < s.begin.0 + s.length.0)
  in_ends h =
      let l = in_slot_lt L s t h in
      elim since_two [
        | inl now ↦ inl (now.0, omega (arith, now.0, now.1))
        | inr then ↦ inr (omega (arith, then.0, then.1))
      ]

  -- and the other way round: between the slot's ends
  ends_now : s.begin.0 ≤ t → t < s.begin.0 + s.length.0 → in_slot L s t ≡ true
  ends_now lo hi =
      elim since_two [
        | inl now ↦ lt_in_slot L s t (omega (arith, now.1))
        | inr then ↦ absurd (omega (arith, then.0))
      ]

  -- past the cycle's end
  ends_then : t + L < s.begin.0 + s.length.0 → in_slot L s t ≡ true
  ends_then hi =
      elim since_two [
        | inl now ↦ absurd (omega (arith, now.0, f.2))
        | inr then ↦ lt_in_slot L s t (omega (arith, then.0, then.1))
      ]

-- a tick in one of the slots is in the slot of some number
covered_index : (L : ℕ) (ss : List Slot) (t : ℕ) → covered L ss t ≡ true → (j : ℕ) × (j < length ss) × (in_slot L (get_or ss j (slot 0 0)) t ≡ true)
unfolding covered
covered_index L [] t h = absurd (both_ways false refl h)
covered_index L (s ∷ ss) t h =
    elim (or_cases (in_slot L s t) (covered L ss t) h) [
      | inl e ↦ (0, omega arith, e)
      | inr e ↦ let r = covered_index L ss t e in (suc r.0, omega (arith, r.1), r.2)
    ]

-- and the other way round
covered_at : (L : ℕ) (ss : List Slot) (t j : ℕ) → j < length ss → in_slot L (get_or ss j (slot 0 0)) t ≡ true → covered L ss t ≡ true
unfolding covered
covered_at L [] t j lt h = absurd (omega arith)
covered_at L (s ∷ ss) t zero lt h = or_left (in_slot L s t) (covered L ss t) h
covered_at L (s ∷ ss) t (suc j) lt h = or_right (in_slot L s t) (covered L ss t) (covered_at L ss t j (omega arith) h)

-- slots that are apart, and the ticks from a to before b of the cycle
module _ (L : ℕ) (ss : List Slot) (apart : Apart L ss) (a b : ℕ) (inside : b ≤ L) where
  -- one of the ticks is in one of the slots
  abbrev Met : Type 0
  Met = (t : ℕ) × (a ≤ t) × (t < b) × (covered L ss t ≡ true)

  -- a slot fits
  fits : (i : ℕ) → i < length ss → Fit L (get_or ss i (slot 0 0))
  fits i lt = All-get_or (Fit L) ss i (slot 0 0) lt (apart_fit L ss apart)

  -- so its end is not far
  pub end_most : (s : Slot) (i : ℕ) → (i < length ss) × (s ≡ get_or ss i s) → s.begin.0 + s.length.0 ≤ L + L
  end_most s i w =
      let f : Fit L s = subst (Fit L) (get_or_default ss i (slot 0 0) s w.0 ∙ sym w.1) (fits i w.0) in
      omega (arith, f.0, f.2)

  -- a slot that begins before b and ends after a, in this cycle or the next
  abbrev pub Reaches : Slot → Type 0
  Reaches s = ((s.begin.0 < b) × (a < s.begin.0 + s.length.0)) ⊎ (a + L < s.begin.0 + s.length.0)

  -- one that does neither
  abbrev pub Misses : Slot → Type 0
  Misses s = (((s.begin.0 < b) × (a < s.begin.0 + s.length.0)) → ⊥) × (s.begin.0 + s.length.0 ≤ a + L)

  -- the first has one of the ticks
  meets_here : (i : ℕ) → i < length ss → a < b → Reaches (get_or ss i (slot 0 0)) → Met
  meets_here i lt some (inl h) =
      let s : Slot = get_or ss i (slot 0 0) in
      let f : Fit L s = fits i lt in
      let t : ℕ = max a s.begin.0 in
      (t, omega arith, omega (arith, h.0), covered_at L ss t i lt (ends_now L s f t (omega (arith, h.0)) (omega arith) (omega (arith, h.1, f.1))))
  meets_here i lt some (inr h) =
      (a, omega arith, some, covered_at L ss a i lt (ends_then L (get_or ss i (slot 0 0)) (fits i lt) a (omega arith) h))

  -- the other has none
  meets_not : (i : ℕ) → i < length ss → Misses (get_or ss i (slot 0 0)) → (t : ℕ) → a ≤ t → t < b → in_slot L (get_or ss i (slot 0 0)) t ≡ true → ⊥
  meets_not i lt m t lo hi h =
      elim (in_ends L (get_or ss i (slot 0 0)) (fits i lt) t (omega arith) h) [
        | inl e ↦ m.0 (omega (arith, e.0), omega (arith, e.1))
        | inr e ↦ absurd (omega (arith, m.1))
      ]

  -- so whether some slot reaches tells whether one has one of the ticks
  pub meets_told : a < b → (r : Bool) → MatchBool r ((i : ℕ) × (i < length ss) × HoldsAt Reaches ss i) (AllWithin Misses ss 0 (length ss)) → Decides r Met
  meets_told some true w = (λ _. meets_here w.0 w.1 some (w.2 (slot 0 0)), λ _. refl)
  meets_told some false w =
      refuted Met (λ m.
      let r = covered_index L ss m.0 m.3 in
      meets_not r.0 r.1 (w r.0 (slot 0 0) (omega arith) r.1) m.0 m.1 m.2 r.2)

-- the test of a tick: in a slot, and the class k is open
abbrev pub both : ℕ → List GateLine → List Slot → ℕ → ℕ → Bool
both L ls ss k t = covered L ss t && opened ls k t

-- a walk over the lines stands before the line i, which begins at the tick a, and no tick before passes
pub record Passed (L : ℕ) (ls : List GateLine) (ss : List Slot) (k i a : ℕ) : Type 0 where
  pub begun : a ≡ start ls i
  pub none : (t : ℕ) → t < a → both L ls ss k t ≡ false

-- it begins with no tick
pub passed_none : (L : ℕ) (ls : List GateLine) (ss : List Slot) (k : ℕ) → Passed L ls ss k 0 0
unfolding total
passed_none L ls ss k = record { begun = refl; none = λ t lt. absurd (omega arith) }

module _ (L : ℕ) (ls : List GateLine) (law : Lawful ls L) (ss : List Slot) (k i a : ℕ) (p : Passed L ls ss k i a) where
  -- at the end no tick of the cycle passes
  pub passed_all : length ls ≤ i → any (both L ls ss k) L ≡ false
  passed_all le =
      let e : a ≡ L = p.begun ∙ start_all ls i le ∙ law.together in
      elim (cases_Bool (any (both L ls ss k) L)) [
        | inl h ↦ let w = any_at (both L ls ss k) L h in absurd (both_ways (both L ls ss k w.0) (p.none w.0 (omega (arith, w.1))) w.2)
        | inr h ↦ h
      ]

  -- one line
  module _ (lt : i < length ls) (l : GateLine) (q : l ≡ line ls i) where
    -- where it ends
    line_end : start ls (suc i) ≡ a + l.length.0
    line_end = let n = start_next ls i lt in let e = ap (λ (v : GateLine). v.length.0) q in omega (arith, p.begun)

    -- it ends in the cycle
    pub line_in : (0 < l.length.0) × (a + l.length.0 ≤ L)
    line_in = let m = start_most ls (suc i) in let e = ap (λ (v : GateLine). v.length.0) q in (omega (arith, law.each i lt), omega (arith, law.together, line_end))

    -- at each of its ticks the class is as the line says
    line_opened : (t : ℕ) → a ≤ t → t < a + l.length.0 → opened ls k t ≡ shows l k
    line_opened t lo hi = opened_at ls L law k i t lt (omega (arith, p.begun)) (omega (arith, line_end)) ∙ sym (ap (λ v. shows v k) q)

    -- the class is open in it, and one of its ticks is in a slot
    pub passed_yes : shows l k ≡ true → (t : ℕ) × (a ≤ t) × (t < a + l.length.0) × (covered L ss t ≡ true) → any (both L ls ss k) L ≡ true
    passed_yes h m = any_from (both L ls ss k) L m.0 (omega (arith, m.2, line_in.1)) (and_from (covered L ss m.0) (opened ls k m.0) m.3 (line_opened m.0 m.1 m.2 ∙ h))

    -- the class is shut in it, or none is
    pub passed_more : (shows l k ≡ false) ⊎ ((t : ℕ) × (a ≤ t) × (t < a + l.length.0) × (covered L ss t ≡ true) → ⊥) → Passed L ls ss k (i + 1) (a + l.length.0)
    passed_more h =
        record {
          begun = sym line_end ∙ ap (start ls) (sym (add-one i));
          none = λ t le. elim (cases_lt t a) [
            | inl early ↦ p.none t early
            | inr here ↦ elim h [
              | inl shut ↦ and_right (covered L ss t) (opened ls k t) (line_opened t here le ∙ shut)
              | inr unmet ↦ elim (cases_Bool (covered L ss t)) [
                | inl c ↦ absurd (unmet (t, here, le, c))
                | inr c ↦ and_left (covered L ss t) (opened ls k t) c
              ]
            ]
          ];
        }

-- no tick is in one of no slots
pub never_covered : (L : ℕ) (o : ℕ → Bool) (ss : List Slot) → length ss ≡ 0 → (n : ℕ) → any (λ t. covered L ss t && o t) n ≡ false
unfolding any covered
never_covered L o [] e zero = refl
never_covered L o [] e (suc n) = never_covered L o [] e n
never_covered L o (_ ∷ _) e n = absurd (omega arith)
