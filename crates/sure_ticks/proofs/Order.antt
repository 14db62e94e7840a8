-- The slots of a class rise and are apart. Assumes nothing.
use Rattle.std.proofs.Common.{◌≡◌, ℕ, zero, suc, ◌+◌, ◌-◌, ◌%◌, ◌<◌, ◌≤◌, Bool, true, false, not, ◌⊎◌, List, [], ◌∷◌, ◌++◌, sym, refl, ap, ◌∙◌, subst, inl, inr, mod-eq_of_lt, arith}
use native.Mathlib.Nat.{add-mod_right}
use Rattle.std.proofs.lemmas.Bool.{and_left, not-true, not-false, not_from_true, both_ways, cases_Bool, cases_lt}
use Rattle.std.proofs.lemmas.List.{append-nil}
use Rattle.calculus.specs.Searches.{lasts, holds}
use Rattle.calculus.proofs.Lasts.{lasts_at, lasts_stop}
use Rattle.sure_ticks.specs.declared.slot.Slot.{Slot}
use Rattle.sure_ticks.specs.Runs.{clear, begins, blocking, usable}
use Rattle.sure_ticks.specs.Slots.{slot, run_slot, slot_at, found}
use Rattle.sure_ticks.specs.Laws.{next, chained, Apart, SlotsApart}
use Rattle.sure_ticks.proofs.Found.{clear_same, begins_parts, usable_run, usable_most, run_slot_empty, run_slot_early, run_slot_late, slot_at_there, slot_at_none, found_quiet, slots_none, slots_always, slots_found}
use Rattle.sure_ticks.proofs.Apart.{Chain, of_chain}

-- each slot begins in the cycle, when the one before has ended, the first one from `from` on, has a tick, and the last ends by `to`
unfoldable Rises : ℕ → ℕ → ℕ → List Slot → Type 0
Rises L from to [] = from ≤ to
Rises L from to (s ∷ ss) = (from ≤ s.begin.0) × (s.begin.0 < L) × (0 < s.length.0) × Rises L (s.begin.0 + s.length.0) to ss

-- slots that rise from a tick rise from an earlier one
rises_from : (L from mid to : ℕ) (ss : List Slot) → from ≤ mid → Rises L mid to ss → Rises L from to ss
unfolding Rises
rises_from L from mid to [] le r = omega arith
rises_from L from mid to (s ∷ ss) le r = (omega (arith, r.0), r.1, r.2, r.3)

-- slots that rise to a tick, and then slots that rise from it
rises_append : (L mid to : ℕ) (ts ss : List Slot) (from : ℕ) → Rises L from mid ss → Rises L mid to ts → Rises L from to (ss ++ ts)
unfolding Rises
rises_append L mid to ts [] from r q = rises_from L from mid to ts r q
rises_append L mid to ts (s ∷ ss) from r q = (r.0, r.1, r.2, rises_append L mid to ts ss (s.begin.0 + s.length.0) r.3 q)

-- slots that rise to a tick are a chain with any limit from there on, and the first begins where they rise from, or later
rises_chain : (L from to limit : ℕ) (ss : List Slot) → to ≤ limit → Rises L from to ss → (from ≤ next limit ss) × Chain L limit ss
unfolding Rises next
rises_chain L from to limit [] le r = (omega arith, tt)
rises_chain L from to limit (s ∷ ss) le r = let h = rises_chain L (s.begin.0 + s.length.0) to limit ss le r.3 in (r.0, (r.1, r.2, h.0, h.1))

-- slots that rise for a cycle are apart
rises_apart : (L from : ℕ) (ss : List Slot) → Rises L from (from + L) ss → Apart L ss
unfolding Rises next chained
rises_apart L from [] r = refl
rises_apart L from (s ∷ ss) r =
    let le : from + L ≤ s.begin.0 + L = omega (arith, r.0) in
    of_chain L (s.begin.0 + L) (s ∷ ss) (rises_chain L from (from + L) (s.begin.0 + L) (s ∷ ss) le r).1

-- the slot of a run, if it begins in the cycle of the run, lies between the run's ends
run_slot_rises : (L a d e to : ℕ) → a + e ≤ to → Rises L a to (run_slot false L a d e)
unfolding Rises
run_slot_rises L a d e to hi =
    elim (cases_lt d e) [
      | inl lt ↦
          elim (cases_lt (a + d) L) [
            | inl early ↦
                let m : (a + d) % L ≡ a + d = mod-eq_of_lt early in
                subst (Rises L a to) (sym (run_slot_early false L a d e lt early)) (omega arith, omega arith, omega arith, omega arith)
            | inr past ↦ subst (Rises L a to) (sym (run_slot_late false L a d e lt past)) (omega arith)
          ]
      | inr le ↦ subst (Rises L a to) (sym (run_slot_empty false L a d e le)) (omega arith)
    ]

-- the runs of a class whose clear ticks repeat with the cycle
module _ (L : ℕ) (pos : 0 < L) (o : ℕ → ℕ → Bool) (M : ℕ → ℕ) (c : ℕ) (per : (t : ℕ) → clear o c (t + L) ≡ clear o c t) where
  -- for how many ticks the run that begins at the tick a waits
  abbrev waits : ℕ → ℕ
  waits a = blocking o M c (a + L - 1)

  -- for how many ticks it is usable
  abbrev serves : ℕ → ℕ
  serves a = usable L o (M c) c (a + L - 1)

  -- no run begins inside the usable ticks of a run
  inside : (a n : ℕ) → a < n → n < a + serves a → begins o c (n + L - 1) ≡ false
  unfolding begins
  inside a n lt still =
      let u = usable_run L o (M c) c (a + L - 1) in
      let e : clear o c (n + L - 1) ≡ true = lasts_at (clear o c) L (suc (a + L - 1)) (n + L - 1) (omega arith) (omega arith) in
      and_left (not (clear o c (n + L - 1))) (clear o c (suc (n + L - 1))) (not_from_true (clear o c (n + L - 1)) e)

  -- runs begin alike in every cycle
  begins_later : (n : ℕ) → begins o c (n + L + L - 1) ≡ begins o c (n + L - 1)
  unfolding begins
  begins_later n =
      let q₁ : n + L + L - 1 ≡ n + L - 1 + L = omega arith in
      let q₂ : suc (n + L + L - 1) ≡ suc (n + L - 1) + L = omega arith in
      let e₁ : clear o c (n + L + L - 1) ≡ clear o c (n + L - 1) = ap (clear o c) q₁ ∙ per (n + L - 1) in
      let e₂ : clear o c (suc (n + L + L - 1)) ≡ clear o c (suc (n + L - 1)) = ap (clear o c) q₂ ∙ per (suc (n + L - 1)) in
      cc

  -- a tick at which no run begins adds no slot
  found_same : (late : Bool) (n : ℕ) → begins o c (n + L - 1) ≡ false → found late L o M c (suc n) ≡ found late L o M c n
  unfolding found
  found_same late n h = ap (λ v. found late L o M c n ++ v) (slot_at_none late L o M c n h) ∙ append-nil (found late L o M c n)

  -- the slots of the runs that begin before the tick n rise from any tick before them all to any tick m from n on, if a run that goes on at n stops by m
  early_rise : (lo : ℕ) → ((n : ℕ) → n < L → begins o c (n + L - 1) ≡ true → lo ≤ n) → (n : ℕ) → n ≤ L → (m : ℕ) → n ≤ m → lo ≤ m → (clear o c (n + L - 1) ≡ true → (y : ℕ) × (n ≤ y) × (y ≤ m) × (clear o c (y + L) ≡ false)) → Rises L lo m (found false L o M c n)
  unfolding found Rises
  early_rise lo lows zero le m nm lm h = lm
  early_rise lo lows (suc n) le m nm lm h =
      let q : suc (n + L - 1) ≡ suc n + L - 1 = omega arith in
      elim (cases_Bool (begins o c (n + L - 1))) [
        | inl b ↦
            let p = begins_parts o c (n + L - 1) b in
            let low = lows n (omega arith) b in
            let r = early_rise lo lows n (omega arith) n (omega arith) low (λ x. absurd (both_ways (clear o c (n + L - 1)) p.0 x)) in
            let w = h (subst (λ v. clear o c v ≡ true) q p.1) in
            let far : n + lasts (clear o c) (suc (n + L - 1)) L ≤ w.0 = elim (cases_lt w.0 (n + lasts (clear o c) (suc (n + L - 1)) L)) [
              | inl near ↦ absurd (both_ways (clear o c (w.0 + L)) w.3 (lasts_at (clear o c) L (suc (n + L - 1)) (w.0 + L) (omega (arith, w.1)) (omega arith)))
              | inr g ↦ g
            ] in
            let u = usable_run L o (M c) c (n + L - 1) in
            let s : Rises L n m (slot_at false L o M c n) = subst (Rises L n m) (sym (slot_at_there false L o M c n b)) (run_slot_rises L n (waits n) (serves n) m (omega (arith, w.2))) in
            rises_append L n m (slot_at false L o M c n) (found false L o M c n) lo r s
        | inr b ↦
            subst (Rises L lo m) (sym (found_same false n b)) (early_rise lo lows n (omega arith) m (omega arith) lm (λ x.
            elim (cases_Bool (clear o c (suc (n + L - 1)))) [
              | inl on ↦ let w = h (subst (λ v. clear o c v ≡ true) q on) in (w.0, omega (arith, w.1), w.2, w.3)
              | inr off ↦ let z : suc (n + L - 1) ≡ n + L = omega arith in (n, omega arith, omega arith, subst (λ v. clear o c v ≡ false) z off)
            ]))
      ]

  -- of the runs that begin before the tick n one has a slot that begins past the cycle's end, and no other has
  record Late (n : ℕ) : Type 0 where
    pub tick : ℕ
    pub below : tick < n
    pub opens : begins o c (tick + L - 1) ≡ true
    pub some : waits tick < serves tick
    pub past : L ≤ tick + waits tick
    pub only : found true L o M c n ≡ (slot ((tick + waits tick) % L) (serves tick - waits tick) ∷ [])

  -- no run has such a slot, or one has
  late_is : (n : ℕ) → n ≤ L → (found true L o M c n ≡ []) ⊎ Late n
  unfolding found
  late_is zero le = inl refl
  late_is (suc n) le =
      elim (late_is n (omega arith)) [
        | inl e ↦
            elim (cases_Bool (begins o c (n + L - 1))) [
              | inl b ↦
                  let s : found true L o M c (suc n) ≡ run_slot true L n (waits n) (serves n) = ap (λ v. v ++ slot_at true L o M c n) e ∙ slot_at_there true L o M c n b in
                  elim (cases_lt (waits n) (serves n)) [
                    | inl lt ↦
                        elim (cases_lt (n + waits n) L) [
                          | inl early ↦ inl (s ∙ run_slot_early true L n (waits n) (serves n) lt early)
                          | inr past ↦ inr (record { tick = n; below = omega arith; opens = b; some = lt; past = past; only = s ∙ run_slot_late true L n (waits n) (serves n) lt past })
                        ]
                    | inr none ↦ inl (s ∙ run_slot_empty true L n (waits n) (serves n) none)
                  ]
              | inr b ↦ inl (found_same true n b ∙ e)
            ]
        | inr w ↦
            let b = inside w.tick n w.below (omega (arith, w.some, w.past)) in
            inr (record { tick = w.tick; below = omega (arith, w.below); opens = w.opens; some = w.some; past = w.past; only = found_same true n b ∙ w.only })
      ]

  -- the slots that begin in the cycle of their run rise for a cycle from some tick, the first at which a run begins
  none_late : (from : ℕ) × Rises L from (from + L) (found false L o M c L)
  unfolding found Rises
  none_late =
      let f : ℕ → Bool = λ n. not (begins o c (n + L - 1)) in
      let a : ℕ = lasts f 0 L in
      let quiet : (y : ℕ) → y < a → begins o c (y + L - 1) ≡ false = λ y lt. not-true (begins o c (y + L - 1)) (lasts_at f L 0 y (omega arith) (omega arith)) in
      elim (cases_lt a L) [
        | inl lt ↦
            let q : a ≡ 0 + a = omega arith in
            let p = begins_parts o c (a + L - 1) (not-false (begins o c (a + L - 1)) (ap f q ∙ lasts_stop f L 0 lt)) in
            let lows : (n : ℕ) → n < L → begins o c (n + L - 1) ≡ true → a ≤ n = λ n _ b.
            elim (cases_lt n a) [
              | inl under ↦ absurd (both_ways (begins o c (n + L - 1)) (quiet n under) b)
              | inr ok ↦ ok
            ] in (
              a,
              early_rise a lows L (omega arith) (a + L) (omega arith) (omega arith) (λ x.
                  elim (cases_lt 0 a) [
                    | inl later ↦ (a + L - 1, omega arith, omega arith, per (a + L - 1) ∙ p.0)
                    | inr first ↦ let q : L + L - 1 ≡ a + L - 1 + L = omega arith in absurd (both_ways (clear o c (L + L - 1)) (ap (clear o c) q ∙ per (a + L - 1) ∙ p.0) x)
                  ]),
            )
        | inr ge ↦
            let q : L ≡ 0 + L = omega arith in
            let e : found false L o M c L ≡ [] = ap (found false L o M c) q ∙ found_quiet false L o M c 0 L (λ y _ lt. quiet y (omega arith)) in
            (0, subst (Rises L 0 (0 + L)) (sym e) (omega arith))
      ]

  -- a run whose slot begins past the cycle's end adds none that begins in it, and no run of the cycle begins later
  late_last : (w : Late L) → found false L o M c L ≡ found false L o M c w.tick
  unfolding found
  late_last w =
      let a : ℕ = w.tick in
      let q : L ≡ suc a + (L - suc a) = omega (arith, w.below) in
      let s : slot_at false L o M c a ≡ [] = slot_at_there false L o M c a w.opens ∙ run_slot_late false L a (waits a) (serves a) w.some w.past in
      ap (found false L o M c) q
      ∙ found_quiet false L o M c (suc a) (L - suc a) (λ y from to. inside a y from (omega (arith, w.some, w.past, w.below)))
      ∙ ap (λ v. found false L o M c a ++ v) s
      ∙ append-nil (found false L o M c a)

  -- a slot that begins past the cycle's end, and then the others, rise for a cycle from its beginning
  one_late : (w : Late L) → (from : ℕ) × Rises L from (from + L) (found true L o M c L ++ found false L o M c L)
  unfolding Rises
  one_late w =
      let a : ℕ = w.tick in
      let b : ℕ = (a + waits a) % L in
      let n : ℕ = serves a - waits a in
      let u = usable_most L o (M c) c (a + L - 1) in
      let q : a + waits a ≡ (a + waits a - L) + L = omega (arith, w.past) in
      let m : b ≡ a + waits a - L = ap (λ v. v % L) q ∙ add-mod_right (a + waits a - L) L ∙ mod-eq_of_lt (omega (arith, w.some, w.below)) in
      let lows : (y : ℕ) → y < L → begins o c (y + L - 1) ≡ true → b + n ≤ y = λ y _ h.
      elim (cases_lt y (b + n)) [
        | inl under ↦ absurd (both_ways (begins o c (y + L - 1)) (sym (begins_later y) ∙ inside a (y + L) (omega (arith, w.below)) (omega (arith, w.some, w.past))) h)
        | inr ok ↦ ok
      ] in
      let p = begins_parts o c (a + L - 1) w.opens in
      let rest : Rises L (b + n) (b + L) (found false L o M c a) = early_rise (b + n) lows a (omega (arith, w.below)) (b + L) (omega (arith, w.below)) (omega (arith, w.some, w.past)) (λ x. absurd (both_ways (clear o c (a + L - 1)) p.0 x)) in (
        b,
        subst (λ v. Rises L b (b + L) (v ++ found false L o M c L)) (sym w.only)
            (omega arith, omega (arith, w.some, w.below), omega (arith, w.some), subst (Rises L (b + n) (b + L)) (sym (late_last w)) rest),
      )

  -- the slots of the runs are apart
  found_apart : Apart L (found true L o M c L ++ found false L o M c L)
  found_apart =
      elim (late_is L (omega arith)) [
        | inl e ↦ let r = none_late in subst (λ v. Apart L (v ++ found false L o M c L)) (sym e) (rises_apart L r.0 (found false L o M c L) r.1)
        | inr w ↦ let r = one_late w in rises_apart L r.0 (found true L o M c L ++ found false L o M c L) r.1
      ]

-- the slots of a class rise and are apart
pub slots_apart : SlotsApart
unfolding Rises
slots_apart L pos o per M c =
    elim (cases_lt 0 (M c)) [
      | inl some ↦
          elim (cases_Bool (holds (clear o c) 0 L)) [
            | inl h ↦ subst (Apart L) (sym (slots_always L o M c some h)) (rises_apart L 0 (slot 0 L ∷ []) (omega arith, pos, pos, omega arith))
            | inr h ↦ subst (Apart L) (sym (slots_found L o M c some h)) (found_apart L pos o M c (λ t. clear_same o o c (t + L) t (λ k. per k t)))
          ]
      | inr none ↦ subst (Apart L) (sym (slots_none L o M c (omega arith))) (rises_apart L 0 [] (omega arith))
    ]
