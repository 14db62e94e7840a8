-- Runs begin with lines: what one that begins with a line comes to. Assumes nothing.
use Rattle.std.proofs.Common.{◌≡◌, ℕ, zero, suc, ◌+◌, ◌-◌, ◌*◌, ◌<◌, ◌≤◌, min, Bool, true, false, not, ◌&&◌, ltb, List, ◌++◌, length, sym, ap, ◌∙◌, inl, inr, add-one, arith}
use Rattle.std.proofs.lemmas.Bool.{lt-ltb, le-ltb, and_left, and_right, cases_Bool, cases_lt, cond-true, cond-false, not_from_true}
use Rattle.std.proofs.lemmas.List.{length-append}
use Rattle.units.specs.Limits.{most_slots}
use Rattle.calculus.specs.Searches.{bit, lasts}
use Rattle.calculus.proofs.Lasts.{lasts_later}
use Rattle.calculus.proofs.Counts.{bit_le, bit_yes, bit_no}
use Rattle.gates.specs.declared.gate_line.GateLine.{GateLine}
use Rattle.gates.specs.Opened.{total, shows, opened, start, line, Lawful}
use Rattle.gates.proofs.Lines.{start_next, start_more, start_all}
use Rattle.sure_ticks.specs.Runs.{clear, begins, blocked_by, blocking, usable}
use Rattle.sure_ticks.specs.Slots.{run_slot, slot_at, found}
use Rattle.sure_ticks.proofs.Found.{begins_parts, run_slot_empty, run_slot_early, run_slot_late, slot_at_there, slot_at_none, found_quiet}
use Rattle.slots.specs.Walks.{alone, previous, AtTick}
use Rattle.slots.proofs.Walks.{cycle_some, open_at_tick, clear_at_tick, test_later, test_at}

-- a run gives two slots, a late one and another, at the most one of which is there
one_slot : (L a d e : ℕ) → length (run_slot true L a d e) + length (run_slot false L a d e) ≤ 1
one_slot L a d e =
    elim (cases_lt d e) [
      | inl lt ↦ elim (cases_lt (a + d) L) [
        | inl early ↦ let x = ap length (run_slot_early true L a d e lt early) in let y = ap length (run_slot_early false L a d e lt early) in omega arith
        | inr past ↦ let x = ap length (run_slot_late true L a d e lt past) in let y = ap length (run_slot_late false L a d e lt past) in omega arith
      ]
      | inr le ↦ let x = ap length (run_slot_empty true L a d e le) in let y = ap length (run_slot_empty false L a d e le) in omega arith
    ]

-- a gate list
module _ (ls : List GateLine) (cycle : ℕ) (law : Lawful ls cycle) where
  -- the tick after the one before a tick, one cycle later
  next_tick : (a : ℕ) → suc (a + cycle - 1) ≡ a + cycle
  next_tick a = let p = cycle_some ls cycle law in omega arith

  -- the test of a tick
  module _ (test : (ℕ → ℕ → Bool) → ℕ → Bool) (at : AtTick test) where
    -- there the test comes out as at the tick
    test_next : (a : ℕ) → test (opened ls) (suc (a + cycle - 1)) ≡ test (opened ls) a
    test_next a = ap (test (opened ls)) (next_tick a) ∙ test_later ls cycle law test at a

    -- and lasts as long
    lasts_next : (a n : ℕ) → lasts (test (opened ls)) (suc (a + cycle - 1)) n ≡ lasts (test (opened ls)) a n
    lasts_next a n = ap (λ v. lasts (test (opened ls)) v n) (next_tick a) ∙ lasts_later cycle (test (opened ls)) (test_later ls cycle law test at) a n

    -- at the last tick of a line, one cycle later
    test_last : (i : ℕ) → i < length ls → test (opened ls) (start ls (suc i) + cycle - 1) ≡ test (alone (line ls i)) 0
    test_last i lt =
        let n = start_next ls i lt in
        let p = law.each i lt in
        let q : start ls (suc i) + cycle - 1 ≡ (start ls (suc i) - 1) + cycle = omega arith in
        ap (test (opened ls)) q ∙ test_later ls cycle law test at (start ls (suc i) - 1) ∙ test_at ls cycle law test at i (start ls (suc i) - 1) lt (omega arith) (omega arith)

    -- at the tick before a line's beginning it comes out as in the line before it
    prior : (i : ℕ) → i < length ls → test (opened ls) (start ls i + cycle - 1) ≡ test (alone (line ls (previous (length ls) i))) 0
    unfolding total
    prior i there =
        elim (cases_lt 0 i) [
          | inl some ↦
              let q : previous (length ls) i ≡ i - 1 = cond-true (ltb 0 i) (i - 1) (length ls - 1) (lt-ltb 0 i some) in
              let e : suc (i - 1) ≡ i = omega arith in
              sym (ap (λ v. test (opened ls) (start ls v + cycle - 1)) e) ∙ test_last (i - 1) (omega arith) ∙ sym (ap (λ v. test (alone (line ls v)) 0) q)
          | inr none ↦
              let q : previous (length ls) i ≡ length ls - 1 = cond-false (ltb 0 i) (i - 1) (length ls - 1) (le-ltb 0 i none) in
              let e : start ls i ≡ 0 = (let z : i ≡ 0 = omega arith in ap (start ls) z) in
              let n : suc (length ls - 1) ≡ length ls = omega arith in
              let f : start ls (suc (length ls - 1)) ≡ cycle = ap (start ls) n ∙ start_all ls (length ls) (omega arith) ∙ law.together in
              let g = cycle_some ls cycle law in
              let h = start_next ls (length ls - 1) (omega arith) in
              let p = law.each (length ls - 1) (omega arith) in
              test_at ls cycle law test at (length ls - 1) (start ls i + cycle - 1) (omega arith) (omega arith) (omega arith) ∙ sym (ap (λ v. test (alone (line ls v)) 0) q)
        ]

    -- at its first tick as in the line itself
    first : (i : ℕ) → i < length ls → test (opened ls) (suc (start ls i + cycle - 1)) ≡ test (alone (line ls i)) 0
    first i there =
        let n = start_next ls i there in
        let p = law.each i there in
        test_next (start ls i) ∙ test_at ls cycle law test at i (start ls i) there (omega arith) (omega arith)

  -- a line that begins at a tick
  module _ (i a : ℕ) (there : i < length ls) (begun : a ≡ start ls i) where
    -- a class that is shut before the line keeps no run waiting
    pub blocked_shut : (m k : ℕ) → shows (line ls (previous (length ls) i)) k ≡ false → blocked_by (opened ls) m (a + cycle - 1) k ≡ 0
    unfolding blocked_by
    blocked_shut m k h = cond-false (opened ls k (a + cycle - 1)) _ 0 (ap (λ v. opened ls k (v + cycle - 1)) begun ∙ prior (λ o. o k) (open_at_tick k) i there ∙ h)

    -- one that is open does until it shuts
    pub blocked_open : (m k : ℕ) → shows (line ls (previous (length ls) i)) k ≡ true → blocked_by (opened ls) m (a + cycle - 1) k ≡ lasts (opened ls k) a (m - 1)
    unfolding blocked_by
    blocked_open m k h =
        cond-true (opened ls k (a + cycle - 1)) (lasts (opened ls k) (suc (a + cycle - 1)) (m - 1)) 0 (ap (λ v. opened ls k (v + cycle - 1)) begun ∙ prior (λ o. o k) (open_at_tick k) i there ∙ h)
        ∙ lasts_next (λ o. o k) (open_at_tick k) a (m - 1)

    -- a run begins where the line before is not clear and the line is
    pub begins_is : (c : ℕ) → begins (opened ls) c (a + cycle - 1) ≡ (not (clear (alone (line ls (previous (length ls) i))) c 0) && clear (alone (line ls i)) c 0)
    unfolding begins
    begins_is c =
        let e₁ : clear (opened ls) c (a + cycle - 1) ≡ clear (alone (line ls (previous (length ls) i))) c 0 =
        ap (λ v. clear (opened ls) c (v + cycle - 1)) begun ∙ prior (λ o. clear o c) (clear_at_tick c) i there in
        let e₂ : clear (opened ls) c (suc (a + cycle - 1)) ≡ clear (alone (line ls i)) c 0 =
        ap (λ v. clear (opened ls) c (suc (v + cycle - 1))) begun ∙ first (λ o. clear o c) (clear_at_tick c) i there in
        cc

  -- for how long a run is usable, from its own first tick
  pub usable_is : (m c a : ℕ) → usable cycle (opened ls) m c (a + cycle - 1) ≡ min (lasts (clear (opened ls) c) a cycle) (lasts (opened ls c) a (cycle + m) + 1 - m)
  unfolding usable
  usable_is m c a =
      let e₁ : lasts (clear (opened ls) c) (suc (a + cycle - 1)) cycle ≡ lasts (clear (opened ls) c) a cycle = lasts_next (λ o. clear o c) (clear_at_tick c) a cycle in
      let e₂ : lasts (opened ls c) (suc (a + cycle - 1)) (cycle + m) ≡ lasts (opened ls c) a (cycle + m) = lasts_next (λ o. o c) (open_at_tick c) a (cycle + m) in
      cc

  -- no run begins inside a line
  begins_inside : (c i y : ℕ) → i < length ls → start ls i < y → y < start ls (suc i) → begins (opened ls) c (y + cycle - 1) ≡ false
  unfolding begins
  begins_inside c i y lt lo hi =
      let q : y + cycle - 1 ≡ (y - 1) + cycle = omega arith in
      let e₁ : clear (opened ls) c (y + cycle - 1) ≡ clear (alone (line ls i)) c 0 =
      ap (clear (opened ls) c) q ∙ test_later ls cycle law (λ o. clear o c) (clear_at_tick c) (y - 1) ∙ test_at ls cycle law (λ o. clear o c) (clear_at_tick c) i (y - 1) lt (omega arith) (omega arith) in
      let e₂ : clear (opened ls) c (suc (y + cycle - 1)) ≡ clear (alone (line ls i)) c 0 = test_next (λ o. clear o c) (clear_at_tick c) y ∙ test_at ls cycle law (λ o. clear o c) (clear_at_tick c) i y lt (omega arith) hi in
      elim (cases_Bool (clear (alone (line ls i)) c 0)) [
        | inl h ↦ and_left (not (clear (opened ls) c (y + cycle - 1))) _ (not_from_true (clear (opened ls) c (y + cycle - 1)) (e₁ ∙ h))
        | inr h ↦ and_right _ (clear (opened ls) c (suc (y + cycle - 1))) (e₂ ∙ h)
      ]

  -- so line by line only the first tick counts
  pub found_line : (late : Bool) (M : ℕ → ℕ) (c i : ℕ) → i < length ls →
      found late cycle (opened ls) M c (start ls (i + 1)) ≡ found late cycle (opened ls) M c (start ls i) ++ slot_at late cycle (opened ls) M c (start ls i)
  unfolding found
  found_line late M c i lt =
      let n = start_next ls i lt in
      let m = start_more ls i lt in
      let p = law.each i lt in
      let e : start ls (i + 1) ≡ suc (start ls i) + ((line ls i).length.0 - 1) = omega arith in
      ap (found late cycle (opened ls) M c) e
      ∙ found_quiet late cycle (opened ls) M c (suc (start ls i)) ((line ls i).length.0 - 1) (λ y a b. begins_inside c i y lt a (omega arith))

  -- all the slots that the first i lines give: no two lines that adjoin both begin a run
  few : (M : ℕ → ℕ) (c i : ℕ) → i ≤ length ls →
      2 * (length (found true cycle (opened ls) M c (start ls i)) + length (found false cycle (opened ls) M c (start ls i))) ≤ i + bit (clear (opened ls) c) (start ls i + cycle - 1)
  unfolding found total
  few M c zero le = omega arith
  few M c (suc i) le =
      let lt : i < length ls = omega arith in
      let r = few M c i (omega arith) in
      let o : ℕ → ℕ → Bool = opened ls in
      let a : ℕ = start ls i in
      let q : start ls (suc i) ≡ start ls (i + 1) = ap (start ls) (sym (add-one i)) in
      let l₁ : length (found true cycle o M c (start ls (suc i))) ≡ length (found true cycle o M c a) + length (slot_at true cycle o M c a) =
      ap length (ap (found true cycle o M c) q ∙ found_line true M c i lt) ∙ length-append (found true cycle o M c a) (slot_at true cycle o M c a) in
      let l₂ : length (found false cycle o M c (start ls (suc i))) ≡ length (found false cycle o M c a) + length (slot_at false cycle o M c a) =
      ap length (ap (found false cycle o M c) q ∙ found_line false M c i lt) ∙ length-append (found false cycle o M c a) (slot_at false cycle o M c a) in
      elim (cases_Bool (begins o c (a + cycle - 1))) [
        | inl h ↦
            let p = begins_parts o c (a + cycle - 1) h in
            let x₀ = bit_no (clear o c) (a + cycle - 1) p.0 in
            let x₁ = bit_yes (clear o c) (start ls (suc i) + cycle - 1) (test_last (λ o. clear o c) (clear_at_tick c) i lt ∙ sym (first (λ o. clear o c) (clear_at_tick c) i lt) ∙ p.1) in
            let s₁ = ap length (slot_at_there true cycle o M c a h) in
            let s₂ = ap length (slot_at_there false cycle o M c a h) in
            let one = one_slot cycle a (blocking o M c (a + cycle - 1)) (usable cycle o (M c) c (a + cycle - 1)) in
            omega arith
        | inr h ↦
            let x₀ = bit_le (clear o c) (a + cycle - 1) in
            let s₁ = ap length (slot_at_none true cycle o M c a h) in
            let s₂ = ap length (slot_at_none false cycle o M c a h) in
            omega arith
      ]

  -- a class has at most half as many slots as there can be lines
  pub found_few : (M : ℕ → ℕ) (c : ℕ) → length (found true cycle (opened ls) M c cycle) + length (found false cycle (opened ls) M c cycle) ≤ most_slots
  found_few M c =
      let r = few M c (length ls) (omega arith) in
      let e : start ls (length ls) ≡ cycle = start_all ls (length ls) (omega arith) ∙ law.together in
      let l₁ = ap (λ v. length (found true cycle (opened ls) M c v)) e in
      let l₂ = ap (λ v. length (found false cycle (opened ls) M c v)) e in
      let x = bit_le (clear (opened ls) c) (start ls (length ls) + cycle - 1) in
      let n = law.few in
      omega arith
