-- What a clear run, its slot and a list of slots come to, case by case. Assumes nothing.
use Rattle.std.proofs.Common.{◌≡◌, ℕ, zero, suc, ◌+◌, ◌-◌, ◌%◌, ◌<◌, ◌≤◌, Bool, true, false, cond, not, ◌&&◌, ltb, [], ◌∷◌, ◌++◌, length, ap, ◌∙◌, ⊎_elim, arith}
use Rattle.std.proofs.lemmas.Bool.{lt-ltb, le-ltb, and_parts, cases_lt, cond-true, cond-false, not-true}
use Rattle.std.proofs.lemmas.List.{append-nil, length-append}
use Rattle.units.specs.Limits.{classes}
use Rattle.calculus.specs.Searches.{all, holds, lasts}
use Rattle.calculus.proofs.Bounded.{all_same}
use Rattle.calculus.proofs.Lasts.{lasts_most}
use Rattle.sure_ticks.specs.Runs.{clear, begins, blocking, usable}
use Rattle.sure_ticks.specs.Slots.{slot, run_slot, slot_at, found, slots}

-- two gates that agree at a tick, class by class, are clear alike
pub clear_same : (o p : ℕ → ℕ → Bool) (c t u : ℕ) → ((k : ℕ) → o k t ≡ p k u) → clear o c t ≡ clear p c u
unfolding clear
clear_same o p c t u h =
    let a : all (λ h. not (ltb c h && o h t)) classes ≡ all (λ h. not (ltb c h && p h u)) classes =
    all_same (λ h. not (ltb c h && o h t)) (λ h. not (ltb c h && p h u)) classes (λ k _. ap (λ b. not (ltb c k && b)) (h k)) in
    let e : o c t ≡ p c u = h c in
    cc

-- where a run begins: not clear before, and clear then
pub begins_parts : (o : ℕ → ℕ → Bool) (c z : ℕ) → begins o c z ≡ true → (clear o c z ≡ false) × (clear o c (suc z) ≡ true)
unfolding begins
begins_parts o c z h = let p = and_parts (not (clear o c z)) (clear o c (suc z)) h in (not-true (clear o c z) p.0, p.1)

-- a run is usable while it lasts
pub usable_run : (L : ℕ) (o : ℕ → ℕ → Bool) (m c z : ℕ) → usable L o m c z ≤ lasts (clear o c) (suc z) L
unfolding usable
usable_run L o m c z = omega arith

-- and so for a cycle at the most
pub usable_most : (L : ℕ) (o : ℕ → ℕ → Bool) (m c z : ℕ) → usable L o m c z ≤ L
usable_most L o m c z = let u = usable_run L o m c z in let r = lasts_most (clear o c) L (suc z) in omega arith

-- the slot of a run
module _ (late : Bool) (L a d e : ℕ) where
  -- that waits as long as it is usable
  pub run_slot_empty : e ≤ d → run_slot late L a d e ≡ []
  unfolding run_slot
  run_slot_empty le = cond-false (ltb d e) _ [] (le-ltb d e le)

  -- whose slot begins in its own cycle
  pub run_slot_early : d < e → a + d < L → run_slot late L a d e ≡ cond (not late) (slot ((a + d) % L) (e - d) ∷ []) []
  unfolding run_slot
  run_slot_early lt early =
      cond-true (ltb d e) (cond (cond (ltb (a + d) L) (not late) late) (slot ((a + d) % L) (e - d) ∷ []) []) [] (lt-ltb d e lt)
      ∙ ap (λ v. cond v (slot ((a + d) % L) (e - d) ∷ []) []) (cond-true (ltb (a + d) L) (not late) late (lt-ltb (a + d) L early))

  -- whose slot begins in the next
  pub run_slot_late : d < e → L ≤ a + d → run_slot late L a d e ≡ cond late (slot ((a + d) % L) (e - d) ∷ []) []
  unfolding run_slot
  run_slot_late lt past =
      cond-true (ltb d e) (cond (cond (ltb (a + d) L) (not late) late) (slot ((a + d) % L) (e - d) ∷ []) []) [] (lt-ltb d e lt)
      ∙ ap (λ v. cond v (slot ((a + d) % L) (e - d) ∷ []) []) (cond-false (ltb (a + d) L) (not late) late (le-ltb (a + d) L past))

-- the slots of a class, tick by tick
module _ (late : Bool) (L : ℕ) (o : ℕ → ℕ → Bool) (M : ℕ → ℕ) (c : ℕ) where
  -- where a run begins
  pub slot_at_there : (a : ℕ) → begins o c (a + L - 1) ≡ true → slot_at late L o M c a ≡ run_slot late L a (blocking o M c (a + L - 1)) (usable L o (M c) c (a + L - 1))
  unfolding slot_at
  slot_at_there a h = cond-true (begins o c (a + L - 1)) (run_slot late L a (blocking o M c (a + L - 1)) (usable L o (M c) c (a + L - 1))) [] h

  -- where none does
  pub slot_at_none : (a : ℕ) → begins o c (a + L - 1) ≡ false → slot_at late L o M c a ≡ []
  unfolding slot_at
  slot_at_none a h = cond-false (begins o c (a + L - 1)) _ [] h

  -- over ticks at which no run begins
  pub found_quiet : (a m : ℕ) → ((y : ℕ) → a ≤ y → y < a + m → begins o c (y + L - 1) ≡ false) → found late L o M c (a + m) ≡ found late L o M c a
  unfolding found
  found_quiet a zero h = let e : a + 0 ≡ a = omega arith in ap (found late L o M c) e
  found_quiet a (suc m) h =
      let e : a + suc m ≡ suc (a + m) = omega arith in
      let q : slot_at late L o M c (a + m) ≡ [] = slot_at_none (a + m) (h (a + m) (omega arith) (omega arith)) in
      ap (found late L o M c) e ∙ ap (λ v. found late L o M c (a + m) ++ v) q ∙ append-nil (found late L o M c (a + m)) ∙ found_quiet a m (λ y a b. h y a (omega arith))

  -- more ticks have no fewer slots
  pub found_mono : (m n : ℕ) → n ≤ m → length (found late L o M c n) ≤ length (found late L o M c m)
  unfolding found
  found_mono zero n le = let e : n ≡ 0 = omega arith in let q = ap (λ v. length (found late L o M c v)) e in omega arith
  found_mono (suc m) n le =
      ⊎_elim
      (λ (l : n < suc m). let r = found_mono m n (omega arith) in let e = length-append (found late L o M c m) (slot_at late L o M c m) in omega arith)
      (λ (g : suc m ≤ n). let e : n ≡ suc m = omega arith in let q = ap (λ v. length (found late L o M c v)) e in omega arith)
      (cases_lt n (suc m))

-- the three ways to the slots of a class
module _ (L : ℕ) (o : ℕ → ℕ → Bool) (M : ℕ → ℕ) (c : ℕ) where
  -- it sends nothing
  pub slots_none : M c ≡ 0 → slots L o M c ≡ []
  unfolding slots
  slots_none e = cond-false (ltb 0 (M c)) _ [] (le-ltb 0 (M c) (omega arith))

  -- every tick is clear
  pub slots_always : 0 < M c → holds (clear o c) 0 L ≡ true → slots L o M c ≡ (slot 0 L ∷ [])
  unfolding slots
  slots_always some h =
      cond-true (ltb 0 (M c)) (cond (holds (clear o c) 0 L) (slot 0 L ∷ []) (found true L o M c L ++ found false L o M c L)) [] (lt-ltb 0 (M c) some)
      ∙ cond-true (holds (clear o c) 0 L) (slot 0 L ∷ []) (found true L o M c L ++ found false L o M c L) h

  -- there are runs, or no tick is clear
  pub slots_found : 0 < M c → holds (clear o c) 0 L ≡ false → slots L o M c ≡ found true L o M c L ++ found false L o M c L
  unfolding slots
  slots_found some h =
      cond-true (ltb 0 (M c)) (cond (holds (clear o c) 0 L) (slot 0 L ∷ []) (found true L o M c L ++ found false L o M c L)) [] (lt-ltb 0 (M c) some)
      ∙ cond-false (holds (clear o c) 0 L) (slot 0 L ∷ []) (found true L o M c L ++ found false L o M c L) h
