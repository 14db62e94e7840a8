-- The sure ticks are those at which a waiting frame can start. Assumes nothing.
use Rattle.std.proofs.Common.{◌≡◌, ℕ, zero, suc, ◌+◌, ◌-◌, ◌%◌, ◌<◌, ◌≤◌, Bool, true, false, cond, not, ◌||◌, ltb, ◌⊎◌, List, [], ◌∷◌, ◌++◌, sym, refl, ap, ◌∙◌, subst, inl, inr, ⊎_elim, mod-lt, arith}
use mathlib.Core.Bool.{or-false, or_assoc}
use native.Mathlib.Nat.{mod-add-mod, add-mod-mod, add-mod_right}
use Rattle.std.proofs.lemmas.Bool.{and_from, or_cases, or_left, or_right, cases_Bool, cases_lt, both_ways, cond-true, cond_both, not_from_false}
use Rattle.calculus.specs.Searches.{holds, lasts}
use Rattle.calculus.proofs.Bounded.{holds_at, holds_from, greatest_at, greatest_from, greatest_same}
use Rattle.calculus.proofs.Lasts.{lasts_at, lasts_from, lasts_most, lasts_later}
use Rattle.calculus.proofs.Cycles.{in_cycle, everywhere}
use Rattle.sure_ticks.specs.declared.slot.Slot.{Slot}
use Rattle.sure_ticks.specs.Runs.{clear, begins, blocked_by, blocking, usable}
use Rattle.sure_ticks.specs.Slots.{slot, run_slot, slot_at, found, slots}
use Rattle.sure_ticks.specs.Sure.{since, in_slot, covered, sure}
use Rattle.sure_ticks.specs.Startable.{entered, startable}
use Rattle.sure_ticks.specs.Laws.{Repeats, SureStartable}
use Rattle.sure_ticks.proofs.Found.{begins_parts, run_slot_early, run_slot_late, slot_at_there, slots_none, slots_always, slots_found}
use Rattle.sure_ticks.proofs.Covered.{since_is, in_slot_same, in_slot_lt, lt_in_slot}
use Rattle.sure_ticks.proofs.Entered.{clear_open, entered_clear, entered_begins, entered_short, entered_from, clear_later, entered_later, startable_later, always, after, is_startable, startable_from}

-- two tests of which each passes where the other does
bool_eq : (a b : Bool) → (a ≡ true → b ≡ true) → (b ≡ true → a ≡ true) → a ≡ b
bool_eq true true f g = refl
bool_eq true false f g = sym (f refl)
bool_eq false true f g = g refl
bool_eq false false f g = refl

-- what repeats with the cycle is the same at the same place of it
same_place : {A : Type 0} (L : ℕ) (g : ℕ → A) → ((t : ℕ) → g (t + L) ≡ g t) → (t u : ℕ) → t % L ≡ u % L → g t ≡ g u
same_place L g per t u e = sym (in_cycle L g per t) ∙ ap g e ∙ in_cycle L g per u

-- which ticks a list of slots covers
module _ (L t : ℕ) where
  -- those that one of its two parts covers
  covered_append : (ss us : List Slot) → covered L (ss ++ us) t ≡ (covered L ss t || covered L us t)
  unfolding covered
  covered_append [] us = refl
  covered_append (s ∷ ss) us = ap (λ v. in_slot L s t || v) (covered_append ss us) ∙ sym (or_assoc (in_slot L s t) (covered L ss t) (covered L us t))

  -- those of its only slot
  covered_one : (s : Slot) → covered L (s ∷ []) t ≡ in_slot L s t
  unfolding covered
  covered_one s = or-false (in_slot L s t)

  -- none, if it is there on a condition that fails
  covered_cond : (b : Bool) (ss : List Slot) → covered L (cond b ss []) t ≡ true → (b ≡ true) × (covered L ss t ≡ true)
  unfolding covered
  covered_cond true ss h = (refl, h)
  covered_cond false ss h = absurd (both_ways false refl h)

-- a slot of n ticks that begins at the place of p
module _ (L : ℕ) (pos : 0 < L) (p n t : ℕ) where
  -- each tick in it is at the place of one of the n ticks from p on
  slot_ticks : in_slot L (slot (p % L) n) t ≡ true → (q : ℕ) × (p ≤ q) × (q < p + n) × (q % L ≡ t % L)
  slot_ticks h =
      let d : ℕ = t + (L - p % L) in
      let e : since L (slot (p % L) n) t ≡ d % L = since_is L (slot (p % L) n) t (omega arith) in
      let l : since L (slot (p % L) n) t < n = in_slot_lt L (slot (p % L) n) t h in
      let r : p % L + d ≡ t + L = omega arith in
      (p + d % L, omega arith, omega arith, add-mod-mod p d L ∙ sym (mod-add-mod p L d) ∙ ap (λ v. v % L) r ∙ add-mod_right t L)

  -- and each of these is in it
  slot_tick : (q : ℕ) → p ≤ q → q < p + n → q % L ≡ t % L → in_slot L (slot (p % L) n) t ≡ true
  slot_tick q lo hi same =
      let d : ℕ = q - p + (L - p % L) in
      let r₁ : q + (L - p % L) ≡ p + d = omega arith in
      let r₂ : p % L + d ≡ q - p + L = omega arith in
      let e : since L (slot (p % L) n) q ≡ (q - p) % L =
      since_is L (slot (p % L) n) q (omega arith) ∙ ap (λ v. v % L) r₁ ∙ sym (mod-add-mod p L d) ∙ ap (λ v. v % L) r₂ ∙ add-mod_right (q - p) L in
      in_slot_same L (slot (p % L) n) t q (sym same) ∙ lt_in_slot L (slot (p % L) n) q (omega arith)

-- the slot of a run that begins at the tick a, waits for d ticks and is usable for e
module _ (L : ℕ) (pos : 0 < L) (a d e t : ℕ) where
  -- each tick in it is at the place of a tick that is left
  run_slot_ticks : (late : Bool) → covered L (run_slot late L a d e) t ≡ true → (q : ℕ) × (a + d ≤ q) × (q < a + e) × (q % L ≡ t % L)
  unfolding run_slot
  run_slot_ticks late h =
      let kept : Bool = cond (ltb (a + d) L) (not late) late in
      let one = (covered_cond L t kept (slot ((a + d) % L) (e - d) ∷ []) (covered_cond L t (ltb d e) (cond kept (slot ((a + d) % L) (e - d) ∷ []) []) h).1).1 in
      let w = slot_ticks L pos (a + d) (e - d) t (sym (covered_one L t (slot ((a + d) % L) (e - d))) ∙ one) in
      (w.0, w.1, omega (arith, w.1, w.2), w.3)

  -- and each of these is in the slot among the late ones, or among the others
  run_slot_tick : (q : ℕ) → a + d ≤ q → q < a + e → q % L ≡ t % L → (covered L (run_slot true L a d e) t ≡ true) ⊎ (covered L (run_slot false L a d e) t ≡ true)
  run_slot_tick q lo hi same =
      let one : covered L (slot ((a + d) % L) (e - d) ∷ []) t ≡ true = covered_one L t (slot ((a + d) % L) (e - d)) ∙ slot_tick L pos (a + d) (e - d) t q lo (omega arith) same in
      ⊎_elim
      (λ early. inr (ap (λ v. covered L v t) (run_slot_early false L a d e (omega arith) early) ∙ one))
      (λ past. inl (ap (λ v. covered L v t) (run_slot_late true L a d e (omega arith) past) ∙ one))
      (cases_lt (a + d) L)

-- the tick x of the run that begins right after z is left: no lower frame keeps it waiting, and it is usable
abbrev Left : ℕ → (ℕ → ℕ → Bool) → (ℕ → ℕ) → ℕ → ℕ → ℕ → Type 0
Left L o M c z x = (suc z + blocking o M c z ≤ x) × (x < suc z + usable L o (M c) c z)

-- runs and slots of c, of gates that repeat with the cycle
module _ (L : ℕ) (pos : 0 < L) (o : ℕ → ℕ → Bool) (per : Repeats L o) (M : ℕ → ℕ) (c : ℕ) where
  -- a run begins again one cycle later
  begins_later : (z : ℕ) → begins o c (z + L) ≡ begins o c z
  unfolding begins
  begins_later z =
      let q : suc (z + L) ≡ suc z + L = omega arith in
      let e₁ : clear o c (z + L) ≡ clear o c z = clear_later L o per c z in
      let e₂ : clear o c (suc (z + L)) ≡ clear o c (suc z) = ap (clear o c) q ∙ clear_later L o per c (suc z) in
      cc

  -- it waits as long
  blocking_later : (z : ℕ) → blocking o M c (z + L) ≡ blocking o M c z
  unfolding blocking blocked_by
  blocking_later z =
      greatest_same (λ k. blocked_by o (M k) (z + L) k) (λ k. blocked_by o (M k) z k) c (λ k _.
      let q : suc (z + L) ≡ suc z + L = omega arith in
      let e₁ : o k (z + L) ≡ o k z = per k z in
      let e₂ : lasts (o k) (suc (z + L)) (M k - 1) ≡ lasts (o k) (suc z) (M k - 1) = ap (λ v. lasts (o k) v (M k - 1)) q ∙ lasts_later L (o k) (per k) (suc z) (M k - 1) in
      cc)

  -- and is usable as long
  usable_later : (z : ℕ) → usable L o (M c) c (z + L) ≡ usable L o (M c) c z
  unfolding usable
  usable_later z =
      let q : suc (z + L) ≡ suc z + L = omega arith in
      let e₁ : lasts (clear o c) (suc (z + L)) L ≡ lasts (clear o c) (suc z) L = ap (λ v. lasts (clear o c) v L) q ∙ lasts_later L (clear o c) (clear_later L o per c) (suc z) L in
      let e₂ : lasts (o c) (suc (z + L)) (L + M c) ≡ lasts (o c) (suc z) (L + M c) = ap (λ v. lasts (o c) v (L + M c)) q ∙ lasts_later L (o c) (per c) (suc z) (L + M c) in
      cc

  -- at a tick that is left a frame can start
  left_startable : 0 < M c → (z x : ℕ) → clear o c z ≡ false → Left L o M c z x → startable L o M c x ≡ true
  unfolding blocking blocked_by usable
  left_startable some z x off left =
      let n : ℕ = x - z in
      let r : lasts (clear o c) (suc z) L ≤ L = lasts_most (clear o c) L (suc z) in
      let run : (y : ℕ) → z < y → y ≤ z + n → clear o c y ≡ true = λ y a b. lasts_at (clear o c) L (suc z) y a (omega arith) in
      let stay : (y : ℕ) → x ≤ y → y < x + M c → o c y ≡ true = λ y a b. lasts_at (o c) (L + M c) (suc z) y (omega arith) (omega arith) in
      let lower : (k : ℕ) → k < c → n < M k → ((y : ℕ) → z ≤ y → y ≤ z + n → o k y ≡ true) → ⊥ = λ k lt long opened.
      let d : blocked_by o (M k) z k ≤ blocking o M c z = greatest_at (λ k. blocked_by o (M k) z k) c k lt in
      let e : blocked_by o (M k) z k ≡ lasts (o k) (suc z) (M k - 1) = cond-true (o k z) (lasts (o k) (suc z) (M k - 1)) 0 (opened z (omega arith) (omega arith)) in
      let l : n ≤ lasts (o k) (suc z) (M k - 1) = lasts_from (o k) (M k - 1) (suc z) n (omega arith) (λ y a b. opened y (omega arith) (omega arith)) in
      omega arith in
      let there : entered o M c (z + L) n ≡ true = entered_later L o per M c z n ∙ entered_from o M c z n off run lower in
      let e₁ : z + L ≡ x + (L - n) = omega arith in
      let e₂ : n ≡ L - (L - n) = omega arith in
      let here : entered o M c (x + (L - n)) (L - (L - n)) ≡ true = subst (λ v. entered o M c (x + (L - n)) v ≡ true) e₂ (subst (λ v. entered o M c v n ≡ true) e₁ there) in
      startable_from L o M c x (record { some = some; stay = stay; way = after (L - n) (omega arith) here })

  -- a tick of a run that has outlasted each lower frame is left, one cycle later, if c stays open long enough
  entered_left : (t j : ℕ) → j < L → entered o M c (t + j) (L - j) ≡ true → ((y : ℕ) → t ≤ y → y < t + M c → o c y ≡ true) → Left L o M c (t + j) (t + L)
  unfolding blocking blocked_by usable
  entered_left t j lt h stay =
      let z : ℕ = t + j in
      let n : ℕ = L - j in
      let each : (k : ℕ) → k < c → blocked_by o (M k) z k ≤ n - 1 = λ k lt.
      cond_both (o k z) (lasts (o k) (suc z) (M k - 1)) 0 (λ v. v ≤ n - 1)
      (λ e.
      ⊎_elim
      (λ less. omega arith)
      (λ more.
      let most = lasts_most (o k) (M k - 1) (suc z) in
      let short : M k ≤ n = entered_short o M c z n h k lt (λ y a b.
      ⊎_elim
      (λ past. lasts_at (o k) (M k - 1) (suc z) y past (omega arith))
      (λ here. let q : z ≡ y = omega arith in subst (λ v. o k v ≡ true) q e)
      (cases_lt z y)) in
      omega arith)
      (cases_lt (lasts (o k) (suc z) (M k - 1)) n))
      (λ _. omega arith) in
      let d : blocking o M c z ≤ n - 1 = greatest_from (λ k. blocked_by o (M k) z k) c (n - 1) each in
      let r : n ≤ lasts (clear o c) (suc z) L = lasts_from (clear o c) L (suc z) n (omega arith) (λ y a b. entered_clear o M c z n h y a (omega arith)) in
      let w : n - 1 + M c ≤ lasts (o c) (suc z) (L + M c) = lasts_from (o c) (L + M c) (suc z) (n - 1 + M c) (omega arith) (λ y a b.
      ⊎_elim
      (λ early. clear_open o c y (entered_clear o M c z n h y a (omega arith)))
      (λ late. let e : y - L + L ≡ y = omega arith in subst (λ v. o c v ≡ true) e (per c (y - L) ∙ stay (y - L) (omega arith) (omega arith)))
      (cases_lt y (suc (z + n)))) in
      (omega arith, omega arith)

  -- a slot among those found is that of a run
  found_of : (late : Bool) (t n : ℕ) → covered L (found late L o M c n) t ≡ true →
      (a : ℕ) × (begins o c (a + L - 1) ≡ true) × (covered L (run_slot late L a (blocking o M c (a + L - 1)) (usable L o (M c) c (a + L - 1))) t ≡ true)
  unfolding found slot_at covered
  found_of late t zero h = absurd (both_ways false refl h)
  found_of late t (suc n) h =
      ⊎_elim
      (λ before. found_of late t n before)
      (λ here. let p = covered_cond L t (begins o c (n + L - 1)) (run_slot late L n (blocking o M c (n + L - 1)) (usable L o (M c) c (n + L - 1))) here in (n, p.0, p.1))
      (or_cases (covered L (found late L o M c n) t) (covered L (slot_at late L o M c n) t) (sym (covered_append L t (found late L o M c n) (slot_at late L o M c n)) ∙ h))

  -- and the slot of each run is found
  found_at : (late : Bool) (t a n : ℕ) → a < n → begins o c (a + L - 1) ≡ true → covered L (run_slot late L a (blocking o M c (a + L - 1)) (usable L o (M c) c (a + L - 1))) t ≡ true → covered L (found late L o M c n) t ≡ true
  unfolding found
  found_at late t a zero lt b h = absurd (omega arith)
  found_at late t a (suc n) lt b h =
      covered_append L t (found late L o M c n) (slot_at late L o M c n)
      ∙ ⊎_elim
      (λ l. or_left (covered L (found late L o M c n) t) (covered L (slot_at late L o M c n) t) (found_at late t a n l b h))
      (λ g.
      let q : a ≡ n = omega arith in
      let e : covered L (slot_at late L o M c a) t ≡ true = ap (λ v. covered L v t) (slot_at_there late L o M c a b) ∙ h in
      or_right (covered L (found late L o M c n) t) (covered L (slot_at late L o M c n) t) (subst (λ v. covered L (slot_at late L o M c v) t ≡ true) q e))
      (cases_lt a n)

  -- at a tick in a slot that is found a frame can start
  found_startable : 0 < M c → (late : Bool) (t : ℕ) → covered L (found late L o M c L) t ≡ true → startable L o M c t ≡ true
  found_startable some late t h =
      let w = found_of late t L h in
      let q = run_slot_ticks L pos w.0 (blocking o M c (w.0 + L - 1)) (usable L o (M c) c (w.0 + L - 1)) t late w.2 in
      let s : startable L o M c (q.0 + L) ≡ true = left_startable some (w.0 + L - 1) (q.0 + L) (begins_parts o c (w.0 + L - 1) w.1).0 (omega (arith, q.1), omega (arith, q.2)) in
      same_place L (startable L o M c) (startable_later L o per M c) t (q.0 + L) (sym (add-mod_right q.0 L ∙ q.3)) ∙ s

  -- at a sure tick a frame can start
  sure_then : (t : ℕ) → sure L o M c t ≡ true → startable L o M c t ≡ true
  unfolding sure covered
  sure_then t h =
      ⊎_elim
      (λ some.
      ⊎_elim
      (λ e.
      let each : (y : ℕ) → clear o c y ≡ true = everywhere L pos (clear o c) (clear_later L o per c) 0 (holds_at (clear o c) 0 L e) in
      startable_from L o M c t (record { some = some; stay = λ y _ _. clear_open o c y (each y); way = always each }))
      (λ e.
      ⊎_elim
      (λ l. found_startable some true t l)
      (λ r. found_startable some false t r)
      (or_cases (covered L (found true L o M c L) t) (covered L (found false L o M c L) t)
      (sym (covered_append L t (found true L o M c L) (found false L o M c L)) ∙ sym (ap (λ v. covered L v t) (slots_found L o M c some e)) ∙ h)))
      (cases_Bool (holds (clear o c) 0 L)))
      (λ le. absurd (both_ways (covered L (slots L o M c) t) (ap (λ v. covered L v t) (slots_none L o M c (omega arith))) h))
      (cases_lt 0 (M c))

  -- where not every tick is clear, a tick of a run that has outlasted each lower frame is sure, if c stays open long enough
  entered_sure : 0 < M c → holds (clear o c) 0 L ≡ false → (t j : ℕ) → j < L → entered o M c (t + j) (L - j) ≡ true → ((y : ℕ) → t ≤ y → y < t + M c → o c y ≡ true) → sure L o M c t ≡ true
  unfolding sure begins
  entered_sure some e t j lt h stay =
      let z : ℕ = t + j in
      let a : ℕ = suc z % L in
      let a_l : a < L = mod-lt (suc z) pos in
      let left = entered_left t j lt h stay in
      let r₁ : a + L - 1 ≡ a + (L - 1) = omega arith in
      let r₂ : suc z + (L - 1) ≡ z + L = omega arith in
      let place : (a + L - 1) % L ≡ z % L = ap (λ v. v % L) r₁ ∙ mod-add-mod (suc z) L (L - 1) ∙ ap (λ v. v % L) r₂ ∙ add-mod_right z L in
      let r₃ : suc z + (L - 1 - j) ≡ t + L = omega arith in
      let there : (a + (L - 1 - j)) % L ≡ t % L = mod-add-mod (suc z) L (L - 1 - j) ∙ ap (λ v. v % L) r₃ ∙ add-mod_right t L in
      let now : begins o c z ≡ true =
      and_from (not (clear o c z)) (clear o c (suc z)) (not_from_false (clear o c z) (entered_begins o M c z (L - j) h)) (entered_clear o M c z (L - j) h (suc z) (omega arith) (omega arith)) in
      let b : begins o c (a + L - 1) ≡ true = same_place L (begins o c) begins_later (a + L - 1) z place ∙ now in
      let f₁ : blocking o M c (a + L - 1) ≡ blocking o M c z = same_place L (blocking o M c) blocking_later (a + L - 1) z place in
      let f₂ : usable L o (M c) c (a + L - 1) ≡ usable L o (M c) c z = same_place L (usable L o (M c) c) usable_later (a + L - 1) z place in
      ap (λ v. covered L v t) (slots_found L o M c some e)
      ∙ covered_append L t (found true L o M c L) (found false L o M c L)
      ∙ ⊎_elim
      (λ late. or_left (covered L (found true L o M c L) t) (covered L (found false L o M c L) t) (found_at true t a L a_l b late))
      (λ early. or_right (covered L (found true L o M c L) t) (covered L (found false L o M c L) t) (found_at false t a L a_l b early))
      (run_slot_tick L pos a (blocking o M c (a + L - 1)) (usable L o (M c) c (a + L - 1)) t (a + (L - 1 - j)) (omega arith) (omega arith) there)

  -- a tick at which a frame can start is sure
  startable_then : (t : ℕ) → startable L o M c t ≡ true → sure L o M c t ≡ true
  unfolding sure since
  startable_then t h =
      let s = is_startable L o M c pos per t h in
      ⊎_elim
      (λ e. ap (λ v. covered L v t) (slots_always L o M c s.some e) ∙ covered_one L t (slot 0 L) ∙ lt_in_slot L (slot 0 L) t (mod-lt _ pos))
      (λ e.
      elim s.way [
        | always each ↦ absurd (both_ways (holds (clear o c) 0 L) e (holds_from (clear o c) 0 L (λ y _ _. each y)))
        | after j lt k ↦ entered_sure s.some e t j lt k s.stay
      ])
      (cases_Bool (holds (clear o c) 0 L))

-- a tick is in a slot exactly if a waiting frame is sure to start there
pub sure_startable : SureStartable
sure_startable L pos o per M c t = bool_eq (sure L o M c t) (startable L o M c t) (sure_then L pos o per M c t) (startable_then L pos o per M c t)
