-- Clear ticks, runs that outlast each lower frame, and the ticks at which a waiting frame can start: how they repeat with the cycle,
-- and what such a tick has. Assumes nothing.
use Rattle.std.proofs.Common.{◌≡◌, ℕ, suc, ◌+◌, ◌-◌, ◌<◌, ◌≤◌, Bool, true, false, not, ◌&&◌, ◌||◌, ltb, leb, ap, ◌∙◌, ⊎_elim, arith}
use Rattle.std.proofs.lemmas.Bool.{and_parts, and_from, or_cases, or_left, or_right, cases_Bool, cases_lt, both_ways, not-true, not_from_false, ltb-true, lt-ltb, leb-true, le-leb}
use Rattle.calculus.specs.Searches.{all, any, holds}
use Rattle.calculus.proofs.Bounded.{all_at, all_from, all_same, holds_at, holds_from, any_at, any_from, any_same}
use Rattle.calculus.proofs.Cycles.{later, everywhere, holds_later}
use Rattle.sure_ticks.specs.Runs.{clear}
use Rattle.sure_ticks.specs.Startable.{entered, startable}
use Rattle.sure_ticks.specs.Laws.{Repeats}
use Rattle.sure_ticks.proofs.Found.{clear_same}

-- a class is open where it is clear
pub clear_open : (o : ℕ → ℕ → Bool) (c t : ℕ) → clear o c t ≡ true → o c t ≡ true
unfolding clear
clear_open o c t h = (and_parts (o c t) _ h).0

-- the run that begins right after z, and has outlasted each lower frame by its n-th tick
module _ (o : ℕ → ℕ → Bool) (M : ℕ → ℕ) (c z n : ℕ) where
  -- the class is clear up to there
  pub entered_clear : entered o M c z n ≡ true → (y : ℕ) → z < y → y ≤ z + n → clear o c y ≡ true
  unfolding entered
  entered_clear h y a b =
      holds_at (clear o c) (suc z) n (and_parts (not (clear o c z)) (holds (clear o c) (suc z) n) (and_parts (not (clear o c z) && holds (clear o c) (suc z) n) _ h).0).1 y a (omega arith)

  -- it is not clear at z
  pub entered_begins : entered o M c z n ≡ true → clear o c z ≡ false
  unfolding entered
  entered_begins h =
      not-true (clear o c z) (and_parts (not (clear o c z)) (holds (clear o c) (suc z) n) (and_parts (not (clear o c z) && holds (clear o c) (suc z) n) _ h).0).0

  -- a lower class that is open all the while has short frames only
  pub entered_short : entered o M c z n ≡ true → (k : ℕ) → k < c → ((y : ℕ) → z ≤ y → y ≤ z + n → o k y ≡ true) → M k ≤ n
  unfolding entered
  entered_short h k lt opened =
      let each = (and_parts (not (clear o c z) && holds (clear o c) (suc z) n) (all (λ k. leb (M k) n || not (holds (o k) z (suc n))) c) h).1 in
      let long : holds (o k) z (suc n) ≡ true = holds_from (o k) z (suc n) (λ y a b. opened y a (omega arith)) in
      ⊎_elim
      (λ e. leb-true (M k) n e)
      (λ e. absurd (both_ways (holds (o k) z (suc n)) (not-true (holds (o k) z (suc n)) e) long))
      (or_cases (leb (M k) n) (not (holds (o k) z (suc n))) (all_at (λ k. leb (M k) n || not (holds (o k) z (suc n))) c each k lt))

  -- these three are all that it takes
  pub entered_from : clear o c z ≡ false → ((y : ℕ) → z < y → y ≤ z + n → clear o c y ≡ true) → ((k : ℕ) → k < c → n < M k → ((y : ℕ) → z ≤ y → y ≤ z + n → o k y ≡ true) → ⊥) → entered o M c z n ≡ true
  unfolding entered
  entered_from begins run lower =
      let each : (k : ℕ) → k < c → (leb (M k) n || not (holds (o k) z (suc n))) ≡ true = λ k lt.
      ⊎_elim
      (λ long.
      ⊎_elim
      (λ e. absurd (lower k lt long (λ y a b. holds_at (o k) z (suc n) e y a (omega arith))))
      (λ e. or_right (leb (M k) n) (not (holds (o k) z (suc n))) (not_from_false (holds (o k) z (suc n)) e))
      (cases_Bool (holds (o k) z (suc n))))
      (λ short. or_left (leb (M k) n) (not (holds (o k) z (suc n))) (le-leb (M k) n short))
      (cases_lt n (M k)) in
      and_from (not (clear o c z) && holds (clear o c) (suc z) n) _
      (and_from (not (clear o c z)) (holds (clear o c) (suc z) n) (not_from_false (clear o c z) begins) (holds_from (clear o c) (suc z) n (λ y a b. run y a (omega arith))))
      (all_from (λ k. leb (M k) n || not (holds (o k) z (suc n))) c each)

-- gates that repeat with the cycle
module _ (L : ℕ) (o : ℕ → ℕ → Bool) (per : Repeats L o) where
  -- a class is clear again one cycle later
  pub clear_later : (c t : ℕ) → clear o c (t + L) ≡ clear o c t
  clear_later c t = clear_same o o c (t + L) t (λ k. per k t)

  -- a run outlasts the lower frames again one cycle later
  pub entered_later : (M : ℕ → ℕ) (c z n : ℕ) → entered o M c (z + L) n ≡ entered o M c z n
  unfolding entered
  entered_later M c z n =
      let e : suc (z + L) ≡ suc z + L = omega arith in
      let a : clear o c (z + L) ≡ clear o c z = clear_later c z in
      let b : holds (clear o c) (suc (z + L)) n ≡ holds (clear o c) (suc z) n = ap (λ v. holds (clear o c) v n) e ∙ holds_later L (clear o c) (clear_later c) (suc z) n in
      let d : all (λ k. leb (M k) n || not (holds (o k) (z + L) (suc n))) c ≡ all (λ k. leb (M k) n || not (holds (o k) z (suc n))) c =
      all_same (λ k. leb (M k) n || not (holds (o k) (z + L) (suc n))) (λ k. leb (M k) n || not (holds (o k) z (suc n))) c
      (λ k _. ap (λ b. leb (M k) n || not b) (holds_later L (o k) (per k) z (suc n))) in
      cc

  -- a frame can start again one cycle later
  pub startable_later : (M : ℕ → ℕ) (c t : ℕ) → startable L o M c (t + L) ≡ startable L o M c t
  unfolding startable
  startable_later M c t =
      let a : holds (o c) (t + L) (M c) ≡ holds (o c) t (M c) = holds_later L (o c) (per c) t (M c) in
      let b : holds (clear o c) (t + L) L ≡ holds (clear o c) t L = holds_later L (clear o c) (clear_later c) t L in
      let d : any (λ j. entered o M c (t + L + j) (L - j)) L ≡ any (λ j. entered o M c (t + j) (L - j)) L =
      any_same (λ j. entered o M c (t + L + j) (L - j)) (λ j. entered o M c (t + j) (L - j)) L
      (λ j _. later L (λ z. entered o M c z (L - j)) (λ z. entered_later M c z (L - j)) j t) in
      cc

-- the ticks at which a waiting frame of c can start
module _ (L : ℕ) (o : ℕ → ℕ → Bool) (M : ℕ → ℕ) (c : ℕ) where
  -- why no other frame is in the way at the tick t: every tick is clear, or the run around t + L, which begins right after t + j, has outlasted each lower frame
  pub data Way (t : ℕ) : Type 0 where
    always : ((y : ℕ) → clear o c y ≡ true) → Way t
    after : (j : ℕ) → j < L → entered o M c (t + j) (L - j) ≡ true → Way t

  -- what such a tick has: there are frames, c stays open for the largest of them, and no other frame is in the way
  pub record Startable (t : ℕ) : Type 0 where
    pub some : 0 < M c
    pub stay : (y : ℕ) → t ≤ y → y < t + M c → o c y ≡ true
    pub way : Way t

  -- the test, taken apart
  pub is_startable : 0 < L → Repeats L o → (t : ℕ) → startable L o M c t ≡ true → Startable t
  unfolding startable
  is_startable pos per t h =
      let p = and_parts (ltb 0 (M c) && holds (o c) t (M c)) (holds (clear o c) t L || any (λ j. entered o M c (t + j) (L - j)) L) h in
      let s = and_parts (ltb 0 (M c)) (holds (o c) t (M c)) p.0 in
      record {
        some = ltb-true 0 (M c) s.0;
        stay = holds_at (o c) t (M c) s.1;
        way =
            ⊎_elim
            (λ e. always (everywhere L pos (clear o c) (clear_later L o per c) t (holds_at (clear o c) t L e)))
            (λ e. let w = any_at (λ j. entered o M c (t + j) (L - j)) L e in after w.0 w.1 w.2)
            (or_cases (holds (clear o c) t L) (any (λ j. entered o M c (t + j) (L - j)) L) p.1);
      }

  -- and put together
  pub startable_from : (t : ℕ) → Startable t → startable L o M c t ≡ true
  unfolding startable
  startable_from t s =
      and_from (ltb 0 (M c) && holds (o c) t (M c)) (holds (clear o c) t L || any (λ j. entered o M c (t + j) (L - j)) L)
      (and_from (ltb 0 (M c)) (holds (o c) t (M c)) (lt-ltb 0 (M c) s.some) (holds_from (o c) t (M c) s.stay))
      (elim s.way [
        | always each ↦ or_left (holds (clear o c) t L) _ (holds_from (clear o c) t L (λ y _ _. each y))
        | after j lt h ↦ or_right (holds (clear o c) t L) _ (any_from (λ j. entered o M c (t + j) (L - j)) L j lt h)
      ])
