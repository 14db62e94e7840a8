-- What a row of envelopes comes to, one after another. Assumes nothing.
use Rattle.std.proofs.Common.{◌≡◌, ℕ, zero, suc, ◌<◌, ◌≤◌, min, List, [], ◌∷◌, length, get_or, Err, fold, ap, arith}
use Rattle.std.proofs.lemmas.Bool.Decides.{nat_tests}
use Rattle.units.specs.Limits.{flow_reach}
use Rattle.units.specs.declared.refusal.Refusal.{Refusal}
use Rattle.units.specs.declared.refusal.Refusal.TheVariants.{BeyondReach}
use Rattle.envelope.specs.Answers.{answer}
use Rattle.envelope.specs.Totals.{sum_at, least_reach}

-- what a refusal says
pub answer_err : (reach : ℕ) (alpha : ℕ → ℕ) (span : ℕ) (w : Refusal) → Err w ≡ answer reach alpha span → (reach < span) × (w ≡ BeyondReach)
answer_err reach alpha span w e = grind (arith, nat_tests)

-- the least of numbers
module _ {X : Type 0} (f : X → ℕ) where
  -- it is at most the number it begins with
  least_le : (a : ℕ) (xs : List X) → fold (λ b x. min b (f x)) a xs ≤ a
  least_le a [] = omega arith
  least_le a (x ∷ xs) = omega (arith, least_le (min a (f x)) xs)

  -- and at most each
  least_at : (a : ℕ) (xs : List X) (i : ℕ) (d : X) → i < length xs → fold (λ b x. min b (f x)) a xs ≤ f (get_or xs i d)
  least_at a [] i d h = absurd (omega arith)
  least_at a (x ∷ xs) zero d h = omega (arith, least_le (min a (f x)) xs)
  least_at a (x ∷ xs) (suc i) d h = least_at (min a (f x)) xs i d (omega arith)

  -- the least reach is at most that of each envelope
  pub least_reach_at : (xs : List X) (i : ℕ) (d : X) → i < length xs → least_reach f xs ≤ f (get_or xs i d)
  least_reach_at xs i d h = least_at flow_reach xs i d h

-- a loop that asks each envelope of a row in turn
module _ {X : Type 0} (reach : X → ℕ) (alpha : X → ℕ → ℕ) (xs : List X) (span : ℕ) where
  -- a span beyond every reach
  pub total_far : flow_reach < span → Err BeyondReach ≡ answer (least_reach reach xs) (sum_at alpha xs) span
  total_far far = let top = least_le reach flow_reach xs in grind (arith, nat_tests)

  -- one that refuses
  pub total_stops : (i : ℕ) (x : X) (w : Refusal) → i < length xs → x ≡ get_or xs i x → Err w ≡ answer (reach x) (alpha x) span → Err w ≡ answer (least_reach reach xs) (sum_at alpha xs) span
  total_stops i x w h read told =
      let here = answer_err (reach x) (alpha x) span w told in
      let near = least_reach_at reach xs i x h in
      let q = ap reach read in
      grind (arith, nat_tests)
