-- What repeats with a cycle. Assumes nothing.
use Rattle.std.proofs.Common.{◌≡◌, ℕ, zero, suc, ◌+◌, ◌-◌, ◌*◌, ◌/◌, ◌%◌, ◌<◌, ◌≤◌, Bool, true, sym, ap, ◌∙◌, mod-lt, mul-le-mul_left, arith}
use native.Mathlib.Nat.{mod-add-div'}
use Rattle.calculus.specs.Searches.{holds}
use Rattle.calculus.proofs.Bounded.{all_same}

-- what repeats with the cycle L
module _ {A : Type 0} (L : ℕ) (g : ℕ → A) (per : (t : ℕ) → g (t + L) ≡ g t) where
  -- any number of cycles later
  pub times : (q t : ℕ) → g (t + q * L) ≡ g t
  times zero t = let e : t + 0 * L ≡ t = omega arith in ap g e
  times (suc q) t = let e : t + suc q * L ≡ (t + q * L) + L = omega arith in ap g e ∙ per (t + q * L) ∙ times q t

  -- the same place of the first cycle
  pub in_cycle : (t : ℕ) → g (t % L) ≡ g t
  in_cycle t = sym (times (t / L) (t % L)) ∙ ap g (mod-add-div' t L)

  -- one cycle later, some ticks on
  pub later : (j t : ℕ) → g (t + L + j) ≡ g (t + j)
  later j t = let e : t + L + j ≡ t + j + L = omega arith in ap g e ∙ per (t + j)

-- what passes at each tick of one cycle passes at every tick
pub everywhere : (L : ℕ) → 0 < L → (f : ℕ → Bool) → ((t : ℕ) → f (t + L) ≡ f t) → (x : ℕ) → ((y : ℕ) → x ≤ y → y < x + L → f y ≡ true) → (y : ℕ) → f y ≡ true
everywhere L pos f per x h y =
    let big : x * 1 ≤ x * L = mul-le-mul_left x pos in
    let d : ℕ = y + x * L - x in
    let e : x + d ≡ y + x * L = omega arith in
    let small : d % L < L = mod-lt d pos in
    let there : f (x + d % L) ≡ f (x + d) = in_cycle L (λ j. f (x + j)) (λ j. let e : x + (j + L) ≡ x + j + L = omega arith in ap f e ∙ per (x + j)) d in
    sym (times L f per x y) ∙ sym (ap f e) ∙ sym there ∙ h (x + d % L) (omega arith) (omega arith)

-- how long a test holds repeats with the test
pub holds_later : (L : ℕ) (f : ℕ → Bool) → ((t : ℕ) → f (t + L) ≡ f t) → (t n : ℕ) → holds f (t + L) n ≡ holds f t n
unfolding holds
holds_later L f per t n = all_same (λ j. f (t + L + j)) (λ j. f (t + j)) n (λ j _. later L f per j t)
