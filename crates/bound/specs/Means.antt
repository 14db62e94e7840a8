-- What delay and held bytes mean, by relations, with no difference that could stop at 0. Assumes nothing.
use Rattle.std.specs.Prelude.{◌≡◌, ℕ, ◌+◌, ◌-◌, ◌<◌, ◌≤◌}
use Rattle.units.specs.Limits.{most_span}
use Rattle.bound.specs.Bounds.{closing, delay, held}

-- d is the least of low to high at which P holds
pub record IsLeast (P : ℕ → Type 0) (low high d : ℕ) : Type 0 where
  pub from : low ≤ d
  pub to : d ≤ high
  pub holds : P d
  pub before : (j : ℕ) → low ≤ j → j < d → P j → ⊥

-- m is the greatest of the values v that stand in V to some d of low to high
pub record IsGreatest (V : ℕ → ℕ → Type 0) (low high m : ℕ) : Type 0 where
  pub every : (d v : ℕ) → low ≤ d → d ≤ high → V d v → v ≤ m
  pub some : (d : ℕ) × (low ≤ d) × (d ≤ high) × V d m

-- what arrives in the last of d ticks has left v ticks after that tick began
abbrev pub Waits : (ℕ → ℕ) → (ℕ → ℕ) → ℕ → ℕ → Type 0
Waits alpha beta d v = IsLeast (λ x. alpha d ≤ beta x) 0 most_span (v + (d - 1))

-- v bytes of what may arrive in d ticks can be unsent in the last of them
abbrev pub Unsent : (ℕ → ℕ) → (ℕ → ℕ) → ℕ → ℕ → Type 0
Unsent alpha beta d v = v + beta (d - 1) ≡ alpha d

-- n is the closing span, and delay and held bytes are the greatest wait and the most unsent bytes over the spans up to it
pub record BoundIs (alpha beta : ℕ → ℕ) (n : ℕ) : Type 0 where
  pub closes : IsLeast (λ d. alpha d ≤ beta d) 1 most_span n
  pub delay_is : IsGreatest (Waits alpha beta) 1 n (delay alpha beta)
  pub held_is : IsGreatest (Unsent alpha beta) 1 n (held alpha beta)

-- of every envelope and supply: the definitions mean that where there is a closing span, and where there is none, no span closes
pub record Means (alpha beta : ℕ → ℕ) : Type 0 where
  pub closed : closing alpha beta ≤ most_span → BoundIs alpha beta (closing alpha beta)
  pub never : most_span < closing alpha beta → (d : ℕ) → 1 ≤ d → d ≤ most_span → alpha d ≤ beta d → ⊥

-- for alpha and beta that start at 0 and never fall
abbrev pub BoundsMean : Type 0
BoundsMean =
    (alpha beta : ℕ → ℕ) → ((i j : ℕ) → i ≤ j → alpha i ≤ alpha j) → beta 0 ≡ 0 → ((i : ℕ) → beta i ≤ beta (i + 1)) → Means alpha beta
