-- What a supply keeps to, and the least span at which it has enough. Assumes nothing.
use Rattle.std.specs.Prelude.{◌≡◌, ℕ, ◌+◌, ◌<◌, ◌≤◌}
use Rattle.units.specs.Limits.{most_span}

-- it supplies nothing in no ticks, never less in more ticks, and at most one byte more in a tick more
pub record SupplyLaws {X : Type 0} (supplied : X → ℕ → ℕ) : Type 0 where
  pub none : (s : X) → supplied s 0 ≡ 0
  pub rises : (s : X) (n : ℕ) → supplied s n ≤ supplied s (n + 1)
  pub slow : (s : X) (n : ℕ) → supplied s (n + 1) ≤ supplied s n + 1

-- r is the least span in which `bytes` are supplied, and it is no longer than may be asked about
abbrev pub LeastSpan : (ℕ → ℕ) → ℕ → ℕ → Type 0
LeastSpan supplied bytes r = (r ≤ most_span) × (bytes ≤ supplied r) × ((x : ℕ) → bytes ≤ supplied x → r ≤ x)

-- no span that may be asked about has as many
abbrev pub NoSpan : (ℕ → ℕ) → ℕ → Type 0
NoSpan supplied bytes = (x : ℕ) → x ≤ most_span → supplied x < bytes
