-- The next span in which more may arrive. Assumes nothing.
use Rattle.std.proofs.Common.{ℕ, ◌<◌, ◌≤◌}

-- low and high lie in the spans from `from` to `to`: at low no more than so many bytes may arrive, and at high more
pub record Between (alpha : ℕ → ℕ) (from to bytes low high : ℕ) : Type 0 where
  pub begins : from ≤ low
  pub ends : high ≤ to
  pub onward : low < high
  pub flat : alpha low ≤ bytes
  pub risen : bytes < alpha high
