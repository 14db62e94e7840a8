-- Delay and held bytes, where an envelope alpha meets a supply beta. Assumes nothing.
use Rattle.std.specs.Prelude.{ℕ, suc, ◌-◌, nat_le}
use Rattle.units.specs.Limits.{most_span}
use Rattle.calculus.specs.Searches.{first, greatest}

module _ (alpha beta : ℕ → ℕ) where
  -- the closing span: the least of 1 to 4,000,000 in which as much is supplied as may arrive, and 4,000,001 where there is none
  unfoldable pub closing : ℕ
  closing = first (λ d. nat_le (alpha d) (beta d)) 1 most_span

  -- the least span in which as much is supplied as may arrive in d ticks
  unfoldable pub span_for : ℕ → ℕ
  span_for d = first (λ x. nat_le (alpha d) (beta x)) 0 (suc most_span)

  -- how long what arrives in the last of d ticks of a busy period can wait
  unfoldable pub delay_at : ℕ → ℕ
  delay_at d = span_for d - (d - 1)

  -- how many bytes can be unsent in the last of d ticks of a busy period
  unfoldable pub held_at : ℕ → ℕ
  held_at d = alpha d - beta (d - 1)

  -- the delay: the greatest over the spans from 1 to the closing span
  unfoldable pub delay : ℕ
  delay = greatest (λ i. delay_at (suc i)) closing

  -- the held bytes likewise
  unfoldable pub held : ℕ
  held = greatest (λ i. held_at (suc i)) closing
