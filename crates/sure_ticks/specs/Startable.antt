-- The ticks at which a waiting frame is sure to start, without runs or slots. Assumes nothing.
use Rattle.std.specs.Prelude.{ℕ, suc, ◌+◌, ◌-◌, Bool, not, ◌&&◌, ◌||◌, nat_le, nat_lt}
use Rattle.calculus.specs.Searches.{all, any, holds}
use Rattle.sure_ticks.specs.Runs.{clear}

-- A clear run of c begins right after the tick z and lasts for n ticks or more; and no frame of a lower class that started at z or
-- before holds the last of the n, since it is too short for that or its gate shuts first
unfoldable pub entered : (ℕ → ℕ → Bool) → (ℕ → ℕ) → ℕ → ℕ → ℕ → Bool
entered o M c z n = not (clear o c z) && holds (clear o c) (suc z) n && all (λ k. nat_le (M k) n || not (holds (o k) z (suc n))) c

-- A frame of c that is first in its queue can start at the tick t, whatever came before: c stays open long enough, and either
-- every tick is clear or the clear run around t has outlasted each lower frame. The run is looked for one cycle after t, where each
-- tick has one before it
unfoldable pub startable : ℕ → (ℕ → ℕ → Bool) → (ℕ → ℕ) → ℕ → ℕ → Bool
startable L o M c t = nat_lt 0 (M c) && holds (o c) t (M c) && (holds (clear o c) t L || any (λ j. entered o M c (t + j) (L - j)) L)
