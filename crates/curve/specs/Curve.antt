-- The least number of sure ticks in any window of a length, and the curve of a class. Assumes nothing.
use Rattle.std.specs.Prelude.{ℕ, ◌-◌, Bool, List}
use Rattle.calculus.specs.Searches.{count, least}
use Rattle.sure_ticks.specs.declared.slot.Slot.{Slot}
use Rattle.sure_ticks.specs.Sure.{covered, sure, block}

-- the least number of ticks in the slots, of any n ticks in a row
unfoldable pub least_covered : ℕ → List Slot → ℕ → ℕ
least_covered L ss n = least (λ t. count (covered L ss) t n) L

-- the least number of sure ticks, of any n ticks in a row
unfoldable pub least_sure : ℕ → (ℕ → ℕ → Bool) → (ℕ → ℕ) → ℕ → ℕ → ℕ
least_sure L o M c n = least (λ t. count (sure L o M c) t n) L

-- the curve of c: the bytes that it is sure to send in n ticks in a row that each begin with unsent bytes of it
unfoldable pub curve : ℕ → (ℕ → ℕ → Bool) → (ℕ → ℕ) → ℕ → ℕ → ℕ
curve L o M c n = least_sure L o M c n - block L o M c
