-- The sure ticks of a class, and its block. Assumes nothing.
use Rattle.std.specs.Prelude.{ℕ, ◌+◌, ◌-◌, ◌%◌, Bool, false, cond, ◌&&◌, ◌||◌, List, [], ◌∷◌, sum_by, nat_lt}
use Rattle.calculus.specs.Searches.{any, count, greatest}
use Rattle.sure_ticks.specs.declared.slot.Slot.{Slot}
use Rattle.sure_ticks.specs.Slots.{slots}

-- how many ticks ago the slot last began, at the tick t
unfoldable pub since : ℕ → Slot → ℕ → ℕ
since L s t = (t % L + L - s.begin.0) % L

-- the tick t is in the slot
unfoldable pub in_slot : ℕ → Slot → ℕ → Bool
in_slot L s t = nat_lt (since L s t) s.length.0

-- the tick t is in one of the slots
unfoldable pub covered : ℕ → List Slot → ℕ → Bool
covered L [] t = false
covered L (s ∷ ss) t = in_slot L s t || covered L ss t

-- the tick t is sure for the class c: it is in a slot
unfoldable pub sure : ℕ → (ℕ → ℕ → Bool) → (ℕ → ℕ) → ℕ → ℕ → Bool
sure L o M c t = covered L (slots L o M c) t

-- how many ticks of a cycle are sure
unfoldable pub sure_tick_count : ℕ → (ℕ → ℕ → Bool) → (ℕ → ℕ) → ℕ → ℕ
sure_tick_count L o M c = count (sure L o M c) 0 L

-- the lengths of slots, added
unfoldable pub lengths : List Slot → ℕ
lengths ss = sum_by (λ s. s.length.0) ss

-- how much of a frame of the class k can be on the wire when a busy period begins: all but a tick of it, if k is open at a sure tick
unfoldable pub block_of : ℕ → (ℕ → ℕ → Bool) → (ℕ → ℕ) → ℕ → ℕ → ℕ
block_of L o M c k = cond (any (λ t. sure L o M c t && o k t) L) (M k - 1) 0

-- the block of c: the greatest over the lower classes
unfoldable pub block : ℕ → (ℕ → ℕ → Bool) → (ℕ → ℕ) → ℕ → ℕ
block L o M c = greatest (block_of L o M c) c
