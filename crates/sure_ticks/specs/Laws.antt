-- What holds of the sure ticks of every class. Assumes nothing.
use Rattle.std.specs.Prelude.{◌≡◌, ℕ, ◌+◌, ◌<◌, Bool, true, ◌&&◌, List, [], ◌∷◌, nat_le, nat_lt}
use Rattle.sure_ticks.specs.declared.slot.Slot.{Slot}
use Rattle.sure_ticks.specs.Slots.{slots}
use Rattle.sure_ticks.specs.Sure.{sure, sure_tick_count, lengths}
use Rattle.sure_ticks.specs.Startable.{startable}

-- the gates repeat with the cycle
abbrev pub Repeats : ℕ → (ℕ → ℕ → Bool) → Type 0
Repeats L o = (k t : ℕ) → o k (t + L) ≡ o k t

-- where the first of the slots begins, and the limit where there is none
unfoldable pub next : ℕ → List Slot → ℕ
next limit [] = limit
next limit (s ∷ ss) = s.begin.0

-- each slot begins in the cycle, has a tick, and ends by the time the next begins, the last one by the limit
unfoldable pub chained : ℕ → ℕ → List Slot → Bool
chained L limit [] = true
chained L limit (s ∷ ss) = ((nat_lt s.begin.0 L && nat_lt 0 s.length.0) && nat_le (s.begin.0 + s.length.0) (next limit ss)) && chained L limit ss

-- slots by rising beginning, no two of which share a tick; nor does the last with the first of the next cycle
abbrev pub Apart : ℕ → List Slot → Type 0
Apart L ss = chained L (next 0 ss + L) ss ≡ true

-- the slots of a class rise and are apart
abbrev pub SlotsApart : Type 0
SlotsApart = (L : ℕ) → 0 < L → (o : ℕ → ℕ → Bool) → Repeats L o → (M : ℕ → ℕ) (c : ℕ) → Apart L (slots L o M c)

-- the sure ticks of a cycle are the lengths of its slots, added
abbrev pub SureLengths : Type 0
SureLengths = (L : ℕ) → 0 < L → (o : ℕ → ℕ → Bool) → Repeats L o → (M : ℕ → ℕ) (c : ℕ) → sure_tick_count L o M c ≡ lengths (slots L o M c)

-- a tick is in a slot exactly if a waiting frame is sure to start there
abbrev pub SureStartable : Type 0
SureStartable = (L : ℕ) → 0 < L → (o : ℕ → ℕ → Bool) → Repeats L o → (M : ℕ → ℕ) (c t : ℕ) → sure L o M c t ≡ startable L o M c t
