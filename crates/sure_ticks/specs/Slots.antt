-- The slots of a class. Assumes nothing.
use Rattle.std.specs.Prelude.{ℕ, zero, suc, ◌+◌, ◌-◌, ◌%◌, Bool, true, false, cond, not, List, [], ◌∷◌, ◌++◌, nat_lt}
use Rattle.calculus.specs.Searches.{holds}
use Rattle.sure_ticks.specs.declared.slot.Slot.{Slot}
use Rattle.sure_ticks.specs.Runs.{clear, begins, blocking, usable}

-- the slot that begins at the tick b and has n ticks
abbrev pub slot : ℕ → ℕ → Slot
slot b n = record { begin = record { 0 = b }; length = record { 0 = n } }

-- The slot of a run that begins at the tick a of the cycle, waits for d ticks and is usable for e: the ticks that are left, if any
-- are. It is asked for either among the late ones, which begin past the cycle's end, or among the others
unfoldable pub run_slot : Bool → ℕ → ℕ → ℕ → ℕ → List Slot
run_slot late L a d e = cond (nat_lt d e) (cond (cond (nat_lt (a + d) L) (not late) late) (slot ((a + d) % L) (e - d) ∷ []) []) []

-- the slot of the run that begins at the tick a of the cycle, if one does; the tick before a is looked for one cycle later
unfoldable pub slot_at : Bool → ℕ → (ℕ → ℕ → Bool) → (ℕ → ℕ) → ℕ → ℕ → List Slot
slot_at late L o M c a = cond (begins o c (a + L - 1)) (run_slot late L a (blocking o M c (a + L - 1)) (usable L o (M c) c (a + L - 1))) []

-- the slots of the runs that begin at the first n ticks of the cycle
unfoldable pub found : Bool → ℕ → (ℕ → ℕ → Bool) → (ℕ → ℕ) → ℕ → ℕ → List Slot
found late L o M c zero = []
found late L o M c (suc a) = found late L o M c a ++ slot_at late L o M c a

-- The slots of c by rising beginning: those that begin in the cycle after their run's come first. A class that sends nothing has
-- none, and where every tick is clear the one slot is the cycle
unfoldable pub slots : ℕ → (ℕ → ℕ → Bool) → (ℕ → ℕ) → ℕ → List Slot
slots L o M c = cond (nat_lt 0 (M c)) (cond (holds (clear o c) 0 L) (slot 0 L ∷ []) (found true L o M c L ++ found false L o M c L)) []
