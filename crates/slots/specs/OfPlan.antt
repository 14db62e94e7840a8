-- Slots, sure ticks and block of a class of a plan. Assumes nothing.
use Rattle.std.specs.Prelude.{ℕ, List}
use Rattle.gates.specs.Opened.{opened}
use Rattle.gates.specs.Sizes.{hold}
use Rattle.reader.specs.Contents.{Contents, largest_of}
use Rattle.sure_ticks.specs.declared.slot.Slot.{Slot}
use Rattle.sure_ticks.specs.Slots.{slots}
use Rattle.sure_ticks.specs.Sure.{sure_tick_count, block}

-- for how many ticks the largest frame of the class k holds the wire
abbrev pub longest : Contents → ℕ → ℕ
longest s k = hold (largest_of s.classes k)

-- the slots of the class c
abbrev pub slots_of : Contents → ℕ → List Slot
slots_of s c = slots s.cycle (opened s.gates) (longest s) c

-- how many ticks of a cycle are sure for the class c
abbrev pub sure_ticks_of : Contents → ℕ → ℕ
sure_ticks_of s c = sure_tick_count s.cycle (opened s.gates) (longest s) c

-- the block of the class c
abbrev pub block_of : Contents → ℕ → ℕ
block_of s c = block s.cycle (opened s.gates) (longest s) c
