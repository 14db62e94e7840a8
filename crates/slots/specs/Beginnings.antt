-- Where the slot of a run begins. Assumes nothing.
use Rattle.std.specs.Prelude.{Bool, true, false}
use Rattle.slots.specs.declared.runs.Beginning.{Beginning}
use Rattle.slots.specs.declared.runs.Beginning.TheVariants.{SameCycle, NextCycle}

-- whether it is late, past the end of the cycle in which the run begins
abbrev pub late : Beginning → Bool
late SameCycle = false
late NextCycle = true
