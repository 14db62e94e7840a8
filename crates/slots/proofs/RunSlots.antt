-- The slot of a run, where it is asked for and where it is not. Assumes nothing.
use Rattle.std.proofs.Common.{◌≡◌, ℕ, ◌+◌, ◌-◌, ◌%◌, ◌<◌, Bool, true, false, ltb, leb, [], ◌∷◌}
use Rattle.std.proofs.lemmas.Bool.{ltb-true, ltb-false, leb-true, leb-false}
use Rattle.sure_ticks.specs.Slots.{slot, run_slot}
use Rattle.sure_ticks.proofs.Found.{run_slot_early, run_slot_late}
use Rattle.slots.specs.declared.runs.Beginning.{Beginning}
use Rattle.slots.specs.declared.runs.Beginning.TheVariants.{SameCycle, NextCycle}
use Rattle.slots.specs.Beginnings.{late}

-- whether a slot that begins at the tick t, counted from the cycle's beginning, begins where it is asked for
abbrev pub here : Beginning → ℕ → ℕ → Bool
here SameCycle L t = ltb t L
here NextCycle L t = leb L t

-- a run that is usable for longer than it waits
module _ (L a d e : ℕ) (lt : d < e) where
  -- its slot is there if it begins where it is asked for
  pub slot_here : (b : Beginning) → here b L (a + d) ≡ true → run_slot (late b) L a d e ≡ (slot ((a + d) % L) (e - d) ∷ [])
  slot_here SameCycle h = run_slot_early false L a d e lt (ltb-true (a + d) L h)
  slot_here NextCycle h = run_slot_late true L a d e lt (leb-true L (a + d) h)

  -- and not if it begins elsewhere
  pub slot_elsewhere : (b : Beginning) → here b L (a + d) ≡ false → run_slot (late b) L a d e ≡ []
  slot_elsewhere SameCycle h = run_slot_late false L a d e lt (ltb-false (a + d) L h)
  slot_elsewhere NextCycle h = run_slot_early true L a d e lt (leb-false L (a + d) h)
