-- Slots as they are written into a list of numbers. Assumes nothing.
use Rattle.std.specs.Prelude.{◌≡◌, ℕ, ◌*◌, ◌^◌, ◌<◌, ◌≤◌, ◌⊎◌, List, [], ◌∷◌}
use Rattle.units.specs.Limits.{most_slots}
use Rattle.units.specs.declared.refusal.Refusal.{Refusal}
use Rattle.units.specs.declared.refusal.Refusal.TheVariants.{NoClass, SlotSpace}
use Rattle.sure_ticks.specs.declared.slot.Slot.{Slot}

-- beginnings and lengths by turns
unfoldable pub turns : List Slot → List ℕ
turns [] = []
turns (s ∷ ss) = s.begin.0 ∷ s.length.0 ∷ turns ss

-- a slot whose numbers have 32 bits
abbrev pub Small : Slot → Type 0
Small s = (s.begin.0 < 2 ^ 32) × (s.length.0 < 2 ^ 32)

-- why the slots of the class c are not written into a list of n numbers: there is no such class, or the list is too short
abbrev pub Refused : ℕ → ℕ → Refusal → Type 0
Refused c n e = ((7 < c) × (e ≡ NoClass)) ⊎ ((c ≤ 7) × (n < 2 * most_slots) × (e ≡ SlotSpace))
