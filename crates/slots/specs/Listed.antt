-- A slot that may be missing, and the slots of a list. Assumes nothing.
use Rattle.std.specs.Prelude.{List, [], ◌∷◌, take, Some, None, Option}
use Rattle.sure_ticks.specs.declared.slot.Slot.{Slot}
use Rattle.slots.specs.declared.slot_list.SlotList.{SlotList}

-- none or one
abbrev pub listed : Option Slot → List Slot
listed None = []
listed (Some s) = s ∷ []

-- the slots of a list
abbrev pub items : SlotList → List Slot
items l = take l.count l.slots
