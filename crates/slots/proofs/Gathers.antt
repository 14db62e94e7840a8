-- A walk over all lines that gathers slots. Assumes nothing.
use Rattle.std.proofs.Common.{◌≡◌, ℕ, ◌+◌, ◌<◌, ◌≤◌, Bool, List, ◌++◌, length, sym, refl, ap, ◌∙◌, arith}
use Rattle.std.proofs.lemmas.List.{append-nil, append_assoc, length-append, length-take-le}
use Rattle.units.specs.Limits.{most_slots}
use Rattle.gates.specs.declared.gate_line.GateLine.{GateLine}
use Rattle.gates.specs.Opened.{total, opened, start, line, Lawful}
use Rattle.gates.proofs.Lines.{start_more, start_all, start_most}
use Rattle.sure_ticks.specs.Slots.{slot_at, found}
use Rattle.sure_ticks.proofs.Found.{found_mono}
use Rattle.sure_ticks.specs.declared.slot.Slot.{Slot}
use Rattle.slots.specs.declared.slot_list.SlotList.{SlotList}
use Rattle.slots.specs.Listed.{items}
use Rattle.slots.proofs.LineRuns.{found_line}

-- a list has as many slots as it counts
pub counted : (s : SlotList) → s.count ≡ length (items s)
counted s = sym (length-take-le s.count s.slots (omega (arith, s.few, s.room)))

-- the walk stands before the line i, which begins at the tick a, and has added the slots of the lines before
pub record Gathered (ls : List GateLine) (cycle : ℕ) (late : Bool) (M : ℕ → ℕ) (c : ℕ) (before : List Slot) (i a : ℕ) (slots : List Slot) : Type 0 where
  pub begun : a ≡ start ls i
  pub added : slots ≡ before ++ found late cycle (opened ls) M c (start ls i)

module _ (ls : List GateLine) (cycle : ℕ) (late : Bool) (M : ℕ → ℕ) (c : ℕ) (before : List Slot) where
  -- it begins with none
  pub gather_none : Gathered ls cycle late M c before 0 0 before
  unfolding found total
  gather_none = record { begun = refl; added = sym (append-nil before) }

  -- it ends with all
  pub gather_all : Lawful ls cycle → (i a : ℕ) (slots : List Slot) → length ls ≤ i → Gathered ls cycle late M c before i a slots → slots ≡ before ++ found late cycle (opened ls) M c cycle
  gather_all law i a slots le g = g.added ∙ ap (λ v. before ++ found late cycle (opened ls) M c v) (start_all ls i le ∙ law.together)

  -- one line
  module _ (law : Lawful ls cycle) (i a : ℕ) (slots : List Slot) (lt : i < length ls) (g : Gathered ls cycle late M c before i a slots) where
    -- the slots of one line more
    more : found late cycle (opened ls) M c (start ls (i + 1)) ≡ found late cycle (opened ls) M c (start ls i) ++ slot_at late cycle (opened ls) M c a
    more = found_line ls cycle law late M c i lt ∙ ap (λ v. found late cycle (opened ls) M c (start ls i) ++ slot_at late cycle (opened ls) M c v) (sym g.begun)

    -- there is room for the slot of the line
    pub gather_room : length before + length (found late cycle (opened ls) M c cycle) ≤ most_slots → length slots + length (slot_at late cycle (opened ls) M c a) ≤ most_slots
    gather_room room =
        let l = ap length more ∙ length-append (found late cycle (opened ls) M c (start ls i)) (slot_at late cycle (opened ls) M c a) in
        let s = start_most ls (i + 1) in
        let m = found_mono late cycle (opened ls) M c cycle (start ls (i + 1)) (omega (arith, law.together)) in
        let n = ap length g.added ∙ length-append before (found late cycle (opened ls) M c (start ls i)) in
        omega arith

    -- the line
    module _ (l : GateLine) (q : l ≡ line ls i) where
      -- where it ends
      line_end : a + l.length.0 ≡ start ls (i + 1)
      line_end = let e = ap (λ (v : GateLine). v.length.0) q in omega (arith, start_more ls i lt, g.begun)

      -- the tick stays small
      pub gather_fits : a + l.length.0 ≤ cycle
      gather_fits = let m = start_most ls (i + 1) in omega (arith, line_end, law.together)

      -- once its slot is added
      pub gather_more : (next : List Slot) → next ≡ slots ++ slot_at late cycle (opened ls) M c a → Gathered ls cycle late M c before (i + 1) (a + l.length.0) next
      gather_more next e =
          record {
            begun = line_end;
            added = e ∙ ap (λ v. v ++ slot_at late cycle (opened ls) M c a) g.added
                ∙ append_assoc before (found late cycle (opened ls) M c (start ls i)) (slot_at late cycle (opened ls) M c a) ∙ ap (λ v. before ++ v) (sym more);
          }
