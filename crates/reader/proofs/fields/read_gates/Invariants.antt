use Rattle.std.proofs.Common.{◌≡◌, ◌-◌, [], length, drop}
use Rattle.reader.specs.Fields.{letters_from}
use Rattle.reader.proofs.fields.read_gates.Given as goal

-- the letters that are left, in front of the gates so far, give what all of them give
abbrev pub invariant-loop-i : goal.invariant-loop-i
invariant-loop-i l = (letters_from (drop (8 - l.i) l.gates) (drop l.i l.text) ≡ letters_from [] l.text) × (length l.gates ≡ 8)
