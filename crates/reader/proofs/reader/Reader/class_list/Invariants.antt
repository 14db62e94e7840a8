use Rattle.std.proofs.Common.{◌≡◌, [], map, length, drop}
use Rattle.reader.specs.Entries.{next_class}
use Rattle.reader.specs.Views.{sizes_of}
use Rattle.reader.proofs.Steps.{Midway}
use Rattle.reader.proofs.reader.Reader.class_list.Given as goal

-- the classes from l.number on are read, and as many lines are left as there are classes below it
abbrev pub invariant-loop-number : goal.invariant-loop-number
invariant-loop-number l = record {
  lines : Midway next_class 8 l.initial.self [] l.number l.self (map sizes_of (drop l.number l.classes));
  eight : length l.classes ≡ 8;
}
