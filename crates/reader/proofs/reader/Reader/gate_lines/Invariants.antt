use Rattle.std.proofs.Common.{◌≡◌, ◌-◌, ◌≤◌, [], vec_items, vec_len, vec_capacity}
use Rattle.std.specs.List.{AllByRecursion}
use Rattle.units.specs.Limits.{most_lines}
use Rattle.reader.specs.Entries.{next_gate}
use Rattle.reader.specs.Views.{LengthFits}
use Rattle.reader.proofs.Steps.{Midway}
use Rattle.reader.proofs.reader.Reader.gate_lines.Given as goal

-- so many gate lines are read
abbrev pub invariant-loop : goal.invariant-loop
invariant-loop l = record {
  lines : Midway next_gate l.count l.initial.self [] (l.count - l.counter) l.self (vec_items l.lines);
  fit : AllByRecursion LengthFits (vec_items l.lines);
  len : vec_len l.lines ≡ l.counter;
  room : most_lines ≤ vec_capacity l.lines;
}
