use Rattle.std.proofs.Common.{◌≡◌, ◌-◌, ◌≤◌, [], map, vec_len, vec_capacity}
use Rattle.units.specs.Limits.{most_flows}
use Rattle.reader.specs.Entries.{first, place_after, next_flow}
use Rattle.reader.specs.Parsed.{entries_of}
use Rattle.reader.specs.Views.{sizes_of}
use Rattle.reader.proofs.Steps.{Midway}
use Rattle.reader.proofs.reader.Reader.flow_lines.Given as goal

-- so many flow lines are read, and last is the place of the last one
abbrev pub invariant-loop : goal.invariant-loop
invariant-loop l = record {
  lines : Midway (next_flow (map sizes_of l.classes)) l.count l.initial.self [] (l.count - l.counter) l.self (entries_of l.flows);
  place : l.last ≡ place_after first (entries_of l.flows);
  len : vec_len l.flows ≡ l.counter;
  room : most_flows ≤ vec_capacity l.flows;
}
