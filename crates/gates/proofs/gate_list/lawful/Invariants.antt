use Rattle.std.proofs.Common.{◌≡◌, ℕ, ◌*◌, ◌<◌, ◌≤◌}
use Rattle.units.specs.Limits.{most_cycle}
use Rattle.gates.specs.Opened.{line, start}
use Rattle.gates.proofs.gate_list.lawful.Given as goal

-- the lines so far have at least one tick each, and sum tells how many together
abbrev pub invariant-loop-line : goal.invariant-loop-line
invariant-loop-line l =
    (l.sum ≡ start l.lines l.line-index)
    × ((j : ℕ) → j < l.line-index → 1 ≤ (line l.lines j).length.0)
    × (l.sum ≤ most_cycle * l.line-index)
