use Rattle.std.proofs.Common.{◌≡◌, drop}
use Rattle.gates.specs.Opened.{within}
use Rattle.gates.proofs.gate_list.open_at.Given as goal

-- what the lines from here on say of the ticks that are left is what all of them say of the tick
abbrev pub invariant-loop-line : goal.invariant-loop-line
invariant-loop-line l = within (drop l.line-index l.lines) l.class l.left ≡ within l.lines l.class l.initial.left
