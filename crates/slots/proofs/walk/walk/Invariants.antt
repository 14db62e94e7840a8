use Rattle.std.proofs.Common.{◌≡◌, ℕ, ◌<◌, true}
use Rattle.std.specs.Fn.{FnReturnsAt}
use Rattle.gates.specs.Opened.{start, line}
use Rattle.slots.proofs.walk.walk.Given as goal

-- the lines so far pass, and their ticks are added
abbrev pub invariant-loop-line : goal.invariant-loop-line
invariant-loop-line g l = record {
  added : l.ticks ≡ start l.lines l.line-index;
  pass : (j : ℕ) → j < l.line-index → FnReturnsAt g.F.Fn l.passes (line l.lines j) true;
}
