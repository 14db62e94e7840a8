use Rattle.std.proofs.Common.{suc, ◌≤◌, vec_len}
use Rattle.units.specs.Limits.{most_text}
use Rattle.plan_input.proofs.read_input.Given as goal

abbrev pub invariant-loop : goal.invariant-loop
invariant-loop l = vec_len l.text ≤ suc most_text
