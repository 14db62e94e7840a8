use Rattle.slots.proofs.Turned.{Written}
use Rattle.slots.proofs.calls.write.Given as goal

abbrev pub invariant-loop-i : goal.invariant-loop-i
invariant-loop-i l = Written l.slots l.initial.list l.i l.list
