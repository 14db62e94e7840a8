use Rattle.service.proofs.Marked.{Marked}
use Rattle.service.proofs.table.set_marks.Given as goal

abbrev pub invariant-loop-i : goal.invariant-loop-i
invariant-loop-i l = Marked l.slots l.first l.start.place.0 l.start.before.0 l.initial.marks l.at l.i l.sum l.marks
