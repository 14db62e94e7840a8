use Rattle.std.proofs.Common.{map, take, vec_items}
use Rattle.reader.specs.Views.{entry_of}
use Rattle.plan.specs.ByClass.{Held}
use Rattle.plan.proofs.class_plan.class_plan.Given as goal

-- the flows of the class among the lines so far
abbrev pub invariant-loop-line : goal.invariant-loop-line
invariant-loop-line l = Held l.class (vec_items l.buckets) (vec_items l.periodics) (map entry_of (take l.line-index l.flows))
