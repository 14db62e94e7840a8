use Rattle.std.proofs.Common.{◌≡◌, ◌+◌, ◌-◌, ◌<◌, ◌⊎◌, true, length, slice_index_or}
use Rattle.std.specs.Fn.{FnReturnsAt}
use Rattle.curve.specs.Table.{mark}
use Rattle.service.proofs.class_service.search.reach.Given as goal

abbrev pub invariant-loop-k : goal.invariant-loop-k
invariant-loop-k g l =
    (l.k + 1 < length l.marks)
    × ((l.k ≡ l.initial.k) ⊎ FnReturnsAt g.B.Fn l.is_before (slice_index_or l.marks l.k (mark 0 0)) true)

abbrev pub decreases-loop-k : goal.decreases-loop-k
decreases-loop-k g l = length l.marks - l.k
