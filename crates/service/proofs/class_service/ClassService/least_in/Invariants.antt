use Rattle.std.proofs.Common.{◌≡◌, ◌+◌, ◌<◌, ◌≤◌, length, take}
use Rattle.std.specs.List.{AllByRecursion}
use Rattle.calculus.specs.Searches.{count}
use Rattle.sure_ticks.specs.Sure.{covered}
use Rattle.curve.specs.Curve.{least_covered}
use Rattle.curve.specs.Table.{place_of, before_of}
use Rattle.curve.proofs.Sliding.{end_of}
use Rattle.service.proofs.class_service.ClassService.least_in.Given as goal

-- the best is no less than the least, no window behind the slots so far has fewer, and the mark k is where the search has come to
abbrev pub invariant-loop-slot : goal.invariant-loop-slot
invariant-loop-slot l =
    (least_covered l.self.cycle.0 l.slots l.window ≤ l.best)
    × AllByRecursion (λ s. l.best ≤ count (covered l.self.cycle.0 l.slots) (end_of s) l.window) (take (l.slot-index) l.slots)
    × (l.k + 1 < length l.marks)
    × (l.done ≡ before_of l.marks l.slot-index)
    × (place_of l.marks l.k ≤ place_of l.marks (l.slot-index) + l.window)
