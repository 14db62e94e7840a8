use Rattle.std.proofs.Common.{◌≡◌, ℕ, ◌+◌, ◌<◌, ◌≤◌, length, take}
use Rattle.std.specs.List.{AllByRecursion}
use Rattle.calculus.specs.Searches.{count}
use Rattle.sure_ticks.specs.Sure.{covered}
use Rattle.curve.specs.Curve.{least_covered}
use Rattle.curve.specs.Table.{before_of}
use Rattle.curve.proofs.Sliding.{end_of}
use Rattle.service.proofs.class_service.ClassService.first_with.Given as goal

-- the mark k is where the search has come to, the windows of that length behind the slots so far have enough, and no shorter window has
abbrev pub invariant-loop-slot : goal.invariant-loop-slot
invariant-loop-slot l =
    (l.k + 1 < length l.marks)
    × (l.done ≡ before_of l.marks l.slot-index)
    × (before_of l.marks l.k < before_of l.marks (l.slot-index) + l.ticks)
    × AllByRecursion (λ s. l.ticks ≤ count (covered l.self.cycle.0 l.slots) (end_of s) l.far) (take (l.slot-index) l.slots)
    × ((x : ℕ) → l.ticks ≤ least_covered l.self.cycle.0 l.slots x → l.far ≤ x)
