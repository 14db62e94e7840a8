-- The table of a curve: where each slot of two cycles begins, counted from the first, and the sure ticks before it. Assumes nothing.
use Rattle.std.specs.Prelude.{◌≡◌, ℕ, ◌+◌, ◌-◌, ◌<◌, ◌≤◌, List, [], ◌∷◌, ◌++◌, slice_index_or}
use Rattle.units.specs.Limits.{most_cycle}
use Rattle.sure_ticks.specs.declared.slot.Slot.{Slot}
use Rattle.sure_ticks.specs.Sure.{lengths}
use Rattle.sure_ticks.specs.Laws.{next, Apart}
use Rattle.curve.specs.declared.mark.Mark.{Mark}

-- the mark at a place with so many sure ticks before it
abbrev pub mark : ℕ → ℕ → Mark
mark p n = record { place = record { 0 = p }; before = record { 0 = n } }

-- the place of the mark k
abbrev pub place_of : List Mark → ℕ → ℕ
place_of ms k = (slice_index_or ms k (mark 0 0)).place.0

-- the sure ticks before the mark k
abbrev pub before_of : List Mark → ℕ → ℕ
before_of ms k = (slice_index_or ms k (mark 0 0)).before.0

-- the marks of the slots of a cycle in which the tick `first` has the place a, with p sure ticks before it
unfoldable pub marks_of : ℕ → ℕ → ℕ → List Slot → List Mark
marks_of first a p [] = []
marks_of first a p (s ∷ ss) = mark (a + (s.begin.0 - first)) p ∷ marks_of first a (p + s.length.0) ss

-- the marks of a cycle, of the next one, and where that ends
unfoldable pub table_of : ℕ → List Slot → List Mark
table_of L ss =
    marks_of (next 0 ss) 0 0 ss ++ (marks_of (next 0 ss) L (lengths ss) ss ++ (mark (L + L) (lengths ss + lengths ss) ∷ []))

-- slots of a cycle, which are apart, and the table of them
pub record Ready (L : ℕ) (ss : List Slot) (ms : List Mark) : Type 0 where
  pub apart : Apart L ss
  pub some : 0 < L
  pub short : L ≤ most_cycle
  pub table : ms ≡ table_of L ss
