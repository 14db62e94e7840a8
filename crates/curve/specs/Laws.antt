-- What holds of the curve of every class. Assumes nothing.
use Rattle.std.specs.Prelude.{◌≡◌, ℕ, ◌+◌, ◌*◌, ◌<◌, ◌≤◌, Bool, List}
use Rattle.sure_ticks.specs.declared.slot.Slot.{Slot}
use Rattle.sure_ticks.specs.Laws.{Repeats}
use Rattle.sure_ticks.specs.Sure.{sure_tick_count}
use Rattle.curve.specs.Curve.{least_covered, least_sure, curve}

-- r is the least number of ticks that have n in the slots wherever they begin
abbrev pub FirstSpan : ℕ → List Slot → ℕ → ℕ → Type 0
FirstSpan L ss n r = (n ≤ least_covered L ss r) × ((x : ℕ) → n ≤ least_covered L ss x → r ≤ x)

-- the least number of sure ticks is 0 of no ticks, never falls, rises by at most 1 at a tick, and a whole cycle more adds the sure
-- ticks of a cycle; the curve too is 0 at 0, never falls and rises by at most 1 at a tick
pub record Lawful (L : ℕ) (o : ℕ → ℕ → Bool) (M : ℕ → ℕ) (c : ℕ) : Type 0 where
  pub none : least_sure L o M c 0 ≡ 0
  pub rises : (n : ℕ) → least_sure L o M c n ≤ least_sure L o M c (n + 1)
  pub slow : (n : ℕ) → least_sure L o M c (n + 1) ≤ least_sure L o M c n + 1
  pub cycles : (q n : ℕ) → least_sure L o M c (q * L + n) ≡ q * sure_tick_count L o M c + least_sure L o M c n
  pub curve_none : curve L o M c 0 ≡ 0
  pub curve_rises : (n : ℕ) → curve L o M c n ≤ curve L o M c (n + 1)
  pub curve_slow : (n : ℕ) → curve L o M c (n + 1) ≤ curve L o M c n + 1

-- of every class, over gates that repeat with the cycle
abbrev pub CurveLaws : Type 0
CurveLaws = (L : ℕ) → 0 < L → (o : ℕ → ℕ → Bool) → Repeats L o → (M : ℕ → ℕ) (c : ℕ) → Lawful L o M c
