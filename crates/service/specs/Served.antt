-- What the service of a class comes to, and its laws. Assumes nothing.
use Rattle.std.specs.Prelude.{◌≡◌, ℕ, ◌-◌, ◌<◌, ◌≤◌, ◌⊎◌, List}
use Rattle.units.specs.Limits.{most_cycle, most_span}
use Rattle.units.specs.declared.refusal.Refusal.{Refusal}
use Rattle.units.specs.declared.refusal.Refusal.TheVariants.{NoClass, CurveSpan}
use Rattle.sure_ticks.specs.declared.slot.Slot.{Slot}
use Rattle.curve.specs.Curve.{least_covered}

-- the least number of ticks in the slots, of any n in a row, less the block
abbrev pub served_by : ℕ → List Slot → ℕ → ℕ → ℕ
served_by cycle ss block n = least_covered cycle ss n - block

-- why the curve of the class c is not told at a span of n ticks: there is no such class, or the span is too long
abbrev pub Refused : ℕ → ℕ → Refusal → Type 0
Refused c n e = ((7 < c) × (e ≡ NoClass)) ⊎ ((c ≤ 7) × (most_span < n) × (e ≡ CurveSpan))

-- a slot that does not begin before the tick, and begins in a cycle
abbrev pub From : ℕ → Slot → Type 0
From tick s = (tick ≤ s.begin.0) × (s.begin.0 < most_cycle)
