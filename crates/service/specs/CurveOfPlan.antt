-- The curve of a class of a plan. Assumes nothing.
use Rattle.std.specs.Prelude.{ℕ}
use Rattle.gates.specs.Opened.{opened}
use Rattle.reader.specs.Contents.{Contents}
use Rattle.curve.specs.Curve.{curve}
use Rattle.slots.specs.OfPlan.{longest}

-- the curve of the class c at a span of n ticks
abbrev pub curve_of : Contents → ℕ → ℕ → ℕ
curve_of s c n = curve s.cycle (opened s.gates) (longest s) c n
