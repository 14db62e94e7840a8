-- Delay and held bytes as they are answered, or why there are none. Assumes nothing.
use Rattle.std.specs.Prelude.{ℕ, ◌<◌, Result, MatchResult, length}
use Rattle.units.specs.declared.refusal.Refusal.{Refusal}
use Rattle.units.specs.declared.amounts.Ticks.{Ticks}
use Rattle.units.specs.declared.amounts.Bytes.{Bytes}
use Rattle.reader.specs.Contents.{Contents}
use Rattle.arrivals.specs.ClassAlpha.{class_flows, class_alpha}
use Rattle.class_bound.specs.ClassBounds.{IsBound, NoBound}

-- the answer is the bound of the class c by its own flows
abbrev pub Bounded : Contents → ℕ → Result (Ticks × Bytes) Refusal → Type 0
Bounded s c answer =
    MatchResult answer
    (λ b. (0 < length (class_flows s c)) × IsBound s c (class_alpha s c) b.0.0 b.1.0)
    (λ e. NoBound s c e)
