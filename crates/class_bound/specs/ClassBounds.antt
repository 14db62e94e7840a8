-- Delay and held bytes of a class of a plan, or why it has none. Assumes nothing.
use Rattle.std.specs.Prelude.{◌≡◌, ℕ, ◌<◌, ◌≤◌, ◌⊎◌, length}
use Rattle.units.specs.Limits.{most_span}
use Rattle.units.specs.declared.refusal.Refusal.{Refusal}
use Rattle.units.specs.declared.refusal.Refusal.TheVariants.{NoClass, NoFlow, NoSureTick, NoClosingSpan}
use Rattle.reader.specs.Contents.{Contents}
use Rattle.bound.specs.Bounds.{closing, delay, held}
use Rattle.slots.specs.OfPlan.{sure_ticks_of}
use Rattle.service.specs.CurveOfPlan.{curve_of}
use Rattle.arrivals.specs.ClassAlpha.{class_flows, class_alpha}

-- d and h are the delay and the held bytes of the class c under an envelope alpha: it has a sure tick and a closing span
pub record IsBound (s : Contents) (c : ℕ) (alpha : ℕ → ℕ) (d h : ℕ) : Type 0 where
  pub class : c ≤ 7
  pub sure : 0 < sure_ticks_of s c
  pub closes : closing alpha (curve_of s c) ≤ most_span
  pub delay_is : d ≡ delay alpha (curve_of s c)
  pub held_is : h ≡ held alpha (curve_of s c)

-- why the class c has no bound under an envelope alpha: there is no such class, it has no sure tick, or no span closes
abbrev pub Unbounded : Contents → ℕ → (ℕ → ℕ) → Refusal → Type 0
Unbounded s c alpha e =
    ((7 < c) × (e ≡ NoClass))
    ⊎ (((c ≤ 7) × (sure_ticks_of s c ≡ 0) × (e ≡ NoSureTick))
    ⊎ ((c ≤ 7) × (0 < sure_ticks_of s c) × (most_span < closing alpha (curve_of s c)) × (e ≡ NoClosingSpan)))

-- why it has none by the flows of the plan: besides, it has no flow line, which is told after that there is no such class
abbrev pub NoBound : Contents → ℕ → Refusal → Type 0
NoBound s c e =
    ((c ≤ 7) × (length (class_flows s c) ≡ 0) × (e ≡ NoFlow))
    ⊎ (((7 < c) ⊎ (0 < length (class_flows s c))) × Unbounded s c (class_alpha s c) e)
