-- Bounds of a class under envelopes and supplies that are the same at every span. Assumes nothing.
use Rattle.std.proofs.Common.{◌≡◌, ℕ, ◌<◌, ◌≤◌, length, Option, Some, None, Ok, Err, Result, ok_or, refl, subst, inr, MatchOption, MatchResult}
use Rattle.units.specs.Limits.{most_span}
use Rattle.units.specs.declared.amounts.Ticks.{Ticks}
use Rattle.units.specs.declared.amounts.Bytes.{Bytes}
use Rattle.units.specs.declared.refusal.Refusal.{Refusal}
use Rattle.units.specs.declared.refusal.Refusal.TheVariants.{NoClosingSpan}
use Rattle.reader.specs.Contents.{Contents}
use Rattle.bound.specs.Bounds.{closing, delay, held}
use Rattle.slots.specs.OfPlan.{sure_ticks_of}
use Rattle.service.specs.CurveOfPlan.{curve_of}
use Rattle.arrivals.specs.ClassAlpha.{class_flows, class_alpha}
use Rattle.class_bound.specs.ClassBounds.{IsBound, Unbounded, NoBound}

-- what the search for a closing span finds is the bound of a class that has a sure tick, over any supply that is its curve
pub by_search : (s : Contents) (c : ℕ) (alpha beta : ℕ → ℕ) → c ≤ 7 → 0 < sure_ticks_of s c → ((n : ℕ) → beta n ≡ curve_of s c n) → (r : Option (Ticks × Bytes)) →
    MatchOption r (most_span < closing alpha beta) (λ b. (closing alpha beta ≤ most_span) × (b.0.0 ≡ delay alpha beta) × (b.1.0 ≡ held alpha beta)) →
    MatchResult (ok_or r NoClosingSpan) (λ b. IsBound s c alpha b.0.0 b.1.0) (λ e. Unbounded s c alpha e)
by_search s c alpha beta low some same (Some b) h =
    let same' : beta ≡ curve_of s c = λ i n. same n i in
    let t = rw same' at h in
    record { class = low; sure = some; closes = t.0; delay_is = t.1; held_is = t.2 }
by_search s c alpha beta low some same None h =
    let same' : beta ≡ curve_of s c = λ i n. same n i in
    inr (inr (low, some, rw same' at h, refl))

-- a bound under the envelope of all flows is one by the flows
pub by_flows : (s : Contents) (c : ℕ) (a : ℕ → ℕ) → ((d : ℕ) → a d ≡ class_alpha s c d) → 0 < length (class_flows s c) → (r : Result (Ticks × Bytes) Refusal) →
    MatchResult r (λ b. IsBound s c a b.0.0 b.1.0) (λ e. Unbounded s c a e) →
    MatchResult r (λ b. (0 < length (class_flows s c)) × IsBound s c (class_alpha s c) b.0.0 b.1.0) (λ e. NoBound s c e)
by_flows s c a e some (Ok b) h = (some, subst (λ f. IsBound s c f b.0.0 b.1.0) (λ i d. e d i) h)
by_flows s c a e some (Err w) h = inr (inr some, subst (λ f. Unbounded s c f w) (λ i d. e d i) h)
