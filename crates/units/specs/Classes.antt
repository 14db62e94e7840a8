-- Calls on a traffic class that are refused where there is no such class. Assumes nothing.
use Rattle.std.specs.Prelude.{ℕ, ◌≡◌, ◌<◌, ◌≤◌, Result, MatchResult}
use Rattle.units.specs.declared.refusal.Refusal.{Refusal}
use Rattle.units.specs.declared.refusal.Refusal.TheVariants.{NoClass}

-- the call answers, and what it answers is as it should be, exactly where the number is 0 to 7; else it is refused as no class
abbrev pub ByClass : {T : Type 0} → ℕ → Result T Refusal → (T → Type 0) → Type 0
ByClass class result Right = MatchResult result (λ x. (class ≤ 7) × Right x) (λ e. (7 < class) × (e ≡ NoClass))
