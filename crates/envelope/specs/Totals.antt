-- Envelopes of one kind taken together. Assumes nothing.
use Rattle.std.specs.Prelude.{ℕ, min, List, fold, sum_by}
use Rattle.units.specs.Limits.{flow_reach}

-- the bytes of all, added
abbrev pub sum_at : {X : Type 0} → (X → ℕ → ℕ) → List X → ℕ → ℕ
sum_at alpha xs d = sum_by (λ x. alpha x d) xs

-- the least of their reaches, and that of a plan's flows where there are none
abbrev pub least_reach : {X : Type 0} → (X → ℕ) → List X → ℕ
least_reach reach xs = fold (λ b x. min b (reach x)) flow_reach xs
