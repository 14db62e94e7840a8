-- The first number that passes a test. Assumes nothing.
use Rattle.std.proofs.Common.{◌≡◌, ℕ, zero, suc, ◌+◌, ◌<◌, ◌≤◌, Bool, true, false, sym, ap, ◌∙◌, ⊎_elim, arith}
use Rattle.std.proofs.lemmas.Bool.{cases_Bool, cases_lt, cases_eq, both_ways, cond-true, cond-false, cond_both}
use Rattle.calculus.specs.Searches.{first}

-- where the number it begins with passes, it is that number
first_here : (f : ℕ → Bool) (from n : ℕ) → f from ≡ true → first f from (suc n) ≡ from
unfolding first
first_here f from n e = cond-true (f from) from (first f (suc from) n) e

-- where that number does not pass, it is the first after it
first_on : (f : ℕ → Bool) (from n : ℕ) → f from ≡ false → first f from (suc n) ≡ first f (suc from) n
unfolding first
first_on f from n e = cond-false (f from) from (first f (suc from) n) e

-- it is no less than the number it begins with
pub first_from : (f : ℕ → Bool) (from n : ℕ) → from ≤ first f from n
unfolding first
first_from f from zero = omega arith
first_from f from (suc n) =
    let r = first_from f (suc from) n in
    cond_both (f from) from (first f (suc from) n) (λ v. from ≤ v) (λ _. omega arith) (λ _. omega arith)

-- it is at most the number after the last
pub first_most : (f : ℕ → Bool) (from n : ℕ) → first f from n ≤ from + n
unfolding first
first_most f from zero = omega arith
first_most f from (suc n) =
    let r = first_most f (suc from) n in
    cond_both (f from) from (first f (suc from) n) (λ v. v ≤ from + suc n) (λ _. omega arith) (λ _. omega arith)

-- nothing before it passes
pub first_before : (f : ℕ → Bool) (from n j : ℕ) → from ≤ j → j < first f from n → f j ≡ false
unfolding first
first_before f from zero j lo lt = absurd (omega arith)
first_before f from (suc n) j lo lt =
    ⊎_elim
    (λ (e : f from ≡ true). let q = first_here f from n e in absurd (omega arith))
    (λ (e : f from ≡ false).
    let q = first_on f from n e in
    ⊎_elim
    (λ (same : from ≡ j). ap f (sym same) ∙ e)
    (λ (other : from ≡ j → ⊥). first_before f (suc from) n j (omega arith) (omega arith))
    (cases_eq from j))
    (cases_Bool (f from))

-- it passes, unless none of them does
pub first_passes : (f : ℕ → Bool) (from n : ℕ) → first f from n < from + n → f (first f from n) ≡ true
first_passes f from zero lt = let r = first_from f from 0 in absurd (omega arith)
first_passes f from (suc n) lt =
    ⊎_elim
    (λ (e : f from ≡ true). ap f (first_here f from n e) ∙ e)
    (λ (e : f from ≡ false).
    let q = first_on f from n e in
    ap f q ∙ first_passes f (suc from) n (omega arith))
    (cases_Bool (f from))

-- it is no greater than a number that passes
pub first_le : (f : ℕ → Bool) (from n d : ℕ) → from ≤ d → f d ≡ true → first f from n ≤ d
first_le f from n d lo here =
    ⊎_elim
    (λ (lt : d < first f from n). absurd (both_ways (f d) (first_before f from n d lo lt) here))
    (λ (ge : first f from n ≤ d). ge)
    (cases_lt d (first f from n))

-- the number that passes, with none before it that does, is the first
pub first_is : (f : ℕ → Bool) (from n d : ℕ) → from ≤ d → d < from + n → f d ≡ true → ((j : ℕ) → from ≤ j → j < d → f j ≡ false) → first f from n ≡ d
first_is f from n d lo hi here before =
    let le = first_le f from n d lo here in
    ⊎_elim
    (λ (lt : first f from n < d).
    absurd (both_ways (f (first f from n)) (before (first f from n) (first_from f from n) lt) (first_passes f from n (omega arith))))
    (λ (ge : d ≤ first f from n). let e : first f from n ≡ d = omega arith in e)
    (cases_lt (first f from n) d)

-- where none passes, it is the number after the last
pub first_none : (f : ℕ → Bool) (from n : ℕ) → ((j : ℕ) → from ≤ j → j < from + n → f j ≡ false) → first f from n ≡ from + n
first_none f from n never =
    let top = first_most f from n in
    ⊎_elim
    (λ (lt : first f from n < from + n).
    absurd (both_ways (f (first f from n)) (never (first f from n) (first_from f from n) lt) (first_passes f from n lt)))
    (λ (ge : from + n ≤ first f from n). let e : first f from n ≡ from + n = omega arith in e)
    (cases_lt (first f from n) (from + n))
