-- Where a byte first stands in a text, and what stands before and past it. Assumes nothing.
use Rattle.std.specs.Prelude.{ℕ, suc, ◌+◌, Bool, cond, List, [], ◌∷◌, length, take, drop, count_by, ◌==◌, nat_eq, nat_lt}

-- where c first stands, or the length
unfoldable pub at : ℕ → List ℕ → ℕ
at c [] = 0
at c (x ∷ xs) = cond (x == c) 0 (suc (at c xs))

-- what stands before the first c, or all
abbrev pub before : ℕ → List ℕ → List ℕ
before c xs = take (at c xs) xs

-- what stands past the first c, or nothing
abbrev pub past : ℕ → List ℕ → List ℕ
past c xs = drop (at c xs + 1) xs

-- whether c stands in the text
abbrev pub has : ℕ → List ℕ → Bool
has c xs = nat_lt (at c xs) (length xs)

-- how often c stands in the text
unfoldable pub how_many : ℕ → List ℕ → ℕ
how_many c xs = count_by (λ x. nat_eq x c) xs
