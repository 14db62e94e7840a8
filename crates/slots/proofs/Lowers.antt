-- The greatest over the lower classes, as a chain of calls finds it. Assumes nothing.
use Rattle.std.proofs.Common.{◌≡◌, ℕ, zero, suc, ◌+◌, max, [], ◌∷◌, ◌++◌, refl, ap, ◌∙◌, arith}
use Rattle.std.specs.List.{fold, range_with_len}
use Rattle.std.proofs.lemmas.List.Sums.{fold-append}
use Rattle.calculus.specs.Searches.{greatest}

-- one number more
range_more : (k n : ℕ) → range_with_len k (suc n) ≡ range_with_len k n ++ ((k + n) ∷ [])
range_more k zero = let e : k ≡ k + 0 = omega arith in ap (λ v. v ∷ []) e
range_more k (suc n) = let e : k + 1 + n ≡ k + suc n = omega arith in ap (λ xs. k ∷ xs) (range_more (k + 1) n ∙ ap (λ v. range_with_len (k + 1) n ++ (v ∷ [])) e)

-- the greatest so far, number by number
pub greatest_fold : (f : ℕ → ℕ) (n : ℕ) → fold (λ a k. max a (f k)) 0 (range_with_len 0 n) ≡ greatest f n
unfolding greatest
greatest_fold f zero = refl
greatest_fold f (suc n) =
    let r = greatest_fold f n in
    let z : 0 + n ≡ n = omega arith in
    let e = ap f z in
    let m : max (fold (λ a k. max a (f k)) 0 (range_with_len 0 n)) (f (0 + n)) ≡ max (f n) (greatest f n) = omega arith in
    ap (fold (λ a k. max a (f k)) 0) (range_more 0 n) ∙ fold-append (λ a k. max a (f k)) 0 (range_with_len 0 n) ((0 + n) ∷ []) ∙ m
