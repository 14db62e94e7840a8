-- Numbers, marks and the like that are set one after another. Assumes nothing.
use Rattle.std.proofs.Common.{◌≡◌, ℕ, suc, ◌+◌, List, [], ◌∷◌, ◌++◌, length, set, ap, ◌∙◌, arith}
use lib.Seq.{sets}

-- some are set, and then more right after them
pub sets_more : {A : Type 0} (l : List A) (i : ℕ) (vs ws : List A) → sets (sets l i vs) (i + length vs) ws ≡ sets l i (vs ++ ws)
sets_more l i [] ws = let e : i + 0 ≡ i = omega arith in ap (λ v. sets l v ws) e
sets_more l i (x ∷ vs) ws =
    let e : i + suc (length vs) ≡ suc i + length vs = omega arith in
    ap (λ v. sets (sets (set l i x) (suc i) vs) v ws) e ∙ sets_more (set l i x) (suc i) vs ws
