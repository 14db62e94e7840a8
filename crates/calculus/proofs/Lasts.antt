-- How long a test lasts. Assumes nothing.
use Rattle.std.proofs.Common.{◌≡◌, ℕ, zero, suc, ◌+◌, ◌<◌, ◌≤◌, Bool, true, false, cond, sym, refl, ap, ◌∙◌, subst, ⊎_elim, arith}
use Rattle.std.proofs.lemmas.Bool.{cases_Bool, cases_lt, both_ways, cond-true, cond_both}
use Rattle.calculus.specs.Searches.{lasts, holds}
use Rattle.calculus.proofs.Bounded.{holds_at, holds_from}
use Rattle.calculus.proofs.Cycles.{everywhere}

-- it passes all the while
pub lasts_at : (f : ℕ → Bool) (n t : ℕ) → (y : ℕ) → t ≤ y → y < t + lasts f t n → f y ≡ true
unfolding lasts
lasts_at f zero t y a b = absurd (omega arith)
lasts_at f (suc n) t y a b =
    ⊎_elim
    (λ e.
    let l : lasts f t (suc n) ≡ suc (lasts f (suc t) n) = cond-true (f t) (suc (lasts f (suc t) n)) 0 e in
    ⊎_elim
    (λ past. lasts_at f n (suc t) y past (omega arith))
    (λ here. let q : t ≡ y = omega arith in subst (λ v. f v ≡ true) q e)
    (cases_lt t y))
    (λ e. let l : cond (f t) (suc (lasts f (suc t) n)) 0 ≡ 0 = rw e in absurd (omega arith))
    (cases_Bool (f t))

-- it lasts as long as it passes
pub lasts_from : (f : ℕ → Bool) (n t m : ℕ) → m ≤ n → ((y : ℕ) → t ≤ y → y < t + m → f y ≡ true) → m ≤ lasts f t n
unfolding lasts
lasts_from f n t zero le h = omega arith
lasts_from f zero t (suc m) le h = absurd (omega arith)
lasts_from f (suc n) t (suc m) le h =
    let r = lasts_from f n (suc t) m (omega arith) (λ y a b. h y (omega arith) (omega arith)) in
    let e = cond-true (f t) (suc (lasts f (suc t) n)) 0 (h t (omega arith) (omega arith)) in
    omega arith

-- it never lasts longer than is asked
pub lasts_most : (f : ℕ → Bool) (n t : ℕ) → lasts f t n ≤ n
unfolding lasts
lasts_most f zero t = omega arith
lasts_most f (suc n) t = let r = lasts_most f n (suc t) in cond_both (f t) (suc (lasts f (suc t) n)) 0 (λ v. v ≤ suc n) (λ _. omega arith) (λ _. omega arith)

-- it stops where the test fails, and nowhere else
pub lasts_stop : (f : ℕ → Bool) (n t : ℕ) → lasts f t n < n → f (t + lasts f t n) ≡ false
lasts_stop f n t lt =
    ⊎_elim
    (λ e.
    let m = lasts_from f n t (suc (lasts f t n)) lt (λ y a b.
    ⊎_elim
    (λ early. lasts_at f n t y a early)
    (λ here. let q : t + lasts f t n ≡ y = omega arith in subst (λ v. f v ≡ true) q e)
    (cases_lt y (t + lasts f t n))) in
    absurd (omega arith))
    (λ e. e)
    (cases_Bool (f (t + lasts f t n)))

-- it lasts until the test fails
pub lasts_is : (f : ℕ → Bool) (n t m : ℕ) → m ≤ n → ((y : ℕ) → t ≤ y → y < t + m → f y ≡ true) → f (t + m) ≡ false → lasts f t n ≡ m
lasts_is f n t m le h e =
    let l = lasts_from f n t m le h in
    ⊎_elim
    (λ more. absurd (both_ways (f (t + m)) e (lasts_at f n t (t + m) (omega arith) (omega arith))))
    (λ (g : lasts f t n ≤ m). omega arith)
    (cases_lt m (lasts f t n))

-- it lasts as long as is asked where it never fails
pub lasts_full : (f : ℕ → Bool) (n t : ℕ) → ((y : ℕ) → t ≤ y → y < t + n → f y ≡ true) → lasts f t n ≡ n
lasts_full f n t h = let l = lasts_from f n t n (omega arith) h in let m = lasts_most f n t in omega arith

-- over fewer ticks
pub lasts_fewer : (f : ℕ → Bool) (n t m : ℕ) → m ≤ lasts f t n → lasts f t m ≡ m
lasts_fewer f n t m le = lasts_full f m t (λ y a b. lasts_at f n t y a (omega arith))

-- where it stops, it stops however long is asked
pub lasts_more : (f : ℕ → Bool) (n t m : ℕ) → lasts f t n < n → lasts f t n ≤ m → lasts f t m ≡ lasts f t n
lasts_more f n t m lt le = lasts_is f m t (lasts f t n) le (λ y a b. lasts_at f n t y a b) (lasts_stop f n t lt)

-- it lasts on from where it has lasted to
pub lasts_on : (f : ℕ → Bool) (m n t : ℕ) → lasts f t m ≡ m → lasts f t (m + n) ≡ m + lasts f (t + m) n
lasts_on f m n t e =
    let r = lasts_most f n (t + m) in
    let both : (y : ℕ) → t ≤ y → y < t + (m + lasts f (t + m) n) → f y ≡ true = λ y a b.
    ⊎_elim
    (λ early. lasts_at f m t y a (omega arith))
    (λ late. lasts_at f n (t + m) y late (omega arith))
    (cases_lt y (t + m)) in
    ⊎_elim
    (λ (lt : lasts f (t + m) n < n).
    let s = lasts_stop f n (t + m) lt in
    let q : t + m + lasts f (t + m) n ≡ t + (m + lasts f (t + m) n) = omega arith in
    lasts_is f (m + n) t (m + lasts f (t + m) n) (omega arith) both (subst (λ v. f v ≡ false) q s))
    (λ (ge : n ≤ lasts f (t + m) n).
    let q : m + lasts f (t + m) n ≡ m + n = omega arith in
    lasts_full f (m + n) t (λ y a b. both y a (omega arith)) ∙ sym q)
    (cases_lt (lasts f (t + m) n) n)

-- two tests that agree tick by tick
pub lasts_same : (f g : ℕ → Bool) (n t u : ℕ) → ((j : ℕ) → j < n → f (t + j) ≡ g (u + j)) → lasts f t n ≡ lasts g u n
unfolding lasts
lasts_same f g zero t u h = refl
lasts_same f g (suc n) t u h =
    let e₁ : t + 0 ≡ t = omega arith in
    let e₂ : u + 0 ≡ u = omega arith in
    let e : f t ≡ g u = sym (ap f e₁) ∙ h 0 (omega arith) ∙ ap g e₂ in
    let r : lasts f (suc t) n ≡ lasts g (suc u) n = lasts_same f g n (suc t) (suc u) (λ j lt.
    let q₁ : suc t + j ≡ t + suc j = omega arith in
    let q₂ : u + suc j ≡ suc u + j = omega arith in
    ap f q₁ ∙ h (suc j) (omega arith) ∙ ap g q₂) in
    cc

-- how long a test lasts repeats with the test
module _ (L : ℕ) (f : ℕ → Bool) (per : (t : ℕ) → f (t + L) ≡ f t) where
  -- a cycle later it lasts as long
  pub lasts_later : (t n : ℕ) → lasts f (t + L) n ≡ lasts f t n
  lasts_later t n = lasts_same f f n (t + L) t (λ j _. let e : t + L + j ≡ t + j + L = omega arith in ap f e ∙ per (t + j))

  -- a whole cycle is for ever
  pub lasts_ever : 0 < L → (t m : ℕ) → lasts f t L ≡ L → lasts f t m ≡ m
  lasts_ever pos t m e = lasts_full f m t (λ y _ _. everywhere L pos f per t (λ y a b. lasts_at f L t y a (omega arith)) y)

-- to last a cycle from 0 is to hold at each of its ticks
pub holds_lasts : (f : ℕ → Bool) (n : ℕ) → lasts f 0 n ≡ n → holds f 0 n ≡ true
holds_lasts f n e = holds_from f 0 n (λ y a b. lasts_at f n 0 y a (omega arith))

-- and not to last it is not to
pub holds_short : (f : ℕ → Bool) (n : ℕ) → lasts f 0 n < n → holds f 0 n ≡ false
holds_short f n lt =
    ⊎_elim
    (λ h. let e = lasts_full f n 0 (holds_at f 0 n h) in absurd (omega arith))
    (λ h. h)
    (cases_Bool (holds f 0 n))
