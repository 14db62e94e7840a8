-- Tests at each number below a bound, and the greatest and the least of numbers. Assumes nothing.
use Rattle.std.proofs.Common.{◌≡◌, ℕ, zero, suc, ◌+◌, ◌-◌, ◌<◌, ◌≤◌, max, Bool, true, false, ◌⊎◌, refl, ap, subst, inl, inr, ⊎_elim, arith}
use Rattle.std.proofs.lemmas.Bool.{and_parts, and_from, or_cases, or_left, or_right, cases_Bool, both_ways, cases_lt}
use Rattle.calculus.specs.Searches.{all, any, holds, greatest, least}

-- what holds below n and at n holds below n + 1
below_suc : (P : ℕ → Type 0) (n : ℕ) → ((i : ℕ) → i < n → P i) → P n → (i : ℕ) → i < suc n → P i
below_suc P n h here i lt = go (cases_lt i n)
  where
    go : (i < n) ⊎ (n ≤ i) → P i
    go (inl l) = h i l
    go (inr g) = let e : n ≡ i = omega arith in subst P e here

-- what passes everywhere below n passes at each number
pub all_at : (f : ℕ → Bool) (n : ℕ) → all f n ≡ true → (i : ℕ) → i < n → f i ≡ true
unfolding all
all_at f zero h i lt = absurd (omega arith)
all_at f (suc n) h i lt = let p = and_parts (f n) (all f n) h in below_suc (λ i. f i ≡ true) n (all_at f n p.1) p.0 i lt

-- and the other way round
pub all_from : (f : ℕ → Bool) (n : ℕ) → ((i : ℕ) → i < n → f i ≡ true) → all f n ≡ true
unfolding all
all_from f zero h = refl
all_from f (suc n) h = and_from (f n) (all f n) (h n (omega arith)) (all_from f n (λ i lt. h i (omega arith)))

-- a test that fails somewhere below n
pub all_not : (f : ℕ → Bool) (n i : ℕ) → i < n → f i ≡ false → all f n ≡ false
all_not f n i lt e =
    ⊎_elim
    (λ h. absurd (both_ways (f i) e (all_at f n h i lt)))
    (λ h. h)
    (cases_Bool (all f n))

-- two tests that agree below n
pub all_same : (f g : ℕ → Bool) (n : ℕ) → ((i : ℕ) → i < n → f i ≡ g i) → all f n ≡ all g n
unfolding all
all_same f g zero h = refl
all_same f g (suc n) h = let e : f n ≡ g n = h n (omega arith) in let r = all_same f g n (λ i lt. h i (omega arith)) in cc

-- a test that holds for n ticks, at each of them
pub holds_at : (f : ℕ → Bool) (t n : ℕ) → holds f t n ≡ true → (y : ℕ) → t ≤ y → y < t + n → f y ≡ true
unfolding holds
holds_at f t n h y a b =
    let e : t + (y - t) ≡ y = omega arith in
    subst (λ z. f z ≡ true) e (all_at (λ j. f (t + j)) n h (y - t) (omega arith))

-- and the other way round
pub holds_from : (f : ℕ → Bool) (t n : ℕ) → ((y : ℕ) → t ≤ y → y < t + n → f y ≡ true) → holds f t n ≡ true
unfolding holds
holds_from f t n h = all_from (λ j. f (t + j)) n (λ j lt. h (t + j) (omega arith) (omega arith))

-- two lists of numbers that agree below n
pub greatest_same : (f g : ℕ → ℕ) (n : ℕ) → ((i : ℕ) → i < n → f i ≡ g i) → greatest f n ≡ greatest g n
unfolding greatest
greatest_same f g zero h = refl
greatest_same f g (suc n) h = let e : f n ≡ g n = h n (omega arith) in let r = greatest_same f g n (λ i lt. h i (omega arith)) in cc

-- where a test passes
pub any_at : (f : ℕ → Bool) (n : ℕ) → any f n ≡ true → (i : ℕ) × (i < n) × (f i ≡ true)
unfolding any
any_at f zero h = absurd (both_ways false refl h)
any_at f (suc n) h = go (or_cases (f n) (any f n) h) (any_at f n)
  where
    go : (f n ≡ true) ⊎ (any f n ≡ true) → (any f n ≡ true → (i : ℕ) × (i < n) × (f i ≡ true)) → (i : ℕ) × (i < suc n) × (f i ≡ true)
    go (inl e) r = (n, omega arith, e)
    go (inr e) r = let w = r e in (w.0, omega arith, w.2)

-- a test that passes somewhere
pub any_from : (f : ℕ → Bool) (n i : ℕ) → i < n → f i ≡ true → any f n ≡ true
unfolding any
any_from f zero i lt e = absurd (omega arith)
any_from f (suc n) i lt e =
    ⊎_elim
    (λ l. or_right (f n) (any f n) (any_from f n i l e))
    (λ g. let q : i ≡ n = omega arith in or_left (f n) (any f n) (subst (λ z. f z ≡ true) q e))
    (cases_lt i n)

-- two tests that agree below n
pub any_same : (f g : ℕ → Bool) (n : ℕ) → ((i : ℕ) → i < n → f i ≡ g i) → any f n ≡ any g n
unfolding any
any_same f g zero h = refl
any_same f g (suc n) h = let e : f n ≡ g n = h n (omega arith) in let r = any_same f g n (λ i lt. h i (omega arith)) in cc

-- no number is above the greatest
pub greatest_at : (f : ℕ → ℕ) (n i : ℕ) → i < n → f i ≤ greatest f n
unfolding greatest
greatest_at f zero i lt = absurd (omega arith)
greatest_at f (suc n) i lt =
    below_suc (λ j. f j ≤ max (f n) (greatest f n)) n (λ j l. let r = greatest_at f n j l in omega arith) (omega arith) i lt

-- the greatest is at most what each number is at most
pub greatest_from : (f : ℕ → ℕ) (n m : ℕ) → ((i : ℕ) → i < n → f i ≤ m) → greatest f n ≤ m
unfolding greatest
greatest_from f zero m h = omega arith
greatest_from f (suc n) m h = let r = greatest_from f n m (λ i lt. h i (omega arith)) in let e = h n (omega arith) in omega arith

-- of no numbers the greatest is 0
pub greatest_none : (f : ℕ → ℕ) → greatest f 0 ≡ 0
unfolding greatest
greatest_none f = refl

-- the last of the numbers, and the others
pub greatest_last : (f : ℕ → ℕ) (n : ℕ) → 0 < n → greatest f n ≡ max (f (n - 1)) (greatest f (n - 1))
unfolding greatest
greatest_last f zero lt = absurd (omega arith)
greatest_last f (suc n) lt = let e : n ≡ suc n - 1 = omega arith in ap (λ m. max (f m) (greatest f m)) e

-- no number is below the least
pub least_le : (f : ℕ → ℕ) (n i : ℕ) → i < n → least f n ≤ f i
unfolding least
least_le f zero i lt = absurd (omega arith)
least_le f (suc n) i lt =
    below_suc (λ j. least f (suc n) ≤ f j) n (λ j l. let r = least_le f n j l in omega arith) (omega arith) i lt

-- and the least is one of the numbers
pub least_at : (f : ℕ → ℕ) (n : ℕ) → 0 < n → (i : ℕ) × (i < n) × (least f n ≡ f i)
unfolding least
least_at f zero some = absurd (omega arith)
least_at f (suc zero) some = (0, omega arith, omega arith)
least_at f (suc (suc n)) some =
    let r = least_at f (suc n) (omega arith) in
    ⊎_elim
    (λ (l : f (suc n) < least f (suc n)). (suc n, omega arith, omega arith))
    (λ (g : least f (suc n) ≤ f (suc n)). (r.0, omega (arith, r.1), omega (arith, r.2)))
    (cases_lt (f (suc n)) (least f (suc n)))

-- the greatest is one of the numbers
pub greatest_one : (f : ℕ → ℕ) (n : ℕ) → 0 < n → (i : ℕ) × (i < n) × (greatest f n ≡ f i)
unfolding greatest
greatest_one f zero some = absurd (omega arith)
greatest_one f (suc zero) some = (0, omega arith, omega arith)
greatest_one f (suc (suc n)) some =
    let r = greatest_one f (suc n) (omega arith) in
    ⊎_elim
    (λ (l : greatest f (suc n) < f (suc n)). (suc n, omega arith, omega arith))
    (λ (g : f (suc n) ≤ greatest f (suc n)). (r.0, omega (arith, r.1), omega (arith, r.2)))
    (cases_lt (greatest f (suc n)) (f (suc n)))

-- numbers that are no greater than those before them
pub greatest_flat : (f : ℕ → ℕ) (n m : ℕ) → n ≤ m → ((i : ℕ) → n ≤ i → i < m → f i ≤ greatest f n) → greatest f m ≡ greatest f n
greatest_flat f n m h flat =
    let a = greatest_from f m (greatest f n) (λ i lt. ⊎_elim (λ (l : i < n). greatest_at f n i l) (λ (g : n ≤ i). flat i g lt) (cases_lt i n)) in
    let b = greatest_from f n (greatest f m) (λ i lt. greatest_at f m i (omega arith)) in
    omega arith
