-- Windows over any test of ticks: how a count splits, slides and comes round. Assumes nothing.
use Rattle.std.proofs.Common.{◌≡◌, ℕ, zero, suc, ◌+◌, ◌-◌, ◌*◌, ◌≤◌, Bool, true, false, cond, sym, refl, ap, ◌∙◌, add-zero, add_assoc, add-suc, suc-mul, zero-add, zero-mul, add-one, arith}
use Rattle.calculus.specs.Searches.{bit, count}

-- no ticks, no count
pub count_zero : (p : ℕ → Bool) (t : ℕ) → count p t 0 ≡ 0
unfolding count
count_zero p t = refl

-- one tick more at the end
pub count_more : (p : ℕ → Bool) (t d : ℕ) → count p t (d + 1) ≡ count p t d + bit p (t + d)
unfolding count bit
count_more p t d = rw add-one

-- one tick counts at most 1
pub bit_le : (p : ℕ → Bool) (t : ℕ) → bit p t ≤ 1
unfolding bit
bit_le p t = elim (p t) as (λ b. cond b 1 0 ≤ 1) [ true ↦ omega arith | false ↦ omega arith ]

-- a tick that passes
pub bit_yes : (p : ℕ → Bool) (t : ℕ) → p t ≡ true → bit p t ≡ 1
unfolding bit
bit_yes p t e = rw e

-- a tick that does not
pub bit_no : (p : ℕ → Bool) (t : ℕ) → p t ≡ false → bit p t ≡ 0
unfolding bit
bit_no p t e = rw e

-- two ticks that are alike
bit_same : (p : ℕ → Bool) (a b : ℕ) → p a ≡ p b → bit p a ≡ bit p b
unfolding bit
bit_same p a b e = rw e

-- a window of m + n ticks is one of m and one of n
pub count_split : (p : ℕ → Bool) (t m n : ℕ) → count p t (m + n) ≡ count p t m + count p (t + m) n
count_split p t m zero = let e = count_zero p (t + m) in let f = ap (count p t) (add-zero m) in omega arith
count_split p t m (suc n) =
    let ih = count_split p t m n in
    let a = ap (count p t) (add-suc m n ∙ sym (add-one (m + n))) in
    let b = count_more p t (m + n) in
    let c = ap (count p (t + m)) (sym (add-one n)) in
    let d = count_more p (t + m) n in
    let e = ap (bit p) (add_assoc t m n) in
    omega arith

-- one tick on
pub count_slide : (p : ℕ → Bool) (t d : ℕ) → count p (t + 1) d + bit p t ≡ count p t d + bit p (t + d)
count_slide p t d =
    let a = count_more p t d in
    let b = count_split p t 1 d in
    let c = count_more p t 0 in
    let z = count_zero p t in
    let e : count p t (1 + d) ≡ count p t (d + 1) = ap (count p t) (omega arith) in
    let f : count p t 1 ≡ count p t (0 + 1) = ap (count p t) (omega arith) in
    let g : bit p (t + 0) ≡ bit p t = ap (bit p) (add-zero t) in
    omega arith

-- no more than the ticks
pub count_le : (p : ℕ → Bool) (t d : ℕ) → count p t d ≤ d
count_le p t zero = let e = count_zero p t in omega arith
count_le p t (suc d) =
    let ih = count_le p t d in
    let a = ap (count p t) (sym (add-one d)) in
    let b = count_more p t d in
    let c = bit_le p (t + d) in
    omega arith

-- over more ticks no fewer
pub count_grows : (p : ℕ → Bool) (t d e : ℕ) → d ≤ e → count p t d ≤ count p t e
count_grows p t d e h =
    let a = count_split p t d (e - d) in
    let b : count p t (d + (e - d)) ≡ count p t e = ap (count p t) (omega arith) in
    omega arith

-- two tests that agree from t on by k ticks
pub count_shift : (p q : ℕ → Bool) (t u : ℕ) → ((k : ℕ) → p (t + k) ≡ q (u + k)) → (d : ℕ) → count p t d ≡ count q u d
unfolding count bit
count_shift p q t u same zero = refl
count_shift p q t u same (suc d) =
    let ih = count_shift p q t u same d in
    let e = ap (λ (b : Bool). cond {A = ℕ} b 1 0) (same d) in
    omega arith

-- a test that comes round after L ticks
module _ (p : ℕ → Bool) (L : ℕ) (round : (t : ℕ) → p (t + L) ≡ p t) where
  -- a cycle later
  pub count_round : (t d : ℕ) → count p (t + L) d ≡ count p t d
  count_round t d = count_shift p p (t + L) t (λ k. ap p (omega arith) ∙ round (t + k)) d

  -- any number of cycles later
  pub count_rounds : (q t d : ℕ) → count p (t + q * L) d ≡ count p t d
  count_rounds zero t d = ap (λ n. count p n d) (rw zero-mul (omega arith))
  count_rounds (suc q) t d =
      let e : t + suc q * L ≡ (t + q * L) + L = rw suc-mul (omega arith) in
      ap (λ n. count p n d) e ∙ count_round (t + q * L) d ∙ count_rounds q t d

  -- from one tick to the next a window of a whole cycle has the same count
  pub count_cycle_more : (t : ℕ) → count p (t + 1) L ≡ count p t L
  count_cycle_more t =
      let s = count_slide p t L in
      let e : bit p (t + L) ≡ bit p t = bit_same p (t + L) t (round t) in
      omega arith

  -- so it has wherever it starts
  pub count_cycle : (t : ℕ) → count p t L ≡ count p 0 L
  count_cycle zero = refl
  count_cycle (suc t) = ap (λ n. count p n L) (sym (add-one t)) ∙ count_cycle_more t ∙ count_cycle t

  -- a whole cycle comes out of a count
  pub count_cycle_split : (t d : ℕ) → count p t (L + d) ≡ count p 0 L + count p t d
  count_cycle_split t d = let a = count_split p t L d in let b = count_cycle t in let c = count_round t d in omega arith

  -- and so does any number of cycles
  pub count_cycles_split : (q t d : ℕ) → count p t (q * L + d) ≡ q * count p 0 L + count p t d
  count_cycles_split zero t d = simp (zero-mul, zero-add)
  count_cycles_split (suc q) t d =
      let ih = count_cycles_split q t d in
      let e : count p t (suc q * L + d) ≡ count p t (L + (q * L + d)) = ap (count p t) (rw suc-mul (omega arith)) in
      let s = count_cycle_split t (q * L + d) in
      let m = suc-mul q (count p 0 L) in
      omega arith
