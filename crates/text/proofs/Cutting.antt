-- Cutting a text, by steps.
use Rattle.std.proofs.Common.{◌≡◌, ℕ, suc, ◌+◌, ◌-◌, ◌<◌, ◌≤◌, true, false, cond, eqb, ltb, ◌||◌, List, [], ◌∷◌, length, take, drop, Some, None, position, sym, refl, ap, ◌∙◌, subst, ⊎_elim, arith}
use Rattle.std.proofs.lemmas.Slice.Eq.{HasBytesAt}
use Rattle.std.proofs.lemmas.List.{at_drop_more, take_rest}
use Rattle.std.proofs.lemmas.List.Sums.{sum_by-cons}
use Rattle.std.proofs.lemmas.List.Recursion.{is_position_or_len}
use Rattle.std.specs.List.{list_any, position_or_len}
use Rattle.std.proofs.lemmas.Bool.{cases_Bool, eq-eqb, cond-true, cond-false, lt-ltb, le-ltb, cases_lt}
use Rattle.text.specs.Cuts.{at, has, how_many}
use Rattle.text.specs.Keys.{strip}

-- an order of successors
pub ltb_suc : (m n : ℕ) → ltb (suc m) (suc n) ≡ ltb m n
ltb_suc m n = ⊎_elim (λ (h : m < n). lt-ltb (suc m) (suc n) (omega arith) ∙ sym (lt-ltb m n h)) (λ (h : n ≤ m). le-ltb (suc m) (suc n) (omega arith) ∙ sym (le-ltb m n h)) (cases_lt m n)

-- a byte stands where std finds it, which answers the length of the text where it finds none
at_position : (c : ℕ) (xs : List ℕ) → at c xs ≡ position_or_len (λ x. eqb x c) xs
unfolding at
at_position c xs = is_position_or_len (at c) (λ x. eqb x c) refl (λ x xs. ap (cond (eqb x c) 0) (omega arith)) xs

-- so std tells it where it stands
found_at : (c : ℕ) (xs : List ℕ) → position (λ x. eqb x c) xs ≡ cond (has c xs) (Some (at c xs)) None
found_at c xs = ap (λ n. cond (ltb n (length xs)) (Some n) None) (sym (at_position c xs))

-- a byte that std finds
pub at_some : (c i : ℕ) (xs : List ℕ) → Some i ≡ position (λ x. eqb x c) xs → at c xs ≡ i
at_some c i xs e =
    ⊎_elim
    (λ (h : at c xs < length xs). let t = cond-true _ (Some (at c xs)) None (lt-ltb _ _ h) in cc (found_at c xs))
    (λ (h : length xs ≤ at c xs). let t = cond-false _ (Some (at c xs)) None (le-ltb _ _ h) in cc (found_at c xs))
    (cases_lt (at c xs) (length xs))

-- a byte that std does not find
pub at_none : (c : ℕ) (xs : List ℕ) → None ≡ position (λ x. eqb x c) xs → length xs ≤ at c xs
at_none c xs e =
    ⊎_elim
    (λ (h : at c xs < length xs). let t = cond-true _ (Some (at c xs)) None (lt-ltb _ _ h) in cc (found_at c xs))
    (λ (h : length xs ≤ at c xs). h)
    (cases_lt (at c xs) (length xs))

-- a test for the byte finds it where it stands
pub any_has : (c : ℕ) (xs : List ℕ) → list_any (λ x. eqb x c) xs ≡ has c xs
unfolding at
any_has c [] = refl
any_has c (x ∷ xs) =
    elim (eqb x c) as (λ b. (b || list_any (λ y. eqb y c) xs) ≡ ltb (cond b 0 (suc (at c xs))) (suc (length xs))) [
      | true ↦ sym (lt-ltb 0 (suc (length xs)) (omega arith))
      | false ↦ any_has c xs ∙ sym (ltb_suc (at c xs) (length xs))
    ]

-- a front that is read byte by byte
strip_from : (p xs : List ℕ) (i : ℕ) → i + length p ≤ length xs → HasBytesAt xs i p → Some (drop (i + length p) xs) ≡ strip p (drop i xs)
strip_from [] xs i h r = ap (λ n. Some (drop n xs)) (omega arith)
strip_from (c ∷ p) xs i h r =
    let on : i + 1 ≡ suc i = omega arith in
    let step = strip_from p xs (i + 1) (omega arith) (subst (λ j. HasBytesAt xs j p) (sym on) r.1) in
    ap (λ n. Some (drop n xs)) (omega arith) ∙ step ∙ sym (at_drop_more (strip (c ∷ p)) xs i 0 (omega arith) ∙ cond-true _ _ _ (eq-eqb _ c r.0))

-- for a slice pattern that names the bytes of p and then the rest
pub strip_is : (p xs : List ℕ) → length p ≤ length xs → HasBytesAt xs 0 p → Some (take (length xs - length p) (drop (length p) xs)) ≡ strip p xs
strip_is p xs h r = ap Some (take_rest xs (length p)) ∙ ap (λ n. Some (drop n xs)) (omega arith) ∙ strip_from p xs 0 (omega arith) r

-- one byte more
pub count_cons : (c x : ℕ) (xs : List ℕ) → how_many c (x ∷ xs) ≡ cond (eqb x c) 1 0 + how_many c xs
unfolding how_many
count_cons c x xs = sum_by-cons (λ y. cond (eqb y c) 1 0) x xs

-- a byte that is counted stands in the text, and one that is not does not
pub counted_has : (c : ℕ) (xs : List ℕ) → 0 < how_many c xs → at c xs < length xs
unfolding at how_many
counted_has c [] h = absurd (omega arith)
counted_has c (x ∷ xs) h =
    ⊎_elim
    (λ (e : eqb x c ≡ true). let z = cond-true (eqb x c) 0 (suc (at c xs)) e in omega arith)
    (λ (e : eqb x c ≡ false).
    let z = cond-false (eqb x c) 0 (suc (at c xs)) e in
    let n = count_cons c x xs in
    let t : cond {A = ℕ} (eqb x c) 1 0 ≡ 0 = cond-false _ _ _ e in
    let r = counted_has c xs (omega arith) in
    omega arith)
    (cases_Bool (eqb x c))

-- a byte that is not counted does not stand in the text
pub none_counted : (c : ℕ) (xs : List ℕ) → how_many c xs ≤ 0 → length xs ≤ at c xs
unfolding at how_many
none_counted c [] h = omega arith
none_counted c (x ∷ xs) h =
    ⊎_elim
    (λ (e : eqb x c ≡ true).
    let n = count_cons c x xs in
    let t : cond {A = ℕ} (eqb x c) 1 0 ≡ 1 = cond-true _ _ _ e in
    absurd (omega arith))
    (λ (e : eqb x c ≡ false).
    let z = cond-false (eqb x c) 0 (suc (at c xs)) e in
    let n = count_cons c x xs in
    let t : cond {A = ℕ} (eqb x c) 1 0 ≡ 0 = cond-false _ _ _ e in
    let r = none_counted c xs (omega arith) in
    omega arith)
    (cases_Bool (eqb x c))
