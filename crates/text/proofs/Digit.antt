-- Numerals, digit by digit.
use Rattle.std.proofs.Common.{◌≡◌, ℕ, suc, ◌+◌, ◌-◌, ◌*◌, ◌^◌, ◌<◌, ◌≤◌, Bool, true, false, cond, ◌&&◌, eqb, ltb, List, [], ◌∷◌, length, get_or, drop, Some, None, Option, sym, refl, ◌∙◌, ⊎_elim, pow-suc, add-one, arith}
use Rattle.std.proofs.lemmas.List.{at_drop_more, at_drop_all}
use Rattle.std.proofs.lemmas.Bool.{eq-eqb, ne_eqb, cond-true, cond-false, cases_lt, le-leb, lt-leb, and_from, and_left, and_right, lt-ltb, le-ltb}
use Rattle.text.specs.Numerals.{digits_from, numeral_in}

-- a loop over the digits: one digit more
pub digit_on : (n : ℕ) (xs : List ℕ) (i : ℕ) → i < length xs → 48 ≤ get_or xs i 0 → get_or xs i 0 ≤ 57 → digits_from n (drop i xs) ≡ digits_from (n * 10 + (get_or xs i 0 - 48)) (drop (i + 1) xs)
unfolding digits_from
digit_on n xs i h low high = at_drop_more (digits_from n) xs i 0 h ∙ cond-true _ _ _ (and_from _ _ (le-leb _ _ low) (le-leb _ _ high))

-- a byte below the digits
pub digit_low : (n : ℕ) (xs : List ℕ) (i : ℕ) → i < length xs → get_or xs i 0 < 48 → digits_from n (drop i xs) ≡ None
unfolding digits_from
digit_low n xs i h low = at_drop_more (digits_from n) xs i 0 h ∙ cond-false _ _ _ (and_left _ _ (lt-leb _ _ low))

-- a byte above the digits
pub digit_high : (n : ℕ) (xs : List ℕ) (i : ℕ) → i < length xs → 57 < get_or xs i 0 → digits_from n (drop i xs) ≡ None
unfolding digits_from
digit_high n xs i h high = at_drop_more (digits_from n) xs i 0 h ∙ cond-false _ _ _ (and_right _ _ (lt-leb _ _ high))

-- no byte left
pub digit_end : (n : ℕ) (xs : List ℕ) (i : ℕ) → length xs ≤ i → digits_from n (drop i xs) ≡ Some n
unfolding digits_from
digit_end n xs i h = at_drop_all (digits_from n) xs i h

-- a number of i digits and one digit more
pub ten_more : (n d i : ℕ) → n < 10 ^ i → d < 10 → n * 10 + d < 10 ^ (i + 1)
ten_more n d i h k = rw (add-one, pow-suc) (omega arith)

-- no digit
pub numeral_empty : (xs : List ℕ) → length xs ≡ 0 → None ≡ numeral_in xs
unfolding numeral_in
numeral_empty [] e = refl
numeral_empty (x ∷ xs) e = absurd (omega arith)

-- a zero and more
pub numeral_led : (xs : List ℕ) → 2 ≤ length xs → get_or xs 0 0 ≡ 48 → None ≡ numeral_in xs
unfolding numeral_in
numeral_led [] h e = refl
numeral_led (x ∷ xs) h e = sym (cond-true _ _ _ (and_from _ _ (eq-eqb _ _ e) (lt-ltb 0 (length xs) (omega arith))))

-- nothing, whatever the test
both_none : (b : Bool) (r : Option ℕ) → r ≡ None → None ≡ cond b None r
both_none true r e = refl
both_none false r e = sym e

-- more than seven digits
pub numeral_long : (xs : List ℕ) → 7 < length xs → None ≡ numeral_in xs
unfolding numeral_in
numeral_long [] h = refl
numeral_long (x ∷ xs) h = both_none _ _ (cond-true _ _ _ (le-leb 7 (length xs) (omega arith)))

-- no leading zero
unled : (x n : ℕ) → (2 ≤ suc n → x ≡ 48 → ⊥) → (eqb x 48 && ltb 0 n) ≡ false
unled x n f = ⊎_elim (λ (h : 0 < n). and_left _ _ (ne_eqb x 48 (f (omega arith)))) (λ (h : n ≤ 0). and_right _ _ (le-ltb 0 n h)) (cases_lt 0 n)

-- one to seven digits without a leading zero
pub numeral_is : (xs : List ℕ) → 1 ≤ length xs → length xs ≤ 7 → (2 ≤ length xs → get_or xs 0 0 ≡ 48 → ⊥) → digits_from 0 xs ≡ numeral_in xs
unfolding numeral_in
numeral_is [] h k f = absurd (omega arith)
numeral_is (x ∷ xs) h k f = sym (cond-false _ _ _ (unled x (length xs) f) ∙ cond-false _ _ _ (lt-leb 7 (length xs) (omega arith)))
