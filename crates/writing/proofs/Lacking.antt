-- Texts that lack a byte, and where a text is cut that was joined by that byte. What `decimal` writes is digits only, so it lacks byte 10
-- and the comma, and is read back as the number.
use Rattle.std.proofs.Common.{◌≡◌, ℕ, suc, ◌+◌, ◌-◌, ◌*◌, ◌<◌, ◌≤◌, true, cond, eqb, leb, List, [], ◌∷◌, ◌++◌, length, get_or, take, drop, Some, Ok, decimal, sym, refl, ap, ◌∙◌, ⊎_elim, arith}
use Rattle.std.specs.Option.{ok_or}
use Rattle.std.proofs.lemmas.Fmt.{digits_decimal, digits_value-decimal, length-decimal-le, decimal_nonempty, first_decimal}
use Rattle.std.proofs.lemmas.List.{append_assoc, take_at, drop_at, take_all, length-append, length_push}
use Rattle.std.proofs.lemmas.List.Sums.{sum_by-append}
use Rattle.std.proofs.lemmas.Bool.{cases_lt, eq-eqb, ne_eqb, cond-true, cond-false, lt-ltb, leb-true, and_parts}
use Rattle.faults.specs.declared.fault.FieldFault.TheVariants.{Form}
use Rattle.text.specs.Cuts.{at, before, past, has, how_many}
use Rattle.text.specs.Numerals.{digits_from, numeral_in}
use Rattle.text.proofs.Cutting.{count_cons}
use Rattle.text.proofs.Digit.{numeral_is}
use Rattle.reader.specs.Chain.{and_then}
use Rattle.reader.specs.Fields.{numeral_field, ranged, number_field}
use Rattle.reader.proofs.Checked.{in_range}
use Rattle.writing.specs.Written.{field}
use Rattle.writing.proofs.Digits.{digits_only, read_on, own}

-- no byte of the text is c
abbrev pub Lacks : ℕ → List ℕ → Type 0
Lacks c [] = Unit {0}
Lacks c (x ∷ xs) = (x ≡ c → ⊥) × Lacks c xs

pub lacks_append : (c : ℕ) (xs ys : List ℕ) → Lacks c xs → Lacks c ys → Lacks c (xs ++ ys)
lacks_append c [] ys h k = k
lacks_append c (x ∷ xs) ys h k = (h.0, lacks_append c xs ys h.1 k)

at_join : (c : ℕ) (xs ys : List ℕ) → Lacks c xs → at c (xs ++ c ∷ ys) ≡ length xs
unfolding at
at_join c [] ys h = cond-true _ _ _ (eq-eqb c c refl)
at_join c (x ∷ xs) ys h = cond-false _ _ _ (ne_eqb x c h.0) ∙ ap suc (at_join c xs ys h.1)

at_none : (c : ℕ) (xs : List ℕ) → Lacks c xs → at c xs ≡ length xs
unfolding at
at_none c [] h = refl
at_none c (x ∷ xs) h = cond-false _ _ _ (ne_eqb x c h.0) ∙ ap suc (at_none c xs h.1)

-- the first c of a text is the one that joined it to a text without c
module _ (c : ℕ) (xs ys : List ℕ) (h : Lacks c xs) where
  pub has_join : has c (xs ++ c ∷ ys) ≡ true
  has_join = let e = at_join c xs ys h in let l = length-append xs (c ∷ ys) in lt-ltb _ _ (omega arith)

  pub before_join : before c (xs ++ c ∷ ys) ≡ xs
  before_join = ap (λ n. take n (xs ++ c ∷ ys)) (at_join c xs ys h) ∙ take_at xs (c ∷ ys) (length xs) refl

  pub past_join : past c (xs ++ c ∷ ys) ≡ ys
  past_join =
      ap (λ n. drop (n + 1) (xs ++ c ∷ ys)) (at_join c xs ys h) ∙ ap (drop (length xs + 1)) (sym (append_assoc xs (c ∷ []) ys))
      ∙ drop_at (xs ++ c ∷ []) ys (length xs + 1) (length_push xs c)

pub before_none : (c : ℕ) (xs : List ℕ) → Lacks c xs → before c xs ≡ xs
before_none c xs h = ap (λ n. take n xs) (at_none c xs h) ∙ take_all (length xs) xs (omega arith)

pub count_none : (c : ℕ) (xs : List ℕ) → Lacks c xs → how_many c xs ≡ 0
unfolding how_many
count_none c [] h = refl
count_none c (x ∷ xs) h =
    let n = count_cons c x xs in
    let t : cond {A = ℕ} (eqb x c) 1 0 ≡ 0 = cond-false _ _ _ (ne_eqb x c h.0) in
    let r = count_none c xs h.1 in
    omega arith

count_append : (c : ℕ) (xs ys : List ℕ) → how_many c (xs ++ ys) ≡ how_many c xs + how_many c ys
unfolding how_many
count_append c xs ys = sum_by-append (λ x. cond (eqb x c) 1 0) xs ys

digits_lack : (c : ℕ) (xs : List ℕ) → c < 48 → digits_only xs ≡ true → Lacks c xs
digits_lack c [] h e = tt
digits_lack c (x ∷ xs) h e =
    let p = and_parts _ _ e in
    let low = leb-true 48 x (and_parts (leb 48 x) (leb x 57) p.0).0 in
    ((λ s. omega arith), digits_lack c xs h p.1)

digits_read : (n : ℕ) (xs : List ℕ) → digits_only xs ≡ true → digits_from n xs ≡ Some (read_on n xs)
unfolding digits_from
digits_read n [] e = refl
digits_read n (x ∷ xs) e = let p = and_parts _ _ e in cond-true _ _ _ p.0 ∙ digits_read (n * 10 + (x - 48)) xs p.1

-- a number of at most seven digits
module _ (n : ℕ) (h : n < 10000000) where
  pub decimal_lacks : (c : ℕ) → c < 48 → Lacks c (decimal n)
  decimal_lacks c l = digits_lack c (decimal n) l (digits_decimal own n (omega arith))

  led : 2 ≤ length (decimal n) → get_or (decimal n) 0 0 ≡ 48 → ⊥
  led two e =
      ⊎_elim
      (λ (z : n < 1). omega (arith, length-decimal-le 1 n (omega arith) (omega arith) (omega arith)))
      (λ (s : 1 ≤ n). omega (arith, first_decimal n s (omega arith)))
      (cases_lt n 1)

  pub numeral_read : numeral_in (decimal n) ≡ Some n
  numeral_read =
      let some = decimal_nonempty n (omega arith) in
      let long : length (decimal n) ≤ 7 = length-decimal-le 7 n (omega arith) (omega arith) (omega arith) in
      sym (numeral_is (decimal n) (omega arith) long led) ∙ digits_read 0 (decimal n) (digits_decimal own n (omega arith)) ∙ ap Some (digits_value-decimal own n (omega arith))

  pub numeral_field_lem : (k : ℕ) → numeral_field k (decimal n) ≡ Ok n
  numeral_field_lem k = ap (λ o. ok_or o (Form k)) numeral_read

  -- a number in its range is read
  pub number_field_lem : (k least most : ℕ) → least ≤ n → n ≤ most → number_field k least most (decimal n) ≡ Ok n
  unfolding number_field
  number_field_lem k least most low high = ap (λ r. and_then r (ranged k least most)) (numeral_field_lem k) ∙ sym (in_range k least most n low high)

  -- a field ends at the first comma
  pub field_before : (fs : List ℕ) → before 44 (field n fs) ≡ decimal n
  field_before fs = before_join 44 (decimal n) fs (decimal_lacks 44 (omega arith))

  pub field_past : (fs : List ℕ) → past 44 (field n fs) ≡ fs
  field_past fs = past_join 44 (decimal n) fs (decimal_lacks 44 (omega arith))

  pub field_alone : before 44 (decimal n) ≡ decimal n
  field_alone = before_none 44 (decimal n) (decimal_lacks 44 (omega arith))

  pub field_lacks : (fs : List ℕ) → Lacks 10 fs → Lacks 10 (field n fs)
  field_lacks fs l = lacks_append 10 (decimal n) (44 ∷ fs) (decimal_lacks 10 (omega arith)) ((λ e. omega arith), l)

  pub field_counts : (fs : List ℕ) → how_many 44 (field n fs) ≡ suc (how_many 44 fs)
  field_counts fs =
      let a = count_append 44 (decimal n) (44 ∷ fs) in
      let b = count_cons 44 44 fs in
      let t : cond {A = ℕ} (eqb 44 44) 1 0 ≡ 1 = refl in
      let z = count_none 44 (decimal n) (decimal_lacks 44 (omega arith)) in
      omega arith

  pub alone_counts : how_many 44 (decimal n) ≡ 0
  alone_counts = count_none 44 (decimal n) (decimal_lacks 44 (omega arith))
