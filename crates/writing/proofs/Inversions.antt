-- From what is read back to what was there: the checks, the numbers and the commas of a line.
-- Each lemma takes a result that is good, and says of what it was made.
use Rattle.std.proofs.Common.{◌≡◌, ℕ, suc, ◌+◌, ◌-◌, ◌*◌, ◌<◌, ◌≤◌, Bool, true, false, cond, ◌&&◌, eqb, ltb, leb, List, [], ◌∷◌, ◌++◌, length, get_or, drop, Some, None, Ok, Err, decimal, Option, Result, sym, refl, ap, ◌∙◌, ⊎_elim, arith}
use Rattle.std.specs.Option.{ok_or}
use Rattle.std.proofs.lemmas.Fmt.{decimal-digits_value}
use Rattle.std.proofs.lemmas.List.{take-append-drop, take_all, drop_more}
use Rattle.std.proofs.lemmas.Str.Parse.{digits_value_short}
use Rattle.std.proofs.lemmas.Bool.{cases_Bool, eqb-true, eqb-false, leb-true, leb-false, ltb-true, ltb-false, lt-ltb, cond-true, cond-false, and_cases, and_parts, and_from}
use Rattle.text.specs.Cuts.{at, before, past, has, how_many}
use Rattle.text.specs.Numerals.{digits_from, numeral_in}
use Rattle.text.proofs.Cutting.{count_cons, counted_has, none_counted}
use Rattle.reader.specs.Chain.{and_then, within}
use Rattle.reader.specs.Fields.{numeral_field, ranged, number_field}
use Rattle.writing.proofs.Digits.{digits_only, read_on, own}

-- two good results are one only where their values are, and a good one is never a fault
pub ok_ok : {A E : Type 0} {a b : A} → ◌≡◌ {A = Result A E} (Ok a) (Ok b) → a ≡ b
ok_ok e = cc

-- a fault is no good result
pub err_ok : {A E : Type 0} {a : A} {x : E} → ◌≡◌ {A = Result A E} (Err x) (Ok a) → ⊥
err_ok e = let z : ◌≡◌ {A = ℕ} 0 1 = cc in omega arith

-- nothing is not something
none_some : {A : Type 0} {a : A} → ◌≡◌ {A = Option A} None (Some a) → ⊥
none_some e = let z : ◌≡◌ {A = ℕ} 0 1 = cc in omega arith

-- a chain is good where each of its parts is
pub then_ok : {A B E : Type 0} (r : Result A E) (f : A → Result B E) (b : B) → and_then r f ≡ Ok b → (a : A) × (r ≡ Ok a) × (f a ≡ Ok b)
then_ok (Ok a) f b e = (a, refl, e)
then_ok (Err x) f b e = absurd (err_ok e)

-- a good result under a fault of a higher layer
pub within_ok : {A E F : Type 0} (g : E → F) (r : Result A E) (a : A) → within g r ≡ Ok a → r ≡ Ok a
within_ok g (Ok b) a e = ap Ok (ok_ok e)
within_ok g (Err x) a e = absurd (err_ok e)

-- a good result from an option
pub or_ok : {A E : Type 0} (o : Option A) (x : E) (a : A) → ok_or o x ≡ Ok a → o ≡ Some a
or_ok None x a e = absurd (err_ok e)
or_ok (Some b) x a e = ap Some (ok_ok e)

-- a test before a good result was passed
pub cond_ok : {A E : Type 0} (b : Bool) (r : Result A E) (x : E) (a : A) → cond b r (Err x) ≡ Ok a → (b ≡ true) × (r ≡ Ok a)
cond_ok true r x a e = (refl, e)
cond_ok false r x a e = absurd (err_ok e)

-- a test that has to fail
pub cond_ok_not : {A E : Type 0} (b : Bool) (r : Result A E) (x : E) (a : A) → cond b (Err x) r ≡ Ok a → (b ≡ false) × (r ≡ Ok a)
cond_ok_not true r x a e = absurd (err_ok e)
cond_ok_not false r x a e = (refl, e)

-- a test in front of an option
pub cond_some : {A : Type 0} (b : Bool) (r : Option A) (a : A) → cond b r None ≡ Some a → (b ≡ true) × (r ≡ Some a)
cond_some true r a e = (refl, e)
cond_some false r a e = absurd (none_some e)

-- a test in front of an option that has to fail
cond_some_not : {A : Type 0} (b : Bool) (r : Option A) (a : A) → cond b None r ≡ Some a → (b ≡ false) × (r ≡ Some a)
cond_some_not true r a e = absurd (none_some e)
cond_some_not false r a e = (refl, e)

-- digits that are read are digits, and write the number
digits_back : (n m : ℕ) (xs : List ℕ) → digits_from n xs ≡ Some m → (digits_only xs ≡ true) × (read_on n xs ≡ m)
unfolding digits_from
digits_back n m [] e = (refl, cc)
digits_back n m (x ∷ xs) e =
    let p = cond_some (leb 48 x && leb x 57) (digits_from (n * 10 + (x - 48)) xs) m e in
    let q = digits_back (n * 10 + (x - 48)) m xs p.1 in
    (and_from _ _ p.0 q.0, q.1)

-- a numeral that is read is the one that is written
numeral_back : (n : ℕ) (xs : List ℕ) → numeral_in xs ≡ Some n → xs ≡ decimal n
unfolding numeral_in
numeral_back n [] e = absurd (none_some e)
numeral_back n (x ∷ xs) e =
    let p = cond_some_not (eqb x 48 && ltb 0 (length xs)) _ n e in
    let q = cond_some_not (leb 7 (length xs)) (digits_from 0 (x ∷ xs)) n p.1 in
    let d = digits_back 0 n (x ∷ xs) q.1 in
    let short = leb-false 7 (length xs) q.0 in
    let small = digits_value_short own (x ∷ xs) 7 d.0 (omega arith) in
    let one : x ≡ 48 → suc (length xs) ≡ 1 = λ z. ⊎_elim (λ f. absurd (eqb-false x 48 f z)) (λ f. let l = ltb-false 0 (length xs) f in omega arith) (and_cases (eqb x 48) (ltb 0 (length xs)) p.0) in
    sym (ap decimal (sym d.1) ∙ decimal-digits_value own (x ∷ xs) d.0 (omega arith) one (omega arith))

-- a field with a number
pub numeral_field_back : (k n : ℕ) (xs : List ℕ) → numeral_field k xs ≡ Ok n → xs ≡ decimal n
numeral_field_back k n xs e = numeral_back n xs (or_ok (numeral_in xs) _ n e)

-- a number that is read is in its range
ranged_back : (k least most m n : ℕ) → ranged k least most m ≡ Ok n → (m ≡ n) × (least ≤ m) × (m ≤ most)
ranged_back k least most m n e =
    let p = cond_ok (leb least m && leb m most) (Ok m) _ n e in
    let q = and_parts (leb least m) (leb m most) p.0 in
    (ok_ok p.1, leb-true least m q.0, leb-true m most q.1)

-- a field with a number in its range
pub number_back : (k least most n : ℕ) (xs : List ℕ) → number_field k least most xs ≡ Ok n → (xs ≡ decimal n) × (least ≤ n) × (n ≤ most)
unfolding number_field
number_back k least most n xs e =
    let p = then_ok (numeral_field k xs) _ n e in
    let r = ranged_back k least most p.0 n p.2 in
    let same = r.0 in
    let low = r.1 in
    let high = r.2 in
    (numeral_field_back k p.0 xs p.1 ∙ ap decimal same, omega arith, omega arith)

-- where a byte stands in a text, the text is what is before it, the byte, and what is past it
at_is : (c : ℕ) (xs : List ℕ) → at c xs < length xs → get_or xs (at c xs) 0 ≡ c
unfolding at
at_is c [] h = absurd (omega arith)
at_is c (x ∷ xs) h =
    ⊎_elim
    (λ (e : eqb x c ≡ true). ap (λ n. get_or (x ∷ xs) n 0) (cond-true _ _ _ e) ∙ eqb-true x c e)
    (λ (e : eqb x c ≡ false). let s = cond-false (eqb x c) 0 (suc (at c xs)) e in ap (λ n. get_or (x ∷ xs) n 0) s ∙ at_is c xs (omega arith))
    (cases_Bool (eqb x c))

-- a text that has the byte c is cut there
pub has_cut : (c : ℕ) (xs : List ℕ) → has c xs ≡ true → xs ≡ before c xs ++ (c ∷ past c xs)
has_cut c xs e =
    let h = ltb-true _ _ e in
    sym (take-append-drop (at c xs) xs) ∙ ap (λ l. before c xs ++ l) (drop_more xs (at c xs) 0 h ∙ ap (λ y. y ∷ past c xs) (at_is c xs h))

-- past the first c there is one c less
past_one : (c : ℕ) (xs : List ℕ) (m : ℕ) → how_many c xs ≡ suc m → how_many c (past c xs) ≡ m
unfolding at how_many
past_one c [] m e = absurd (omega arith)
past_one c (x ∷ xs) m e =
    ⊎_elim
    (λ (h : eqb x c ≡ true).
    let n = count_cons c x xs in let t : cond {A = ℕ} (eqb x c) 1 0 ≡ 1 = cond-true _ _ _ h in
    let z = cond-true (eqb x c) 0 (suc (at c xs)) h in
    let on : at c (x ∷ xs) + 1 ≡ 1 = omega arith in
    ap (λ n. how_many c (drop n (x ∷ xs))) on ∙ omega arith)
    (λ (h : eqb x c ≡ false).
    let n = count_cons c x xs in let t : cond {A = ℕ} (eqb x c) 1 0 ≡ 0 = cond-false _ _ _ h in
    let z = cond-false (eqb x c) 0 (suc (at c xs)) h in
    let on : at c (x ∷ xs) + 1 ≡ suc (at c xs + 1) = omega arith in
    ap (λ n. how_many c (drop n (x ∷ xs))) on ∙ past_one c xs m (omega arith))
    (cases_Bool (eqb x c))

-- fields are cut at the first comma, and the last field has none
pub cut : (v : List ℕ) (m : ℕ) → how_many 44 v ≡ suc m → (v ≡ before 44 v ++ (44 ∷ past 44 v)) × (how_many 44 (past 44 v) ≡ m)
cut v m e = (has_cut 44 v (lt-ltb _ _ (counted_has 44 v (omega arith))), past_one 44 v m e)

-- the last field has no comma
pub last : (v : List ℕ) → how_many 44 v ≡ 0 → v ≡ before 44 v
last v e = sym (take_all (at 44 v) v (none_counted 44 v (omega arith)))
