-- A line that begins with a key and an equals sign has that key before its first equals sign.
use Rattle.std.proofs.Common.{◌≡◌, ℕ, suc, ◌+◌, Bool, true, false, cond, ◌&&◌, eqb, ltb, List, [], ◌∷◌, ◌++◌, length, take, drop, Some, None, Ok, Err, codes, Option, sym, refl, ap, ◌∙◌, ⊎_elim, arith, rules}
use Rattle.std.specs.Str.{bytes_eq}
use Rattle.std.specs.List.{list_any, AllByRecursion}
use Rattle.std.proofs.lemmas.Bool.{cases_Bool, eqb-true, ne_eqb, cond-true, cond-false, lt-ltb}
use Rattle.faults.specs.declared.fault.LineFault.TheVariants.{Missing}
use Rattle.faults.specs.declared.fault.LineFault.TheVariants as fault
use Rattle.text.specs.declared.keys.Key.{Key}
use Rattle.text.specs.declared.keys.Key.TheVariants.{Port, Cycle, Gates, Gate, Class, Flows, Flow}
use Rattle.text.specs.Cuts.{at, before, past, has}
use Rattle.text.specs.Keys.{key, word, strip, value_in}
use Rattle.text.proofs.Cutting.{ltb_suc, any_has}

-- the key before an equals sign at n, and what is past it
abbrev cut_as : List ℕ → List ℕ → ℕ → Option (List ℕ)
cut_as k xs n = cond (ltb n (length xs)) (cond (bytes_eq (take n xs) k) (Some (drop (n + 1) xs)) None) None

-- nothing, whatever the test
none_both : (b : Bool) → None ≡ cond {A = Option (List ℕ)} b None None
none_both true = refl
none_both false = refl

-- two tests in the other order
nest : (b e s : Bool) (r : Option (List ℕ)) → cond e (cond b (cond s r None) None) None ≡ cond b (cond (e && s) r None) None
nest true true s r = refl
nest true false s r = refl
nest false true s r = refl
nest false false s r = refl

-- a key and a line that begin with one byte more
cut_suc : (c x n : ℕ) (k xs : List ℕ) → cond (eqb x c) (cut_as k xs n) None ≡ cut_as (c ∷ k) (x ∷ xs) (suc n)
cut_suc c x n k xs =
    let less = sym (ltb_suc n (length xs)) in
    let left : drop (n + 1) xs ≡ drop (suc n + 1) (x ∷ xs) = let e : suc n + 1 ≡ suc (n + 1) = omega arith in ap (λ m. drop m (x ∷ xs)) (sym e) in
    nest (ltb n (length xs)) (eqb x c) (bytes_eq (take n xs) k) (Some (drop (n + 1) xs))
    ∙ (λ i. cond (less i) (cond (eqb x c && bytes_eq (take n xs) k) (Some (left i)) None) None)

-- a key without an equals sign is in front exactly if it stands before the first one
pub key_strip : (k xs : List ℕ) → AllByRecursion (λ c. c ≡ 61 → ⊥) k → strip (k ++ 61 ∷ []) xs ≡ cut_as k xs (at 61 xs)
unfolding at
key_strip [] [] h = refl
key_strip [] (x ∷ xs) h =
    elim (eqb x 61) as (λ b. cond b (Some xs) None ≡ cut_as [] (x ∷ xs) (cond b 0 (suc (at 61 xs)))) [
      | true ↦ sym (cond-true _ _ _ (lt-ltb 0 (suc (length xs)) (omega arith)))
      | false ↦ none_both _
    ]
key_strip (c ∷ k) [] h = refl
key_strip (c ∷ k) (x ∷ xs) h =
    ⊎_elim
    (λ (e : eqb x 61 ≡ true). cond-false _ _ _ (ne_eqb x c (λ f. h.0 (sym f ∙ eqb-true x 61 e))) ∙ none_both _ ∙ ap (cut_as (c ∷ k) (x ∷ xs)) (sym (cond-true _ _ _ e)))
    (λ (e : eqb x 61 ≡ false). ap (λ r. cond (eqb x c) r None) (key_strip k xs h.1) ∙ cut_suc c x (at 61 xs) k xs ∙ ap (cut_as (c ∷ k) (x ∷ xs)) (sym (cond-false _ _ _ e)))
    (cases_Bool (eqb x 61))

-- the same of each key
word_key : (due : Key) (xs : List ℕ) → strip (word due) xs ≡ cut_as (key due) xs (at 61 xs)
word_key Port xs = key_strip (codes "port") xs (search rules)
word_key Cycle xs = key_strip (codes "cycle") xs (search rules)
word_key Gates xs = key_strip (codes "gates") xs (search rules)
word_key Gate xs = key_strip (codes "gate") xs (search rules)
word_key Class xs = key_strip (codes "class") xs (search rules)
word_key Flows xs = key_strip (codes "flows") xs (search rules)
word_key Flow xs = key_strip (codes "flow") xs (search rules)

-- the key is in front: the value
some_way : (k : ℕ) (b s : Bool) (v w : List ℕ) → Some v ≡ cond b (cond s (Some w) None) None → Ok v ≡ cond b (cond s (Ok w) (Err (fault.Key k))) (Err (Missing k))
some_way k true true v w e = ap Ok (cc)
some_way k true false v w e = let z : ◌≡◌ {A = ℕ} 0 1 = cc in absurd (omega arith)
some_way k false s v w e = let z : ◌≡◌ {A = ℕ} 0 1 = cc in absurd (omega arith)

-- the key is not in front: the fault
none_way : (k : ℕ) (b s : Bool) (w : List ℕ) → None ≡ cond b (cond s (Some w) None) None → Err (cond b (fault.Key k) (Missing k)) ≡ cond b (cond s (Ok w) (Err (fault.Key k))) (Err (Missing k))
none_way k true true w e = let z : ◌≡◌ {A = ℕ} 0 1 = cc in absurd (omega arith)
none_way k true false w e = refl
none_way k false s w e = refl

-- what follows the due key
pub value_some : (k : ℕ) (due : Key) (xs v : List ℕ) → Some v ≡ strip (word due) xs → Ok v ≡ value_in k due xs
value_some k due xs v e = some_way k (has 61 xs) (bytes_eq (before 61 xs) (key due)) v (past 61 xs) (e ∙ word_key due xs)

-- the fault where the due key is not in front
value_none : (k : ℕ) (due : Key) (xs : List ℕ) → None ≡ strip (word due) xs → Err (cond (has 61 xs) (fault.Key k) (Missing k)) ≡ value_in k due xs
value_none k due xs e = none_way k (has 61 xs) (bytes_eq (before 61 xs) (key due)) (past 61 xs) (e ∙ word_key due xs)

-- the same, as the test for an equals sign tells it
pub value_fault : (k : ℕ) (due : Key) (xs : List ℕ) (b : Bool) → None ≡ strip (word due) xs → list_any (λ x. eqb x 61) xs ≡ b → Err (cond b (fault.Key k) (Missing k)) ≡ value_in k due xs
value_fault k due xs b none e = ap (λ b. Err (cond b (fault.Key k) (Missing k))) (sym e ∙ any_has 61 xs) ∙ value_none k due xs none
