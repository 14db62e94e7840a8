-- The checks of lines and fields, by their outcomes.
use Rattle.std.proofs.Common.{◌≡◌, ℕ, ◌+◌, ◌-◌, ◌<◌, ◌≤◌, List, [], ◌∷◌, length, get_or, drop, set, Some, None, Ok, Option, sym, ap, ◌∙◌, ⊎_elim, arith}
use Rattle.std.specs.Option.{ok_or}
use Rattle.std.proofs.lemmas.List.{at_drop_more, at_drop_all, drop-set}
use Rattle.std.proofs.lemmas.Bool.{cases_lt, eq-eqb, ne_eqb, le-leb, and_from, cond-true, cond-false}
use Rattle.units.specs.Limits.{least_frame, most_frame, most_depth}
use Rattle.faults.specs.declared.fault.FieldFault.TheVariants.{Form}
use Rattle.gates.specs.declared.gate_line.Gate.{Gate}
use Rattle.gates.specs.declared.gate_line.Gate.TheVariants.{Open, Shut}
use Rattle.gates.specs.Sizes.{Sized}
use Rattle.reader.specs.Fields.{ranged, room_most, letters_from, gates_in}

-- a number and its range
module _ (k least most n : ℕ) where
  -- within
  pub in_range : least ≤ n → n ≤ most → Ok n ≡ ranged k least most n
  in_range h l = sym (cond-true _ _ _ (and_from _ _ (le-leb least n h) (le-leb n most l)))

-- one place more, where i places from the end are written
pub put_front : {X : Type 0} (xs : List X) (i : ℕ) (x : X) → length xs ≡ 8 → i < 8 → drop (8 - (i + 1)) (set xs (7 - i) x) ≡ x ∷ drop (8 - i) xs
put_front xs i x eight h =
    let a : 8 - (i + 1) ≡ 7 - i = omega arith in
    let b : 7 - i + 1 ≡ 8 - i = omega arith in
    ap (λ j. drop j (set xs (7 - i) x)) a ∙ drop-set xs (7 - i) x (omega arith) ∙ ap (λ j. x ∷ drop j xs) b

-- one letter more: i letters are read, and the gates from 8 - i on are theirs
module _ (gs : List Gate) (xs : List ℕ) (i : ℕ) (eight : length gs ≡ 8) (h : i < length xs) (l : i < 8) where
  -- the letter O
  pub letter_open : get_or xs i 0 ≡ 79 → letters_from (drop (8 - i) gs) (drop i xs) ≡ letters_from (drop (8 - (i + 1)) (set gs (7 - i) Open)) (drop (i + 1) xs)
  unfolding letters_from
  letter_open e = at_drop_more (letters_from (drop (8 - i) gs)) xs i 0 h ∙ cond-true _ _ _ (eq-eqb _ _ e) ∙ ap (λ r. letters_from r (drop (i + 1) xs)) (sym (put_front gs i Open eight l))

  -- the letter C
  pub letter_shut : get_or xs i 0 ≡ 67 → letters_from (drop (8 - i) gs) (drop i xs) ≡ letters_from (drop (8 - (i + 1)) (set gs (7 - i) Shut)) (drop (i + 1) xs)
  unfolding letters_from
  letter_shut e =
      at_drop_more (letters_from (drop (8 - i) gs)) xs i 0 h ∙ cond-false _ _ _ (ne_eqb (get_or xs i 0) 79 (λ f. omega arith)) ∙ cond-true _ _ _ (eq-eqb _ _ e)
      ∙ ap (λ r. letters_from r (drop (i + 1) xs)) (sym (put_front gs i Shut eight l))

-- another letter
pub letter_other : (gs : List Gate) (xs : List ℕ) (i : ℕ) → i < length xs → (get_or xs i 0 ≡ 79 → ⊥) → (get_or xs i 0 ≡ 67 → ⊥) → letters_from gs (drop i xs) ≡ None
unfolding letters_from
letter_other gs xs i h e f = at_drop_more (letters_from gs) xs i 0 h ∙ cond-false _ _ _ (ne_eqb _ _ e) ∙ cond-false _ _ _ (ne_eqb _ _ f)

-- all letters are read
pub letters_end : (gs : List Gate) (xs : List ℕ) (i : ℕ) → length xs ≤ i → 8 ≤ i → letters_from (drop (8 - i) gs) (drop i xs) ≡ Some gs
unfolding letters_from
letters_end gs xs i h k = let z : 8 - i ≡ 0 = omega arith in at_drop_all (letters_from (drop (8 - i) gs)) xs i h ∙ ap (λ j. Some (drop j gs)) z

-- eight letters, and what they write
pub gates_are : (k : ℕ) (xs : List ℕ) (o : Option (List Gate)) → length xs ≡ 8 → letters_from [] xs ≡ o → ok_or o (Form k) ≡ gates_in k xs
unfolding gates_in
gates_are k xs o h e = ap (λ p. ok_or p (Form k)) (sym e) ∙ sym (cond-true _ _ _ (eq-eqb _ 8 h))

-- the room of a class that sends nothing, and of one that sends
room_none : (m : ℕ) → m ≡ 0 → room_most m ≡ 0
room_none m h = cond-true _ _ _ (eq-eqb m 0 h)

-- the room of a class that sends
room_some : (m : ℕ) → 1 ≤ m → room_most m ≡ most_depth
room_some m h = cond-false _ _ _ (ne_eqb m 0 (λ e. omega arith))

-- the depth is in its range exactly where the sizes are those of a class
module _ (m d : ℕ) where
  -- a depth in its range gives sizes that a class may have
  pub in_room : m ≤ most_frame → (1 ≤ m → least_frame ≤ m) → m ≤ d → d ≤ room_most m → Sized m d
  in_room most least low high =
      ⊎_elim
      (λ (h : m < 1). let z : m ≡ 0 = omega arith in let r = room_none m z in record { most = most; least = least; room = low; deep = omega arith; silent = λ e. omega arith })
      (λ (h : 1 ≤ m). let r = room_some m h in record { most = most; least = least; room = low; deep = omega arith; silent = λ e. absurd (omega arith) })
      (cases_lt m 1)
