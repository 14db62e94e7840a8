-- Each line that is written is read as what it was written from, whatever stands behind it.
use Rattle.std.proofs.Common.{◌≡◌, ℕ, suc, ◌<◌, ◌≤◌, false, ◌&&◌, ltb, List, [], ◌∷◌, ◌++◌, map, reverse, length, Some, Ok, decimal, Result, sym, refl, ap, ◌∙◌, ⊎_elim, arith, rules}
use mathlib.Core.List.{reverse_aux}
use Rattle.std.specs.Option.{ok_or}
use Rattle.std.proofs.lemmas.List.{append_assoc, length-map, length-reverse, reverse-reverse}
use Rattle.std.proofs.lemmas.Bool.{cases_lt, eq-eqb, ne_eqb, cond-true, cond-false, le-ltb, and_left, and_right}
use Rattle.units.specs.Limits.{classes, most_cycle, least_frame, most_frame, most_depth}
use Rattle.faults.specs.declared.fault.FieldFault.TheVariants.{Form}
use Rattle.gates.specs.declared.gate_line.Gate.{Gate}
use Rattle.gates.specs.declared.gate_line.Gate.TheVariants.{Open, Shut}
use Rattle.gates.specs.declared.gate_line.GateLine.{GateLine}
use Rattle.gates.specs.Sizes.{Sized}
use Rattle.text.specs.declared.keys.Key.{Key}
use Rattle.text.specs.declared.keys.Key.TheVariants as key
use Rattle.text.specs.Cuts.{before, past, how_many}
use Rattle.text.specs.Keys.{word, strip}
use Rattle.text.proofs.Keyed.{value_some}
use Rattle.reader.specs.Chain.{and_then, within}
use Rattle.reader.specs.Entries.{line_at, due_line, number_line, gate_line, class_line}
use Rattle.reader.specs.Fields.{number_field, letters_from, gates_in, gate_in, largest_field, room_most, sizes_in}
use Rattle.reader.specs.Contents.{ClassEntry}
use Rattle.writing.specs.Written.{line_of, number_text, field, letter, letters, gate_text, class_text}
use Rattle.writing.proofs.Lacking.{Lacks, lacks_append, has_join, before_join, past_join, before_none, count_none, decimal_lacks, number_field_lem, field_before, field_past, field_alone, field_lacks, field_counts, alone_counts}

-- a step of a chain that is not refused
pub then_goes : {X Y E : Type 0} {r : Result X E} {x : X} {y : Result Y E} (f : X → Result Y E) → r ≡ Ok x → f x ≡ y → and_then r f ≡ y
then_goes f e g = ap (λ r. and_then r f) e ∙ g

pub within_goes : {X E F : Type 0} {r : Result X E} {x : X} (f : E → F) → r ≡ Ok x → within f r ≡ Ok x
within_goes f e = ap (within f) e

word_lacks : (due : Key) → Lacks 10 (word due)
word_lacks key.Port = search rules
word_lacks key.Cycle = search rules
word_lacks key.Gates = search rules
word_lacks key.Gate = search rules
word_lacks key.Class = search rules
word_lacks key.Flows = search rules
word_lacks key.Flow = search rules

strip_front : (p v : List ℕ) → Some v ≡ strip p (p ++ v)
strip_front [] v = refl
strip_front (c ∷ p) v = strip_front p v ∙ sym (cond-true _ _ _ (eq-eqb c c refl))

-- a line whose fields lack byte 10 is read as its fields, and what is left past it is the rest
module _ (due : Key) (v rest : List ℕ) (h : Lacks 10 v) where
  whole : line_of due v ++ rest ≡ (word due ++ v) ++ 10 ∷ rest
  whole = append_assoc (word due ++ v) (10 ∷ []) rest

  lacks : Lacks 10 (word due ++ v)
  lacks = lacks_append 10 (word due) v (word_lacks due) h

  pub next_line : past 10 (line_of due v ++ rest) ≡ rest
  next_line = ap (past 10) whole ∙ past_join 10 (word due ++ v) rest lacks

  line_at_lem : (k : ℕ) → line_at k (line_of due v ++ rest) ≡ Ok (word due ++ v)
  line_at_lem k = ap (line_at k) whole ∙ cond-true _ _ _ (has_join 10 (word due ++ v) rest lacks) ∙ ap Ok (before_join 10 (word due ++ v) rest lacks)

  pub due_line_lem : (k commas : ℕ) → how_many 44 v ≡ commas → due_line k due commas (line_of due v ++ rest) ≡ Ok v
  unfolding due_line
  due_line_lem k commas n =
      then_goes _ (line_at_lem k) (then_goes _ (sym (value_some k due (word due ++ v) v (strip_front (word due) v))) (cond-true _ _ _ (eq-eqb _ _ n)))

-- a line with one number is read as that number
module _ (due : Key) (n : ℕ) (rest : List ℕ) (h : n < 10000000) where
  pub number_past : past 10 (number_text due n ++ rest) ≡ rest
  number_past = next_line due (decimal n) rest (decimal_lacks n h 10 (omega arith))

  pub number_line_lem : (k least most : ℕ) → least ≤ n → n ≤ most → number_line k due least most (number_text due n ++ rest) ≡ Ok n
  unfolding number_line
  number_line_lem k least most low high =
      then_goes _ (due_line_lem due (decimal n) rest (decimal_lacks n h 10 (omega arith)) k 0 (alone_counts n h))
      (within_goes _ (ap (number_field k least most) (field_alone n h) ∙ number_field_lem n h k least most low high))

letters_lack : (c : ℕ) (gs : List Gate) → (79 ≡ c → ⊥) → (67 ≡ c → ⊥) → Lacks c (map letter gs)
letters_lack c [] h k = tt
letters_lack c (Open ∷ gs) h k = (h, letters_lack c gs h k)
letters_lack c (Shut ∷ gs) h k = (k, letters_lack c gs h k)

-- letters are read in front of each other, so that the last one stands first
letters_read : (gs rs : List Gate) → letters_from gs (map letter rs) ≡ Some (reverse_aux rs gs)
unfolding letters_from
letters_read gs [] = refl
letters_read gs (Open ∷ rs) = letters_read (Open ∷ gs) rs
letters_read gs (Shut ∷ rs) = letters_read (Shut ∷ gs) rs

gates_in_lem : (k : ℕ) (gs : List Gate) → length gs ≡ classes → gates_in k (letters gs) ≡ Ok gs
unfolding gates_in
gates_in_lem k gs h =
    cond-true _ _ _ (eq-eqb _ classes (length-map (reverse gs) letter ∙ length-reverse gs ∙ h))
    ∙ ap (λ o. ok_or o (Form k)) (letters_read [] (reverse gs) ∙ ap Some (reverse-reverse gs))

-- a gate line is read as its length and its gates
module _ (g : GateLine) (rest : List ℕ) (low : 1 ≤ g.length.0) (high : g.length.0 ≤ most_cycle) where
  abbrev gate_fields : List ℕ
  gate_fields = field g.length.0 (letters g.gates)

  gate_lacks : Lacks 10 gate_fields
  gate_lacks = field_lacks _ (omega arith) (letters g.gates) (letters_lack 10 (reverse g.gates) (λ e. omega arith) (λ e. omega arith))

  gate_counts : how_many 44 gate_fields ≡ 1
  gate_counts = field_counts _ (omega arith) _ ∙ ap suc (count_none 44 (letters g.gates) (letters_lack 44 (reverse g.gates) (λ e. omega arith) (λ e. omega arith)))

  pub gate_past : past 10 (gate_text g ++ rest) ≡ rest
  gate_past = next_line key.Gate gate_fields rest gate_lacks

  gate_in_lem : (k : ℕ) → length g.gates ≡ classes → gate_in k gate_fields ≡ Ok g
  unfolding gate_in
  gate_in_lem k eight =
      let ls = letters g.gates in
      let h : g.length.0 < 10000000 = omega arith in
      let l = before_none 44 ls (letters_lack 44 (reverse g.gates) (λ e. omega arith) (λ e. omega arith)) in
      then_goes _ (ap (number_field k 1 most_cycle) (field_before _ h ls) ∙ number_field_lem _ h k 1 most_cycle low high)
      (then_goes _ (ap (gates_in k) (ap (before 44) (field_past _ h ls) ∙ l) ∙ gates_in_lem k g.gates eight) refl)

  pub gate_line_lem : (k : ℕ) → length g.gates ≡ classes → gate_line k (gate_text g ++ rest) ≡ Ok g
  unfolding gate_line
  gate_line_lem k eight = then_goes _ (due_line_lem key.Gate gate_fields rest gate_lacks k 1 gate_counts) (within_goes _ (gate_in_lem k eight))

-- a depth that a class may have is within its room, and a largest frame is 0 or at least the least one
room_high : (m d : ℕ) → Sized m d → d ≤ room_most m
room_high m d s =
    ⊎_elim
    (λ (h : m < 1). let z : m ≡ 0 = omega arith in let e = s.silent z in omega arith)
    (λ (h : 1 ≤ m). let r : room_most m ≡ most_depth = cond-false _ _ _ (ne_eqb m 0 (λ e. omega arith)) in omega (arith, s.deep))
    (cases_lt m 1)

sending : (m : ℕ) → (1 ≤ m → least_frame ≤ m) → (ltb 0 m && ltb m least_frame) ≡ false
sending m f = ⊎_elim (λ (h : m < 1). and_left _ _ (le-ltb 0 m (omega arith))) (λ (h : 1 ≤ m). and_right _ _ (le-ltb m least_frame (f h))) (cases_lt m 1)

-- three numbers, split by commas
abbrev pub three : ℕ → ℕ → ℕ → List ℕ
three a b c = field a (field b (decimal c))

module _ (a b c : ℕ) (p : a < 10000000) (q : b < 10000000) (r : c < 10000000) where
  pub three_lack : Lacks 10 (three a b c)
  three_lack = field_lacks a p _ (field_lacks b q _ (decimal_lacks c r 10 (omega arith)))

  pub three_count : how_many 44 (three a b c) ≡ 2
  three_count = field_counts a p _ ∙ ap suc (field_counts b q _ ∙ ap suc (alone_counts c r))

  pub second : before 44 (past 44 (three a b c)) ≡ decimal b
  second = ap (before 44) (field_past a p _) ∙ field_before b q _

  pub third : before 44 (past 44 (past 44 (three a b c))) ≡ decimal c
  third = ap (λ l. before 44 (past 44 l)) (field_past a p _) ∙ ap (before 44) (field_past b q _) ∙ field_alone c r

-- a class line is read as the sizes of its class
module _ (c : ℕ) (e : ClassEntry) (rest : List ℕ) (h : c ≤ 7) (s : Sized e.largest e.depth) where
  m_small : e.largest < 10000000
  m_small = omega (arith, s.most)

  d_small : e.depth < 10000000
  d_small = omega (arith, s.deep)

  abbrev class_fields : List ℕ
  class_fields = three c e.largest e.depth

  class_lacks : Lacks 10 class_fields
  class_lacks = three_lack c _ _ (omega arith) m_small d_small

  class_counts : how_many 44 class_fields ≡ 2
  class_counts = three_count c _ _ (omega arith) m_small d_small

  pub class_past : past 10 (class_text c e ++ rest) ≡ rest
  class_past = next_line key.Class class_fields rest class_lacks

  largest_field_lem : (k : ℕ) → largest_field k (decimal e.largest) ≡ Ok e.largest
  unfolding largest_field
  largest_field_lem k = then_goes _ (number_field_lem _ m_small k 0 most_frame (omega arith) s.most) (cond-false _ _ _ (sending _ s.least))

  sizes_in_lem : (k : ℕ) → sizes_in k (field e.largest (decimal e.depth)) ≡ Ok e
  unfolding sizes_in
  sizes_in_lem k =
      then_goes _ (ap (largest_field k) (field_before _ m_small _) ∙ largest_field_lem k)
      (then_goes _ (ap (number_field k e.largest (room_most e.largest)) (ap (before 44) (field_past _ m_small _) ∙ field_alone _ d_small)
      ∙ number_field_lem _ d_small k e.largest _ s.room (room_high _ _ s)) refl)

  pub class_line_lem : (k : ℕ) → class_line k c (class_text c e ++ rest) ≡ Ok e
  unfolding class_line
  class_line_lem k =
      then_goes _ (within_goes _ (due_line_lem key.Class class_fields rest class_lacks k 2 class_counts))
      (then_goes _ (within_goes _ (ap (number_field k 0 7) (field_before c (omega arith) _) ∙ number_field_lem c (omega arith) k 0 7 (omega arith) h))
      (cond-true _ _ _ (eq-eqb c c refl) ∙ within_goes _ (ap (sizes_in k) (field_past c (omega arith) _) ∙ sizes_in_lem k)))
