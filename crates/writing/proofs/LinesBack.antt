-- From each line that is read back to its text: the line is its own text and byte 10, and what it says is as a plan has it. The flow lines are in `FlowsBack`.
use Rattle.std.proofs.Common.{◌≡◌, ℕ, suc, ◌≤◌, true, false, ◌&&◌, eqb, ltb, List, [], ◌∷◌, ◌++◌, map, reverse, length, Some, Ok, decimal, sym, refl, ap, ◌∙◌, subst, ⊎_elim, arith}
use mathlib.Core.List.{reverse-cons}
use Rattle.std.specs.Str.{bytes_eq}
use Rattle.std.proofs.lemmas.Slice.Eq.{bytes_eq-Decides}
use Rattle.std.proofs.lemmas.List.{append_assoc, append-nil, map-append, length-map, length-reverse}
use Rattle.std.proofs.lemmas.Bool.{cases_Bool, eqb-true, ltb-false, cond-true, cond-false, and_cases}
use Rattle.units.specs.Limits.{least_frame, most_frame, most_cycle}
use Rattle.faults.specs.declared.fault.LineFault.TheVariants.{Field}
use Rattle.faults.specs.declared.fault.PlanFault.TheVariants.{Line}
use Rattle.gates.specs.declared.gate_line.Gate.{Gate}
use Rattle.gates.specs.declared.gate_line.Gate.TheVariants.{Open, Shut}
use Rattle.gates.specs.declared.gate_line.GateLine.{GateLine}
use Rattle.gates.specs.Sizes.{Sized}
use Rattle.text.specs.declared.keys.Key.{Key}
use Rattle.text.specs.declared.keys.Key.TheVariants as key
use Rattle.text.specs.Cuts.{before, past, has, how_many}
use Rattle.text.specs.Keys.{key as key_of, word, value_in}
use Rattle.reader.specs.Chain.{within}
use Rattle.reader.specs.Contents.{ClassEntry}
use Rattle.reader.specs.Fields.{number_field, largest_field, letters_from, gates_in, gate_in, room_most, sizes_in}
use Rattle.reader.specs.Entries.{line_at, due_line, in_field, number_line, gate_line, class_line}
use Rattle.reader.proofs.Checked.{in_room}
use Rattle.writing.specs.Written.{line_of, number_text, field, letter, letters, gate_text, class_text}
use Rattle.writing.proofs.Inversions.{ok_ok, then_ok, within_ok, or_ok, cond_ok, cond_ok_not, cond_some, number_back, has_cut, cut, last}

-- a line is its key, an equals sign, its fields and byte 10
spelled : (due : Key) (v : List ℕ) → key_of due ++ (61 ∷ v) ≡ word due ++ v
spelled key.Port v = refl
spelled key.Cycle v = refl
spelled key.Gates v = refl
spelled key.Gate v = refl
spelled key.Class v = refl
spelled key.Flows v = refl
spelled key.Flow v = refl

value_back : (k : ℕ) (due : Key) (l v : List ℕ) → value_in k due l ≡ Ok v → l ≡ word due ++ v
value_back k due l v e =
    let p = cond_ok (has 61 l) _ _ v e in
    let q = cond_ok (bytes_eq (before 61 l) (key_of due)) _ _ v p.1 in
    let same = (bytes_eq-Decides (before 61 l) (key_of due)).0 q.0 in
    has_cut 61 l p.0 ∙ (λ i. same i ++ (61 ∷ ok_ok q.1 i)) ∙ spelled due v

pub due_back : (k : ℕ) (due : Key) (commas : ℕ) (text v : List ℕ) → due_line k due commas text ≡ Ok v → (text ≡ line_of due v ++ past 10 text) × (how_many 44 v ≡ commas)
unfolding due_line
due_back k due commas text v e =
    let p = then_ok (line_at k text) _ v e in
    let q = then_ok (value_in k due p.0) _ v p.2 in
    let r = cond_ok (eqb (how_many 44 q.0) commas) _ _ v q.2 in
    let here = cond_ok (has 10 text) _ _ p.0 p.1 in
    let same = ok_ok r.1 in
    let whole = value_back k due p.0 q.0 q.1 in (
      has_cut 10 text here.0 ∙ ap (λ x. x ++ (10 ∷ past 10 text)) (ok_ok here.1 ∙ whole) ∙ sym (append_assoc (word due ++ q.0) (10 ∷ []) (past 10 text)) ∙ ap (λ x. line_of due x ++ past 10 text) same,
      ap (how_many 44) (sym same) ∙ eqb-true _ commas r.0,
    )

-- a number before a comma, and a number that is the last field
module _ (k least most n : ℕ) (v : List ℕ) (e : number_field k least most (before 44 v) ≡ Ok n) where
  pub field_back : (m : ℕ) → how_many 44 v ≡ suc m → (v ≡ field n (past 44 v)) × (how_many 44 (past 44 v) ≡ m) × (least ≤ n) × (n ≤ most)
  field_back m h =
      let b = number_back k least most n (before 44 v) e in
      let c = cut v m h in
      (c.0 ∙ ap (λ x. x ++ (44 ∷ past 44 v)) b.0, c.1, b.1, b.2)

  pub last_back : how_many 44 v ≡ 0 → (v ≡ decimal n) × (least ≤ n) × (n ≤ most)
  last_back h =
      let b = number_back k least most n (before 44 v) e in
      (last v h ∙ b.0, b.1, b.2)

pub number_line_back : (k : ℕ) (due : Key) (least most n : ℕ) (text : List ℕ) → number_line k due least most text ≡ Ok n →
    (text ≡ number_text due n ++ past 10 text) × (least ≤ n) × (n ≤ most)
unfolding number_line
number_line_back k due least most n text e =
    let p = then_ok (due_line k due 0 text) _ n e in
    let d = due_back k due 0 text p.0 p.1 in
    let b = last_back k least most n p.0 (within_ok Field _ n p.2) d.1 in
    (d.0 ∙ ap (λ x. line_of due x ++ past 10 text) b.0, b.1, b.2)

-- letters that are read come after those that were there
letters_more : (g : Gate) (gs : List Gate) → letters (g ∷ gs) ≡ letters gs ++ letter g ∷ []
letters_more g gs = ap (map letter) (reverse-cons g gs) ∙ map-append letter (reverse gs) (g ∷ [])

letters_back : (gs rs : List Gate) (xs : List ℕ) → letters_from gs xs ≡ Some rs → letters rs ≡ letters gs ++ xs
unfolding letters_from
letters_back gs rs [] e = let s : gs ≡ rs = cc in ap letters (sym s) ∙ sym (append-nil (letters gs))
letters_back gs rs (x ∷ xs) e =
    ⊎_elim
    (λ (h : eqb x 79 ≡ true).
    letters_back (Open ∷ gs) rs xs (sym (cond-true _ _ _ h) ∙ e) ∙ ap (λ l. l ++ xs) (letters_more Open gs) ∙ append_assoc (letters gs) (79 ∷ []) xs ∙ ap (λ y. letters gs ++ (y ∷ xs)) (sym (eqb-true x 79 h)))
    (λ (h : eqb x 79 ≡ false).
    let p = cond_some (eqb x 67) (letters_from (Shut ∷ gs) xs) rs (sym (cond-false _ _ _ h) ∙ e) in
    letters_back (Shut ∷ gs) rs xs p.1 ∙ ap (λ l. l ++ xs) (letters_more Shut gs) ∙ append_assoc (letters gs) (67 ∷ []) xs ∙ ap (λ y. letters gs ++ (y ∷ xs)) (sym (eqb-true x 67 p.0)))
    (cases_Bool (eqb x 79))

gates_in_back : (k : ℕ) (xs : List ℕ) (gs : List Gate) → gates_in k xs ≡ Ok gs → (xs ≡ letters gs) × (length gs ≡ 8)
unfolding gates_in
gates_in_back k xs gs e =
    let p = cond_ok (eqb (length xs) 8) _ _ gs e in
    let same = letters_back [] gs xs (or_ok _ _ gs p.1) in
    (sym same, sym (length-reverse gs) ∙ sym (length-map (reverse gs) letter) ∙ ap length same ∙ eqb-true _ 8 p.0)

gate_in_back : (k : ℕ) (v : List ℕ) (g : GateLine) → how_many 44 v ≡ 1 → gate_in k v ≡ Ok g →
    (v ≡ field g.length.0 (letters g.gates)) × (1 ≤ g.length.0) × (length g.gates ≡ 8)
unfolding gate_in
gate_in_back k v g h e =
    let p = then_ok (number_field k 1 most_cycle (before 44 v)) _ g e in
    let q = then_ok (gates_in k (before 44 (past 44 v))) _ g p.2 in
    let b = field_back k 1 most_cycle p.0 v p.1 0 h in
    let c = gates_in_back k (before 44 (past 44 v)) q.0 q.1 in
    let said : GateLine → Type 0 = λ x. (v ≡ field x.length.0 (letters x.gates)) × (1 ≤ x.length.0) × (length x.gates ≡ 8) in
    subst said (ok_ok q.2) (b.0 ∙ ap (field p.0) (last (past 44 v) b.1 ∙ c.0), b.2, c.1)

pub gate_line_back : (k : ℕ) (text : List ℕ) (g : GateLine) → gate_line k text ≡ Ok g → (text ≡ gate_text g ++ past 10 text) × (1 ≤ g.length.0) × (length g.gates ≡ 8)
unfolding gate_line
gate_line_back k text g e =
    let p = then_ok (due_line k key.Gate 1 text) _ g e in
    let d = due_back k key.Gate 1 text p.0 p.1 in
    let b = gate_in_back k p.0 g d.1 (within_ok Field _ g p.2) in
    (d.0 ∙ ap (λ x. line_of key.Gate x ++ past 10 text) b.0, b.1, b.2)

-- the sizes of a class are those that a class may have
largest_back : (k n : ℕ) (xs : List ℕ) → largest_field k xs ≡ Ok n → (xs ≡ decimal n) × (n ≤ most_frame) × (1 ≤ n → least_frame ≤ n)
unfolding largest_field
largest_back k n xs e =
    let p = then_ok (number_field k 0 most_frame xs) _ n e in
    let b = number_back k 0 most_frame p.0 xs p.1 in
    let q = cond_ok_not (ltb 0 p.0 && ltb p.0 least_frame) (Ok p.0) _ n p.2 in
    let same = ok_ok q.1 in
    let most = b.2 in
    let least : 1 ≤ p.0 → least_frame ≤ p.0 = λ h.
    ⊎_elim
    (λ (f : ltb 0 p.0 ≡ false). let l = ltb-false 0 p.0 f in absurd (omega arith))
    (λ (f : ltb p.0 least_frame ≡ false). ltb-false p.0 least_frame f)
    (and_cases (ltb 0 p.0) (ltb p.0 least_frame) q.0) in
    (b.0 ∙ ap decimal same, omega arith, λ h. let l = least (omega arith) in omega arith)

sizes_back : (k : ℕ) (v : List ℕ) (c : ClassEntry) → how_many 44 v ≡ 1 → sizes_in k v ≡ Ok c → (v ≡ field c.largest (decimal c.depth)) × Sized c.largest c.depth
unfolding sizes_in
sizes_back k v c h e =
    let p = then_ok (largest_field k (before 44 v)) _ c e in
    let q = then_ok (number_field k p.0 (room_most p.0) (before 44 (past 44 v))) _ c p.2 in
    let a = cut v 0 h in
    let m = largest_back k p.0 (before 44 v) p.1 in
    let d = last_back k p.0 (room_most p.0) q.0 (past 44 v) q.1 a.1 in
    let said : ClassEntry → Type 0 = λ x. (v ≡ field x.largest (decimal x.depth)) × Sized x.largest x.depth in
    subst said (ok_ok q.2) (a.0 ∙ (λ i. m.0 i ++ (44 ∷ d.0 i)), in_room p.0 q.0 m.1 m.2 d.1 d.2)

-- the class that is read is the due one
pub class_line_back : (k c : ℕ) (text : List ℕ) (x : ClassEntry) → class_line k c text ≡ Ok x → (text ≡ class_text c x ++ past 10 text) × Sized x.largest x.depth
unfolding class_line
class_line_back k c text x e =
    let p = then_ok (within Line (due_line k key.Class 2 text)) _ x e in
    let d = due_back k key.Class 2 text p.0 (within_ok Line _ p.0 p.1) in
    let q = then_ok (in_field (number_field k 0 7 (before 44 p.0))) _ x p.2 in
    let r = cond_ok (eqb q.0 c) _ _ x q.2 in
    let b = field_back k 0 7 q.0 p.0 (within_ok _ _ q.0 q.1) 1 d.1 in
    let s = sizes_back k (past 44 p.0) x b.1 (within_ok _ _ x r.1) in
    let n = eqb-true q.0 c r.0 in
    (d.0 ∙ ap (λ y. line_of key.Class y ++ past 10 text) (b.0 ∙ (λ i. field (n i) (s.0 i))), s.1)
