-- Writing slots by turns. Assumes nothing.
use Rattle.std.proofs.Common.{◌≡◌, ℕ, ◌+◌, ◌*◌, ◌<◌, ◌≤◌, List, [], ◌∷◌, ◌++◌, length, get_or, take, drop, set, sym, refl, ap, ◌∙◌, add-one, arith}
use lib.Seq.{sets, sets-eq}
use Rattle.std.proofs.lemmas.List.{take_more, take_all, length-take-le}
use Rattle.calculus.proofs.Sets.{sets_more}
use Rattle.sure_ticks.specs.declared.slot.Slot.{Slot}
use Rattle.sure_ticks.specs.Slots.{slot}
use Rattle.slots.specs.Turns.{turns}

-- two numbers a slot
turns_length : (ss : List Slot) → length (turns ss) ≡ 2 * length ss
unfolding turns
turns_length [] = refl
turns_length (s ∷ ss) = let r = turns_length ss in omega arith

-- slots and then slots
turns_append : (ss ts : List Slot) → turns (ss ++ ts) ≡ turns ss ++ turns ts
unfolding turns
turns_append [] ts = refl
turns_append (s ∷ ss) ts = ap (λ v. s.begin.0 ∷ s.length.0 ∷ v) (turns_append ss ts)

-- the first i slots have been written
abbrev pub Written : List Slot → List ℕ → ℕ → List ℕ → Type 0
Written ss before i list = list ≡ sets before 0 (turns (take i ss))

-- at first none
pub write_none : (ss : List Slot) (before : List ℕ) → Written ss before 0 before
unfolding turns
write_none ss before = refl

-- one more
pub write_more : (ss : List Slot) (before : List ℕ) (i : ℕ) (list : List ℕ) → i < length ss → Written ss before i list →
    Written ss before (i + 1) (set (set list (2 * i) (get_or ss i (slot 0 0)).begin.0) (2 * i + 1) (get_or ss i (slot 0 0)).length.0)
unfolding turns
write_more ss before i list lt w =
    let s : Slot = get_or ss i (slot 0 0) in
    let two : List ℕ = s.begin.0 ∷ s.length.0 ∷ [] in
    let t : turns (take (i + 1) ss) ≡ turns (take i ss) ++ two = ap turns (take_more ss i (slot 0 0) lt) ∙ turns_append (take i ss) (s ∷ []) in
    let n : 2 * i ≡ 0 + length (turns (take i ss)) = omega (arith, turns_length (take i ss), length-take-le i ss (omega arith)) in
    ap (λ v. set (set list (2 * i) s.begin.0) v s.length.0) (add-one (2 * i)) ∙ ap (λ v. sets v (2 * i) two) w ∙ ap (λ v. sets (sets before 0 (turns (take i ss))) v two) n
    ∙ sets_more before 0 (turns (take i ss)) two ∙ ap (sets before 0) (sym t)

-- at last all, and the rest of the list is as it was
pub write_all : (ss : List Slot) (before : List ℕ) (i : ℕ) (list : List ℕ) → length ss ≤ i → 2 * length ss ≤ length before → Written ss before i list →
    list ≡ turns ss ++ drop (2 * length ss) before
write_all ss before i list le room w =
    let n = turns_length ss in
    let e : 0 + length (turns ss) ≡ 2 * length ss = omega arith in
    w ∙ ap (λ v. sets before 0 (turns v)) (take_all i ss le) ∙ sets-eq (turns ss) before 0 (omega arith) ∙ ap (λ v. turns ss ++ drop v before) e
