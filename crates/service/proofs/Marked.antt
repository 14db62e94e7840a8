-- Setting the marks of a table. Assumes nothing.
use Rattle.std.proofs.Common.{◌≡◌, ℕ, ◌+◌, ◌-◌, ◌*◌, ◌<◌, ◌≤◌, List, [], ◌∷◌, ◌++◌, length, get_or, take, set, sym, ap, ◌∙◌, arith}
use Rattle.std.specs.List.{AllByRecursion}
use Rattle.std.proofs.ByRecursion.{All-get_or, All-from_get_or}
use Rattle.std.proofs.lemmas.List.{append_assoc, append-nil, take_more_set}
use Rattle.units.specs.Limits.{most_cycle}
use Rattle.sure_ticks.specs.declared.slot.Slot.{Slot}
use Rattle.sure_ticks.specs.Slots.{slot}
use Rattle.sure_ticks.specs.Sure.{lengths}
use Rattle.sure_ticks.specs.Laws.{next, Apart}
use Rattle.sure_ticks.proofs.Sums.{lengths_none, lengths_more}
use Rattle.curve.specs.declared.mark.Mark.{Mark}
use Rattle.curve.specs.Table.{mark, marks_of, table_of}
use Rattle.curve.proofs.Marks.{marks_none, marks_more, first_begins}
use Rattle.curve.proofs.Turns.{slot_fits}
use Rattle.service.specs.Served.{From}

-- the marks of the first i slots have been set from the index `at` on, with so many sure ticks before the next
pub record Marked (ss : List Slot) (first place before : ℕ) (old : List Mark) (at i sum : ℕ) (marks : List Mark) : Type 0 where
  pub total : sum ≡ before + lengths (take i ss)
  pub so_far : take (at + i) marks ≡ take at old ++ marks_of first place before (take i ss)

-- at first none
pub marked_none : (ss : List Slot) (first place before : ℕ) (old : List Mark) (at : ℕ) → Marked ss first place before old at 0 before old
marked_none ss first place before old at =
    let e : at + 0 ≡ at = omega arith in
    record {
      total = omega (arith, lengths_none ss);
      so_far = ap (λ n. take n old) e ∙ sym (ap (λ ms. take at old ++ ms) (marks_none first place before ss) ∙ append-nil (take at old));
    }

-- one more
pub marked_more : (ss : List Slot) (first place before : ℕ) (old : List Mark) (at i sum : ℕ) (marks : List Mark) → i < length ss → at + i < length marks → Marked ss first place before old at i sum marks →
    Marked ss first place before old at (i + 1) (sum + (get_or ss i (slot 0 0)).length.0) (set marks (at + i) (mark (place + ((get_or ss i (slot 0 0)).begin.0 - first)) sum))
marked_more ss first place before old at i sum marks lt room m =
    let ms : List Mark = marks_of first place before (take i ss) in
    let p : ℕ = place + ((get_or ss i (slot 0 0)).begin.0 - first) in
    let e : at + (i + 1) ≡ at + i + 1 = omega arith in
    record {
      total = omega (arith, m.total, lengths_more ss i (slot 0 0) lt);
      so_far = ap (λ n. take n (set marks (at + i) (mark p sum))) e ∙ take_more_set marks (at + i) (mark p sum) room
          ∙ ap (λ xs. xs ++ (mark p sum ∷ [])) m.so_far ∙ append_assoc (take at old) ms (mark p sum ∷ [])
          ∙ ap (λ v. take at old ++ (ms ++ (mark p v ∷ []))) m.total ∙ ap (λ xs. take at old ++ xs) (sym (marks_more first place before ss i (slot 0 0) lt));
    }

-- the slots do not begin before the first of them
pub from_first_lem : (L : ℕ) (ss : List Slot) → Apart L ss → L ≤ most_cycle → AllByRecursion (From (next 0 ss)) ss
from_first_lem L ss v short =
    All-from_get_or (From (next 0 ss)) ss (slot 0 0) (λ i lt.
    let b = All-get_or (λ (s : Slot). next 0 ss ≤ s.begin.0) ss i (slot 0 0) lt (first_begins L ss v) in
    let f = slot_fits L ss i (slot 0 0) v lt in
    (b, omega (arith, f.0)))

-- the marks of two cycles and of where they end are the table
pub all_marked : (L : ℕ) (ss : List Slot) (sure place before : ℕ) (m₁ m₂ : List Mark) → place ≡ 0 → before ≡ 0 → sure ≡ lengths ss → 2 * length ss < length m₂ →
    take (0 + length ss) m₁ ≡ marks_of (next 0 ss) place before ss → take (length ss + length ss) m₂ ≡ take (length ss) m₁ ++ marks_of (next 0 ss) L sure ss →
    take (2 * length ss + 1) (set m₂ (2 * length ss) (mark (2 * L) (2 * sure))) ≡ table_of L ss
unfolding table_of
all_marked L ss sure place before m₁ m₂ p q s room e₁ e₂ =
    let n : ℕ = length ss in
    let a : List Mark = marks_of (next 0 ss) 0 0 ss in
    let b : ℕ → List Mark = λ n. marks_of (next 0 ss) L n ss in
    let z : List Mark = mark (2 * L) (2 * sure) ∷ [] in
    let two : 2 * L ≡ L + L = omega arith in
    let twice : 2 * sure ≡ lengths ss + lengths ss = omega arith in
    let double : 2 * n ≡ n + n = omega arith in
    let from_none : n ≡ 0 + n = omega arith in
    let begun : take n m₁ ≡ a = ap (λ k. take k m₁) from_none ∙ e₁ ∙ ap (λ n. marks_of (next 0 ss) n before ss) p ∙ ap (λ n. marks_of (next 0 ss) 0 n ss) q in
    take_more_set m₂ (2 * n) (mark (2 * L) (2 * sure)) room ∙ ap (λ k. take k m₂ ++ z) double
    ∙ ap (λ xs. xs ++ z) e₂ ∙ ap (λ xs. (xs ++ b sure) ++ z) begun ∙ append_assoc a (b sure) z ∙ ap (λ n. a ++ (b n ++ z)) s ∙ ap (λ n. a ++ (b (lengths ss) ++ (mark n (2 * sure) ∷ []))) two
    ∙ ap (λ n. a ++ (b (lengths ss) ++ (mark (L + L) n ∷ []))) twice
