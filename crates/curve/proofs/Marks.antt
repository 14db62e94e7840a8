-- The table of a curve tells how many ticks in slots there are from the first slot's beginning on, to any place of two cycles.
-- Assumes nothing.
use Rattle.std.proofs.Common.{◌≡◌, ℕ, zero, suc, ◌+◌, ◌-◌, ◌<◌, ◌≤◌, min, List, [], ◌∷◌, ◌++◌, length, get_or, take, sum_by, sym, refl, ap, ◌∙◌, inl, inr, add-one, arith}
use Rattle.std.specs.List.{AllByRecursion}
use Rattle.std.proofs.lemmas.Bool.{cases_lt, cases_Bool, both_ways}
use Rattle.std.proofs.lemmas.List.Sums.{sum_by-cons}
use Rattle.std.proofs.lemmas.List.{length-append, get_or_at, append_assoc, take_more}
use Rattle.calculus.specs.Searches.{count}
use Rattle.calculus.proofs.Counts.{bit_yes, bit_no, count_zero, count_more, count_cycle_split}
use Rattle.sure_ticks.specs.declared.slot.Slot.{Slot}
use Rattle.sure_ticks.specs.Slots.{slot}
use Rattle.sure_ticks.specs.Sure.{in_slot, covered, lengths}
use Rattle.sure_ticks.specs.Laws.{next, Apart}
use Rattle.sure_ticks.proofs.Covered.{lt_in_slot, covered_round}
use Rattle.sure_ticks.proofs.Apart.{Chain, chain_of, next_le, in_slot_in, added, covered_added, covered_cycle}
use Rattle.curve.specs.declared.mark.Mark.{Mark}
use Rattle.curve.specs.Table.{mark, place_of, before_of, marks_of, table_of}
use Rattle.curve.proofs.Sliding.{since_past}

-- how many of the x ticks from the first slot's beginning on are in slots
unfoldable pub from_first : ℕ → List Slot → ℕ → ℕ
from_first L ss x = count (covered L ss) (next 0 ss) x

-- how many ticks of a slot come before the tick x, of those in the cycle that it begins in
passed : ℕ → Slot → ℕ
passed x s = min (x - s.begin.0) s.length.0

-- how many ticks of the slots do
all_passed : ℕ → List Slot → ℕ
all_passed x ss = sum_by (passed x) ss

-- of no slots there are none
passed_none : (x : ℕ) → all_passed x [] ≡ 0
unfolding all_passed
passed_none x = refl

-- one slot more
passed_cons : (x : ℕ) (s : Slot) (ss : List Slot) → all_passed x (s ∷ ss) ≡ min (x - s.begin.0) s.length.0 + all_passed x ss
unfolding passed all_passed
passed_cons x s ss = sum_by-cons (passed x) s ss

-- of no slots the lengths are 0
lengths_nil : lengths [] ≡ 0
unfolding lengths
lengths_nil = refl

-- the lengths of one slot more
lengths_cons : (s : Slot) (ss : List Slot) → lengths (s ∷ ss) ≡ s.length.0 + lengths ss
unfolding lengths
lengths_cons s ss = sum_by-cons (λ (x : Slot). x.length.0) s ss

-- a slot that begins in the cycle from the tick b on, and ends by the end of that cycle
module _ (L b : ℕ) (s : Slot) (low : b ≤ s.begin.0) (up : s.begin.0 < L) (top : s.begin.0 + s.length.0 ≤ b + L) where
  -- the count of its ticks in a window from b on, of a cycle at the most
  one_passed : (x : ℕ) → x ≤ L → count (in_slot L s) b x ≡ min ((b + x) - s.begin.0) s.length.0
  one_passed zero h = let z = count_zero (in_slot L s) b in omega arith
  one_passed (suc x) h =
      let ih = one_passed x (omega arith) in
      let more = ap (count (in_slot L s) b) (sym (add-one x)) ∙ count_more (in_slot L s) b x in
      elim (cases_Bool (in_slot L s (b + x))) [
        | inl e ↦ let one = bit_yes (in_slot L s) (b + x) e in let i = in_slot_in L b s (b + x) low up top (omega arith) (omega arith) e in omega arith
        | inr e ↦
            let none = bit_no (in_slot L s) (b + x) e in
            elim (cases_lt (b + x) s.begin.0) [
              | inl l ↦ omega arith
              | inr g ↦
                  elim (cases_lt (b + x) (s.begin.0 + s.length.0)) [
                    | inl l ↦ absurd (let p = since_past L s (b + x) (omega arith) g (omega arith) in both_ways (in_slot L s (b + x)) e (lt_in_slot L s (b + x) (omega arith)))
                    | inr k ↦ omega arith
                  ]
            ]
      ]

-- the counts of slots that follow one another, added
chain_passed : (L b : ℕ) (ss : List Slot) (x : ℕ) → Chain L (b + L) ss → b ≤ next (b + L) ss → x ≤ L → added L ss b x ≡ all_passed (b + x) ss
unfolding added next
chain_passed L b [] x c low h = sym (passed_none (b + x))
chain_passed L b (s ∷ ss) x c low h =
    let n = next_le L (b + L) ss c.3 in
    let e = sum_by-cons (λ s. count (in_slot L s) b x) s ss in
    let o = one_passed L b s low c.0 (omega arith) x h in
    let k = passed_cons (b + x) s ss in
    let ih = chain_passed L b ss x c.3 (omega arith) h in
    omega arith

-- the count from the first slot's beginning on, over a cycle at the most
first_low : (L : ℕ) (ss : List Slot) (x : ℕ) → Apart L ss → x ≤ L → from_first L ss x ≡ all_passed (next 0 ss + x) ss
unfolding from_first next
first_low L [] x v h = covered_added L [] v 0 x ∙ chain_passed L 0 [] x tt (omega arith) h
first_low L (s ∷ ss) x v h =
    covered_added L (s ∷ ss) v s.begin.0 x ∙ chain_passed L s.begin.0 (s ∷ ss) x (chain_of L (s.begin.0 + L) (s ∷ ss) v) (omega arith) h

-- and over a cycle more
first_high : (L : ℕ) (ss : List Slot) (x : ℕ) → Apart L ss → from_first L ss (L + x) ≡ lengths ss + from_first L ss x
unfolding from_first
first_high L ss x v =
    count_cycle_split (covered L ss) L (covered_round L ss) (next 0 ss) x ∙ ap (λ n. n + count (covered L ss) (next 0 ss) x) (covered_cycle L ss v 0)

-- no tick of the slots comes before the first of them begins
passed_before : (L limit : ℕ) (ss : List Slot) (x : ℕ) → Chain L limit ss → x ≤ next limit ss → all_passed x ss ≡ 0
unfolding next
passed_before L limit [] x c h = passed_none x
passed_before L limit (s ∷ ss) x c h =
    let k = passed_cons x s ss in
    let ih = passed_before L limit ss x c.3 (omega arith) in
    omega arith

-- from the place a, with p before it, to the place b, with q before it, the count C first rises by one a tick, and then stays
abbrev pub Stretch : (ℕ → ℕ) → ℕ → ℕ → ℕ → ℕ → Type 0
Stretch C a p b q = (a ≤ b) × (p ≤ q) × (q + a ≤ p + b) × ((x : ℕ) → a ≤ x → x ≤ b → C x ≡ min (p + (x - a)) q)

-- so it does from a mark to the first of the marks that follow it
abbrev Linked : (ℕ → ℕ) → Mark → List Mark → Type 0
Linked C m [] = Unit {0}
Linked C m (n ∷ ms) = Stretch C m.place.0 m.before.0 n.place.0 n.before.0

-- and from each mark to the next
abbrev AllLinked : (ℕ → ℕ) → List Mark → Type 0
AllLinked C [] = Unit {0}
AllLinked C (m ∷ ms) = Linked C m ms × AllLinked C ms

-- a count C over the marks of a cycle that begins at the place a, with the tick `first`
module _ (C : ℕ → ℕ) (L first a : ℕ) where
  -- from the mark of a slot to where the next one begins
  slot_stretch : (p : ℕ) (s : Slot) (ss : List Slot) → Chain L (first + L) (s ∷ ss) → first ≤ s.begin.0 → ((x : ℕ) → s.begin.0 ≤ x → x ≤ first + L → C (a + (x - first)) ≡ p + all_passed x (s ∷ ss)) →
      (place before : ℕ) → place ≡ a + (next (first + L) ss - first) → before ≡ p + s.length.0 → Stretch C (a + (s.begin.0 - first)) p place before
  slot_stretch p s ss c low counts place before e f =
      let n = next_le L (first + L) ss c.3 in (
        omega arith,
        omega arith,
        omega arith,
        λ x g h.
            let y = (x - a) + first in
            let k = counts y (omega arith) (omega arith) in
            let i : C (a + (y - first)) ≡ C x = ap C (omega arith) in
            let j = passed_cons y s ss in
            let z = passed_before L (first + L) ss y c.3 (omega arith) in
            omega arith,
      )

  -- from a mark to the mark of the next slot, or to the one after the cycle
  mark_linked : (p : ℕ) (m : Mark) (ss : List Slot) (r : Mark) (rest : List Mark) → r.place.0 ≡ a + L → r.before.0 ≡ p + lengths ss →
      ((place before : ℕ) → place ≡ a + (next (first + L) ss - first) → before ≡ p → Stretch C m.place.0 m.before.0 place before) → Linked C m (marks_of first a p ss ++ (r ∷ rest))
  unfolding marks_of next
  mark_linked p m [] r rest e f to = let z = lengths_nil in to r.place.0 r.before.0 (omega arith) (omega arith)
  mark_linked p m (s ∷ ss) r rest e f to = to (a + (s.begin.0 - first)) p refl refl

  -- over all the marks of the cycle, and those that follow it
  marks_linked : (p : ℕ) (ss : List Slot) (r : Mark) (rest : List Mark) → Chain L (first + L) ss → first ≤ next (first + L) ss → r.place.0 ≡ a + L → r.before.0 ≡ p + lengths ss →
      ((x : ℕ) → next (first + L) ss ≤ x → x ≤ first + L → C (a + (x - first)) ≡ p + all_passed x ss) → AllLinked C (r ∷ rest) → AllLinked C (marks_of first a p ss ++ (r ∷ rest))
  unfolding marks_of next
  marks_linked p [] r rest c low e f counts after = after
  marks_linked p (s ∷ ss) r rest c low e f counts after =
      let z = lengths_cons s ss in (
        mark_linked (p + s.length.0) (mark (a + (s.begin.0 - first)) p) ss r rest e (omega arith) (slot_stretch p s ss c low counts),
        marks_linked (p + s.length.0) ss r rest c.3 (omega arith) e (omega arith) (λ x g h. let k = counts x (omega arith) h in let j = passed_cons x s ss in omega arith) after,
      )

-- there is a mark for each slot
pub marks_length : (first a p : ℕ) (ss : List Slot) → length (marks_of first a p ss) ≡ length ss
unfolding marks_of
marks_length first a p [] = refl
marks_length first a p (s ∷ ss) = ap suc (marks_length first a (p + s.length.0) ss)

-- the table has a mark for each slot of two cycles, and one for their end
pub table_length : (L : ℕ) (ss : List Slot) → length (table_of L ss) ≡ length ss + length ss + 1
unfolding table_of
table_length L ss =
    let first = next 0 ss in
    let x = marks_of first 0 0 ss in
    let y = marks_of first L (lengths ss) ss in
    let r = mark (L + L) (lengths ss + lengths ss) in
    let e = length-append x (y ++ (r ∷ [])) in
    let f = length-append y (r ∷ []) in
    let g = marks_length first 0 0 ss in
    let h = marks_length first L (lengths ss) ss in
    omega arith

-- marks that are linked, by their number
linked_at : (C : ℕ → ℕ) (ms : List Mark) → AllLinked C ms → (k : ℕ) → suc k < length ms → Stretch C (place_of ms k) (before_of ms k) (place_of ms (suc k)) (before_of ms (suc k))
linked_at C [] p k h = absurd (omega arith)
linked_at C (m ∷ []) p k h = absurd (omega arith)
linked_at C (m ∷ (n ∷ ms)) p zero h = p.0
linked_at C (m ∷ (n ∷ ms)) p (suc k) h = linked_at C (n ∷ ms) p.1 k (omega arith)

-- the marks of the table are linked
table_linked : (L : ℕ) (s : Slot) (ss : List Slot) → Apart L (s ∷ ss) → AllLinked (from_first L (s ∷ ss)) (table_of L (s ∷ ss))
unfolding table_of marks_of next
table_linked L s ss v =
    let b = s.begin.0 in
    let C = from_first L (s ∷ ss) in
    let n = lengths (s ∷ ss) in
    let c = chain_of L (b + L) (s ∷ ss) v in
    let last = mark (L + L) (n + n) in
    let low : (x : ℕ) → b ≤ x → x ≤ b + L → C (x - b) ≡ all_passed x (s ∷ ss) = λ x g h. first_low L (s ∷ ss) (x - b) v (omega arith) ∙ ap (λ n. all_passed n (s ∷ ss)) (omega arith) in
    let second : AllLinked C (marks_of b L n (s ∷ ss) ++ (last ∷ [])) =
    marks_linked C L b L n (s ∷ ss) last [] c (omega arith) refl refl (λ x g h. let e = first_high L (s ∷ ss) (x - b) v in let f = low x g h in omega arith) (tt, tt) in
    marks_linked C L b 0 0 (s ∷ ss) (mark (L + (b - b)) n) (marks_of b L (n + s.length.0) ss ++ (last ∷ [])) c (omega arith) (omega arith) (omega arith)
    (λ x g h. let f = low x g h in let z : C (0 + (x - b)) ≡ C (x - b) = ap C (omega arith) in omega arith)
    second

-- from each mark to the next the count from the first slot's beginning on first rises by one a tick, and then stays
abbrev pub Stretches : ℕ → List Slot → List Mark → Type 0
Stretches L ss ms = (k : ℕ) → k < length ss + length ss → Stretch (from_first L ss) (place_of ms k) (before_of ms k) (place_of ms (k + 1)) (before_of ms (k + 1))

-- so it is with the table
pub table_stretches : (L : ℕ) (ss : List Slot) → Apart L ss → Stretches L ss (table_of L ss)
table_stretches L [] v k h = absurd (omega arith)
table_stretches L (s ∷ ss) v k h =
    let n = table_length L (s ∷ ss) in
    rw add-one (linked_at (from_first L (s ∷ ss)) (table_of L (s ∷ ss)) (table_linked L s ss v) k (omega arith))

-- the first marks are those of the slots: where each begins, and how long it is
abbrev pub FirstMarks : List Slot → List Mark → Type 0
FirstMarks ss ms =
    (j : ℕ) → j < length ss →
    (place_of ms j + next 0 ss ≡ (get_or ss j (slot 0 0)).begin.0)
    × (before_of ms (j + 1) ≡ before_of ms j + (get_or ss j (slot 0 0)).length.0)
    × (before_of ms (j + 1) ≤ lengths ss)

-- the marks of a cycle beside its slots
marks_beside : (L first p : ℕ) (ss : List Slot) (r : Mark) (rest : List Mark) → Chain L (first + L) ss → first ≤ next (first + L) ss → r.before.0 ≡ p + lengths ss → (j : ℕ) → j < length ss → let ms = marks_of first 0 p ss ++ (r ∷ rest) in
    (place_of ms j + first ≡ (get_or ss j (slot 0 0)).begin.0) × (before_of ms (suc j) ≡ before_of ms j + (get_or ss j (slot 0 0)).length.0) × (before_of ms (suc j) ≤ p + lengths ss)
unfolding marks_of next
marks_beside L first p [] r rest c low f j h = absurd (omega arith)
marks_beside L first p (s ∷ []) r rest c low f zero h = let z = lengths_cons s [] in let y = lengths_nil in (omega arith, omega arith, omega arith)
marks_beside L first p (s ∷ (t ∷ ss)) r rest c low f zero h = let z = lengths_cons s (t ∷ ss) in (omega arith, omega arith, omega arith)
marks_beside L first p (s ∷ ss) r rest c low f (suc j) h =
    let z = lengths_cons s ss in
    let ih = marks_beside L first (p + s.length.0) ss r rest c.3 (omega arith) (omega arith) j (omega arith) in
    (ih.0, ih.1, omega (arith, ih.2))

-- so they are in the table
pub table_firsts : (L : ℕ) (ss : List Slot) → Apart L ss → FirstMarks ss (table_of L ss)
unfolding table_of marks_of next
table_firsts L [] v j h = absurd (omega arith)
table_firsts L (s ∷ ss) v j h =
    let b = s.begin.0 in
    let n = lengths (s ∷ ss) in
    let c = chain_of L (b + L) (s ∷ ss) v in
    let m = marks_beside L b 0 (s ∷ ss) (mark (L + (b - b)) n) (marks_of b L (n + s.length.0) ss ++ (mark (L + L) (n + n) ∷ [])) c (omega arith) (omega arith) j h in
    rw add-one (m.0, m.1, omega (arith, m.2))

-- the first mark of the table has no tick before it
pub table_first : (L : ℕ) (ss : List Slot) → before_of (table_of L ss) 0 ≡ 0
unfolding table_of marks_of
table_first L [] = let z = lengths_nil in omega arith
table_first L (s ∷ ss) = refl

-- the last mark of the table is at the end of the second cycle, with the lengths of two cycles before it
pub table_last : (L : ℕ) (ss : List Slot) → get_or (table_of L ss) (length ss + length ss) (mark 0 0) ≡ mark (L + L) (lengths ss + lengths ss)
unfolding table_of
table_last L ss =
    let first = next 0 ss in
    let m = length ss in
    let x = marks_of first 0 0 ss in
    let y = marks_of first L (lengths ss) ss in
    let r = mark (L + L) (lengths ss + lengths ss) in
    let e = length-append x y in
    let g = marks_length first 0 0 ss in
    let h = marks_length first L (lengths ss) ss in
    ap (λ ms. get_or ms (m + m) (mark 0 0)) (sym (append_assoc x y (r ∷ []))) ∙ get_or_at (x ++ y) r [] (mark 0 0) (m + m) (omega arith)

-- the marks of slots, and then of more slots
marks_append : (first a p : ℕ) (xs ys : List Slot) → marks_of first a p (xs ++ ys) ≡ marks_of first a p xs ++ marks_of first a (p + lengths xs) ys
unfolding marks_of
marks_append first a p [] ys = ap (λ n. marks_of first a n ys) (let z = lengths_nil in omega arith)
marks_append first a p (x ∷ xs) ys =
    let e : p + x.length.0 + lengths xs ≡ p + lengths (x ∷ xs) = let z = lengths_cons x xs in omega arith in
    let ih = marks_append first a (p + x.length.0) xs ys in
    ap (λ ms. mark (a + (x.begin.0 - first)) p ∷ ms) (ih ∙ ap (λ n. marks_of first a (p + x.length.0) xs ++ marks_of first a n ys) e)

-- the marks of none of the slots
pub marks_none : (first a p : ℕ) (ss : List Slot) → marks_of first a p (take 0 ss) ≡ []
unfolding marks_of
marks_none first a p ss = refl

-- the marks of one slot more
pub marks_more : (first a p : ℕ) (ss : List Slot) (i : ℕ) (z : Slot) → i < length ss → marks_of first a p (take (i + 1) ss) ≡ marks_of first a p (take i ss) ++ (mark (a + ((get_or ss i z).begin.0 - first)) (p + lengths (take i ss)) ∷ [])
unfolding marks_of
marks_more first a p ss i z h = ap (marks_of first a p) (take_more ss i z h) ∙ marks_append first a p (take i ss) (get_or ss i z ∷ [])

-- no slot of a chain begins before its first
chain_begins : (L limit b : ℕ) (ss : List Slot) → Chain L limit ss → b ≤ next limit ss → AllByRecursion (λ s. b ≤ s.begin.0) ss
unfolding next
chain_begins L limit b [] c h = tt
chain_begins L limit b (s ∷ ss) c h = (h, chain_begins L limit b ss c.3 (omega arith))

-- nor of slots that are apart
pub first_begins : (L : ℕ) (ss : List Slot) → Apart L ss → AllByRecursion (λ s. next 0 ss ≤ s.begin.0) ss
unfolding next
first_begins L [] v = tt
first_begins L (s ∷ ss) v = chain_begins L (s.begin.0 + L) s.begin.0 (s ∷ ss) (chain_of L (s.begin.0 + L) (s ∷ ss) v) (omega arith)
