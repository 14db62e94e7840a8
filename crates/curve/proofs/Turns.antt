-- What one turn of a loop over the marks reads off the table. Assumes nothing.
use Rattle.std.proofs.Common.{◌≡◌, ℕ, zero, suc, ◌+◌, ◌-◌, ◌<◌, ◌≤◌, min, List, [], ◌∷◌, length, get_or, take, sym, ap, ◌∙◌, subst, inl, inr, arith}
use Rattle.std.specs.List.{AllByRecursion}
use Rattle.std.proofs.ByRecursion.{All-get_or, All-weaker, All-more}
use Rattle.std.proofs.lemmas.Bool.{cases_lt}
use Rattle.units.specs.Limits.{most_cycle}
use Rattle.calculus.specs.Searches.{count}
use Rattle.calculus.proofs.Counts.{count_split, count_le, count_grows}
use Rattle.sure_ticks.specs.declared.slot.Slot.{Slot}
use Rattle.sure_ticks.specs.Slots.{slot}
use Rattle.sure_ticks.specs.Sure.{covered, lengths}
use Rattle.sure_ticks.specs.Laws.{next, Apart}
use Rattle.sure_ticks.proofs.Covered.{Fit}
use Rattle.sure_ticks.proofs.Sums.{lengths_most}
use Rattle.sure_ticks.proofs.Apart.{Chain, chain_of, next_le, apart_fit}
use Rattle.curve.specs.declared.mark.Mark.{Mark}
use Rattle.curve.specs.Table.{mark, place_of, before_of, Ready}
use Rattle.curve.proofs.Sliding.{end_of}
use Rattle.curve.proofs.Marks.{from_first, Stretches, FirstMarks, table_length, table_stretches, table_firsts, table_first, table_last}

-- each slot fits its cycle
pub slot_fits : (L : ℕ) (ss : List Slot) (i : ℕ) (x : Slot) → Apart L ss → i < length ss → Fit L (get_or ss i x)
slot_fits L ss i x v h = All-get_or (Fit L) ss i x h (apart_fit L ss v)

-- each slot of a chain ends by its limit
chain_ends : (L limit : ℕ) (ss : List Slot) → Chain L limit ss → AllByRecursion (λ s. end_of s ≤ limit) ss
chain_ends L limit [] c = tt
chain_ends L limit (s ∷ ss) c = let n = next_le L limit ss c.3 in (omega arith, chain_ends L limit ss c.3)

-- each slot ends by the time the first begins again
slots_end : (L : ℕ) (ss : List Slot) → Apart L ss → AllByRecursion (λ s. end_of s ≤ next 0 ss + L) ss
slots_end L ss v = chain_ends L (next 0 ss + L) ss (chain_of L (next 0 ss + L) ss v)

-- windows of d ticks from the ends of the first slots on: one slot more, and a least that is no more
pub ends_more : (L : ℕ) (ss : List Slot) (d i best less : ℕ) (x : Slot) → i < length ss → less ≤ best → less ≤ count (covered L ss) (end_of (get_or ss i x)) d →
    AllByRecursion (λ s. best ≤ count (covered L ss) (end_of s) d) (take i ss) → AllByRecursion (λ s. less ≤ count (covered L ss) (end_of s) d) (take (i + 1) ss)
ends_more L ss d i best less x h l here a =
    All-more (λ s. less ≤ count (covered L ss) (end_of s) d) ss i x h
    (All-weaker (λ s. best ≤ count (covered L ss) (end_of s) d) (λ s. less ≤ count (covered L ss) (end_of s) d) (λ s k. omega arith) (take i ss) a)
    here

-- windows that have y: one slot more, and windows that are no shorter
pub ends_wider : (L : ℕ) (ss : List Slot) (y i far wide : ℕ) (x : Slot) → i < length ss → far ≤ wide → y ≤ count (covered L ss) (end_of (get_or ss i x)) wide →
    AllByRecursion (λ s. y ≤ count (covered L ss) (end_of s) far) (take i ss) → AllByRecursion (λ s. y ≤ count (covered L ss) (end_of s) wide) (take (i + 1) ss)
ends_wider L ss y i far wide x h l here a =
    All-more (λ s. y ≤ count (covered L ss) (end_of s) wide) ss i x h
    (All-weaker (λ s. y ≤ count (covered L ss) (end_of s) far) (λ s. y ≤ count (covered L ss) (end_of s) wide) (λ s k. let g = count_grows (covered L ss) (end_of s) far wide l in omega arith) (take i ss) a)
    here

-- the place where the slot j ends
abbrev pub end_place : List Mark → ℕ → ℕ
end_place ms j = place_of ms j + (before_of ms (j + 1) - before_of ms j)

-- The slot s has the number j. It begins no earlier than the first slot, ends at its place from there on, and has a tick; its ticks
-- come between its mark and the next one. They are at most all the sure ticks, and these no more than a cycle has
pub record Turn (L : ℕ) (ss : List Slot) (ms : List Mark) (j : ℕ) (s : Slot) : Type 0 where
  pub begins : next 0 ss ≤ s.begin.0
  pub ends : s.begin.0 - next 0 ss + s.length.0 ≡ end_place ms j
  pub done : before_of ms j + s.length.0 ≡ before_of ms (j + 1)
  pub some : place_of ms j < end_place ms j
  pub less : before_of ms j ≤ before_of ms (j + 1)
  pub few : before_of ms (j + 1) ≤ lengths ss
  pub ahead : end_place ms j ≤ place_of ms (j + 1)
  pub inside : end_place ms j ≤ L
  pub short : L ≤ most_cycle
  pub all : lengths ss ≤ L

-- slots with their table
module _ (L : ℕ) (ss : List Slot) (ms : List Mark) (r : Ready L ss ms) where
  -- how many marks there are
  pub marks_size : length ms ≡ length ss + length ss + 1
  marks_size = ap length r.table ∙ table_length L ss

  -- how the count goes from each mark to the next
  stretches : Stretches L ss ms
  stretches = subst (Stretches L ss) (sym r.table) (table_stretches L ss r.apart)

  -- the marks of the slots
  first_marks : FirstMarks ss ms
  first_marks = subst (FirstMarks ss) (sym r.table) (table_firsts L ss r.apart)

  -- the first mark has no tick before it
  pub first_before : before_of ms 0 ≡ 0
  first_before = ap (λ xs. before_of xs 0) r.table ∙ table_first L ss

  -- the last mark
  last_mark : get_or ms (length ms - 1) (mark 0 0) ≡ mark (L + L) (lengths ss + lengths ss)
  last_mark =
      let n = marks_size in
      let e : length ms - 1 ≡ length ss + length ss = omega arith in
      ap (λ k. get_or ms k (mark 0 0)) e ∙ ap (λ xs. get_or xs (length ss + length ss) (mark 0 0)) r.table ∙ table_last L ss

  -- its place
  pub last_place : place_of ms (length ms - 1) ≡ L + L
  last_place = ap (λ (m : Mark). m.place.0) last_mark

  -- the ticks in slots before it
  pub last_before : before_of ms (length ms - 1) ≡ lengths ss + lengths ss
  last_before = ap (λ (m : Mark). m.before.0) last_mark

  -- no fewer ticks in slots come before the next mark than before a slot's own, and at most the lengths; the slot ends by the next mark's place, and by the cycle's end
  pub slot_marks : (j : ℕ) → j < length ss → (before_of ms j ≤ before_of ms (j + 1)) × (before_of ms (j + 1) ≤ lengths ss) × (end_place ms j ≤ place_of ms (j + 1)) × (end_place ms j ≤ L)
  slot_marks j h =
      let g = stretches j (omega arith) in
      let f = first_marks j h in
      let t = All-get_or (λ s. end_of s ≤ next 0 ss + L) ss j (slot 0 0) h (slots_end L ss r.apart) in
      (g.1, f.2, omega (arith, g.0, g.1, g.2), omega (arith, f.0, f.1))

  -- what a turn of a loop over the slots reads off the slot j
  pub turn : (j : ℕ) → j < length ss → Turn L ss ms j (get_or ss j (slot 0 0))
  turn j h =
      let f = first_marks j h in
      let b = slot_marks j h in
      let s = slot_fits L ss j (slot 0 0) r.apart h in
      let l = lengths_most L ss r.apart in
      record {
        begins = omega (arith, f.0);
        ends = omega (arith, f.0, f.1);
        done = omega (arith, f.1);
        some = omega (arith, s.1);
        less = b.0;
        few = b.1;
        ahead = b.2;
        inside = b.3;
        short = r.short;
        all = l;
      }

  -- the count at a place between two marks
  count_between : (k x : ℕ) → k + 1 < length ms → place_of ms k ≤ x → x ≤ place_of ms (k + 1) → from_first L ss x ≡ min (before_of ms k + (x - place_of ms k)) (before_of ms (k + 1))
  count_between k x h a b = let n = marks_size in (stretches k (omega arith)).3 x a b

  -- the count at a slot's end
  count_end : (j : ℕ) → j < length ss → from_first L ss (end_place ms j) ≡ before_of ms (j + 1)
  count_end j h =
      let g = stretches j (omega arith) in
      let e = g.3 (end_place ms j) (omega arith) (omega (arith, g.0, g.1, g.2)) in
      omega (arith, g.1)

  -- a window from a slot's end on
  count_window : (j d : ℕ) → j < length ss → count (covered L ss) (end_of (get_or ss j (slot 0 0))) d + before_of ms (j + 1) ≡ from_first L ss (end_place ms j + d)
  unfolding from_first
  count_window j d h =
      let f = first_marks j h in
      let a = count_split (covered L ss) (next 0 ss) (end_place ms j) d in
      let b = count_end j h in
      let i : next 0 ss + end_place ms j ≡ end_of (get_or ss j (slot 0 0)) = omega (arith, f.0, f.1) in
      let k = ap (λ n. count (covered L ss) n d) i in
      omega arith

  -- no mark has more ticks in slots before it than ticks
  pub mark_le : (k : ℕ) → k + 1 < length ms → before_of ms k ≤ place_of ms k
  unfolding from_first
  mark_le k h =
      let n = marks_size in
      let g = stretches k (omega arith) in
      let e = count_between k (place_of ms k) h (omega arith) g.0 in
      let b = count_le (covered L ss) (next 0 ss) (place_of ms k) in
      omega (arith, g.1)

  -- the place of the mark i before the last is in the two cycles
  places_last : (i : ℕ) → i < length ms → place_of ms (length ms - 1 - i) ≤ L + L
  places_last zero h = let l = last_place in let e : place_of ms (length ms - 1 - 0) ≡ place_of ms (length ms - 1) = ap (place_of ms) (omega arith) in omega arith
  places_last (suc i) h =
      let ih = places_last i (omega arith) in
      let n = marks_size in
      let k = length ms - 1 - suc i in
      let g = stretches k (omega arith) in
      let e : place_of ms (k + 1) ≡ place_of ms (length ms - 1 - i) = ap (place_of ms) (omega arith) in
      omega (arith, g.0)

  -- so is the place of each mark
  pub place_le : (k : ℕ) → k < length ms → place_of ms k ≤ L + L
  place_le k h =
      let d = places_last (length ms - 1 - k) (omega arith) in
      let e : place_of ms (length ms - 1 - (length ms - 1 - k)) ≡ place_of ms k = ap (place_of ms) (omega arith) in
      omega arith

  -- the count of a window from a slot's end on, by the marks around the place where it ends
  pub window_turn : (j k d : ℕ) → j < length ss → k + 1 < length ms → place_of ms k ≤ end_place ms j + d → end_place ms j + d ≤ place_of ms (k + 1) →
      min (before_of ms k + (end_place ms j + d - place_of ms k)) (before_of ms (k + 1)) ≡ count (covered L ss) (end_of (get_or ss j (slot 0 0))) d + before_of ms (j + 1)
  window_turn j k d h i low high =
      let b = count_between k (end_place ms j + d) i low high in
      let t = count_window j d h in
      omega arith

  -- The place after the y-th tick in slots from a slot's end on, by the marks around it: it is after that end, and by the place of
  -- the mark after it; a window from the one to the other has y, and none from there on that has y is shorter
  pub tick_turn : (j k y : ℕ) → j < length ss → k + 1 < length ms → 0 < y → before_of ms k < before_of ms (j + 1) + y → before_of ms (j + 1) + y ≤ before_of ms (k + 1) →
      let x = place_of ms k + (before_of ms (j + 1) + y - before_of ms k) in
      let t = end_of (get_or ss j (slot 0 0)) in
      (end_place ms j < x) × (x ≤ place_of ms (k + 1)) × (count (covered L ss) t (x - end_place ms j) ≡ y) × ((z : ℕ) → y ≤ count (covered L ss) t z → x - end_place ms j ≤ z)
  unfolding from_first
  tick_turn j k y h i some low high =
      let n = marks_size in
      let e = end_place ms j in
      let x = place_of ms k + (before_of ms (j + 1) + y - before_of ms k) in
      let t = end_of (get_or ss j (slot 0 0)) in
      let g = stretches k (omega arith) in
      let top : x ≤ place_of ms (k + 1) = omega (arith, g.2) in
      let here : from_first L ss x ≡ before_of ms (j + 1) + y = let b = count_between k x i (omega arith) top in omega arith in
      let back : from_first L ss (x - 1) ≡ before_of ms (j + 1) + y - 1 = let b = count_between k (x - 1) i (omega arith) (omega arith) in omega arith in
      let start = count_end j h in
      let past : e < x = elim (cases_lt e x) [ inl l ↦ l | inr l ↦ absurd (let m = count_grows (covered L ss) (next 0 ss) x e l in omega arith) ] in
      let whole : count (covered L ss) t (x - e) + before_of ms (j + 1) ≡ from_first L ss x = count_window j (x - e) h ∙ ap (from_first L ss) (omega arith) in
      let less : count (covered L ss) t (x - e - 1) + before_of ms (j + 1) ≡ from_first L ss (x - 1) = count_window j (x - e - 1) h ∙ ap (from_first L ss) (omega arith) in (
        past,
        top,
        omega arith,
        λ z q.
            elim (cases_lt z (x - e)) [
              | inl l ↦ absurd (let m = count_grows (covered L ss) t z (x - e - 1) (omega arith) in omega arith)
              | inr l ↦ l
            ],
      )
