-- A walk over gate lines, told in ticks. Assumes nothing.
use Rattle.std.proofs.Common.{◌≡◌, ℕ, zero, suc, ◌+◌, ◌-◌, ◌*◌, ◌%◌, ◌<◌, ◌≤◌, Bool, true, false, not, ◌&&◌, ltb, ◌⊎◌, List, [], ◌∷◌, ◌++◌, length, get_or, take, drop, vec_items, sym, refl, ap, ◌∙◌, subst, inl, inr, mod-eq_of_lt, arith}
use Rattle.std.proofs.lemmas.Bool.{lt-ltb, ltb-true, and_left, and_right, and_from, cases_Bool, cases_lt, not_from_true, not_from_false}
use Rattle.std.specs.Bool.{MatchBool}
use Rattle.std.specs.List.{range_with_len, HoldsAt, AllWithin}
use Rattle.std.proofs.lemmas.List.FromFn.{get_or-range_with_len}
use Rattle.std.proofs.lemmas.List.{length-append, take-append-drop, take-append-le, get_or_append_left, get_or-append-add, get_or-append_right}
use Rattle.std.proofs.Math.Seq.{take-append-add}
use Rattle.units.specs.Limits.{classes}
use Rattle.calculus.specs.Searches.{all, lasts}
use Rattle.calculus.proofs.Bounded.{all_from, all_not}
use Rattle.calculus.proofs.Lasts.{lasts_is, lasts_full, lasts_most, lasts_more, lasts_ever, lasts_fewer}
use Rattle.gates.specs.declared.gate_line.GateLine.{GateLine}
use Rattle.gates.specs.declared.gate_list.GateList.{GateList}
use Rattle.gates.specs.Opened.{total, shows, opened, start, line, Lawful}
use Rattle.gates.proofs.Lines.{start_next, start_all, start_most, total_some, repeats, steady}
use Rattle.sure_ticks.specs.Runs.{clear}
use Rattle.sure_ticks.proofs.Found.{clear_same}
use Rattle.slots.specs.Walks.{alone, AtTick, Answers, Walked}

-- one line: a higher class is open
pub clear_higher : (o : ℕ → ℕ → Bool) (c t h : ℕ) → c < h → h < classes → o h t ≡ true → clear o c t ≡ false
unfolding clear
clear_higher o c t h lo hi e =
    and_right (o c t) (all (λ h. not (ltb c h && o h t)) classes)
    (all_not (λ h. not (ltb c h && o h t)) classes h hi (not_from_true (ltb c h && o h t) (and_from (ltb c h) (o h t) (lt-ltb c h lo) e)))

-- one line: every higher class is shut
pub clear_if : (o : ℕ → ℕ → Bool) (c t : ℕ) → ((h : ℕ) → h < classes → c < h → o h t ≡ false) → clear o c t ≡ o c t
unfolding clear
clear_if o c t hs =
    let a : all (λ h. not (ltb c h && o h t)) classes ≡ true =
    all_from (λ h. not (ltb c h && o h t)) classes (λ h lt.
    not_from_false (ltb c h && o h t)
    (elim (cases_Bool (ltb c h)) [
      | inl higher ↦ and_right (ltb c h) (o h t) (hs h lt (ltb-true c h higher))
      | inr lower ↦ and_left (ltb c h) (o h t) lower
    ])) in
    elim (cases_Bool (o c t)) [
      | inl e ↦ and_from (o c t) (all (λ h. not (ltb c h && o h t)) classes) e a ∙ sym e
      | inr e ↦ and_left (o c t) (all (λ h. not (ltb c h && o h t)) classes) e ∙ sym e
    ]

-- one line: whether some class is higher and open tells whether the class is clear
pub clear_told : (l : GateLine) (c : ℕ) (b : Bool) → MatchBool b ((k : ℕ) × (k < length (range_with_len 0 8)) × HoldsAt (λ h. (c < h) × (shows l h ≡ true)) (range_with_len 0 8) k)
    (AllWithin (λ h. c < h → shows l h ≡ false) (range_with_len 0 8) 0 (length (range_with_len 0 8))) → clear (alone l) c 0 ≡ (not b && shows l c)
clear_told l c true w =
    let q = get_or-range_with_len 0 8 w.0 0 w.1 in
    clear_higher (alone l) c 0 (get_or (range_with_len 0 8) w.0 0) (w.2 0).0 (omega (arith, w.1)) (w.2 0).1
clear_told l c false w =
    clear_if (alone l) c 0
    (λ h lt lo. let q = get_or-range_with_len 0 8 h 0 lt in let e : get_or (range_with_len 0 8) h 0 ≡ h = omega arith in subst (λ v. c < v → shows l v ≡ false) e (w h 0 (omega arith) lt) lo)

-- that a class is open, or clear, shows at the tick
pub open_at_tick : (c : ℕ) → AtTick (λ o. o c)
open_at_tick c = record { same = λ o p t u h. h c }

-- the other test
pub clear_at_tick : (c : ℕ) → AtTick (λ o. clear o c)
clear_at_tick c = record { same = λ o p t u h. clear_same o p c t u h }

-- a gate list
module _ (ls : List GateLine) (cycle : ℕ) (law : Lawful ls cycle) where
  -- a cycle has a tick
  pub cycle_some : 0 < cycle
  cycle_some = let t = total_some ls law.each law.some in omega (arith, law.together)

  -- a line begins in the cycle
  pub start_in : (i : ℕ) → i < length ls → start ls i < cycle
  start_in i lt = let n = start_next ls i lt in let m = start_most ls (suc i) in omega (arith, law.together, law.each i lt)

  -- the gates repeat with the cycle
  pub opened_later : (k t : ℕ) → opened ls k (t + cycle) ≡ opened ls k t
  opened_later k t = let e : t + cycle ≡ t + 1 * cycle = omega arith in ap (opened ls k) e ∙ repeats ls k t 1 cycle law.together

  -- at each tick of a line the gates stand as the line says
  pub opened_at : (k i t : ℕ) → i < length ls → start ls i ≤ t → t < start ls (suc i) → opened ls k t ≡ shows (line ls i) k
  opened_at k i t lt a b =
      let m = start_most ls (suc i) in
      let e : t % cycle ≡ t = mod-eq_of_lt (omega (arith, law.together)) in
      steady ls k i t cycle law.together (record { there = lt; begun = omega arith; ends = omega arith })

  -- a test of the gates at a tick
  module _ (test : (ℕ → ℕ → Bool) → ℕ → Bool) (at : AtTick test) where
    -- it repeats with the cycle too
    pub test_later : (t : ℕ) → test (opened ls) (t + cycle) ≡ test (opened ls) t
    test_later t = at.same (opened ls) (opened ls) (t + cycle) t (λ k. opened_later k t)

    -- at each tick of a line it comes out as it does in the line
    pub test_at : (i t : ℕ) → i < length ls → start ls i ≤ t → t < start ls (suc i) → test (opened ls) t ≡ test (alone (line ls i)) 0
    test_at i t lt s e = at.same (opened ls) (alone (line ls i)) t 0 (λ k. opened_at k i t lt s e)

-- the lines that a loop reads are the list's
pub lines_same : (xs : List GateLine) (g h : GateList) → xs ≡ vec_items g.lines → g ≡ h → xs ≡ vec_items h.lines
lines_same xs g h e f = e ∙ ap (λ (v : GateList). vec_items v.lines) f

-- lines and then lines
total_append : (xs ys : List GateLine) → total (xs ++ ys) ≡ total xs + total ys
unfolding total
total_append [] ys = omega arith
total_append (l ∷ xs) ys = let r = total_append xs ys in omega arith

-- a test of ticks, and of lines
module _ (f : ℕ → Bool) (b : GateLine → Bool) where
  -- from the tick a on, the lines follow one another, and at each of its ticks a line passes or fails as a whole
  abbrev pub Along : ℕ → List GateLine → Type 0
  Along a [] = Unit {0}
  Along a (l ∷ ls) = (1 ≤ l.length.0) × ((t : ℕ) → a ≤ t → t < a + l.length.0 → f t ≡ b l) × Along (a + l.length.0) ls

  -- told by the numbers of the lines
  along_each : (ls : List GateLine) (a : ℕ) → ((i : ℕ) → i < length ls → 1 ≤ (line ls i).length.0)
      → ((i t : ℕ) → i < length ls → a + start ls i ≤ t → t < a + start ls (suc i) → f t ≡ b (line ls i)) → Along a ls
  unfolding total
  along_each [] a each at = tt
  along_each (l ∷ ls) a each at = (
    each 0 (omega arith),
    λ t lo hi. at 0 t (omega arith) (omega arith) (omega arith),
    along_each ls (a + l.length.0) (λ i lt. each (suc i) (omega arith)) (λ i t lt lo hi. at (suc i) t (omega arith) (omega arith) (omega arith)),
  )

  -- lines and then lines, from both
  along_append : (xs ys : List GateLine) (a : ℕ) → Along a xs → Along (a + total xs) ys → Along a (xs ++ ys)
  unfolding total
  along_append [] ys a u v = let e : a + 0 ≡ a = omega arith in subst (λ n. Along n ys) e v
  along_append (l ∷ xs) ys a u v =
      let e : a + (l.length.0 + total xs) ≡ a + l.length.0 + total xs = omega arith in
      (u.0, u.1, along_append xs ys (a + l.length.0) u.2 (subst (λ n. Along n ys) e v))

  -- and both from them
  along_split : (xs ys : List GateLine) (a : ℕ) → Along a (xs ++ ys) → Along a xs × Along (a + total xs) ys
  unfolding total
  along_split [] ys a u = let e : a ≡ a + 0 = omega arith in (tt, subst (λ n. Along n ys) e u)
  along_split (l ∷ xs) ys a u =
      let r = along_split xs ys (a + l.length.0) u.2 in
      let e : a + l.length.0 + total xs ≡ a + (l.length.0 + total xs) = omega arith in
      ((u.0, u.1, r.0), subst (λ n. Along n ys) e r.1)

  -- a cycle later, if the test of ticks repeats
  along_later : (L : ℕ) → ((t : ℕ) → f (t + L) ≡ f t) → (xs : List GateLine) (a : ℕ) → Along a xs → Along (a + L) xs
  along_later L later [] a u = tt
  along_later L later (l ∷ xs) a u =
      let e : a + l.length.0 + L ≡ a + L + l.length.0 = omega arith in (
        u.0,
        λ t lo hi. let q : t ≡ t - L + L = omega arith in ap f q ∙ later (t - L) ∙ u.1 (t - L) (omega arith) (omega arith),
        subst (λ n. Along n xs) e (along_later L later xs (a + l.length.0) u.2),
      )

  -- up to a line before which all pass, each tick does
  along_upto : (xs : List GateLine) (a i : ℕ) → Along a xs → ((j : ℕ) → j < i → j < length xs → b (line xs j) ≡ true) → (t : ℕ) → a ≤ t → t < a + start xs i → f t ≡ true
  unfolding total
  along_upto xs a zero u h t lo hi = absurd (omega arith)
  along_upto [] a (suc i) u h t lo hi = absurd (omega arith)
  along_upto (l ∷ xs) a (suc i) u h t lo hi =
      elim (cases_lt t (a + l.length.0)) [
        | inl here ↦ u.1 t lo here ∙ h 0 (omega arith) (omega arith)
        | inr past ↦ along_upto xs (a + l.length.0) i u.2 (λ j lt there. h (suc j) (omega arith) (omega arith)) t past (omega arith)
      ]

  -- and the line's first tick is as the line
  along_at : (xs : List GateLine) (a i : ℕ) → i < length xs → Along a xs → (f (a + start xs i) ≡ b (line xs i)) × (start xs i < total xs)
  unfolding total
  along_at [] a i lt u = absurd (omega arith)
  along_at (l ∷ xs) a zero lt u = (u.1 (a + 0) (omega arith) (omega (arith, u.0)), omega (arith, u.0))
  along_at (l ∷ xs) a (suc i) lt u =
      let r = along_at xs (a + l.length.0) i (omega arith) u.2 in
      let e : a + (l.length.0 + start xs i) ≡ a + l.length.0 + start xs i = omega arith in
      (ap f e ∙ r.0, omega (arith, r.1))

-- the lines from the line n to the last, and then from the first on
abbrev round : List GateLine → ℕ → List GateLine
round ls n = drop n ls ++ take n ls

-- a walk over lines and then lines
module _ (answer : GateLine → Bool → Type 0) (xs ys : List GateLine) where
  -- it ends in the first of them
  walked_first : (t : ℕ) (w : Walked answer xs t) → w.past < length xs → Walked answer (xs ++ ys) t
  walked_first t w lt = record {
    past = w.past;
    inside = omega (arith, length-append xs ys, lt);
    added = w.added ∙ ap total (sym (take-append-le w.past xs ys w.inside));
    pass = λ j l. subst (λ k. answer k true) (sym (get_or_append_left xs ys _ j (omega arith))) (w.pass j l);
    ends = λ _. subst (λ k. answer k false) (sym (get_or_append_left xs ys _ w.past lt)) (w.ends lt);
  }

  -- it goes on in the second
  walked_both : (t u : ℕ) (v : Walked answer xs t) (w : Walked answer ys u) → length xs ≤ v.past → Walked answer (xs ++ ys) (t + u)
  walked_both t u v w all =
      let e = start_all xs v.past all in
      let f = ap total (take-append-add xs ys w.past) in
      let g = total_append xs (take w.past ys) in
      record {
        past = length xs + w.past;
        inside = omega (arith, length-append xs ys, w.inside);
        added = omega (arith, v.added, w.added);
        pass = λ j l.
            elim (cases_lt j (length xs)) [
              | inl lt ↦ subst (λ k. answer k true) (sym (get_or_append_left xs ys _ j lt)) (v.pass j (omega arith))
              | inr le ↦ subst (λ k. answer k true) (sym (get_or-append_right xs ys (length xs) j _ refl le)) (w.pass (j - length xs) (omega arith))
            ];
        ends = λ l. subst (λ k. answer k false) (sym (get_or-append-add xs ys w.past _)) (w.ends (omega (arith, length-append xs ys)));
      }

module _ (ls : List GateLine) (cycle : ℕ) (law : Lawful ls cycle) (n : ℕ) where
  -- together they last the cycle
  pub round_total : total (round ls n) ≡ cycle
  round_total = let e = ap total (take-append-drop n ls) in let p = total_append (take n ls) (drop n ls) in let q = total_append (drop n ls) (take n ls) in omega (arith, law.together)

  -- those from the line n on last from its beginning to the cycle's end
  pub round_parts : start ls n + total (drop n ls) ≡ cycle
  round_parts = let e = ap total (take-append-drop n ls) in let p = total_append (take n ls) (drop n ls) in omega (arith, law.together)

  module _ (test : (ℕ → ℕ → Bool) → ℕ → Bool) (at : AtTick test) where
    -- they follow one another from the beginning of the line n on
    round_along : Along (test (opened ls)) (λ l. test (alone l) 0) (start ls n) (round ls n)
    round_along =
        let f : ℕ → Bool = test (opened ls) in
        let b : GateLine → Bool = λ l. test (alone l) 0 in
        let u : Along f b 0 ls = along_each f b ls 0 law.each (λ i t lt lo hi. test_at ls cycle law test at i t lt (omega arith) (omega arith)) in
        let v : Along f b 0 (take n ls ++ drop n ls) = subst (Along f b 0) (sym (take-append-drop n ls)) u in
        let w = along_split f b (take n ls) (drop n ls) 0 v in
        let e : 0 + total (take n ls) ≡ start ls n = omega arith in
        let d : Along f b (start ls n) (drop n ls) = subst (λ a. Along f b a (drop n ls)) e w.1 in
        let p = ap total (take-append-drop n ls) in
        let q = total_append (take n ls) (drop n ls) in
        let z : 0 + cycle ≡ start ls n + total (drop n ls) = omega (arith, law.together) in
        let t : Along f b (start ls n + total (drop n ls)) (take n ls) = subst (λ a. Along f b a (take n ls)) z (along_later f b cycle (test_later ls cycle law test at) (take n ls) 0 w.0) in
        along_append f b (drop n ls) (take n ls) (start ls n) d t

    -- one of them fails and all before it pass: the test lasts up to it
    round_stop : (i : ℕ) → i < length (round ls n) → ((j : ℕ) → j < i → test (alone (line (round ls n) j)) 0 ≡ true) → test (alone (line (round ls n) i)) 0 ≡ false
        → start (round ls n) i ≡ lasts (test (opened ls)) (start ls n) cycle
    round_stop i lt h fails =
        let r = along_at (test (opened ls)) (λ l. test (alone l) 0) (round ls n) (start ls n) i lt round_along in
        sym (lasts_is (test (opened ls)) cycle (start ls n) (start (round ls n) i) (omega (arith, r.1, round_total))
        (λ t lo hi. along_upto (test (opened ls)) (λ l. test (alone l) 0) (round ls n) (start ls n) i round_along (λ j l _. h j l) t lo hi)
        (r.0 ∙ fails))

    -- all of them pass: it lasts the cycle
    round_all : (i : ℕ) → length (round ls n) ≤ i → ((j : ℕ) → j < i → test (alone (line (round ls n) j)) 0 ≡ true)
        → start (round ls n) i ≡ lasts (test (opened ls)) (start ls n) cycle
    round_all i le h =
        let e : start (round ls n) i ≡ cycle = start_all (round ls n) i le ∙ round_total in
        e ∙ sym (lasts_full (test (opened ls)) cycle (start ls n)
        (λ t lo hi. along_upto (test (opened ls)) (λ l. test (alone l) 0) (round ls n) (start ls n) i round_along (λ j l _. h j l) t lo (omega arith)))

    -- what a walk is told of each line is what the test says of its gates
    abbrev Told : GateLine → Bool → Type 0
    Told l b = b ≡ test (alone l) 0

    told : (answer : GateLine → Bool → Type 0) → Answers answer test → (xs ys : List GateLine) → xs ≡ ys → (t : ℕ) → Walked answer xs t → Walked Told ys t
    told answer says xs ys e t w =
        subst (λ zs. Walked Told zs t) e
        (record {
          past = w.past;
          inside = w.inside;
          added = w.added;
          pass = λ j l. says _ true (w.pass j l);
          ends = λ l. says _ false (w.ends l);
        })

    -- so the test lasts as long as a walk over them
    round_walked : (t : ℕ) → Walked Told (round ls n) t → t ≡ lasts (test (opened ls)) (start ls n) cycle
    round_walked t w =
        elim (cases_lt w.past (length (round ls n))) [
          | inl lt ↦ w.added ∙ round_stop w.past lt (λ j l. sym (w.pass j l)) (sym (w.ends lt))
          | inr le ↦ w.added ∙ round_all w.past le (λ j l. sym (w.pass j l))
        ]

    -- as long as one over those from the line n on, if that ends before the cycle does
    pub round_short : (answer : GateLine → Bool → Type 0) → Answers answer test → (xs : List GateLine) → xs ≡ drop n ls → (t : ℕ) → Walked answer xs t
        → t < cycle - start ls n → t ≡ lasts (test (opened ls)) (start ls n) cycle
    round_short answer says xs e t w lt =
        let v = told answer says xs (drop n ls) e t w in
        elim (cases_lt v.past (length (drop n ls))) [
          | inl here ↦ round_walked t (walked_first Told (drop n ls) (take n ls) t v here)
          | inr past ↦ let a = start_all (drop n ls) v.past past in absurd (omega (arith, v.added, round_parts))
        ]

    -- and else as long as that and another over those before the line n
    pub round_long : (answer also : GateLine → Bool → Type 0) → Answers answer test → Answers also test → (xs ys : List GateLine) → xs ≡ drop n ls → ys ≡ take n ls → (t u : ℕ)
        → Walked answer xs t → Walked also ys u → cycle - start ls n ≤ t → t + u ≡ lasts (test (opened ls)) (start ls n) cycle
    round_long answer also says too xs ys e f t u v w le =
        let x = told answer says xs (drop n ls) e t v in
        let y = told also too ys (take n ls) f u w in
        let g : ℕ → Bool = test (opened ls) in
        let b : GateLine → Bool = λ l. test (alone l) 0 in
        let d = (along_split g b (drop n ls) (take n ls) (start ls n) round_along).0 in
        let all : length (drop n ls) ≤ x.past =
        elim (cases_lt x.past (length (drop n ls))) [
          | inl here ↦ let a = along_at g b (drop n ls) (start ls n) x.past here d in absurd (omega (arith, x.added, a.1, round_parts))
          | inr past ↦ past
        ] in
        round_walked (t + u) (walked_both Told (drop n ls) (take n ls) t u x y all)

-- how long a class stays open with any limit, from how long it does within a cycle
module _ (ls : List GateLine) (cycle : ℕ) (law : Lawful ls cycle) (k a n limit : ℕ) (h : n ≡ lasts (opened ls k) a cycle) where
  -- it stays open for the limit or longer
  pub limit_most : (n ≡ cycle) ⊎ ((n ≡ cycle → ⊥) × (limit < n)) → limit ≡ lasts (opened ls k) a limit
  limit_most (inl e) = sym (lasts_ever cycle (opened ls k) (opened_later ls cycle law k) (cycle_some ls cycle law) a limit (sym h ∙ e))
  limit_most (inr e) = sym (lasts_fewer (opened ls k) cycle a limit (omega (arith, e.1)))

  -- it shuts before
  pub limit_less : (n ≡ cycle → ⊥) → n ≤ limit → n ≡ lasts (opened ls k) a limit
  limit_less ne le =
      let most = lasts_most (opened ls k) cycle a in
      let lt : lasts (opened ls k) a cycle < cycle = omega arith in
      h ∙ sym (lasts_more (opened ls k) cycle a limit lt (omega arith))
