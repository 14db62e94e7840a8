-- What the lines of a gate list come to, tick by tick. Assumes nothing.
use Rattle.std.proofs.Common.{◌≡◌, ℕ, zero, suc, ◌+◌, ◌-◌, ◌*◌, ◌%◌, ◌<◌, ◌≤◌, false, ltb, List, [], ◌∷◌, length, drop, Decides, sym, refl, ap, ◌∙◌, subst, add-one, arith}
use native.Mathlib.Nat.{add-mul-mod_self_right}
use Rattle.std.proofs.lemmas.List.{at_drop_more, at_drop_all}
use Rattle.std.proofs.lemmas.Bool.{lt-ltb, le-ltb, cond-true, cond-false}
use Rattle.gates.specs.declared.gate_line.GateLine.{GateLine}
use Rattle.gates.specs.Opened.{total, shows, within, opened, start, line, shut_line, InLine, Lawful}

-- where one line ends the next begins
pub start_next : (ls : List GateLine) (i : ℕ) → i < length ls → start ls (suc i) ≡ start ls i + (line ls i).length.0
unfolding total
start_next [] i lt = absurd (omega arith)
start_next (l ∷ ls) zero lt = omega arith
start_next (l ∷ ls) (suc i) lt = let r = start_next ls i (omega arith) in omega arith

-- the same for a loop, which counts by + 1
pub start_more : (ls : List GateLine) (i : ℕ) → i < length ls → start ls (i + 1) ≡ start ls i + (line ls i).length.0
start_more ls i lt = ap (start ls) (add-one i) ∙ start_next ls i lt

-- past the last line all ticks have gone by
pub start_all : (ls : List GateLine) (n : ℕ) → length ls ≤ n → start ls n ≡ total ls
unfolding total
start_all [] zero le = refl
start_all [] (suc n) le = refl
start_all (l ∷ ls) zero le = absurd (omega arith)
start_all (l ∷ ls) (suc n) le = let r = start_all ls n (omega arith) in omega arith

-- no line begins after the cycle
pub start_most : (ls : List GateLine) (i : ℕ) → start ls i ≤ total ls
unfolding total
start_most ls zero = omega arith
start_most [] (suc i) = omega arith
start_most (l ∷ ls) (suc i) = let r = start_most ls i in omega arith

-- no line is longer than all of them
pub line_most : (ls : List GateLine) (i : ℕ) → i < length ls → (line ls i).length.0 ≤ total ls
line_most ls i lt = let n = start_next ls i lt in let m = start_most ls (suc i) in omega arith

-- lines take at least a tick where there are any
pub total_some : (ls : List GateLine) → ((i : ℕ) → i < length ls → 1 ≤ (line ls i).length.0) → 1 ≤ length ls → 1 ≤ total ls
total_some ls each some = let m = line_most ls 0 (omega arith) in let e = each 0 (omega arith) in omega arith

-- `opened` from the lines as a loop has them, and the cycle
pub opened_is : (ls xs : List GateLine) (k t cycle : ℕ) → xs ≡ ls → total ls ≡ cycle → within xs k (t % cycle) ≡ opened ls k t
unfolding opened
opened_is ls xs k t cycle e s = (λ i. within (e i) k (t % sym s i))

-- one step of a walk over the lines from the front: the tick lies in the line i, or past it
pub within_here : (ls : List GateLine) (k i t : ℕ) → i < length ls → t < (line ls i).length.0 → within (drop i ls) k t ≡ shows (line ls i) k
unfolding within
within_here ls k i t lt h = at_drop_more (λ xs. within xs k t) ls i (record { length = record { 0 = 0 }; gates = [] }) lt ∙ cond-true _ _ _ (lt-ltb _ _ h)

-- the tick lies past the line i
pub within_past : (ls : List GateLine) (k i t : ℕ) → i < length ls → (line ls i).length.0 ≤ t → within (drop i ls) k t ≡ within (drop (i + 1) ls) k (t - (line ls i).length.0)
unfolding within
within_past ls k i t lt h = at_drop_more (λ xs. within xs k t) ls i (record { length = record { 0 = 0 }; gates = [] }) lt ∙ cond-false _ _ _ (le-ltb _ _ h)

-- no line is left
pub within_end : (ls : List GateLine) (k i t : ℕ) → length ls ≤ i → within (drop i ls) k t ≡ false
unfolding within
within_end ls k i t h = at_drop_all (λ xs. within xs k t) ls i h

-- the gates are the same all over a line
within_at : (ls : List GateLine) (k i t : ℕ) → i < length ls → start ls i ≤ t → t < start ls i + (line ls i).length.0 → within ls k t ≡ shows (line ls i) k
unfolding total within
within_at [] k i t lt a b = absurd (omega arith)
within_at (l ∷ ls) k zero t lt a b = cond-true (ltb t l.length.0) (shows l k) (within ls k (t - l.length.0)) (lt-ltb t l.length.0 (omega arith))
within_at (l ∷ ls) k (suc i) t lt a b =
    cond-false (ltb t l.length.0) (shows l k) (within ls k (t - l.length.0)) (le-ltb t l.length.0 (omega arith))
    ∙ within_at ls k i (t - l.length.0) (omega arith) (omega arith) (omega arith)

-- any number of cycles later the gates stand as they do now
pub repeats : (ls : List GateLine) (k t n cycle : ℕ) → total ls ≡ cycle → opened ls k (t + n * cycle) ≡ opened ls k t
unfolding opened
repeats ls k t n cycle e = (λ i. within ls k ((t + n * cycle) % e i)) ∙ ap (within ls k) (add-mul-mod_self_right t n cycle) ∙ (λ i. within ls k (t % sym e i))

-- at each tick of a line, in any cycle, the gates stand as the line says
pub steady : (ls : List GateLine) (k i t cycle : ℕ) → total ls ≡ cycle → InLine ls i (t % cycle) → opened ls k t ≡ shows (line ls i) k
unfolding opened
steady ls k i t cycle e w =
    let s = start_next ls i w.there in
    (λ j. within ls k (t % e j)) ∙ within_at ls k i (t % cycle) w.there w.begun (omega (arith, w.ends))

-- the shut list is a gate list
one : (i : ℕ) → i < 1 → 0 ≡ i
one i h = omega arith

-- the list of one shut tick is lawful
pub only_shut : (ls : List GateLine) → ls ≡ shut_line ∷ [] → Lawful ls 1
unfolding total
only_shut ls e = let p : List GateLine → Type 0 = λ xs. Lawful xs 1 in subst p (sym e) (record { each = λ i h. subst (λ j. 1 ≤ (line (shut_line ∷ []) j).length.0) (one i h) (omega arith); together = refl; some = omega arith; few = omega arith; most = omega arith })

-- the answer no, to what cannot be
pub refuted : (P : Type 0) → (P → ⊥) → Decides false P
refuted P none = ((λ e. let z : ◌≡◌ {A = ℕ} 0 1 = cc in absurd (omega arith)), λ p. absurd (none p))
