-- Where an amount comes among the marks of a service. Assumes nothing.
use Rattle.std.proofs.Common.{◌≡◌, ℕ, ◌+◌, ◌*◌, ◌<◌, ◌≤◌, ◌⊎◌, Bool, true, false, Bor, List, length, get_or, take, ltb, sym, subst, inl, inr}
use Rattle.std.specs.Fn.{Shared, FnReturnsAt}
use Rattle.std.proofs.lemmas.Bool.{ltb-true, ltb-false}
use Rattle.sure_ticks.specs.declared.slot.Slot.{Slot}
use Rattle.sure_ticks.specs.Slots.{slot}
use Rattle.curve.specs.declared.mark.Mark.{Mark}
use Rattle.curve.specs.Table.{mark, Ready}
use Rattle.curve.proofs.Turns.{Turn, turn}
use Rattle.slots.specs.Listed.{items}
use Rattle.service.specs.declared.class_service.ClassService.{ClassService}

-- what is read off the mark k
abbrev key_at : (Mark → ℕ) → List Mark → ℕ → ℕ
key_at key ms k = key (get_or ms k (mark 0 0))

-- an amount comes behind the mark k: there is less at that mark, and the next one reaches it
pub record Reached (key : Mark → ℕ) (ms : List Mark) (amount k : ℕ) : Type 0 where
  pub there : k + 1 < length ms
  pub begun : key_at key ms k < amount
  pub ends : amount ≤ key_at key ms (k + 1)

-- a test that a mark passes just if it has less of an amount
module _ {F : Type 0} (g : Shared F (Bor Mark × Unit {0}) Bool) (f : F) (key : Mark → ℕ) (amount : ℕ) (tests : (m : Bor Mark) (r : Bool) → g.post f (m, tt) r → r ≡ ltb (key m.now) amount) (ms : List Mark) where
  -- a mark that passes has less
  pub passes : (k : ℕ) → FnReturnsAt g f (get_or ms k (mark 0 0)) true → key_at key ms k < amount
  passes k p = subst (λ m. key m < amount) p.shows (ltb-true (key p.shown.now) amount (sym (tests p.shown true p.says.met)))

  -- one that fails reaches the amount
  pub fails : (k : ℕ) → FnReturnsAt g f (get_or ms k (mark 0 0)) false → amount ≤ key_at key ms k
  fails k p = subst (λ m. amount ≤ key m) p.shows (ltb-false (key p.shown.now) amount (sym (tests p.shown false p.says.met)))

  -- a search that begins at a mark with less ends at one
  pub reached_from : (from k : ℕ) → k + 1 < length ms → key_at key ms from < amount → (k ≡ from) ⊎ FnReturnsAt g f (get_or ms k (mark 0 0)) true → FnReturnsAt g f (get_or ms (k + 1) (mark 0 0)) false → Reached key ms amount k
  reached_from from k there low begun ends =
      record {
        there = there;
        begun = elim begun [ inl e ↦ subst (λ i. key_at key ms i < amount) (sym e) low | inr p ↦ passes k p ];
        ends = fails (k + 1) ends;
      }

-- the table of a service, in lists that are its slots and its marks
pub ready_of : (s : ClassService) (ss : List Slot) (ms : List Mark) → ss ≡ items s.slots → ms ≡ take (2 * length (items s.slots) + 1) s.marks → Ready s.cycle.0 ss ms
ready_of s ss ms e f = subst (λ xs. Ready s.cycle.0 xs ms) (sym e) (subst (Ready s.cycle.0 (items s.slots)) (sym f) s.ready)

-- and what a turn of a loop over the slots reads off it
pub turn_of : (s : ClassService) (ss : List Slot) (ms : List Mark) → ss ≡ items s.slots → ms ≡ take (2 * length (items s.slots) + 1) s.marks → (j : ℕ) → j < length ss → Turn s.cycle.0 ss ms j (get_or ss j (slot 0 0))
turn_of s ss ms e f j h = turn s.cycle.0 ss ms (ready_of s ss ms e f) j h
