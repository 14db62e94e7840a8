-- An envelope and a supply as two curves that never fall. Assumes nothing.
use Rattle.std.proofs.Common.{◌≡◌, ℕ, zero, suc, ◌+◌, ◌-◌, ◌<◌, ◌≤◌, arith}

-- neither falls, and the supply starts at 0
pub record Curves (alpha beta : ℕ → ℕ) : Type 0 where
  pub up : (i j : ℕ) → i ≤ j → alpha i ≤ alpha j
  pub starts : beta 0 ≡ 0
  pub rise : (i j : ℕ) → i ≤ j → beta i ≤ beta j

-- what never falls from one span to the next never falls
pub rises_all : (beta : ℕ → ℕ) → ((i : ℕ) → beta i ≤ beta (i + 1)) → (i j : ℕ) → i ≤ j → beta i ≤ beta j
rises_all beta step i zero h = grind arith
rises_all beta step i (suc j) h = let r = rises_all beta step i j in let s = step j in grind arith

-- what starts at 0 and gains at most 1 with each tick has no more than the ticks
pub slow_all : (beta : ℕ → ℕ) → beta 0 ≡ 0 → ((i : ℕ) → beta (i + 1) ≤ beta i + 1) → (k : ℕ) → beta k ≤ k
slow_all beta starts step zero = omega (arith, starts)
slow_all beta starts step (suc k) = let a = step k in let b = slow_all beta starts step k in grind arith

-- a span d, where the span before it does not close
module _ {alpha beta : ℕ → ℕ} (both : Curves alpha beta) (d : ℕ) (unserved : 1 < d → beta (d - 1) < alpha (d - 1)) where
  -- no more is supplied before its last tick than may arrive in it
  pub filled : beta (d - 1) ≤ alpha d
  filled = let b = both.up (d - 1) d (omega arith) in let z = both.starts in grind arith

  -- a span in which as much is supplied as may arrive in d is no shorter than the ticks before the last
  pub ahead : (x : ℕ) → alpha d ≤ beta x → d - 1 ≤ x
  ahead x enough = let a = both.rise x (d - 1) in let c = both.up (d - 1) d (omega arith) in grind arith
