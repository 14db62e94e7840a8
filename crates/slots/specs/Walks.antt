-- What a walk over gate lines asks of each tick. Assumes nothing.
use Rattle.std.specs.Prelude.{◌≡◌, ℕ, ◌-◌, ◌<◌, ◌≤◌, Bool, true, false, List, length, cond, nat_lt}
use Rattle.gates.specs.declared.gate_line.GateLine.{GateLine}
use Rattle.gates.specs.Opened.{shows, start, line}

-- a test of gates and a tick that looks only at how the gates stand at the tick
pub record AtTick (test : (ℕ → ℕ → Bool) → ℕ → Bool) : Type 0 where
  pub same : (o p : ℕ → ℕ → Bool) (t u : ℕ) → ((k : ℕ) → o k t ≡ p k u) → test o t ≡ test p u

-- the gates of one line, as if it were all
abbrev pub alone : GateLine → ℕ → ℕ → Bool
alone l k t = shows l k

-- what is answered of each line is what the test says of its gates
abbrev pub Answers : (GateLine → Bool → Type 0) → ((ℕ → ℕ → Bool) → ℕ → Bool) → Type 0
Answers answer test = (l : GateLine) (b : Bool) → answer l b → b ≡ test (alone l) 0

-- the line before the line i of n: the last comes before the first
abbrev pub previous : ℕ → ℕ → ℕ
previous n i = cond (nat_lt 0 i) (i - 1) (n - 1)

-- so many ticks go by in the lines up to the first of which no is answered, or in all of them
pub record Walked (answer : GateLine → Bool → Type 0) (ls : List GateLine) (ticks : ℕ) : Type 0 where
  pub past : ℕ
  pub inside : past ≤ length ls
  pub added : ticks ≡ start ls past
  pub pass : (j : ℕ) → j < past → answer (line ls j) true
  pub ends : past < length ls → answer (line ls past) false
