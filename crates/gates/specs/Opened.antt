-- What the lines of a gate list say of each tick. Assumes nothing.
use Rattle.std.specs.Prelude.{◌≡◌, ℕ, suc, ◌+◌, ◌-◌, ◌%◌, ◌<◌, ◌≤◌, Bool, true, false, cond, List, [], ◌∷◌, length, take, replicate, nat_lt, slice_index_or}
use Rattle.units.specs.Limits.{classes, most_lines, most_cycle}
use Rattle.gates.specs.declared.gate_line.Gate.{Gate}
use Rattle.gates.specs.declared.gate_line.Gate.TheVariants.{Open, Shut}
use Rattle.gates.specs.declared.gate_line.GateLine.{GateLine}

-- whether a gate is open
abbrev pub is_open : Gate → Bool
is_open Open = true
is_open Shut = false

-- whether the class k is open in a line; no class above 7 is
abbrev pub shows : GateLine → ℕ → Bool
shows l k = is_open (slice_index_or l.gates k Shut)

-- the ticks that lines take
unfoldable pub total : List GateLine → ℕ
total [] = 0
total (l ∷ ls) = l.length.0 + total ls

-- whether the class k is open at the tick t, counted from the beginning of the first line; after the last line it is not
unfoldable pub within : List GateLine → ℕ → ℕ → Bool
within [] k t = false
within (l ∷ ls) k t = cond (nat_lt t l.length.0) (shows l k) (within ls k (t - l.length.0))

-- whether the class k is open at the tick t, for any t: the lines repeat
unfoldable pub opened : List GateLine → ℕ → ℕ → Bool
opened ls k t = within ls k (t % total ls)

-- the tick at which the line i begins
abbrev pub start : List GateLine → ℕ → ℕ
start ls i = total (take i ls)

-- the line i, and past the last one a line of no ticks
abbrev pub line : List GateLine → ℕ → GateLine
line ls i = slice_index_or ls i (record { length = record { 0 = 0 }; gates = [] })

-- the tick t of the first cycle lies in the line i
pub record InLine (ls : List GateLine) (i t : ℕ) : Type 0 where
  pub there : i < length ls
  pub begun : start ls i ≤ t
  pub ends : t < start ls (suc i)

-- one tick with every class shut
abbrev pub shut_line : GateLine
shut_line = record { length = record { 0 = 1 }; gates = replicate classes Shut }

-- what a gate list keeps to
pub record Lawful (ls : List GateLine) (cycle : ℕ) : Type 0 where
  pub each : (i : ℕ) → i < length ls → 1 ≤ (line ls i).length.0
  pub together : total ls ≡ cycle
  pub some : 1 ≤ length ls
  pub few : length ls ≤ most_lines
  pub most : cycle ≤ most_cycle
