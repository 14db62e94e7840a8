-- The key of a line, and what follows it. Assumes nothing.
use Rattle.std.specs.Prelude.{ℕ, cond, List, [], ◌∷◌, Some, None, Ok, Err, codes, Option, Result, ◌==◌}
use Rattle.std.specs.Borrow.{Bor}
use Rattle.std.specs.Str.{bytes_eq}
use Rattle.faults.specs.declared.fault.LineFault.{LineFault}
use Rattle.faults.specs.declared.fault.LineFault.TheVariants as fault
use Rattle.text.specs.declared.keys.Key.{Key}
use Rattle.text.specs.declared.keys.Key.TheVariants.{Port, Cycle, Gates, Gate, Class, Flows, Flow}
use Rattle.text.specs.Cuts.{before, past, has}
use Rattle.text.specs.Marks.{equals_sign}

-- the key of a line
abbrev pub key : Key → List ℕ
key Port = codes "port"
key Cycle = codes "cycle"
key Gates = codes "gates"
key Gate = codes "gate"
key Class = codes "class"
key Flows = codes "flows"
key Flow = codes "flow"

-- what follows the first equals sign of the line with the number k, whose key has to be the due one
abbrev pub value_in : ℕ → Key → List ℕ → Result (List ℕ) LineFault
value_in k due line = cond (has equals_sign line) (cond (bytes_eq (before equals_sign line) (key due)) (Ok (past equals_sign line)) (Err (fault.Key k))) (Err (fault.Missing k))

-- the key and its equals sign
abbrev pub word : Key → List ℕ
word Port = codes "port="
word Cycle = codes "cycle="
word Gates = codes "gates="
word Gate = codes "gate="
word Class = codes "class="
word Flows = codes "flows="
word Flow = codes "flow="

-- what follows p, where a text begins with it
abbrev pub strip : List ℕ → List ℕ → Option (List ℕ)
strip [] xs = Some xs
strip (c ∷ p) [] = None
strip (c ∷ p) (x ∷ xs) = cond (x == c) (strip p xs) None

-- what a lent text holds
abbrev pub content : {E : Type 0} → Result (Bor (List ℕ)) E → Result (List ℕ) E
content (Ok r) = Ok r.now
content (Err e) = Err e
