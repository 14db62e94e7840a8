-- Results one after another: the first fault is the answer. Assumes nothing.
use Rattle.std.specs.Prelude.{ℕ, zero, suc, ◌+◌, List, Ok, Err, Result}
use Rattle.text.specs.Cuts.{past}
use Rattle.text.specs.Marks.{line_end}

-- the next result, where there is no fault yet
abbrev pub and_then : {X Y E : Type 0} → Result X E → (X → Result Y E) → Result Y E
and_then (Ok x) f = f x
and_then (Err e) f = Err e

-- a fault of a lower layer, held whole
abbrev pub within : {X E F : Type 0} → (E → F) → Result X E → Result X F
within f (Ok x) = Ok x
within f (Err e) = Err (f e)

-- a result, with its value seen through f
abbrev pub map_ok : {X Y E : Type 0} → (X → Y) → Result X E → Result Y E
map_ok f (Ok x) = Ok (f x)
map_ok f (Err e) = Err e

-- n lines one after another, of which the first has the number k: each is read with what those before it left
unfoldable pub each : {S E : Type 0} → (S → ℕ → List ℕ → Result S E) → ℕ → ℕ → List ℕ → S → Result S E
each f zero k text s = Ok s
each f (suc n) k text s = and_then (f s k text) (each f n (k + 1) (past line_end text))

-- what is left past n lines
unfoldable pub skip : ℕ → List ℕ → List ℕ
skip zero text = text
skip (suc n) text = skip n (past line_end text)
