-- What an envelope answers. Assumes nothing.
use Rattle.std.specs.Prelude.{ℕ, ◌+◌, cond, Option, Some, None, Ok, Err, Result, nat_le}
use Rattle.units.specs.Limits.{most_load}
use Rattle.units.specs.declared.amounts.Bytes.{Bytes}
use Rattle.units.specs.declared.refusal.Refusal.{Refusal}
use Rattle.units.specs.declared.refusal.Refusal.TheVariants.{BeyondReach}

-- n bytes, or none where they are more than are told
abbrev pub load : ℕ → Option Bytes
load n = cond (nat_le n most_load) (Some (record { 0 = n })) None

-- two loads together
abbrev pub together : Option Bytes → Option Bytes → Option Bytes
together (Some a) (Some b) = load (a.0 + b.0)
together (Some a) None = None
together None (Some b) = None
together None None = None

-- what is answered at a span: one beyond the reach is refused
abbrev pub answer : ℕ → (ℕ → ℕ) → ℕ → Result (Option Bytes) Refusal
answer reach alpha span = cond (nat_le span reach) (Ok (load (alpha span))) (Err BeyondReach)
