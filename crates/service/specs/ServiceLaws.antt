-- The laws of a service, over whatever holds its cycle, slots and block. Assumes nothing.
use Rattle.std.specs.Prelude.{ℕ, ◌<◌, List}
use Rattle.supply.specs.Laws.{SupplyLaws}
use Rattle.sure_ticks.specs.declared.slot.Slot.{Slot}
use Rattle.curve.proofs.Least.{above_none, above_rises, above_slow}
use Rattle.service.specs.Served.{served_by}

-- what is served is 0 at 0, never falls, and rises by at most 1 at a tick
pub service_laws : {X : Type 0} (cycle : X → ℕ) (slots : X → List Slot) (block : X → ℕ) → ((s : X) → 0 < cycle s) → SupplyLaws (λ s. served_by (cycle s) (slots s) (block s))
service_laws cycle slots block some =
    record {
      none = λ s. above_none (cycle s) (some s) (slots s) (block s);
      rises = λ s. above_rises (cycle s) (some s) (slots s) (block s);
      slow = λ s. above_slow (cycle s) (some s) (slots s) (block s);
    }
