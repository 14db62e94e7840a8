-- The laws of an envelope. Assumes nothing.
use Rattle.std.specs.Prelude.{◌≡◌, ℕ, ◌≤◌}
use Rattle.units.specs.Limits.{most_span}

-- an envelope allows nothing in no ticks and never less in more ticks, and may be asked about any span that a curve may
pub record EnvelopeLaws {X : Type 0} (alpha : X → ℕ → ℕ) (reach : X → ℕ) : Type 0 where
  pub starts : (s : X) → alpha s 0 ≡ 0
  pub rises : (s : X) (i j : ℕ) → i ≤ j → alpha s i ≤ alpha s j
  pub far : (s : X) → most_span ≤ reach s
