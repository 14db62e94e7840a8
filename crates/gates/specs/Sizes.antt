-- The sizes that a traffic class may have, and how long a frame takes. Assumes nothing.
use Rattle.std.specs.Prelude.{◌≡◌, ℕ, ◌≤◌}
use Rattle.units.specs.Limits.{least_frame, most_frame, most_depth}

-- a largest frame, 0 for a class that sends nothing, and the room for unsent bytes
pub record Sized (largest depth : ℕ) : Type 0 where
  pub most : largest ≤ most_frame
  pub least : 1 ≤ largest → least_frame ≤ largest
  pub room : largest ≤ depth
  pub deep : depth ≤ most_depth
  pub silent : largest ≡ 0 → depth ≡ 0

-- more ticks than any frame holds the wire for
abbrev pub hold_limit : ℕ
hold_limit = 65535

-- the ticks for which a frame of n bytes holds the wire
unfoldable pub hold : ℕ → ℕ
hold n = n
