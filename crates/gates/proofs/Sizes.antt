-- How long a frame can hold the wire. Assumes nothing.
use Rattle.std.proofs.Common.{ℕ, ◌≤◌, arith}
use Rattle.units.specs.Limits.{most_frame}
use Rattle.gates.specs.Sizes.{hold, hold_limit}

-- no frame holds it for long
pub hold_most : (n : ℕ) → n ≤ most_frame → hold n ≤ hold_limit
unfolding hold
hold_most n h = omega arith
