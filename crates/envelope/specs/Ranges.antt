-- The numbers that a flow may have. Assumes nothing.
use Rattle.std.specs.Prelude.{ℕ, ◌≤◌}
use Rattle.units.specs.Limits.{least_burst, most_burst, most_rate_ticks, least_frame, most_frame, most_period, most_jitter}

-- a burst of bytes, and num bytes for each den ticks, at most a byte a tick
pub record BucketRange (burst num den : ℕ) : Type 0 where
  pub burst_low : least_burst ≤ burst
  pub burst_high : burst ≤ most_burst
  pub den_low : 1 ≤ den
  pub den_high : den ≤ most_rate_ticks
  pub num_high : num ≤ den

-- a frame of so many bytes in each period of ticks, and the ticks that it may be late or early
pub record PeriodicRange (bytes period jitter : ℕ) : Type 0 where
  pub bytes_low : least_frame ≤ bytes
  pub bytes_high : bytes ≤ most_frame
  pub period_low : 1 ≤ period
  pub period_high : period ≤ most_period
  pub jitter_high : jitter ≤ most_jitter
