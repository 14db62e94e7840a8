-- What the kinds of envelopes mean: the most bytes in any d ticks in a row. Assumes nothing.
use Rattle.std.specs.Prelude.{ℕ, ◌+◌, ◌-◌, ◌*◌, ◌/◌, cond, ◌==◌}

-- a burst at once, and num bytes for each den ticks, rounded down
abbrev pub bucket_bytes : ℕ → ℕ → ℕ → ℕ → ℕ
bucket_bytes burst num den d = cond (d == 0) 0 (burst + num * d / den)

-- n parts of size k, rounded up
abbrev pub ceiling : ℕ → ℕ → ℕ
ceiling n k = (n + (k - 1)) / k

-- a frame in each period that the span and the jitter reach into
abbrev pub periodic_bytes : ℕ → ℕ → ℕ → ℕ → ℕ
periodic_bytes bytes period jitter d = cond (d == 0) 0 (bytes * ceiling (d + jitter) period)
