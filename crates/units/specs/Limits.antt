-- The limits of a plan, by name. Assumes nothing.
use Rattle.std.specs.Prelude.{ℕ}

-- the classes of a port are 0 to 7, and class 7 has the highest priority
abbrev pub classes : ℕ
classes = 8

-- the most bytes of a plan text
abbrev pub most_text : ℕ
most_text = 8192

-- the highest number of a port
abbrev pub most_port : ℕ
most_port = 65535

-- the most lines of a gate list
abbrev pub most_lines : ℕ
most_lines = 64

-- the most slots of a class
abbrev pub most_slots : ℕ
most_slots = 32

-- the most ticks of a cycle
abbrev pub most_cycle : ℕ
most_cycle = 500000

-- the fewest bytes of a frame
abbrev pub least_frame : ℕ
least_frame = 64

-- the most bytes of a frame
abbrev pub most_frame : ℕ
most_frame = 1522

-- the most unsent bytes of a class
abbrev pub most_depth : ℕ
most_depth = 16384

-- the most flows of a plan
abbrev pub most_flows : ℕ
most_flows = 64

-- the smallest burst of a bucket, in bytes
abbrev pub least_burst : ℕ
least_burst = 64

-- the largest burst of a bucket, in bytes
abbrev pub most_burst : ℕ
most_burst = 1000000

-- the most ticks in which a bucket earns the bytes of its rate
abbrev pub most_rate_ticks : ℕ
most_rate_ticks = 1000000

-- the longest period of a periodic flow, in ticks
abbrev pub most_period : ℕ
most_period = 4000000

-- the largest jitter of a periodic flow, in ticks
abbrev pub most_jitter : ℕ
most_jitter = 4000000

-- the most ticks that a curve is asked about
abbrev pub most_span : ℕ
most_span = 4000000

-- the reach of the flows of a plan, in ticks
abbrev pub flow_reach : ℕ
flow_reach = 40000000

-- the most bytes that a load tells: 2^40
abbrev pub most_load : ℕ
most_load = 1099511627776
