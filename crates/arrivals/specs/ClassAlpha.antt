-- The envelope of a class of a plan: all its flow lines together. Assumes nothing.
use Rattle.std.specs.Prelude.{ℕ, ◌+◌, List, sum_by, filter, nat_eq}
use Rattle.envelope.specs.declared.bucket.Bucket.{Bucket}
use Rattle.envelope.specs.declared.periodic.Periodic.{Periodic}
use Rattle.envelope.specs.Kinds.{bucket_bytes, periodic_bytes}
use Rattle.envelope.specs.Totals.{sum_at}
use Rattle.reader.specs.Contents.{Contents, Flow, FlowEntry, bucket, periodic}

-- the most bytes of a flow in any d ticks
abbrev pub flow_bytes : Flow → ℕ → ℕ
flow_bytes (bucket burst num den) d = bucket_bytes burst num den d
flow_bytes (periodic bytes period jitter) d = periodic_bytes bytes period jitter d

-- the flow lines of the class c
abbrev pub class_flows : Contents → ℕ → List FlowEntry
class_flows s c = filter (λ f. nat_eq f.class c) s.flows

-- the most bytes of the class c in any d ticks: those of each of its flow lines, added
unfoldable pub class_alpha : Contents → ℕ → ℕ → ℕ
class_alpha s c d = sum_by (λ f. flow_bytes f.flow d) (class_flows s c)

-- the same of buckets and periodic flows
abbrev pub kinds_alpha : List Bucket → List Periodic → ℕ → ℕ
kinds_alpha bs ps d = sum_at (λ b d. bucket_bytes b.burst.0 b.num.0 b.den.0 d) bs d + sum_at (λ p d. periodic_bytes p.bytes.0 p.period.0 p.jitter.0 d) ps d
