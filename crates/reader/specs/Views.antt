-- What the values that the reader makes say, in plain numbers. Assumes nothing.
use Rattle.std.specs.Prelude.{◌≤◌}
use Rattle.units.specs.Limits.{most_cycle}
use Rattle.gates.specs.declared.gate_line.GateLine.{GateLine}
use Rattle.envelope.specs.declared.bucket.Bucket.{Bucket}
use Rattle.envelope.specs.declared.periodic.Periodic.{Periodic}
use Rattle.gates.specs.declared.traffic_class.TrafficClass.{TrafficClass}
use Rattle.reader.specs.declared.parsed.Flow.TheVariants as code
use Rattle.reader.specs.declared.parsed.Flow.{Flow as CodeFlow}
use Rattle.reader.specs.declared.parsed.FlowLine.{FlowLine}
use Rattle.reader.specs.declared.parsed.Kind.{Kind}
use Rattle.reader.specs.declared.parsed.Kind.TheVariants as kind
use Rattle.reader.specs.declared.parsed.Place.{Place}
use Rattle.reader.specs.Contents.{Flow, bucket, periodic, FlowEntry, ClassEntry}

-- the numbers of a bucket
abbrev pub bucket_of : Bucket → Flow
bucket_of b = bucket b.burst.0 b.num.0 b.den.0

-- the numbers of a periodic flow
abbrev pub periodic_of : Periodic → Flow
periodic_of p = periodic p.bytes.0 p.period.0 p.jitter.0

-- the numbers of a flow
abbrev pub flow_of : CodeFlow → Flow
flow_of (code.Bucket b) = bucket_of b
flow_of (code.Periodic p) = periodic_of p

-- the class and the numbers of a flow line
abbrev pub entry_of : FlowLine → FlowEntry
entry_of f = record { class = f.class; flow = flow_of f.flow }

-- the kind of a flow
abbrev pub kind_of : Flow → Kind
kind_of (bucket burst num den) = kind.Bucket
kind_of (periodic bytes period jitter) = kind.Periodic

-- the place of a flow in the order of flow lines
abbrev pub entry_place : FlowEntry → Place
entry_place f = record { class = f.class; kind = kind_of f.flow }

-- the same of a flow line
abbrev pub place_of : FlowLine → Place
place_of f = entry_place (entry_of f)

-- the sizes of a class
abbrev pub sizes_of : TrafficClass → ClassEntry
sizes_of t = record { largest = t.largest.0; depth = t.depth.0 }

-- a gate line with a length that a line may have
abbrev pub LengthFits : GateLine → Type 0
LengthFits g = (1 ≤ g.length.0) × (g.length.0 ≤ most_cycle)
