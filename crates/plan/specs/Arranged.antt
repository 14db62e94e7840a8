-- The flows of a plan by class and kind, and the shut plan. Assumes nothing.
use Rattle.std.specs.Prelude.{ℕ, zero, suc, Bool, true, false, ◌&&◌, List, [], ◌∷◌, ◌++◌, replicate, filter, ◌==◌, slice_index_or}
use Rattle.units.specs.Limits.{classes}
use Rattle.gates.specs.Opened.{shut_line}
use Rattle.reader.specs.declared.parsed.Kind.{Kind}
use Rattle.reader.specs.declared.parsed.Kind.TheVariants.{Bucket, Periodic}
use Rattle.reader.specs.Contents.{Contents, FlowEntry, ClassEntry}
use Rattle.reader.specs.Views.{kind_of}

-- the kind of buckets, for clauses where Bucket is the struct
abbrev pub bucket_kind : Kind
bucket_kind = Bucket

-- the kind of periodic flows
abbrev pub periodic_kind : Kind
periodic_kind = Periodic

-- whether two kinds are the same
abbrev pub same_kind : Kind → Kind → Bool
same_kind Bucket Bucket = true
same_kind Bucket Periodic = false
same_kind Periodic Bucket = false
same_kind Periodic Periodic = true

-- whether a flow is of the class c and the kind
abbrev pub of_kind : ℕ → Kind → FlowEntry → Bool
of_kind c kind f = f.class == c && same_kind kind (kind_of f.flow)

-- the flows of a class and a kind, in the order in which they stand
unfoldable pub flows_of : ℕ → Kind → List FlowEntry → List FlowEntry
flows_of c kind fs = filter (of_kind c kind) fs

-- the flows of the n lowest classes, the higher classes first, and in each class buckets first
unfoldable pub groups : ℕ → List FlowEntry → List FlowEntry
groups zero fs = []
groups (suc c) fs = (flows_of c Bucket fs ++ flows_of c Periodic fs) ++ groups c fs

-- a plan with its flows so put
abbrev pub arranged : Contents → Contents
arranged s = record { port = s.port; cycle = s.cycle; gates = s.gates; classes = s.classes; flows = groups classes s.flows }

-- a class that sends nothing
abbrev pub silent : ClassEntry
silent = record { largest = 0; depth = 0 }

-- the sizes of the class c
abbrev pub class_of : Contents → ℕ → ClassEntry
class_of s c = slice_index_or s.classes c silent

-- the plan before any is read: port 1, one tick with every class shut, nothing that sends
abbrev pub shut_contents : Contents
shut_contents = record { port = 1; cycle = 1; gates = shut_line ∷ []; classes = replicate classes silent; flows = [] }
