-- What the list of classes says. Assumes nothing.
use Rattle.std.specs.Prelude.{◌≡◌, ℕ, ◌-◌, List, [], ◌∷◌, ◌++◌, map, reverse, vec_items}
use Rattle.envelope.specs.declared.bucket.Bucket.{Bucket}
use Rattle.envelope.specs.declared.periodic.Periodic.{Periodic}
use Rattle.gates.specs.declared.traffic_class.TrafficClass.{TrafficClass}
use Rattle.reader.specs.Contents.{FlowEntry}
use Rattle.reader.specs.Views.{bucket_of, periodic_of}
use Rattle.plan.specs.Arranged.{flows_of, bucket_kind, periodic_kind}
use Rattle.plan.specs.declared.class_plan.ClassPlan.{ClassPlan}

-- a bucket as a flow of the class c
abbrev pub bucket_entry : ℕ → Bucket → FlowEntry
bucket_entry c b = record { class = c; flow = bucket_of b }

-- a periodic flow as a flow of the class c
abbrev pub periodic_entry : ℕ → Periodic → FlowEntry
periodic_entry c p = record { class = c; flow = periodic_of p }

-- buckets as flows of the class c
abbrev pub bucket_entries : ℕ → List Bucket → List FlowEntry
bucket_entries c bs = map (bucket_entry c) bs

-- periodic flows as flows of the class c
abbrev pub periodic_entries : ℕ → List Periodic → List FlowEntry
periodic_entries c ps = map (periodic_entry c) ps

-- the flows of the class c, as they stand in a plan text
abbrev pub entries_in : ℕ → ClassPlan → List FlowEntry
entries_in c k = bucket_entries c (vec_items k.buckets) ++ periodic_entries c (vec_items k.periodics)

-- the flows of the classes from c down
abbrev pub entries_down : ℕ → List ClassPlan → List FlowEntry
entries_down c [] = []
entries_down c (k ∷ ks) = entries_in c k ++ entries_down (c - 1) ks

-- the sizes of the classes from class 0 up
abbrev pub sizes_up : List ClassPlan → List TrafficClass
sizes_up ks = reverse (map (λ k. k.sizes) ks)

-- the buckets and periodic flows of the class c among some flows, each in the order in which they stand
pub record Held (c : ℕ) (bs : List Bucket) (ps : List Periodic) (fs : List FlowEntry) : Type 0 where
  pub buckets : bucket_entries c bs ≡ flows_of c bucket_kind fs
  pub periodics : periodic_entries c ps ≡ flows_of c periodic_kind fs
