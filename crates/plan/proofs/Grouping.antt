-- The flows of a plan by class: how the lists are filled, and what each of them holds.
use Rattle.std.proofs.Common.{◌≡◌, ℕ, zero, suc, ◌+◌, ◌-◌, ◌<◌, ◌≤◌, true, false, ◌&&◌, eqb, List, [], ◌∷◌, ◌++◌, map, reverse, length, get_or, take, drop, vec_items, filter, sym, refl, ap, ◌∙◌, ⊎_elim, arith}
use Rattle.std.proofs.lemmas.List.Elements.{filter-append}
use Rattle.std.proofs.lemmas.List.{append_assoc, append-nil, map-append, reverse-append, get_or-reverse, get_or-map, length-map, length-reverse, take_more}
use Rattle.std.proofs.Math.Seq.{drop-cons}
use Rattle.std.proofs.lemmas.Bool.{cases_lt, eq-eqb, ne_eqb, and_left, cond-true, cond-false}
use Rattle.envelope.specs.declared.bucket.Bucket.{Bucket}
use Rattle.envelope.specs.declared.periodic.Periodic.{Periodic}
use Rattle.gates.specs.declared.traffic_class.TrafficClass.{TrafficClass}
use Rattle.reader.specs.declared.parsed.Flow.TheVariants as code
use Rattle.reader.specs.declared.parsed.FlowLine.{FlowLine}
use Rattle.reader.specs.declared.parsed.Kind.{Kind}
use Rattle.reader.specs.declared.parsed.Kind.TheVariants as kind
use Rattle.reader.specs.Contents.{FlowEntry}
use Rattle.reader.specs.Views.{flow_of, entry_of, sizes_of}
use Rattle.plan.specs.declared.class_plan.ClassPlan.{ClassPlan}
use Rattle.plan.specs.Arranged.{of_kind, flows_of, groups, silent}
use Rattle.plan.specs.ByClass.{bucket_entry, periodic_entry, bucket_entries, periodic_entries, entries_in, entries_down, sizes_up, Held}

-- one line more of a loop over the flow lines
module _ (c : ℕ) (k : Kind) (ls : List FlowLine) (i : ℕ) (l : FlowLine) (h : i < length ls) (at : l ≡ get_or ls i l) where
  -- the flow lines up to one more
  lines_more : map entry_of (take (i + 1) ls) ≡ map entry_of (take i ls) ++ entry_of l ∷ []
  lines_more = ap (map entry_of) (take_more ls i l h ∙ ap (λ x. take i ls ++ x ∷ []) (sym at)) ∙ map-append entry_of (take i ls) (l ∷ [])

  -- what that line adds to the flows of a class and kind
  flows_split : flows_of c k (map entry_of (take (i + 1) ls)) ≡ flows_of c k (map entry_of (take i ls)) ++ filter (of_kind c k) (entry_of l ∷ [])
  unfolding flows_of
  flows_split = ap (filter (of_kind c k)) lines_more ∙ filter-append (of_kind c k) (map entry_of (take i ls)) (entry_of l ∷ [])

  -- itself, where it is of that class and kind
  pub flows_take : of_kind c k (entry_of l) ≡ true → flows_of c k (map entry_of (take (i + 1) ls)) ≡ flows_of c k (map entry_of (take i ls)) ++ entry_of l ∷ []
  flows_take e = flows_split ∙ ap (λ xs. flows_of c k (map entry_of (take i ls)) ++ xs) (cond-true (of_kind c k (entry_of l)) (entry_of l ∷ []) [] e)

  -- nothing, where it is not
  pub flows_pass : of_kind c k (entry_of l) ≡ false → flows_of c k (map entry_of (take (i + 1) ls)) ≡ flows_of c k (map entry_of (take i ls))
  flows_pass e = flows_split ∙ ap (λ xs. flows_of c k (map entry_of (take i ls)) ++ xs) (cond-false (of_kind c k (entry_of l)) (entry_of l ∷ []) [] e) ∙ append-nil _

-- before the first line
pub held_none : (c : ℕ) (bs : List Bucket) (ps : List Periodic) → bs ≡ [] → ps ≡ [] → Held c bs ps []
unfolding flows_of
held_none c bs ps b p = record { buckets = ap (bucket_entries c) b; periodics = ap (periodic_entries c) p }

-- the same lists under other names
pub held_same : (c : ℕ) (bs cs : List Bucket) (ps qs : List Periodic) (es : List FlowEntry) → cs ≡ bs → qs ≡ ps → Held c bs ps es → Held c cs qs es
held_same c bs cs ps qs es b p h = record { buckets = ap (bucket_entries c) b ∙ h.buckets; periodics = ap (periodic_entries c) p ∙ h.periodics }

-- a flow of the class itself, of its kind and of the other one
here : (c : ℕ) → (eqb c c && true) ≡ true
here c = ap (λ b. b && true) (eq-eqb c c refl)

-- and not of the other kind
other_kind : (c : ℕ) → (eqb c c && false) ≡ false
other_kind c = ap (λ b. b && false) (eq-eqb c c refl)

-- a flow of another class does not pass
pub other_class : (c : ℕ) (k : Kind) (f : FlowEntry) → (f.class ≡ c → ⊥) → of_kind c k f ≡ false
other_class c k f h = and_left _ _ (ne_eqb f.class c h)

module _ (c : ℕ) (ls : List FlowLine) (i : ℕ) (l : FlowLine) (h : i < length ls) (at : l ≡ get_or ls i l) (bs : List Bucket) (ps : List Periodic) (held : Held c bs ps (map entry_of (take i ls))) where
  -- a bucket of the class
  pub bucket_more : (b : Bucket) → l.class ≡ c → l.flow ≡ code.Bucket b → Held c (bs ++ b ∷ []) ps (map entry_of (take (i + 1) ls))
  bucket_more b of is =
      let entry : entry_of l ≡ bucket_entry c b = (λ j. record { class = of j; flow = flow_of (is j) }) in
      record {
        buckets = map-append (bucket_entry c) bs (b ∷ []) ∙ (λ j. held.buckets j ++ sym entry j ∷ []) ∙ sym (flows_take c kind.Bucket ls i l h at (ap (of_kind c kind.Bucket) entry ∙ here c));
        periodics = held.periodics ∙ sym (flows_pass c kind.Periodic ls i l h at (ap (of_kind c kind.Periodic) entry ∙ other_kind c));
      }

  -- a periodic flow of the class
  pub periodic_more : (p : Periodic) → l.class ≡ c → l.flow ≡ code.Periodic p → Held c bs (ps ++ p ∷ []) (map entry_of (take (i + 1) ls))
  periodic_more p of is =
      let entry : entry_of l ≡ periodic_entry c p = (λ j. record { class = of j; flow = flow_of (is j) }) in
      record {
        buckets = held.buckets ∙ sym (flows_pass c kind.Bucket ls i l h at (ap (of_kind c kind.Bucket) entry ∙ other_kind c));
        periodics = map-append (periodic_entry c) ps (p ∷ []) ∙ (λ j. held.periodics j ++ sym entry j ∷ []) ∙ sym (flows_take c kind.Periodic ls i l h at (ap (of_kind c kind.Periodic) entry ∙ here c));
      }

  -- a flow of another class
  pub other_more : (l.class ≡ c → ⊥) → Held c bs ps (map entry_of (take (i + 1) ls))
  other_more ne = record {
    buckets = held.buckets ∙ sym (flows_pass c kind.Bucket ls i l h at (other_class c kind.Bucket (entry_of l) ne));
    periodics = held.periodics ∙ sym (flows_pass c kind.Periodic ls i l h at (other_class c kind.Periodic (entry_of l) ne));
  }

-- one class more: it stands behind those above it
entries_push : (c : ℕ) (fs : List ClassPlan) (f : ClassPlan) → entries_down c (fs ++ f ∷ []) ≡ entries_down c fs ++ entries_in (c - length fs) f
entries_push c [] f = append-nil (entries_in c f) ∙ ap (λ d. entries_in d f) (omega arith)
entries_push c (g ∷ fs) f =
    let d : c - 1 - length fs ≡ c - suc (length fs) = omega arith in
    ap (λ xs. entries_in c g ++ xs) (entries_push (c - 1) fs f ∙ ap (λ e. entries_down (c - 1) fs ++ entries_in e f) d)
    ∙ sym (append_assoc (entries_in c g) (entries_down (c - 1) fs) (entries_in (c - suc (length fs)) f))

-- a loop down the classes, of which m are left: one class more
pub groups_more : (c m : ℕ) (es : List FlowEntry) (fs : List ClassPlan) (f : ClassPlan) → m ≡ suc c → length fs + m ≡ 8 → Held c (vec_items f.buckets) (vec_items f.periodics) es →
    entries_down 7 (fs ++ f ∷ []) ++ groups c es ≡ entries_down 7 fs ++ groups m es
unfolding groups
groups_more c m es fs f s n held =
    let d : 7 - length fs ≡ c = omega arith in
    ap (λ xs. xs ++ groups c es) (entries_push 7 fs f ∙ ap (λ e. entries_down 7 fs ++ entries_in e f) d)
    ∙ append_assoc (entries_down 7 fs) (entries_in c f) (groups c es)
    ∙ ap (λ xs. entries_down 7 fs ++ xs) ((λ j. (held.buckets j ++ held.periodics j) ++ groups c es) ∙ ap (λ m. groups m es) (sym s))

-- and its sizes before theirs
pub sizes_more : (n : ℕ) (ks : List ClassPlan) (k : ClassPlan) (ts : List TrafficClass) → 0 < n → n ≤ length ts → k.sizes ≡ get_or ts (n - 1) k.sizes → sizes_up ks ≡ drop n ts → sizes_up (ks ++ k ∷ []) ≡ drop (n - 1) ts
sizes_more n ks k ts some there is h =
    let s : n ≡ suc (n - 1) = omega arith in
    ap reverse (map-append (λ (j : ClassPlan). j.sizes) ks (k ∷ []))
    ∙ reverse-append (map (λ (j : ClassPlan). j.sizes) ks) (k.sizes ∷ [])
    ∙ (λ i. is i ∷ (h ∙ ap (λ i. drop i ts) s) i)
    ∙ sym (drop-cons ts (n - 1) k.sizes (omega arith))

-- no class left
pub groups_end : (m : ℕ) (es xs : List FlowEntry) → m ≡ 0 → xs ++ groups m es ≡ groups 8 es → xs ≡ groups 8 es
unfolding groups
groups_end m es xs z e = sym (append-nil xs) ∙ ap (λ m. xs ++ groups m es) (sym z) ∙ e

-- a list of the class c, by kind
module _ (c : ℕ) where
  -- buckets are buckets
  buckets_pass : (bs : List Bucket) → flows_of c kind.Bucket (bucket_entries c bs) ≡ bucket_entries c bs
  unfolding flows_of
  buckets_pass [] = refl
  buckets_pass (b ∷ bs) = cond-true _ _ _ (here c) ∙ ap (λ xs. bucket_entry c b ∷ xs) (buckets_pass bs)

  -- and no periodic flows
  buckets_fail : (bs : List Bucket) → flows_of c kind.Periodic (bucket_entries c bs) ≡ []
  unfolding flows_of
  buckets_fail [] = refl
  buckets_fail (b ∷ bs) = cond-false _ _ _ (other_kind c) ∙ buckets_fail bs

  -- periodic flows are periodic
  periodics_pass : (ps : List Periodic) → flows_of c kind.Periodic (periodic_entries c ps) ≡ periodic_entries c ps
  unfolding flows_of
  periodics_pass [] = refl
  periodics_pass (p ∷ ps) = cond-true _ _ _ (here c) ∙ ap (λ xs. periodic_entry c p ∷ xs) (periodics_pass ps)

  -- and no buckets
  periodics_fail : (ps : List Periodic) → flows_of c kind.Bucket (periodic_entries c ps) ≡ []
  unfolding flows_of
  periodics_fail [] = refl
  periodics_fail (p ∷ ps) = cond-false _ _ _ (other_kind c) ∙ periodics_fail ps

-- flows behind others
flows_append : (c : ℕ) (k : Kind) (xs ys : List FlowEntry) → flows_of c k (xs ++ ys) ≡ flows_of c k xs ++ flows_of c k ys
unfolding flows_of
flows_append c k xs ys = filter-append (of_kind c k) xs ys

-- a list of another class holds none of the class c
module _ (c d : ℕ) (k : Kind) (ne : d ≡ c → ⊥) where
  -- buckets of another class
  buckets_other : (bs : List Bucket) → flows_of c k (bucket_entries d bs) ≡ []
  unfolding flows_of
  buckets_other [] = refl
  buckets_other (b ∷ bs) = cond-false _ _ _ (other_class c k (bucket_entry d b) ne) ∙ buckets_other bs

  -- periodic flows of another class
  periodics_other : (ps : List Periodic) → flows_of c k (periodic_entries d ps) ≡ []
  unfolding flows_of
  periodics_other [] = refl
  periodics_other (p ∷ ps) = cond-false _ _ _ (other_class c k (periodic_entry d p) ne) ∙ periodics_other ps

  -- all flows of another class
  entries_other : (f : ClassPlan) → flows_of c k (entries_in d f) ≡ []
  entries_other f = flows_append c k (bucket_entries d (vec_items f.buckets)) (periodic_entries d (vec_items f.periodics)) ∙ (λ i. buckets_other (vec_items f.buckets) i ++ periodics_other (vec_items f.periodics) i)

-- all flows of lower classes
entries_below : (c d : ℕ) (k : Kind) (fs : List ClassPlan) → d < c → flows_of c k (entries_down d fs) ≡ []
unfolding flows_of
entries_below c d k [] h = refl
entries_below c d k (f ∷ fs) h =
    flows_append c k (entries_in d f) (entries_down (d - 1) fs)
    ∙ (λ i. entries_other c d k (λ e. omega arith) f i ++ entries_below c (d - 1) k fs (omega arith) i)

-- the flows of a kind in the list of the class c are those that the list of all classes has
abbrev in_class : ℕ → Kind → ClassPlan → List FlowEntry
in_class c kind.Bucket f = bucket_entries c (vec_items f.buckets)
in_class c kind.Periodic f = periodic_entries c (vec_items f.periodics)

-- the flows of a kind among those of the class
own_entries : (c : ℕ) (k : Kind) (f : ClassPlan) → flows_of c k (entries_in c f) ≡ in_class c k f
own_entries c kind.Bucket f =
    flows_append c kind.Bucket (bucket_entries c (vec_items f.buckets)) (periodic_entries c (vec_items f.periodics))
    ∙ (λ i. buckets_pass c (vec_items f.buckets) i ++ periodics_fail c (vec_items f.periodics) i) ∙ append-nil _
own_entries c kind.Periodic f =
    flows_append c kind.Periodic (bucket_entries c (vec_items f.buckets)) (periodic_entries c (vec_items f.periodics))
    ∙ (λ i. buckets_fail c (vec_items f.buckets) i ++ periodics_pass c (vec_items f.periodics) i)

-- the lists behind that of the class c hold none of it
rest_none : (k : Kind) (c : ℕ) (fs : List ClassPlan) → length fs ≡ c → flows_of c k (entries_down (c - 1) fs) ≡ []
unfolding flows_of
rest_none k c [] n = refl
rest_none k c (f ∷ fs) n = entries_below c (c - 1) k (f ∷ fs) (omega arith)

-- the list at the place of the class c holds its flows, and all of them
class_entries : (k : Kind) (c d : ℕ) (fs : List ClassPlan) (f : ClassPlan) → c ≤ d → length fs ≡ suc d → f ≡ get_or fs (d - c) f → in_class c k f ≡ flows_of c k (entries_down d fs)
class_entries k c d [] f le n at = absurd (omega arith)
class_entries k c d (g ∷ fs) f le n at =
    ⊎_elim
    (λ (h : c < d).
    let s : d - c ≡ suc (d - 1 - c) = omega arith in
    let m : length fs ≡ suc (d - 1) = omega arith in
    class_entries k c (d - 1) fs f (omega arith) m (at ∙ ap (λ i. get_or (g ∷ fs) i f) s)
    ∙ sym (flows_append c k (entries_in d g) (entries_down (d - 1) fs) ∙ ap (λ xs. xs ++ flows_of c k (entries_down (d - 1) fs)) (entries_other c d k (λ e. omega arith) g)))
    (λ (h : d ≤ c).
    let e : c ≡ d = omega arith in
    let s : d - c ≡ 0 = omega arith in
    let same : f ≡ g = at ∙ ap (λ i. get_or (g ∷ fs) i f) s in
    let m : length fs ≡ c = omega arith in
    ap (in_class c k) same
    ∙ sym (flows_append c k (entries_in c g) (entries_down (c - 1) fs) ∙ (λ i. own_entries c k g i ++ rest_none k c fs m i) ∙ append-nil (in_class c k g))
    ∙ ap (λ j. flows_of c k (entries_down j (g ∷ fs))) e)
    (cases_lt c d)

-- so both lists there hold what the class has
pub held_at : (c : ℕ) (fs : List ClassPlan) (f : ClassPlan) → c ≤ 7 → length fs ≡ 8 → f ≡ get_or fs (7 - c) f → Held c (vec_items f.buckets) (vec_items f.periodics) (entries_down 7 fs)
held_at c fs f le n at = record { buckets = class_entries kind.Bucket c 7 fs f le n at; periodics = class_entries kind.Periodic c 7 fs f le n at }

-- the sizes of the class c
sizes_at : (ts : List TrafficClass) (c : ℕ) (t : TrafficClass) → c < length ts → t ≡ get_or ts c t → sizes_of t ≡ get_or (map sizes_of ts) c silent
sizes_at [] c t h e = absurd (omega arith)
sizes_at (x ∷ ts) zero t h e = ap sizes_of e
sizes_at (x ∷ ts) (suc c) t h e = sizes_at ts c t (omega arith) e

-- the place of the class c holds its sizes
pub class_sizes : (ks : List ClassPlan) (c : ℕ) (k : ClassPlan) → length ks ≡ 8 → c ≤ 7 → k ≡ get_or ks (7 - c) k → sizes_of k.sizes ≡ get_or (map sizes_of (sizes_up ks)) c silent
class_sizes ks c k eight low is =
    let ts = map (λ (j : ClassPlan). j.sizes) ks in
    let n : length ts ≡ length ks = length-map ks (λ (j : ClassPlan). j.sizes) in
    let m : length (reverse ts) ≡ length ts = length-reverse ts in
    let d : length ts - 1 - c ≡ 7 - c = omega arith in
    sizes_at (reverse ts) c k.sizes (omega arith)
    (ap (λ (j : ClassPlan). j.sizes) is ∙ sym (get_or-map (λ (j : ClassPlan). j.sizes) ks (7 - c) k k.sizes (omega arith)) ∙ ap (λ i. get_or ts i k.sizes) (sym d) ∙ sym (get_or-reverse ts c k.sizes (omega arith)))
