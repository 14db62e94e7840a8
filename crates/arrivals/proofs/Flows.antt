-- The flows of a class, kind by kind. Assumes nothing.
use Rattle.std.proofs.Common.{◌≡◌, ℕ, ◌+◌, Bool, true, false, cond, ◌&&◌, eqb, List, [], ◌∷◌, length, sum_by, filter, sym, refl, ap, ◌∙◌, arith}
use Rattle.std.proofs.lemmas.List.{length-map}
use Rattle.std.proofs.lemmas.List.Folds.{fold-map}
use Rattle.std.proofs.lemmas.List.Sums.{sum_by-cons}
use Rattle.envelope.specs.declared.bucket.Bucket.{Bucket}
use Rattle.envelope.specs.declared.periodic.Periodic.{Periodic}
use Rattle.envelope.specs.Kinds.{bucket_bytes, periodic_bytes}
use Rattle.envelope.specs.Totals.{sum_at}
use Rattle.reader.specs.Contents.{Contents, FlowEntry, Flow, bucket, periodic}
use Rattle.reader.specs.Views.{kind_of}
use Rattle.plan.specs.Arranged.{flows_of, bucket_kind, periodic_kind, same_kind, of_kind}
use Rattle.plan.specs.ByClass.{bucket_entries, periodic_entries, bucket_entry, periodic_entry}
use Rattle.arrivals.specs.ClassAlpha.{flow_bytes, class_flows, class_alpha, kinds_alpha}

-- a flow counts as a bucket or as a periodic flow
one_kind : (b : Bool) (w : Flow) (n : ℕ) → cond b n 0 ≡ cond (b && same_kind bucket_kind (kind_of w)) n 0 + cond (b && same_kind periodic_kind (kind_of w)) n 0
one_kind true (bucket burst num den) n = omega arith
one_kind true (periodic size period jitter) n = omega arith
one_kind false (bucket burst num den) n = refl
one_kind false (periodic size period jitter) n = refl

-- the bytes in any d ticks
module _ (d : ℕ) where
  -- the bytes of a flow
  abbrev bytes : FlowEntry → ℕ
  bytes f = flow_bytes f.flow d

  -- buckets as flows
  bucket_sum : (c : ℕ) (bs : List Bucket) → sum_by bytes (bucket_entries c bs) ≡ sum_at (λ b d. bucket_bytes b.burst.0 b.num.0 b.den.0 d) bs d
  bucket_sum c bs = fold-map (λ a f. a + bytes f) (bucket_entry c) 0 bs

  -- periodic flows as flows
  periodic_sum : (c : ℕ) (ps : List Periodic) → sum_by bytes (periodic_entries c ps) ≡ sum_at (λ p d. periodic_bytes p.bytes.0 p.period.0 p.jitter.0 d) ps d
  periodic_sum c ps = fold-map (λ a f. a + bytes f) (periodic_entry c) 0 ps

-- any figure of flows
module _ (g : FlowEntry → ℕ) where
  -- one flow more among those that are kept
  kept_sum : (p : FlowEntry → Bool) (f : FlowEntry) (fs : List FlowEntry) → sum_by g (filter p (f ∷ fs)) ≡ cond (p f) (g f) 0 + sum_by g (filter p fs)
  kept_sum p f fs = let r = sum_by-cons g f (filter p fs) in elim (p f) as (λ b. sum_by g (cond b (f ∷ filter p fs) (filter p fs)) ≡ cond b (g f) 0 + sum_by g (filter p fs)) [ true ↦ r | false ↦ omega arith ]

  -- each flow of a class is of one kind or the other
  kinds_sum : (c : ℕ) (fs : List FlowEntry) → sum_by g (filter (λ f. eqb f.class c) fs) ≡ sum_by g (flows_of c bucket_kind fs) + sum_by g (flows_of c periodic_kind fs)
  unfolding flows_of
  kinds_sum c [] = refl
  kinds_sum c (f ∷ fs) =
      let r = kinds_sum c fs in
      let k = kept_sum (λ f. eqb f.class c) f fs in
      let b = kept_sum (of_kind c bucket_kind) f fs in
      let p = kept_sum (of_kind c periodic_kind) f fs in
      let o = one_kind (eqb f.class c) f.flow (g f) in
      omega arith

-- the flows of a class are its buckets and its periodic flows
pub all_kinds : (s : Contents) (c : ℕ) (bs : List Bucket) (ps : List Periodic) → bucket_entries c bs ≡ flows_of c bucket_kind s.flows → periodic_entries c ps ≡ flows_of c periodic_kind s.flows → (d : ℕ) → kinds_alpha bs ps d ≡ class_alpha s c d
unfolding class_alpha
all_kinds s c bs ps e f d =
    let b = sym (bucket_sum d c bs) ∙ ap (sum_by (bytes d)) e in
    let p = sym (periodic_sum d c ps) ∙ ap (sum_by (bytes d)) f in
    let k = kinds_sum (bytes d) c s.flows in
    omega arith

-- as many as each counts
ones : {X : Type 0} (xs : List X) → sum_by (λ _. 1) xs ≡ length xs
ones [] = refl
ones (x ∷ xs) = let e = sum_by-cons (λ _. 1) x xs in let r = ones xs in omega arith

-- a class has as many flow lines as buckets and periodic flows
pub all_counted : (s : Contents) (c : ℕ) (bs : List Bucket) (ps : List Periodic) → bucket_entries c bs ≡ flows_of c bucket_kind s.flows → periodic_entries c ps ≡ flows_of c periodic_kind s.flows → length bs + length ps ≡ length (class_flows s c)
all_counted s c bs ps e f =
    let k = kinds_sum (λ _. 1) c s.flows in
    let a = ones (class_flows s c) in
    let b = ones (flows_of c bucket_kind s.flows) in
    let p = ones (flows_of c periodic_kind s.flows) in
    let m = length-map bs (bucket_entry c) in
    let n = length-map ps (periodic_entry c) in
    omega (arith, ap length e, ap length f)
