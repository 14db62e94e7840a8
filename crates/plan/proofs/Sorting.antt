-- Flows that stand in order are their own arrangement by class and kind.
use Rattle.std.proofs.Common.{◌≡◌, ℕ, zero, suc, ◌<◌, ◌≤◌, true, false, eqb, List, [], ◌∷◌, ◌++◌, filter, sym, refl, ap, ◌∙◌, subst, ⊎_elim, arith}
use Rattle.std.specs.List.{AllByRecursion}
use Rattle.std.proofs.lemmas.Bool.{cases_lt, eq-eqb, and_from, and_right, cond-true, cond-false}
use Rattle.reader.specs.declared.parsed.Kind.{Kind}
use Rattle.reader.specs.declared.parsed.Kind.TheVariants as kind
use Rattle.reader.specs.declared.parsed.Place.{Place}
use Rattle.reader.specs.Entries.{kind_after}
use Rattle.reader.specs.Contents.{Flow, bucket, periodic, FlowEntry, ClassEntry}
use Rattle.reader.specs.Views.{kind_of, entry_place}
use Rattle.writing.specs.Written.{FlowFits, Ordered}
use Rattle.plan.specs.Arranged.{same_kind, of_kind, flows_of, groups}
use Rattle.plan.proofs.Grouping.{other_class}

-- no flow has a higher class than the place before it
falls_all : (cs : List ClassEntry) (p : Place) (n : ℕ) (fs : List FlowEntry) → p.class ≤ n → Ordered cs p fs → AllByRecursion (λ f. f.class ≤ n) fs
falls_all cs p n [] h o = tt
falls_all cs p n (f ∷ fs) h o = let le = o.0.falls in let below : f.class ≤ n = omega arith in (below, falls_all cs (entry_place f) n fs below o.1)

-- lower classes have no flow of the class c
below_none : (c : ℕ) (k : Kind) (fs : List FlowEntry) (n : ℕ) → n < c → AllByRecursion (λ f. f.class ≤ n) fs → flows_of c k fs ≡ []
unfolding flows_of
below_none c k [] n h all = refl
below_none c k (f ∷ fs) n h all = let le = all.0 in cond-false _ _ _ (other_class c k f (λ e. omega arith)) ∙ below_none c k fs n h all.1

-- after a periodic flow there is no bucket of its class
after_periodic : (x : Flow) → kind_after kind.Periodic (kind_of x) ≡ true → kind_of x ≡ kind.Periodic
after_periodic (bucket burst num den) e = let z : ◌≡◌ {A = ℕ} 0 1 = cc in absurd (omega arith)
after_periodic (periodic bytes period jitter) e = refl

-- the place of a periodic flow
abbrev periodic_place : ℕ → Place
periodic_place c = record { class = c; kind = kind.Periodic }

-- no bucket of the class follows
no_bucket : (cs : List ClassEntry) (c : ℕ) (fs : List FlowEntry) → Ordered cs (periodic_place c) fs → flows_of c kind.Bucket fs ≡ []
unfolding flows_of
no_bucket cs c [] o = refl
no_bucket cs c (f ∷ fs) o =
    ⊎_elim
    (λ (h : f.class < c). below_none c kind.Bucket (f ∷ fs) f.class h (omega arith, falls_all cs (entry_place f) f.class fs (omega arith) o.1))
    (λ (h : c ≤ f.class).
    let le = o.0.falls in
    let e : f.class ≡ c = omega arith in
    let k = after_periodic f.flow (o.0.kinds e) in
    cond-false _ _ _ (and_right (eqb f.class c) (same_kind kind.Bucket (kind_of f.flow)) (ap (same_kind kind.Bucket) k))
    ∙ no_bucket cs c fs (subst (λ p. Ordered cs p fs) (λ i. record { class = e i; kind = k i }) o.1))
    (cases_lt f.class c)

-- a flow of a class that is not below n
skip_class : (n : ℕ) (f : FlowEntry) (fs : List FlowEntry) → n ≤ f.class → groups n (f ∷ fs) ≡ groups n fs
unfolding groups flows_of
skip_class zero f fs h = refl
skip_class (suc n) f fs h =
    (λ i. (cond-false (of_kind n kind.Bucket f) (f ∷ filter (of_kind n kind.Bucket) fs) (filter (of_kind n kind.Bucket) fs) (other_class n kind.Bucket f (λ e. omega arith)) i
    ++ cond-false (of_kind n kind.Periodic f) (f ∷ filter (of_kind n kind.Periodic) fs) (filter (of_kind n kind.Periodic) fs) (other_class n kind.Periodic f (λ e. omega arith)) i)
    ++ skip_class n f fs (omega arith) i)

-- nothing is arranged as nothing
pub groups_nil : (n : ℕ) → groups n [] ≡ []
unfolding groups flows_of
groups_nil zero = refl
groups_nil (suc n) = groups_nil n

-- a flow may follow itself
self_after : (k : Kind) → kind_after k k ≡ true
self_after kind.Bucket = refl
self_after kind.Periodic = refl

-- so an order may begin with its first flow
follows_self : (cs : List ClassEntry) (p : Place) (f : FlowEntry) → FlowFits cs p f → FlowFits cs (entry_place f) f
follows_self cs p f h = record { falls = omega arith; sends = h.sends; kinds = λ e. self_after (kind_of f.flow); numbers = h.numbers }

-- a kind is its own
same_self : (k : Kind) → same_kind k k ≡ true
same_self kind.Bucket = refl
same_self kind.Periodic = refl

module _ (n : ℕ) (f : FlowEntry) (j : Kind) (c : f.class ≡ n) (e : kind_of f.flow ≡ j) where
  -- a flow of the class and kind
  passes : of_kind n j f ≡ true
  passes = and_from _ _ (eq-eqb f.class n c) (ap (same_kind j) e ∙ same_self j)

  -- a flow of the class and another kind
  fails : (k : Kind) → same_kind k j ≡ false → of_kind n k f ≡ false
  fails k h = and_right (eqb f.class n) (same_kind k (kind_of f.flow)) (ap (same_kind k) e ∙ h)

-- the first flow is of the highest class: it comes first in the arrangement too
first_flow : (cs : List ClassEntry) (n : ℕ) (f : FlowEntry) (fs : List FlowEntry) (k : Kind) → f.class ≡ n → kind_of f.flow ≡ k → Ordered cs (entry_place f) fs → groups (suc n) fs ≡ fs → groups (suc n) (f ∷ fs) ≡ f ∷ fs
unfolding groups flows_of
first_flow cs n f fs kind.Bucket c e o r =
    (λ i. (cond-true (of_kind n kind.Bucket f) (f ∷ filter (of_kind n kind.Bucket) fs) (filter (of_kind n kind.Bucket) fs) (passes n f kind.Bucket c e) i
    ++ cond-false (of_kind n kind.Periodic f) (f ∷ filter (of_kind n kind.Periodic) fs) (filter (of_kind n kind.Periodic) fs) (fails n f kind.Bucket c e kind.Periodic refl) i)
    ++ skip_class n f fs (omega arith) i)
    ∙ ap (λ xs. f ∷ xs) r
first_flow cs n f fs kind.Periodic c e o r =
    let none = no_bucket cs n fs (subst (λ p. Ordered cs p fs) (λ i. record { class = c i; kind = e i }) o) in
    (λ i. (cond-false (of_kind n kind.Bucket f) (f ∷ filter (of_kind n kind.Bucket) fs) (filter (of_kind n kind.Bucket) fs) (fails n f kind.Periodic c e kind.Bucket refl) i
    ++ cond-true (of_kind n kind.Periodic f) (f ∷ filter (of_kind n kind.Periodic) fs) (filter (of_kind n kind.Periodic) fs) (passes n f kind.Periodic c e) i)
    ++ skip_class n f fs (omega arith) i)
    ∙ ap (λ xs. (xs ++ (f ∷ flows_of n kind.Periodic fs)) ++ groups n fs) none
    ∙ ap (λ xs. f ∷ xs) (ap (λ xs. (xs ++ flows_of n kind.Periodic fs) ++ groups n fs) (sym none) ∙ r)

-- one class more
groups_step : (n : ℕ) → ((cs : List ClassEntry) (p : Place) (fs : List FlowEntry) → p.class < n → Ordered cs p fs → groups n fs ≡ fs) →
    (cs : List ClassEntry) (p : Place) (fs : List FlowEntry) → p.class ≤ n → Ordered cs p fs → groups (suc n) fs ≡ fs
unfolding groups
groups_step n lower cs p [] h o = groups_nil (suc n)
groups_step n lower cs p (f ∷ fs) h o =
    let le = o.0.falls in
    ⊎_elim
    (λ (l : f.class < n).
    let all : AllByRecursion (λ g. g.class ≤ f.class) (f ∷ fs) = (omega arith, falls_all cs (entry_place f) f.class fs (omega arith) o.1) in
    (λ i. (below_none n kind.Bucket (f ∷ fs) f.class l all i ++ below_none n kind.Periodic (f ∷ fs) f.class l all i) ++ groups n (f ∷ fs))
    ∙ lower cs (entry_place f) (f ∷ fs) l (follows_self cs p f o.0, o.1))
    (λ (l : n ≤ f.class).
    let e : f.class ≡ n = omega arith in
    first_flow cs n f fs (kind_of f.flow) e refl o.1 (groups_step n lower cs (entry_place f) fs (omega arith) o.1))
    (cases_lt f.class n)

-- flows in order are their own arrangement
pub groups_all : (n : ℕ) (cs : List ClassEntry) (p : Place) (fs : List FlowEntry) → p.class < n → Ordered cs p fs → groups n fs ≡ fs
groups_all zero cs p fs h o = absurd (omega arith)
groups_all (suc n) cs p fs h o = groups_step n (groups_all n) cs p fs (omega arith) o
