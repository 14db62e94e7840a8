-- Each flow line that is written is read as the flow that it was written from.
use Rattle.std.proofs.Common.{◌≡◌, ℕ, zero, suc, ◌<◌, ◌≤◌, true, cond, ◌||◌, eqb, ltb, List, [], ◌∷◌, ◌++◌, Ok, refl, ap, ◌∙◌, ⊎_elim, arith}
use Rattle.std.specs.List.{AllByRecursion}
use Rattle.std.proofs.lemmas.Bool.{cases_lt, ne_eqb, cond-true, cond-false, lt-ltb, le-leb, and_from, or_left, or_right}
use Rattle.units.specs.Limits.{least_frame, most_frame, least_burst, most_burst, most_rate_ticks, most_period, most_jitter}
use Rattle.envelope.specs.Ranges.{BucketRange}
use Rattle.gates.specs.Sizes.{Sized}
use Rattle.text.specs.declared.keys.Key.TheVariants as key
use Rattle.text.specs.Cuts.{before, past, how_many}
use Rattle.text.proofs.Cutting.{count_cons}
use Rattle.reader.specs.declared.parsed.Place.{Place}
use Rattle.reader.specs.Entries.{kind_after, flow_line}
use Rattle.reader.specs.Fields.{numeral_field, number_field, kind_in, bucket_in, periodic_in, flow_in}
use Rattle.reader.specs.Contents.{Flow, bucket, periodic, FlowEntry, ClassEntry, largest_of}
use Rattle.reader.specs.Views.{kind_of}
use Rattle.writing.specs.Written.{field, flow_fields, flow_text, FlowRange, FlowFits}
use Rattle.writing.proofs.Lacking.{Lacks, before_join, past_join, numeral_field_lem, number_field_lem, field_before, field_past, field_lacks, field_counts}
use Rattle.writing.proofs.LinesForth.{then_goes, within_goes, next_line, due_line_lem, three, three_lack, three_count, second, third}

-- no class has a larger frame than there is
pub largest_most : (cs : List ClassEntry) → AllByRecursion (λ e. Sized e.largest e.depth) cs → (c : ℕ) → largest_of cs c ≤ most_frame
largest_most [] h c = omega arith
largest_most (e ∷ cs) h zero = h.0.most
largest_most (e ∷ cs) h (suc c) = largest_most cs h.1 c

-- a letter that is a field of its own
module _ (x : ℕ) (fs : List ℕ) (h : x ≡ 44 → ⊥) where
  letter_counts : how_many 44 (x ∷ 44 ∷ fs) ≡ suc (how_many 44 fs)
  letter_counts =
      let a = count_cons 44 x (44 ∷ fs) in
      let b = count_cons 44 44 fs in
      let s : cond {A = ℕ} (eqb x 44) 1 0 ≡ 0 = cond-false _ _ _ (ne_eqb x 44 h) in
      let t : cond {A = ℕ} (eqb 44 44) 1 0 ≡ 1 = refl in
      omega arith

  letter_before : before 44 (x ∷ 44 ∷ fs) ≡ x ∷ []
  letter_before = before_join 44 (x ∷ []) fs (h, tt)

  letter_past : past 44 (x ∷ 44 ∷ fs) ≡ fs
  letter_past = past_join 44 (x ∷ []) fs (h, tt)

-- the numbers of a bucket, each in its range
module _ (burst num den : ℕ) (r : BucketRange burst num den) where
  a_small : burst < 10000000
  a_small = omega (arith, r.burst_high)

  n_small : num < 10000000
  n_small = omega (arith, r.num_high, r.den_high)

  t_small : den < 10000000
  t_small = omega (arith, r.den_high)

  bucket_in_lem : (k : ℕ) → bucket_in k (three burst num den) ≡ Ok (bucket burst num den)
  unfolding bucket_in
  bucket_in_lem k =
      then_goes _ (ap (number_field k least_burst most_burst) (field_before burst a_small _) ∙ number_field_lem burst a_small k least_burst most_burst r.burst_low r.burst_high)
      (then_goes _ (ap (numeral_field k) (second burst num den a_small n_small t_small) ∙ numeral_field_lem num n_small k)
      (then_goes _ (ap (number_field k 1 most_rate_ticks) (third burst num den a_small n_small t_small) ∙ number_field_lem den t_small k 1 most_rate_ticks r.den_low r.den_high)
      (cond-true _ _ _ (le-leb num den r.num_high))))

-- the numbers of a periodic flow, each in its range
module _ (m bytes period jitter : ℕ) (most : m ≤ most_frame) (r : FlowRange m (periodic bytes period jitter)) where
  b_small : bytes < 10000000
  b_small = omega (arith, r.1)

  p_small : period < 10000000
  p_small = omega (arith, r.3)

  j_small : jitter < 10000000
  j_small = omega (arith, r.4)

  periodic_in_lem : (k : ℕ) → periodic_in k m (three bytes period jitter) ≡ Ok (periodic bytes period jitter)
  unfolding periodic_in
  periodic_in_lem k =
      then_goes _ (ap (number_field k least_frame m) (field_before bytes b_small _) ∙ number_field_lem bytes b_small k least_frame m r.0 r.1)
      (then_goes _ (ap (number_field k 1 most_period) (second bytes period jitter b_small p_small j_small) ∙ number_field_lem period p_small k 1 most_period r.2 r.3)
      (then_goes _ (ap (number_field k 0 most_jitter) (third bytes period jitter b_small p_small j_small) ∙ number_field_lem jitter j_small k 0 most_jitter (omega arith) r.4) refl))

-- the fields of a flow of either kind
flow_lacks : (m : ℕ) (x : Flow) → m ≤ most_frame → FlowRange m x → Lacks 10 (flow_fields x)
flow_lacks m (bucket a n d) h r = ((λ e. omega arith), ((λ e. omega arith), three_lack a n d (a_small a n d r) (n_small a n d r) (t_small a n d r)))
flow_lacks m (periodic b p j) h r = ((λ e. omega arith), ((λ e. omega arith), three_lack b p j (b_small m b p j h r) (p_small m b p j h r) (j_small m b p j h r)))

flow_counts : (m : ℕ) (x : Flow) → m ≤ most_frame → FlowRange m x → how_many 44 (flow_fields x) ≡ 3
flow_counts m (bucket a n d) h r = letter_counts 98 (three a n d) (λ e. omega arith) ∙ ap suc (three_count a n d (a_small a n d r) (n_small a n d r) (t_small a n d r))
flow_counts m (periodic b p j) h r = letter_counts 112 (three b p j) (λ e. omega arith) ∙ ap suc (three_count b p j (b_small m b p j h r) (p_small m b p j h r) (j_small m b p j h r))

kind_in_lem : (k : ℕ) (x : Flow) → kind_in k (before 44 (flow_fields x)) ≡ Ok (kind_of x)
kind_in_lem k (bucket a n d) = ap (kind_in k) (letter_before 98 (three a n d) (λ e. omega arith))
kind_in_lem k (periodic b p j) = ap (kind_in k) (letter_before 112 (three b p j) (λ e. omega arith))

flow_in_lem : (k m : ℕ) (x : Flow) → m ≤ most_frame → FlowRange m x → flow_in k (kind_of x) m (past 44 (flow_fields x)) ≡ Ok x
flow_in_lem k m (bucket a n d) h r = ap (bucket_in k) (letter_past 98 (three a n d) (λ e. omega arith)) ∙ bucket_in_lem a n d r k
flow_in_lem k m (periodic b p j) h r = ap (periodic_in k m) (letter_past 112 (three b p j) (λ e. omega arith)) ∙ periodic_in_lem m b p j h r k

-- a flow line that may follow one at the place p is read as its flow
module _ (cs : List ClassEntry) (p : Place) (f : FlowEntry) (rest : List ℕ) (h : p.class ≤ 7) (most : largest_of cs f.class ≤ most_frame) (fit : FlowFits cs p f) where
  pub flow_class : f.class ≤ 7
  flow_class = omega (arith, fit.falls)

  abbrev fields : List ℕ
  fields = field f.class (flow_fields f.flow)

  c_small : f.class < 10000000
  c_small = omega (arith, flow_class)

  lacks : Lacks 10 fields
  lacks = field_lacks _ c_small _ (flow_lacks _ f.flow most fit.numbers)

  counts : how_many 44 fields ≡ 4
  counts = field_counts _ c_small _ ∙ ap suc (flow_counts _ f.flow most fit.numbers)

  pub flow_past : past 10 (flow_text f ++ rest) ≡ rest
  flow_past = next_line key.Flow fields rest lacks

  after : (ltb f.class p.class || kind_after p.kind (kind_of f.flow)) ≡ true
  after =
      ⊎_elim
      (λ (l : f.class < p.class). or_left _ _ (lt-ltb _ _ l))
      (λ (l : p.class ≤ f.class). or_right _ _ (fit.kinds (omega (arith, fit.falls))))
      (cases_lt f.class p.class)

  pub flow_line_lem : (k : ℕ) → flow_line k cs p (flow_text f ++ rest) ≡ Ok f
  unfolding flow_line
  flow_line_lem k =
      let e = field_past f.class c_small (flow_fields f.flow) in
      then_goes _ (within_goes _ (due_line_lem key.Flow fields rest lacks k 4 counts))
      (then_goes _ (within_goes _ (ap (number_field k 0 7) (field_before _ c_small _) ∙ number_field_lem _ c_small k 0 7 (omega arith) flow_class))
      (cond-true _ _ _ (and_from _ _ (le-leb _ _ fit.falls) (lt-ltb 0 _ fit.sends))
      ∙ then_goes _ (within_goes _ (ap (λ l. kind_in k (before 44 l)) e ∙ kind_in_lem k f.flow))
      (cond-true _ _ _ after
      ∙ then_goes _ (within_goes _ (ap (λ l. flow_in k (kind_of f.flow) (largest_of cs f.class) (past 44 l)) e ∙ flow_in_lem k _ f.flow most fit.numbers)) refl)))
