-- From a flow line that is read back to its text, and to a flow that may follow the one before it.
use Rattle.std.proofs.Common.{◌≡◌, ℕ, true, false, ◌&&◌, ◌||◌, eqb, ltb, leb, List, [], ◌∷◌, ◌++◌, Ok, sym, refl, ap, ◌∙◌, subst, ⊎_elim, arith}
use Rattle.std.proofs.lemmas.Bool.{cases_Bool, eqb-true, leb-true, ltb-true, cond-true, cond-false, and_parts, or_cases}
use Rattle.units.specs.Limits.{least_frame, least_burst, most_burst, most_rate_ticks, most_period, most_jitter}
use Rattle.faults.specs.declared.fault.PlanFault.TheVariants.{Line}
use Rattle.text.specs.declared.keys.Key.TheVariants as key
use Rattle.text.specs.Cuts.{before, past, how_many}
use Rattle.reader.specs.declared.parsed.Kind.{Kind}
use Rattle.reader.specs.declared.parsed.Kind.TheVariants.{Bucket, Periodic}
use Rattle.reader.specs.declared.parsed.Place.{Place}
use Rattle.reader.specs.Chain.{within}
use Rattle.reader.specs.Contents.{Flow, FlowEntry, ClassEntry, largest_of}
use Rattle.reader.specs.Views.{kind_of}
use Rattle.reader.specs.Fields.{numeral_field, number_field, kind_in, bucket_in, periodic_in, flow_in}
use Rattle.reader.specs.Entries.{due_line, in_field, kind_after, flow_line}
use Rattle.writing.specs.Written.{line_of, field, flow_fields, flow_text, FlowRange, FlowFits}
use Rattle.writing.proofs.Inversions.{ok_ok, err_ok, then_ok, within_ok, cond_ok, numeral_field_back, cut}
use Rattle.writing.proofs.LinesBack.{due_back, field_back, last_back}

-- the letter of a kind, and the numbers of a flow of that kind
abbrev kind_letter : Kind → ℕ
kind_letter Bucket = 98
kind_letter Periodic = 112

kind_back : (k : ℕ) (xs : List ℕ) (t : Kind) → kind_in k xs ≡ Ok t → xs ≡ kind_letter t ∷ []
kind_back k [] t e = absurd (err_ok e)
kind_back k (x ∷ []) t e =
    ⊎_elim
    (λ (h : eqb x 98 ≡ true). ap (λ y. y ∷ []) (eqb-true x 98 h) ∙ ap (λ u. kind_letter u ∷ []) (ok_ok (sym (cond-true _ _ _ h) ∙ e)))
    (λ (h : eqb x 98 ≡ false).
    let p = cond_ok (eqb x 112) (Ok Periodic) _ t (sym (cond-false _ _ _ h) ∙ e) in
    ap (λ y. y ∷ []) (eqb-true x 112 p.0) ∙ ap (λ u. kind_letter u ∷ []) (ok_ok p.1))
    (cases_Bool (eqb x 98))
kind_back k (x ∷ y ∷ xs) t e = absurd (err_ok e)

-- a flow f of the kind t is written by v, in a class with the largest frame m
abbrev FlowBy : Kind → ℕ → List ℕ → Flow → Type 0
FlowBy t m v f = (kind_letter t ∷ 44 ∷ v ≡ flow_fields f) × (kind_of f ≡ t) × FlowRange m f

bucket_back : (k m : ℕ) (v : List ℕ) (f : Flow) → how_many 44 v ≡ 2 → bucket_in k v ≡ Ok f → FlowBy Bucket m v f
unfolding bucket_in
bucket_back k m v f h e =
    let p = then_ok (number_field k least_burst most_burst (before 44 v)) _ f e in
    let q = then_ok (numeral_field k (before 44 (past 44 v))) _ f p.2 in
    let r = then_ok (number_field k 1 most_rate_ticks (before 44 (past 44 (past 44 v)))) _ f q.2 in
    let s = cond_ok (leb q.0 r.0) _ _ f r.2 in
    let a = field_back k least_burst most_burst p.0 v p.1 1 h in
    let b = cut (past 44 v) 0 a.1 in
    let n = numeral_field_back k q.0 (before 44 (past 44 v)) q.1 in
    let c = last_back k 1 most_rate_ticks r.0 (past 44 (past 44 v)) r.1 b.1 in
    subst (FlowBy Bucket m v) (ok_ok s.1) (
      ap (λ x. 98 ∷ 44 ∷ x) (a.0 ∙ ap (field p.0) (b.0 ∙ (λ i. n i ++ (44 ∷ c.0 i)))),
      refl,
      record { burst_low = a.2; burst_high = a.3; den_low = c.1; den_high = c.2; num_high = leb-true q.0 r.0 s.0 },
    )

periodic_back : (k m : ℕ) (v : List ℕ) (f : Flow) → how_many 44 v ≡ 2 → periodic_in k m v ≡ Ok f → FlowBy Periodic m v f
unfolding periodic_in
periodic_back k m v f h e =
    let p = then_ok (number_field k least_frame m (before 44 v)) _ f e in
    let q = then_ok (number_field k 1 most_period (before 44 (past 44 v))) _ f p.2 in
    let r = then_ok (number_field k 0 most_jitter (before 44 (past 44 (past 44 v)))) _ f q.2 in
    let a = field_back k least_frame m p.0 v p.1 1 h in
    let b = field_back k 1 most_period q.0 (past 44 v) q.1 0 a.1 in
    let c = last_back k 0 most_jitter r.0 (past 44 (past 44 v)) r.1 b.1 in
    subst (FlowBy Periodic m v) (ok_ok r.2)
    (ap (λ x. 112 ∷ 44 ∷ x) (a.0 ∙ ap (field p.0) (b.0 ∙ ap (field q.0) c.0)), refl, (a.2, a.3, b.2, b.3, c.2))

flow_in_back : (k : ℕ) (t : Kind) (m : ℕ) (v : List ℕ) (f : Flow) → how_many 44 v ≡ 2 → flow_in k t m v ≡ Ok f → FlowBy t m v f
flow_in_back k Bucket m v f h e = bucket_back k m v f h e
flow_in_back k Periodic m v f h e = periodic_back k m v f h e

-- a flow line is that of a flow that may follow the one before it
pub flow_line_back : (k : ℕ) (cs : List ClassEntry) (prior : Place) (text : List ℕ) (f : FlowEntry) → flow_line k cs prior text ≡ Ok f →
    (text ≡ flow_text f ++ past 10 text) × FlowFits cs prior f
unfolding flow_line
flow_line_back k cs prior text f e =
    let p = then_ok (within Line (due_line k key.Flow 4 text)) _ f e in
    let v = p.0 in
    let d = due_back k key.Flow 4 text v (within_ok Line _ v p.1) in
    let q = then_ok (in_field (number_field k 0 7 (before 44 v))) _ f p.2 in
    let c = q.0 in
    let b = field_back k 0 7 c v (within_ok _ _ c q.1) 3 d.1 in
    let g = cond_ok (leb c prior.class && ltb 0 (largest_of cs c)) _ _ f q.2 in
    let may = and_parts (leb c prior.class) (ltb 0 (largest_of cs c)) g.0 in
    let r = then_ok (in_field (kind_in k (before 44 (past 44 v)))) _ f g.1 in
    let t = r.0 in
    let letter_is = kind_back k (before 44 (past 44 v)) t (within_ok _ _ t r.1) in
    let a = cut (past 44 v) 2 b.1 in
    let o = cond_ok (ltb c prior.class || kind_after prior.kind t) _ _ f r.2 in
    let z = then_ok (in_field (flow_in k t (largest_of cs c) (past 44 (past 44 v)))) _ f o.1 in
    let w = flow_in_back k t (largest_of cs c) (past 44 (past 44 v)) z.0 a.1 (within_ok _ _ z.0 z.1) in
    let order : c ≡ prior.class → kind_after prior.kind t ≡ true = λ same.
    ⊎_elim
    (λ (h : ltb c prior.class ≡ true). let l = ltb-true c prior.class h in absurd (omega arith))
    (λ (h : kind_after prior.kind t ≡ true). h)
    (or_cases (ltb c prior.class) (kind_after prior.kind t) o.0) in
    let fields = b.0 ∙ ap (field c) (a.0 ∙ ap (λ x. x ++ (44 ∷ past 44 (past 44 v))) letter_is ∙ w.0) in
    let said : FlowEntry → Type 0 = λ x. (text ≡ flow_text x ++ past 10 text) × FlowFits cs prior x in
    subst said (ok_ok z.2) (
      d.0 ∙ ap (λ x. line_of key.Flow x ++ past 10 text) fields,
      record { falls = leb-true c prior.class may.0; sends = ltb-true 0 (largest_of cs c) may.1; kinds = λ same. ap (kind_after prior.kind) w.1 ∙ order same; numbers = w.2 },
    )
