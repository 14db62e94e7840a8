-- A curve over whole cycles, and the least span at which it has enough. Assumes nothing.
use Rattle.std.proofs.Common.{◌≡◌, ℕ, ◌+◌, ◌-◌, ◌*◌, ◌/◌, ◌%◌, ◌<◌, ◌≤◌, List, sym, ap, ◌∙◌, subst, inl, inr, mod-lt, mul-le-mul_left, div-add-mod', arith}
use Rattle.std.proofs.lemmas.Bool.{cases_lt}
use Rattle.units.specs.Limits.{most_span}
use Rattle.supply.specs.Laws.{LeastSpan, NoSpan}
use Rattle.sure_ticks.specs.declared.slot.Slot.{Slot}
use Rattle.sure_ticks.specs.Sure.{lengths}
use Rattle.sure_ticks.specs.Laws.{Apart}
use Rattle.curve.specs.Curve.{least_covered}
use Rattle.curve.specs.Laws.{FirstSpan}
use Rattle.curve.proofs.Least.{least_none, least_mono, least_most, least_cycles, first_span_is}
use Rattle.service.specs.Served.{served_by}

module _ (L : ℕ) (pos : 0 < L) (ss : List Slot) (v : Apart L ss) where
  -- whole cycles and the rest of a window
  pub whole_rest : (n : ℕ) → least_covered L ss n ≡ n / L * lengths ss + least_covered L ss (n % L)
  whole_rest n = sym (ap (least_covered L ss) (div-add-mod' n L)) ∙ least_cycles L pos ss v (n / L) (n % L)

  -- the first span with enough is at most a cycle, if a cycle has enough
  first_most : (y f : ℕ) → y ≤ lengths ss → FirstSpan L ss y f → f ≤ L
  first_most y f le h =
      let c = least_cycles L pos ss v 1 0 in
      let z = least_none L pos ss in
      let e : 1 * L + 0 ≡ L = omega arith in
      let g = ap (least_covered L ss) e in
      h.1 L (omega arith)

  -- whole cycles before a first span
  first_whole : (q y f : ℕ) → 0 < y → FirstSpan L ss y f → FirstSpan L ss (q * lengths ss + y) (q * L + f)
  first_whole q y f some h =
      let z = least_none L pos ss in
      let i : 0 < f = elim (cases_lt 0 f) [ inl l ↦ l | inr g ↦ absurd (let e : f ≡ 0 = omega arith in let w = ap (least_covered L ss) e in omega (arith, h.0)) ] in
      let low : least_covered L ss (f - 1) < y = elim (cases_lt (least_covered L ss (f - 1)) y) [ inl l ↦ l | inr g ↦ absurd (let m = h.1 (f - 1) g in omega arith) ] in
      let e : f - 1 + 1 ≡ f = omega arith in
      let high : y ≤ least_covered L ss (f - 1 + 1) = omega (arith, h.0, ap (least_covered L ss) e) in
      let r = first_span_is L pos ss v q (f - 1) y low high in
      let k : q * L + (f - 1 + 1) ≡ q * L + f = omega arith in
      (omega (arith, r.0, ap (least_covered L ss) k), λ x g. let m = r.1 x g in omega arith)

  -- Of n ticks the first span is told by whole cycles and the rest: as many cycles as come before the last tick of the n
  pub first_split : (n S f : ℕ) → S ≡ lengths ss → 0 < S → 0 < n → FirstSpan L ss (n - (n - 1) / S * S) f → FirstSpan L ss n ((n - 1) / S * L + f) × ((n - 1) / S ≤ n) × (f ≤ L)
  first_split n S f whole pos-s some h =
      let q : ℕ = (n - 1) / S in
      let d = div-add-mod' (n - 1) S in
      let m : (n - 1) % S < S = mod-lt (n - 1) pos-s in
      let big : q * 1 ≤ q * S = mul-le-mul_left q pos-s in
      let w : q * S ≡ q * lengths ss = ap (λ v. q * v) whole in
      let r = first_whole q (n - q * S) f (omega arith) h in
      let e : q * lengths ss + (n - q * S) ≡ n = omega arith in
      (subst (λ v. FirstSpan L ss v (q * L + f)) e r, omega arith, first_most (n - q * S) f (omega arith) h)

  -- no sure tick, no bytes
  pub nothing_served : (block y : ℕ) → lengths ss ≡ 0 → 0 < y → NoSpan (served_by L ss block) y
  nothing_served block y none some x le =
      let big : x * 1 ≤ x * L = mul-le-mul_left x pos in
      let c = least_cycles L pos ss v x 0 in
      let z = least_none L pos ss in
      let m = least_mono L pos ss x (x * L - x) in
      let e : x + (x * L - x) ≡ x * L + 0 = omega arith in
      let g = ap (least_covered L ss) e in
      let w : x * lengths ss ≡ x * 0 = ap (λ n. x * n) none in
      omega arith

  -- no more bytes than ticks
  pub too_many : (block y : ℕ) → most_span < y → NoSpan (served_by L ss block) y
  too_many block y big x le = let m = least_most L pos ss x in omega arith

  -- a number of bytes, and the first span that has them and the block in sure ticks
  module _ (block y r : ℕ) (some : 0 < y) (h : FirstSpan L ss (y + block) r) where
    -- no shorter span has the bytes
    none_shorter : (x : ℕ) → y ≤ served_by L ss block x → r ≤ x
    none_shorter x g = h.1 x (omega arith)

    -- it may be asked about
    pub span_is : r ≤ most_span → LeastSpan (served_by L ss block) y r
    span_is le = (le, omega (arith, h.0), none_shorter)

    -- it may not
    pub span_none : most_span < r → NoSpan (served_by L ss block) y
    span_none far x le =
        elim (cases_lt (served_by L ss block x) y) [
          | inl l ↦ l
          | inr g ↦ absurd (let m = none_shorter x g in omega arith)
        ]
