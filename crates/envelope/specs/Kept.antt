-- That each kind of envelope keeps the laws. These proofs stand in specs/, for the ghost member `laws` of an impl may cite nothing
-- that stands in the proofs/ of its own crate. Assumes nothing.
use Rattle.std.specs.Prelude.{◌≡◌, ℕ, ◌+◌, ◌-◌, ◌*◌, ◌/◌, ◌<◌, ◌≤◌, min, cond, List, [], ◌∷◌, fold, ◌==◌, refl}
use Rattle.std.proofs.Common.{◌∙◌, add-le-add, div-mul-le_self, mul-le-mul_left, arith}
use Rattle.std.proofs.lemmas.List.Sums.{sum_by-cons, sum_by-le-sum_by}
use Rattle.std.proofs.lemmas.Nat.{le-div}
use Rattle.std.proofs.lemmas.Bool.Decides.{nat_tests}
use Rattle.units.specs.Limits.{most_span, flow_reach}
use Rattle.envelope.specs.Kinds.{bucket_bytes, ceiling, periodic_bytes}
use Rattle.envelope.specs.Laws.{EnvelopeLaws}
use Rattle.envelope.specs.Totals.{sum_at, least_reach}

-- envelopes of one kind
module _ {X : Type 0} {alpha : X → ℕ → ℕ} {reach : X → ℕ} (laws : EnvelopeLaws alpha reach) where
  -- together they allow nothing in no ticks
  starts_all : (xs : List X) → sum_at alpha xs 0 ≡ 0
  starts_all [] = refl
  starts_all (x ∷ xs) =
      let e = laws.starts x in
      let t = starts_all xs in
      sum_by-cons (λ y. alpha y 0) x xs ∙ omega arith

  -- and never less in more
  rises_all : (xs : List X) (i j : ℕ) → i ≤ j → sum_at alpha xs i ≤ sum_at alpha xs j
  rises_all xs i j h = sum_by-le-sum_by (λ y. alpha y i) (λ y. alpha y j) xs (λ y. laws.rises y i j h)

  -- their least reach is far
  far_from : (a : ℕ) → most_span ≤ a → (xs : List X) → most_span ≤ fold (λ b x. min b (reach x)) a xs
  far_from a h [] = h
  far_from a h (x ∷ xs) = far_from (min a (reach x)) (let e = laws.far x in omega arith) xs

  -- so the total of a row is an envelope
  pub all_laws : {Y : Type 0} (row : Y → List X) → EnvelopeLaws (λ (s : Y). sum_at alpha (row s)) (λ s. least_reach reach (row s))
  all_laws row = record {
    starts = λ s. starts_all (row s);
    rises = λ s i j h. rises_all (row s) i j h;
    far = λ s. far_from flow_reach (omega arith) (row s);
  }

-- a quotient rises with what is divided
div_rises : (i j k : ℕ) → 0 < k → i ≤ j → i / k ≤ j / k
div_rises i j k pos h = le-div (i / k) j k pos (omega (arith, div-mul-le_self i k))

-- a curve that is 0 at 0 and elsewhere f rises where f does
rises_from_0 : (f : ℕ → ℕ) → ((i j : ℕ) → i ≤ j → f i ≤ f j) → (i j : ℕ) → i ≤ j → cond (i == 0) 0 (f i) ≤ cond (j == 0) 0 (f j)
rises_from_0 f up i j h = let u = up i j h in grind (arith, nat_tests)

-- a bucket never falls
bucket_rises : (burst num den i j : ℕ) → 1 ≤ den → i ≤ j → bucket_bytes burst num den i ≤ bucket_bytes burst num den j
bucket_rises burst num den i j pos h =
    rises_from_0 (λ d. burst + num * d / den)
    (λ a b le. let q = div_rises (num * a) (num * b) den (omega arith) (mul-le-mul_left num le) in omega arith)
    i j h

-- nor does a periodic flow
periodic_rises : (bytes period jitter i j : ℕ) → 1 ≤ period → i ≤ j → periodic_bytes bytes period jitter i ≤ periodic_bytes bytes period jitter j
periodic_rises bytes period jitter i j pos h =
    rises_from_0 (λ d. bytes * ceiling (d + jitter) period)
    (λ a b le. mul-le-mul_left bytes (div_rises (a + jitter + (period - 1)) (b + jitter + (period - 1)) period (omega arith) (omega arith)))
    i j h

-- so a bucket is an envelope, whatever holds its numbers
pub bucket_laws : {Y : Type 0} (burst num den : Y → ℕ) → ((s : Y) → 1 ≤ den s) → EnvelopeLaws (λ (s : Y) d. bucket_bytes (burst s) (num s) (den s) d) (λ _. flow_reach)
bucket_laws burst num den pos = record {
  starts = λ s. refl;
  rises = λ s i j h. bucket_rises (burst s) (num s) (den s) i j (pos s) h;
  far = λ s. omega arith;
}

-- and a periodic flow
pub periodic_laws : {Y : Type 0} (bytes period jitter : Y → ℕ) → ((s : Y) → 1 ≤ period s) → EnvelopeLaws (λ (s : Y) d. periodic_bytes (bytes s) (period s) (jitter s) d) (λ _. flow_reach)
periodic_laws bytes period jitter pos = record {
  starts = λ s. refl;
  rises = λ s i j h. periodic_rises (bytes s) (period s) (jitter s) i j (pos s) h;
  far = λ s. omega arith;
}

-- and two envelopes together
pub sum_laws : {X Z Y : Type 0} {f : X → ℕ → ℕ} {r : X → ℕ} {g : Z → ℕ → ℕ} {q : Z → ℕ} → EnvelopeLaws f r → EnvelopeLaws g q → (first : Y → X) (second : Y → Z) → EnvelopeLaws (λ (s : Y) d. f (first s) d + g (second s) d) (λ s. min (r (first s)) (q (second s)))
sum_laws a b first second = record {
  starts = λ s. let x = a.starts (first s) in let y = b.starts (second s) in omega arith;
  rises = λ s i j h. add-le-add (a.rises (first s) i j h) (b.rises (second s) i j h);
  far = λ s. let x = a.far (first s) in let y = b.far (second s) in omega arith;
}
