-- The delay and the held bytes are what they are said to mean. Assumes nothing.
use Rattle.std.proofs.Common.{◌≡◌, ℕ, suc, ◌+◌, ◌-◌, ◌<◌, ◌≤◌, leb, ap, arith}
use Rattle.std.proofs.lemmas.Bool.{leb-true, leb-false, le-leb}
use Rattle.units.specs.Limits.{most_span}
use Rattle.calculus.specs.Searches.{first, greatest}
use Rattle.calculus.proofs.Bounded.{greatest_at, greatest_one}
use Rattle.calculus.proofs.First.{first_from, first_before, first_passes, first_le}
use Rattle.bound.specs.Bounds.{closing, span_for, delay_at, held_at, delay, held}
use Rattle.bound.specs.Means.{IsLeast, IsGreatest, Waits, Unsent, Means, BoundsMean}
use Rattle.bound.proofs.Curves.{Curves, rises_all, filled, ahead}

-- two numbers that are the least are one
least_unique : (P : ℕ → Type 0) (low high c d : ℕ) → IsLeast P low high c → IsLeast P low high d → c ≡ d
least_unique P low high c d a b =
    let p = λ (lt : c < d). b.before c a.from lt a.holds in
    let q = λ (lt : d < c). a.before d b.from lt b.holds in
    grind arith

-- the first number at which g has as much as f, as a relation
first_least : (f g : ℕ → ℕ) (from n high : ℕ) → from + n ≡ suc high → first (λ x. leb (f x) (g x)) from n ≤ high → IsLeast (λ x. f x ≤ g x) from high (first (λ x. leb (f x) (g x)) from n)
first_least f g from n high last near = record {
  from = first_from (λ x. leb (f x) (g x)) from n;
  to = near;
  holds = leb-true _ _ (first_passes (λ x. leb (f x) (g x)) from n (omega arith));
  before = λ j lo lt le. let q = leb-false (f j) (g j) (first_before (λ x. leb (f x) (g x)) from n j lo lt) in omega arith;
}

-- the greatest of f 1 to f n, where f d is the one value that stands in V to d
greatest_of : (V : ℕ → ℕ → Type 0) (f : ℕ → ℕ) (n : ℕ) → 1 ≤ n → ((d : ℕ) → 1 ≤ d → d ≤ n → V d (f d)) → ((d v : ℕ) → 1 ≤ d → d ≤ n → V d v → v ≡ f d) → IsGreatest V 1 n (greatest (λ i. f (suc i)) n)
greatest_of V f n some stands one =
    let r = greatest_one (λ i. f (suc i)) n some in
    record {
      every = λ d v lo hi is.
          let e : v ≡ f d = one d v lo hi is in
          let s : suc (d - 1) ≡ d = omega arith in
          let q : f (suc (d - 1)) ≡ f d = ap f s in
          let g = greatest_at (λ i. f (suc i)) n (d - 1) (omega arith) in
          omega arith;
      some = (suc r.0, omega arith, omega (arith, r.1), rw r.2 (stands (suc r.0) (omega arith) (omega (arith, r.1))));
    }

-- an envelope and a supply that never fall
module _ {alpha beta : ℕ → ℕ} (both : Curves alpha beta) where
  -- before the closing span no span closes
  not_yet : (d : ℕ) → 1 ≤ d → d < closing alpha beta → beta d < alpha d
  unfolding closing
  not_yet d lo lt = leb-false (alpha d) (beta d) (first_before (λ d. leb (alpha d) (beta d)) 1 most_span d lo lt)

  -- where there is a closing span
  module _ (near : closing alpha beta ≤ most_span) where
    -- it is the least that closes
    closes : IsLeast (λ d. alpha d ≤ beta d) 1 most_span (closing alpha beta)
    unfolding closing
    closes = first_least alpha beta 1 most_span most_span (omega arith) near

    -- a span up to the closing span
    module _ (d : ℕ) (lo : 1 ≤ d) (hi : d ≤ closing alpha beta) where
      -- what may arrive in it is supplied by the closing span
      span_within : span_for alpha beta d ≤ most_span
      unfolding span_for
      span_within =
          let a = both.up d (closing alpha beta) hi in
          let b = closes.holds in
          let le = first_le (λ x. leb (alpha d) (beta x)) 0 (suc most_span) (closing alpha beta) (omega arith) (le-leb (alpha d) (beta (closing alpha beta)) (omega arith)) in
          omega arith

      -- its span is the least in which as much is supplied
      span_is : IsLeast (λ x. alpha d ≤ beta x) 0 most_span (span_for alpha beta d)
      unfolding span_for
      span_is = first_least (λ _. alpha d) beta 0 (suc most_span) most_span (omega arith) span_within

      -- the span before it does not close
      unserved : 1 < d → beta (d - 1) < alpha (d - 1)
      unserved two = not_yet (d - 1) (omega arith) (omega arith)

      -- its wait
      waits : Waits alpha beta d (delay_at alpha beta d)
      unfolding delay_at
      waits =
          let a = ahead both d unserved (span_for alpha beta d) span_is.holds in
          let e : span_for alpha beta d - (d - 1) + (d - 1) ≡ span_for alpha beta d = omega arith in
          rw e span_is

      -- its unsent bytes
      unsent : Unsent alpha beta d (held_at alpha beta d)
      unfolding held_at
      unsent = let a = filled both d unserved in omega arith

    -- the delay is the greatest wait
    delay_great : IsGreatest (Waits alpha beta) 1 (closing alpha beta) (delay alpha beta)
    unfolding delay
    delay_great =
        greatest_of (Waits alpha beta) (delay_at alpha beta) (closing alpha beta) closes.from waits
        (λ d v lo hi is.
        let u = least_unique (λ x. alpha d ≤ beta x) 0 most_span (v + (d - 1)) (delay_at alpha beta d + (d - 1)) is (waits d lo hi) in
        omega arith)

    -- the held bytes are the most unsent bytes
    held_great : IsGreatest (Unsent alpha beta) 1 (closing alpha beta) (held alpha beta)
    unfolding held
    held_great =
        greatest_of (Unsent alpha beta) (held_at alpha beta) (closing alpha beta) closes.from unsent
        (λ d v lo hi is. let u = unsent d lo hi in omega arith)

  -- what the definitions mean
  means : Means alpha beta
  means = record {
    closed = λ near. record { closes = closes near; delay_is = delay_great near; held_is = held_great near };
    never = λ far d lo hi le. let q = not_yet d lo (omega arith) in omega arith;
  }

-- the definitions mean what they are said to mean
pub bounds_mean : BoundsMean
bounds_mean alpha beta up starts step = means (record { up = up; starts = starts; rise = rises_all beta step })
