-- The sweep over the spans in which more may arrive than before. Assumes nothing.
use Rattle.std.proofs.Common.{◌≡◌, ℕ, suc, ◌-◌, ◌<◌, ◌≤◌, max, leb, sym, ap, ◌∙◌, arith}
use Rattle.std.proofs.lemmas.Bool.{le-leb, lt-leb}
use Rattle.units.specs.Limits.{most_span, most_load}
use Rattle.calculus.specs.Searches.{greatest}
use Rattle.calculus.proofs.Bounded.{greatest_none, greatest_last, greatest_flat}
use Rattle.calculus.proofs.First.{first_is, first_none}
use Rattle.supply.specs.Laws.{LeastSpan, NoSpan}
use Rattle.bound.specs.Bounds.{closing, span_for, delay_at, held_at, delay, held}
use Rattle.bound.proofs.Curves.{Curves, filled, ahead}

-- the greatest over the spans from 1 to n
abbrev pub up_to : (ℕ → ℕ) → ℕ → ℕ
up_to f n = greatest (λ i. f (suc i)) n

-- one span more
up_to_last : (f : ℕ → ℕ) (d : ℕ) → 1 ≤ d → up_to f d ≡ max (f d) (up_to f (d - 1))
up_to_last f d lo =
    let e : suc (d - 1) ≡ d = omega arith in
    greatest_last (λ i. f (suc i)) d lo ∙ ap (λ k. max (f k) (up_to f (d - 1))) e

-- spans with no more than the one at d
up_to_flat : (f : ℕ → ℕ) (d m : ℕ) → 1 ≤ d → d ≤ m → ((k : ℕ) → d < k → k ≤ m → f k ≤ f d) → up_to f m ≡ up_to f d
up_to_flat f d m lo on flat =
    let last = up_to_last f d lo in
    greatest_flat (λ i. f (suc i)) d m on (λ i ge lt. let a = flat (suc i) (omega arith) (omega arith) in omega arith)

-- before the work at d: no span before d closes, and delay and held bytes are the greatest before d
pub record Swept (alpha beta : ℕ → ℕ) (d wait kept : ℕ) : Type 0 where
  pub low : 1 ≤ d
  pub high : d ≤ most_span
  pub unserved : (k : ℕ) → 1 ≤ k → k < d → beta k < alpha k
  pub wait_is : wait ≡ up_to (delay_at alpha beta) (d - 1)
  pub kept_is : kept ≡ up_to (held_at alpha beta) (d - 1)

-- the closing span is there, and these are the delay and the held bytes
pub record Closed (alpha beta : ℕ → ℕ) (wait kept : ℕ) : Type 0 where
  pub near : closing alpha beta ≤ most_span
  pub wait_is : wait ≡ delay alpha beta
  pub kept_is : kept ≡ held alpha beta

-- at the start nothing is done
pub swept_start : (alpha beta : ℕ → ℕ) → Swept alpha beta 1 0 0
swept_start alpha beta = record {
  low = omega arith;
  high = omega arith;
  unserved = λ k lo hi. absurd (omega arith);
  wait_is = sym (greatest_none (λ i. delay_at alpha beta (suc i)));
  kept_is = sym (greatest_none (λ i. held_at alpha beta (suc i)));
}

-- where no span closes there is no closing span
never : (alpha beta : ℕ → ℕ) → ((k : ℕ) → 1 ≤ k → k ≤ most_span → beta k < alpha k) → most_span < closing alpha beta
unfolding closing
never alpha beta above =
    let c = first_none (λ d. leb (alpha d) (beta d)) 1 most_span (λ j lo hi. lt-leb (alpha j) (beta j) (above j lo (omega arith))) in
    omega arith

-- the work at d
module _ {alpha beta : ℕ → ℕ} (both : Curves alpha beta) {d wait kept : ℕ} (s : Swept alpha beta d wait kept) where
  -- where more may arrive in d than is ever supplied, there is no closing span
  pub swept_outgrown : NoSpan beta (alpha d) → most_span < closing alpha beta
  swept_outgrown all =
      never alpha beta (λ k lo hi. let u = s.unserved k lo in let a = all k hi in let b = both.up d k in grind arith)

  -- nor is there where more may arrive than is told
  pub swept_more : ((k : ℕ) → beta k ≤ k) → most_load < alpha d → most_span < closing alpha beta
  swept_more slow more = swept_outgrown (λ k le. let a = slow k in omega arith)

  -- no more is supplied before d than may arrive in d
  pub swept_filled : beta (d - 1) ≤ alpha d
  swept_filled = filled both d (λ two. s.unserved (d - 1) (omega arith) (omega arith))

  -- x is the least span in which as much is supplied
  module _ {x : ℕ} (least : LeastSpan beta (alpha d) x) where
    -- it is no shorter than the ticks before the last
    pub swept_ahead : d - 1 ≤ x
    swept_ahead = ahead both d (λ two. s.unserved (d - 1) (omega arith) (omega arith)) x least.1

    -- before it less is supplied
    behind : (k : ℕ) → k < x → beta k < alpha d
    behind k lt = let q = least.2 k in grind arith

    -- it is that of each span in which as much may arrive as in d
    span_same : (k : ℕ) → alpha k ≡ alpha d → span_for alpha beta k ≡ x
    unfolding span_for
    span_same k same =
        let t = least.0 in
        let h = least.1 in
        first_is (λ y. leb (alpha k) (beta y)) 0 (suc most_span) x (omega arith) (omega arith)
        (le-leb (alpha k) (beta x) (omega arith))
        (λ j _ lt. let b = behind j lt in lt-leb (alpha k) (beta j) (omega arith))

    -- m is a span from d on in which no more may arrive than in d
    module _ (m : ℕ) (on : d ≤ m) (flat : alpha m ≤ alpha d) where
      -- nor may more arrive in the spans between
      level : (k : ℕ) → d ≤ k → k ≤ m → alpha k ≡ alpha d
      level k ge le = let a = both.up d k ge in let b = both.up k m le in omega arith

      -- the delay up to m
      wait_now : max wait (x - (d - 1)) ≡ up_to (delay_at alpha beta) m
      unfolding delay_at
      wait_now =
          let here = span_same d (level d (omega arith) on) in
          let last = up_to_last (λ k. span_for alpha beta k - (k - 1)) d s.low in
          let all = up_to_flat (λ k. span_for alpha beta k - (k - 1)) d m s.low on
          (λ k lt le. let there = span_same k (level k (omega arith) le) in omega arith) in
          let w : wait ≡ up_to (λ k. span_for alpha beta k - (k - 1)) (d - 1) = s.wait_is in
          omega arith

      -- the held bytes up to m
      kept_now : max kept (alpha d - beta (d - 1)) ≡ up_to (held_at alpha beta) m
      unfolding held_at
      kept_now =
          let last = up_to_last (λ k. alpha k - beta (k - 1)) d s.low in
          let all = up_to_flat (λ k. alpha k - beta (k - 1)) d m s.low on
          (λ k lt le. let same = level k (omega arith) le in let b = both.rise (d - 1) (k - 1) (omega arith) in omega arith) in
          let w : kept ≡ up_to (λ k. alpha k - beta (k - 1)) (d - 1) = s.kept_is in
          omega arith

      -- no span up to m closes before x
      open_still : (k : ℕ) → 1 ≤ k → k < max d x → k ≤ m → beta k < alpha k
      open_still k lo lt le = let u = s.unserved k lo in let same = level k in let b = behind k in grind arith

      -- where m is as long as both d and x, it closes
      pub swept_closes : m ≡ max d x → Closed alpha beta (max wait (x - (d - 1))) (max kept (alpha d - beta (d - 1)))
      unfolding closing delay held
      swept_closes whole =
          let t = least.0 in
          let h = least.1 in
          let top = s.high in
          let low = s.low in
          let b = both.rise x m (omega arith) in
          let c : closing alpha beta ≡ m = first_is (λ k. leb (alpha k) (beta k)) 1 most_span m (omega arith) (omega arith)
          (le-leb (alpha m) (beta m) (omega arith))
          (λ j lo lt. lt-leb (alpha j) (beta j) (open_still j lo (omega arith) (omega arith))) in
          record {
            near = omega arith;
            wait_is = wait_now ∙ ap (up_to (delay_at alpha beta)) (sym c);
            kept_is = kept_now ∙ ap (up_to (held_at alpha beta)) (sym c);
          }

    -- where no more may arrive before e than in d, the sweep goes on at e
    pub swept_next : (e : ℕ) → d < e → e ≤ max d x → alpha (e - 1) ≤ alpha d → Swept alpha beta e (max wait (x - (d - 1))) (max kept (alpha d - beta (d - 1)))
    swept_next e lt le flat = record {
      low = (let low = s.low in omega arith);
      high = (let t = least.0 in let top = s.high in omega arith);
      unserved = λ k lo hi. open_still (e - 1) (omega arith) flat k lo (omega arith) (omega arith);
      wait_is = wait_now (e - 1) (omega arith) flat;
      kept_is = kept_now (e - 1) (omega arith) flat;
    }
