use Rattle.std.proofs.Common.{◌≡◌, ◌-◌, ◌≤◌, max, ◌∙◌, arith, rules}
use Rattle.std.proofs.lemmas.Grind.{common_steps}
use Rattle.supply.specs.Laws.{LeastSpan}
use Rattle.bound.proofs.Curves.{Curves, rises_all, slow_all}
use Rattle.bound.proofs.Sweeps.{swept_start, swept_outgrown, swept_more, swept_filled, swept_ahead, swept_closes, swept_next}
use Rattle.bound.proofs.search.bound_over.Given as given
use Rattle.bound.proofs.search.bound_over.Goals as goal
use Rattle.bound.proofs.search.bound_over.Goals.{In_ok-served, In_ok-sent, After-max-last}

-- the envelope and the supply that are asked
curves : (g : given.Over) (e : g.row.E.Denot) (s : g.row.S.Denot) → Curves (g.E.Envelope.alpha e) (g.S.Supply.supplied s)
curves g e s = record {
  up = g.E.Envelope.laws.rises e;
  starts = g.S.Supply.keeps.none s;
  rise = rises_all (g.S.Supply.supplied s) (g.S.Supply.keeps.rises s);
}

-- what the supply tells of the bytes that may arrive
least : (g : given.Over) (c : In_ok-served g) → LeastSpan (g.S.Supply.supplied c.args.supply.now) (g.E.Envelope.alpha c.args.envelope.now c.loop-bytes.span.0) c.in_ok-served.served.0
least g c = let e = c.in_ok-bytes.ensures.0 in rw e at c.in_ok-served.ensures

-- what the supply has sent before the span
sent : (g : given.Over) (c : In_ok-sent g) → c.in_ok-sent.sent.0 ≡ g.S.Supply.supplied c.args.supply.now (c.loop-bytes.span.0 - 1)
sent g c = grind (arith, common_steps)

-- the delay, the held bytes and the span that is tried after the work at a span
worked : (g : given.Over) (c : After-max-last g) → (c.max-delay.result.0 ≡ max c.loop-bytes.delay.0 (c.in_ok-served.served.0 - (c.loop-bytes.span.0 - 1)))
    × (c.max-held.result.0 ≡ max c.loop-bytes.held.0 (g.E.Envelope.alpha c.args.envelope.now c.loop-bytes.span.0 - g.S.Supply.supplied c.args.supply.now (c.loop-bytes.span.0 - 1)))
    × (c.max-last.result.0 ≡ max c.loop-bytes.span.0 c.in_ok-served.served.0)
worked g c =
    let h : c.max-held.result.0 ≡ max c.loop-bytes.held.0 (c.in_ok-bytes.bytes.0 - c.in_ok-sent.sent.0) = search rules in
    let l : c.max-last.result.0 ≡ max c.in_ok-served.served.0 c.loop-bytes.span.0 = search rules in
    (search rules, omega (arith, c.in_ok-bytes.ensures.0, sent g (goal.at-After-max-last g c).In_ok-sent), omega arith)

pub loop-bytes-init : goal.loop-bytes-init
loop-bytes-init g c = swept_start _ _

pub returns-in_err-bytes : goal.returns-in_err-bytes
returns-in_err-bytes g c =
    let beta = g.S.Supply.supplied c.args.supply.now in
    let slow = slow_all beta (g.S.Supply.keeps.none c.args.supply.now) (g.S.Supply.keeps.slow c.args.supply.now) in
    rw c.from_residual.ensures (swept_more (curves g c.args.envelope.now c.args.supply.now) c.loop-bytes.invariant slow c.in_err-bytes.ensures)

pub returns-in_err-served : goal.returns-in_err-served
returns-in_err-served g c =
    let e = c.in_ok-bytes.ensures.0 in
    rw c.from_residual-in_err-served.ensures (swept_outgrown (curves g c.args.envelope.now c.args.supply.now) c.loop-bytes.invariant (rw e at c.in_err-served.ensures))

pub overflow_sub-served : goal.overflow_sub-served
overflow_sub-served g c = swept_ahead (curves g c.args.envelope.now c.args.supply.now) c.loop-bytes.invariant (least g (goal.at.overflow_sub-served g c).In_ok-served)

pub overflow_sub-bytes : goal.overflow_sub-bytes
overflow_sub-bytes g c =
    let f = swept_filled (curves g c.args.envelope.now c.args.supply.now) c.loop-bytes.invariant in
    omega (arith, c.in_ok-bytes.ensures.0, sent g (goal.at.overflow_sub-bytes g c).In_ok-sent)

pub returns-then-not-exceeds : goal.returns-then-not-exceeds
returns-then-not-exceeds g c =
    let at = goal.at.returns-then-not-exceeds g c in
    let e = c.in_ok-bytes.ensures.0 in
    let flat : g.E.Envelope.alpha c.args.envelope.now c.max-last.result.0 ≤ c.in_ok-bytes.bytes.0 = search rules in
    let now = worked g at.After-max-last in
    let closed = swept_closes (curves g c.args.envelope.now c.args.supply.now) c.loop-bytes.invariant (least g at.In_ok-served) c.max-last.result.0 (omega arith) (omega arith) now.2 in
    (closed.near, now.0 ∙ closed.wait_is, now.1 ∙ closed.kept_is)

pub loop-bytes-preserved : goal.loop-bytes-preserved
loop-bytes-preserved g c =
    let at = goal.at.loop-bytes-preserved g c in
    let e = c.in_ok-bytes.ensures.0 in
    let r = c.next_rise-span.ensures in
    let now = worked g at.After-max-last in
    let next = swept_next (curves g c.args.envelope.now c.args.supply.now) c.loop-bytes.invariant (least g at.In_ok-served) c.next_rise-span.result.0 r.after (omega arith) (omega arith) in
    rw (now.0, now.1) next
