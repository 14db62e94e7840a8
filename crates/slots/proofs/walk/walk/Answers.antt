use Rattle.std.proofs.Common.{◌+◌, true, refl, arith, below_more}
use Rattle.std.specs.Fn.{FnReturnsAt}
use Rattle.gates.specs.Opened.{total, line}
use Rattle.gates.proofs.Lines.{start_more, start_most}
use Rattle.slots.proofs.walk.walk.Goals as goal

pub loop-line-init : goal.loop-line-init
unfolding total
loop-line-init g c = record { added = omega arith; pass = λ j lt. absurd (omega arith) }

pub returns-then-not-passes : goal.returns-then-not-passes
returns-then-not-passes g c = record {
  past = c.loop-line.line-index;
  inside = omega (arith, c.loop-line-test.true);
  added = c.loop-line.invariant.added;
  pass = c.loop-line.invariant.pass;
  ends = λ _. record { shown = _; shows = refl; says = record { met = c.if-not-passes.ensures } };
}

pub overflow_add-ticks : goal.overflow_add-ticks
overflow_add-ticks g c =
    let n = start_more c.args.lines.now c.loop-line.line-index (omega (arith, c.loop-line-test.true)) in
    let m = start_most c.args.lines.now (c.loop-line.line-index + 1) in
    omega (arith, c.loop-line.invariant.added, c.requires.short)

pub loop-line-preserved : goal.loop-line-preserved
loop-line-preserved g c =
    let n = start_more c.args.lines.now c.loop-line.line-index (omega (arith, c.loop-line-test.true)) in
    record {
      added = omega (arith, c.loop-line.invariant.added);
      pass = below_more (λ k. FnReturnsAt g.F.Fn c.args.passes (line c.args.lines.now k) true) c.loop-line.line-index c.loop-line.invariant.pass (record { shown = _; shows = refl; says = record { met = c.if-not-passes.ensures } });
    }

pub returns : goal.returns
returns g c = record {
  past = c.loop-line.line-index;
  inside = c.loop-line.auto.line-index-end;
  added = c.loop-line.invariant.added;
  pass = c.loop-line.invariant.pass;
  ends = λ lt. absurd (omega (arith, c.loop-line-test.false));
}
