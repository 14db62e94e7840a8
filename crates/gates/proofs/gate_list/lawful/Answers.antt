use Rattle.std.proofs.Common.{sym, refl, ◌∙◌, arith, below_more}
use Rattle.std.proofs.lemmas.Bool.{eqb-true, eq-eqb}
use Rattle.gates.specs.Opened.{total}
use Rattle.gates.proofs.Lines.{start_more, start_all, line_most, refuted}
use Rattle.gates.proofs.gate_list.lawful.Goals as goal
use Rattle.gates.proofs.gate_list.lawful.Goals.{then-line-lt1-via-then-line-lt1, then-line-lt1-via-else-line-lt1+then-line-gt-MAX_CYCLE}

pub loop-line-init : goal.loop-line-init
unfolding total
loop-line-init c = (refl, (λ j h. absurd (omega arith)), omega arith)

pub returns-then-line-lt1 : goal.returns-then-line-lt1
returns-then-line-lt1 c =
    let at = c.loop-line.line-index in
    let lt = c.loop-line-test.true in
    elim c.then-line-lt1.branch [
      | then-line-lt1-via-then-line-lt1 w ↦ refuted _ (λ law. omega (arith, law.each at lt, w.if-line-lt1.true))
      | then-line-lt1-via-else-line-lt1+then-line-gt-MAX_CYCLE w ↦ refuted _ (λ law. omega (arith, line_most c.args.lines.now at lt, law.together, law.most, w.if-line-gt-MAX_CYCLE.true))
    ]

pub loop-line-preserved : goal.loop-line-preserved
loop-line-preserved c =
    let on = start_more c.args.lines.now c.loop-line.line-index c.loop-line-test.true in
    (omega arith, below_more _ _ c.loop-line.invariant.1 (omega arith), omega arith)

pub returns : goal.returns
returns c =
    let all = start_all c.args.lines.now c.loop-line.line-index c.loop-line-test.false in (
      (λ e. record { each = λ i h. c.loop-line.invariant.1 i (omega (arith, h)); together = sym all ∙ sym c.loop-line.invariant.0 ∙ eqb-true _ _ e; some = omega arith; few = omega arith; most = omega arith }),
      (λ law. eq-eqb _ _ (c.loop-line.invariant.0 ∙ all ∙ law.together)),
    )
