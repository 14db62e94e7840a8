use Rattle.std.proofs.Common.{◌+◌, drop, sym, ap, ◌∙◌, arith}
use Rattle.text.specs.Numerals.{digits_from}
use Rattle.text.proofs.Digit.{digit_on, digit_low, digit_high, digit_end, ten_more}
use Rattle.text.proofs.numerals.digits.Goals as goal

pub returns-in_default : goal.returns-in_default
returns-in_default c = sym (digit_low c.loop-b.n c.args.text.now c.loop-b.b-index c.loop-b-test.true (omega arith)) ∙ c.loop-b.invariant.0

pub returns-in_default-2 : goal.returns-in_default-2
returns-in_default-2 c = sym (digit_high c.loop-b.n c.args.text.now c.loop-b.b-index c.loop-b-test.true (omega arith)) ∙ c.loop-b.invariant.0

pub loop-b-preserved : goal.loop-b-preserved
loop-b-preserved c = (
  ap (λ d. digits_from d (drop (c.loop-b.b-index + 1) c.args.text.now)) (omega arith) ∙ sym (digit_on c.loop-b.n c.args.text.now c.loop-b.b-index c.loop-b-test.true (omega arith) (omega arith)) ∙ c.loop-b.invariant.0,
  ten_more c.loop-b.n c.from.result c.loop-b.b-index c.loop-b.invariant.1 (omega arith),
)

pub returns : goal.returns
returns c = sym (digit_end c.loop-b.n c.args.text.now c.loop-b.b-index c.loop-b-test.false) ∙ c.loop-b.invariant.0
