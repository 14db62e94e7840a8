use Rattle.std.proofs.Common.{◌∙◌, rules}
use Rattle.text.proofs.Digit.{numeral_empty, numeral_led, numeral_long, numeral_is}
use Rattle.text.proofs.numerals.numeral.Goals as goal
use Rattle.text.proofs.numerals.numeral.Goals.{in_default-via-then-text-lt2, in_default-via-else-text-lt2+in_default-1}

pub returns-in-empty : goal.returns-in-empty
returns-in-empty c = numeral_empty c.args.text.now (search rules)

pub returns-in-48 : goal.returns-in-48
returns-in-48 c = numeral_led c.args.text.now (search rules) (search rules)

pub returns-in_default : goal.returns-in_default
returns-in_default c = numeral_long _ c.if-text-gt-MAX_DIGITS.true

pub returns-in_default-2 : goal.returns-in_default-2
returns-in_default-2 c = c.digits.ensures ∙ elim c.in_default.branch [ in_default-via-then-text-lt2 w ↦ numeral_is _ (search rules) c.if-text-gt-MAX_DIGITS.false (λ h e. search rules) | in_default-via-else-text-lt2+in_default-1 w ↦ numeral_is _ (search rules) c.if-text-gt-MAX_DIGITS.false (λ h e. search rules) ]
