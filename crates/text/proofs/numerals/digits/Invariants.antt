use Rattle.std.proofs.Common.{◌≡◌, ◌^◌, ◌<◌, drop}
use Rattle.text.specs.Numerals.{digits_from}
use Rattle.text.proofs.numerals.digits.Given as goal

abbrev pub invariant-loop-b : goal.invariant-loop-b
invariant-loop-b l = (digits_from l.n (drop l.b-index l.text) ≡ digits_from 0 l.text) × (l.n < 10 ^ l.b-index)
