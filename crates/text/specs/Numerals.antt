-- Numbers as plan texts write them. Assumes nothing.
use Rattle.std.specs.Prelude.{ℕ, ◌+◌, ◌-◌, ◌*◌, cond, ◌&&◌, List, [], ◌∷◌, length, Some, None, Option, ◌==◌, nat_le, nat_lt}
use Rattle.text.specs.Marks.{digit_0, digit_9}

-- a numeral has at most this many digits
abbrev pub most_numeral : ℕ
most_numeral = 7

-- the number that digits write, after those that wrote n; nothing if one is no digit
unfoldable pub digits_from : ℕ → List ℕ → Option ℕ
digits_from n [] = Some n
digits_from n (x ∷ xs) = cond (nat_le digit_0 x && nat_le x digit_9) (digits_from (n * 10 + (x - digit_0)) xs) None

-- 1 to 7 decimal digits with no leading zero save 0 itself
unfoldable pub numeral_in : List ℕ → Option ℕ
numeral_in [] = None
numeral_in (x ∷ xs) = cond (x == digit_0 && nat_lt 0 (length xs)) None (cond (nat_le most_numeral (length xs)) None (digits_from 0 (x ∷ xs)))
