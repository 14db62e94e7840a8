-- Numerals are what `decimal` writes, read digit by digit. Both directions cite this.
use Rattle.std.proofs.Common.{◌≡◌, ℕ, ◌+◌, ◌-◌, ◌*◌, Bool, true, ◌&&◌, leb, List, [], ◌∷◌, rules}
use Rattle.std.proofs.lemmas.Str.Parse.{IsNumeralModel, numerals_by_fold}

-- every byte is a digit
abbrev pub digits_only : List ℕ → Bool
digits_only [] = true
digits_only (x ∷ xs) = (leb 48 x && leb x 57) && digits_only xs

-- the number that digits write after n
abbrev pub read_on : ℕ → List ℕ → ℕ
read_on n [] = n
read_on n (x ∷ xs) = read_on (n * 10 + (x - 48)) xs

-- these are numerals as the library knows them
pub own : IsNumeralModel (λ ds. digits_only ds ≡ true) (read_on 0)
own = numerals_by_fold _ (search rules) read_on (search rules)
