-- The bytes that have a meaning in a plan text. Assumes nothing.
use Rattle.std.specs.Prelude.{ℕ}

-- the byte that ends a line
abbrev pub line_end : ℕ
line_end = 10

-- the equals sign that ends a key
abbrev pub equals_sign : ℕ
equals_sign = 61

-- the comma between two fields
abbrev pub comma : ℕ
comma = 44

-- the first digit
abbrev pub digit_0 : ℕ
digit_0 = 48

-- the last digit
abbrev pub digit_9 : ℕ
digit_9 = 57

-- the letter O of an open gate
abbrev pub open_letter : ℕ
open_letter = 79

-- the letter C of a shut gate
abbrev pub shut_letter : ℕ
shut_letter = 67

-- the letter b of a bucket
abbrev pub bucket_letter : ℕ
bucket_letter = 98

-- the letter p of a periodic flow
abbrev pub periodic_letter : ℕ
periodic_letter = 112
