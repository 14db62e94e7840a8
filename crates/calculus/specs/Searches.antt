-- Searches and counts below a bound, over any test of numbers. Assumes nothing.
use Rattle.std.specs.Prelude.{ℕ, zero, suc, ◌+◌, min, max, Bool, true, false, cond, ◌&&◌, ◌||◌}

-- the test passes at each number below n
unfoldable pub all : (ℕ → Bool) → ℕ → Bool
all f zero = true
all f (suc n) = f n && all f n

-- the test passes at some number below n
unfoldable pub any : (ℕ → Bool) → ℕ → Bool
any f zero = false
any f (suc n) = f n || any f n

-- the test passes at the n ticks from t on
unfoldable pub holds : (ℕ → Bool) → ℕ → ℕ → Bool
holds f t n = all (λ j. f (t + j)) n

-- how many ticks from t on pass the test in a row, n at the most
unfoldable pub lasts : (ℕ → Bool) → ℕ → ℕ → ℕ
lasts f t zero = 0
lasts f t (suc n) = cond (f t) (suc (lasts f (suc t) n)) 0

-- 1 where the test passes at t, and 0 where it does not
unfoldable pub bit : (ℕ → Bool) → ℕ → ℕ
bit f t = cond (f t) 1 0

-- how many of the n ticks from t on pass the test
unfoldable pub count : (ℕ → Bool) → ℕ → ℕ → ℕ
count f t zero = 0
count f t (suc n) = count f t n + bit f (t + n)

-- the greatest of f 0 to f (n - 1), and 0 where n is 0
unfoldable pub greatest : (ℕ → ℕ) → ℕ → ℕ
greatest f zero = 0
greatest f (suc n) = max (f n) (greatest f n)

-- the least of f 0 to f (n - 1), and f 0 where n is 0
unfoldable pub least : (ℕ → ℕ) → ℕ → ℕ
least f zero = f 0
least f (suc n) = min (least f n) (f n)

-- the first of from, from + 1, .. that passes the test, among n of them; from + n where none of these does
unfoldable pub first : (ℕ → Bool) → ℕ → ℕ → ℕ
first f from zero = from
first f from (suc n) = cond (f from) from (first f (suc from) n)
