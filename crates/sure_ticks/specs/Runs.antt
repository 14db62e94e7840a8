-- The clear runs of a class, and what one is worth. The gates are any test o of classes and ticks that repeats with the cycle L,
-- and M tells for how many ticks the largest frame of each class holds the wire. Assumes nothing.
use Rattle.std.specs.Prelude.{ℕ, suc, ◌+◌, ◌-◌, min, Bool, cond, not, ◌&&◌, nat_lt}
use Rattle.units.specs.Limits.{classes}
use Rattle.calculus.specs.Searches.{all, lasts, greatest}

-- at the tick t the class c is open and every higher class is shut
unfoldable pub clear : (ℕ → ℕ → Bool) → ℕ → ℕ → Bool
clear o c t = o c t && all (λ h. not (nat_lt c h && o h t)) classes

-- a clear run of c begins right after the tick z
unfoldable pub begins : (ℕ → ℕ → Bool) → ℕ → ℕ → Bool
begins o c z = not (clear o c z) && clear o c (suc z)

-- How long a frame of the class k, which holds the wire for m ticks at the most, can keep a run waiting that begins right after z:
-- not at all if k is shut at z, and otherwise until k shuts, and for fewer than m ticks
unfoldable pub blocked_by : (ℕ → ℕ → Bool) → ℕ → ℕ → ℕ → ℕ
blocked_by o m z k = cond (o k z) (lasts (o k) (suc z) (m - 1)) 0

-- the longest that a frame of a class below c can
unfoldable pub blocking : (ℕ → ℕ → Bool) → (ℕ → ℕ) → ℕ → ℕ → ℕ
blocking o M c z = greatest (λ k. blocked_by o (M k) z k) c

-- For how many ticks of the run that begins right after z a frame of c, which holds the wire for m ticks, can start and still
-- leave: as long as the run lasts, and while c stays open for m ticks. To be open for L + m ticks is as good as never to shut,
-- since a run lasts a cycle at the most
unfoldable pub usable : ℕ → (ℕ → ℕ → Bool) → ℕ → ℕ → ℕ → ℕ
usable L o m c z = min (lasts (clear o c) (suc z) L) (lasts (o c) (suc z) (L + m) + 1 - m)
