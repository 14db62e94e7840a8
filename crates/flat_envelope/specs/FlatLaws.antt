-- An envelope that allows the same bytes in every span. The proof of its laws stands here, for the ghost member `laws` of an impl
-- may cite nothing that stands in the proofs/ of its own crate. Assumes nothing.
use Rattle.std.specs.Prelude.{ℕ, ◌≤◌, cond, ◌==◌, refl}
use Rattle.std.proofs.Common.{arith}
use Rattle.std.proofs.lemmas.Bool.Decides.{nat_tests}
use Rattle.units.specs.Limits.{most_span}
use Rattle.envelope.specs.Laws.{EnvelopeLaws}

-- the bytes in any d ticks
abbrev pub flat_bytes : ℕ → ℕ → ℕ
flat_bytes n d = cond (d == 0) 0 n

-- it never falls
flat_rises : (n i j : ℕ) → i ≤ j → flat_bytes n i ≤ flat_bytes n j
flat_rises n i j h = grind (arith, nat_tests)

-- so it is an envelope, whatever holds its bytes
pub flat_laws : {X : Type 0} (bytes : X → ℕ) → EnvelopeLaws (λ (s : X) d. flat_bytes (bytes s) d) (λ _. most_span)
flat_laws bytes = record { starts = λ s. refl; rises = λ s i j h. flat_rises (bytes s) i j h; far = λ s. omega arith }
