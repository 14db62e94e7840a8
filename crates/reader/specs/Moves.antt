-- How the reader goes forward. Assumes nothing.
use Rattle.std.specs.Prelude.{ℕ, ◌≡◌, ◌+◌}
use Rattle.text.specs.Cuts.{past}
use Rattle.text.specs.Marks.{comma, line_end}
use Rattle.reader.specs.declared.reader.Fields.{Fields}
use Rattle.reader.specs.declared.reader.Reader.{Reader}
use Rattle.reader.specs.Chain.{skip}

-- past the next field of a line
pub record PastField (old new : Fields) : Type 0 where
  pub rest : new.rest.now ≡ past comma old.rest.now
  pub line : new.line ≡ old.line

-- past the next line
pub record PastLine (old new : Reader) : Type 0 where
  pub rest : new.rest.now ≡ past line_end old.rest.now
  pub line : new.line ≡ old.line + 1

-- past the next n lines
pub record PastLines (n : ℕ) (old new : Reader) : Type 0 where
  pub rest : new.rest.now ≡ skip n old.rest.now
  pub line : new.line ≡ old.line + n
