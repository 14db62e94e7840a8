-- Reading and writing are inverse to each other. Assumes nothing.
use Rattle.std.specs.Prelude.{◌≡◌, ℕ, ◌≤◌, List, length, Ok}
use Rattle.units.specs.Limits.{most_text}
use Rattle.reader.specs.Reading.{read_plan}
use Rattle.reader.specs.Contents.{Contents}
use Rattle.writing.specs.Written.{write, Sound}

-- the text is that of the plan s
pub record TextOf (s : Contents) (text : List ℕ) : Type 0 where
  pub sound : Sound s
  pub written : text ≡ write s
  pub short : length text ≤ most_text

-- a text that is read is the text of the plan that is read
abbrev pub OnlyTexts : Type 0
OnlyTexts = (text : List ℕ) (s : Contents) → read_plan text ≡ Ok s → TextOf s text

-- the text of a plan is read as that plan
abbrev pub EveryPlan : Type 0
EveryPlan = (text : List ℕ) (s : Contents) → TextOf s text → read_plan text ≡ Ok s

-- no plan has a text that is too long to be read
abbrev pub ShortTexts : Type 0
ShortTexts = (s : Contents) → Sound s → length (write s) ≤ most_text
