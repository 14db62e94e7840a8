-- The word for each layer. Assumes nothing.
use Rattle.std.specs.Prelude.{ℕ, List, codes}
use Rattle.faults.specs.declared.layer.Layer.{Layer}
use Rattle.faults.specs.declared.layer.Layer.TheVariants.{Field, Line, Plan}

-- the word for a layer
abbrev pub layer_word : Layer → List ℕ
layer_word Field = codes "field"
layer_word Line = codes "line"
layer_word Plan = codes "plan"
