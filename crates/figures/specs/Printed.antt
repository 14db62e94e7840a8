-- The lines of a class in the report. Assumes nothing.
use Rattle.std.specs.Prelude.{ℕ, List, ◌++◌, Result, Ok, Err, codes, decimal}
use Rattle.units.specs.declared.refusal.Refusal.{Refusal}
use Rattle.units.specs.declared.amounts.Ticks.{Ticks}
use Rattle.units.specs.declared.amounts.Bytes.{Bytes}
use Rattle.units.specs.Refusals.{refusal_number}

-- the last lines: delay and held bytes, or the number of the refusal
abbrev pub bound_lines : Result (Ticks × Bytes) Refusal → List ℕ
bound_lines (Ok b) = codes "delay=" ++ (decimal b.0.0 ++ (codes "\nheld=" ++ decimal b.1.0))
bound_lines (Err e) = codes "none=" ++ decimal (refusal_number e)

-- the lines before them
abbrev pub slot_lines : ℕ → ℕ → ℕ → ℕ → List ℕ
slot_lines class slots sure block =
    codes "class="
    ++ (decimal class
    ++ (codes "\nslots=" ++ (decimal slots ++ (codes "\nsure=" ++ (decimal sure ++ (codes "\nblock=" ++ (decimal block ++ codes "\n")))))))
