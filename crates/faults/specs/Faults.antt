-- The refusal, the line and the layer of each fault. Assumes nothing.
use Rattle.std.specs.Prelude.{ℕ, List, ◌++◌, codes, decimal}
use Rattle.units.specs.declared.refusal.Refusal.{Refusal}
use Rattle.units.specs.declared.refusal.Refusal.TheVariants as refusal
use Rattle.units.specs.Refusals.{refusal_number}
use Rattle.faults.specs.declared.fault.FieldFault.TheVariants.{Form, Range}
use Rattle.faults.specs.declared.fault.LineFault.TheVariants.{Missing, Key, Field}
use Rattle.faults.specs.declared.fault.PlanFault.{PlanFault}
use Rattle.faults.specs.declared.fault.PlanFault.TheVariants.{Size, Sum, Order, More, Line, Memory}
use Rattle.faults.specs.declared.layer.Layer.{Layer}
use Rattle.faults.specs.declared.layer.Layer.TheVariants as layer
use Rattle.faults.specs.Layers.{layer_word}

-- the refusal that a caller is told
abbrev pub fault_refusal : PlanFault → Refusal
fault_refusal Size = refusal.TextSize
fault_refusal (Line (Missing k)) = refusal.LineMissing
fault_refusal (Line (Key k)) = refusal.WrongKey
fault_refusal (Line (Field (Form k))) = refusal.FieldForm
fault_refusal (Line (Field (Range k))) = refusal.FieldRange
fault_refusal (Sum k) = refusal.CycleSum
fault_refusal (Order k) = refusal.LineOrder
fault_refusal (More k) = refusal.MoreText
fault_refusal Memory = refusal.Memory

-- the line of the fault; 0 stands for the whole text
abbrev pub fault_line : PlanFault → ℕ
fault_line Size = 0
fault_line (Line (Missing k)) = k
fault_line (Line (Key k)) = k
fault_line (Line (Field (Form k))) = k
fault_line (Line (Field (Range k))) = k
fault_line (Sum k) = k
fault_line (Order k) = k
fault_line (More k) = k
fault_line Memory = 0

-- the layer at which the fault was found
abbrev pub fault_layer : PlanFault → Layer
fault_layer Size = layer.Plan
fault_layer (Line (Missing k)) = layer.Line
fault_layer (Line (Key k)) = layer.Line
fault_layer (Line (Field f)) = layer.Field
fault_layer (Sum k) = layer.Plan
fault_layer (Order k) = layer.Plan
fault_layer (More k) = layer.Plan
fault_layer Memory = layer.Plan

-- the fault as it is reported, on three lines split by byte 10: the number of its refusal, its line and its layer
abbrev pub fault_report : PlanFault → List ℕ
fault_report f = codes "refused=" ++ decimal (refusal_number (fault_refusal f)) ++ codes "\nline=" ++ decimal (fault_line f) ++ codes "\nlayer=" ++ layer_word (fault_layer f)
