-- The number of each refusal. Assumes nothing.
use Rattle.std.specs.Prelude.{ℕ}
use Rattle.units.specs.declared.refusal.Refusal.{Refusal}
use Rattle.units.specs.declared.refusal.Refusal.TheVariants.{TextSize, LineMissing, WrongKey, FieldForm, FieldRange, CycleSum, LineOrder, MoreText, NoClass, SlotSpace, CurveSpan, StartTick, PortLife, FrameSize, QueueFull, ReportSpace, NoFlow, NoSureTick, NoClosingSpan, BeyondReach, FlowRange, Memory}

-- the number of a refusal, as docs/refusals.md lists it
abbrev pub refusal_number : Refusal → ℕ
refusal_number TextSize = 1
refusal_number LineMissing = 2
refusal_number WrongKey = 3
refusal_number FieldForm = 4
refusal_number FieldRange = 5
refusal_number CycleSum = 6
refusal_number LineOrder = 7
refusal_number MoreText = 8
refusal_number NoClass = 11
refusal_number SlotSpace = 12
refusal_number CurveSpan = 13
refusal_number StartTick = 21
refusal_number PortLife = 22
refusal_number FrameSize = 23
refusal_number QueueFull = 24
refusal_number ReportSpace = 31
refusal_number NoFlow = 41
refusal_number NoSureTick = 42
refusal_number NoClosingSpan = 43
refusal_number BeyondReach = 51
refusal_number FlowRange = 52
refusal_number Memory = 99
