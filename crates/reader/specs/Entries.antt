-- The lines of a plan: each has a key, an equals sign and its fields, and is ended by byte 10. Assumes nothing.
use Rattle.std.specs.Prelude.{ℕ, ◌-◌, Bool, true, false, cond, ◌&&◌, ◌||◌, List, [], ◌∷◌, ◌++◌, length, Ok, Err, Result, ◌==◌, nat_le, nat_lt}
use Rattle.faults.specs.declared.fault.FieldFault.{FieldFault}
use Rattle.faults.specs.declared.fault.FieldFault.TheVariants.{Form}
use Rattle.faults.specs.declared.fault.LineFault.{LineFault}
use Rattle.faults.specs.declared.fault.LineFault.TheVariants.{Missing, Field}
use Rattle.faults.specs.declared.fault.PlanFault.{PlanFault}
use Rattle.faults.specs.declared.fault.PlanFault.TheVariants.{Line, Order}
use Rattle.gates.specs.declared.gate_line.GateLine.{GateLine}
use Rattle.text.specs.declared.keys.Key.{Key}
use Rattle.text.specs.declared.keys.Key.TheVariants.{Gate, Class, Flow}
use Rattle.text.specs.Cuts.{before, past, has, how_many}
use Rattle.text.specs.Marks.{line_end, comma}
use Rattle.text.specs.Keys.{value_in}
use Rattle.reader.specs.declared.parsed.Kind.{Kind}
use Rattle.reader.specs.declared.parsed.Kind.TheVariants.{Bucket, Periodic}
use Rattle.reader.specs.declared.parsed.Place.{Place}
use Rattle.reader.specs.Chain.{and_then, within}
use Rattle.reader.specs.Fields.{number_field, gate_in, kind_in, sizes_in, flow_in}
use Rattle.reader.specs.Contents.{FlowEntry, ClassEntry, largest_of}
use Rattle.reader.specs.Views.{entry_place}

-- In what follows text is what is left of the plan text, and k is the number of its first line.

-- the line k, without its byte 10
abbrev pub line_at : ℕ → List ℕ → Result (List ℕ) LineFault
line_at k text = cond (has line_end text) (Ok (before line_end text)) (Err (Missing k))

-- the fields of the line k, which has the due key and so many commas between its fields
unfoldable pub due_line : ℕ → Key → ℕ → List ℕ → Result (List ℕ) LineFault
due_line k due commas text =
    and_then (line_at k text) (λ line.
    and_then (value_in k due line) (λ v.
    cond (how_many comma v == commas) (Ok v) (Err (Field (Form k)))))

-- a fault of a field, held whole by one of the line, and that by one of the plan
abbrev pub in_field : {X : Type 0} → Result X FieldFault → Result X PlanFault
in_field r = within (λ f. Line (Field f)) r

-- the number on the line k
unfoldable pub number_line : ℕ → Key → ℕ → ℕ → List ℕ → Result ℕ LineFault
number_line k due least most text = and_then (due_line k due 0 text) (λ v. within Field (number_field k least most (before comma v)))

-- the gate line k
unfoldable pub gate_line : ℕ → List ℕ → Result GateLine LineFault
gate_line k text = and_then (due_line k Gate 1 text) (λ v. within Field (gate_in k v))

-- the class line k, which has to be that of the class c
unfoldable pub class_line : ℕ → ℕ → List ℕ → Result ClassEntry PlanFault
class_line k c text =
    and_then (within Line (due_line k Class 2 text)) (λ v.
    and_then (in_field (number_field k 0 7 (before comma v))) (λ n.
    cond (n == c) (in_field (sizes_in k (past comma v))) (Err (Order k))))

-- whether a flow of the second kind may follow one of the first in a class: b before p
abbrev pub kind_after : Kind → Kind → Bool
kind_after Bucket next = true
kind_after Periodic Bucket = false
kind_after Periodic Periodic = true

-- a flow of the class c, which has the largest frame m, behind one at the place last: its kind, which keeps the order within a class, and its numbers
abbrev pub flow_behind : ℕ → ℕ → Place → ℕ → List ℕ → Result FlowEntry PlanFault
flow_behind k m last c xs =
    and_then (in_field (kind_in k (before comma xs))) (λ kind.
    cond (nat_lt c last.class || kind_after last.kind kind) (and_then (in_field (flow_in k kind m (past comma xs))) (λ f. Ok (record { class = c; flow = f }))) (Err (Order k)))

-- the flow line k, where cs are the classes and the flow line before it has the place last: its class does not rise and sends something
unfoldable pub flow_line : ℕ → List ClassEntry → Place → List ℕ → Result FlowEntry PlanFault
flow_line k cs last text =
    and_then (within Line (due_line k Flow 4 text)) (λ v.
    and_then (in_field (number_field k 0 7 (before comma v))) (λ c.
    cond (nat_le c last.class && nat_lt 0 (largest_of cs c)) (flow_behind k (largest_of cs c) last c (past comma v)) (Err (Order k))))

-- the place before the first flow line, which any flow may follow
abbrev pub first : Place
first = record { class = 7; kind = Bucket }

-- the place of the last of the flows, after one at p
abbrev pub place_after : Place → List FlowEntry → Place
place_after p [] = p
place_after p (f ∷ fs) = place_after (entry_place f) fs

-- the gate lines gs and then the line k
abbrev pub next_gate : List GateLine → ℕ → List ℕ → Result (List GateLine) LineFault
next_gate gs k text = and_then (gate_line k text) (λ g. Ok (gs ++ g ∷ []))

-- the line k in front of the classes cs: class 7 comes first, and each other one stands below it
abbrev pub next_class : List ClassEntry → ℕ → List ℕ → Result (List ClassEntry) PlanFault
next_class cs k text = and_then (class_line k (7 - length cs) text) (λ c. Ok (c ∷ cs))

-- the flows fs and then the line k, in a plan with the classes cs
abbrev pub next_flow : List ClassEntry → List FlowEntry → ℕ → List ℕ → Result (List FlowEntry) PlanFault
next_flow cs fs k text = and_then (flow_line k cs (place_after first fs) text) (λ f. Ok (fs ++ f ∷ []))
