-- What a plan text says, or why it is refused: the lines in the order in which they are due. Assumes nothing.
use Rattle.std.specs.Prelude.{◌≡◌, ℕ, ◌+◌, ◌⊎◌, cond, ◌&&◌, List, [], length, Ok, Err, Result, ◌==◌, nat_le}
use Rattle.units.specs.Limits.{classes, most_text, most_port, most_lines, most_cycle, most_flows}
use Rattle.faults.specs.declared.fault.LineFault.{LineFault}
use Rattle.faults.specs.declared.fault.PlanFault.{PlanFault}
use Rattle.faults.specs.declared.fault.PlanFault.TheVariants.{Size, Sum, More, Line, Memory}
use Rattle.gates.specs.declared.gate_line.GateLine.{GateLine}
use Rattle.gates.specs.Opened.{total}
use Rattle.text.specs.declared.keys.Key.TheVariants.{Port, Cycle, Gates, Flows}
use Rattle.text.specs.Cuts.{past}
use Rattle.text.specs.Marks.{line_end}
use Rattle.reader.specs.Chain.{and_then, within, each, skip}
use Rattle.reader.specs.Entries.{number_line, next_gate, next_class, next_flow}
use Rattle.reader.specs.Contents.{Contents, Heading, ClassEntry, FlowEntry}

-- the lines 1 to 3: the port, the cycle and the number of gate lines
unfoldable pub header_in : List ℕ → Result Heading LineFault
header_in text =
    and_then (number_line 1 Port 1 most_port text) (λ port.
    and_then (number_line 2 Cycle 1 most_cycle (past line_end text)) (λ cycle.
    and_then (number_line 3 Gates 1 most_lines (past line_end (past line_end text))) (λ gates.
    Ok (record { port = port; cycle = cycle; gates = gates }))))

-- n gate lines from line 4 on, whose lengths add up to the cycle
unfoldable pub gates_listed : ℕ → ℕ → List ℕ → Result (List GateLine) PlanFault
gates_listed cycle n text =
    and_then (within Line (each next_gate n 4 text [])) (λ gs.
    cond (total gs == cycle) (Ok gs) (Err (Sum (3 + n))))

-- the eight class lines from line k on
unfoldable pub classes_listed : ℕ → List ℕ → Result (List ClassEntry) PlanFault
classes_listed k text = each next_class classes k text []

-- the number of flow lines on the line k, the flow lines, and then nothing
unfoldable pub flows_listed : List ClassEntry → ℕ → List ℕ → Result (List FlowEntry) PlanFault
flows_listed cs k text =
    and_then (within Line (number_line k Flows 0 most_flows text)) (λ n.
    and_then (each (next_flow cs) n (k + 1) (past line_end text) []) (λ fs.
    cond (length (skip n (past line_end text)) == 0) (Ok fs) (Err (More (k + 1 + n)))))

-- all the lines
unfoldable pub read_lines : List ℕ → Result Contents PlanFault
read_lines text =
    and_then (within Line (header_in text)) (λ h.
    and_then (gates_listed h.cycle h.gates (skip 3 text)) (λ gs.
    and_then (classes_listed (4 + h.gates) (skip h.gates (skip 3 text))) (λ cs.
    and_then (flows_listed cs (12 + h.gates) (skip classes (skip h.gates (skip 3 text)))) (λ fs.
    Ok (record { port = h.port; cycle = h.cycle; gates = gs; classes = cs; flows = fs })))))

-- a text of 1 to 8,192 bytes
unfoldable pub read_plan : List ℕ → Result Contents PlanFault
read_plan text = cond (nat_le 1 (length text) && nat_le (length text) most_text) (read_lines text) (Err Size)

-- why no plan is read from a text: the first fault in it, or that memory is wanting
abbrev pub FaultOf : List ℕ → PlanFault → Type 0
FaultOf text e = (e ≡ Memory) ⊎ (Err e ≡ read_plan text)
