-- What a parsed text says, in plain numbers. Assumes nothing.
use Rattle.std.specs.Prelude.{List, map, vec_items}
use Rattle.std.specs.Global.{Vec}
use Rattle.gates.specs.declared.gate_list.GateList.{GateList}
use Rattle.gates.specs.declared.gate_line.GateLine.{GateLine}
use Rattle.reader.specs.declared.parsed.Header.{Header}
use Rattle.reader.specs.declared.parsed.Parsed.{Parsed}
use Rattle.reader.specs.declared.parsed.FlowLine.{FlowLine}
use Rattle.reader.specs.Contents.{Contents, Heading, FlowEntry}
use Rattle.reader.specs.Views.{entry_of, sizes_of}

-- the lines of a gate list
abbrev pub lines_of : GateList → List GateLine
lines_of g = vec_items g.lines

-- flow lines, in plain numbers
abbrev pub entries_of : Vec FlowLine → List FlowEntry
entries_of v = map entry_of (vec_items v)

-- the first three lines, in plain numbers
abbrev pub header_of : Header → Heading
header_of h = record { port = h.port; cycle = h.cycle; gates = h.gates }

-- the contents of a parsed text
abbrev pub contents_of : Parsed → Contents
contents_of p = record { port = p.port; cycle = p.gates.cycle.0; gates = lines_of p.gates; classes = map sizes_of p.classes; flows = entries_of p.flows }
