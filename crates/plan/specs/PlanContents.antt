-- What a plan that a caller holds says, in plain numbers. Assumes nothing.
use Rattle.std.specs.Prelude.{map, vec_items}
use Rattle.reader.specs.Parsed.{lines_of}
use Rattle.reader.specs.Contents.{Contents}
use Rattle.reader.specs.Views.{sizes_of}
use Rattle.plan.specs.declared.plan.Plan.{Plan}
use Rattle.plan.specs.ByClass.{entries_down, sizes_up}

-- the contents of a plan, with its flows in the order of a plan text
abbrev pub contents : Plan → Contents
contents p = record { port = p.port; cycle = p.gates.cycle.0; gates = lines_of p.gates; classes = map sizes_of (sizes_up (vec_items p.classes)); flows = entries_down 7 (vec_items p.classes) }
