-- The text of a plan, and the plans that have one. Assumes nothing.
use Rattle.std.specs.Prelude.{◌≡◌, ℕ, ◌-◌, ◌≤◌, true, List, [], ◌∷◌, ◌++◌, map, reverse, length, decimal}
use Rattle.std.specs.List.{flat_map, AllByRecursion}
use Rattle.units.specs.Limits.{classes, most_port, least_frame, most_flows, most_period, most_jitter}
use Rattle.envelope.specs.Ranges.{BucketRange}
use Rattle.gates.specs.declared.gate_line.Gate.{Gate}
use Rattle.gates.specs.declared.gate_line.Gate.TheVariants.{Open, Shut}
use Rattle.gates.specs.declared.gate_line.GateLine.{GateLine}
use Rattle.gates.specs.Opened.{Lawful}
use Rattle.gates.specs.Sizes.{Sized}
use Rattle.text.specs.declared.keys.Key.{Key}
use Rattle.text.specs.declared.keys.Key.TheVariants as key
use Rattle.text.specs.Marks.{line_end, comma, open_letter, shut_letter, bucket_letter, periodic_letter}
use Rattle.text.specs.Keys.{word}
use Rattle.reader.specs.declared.parsed.Place.{Place}
use Rattle.reader.specs.Entries.{first, kind_after}
use Rattle.reader.specs.Contents.{Contents, Flow, bucket, periodic, FlowEntry, ClassEntry, largest_of}
use Rattle.reader.specs.Views.{kind_of, entry_place}

-- a line is its key, an equals sign, its fields and byte 10
abbrev pub line_of : Key → List ℕ → List ℕ
line_of due fields = (word due ++ fields) ++ line_end ∷ []

-- a line with one number
abbrev pub number_text : Key → ℕ → List ℕ
number_text due n = line_of due (decimal n)

-- a field, a comma, and the fields after it
abbrev pub field : ℕ → List ℕ → List ℕ
field n fields = decimal n ++ comma ∷ fields

-- the letter of a gate
abbrev pub letter : Gate → ℕ
letter Open = open_letter
letter Shut = shut_letter

-- the letters of a gate line, class 7 first
abbrev pub letters : List Gate → List ℕ
letters gs = map letter (reverse gs)

-- a gate line
abbrev pub gate_text : GateLine → List ℕ
gate_text g = line_of key.Gate (field g.length.0 (letters g.gates))

-- the line of the class c
abbrev pub class_text : ℕ → ClassEntry → List ℕ
class_text c e = line_of key.Class (field c (field e.largest (decimal e.depth)))

-- the classes up to 7, each of which is written after the higher ones
abbrev pub class_texts : List ClassEntry → List ℕ
class_texts [] = []
class_texts (e ∷ es) = class_texts es ++ class_text (7 - length es) e

-- the fields of a flow behind its class
abbrev pub flow_fields : Flow → List ℕ
flow_fields (bucket burst num den) = bucket_letter ∷ comma ∷ field burst (field num (decimal den))
flow_fields (periodic bytes period jitter) = periodic_letter ∷ comma ∷ field bytes (field period (decimal jitter))

-- a flow line
abbrev pub flow_text : FlowEntry → List ℕ
flow_text f = line_of key.Flow (field f.class (flow_fields f.flow))

-- the text of a plan
unfoldable pub write : Contents → List ℕ
write s =
    number_text key.Port s.port ++ (number_text key.Cycle s.cycle ++ (number_text key.Gates (length s.gates) ++ (flat_map gate_text s.gates
    ++ (class_texts s.classes ++ (number_text key.Flows (length s.flows) ++ flat_map flow_text s.flows)))))

-- the numbers of a flow in a class with the largest frame m
abbrev pub FlowRange : ℕ → Flow → Type 0
FlowRange m (bucket burst num den) = BucketRange burst num den
FlowRange m (periodic bytes period jitter) = (least_frame ≤ bytes) × (bytes ≤ m) × (1 ≤ period) × (period ≤ most_period) × (jitter ≤ most_jitter)

-- a flow that may follow one at the place p
pub record FlowFits (cs : List ClassEntry) (p : Place) (f : FlowEntry) : Type 0 where
  pub falls : f.class ≤ p.class
  pub sends : 1 ≤ largest_of cs f.class
  pub kinds : f.class ≡ p.class → kind_after p.kind (kind_of f.flow) ≡ true
  pub numbers : FlowRange (largest_of cs f.class) f.flow

-- flows of which the first may follow one at the place p, and each other the one before it
abbrev pub Ordered : List ClassEntry → Place → List FlowEntry → Type 0
Ordered cs p [] = Unit {0}
Ordered cs p (f ∷ fs) = FlowFits cs p f × Ordered cs (entry_place f) fs

-- the plans that there are
pub record Sound (s : Contents) : Type 0 where
  pub port_low : 1 ≤ s.port
  pub port_high : s.port ≤ most_port
  pub lines : Lawful s.gates s.cycle
  pub letters_all : AllByRecursion (λ g. length g.gates ≡ classes) s.gates
  pub classes_all : length s.classes ≡ classes
  pub sizes : AllByRecursion (λ e. Sized e.largest e.depth) s.classes
  pub flows_few : length s.flows ≤ most_flows
  pub flows : Ordered s.classes first s.flows
