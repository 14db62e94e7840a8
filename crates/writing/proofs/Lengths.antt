-- How long the text of a plan can be: with seven digits for every number, it stays below the most bytes of a plan text.
use Rattle.std.proofs.Common.{◌≡◌, ℕ, ◌+◌, ◌-◌, ◌*◌, ◌<◌, ◌≤◌, List, [], ◌∷◌, ◌++◌, reverse, length, decimal, arith}
use Rattle.std.specs.List.{flat_map, AllByRecursion}
use Rattle.std.proofs.lemmas.Fmt.{length-decimal-le}
use Rattle.std.proofs.lemmas.List.{length-append, length-map, length-reverse}
use Rattle.units.specs.Limits.{most_text, classes, most_cycle, most_frame}
use Rattle.gates.specs.declared.gate_line.Gate.{Gate}
use Rattle.gates.specs.declared.gate_line.GateLine.{GateLine}
use Rattle.gates.specs.Opened.{total}
use Rattle.gates.specs.Sizes.{Sized}
use Rattle.text.specs.declared.keys.Key.{Key}
use Rattle.text.specs.declared.keys.Key.TheVariants as key
use Rattle.text.specs.Keys.{word}
use Rattle.text.specs.Marks.{line_end, comma}
use Rattle.reader.specs.declared.parsed.Place.{Place}
use Rattle.reader.specs.Contents.{Flow, bucket, periodic, FlowEntry, ClassEntry, largest_of}
use Rattle.reader.specs.Views.{entry_place}
use Rattle.writing.specs.Inverse.{ShortTexts}
use Rattle.writing.specs.Written.{line_of, number_text, field, letter, letters, gate_text, class_text, class_texts, flow_fields, flow_text, write, FlowRange, Ordered}
use Rattle.writing.proofs.FlowsForth.{largest_most}

-- a number of at most seven digits
digits_most : (n : ℕ) → n < 10000000 → length (decimal n) ≤ 7
digits_most n h = length-decimal-le 7 n (omega arith) (omega arith) (omega arith)

-- a key and its equals sign
word_most : (due : Key) → length (word due) ≤ 6
word_most key.Port = omega arith
word_most key.Cycle = omega arith
word_most key.Gates = omega arith
word_most key.Gate = omega arith
word_most key.Class = omega arith
word_most key.Flows = omega arith
word_most key.Flow = omega arith

-- a line around its fields
line_most : (due : Key) (fields : List ℕ) (n : ℕ) → length fields ≤ n → length (line_of due fields) ≤ n + 7
line_most due fields n h =
    let a = length-append (word due ++ fields) (line_end ∷ []) in
    let b = length-append (word due) fields in
    let w = word_most due in
    omega arith

-- a number in front of other fields
field_most : (m : ℕ) (fields : List ℕ) (n : ℕ) → m < 10000000 → length fields ≤ n → length (field m fields) ≤ n + 8
field_most m fields n s h = let a = length-append (decimal m) (comma ∷ fields) in let d = digits_most m s in omega arith

-- a line with one number
number_most : (due : Key) (n : ℕ) → n < 10000000 → length (number_text due n) ≤ 14
number_most due n h = line_most due (decimal n) 7 (digits_most n h)

-- the letters of a gate line
letters_most : (gs : List Gate) → length gs ≡ classes → length (letters gs) ≤ 8
letters_most gs e = let a = length-map (reverse gs) letter in let b = length-reverse gs in omega arith

-- the gate lines
gates_most : (gs : List GateLine) → AllByRecursion (λ g. length g.gates ≡ classes) gs → total gs ≤ most_cycle → length (flat_map gate_text gs) ≤ 23 * length gs
unfolding total
gates_most [] h t = omega arith
gates_most (g ∷ gs) h t =
    let here = line_most key.Gate (field g.length.0 (letters g.gates)) 16 (field_most g.length.0 (letters g.gates) 8 (omega arith) (letters_most g.gates h.0)) in
    let rest = gates_most gs h.1 (omega arith) in
    let a = length-append (gate_text g) (flat_map gate_text gs) in
    omega arith

-- the class lines
classes_most : (es : List ClassEntry) → AllByRecursion (λ e. Sized e.largest e.depth) es → length (class_texts es) ≤ 30 * length es
classes_most [] h = omega arith
classes_most (e ∷ es) h =
    let s = h.0 in
    let depth = digits_most e.depth (omega (arith, s.deep)) in
    let sizes = field_most e.largest (decimal e.depth) 7 (omega (arith, s.most)) depth in
    let here = line_most key.Class (field (7 - length es) (field e.largest (decimal e.depth))) 23 (field_most (7 - length es) _ 15 (omega arith) sizes) in
    let rest = classes_most es h.1 in
    let a = length-append (class_texts es) (class_text (7 - length es) e) in
    omega arith

-- the fields of a flow behind its class
flow_most : (m : ℕ) (f : Flow) → m ≤ most_frame → FlowRange m f → length (flow_fields f) ≤ 25
flow_most m (bucket burst num den) h r =
    let d = digits_most den (omega (arith, r.den_high)) in
    let n = field_most num (decimal den) 7 (omega (arith, r.num_high, r.den_high)) d in
    let b = field_most burst (field num (decimal den)) 15 (omega (arith, r.burst_high)) n in
    omega arith
flow_most m (periodic bytes period jitter) h r =
    let j = digits_most jitter (omega (arith, r.4)) in
    let p = field_most period (decimal jitter) 7 (omega (arith, r.3)) j in
    let b = field_most bytes (field period (decimal jitter)) 15 (omega (arith, r.1)) p in
    omega arith

-- the flow lines
flow_lines_most : (cs : List ClassEntry) (p : Place) (fs : List FlowEntry) → AllByRecursion (λ e. Sized e.largest e.depth) cs → p.class ≤ 7 → Ordered cs p fs → length (flat_map flow_text fs) ≤ 40 * length fs
flow_lines_most cs p [] all h o = omega arith
flow_lines_most cs p (f ∷ fs) all h o =
    let low = o.0.falls in
    let numbers = flow_most (largest_of cs f.class) f.flow (largest_most cs all f.class) o.0.numbers in
    let here = line_most key.Flow (field f.class (flow_fields f.flow)) 33 (field_most f.class (flow_fields f.flow) 25 (omega arith) numbers) in
    let rest = flow_lines_most cs (entry_place f) fs all (omega arith) o.1 in
    let a = length-append (flow_text f) (flat_map flow_text fs) in
    omega arith

-- the parts of a text together
parts_most : (a b c d e f g : List ℕ) → length a ≤ 14 → length b ≤ 14 → length c ≤ 14 → length d ≤ 1472 → length e ≤ 240 → length f ≤ 14 → length g ≤ 2560 →
    length (a ++ (b ++ (c ++ (d ++ (e ++ (f ++ g)))))) ≤ most_text
parts_most a b c d e f g la lb lc ld le lf lg =
    let p = length-append a (b ++ (c ++ (d ++ (e ++ (f ++ g))))) in
    let q = length-append b (c ++ (d ++ (e ++ (f ++ g)))) in
    let r = length-append c (d ++ (e ++ (f ++ g))) in
    let t = length-append d (e ++ (f ++ g)) in
    let u = length-append e (f ++ g) in
    let v = length-append f g in
    omega arith

-- no plan has a text that is too long
pub short_texts : ShortTexts
unfolding write
short_texts s sound =
    let port = number_most key.Port s.port (omega (arith, sound.port_high)) in
    let cycle = number_most key.Cycle s.cycle (omega (arith, sound.lines.most)) in
    let count = number_most key.Gates (length s.gates) (omega (arith, sound.lines.few)) in
    let gates = gates_most s.gates sound.letters_all (omega (arith, sound.lines.together, sound.lines.most)) in
    let sizes = classes_most s.classes sound.sizes in
    let number = number_most key.Flows (length s.flows) (omega (arith, sound.flows_few)) in
    let flows = flow_lines_most s.classes _ s.flows sound.sizes (omega arith) sound.flows in
    parts_most (number_text key.Port s.port) (number_text key.Cycle s.cycle) (number_text key.Gates (length s.gates)) (flat_map gate_text s.gates) (class_texts s.classes)
    (number_text key.Flows (length s.flows)) (flat_map flow_text s.flows) port cycle count (omega (arith, gates, sound.lines.few)) (omega (arith, sizes, sound.classes_all)) number
    (omega (arith, flows, sound.flows_few))
