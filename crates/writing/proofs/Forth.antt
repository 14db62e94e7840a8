-- The text of every plan is read as that plan: the lists of lines one after another, and then all the lines.
use Rattle.std.proofs.Common.{◌≡◌, ℕ, suc, ◌+◌, ◌-◌, ◌<◌, ◌≤◌, List, [], ◌∷◌, ◌++◌, length, Ok, Result, sym, refl, ap, ◌∙◌, arith}
use Rattle.std.specs.List.{flat_map, AllByRecursion}
use Rattle.std.proofs.lemmas.List.{append_assoc, append-nil}
use Rattle.std.proofs.lemmas.Bool.{eq-eqb, cond-true, le-leb, and_from}
use Rattle.units.specs.Limits.{classes, most_text, most_port, most_lines, most_cycle, most_frame, most_flows}
use Rattle.gates.specs.declared.gate_line.GateLine.{GateLine}
use Rattle.gates.specs.Opened.{line}
use Rattle.gates.specs.Sizes.{Sized}
use Rattle.gates.proofs.Lines.{total_some, line_most}
use Rattle.text.specs.declared.keys.Key.TheVariants as key
use Rattle.text.specs.Cuts.{past}
use Rattle.reader.specs.declared.parsed.Place.{Place}
use Rattle.reader.specs.Chain.{each, skip}
use Rattle.reader.specs.Entries.{first, place_after, number_line, flow_line, next_gate, next_class, next_flow, gate_line}
use Rattle.reader.specs.Reading.{header_in, gates_listed, classes_listed, flows_listed, read_lines, read_plan}
use Rattle.reader.specs.Contents.{Contents, FlowEntry, ClassEntry, largest_of}
use Rattle.reader.specs.Views.{entry_place}
use Rattle.writing.specs.Written.{number_text, gate_text, class_text, class_texts, flow_text, Ordered, write, Sound}
use Rattle.writing.specs.Inverse.{EveryPlan}
use Rattle.writing.proofs.LinesForth.{then_goes, within_goes, number_line_lem, number_past, gate_line_lem, gate_past, class_line_lem, class_past}
use Rattle.writing.proofs.FlowsForth.{largest_most, flow_class, flow_line_lem, flow_past}

-- one line of several, and what is left past it
each_step : {S E : Type 0} (f : S → ℕ → List ℕ → Result S E) (n k : ℕ) (text more : List ℕ) (s t : S) →
    f s k text ≡ Ok t → past 10 text ≡ more → each f (suc n) k text s ≡ each f n (k + 1) more t
unfolding each
each_step f n k text more s t e p = then_goes _ e (ap (λ x. each f n (k + 1) x t) p)

skip_step : (n : ℕ) (text more : List ℕ) → past 10 text ≡ more → skip (suc n) text ≡ skip n more
unfolding skip
skip_step n text more p = ap (skip n) p

-- gate lines are read behind those before them, and what is left past them is the rest
gates_read : (k : ℕ) (gs rs : List GateLine) (rest : List ℕ) →
    ((i : ℕ) → i < length rs → (1 ≤ (line rs i).length.0) × ((line rs i).length.0 ≤ most_cycle)) → AllByRecursion (λ g. length g.gates ≡ classes) rs →
    (each next_gate (length rs) k (flat_map gate_text rs ++ rest) gs ≡ Ok (gs ++ rs)) × (skip (length rs) (flat_map gate_text rs ++ rest) ≡ rest)
unfolding each skip
gates_read k gs [] rest b h = (ap Ok (sym (append-nil gs)), refl)
gates_read k gs (g ∷ rs) rest b h =
    let more = flat_map gate_text rs ++ rest in
    let here = b 0 (omega arith) in
    let flat = append_assoc (gate_text g) (flat_map gate_text rs) rest in
    let next = ap (past 10) flat ∙ gate_past g more here.0 here.1 in
    let is = ap (gate_line k) flat ∙ gate_line_lem g more here.0 here.1 k h.0 in
    let r = gates_read (k + 1) (gs ++ g ∷ []) rs rest (λ i l. b (suc i) (omega arith)) h.1 in
    (each_step next_gate (length rs) k _ more gs (gs ++ g ∷ []) (then_goes _ is refl) next ∙ r.0 ∙ ap Ok (append_assoc gs (g ∷ []) rs), skip_step (length rs) _ more next ∙ r.1)

-- class lines are read in front of each other, so that the last, that of the lowest class, stands first; then n lines more
classes_read : (es : List ClassEntry) (n k : ℕ) (rest : List ℕ) → AllByRecursion (λ e. Sized e.largest e.depth) es →
    (each next_class (length es + n) k (class_texts es ++ rest) [] ≡ each next_class n (k + length es) rest es) × (skip (length es + n) (class_texts es ++ rest) ≡ skip n rest)
classes_read [] n k rest h =
    let a : 0 + n ≡ n = omega arith in
    let b : k ≡ k + 0 = omega arith in
    ((λ i. each next_class (a i) (b i) rest []), ap (λ m. skip m rest) a)
classes_read (e ∷ es) n k rest h =
    let text = class_text (7 - length es) e in
    let a : suc (length es) + n ≡ length es + suc n = omega arith in
    let b : (k + length es) + 1 ≡ k + suc (length es) = omega arith in
    let flat = append_assoc (class_texts es) text rest in
    let r = classes_read es (suc n) k (text ++ rest) h.1 in
    let next = class_past (7 - length es) e rest (omega arith) h.0 in
    let is = class_line_lem (7 - length es) e rest (omega arith) h.0 (k + length es) in (
      (λ i. each next_class (a i) k (flat i) []) ∙ r.0 ∙ each_step next_class n (k + length es) _ rest es (e ∷ es) (then_goes _ is refl) next ∙ ap (λ j. each next_class n j rest (e ∷ es)) b,
      (λ i. skip (a i) (flat i)) ∙ r.1 ∙ skip_step n _ rest next,
    )

place_last : (p : Place) (fs : List FlowEntry) (f : FlowEntry) → place_after p (fs ++ f ∷ []) ≡ entry_place f
place_last p [] f = refl
place_last p (g ∷ fs) f = place_last (entry_place g) fs f

-- flow lines are read behind flows of which the last has the place p
flows_read : (cs : List ClassEntry) → ((c : ℕ) → largest_of cs c ≤ most_frame) → (k : ℕ) (fs rs : List FlowEntry) (p : Place) (rest : List ℕ) →
    place_after first fs ≡ p → p.class ≤ 7 → Ordered cs p rs →
    (each (next_flow cs) (length rs) k (flat_map flow_text rs ++ rest) fs ≡ Ok (fs ++ rs)) × (skip (length rs) (flat_map flow_text rs ++ rest) ≡ rest)
unfolding each skip
flows_read cs most k fs [] p rest e h o = (ap Ok (sym (append-nil fs)), refl)
flows_read cs most k fs (f ∷ rs) p rest e h o =
    let more = flat_map flow_text rs ++ rest in
    let flat = append_assoc (flow_text f) (flat_map flow_text rs) rest in
    let next = ap (past 10) flat ∙ flow_past cs p f more h (most f.class) o.0 in
    let is = (λ i. flow_line k cs (e i) (flat i)) ∙ flow_line_lem cs p f more h (most f.class) o.0 k in
    let r = flows_read cs most (k + 1) (fs ++ f ∷ []) rs (entry_place f) rest (place_last first fs f) (flow_class cs p f more h (most f.class) o.0) o.1 in
    (each_step (next_flow cs) (length rs) k _ more fs (fs ++ f ∷ []) (then_goes _ is refl) next ∙ r.0 ∙ ap Ok (append_assoc fs (f ∷ []) rs), skip_step (length rs) _ more next ∙ r.1)

-- the parts of a plan's text, each with all that stands behind it
module _ (s : Contents) (sound : Sound s) where
  abbrev lines : ℕ
  lines = length s.gates

  abbrev entries : ℕ
  entries = length s.flows

  abbrev from_flows : List ℕ
  from_flows = number_text key.Flows entries ++ flat_map flow_text s.flows

  abbrev from_classes : List ℕ
  from_classes = class_texts s.classes ++ from_flows

  abbrev from_gates : List ℕ
  from_gates = flat_map gate_text s.gates ++ from_classes

  abbrev from_count : List ℕ
  from_count = number_text key.Gates lines ++ from_gates

  abbrev from_cycle : List ℕ
  from_cycle = number_text key.Cycle s.cycle ++ from_count

  abbrev from_port : List ℕ
  from_port = number_text key.Port s.port ++ from_cycle

  cycle_low : 1 ≤ s.cycle
  cycle_low = omega (arith, total_some s.gates sound.lines.each sound.lines.some, sound.lines.together)

  past_port : past 10 from_port ≡ from_cycle
  past_port = number_past key.Port s.port from_cycle (omega (arith, sound.port_high))

  past_cycle : past 10 (past 10 from_port) ≡ from_count
  past_cycle = ap (past 10) past_port ∙ number_past key.Cycle s.cycle from_count (omega (arith, sound.lines.most))

  past_count : skip 3 from_port ≡ from_gates
  unfolding skip
  past_count = ap (past 10) past_cycle ∙ number_past key.Gates lines from_gates (omega (arith, sound.lines.few))

  header_read : header_in from_port ≡ Ok (record { port = s.port; cycle = s.cycle; gates = lines })
  unfolding header_in
  header_read =
      then_goes _ (number_line_lem key.Port s.port from_cycle (omega (arith, sound.port_high)) 1 1 most_port sound.port_low sound.port_high)
      (then_goes _ (ap (number_line 2 key.Cycle 1 most_cycle) past_port
      ∙ number_line_lem key.Cycle s.cycle from_count (omega (arith, sound.lines.most)) 2 1 most_cycle cycle_low sound.lines.most)
      (then_goes _ (ap (number_line 3 key.Gates 1 most_lines) past_cycle
      ∙ number_line_lem key.Gates lines from_gates (omega (arith, sound.lines.few)) 3 1 most_lines sound.lines.some sound.lines.few) refl))

  ticks : (i : ℕ) → i < lines → (1 ≤ (line s.gates i).length.0) × ((line s.gates i).length.0 ≤ most_cycle)
  ticks i l = (sound.lines.each i l, omega (arith, line_most s.gates i l, sound.lines.together, sound.lines.most))

  gates_listed_lem : gates_listed s.cycle lines from_gates ≡ Ok s.gates
  unfolding gates_listed
  gates_listed_lem = then_goes _ (within_goes _ (gates_read 4 [] s.gates from_classes ticks sound.letters_all).0) (cond-true _ _ _ (eq-eqb _ _ sound.lines.together))

  past_gates : skip lines from_gates ≡ from_classes
  past_gates = (gates_read 4 [] s.gates from_classes ticks sound.letters_all).1

  eight : classes ≡ length s.classes + 0
  eight = omega (arith, sound.classes_all)

  classes_listed_lem : (k : ℕ) → classes_listed k from_classes ≡ Ok s.classes
  unfolding classes_listed each
  classes_listed_lem k = ap (λ n. each next_class n k from_classes []) eight ∙ (classes_read s.classes 0 k from_flows sound.sizes).0

  past_classes : skip classes from_classes ≡ from_flows
  unfolding skip
  past_classes = ap (λ n. skip n from_classes) eight ∙ (classes_read s.classes 0 0 from_flows sound.sizes).1

  few : entries < 10000000
  few = omega (arith, sound.flows_few)

  flow_lines : (k : ℕ) → (each (next_flow s.classes) entries k (flat_map flow_text s.flows ++ []) [] ≡ Ok s.flows) × (skip entries (flat_map flow_text s.flows ++ []) ≡ [])
  flow_lines k = flows_read s.classes (largest_most s.classes sound.sizes) k [] s.flows first [] refl (omega arith) sound.flows

  past_number : past 10 from_flows ≡ flat_map flow_text s.flows ++ []
  past_number = number_past key.Flows entries (flat_map flow_text s.flows) few ∙ sym (append-nil (flat_map flow_text s.flows))

  flows_listed_lem : (k : ℕ) → flows_listed s.classes k from_flows ≡ Ok s.flows
  unfolding flows_listed
  flows_listed_lem k =
      then_goes _ (within_goes _ (number_line_lem key.Flows entries (flat_map flow_text s.flows) few k 0 most_flows (omega arith) sound.flows_few))
      (then_goes _ (ap (λ x. each (next_flow s.classes) entries (k + 1) x []) past_number ∙ (flow_lines (k + 1)).0)
      (cond-true _ _ _ (eq-eqb _ 0 (ap length (ap (skip entries) past_number ∙ (flow_lines k).1)))))

  lines_read : read_lines from_port ≡ Ok s
  unfolding read_lines
  lines_read =
      let to_classes = ap (skip lines) past_count ∙ past_gates in
      then_goes _ (within_goes _ header_read)
      (then_goes _ (ap (gates_listed s.cycle lines) past_count ∙ gates_listed_lem)
      (then_goes _ (ap (classes_listed (4 + lines)) to_classes ∙ classes_listed_lem (4 + lines))
      (then_goes _ (ap (flows_listed s.classes (12 + lines)) (ap (skip classes) to_classes ∙ past_classes) ∙ flows_listed_lem (12 + lines)) refl)))

  plan_read : length (write s) ≤ most_text → read_plan (write s) ≡ Ok s
  unfolding read_plan write
  plan_read short = cond-true _ _ _ (and_from _ _ (le-leb 1 (length from_port) (omega arith)) (le-leb (length from_port) most_text short)) ∙ lines_read

-- the text of a plan is read as that plan
pub every_plan : EveryPlan
every_plan text s t = ap read_plan t.written ∙ plan_read s t.sound (omega (arith, t.short, ap length t.written))
