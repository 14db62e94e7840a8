-- A text that is read is the text of the plan that is read: list by list, and then the whole.
use Rattle.std.proofs.Common.{◌≡◌, ℕ, zero, suc, ◌+◌, ◌-◌, ◌≤◌, ◌&&◌, eqb, leb, List, [], ◌∷◌, ◌++◌, length, Ok, Result, sym, ap, ◌∙◌, subst, arith}
use Rattle.std.specs.List.{flat_map, AllByRecursion}
use Rattle.std.proofs.ByRecursion.{All-get_or, All-push, All-weaker}
use Rattle.std.proofs.lemmas.List.{append_assoc, append-nil, flat_map_more, length_push, nil_from_length}
use Rattle.std.proofs.lemmas.Bool.{eqb-true, leb-true, and_parts}
use Rattle.units.specs.Limits.{classes, most_port, most_lines, most_cycle, most_flows, most_text}
use Rattle.faults.specs.declared.fault.PlanFault.TheVariants.{Line}
use Rattle.gates.specs.declared.gate_line.GateLine.{GateLine}
use Rattle.gates.specs.Opened.{total, Lawful}
use Rattle.gates.specs.Sizes.{Sized}
use Rattle.text.specs.declared.keys.Key.TheVariants as key
use Rattle.text.specs.Cuts.{past}
use Rattle.reader.specs.declared.parsed.Place.{Place}
use Rattle.reader.specs.Chain.{within, each, skip}
use Rattle.reader.specs.Contents.{Contents, Heading, FlowEntry, ClassEntry}
use Rattle.reader.specs.Views.{entry_place}
use Rattle.reader.specs.Entries.{number_line, gate_line, class_line, flow_line, first, place_after, next_gate, next_class, next_flow}
use Rattle.reader.specs.Reading.{header_in, gates_listed, classes_listed, flows_listed, read_lines, read_plan}
use Rattle.writing.specs.Inverse.{OnlyTexts}
use Rattle.writing.specs.Written.{number_text, gate_text, class_text, class_texts, flow_text, write, FlowFits, Ordered, Sound}
use Rattle.writing.proofs.Inversions.{ok_ok, then_ok, within_ok, cond_ok}
use Rattle.writing.proofs.LinesBack.{number_line_back, gate_line_back, class_line_back}
use Rattle.writing.proofs.FlowsBack.{flow_line_back}

-- lines one after another: where each line adds its text to what is written, and one entry, and keeps what holds, so do n lines
module _ {X E : Type 0} (f : List X → ℕ → List ℕ → Result (List X) E) (written : List X → List ℕ) (Kept : List X → Type 0)
    (step : (xs ys : List X) (k : ℕ) (text : List ℕ) → f xs k text ≡ Ok ys → (written xs ++ text ≡ written ys ++ past 10 text) × (length ys ≡ length xs + 1) × (Kept xs → Kept ys)) where
  each_back : (n k : ℕ) (text : List ℕ) (xs zs : List X) → each f n k text xs ≡ Ok zs →
      (written xs ++ text ≡ written zs ++ skip n text) × (length zs ≡ length xs + n) × (Kept xs → Kept zs)
  unfolding each skip
  each_back zero k text xs zs e =
      let same = ok_ok e in
      (ap (λ l. written l ++ text) same, let l = ap length same in omega arith, subst Kept same)
  each_back (suc n) k text xs zs e =
      let p = then_ok (f xs k text) _ zs e in
      let s = step xs p.0 k text p.1 in
      let r = each_back n (k + 1) (past 10 text) p.0 zs p.2 in
      (s.0 ∙ r.0, let a = s.1 in let b = r.1 in omega arith, λ h. r.2 (s.2 h))

-- a line after those that are written
joined_on : {X : Type 0} (f : X → List ℕ) (xs : List X) (x : X) (text left : List ℕ) → text ≡ f x ++ left → flat_map f xs ++ text ≡ flat_map f (xs ++ x ∷ []) ++ left
joined_on f xs x text left e = ap (λ l. flat_map f xs ++ l) e ∙ sym (append_assoc (flat_map f xs) (f x) left) ∙ ap (λ l. l ++ left) (flat_map_more f [] xs x)

-- gate lines
abbrev GateFits : GateLine → Type 0
GateFits g = (1 ≤ g.length.0) × (length g.gates ≡ classes)

gate_step : (gs hs : List GateLine) (k : ℕ) (text : List ℕ) → next_gate gs k text ≡ Ok hs →
    (flat_map gate_text gs ++ text ≡ flat_map gate_text hs ++ past 10 text) × (length hs ≡ length gs + 1) × (AllByRecursion GateFits gs → AllByRecursion GateFits hs)
gate_step gs hs k text e =
    let p = then_ok (gate_line k text) _ hs e in
    let b = gate_line_back k text p.0 p.1 in
    let more = ok_ok p.2 in (
      joined_on gate_text gs p.0 text (past 10 text) b.0 ∙ ap (λ l. flat_map gate_text l ++ past 10 text) more,
      ap length (sym more) ∙ length_push gs p.0,
      λ h. subst (AllByRecursion GateFits) more (All-push GateFits gs p.0 h (b.1, b.2)),
    )

gates_back : (cycle n : ℕ) (text : List ℕ) (gs : List GateLine) → gates_listed cycle n text ≡ Ok gs →
    (text ≡ flat_map gate_text gs ++ skip n text) × (length gs ≡ n) × AllByRecursion GateFits gs × (total gs ≡ cycle)
unfolding gates_listed
gates_back cycle n text gs e =
    let p = then_ok (within Line (each next_gate n 4 text [])) _ gs e in
    let q = cond_ok (eqb (total p.0) cycle) _ _ gs p.2 in
    let same = ok_ok q.1 in
    let r = each_back next_gate (flat_map gate_text) (AllByRecursion GateFits) gate_step n 4 text [] gs (within_ok Line _ p.0 p.1 ∙ ap Ok same) in
    (r.0, let l = r.1 in omega arith, r.2 tt, ap total (sym same) ∙ eqb-true _ cycle q.0)

-- class lines
abbrev SizesFit : ClassEntry → Type 0
SizesFit c = Sized c.largest c.depth

class_step : (cs ds : List ClassEntry) (k : ℕ) (text : List ℕ) → next_class cs k text ≡ Ok ds →
    (class_texts cs ++ text ≡ class_texts ds ++ past 10 text) × (length ds ≡ length cs + 1) × (AllByRecursion SizesFit cs → AllByRecursion SizesFit ds)
class_step cs ds k text e =
    let p = then_ok (class_line k (7 - length cs) text) _ ds e in
    let b = class_line_back k (7 - length cs) text p.0 p.1 in
    let more = ok_ok p.2 in (
      ap (λ l. class_texts cs ++ l) b.0 ∙ sym (append_assoc (class_texts cs) (class_text (7 - length cs) p.0) (past 10 text)) ∙ ap (λ l. class_texts l ++ past 10 text) more,
      (let l = ap length more in omega arith),
      λ h. subst (AllByRecursion SizesFit) more (b.1, h),
    )

classes_back : (k : ℕ) (text : List ℕ) (cs : List ClassEntry) → classes_listed k text ≡ Ok cs → (text ≡ class_texts cs ++ skip classes text) × (length cs ≡ classes) × AllByRecursion SizesFit cs
unfolding classes_listed
classes_back k text cs e =
    let r = each_back next_class class_texts (AllByRecursion SizesFit) class_step classes k text [] cs e in
    (r.0, let l = r.1 in omega arith, r.2 tt)

-- flow lines: flows in order stay so with one more that may follow the last
ordered_more : (cs : List ClassEntry) (p : Place) (fs : List FlowEntry) (f : FlowEntry) → Ordered cs p fs → FlowFits cs (place_after p fs) f → Ordered cs p (fs ++ f ∷ [])
ordered_more cs p [] f h fits = (fits, tt)
ordered_more cs p (g ∷ gs) f h fits = (h.0, ordered_more cs (entry_place g) gs f h.1 fits)

flow_step : (cs : List ClassEntry) (fs gs : List FlowEntry) (k : ℕ) (text : List ℕ) → next_flow cs fs k text ≡ Ok gs →
    (flat_map flow_text fs ++ text ≡ flat_map flow_text gs ++ past 10 text) × (length gs ≡ length fs + 1) × (Ordered cs first fs → Ordered cs first gs)
flow_step cs fs gs k text e =
    let p = then_ok (flow_line k cs (place_after first fs) text) _ gs e in
    let b = flow_line_back k cs (place_after first fs) text p.0 p.1 in
    let more = ok_ok p.2 in (
      joined_on flow_text fs p.0 text (past 10 text) b.0 ∙ ap (λ l. flat_map flow_text l ++ past 10 text) more,
      ap length (sym more) ∙ length_push fs p.0,
      λ h. subst (Ordered cs first) more (ordered_more cs first fs p.0 h b.1),
    )

flows_back : (cs : List ClassEntry) (k : ℕ) (text : List ℕ) (fs : List FlowEntry) → flows_listed cs k text ≡ Ok fs →
    (text ≡ number_text key.Flows (length fs) ++ flat_map flow_text fs) × (length fs ≤ most_flows) × Ordered cs first fs
unfolding flows_listed
flows_back cs k text fs e =
    let p = then_ok (within Line (number_line k key.Flows 0 most_flows text)) _ fs e in
    let n = p.0 in
    let b = number_line_back k key.Flows 0 most_flows n text (within_ok Line _ n p.1) in
    let q = then_ok (each (next_flow cs) n (k + 1) (past 10 text) []) _ fs p.2 in
    let z = cond_ok (eqb (length (skip n (past 10 text))) 0) _ _ fs q.2 in
    let r = each_back (next_flow cs) (flat_map flow_text) (Ordered cs first) (flow_step cs) n (k + 1) (past 10 text) [] fs (q.1 ∙ ap Ok (ok_ok z.1)) in
    let none = nil_from_length (skip n (past 10 text)) (eqb-true _ 0 z.0) in
    let long : n ≡ length fs = let l = r.1 in omega arith in
    let lines = r.0 ∙ ap (λ l. flat_map flow_text fs ++ l) none ∙ append-nil (flat_map flow_text fs) in
    (b.0 ∙ (λ i. number_text key.Flows (long i) ++ lines i), let most = b.2 in omega arith, r.2 tt)

-- the first three lines
header_back : (text : List ℕ) (h : Heading) → header_in text ≡ Ok h →
    (text ≡ number_text key.Port h.port ++ (number_text key.Cycle h.cycle ++ (number_text key.Gates h.gates ++ skip 3 text)))
    × (1 ≤ h.port) × (h.port ≤ most_port) × (h.cycle ≤ most_cycle) × (1 ≤ h.gates) × (h.gates ≤ most_lines)
unfolding header_in skip
header_back text h e =
    let p = then_ok (number_line 1 key.Port 1 most_port text) _ h e in
    let q = then_ok (number_line 2 key.Cycle 1 most_cycle (past 10 text)) _ h p.2 in
    let r = then_ok (number_line 3 key.Gates 1 most_lines (past 10 (past 10 text))) _ h q.2 in
    let a = number_line_back 1 key.Port 1 most_port p.0 text p.1 in
    let b = number_line_back 2 key.Cycle 1 most_cycle q.0 (past 10 text) q.1 in
    let c = number_line_back 3 key.Gates 1 most_lines r.0 (past 10 (past 10 text)) r.1 in
    let said : Heading → Type 0 = λ x.
    (text ≡ number_text key.Port x.port ++ (number_text key.Cycle x.cycle ++ (number_text key.Gates x.gates ++ skip 3 text)))
    × (1 ≤ x.port) × (x.port ≤ most_port) × (x.cycle ≤ most_cycle) × (1 ≤ x.gates) × (x.gates ≤ most_lines) in
    subst said (ok_ok r.2)
    (a.0 ∙ ap (λ l. number_text key.Port p.0 ++ l) (b.0 ∙ ap (λ l. number_text key.Cycle q.0 ++ l) c.0), a.1, a.2, b.2, c.1, c.2)

-- gate lines of at least a tick each, which add up to the cycle, are a gate list
lawful : (gs : List GateLine) (cycle : ℕ) → AllByRecursion GateFits gs → total gs ≡ cycle → 1 ≤ length gs → length gs ≤ most_lines → cycle ≤ most_cycle → Lawful gs cycle
lawful gs cycle fit sum some few most = record { each = λ i h. (All-get_or GateFits gs i _ h fit).0; together = sum; some = some; few = few; most = most }

abbrev contents_with : Heading → List GateLine → List ClassEntry → List FlowEntry → Contents
contents_with h gs cs fs = record { port = h.port; cycle = h.cycle; gates = gs; classes = cs; flows = fs }

-- the parts of a text that is read, put together
whole : (text : List ℕ) (h : Heading) (gs : List GateLine) (cs : List ClassEntry) (fs : List FlowEntry) →
    header_in text ≡ Ok h → gates_listed h.cycle h.gates (skip 3 text) ≡ Ok gs → classes_listed (4 + h.gates) (skip h.gates (skip 3 text)) ≡ Ok cs →
    flows_listed cs (12 + h.gates) (skip classes (skip h.gates (skip 3 text))) ≡ Ok fs → Sound (contents_with h gs cs fs) × (text ≡ write (contents_with h gs cs fs))
unfolding write
whole text h gs cs fs p q r t =
    let a = header_back text h p in
    let b = gates_back h.cycle h.gates (skip 3 text) gs q in
    let c = classes_back (4 + h.gates) (skip h.gates (skip 3 text)) cs r in
    let d = flows_back cs (12 + h.gates) (skip classes (skip h.gates (skip 3 text))) fs t in
    let long = b.1 in
    let some = a.4 in
    let few = a.5 in
    let listed = b.0 ∙ ap (λ l. flat_map gate_text gs ++ l) (c.0 ∙ ap (λ l. class_texts cs ++ l) d.0) in (
      record {
        port_low = a.1;
        port_high = a.2;
        lines = lawful gs h.cycle b.2 b.3 (omega arith) (omega arith) a.3;
        letters_all = All-weaker GateFits (λ g. length g.gates ≡ classes) (λ g f. f.1) gs b.2;
        classes_all = c.1;
        sizes = c.2;
        flows_few = d.1;
        flows = d.2;
      },
      a.0 ∙ (λ i. number_text key.Port h.port ++ (number_text key.Cycle h.cycle ++ (number_text key.Gates (sym long i) ++ listed i))),
    )

lines_back : (text : List ℕ) (s : Contents) → read_lines text ≡ Ok s → Sound s × (text ≡ write s)
unfolding read_lines
lines_back text s e =
    let p = then_ok (within Line (header_in text)) _ s e in
    let h = p.0 in
    let q = then_ok (gates_listed h.cycle h.gates (skip 3 text)) _ s p.2 in
    let r = then_ok (classes_listed (4 + h.gates) (skip h.gates (skip 3 text))) _ s q.2 in
    let t = then_ok (flows_listed r.0 (12 + h.gates) (skip classes (skip h.gates (skip 3 text)))) _ s r.2 in
    let said : Contents → Type 0 = λ x. Sound x × (text ≡ write x) in
    subst said (ok_ok t.2) (whole text h q.0 r.0 t.0 (within_ok Line _ h p.1) q.1 r.1 t.1)

-- a text that is read is the text of the plan that is read
pub only_texts : OnlyTexts
unfolding read_plan
only_texts text s e =
    let p = cond_ok (leb 1 (length text) && leb (length text) most_text) (read_lines text) _ s e in
    let size = and_parts (leb 1 (length text)) (leb (length text) most_text) p.0 in
    let b = lines_back text s p.1 in
    record { sound = b.0; written = b.1; short = leb-true (length text) most_text size.1 }
