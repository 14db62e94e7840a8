-- Lists of lines, by steps of a loop.
use Rattle.std.proofs.Common.{◌≡◌, ℕ, suc, ◌+◌, ◌-◌, ◌≤◌, List, [], ◌∷◌, ◌++◌, map, length, drop, set, Ok, Err, Result, sym, refl, ap, ◌∙◌, arith}
use Rattle.std.proofs.lemmas.List.{length-map, length-drop, map-append}
use Rattle.std.proofs.lemmas.Grind.{drop-set_at}
use Rattle.faults.specs.declared.fault.LineFault.{LineFault}
use Rattle.faults.specs.declared.fault.PlanFault.{PlanFault}
use Rattle.gates.specs.declared.gate_line.GateLine.{GateLine}
use Rattle.gates.specs.declared.traffic_class.TrafficClass.{TrafficClass}
use Rattle.text.specs.Cuts.{past}
use Rattle.reader.specs.declared.parsed.FlowLine.{FlowLine}
use Rattle.reader.specs.declared.parsed.Place.{Place}
use Rattle.reader.specs.declared.reader.Reader.{Reader}
use Rattle.reader.specs.Chain.{and_then, each, skip}
use Rattle.reader.specs.Entries.{gate_line, class_line, flow_line, first, place_after, next_gate, next_class, next_flow}
use Rattle.reader.specs.Moves.{PastLine, PastLines}
use Rattle.reader.specs.Contents.{ClassEntry, FlowEntry}
use Rattle.reader.specs.Views.{sizes_of, entry_of, entry_place}

-- some lines are left of the n on which an old reader began with z: they and what is read so far give what all of them give
pub record Midway {S E : Type 0} (f : S → ℕ → List ℕ → Result S E) (n : ℕ) (old : Reader) (z : S) (left : ℕ) (now : Reader) (s : S) : Type 0 where
  pub value : each f left now.line now.rest.now s ≡ each f n old.line old.rest.now z
  pub rest : skip left now.rest.now ≡ skip n old.rest.now
  pub line : now.line + left ≡ old.line + n

module _ {S E : Type 0} (f : S → ℕ → List ℕ → Result S E) (n : ℕ) (old : Reader) (z : S) (left : ℕ) where
  module _ (now : Reader) (s : S) (h : Midway f n old z left now s) where
    -- one line more
    pub onward : (m : ℕ) (new : Reader) (next : S) → left ≡ suc m → Ok next ≡ f s now.line now.rest.now → PastLine now new → Midway f n old z m new next
    unfolding each skip
    onward m new next l e p = record {
      value = (λ i. each f m (p.line i) (p.rest i) next) ∙ ap (λ r. and_then r (each f m (now.line + 1) (past 10 now.rest.now))) e ∙ sym (ap (λ j. each f j now.line now.rest.now s) l) ∙ h.value;
      rest = ap (skip m) p.rest ∙ sym (ap (λ j. skip j now.rest.now) l) ∙ h.rest;
      line = omega (arith, p.line, h.line);
    }

    -- a line with a fault
    pub stopped : (m : ℕ) (e : E) → left ≡ suc m → Err e ≡ f s now.line now.rest.now → Err e ≡ each f n old.line old.rest.now z
    unfolding each
    stopped m e l g = ap (λ r. and_then r (each f m (now.line + 1) (past 10 now.rest.now))) g ∙ sym (ap (λ j. each f j now.line now.rest.now s) l) ∙ h.value

    -- no line left
    pub ended : left ≡ 0 → Ok s ≡ each f n old.line old.rest.now z
    unfolding each
    ended l = sym (ap (λ j. each f j now.line now.rest.now s) l) ∙ h.value

    -- and the reader is past all of them
    pub passed : left ≡ 0 → PastLines n old now
    unfolding skip
    passed l = record { rest = sym (ap (λ j. skip j now.rest.now) l) ∙ h.rest; line = omega (arith, h.line) }

-- one line more, or a fault
pub gate_next : (gs : List GateLine) (k : ℕ) (text : List ℕ) (g : GateLine) → Ok g ≡ gate_line k text → Ok (gs ++ g ∷ []) ≡ next_gate gs k text
gate_next gs k text g e = ap (λ r. and_then r (λ x. Ok (gs ++ x ∷ []))) e

-- a fault of a gate line
pub gate_stop : (gs : List GateLine) (k : ℕ) (text : List ℕ) (e : LineFault) → Err e ≡ gate_line k text → Err e ≡ next_gate gs k text
gate_stop gs k text e h = ap (λ r. and_then r (λ x. Ok (gs ++ x ∷ []))) h

module _ (cs : List ClassEntry) (c k : ℕ) (text : List ℕ) (due : 7 - length cs ≡ c) where
  -- a class line more
  pub class_next : (x : ClassEntry) → Ok x ≡ class_line k c text → Ok (x ∷ cs) ≡ next_class cs k text
  class_next x e = ap (λ r. and_then r (λ y. Ok (y ∷ cs))) (e ∙ ap (λ j. class_line k j text) (sym due))

  -- a fault of a class line
  pub class_stop : (e : PlanFault) → Err e ≡ class_line k c text → Err e ≡ next_class cs k text
  class_stop e h = ap (λ r. and_then r (λ y. Ok (y ∷ cs))) (h ∙ ap (λ j. class_line k j text) (sym due))

module _ (cs : List ClassEntry) (fs : List FlowEntry) (last : Place) (k : ℕ) (text : List ℕ) (p : last ≡ place_after first fs) where
  -- a flow line more
  pub flow_next : (f : FlowEntry) → Ok f ≡ flow_line k cs last text → Ok (fs ++ f ∷ []) ≡ next_flow cs fs k text
  flow_next f e = ap (λ r. and_then r (λ x. Ok (fs ++ x ∷ []))) (e ∙ ap (λ q. flow_line k cs q text) p)

  -- a fault of a flow line
  pub flow_stop : (e : PlanFault) → Err e ≡ flow_line k cs last text → Err e ≡ next_flow cs fs k text
  flow_stop e h = ap (λ r. and_then r (λ x. Ok (fs ++ x ∷ []))) (h ∙ ap (λ q. flow_line k cs q text) p)

-- the last flow has the last place
pub place_last : (p : Place) (fs : List FlowEntry) (f : FlowEntry) → place_after p (fs ++ f ∷ []) ≡ entry_place f
place_last p [] f = refl
place_last p (x ∷ fs) f = place_last (entry_place x) fs f

-- one flow more
pub entries_push : (fs gs : List FlowLine) (f : FlowLine) → gs ≡ fs ++ f ∷ [] → map entry_of gs ≡ map entry_of fs ++ entry_of f ∷ []
entries_push fs gs f e = ap (map entry_of) e ∙ map-append entry_of fs (f ∷ [])

-- one class more, in front of those behind it
pub sizes_put : (ts : List TrafficClass) (i j m : ℕ) (t : TrafficClass) → length ts ≡ 8 → m ≤ 8 → j ≡ i → m ≡ i + 1 → map sizes_of (drop j (set ts i t)) ≡ sizes_of t ∷ map sizes_of (drop m ts)
sizes_put ts i j m t e h k l = ap (map sizes_of) (drop-set_at ts i j t k (omega arith) ∙ ap (λ j. t ∷ drop j ts) (sym l))

-- the class that is due in front of those that are read
pub class_due : (ts : List TrafficClass) (m : ℕ) → length ts ≡ 8 → m ≤ 8 → 7 - length (map sizes_of (drop m ts)) ≡ m - 1
class_due ts m e h = let l = length-map (drop m ts) sizes_of in let d = length-drop m ts in omega arith
