-- What a reading leaves in a plan, from what the text says.
use Rattle.std.proofs.Common.{◌≡◌, ℕ, ◌⊎◌, List, [], ◌∷◌, map, replicate, Ok, Err, sym, ap, ◌∙◌, ⊎_elim, arith}
use Rattle.faults.specs.declared.fault.PlanFault.{PlanFault}
use Rattle.faults.specs.declared.fault.PlanFault.TheVariants.{Memory}
use Rattle.gates.specs.declared.gate_line.GateLine.{GateLine}
use Rattle.gates.specs.declared.traffic_class.TrafficClass.{TrafficClass}
use Rattle.gates.specs.Opened.{shut_line}
use Rattle.reader.specs.Entries.{first}
use Rattle.reader.specs.Reading.{read_plan}
use Rattle.reader.specs.Contents.{Contents, FlowEntry, ClassEntry}
use Rattle.reader.specs.Views.{sizes_of}
use Rattle.writing.specs.Inverse.{TextOf}
use Rattle.writing.proofs.Back.{only_texts}
use Rattle.writing.proofs.Forth.{every_plan}
use Rattle.plan.specs.Arranged.{groups, arranged, silent, shut_contents}
use Rattle.plan.proofs.Sorting.{groups_nil, groups_all}

-- a plan that is read holds its flows in the order of the text
module _ (text : List ℕ) (s t : Contents) (said : Ok s ≡ read_plan text) (is : t ≡ arranged s) where
  -- so it is what the text says
  same : t ≡ s
  same =
      let sound = (only_texts text s (sym said)).sound in
      is ∙ ap (λ fs. record { port = s.port; cycle = s.cycle; gates = s.gates; classes = s.classes; flows = fs }) (groups_all 8 s.classes first s.flows (omega arith) sound.flows)

  -- and the answer is that of the definition
  pub read_outcome : Ok t ≡ read_plan text
  read_outcome = ap Ok same ∙ said

  -- the text is that of the plan
  pub read_written : TextOf t text
  read_written = only_texts text t (sym read_outcome)

  -- and of no other
  pub read_accepted : (u : Contents) → TextOf u text → t ≡ u
  read_accepted u h = let e = read_outcome ∙ every_plan text u h in cc

-- the text of a plan is refused only for want of memory
pub only_memory : (text : List ℕ) (e : PlanFault) → (e ≡ Memory) ⊎ (Err e ≡ read_plan text) → (u : Contents) → TextOf u text → e ≡ Memory
only_memory text e why u h = ⊎_elim (λ m. m) (λ r. let both = r ∙ every_plan text u h in let z : ◌≡◌ {A = ℕ} 0 1 = cc in absurd (omega arith)) why

-- the shut plan
pub shut_contents_lem : (cycle : ℕ) (gs : List GateLine) (t : TrafficClass) (es : List ClassEntry) (fs : List FlowEntry) → cycle ≡ 1 → gs ≡ shut_line ∷ [] → t.largest.0 ≡ 0 → t.depth.0 ≡ 0 → es ≡ map sizes_of (replicate 8 t) → fs ≡ groups 8 [] →
    ◌≡◌ {A = Contents} (record { port = 1; cycle = cycle; gates = gs; classes = es; flows = fs }) shut_contents
shut_contents_lem cycle gs t es fs a b l d c e =
    let q : sizes_of t ≡ silent = (λ i. record { largest = l i; depth = d i }) in
    let s : es ≡ replicate 8 silent = c ∙ ap (λ x. replicate 8 x) q in
    let f = e ∙ groups_nil 8 in
    (λ i. record { port = 1; cycle = a i; gates = b i; classes = s i; flows = f i })
