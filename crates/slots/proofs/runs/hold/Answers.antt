use Rattle.std.proofs.Common.{◌≡◌, ℕ, ◌≤◌, Result, Ok, Err, sym, ap, ◌∙◌, rules, arith}
use Rattle.std.specs.Result.{MatchResult}
use Rattle.units.specs.Classes.{ByClass}
use Rattle.units.specs.declared.refusal.Refusal.{Refusal}
use Rattle.gates.specs.declared.traffic_class.TrafficClass.{TrafficClass}
use Rattle.gates.specs.Sizes.{hold, hold_limit}
use Rattle.gates.proofs.Sizes.{hold_most}
use Rattle.reader.specs.Contents.{ClassEntry}
use Rattle.reader.specs.Views.{sizes_of}
use Rattle.plan.specs.declared.plan.Plan.{Plan}
use Rattle.plan.specs.Arranged.{class_of}
use Rattle.plan.specs.PlanContents.{contents}
use Rattle.slots.specs.OfPlan.{longest}
use Rattle.slots.proofs.OfPlans.{longest_none}
use Rattle.slots.proofs.runs.hold.Goals as goal

-- what is read off the sizes of a class, if there is one
held : (p : Plan) (k : ℕ) (r : Result TrafficClass Refusal) (n : ℕ) → ByClass k r (λ t. sizes_of t ≡ class_of (contents p) k) → MatchResult r (λ t. n ≡ hold t.largest.0) (λ _. n ≡ 0) →
    (n ≡ longest (contents p) k) × (n ≤ hold_limit)
held p k (Ok t) n h e = let m = hold_most t.largest.0 t.sized.most in (e ∙ ap (λ (x : ClassEntry). hold x.largest) h.1, omega arith)
held p k (Err r) n h e = (e ∙ sym (longest_none p k h.0), omega arith)

pub returns : goal.returns
returns c = let h = held c.args.plan.now c.args.class c.class.result c.map_or.result c.class.ensures (search rules) in record { value = h.0; small = h.1 }
