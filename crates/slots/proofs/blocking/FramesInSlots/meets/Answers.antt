use Rattle.std.proofs.Common.{◌≡◌, length, Some, refl, ap, ◌∙◌, rules, arith}
use Rattle.std.proofs.lemmas.Iterator.{cases_from_any, YieldsList-from_slice}
use Rattle.std.proofs.lemmas.Iterator.Consumers.{YieldsList-turn}
use Rattle.gates.specs.declared.gate_list.GateList.{GateList}
use Rattle.slots.proofs.Meets.{Reaches, Misses, end_most, meets_told}
use Rattle.slots.proofs.blocking.FramesInSlots.meets.Goals as goal
use borrow.Author.Tests.{tests}

pub any-requires-clause-callable : goal.any-requires-clause-callable
any-requires-clause-callable c =
    record {
      at = λ xs t q x u y f s.
          let z = c.args.self.now in
          let w = YieldsList-turn (YieldsList-from_slice z.slots.now (cc)) xs t y (Some x) u x refl s in
          let m = end_most z.plan.now.gates.cycle.0 z.slots.now z.apart c.args.begin c.args.end c.requires.inside x.now (length xs) w in
          λ _ _ _ _ _ _. omega (arith, z.plan.now.gates.lawful.most);
    }

pub returns : goal.returns
returns c =
    let z = c.args.self.now in
    let n : c.cycle.result.0 ≡ z.plan.now.gates.cycle.0 = ap (λ n. n.0) c.cycle.ensures ∙ ap (λ (h : GateList). h.cycle.0) c.gates.ensures in
    meets_told z.plan.now.gates.cycle.0 z.slots.now z.apart c.args.begin c.args.end c.requires.inside c.requires.some c.any.result
    (cases_from_any _ _ _ (Reaches z.plan.now.gates.cycle.0 z.slots.now z.apart c.args.begin c.args.end c.requires.inside) (Misses z.plan.now.gates.cycle.0 z.slots.now z.apart c.args.begin c.args.end c.requires.inside) c.any.ensures.ran (YieldsList-from_slice z.slots.now (cc)) (λ x q k. search (rules, tests)) (λ x q k. search (rules, tests)))
