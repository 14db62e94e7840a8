use Rattle.std.proofs.Common.{◌≡◌, ◌+◌, ◌-◌, sym, arith}
use Rattle.gates.specs.Opened.{opened}
use Rattle.plan.specs.PlanContents.{contents}
use Rattle.sure_ticks.specs.Runs.{blocking}
use Rattle.sure_ticks.proofs.Found.{slot_at_there, slot_at_none, usable_most}
use Rattle.slots.specs.Beginnings.{late}
use Rattle.slots.specs.OfPlan.{longest}
use Rattle.slots.proofs.Walks.{cycle_some, start_in}
use Rattle.slots.proofs.walk.LineStart.slot.Goals as goal

pub returns-then-not-run_begins : goal.returns-then-not-run_begins
returns-then-not-run_begins c =
    let s = c.args.self.now in
    sym (slot_at_none (late c.args.asked) s.plan.now.gates.cycle.0 (opened s.plan.now.gates.lines.items) (longest (contents s.plan.now)) c.args.class s.tick (sym c.if-not-run_begins.ensures))

pub slot_of-requires : goal.slot_of-requires
slot_of-requires c =
    let s = c.args.self.now in
    let g = s.plan.now.gates in
    let p = cycle_some _ _ g.lawful in
    let t = start_in _ _ g.lawful s.index s.there in
    let u = usable_most g.cycle.0 (opened g.lines.items) (longest (contents s.plan.now) c.args.class) c.args.class (s.tick + g.cycle.0 - 1) in
    record { some = omega arith; small = omega (arith, s.begun, g.lawful.most) }

pub returns : goal.returns
unfolding blocking
returns c =
    let s = c.args.self.now in
    let g = s.plan.now.gates in
    let w : c.greatest_below-wait.result ≡ blocking (opened g.lines.items) (longest (contents s.plan.now)) c.args.class (s.tick + g.cycle.0 - 1) = c.greatest_below-wait.ensures in
    let e = slot_at_there (late c.args.asked) g.cycle.0 (opened g.lines.items) (longest (contents s.plan.now)) c.args.class s.tick (sym c.if-not-run_begins.ensures) in
    cc
