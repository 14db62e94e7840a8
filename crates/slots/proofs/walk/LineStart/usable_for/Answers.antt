use Rattle.std.proofs.Common.{◌+◌, arith}
use Rattle.calculus.proofs.Lasts.{lasts_most}
use Rattle.gates.specs.Opened.{opened}
use Rattle.slots.proofs.LineRuns.{usable_is}
use Rattle.slots.proofs.walk.LineStart.usable_for.Goals as goal

pub overflow_add-open : goal.overflow_add-open
overflow_add-open c =
    let s = c.args.self.now in
    let m = lasts_most (opened s.plan.now.gates.lines.items c.args.class) (c.cycle.result + c.hold-frame.result) s.tick in
    omega (arith, s.plan.now.gates.lawful.most)

pub returns : goal.returns
returns c =
    let s = c.args.self.now in
    let u = usable_is _ _ s.plan.now.gates.lawful c.hold-frame.result c.args.class s.tick in
    let m = c.min.ensures in
    let n = c.saturating_sub.ensures in
    cc
