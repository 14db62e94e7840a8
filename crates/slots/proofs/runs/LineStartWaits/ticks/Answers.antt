use Rattle.std.proofs.Common.{sym}
use Rattle.slots.proofs.LineRuns.{blocked_shut, blocked_open}
use Rattle.slots.proofs.runs.LineStartWaits.ticks.Goals as goal

pub returns-then-not-is_open : goal.returns-then-not-is_open
returns-then-not-is_open c =
    let s = c.args.self.now in
    sym (blocked_shut _ _ s.plan.now.gates.lawful s.index s.tick s.there s.begun _ c.args.class (cc (c.if-not-is_open.ensures)))

pub returns : goal.returns
returns c =
    let s = c.args.self.now in
    let e = blocked_open _ _ s.plan.now.gates.lawful s.index s.tick s.there s.begun c.hold.result c.args.class (cc (c.if-not-is_open.ensures)) in
    cc
