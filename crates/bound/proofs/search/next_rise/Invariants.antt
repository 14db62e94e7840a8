use Rattle.std.proofs.Common.{◌-◌, ◌<◌}
use Rattle.bound.proofs.Rises.{Between}
use Rattle.bound.proofs.search.next_rise.Given as goal

abbrev pub invariant-loop-high : goal.invariant-loop-high
invariant-loop-high g l = Between (g.E.Envelope.alpha l.envelope) l.fn.from.0 l.fn.to.0 l.bytes.0 l.low l.high × (0 < l.step)

abbrev pub decreases-loop-high : goal.decreases-loop-high
decreases-loop-high g l = l.high - l.low
