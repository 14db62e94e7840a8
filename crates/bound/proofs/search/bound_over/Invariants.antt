use Rattle.std.proofs.Common.{◌-◌}
use Rattle.units.specs.Limits.{most_span}
use Rattle.bound.proofs.Sweeps.{Swept}
use Rattle.bound.proofs.search.bound_over.Given as goal

abbrev pub invariant-loop-bytes : goal.invariant-loop-bytes
invariant-loop-bytes g l = Swept (g.E.Envelope.alpha l.envelope) (g.S.Supply.supplied l.supply) l.span.0 l.delay.0 l.held.0

abbrev pub decreases-loop-bytes : goal.decreases-loop-bytes
decreases-loop-bytes g l = most_span - l.span.0
