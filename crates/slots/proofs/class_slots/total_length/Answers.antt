use Rattle.std.proofs.Common.{rules}
use Rattle.sure_ticks.specs.Sure.{lengths}
use Rattle.slots.proofs.class_slots.total_length.Goals as goal

pub sum-requires-clause-fits : goal.sum-requires-clause-fits
unfolding lengths
sum-requires-clause-fits c = search rules

pub returns : goal.returns
unfolding lengths
returns c = search rules
