use Rattle.bound.proofs.Meanings.{bounds_mean}
use Rattle.bound.proofs.bounds_mean_what_they_say.Goals as goal

pub returns : goal.returns
returns c = bounds_mean
