use Rattle.sure_ticks.proofs.Order.{slots_apart}
use Rattle.sure_ticks.proofs.Sums.{sure_lengths}
use Rattle.sure_ticks.proofs.SameTicks.{sure_startable}
use Rattle.sure_ticks.proofs.slots_hold_the_sure_ticks.Goals as goal

pub returns : goal.returns
returns c = record { apart = slots_apart; added = sure_lengths; startable = sure_startable }
