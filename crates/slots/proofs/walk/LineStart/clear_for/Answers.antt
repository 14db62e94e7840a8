use Rattle.std.proofs.Common.{rules}
use Rattle.sure_ticks.specs.Runs.{clear}
use Rattle.slots.proofs.Walks.{clear_at_tick}
use Rattle.slots.proofs.walk.LineStart.clear_for.Goals as goal

pub returns : goal.returns
returns c = c.lasting.ensures (λ o. clear o c.args.class) (clear_at_tick c.args.class) (λ l b w. search rules)
