use Rattle.std.proofs.Common.{◌∙◌}
use Rattle.slots.proofs.OfPlans.{plan_lengths, plan_sure}
use Rattle.slots.proofs.calls.sure.Goals as goal

pub total_length-requires : goal.total_length-requires
total_length-requires c = plan_lengths c.args.plan.now c.args.class c.as_slice.result.now (c.as_slice.ensures ∙ c.in_ok-found.ensures.1)

pub returns : goal.returns
returns c =
    (c.in_ok-found.ensures.0, c.total_length.ensures ∙ plan_sure c.args.plan.now c.args.class c.as_slice.result.now (c.as_slice.ensures ∙ c.in_ok-found.ensures.1))
