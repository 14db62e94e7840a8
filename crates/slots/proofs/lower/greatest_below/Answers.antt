use Rattle.std.proofs.Common.{rules, ap, ◌∙◌, arith}
use Rattle.std.specs.List.{range_with_len}
use Rattle.std.specs.Option.{unwrap_or}
use Rattle.std.specs.Ordering.{nat_cmp, max_by_ordering}
use Rattle.std.proofs.lemmas.Iterator.{YieldsList-from_range, YieldsList-from_map}
use Rattle.std.proofs.lemmas.Iterator.Consumers.{reduce_from_yields_List}
use Rattle.std.proofs.lemmas.List.Folds.{max_of_map}
use Rattle.slots.proofs.Lowers.{greatest_fold}
use Rattle.slots.proofs.lower.greatest_below.Goals as goal

pub returns : goal.returns
returns g c =
    let f = g.W.Waits.waits c.args.frames.now in
    c.unwrap_or.ensures
    ∙ ap (λ o. unwrap_or o 0) (reduce_from_yields_List (λ p z. max_by_ordering (nat_cmp p z) p z) c.map.result c.max.result c.max.ensures.ran (YieldsList-from_map _ f (YieldsList-from_range 0 c.args.class c.args.class (cc) (omega arith)) c.map.ensures.closure (λ x r q k. search rules)))
    ∙ max_of_map f (range_with_len 0 c.args.class) ∙ greatest_fold f c.args.class
