use Rattle.std.proofs.Common.{rules, nat_eq}
use Rattle.std.proofs.lemmas.List.Sums.{count_by-le-length}
use Rattle.text.proofs.cuts.count.Goals as goal

pub sum-requires-clause-fits : goal.sum-requires-clause-fits
sum-requires-clause-fits c = let b = count_by-le-length (λ x. nat_eq x c.args.byte) c.args.text.now in let l = c.iter.ensures.bound in search rules
