use Rattle.std.proofs.Common.{◌-◌, get_or, vec_items, sym, ap, ◌∙◌}
use Rattle.plan.proofs.Grouping.{class_sizes, held_at}
use Rattle.plan.proofs.plan.Plan.of_class.Goals as goal

pub returns : goal.returns
returns c =
    let p = c.args.self.now in
    let class = c.in_ok-class.ensures in
    let at = c.index.ensures ∙ ap (λ i. get_or (vec_items p.classes) (7 - i) c.index.result.now) (c.from.ensures ∙ class.1) in
    let eight = sym p.classes.ok.0 ∙ p.every in
    let k = c.index.result.now in (
      class.0,
      (class_sizes (vec_items p.classes) c.args.class k eight class.0 at, held_at c.args.class (vec_items p.classes) k class.0 eight at),
    )
