use Rattle.std.proofs.Common.{◌≡◌, ◌-◌, ◌++◌, map, get_or, vec_items, sym, ap, ◌∙◌, subst, arith}
use Rattle.reader.specs.Views.{entry_of}
use Rattle.plan.specs.Arranged.{groups}
use Rattle.plan.specs.ByClass.{entries_down, sizes_up}
use Rattle.plan.proofs.Grouping.{groups_more, sizes_more, groups_end}
use Rattle.plan.proofs.class_plan.arrange.Goals as goal

pub loop-class-preserved : goal.loop-class-preserved
loop-class-preserved c =
    let n = c.loop-class.class in
    let es = map entry_of c.args.flows.now in
    let ks = vec_items c.loop-class.classes in
    let k = c.in_ok-one.one in
    let so = c.loop-class.invariant in
    let put = c.in_ok-push.ensures in
    let is : k.sizes ≡ get_or c.args.sizes.now (n - 1) k.sizes =
    subst (λ t. t ≡ get_or c.args.sizes.now (n - 1) t) (sym (c.in_ok-one.ensures.sizes ∙ sym c.index-sizes-from.is)) (c.index-sizes-from.is ∙ ap (λ i. get_or c.args.sizes.now i c.index-sizes-from.result) c.from.ensures) in
    record {
      flows = ap (λ js. entries_down 7 js ++ groups (n - 1) es) put.items ∙ groups_more (n - 1) n es ks k (omega arith) (omega (arith, c.loop-class.classes.ok.0, so.len)) c.in_ok-one.ensures.flows ∙ so.flows;
      sizes = ap sizes_up put.items ∙ sizes_more n ks k c.args.sizes.now c.loop-class-test.true (omega (arith, c.told-sizes, c.loop-class.auto.class)) is so.sizes;
      len = omega (arith, put.len, so.len);
    }

pub returns-clause-flows : goal.returns-clause-flows
returns-clause-flows c =
    let so = c.loop-class.invariant in
    (omega (arith, so.len), groups_end c.loop-class.class (map entry_of c.args.flows.now) _ (omega arith) so.flows)
