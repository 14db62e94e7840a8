use Rattle.std.proofs.Common.{vec_items, ap, ◌∙◌}
use Rattle.plan.proofs.Grouping.{held_none, held_same, bucket_more, periodic_more, other_more}
use Rattle.plan.proofs.class_plan.class_plan.Goals as goal
use Rattle.plan.proofs.class_plan.class_plan.Goals.{then-line-class+in-Bucket+in_ok-push-in-Bucket, then-line-class+in-Periodic+in_ok-push-in-Periodic, else-line-class}

pub loop-line-init : goal.loop-line-init
loop-line-init c = held_none _ _ _ c.new-buckets.ensures.items c.new-periodics.ensures.items

pub loop-line-preserved : goal.loop-line-preserved
loop-line-preserved c =
    let ls = c.args.flows.now in
    let i = c.loop-line.line-index in
    let l = c.line-item.result in
    let bs = vec_items c.loop-line.buckets in
    let ps = vec_items c.loop-line.periodics in
    let at = c.line-item.is in
    let lt = c.loop-line-test.true in
    elim c.if-line-class.branch [
      | then-line-class+in-Bucket+in_ok-push-in-Bucket w ↦
          held_same _ _ _ _ _ _ (ap vec_items w.buckets-is ∙ w.in_ok-push-in-Bucket.ensures.items) (ap vec_items w.periodics-is) (bucket_more _ ls i l lt at bs ps c.loop-line.invariant w.in-Bucket.bucket w.if-line-class.true w.in-Bucket.is)
      | then-line-class+in-Periodic+in_ok-push-in-Periodic w ↦
          held_same _ _ _ _ _ _ (ap vec_items w.buckets-is) (ap vec_items w.periodics-is ∙ w.in_ok-push-in-Periodic.ensures.items) (periodic_more _ ls i l lt at bs ps c.loop-line.invariant w.in-Periodic.periodic w.if-line-class.true w.in-Periodic.is)
      | else-line-class w ↦ held_same _ _ _ _ _ _ (ap vec_items w.buckets-is) (ap vec_items w.periodics-is) (other_more _ ls i l lt at bs ps c.loop-line.invariant w.if-line-class.false)
    ]
