use Rattle.std.proofs.Common.{◌+◌, arith}
use Rattle.sure_ticks.specs.Slots.{slot}
use Rattle.sure_ticks.proofs.Sums.{lengths_more, lengths_take_le}
use Rattle.service.proofs.Marked.{marked_none, marked_more}
use Rattle.service.proofs.table.set_marks.Goals as goal

pub loop-i-init : goal.loop-i-init
loop-i-init c = marked_none c.args.slots.now c.first_begin-first.result c.args.start.place.0 c.args.start.before.0 c.args.marks.now c.args.at

pub overflow_add-sum : goal.overflow_add-sum
overflow_add-sum c =
    let m = lengths_more c.args.slots.now c.loop-i.i (slot 0 0) c.loop-i-test.true in
    let t = lengths_take_le c.args.slots.now (c.loop-i.i + 1) in
    omega (arith, c.loop-i.invariant.total, c.requires.all, c.requires.sure)

pub loop-i-preserved : goal.loop-i-preserved
loop-i-preserved c = marked_more _ _ _ _ _ _ _ _ _ c.loop-i-test.true (omega (arith, c.requires.room, c.loop-i.auto.marks)) c.loop-i.invariant
