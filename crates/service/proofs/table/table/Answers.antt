use Rattle.std.proofs.Common.{arith}
use Rattle.sure_ticks.proofs.Sums.{lengths_most}
use Rattle.service.proofs.Marked.{from_first_lem, all_marked}
use Rattle.service.proofs.table.table.Goals as goal

pub set_marks-requires-clause-begins : goal.set_marks-requires-clause-begins
set_marks-requires-clause-begins c = from_first_lem c.args.cycle c.args.slots.now c.requires.apart c.requires.short

pub set_marks-requires-clause-all : goal.set_marks-requires-clause-all
set_marks-requires-clause-all c = omega (arith, lengths_most c.args.cycle c.args.slots.now c.requires.apart)

pub set_marks-requires-2-clause-begins : goal.set_marks-requires-2-clause-begins
set_marks-requires-2-clause-begins c = from_first_lem c.args.cycle c.args.slots.now c.requires.apart c.requires.short

pub set_marks-requires-2-clause-all : goal.set_marks-requires-2-clause-all
set_marks-requires-2-clause-all c = omega (arith, lengths_most c.args.cycle c.args.slots.now c.requires.apart)

pub set_marks-requires-2-clause-sure : goal.set_marks-requires-2-clause-sure
set_marks-requires-2-clause-sure c = omega (arith, c.requires.whole, lengths_most c.args.cycle c.args.slots.now c.requires.apart)

pub overflow_mul-marks-2 : goal.overflow_mul-marks-2
overflow_mul-marks-2 c = omega (arith, c.requires.whole, c.requires.short, lengths_most c.args.cycle c.args.slots.now c.requires.apart)

pub returns-clause-table : goal.returns-clause-table
returns-clause-table c =
    all_marked c.args.cycle c.args.slots.now c.args.sure _ _ _ _ c.default.ensures.0 c.default.ensures.1 c.requires.whole (omega (arith, c.requires.few, c.set_marks.auto.marks, c.set_marks-2.auto.marks))
    c.set_marks.ensures c.set_marks-2.ensures
