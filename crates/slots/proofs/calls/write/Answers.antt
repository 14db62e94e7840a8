use Rattle.slots.proofs.Turned.{write_none, write_more, write_all}
use Rattle.slots.proofs.calls.write.Goals as goal

pub loop-i-init : goal.loop-i-init
loop-i-init c = write_none c.args.slots.now c.args.list.now

pub loop-i-preserved : goal.loop-i-preserved
loop-i-preserved c = write_more c.args.slots.now c.args.list.now c.loop-i.i c.loop-i.list c.loop-i-test.true c.loop-i.invariant

pub returns : goal.returns
returns c = write_all c.args.slots.now c.args.list.now c.loop-i.i c.loop-i.list c.loop-i-test.false c.requires.room c.loop-i.invariant
