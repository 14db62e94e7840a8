use Rattle.std.proofs.Common.{sym, ◌∙◌}
use Rattle.gates.proofs.Lines.{within_here, within_past, within_end}
use Rattle.gates.proofs.gate_list.open_at.Goals as goal

pub returns-then-left-line : goal.returns-then-left-line
returns-then-left-line c = c.is_open.ensures ∙ sym (within_here c.args.lines.now c.args.class c.loop-line.line-index c.loop-line.left c.loop-line-test.true c.if-left-line.true) ∙ c.loop-line.invariant

pub loop-line-preserved : goal.loop-line-preserved
loop-line-preserved c = sym (within_past c.args.lines.now c.args.class c.loop-line.line-index c.loop-line.left c.loop-line-test.true c.if-left-line.false) ∙ c.loop-line.invariant

pub returns : goal.returns
returns c = sym (within_end c.args.lines.now c.args.class c.loop-line.line-index c.loop-line.left c.loop-line-test.false) ∙ c.loop-line.invariant
