use Rattle.std.proofs.Common.{sym, ◌∙◌}
use Rattle.text.proofs.Keyed.{value_some, value_fault}
use Rattle.text.proofs.keys.value.Goals as goal

pub returns-in-Some : goal.returns-in-Some
returns-in-Some c = value_some _ c.args.due c.args.line.now _ c.in-Some.ensures

pub returns-in-None : goal.returns-in-None
returns-in-None c = value_fault _ c.args.due c.args.line.now _ c.in-None.ensures (sym c.contains.ensures.value ∙ c.if-contains.true)

pub returns-in-None-2 : goal.returns-in-None-2
returns-in-None-2 c = value_fault _ c.args.due c.args.line.now _ c.in-None.ensures (sym c.contains.ensures.value ∙ c.if-contains.false)
