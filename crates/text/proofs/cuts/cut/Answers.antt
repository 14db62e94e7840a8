use Rattle.std.proofs.Common.{◌+◌, take, drop, sym, ap, ◌∙◌, arith}
use Rattle.std.proofs.lemmas.List.{take_all, drop_all, take_rest}
use Rattle.text.proofs.Cutting.{at_some, at_none}
use Rattle.text.proofs.cuts.cut.Goals as goal

pub returns-in-Some : goal.returns-in-Some
returns-in-Some c =
    let at = sym (at_some c.args.byte c.in-Some.place c.args.text.now c.in-Some.ensures) in
    record { before = ap (λ n. take n c.args.text.now) at; past = take_rest c.args.text.now _ ∙ ap (λ n. drop (n + 1) c.args.text.now) at }

pub returns-in-None : goal.returns-in-None
returns-in-None c =
    let at = at_none c.args.byte c.args.text.now c.in-None.ensures in
    record { before = sym (take_all _ c.args.text.now at); past = sym (drop_all _ c.args.text.now (omega arith)) }
