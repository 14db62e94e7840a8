use Rattle.std.proofs.Common.{sym, ◌∙◌, arith}
use Rattle.gates.proofs.Lines.{total_some, opened_is, repeats, steady}
use Rattle.gates.proofs.gate_list.GateList.is_open.Goals as goal

pub nonzero_rem-tick : goal.nonzero_rem-tick
nonzero_rem-tick c = let g = c.args.self.now in let s = total_some _ g.lawful.each g.lawful.some in omega (arith, g.lawful.together)

pub returns : goal.returns
returns c =
    let g = c.args.self.now in
    let is = c.open_at.ensures ∙ opened_is _ _ c.args.class c.args.tick.0 _ c.lines.ensures g.lawful.together in
    record {
      value = is;
      repeats = λ n. repeats _ c.args.class c.args.tick.0 n _ g.lawful.together ∙ sym is;
      steady = λ i w. is ∙ steady _ c.args.class i c.args.tick.0 _ g.lawful.together w;
    }
