use Rattle.std.proofs.Common.{◌+◌, ◌-◌, [], sym, subst, arith}
use Rattle.std.specs.List.{AllByRecursion}
use Rattle.std.proofs.ByRecursion.{All-push}
use Rattle.std.proofs.lemmas.Result.{err_from_is_err_and}
use Rattle.reader.specs.Entries.{next_gate}
use Rattle.reader.specs.Views.{LengthFits}
use Rattle.reader.proofs.Steps.{onward, stopped, ended, passed, gate_next, gate_stop}
use Rattle.reader.proofs.reader.Reader.gate_lines.Goals as goal

pub returns-in_err-gate-clause-value : goal.returns-in_err-gate-clause-value
returns-in_err-gate-clause-value c =
    let p = err_from_is_err_and c.from_residual.result c.from_residual.ensures.1 in
    rw (p.1, p.2) (stopped next_gate c.args.count c.args.self.now [] _ c.loop.self _ c.loop.invariant.lines (c.args.count - (c.loop.counter + 1)) _ (omega arith) (gate_stop _ _ _ _ c.in_err-gate.ensures.value))

pub loop-preserved : goal.loop-preserved
loop-preserved c =
    let h = c.in_ok-gate.ensures in
    let put = c.push_reserved.ensures in
    record {
      lines = rw put.items (onward next_gate c.args.count c.args.self.now [] _ c.loop.self _ c.loop.invariant.lines (c.args.count - (c.loop.counter + 1)) c.gate_line.new.self _ (omega arith) (gate_next _ _ _ c.in_ok-gate.gate h.value) h.past);
      fit = subst (AllByRecursion LengthFits) (sym put.items) (All-push LengthFits _ _ c.loop.invariant.fit h.bound);
      len = omega (arith, put.len, c.loop.invariant.len);
      room = omega (arith, put.capacity, c.loop.invariant.room);
    }

pub returns-clause-value : goal.returns-clause-value
returns-clause-value c = ended next_gate c.args.count c.args.self.now [] _ c.loop.self _ c.loop.invariant.lines (omega arith)

pub returns-clause-past : goal.returns-clause-past
returns-clause-past c = passed next_gate c.args.count c.args.self.now [] _ c.loop.self _ c.loop.invariant.lines (omega arith)
