use Rattle.std.proofs.Common.{◌+◌, ◌-◌, [], map, vec_items, sym, ap, ◌∙◌, arith}
use Rattle.std.proofs.lemmas.Result.{err_from_is_err_and}
use Rattle.reader.specs.Entries.{first, place_after, next_flow}
use Rattle.reader.specs.Parsed.{entries_of}
use Rattle.reader.specs.Views.{sizes_of, entry_of}
use Rattle.reader.proofs.Steps.{onward, stopped, ended, passed, flow_next, flow_stop, place_last, entries_push}
use Rattle.reader.proofs.reader.Reader.flow_lines.Goals as goal

pub returns-in_err-flow-clause-value : goal.returns-in_err-flow-clause-value
returns-in_err-flow-clause-value c =
    let p = err_from_is_err_and c.from_residual.result c.from_residual.ensures.1 in
    let cs = map sizes_of c.args.classes.now in
    rw (p.1, p.2) (stopped (next_flow cs) c.args.count c.args.self.now [] _ c.loop.self _ c.loop.invariant.lines (c.args.count - (c.loop.counter + 1)) _ (omega arith) (flow_stop cs (entries_of c.loop.flows) _ _ _ c.loop.invariant.place _ c.in_err-flow.ensures.value))

pub loop-preserved : goal.loop-preserved
loop-preserved c =
    let h = c.in_ok-flow.ensures in
    let f = c.in_ok-flow.flow in
    let cs = map sizes_of c.args.classes.now in
    let put = c.push_reserved.ensures in
    let more = entries_push (vec_items c.loop.flows) _ f put.items in
    record {
      lines = rw more (onward (next_flow cs) c.args.count c.args.self.now [] _ c.loop.self _ c.loop.invariant.lines (c.args.count - (c.loop.counter + 1)) c.flow_line.new.self _ (omega arith) (flow_next cs _ c.loop.last _ _ c.loop.invariant.place (entry_of f) h.value) h.past);
      place = c.from-last.ensures ∙ sym (place_last first (entries_of c.loop.flows) (entry_of f)) ∙ ap (place_after first) (sym more);
      len = omega (arith, put.len, c.loop.invariant.len);
      room = omega (arith, put.capacity, c.loop.invariant.room);
    }

pub returns : goal.returns
returns c = record {
  value = ended (next_flow (map sizes_of c.args.classes.now)) c.args.count c.args.self.now [] _ c.loop.self _ c.loop.invariant.lines (omega arith);
  past = passed (next_flow (map sizes_of c.args.classes.now)) c.args.count c.args.self.now [] _ c.loop.self _ c.loop.invariant.lines (omega arith);
}
