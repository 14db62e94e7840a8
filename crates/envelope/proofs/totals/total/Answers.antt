use Rattle.std.proofs.lemmas.Result.{err_from_is_err_and}
use Rattle.envelope.proofs.Rows.{total_far, total_stops}
use Rattle.envelope.proofs.totals.total.Goals as goal

pub returns-in_err-within_reach : goal.returns-in_err-within_reach
returns-in_err-within_reach g c =
    let e = g.E.Envelope in
    let p = err_from_is_err_and c.from_residual.result c.from_residual.ensures.1 in
    let told = c.in_err-within_reach.ensures in
    rw (p.1, p.2, told.1) (total_far e.reach e.alpha c.args.row.now c.args.span.0 told.0)

pub returns-in_err-at : goal.returns-in_err-at
returns-in_err-at g c =
    let e = g.E.Envelope in
    let p = err_from_is_err_and c.from_residual-in_err-at.result c.from_residual-in_err-at.ensures.1 in
    rw (p.1, p.2) (total_stops e.reach e.alpha c.args.row.now c.args.span.0 c.loop-each.each-index c.each-item.result _ c.loop-each-test.true c.each-item.is c.in_err-at.ensures)
