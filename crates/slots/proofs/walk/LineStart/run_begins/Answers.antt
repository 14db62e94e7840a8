use Rattle.std.proofs.Common.{not, ◌&&◌, vec_items, ap, sym, ◌∙◌}
use Rattle.gates.specs.Opened.{line}
use Rattle.sure_ticks.specs.Runs.{clear}
use Rattle.slots.specs.Walks.{alone}
use Rattle.slots.proofs.LineRuns.{begins_is}
use Rattle.slots.proofs.walk.LineStart.run_begins.Goals as goal

pub returns-then-not-is_clear : goal.returns-then-not-is_clear
returns-then-not-is_clear c =
    let s = c.args.self.now in
    let e = begins_is _ _ s.plan.now.gates.lawful s.index s.tick s.there s.begun c.args.class in
    let p = ap (λ l. clear (alone l) c.args.class 0) c.line_before.ensures in
    let q = ap (λ l. clear (alone l) c.args.class 0) c.line.ensures in
    c.is_clear-then-not-is_clear.ensures ∙ q ∙ ap (λ b. not b && clear (alone (line (vec_items s.plan.now.gates.lines) s.index)) c.args.class 0) (c.if-not-is_clear.ensures ∙ p) ∙ sym e

pub returns-else-not-is_clear : goal.returns-else-not-is_clear
returns-else-not-is_clear c =
    let s = c.args.self.now in
    let e = begins_is _ _ s.plan.now.gates.lawful s.index s.tick s.there s.begun c.args.class in
    let p = ap (λ l. clear (alone l) c.args.class 0) c.line_before.ensures in
    ap not c.if-not-is_clear.false ∙ ap (λ b. not b && clear (alone (line (vec_items s.plan.now.gates.lines) s.index)) c.args.class 0) (c.if-not-is_clear.ensures ∙ p) ∙ sym e
