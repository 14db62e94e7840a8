use Rattle.std.proofs.Common.{◌≡◌, ◌<◌, true, false, not, ◌&&◌, rules, sym, ap, ◌∙◌, arith}
use Rattle.std.proofs.lemmas.Iterator.{cases_from_any, YieldsList-from_range}
use Rattle.gates.specs.Opened.{shows}
use Rattle.slots.proofs.Walks.{clear_told}
use Rattle.slots.proofs.walk.is_clear.Goals as goal
use borrow.Author.Tests.{tests}

pub returns-then-not-outranked : goal.returns-then-not-outranked
returns-then-not-outranked c =
    let r = cases_from_any _ _ _ (λ h. (c.args.class < h) × (shows c.args.line.now h ≡ true)) (λ h. c.args.class < h → shows c.args.line.now h ≡ false) c.any-outranked.ensures.ran (YieldsList-from_range 0 8 8 (cc) (omega arith)) (λ x q k. search (rules, tests)) (λ x q k. search (rules, tests)) in
    let e = clear_told c.args.line.now c.args.class c.any-outranked.result r in
    c.is_open.ensures ∙ ap (λ b. not b && shows c.args.line.now c.args.class) (sym c.if-not-outranked.true) ∙ sym e

pub returns-else-not-outranked : goal.returns-else-not-outranked
returns-else-not-outranked c =
    let r = cases_from_any _ _ _ (λ h. (c.args.class < h) × (shows c.args.line.now h ≡ true)) (λ h. c.args.class < h → shows c.args.line.now h ≡ false) c.any-outranked.ensures.ran (YieldsList-from_range 0 8 8 (cc) (omega arith)) (λ x q k. search (rules, tests)) (λ x q k. search (rules, tests)) in
    let e = clear_told c.args.line.now c.args.class c.any-outranked.result r in
    ap not c.if-not-outranked.false ∙ ap (λ b. not b && shows c.args.line.now c.args.class) (sym c.if-not-outranked.false) ∙ sym e
