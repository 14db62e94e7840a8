use Rattle.std.proofs.Common.{◌≡◌, ◌<◌, ◌⊎◌, rules, sym, ◌∙◌, subst}
use Rattle.slots.proofs.Walks.{open_at_tick, limit_most, limit_less}
use Rattle.slots.proofs.walk.LineStart.open_for.Goals as goal

pub returns-then-limit-ticks : goal.returns-then-limit-ticks
returns-then-limit-ticks c =
    limit_most _ _ c.args.self.now.plan.now.gates.lawful c.args.class c.args.self.now.tick c.lasting-ticks.result c.args.limit
    (c.lasting-ticks.ensures (λ o. o c.args.class) (open_at_tick c.args.class) (λ l b w. search rules))
    (subst (λ n. (c.lasting-ticks.result ≡ n) ⊎ ((c.lasting-ticks.result ≡ n → ⊥) × (c.args.limit < c.lasting-ticks.result))) c.cycle.ensures c.if-limit-ticks.either)

pub returns-else-limit-ticks : goal.returns-else-limit-ticks
returns-else-limit-ticks c =
    limit_less _ _ c.args.self.now.plan.now.gates.lawful c.args.class c.args.self.now.tick c.lasting-ticks.result c.args.limit
    (c.lasting-ticks.ensures (λ o. o c.args.class) (open_at_tick c.args.class) (λ l b w. search rules))
    (λ q. c.if-limit-ticks.false.0 (q ∙ sym c.cycle.ensures)) c.if-limit-ticks.false.1
