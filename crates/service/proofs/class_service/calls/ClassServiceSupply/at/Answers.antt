use Rattle.std.proofs.Common.{◌*◌, ◌/◌, ap, arith}
use Rattle.slots.specs.Listed.{items}
use Rattle.curve.proofs.Least.{least_most}
use Rattle.service.proofs.Spans.{whole_rest}
use Rattle.service.proofs.class_service.calls.ClassServiceSupply.at.Goals as goal

pub overflow_mul-ticks : goal.overflow_mul-ticks
overflow_mul-ticks c =
    let s = c.args.self.now in
    let w = whole_rest s.cycle.0 s.ready.some (items s.slots) s.ready.apart c.args.span.0 in
    let m = least_most s.cycle.0 s.ready.some (items s.slots) c.args.span.0 in
    let e = ap (λ v. c.args.span.0 / s.cycle.0 * v) s.whole in
    omega arith

pub overflow_add-ticks : goal.overflow_add-ticks
overflow_add-ticks c =
    let s = c.args.self.now in
    let w = whole_rest s.cycle.0 s.ready.some (items s.slots) s.ready.apart c.args.span.0 in
    let m = least_most s.cycle.0 s.ready.some (items s.slots) c.args.span.0 in
    let e = ap (λ v. c.args.span.0 / s.cycle.0 * v) s.whole in
    let l = c.least_in-least.ensures in
    omega arith

pub returns : goal.returns
returns c =
    let s = c.args.self.now in
    let w = whole_rest s.cycle.0 s.ready.some (items s.slots) s.ready.apart c.args.span.0 in
    let e = ap (λ v. c.args.span.0 / s.cycle.0 * v) s.whole in
    let l = c.least_in-least.ensures in
    (omega arith, omega (arith, c.saturating_sub.ensures))
