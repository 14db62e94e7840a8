use Rattle.std.proofs.Common.{◌≡◌, ℕ, ◌+◌, ◌-◌, ◌*◌, ◌/◌, ◌≤◌, sym, ◌∙◌, inl, inr, mul-le-mul_left, arith}
use Rattle.units.specs.Limits.{most_cycle}
use Rattle.slots.specs.Listed.{items}
use Rattle.curve.specs.Laws.{FirstSpan}
use Rattle.service.specs.declared.class_service.ClassService.{ClassService}
use Rattle.service.proofs.Spans.{first_split, nothing_served, too_many, span_is, span_none}
use Rattle.service.proofs.class_service.calls.ClassServiceSupply.least_span.Goals as goal

pub returns-then-self-eq0 : goal.returns-then-self-eq0
returns-then-self-eq0 c =
    let s = c.args.self.now in
    elim c.then-self-eq0.either [
      | inl e ↦ nothing_served s.cycle.0 s.ready.some (items s.slots) s.ready.apart s.block.0 c.args.bytes.0 (sym s.whole ∙ e) (omega (arith, c.if-bytes-eq0.false))
      | inr e ↦ too_many s.cycle.0 s.ready.some (items s.slots) s.ready.apart s.block.0 c.args.bytes.0 e.1
    ]

-- whole cycles and the window that was looked up
split : (s : ClassService) (y f : ℕ) → (s.sure.0 ≡ 0 → ⊥) → (y ≡ 0 → ⊥) → FirstSpan s.cycle.0 (items s.slots) (y + s.block.0 - (y + s.block.0 - 1) / s.sure.0 * s.sure.0) f →
    FirstSpan s.cycle.0 (items s.slots) (y + s.block.0) ((y + s.block.0 - 1) / s.sure.0 * s.cycle.0 + f) × ((y + s.block.0 - 1) / s.sure.0 ≤ y + s.block.0) × (f ≤ s.cycle.0)
split s y f sure-some some h = first_split s.cycle.0 s.ready.some (items s.slots) s.ready.apart (y + s.block.0) s.sure.0 f s.whole (omega arith) (omega arith) h

pub overflow_add-span : goal.overflow_add-span
overflow_add-span c =
    let s = c.args.self.now in
    let q : ℕ = (c.args.bytes.0 + s.block.0 - 1) / s.sure.0 in
    let h = split s c.args.bytes.0 c.first_with-first.result c.if-self-eq0.false c.if-bytes-eq0.false c.first_with-first.ensures in
    let m : q * s.cycle.0 ≤ q * most_cycle = mul-le-mul_left q s.ready.short in
    omega (arith, h.1, h.2, s.low, s.ready.short, c.if-bytes-gt-MAX_SPAN.false)

pub returns-then-span-gt-MAX_SPAN : goal.returns-then-span-gt-MAX_SPAN
returns-then-span-gt-MAX_SPAN c =
    let s = c.args.self.now in
    let q : ℕ = (c.args.bytes.0 + s.block.0 - 1) / s.sure.0 in
    let h = split s c.args.bytes.0 c.first_with-first.result c.if-self-eq0.false c.if-bytes-eq0.false c.first_with-first.ensures in
    span_none s.cycle.0 s.ready.some (items s.slots) s.ready.apart s.block.0 c.args.bytes.0 (q * s.cycle.0 + c.first_with-first.result) (omega (arith, c.if-bytes-eq0.false)) h.0 c.if-span-gt-MAX_SPAN.true

pub returns : goal.returns
returns c =
    let s = c.args.self.now in
    let q : ℕ = (c.args.bytes.0 + s.block.0 - 1) / s.sure.0 in
    let h = split s c.args.bytes.0 c.first_with-first.result c.if-self-eq0.false c.if-bytes-eq0.false c.first_with-first.ensures in
    span_is s.cycle.0 s.ready.some (items s.slots) s.ready.apart s.block.0 c.args.bytes.0 (q * s.cycle.0 + c.first_with-first.result) (omega (arith, c.if-bytes-eq0.false)) h.0 c.if-span-gt-MAX_SPAN.false
