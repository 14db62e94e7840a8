use Rattle.std.proofs.Common.{◌≡◌, ◌-◌, ◌∷◌, [], map, drop, Ok, sym, ap, ◌∙◌, arith, rules}
use Rattle.std.proofs.lemmas.Result.{err_from_is_err_and}
use Rattle.reader.specs.Entries.{next_class}
use Rattle.reader.specs.Reading.{classes_listed}
use Rattle.reader.specs.Views.{sizes_of}
use Rattle.reader.proofs.Steps.{onward, stopped, ended, passed, class_next, class_stop, class_due, sizes_put}
use Rattle.reader.proofs.reader.Reader.class_list.Goals as goal

pub returns-in_err-class-clause-value : goal.returns-in_err-class-clause-value
unfolding classes_listed
returns-in_err-class-clause-value c =
    let p = err_from_is_err_and c.from_residual.result c.from_residual.ensures.1 in
    let h = c.in_err-class.ensures in
    let now = c.loop-number.self in
    let cs = map sizes_of (drop c.loop-number.number c.loop-number.classes) in
    let due = class_due c.loop-number.classes c.loop-number.number c.loop-number.invariant.eight (omega arith) in
    rw (p.1, p.2) (stopped next_class 8 c.args.self.now [] c.loop-number.number now cs c.loop-number.invariant.lines (c.loop-number.number - 1) _ (omega arith) (class_stop cs _ now.line now.rest.now due _ h.value))

pub loop-number-preserved : goal.loop-number-preserved
loop-number-preserved c =
    let h = c.in_ok-class.ensures in
    let t = c.in_ok-class.class in
    let m = c.loop-number.number in
    let ts = c.loop-number.classes in
    let now = c.loop-number.self in
    let cs = map sizes_of (drop m ts) in
    let due = class_due ts m c.loop-number.invariant.eight (omega arith) in
    let more = sizes_put ts c.from.result (m - 1) m t c.loop-number.invariant.eight (omega arith) (sym c.from.ensures) (omega (arith, c.from.ensures)) in
    record {
      lines = rw more (onward next_class 8 c.args.self.now [] m now cs c.loop-number.invariant.lines (m - 1) c.class_line.new.self (sizes_of t ∷ cs) (omega arith) (class_next cs _ now.line now.rest.now due (sizes_of t) h.value) h.past);
      eight = search rules;
    }

pub returns : goal.returns
unfolding classes_listed
returns c =
    let z : c.loop-number.number ≡ 0 = omega arith in
    record {
      value = ap (λ j. Ok (map sizes_of (drop j c.loop-number.classes))) (sym z) ∙ ended next_class 8 c.args.self.now [] c.loop-number.number c.loop-number.self _ c.loop-number.invariant.lines z;
      past = passed next_class 8 c.args.self.now [] c.loop-number.number c.loop-number.self _ c.loop-number.invariant.lines z;
    }
