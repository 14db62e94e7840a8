use Rattle.std.proofs.Common.{◌+◌, ◌-◌, drop, sym, ap, ◌∙◌, arith, rules}
use Rattle.reader.specs.Fields.{letters_from}
use Rattle.reader.proofs.Checked.{letter_open, letter_shut, letter_other, letters_end, gates_are}
use Rattle.reader.proofs.fields.read_gates.Goals as goal
use Rattle.reader.proofs.fields.read_gates.Goals.{in-O, in-C}

pub returns-in_default : goal.returns-in_default
returns-in_default c =
    gates_are _ c.args.text.now _ c.if-text-ne8.false
    (sym c.loop-i.invariant.0 ∙ letter_other _ c.args.text.now c.loop-i.i c.loop-i-test.true (search rules) (search rules))

pub loop-i-preserved : goal.loop-i-preserved
loop-i-preserved c =
    elim c.match-from.branch [
      | in-O w ↦ (
        ap (λ l. letters_from (drop (8 - (c.loop-i.i + 1)) l) (drop (c.loop-i.i + 1) c.args.text.now)) w.gates-is
            ∙ sym (letter_open c.loop-i.gates c.args.text.now c.loop-i.i c.loop-i.invariant.1 c.loop-i-test.true (omega arith) (search rules)) ∙ c.loop-i.invariant.0,
        search rules,
      )
      | in-C w ↦ (
        ap (λ l. letters_from (drop (8 - (c.loop-i.i + 1)) l) (drop (c.loop-i.i + 1) c.args.text.now)) w.gates-is
            ∙ sym (letter_shut c.loop-i.gates c.args.text.now c.loop-i.i c.loop-i.invariant.1 c.loop-i-test.true (omega arith) (search rules)) ∙ c.loop-i.invariant.0,
        search rules,
      )
    ]

pub returns : goal.returns
returns c = gates_are _ c.args.text.now _ c.if-text-ne8.false (sym c.loop-i.invariant.0 ∙ letters_end c.loop-i.gates c.args.text.now c.loop-i.i c.loop-i-test.false (omega arith))
