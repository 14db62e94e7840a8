use Rattle.std.proofs.Common.{[], ◌∷◌, ◌++◌, ap, ◌∙◌}
use Rattle.gates.specs.Opened.{shut_line}
use Rattle.gates.proofs.Lines.{only_shut}
use Rattle.gates.proofs.gate_list.GateList.shut.Goals as goal

pub invariant_of-result : goal.invariant_of-result
invariant_of-result c = record { lawful = only_shut _ (c.in_ok-push.ensures.items ∙ ap (λ xs. xs ++ shut_line ∷ []) c.new-lines.ensures.items) }
