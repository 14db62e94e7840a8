use Rattle.std.proofs.Common.{◌≡◌, ℕ, List, [], ◌∷◌, Option, None, Some, Bor, rules}
use Rattle.std.specs.Option.{MatchOption, option_copied}
use Rattle.std.specs.List.{slice_get}
use Rattle.sure_ticks.specs.declared.slot.Slot.{Slot}
use Rattle.sure_ticks.specs.Laws.{next}
use Rattle.service.proofs.table.first_begin.Goals as goal

-- what is read off the first slot, if there is one
first_is : (ss : List Slot) (o : Option (Bor Slot)) (n : ℕ) → option_copied o ≡ slice_get ss 0 → MatchOption o (n ≡ 0) (λ s. n ≡ s.now.begin.0) → n ≡ next 0 ss
unfolding next
first_is [] None n e h = h
first_is [] (Some x) n e h = cc
first_is (s ∷ ss) None n e h = cc
first_is (s ∷ ss) (Some x) n e h = cc

pub returns : goal.returns
returns c = first_is c.args.slots.now c.first.result c.map_or.result c.first.ensures.value (search rules)
