use Rattle.std.proofs.Common.{arith}
use Rattle.std.proofs.lemmas.List.{take_more_set}
use Rattle.slots.proofs.Gathers.{counted}
use Rattle.slots.proofs.slot_list.SlotList.push.Goals as goal

pub returns : goal.returns
returns c = take_more_set c.args.self.now.slots c.args.self.now.count c.args.slot (omega (arith, counted c.args.self.now, c.requires, c.args.self.now.room))
