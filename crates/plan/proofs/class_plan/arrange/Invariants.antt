use Rattle.std.proofs.Common.{◌≡◌, ◌+◌, ◌++◌, map, drop, vec_items, vec_len}
use Rattle.reader.specs.Views.{entry_of}
use Rattle.plan.specs.Arranged.{groups}
use Rattle.plan.specs.ByClass.{entries_down, sizes_up}
use Rattle.plan.proofs.class_plan.arrange.Given as goal

-- the flows of the classes so far, and those of the lower ones
abbrev pub invariant-loop-class : goal.invariant-loop-class
invariant-loop-class l = record {
  flows : entries_down 7 (vec_items l.classes) ++ groups l.class (map entry_of l.flows) ≡ groups 8 (map entry_of l.flows);
  sizes : sizes_up (vec_items l.classes) ≡ drop l.class l.sizes;
  len : vec_len l.classes + l.class ≡ 8;
}
