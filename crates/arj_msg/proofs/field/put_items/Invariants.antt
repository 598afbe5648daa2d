use Rattle.std.proofs.Common.{◌≡◌, ◌++◌, take}
use Rattle.std.specs.List.{flat_map, AllByRecursion}
use Rattle.arj_msg.proofs.field.put_items.Given as goal

abbrev pub invariant-loop-item : goal.invariant-loop-item
invariant-loop-item g l = record {
  spelled : l.out ≡ l.fn.out ++ flat_map g.T.Field.format.spell (take l.item-index l.items);
  fits : AllByRecursion g.T.Field.format.Fits (take l.item-index l.items);
}
