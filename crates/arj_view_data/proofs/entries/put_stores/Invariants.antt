-- What is told so far.
use Rattle.std.proofs.Common.{◌≡◌, ◌++◌, take}
use Rattle.std.specs.List.{flat_map}
use Rattle.arj_view_data.specs.Texts.{store_text}
use Rattle.arj_view_data.proofs.entries.put_stores.Given as goal

abbrev pub invariant-loop-store : goal.invariant-loop-store
invariant-loop-store l = l.out ≡ l.fn.out ++ flat_map store_text (take l.store-index l.stores)
