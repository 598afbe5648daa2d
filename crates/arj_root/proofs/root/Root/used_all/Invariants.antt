use Rattle.std.proofs.Common.{◌≡◌, ◌++◌, drop, map}
use Rattle.std.specs.List.{AllByRecursion}
use Rattle.arj_commit.specs.Fits.{UsedFits}
use Rattle.arj_protocol.specs.Coord as coord
use Rattle.arj_root.specs.Noted.{of_tree}
use Rattle.arj_root.proofs.root.Root.used_all.Given as goal

-- what is used of the objects so far and of those that are left
abbrev pub invariant-loop-x : goal.invariant-loop-x
invariant-loop-x l = record {
  used : l.all ++ map (coord.used_of l.top l.self (of_tree l.tree)) (drop l.x-index l.x-items) ≡ map (coord.used_of l.top l.self (of_tree l.tree)) l.x-items;
  fits : AllByRecursion UsedFits l.all;
}
