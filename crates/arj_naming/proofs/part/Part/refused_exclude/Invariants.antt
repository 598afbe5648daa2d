use Rattle.std.proofs.Common.{◌≡◌, drop}
use Rattle.arj_protocol.specs.Confirm.{first_of_each, refused_exclude}
use Rattle.arj_naming.proofs.part.Part.refused_exclude.Given as goal

-- what is left is refused as all are
abbrev pub invariant-loop-x : goal.invariant-loop-x
invariant-loop-x l =
    first_of_each (refused_exclude l.path l.self) (drop l.x-index l.xs) ≡ first_of_each (refused_exclude l.path l.self) l.xs
