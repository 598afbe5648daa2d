use Rattle.std.proofs.Common.{take}
use Rattle.arj_node.specs.Roster.{AreClasses}
use Rattle.arj_node.proofs.roster.classes_of.Given as goal

-- the classes of the objects so far
abbrev pub invariant-loop-object : goal.invariant-loop-object
invariant-loop-object l = AreClasses (take l.object-index l.objects) l.classes
