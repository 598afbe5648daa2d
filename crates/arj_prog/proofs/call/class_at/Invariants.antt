-- The class is asked of the objects that are left.
use Rattle.std.proofs.Common.{◌≡◌, drop}
use Rattle.arj_prog.specs.Lines.{class_at}
use Rattle.arj_prog.proofs.call.class_at.Given as goal

abbrev pub invariant-loop-object : goal.invariant-loop-object
invariant-loop-object l = class_at l.x (drop l.object-index l.objects) ≡ class_at l.x l.objects
