use Rattle.std.proofs.Common.{◌≡◌, drop}
use Rattle.arj_past.specs.Past.{has_name}
use Rattle.arj_past.proofs.header.is_named.Given as goal

abbrev pub invariant-loop-object : goal.invariant-loop-object
invariant-loop-object l = has_name (drop l.object-index l.objects) l.role l.uid ≡ has_name l.objects l.role l.uid
