use Rattle.std.proofs.Common.{◌≡◌, drop}
use Rattle.arj_protocol.specs.Server.{first_unbound}
use Rattle.arj_server.proofs.server.Server.first_unbound.Given as goal

-- what is left answers the same as the whole
abbrev pub invariant-loop-object : goal.invariant-loop-object
invariant-loop-object l = first_unbound (drop l.object-index l.objects) l.self ≡ first_unbound l.objects l.self
