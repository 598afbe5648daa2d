use Rattle.std.proofs.Common.{◌≡◌, ◌++◌, drop}
use Rattle.arj_protocol.specs.Server.{apply_ends}
use Rattle.arj_server.specs.Lines.{said}
use Rattle.arj_server.proofs.server.Server.apply_ends.Given as goal

-- the ends that are left, applied to what those before made, give what all of them give
abbrev pub invariant-loop-end : goal.invariant-loop-end
invariant-loop-end l = record {
  part : (apply_ends l.node (drop l.end-index l.ends) l.self).part ≡ (apply_ends l.node l.ends l.fn.self).part;
  lines : l.out ++ said (apply_ends l.node (drop l.end-index l.ends) l.self).outs ≡ l.fn.out ++ said (apply_ends l.node l.ends l.fn.self).outs;
}
