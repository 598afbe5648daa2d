use Rattle.std.proofs.Common.{◌≤◌, length, subst, sym}
use Rattle.arj_naming.proofs.Nodes.{few_nodes}
use Rattle.arj_protocol.specs.Values.{state_entry}
use Rattle.arj_naming.proofs.checks.new_state.Goals as goal

pub save-requires : goal.save-requires
save-requires c = record {
  servers = subst (λ ns. length ns ≤ 255) (sym c.requires.servers) (few_nodes (state_entry c.args.held.now).servers c.requires.held.servers);
  stores = few_nodes c.args.new.now.stores c.requires.stores;
}
