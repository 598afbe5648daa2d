use Rattle.arj_protocol.specs.Copy.{taken_copy}
use Rattle.arj_server.proofs.Classes.{copies_put, either_way}
use Rattle.arj_server.proofs.server.Server.take_copy.Goals as goal

pub invariant_of-self : goal.invariant_of-self
invariant_of-self c =
    either_way c.activate.result c.activate.new.self _ c.self.inside.manager (copies_put c.args.x (taken_copy c.args.m.now.binding c.args.m.now.state) c.self.inside.manager c.self.invariant tt) c.self.invariant c.activate.ensures.copies c.activate.ensures.kept
