use Rattle.std.proofs.Common.{◌∙◌, ap, sym, subst}
use Rattle.arj_protocol.specs.Server.{Server, end_new}
use Rattle.arj_server.specs.Classes.{AreCopies}
use Rattle.arj_server.proofs.Classes.{copies_ended}
use Rattle.arj_server.proofs.Voted.{drop_is}
use Rattle.arj_server.proofs.server.Server.end_new.Goals as goal

pub invariant_of-self-2 : goal.invariant_of-self-2
invariant_of-self-2 c =
    subst AreCopies (sym c.end_objects.ensures) (copies_ended c.args.action c.args.end c.self.inside.manager c.self.invariant)

pub returns-clause-part : goal.returns-clause-part
returns-clause-part c =
    (λ i. record {
      inc = c.self.inside.inc;
      objects = c.end_objects.ensures i;
      kept = c.remove.ensures.entries i;
      ends = c.in_ok-insert.ensures.entries i;
      voted = drop_is c.args.action c.self.inside.voted.keys c.remove-3.new.self.keys c.remove-3.ensures.keys c.remove-3.ensures.updates.1 i;
    })
    ∙ ap (λ (s : Server). (end_new c.args.node c.args.action c.args.end s).part) c.self.view_is
