use Rattle.std.proofs.Common.{◌≡◌, ◌∙◌, sym, ap, Some}
use Rattle.std.specs.Prelude.{option_copied}
use Rattle.arj_class.specs.Table.{own_class, has_op}
use Rattle.arj_protocol.specs.Node.{copy_has_op}
use Rattle.arj_protocol.specs.Order.{at_number}
use Rattle.arj_protocol.specs.Server.{Server}
use Rattle.arj_server.proofs.Classes.{current_has}
use Rattle.arj_server.proofs.server.Server.has_op.Goals as goal

pub returns-in-Some : goal.returns-in-Some
returns-in-Some c =
    let op = c.args.op.now in
    let copy = c.in-Some.object.now in
    let at : at_number c.args.x c.self.inside.manager ≡ Some copy = sym c.copy.ensures ∙ ap option_copied c.in-Some.is in
    c.has_op.ensures
    ∙ ((λ i. has_op (own_class (c.current.ensures i)) op)
    ∙ (current_has c.args.x op c.self.inside.manager copy c.self.invariant.0 at
    ∙ ((λ i. copy_has_op op (sym at i)) ∙ ap (λ (s : Server). copy_has_op op (at_number c.args.x s.objects)) c.self.view_is)))
