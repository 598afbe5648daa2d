use Rattle.std.proofs.Common.{◌∙◌, ap, Option}
use Rattle.arj_protocol.specs.Asking as asking
use Rattle.arj_protocol.specs.Coord.{Coord}
use Rattle.arj_protocol.specs.Effect.{Did}
use Rattle.arj_protocol.specs.Tree.{Branch}
use Rattle.arj_asking.proofs.begins.begin_action.Goals as goal

pub returns-clause-part : goal.returns-clause-part
returns-clause-part c =
    c.in_ok-uid.ensures.part c.args.parent
    ∙ ap (λ (b : Option Branch). let d : Did Coord =
    asking.begin_action c.args.label c.args.kind c.args.parent b c.args.coord.now in d.part) c.parent_of-above.ensures.branch
