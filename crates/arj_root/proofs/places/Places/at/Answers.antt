use Rattle.std.proofs.Common.{ap, ◌∙◌}
use Rattle.arj_protocol.specs.Order.{at_number}
use Rattle.arj_root.specs.Placed.{Places}
use Rattle.arj_root.proofs.places.Places.at.Goals as goal

pub returns : goal.returns
returns c = c.get.ensures.value ∙ ap (λ (m : Places). at_number c.args.x m) c.self.view_is
