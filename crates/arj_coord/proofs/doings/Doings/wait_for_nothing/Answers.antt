use Rattle.std.proofs.Common.{List, not, ap, ◌∙◌}
use Rattle.std.specs.List.{list_any}
use Rattle.arj_coord.proofs.Waits.{empty_is}
use Rattle.arj_protocol.specs.Coord.{Doing}
use Rattle.arj_protocol.specs.Step.{is_waiting_now}
use Rattle.arj_coord.proofs.doings.Doings.wait_for_nothing.Goals as goal

pub returns : goal.returns
returns c =
    empty_is c.is_empty.result c.self.inside.pending.keys c.self.inside.all.items c.is_empty.ensures c.self.invariant
    ∙ ap (λ (ds : List Doing). not (list_any (λ (d : Doing). is_waiting_now d.now) ds)) c.self.view_is
