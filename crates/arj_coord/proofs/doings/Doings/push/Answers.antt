use Rattle.std.proofs.Common.{refl, ap, sym, ◌∙◌, ◌++◌, ◌∷◌, []}
use Rattle.arj_coord.proofs.Waits.{waiting_begun}
use Rattle.arj_coord.specs.Waiting.{waiting}
use Rattle.arj_protocol.specs.Coord.{Idle}
use Rattle.arj_coord.proofs.doings.Doings.push.Goals as goal

pub invariant_of-self-2 : goal.invariant_of-self-2
invariant_of-self-2 c =
    c.self.invariant ∙ sym (waiting_begun 1 c.self.inside.all.items (record { label = c.args.label; req = 0; now = Idle; took = [] }) refl)
    ∙ sym (ap (waiting 1) (c.push_reserved.ensures.items ∙ (λ i. c.reserve.ensures.items i ++ c.new.ensures i ∷ [])))
