use Rattle.std.proofs.Common.{ap, ◌∙◌}
use Rattle.std.specs.Prelude.{slice_set}
use Rattle.arj_coord.proofs.Waits.{part_keeps}
use Rattle.arj_coord.proofs.Works.{changed_is, read_at, read_shown}
use Rattle.arj_protocol.specs.Coord.{Doing}
use Rattle.arj_protocol.specs.Step.{is_waiting_now}
use Rattle.arj_coord.proofs.doings.Doings.take_part.Goals as goal

pub invariant_of-self : goal.invariant_of-self
invariant_of-self c =
    part_keeps c.self.inside.pending.keys c.in-Some.place c.self.inside.all.items c.index_mut.result.now c.take_part.new.self
    (read_at _ c.args.self.now c.in-Some.place c.index_mut.result.now c.self.view_is c.in-Some.ensures.1 c.index_mut.ensures.value)
    c.self.invariant (ap (λ (d : Doing). is_waiting_now d.now) c.take_part.ensures)

pub returns-in-Some : goal.returns-in-Some
returns-in-Some c =
    ap (λ ds. slice_set ds c.in-Some.place c.take_part.new.self) c.self.view_is
    ∙ changed_is (λ (d : Doing). record d {
      took =
          c.args.nodes;
    }) c.in-Some.place c.args.number c.args.self.now c.index_mut.result.now c.take_part.new.self
    (read_shown _ c.args.self.now c.in-Some.place c.index_mut.result.now c.self.view_is c.in-Some.ensures.1 c.index_mut.ensures.value) c.in-Some.ensures.0 c.take_part.ensures
