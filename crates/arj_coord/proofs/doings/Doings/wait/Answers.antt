use Rattle.std.proofs.Common.{ap, sym, ◌∙◌}
use Rattle.std.specs.Prelude.{slice_set}
use Rattle.arj_coord.proofs.Waits.{changed_keeps}
use Rattle.arj_coord.proofs.Works.{changed_is, read_at, read_shown}
use Rattle.arj_coord.specs.Shown.{now_of}
use Rattle.arj_protocol.specs.Coord.{Doing}
use Rattle.arj_protocol.specs.Step.{is_waiting_now}
use Rattle.arj_coord.proofs.doings.Doings.wait.Goals as goal

pub invariant_of-self-2 : goal.invariant_of-self-2
invariant_of-self-2 c =
    changed_keeps c.self.inside.pending.keys c.mark.new.pending.keys c.in-Some.place c.args.number c.is_waiting.result c.self.inside.all.items c.index_mut.result.now c.wait.new.self
    (read_at _ c.args.self.now c.in-Some.place c.index_mut.result.now c.self.view_is c.in-Some.ensures.1 c.index_mut.ensures.value)
    c.self.invariant c.in-Some.ensures.0 (ap (λ (d : Doing). is_waiting_now d.now) c.wait.ensures ∙ sym c.is_waiting.ensures) c.in_default-mark.ensures.marked

pub returns-clause-waits : goal.returns-clause-waits
returns-clause-waits c =
    ap (λ ds. slice_set ds c.in-Some.place c.wait.new.self) c.self.view_is
    ∙ changed_is (λ (d : Doing). record d {
      req = c.args.req;
      now =
          now_of c.args.now;
    }) c.in-Some.place c.args.number c.args.self.now c.index_mut.result.now c.wait.new.self
    (read_shown _ c.args.self.now c.in-Some.place c.index_mut.result.now c.self.view_is c.in-Some.ensures.1 c.index_mut.ensures.value) c.in-Some.ensures.0 c.wait.ensures
