use Rattle.std.proofs.Common.{ap, sym, false, ◌∙◌}
use Rattle.std.specs.Prelude.{slice_set}
use Rattle.arj_coord.proofs.Waits.{changed_keeps}
use Rattle.arj_coord.proofs.Works.{changed_is, read_at, read_shown, read_number}
use Rattle.arj_coord.specs.Waiting.{idle_doing, now_in}
use Rattle.arj_protocol.specs.Coord.{Doing}
use Rattle.arj_protocol.specs.Step.{is_waiting_now}
use Rattle.arj_coord.proofs.doings.Doings.take.Goals as goal

pub invariant_of-self : goal.invariant_of-self
invariant_of-self c =
    changed_keeps c.self.inside.pending.keys _ c.in-Some.place c.args.number false c.self.inside.all.items c.index_mut.result.now c.take.new.self
    (read_at _ c.args.self.now c.in-Some.place c.index_mut.result.now c.self.view_is c.in-Some.ensures.1 c.index_mut.ensures.value)
    c.self.invariant c.in-Some.ensures.0 (ap (λ (d : Doing). is_waiting_now d.now) c.take.ensures.idle) c.remove.ensures.keys

pub returns-in-Some-clause-taken : goal.returns-in-Some-clause-taken
returns-in-Some-clause-taken c =
    c.take.ensures.taken
    ∙ sym (ap now_in (read_number _ c.args.self.now c.in-Some.place c.args.number c.index_mut.result.now c.self.view_is c.in-Some.ensures.1 c.index_mut.ensures.value c.in-Some.ensures.0))

pub returns-in-Some-clause-idle : goal.returns-in-Some-clause-idle
returns-in-Some-clause-idle c =
    ap (λ ds. slice_set ds c.in-Some.place c.take.new.self) c.self.view_is
    ∙ changed_is idle_doing c.in-Some.place c.args.number c.args.self.now c.index_mut.result.now c.take.new.self
    (read_shown _ c.args.self.now c.in-Some.place c.index_mut.result.now c.self.view_is c.in-Some.ensures.1 c.index_mut.ensures.value) c.in-Some.ensures.0 c.take.ensures.idle
