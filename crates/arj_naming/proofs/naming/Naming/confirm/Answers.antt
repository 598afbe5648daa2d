use Rattle.std.proofs.Common.{◌≡◌, ◌∙◌, List, refl, ap, sym, subst}
use Rattle.arj_disk.specs.declared.slot.Role.TheVariants.{Names}
use Rattle.arj_naming.specs.Calls.{confirm_by}
use Rattle.arj_journal.specs.declared.body.Line.{Line}
use Rattle.arj_naming.specs.Confirming.{IsAnswered, IsReady, Reached, did_of, prepare_by}
use Rattle.arj_naming.specs.Kept.{Kept, HasDone, IsCut, IsDoneInPart}
use Rattle.arj_naming.specs.Reached.{IsReached}
use Rattle.arj_naming.specs.declared.stage.Ready.TheVariants as ready
use Rattle.arj_naming.proofs.Cuts.{part_none, after_lines}
use Rattle.arj_naming.proofs.Ready.{ready_done, ready_cut, ready_part}
use Rattle.arj_naming.proofs.Store.{err_moves, on_err}
use Rattle.arj_store.specs.declared.answer.StoreFault.{StoreFault}
use Rattle.arj_protocol.specs.Naming.{Naming}
use Rattle.arj_naming.proofs.naming.Naming.confirm.Goals as goal

abbrev at : Naming → List Line → List Line → Reached
at n before lines = record { part = n; before = before; lines = lines }

pub returns-in_err-answer-clause-fault : goal.returns-in_err-answer-clause-fault
returns-in_err-answer-clause-fault g c =
    on_err c.from_residual.result (part_none (confirm_by c.args.m.now c.args.self.now.pair c.args.self.now.part).outs c.args.self.now.pair (g.O.ObjectStore.pair (g.D.Disk.file c.args.disk.now) Names) c.requires.stands.pair)

pub returns-in-Answer-clause-done : goal.returns-in-Answer-clause-done
returns-in-Answer-clause-done g c =
    let r = confirm_by c.args.m.now c.args.self.now.pair c.args.self.now.part in
    let reached : IsAnswered r (at c.confirm.new.self.part c.args.out.now c.confirm.new.out) c.in-Answer.answer =
    subst (λ k. IsReached (confirm_by c.args.m.now k.pair k.part) c.last-top.result k.pair (at c.confirm.new.self.part c.args.out.now c.confirm.new.out) (ready.Answer c.in-Answer.answer)) c.self.view_is
    (subst (IsReached (confirm_by c.args.m.now c.self.inside.memory.entries c.self.inside.memory.part) c.last-top.result c.self.inside.memory.entries (at c.confirm.new.self.part c.args.out.now c.confirm.new.out)) c.in-Answer.is c.in_ok-answer.ensures.ready) in
    record {
      part = reached.part;
      lines = reached.lines;
      pair = c.in_ok-answer.ensures.entries ∙ (ap (λ k. k.pair) c.self.view_is ∙ sym (after_lines r.outs c.args.self.now.pair reached.nothing_done));
    }

pub returns-in-Ok-clause-done : goal.returns-in-Ok-clause-done
returns-in-Ok-clause-done g c =
    let d = c.args.self.now.pair in
    let r = confirm_by c.args.m.now d c.args.self.now.part in
    let n = c.confirm.new.self.part in
    let same : c.confirm.new.self.entries ≡ d = c.in_ok-answer.ensures.entries ∙ ap (λ k. k.pair) c.self.view_is in
    let reached : IsReady r c.last-top.result d (at n c.args.out.now c.confirm.new.out) c.in-Prepare.states =
    subst (λ k. IsReached (confirm_by c.args.m.now k.pair k.part) c.last-top.result k.pair (at n c.args.out.now c.confirm.new.out) (ready.Prepare c.in-Prepare.states)) c.self.view_is
    (subst (IsReached (confirm_by c.args.m.now c.self.inside.memory.entries c.self.inside.memory.part) c.last-top.result c.self.inside.memory.entries (at n c.args.out.now c.confirm.new.out)) c.in-Prepare.is c.in_ok-answer.ensures.ready) in
    let between : Kept g.row.O.Denot = record { part = n; pair = c.confirm.new.self.entries; store = c.self.inside.store } in
    ready_done r c.last-top.result d n c.args.out.now c.confirm.new.out c.in-Prepare.states reached c.args.self.now between c.prepare.new.self c.prepare.new.out refl same
    (subst (λ x. HasDone (did_of (prepare_by c.last-top.result c.in-Prepare.states x n)) between c.prepare.new.self c.confirm.new.out c.prepare.new.out) same c.in-Ok.ensures.done)

pub returns-in-Err-clause-stopped : goal.returns-in-Err-clause-stopped
returns-in-Err-clause-stopped g c = λ stop.
    let d = c.args.self.now.pair in
    let r = confirm_by c.args.m.now d c.args.self.now.part in
    let n = c.confirm.new.self.part in
    let p = g.O.ObjectStore.pair (g.D.Disk.file c.prepare.new.disk) Names in
    let same : c.confirm.new.self.entries ≡ d = c.in_ok-answer.ensures.entries ∙ ap (λ k. k.pair) c.self.view_is in
    let reached : IsReady r c.last-top.result d (at n c.args.out.now c.confirm.new.out) c.in-Prepare.states =
    subst (λ k. IsReached (confirm_by c.args.m.now k.pair k.part) c.last-top.result k.pair (at n c.args.out.now c.confirm.new.out) (ready.Prepare c.in-Prepare.states)) c.self.view_is
    (subst (IsReached (confirm_by c.args.m.now c.self.inside.memory.entries c.self.inside.memory.part) c.last-top.result c.self.inside.memory.entries (at n c.args.out.now c.confirm.new.out)) c.in-Prepare.is c.in_ok-answer.ensures.ready) in
    ready_cut r c.last-top.result d n c.args.out.now c.confirm.new.out c.in-Prepare.states reached p c.prepare.new.out
    (subst (λ x. IsCut (prepare_by c.last-top.result c.in-Prepare.states x n).outs x p c.confirm.new.out c.prepare.new.out) same (c.in-Err.ensures.stopped (err_moves c.in-Err.fault StoreFault.Stopped stop)))

pub returns-in-Err-clause-fault : goal.returns-in-Err-clause-fault
returns-in-Err-clause-fault g c =
    let d = c.args.self.now.pair in
    let r = confirm_by c.args.m.now d c.args.self.now.part in
    let n = c.confirm.new.self.part in
    let p = g.O.ObjectStore.pair (g.D.Disk.file c.prepare.new.disk) Names in
    let same : c.confirm.new.self.entries ≡ d = c.in_ok-answer.ensures.entries ∙ ap (λ k. k.pair) c.self.view_is in
    let reached : IsReady r c.last-top.result d (at n c.args.out.now c.confirm.new.out) c.in-Prepare.states =
    subst (λ k. IsReached (confirm_by c.args.m.now k.pair k.part) c.last-top.result k.pair (at n c.args.out.now c.confirm.new.out) (ready.Prepare c.in-Prepare.states)) c.self.view_is
    (subst (IsReached (confirm_by c.args.m.now c.self.inside.memory.entries c.self.inside.memory.part) c.last-top.result c.self.inside.memory.entries (at n c.args.out.now c.confirm.new.out)) c.in-Prepare.is c.in_ok-answer.ensures.ready) in
    ready_part r c.last-top.result d n c.args.out.now c.confirm.new.out c.in-Prepare.states reached p (subst (λ x. IsDoneInPart (prepare_by c.last-top.result c.in-Prepare.states x n).outs x p) same c.in-Err.ensures.fault)
