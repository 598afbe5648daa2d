use Rattle.std.proofs.Common.{◌∙◌}
use Rattle.arj_bind.specs.Heard.{granted_in}
use Rattle.arj_protocol.specs.Ask.{answers, top_of}
use Rattle.arj_protocol.specs.Coord as coord
use Rattle.arj_root.proofs.Kept.{answered_root}
use Rattle.arj_root.proofs.root.Root.answered.Goals as goal

pub returns-clause-root : goal.returns-clause-root
returns-clause-root c =
    let f = c.self.inside in
    let mid : coord.Root =
    record { went = f.sends; said = f.calls; joined = f.joins; grants = f.grants; keeping = f.keeping; states = f.states } in
    answered_root c.args.steps c.args.from c.args.message.value c.args.free c.args.self.now mid c.granted.result c.answered.new.self
    (c.granted.ensures ∙ (λ i. granted_in (top_of c.args.steps.path) c.args.steps.x (answers (c.deref.ensures i)))) (c.self.view_is ∙ c.in_ok-note_granted.ensures)
    c.in_ok-step.ensures.keeping
