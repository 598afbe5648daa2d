-- an event at which a limit was met
use Rattle.std.proofs.Common.{◌≡◌, ◌∙◌, Err, ap, subst, sym, refl, ◌++◌, ◌∷◌, []}
use Rattle.arj_journal.specs.ScriptForm.{EventInForm}
use Rattle.arj_journal.specs.declared.body.Which.TheVariants as which
use Rattle.arj_programs.proofs.Runnings.{at_frames, at_labels, same_limit}
use Rattle.arj_programs.specs.Runs.{HasEnded, no_labels}
use Rattle.arj_programs.proofs.driven.DrivenNodesRack.step.Goals as goal

pub returns-in-Err-Labels-clause-ended : goal.returns-in-Err-Labels-clause-ended
returns-in-Err-Labels-clause-ended g c w is first header running =
    let labels = c.in-Err-Labels.ensures.labels (ap Err c.in-Err-Labels.field-0-is) in
    let kept = c.in-Err-Labels.ensures.kept (ap Err c.in-Err-Labels.field-0-is) in
    let pushed : c.push-in-Err-Labels.new.self ≡ c.step.new.journal ++ no_labels (g.M.Machine.steps c.step.new.self) ∷ [] =
    c.in_ok-push-in-Err-Labels.ensures.ok ∙ ap (λ n. c.step.new.journal ++ no_labels n ∷ []) c.stepped.ensures in
    let new = record c.args.self.now { machine = c.step.new.self; journal = c.push-in-Err-Labels.new.self } in
    subst (λ v. HasEnded g.M.Machine v first header new c.step.new.rack) (same_limit which.Labels w is)
    (at_labels g.M.Machine first header c.args.self.now new c.step.new.self c.args.on.now c.step.new.rack c.step.new.journal
    c.in_ok-asked.asked refl kept.1
    (labels first header c.args.self.now.events) pushed running)

pub returns-in-Err-Frames-clause-ended : goal.returns-in-Err-Frames-clause-ended
returns-in-Err-Frames-clause-ended g c w is first header running =
    let frames = c.in-Err-Frames.ensures.frames (ap Err c.in-Err-Frames.field-0-is) in
    let over = c.in-Err-Frames.ensures.overflown (ap Err c.in-Err-Frames.field-0-is) in
    let new = record c.args.self.now { machine = c.step.new.self; journal = c.step.new.journal } in
    subst (λ v. HasEnded g.M.Machine v first header new c.step.new.rack) (same_limit which.Frames w is)
    (at_frames g.M.Machine first header c.args.self.now new c.args.on.now c.step.new.rack c.in_ok-asked.asked
    (subst EventInForm (sym c.in_ok-asked.ensures) c.requires.takes) c.requires.room over.0 over.3
    (frames first header c.args.self.now.events) running)
