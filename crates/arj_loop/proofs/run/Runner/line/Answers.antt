-- one line more of the run
use Rattle.std.proofs.Common.{◌≡◌, Err, inl, inr, ap, refl, sym, subst, ◌∙◌, ◌+◌, [], ◌∷◌, ◌++◌, length}
use Rattle.std.proofs.Math.Logic.{⊎_elim}
use Rattle.std.proofs.lemmas.Bool.{cases_lt}
use Rattle.arj_script.specs.Grammar.{Start}
use Rattle.arj_script.specs.Input.{TellsInForm}
use Rattle.arj_loop.specs.declared.ending.End.TheVariants as ending
use Rattle.arj_loop.specs.Running.{StageOf}
use Rattle.arj_loop.proofs.Stages.{Taken, stage_quiet, stage_run, stage_event, stage_labels, standing, ready_at, bare_at, event_in_form}
use Rattle.arj_loop.proofs.Stages.{both_ok, ok_from, stage_moved, limited_moved, changed_event, changed_run, formatted_by}
use Rattle.arj_loop.proofs.run.Runner.line.Goals as goal

pub start-requires-clause-form : goal.start-requires-clause-form
start-requires-clause-form g c = subst TellsInForm c.in-Ok-Run.field-0-is c.in-Ok-Run.ensures.form

pub start-requires-clause-ready : goal.start-requires-clause-ready
start-requires-clause-ready g c =
    let taken = subst (λ i. Taken c.args.self.now.reader c.args.line.now i c.read_item.new.reader) c.in-Ok-Run.field-0-is c.in-Ok-Run.ensures.taken in
    let r = c.requires.stage in
    ready_at g.M.Machine r.0 c.args.rack.now r.1 c.args.line.now c.args.self.now.reader c.read_item.new.reader c.in-Ok-Run.header c.args.self.now.machine c.args.self.now.lines c.args.journal.now taken r.2

pub step-requires-clause-form : goal.step-requires-clause-form
step-requires-clause-form g c =
    let taken = subst (λ i. Taken c.args.self.now.reader c.args.line.now i c.read_item.new.reader) c.in-Ok-Event.field-0-is c.in-Ok-Event.ensures.taken in
    event_in_form c.args.self.now.reader c.args.line.now c.read_item.new.reader c.in-Ok-Event.event taken

pub step-requires-clause-step : goal.step-requires-clause-step
step-requires-clause-step g c =
    let taken = subst (λ i. Taken c.args.self.now.reader c.args.line.now i c.read_item.new.reader) c.in-Ok-Event.field-0-is c.in-Ok-Event.ensures.taken in
    let r = c.requires.stage in
    standing g.M.Machine r.0 c.args.rack.now r.1 c.args.line.now c.args.self.now.reader c.read_item.new.reader c.in-Ok-Event.event c.args.self.now.machine c.args.self.now.lines c.args.journal.now taken r.2 c.requires.going

pub returns-in-Ok-Blank-clause-went : goal.returns-in-Ok-Blank-clause-went
returns-in-Ok-Blank-clause-went g c =
    let taken = subst (λ i. Taken c.args.self.now.reader c.args.line.now i c.read_item.new.reader) c.in-Ok-Blank.field-0-is c.in-Ok-Blank.ensures.taken in
    ok_from c.pass.result (λ _ first lines s.
    subst (λ r. StageOf g.M.Machine first c.args.rack.now (lines ++ c.args.line.now ∷ []) r c.args.journal.now) (sym c.pass.ensures.line)
    (stage_quiet g.M.Machine first c.args.rack.now lines c.args.line.now c.args.self.now.reader c.read_item.new.reader c.args.self.now.machine c.args.self.now.lines c.args.journal.now
    (taken.0, taken.1, inl taken.2, taken.3) (c.if-is_full.ensures taken.1.short) s))

pub returns-in-Ok-Part-clause-went : goal.returns-in-Ok-Part-clause-went
returns-in-Ok-Part-clause-went g c =
    let taken = subst (λ i. Taken c.args.self.now.reader c.args.line.now i c.read_item.new.reader) c.in-Ok-Part.field-0-is c.in-Ok-Part.ensures.taken in
    ok_from c.pass-in-Ok-Part.result (λ _ first lines s.
    subst (λ r. StageOf g.M.Machine first c.args.rack.now (lines ++ c.args.line.now ∷ []) r c.args.journal.now) (sym c.pass-in-Ok-Part.ensures.line)
    (stage_quiet g.M.Machine first c.args.rack.now lines c.args.line.now c.args.self.now.reader c.read_item.new.reader c.args.self.now.machine c.args.self.now.lines c.args.journal.now
    (taken.0, taken.1, inr taken.2, taken.3) (c.if-is_full.ensures taken.1.short) s))

pub returns-in-Ok-Run-clause-went : goal.returns-in-Ok-Run-clause-went
returns-in-Ok-Run-clause-went g c =
    let taken = subst (λ i. Taken c.args.self.now.reader c.args.line.now i c.read_item.new.reader) c.in-Ok-Run.field-0-is c.in-Ok-Run.ensures.taken in
    both_ok c.start.result (λ started line first lines s.
    stage_moved g.M.Machine first c.start.new.rack (lines ++ c.args.line.now ∷ []) c.read_item.new.reader c.start.new.self.reader c.start.new.self.machine (c.args.self.now.lines + 1) c.start.new.self.lines c.args.journal.now line.0 line.1
    (stage_run g.M.Machine first c.args.rack.now c.start.new.rack lines c.args.line.now c.args.self.now.reader c.read_item.new.reader c.in-Ok-Run.header c.args.self.now.machine c.start.new.self.machine c.args.self.now.lines c.args.journal.now
    taken (c.if-is_full.ensures taken.1.short) started s))
    c.start.ensures.started c.start.ensures.line

pub returns-in-Ok-Event-clause-went : goal.returns-in-Ok-Event-clause-went
returns-in-Ok-Event-clause-went g c =
    let taken = subst (λ i. Taken c.args.self.now.reader c.args.line.now i c.read_item.new.reader) c.in-Ok-Event.field-0-is c.in-Ok-Event.ensures.taken in
    both_ok c.step.result (λ ran line first lines s.
    stage_moved g.M.Machine first c.step.new.rack (lines ++ c.args.line.now ∷ []) c.read_item.new.reader c.step.new.self.reader c.step.new.self.machine (c.args.self.now.lines + 1) c.step.new.self.lines c.step.new.journal line.0 line.1
    (stage_event g.M.Machine first c.args.rack.now c.step.new.rack lines c.args.line.now c.args.self.now.reader c.read_item.new.reader c.in-Ok-Event.event c.args.self.now.machine c.step.new.self.machine c.args.self.now.lines c.args.journal.now c.step.new.journal
    taken (c.if-is_full.ensures taken.1.short) ran s))
    c.step.ensures.ran c.step.ensures.line

pub returns-in-Ok-Event-clause-labels : goal.returns-in-Ok-Event-clause-labels
returns-in-Ok-Event-clause-labels g c is first lines s =
    let taken = subst (λ i. Taken c.args.self.now.reader c.args.line.now i c.read_item.new.reader) c.in-Ok-Event.field-0-is c.in-Ok-Event.ensures.taken in
    let kept = c.step.ensures.kept is in
    let found = stage_labels g.M.Machine first c.args.rack.now c.step.new.rack lines c.args.line.now c.args.self.now.reader c.read_item.new.reader c.in-Ok-Event.event c.args.self.now.machine c.step.new.self.machine c.args.self.now.lines c.args.journal.now c.step.new.journal
    taken kept.0 (c.step.ensures.labels is) s
    in
    limited_moved g.M.Machine first c.step.new.rack lines c.read_item.new.reader c.step.new.self.reader c.step.new.self.machine c.args.self.now.lines c.step.new.self.lines c.step.new.journal c.args.line.now
    kept.1 kept.2 (found.0, c.if-is_full.ensures taken.1.short, found.1)

-- a line can be run where it isn't too long
pub returns-in-Err-clause-bad : goal.returns-in-Err-clause-bad
returns-in-Err-clause-bad g c w is =
    let same : c.in-Err.end ≡ ending.Bad w = let h = is in cc in
    let found = c.in-Err.ensures.bad w (ap Err same) in
    (⊎_elim (λ long. inr long) (λ short. inl (c.if-is_full.ensures short)) (cases_lt 500 (length c.args.line.now)), found.0, found.1)

-- ---- what the line did to the disks

pub returns-then-is_full-clause-moved : goal.returns-then-is_full-clause-moved
returns-then-is_full-clause-moved g c first lines stage = inl refl

pub returns-in-Err-clause-moved : goal.returns-in-Err-clause-moved
returns-in-Err-clause-moved g c first lines stage = inl refl

pub returns-in-Ok-Blank-clause-moved : goal.returns-in-Ok-Blank-clause-moved
returns-in-Ok-Blank-clause-moved g c first lines stage = inl refl

pub returns-in-Ok-Part-clause-moved : goal.returns-in-Ok-Part-clause-moved
returns-in-Ok-Part-clause-moved g c first lines stage = inl refl

pub returns-in-Ok-Run-clause-moved : goal.returns-in-Ok-Run-clause-moved
returns-in-Ok-Run-clause-moved g c first lines stage =
    let taken = subst (λ i. Taken c.args.self.now.reader c.args.line.now i c.read_item.new.reader) c.in-Ok-Run.field-0-is c.in-Ok-Run.ensures.taken in
    changed_run g.M.Machine stage.header c.args.rack.now c.start.new.rack c.args.self.now.reader c.args.line.now c.read_item.new.reader c.in-Ok-Run.header taken c.start.ensures.moved

pub returns-in-Ok-Event-clause-moved : goal.returns-in-Ok-Event-clause-moved
returns-in-Ok-Event-clause-moved g c first lines stage =
    let taken = subst (λ i. Taken c.args.self.now.reader c.args.line.now i c.read_item.new.reader) c.in-Ok-Event.field-0-is c.in-Ok-Event.ensures.taken in
    changed_event g.M.Machine first c.args.rack.now c.step.new.rack lines c.args.line.now c.args.self.now.reader c.read_item.new.reader c.in-Ok-Event.event c.args.self.now.machine c.args.self.now.lines c.args.journal.now taken stage c.step.ensures.moved

pub returns-in-Ok-Run-clause-format : goal.returns-in-Ok-Run-clause-format
returns-in-Ok-Run-clause-format g c is =
    let taken = subst (λ i. Taken c.args.self.now.reader c.args.line.now i c.read_item.new.reader) c.in-Ok-Run.field-0-is c.in-Ok-Run.ensures.taken in
    let f = formatted_by g.M.Machine c.args.rack.now c.start.new.rack c.args.self.now.reader c.args.line.now c.read_item.new.reader c.in-Ok-Run.header taken c.start.ensures.moved in
    let stopped = c.start.ensures.format is in
    let r = c.requires.stage in
    let bare = bare_at g.M.Machine r.0 c.args.rack.now r.1 c.args.line.now c.args.self.now.reader c.read_item.new.reader c.in-Ok-Run.header c.args.self.now.machine c.args.self.now.lines c.args.journal.now taken r.2 in
    (f.0, c.if-is_full.ensures taken.1.short, bare, stopped.0 ∙ bare, stopped.1, f.1)
