-- one event
use Rattle.std.proofs.Common.{ap, Err, subst, ◌≡◌, ◌++◌, ◌∷◌, []}
use Rattle.arj_bank.specs.Underway.{moment}
use Rattle.arj_bank.proofs.Running.{at_frames, at_labels, has_room, next_moment, runs_now, wants_more}
use Rattle.arj_journal.specs.declared.body.Body.TheVariants as body
use Rattle.arj_journal.specs.declared.body.Which.TheVariants as which
use Rattle.arj_bank.proofs.run.run_one.Goals as goal

pub step-requires-clause-form : goal.step-requires-clause-form
step-requires-clause-form g c = let r = c.requires in let u = r.3 in u.form.0

pub step-requires-clause-room : goal.step-requires-clause-room
step-requires-clause-room g c =
    let r = c.requires in has_room g.M.Machine r.0 c.args.event r.1 r.2 (moment c.args.rack.now c.args.machine.now c.args.journal.now) r.3 r.4

pub step-requires-clause-going : goal.step-requires-clause-going
step-requires-clause-going g c = let r = c.requires in let u = r.3 in u.going

pub step-requires-clause-ran : goal.step-requires-clause-ran
step-requires-clause-ran g c =
    let r = c.requires in runs_now g.M.Machine r.0 (c.args.event ∷ r.1) r.2 (moment c.args.rack.now c.args.machine.now c.args.journal.now) r.3 r.5

pub returns-in-Ok-clause-next : goal.returns-in-Ok-clause-next
returns-in-Ok-clause-next g c given rest old u =
    let grown = c.in-Ok.ensures.grown in
    next_moment g.M.Machine given c.args.event rest old (moment c.args.rack.now c.args.machine.now c.args.journal.now) (moment c.step.new.rack c.step.new.self c.step.new.journal) u
    c.in-Ok.ensures.ran grown.0 c.in-Ok.ensures.going

pub returns-in-Err-Frames-clause-limit : goal.returns-in-Err-Frames-clause-limit
returns-in-Err-Frames-clause-limit g c _ given rest old u first header ran =
    let is = ap Err c.in-Err-Frames.field-0-is in
    let over = c.in-Err-Frames.ensures.overflown is in
    at_frames g.M.Machine given c.args.event rest old (moment c.args.rack.now c.args.machine.now c.args.journal.now) (moment c.step.new.rack c.step.new.self c.step.new.journal) u
    (c.in-Err-Frames.ensures.frames is) over.0 over.3 first header ran

pub returns-in_ok-no_labels-in-Err-Labels-clause-limit : goal.returns-in_ok-no_labels-in-Err-Labels-clause-limit
returns-in_ok-no_labels-in-Err-Labels-clause-limit g c _ given rest old u first header ran =
    let is = ap Err c.in-Err-Labels.field-0-is in
    let kept = c.in-Err-Labels.ensures.kept is in
    at_labels g.M.Machine given c.args.event rest old (moment c.args.rack.now c.args.machine.now c.args.journal.now) (moment c.step.new.rack c.step.new.self c.step.new.journal) c.no_labels.new.journal u
    (c.in-Err-Labels.ensures.labels is) kept.1
    (subst (λ k. c.no_labels.new.journal ≡ c.step.new.journal ++ record {
      event = k;
      body =
          body.Limit which.Labels;
    } ∷ []) c.stepped.ensures c.in_ok-no_labels-in-Err-Labels.ensures) first header ran

pub returns-in-Err-Memory-clause-memory : goal.returns-in-Err-Memory-clause-memory
returns-in-Err-Memory-clause-memory g c _ given rest old u =
    wants_more g.M.Machine given c.args.event rest old (moment c.args.rack.now c.args.machine.now c.args.journal.now) c.step.new.rack u c.step.ensures.moved

pub returns-in_err-no_labels-in-Err-Labels-clause-memory : goal.returns-in_err-no_labels-in-Err-Labels-clause-memory
returns-in_err-no_labels-in-Err-Labels-clause-memory g c _ given rest old u =
    wants_more g.M.Machine given c.args.event rest old (moment c.args.rack.now c.args.machine.now c.args.journal.now) c.step.new.rack u c.step.ensures.moved
