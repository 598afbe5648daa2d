-- one crash
use Rattle.std.proofs.Common.{◌≡◌, Err, ap, subst, ◌++◌, ◌∷◌, []}
use Rattle.arj_saving.proofs.Crashing.{crashed_one, limit_frames, limit_labels, wants_more}
use Rattle.arj_saving.specs.Stops.{moment, no_labels}
use Rattle.arj_saving.proofs.stopping.crash.Goals as goal

pub returns-in-Ok-clause-crashed : goal.returns-in-Ok-clause-crashed
returns-in-Ok-clause-crashed g c =
    let grown = c.in-Ok.ensures.grown in
    crashed_one g.M.Machine c.args.node c.crash_of.result (moment c.args.rack.now c.args.machine.now c.args.journal.now) (moment c.step.new.rack c.step.new.self c.step.new.journal)
    c.crash_of.ensures.crash c.in-Ok.ensures.ran grown.0 c.in-Ok.ensures.going

pub returns-in-Err-Frames-clause-limit : goal.returns-in-Err-Frames-clause-limit
returns-in-Err-Frames-clause-limit g c _ =
    let is = ap Err c.in-Err-Frames.field-0-is in
    let over = c.in-Err-Frames.ensures.overflown is in
    limit_frames g.M.Machine c.args.node c.crash_of.result (moment c.args.rack.now c.args.machine.now c.args.journal.now) (moment c.step.new.rack c.step.new.self c.step.new.journal)
    c.crash_of.ensures.crash (c.in-Err-Frames.ensures.frames is) over.0 over.3

pub returns-in_ok-no_labels-in-Err-Labels-clause-limit : goal.returns-in_ok-no_labels-in-Err-Labels-clause-limit
returns-in_ok-no_labels-in-Err-Labels-clause-limit g c _ =
    let is = ap Err c.in-Err-Labels.field-0-is in
    let kept = c.in-Err-Labels.ensures.kept is in
    limit_labels g.M.Machine c.args.node c.crash_of.result (moment c.args.rack.now c.args.machine.now c.args.journal.now) (moment c.step.new.rack c.step.new.self c.step.new.journal)
    c.no_labels.new.journal (c.in-Err-Labels.ensures.labels is) kept.1
    (subst (λ k. c.no_labels.new.journal ≡ c.step.new.journal ++ no_labels k ∷ []) c.stepped.ensures c.in_ok-no_labels-in-Err-Labels.ensures)

pub returns-in-Err-Memory-clause-memory : goal.returns-in-Err-Memory-clause-memory
returns-in-Err-Memory-clause-memory g c _ =
    wants_more g.M.Machine c.args.node c.crash_of.result (moment c.args.rack.now c.args.machine.now c.args.journal.now) c.step.new.rack c.crash_of.ensures.crash c.step.ensures.moved

pub returns-in_err-no_labels-in-Err-Labels-clause-memory : goal.returns-in_err-no_labels-in-Err-Labels-clause-memory
returns-in_err-no_labels-in-Err-Labels-clause-memory g c _ =
    wants_more g.M.Machine c.args.node c.crash_of.result (moment c.args.rack.now c.args.machine.now c.args.journal.now) c.step.new.rack c.crash_of.ensures.crash c.step.ensures.moved
