-- what the machine did
use Rattle.std.proofs.Common.{refl, ap, Err}
use Rattle.arj_loop.proofs.run.Runner.step.Goals as goal

pub returns-in-Ok-clause-ran : goal.returns-in-Ok-clause-ran
returns-in-Ok-clause-ran g c =
    let grown = c.in-Ok.ensures.grown in
    record {
      before = c.in-Some.machine;
      after = c.step.new.self;
      machine_was = c.in-Some.is;
      machine_is = refl;
      ran =
          c.in-Ok.ensures.ran;
      steps = grown.0;
      lines = (let found = grown.1 in found.0);
      grown = (let found = grown.1 in found.1);
    }

pub returns-in-Err-Frames-clause-ran : goal.returns-in-Err-Frames-clause-ran
returns-in-Err-Frames-clause-ran g c =
    let is = ap Err c.in-Err-Frames.field-0-is in
    let over = c.in-Err-Frames.ensures.overflown is in
    record {
      before = c.in-Some.machine;
      after = c.step.new.self;
      machine_was = c.in-Some.is;
      machine_is = refl;
      ran =
          c.in-Err-Frames.ensures.frames is;
      steps = over.1;
      lines = (let found = over.2 in found.0);
      grown = (let found = over.2 in found.1);
    }

pub returns-in-Err-Frames-clause-full : goal.returns-in-Err-Frames-clause-full
returns-in-Err-Frames-clause-full g c _ =
    let over = c.in-Err-Frames.ensures.overflown (ap Err c.in-Err-Frames.field-0-is) in
    over.3

pub returns-in-Err-Labels-clause-labels : goal.returns-in-Err-Labels-clause-labels
returns-in-Err-Labels-clause-labels g c _ =
    let is = ap Err c.in-Err-Labels.field-0-is in
    let kept = c.in-Err-Labels.ensures.kept is in
    record {
      before = c.in-Some.machine;
      after = c.step.new.self;
      machine_was = c.in-Some.is;
      machine_is = refl;
      full =
          c.in-Err-Labels.ensures.labels is;
      steps = kept.0;
      going = kept.1;
    }

pub returns-in-Ok-clause-moved : goal.returns-in-Ok-clause-moved
returns-in-Ok-clause-moved g c first header events ran = c.step.ensures.moved first header events (rw c.in-Some.is at ran)

pub returns-in-Err-Frames-clause-moved : goal.returns-in-Err-Frames-clause-moved
returns-in-Err-Frames-clause-moved g c first header events ran = c.step.ensures.moved first header events (rw c.in-Some.is at ran)

pub returns-in-Err-Labels-clause-moved : goal.returns-in-Err-Labels-clause-moved
returns-in-Err-Labels-clause-moved g c first header events ran = c.step.ensures.moved first header events (rw c.in-Some.is at ran)

pub returns-in-Err-Memory-clause-moved : goal.returns-in-Err-Memory-clause-moved
returns-in-Err-Memory-clause-moved g c first header events ran = c.step.ensures.moved first header events (rw c.in-Some.is at ran)
