use Rattle.std.proofs.Common.{◌≡◌, ◌++◌}
use Rattle.std.proofs.lemmas.Result.{on_ok_weaker}
use Rattle.arj_asking.proofs.Hears.{call_fits, gives_up_call_so, gives_up_commit_so, has_next}
use Rattle.arj_asking.proofs.giving.give_up.Goals as goal
use Rattle.arj_coord.specs.Shown.{machine_of}

pub give_up_call-requires-clause-node : goal.give_up_call-requires-clause-node
give_up_call-requires-clause-node c =
    (call_fits c.args.action c.args.coord.now c.in-Calling.steps c.fits.ensures c.in-Calling.ensures.taken).1.1

pub give_up_call-requires-clause-room : goal.give_up_call-requires-clause-room
give_up_call-requires-clause-room c =
    has_next c.args.action c.args.coord.now c.in-Calling.steps (call_fits c.args.action c.args.coord.now c.in-Calling.steps c.fits.ensures c.in-Calling.ensures.taken).1.0 c.requires

pub returns-in-Calling-clause-part : goal.returns-in-Calling-clause-part
returns-in-Calling-clause-part c =
    on_ok_weaker c.give_up_call.result
    (λ gave. gives_up_call_so (λ t. c.give_up_call.new.coord ≡ t.part) c.args.intents.now c.args.coord.now c.take.new.self c.args.action c.in-Calling.steps c.in-Calling.ensures.taken c.fits.ensures c.take.ensures.idle gave)
    c.give_up_call.ensures.part

pub returns-in-Calling-clause-outs : goal.returns-in-Calling-clause-outs
returns-in-Calling-clause-outs c =
    on_ok_weaker c.give_up_call.result
    (λ gave. gives_up_call_so (λ t. c.give_up_call.new.outs ≡ c.args.outs.now ++ t.outs) c.args.intents.now c.args.coord.now c.take.new.self c.args.action c.in-Calling.steps c.in-Calling.ensures.taken c.fits.ensures c.take.ensures.idle gave)
    c.give_up_call.ensures.outs

pub returns-in-Committing-clause-part : goal.returns-in-Committing-clause-part
returns-in-Committing-clause-part c =
    on_ok_weaker c.give_up_commit.result
    (λ gave. gives_up_commit_so (λ t. c.give_up_commit.new.coord ≡ t.part) c.args.intents.now c.args.coord.now c.take.new.self c.args.action (machine_of c.in-Committing.commit.value) c.in-Committing.ensures.taken c.fits.ensures c.take.ensures.idle gave)
    c.give_up_commit.ensures.part

pub returns-in-Committing-clause-outs : goal.returns-in-Committing-clause-outs
returns-in-Committing-clause-outs c =
    on_ok_weaker c.give_up_commit.result
    (λ gave. gives_up_commit_so (λ t. c.give_up_commit.new.outs ≡ c.args.outs.now ++ t.outs) c.args.intents.now c.args.coord.now c.take.new.self c.args.action (machine_of c.in-Committing.commit.value) c.in-Committing.ensures.taken c.fits.ensures c.take.ensures.idle gave)
    c.give_up_commit.ensures.outs
