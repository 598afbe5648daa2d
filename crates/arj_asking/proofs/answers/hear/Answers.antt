use Rattle.std.proofs.Common.{◌≡◌, ◌++◌, refl, true}
use Rattle.std.specs.Prelude.{is_some}
use Rattle.arj_asking.proofs.Hears.{asker_has_room, call_fits, call_meant, commit_awaited, has_next, hears_call_so, hears_commit_so}
use Rattle.arj_asking.proofs.Hears.{not_idle, taken_so}
use Rattle.arj_coord.specs.Shown.{machine_of}
use Rattle.arj_bind.specs.Heard.{awaited}
use Rattle.arj_protocol.specs.Ask.{answers}
use Rattle.arj_asking.proofs.answers.hear.Goals as goal

pub hear_call-requires-clause-node : goal.hear_call-requires-clause-node
hear_call-requires-clause-node c =
    (call_fits c.args.action c.args.coord.now c.in-Calling.steps c.fits.ensures c.in-Calling.ensures.taken).1.1

pub hear_call-requires-clause-room : goal.hear_call-requires-clause-room
hear_call-requires-clause-room c =
    has_next c.args.action c.args.coord.now c.in-Calling.steps (call_fits c.args.action c.args.coord.now c.in-Calling.steps c.fits.ensures c.in-Calling.ensures.taken).1.0
    (asker_has_room (answers c.args.delivery.message.value) c.args.action c.args.coord.now c.requires.waits.asks c.requires.room)

pub hear_call-requires-clause-meant : goal.hear_call-requires-clause-meant
hear_call-requires-clause-meant c =
    call_meant c.args.delivery.from (answers c.args.delivery.message.value) c.args.coord.now c.args.action c.in-Calling.steps c.requires.waits.asks c.requires.meant c.in-Calling.ensures.taken

pub returns-in_ok-hear_call-in-Calling-clause-part : goal.returns-in_ok-hear_call-in-Calling-clause-part
returns-in_ok-hear_call-in-Calling-clause-part c =
    let w = c.requires.waits in
    hears_call_so (λ t. c.hear_call.new.coord ≡ t.part) c.args.delivery.from (answers c.args.delivery.message.value) c.args.intents.now c.args.coord.now c.take.new.self c.args.action w.now c.in-Calling.steps c.args.delivery.free
    w.asks w.there w.waits c.in-Calling.ensures.taken c.fits.ensures c.take.ensures.idle w.is_free c.in_ok-hear_call-in-Calling.ensures.part

pub returns-in_ok-hear_call-in-Calling-clause-outs : goal.returns-in_ok-hear_call-in-Calling-clause-outs
returns-in_ok-hear_call-in-Calling-clause-outs c =
    let w = c.requires.waits in
    hears_call_so (λ t. c.hear_call.new.outs ≡ c.args.outs.now ++ t.outs) c.args.delivery.from (answers c.args.delivery.message.value) c.args.intents.now c.args.coord.now c.take.new.self c.args.action w.now c.in-Calling.steps c.args.delivery.free
    w.asks w.there w.waits c.in-Calling.ensures.taken c.fits.ensures c.take.ensures.idle w.is_free c.in_ok-hear_call-in-Calling.ensures.outs

pub returns-in_ok-hear_commit-in-Committing-clause-part : goal.returns-in_ok-hear_commit-in-Committing-clause-part
returns-in_ok-hear_commit-in-Committing-clause-part c =
    let w = c.requires.waits in
    hears_commit_so (λ t. c.hear_commit.new.coord ≡ t.part) c.args.delivery.from (answers c.args.delivery.message.value) c.args.intents.now c.args.coord.now c.take.new.self c.args.action w.now (machine_of c.in-Committing.commit.value)
    w.asks w.there w.waits c.in-Committing.ensures.taken c.fits.ensures c.take.ensures.idle c.in_ok-hear_commit-in-Committing.ensures.part

pub returns-in_ok-hear_commit-in-Committing-clause-outs : goal.returns-in_ok-hear_commit-in-Committing-clause-outs
returns-in_ok-hear_commit-in-Committing-clause-outs c =
    let w = c.requires.waits in
    hears_commit_so (λ t. c.hear_commit.new.outs ≡ c.args.outs.now ++ t.outs) c.args.delivery.from (answers c.args.delivery.message.value) c.args.intents.now c.args.coord.now c.take.new.self c.args.action w.now (machine_of c.in-Committing.commit.value)
    w.asks w.there w.waits c.in-Committing.ensures.taken c.fits.ensures c.take.ensures.idle c.in_ok-hear_commit-in-Committing.ensures.outs

pub returns-in_ok-hear_call-in-Calling-clause-taken : goal.returns-in_ok-hear_call-in-Calling-clause-taken
returns-in_ok-hear_call-in-Calling-clause-taken c =
    let w = c.requires.waits in
    hears_call_so (λ t. true ≡ is_some t.reply) c.args.delivery.from (answers c.args.delivery.message.value) c.args.intents.now c.args.coord.now c.take.new.self c.args.action w.now c.in-Calling.steps c.args.delivery.free
    w.asks w.there w.waits c.in-Calling.ensures.taken c.fits.ensures c.take.ensures.idle w.is_free (λ d idle free. taken_so (awaited c.args.delivery.from c.in-Calling.steps (answers c.args.delivery.message.value)))

pub returns-in_ok-hear_commit-in-Committing-clause-taken : goal.returns-in_ok-hear_commit-in-Committing-clause-taken
returns-in_ok-hear_commit-in-Committing-clause-taken c =
    let w = c.requires.waits in
    hears_commit_so (λ t. true ≡ is_some t.reply) c.args.delivery.from (answers c.args.delivery.message.value) c.args.intents.now c.args.coord.now c.take.new.self c.args.action w.now (machine_of c.in-Committing.commit.value)
    w.asks w.there w.waits c.in-Committing.ensures.taken c.fits.ensures c.take.ensures.idle refl

pub returns-in-Idle-clause-part : goal.returns-in-Idle-clause-part
returns-in-Idle-clause-part c =
    let w = c.requires.waits in absurd (not_idle c.args.delivery.from (answers c.args.delivery.message.value) c.args.coord.now c.args.action w.now w.there w.waits c.in-Idle.ensures.taken)

pub returns-in-Idle-clause-outs : goal.returns-in-Idle-clause-outs
returns-in-Idle-clause-outs c =
    let w = c.requires.waits in absurd (not_idle c.args.delivery.from (answers c.args.delivery.message.value) c.args.coord.now c.args.action w.now w.there w.waits c.in-Idle.ensures.taken)

pub returns-in-Idle-clause-taken : goal.returns-in-Idle-clause-taken
returns-in-Idle-clause-taken c =
    let w = c.requires.waits in absurd (not_idle c.args.delivery.from (answers c.args.delivery.message.value) c.args.coord.now c.args.action w.now w.there w.waits c.in-Idle.ensures.taken)

pub hear_commit-requires : goal.hear_commit-requires
hear_commit-requires c =
    let w = c.requires.waits in
    commit_awaited c.args.delivery.from (answers c.args.delivery.message.value) c.args.coord.now c.args.action w.now (machine_of c.in-Committing.commit.value) w.there w.waits c.in-Committing.ensures.taken
