-- what the run of the command shows
use Rattle.arj_command.specs.Outcome.{said}
use Rattle.arj_command.proofs.Banks.{bank_headline}
use Rattle.arj_command.proofs.Causes.{laws_by}
use Rattle.arj_command.proofs.Images.{image_headline}
use Rattle.arj_command.proofs.Numbers.{le_7, not_check}
use Rattle.arj_command.proofs.Programs.{not_audit_bank, programs_headline}
use Rattle.arj_command.proofs.Shows.{headline, shown}
use Rattle.arj_law_nodes.specs.nodes.Readings.{Reads, reading_of}
use Rattle.arj_loop.specs.Replayed.{answer, outside}
use Rattle.arj_command.proofs.run.run_on.Goals as goal

pub returns-clause-headline : goal.returns-clause-headline
returns-clause-headline g c read says is four five =
    let before = outside (g.S.Source.left c.args.source.now) (g.S.Source.faults c.args.source.now) (g.K.Sink.taken c.args.sink.now) c.args.rack.now in
    let after = outside (g.S.Source.left c.run_command-status.new.source) (g.S.Source.faults c.run_command-status.new.source) (g.K.Sink.taken c.run_command-status.new.sink) c.run_command-status.new.rack in
    let run = c.run_command-status.ensures.closes is four five in
    headline g.C.Core g.D.Disk read (laws_by c.nodes_run_moves.ensures.runs c.journals_tell_their_causes.ensures.runs c.journals_are_in_form.ensures.runs) before after (said c.run_command-status.result c.run_command-status.new.why c.run_command-status.new.journal c.world_of.result) c.run_command-status.new.nodes run
    (c.nodes_show_what_is_promised.ensures.closes read says before after (answer c.run_command-status.result c.run_command-status.new.why c.run_command-status.new.journal c.run_command-status.new.nodes) run) c.world_of.ensures

pub returns-clause-shown : goal.returns-clause-shown
returns-clause-shown g c read says is which =
    let before = outside (g.S.Source.left c.args.source.now) (g.S.Source.faults c.args.source.now) (g.K.Sink.taken c.args.sink.now) c.args.rack.now in
    let after = outside (g.S.Source.left c.run_command-status.new.source) (g.S.Source.faults c.run_command-status.new.source) (g.K.Sink.taken c.run_command-status.new.sink) c.run_command-status.new.rack in
    let run = c.run_command-status.ensures.short is which in
    shown g.C.Core g.D.Disk read (laws_by c.nodes_run_moves.ensures.runs c.journals_tell_their_causes.ensures.runs c.journals_are_in_form.ensures.runs) before after c.run_command-status.result run (c.nodes_show_what_is_promised.ensures.stops read says before after c.run_command-status.result run)

pub returns-clause-bank : goal.returns-clause-bank
returns-clause-bank g c says n is =
    let read : Reads = reading_of g.O.ObjectStore in
    let before = outside (g.S.Source.left c.args.source.now) (g.S.Source.faults c.args.source.now) (g.K.Sink.taken c.args.sink.now) c.args.rack.now in
    let after = outside (g.S.Source.left c.run_command-status.new.source) (g.S.Source.faults c.run_command-status.new.source) (g.K.Sink.taken c.run_command-status.new.sink) c.run_command-status.new.rack in
    bank_headline g.C.Core g.D.Disk read (laws_by c.nodes_run_moves.ensures.runs c.journals_tell_their_causes.ensures.runs c.journals_are_in_form.ensures.runs) n before after (said c.run_command-status.result c.run_command-status.new.why c.run_command-status.new.journal c.world_of.result) c.run_command-status.new.nodes (c.run_command-status.ensures.generates n is)
    (le_7 c.run_command-status.result c.run_command-status.ensures.statuses (c.run_command-status.ensures.only_judged (λ check. not_check c.args.words.now _ is.1 check) (λ audit. not_audit_bank c.args.words.now _ is.1 audit)))
    (c.banks_show_what_is_promised.ensures.whole read says) (c.banks_show_what_is_promised.ensures.limits read says) (c.banks_show_what_is_promised.ensures.fronts read says) c.world_of.ensures

pub returns-clause-programs : goal.returns-clause-programs
returns-clause-programs g c read says is =
    let before = outside (g.S.Source.left c.args.source.now) (g.S.Source.faults c.args.source.now)
    (g.K.Sink.taken c.args.sink.now) c.args.rack.now in
    let after = outside (g.S.Source.left c.run_command-status.new.source) (g.S.Source.faults c.run_command-status.new.source)
    (g.K.Sink.taken c.run_command-status.new.sink) c.run_command-status.new.rack in
    programs_headline g.C.Core g.D.Disk read (laws_by c.nodes_run_moves.ensures.runs c.journals_tell_their_causes.ensures.runs c.journals_are_in_form.ensures.runs)
    (c.nodes_show_what_is_promised.ensures.runs read says) c.programs_mean_their_calls.ensures
    c.committed_programs_survive.ensures.runs c.committed_programs_run_alone.ensures.runs before after
    (said c.run_command-status.result c.run_command-status.new.why c.run_command-status.new.journal c.world_of.result)
    c.run_command-status.new.nodes (c.run_command-status.ensures.programs is) c.world_of.ensures

pub returns-clause-images : goal.returns-clause-images
returns-clause-images g c read says saves is =
    let before = outside (g.S.Source.left c.args.source.now) (g.S.Source.faults c.args.source.now)
    (g.K.Sink.taken c.args.sink.now) c.args.rack.now in
    let after = outside (g.S.Source.left c.run_command-status.new.source) (g.S.Source.faults c.run_command-status.new.source)
    (g.K.Sink.taken c.run_command-status.new.sink) c.run_command-status.new.rack in
    image_headline g.C.Core g.D.Disk read (laws_by c.nodes_run_moves.ensures.runs c.journals_tell_their_causes.ensures.runs c.journals_are_in_form.ensures.runs)
    (c.nodes_show_what_is_promised.ensures.runs read says) (c.resting_runs_make_calm_images.ensures read says saves)
    (c.nodes_show_what_is_promised.ensures.closes read says)
    (c.nodes_show_what_is_promised.ensures.stops read says) before after
    (said c.run_command-status.result c.run_command-status.new.why c.run_command-status.new.journal c.world_of.result)
    c.run_command-status.new.nodes (c.run_command-status.ensures.saves is) c.world_of.ensures
