-- a script, a check, a bank, or no command
use Rattle.std.proofs.Common.{arith, inl, inr, ap, refl}
use Rattle.arj_bank.specs.Balances.{held_by, reader}
use Rattle.arj_command.specs.Command.{IsAudit, IsCheck, IsGenerate, IsImage, IsProgram, IsReplay}
use Rattle.arj_command.proofs.Images.{not_image_audit, not_image_bank, not_image_check, not_image_program, not_image_replay}
use Rattle.arj_command.proofs.Numbers.{generates_one, not_both, not_check, not_two}
use Rattle.arj_command.proofs.Programs.{not_audit_bank, not_audit_check, not_audit_program, not_audit_replay, not_program_bank, not_program_check, not_program_replay}
use Rattle.arj_command.proofs.Shows.{read_failed}
use Rattle.arj_loop.specs.Replayed.{answer, outside}
use Rattle.arj_nodes.specs.AsMachine.{all_nodes}
use Rattle.arj_command.proofs.run.run_command.Goals as goal

-- ---- a script

pub returns-in-Replay-clause-generates : goal.returns-in-Replay-clause-generates
returns-in-Replay-clause-generates g c n is =
    let says : IsReplay c.args.words.now = rw c.in-Replay.is at c.asked_for.ensures in absurd (not_both c.args.words.now _ is.1 says)

pub returns-in-Replay-clause-closes : goal.returns-in-Replay-clause-closes
returns-in-Replay-clause-closes g c _ four five = c.replay.ensures.closes four five

pub returns-in-Replay-clause-short : goal.returns-in-Replay-clause-short
returns-in-Replay-clause-short g c _ which = c.replay.ensures.short which

pub returns-in-Replay-clause-read_fault : goal.returns-in-Replay-clause-read_fault
returns-in-Replay-clause-read_fault g c three =
    read_failed (all_nodes g.C.Core g.D.Disk) (outside (g.S.Source.left c.args.source.now) (g.S.Source.faults c.args.source.now) (g.K.Sink.taken c.args.sink.now) c.args.rack.now)
    (outside (g.S.Source.left c.replay.new.source) (g.S.Source.faults c.replay.new.source) (g.K.Sink.taken c.replay.new.sink) c.replay.new.rack) (answer c.replay.result c.replay.new.why c.replay.new.journal c.replay.new.machine)
    (c.replay.ensures.closes (λ e. omega (arith, e, three)) (λ e. omega (arith, e, three))) three

pub returns-in-Replay-clause-checks : goal.returns-in-Replay-clause-checks
returns-in-Replay-clause-checks g c is =
    let says : IsReplay c.args.words.now = rw c.in-Replay.is at c.asked_for.ensures in absurd (not_two c.args.words.now says is)

pub returns-in-Replay-clause-checks_alone : goal.returns-in-Replay-clause-checks_alone
returns-in-Replay-clause-checks_alone g c is =
    let says : IsReplay c.args.words.now = rw c.in-Replay.is at c.asked_for.ensures in absurd (not_two c.args.words.now says is)

pub returns-in-Replay-clause-only_judged : goal.returns-in-Replay-clause-only_judged
returns-in-Replay-clause-only_judged g c _ _ e = let s = c.replay.ensures.statuses in omega (arith, e, s.0)

pub returns-in-Replay-clause-audits : goal.returns-in-Replay-clause-audits
returns-in-Replay-clause-audits g c is =
    let says : IsReplay c.args.words.now = rw c.in-Replay.is at c.asked_for.ensures in absurd (not_audit_replay c.args.words.now says is)

pub returns-in-Replay-clause-audits_alone : goal.returns-in-Replay-clause-audits_alone
returns-in-Replay-clause-audits_alone g c is =
    let says : IsReplay c.args.words.now = rw c.in-Replay.is at c.asked_for.ensures in absurd (not_audit_replay c.args.words.now says is)

pub returns-in-Replay-clause-programs : goal.returns-in-Replay-clause-programs
returns-in-Replay-clause-programs g c is =
    let says : IsReplay c.args.words.now = rw c.in-Replay.is at c.asked_for.ensures in absurd (not_program_replay c.args.words.now says is)

pub returns-in-Replay-clause-saves : goal.returns-in-Replay-clause-saves
returns-in-Replay-clause-saves g c is =
    let says : IsReplay c.args.words.now = rw c.in-Replay.is at c.asked_for.ensures in absurd (not_image_replay c.args.words.now says is)

-- ---- client programs

pub returns-in-Program-clause-programs : goal.returns-in-Program-clause-programs
returns-in-Program-clause-programs g c is = c.run_programs.ensures.runs

pub returns-in-Program-clause-closes : goal.returns-in-Program-clause-closes
returns-in-Program-clause-closes g c is _ _ =
    let says : IsProgram c.args.words.now =
    rw c.in-Program.is at c.asked_for.ensures in absurd (not_program_replay c.args.words.now is says)

pub returns-in-Program-clause-short : goal.returns-in-Program-clause-short
returns-in-Program-clause-short g c is _ =
    let says : IsProgram c.args.words.now =
    rw c.in-Program.is at c.asked_for.ensures in absurd (not_program_replay c.args.words.now is says)

pub returns-in-Program-clause-generates : goal.returns-in-Program-clause-generates
returns-in-Program-clause-generates g c n is =
    let says : IsProgram c.args.words.now =
    rw c.in-Program.is at c.asked_for.ensures in absurd (not_program_bank c.args.words.now _ is.1 says)

pub returns-in-Program-clause-checks : goal.returns-in-Program-clause-checks
returns-in-Program-clause-checks g c is =
    let says : IsProgram c.args.words.now = rw c.in-Program.is at c.asked_for.ensures in absurd (not_program_check c.args.words.now is says)

pub returns-in-Program-clause-checks_alone : goal.returns-in-Program-clause-checks_alone
returns-in-Program-clause-checks_alone g c is =
    let says : IsProgram c.args.words.now = rw c.in-Program.is at c.asked_for.ensures in absurd (not_program_check c.args.words.now is says)

pub returns-in-Program-clause-only_judged : goal.returns-in-Program-clause-only_judged
returns-in-Program-clause-only_judged g c _ _ e = let s = c.run_programs.ensures.statuses in omega (arith, e, s.0)

pub returns-in-Program-clause-audits : goal.returns-in-Program-clause-audits
returns-in-Program-clause-audits g c is =
    let says : IsProgram c.args.words.now = rw c.in-Program.is at c.asked_for.ensures in absurd (not_audit_program c.args.words.now says is)

pub returns-in-Program-clause-audits_alone : goal.returns-in-Program-clause-audits_alone
returns-in-Program-clause-audits_alone g c is =
    let says : IsProgram c.args.words.now = rw c.in-Program.is at c.asked_for.ensures in absurd (not_audit_program c.args.words.now says is)

pub returns-in-Program-clause-read_fault : goal.returns-in-Program-clause-read_fault
returns-in-Program-clause-read_fault g c three = c.run_programs.ensures.read_fault three

pub returns-in-Program-clause-saves : goal.returns-in-Program-clause-saves
returns-in-Program-clause-saves g c is =
    let says : IsProgram c.args.words.now = rw c.in-Program.is at c.asked_for.ensures in absurd (not_image_program c.args.words.now says is)

-- ---- a check

pub returns-in-Check-clause-programs : goal.returns-in-Check-clause-programs
returns-in-Check-clause-programs g c is =
    let says : IsCheck c.args.words.now = rw c.in-Check.is at c.asked_for.ensures in absurd (not_program_check c.args.words.now says is)

pub returns-in-Check-clause-closes : goal.returns-in-Check-clause-closes
returns-in-Check-clause-closes g c is _ _ =
    let says : IsCheck c.args.words.now = rw c.in-Check.is at c.asked_for.ensures in absurd (not_two c.args.words.now is says)

pub returns-in-Check-clause-short : goal.returns-in-Check-clause-short
returns-in-Check-clause-short g c is _ =
    let says : IsCheck c.args.words.now = rw c.in-Check.is at c.asked_for.ensures in absurd (not_two c.args.words.now is says)

pub returns-in-Check-clause-generates : goal.returns-in-Check-clause-generates
returns-in-Check-clause-generates g c n is =
    let says : IsCheck c.args.words.now = rw c.in-Check.is at c.asked_for.ensures in absurd (not_check c.args.words.now _ is.1 says)

pub returns-in-Check-clause-checks : goal.returns-in-Check-clause-checks
returns-in-Check-clause-checks g c is = c.checked.ensures.checks

pub returns-in-Check-clause-only_check : goal.returns-in-Check-clause-only_check
returns-in-Check-clause-only_check g c other =
    let says : IsCheck c.args.words.now = rw c.in-Check.is at c.asked_for.ensures in absurd (other says)

pub returns-in-Check-clause-only_judged : goal.returns-in-Check-clause-only_judged
returns-in-Check-clause-only_judged g c other _ _ =
    let says : IsCheck c.args.words.now = rw c.in-Check.is at c.asked_for.ensures in absurd (other says)

pub returns-in-Check-clause-audits : goal.returns-in-Check-clause-audits
returns-in-Check-clause-audits g c is =
    let says : IsCheck c.args.words.now = rw c.in-Check.is at c.asked_for.ensures in absurd (not_audit_check c.args.words.now says is)

pub returns-in-Check-clause-audits_alone : goal.returns-in-Check-clause-audits_alone
returns-in-Check-clause-audits_alone g c is =
    let says : IsCheck c.args.words.now = rw c.in-Check.is at c.asked_for.ensures in absurd (not_audit_check c.args.words.now says is)

pub returns-in-Check-clause-read_fault : goal.returns-in-Check-clause-read_fault
returns-in-Check-clause-read_fault g c three =
    let checks = c.checked.ensures.checks in
    let fault = checks.fault three in
    let cut = fault.0 in
    let reads = checks.reads in
    reads.at_fault cut.0

pub returns-in-Check-clause-saves : goal.returns-in-Check-clause-saves
returns-in-Check-clause-saves g c is =
    let says : IsCheck c.args.words.now = rw c.in-Check.is at c.asked_for.ensures in absurd (not_image_check c.args.words.now says is)

-- ---- an audit

pub returns-in-Audit-clause-audits : goal.returns-in-Audit-clause-audits
returns-in-Audit-clause-audits g c is = c.audited.ensures.audits

pub returns-in-Audit-clause-only_judged : goal.returns-in-Audit-clause-only_judged
returns-in-Audit-clause-only_judged g c _ other _ =
    let says : IsAudit c.args.words.now = rw c.in-Audit.is at c.asked_for.ensures in absurd (other says)

pub returns-in-Audit-clause-closes : goal.returns-in-Audit-clause-closes
returns-in-Audit-clause-closes g c is _ _ =
    let says : IsAudit c.args.words.now = rw c.in-Audit.is at c.asked_for.ensures in absurd (not_audit_replay c.args.words.now is says)

pub returns-in-Audit-clause-short : goal.returns-in-Audit-clause-short
returns-in-Audit-clause-short g c is _ =
    let says : IsAudit c.args.words.now = rw c.in-Audit.is at c.asked_for.ensures in absurd (not_audit_replay c.args.words.now is says)

pub returns-in-Audit-clause-generates : goal.returns-in-Audit-clause-generates
returns-in-Audit-clause-generates g c n is =
    let says : IsAudit c.args.words.now = rw c.in-Audit.is at c.asked_for.ensures in absurd (not_audit_bank c.args.words.now _ is.1 says)

pub returns-in-Audit-clause-programs : goal.returns-in-Audit-clause-programs
returns-in-Audit-clause-programs g c is =
    let says : IsAudit c.args.words.now = rw c.in-Audit.is at c.asked_for.ensures in absurd (not_audit_program c.args.words.now is says)

pub returns-in-Audit-clause-checks : goal.returns-in-Audit-clause-checks
returns-in-Audit-clause-checks g c is =
    let says : IsAudit c.args.words.now = rw c.in-Audit.is at c.asked_for.ensures in absurd (not_audit_check c.args.words.now is says)

pub returns-in-Audit-clause-checks_alone : goal.returns-in-Audit-clause-checks_alone
returns-in-Audit-clause-checks_alone g c is =
    let says : IsAudit c.args.words.now = rw c.in-Audit.is at c.asked_for.ensures in absurd (not_audit_check c.args.words.now is says)

pub returns-in-Audit-clause-read_fault : goal.returns-in-Audit-clause-read_fault
returns-in-Audit-clause-read_fault g c three =
    let audits = c.audited.ensures.audits in
    let fault = audits.fault three in
    let cut = fault.0 in
    let reads = audits.reads in
    reads.at_fault cut.0

pub returns-in-Audit-clause-saves : goal.returns-in-Audit-clause-saves
returns-in-Audit-clause-saves g c is =
    let says : IsAudit c.args.words.now = rw c.in-Audit.is at c.asked_for.ensures in absurd (not_image_audit c.args.words.now says is)

-- ---- an image

pub returns-in-Image-clause-saves : goal.returns-in-Image-clause-saves
returns-in-Image-clause-saves g c is = c.imaged.ensures.saves

pub returns-in-Image-clause-closes : goal.returns-in-Image-clause-closes
returns-in-Image-clause-closes g c is _ _ =
    let says : IsImage c.args.words.now = rw c.in-Image.is at c.asked_for.ensures in absurd (not_image_replay c.args.words.now is says)

pub returns-in-Image-clause-short : goal.returns-in-Image-clause-short
returns-in-Image-clause-short g c is _ =
    let says : IsImage c.args.words.now = rw c.in-Image.is at c.asked_for.ensures in absurd (not_image_replay c.args.words.now is says)

pub returns-in-Image-clause-generates : goal.returns-in-Image-clause-generates
returns-in-Image-clause-generates g c n is =
    let says : IsImage c.args.words.now = rw c.in-Image.is at c.asked_for.ensures in absurd (not_image_bank c.args.words.now _ is.1 says)

pub returns-in-Image-clause-programs : goal.returns-in-Image-clause-programs
returns-in-Image-clause-programs g c is =
    let says : IsImage c.args.words.now = rw c.in-Image.is at c.asked_for.ensures in absurd (not_image_program c.args.words.now is says)

pub returns-in-Image-clause-checks : goal.returns-in-Image-clause-checks
returns-in-Image-clause-checks g c is =
    let says : IsImage c.args.words.now = rw c.in-Image.is at c.asked_for.ensures in absurd (not_image_check c.args.words.now is says)

pub returns-in-Image-clause-checks_alone : goal.returns-in-Image-clause-checks_alone
returns-in-Image-clause-checks_alone g c is =
    let says : IsImage c.args.words.now = rw c.in-Image.is at c.asked_for.ensures in absurd (not_image_check c.args.words.now is says)

pub returns-in-Image-clause-audits : goal.returns-in-Image-clause-audits
returns-in-Image-clause-audits g c is =
    let says : IsImage c.args.words.now = rw c.in-Image.is at c.asked_for.ensures in absurd (not_image_audit c.args.words.now is says)

pub returns-in-Image-clause-audits_alone : goal.returns-in-Image-clause-audits_alone
returns-in-Image-clause-audits_alone g c is =
    let says : IsImage c.args.words.now = rw c.in-Image.is at c.asked_for.ensures in absurd (not_image_audit c.args.words.now is says)

pub returns-in-Image-clause-only_judged : goal.returns-in-Image-clause-only_judged
returns-in-Image-clause-only_judged g c _ _ e = let s = c.imaged.ensures.statuses in omega (arith, e, s.0)

pub returns-in-Image-clause-read_fault : goal.returns-in-Image-clause-read_fault
returns-in-Image-clause-read_fault g c three = c.imaged.ensures.read_fault three

-- ---- a bank

pub returns-in-Bank-clause-read_fault : goal.returns-in-Bank-clause-read_fault
returns-in-Bank-clause-read_fault g c three = let statuses = c.generated.ensures.statuses in absurd (statuses.3 three)

pub returns-in-Bank-clause-closes : goal.returns-in-Bank-clause-closes
returns-in-Bank-clause-closes g c is _ _ =
    let says : IsGenerate c.args.words.now c.in-Bank.n =
    rw c.in-Bank.is at c.asked_for.ensures in absurd (not_both c.args.words.now _ says.1 is)

pub returns-in-Bank-clause-short : goal.returns-in-Bank-clause-short
returns-in-Bank-clause-short g c is _ =
    let says : IsGenerate c.args.words.now c.in-Bank.n =
    rw c.in-Bank.is at c.asked_for.ensures in absurd (not_both c.args.words.now _ says.1 is)

pub returns-in-Bank-clause-generates : goal.returns-in-Bank-clause-generates
returns-in-Bank-clause-generates g c m is =
    let says : IsGenerate c.args.words.now c.in-Bank.n = rw c.in-Bank.is at c.asked_for.ensures in
    let e = c.generated.ensures in
    let statuses = e.statuses in
    generates_one (all_nodes g.C.Core g.D.Disk) (reader g.D.Disk (held_by g.O.ObjectStore)) c.args.words.now c.in-Bank.n m says is
    (outside (g.S.Source.left c.args.source.now) (g.S.Source.faults c.args.source.now) (g.K.Sink.taken c.args.sink.now) c.args.rack.now)
    (outside (g.S.Source.left c.args.source.now) (g.S.Source.faults c.args.source.now) (g.K.Sink.taken c.generated.new.sink) c.generated.new.rack)
    (answer c.generated.result c.args.why.now c.generated.new.journal c.generated.new.machine)
    (record {
      summed = e.summed;
      front = e.front;
      unwritten = λ whole front. ap g.K.Sink.taken (e.unwritten whole front);
      memory = e.memory;
      limit = e.limit;
      stopped = e.stopped;
      never = (statuses.1, statuses.2, statuses.3);
      unread = (refl, refl);
    })

pub returns-in-Bank-clause-checks : goal.returns-in-Bank-clause-checks
returns-in-Bank-clause-checks g c is =
    let says : IsGenerate c.args.words.now c.in-Bank.n =
    rw c.in-Bank.is at c.asked_for.ensures in absurd (not_check c.args.words.now _ says.1 is)

pub returns-in-Bank-clause-checks_alone : goal.returns-in-Bank-clause-checks_alone
returns-in-Bank-clause-checks_alone g c is =
    let says : IsGenerate c.args.words.now c.in-Bank.n =
    rw c.in-Bank.is at c.asked_for.ensures in absurd (not_check c.args.words.now _ says.1 is)

pub returns-in-Bank-clause-only_judged : goal.returns-in-Bank-clause-only_judged
returns-in-Bank-clause-only_judged g c _ _ e = let s = c.generated.ensures.statuses in omega (arith, e, s.0)

pub returns-in-Bank-clause-audits : goal.returns-in-Bank-clause-audits
returns-in-Bank-clause-audits g c is =
    let says : IsGenerate c.args.words.now c.in-Bank.n =
    rw c.in-Bank.is at c.asked_for.ensures in absurd (not_audit_bank c.args.words.now _ says.1 is)

pub returns-in-Bank-clause-audits_alone : goal.returns-in-Bank-clause-audits_alone
returns-in-Bank-clause-audits_alone g c is =
    let says : IsGenerate c.args.words.now c.in-Bank.n =
    rw c.in-Bank.is at c.asked_for.ensures in absurd (not_audit_bank c.args.words.now _ says.1 is)

pub returns-in-Bank-clause-programs : goal.returns-in-Bank-clause-programs
returns-in-Bank-clause-programs g c is =
    let says : IsGenerate c.args.words.now c.in-Bank.n =
    rw c.in-Bank.is at c.asked_for.ensures in absurd (not_program_bank c.args.words.now _ says.1 is)

pub returns-in-Bank-clause-saves : goal.returns-in-Bank-clause-saves
returns-in-Bank-clause-saves g c is =
    let says : IsGenerate c.args.words.now c.in-Bank.n =
    rw c.in-Bank.is at c.asked_for.ensures in absurd (not_image_bank c.args.words.now _ says.1 is)

-- ---- no command

pub returns-in-None-clause-programs : goal.returns-in-None-clause-programs
returns-in-None-clause-programs g c is = absurd ((rw c.in-None.is at c.asked_for.ensures) (inr (inr (inl is))))

pub returns-in-None-clause-checks : goal.returns-in-None-clause-checks
returns-in-None-clause-checks g c is = absurd ((rw c.in-None.is at c.asked_for.ensures) (inr (inl is)))

pub returns-in-None-clause-checks_alone : goal.returns-in-None-clause-checks_alone
returns-in-None-clause-checks_alone g c is = absurd ((rw c.in-None.is at c.asked_for.ensures) (inr (inl is)))

pub returns-in-None-clause-closes : goal.returns-in-None-clause-closes
returns-in-None-clause-closes g c is _ _ = absurd ((rw c.in-None.is at c.asked_for.ensures) (inl is))

pub returns-in-None-clause-generates : goal.returns-in-None-clause-generates
returns-in-None-clause-generates g c n is = absurd ((rw c.in-None.is at c.asked_for.ensures) (inr (inr (inr (inr (inr (n, is)))))))

pub returns-in-None-clause-audits : goal.returns-in-None-clause-audits
returns-in-None-clause-audits g c is = absurd ((rw c.in-None.is at c.asked_for.ensures) (inr (inr (inr (inl is)))))

pub returns-in-None-clause-audits_alone : goal.returns-in-None-clause-audits_alone
returns-in-None-clause-audits_alone g c is = absurd ((rw c.in-None.is at c.asked_for.ensures) (inr (inr (inr (inl is)))))

pub returns-in-None-clause-saves : goal.returns-in-None-clause-saves
returns-in-None-clause-saves g c is = absurd ((rw c.in-None.is at c.asked_for.ensures) (inr (inr (inr (inr (inl is))))))
