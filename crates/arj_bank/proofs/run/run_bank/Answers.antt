-- the bank on a machine that was just made
use Rattle.std.proofs.Common.{◌≡◌, Err, Some, [], inl, inr, ap, arith, length, refl, subst}
use Rattle.std.proofs.lemmas.Result.{IfOk-weaker, on_ok_weaker}
use Rattle.arj_bank.specs.Bank.{left}
use Rattle.arj_gen.specs.Bank.{bank_header, event_lines}
use Rattle.arj_bank.proofs.Running.{bank_count, bank_first, bank_limit, bank_ran}
use Rattle.arj_bank.proofs.run.run_bank.Goals as goal

pub format-requires-clause-form : goal.format-requires-clause-form
format-requires-clause-form g c = let header = c.in_ok-script.ensures.header in header.1

pub run_events-ran-requires-clause-form : goal.run_events-ran-requires-clause-form
run_events-ran-requires-clause-form g c = let events = c.in_ok-script.ensures.events in events.1

pub run_events-ran-requires-clause-room : goal.run_events-ran-requires-clause-room
run_events-ran-requires-clause-room g c = omega (arith, c.in_ok-script.ensures.count)

pub run_events-ran-requires-clause-first : goal.run_events-ran-requires-clause-first
run_events-ran-requires-clause-first g c = let made = c.in-Ok.ensures.made in made.1

pub run_events-ran-requires-clause-going : goal.run_events-ran-requires-clause-going
run_events-ran-requires-clause-going g c = let made = c.in-Ok.ensures.made in made.2

pub run_events-ran-requires-clause-ran : goal.run_events-ran-requires-clause-ran
run_events-ran-requires-clause-ran g c =
    let made = c.in-Ok.ensures.made in
    let header = c.in_ok-script.ensures.header in
    (c.args.rack.now, bank_header, bank_first g.M.Machine c.args.rack.now c.format.new.rack c.in-Ok.made c.in_ok-script.script.header c.args.journal.now header.0 c.requires.fresh made.0)

pub returns-in-Ok-clause-ran : goal.returns-in-Ok-clause-ran
returns-in-Ok-clause-ran g c =
    let made = c.in-Ok.ensures.made in
    let header = c.in_ok-script.ensures.header in
    let events = c.in_ok-script.ensures.events in
    on_ok_weaker c.run_events-ran.result
    (λ ran. bank_ran g.M.Machine c.args.n c.args.rack.now c.in_ok-script.script.events (left c.run_events-ran.new.rack c.run_events-ran.new.journal (Some c.run_events-ran.new.machine)) events.0 events.1
    (ran c.args.rack.now bank_header (bank_first g.M.Machine c.args.rack.now c.format.new.rack c.in-Ok.made c.in_ok-script.script.header c.args.journal.now header.0 c.requires.fresh made.0)))
    c.run_events-ran.ensures.ran

pub returns-in-Ok-clause-count : goal.returns-in-Ok-clause-count
returns-in-Ok-clause-count g c =
    let events = c.in_ok-script.ensures.events in
    IfOk-weaker c.run_events-ran.result (λ count. count ≡ length c.in_ok-script.script.events) (λ count. count ≡ length (event_lines c.args.n)) (λ count is. bank_count c.args.n count c.in_ok-script.script.events events.0 is) c.run_events-ran.ensures.count

pub returns-in-Ok-clause-limit : goal.returns-in-Ok-clause-limit
returns-in-Ok-clause-limit g c is =
    let made = c.in-Ok.ensures.made in
    let header = c.in_ok-script.ensures.header in
    let events = c.in_ok-script.ensures.events in
    bank_limit g.M.Machine c.args.n c.args.rack.now c.in_ok-script.script.events (left c.run_events-ran.new.rack c.run_events-ran.new.journal (Some c.run_events-ran.new.machine)) events.0 events.1
    (c.run_events-ran.ensures.limit is c.args.rack.now bank_header (bank_first g.M.Machine c.args.rack.now c.format.new.rack c.in-Ok.made c.in_ok-script.script.header c.args.journal.now header.0 c.requires.fresh made.0))

pub returns-in-Ok-clause-stopped : goal.returns-in-Ok-clause-stopped
returns-in-Ok-clause-stopped g c is = absurd (c.run_events-ran.ensures.live is)

pub returns-in-Ok-clause-memory : goal.returns-in-Ok-clause-memory
returns-in-Ok-clause-memory g c is =
    let made = c.in-Ok.ensures.made in
    let header = c.in_ok-script.ensures.header in
    let events = c.in_ok-script.ensures.events in
    inr (inr (
      c.in_ok-script.script.events,
      record { texts = events.0; form = events.1 },
      c.run_events-ran.ensures.memory is c.args.rack.now bank_header (bank_first g.M.Machine c.args.rack.now c.format.new.rack c.in-Ok.made c.in_ok-script.script.header c.args.journal.now header.0 c.requires.fresh made.0),
    ))

pub returns-in-Err-Stopped-clause-stopped : goal.returns-in-Err-Stopped-clause-stopped
returns-in-Err-Stopped-clause-stopped g c _ = record {
  journal = c.requires.fresh;
  machine = c.requires.none;
  stopped = c.in-Err-Stopped.ensures.stopped (ap Err c.in-Err-Stopped.field-0-is);
  moved = let header =
      c.in_ok-script.ensures.header in subst (λ h. g.M.Machine.moved h [] c.args.rack.now c.format.new.rack) header.0 c.format.ensures.moved;
}

pub returns-clause-memory : goal.returns-clause-memory
returns-clause-memory g c _ =
    let header = c.in_ok-script.ensures.header in inr (inl (subst (λ h. g.M.Machine.moved h [] c.args.rack.now c.format.new.rack) header.0 c.format.ensures.moved))

pub returns-in_err-script-clause-memory : goal.returns-in_err-script-clause-memory
returns-in_err-script-clause-memory g c _ = inl refl
