-- nodes that are stopped behind a script
use Rattle.std.proofs.Common.{Err, Some, ◌≡◌, ◌≤◌, ◌∙◌, ap, arith, length, refl}
use Rattle.arj_journal.specs.declared.header.Header.{Header}
use Rattle.arj_loop.specs.Running.{held_by}
use Rattle.arj_nodes.specs.AsMachine.{all_nodes}
use Rattle.arj_saving.proofs.Behind.{behind_files, behind_limit, behind_memory, read_none, wants_none}
use Rattle.arj_saving.proofs.Crashing.{few_nodes}
use Rattle.arj_saving.proofs.Saids.{met_last}
use Rattle.arj_saving.proofs.Scripts.{crashed_header, has_up, script_going, script_ran, script_steps}
use Rattle.arj_saving.specs.Saved.{header_of, script_events}
use Rattle.arj_saving.specs.Stops.{moment, up_nodes}
use Rattle.arj_saving.proofs.imaging.say_stopped.Goals as goal

pub crash_all-requires-clause-room : goal.crash_all-requires-clause-room
crash_all-requires-clause-room g c =
    let before = moment c.args.rack.now c.args.nodes.now c.args.journal.now in
    let ups = c.as_slice-in-Ok.result.now in
    let ups_are : ups ≡ up_nodes c.args.journal.now c.args.nodes.now.world.header.nodes =
    c.as_slice-in-Ok.ensures ∙ (c.in-Ok.ensures ∙ (λ i. up_nodes (c.as_slice.ensures i) (let h = c.header.ensures.header i in h.nodes))) in
    let h = c.requires.script in
    let steps : c.args.nodes.now.world.event ≤ 100000 = script_steps (all_nodes g.C.Core g.D.Disk) h.0 h.1 before h.2 in
    let count : length ups ≡ length (up_nodes c.args.journal.now c.args.nodes.now.world.header.nodes) = ap length ups_are in
    let same : c.header.result.now.nodes ≡ c.args.nodes.now.world.header.nodes = ap (λ (x : Header). x.nodes) c.header.ensures.header in
    omega (arith, steps, count, same, few_nodes c.args.journal.now c.args.nodes.now.world.header.nodes, c.header.ensures.few)

pub crash_all-requires-clause-going : goal.crash_all-requires-clause-going
crash_all-requires-clause-going g c =
    let h = c.requires.script in script_going (all_nodes g.C.Core g.D.Disk) h.0 h.1 (moment c.args.rack.now c.args.nodes.now c.args.journal.now) h.2

pub crash_all-requires-clause-ran : goal.crash_all-requires-clause-ran
crash_all-requires-clause-ran g c =
    let h = c.requires.script in
    let before = moment c.args.rack.now c.args.nodes.now c.args.journal.now in
    (h.1, header_of (all_nodes g.C.Core g.D.Disk) h.0 h.1 before h.2, script_events (all_nodes g.C.Core g.D.Disk) h.0 h.1 before h.2, script_ran (all_nodes g.C.Core g.D.Disk) h.0 h.1 before h.2)

pub say_last-requires : goal.say_last-requires
say_last-requires g c =
    let h = c.requires.script in
    let before = moment c.args.rack.now c.args.nodes.now c.args.journal.now in
    record {
      some = met_last (all_nodes g.C.Core g.D.Disk) g.D.Disk c.as_slice-in-Ok.result.now before (moment c.crash_all.new.rack c.crash_all.new.machine c.crash_all.new.journal) h.1
          (header_of (all_nodes g.C.Core g.D.Disk) h.0 h.1 before h.2) (script_events (all_nodes g.C.Core g.D.Disk) h.0 h.1 before h.2) (script_ran (all_nodes g.C.Core g.D.Disk) h.0 h.1 before h.2)
          (c.in-Err-Limit.ensures.limit (ap Err c.in-Err-Limit.field-0-is));
    }

pub returns-in-Ok-crash_all : goal.returns-in-Ok-crash_all
returns-in-Ok-crash_all g c given first s =
    let before = moment c.args.rack.now c.args.nodes.now c.args.journal.now in
    let ups = c.as_slice-in-Ok.result.now in
    let ups_are : ups ≡ up_nodes c.args.journal.now c.args.nodes.now.world.header.nodes =
    c.as_slice-in-Ok.ensures ∙ (c.in-Ok.ensures ∙ (λ i. up_nodes (c.as_slice.ensures i) (let h = c.header.ensures.header i in h.nodes))) in
    let then = moment c.crash_all.new.rack c.crash_all.new.machine c.crash_all.new.journal in
    behind_files (all_nodes g.C.Core g.D.Disk) g.D.Disk given first before ups (has_up g.C.Core g.D.Disk given first before s ups ups_are) then c.in-Ok-crash_all.ensures.crashed
    c.crash_all.new.machine.world.header (crashed_header g.C.Core g.D.Disk given first before s ups then c.in-Ok-crash_all.ensures.crashed)
    (held_by c.say_files.new.rack (Some c.crash_all.new.machine) c.say_files.new.journal) refl c.say_files.result c.say_files.ensures.down c.say_files.ensures.files

pub returns-in-Err-Limit : goal.returns-in-Err-Limit
returns-in-Err-Limit g c given first s =
    let before = moment c.args.rack.now c.args.nodes.now c.args.journal.now in
    let ups = c.as_slice-in-Ok.result.now in
    let ups_are : ups ≡ up_nodes c.args.journal.now c.args.nodes.now.world.header.nodes =
    c.as_slice-in-Ok.ensures ∙ (c.in-Ok.ensures ∙ (λ i. up_nodes (c.as_slice.ensures i) (let h = c.header.ensures.header i in h.nodes))) in
    let then = moment c.crash_all.new.rack c.crash_all.new.machine c.crash_all.new.journal in
    behind_limit (all_nodes g.C.Core g.D.Disk) g.D.Disk given first before ups (has_up g.C.Core g.D.Disk given first before s ups ups_are) then
    (c.in-Err-Limit.ensures.limit (ap Err c.in-Err-Limit.field-0-is)) c.say_last.result c.say_last.ensures.said c.say_last.ensures.memory

pub returns-in-Ok : goal.returns-in-Ok
returns-in-Ok g c given first s =
    let before = moment c.args.rack.now c.args.nodes.now c.args.journal.now in
    let ups = c.as_slice-in-Ok.result.now in
    let ups_are : ups ≡ up_nodes c.args.journal.now c.args.nodes.now.world.header.nodes =
    c.as_slice-in-Ok.ensures ∙ (c.in-Ok.ensures ∙ (λ i. up_nodes (c.as_slice.ensures i) (let h = c.header.ensures.header i in h.nodes))) in
    behind_memory (all_nodes g.C.Core g.D.Disk) g.D.Disk given first before ups (has_up g.C.Core g.D.Disk given first before s ups ups_are) c.crash_all.new.rack c.crash_all.new.rack
    (c.in-Err-Memory.ensures.memory (ap Err c.in-Err-Memory.field-0-is)) (read_none g.D.Disk _ c.crash_all.new.rack)

pub returns : goal.returns
returns g c given first s =
    let before = moment c.args.rack.now c.args.nodes.now c.args.journal.now in
    let ups = up_nodes c.args.journal.now c.args.nodes.now.world.header.nodes in
    behind_memory (all_nodes g.C.Core g.D.Disk) g.D.Disk given first before ups (has_up g.C.Core g.D.Disk given first before s ups refl) c.args.rack.now c.args.rack.now
    (wants_none (all_nodes g.C.Core g.D.Disk) g.D.Disk ups before) (read_none g.D.Disk _ c.args.rack.now)
