use Rattle.std.proofs.Common.{◌≡◌, ◌∙◌, Err, ◌+◌, ◌-◌, [], ◌∷◌, None, length, map, arith, refl, ap, subst, sym}
use Rattle.std.proofs.lemmas.List.{length-append}
use Rattle.arj_disk.specs.declared.slot.Slot.{Slot}
use Rattle.arj_world.specs.declared.fault.FormatFault.TheVariants.{Stopped}
use Rattle.arj_world.specs.Wire.{frame_of}
use Rattle.arj_world.proofs.Disks.{is_fault, moved_none, moved_on, same_fault, stopped_later, unstopped_none, unstopped_on}
use Rattle.arj_world.proofs.First.{Formats, empty_next, formats_all, formats_next, formats_none}
use Rattle.arj_world.proofs.world.World.format.Goals as goal

pub loop-node-init : goal.loop-node-init
loop-node-init g c = record {
  so = subst (λ cs. Formats g.C.Core g.D.Disk.file c.args.header c.args.rack.now cs c.args.rack.now) (sym c.new-cores.ensures.items) (formats_none g.C.Core g.D.Disk.file c.args.header c.args.rack.now);
  count = ap length c.new-cores.ensures.items;
  disks = moved_none g.D.Disk c.args.header.nodes c.args.rack.now;
  unstopped = unstopped_none g.D.Disk c.args.rack.now;
}

pub loop-node-preserved : goal.loop-node-preserved
loop-node-preserved g c = record {
  so = subst (λ cs. Formats g.C.Core g.D.Disk.file c.args.header c.args.rack.now cs c.format_node.new.rack) (sym c.in_ok-push.ensures.items)
      (formats_next g.C.Core g.D.Disk.file c.args.header c.args.rack.now c.loop-node.cores.items c.loop-node.rack c.format_node.new.rack c.in_ok-format_node.field-0 (c.loop-node.node + 1) c.loop-node.invariant.so
      (ap (λ n. n + 1) (sym c.loop-node.invariant.count)) c.in_ok-format_node.ensures.formatted);
  count = omega (arith, ap length c.in_ok-push.ensures.items, length-append c.loop-node.cores.items (c.in_ok-format_node.field-0 ∷ []), c.loop-node.invariant.count);
  disks = moved_on g.D.Disk c.args.header.nodes c.args.header.nodes c.args.rack.now c.loop-node.rack c.format_node.new.rack refl c.loop-node.invariant.disks c.in_ok-format_node.ensures.disks;
  unstopped = unstopped_on g.D.Disk c.args.rack.now c.loop-node.rack c.format_node.new.rack c.loop-node.invariant.unstopped (c.in_ok-format_node.ensures.unstopped (λ e. absurd (cc e)));
}

pub format_node-requires-clause-empty : goal.format_node-requires-clause-empty
format_node-requires-clause-empty g c =
    λ d at. empty_next g.C.Core g.D.Disk.file c.args.header c.args.rack.now (λ e. (slot : Slot) →
    g.D.Disk.file e slot ≡ None) c.loop-node.cores.items c.loop-node.rack
    (c.loop-node.node + 1 - 1) d c.loop-node.invariant.so (omega (arith, c.loop-node.invariant.count)) c.requires.empty at

pub returns-clause-stands : goal.returns-clause-stands
returns-clause-stands g c =
    let all : length c.loop-node.cores.items ≡ c.args.header.nodes =
    omega (arith, c.loop-node.invariant.count, c.loop-node-test.false, c.loop-node.auto.node-end) in
    record {
      header = refl;
      given = sym c.new-3.ensures.empty;
      frames = ap (map frame_of) (sym c.new.ensures.net);
      lines = refl;
      labels = sym c.new-2.ensures.empty;
      arms = refl;
      event = sym c.new.ensures.event;
      full = sym c.new.ensures.full;
      over = refl;
      nodes = formats_all g.C.Core g.D.Disk.file c.args.header c.args.rack.now c.loop-node.cores.items c.loop-node.rack c.loop-node.invariant.so all;
    }

pub invariant_of-result : goal.invariant_of-result
invariant_of-result g c =
    let all : length c.loop-node.cores.items ≡ c.args.header.nodes =
    omega (arith, c.loop-node.invariant.count, c.loop-node-test.false, c.loop-node.auto.node-end) in
    (c.requires.form.nodes.0, c.requires.form.nodes.1, all, omega (arith, ap length c.new.ensures.net))

pub returns-clause-disks : goal.returns-clause-disks
returns-clause-disks g c = c.loop-node.invariant.disks

pub returns-in_err-format_node-clause-disks : goal.returns-in_err-format_node-clause-disks
returns-in_err-format_node-clause-disks g c =
    moved_on g.D.Disk c.args.header.nodes c.args.header.nodes c.args.rack.now c.loop-node.rack c.format_node.new.rack refl c.loop-node.invariant.disks c.format_node.ensures.disks

pub returns-in_err-push-clause-disks : goal.returns-in_err-push-clause-disks
returns-in_err-push-clause-disks g c =
    moved_on g.D.Disk c.args.header.nodes c.args.header.nodes c.args.rack.now c.loop-node.rack c.format_node.new.rack refl c.loop-node.invariant.disks c.in_ok-format_node.ensures.disks

pub returns-in_err-format_node-clause-stopped : goal.returns-in_err-format_node-clause-stopped
returns-in_err-format_node-clause-stopped g c = λ stopped.
    let fault : c.in_err-format_node.field-0.0 ≡ Stopped =
    same_fault c.from_residual.result c.in_err-format_node.field-0.0 Stopped c.from_residual.ensures.1 stopped in
    stopped_later g.D.Disk c.args.header.nodes c.args.rack.now c.loop-node.rack c.format_node.new.rack c.loop-node.invariant.disks c.format_node.ensures.disks (c.in_err-format_node.ensures.stopped (ap Err fault))

pub returns-clause-unstopped : goal.returns-clause-unstopped
returns-clause-unstopped g c = λ _. c.loop-node.invariant.unstopped

pub returns-in_err-push-clause-unstopped : goal.returns-in_err-push-clause-unstopped
returns-in_err-push-clause-unstopped g c =
    λ _. unstopped_on g.D.Disk c.args.rack.now c.loop-node.rack c.format_node.new.rack c.loop-node.invariant.unstopped (c.in_ok-format_node.ensures.unstopped (λ e. absurd (cc e)))

pub returns-in_err-format_node-clause-unstopped : goal.returns-in_err-format_node-clause-unstopped
returns-in_err-format_node-clause-unstopped g c = λ none.
    unstopped_on g.D.Disk c.args.rack.now c.loop-node.rack c.format_node.new.rack c.loop-node.invariant.unstopped
    (c.in_err-format_node.ensures.unstopped (λ e.
    let fault : c.in_err-format_node.field-0.0 ≡ Stopped =
    same_fault (Err c.in_err-format_node.field-0.0) c.in_err-format_node.field-0.0 Stopped refl e in
    none (is_fault c.from_residual.result c.in_err-format_node.field-0.0 c.from_residual.ensures.1 ∙ ap Err fault)))
