use Rattle.std.proofs.Common.{rules, ◌≡◌, ◌∙◌, ◌-◌, ◌<◌, Some, Err, [], ◌∷◌, ◌++◌, map, sym, ap, subst, refl, length}
use Rattle.std.specs.Prelude.{slice_get, slice_set}
use Rattle.std.proofs.lemmas.Option.{slice_get_read}
use Rattle.std.proofs.lemmas.Result.{on_ok_weaker}
use Rattle.arj_core.specs.declared.node.CoreFault.TheVariants.{Halted}
use Rattle.arj_core.specs.Steps.{Did, WasCut, input_of, seen_of}
use Rattle.arj_protocol.specs.Step.{step}
use Rattle.arj_protocol.specs.Words.body
use Rattle.arj_protocol.specs.World.{numbered}
use Rattle.arj_world.specs.Wire.{frame_of, put_seen, Put, shown}
use Rattle.arj_world.specs.Stands.{hand}
use Rattle.arj_world.proofs.Disks.{moved_set}
use Rattle.arj_world.proofs.Stepping.{done_kept, cut_kept, some_node}
use Rattle.arj_world.proofs.Tells.{tells_cut, tells_done}
use Rattle.arj_world.proofs.world.World.step_core.Goals as goal

pub step-requires : goal.step-requires
step-requires g c =
    let place : c.from.result ≡ c.args.node - 1 = search rules in
    let cores : c.self.inside.cores.items ≡ c.args.self.now.cores = ap (λ k. k.cores) c.self.view_is in
    let within : c.from.result < length c.self.inside.cores.items = search rules in
    let at_core : slice_get c.args.self.now.cores (c.args.node - 1) ≡ Some c.index_mut-core.result.now =
    (λ i. slice_get (sym cores i) (sym place i)) ∙ slice_get_read c.self.inside.cores.items _ c.from.result c.index_mut-core.result.now refl within c.index_mut-core.ensures.value in
    record {
      stands =
          some_node g.C.Core g.D.Disk.file c.args.node c.index_mut-core.result.now c.disk.result.now (hand c.args.self.now c.args.rack.now c.args.journal.now) c.requires.least c.requires.greatest at_core c.disk.ensures.value c.requires.stands;
    }

pub returns-in-Ok-clause-steps : goal.returns-in-Ok-clause-steps
returns-in-Ok-clause-steps g c =
    let place : c.from.result ≡ c.args.node - 1 = search rules in
    let cores : c.self.inside.cores.items ≡ c.args.self.now.cores = ap (λ k. k.cores) c.self.view_is in
    let within : c.from.result < length c.self.inside.cores.items = search rules in
    let at_core : slice_get c.args.self.now.cores (c.args.node - 1) ≡ Some c.index_mut-core.result.now =
    (λ i. slice_get (sym cores i) (sym place i)) ∙ slice_get_read c.self.inside.cores.items _ c.from.result c.index_mut-core.result.now refl within c.index_mut-core.ensures.value in
    let cores' = slice_set c.self.inside.cores.items c.from.result c.step.new.self in
    let disks' = slice_set c.args.rack.now (c.args.node - 1) c.step.new.disk in
    on_ok_weaker c.put.result (λ put. done_kept g.C.Core g.D.Disk.file c.args.node c.from.result (input_of c.args.input) c.index_mut-core.result.now c.step.new.self c.disk.result.now c.step.new.disk
    c.self.inside.cores.items (hand c.args.self.now c.args.rack.now c.args.journal.now) c.put.new.self.net c.put.new.journal c.put.new.self.full c.step.new.out
    c.requires.least c.requires.greatest place cores at_core c.disk.ensures.value
    (λ h n st. subst (λ o. Did (g.C.Core.stands h c.step.new.self (g.D.Disk.file c.step.new.disk)) (step h n (input_of c.args.input)) o c.step.new.out) c.new-outputs.ensures (c.in-Ok.ensures.done h n st))
    (put ∙ (λ i. put_seen c.args.node (c.self.view_is i).event (map seen_of c.step.new.out) (record {
      frames =
          map frame_of (c.self.view_is i).net;
      lines = c.args.journal.now;
      full = (c.self.view_is i).full;
    })))
    _ ((λ i. record {
      kept =
          record {
            header = c.self.inside.header;
            cores = cores';
            net = c.put.new.self.net;
            labels = c.self.inside.labels.entries;
            given = c.self.inside.given.keys;
            event =
                c.put.ensures.event i;
            full = c.put.new.self.full;
          };
      disks = disks';
      journal = c.put.new.journal;
    })
    ∙ (λ i. record {
      kept = record (c.self.view_is i) { cores = cores'; net = c.put.new.self.net; full = c.put.new.self.full };
      disks =
          disks';
      journal = c.put.new.journal;
    }))) c.put.ensures.put

pub returns-in_ok-put-in-Err-Halted-clause-steps : goal.returns-in_ok-put-in-Err-Halted-clause-steps
returns-in_ok-put-in-Err-Halted-clause-steps g c =
    let place : c.from.result ≡ c.args.node - 1 = search rules in
    let cores : c.self.inside.cores.items ≡ c.args.self.now.cores = ap (λ k. k.cores) c.self.view_is in
    let within : c.from.result < length c.self.inside.cores.items = search rules in
    let at_core : slice_get c.args.self.now.cores (c.args.node - 1) ≡ Some c.index_mut-core.result.now =
    (λ i. slice_get (sym cores i) (sym place i)) ∙ slice_get_read c.self.inside.cores.items _ c.from.result c.index_mut-core.result.now refl within c.index_mut-core.ensures.value in
    let cores' = slice_set c.self.inside.cores.items c.from.result c.step.new.self in
    let disks' = slice_set c.args.rack.now (c.args.node - 1) c.step.new.disk in
    on_ok_weaker c.say.result (λ line. cut_kept g.C.Core g.D.Disk.file c.args.node c.from.result (input_of c.args.input) c.index_mut-core.result.now c.step.new.self c.disk.result.now c.step.new.disk
    c.self.inside.cores.items (hand c.args.self.now c.args.rack.now c.args.journal.now) c.put-in-Err-Halted.new.self.net c.put-in-Err-Halted.new.journal c.say.new.journal c.put-in-Err-Halted.new.self.full c.step.new.out
    c.requires.least c.requires.greatest place cores at_core c.disk.ensures.value
    (λ h n st. subst (λ o. WasCut (g.C.Core.stands h c.step.new.self (g.D.Disk.file c.step.new.disk)) n (step h n (input_of c.args.input)) o c.step.new.out) c.new-outputs.ensures (c.in-Err-Halted.ensures.halted (ap Err c.in-Err-Halted.field-0-is) h n st))
    (c.in_ok-put-in-Err-Halted.ensures.put ∙ (λ i. put_seen c.args.node (c.self.view_is i).event (map seen_of c.step.new.out) (record { frames = map frame_of (c.self.view_is i).net; lines = c.args.journal.now; full = (c.self.view_is i).full })))
    (line ∙ (λ i. c.put-in-Err-Halted.new.journal ++ numbered ((c.in_ok-put-in-Err-Halted.ensures.event ∙ ap (λ k. k.event) c.self.view_is) i) (body.Halted c.args.node ∷ [])))
    _ ((λ i. record {
      kept =
          record {
            header = c.self.inside.header;
            cores = cores';
            net = c.put-in-Err-Halted.new.self.net;
            labels =
                c.self.inside.labels.entries;
            given = c.self.inside.given.keys;
            event = c.in_ok-put-in-Err-Halted.ensures.event i;
            full = c.put-in-Err-Halted.new.self.full;
          };
      disks =
          disks';
      journal = c.say.new.journal;
    })
    ∙ (λ i. record {
      kept =
          record (c.self.view_is i) {
            cores = cores';
            net = c.put-in-Err-Halted.new.self.net;
            full =
                c.put-in-Err-Halted.new.self.full;
          };
      disks = disks';
      journal = c.say.new.journal;
    }))) c.say.ensures

pub returns-in-Ok-clause-tells : goal.returns-in-Ok-clause-tells
returns-in-Ok-clause-tells g c =
    let place : c.from.result ≡ c.args.node - 1 = search rules in
    let cores : c.self.inside.cores.items ≡ c.args.self.now.cores = ap (λ k. k.cores) c.self.view_is in
    let within : c.from.result < length c.self.inside.cores.items = search rules in
    let at_core : slice_get c.args.self.now.cores (c.args.node - 1) ≡ Some c.index_mut-core.result.now =
    (λ i. slice_get (sym cores i) (sym place i)) ∙ slice_get_read c.self.inside.cores.items _ c.from.result c.index_mut-core.result.now refl within c.index_mut-core.ensures.value in
    on_ok_weaker c.put.result
    (λ (put : shown c.put.new.self c.put.new.journal ≡ put_seen c.args.node c.self.inside.wire.event (map seen_of c.step.new.out) (shown c.self.inside.wire c.args.journal.now)).
    tells_done g.D.Disk g.C.Core g.D.Disk.file c.args.node (input_of c.args.input) c.index_mut-core.result.now c.step.new.self c.disk.result.now c.step.new.disk
    (hand c.args.self.now c.args.rack.now c.args.journal.now) c.step.new.out c.put.new.journal c.self.inside.wire.event (length (map frame_of c.self.inside.wire.net)) c.requires.least c.requires.greatest at_core c.disk.ensures.value c.requires.stands
    (λ h n st. subst (λ o. Did (g.C.Core.stands h c.step.new.self (g.D.Disk.file c.step.new.disk)) (step h n (input_of c.args.input)) o c.step.new.out) c.new-outputs.ensures (c.in-Ok.ensures.done h n st))
    c.in-Ok.ensures.counts.ok (ap (λ (p : Put). p.lines) put)) c.put.ensures.put

pub returns-in_ok-put-in-Err-Halted-clause-tells : goal.returns-in_ok-put-in-Err-Halted-clause-tells
returns-in_ok-put-in-Err-Halted-clause-tells g c =
    let place : c.from.result ≡ c.args.node - 1 = search rules in
    let cores : c.self.inside.cores.items ≡ c.args.self.now.cores = ap (λ k. k.cores) c.self.view_is in
    let within : c.from.result < length c.self.inside.cores.items = search rules in
    let at_core : slice_get c.args.self.now.cores (c.args.node - 1) ≡ Some c.index_mut-core.result.now =
    (λ i. slice_get (sym cores i) (sym place i)) ∙ slice_get_read c.self.inside.cores.items _ c.from.result c.index_mut-core.result.now refl within c.index_mut-core.ensures.value in
    let counts = c.in-Err-Halted.ensures.counts in
    on_ok_weaker c.say.result
    (λ line. tells_cut g.D.Disk g.C.Core g.D.Disk.file c.args.node (input_of c.args.input) c.index_mut-core.result.now c.step.new.self c.disk.result.now c.step.new.disk
    (hand c.args.self.now c.args.rack.now c.args.journal.now) c.step.new.out c.put-in-Err-Halted.new.journal c.say.new.journal c.self.inside.wire.event c.put-in-Err-Halted.new.self.event (length (map frame_of c.self.inside.wire.net))
    c.requires.least c.requires.greatest at_core c.disk.ensures.value c.requires.stands
    (λ h n st. subst (λ o. WasCut (g.C.Core.stands h c.step.new.self (g.D.Disk.file c.step.new.disk)) n (step h n (input_of c.args.input)) o c.step.new.out) c.new-outputs.ensures (c.in-Err-Halted.ensures.halted (ap Err c.in-Err-Halted.field-0-is) h n st))
    (counts.rose (ap Err c.in-Err-Halted.field-0-is)) counts.later (ap (λ (p : Put). p.lines) c.in_ok-put-in-Err-Halted.ensures.put) line) c.say.ensures

pub returns-in-Ok-clause-disks : goal.returns-in-Ok-clause-disks
returns-in-Ok-clause-disks g c =
    moved_set g.D.Disk c.args.self.now.header.nodes c.args.node c.args.rack.now c.disk.result.now c.step.new.disk c.step.result Halted c.requires.least c.requires.greatest c.disk.ensures.value c.step.ensures.counts

pub returns-in_err-put-in-Err-Halted-clause-disks : goal.returns-in_err-put-in-Err-Halted-clause-disks
returns-in_err-put-in-Err-Halted-clause-disks g c =
    moved_set g.D.Disk c.args.self.now.header.nodes c.args.node c.args.rack.now c.disk.result.now c.step.new.disk c.step.result Halted c.requires.least c.requires.greatest c.disk.ensures.value c.step.ensures.counts

pub returns-in_ok-put-in-Err-Halted-clause-disks : goal.returns-in_ok-put-in-Err-Halted-clause-disks
returns-in_ok-put-in-Err-Halted-clause-disks g c =
    moved_set g.D.Disk c.args.self.now.header.nodes c.args.node c.args.rack.now c.disk.result.now c.step.new.disk c.step.result Halted c.requires.least c.requires.greatest c.disk.ensures.value c.step.ensures.counts

pub returns-in-Err-Memory-clause-disks : goal.returns-in-Err-Memory-clause-disks
returns-in-Err-Memory-clause-disks g c =
    moved_set g.D.Disk c.args.self.now.header.nodes c.args.node c.args.rack.now c.disk.result.now c.step.new.disk c.step.result Halted c.requires.least c.requires.greatest c.disk.ensures.value c.step.ensures.counts
