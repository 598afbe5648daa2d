use Rattle.std.proofs.Common.{subst}
use Rattle.std.specs.Prelude.{is_some}
use Rattle.arj_disk.specs.FileMap.{FileMap}
use Rattle.arj_protocol.specs.Effect.{Disk}
use Rattle.arj_protocol.specs.Node.{store_told}
use Rattle.arj_serve.specs.Did.{Call, disk_after}
use Rattle.arj_serve.specs.Kept.{Kept, LeavesNames}
use Rattle.arj_serve.proofs.Looked.{stopped_too}
use Rattle.arj_serve.proofs.Stores.{store_leaves}
use Rattle.arj_serve.proofs.Tells.{leaves_both, naming_cut, parts_end, store_cut}
use Rattle.arj_serve.proofs.services.Services.end_parts.Goals as goal

pub returns-in_err-end_states-clause-stopped : goal.returns-in_err-end_states-clause-stopped
returns-in_err-end_states-clause-stopped g c = λ stop.
    let o = g.O.ObjectStore in
    let m = c.args.m.now in
    let now = c.args.self.now in
    let file : FileMap = g.D.Disk.file c.args.disk.now in
    let middle : FileMap = g.D.Disk.file c.end_states.new.disk in
    store_cut o m c.args.action c.args.end (record {
      old = now;
      new = c.end_states.new.self;
      file = file;
      left = middle;
      before =
          c.args.out.now;
      after =
          c.end_states.new.out;
    }) (c.in_err-end_states.ensures.stopped (stopped_too c.from_residual.result c.in_err-end_states.field-0.0 c.from_residual.ensures.1 stop))

pub returns-in_err-end_states-clause-leaves : goal.returns-in_err-end_states-clause-leaves
returns-in_err-end_states-clause-leaves g c =
    let o = g.O.ObjectStore in
    let now = c.args.self.now in
    let file : FileMap = g.D.Disk.file c.args.disk.now in
    let middle : FileMap = g.D.Disk.file c.end_states.new.disk in
    let call : Call g.row.O.Denot =
    record { old = now; new = now; file = file; left = middle; before = c.args.out.now; after = c.args.out.now } in
    store_leaves o g.met.O.ObjectStore.keeps_on g.met.O.ObjectStore.stays call c.requires.stands.0 c.requires.stands.1 c.end_states.ensures.leaves.only c.end_states.ensures.leaves.formed

pub end_names-requires : goal.end_names-requires
end_names-requires g c =
    let d : Disk = c.requires.stands.0 in
    record {
      stands =
          (disk_after (store_told c.args.self.now.number c.args.action c.args.end d.store) d, (c.in_ok-end_states.ensures.done d c.requires.stands.1).stands);
    }

pub returns-in_err-end_names-clause-stopped : goal.returns-in_err-end_names-clause-stopped
returns-in_err-end_names-clause-stopped g c = λ stop.
    let o = g.O.ObjectStore in
    let m = c.args.m.now in
    let now = c.args.self.now in
    let file : FileMap = g.D.Disk.file c.args.disk.now in
    let middle : FileMap = g.D.Disk.file c.end_states.new.disk in
    let left : FileMap = g.D.Disk.file c.end_names.new.disk in
    naming_cut o m c.args.action c.args.end now c.end_states.new.self c.in_ok-end_states.ensures.memory file middle c.args.out.now c.end_states.new.out left c.end_names.new.self c.end_names.new.out c.in_ok-end_states.ensures.done (c.in_err-end_names.ensures.stopped (stopped_too c.from_residual-in_err-end_names.result c.in_err-end_names.field-0.0 c.from_residual-in_err-end_names.ensures.1 stop))

pub returns-in_err-end_names-clause-leaves : goal.returns-in_err-end_names-clause-leaves
returns-in_err-end_names-clause-leaves g c =
    let o = g.O.ObjectStore in
    let now = c.args.self.now in
    let file : FileMap = g.D.Disk.file c.args.disk.now in
    let middle : FileMap = g.D.Disk.file c.end_states.new.disk in
    let left : FileMap = g.D.Disk.file c.end_names.new.disk in
    leaves_both o g.met.O.ObjectStore.stays file middle left (is_some now.naming) c.end_states.ensures.leaves.formed c.end_states.ensures.leaves
    (subst (λ (k : Kept g.row.O.Denot). LeavesNames o (is_some k.naming) middle left) c.in_ok-end_states.ensures.memory c.end_names.ensures.leaves)

pub returns-in_err-end_server-clause-leaves : goal.returns-in_err-end_server-clause-leaves
returns-in_err-end_server-clause-leaves g c =
    let o = g.O.ObjectStore in
    let now = c.args.self.now in
    let file : FileMap = g.D.Disk.file c.args.disk.now in
    let middle : FileMap = g.D.Disk.file c.end_states.new.disk in
    let left : FileMap = g.D.Disk.file c.end_names.new.disk in
    leaves_both o g.met.O.ObjectStore.stays file middle left (is_some now.naming) c.end_states.ensures.leaves.formed c.end_states.ensures.leaves
    (subst (λ (k : Kept g.row.O.Denot). LeavesNames o (is_some k.naming) middle left) c.in_ok-end_states.ensures.memory c.end_names.ensures.leaves)

pub returns-clause-done : goal.returns-clause-done
returns-clause-done g c =
    let o = g.O.ObjectStore in
    let m = c.args.m.now in
    let now = c.args.self.now in
    let file : FileMap = g.D.Disk.file c.args.disk.now in
    let middle : FileMap = g.D.Disk.file c.end_states.new.disk in
    let left : FileMap = g.D.Disk.file c.end_names.new.disk in
    parts_end o m c.args.action c.args.end now c.end_states.new.self c.in_ok-end_states.ensures.memory file middle c.args.out.now c.end_states.new.out left c.end_names.new.self c.end_names.new.out c.in_ok-end_states.ensures.done
    c.end_server.new.self c.end_server.new.out c.in_ok-end_names.ensures.done c.in_ok-end_server.ensures (λ n s. c.parts_act_alone.ensures.server_told n m.ends s)

pub returns-clause-leaves : goal.returns-clause-leaves
returns-clause-leaves g c =
    let o = g.O.ObjectStore in
    let now = c.args.self.now in
    let file : FileMap = g.D.Disk.file c.args.disk.now in
    let middle : FileMap = g.D.Disk.file c.end_states.new.disk in
    let left : FileMap = g.D.Disk.file c.end_names.new.disk in
    leaves_both o g.met.O.ObjectStore.stays file middle left (is_some now.naming) c.end_states.ensures.leaves.formed c.end_states.ensures.leaves
    (subst (λ (k : Kept g.row.O.Denot). LeavesNames o (is_some k.naming) middle left) c.in_ok-end_states.ensures.memory c.end_names.ensures.leaves)
