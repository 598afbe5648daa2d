use Rattle.std.proofs.Common.{◌≡◌, ◌∙◌, ◌⊎◌, ◌++◌, ◌∷◌, [], ap, refl, subst}
use Rattle.arj_disk.specs.FileMap.{FileMap}
use Rattle.arj_disk.specs.Says.{OnlyOfRole}
use Rattle.arj_disk.specs.declared.slot.Role.TheVariants.{Store}
use Rattle.arj_naming.specs.Said.{said}
use Rattle.arj_protocol.specs.Effect.{Say}
use Rattle.arj_protocol.specs.Words.body
use Rattle.arj_protocol.specs.Words.ending
use Rattle.arj_protocol.specs.Words.role
use Rattle.arj_serve.specs.Did.{Call}
use Rattle.arj_serve.specs.Kept.{Kept}
use Rattle.arj_serve.proofs.Stores.{abort_cut, aborted_done, left_of}
use Rattle.arj_store.specs.Pair as files
use Rattle.arj_serve.proofs.services.Services.abort_states.Goals as goal

pub returns-in_err-abort-clause-stopped : goal.returns-in_err-abort-clause-stopped
returns-in_err-abort-clause-stopped g c = λ stop d stands.
    let o = g.O.ObjectStore in
    let file : FileMap = g.D.Disk.file c.args.disk.now in
    let left : FileMap = g.D.Disk.file c.abort.new.disk in
    let own : o.own_role c.self.inside.store ≡ Store =
    ap (λ (k : Kept g.row.O.Denot). o.own_role k.store) c.self.view_is ∙ stands.role_is in
    let call : Call g.row.O.Denot =
    record {
      old = c.args.self.now;
      new =
          record {
            number = c.self.inside.number;
            server = c.self.inside.server;
            naming = c.self.inside.naming;
            store =
                c.abort.new.self;
          };
      file = file;
      left = left;
      before = c.args.out.now;
      after = c.args.out.now;
    } in
    abort_cut o g.met.O.ObjectStore.keeps_on g.met.O.ObjectStore.stays call d stands (subst (λ r. OnlyOfRole r file left) own c.abort.ensures.others) c.args.act refl
    (subst (λ r. files.SamePair (o.pair file r) (o.pair left r) ⊎ files.Drops (o.pair file r) (o.pair left r) c.args.act) own c.in_err-abort.ensures.fault)

pub returns-in_err-abort-clause-leaves : goal.returns-in_err-abort-clause-leaves
returns-in_err-abort-clause-leaves g c =
    let o = g.O.ObjectStore in
    let file : FileMap = g.D.Disk.file c.args.disk.now in
    let left : FileMap = g.D.Disk.file c.abort.new.disk in
    left_of o c.self.inside.store (ap (λ (k : Kept g.row.O.Denot). o.own_role k.store) c.self.view_is ∙ c.requires.stands.1.role_is) file left c.abort.ensures.others c.abort.ensures.formed

pub returns-in_err-say_done-clause-leaves : goal.returns-in_err-say_done-clause-leaves
returns-in_err-say_done-clause-leaves g c =
    let o = g.O.ObjectStore in
    let file : FileMap = g.D.Disk.file c.args.disk.now in
    let left : FileMap = g.D.Disk.file c.abort.new.disk in
    left_of o c.self.inside.store (ap (λ (k : Kept g.row.O.Denot). o.own_role k.store) c.self.view_is ∙ c.requires.stands.1.role_is) file left c.abort.ensures.others c.abort.ensures.formed

pub returns-clause-done : goal.returns-clause-done
returns-clause-done g c = λ d stands.
    let o = g.O.ObjectStore in
    let file : FileMap = g.D.Disk.file c.args.disk.now in
    let left : FileMap = g.D.Disk.file c.abort.new.disk in
    let own : o.own_role c.self.inside.store ≡ Store =
    ap (λ (k : Kept g.row.O.Denot). o.own_role k.store) c.self.view_is ∙ stands.role_is in
    let call : Call g.row.O.Denot =
    record {
      old = c.args.self.now;
      new =
          record {
            number = c.self.inside.number;
            server = c.self.inside.server;
            naming = c.self.inside.naming;
            store =
                c.abort.new.self;
          };
      file = file;
      left = left;
      before = c.args.out.now;
      after = c.say_done.new.out;
    } in
    aborted_done o g.met.O.ObjectStore.keeps_on g.met.O.ObjectStore.stays call d stands (subst (λ r. OnlyOfRole r file left) own c.abort.ensures.others) c.args.act
    (λ i. record (c.self.view_is i) {
      store =
          c.abort.new.self;
    }) (c.in_ok-abort.ensures.role ∙ own) c.in_ok-abort.ensures.keeps (subst (λ r. o.formed left r) own c.abort.ensures.formed)
    (subst (λ r. files.Drops (o.pair file r) (o.pair left r) c.args.act) own c.in_ok-abort.ensures.dropped)
    (c.in_ok-say_done.ensures ∙ (λ i. c.args.out.now ++ said (Say (body.Done (c.self.view_is i).number c.args.act role.Store ending.Abort) ∷ [])))

pub returns-clause-leaves : goal.returns-clause-leaves
returns-clause-leaves g c =
    let o = g.O.ObjectStore in
    let file : FileMap = g.D.Disk.file c.args.disk.now in
    let left : FileMap = g.D.Disk.file c.abort.new.disk in
    left_of o c.self.inside.store (ap (λ (k : Kept g.row.O.Denot). o.own_role k.store) c.self.view_is ∙ c.requires.stands.1.role_is) file left c.abort.ensures.others c.abort.ensures.formed
