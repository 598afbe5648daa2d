use Rattle.std.proofs.Common.{◌≡◌, ◌∙◌, ◌⊎◌, ◌++◌, ◌∷◌, [], ap, refl, subst}
use Rattle.arj_disk.specs.FileMap.{FileMap}
use Rattle.arj_disk.specs.Says.{OnlyOfRole}
use Rattle.arj_disk.specs.declared.slot.Role.TheVariants.{Store}
use Rattle.arj_naming.specs.Said.{said}
use Rattle.arj_protocol.specs.Effect.{Say}
use Rattle.arj_protocol.specs.Words.body
use Rattle.arj_protocol.specs.Words.ending
use Rattle.arj_protocol.specs.Words.role
use Rattle.arj_serve.specs.Did.{Call}
use Rattle.arj_serve.specs.Kept.{Kept}
use Rattle.arj_serve.proofs.Stores.{commit_cut, committed_done, left_of}
use Rattle.arj_store.specs.Pair as files
use Rattle.arj_serve.proofs.services.Services.commit_states.Goals as goal

pub returns-in_err-commit-clause-stopped : goal.returns-in_err-commit-clause-stopped
returns-in_err-commit-clause-stopped g c = λ stop d stands.
    let o = g.O.ObjectStore in
    let file : FileMap = g.D.Disk.file c.args.disk.now in
    let left : FileMap = g.D.Disk.file c.commit.new.disk in
    let own : o.own_role c.self.inside.store ≡ Store =
    ap (λ (k : Kept g.row.O.Denot). o.own_role k.store) c.self.view_is ∙ stands.role_is in
    let call : Call g.row.O.Denot =
    record {
      old = c.args.self.now;
      new =
          record {
            number = c.self.inside.number;
            server = c.self.inside.server;
            naming = c.self.inside.naming;
            store =
                c.commit.new.self;
          };
      file = file;
      left = left;
      before = c.args.out.now;
      after = c.args.out.now;
    } in
    commit_cut o g.met.O.ObjectStore.keeps_on g.met.O.ObjectStore.stays call d stands (subst (λ r. OnlyOfRole r file left) own c.commit.ensures.others) c.args.act refl
    (subst (λ r. files.MovesSome (o.pair file r) (o.pair left r) c.args.act ⊎ files.Moves (o.pair file r) (o.pair left r) c.args.act) own c.in_err-commit.ensures.fault)

pub returns-in_err-commit-clause-leaves : goal.returns-in_err-commit-clause-leaves
returns-in_err-commit-clause-leaves g c =
    let o = g.O.ObjectStore in
    let file : FileMap = g.D.Disk.file c.args.disk.now in
    let left : FileMap = g.D.Disk.file c.commit.new.disk in
    left_of o c.self.inside.store (ap (λ (k : Kept g.row.O.Denot). o.own_role k.store) c.self.view_is ∙ c.requires.stands.1.role_is) file left c.commit.ensures.others c.commit.ensures.formed

pub returns-in_err-say_done-clause-leaves : goal.returns-in_err-say_done-clause-leaves
returns-in_err-say_done-clause-leaves g c =
    let o = g.O.ObjectStore in
    let file : FileMap = g.D.Disk.file c.args.disk.now in
    let left : FileMap = g.D.Disk.file c.commit.new.disk in
    left_of o c.self.inside.store (ap (λ (k : Kept g.row.O.Denot). o.own_role k.store) c.self.view_is ∙ c.requires.stands.1.role_is) file left c.commit.ensures.others c.commit.ensures.formed

pub returns-clause-done : goal.returns-clause-done
returns-clause-done g c = λ d stands.
    let o = g.O.ObjectStore in
    let file : FileMap = g.D.Disk.file c.args.disk.now in
    let left : FileMap = g.D.Disk.file c.commit.new.disk in
    let own : o.own_role c.self.inside.store ≡ Store =
    ap (λ (k : Kept g.row.O.Denot). o.own_role k.store) c.self.view_is ∙ stands.role_is in
    let call : Call g.row.O.Denot =
    record {
      old = c.args.self.now;
      new =
          record {
            number = c.self.inside.number;
            server = c.self.inside.server;
            naming = c.self.inside.naming;
            store =
                c.commit.new.self;
          };
      file = file;
      left = left;
      before = c.args.out.now;
      after = c.say_done.new.out;
    } in
    committed_done o g.met.O.ObjectStore.keeps_on g.met.O.ObjectStore.stays call d stands (subst (λ r. OnlyOfRole r file left) own c.commit.ensures.others) c.args.act
    (λ i. record (c.self.view_is i) {
      store =
          c.commit.new.self;
    }) (c.in_ok-commit.ensures.role ∙ own) c.in_ok-commit.ensures.keeps (subst (λ r. o.formed left r) own c.commit.ensures.formed)
    (subst (λ r. files.Moves (o.pair file r) (o.pair left r) c.args.act) own c.in_ok-commit.ensures.moved)
    (c.in_ok-say_done.ensures ∙ (λ i. c.args.out.now ++ said (Say (body.Done (c.self.view_is i).number c.args.act role.Store ending.Commit) ∷ [])))

pub returns-clause-leaves : goal.returns-clause-leaves
returns-clause-leaves g c =
    let o = g.O.ObjectStore in
    let file : FileMap = g.D.Disk.file c.args.disk.now in
    let left : FileMap = g.D.Disk.file c.commit.new.disk in
    left_of o c.self.inside.store (ap (λ (k : Kept g.row.O.Denot). o.own_role k.store) c.self.view_is ∙ c.requires.stands.1.role_is) file left c.commit.ensures.others c.commit.ensures.formed
