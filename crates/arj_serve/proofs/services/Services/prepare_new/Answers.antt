use Rattle.std.proofs.Common.{◌≡◌, ◌∙◌, ◌⊎◌, ◌++◌, ap, refl, sym, subst, arith}
use Rattle.arj_disk.specs.FileMap.{FileMap}
use Rattle.arj_disk.specs.Says.{OnlyOfRole}
use Rattle.arj_disk.specs.declared.slot.Role.{Role}
use Rattle.arj_disk.specs.declared.slot.Role.TheVariants.{Store}
use Rattle.arj_naming.specs.Said.{said}
use Rattle.arj_protocol.specs.Ask.{actor}
use Rattle.arj_serve.specs.Asked.{IsServed}
use Rattle.arj_serve.specs.Did.{Call}
use Rattle.arj_serve.specs.Ended.{prep_done}
use Rattle.arj_serve.specs.Kept.{Kept}
use Rattle.arj_serve.proofs.Prepares.{added_objects, all_objects, all_small, as_many, known_objects}
use Rattle.arj_serve.proofs.Stores.{numbered, prepare_cut, prepared_served, store_leaves}
use Rattle.arj_store.specs.Pair as files
use Rattle.arj_law_store.specs.store.Prep.{prep_of}
use Rattle.arj_serve.proofs.services.Services.prepare_new.Goals as goal

pub prepare-requires-clause-sizes : goal.prepare-requires-clause-sizes
prepare-requires-clause-sizes g c = all_small c.args.m.now.states c.requires.states.each

pub prepare-requires-clause-few : goal.prepare-requires-clause-few
prepare-requires-clause-few g c =
    let o = g.O.ObjectStore in
    let stands = c.requires.stands.1 in
    let P : Role → files.Pair = λ r. o.pair (g.D.Disk.file c.args.disk.now) r in
    let own : o.own_role c.self.inside.store ≡ Store =
    ap (λ (k : Kept g.row.O.Denot). o.own_role k.store) c.self.view_is ∙ stands.role_is in
    c.known_objects.ensures.few (P (o.own_role c.self.inside.store)) c.args.m.now.states all_objects (omega (arith, as_many))
    (λ u known. known_objects (P Store) c.requires.stands.0.store stands.pair stands.objects u (subst (λ r. files.IsKnown (P r) u) own known)) (λ u added. added_objects c.args.m.now.states c.requires.states.each u added)

pub returns-in_err-answer-clause-stopped : goal.returns-in_err-answer-clause-stopped
returns-in_err-answer-clause-stopped g c = λ stop d stands from e.
    let o = g.O.ObjectStore in
    let m = c.args.m.now in
    let now = c.args.self.now in
    let file : FileMap = g.D.Disk.file c.args.disk.now in
    let left : FileMap = g.D.Disk.file c.prepare.new.disk in
    let own : o.own_role c.self.inside.store ≡ Store =
    ap (λ (k : Kept g.row.O.Denot). o.own_role k.store) c.self.view_is ∙ c.requires.stands.1.role_is in
    let call : Call g.row.O.Denot =
    record {
      old = now;
      new =
          record {
            number = c.self.inside.number;
            server = c.self.inside.server;
            naming = c.self.inside.naming;
            store =
                c.prepare.new.self;
          };
      file = file;
      left = left;
      before = c.args.out.now;
      after = c.args.out.now;
    } in
    let P : Role → files.Pair = λ r. o.pair file r in
    let Q : Role → files.Pair = λ r. o.pair left r in
    prepare_cut o g.met.O.ObjectStore.keeps_on g.met.O.ObjectStore.stays call d stands (subst (λ r. OnlyOfRole r file left) own c.prepare.ensures.others) from e m.head m.states c.requires.states (c.requires.first d stands)
    (g.met.O.ObjectStore.sound Store file stands.formed).once refl
    (subst (λ r. files.SamePair (P r) (Q r) ⊎ files.Prepares (P r) (Q r) (actor m.head.path) m.states) own (subst (λ u. files.SamePair (P (o.own_role c.self.inside.store)) (Q (o.own_role c.self.inside.store)) ⊎ files.Prepares (P (o.own_role c.self.inside.store)) (Q (o.own_role c.self.inside.store)) u m.states) c.last-action.ensures c.in_err-answer.ensures.fault))

pub returns-in_err-answer-clause-leaves : goal.returns-in_err-answer-clause-leaves
returns-in_err-answer-clause-leaves g c =
    let o = g.O.ObjectStore in
    let now = c.args.self.now in
    let file : FileMap = g.D.Disk.file c.args.disk.now in
    let left : FileMap = g.D.Disk.file c.prepare.new.disk in
    let own : o.own_role c.self.inside.store ≡ Store =
    ap (λ (k : Kept g.row.O.Denot). o.own_role k.store) c.self.view_is ∙ c.requires.stands.1.role_is in
    let call : Call g.row.O.Denot =
    record { old = now; new = now; file = file; left = left; before = c.args.out.now; after = c.args.out.now } in
    store_leaves o g.met.O.ObjectStore.keeps_on g.met.O.ObjectStore.stays call c.requires.stands.0 c.requires.stands.1 (subst (λ r. OnlyOfRole r file left) own c.prepare.ensures.others)
    (subst (λ r. o.formed left r) own c.prepare.ensures.formed)

pub returns-in_err-say_prepared-clause-leaves : goal.returns-in_err-say_prepared-clause-leaves
returns-in_err-say_prepared-clause-leaves g c =
    let o = g.O.ObjectStore in
    let now = c.args.self.now in
    let file : FileMap = g.D.Disk.file c.args.disk.now in
    let left : FileMap = g.D.Disk.file c.prepare.new.disk in
    let own : o.own_role c.self.inside.store ≡ Store =
    ap (λ (k : Kept g.row.O.Denot). o.own_role k.store) c.self.view_is ∙ c.requires.stands.1.role_is in
    let call : Call g.row.O.Denot =
    record { old = now; new = now; file = file; left = left; before = c.args.out.now; after = c.args.out.now } in
    store_leaves o g.met.O.ObjectStore.keeps_on g.met.O.ObjectStore.stays call c.requires.stands.0 c.requires.stands.1 (subst (λ r. OnlyOfRole r file left) own c.prepare.ensures.others)
    (subst (λ r. o.formed left r) own c.prepare.ensures.formed)

pub answered-requires : goal.answered-requires
answered-requires g c =
    let file : FileMap = g.D.Disk.file c.args.disk.now in
    let left : FileMap = g.D.Disk.file c.prepare.new.disk in
    let role = g.O.ObjectStore.own_role c.self.inside.store in
    numbered (g.O.ObjectStore.pair file role) (g.O.ObjectStore.pair left role) c.last-action.result c.args.m.now.states c.in_ok-answer.answer c.requires.states.each c.in_ok-answer.ensures.answer

pub returns-clause-done : goal.returns-clause-done
returns-clause-done g c = λ d stands from e.
    let o = g.O.ObjectStore in
    let m = c.args.m.now in
    let now = c.args.self.now in
    let file : FileMap = g.D.Disk.file c.args.disk.now in
    let left : FileMap = g.D.Disk.file c.prepare.new.disk in
    let own : o.own_role c.self.inside.store ≡ Store =
    ap (λ (k : Kept g.row.O.Denot). o.own_role k.store) c.self.view_is ∙ c.requires.stands.1.role_is in
    let call : Call g.row.O.Denot =
    record {
      old = now;
      new =
          record {
            number = c.self.inside.number;
            server = c.self.inside.server;
            naming = c.self.inside.naming;
            store =
                c.prepare.new.self;
          };
      file = file;
      left = left;
      before = c.args.out.now;
      after = c.say_prepared.new.out;
    } in
    let answer = c.in_ok-answer.answer in
    let answers = subst (λ r. files.AnswersPrepare (o.pair file r) (o.pair left r) (actor m.head.path) m.states answer) own
    (subst (λ u. files.AnswersPrepare (o.pair file (o.own_role c.self.inside.store)) (o.pair left (o.own_role c.self.inside.store)) u m.states answer) c.last-action.ensures c.in_ok-answer.ensures.answer) in
    subst (IsServed o from _ e call d) (sym c.answered.ensures)
    (prepared_served o g.met.O.ObjectStore.keeps_on g.met.O.ObjectStore.stays call d stands (subst (λ r. OnlyOfRole r file left) own c.prepare.ensures.others) from e m.head m.states c.requires.states (c.requires.first d stands)
    (g.met.O.ObjectStore.sound Store file stands.formed).once answer answers (λ i. record (c.self.view_is i) {
      store =
          c.prepare.new.self;
    }) (c.prepare.ensures.role ∙ own) c.in_ok-answer.ensures.keeps
    (subst (λ r. o.formed left r) own c.prepare.ensures.formed)
    (c.in_ok-say_prepared.ensures m.states ∙ (λ i. c.args.out.now ++ said (prep_done (c.self.view_is i).number (c.last-action.ensures i) m.states (prep_of answer)))))

pub returns-clause-leaves : goal.returns-clause-leaves
returns-clause-leaves g c =
    let o = g.O.ObjectStore in
    let now = c.args.self.now in
    let file : FileMap = g.D.Disk.file c.args.disk.now in
    let left : FileMap = g.D.Disk.file c.prepare.new.disk in
    let own : o.own_role c.self.inside.store ≡ Store =
    ap (λ (k : Kept g.row.O.Denot). o.own_role k.store) c.self.view_is ∙ c.requires.stands.1.role_is in
    let call : Call g.row.O.Denot =
    record { old = now; new = now; file = file; left = left; before = c.args.out.now; after = c.args.out.now } in
    store_leaves o g.met.O.ObjectStore.keeps_on g.met.O.ObjectStore.stays call c.requires.stands.0 c.requires.stands.1 (subst (λ r. OnlyOfRole r file left) own c.prepare.ensures.others)
    (subst (λ r. o.formed left r) own c.prepare.ensures.formed)
