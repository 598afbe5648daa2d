-- few objects are known, and no call makes others known
use Rattle.std.proofs.Common.{◌≤◌, ◌⊎◌, ◌∙◌, Ok, Err, Result, arith, length, subst, sym, ⊎_elim}
use Rattle.std.specs.Prelude.{OnOk}
use Rattle.arj_disk.specs.Armed.{files_of}
use Rattle.arj_disk.specs.FileMap.{FileMap}
use Rattle.arj_store.specs.Pair.{AnswersPrepare, Drops, Moves, MovesSome, Prepares, SamePair}
use Rattle.arj_part_tests.specs.Known.{KnowsOurs, ours}
use Rattle.arj_part_tests.proofs.Knowing.{answered, carried, formed_at, in_part, known_at}
use Rattle.arj_part_tests.proofs.stores.ask.Goals as goal

if_ok : {T E : Type 0} (r : Result T E) (P : Type 0) → P → OnOk r P
if_ok (Ok value) P p = p
if_ok (Err fault) P p = tt

pub read-requires-clause-keeps : goal.read-requires-clause-keeps
read-requires-clause-keeps g c = subst (g.S.ObjectStore.keeps c.args.store.now) (sym c.begin.ensures.files) c.requires.keeps

pub read-requires-clause-formed : goal.read-requires-clause-formed
read-requires-clause-formed g c = formed_at g.S.ObjectStore.formed c.args.role (g.S.ObjectStore.own_role c.args.store.now)
    (files_of c.args.disk.now.disk) (files_of c.begin.new.disk.disk) c.requires.role c.begin.ensures.files c.requires.formed

pub prepare-requires-clause-keeps : goal.prepare-requires-clause-keeps
prepare-requires-clause-keeps g c = subst (g.S.ObjectStore.keeps c.args.store.now) (sym c.begin-in-Prepare.ensures.files) c.requires.keeps

pub prepare-requires-clause-formed : goal.prepare-requires-clause-formed
prepare-requires-clause-formed g c = formed_at g.S.ObjectStore.formed c.args.role (g.S.ObjectStore.own_role c.args.store.now)
    (files_of c.args.disk.now.disk) (files_of c.begin-in-Prepare.new.disk.disk) c.requires.role c.begin-in-Prepare.ensures.files
    c.requires.formed

pub prepare-requires-clause-few : goal.prepare-requires-clause-few
prepare-requires-clause-few g c =
    let o = g.S.ObjectStore in
    let own = o.own_role c.args.store.now in
    let mid : FileMap = files_of c.begin-in-Prepare.new.disk.disk in
    let few : length (ours c.args.role) ≤ 65535 = omega arith in
    c.known_objects.ensures.few (o.pair mid own) c.in_ok-states-in-Prepare.states (ours c.args.role) few (known_at o.pair c.args.role own
    (files_of c.args.disk.now.disk) mid c.requires.role c.begin-in-Prepare.ensures.files c.requires.known)
    c.in_ok-states-in-Prepare.ensures.ours

pub commit-requires-clause-keeps : goal.commit-requires-clause-keeps
commit-requires-clause-keeps g c = subst (g.S.ObjectStore.keeps c.args.store.now) (sym c.begin-in-Commit.ensures.files) c.requires.keeps

pub commit-requires-clause-formed : goal.commit-requires-clause-formed
commit-requires-clause-formed g c = formed_at g.S.ObjectStore.formed c.args.role (g.S.ObjectStore.own_role c.args.store.now)
    (files_of c.args.disk.now.disk) (files_of c.begin-in-Commit.new.disk.disk) c.requires.role c.begin-in-Commit.ensures.files
    c.requires.formed

pub abort-requires-clause-keeps : goal.abort-requires-clause-keeps
abort-requires-clause-keeps g c = subst (g.S.ObjectStore.keeps c.args.store.now) (sym c.begin-in-Abort.ensures.files) c.requires.keeps

pub abort-requires-clause-formed : goal.abort-requires-clause-formed
abort-requires-clause-formed g c = formed_at g.S.ObjectStore.formed c.args.role (g.S.ObjectStore.own_role c.args.store.now)
    (files_of c.args.disk.now.disk) (files_of c.begin-in-Abort.new.disk.disk) c.requires.role c.begin-in-Abort.ensures.files
    c.requires.formed

pub returns-in-Read-clause-keeps : goal.returns-in-Read-clause-keeps
returns-in-Read-clause-keeps g c = if_ok c.read.result _ (subst (g.S.ObjectStore.keeps c.args.store.now)
    (sym (c.read.ensures.files ∙ c.begin.ensures.files)) c.requires.keeps)

pub returns-in-Read-clause-formed : goal.returns-in-Read-clause-formed
returns-in-Read-clause-formed g c = subst (λ f. g.S.ObjectStore.formed f c.args.role)
    (sym (c.read.ensures.files ∙ c.begin.ensures.files)) c.requires.formed

pub returns-in-Read-clause-known : goal.returns-in-Read-clause-known
returns-in-Read-clause-known g c = subst (λ f. KnowsOurs c.args.role (g.S.ObjectStore.pair f c.args.role))
    (sym (c.read.ensures.files ∙ c.begin.ensures.files)) c.requires.known

pub returns-in_err-prepare-in-Prepare-clause-known : goal.returns-in_err-prepare-in-Prepare-clause-known
returns-in_err-prepare-in-Prepare-clause-known g c =
    carried g.S.ObjectStore.pair _ _ _ _ (files_of c.prepare.new.disk.disk) c.requires.role c.begin-in-Prepare.ensures.files
    c.requires.known
    (λ p q. SamePair p q ⊎ Prepares p q c.in-Prepare.act c.in_ok-states-in-Prepare.states)
    (λ p q r knows. in_part c.args.role p q c.in-Prepare.act c.in_ok-states-in-Prepare.states (c.known_objects.ensures.same p q)
    (c.known_objects.ensures.prepare p q c.in-Prepare.act c.in_ok-states-in-Prepare.states) c.in_ok-states-in-Prepare.ensures.ours knows r)
    c.in_err-prepare-in-Prepare.ensures.fault

pub returns-in_ok-prepare-in-Prepare-clause-known : goal.returns-in_ok-prepare-in-Prepare-clause-known
returns-in_ok-prepare-in-Prepare-clause-known g c =
    carried g.S.ObjectStore.pair _ _ _ _ (files_of c.prepare.new.disk.disk) c.requires.role c.begin-in-Prepare.ensures.files
    c.requires.known
    (λ p q. AnswersPrepare p q c.in-Prepare.act c.in_ok-states-in-Prepare.states c.in_ok-prepare-in-Prepare.field-0)
    (λ p q r knows. answered c.args.role p q c.in-Prepare.act c.in_ok-states-in-Prepare.states (c.known_objects.ensures.same p q)
    (c.known_objects.ensures.prepare p q c.in-Prepare.act c.in_ok-states-in-Prepare.states) c.in_ok-states-in-Prepare.ensures.ours knows
    c.in_ok-prepare-in-Prepare.field-0 r)
    c.in_ok-prepare-in-Prepare.ensures.answer

pub returns-in_err-commit-in-Commit-clause-known : goal.returns-in_err-commit-in-Commit-clause-known
returns-in_err-commit-in-Commit-clause-known g c =
    carried g.S.ObjectStore.pair _ _ _ _ (files_of c.commit.new.disk.disk) c.requires.role c.begin-in-Commit.ensures.files c.requires.known
    (λ p q. MovesSome p q c.in-Commit.act ⊎ Moves p q c.in-Commit.act)
    (λ p q r knows u h. knows u (⊎_elim (c.known_objects.ensures.part p q c.in-Commit.act)
    (c.known_objects.ensures.commit p q c.in-Commit.act) r u h))
    c.in_err-commit-in-Commit.ensures.fault

pub returns-in_ok-commit-in-Commit-clause-known : goal.returns-in_ok-commit-in-Commit-clause-known
returns-in_ok-commit-in-Commit-clause-known g c =
    carried g.S.ObjectStore.pair _ _ _ _ (files_of c.commit.new.disk.disk) c.requires.role c.begin-in-Commit.ensures.files c.requires.known
    (λ p q. Moves p q c.in-Commit.act)
    (λ p q r knows u h. knows u (c.known_objects.ensures.commit p q c.in-Commit.act r u h))
    c.in_ok-commit-in-Commit.ensures.moved

pub returns-in_err-abort-in-Abort-clause-known : goal.returns-in_err-abort-in-Abort-clause-known
returns-in_err-abort-in-Abort-clause-known g c =
    carried g.S.ObjectStore.pair _ _ _ _ (files_of c.abort.new.disk.disk) c.requires.role c.begin-in-Abort.ensures.files c.requires.known
    (λ p q. SamePair p q ⊎ Drops p q c.in-Abort.act)
    (λ p q r knows u h. knows u (⊎_elim (c.known_objects.ensures.same p q) (c.known_objects.ensures.abort p q c.in-Abort.act) r u h))
    c.in_err-abort-in-Abort.ensures.fault

pub returns-in_ok-abort-in-Abort-clause-known : goal.returns-in_ok-abort-in-Abort-clause-known
returns-in_ok-abort-in-Abort-clause-known g c =
    carried g.S.ObjectStore.pair _ _ _ _ (files_of c.abort.new.disk.disk) c.requires.role c.begin-in-Abort.ensures.files c.requires.known
    (λ p q. Drops p q c.in-Abort.act)
    (λ p q r knows u h. knows u (c.known_objects.ensures.abort p q c.in-Abort.act r u h))
    c.in_ok-abort-in-Abort.ensures.dropped
