-- a recovery leaves what is known
use Rattle.std.proofs.Common.{subst, sym}
use Rattle.arj_disk.specs.Armed.{files_of}
use Rattle.arj_store.specs.Pair.{Pair}
use Rattle.arj_part_tests.specs.Known.{KnowsOurs}
use Rattle.arj_part_tests.proofs.stores.finish.Goals as goal

pub recover-requires : goal.recover-requires
recover-requires g c = subst (λ f. g.S.ObjectStore.formed f c.args.case.now.role) (sym c.begin.ensures.files)
    c.ask-in-Recovery.ensures.formed

pub returns-in_err-_store-in-Recovery-clause-known : goal.returns-in_err-_store-in-Recovery-clause-known
returns-in_err-_store-in-Recovery-clause-known g c =
    let o = g.S.ObjectStore in
    let role = c.args.case.now.role in
    let p : Pair = o.pair (files_of c.begin.new.disk.disk) role in
    let knows : KnowsOurs role p = subst (λ f. KnowsOurs role (o.pair f role)) (sym c.begin.ensures.files)
    c.ask-in-Recovery.ensures.known in
    λ u h. knows u (c.known_objects.ensures.same p (o.pair (files_of c.recover.new.disk.disk) role) c.recover.ensures.pair u h)

pub returns-in_ok-_store-in-Recovery-clause-known : goal.returns-in_ok-_store-in-Recovery-clause-known
returns-in_ok-_store-in-Recovery-clause-known g c =
    let o = g.S.ObjectStore in
    let role = c.args.case.now.role in
    let p : Pair = o.pair (files_of c.begin.new.disk.disk) role in
    let knows : KnowsOurs role p = subst (λ f. KnowsOurs role (o.pair f role)) (sym c.begin.ensures.files)
    c.ask-in-Recovery.ensures.known in
    λ u h. knows u (c.known_objects.ensures.same p (o.pair (files_of c.recover.new.disk.disk) role) c.recover.ensures.pair u h)
