use Rattle.std.proofs.Common.{◌∙◌, ◌≤◌, ◌+◌, ◌++◌, ◌∷◌, [], sym, subst}
use Rattle.arj_disk.specs.Says.{inc}
use Rattle.arj_protocol.specs.Effect.{PutInc}
use Rattle.arj_protocol.specs.Words.body
use Rattle.arj_recover.proofs.Raised.{cut_raised, cut_up, formed_raised, rises, worked_on, worked_raised}
use Rattle.arj_recover.proofs.beginning.restart.Goals as goal

pub returns-in_err-inc-clause-stopped : goal.returns-in_err-inc-clause-stopped
returns-in_err-inc-clause-stopped g c =
    λ _. cut_raised g.O.ObjectStore g.met.O.ObjectStore.stays (g.D.Disk.file c.args.disk.now) (g.D.Disk.file c.raise.new.disk) c.requires.formed c.args.node c.args.out.now c.raise.ensures.files

pub returns-in_err-inc-clause-formed : goal.returns-in_err-inc-clause-formed
returns-in_err-inc-clause-formed g c =
    formed_raised g.O.ObjectStore g.met.O.ObjectStore.stays (g.D.Disk.file c.args.disk.now) (g.D.Disk.file c.raise.new.disk) c.requires.formed c.raise.ensures.files

pub returns-in_err-inc-clause-rises : goal.returns-in_err-inc-clause-rises
returns-in_err-inc-clause-rises g c = rises (g.D.Disk.file c.args.disk.now) (g.D.Disk.file c.raise.new.disk) c.raise.ensures.files

pub returns-in_err-push-clause-formed : goal.returns-in_err-push-clause-formed
returns-in_err-push-clause-formed g c =
    formed_raised g.O.ObjectStore g.met.O.ObjectStore.stays (g.D.Disk.file c.args.disk.now) (g.D.Disk.file c.raise.new.disk) c.requires.formed c.raise.ensures.files

pub returns-in_err-push-clause-rises : goal.returns-in_err-push-clause-rises
returns-in_err-push-clause-rises g c = rises (g.D.Disk.file c.args.disk.now) (g.D.Disk.file c.raise.new.disk) c.raise.ensures.files

pub own_store-requires : goal.own_store-requires
own_store-requires g c =
    record {
      formed =
          formed_raised g.O.ObjectStore g.met.O.ObjectStore.stays (g.D.Disk.file c.args.disk.now) (g.D.Disk.file c.raise.new.disk) c.requires.formed c.raise.ensures.files;
    }

pub returns-in_err-store-clause-stopped : goal.returns-in_err-store-clause-stopped
returns-in_err-store-clause-stopped g c =
    λ _. cut_up g.O.ObjectStore g.met.O.ObjectStore.stays (g.D.Disk.file c.args.disk.now) (g.D.Disk.file c.own_store.new.disk) c.requires.formed c.args.node (g.D.Disk.file c.raise.new.disk) c.args.out.now c.push.new.self
    (worked_raised g.O.ObjectStore g.met.O.ObjectStore.stays (g.D.Disk.file c.args.disk.now) (g.D.Disk.file c.raise.new.disk) c.requires.formed c.in_ok-inc.ensures.less c.in_ok-inc.ensures.ok) c.own_store.ensures.same
    (c.in_ok-push.ensures.ok ∙ (λ i. c.args.out.now ++ record { event = 0; body = body.Up c.args.node (c.in_ok-inc.ensures.inc i) } ∷ []))

pub returns-in_err-store-clause-rises : goal.returns-in_err-store-clause-rises
returns-in_err-store-clause-rises g c =
    subst (λ i. (inc (g.D.Disk.file c.args.disk.now) ≤ i) × (i ≤ inc (g.D.Disk.file c.args.disk.now) + 1)) (sym c.own_store.ensures.inc) (rises (g.D.Disk.file c.args.disk.now) (g.D.Disk.file c.raise.new.disk) c.raise.ensures.files)

pub returns-clause-work : goal.returns-clause-work
returns-clause-work g c =
    worked_on g.O.ObjectStore (PutInc (inc (g.D.Disk.file c.args.disk.now) + 1)) (g.D.Disk.file c.args.disk.now) (g.D.Disk.file c.raise.new.disk) (g.D.Disk.file c.own_store.new.disk)
    (worked_raised g.O.ObjectStore g.met.O.ObjectStore.stays (g.D.Disk.file c.args.disk.now) (g.D.Disk.file c.raise.new.disk) c.requires.formed c.in_ok-inc.ensures.less c.in_ok-inc.ensures.ok) c.own_store.ensures.same

pub returns-clause-rises : goal.returns-clause-rises
returns-clause-rises g c =
    subst (λ i. (inc (g.D.Disk.file c.args.disk.now) ≤ i) × (i ≤ inc (g.D.Disk.file c.args.disk.now) + 1)) (sym c.own_store.ensures.inc) (rises (g.D.Disk.file c.args.disk.now) (g.D.Disk.file c.raise.new.disk) c.raise.ensures.files)
