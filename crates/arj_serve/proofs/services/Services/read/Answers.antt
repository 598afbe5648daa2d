use Rattle.std.proofs.Common.{◌∙◌, ap}
use Rattle.std.proofs.lemmas.Result.{IfOk-weaker}
use Rattle.arj_protocol.specs.Effect.{Disk}
use Rattle.arj_serve.specs.Kept.{Kept, StandsOn}
use Rattle.arj_law_store.specs.store.Reads.{ReadsAs}
use Rattle.arj_serve.proofs.Looked.{on_err, store_holder, store_reads}
use Rattle.arj_store.specs.Pair.{Reads}
use Rattle.arj_serve.proofs.services.Services.read.Goals as goal

pub returns-in-Some-clause-answer : goal.returns-in-Some-clause-answer
returns-in-Some-clause-answer g c = λ d stands.
    store_holder g.O.ObjectStore g.met.O.ObjectStore.sound c.args.self.now (g.D.Disk.file c.args.disk.now) d stands c.self.inside.store (ap (λ (k : Kept g.row.O.Denot). k.store) c.self.view_is) c.args.uid c.holder.result c.holder.ensures
    ∙ c.in-Some.is

pub returns-in-None-clause-answer : goal.returns-in-None-clause-answer
returns-in-None-clause-answer g c =
    let file = g.D.Disk.file c.args.disk.now in
    IfOk-weaker c.read_committed.result (λ a. Reads (g.O.ObjectStore.pair file (g.O.ObjectStore.own_role c.self.inside.store)) c.args.uid a)
    (λ a. (d : Disk) → StandsOn g.O.ObjectStore c.args.self.now file d → ReadsAs d.store c.args.uid a)
    (λ a is d stands. store_reads g.O.ObjectStore g.met.O.ObjectStore.sound c.args.self.now file d stands c.self.inside.store (ap (λ (k : Kept g.row.O.Denot). k.store) c.self.view_is) c.args.uid a is) c.read_committed.ensures.answer

pub returns-in-None-clause-free : goal.returns-in-None-clause-free
returns-in-None-clause-free g c =
    on_err c.read_committed.result (λ d stands.
    store_holder g.O.ObjectStore g.met.O.ObjectStore.sound c.args.self.now (g.D.Disk.file c.args.disk.now) d stands c.self.inside.store (ap (λ (k : Kept g.row.O.Denot). k.store) c.self.view_is) c.args.uid c.holder.result c.holder.ensures
    ∙ c.in-None.is)
