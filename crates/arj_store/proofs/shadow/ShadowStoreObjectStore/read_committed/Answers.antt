use Rattle.std.proofs.Common.{◌≡◌, ◌∙◌, sym, ap, rules}
use Rattle.std.specs.Prelude.{option_copied, None}
use Rattle.arj_disk.specs.Says.{role_of}
use Rattle.arj_store.specs.Table.{at}
use Rattle.arj_store.proofs.Readings.{named_holder, not_in_doubt, is_held}
use Rattle.arj_store.proofs.shadow.ShadowStoreObjectStore.read_committed.Goals as goal

pub returns-in-Some-clause-answer : goal.returns-in-Some-clause-answer
returns-in-Some-clause-answer g c =
    named_holder c.args.self.now.role (at c.args.self.now.pending.actions) (at c.args.self.now.pending.holdings) (g.D.Disk.file c.args.disk.now) c.requires.keeps c.args.uid c.in-Some.holding.now (sym c.get.ensures ∙ ap option_copied c.in-Some.is)

pub returns-in-Some-2-clause-answer : goal.returns-in-Some-2-clause-answer
returns-in-Some-2-clause-answer g c =
    let own : role_of c.args.uid ≡ c.args.self.now.role = search rules in
    let none : at c.args.self.now.pending.holdings c.args.uid ≡ None = search rules in
    let state = rw c.in-Some-2.is at c.in_ok-state.ensures.state in
    (not_in_doubt c.args.self.now.role (at c.args.self.now.pending.actions) (at c.args.self.now.pending.holdings) (g.D.Disk.file c.args.disk.now) c.requires.keeps c.args.uid none, is_held (g.D.Disk.file c.args.disk.now) c.args.self.now.role c.args.uid c.in-Some-2.state own state)
