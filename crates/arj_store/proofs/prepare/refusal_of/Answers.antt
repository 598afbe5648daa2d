use Rattle.std.proofs.Common.{sym, subst}
use Rattle.std.specs.Prelude.{MatchOption}
use Rattle.arj_store.specs.OfFiles.{IsClear, Refuses}
use Rattle.arj_store.specs.Table.{at}
use Rattle.arj_store.proofs.Refusals.{by_holder, follows_none, follows_held, by_held}
use Rattle.arj_store.proofs.Keeping.{holder_named}
use Rattle.arj_store.proofs.prepare.refusal_of.Goals as goal

-- nothing is committed
pub returns-in_default-clause-answer : goal.returns-in_default-clause-answer
returns-in_default-clause-answer g c =
    let none = rw c.in_default.is at c.in_ok-held.ensures.state in
    let named = holder_named c.args.role (at c.args.pending.now.actions) (at c.args.pending.now.holdings) (g.D.Disk.file c.args.disk.now) c.requires.keeps c.args.state.now.uid in
    subst (λ o. MatchOption o (IsClear (g.D.Disk.file c.args.disk.now) c.args.role c.args.act c.args.state.now) (Refuses (g.D.Disk.file c.args.disk.now) c.args.role c.args.act c.args.state.now)) (sym c.in_doubt.ensures)
    (by_holder (g.D.Disk.file c.args.disk.now) c.args.role c.args.act c.args.state.now (at c.args.pending.now.holdings c.args.state.now.uid) named
    (follows_none (g.D.Disk.file c.args.disk.now) c.args.role c.args.act c.args.state.now c.requires.own none))

-- the committed state refuses it
pub returns-in-Some-2-clause-answer : goal.returns-in-Some-2-clause-answer
returns-in-Some-2-clause-answer g c =
    let state = rw c.in-Some.is at c.in_ok-held.ensures.state in
    let only = rw c.in-Some.is at c.in_ok-held.ensures.only in
    by_held (g.D.Disk.file c.args.disk.now) c.args.role c.args.act c.args.state.now c.requires.own c.in-Some.held state only c.in-Some-2.refusal (rw c.in-Some-2.is at c.in_ok-refusal.ensures)

-- it allows it
pub returns-clause-answer : goal.returns-clause-answer
returns-clause-answer g c =
    let state = rw c.in-Some.is at c.in_ok-held.ensures.state in
    let only = rw c.in-Some.is at c.in_ok-held.ensures.only in
    let allows = rw c.in-None.is at c.in_ok-refusal.ensures in
    let named = holder_named c.args.role (at c.args.pending.now.actions) (at c.args.pending.now.holdings) (g.D.Disk.file c.args.disk.now) c.requires.keeps c.args.state.now.uid in
    subst (λ o. MatchOption o (IsClear (g.D.Disk.file c.args.disk.now) c.args.role c.args.act c.args.state.now) (Refuses (g.D.Disk.file c.args.disk.now) c.args.role c.args.act c.args.state.now)) (sym c.in_doubt-in-None.ensures)
    (by_holder (g.D.Disk.file c.args.disk.now) c.args.role c.args.act c.args.state.now (at c.args.pending.now.holdings c.args.state.now.uid) named
    (follows_held (g.D.Disk.file c.args.disk.now) c.args.role c.args.act c.args.state.now c.requires.own c.in-Some.held state only allows))
