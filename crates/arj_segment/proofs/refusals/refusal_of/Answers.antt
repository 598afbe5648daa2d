use Rattle.std.proofs.Common.{sym, subst, Some, None}
use Rattle.std.specs.Prelude.{MatchOption}
use Rattle.arj_store.specs.Pair.{IsClear, Packs, Refuses}
use Rattle.arj_store.specs.Table.{at}
use Rattle.arj_segment.specs.Says.{held, pair_of}
use Rattle.arj_segment.specs.Stays.{files_sound}
use Rattle.arj_segment.proofs.Refused.{by_held, by_holder, follows_held, follows_none, read_none, read_some}
use Rattle.arj_segment.proofs.refusals.refusal_of.Goals as goal

-- nothing is committed
pub returns-in_default-clause-answer : goal.returns-in_default-clause-answer
returns-in_default-clause-answer g c =
    let packs : Packs (held (g.D.Disk.file c.args.disk.now) c.args.role c.args.state.now.uid) None =
    rw c.in_default.is at c.in_ok-held.ensures.state in
    let none = read_none c.args.role (pair_of (g.D.Disk.file c.args.disk.now) c.args.role) (files_sound c.args.role (g.D.Disk.file c.args.disk.now) c.requires.formed) c.args.state.now.uid packs in
    subst (λ o. MatchOption o (IsClear (pair_of (g.D.Disk.file c.args.disk.now) c.args.role) c.args.act c.args.state.now) (Refuses (pair_of (g.D.Disk.file c.args.disk.now) c.args.role) c.args.act c.args.state.now)) (sym c.in_doubt.ensures)
    (by_holder (pair_of (g.D.Disk.file c.args.disk.now) c.args.role) c.args.act c.args.state.now (at c.args.kept.now.holdings c.args.state.now.uid) (c.requires.keeps.pending.holders_are c.args.state.now.uid) (follows_none (pair_of (g.D.Disk.file c.args.disk.now) c.args.role) c.args.act c.args.state.now none))

-- the committed state refuses it
pub returns-in-Some-2-clause-answer : goal.returns-in-Some-2-clause-answer
returns-in-Some-2-clause-answer g c =
    let packs : Packs (held (g.D.Disk.file c.args.disk.now) c.args.role c.args.state.now.uid) (Some c.in-Some.held) =
    rw c.in-Some.is at c.in_ok-held.ensures.state in
    let is = read_some c.args.role (pair_of (g.D.Disk.file c.args.disk.now) c.args.role) (files_sound c.args.role (g.D.Disk.file c.args.disk.now) c.requires.formed) c.args.state.now.uid c.in-Some.held packs in
    by_held (pair_of (g.D.Disk.file c.args.disk.now) c.args.role) c.args.act c.args.state.now c.in-Some.held is c.in-Some-2.refusal (rw c.in-Some-2.is at c.in_ok-refusal.ensures)

-- it allows it
pub returns-clause-answer : goal.returns-clause-answer
returns-clause-answer g c =
    let packs : Packs (held (g.D.Disk.file c.args.disk.now) c.args.role c.args.state.now.uid) (Some c.in-Some.held) =
    rw c.in-Some.is at c.in_ok-held.ensures.state in
    let is = read_some c.args.role (pair_of (g.D.Disk.file c.args.disk.now) c.args.role) (files_sound c.args.role (g.D.Disk.file c.args.disk.now) c.requires.formed) c.args.state.now.uid c.in-Some.held packs in
    let allows = rw c.in-None.is at c.in_ok-refusal.ensures in
    subst (λ o. MatchOption o (IsClear (pair_of (g.D.Disk.file c.args.disk.now) c.args.role) c.args.act c.args.state.now) (Refuses (pair_of (g.D.Disk.file c.args.disk.now) c.args.role) c.args.act c.args.state.now)) (sym c.in_doubt-in-None.ensures)
    (by_holder (pair_of (g.D.Disk.file c.args.disk.now) c.args.role) c.args.act c.args.state.now (at c.args.kept.now.holdings c.args.state.now.uid) (c.requires.keeps.pending.holders_are c.args.state.now.uid) (follows_held (pair_of (g.D.Disk.file c.args.disk.now) c.args.role) c.args.act c.args.state.now c.in-Some.held is allows))
