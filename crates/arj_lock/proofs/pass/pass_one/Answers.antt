use Rattle.std.proofs.Common.{◌∙◌, Some, ap, map, sym, subst}
use Rattle.arj_lock.specs.Exclusion.{IsOneEach}
use Rattle.arj_lock.specs.Locks.{rows_in}
use Rattle.arj_lock.specs.Passing.{PassesOne, raised}
use Rattle.arj_lock.proofs.Steps.{left_one, lock_gone, lock_merged, lock_renamed}
use Rattle.arj_lock.proofs.pass.pass_one.Goals as goal

pub returns-in_default : goal.returns-in_default
returns-in_default c =
    subst (λ es. PassesOne c.args.action (rows_in c.args.grants.now) (rows_in es)) (sym c.remove.ensures)
    (lock_gone c.args.action c.args.grant c.args.lock.now c.args.grants.now c.requires.at c.requires.own c.requires.one_each c.in_default.ensures)

pub raise-requires : goal.raise-requires
raise-requires c =
    subst (λ es. IsOneEach (rows_in es)) (sym c.remove-then-has.ensures) (left_one c.args.action c.args.grant c.args.lock.now c.args.grants.now c.requires.at c.requires.own c.requires.one_each)

pub returns-then-has : goal.returns-then-has
returns-then-has c =
    let heir = c.last-heir.result in
    subst (PassesOne c.args.action (rows_in c.args.grants.now)) (sym (c.raise.ensures.rows ∙ ap (λ es. map (raised c.args.lock.now.object heir c.args.lock.now.mode) (rows_in es)) c.remove-then-has.ensures))
    (lock_merged c.args.action c.args.grant c.args.lock.now c.args.grants.now c.requires.at c.requires.own c.requires.one_each heir (c.in-Some.ensures.1 ∙ ap Some (sym c.last-heir.ensures)) (sym c.if-has.ensures))

pub returns-else-has : goal.returns-else-has
returns-else-has c =
    let heir = c.last-heir.result in
    subst (λ es. PassesOne c.args.action (rows_in c.args.grants.now) (rows_in es)) (sym c.set.ensures)
    (lock_renamed c.args.action c.args.grant c.args.lock.now c.args.grants.now c.requires.at c.requires.own c.requires.one_each heir (c.in-Some.ensures.1 ∙ ap Some (sym c.last-heir.ensures)) c.in-Some.up c.in-Some.ensures.0 (sym c.if-has.ensures))
