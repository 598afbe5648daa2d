use Rattle.std.proofs.Common.{◌∙◌, ◌++◌, ◌∷◌, [], ap}
use Rattle.arj_lock.specs.Index.{lock_at}
use Rattle.arj_lock.specs.Locks.{rows_in, shown}
use Rattle.arj_lock.proofs.Entries.{none_above, pushed, rows_append}
use Rattle.arj_lock.proofs.grants.Grants.push.Goals as goal

pub invariant_of-self-2 : goal.invariant_of-self-2
invariant_of-self-2 c =
    let old = c.self.inside.locks.entries in
    record {
      sorted = c.insert.ensures.ordered;
      indexed = c.renewed-self-inside.ensures (λ n. lock_at n old) (none_above c.in-Some.grant c.args.lock old c.in-Some.ensures) c.self.invariant.indexed c.in_ok-insert.ensures.updates.0;
    }

pub returns-clause-ok : goal.returns-clause-ok
returns-clause-ok c =
    let old = c.self.inside.locks.entries in
    ap rows_in (c.in_ok-insert.ensures.entries ∙ pushed c.in-Some.grant c.args.lock old c.in-Some.ensures) ∙ rows_append old c.in-Some.grant c.args.lock
    ∙ ap (λ es. rows_in es ++ shown c.args.lock ∷ []) c.self.view_is
