use Rattle.std.proofs.Common.{◌∙◌, ℕ, Option, ap, sym, subst}
use Rattle.arj_lock.specs.Index.{IsIndex, lock_at}
use Rattle.arj_lock.specs.declared.lock.Lock.{Lock}
use Rattle.arj_lock.proofs.Indexing.{left_index}
use Rattle.arj_lock.proofs.grants.Grants.remove.Goals as goal

pub invariant_of-self : goal.invariant_of-self
invariant_of-self c =
    let at : ℕ → Option Lock = λ n. lock_at n c.self.inside.locks.entries in
    let whole = c.self.inside.whole in
    record {
      sorted = c.remove.ensures.ordered;
      indexed =
          subst (λ (f : ℕ → Option Lock). IsIndex f whole c.leave.new.index) (λ i n. sym (c.remove.ensures.updates.0 n) i)
          (left_index c.args.grant c.args.old.now c.self.inside.index c.leave.new.index c.leave.ensures at (ap (lock_at c.args.grant) c.self.view_is ∙ c.requires) whole c.self.invariant.indexed);
    }
