use Rattle.std.proofs.Common.{◌∙◌, ℕ, Option, ap, sym, subst}
use Rattle.arj_lock.specs.Index.{IsIndex, lock_at}
use Rattle.arj_lock.specs.declared.lock.Lock.{Lock}
use Rattle.arj_lock.proofs.grants.Grants.set.Goals as goal

pub invariant_of-self : goal.invariant_of-self
invariant_of-self c =
    let at : ℕ → Option Lock = λ n. lock_at n c.self.inside.locks.entries in
    record {
      sorted = c.replace.ensures.sorted;
      indexed =
          subst (λ (f : ℕ →
          Option Lock). IsIndex f c.exchanged-self-inside.result c.exchanged-self-inside.new.index) (λ i m. sym (c.replace.ensures.at m) i)
          (c.exchanged-self-inside.ensures at (ap (lock_at c.args.grant) c.self.view_is ∙ c.requires) c.self.invariant.indexed);
    }
