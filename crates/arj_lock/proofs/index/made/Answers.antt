use Rattle.std.proofs.Common.{◌∙◌, ◌||◌, ℕ, List, subst, sym}
use Rattle.std.proofs.lemmas.Map.Keys.{sorted_tail}
use Rattle.std.specs.Map.{keys_of}
use Rattle.std.specs.Ordering.{nat_cmp}
use Rattle.arj_lock.specs.Index.{has_lock, lock_at, stands}
use Rattle.arj_lock.specs.declared.lock.Lock.{Lock}
use Rattle.arj_lock.proofs.Entries.{Rises, one_indexed}
use Rattle.arj_lock.proofs.index.made.Goals as goal

pub loop-grant-preserved : goal.loop-grant-preserved
loop-grant-preserved c =
    let e : ℕ × Lock = (c.in-Some.grant.now, c.in-Some.lock.now) in
    let rest : List (ℕ × Lock) = c.next.new.self in
    let steps = c.in-Some.ensures.steps in
    let rises = subst Rises steps c.loop-grant.invariant.sorted in
    record {
      members = λ g n.
          one_indexed e rest rises c.loop-grant.index c.join.new.index c.in-Ok.ensures g n (has_lock g (lock_at n c.args.locks.now.entries))
          ((λ i. stands c.loop-grant.index g n || has_lock g (lock_at n (sym steps i))) ∙ c.loop-grant.invariant.members g n);
      sorted = sorted_tail nat_cmp e.0 (keys_of rest) rises;
    }
