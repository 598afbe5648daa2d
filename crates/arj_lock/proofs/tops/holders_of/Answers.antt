use Rattle.std.proofs.Common.{◌∙◌, ◌&&◌, ◌||◌, ℕ, Some, ap, sym}
use Rattle.std.proofs.Math.Bool.{or-false}
use Rattle.std.specs.BTreeSet.{contains}
use Rattle.std.specs.List.{list_any}
use Rattle.arj_base.specs.declared.uid.Uid.{Uid}
use Rattle.arj_lock.specs.Groups.{is_after}
use Rattle.arj_lock.specs.Held.{set_order}
use Rattle.arj_lock.specs.Locks.{shown}
use Rattle.arj_lock.specs.declared.group.Group.TheVariants.{Below}
use Rattle.arj_lock.specs.declared.lock.Lock.{Lock}
use Rattle.arj_lock.proofs.Entries.{none_passes}
use Rattle.arj_lock.proofs.Holders.{below_any, holder_only, is_holder, is_same, one_more}
use Rattle.arj_lock.proofs.Nexts.{any_step, fewer_after, found_in, stop}
use Rattle.arj_lock.proofs.tops.holders_of.Goals as goal

pub loop-grant-smaller : goal.loop-grant-smaller
loop-grant-smaller c =
    let x : ℕ × Lock = (c.in-Some.grant, c.in-Some.lock.now) in
    fewer_after c.loop-grant.after x.0 (found_in (Below c.args.action) c.loop-grant.after c.args.grants.now x c.in-Some.ensures.sorted c.in-Some.ensures.first).0 c.args.grants.now x.1 c.in-Some.ensures.at

pub loop-grant-preserved : goal.loop-grant-preserved
loop-grant-preserved c =
    let x : ℕ × Lock = (c.in-Some.grant, c.in-Some.lock.now) in
    let es = c.args.grants.now in
    let old = c.loop-grant.holders in
    let group = Below c.args.action in
    let on = (found_in group c.loop-grant.after es x c.in-Some.ensures.sorted c.in-Some.ensures.first).1 in
    record {
      members = λ u.
          one_more c.last.result old c.insert.new.self c.in_ok-insert.ensures.updates.0 u (list_any (λ (e : ℕ × Lock). is_after (Some x.0) e.0 && is_holder c.args.action u (shown e.1)) es)
          (list_any (λ (e : ℕ × Lock). is_holder c.args.action u (shown e.1)) es)
          ((λ i. contains set_order old u || ((sym on i && is_same u (c.last.ensures i)) || list_any (λ (e : ℕ × Lock). is_after (Some x.0) e.0 && is_holder c.args.action u (shown e.1)) es))
          ∙ ap (λ b. contains set_order old u || b) (sym (any_step group (is_holder c.args.action u) (holder_only c.args.action u) c.loop-grant.after es x c.in-Some.ensures.sorted c.in-Some.ensures.first))
          ∙ c.loop-grant.invariant.members u);
      ordered = c.insert.ensures.ordered;
    }

pub returns : goal.returns
returns c =
    let es = c.args.grants.now in
    let done = λ (u : Uid).
    none_passes (λ (e : ℕ × Lock). is_after c.loop-grant.after e.0 && is_holder c.args.action u (shown e.1)) es (stop (Below c.args.action) (is_holder c.args.action u) (holder_only c.args.action u) c.loop-grant.after es c.in_default.ensures.first) in (
      λ u.
          sym (or-false (contains set_order c.loop-grant.holders u)) ∙ ap (λ b. contains set_order c.loop-grant.holders u || b) (sym (done u)) ∙ c.loop-grant.invariant.members u ∙ below_any c.args.action u es,
      c.loop-grant.invariant.ordered,
    )
