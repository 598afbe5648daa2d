use Rattle.std.proofs.Common.{◌≡◌, ◌∙◌, ℕ, true, false, ap, sym}
use Rattle.std.specs.Option.{option_map}
use Rattle.arj_base.specs.Rows.{is_on}
use Rattle.arj_lock.specs.Held.{is_top_of}
use Rattle.arj_lock.specs.Locks.{rows_in, shown}
use Rattle.arj_lock.specs.declared.group.Group.TheVariants.{Below}
use Rattle.arj_lock.specs.declared.lock.Lock.{Lock}
use Rattle.arj_lock.proofs.Entries.{find_row, none_passes, one_passes}
use Rattle.arj_lock.proofs.Nexts.{fewer_after, found_in, hit, skip, stop, top_only}
use Rattle.arj_lock.proofs.tops.is_any_top.Goals as goal

pub returns-then-is_ancestor_or_self : goal.returns-then-is_ancestor_or_self
returns-then-is_ancestor_or_self c =
    let x : ℕ × Lock = (c.in-Some.grant, c.in-Some.lock.now) in
    let es = c.args.grants.now in
    let passes : is_top_of c.args.action (shown x.1) ≡ true =
    ap (λ us. is_on us c.args.action) (sym c.top_path.ensures.uids) ∙ sym c.if-is_ancestor_or_self.ensures in
    sym (one_passes (is_top_of c.args.action) (rows_in es) (shown x.1) (find_row (is_top_of c.args.action) es
    ∙ ap (option_map (λ (e : ℕ × Lock). shown e.1)) (sym c.loop-grant.invariant
    ∙ hit (Below c.args.action) (is_top_of c.args.action) (top_only c.args.action) c.loop-grant.after es x c.in-Some.ensures.first passes)))

pub loop-grant-smaller : goal.loop-grant-smaller
loop-grant-smaller c =
    let x : ℕ × Lock = (c.in-Some.grant, c.in-Some.lock.now) in
    fewer_after c.loop-grant.after x.0 (found_in (Below c.args.action) c.loop-grant.after c.args.grants.now x c.in-Some.ensures.sorted c.in-Some.ensures.first).0 c.args.grants.now x.1 c.in-Some.ensures.at

pub loop-grant-preserved : goal.loop-grant-preserved
loop-grant-preserved c =
    let x : ℕ × Lock = (c.in-Some.grant, c.in-Some.lock.now) in
    let fails : is_top_of c.args.action (shown x.1) ≡ false =
    ap (λ us. is_on us c.args.action) (sym c.top_path.ensures.uids) ∙ sym c.if-is_ancestor_or_self.ensures in
    skip (Below c.args.action) (is_top_of c.args.action) (top_only c.args.action) c.loop-grant.after c.args.grants.now x c.in-Some.ensures.sorted c.in-Some.ensures.first fails ∙ c.loop-grant.invariant

pub returns : goal.returns
returns c =
    sym (none_passes (is_top_of c.args.action) (rows_in c.args.grants.now) (find_row (is_top_of c.args.action) c.args.grants.now
    ∙ ap (option_map (λ (e : ℕ × Lock). shown e.1)) (sym c.loop-grant.invariant
    ∙ stop (Below c.args.action) (is_top_of c.args.action) (top_only c.args.action) c.loop-grant.after c.args.grants.now c.in_default.ensures.first)))
