use Rattle.std.proofs.Common.{◌∙◌, ℕ, Some, true, false, ap, sym}
use Rattle.std.specs.Option.{option_map}
use Rattle.arj_base.specs.Path.{uids_of}
use Rattle.arj_base.specs.Rows.{is_against, is_on}
use Rattle.arj_lock.specs.Locks.{shown}
use Rattle.arj_lock.specs.declared.group.Group.TheVariants.{Against}
use Rattle.arj_lock.specs.declared.lock.Lock.{Lock}
use Rattle.arj_lock.proofs.Clear.{named}
use Rattle.arj_lock.proofs.Entries.{find_row}
use Rattle.arj_lock.proofs.Nexts.{against_on, against_only, fewer_after, found_in, hit, skip, stop}
use Rattle.arj_lock.proofs.tops.first_against.Goals as goal

pub returns-then-not-is_ancestor_or_self : goal.returns-then-not-is_ancestor_or_self
returns-then-not-is_ancestor_or_self c =
    let path = uids_of c.args.path.now in
    let group = Against c.args.object c.args.mode in
    let x : ℕ × Lock = (c.in-Some.grant, c.in-Some.lock.now) in
    let es = c.args.grants.now in
    let off = ap (is_on path) (sym c.last-holder.ensures) ∙ sym c.if-not-is_ancestor_or_self.ensures in
    let passes = against_on path c.args.object c.args.mode (shown x.1) false off (found_in group c.loop-grant.after es x c.in-Some.ensures.sorted c.in-Some.ensures.first).1 in
    (λ i. Some (c.last-holder.ensures i, x.1.mode))
    ∙ ap (option_map named) (sym (find_row (is_against path c.args.object c.args.mode) es
    ∙ ap (option_map (λ (e : ℕ × Lock). shown e.1)) (sym c.loop-grant.invariant
    ∙ hit group (is_against path c.args.object c.args.mode) (against_only path c.args.object c.args.mode) c.loop-grant.after es x c.in-Some.ensures.first passes)))

pub loop-grant-smaller : goal.loop-grant-smaller
loop-grant-smaller c =
    let x : ℕ × Lock = (c.in-Some.grant, c.in-Some.lock.now) in
    fewer_after c.loop-grant.after x.0 (found_in (Against c.args.object c.args.mode) c.loop-grant.after c.args.grants.now x c.in-Some.ensures.sorted c.in-Some.ensures.first).0 c.args.grants.now x.1 c.in-Some.ensures.at

pub loop-grant-preserved : goal.loop-grant-preserved
loop-grant-preserved c =
    let path = uids_of c.args.path.now in
    let group = Against c.args.object c.args.mode in
    let x : ℕ × Lock = (c.in-Some.grant, c.in-Some.lock.now) in
    let es = c.args.grants.now in
    let on = ap (is_on path) (sym c.last-holder.ensures) ∙ sym c.if-not-is_ancestor_or_self.ensures in
    let fails = against_on path c.args.object c.args.mode (shown x.1) true on (found_in group c.loop-grant.after es x c.in-Some.ensures.sorted c.in-Some.ensures.first).1 in
    skip group (is_against path c.args.object c.args.mode) (against_only path c.args.object c.args.mode) c.loop-grant.after es x c.in-Some.ensures.sorted c.in-Some.ensures.first fails ∙ c.loop-grant.invariant

pub returns : goal.returns
returns c =
    let path = uids_of c.args.path.now in
    ap (option_map named) (sym (find_row (is_against path c.args.object c.args.mode) c.args.grants.now
    ∙ ap (option_map (λ (e : ℕ × Lock). shown e.1)) (sym c.loop-grant.invariant
    ∙ stop (Against c.args.object c.args.mode) (is_against path c.args.object c.args.mode) (against_only path c.args.object c.args.mode) c.loop-grant.after c.args.grants.now c.in_default.ensures.first)))
