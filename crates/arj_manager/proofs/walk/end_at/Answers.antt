use Rattle.std.proofs.Common.{◌≡◌, ap, sym, ◌∙◌, rules}
use Rattle.std.specs.BTreeMap.{is_at}
use Rattle.std.specs.Map.{set_value}
use Rattle.std.specs.Ordering.{nat_cmp}
use Rattle.arj_manager.proofs.Walks.{ended_none, set_ended}
use Rattle.arj_manager.proofs.walk.end_at.Goals as goal

pub returns-in-Some : goal.returns-in-Some
returns-in-Some c =
    (c.get_mut.follows.holds c.end.new.self).0
    ∙ (ap (set_value (is_at (nat_cmp c.args.x)) c.args.objects.now.entries) c.end.ensures
    ∙ set_ended c.args.action c.args.end c.args.x c.in-Some.object.now c.args.objects.now.entries c.get_mut.ensures.ordered (sym c.in-Some.ensures.value))

pub returns-in_default : goal.returns-in_default
returns-in_default c =
    let same : c.get_mut.follows.lender-at-none.entries ≡ c.args.objects.now.entries = search rules in
    same ∙ ended_none c.args.action c.args.end c.args.x c.args.objects.now.entries (sym c.in_default.ensures.value)
