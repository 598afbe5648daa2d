use Rattle.std.proofs.Common.{◌≡◌, ◌∙◌, ap, sym, subst}
use Rattle.std.specs.Prelude.{MatchOption}
use Rattle.arj_base.specs.Uid.{entry}
use Rattle.arj_disk.specs.Says.{names}
use Rattle.arj_disk.specs.declared.slot.Role.TheVariants.{Names}
use Rattle.arj_naming.specs.Kept.{Kept}
use Rattle.arj_store.specs.Pair as files
use Rattle.arj_law_store.proofs.store.Lookups.{holder_as}
use Rattle.arj_naming.proofs.naming.Naming.holder.Goals as goal

pub returns : goal.returns
returns g c = λ file stands.
    let o = g.O.ObjectStore in
    let store_is : c.self.inside.store ≡ c.args.self.now.store = ap (λ (k : Kept g.row.O.Denot). k.store) c.self.view_is in
    let at = c.holder.ensures file (subst (λ s. o.keeps s file) (sym store_is) stands.keeps) in
    sym (holder_as (o.pair file Names) c.args.self.now.pair stands.pair (g.met.O.ObjectStore.sound Names file stands.formed).once (entry c.args.x) c.holder.result
    (subst (λ u. MatchOption c.holder.result (files.InDoubt (o.pair file Names) u →
    ⊥) (λ act. names ((o.pair file Names).pend act) u)) c.entry_uid.ensures
    (subst (λ r. MatchOption c.holder.result (files.InDoubt (o.pair file r) c.entry_uid.result →
    ⊥) (λ act. names ((o.pair file r).pend act) c.entry_uid.result)) (ap o.own_role store_is ∙ stands.role_is) at)))
