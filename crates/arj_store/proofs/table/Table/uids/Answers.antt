use Rattle.std.proofs.Common.{◌≡◌, ◌↔◌, rules, subst}
use Rattle.std.specs.Prelude.{IsSome, Contains}
use Rattle.std.specs.BTreeMap.{keys}
use Rattle.std.specs.List.Sorted.{IsStrictlySortedBy}
use Rattle.std.proofs.lemmas.Map.Views.{btree_map_contains_key_iff}
use Rattle.arj_base.specs.contracts.uid.UidOrd.TheImpl.Laws.{total-law}
use Rattle.arj_store.specs.Pair.{uid_order}
use Rattle.arj_store.specs.Table.{at}
use Rattle.arj_store.proofs.Uids.{order_exact}
use Rattle.arj_store.proofs.table.Table.uids.Goals as goal

pub returns-clause-there : goal.returns-clause-there
returns-clause-there g c q =
    let all : keys c.args.self.now.map ≡ c.loop-uid.uids = search rules in
    subst (λ uids. IsSome (at c.args.self.now q) ↔ Contains uids q) all (btree_map_contains_key_iff total-law order_exact c.args.self.now.map q)

pub returns-clause-increasing : goal.returns-clause-increasing
returns-clause-increasing g c =
    let all : keys c.args.self.now.map ≡ c.loop-uid.uids = search rules in
    subst (IsStrictlySortedBy uid_order) all c.keys-uid-items.ensures.ordered
