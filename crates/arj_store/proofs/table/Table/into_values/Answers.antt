use Rattle.std.proofs.Common.{◌≡◌, ◌∙◌, rules, ap, map, Some}
use Rattle.std.specs.BTreeMap.{keys, values}
use Rattle.std.proofs.lemmas.Map.Views.{btree_map_contains_key_iff, All-found}
use Rattle.arj_base.specs.contracts.uid.UidOrd.TheImpl.Laws.{total-law}
use Rattle.arj_store.specs.Table.{at}
use Rattle.arj_store.proofs.Uids.{order_exact, values_under}
use Rattle.arj_store.proofs.table.Table.into_values.Goals as goal

pub returns : goal.returns
returns g c =
    let ordered = c.into_iter-entry-iterator.ensures.into_iter_gives.5 in
    let all : values c.args.self.map ≡ c.loop-entry.values = search rules in
    record {
      uids = keys c.args.self.map;
      increasing = ordered;
      there = λ q. btree_map_contains_key_iff total-law order_exact c.args.self.map q;
      each = values_under (at c.args.self) c.args.self.map.entries (All-found total-law c.args.self.map ordered) ∙ ap (map Some) all;
    }
