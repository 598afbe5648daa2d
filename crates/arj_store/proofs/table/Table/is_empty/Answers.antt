use Rattle.std.proofs.Common.{ap, length}
use Rattle.arj_store.proofs.Uids.{no_entries, nothing_in_none}
use Rattle.arj_store.proofs.table.Table.is_empty.Goals as goal

-- where nothing is under any Uid there is no entry
pub returns : goal.returns
returns g c =
    (λ empty. nothing_in_none c.args.self.now.map.entries (c.is_empty.ensures.0 empty), λ none. c.is_empty.ensures.1 (ap length (no_entries c.args.self.now.map.entries none)))
