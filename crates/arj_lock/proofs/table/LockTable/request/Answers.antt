use Rattle.std.proofs.Common.{sym}
use Rattle.arj_base.specs.Path.{uids_of}
use Rattle.arj_base.specs.Rows.{first_conflict}
use Rattle.arj_lock.proofs.Clear.{no_conflict}
use Rattle.arj_lock.proofs.table.LockTable.request.Goals as goal

pub grant-requires : goal.grant-requires
grant-requires c = record { free = no_conflict (first_conflict (uids_of c.args.path.now) c.args.object c.args.mode c.args.self.now) (sym c.in-None.ensures.first) }
