use Rattle.std.proofs.Common.{◌∙◌, ap, sym}
use Rattle.arj_base.specs.Path.{uids_of}
use Rattle.arj_lock.specs.Requests.{conflict_with}
use Rattle.arj_lock.proofs.Clear.{is_clear}
use Rattle.arj_lock.proofs.table.LockTable.conflict.Goals as goal

pub returns-clause-clear : goal.returns-clause-clear
returns-clause-clear c = λ none.
    is_clear (uids_of c.args.path.now) c.args.object c.args.mode c.args.self.now (ap (conflict_with (uids_of c.args.path.now) c.args.object c.args.mode) (sym c.self.view_is) ∙ sym c.first_against.ensures ∙ none)
