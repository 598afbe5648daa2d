use Rattle.std.proofs.Common.{ap, sym, ◌∙◌}
use Rattle.arj_base.specs.declared.uid.Uid.{Uid}
use Rattle.arj_base.specs.Path.{uids_of, tops_of}
use Rattle.arj_base.specs.Rows.{grant_row, last_uid, mode_of}
use Rattle.arj_base.specs.Uid.{object}
use Rattle.arj_lock.specs.Requests.{asked, is_rise}
use Rattle.arj_protocol.specs.Copy.{row_for}
use Rattle.arj_manager.specs.Ran.{grant_said}
use Rattle.arj_manager.proofs.Grants.{asked_rows, asked_lines}
use Rattle.arj_manager.proofs.object.grant.Goals as goal

pub returns-clause-rows : goal.returns-clause-rows
returns-clause-rows c =
    c.in_ok-rose.ensures.granted ∙ (ap (λ (u : Uid). grant_row (asked c.args.path.now u c.args.mode) c.args.locks.now) c.object_uid.ensures
    ∙ asked_rows (row_for (object c.args.x) (uids_of c.args.path.now) (tops_of c.args.path.now) c.args.mode) c.args.locks.now c.requires.one_each)

pub returns-clause-lines : goal.returns-clause-lines
returns-clause-lines c =
    λ n.
    asked_lines n (row_for (object c.args.x) (uids_of c.args.path.now) (tops_of c.args.path.now) c.args.mode) c.args.locks.now c.in_ok-rose.rose c.requires.one_each
    (c.in_ok-rose.ensures.rose ∙ ap (λ (u : Uid). is_rise (mode_of u (last_uid (uids_of c.args.path.now)) c.args.locks.now) c.args.mode) c.object_uid.ensures)
    ∙ ap (grant_said n (last_uid (uids_of c.args.path.now)) (object c.args.x)) (sym c.then_some.ensures)
