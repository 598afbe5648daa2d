use Rattle.std.proofs.Common.{ap, ◌∙◌}
use Rattle.arj_base.specs.declared.uid.Uid.{Uid}
use Rattle.arj_base.specs.Path.{uids_of, tops_of}
use Rattle.arj_base.specs.Rows.{grant_row, last_uid, mode_of}
use Rattle.arj_base.specs.Uid.{entry}
use Rattle.arj_lock.specs.Requests.{asked, is_rise}
use Rattle.arj_protocol.specs.Copy.{row_for}
use Rattle.arj_naming.proofs.Grants.{asked_rows, asked_lines}
use Rattle.arj_naming.proofs.locks.request.Goals as goal

pub returns-clause-rows : goal.returns-clause-rows
returns-clause-rows c =
    c.in_ok-rose.ensures.granted ∙ (ap (λ (u : Uid). grant_row (asked c.args.top.now u c.args.mode) c.args.locks.now) c.entry_uid.ensures
    ∙ asked_rows (row_for (entry c.args.x) (uids_of c.args.top.now) (tops_of c.args.top.now) c.args.mode) c.args.locks.now c.requires.one_each)

pub returns-clause-rose : goal.returns-clause-rose
returns-clause-rose c =
    asked_lines 1 (row_for (entry c.args.x) (uids_of c.args.top.now) (tops_of c.args.top.now) c.args.mode) c.args.locks.now c.in_ok-rose.rose c.requires.one_each
    (c.in_ok-rose.ensures.rose ∙ ap (λ (u : Uid). is_rise (mode_of u (last_uid (uids_of c.args.top.now)) c.args.locks.now) c.args.mode) c.entry_uid.ensures)
