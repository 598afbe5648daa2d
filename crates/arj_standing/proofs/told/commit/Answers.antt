use Rattle.std.proofs.Common.{rules, ◌≡◌, ◌<◌, ◌∙◌, ◌++◌, [], sym, length, slice_index_or, cond, Some}
use Rattle.std.specs.List.{cons_option}
use Rattle.arj_base.specs.Rows.{passed}
use Rattle.arj_model.specs.Table.{is_in_part}
use Rattle.arj_standing.specs.Held.{rows_of}
use Rattle.arj_standing.proofs.Filters.{next_row}
use Rattle.arj_standing.proofs.told.commit.Goals as goal

pub loop-lock-preserved : goal.loop-lock-preserved
loop-lock-preserved c =
    let lt : c.loop-lock.lock-index < length c.args.locks.now = search rules in
    let is : c.lock-item.result ≡ slice_index_or c.args.locks.now c.loop-lock.lock-index c.lock-item.result = search rules in
    c.in_ok-put.ensures ∙ (λ i. c.loop-lock.invariant i ++ cons_option (c.in_ok-keep_lock.ensures i) [])
    ∙ sym (next_row (λ row. cond (is_in_part c.args.part row) (passed c.args.action (rows_of c.args.locks.now) row) (Some row)) c.args.locks.now c.loop-lock.lock-index c.lock-item.result lt is)
