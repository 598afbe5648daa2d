use Rattle.std.proofs.Common.{rules, ◌≡◌, ◌<◌, ◌∙◌, ◌++◌, [], sym, length, slice_index_or}
use Rattle.std.specs.List.{cons_option}
use Rattle.arj_standing.specs.Held.{spared}
use Rattle.arj_standing.proofs.Filters.{next_row}
use Rattle.arj_standing.proofs.told.spare.Goals as goal

pub loop-lock-preserved : goal.loop-lock-preserved
loop-lock-preserved c =
    let lt : c.loop-lock.lock-index < length c.args.locks.now = search rules in
    let is : c.lock-item.result ≡ slice_index_or c.args.locks.now c.loop-lock.lock-index c.lock-item.result = search rules in
    c.in_ok-put.ensures ∙ (λ i. c.loop-lock.invariant i ++ cons_option (c.in_ok-spare_lock.ensures i) [])
    ∙ sym (next_row (spared c.args.part c.args.action) c.args.locks.now c.loop-lock.lock-index c.lock-item.result lt is)
