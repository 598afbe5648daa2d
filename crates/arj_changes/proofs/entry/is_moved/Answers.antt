use Rattle.std.proofs.Common.{◌∙◌, ◌||◌, ◌==◌, ap}
use Rattle.std.specs.List.{list_any}
use Rattle.arj_model.specs.Last.{excluded, included}
use Rattle.arj_changes.proofs.Moved.{join_any, leave_any}
use Rattle.arj_changes.proofs.entry.is_moved.Goals as goal

pub returns : goal.returns
returns c = λ lines has.
    let x = c.args.x in
    let leaves = c.has_leave-leaves.ensures ∙ ap (list_any (λ leave. leave.x == x)) has.leaves ∙ leave_any x (excluded lines) in
    let joins = c.has_join-joins.ensures ∙ ap (list_any (λ join. join.x == x)) has.joins ∙ join_any x (included lines) in
    c.either.ensures ∙ (λ i. leaves i || joins i)
