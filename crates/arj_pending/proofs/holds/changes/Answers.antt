use Rattle.std.proofs.Common.{◌||◌, ◌∙◌, ap}
use Rattle.std.specs.List.{list_any}
use Rattle.arj_changes.specs.Kept.{is_ended}
use Rattle.arj_changes.proofs.Moved.{joins_are}
use Rattle.arj_last.specs.Groups.{items_of}
use Rattle.arj_model.specs.CausePends.{has_some}
use Rattle.arj_pending.specs.Holds.{is_surviving}
use Rattle.arj_pending.proofs.Holding.{written_is}
use Rattle.arj_pending.proofs.holds.changes.Goals as goal

pub returns : goal.returns
returns c = λ flags lines h.
    let kept = c.args.standing.now.changes in
    let top = c.args.top in
    let x = c.args.x in
    let wrote =
    c.has_written-wrote.ensures ∙ ap (list_any (is_surviving (is_ended kept) top)) (c.items_at.ensures
    ∙ ap (items_of c.args.standing.now.writes.on) c.from.ensures ∙ h.writes.on x) ∙ written_is lines kept h.changes top x in
    let joined = c.in_ok-joined.ensures ∙ ap has_some (joins_are lines kept h.changes top x) in
    c.either.ensures ∙ (λ i. wrote i || joined i)
