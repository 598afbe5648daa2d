use Rattle.std.proofs.Common.{◌||◌, ◌∙◌, ap}
use Rattle.std.specs.List.{list_any}
use Rattle.arj_model.specs.Last.{included, is_among}
use Rattle.arj_pending.specs.Holds.{is_join_at}
use Rattle.arj_pending.proofs.Holding.{join_at}
use Rattle.arj_pending.proofs.holds.may_store.Goals as goal

pub returns : goal.returns
returns c = λ lines has.
    let n = c.args.node in
    let x = c.args.x in
    let first = c.is_among-first.ensures ∙ ap (λ stores. is_among stores n) c.first_stores.ensures in
    let joined =
    c.has_join-joined.ensures ∙ ap (list_any (is_join_at n x)) (c.as_slice.ensures.value ∙ has.joins) ∙ join_at n x (included lines) in
    c.either.ensures ∙ (λ i. first i || joined i)
