use Rattle.std.proofs.Common.{◌≡◌, ◌∙◌, ap, map}
use Rattle.std.specs.List.{filter_map}
use Rattle.std.proofs.lemmas.Result.{IfOk-weaker}
use Rattle.arj_model.specs.Actions.{acts, committed, recovered}
use Rattle.arj_model.specs.Calls.{tops}
use Rattle.arj_reading.specs.Reading.{placed_of}
use Rattle.arj_replay.specs.Orders.{paths}
use Rattle.arj_replay.specs.Sorting.{last_in_order}
use Rattle.arj_check.specs.Keys.{key_at, key_of}
use Rattle.arj_check.proofs.checker.places_by.Goals as goal

pub returns : goal.returns
returns c = λ lines f has are.
    IfOk-weaker c.in_order.result (λ places. places.items ≡ last_in_order (map (λ k. k.items) c.in_ok-keys.keys.items))
    (λ places. places.items ≡ last_in_order (filter_map (key_at (key_of (tops lines) f) (committed lines) (recovered lines) (paths (acts lines))) (map placed_of c.args.reading.now.said.items)))
    (λ places is. is ∙ ap last_in_order (c.in_ok-keys.ensures lines f has (c.as_slice.ensures.value ∙ c.in_ok-survives.ensures lines has) (c.in_ok-tops.ensures lines has) are)) c.in_order.ensures
