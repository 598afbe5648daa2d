use Rattle.std.proofs.Common.{◌≡◌, ◌∙◌, ap, map, refl}
use Rattle.std.specs.List.{filter_map}
use Rattle.std.proofs.lemmas.Result.{IfOk-weaker}
use Rattle.arj_model.specs.Actions.{acts, committed, recovered}
use Rattle.arj_model.specs.Calls.{tops}
use Rattle.arj_model.specs.Serial.{serial_calls}
use Rattle.arj_reading.specs.Reading.{placed_of}
use Rattle.arj_replay.specs.Orders.{paths}
use Rattle.arj_replay.specs.Sorting.{last_in_order}
use Rattle.arj_replay.proofs.Sorts.{serial_places as places_are}
use Rattle.arj_check.specs.Keys.{key_at, nothing_below, serial_of}
use Rattle.arj_check.proofs.Loops.{none_below, serial_start}
use Rattle.arj_check.proofs.checker.serial_places.Goals as goal

pub returns : goal.returns
returns c = λ lines has.
    IfOk-weaker c.places_by.result
    (λ places. places.items ≡ last_in_order (filter_map (key_at (serial_of (tops lines)) (committed lines) (recovered lines) (paths (acts lines))) (map placed_of c.args.reading.now.said.items)))
    (λ places. places.items ≡ map (λ k. k.at) (serial_calls lines)) (λ places is. is ∙ ap last_in_order (serial_start lines c.args.reading.now has) ∙ places_are lines)
    (c.places_by.ensures lines nothing_below has (none_below lines _ refl))
