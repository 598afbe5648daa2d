use Rattle.std.proofs.Common.{◌≡◌, ◌∙◌, ap, map}
use Rattle.std.specs.List.{filter_map}
use Rattle.std.proofs.lemmas.Result.{IfOk-weaker}
use Rattle.arj_book.proofs.Keys.{commits_below}
use Rattle.arj_check.specs.Keys.{key_at, key_of}
use Rattle.arj_model.specs.Actions.{acts, committed, recovered}
use Rattle.arj_model.specs.Calls.{committed_calls, tops}
use Rattle.arj_reading.specs.Reading.{placed_of}
use Rattle.arj_replay.specs.Orders.{commits_in, nested_place, paths}
use Rattle.arj_book.proofs.keeps.keys_of.Goals as goal

pub returns : goal.returns
returns c = λ lines has.
    let below : map (λ k. k.items) c.as_slice-2.result.now ≡ _ =
    ap (map (λ k. k.items)) c.as_slice-2.ensures.value ∙ c.in_ok-below.ensures lines has in
    IfOk-weaker c.call_keys.result
    (λ keys. map (λ k. k.items) keys.items ≡ filter_map (key_at (key_of (tops lines) (commits_in (committed lines))) (committed lines) (recovered lines) (paths (acts lines))) (map placed_of c.args.reading.now.said.items))
    (λ keys. map (λ k. k.items) keys.items ≡ map (nested_place (tops lines) (committed lines)) (committed_calls lines))
    (λ keys is. is ∙ c.calls_are_found_by_marks.ensures.nested lines c.args.reading.now has)
    (c.call_keys.ensures lines (commits_in (committed lines)) has (c.as_slice.ensures.value ∙ c.in_ok-survives.ensures lines has)
    (c.in_ok-tops.ensures lines has) (commits_below lines _ below))
