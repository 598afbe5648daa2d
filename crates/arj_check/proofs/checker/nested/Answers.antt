use Rattle.std.proofs.Common.{◌≡◌, ◌∙◌, ap, map, sym}
use Rattle.arj_model.specs.Nested.{nested_calls, nested_less}
use Rattle.arj_model.specs.Actions.{committed}
use Rattle.arj_model.specs.Calls.{committed_calls, tops}
use Rattle.arj_model.specs.Serial.{serial_calls, serial_less}
use Rattle.arj_law.proofs.Moves.{all_arrange}
use Rattle.arj_replay.specs.Orders.{commits_in}
use Rattle.arj_replay.specs.Sorting.{last_in_order}
use Rattle.arj_replay.specs.Verdict.{HasCall}
use Rattle.arj_replay.proofs.Sorts.{nested_places}
use Rattle.arj_check.proofs.Calls.{calls_have_lines}
use Rattle.arj_check.proofs.Loops.{commits_below, nested_start}
use Rattle.arj_check.proofs.Own.{own_keys}
use Rattle.arj_check.proofs.checker.nested.Goals as goal

pub returns : goal.returns
returns c = λ readable has.
    let lines = c.args.lines.now in
    let header = c.args.header.now in
    let below : map (λ k. k.items) c.as_slice.result.now ≡ _ =
    ap (map (λ k. k.items)) c.as_slice.ensures.value ∙ c.in_ok-below.ensures lines has in
    let places : c.in_ok-places.places.items ≡ map (λ k. k.at) (nested_calls lines) =
    c.in_ok-places.ensures lines (commits_in (committed lines)) has (commits_below lines _ below) ∙ ap last_in_order (nested_start lines c.args.reading.now has) ∙ nested_places lines (own_keys header lines readable) in
    c.replay.ensures (nested_calls lines) (sym (c.as_slice-2.ensures.value ∙ places))
    (all_arrange (HasCall header lines) (nested_less (committed lines)) (serial_calls lines)
    (all_arrange (HasCall header lines) (serial_less (tops lines)) (committed_calls lines) (calls_have_lines header lines readable)))
