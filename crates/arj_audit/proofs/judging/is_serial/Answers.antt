use Rattle.std.proofs.Common.{◌∙◌, sym, subst}
use Rattle.arj_audit.proofs.Wrongs.{none_wrong, one_wrong}
use Rattle.arj_law.proofs.Moves.{all_arrange}
use Rattle.arj_model.specs.Calls.{committed_calls, tops}
use Rattle.arj_model.specs.Last.{first_values}
use Rattle.arj_model.specs.Serial.{serial_calls, serial_less}
use Rattle.arj_replay.specs.Verdict.{HasCall, IsWrong, first_difference}
use Rattle.arj_audit.proofs.judging.is_serial.Goals as goal

pub returns-in-None : goal.returns-in-None
returns-in-None c = λ readable has.
    let header = c.args.header.now in
    let lines = c.args.lines.now in
    let calls = serial_calls lines in
    let said = c.in_ok-wrong.ensures calls (sym (c.as_slice.ensures.value ∙ c.in_ok-places.ensures lines has))
    (all_arrange (HasCall header lines) (serial_less (tops lines)) (committed_calls lines) (c.readable_calls_can_be_run.ensures header lines readable)) in
    (c.no_difference_is_right.ensures (first_values header) calls).0
    (none_wrong lines (first_difference (first_values header) calls) (subst (IsWrong lines (first_difference (first_values header) calls)) c.in-None.is said))

pub returns : goal.returns
returns c = λ readable has right.
    let header = c.args.header.now in
    let lines = c.args.lines.now in
    let calls = serial_calls lines in
    let said = c.in_ok-wrong.ensures calls (sym (c.as_slice.ensures.value ∙ c.in_ok-places.ensures lines has))
    (all_arrange (HasCall header lines) (serial_less (tops lines)) (committed_calls lines) (c.readable_calls_can_be_run.ensures header lines readable)) in
    one_wrong lines (first_difference (first_values header) calls) _ (subst (IsWrong lines (first_difference (first_values header) calls)) c.in-Some.is said)
    ((c.no_difference_is_right.ensures (first_values header) calls).1 right)
