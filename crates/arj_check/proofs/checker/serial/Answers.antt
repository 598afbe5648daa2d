use Rattle.std.proofs.Common.{◌∙◌, sym}
use Rattle.arj_model.specs.Calls.{committed_calls, tops}
use Rattle.arj_model.specs.Serial.{serial_calls, serial_less}
use Rattle.arj_law.proofs.Moves.{all_arrange}
use Rattle.arj_replay.specs.Verdict.{HasCall}
use Rattle.arj_check.proofs.Calls.{calls_have_lines}
use Rattle.arj_check.proofs.checker.serial.Goals as goal

pub returns : goal.returns
returns c = λ readable has.
    c.replay.ensures (serial_calls c.args.lines.now) (sym (c.as_slice.ensures.value ∙ c.in_ok-places.ensures c.args.lines.now has))
    (all_arrange (HasCall c.args.header.now c.args.lines.now) (serial_less (tops c.args.lines.now)) (committed_calls c.args.lines.now) (calls_have_lines c.args.header.now c.args.lines.now readable))
