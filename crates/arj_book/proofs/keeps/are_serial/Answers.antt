use Rattle.std.proofs.Common.{◌≡◌, ◌∙◌, sym}
use Rattle.std.specs.Prelude.{MatchBool}
use Rattle.std.proofs.lemmas.Result.{IfOk-weaker}
use Rattle.arj_book.proofs.Keys.{order_test}
use Rattle.arj_book.specs.Kept.{no_ends, stand_behind}
use Rattle.arj_law.proofs.Moves.{all_arrange}
use Rattle.arj_model.specs.Book.{InOrder}
use Rattle.arj_model.specs.Calls.{committed_calls, tops}
use Rattle.arj_model.specs.Serial.{serial_calls, serial_less}
use Rattle.arj_replay.specs.Verdict.{HasCall}
use Rattle.arj_book.proofs.keeps.are_serial.Goals as goal

pub returns : goal.returns
returns c = λ readable has.
    let lines = c.args.lines.now in
    IfOk-weaker c.are_in_order.result (λ is. is ≡ stand_behind no_ends no_ends (serial_calls lines))
    (λ is. MatchBool is (InOrder lines) (InOrder lines → ⊥)) (λ is e. order_test c.args.header.now lines (c.readable_calls_can_be_run.ensures c.args.header.now lines readable) (c.readable_tops_have_own_keys.ensures c.args.header.now lines readable) is e)
    (c.are_in_order.ensures c.args.header.now (serial_calls lines) (sym (c.as_slice.ensures.value ∙ c.in_ok-places.ensures lines has))
    (all_arrange (HasCall c.args.header.now lines) (serial_less (tops lines)) (committed_calls lines) (c.readable_calls_can_be_run.ensures c.args.header.now lines readable)))
