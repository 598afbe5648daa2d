use Rattle.std.proofs.Common.{◌≡◌, ◌≢◌}
use Rattle.std.specs.Prelude.{MatchBool}
use Rattle.std.proofs.lemmas.Result.{IfOk-weaker}
use Rattle.arj_clean.proofs.Bytes.{bytes_test}
use Rattle.arj_clean.specs.States.{state_with}
use Rattle.arj_base.specs.State.{state_bytes}
use Rattle.arj_clean.proofs.states.is_state.Goals as goal

pub returns : goal.returns
returns c = λ form.
    let s = c.args.state.now in
    let w = state_with c.args.first c.args.x c.args.value.now c.args.version c.args.writer in
    IfOk-weaker c.is_state_of.result (λ is. MatchBool is (s ≡ w) (s ≢ w))
    (λ is. MatchBool is (state_bytes s ≡ state_bytes w) (state_bytes s ≢ state_bytes w))
    (λ is test. bytes_test is s w form c.is_state_of.ensures.fits test) c.is_state_of.ensures.test
