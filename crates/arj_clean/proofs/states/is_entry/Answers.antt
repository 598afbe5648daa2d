use Rattle.std.proofs.Common.{◌≡◌, ◌≢◌, ◌∙◌, subst}
use Rattle.std.specs.Prelude.{MatchBool}
use Rattle.arj_clean.proofs.Bytes.{bytes_test}
use Rattle.arj_clean.specs.States.{entry_with}
use Rattle.arj_base.specs.State.{state_bytes}
use Rattle.arj_model.specs.Last.{entry_state}
use Rattle.arj_clean.proofs.states.is_entry.Goals as goal

pub returns : goal.returns
returns c = λ lines is form.
    let s = c.args.state.now in
    let e = c.args.entry.now in
    let header = c.args.header.now in
    let w = entry_with header.format c.args.x c.servers_of.result.now c.as_slice.result.now e.version e.writer in
    let same : w ≡ entry_state header lines c.args.x = λ i. entry_with header.format c.args.x (c.servers_of.ensures i) ((c.as_slice.ensures.value ∙ is.stores) i) (is.version i) (is.writer i) in
    subst (λ v. MatchBool c.is_entry_of.result (state_bytes s ≡ state_bytes v) (state_bytes s ≢ state_bytes v)) same
    (bytes_test c.is_entry_of.result s w form c.is_entry_of.ensures.fits c.is_entry_of.ensures.test)
