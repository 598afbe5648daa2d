use Rattle.std.proofs.Common.{◌≡◌, ◌≢◌, ◌<◌, ◌∙◌, List, None, ap, length, map, rules}
use Rattle.std.specs.Prelude.{IsSomeAnd, MatchBool}
use Rattle.std.proofs.lemmas.Result.{IfOk-weaker}
use Rattle.arj_base.specs.State.{state_bytes}
use Rattle.arj_clean.specs.States.{state_with}
use Rattle.arj_last.proofs.Ends.{writes_have_lines}
use Rattle.arj_last.specs.Survivors.{wrote_of}
use Rattle.arj_last.specs.declared.picked.Wrote.{Wrote}
use Rattle.arj_model.specs.Calls.{Call}
use Rattle.arj_model.specs.Last.{writes_of}
use Rattle.arj_past.proofs.Pasts.{all_front, few_writes, front_map, in_serial, past_test}
use Rattle.arj_past.specs.Behind.{IsBehind}
use Rattle.arj_past.specs.Past.{IsPast}
use Rattle.arj_past.specs.Rows.{front_from}
use Rattle.arj_replay.specs.Verdict.{HasCall}
use Rattle.arj_past.proofs.past.is_past.Goals as goal

pub returns-in_default : goal.returns-in_default
returns-in_default c = λ o readable is are form.
    let header = c.args.saved.now.header.now in
    let lines = c.args.saved.now.lines.now in
    let ws = writes_of lines c.args.x in
    let fs : List Call = front_from (λ (d : Call). d.top) None c.args.state.now.version ws in
    let front : c.front.result.now ≡ map wrote_of fs = c.front.ensures ∙ ap (front_from (λ (w : Wrote). w.top) None c.args.state.now.version) are ∙ front_map (λ (w : Wrote). w.top) wrote_of None c.args.state.now.version ws in
    let there = all_front (HasCall header lines) (λ (d : Call). d.top) None c.args.state.now.version ws (writes_have_lines header lines c.args.x (c.readable_calls_can_be_run.ensures header lines readable)) in
    let none : IsSomeAnd None (IsBehind header c.args.x fs) = rw c.in_default.is at (c.in_ok-behind.ensures o fs is front there) in
    absurd none

pub returns : goal.returns
returns c = λ o readable is are form.
    let header = c.args.saved.now.header.now in
    let lines = c.args.saved.now.lines.now in
    let s = c.args.state.now in
    let ws = writes_of lines c.args.x in
    let fs : List Call = front_from (λ (d : Call). d.top) None s.version ws in
    let front : c.front.result.now ≡ map wrote_of fs = c.front.ensures ∙ ap (front_from (λ (w : Wrote). w.top) None s.version) are ∙ front_map (λ (w : Wrote). w.top) wrote_of None s.version ws in
    let there = all_front (HasCall header lines) (λ (d : Call). d.top) None s.version ws (writes_have_lines header lines c.args.x (c.readable_calls_can_be_run.ensures header lines readable)) in
    let behind : IsBehind header c.args.x fs c.in-Some.behind = rw c.in-Some.is at (c.in_ok-behind.ensures o fs is front there) in
    let few : length c.args.wrotes.now < 18446744073709551616 = search rules in
    let w = state_with header.format c.args.x c.in-Some.behind.value c.in-Some.behind.version c.in-Some.behind.writer in
    IfOk-weaker c.is_state.result (λ b. MatchBool b (state_bytes s ≡ state_bytes w) (state_bytes s ≢ state_bytes w))
    (λ b. MatchBool b (IsPast header lines c.args.x (state_bytes s)) (IsPast header lines c.args.x (state_bytes s) → ⊥))
    (λ b test. past_test b header lines c.args.x s c.in-Some.behind (in_serial lines (c.readable_tops_have_own_keys.ensures header lines readable)) (few_writes c.args.wrotes.now ws are few) form behind test)
    (c.is_state.ensures form)
