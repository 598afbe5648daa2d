use Rattle.std.proofs.Common.{◌≡◌, ◌∙◌, ap, map, sym, subst, None, Some, Option, refl, List}
use Rattle.arj_book.proofs.Answered.{answered_of, of_answered}
use Rattle.arj_book.proofs.Keys.{last_all}
use Rattle.arj_journal.specs.declared.body.Line.{Line}
use Rattle.arj_model.specs.Actions.{committed}
use Rattle.arj_model.specs.Calls.{committed_calls, tops}
use Rattle.arj_model.specs.Last.{first_values}
use Rattle.arj_replay.specs.Sorting.{last_of}
use Rattle.arj_replay.specs.Verdict.{Differs, IsWrong, first_difference}
use Rattle.arj_replay.specs.declared.run.Wrong.{Wrong}
use Rattle.arj_book.proofs.keeps.are_answered.Goals as goal

no_wrong : (lines : List Line) (d : Option Differs) → IsWrong lines d None → d ≡ None
no_wrong lines None is = refl
no_wrong lines (Some d) is = absurd is

some_wrong : (lines : List Line) (d : Option Differs) (w : Wrong) → IsWrong lines d (Some w) → d ≡ None → ⊥
some_wrong lines None w is e = is
some_wrong lines (Some d) w is e = cc e

pub returns-in-None : goal.returns-in-None
returns-in-None c = λ readable keys.
    let header = c.args.header.now in
    let lines = c.args.lines.now in
    let places = sym (c.as_slice.ensures.value ∙ c.in_ok-places.ensures ∙ ap (map last_of) keys ∙ last_all (tops lines) (committed lines) (committed_calls lines)) in
    let said = c.in_ok-wrong.ensures (committed_calls lines) places (c.readable_calls_can_be_run.ensures header lines readable) in
    answered_of (first_values header) lines ((c.no_difference_is_right.ensures (first_values header) (committed_calls lines)).0
    (no_wrong lines (first_difference (first_values header) (committed_calls lines)) (subst (IsWrong lines (first_difference (first_values header) (committed_calls lines))) c.in-None.is said)))

pub returns : goal.returns
returns c = λ readable keys answered.
    let header = c.args.header.now in
    let lines = c.args.lines.now in
    let places = sym (c.as_slice.ensures.value ∙ c.in_ok-places.ensures ∙ ap (map last_of) keys ∙ last_all (tops lines) (committed lines) (committed_calls lines)) in
    let said = c.in_ok-wrong.ensures (committed_calls lines) places (c.readable_calls_can_be_run.ensures header lines readable) in
    some_wrong lines (first_difference (first_values header) (committed_calls lines)) _ (subst (IsWrong lines (first_difference (first_values header) (committed_calls lines))) c.in-Some.is said)
    ((c.no_difference_is_right.ensures (first_values header) (committed_calls lines)).1 (of_answered (first_values header) lines answered))
