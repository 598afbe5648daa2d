-- Journals of runs in form are readable, and no call's answer differs from the one that is wanted.
use Rattle.arj_law_parts.proofs.Words
use Words.{◌≡◌, ◌≤◌, ◌+◌, ◌∙◌, ℕ, true, List, [], ◌∷◌, ◌++◌, Option, Some, None, refl, sym, ap, subst, arith, nat_tests, length}
use Words.{length-append, append_assoc, nat_le, option_map, AllByRecursion, Body, Header, Line, name}
use Words.{journal_by, world_by}
use Words.body
use Rattle.arj_law_promise.proofs.readable.Rules.{CallFits, ShortBegin, line_keeps, object_fits}
use Rattle.arj_law_promise.specs.readable.Readable.{NoAnswersDiffer, RunsAreReadable}
use Rattle.arj_law_runs.proofs.Terms
use Terms.{Act, acts, acts_after, acts_from, path, upwards, AreRight, new_book}
use Rattle.arj_law_runs.proofs.journal.{Models.right_before, Paths.paths_short, Runs.kept_right}
use Rattle.arj_law_runs.specs.journal.Paths.{AreShort}
use Rattle.arj_law_serial.proofs.joint.{Clean.joined_runs_are_serial, CommitCalls.events_never_fall, FitRuns.runs_in_form}
use Rattle.arj_law_serial.proofs.whole.CalledWalks.{calls_keep}
use Rattle.arj_law_serial.specs.joint.{Excluded.NeverFall, Fit.OpFits, Fit.OpsFit}
use Rattle.arj_law_serial.specs.whole.Called.{IsOfHeader, LinesOf, SaysOf}
use Rattle.arj_model.specs.Actions.{Begun, begun_of, numbered}
use Rattle.arj_model.specs.Last.{first_values}
use Rattle.arj_model.specs.Nested.{nested_calls}
use Rattle.arj_model.specs.Serial.{serial_calls}
use Rattle.arj_start.specs.Limits.{most_on_path}
use Rattle.arj_replay.proofs.Right.{difference_right}
use Rattle.arj_reading.specs.Readable.{body_rule, broken_from, broken_or, met, or_else, unless}
use Rattle.arj_reading.specs.declared.rule.Rule.TheVariants as rule

-- ---- paths

-- the actions so far have short paths where all have
short_turn : (us : List Act) (o : Option Begun) → AreShort (numbered us o) → AreShort us
short_turn us None short = short
short_turn us (Some b) short = short.1

short_front : (us : List Act) (lines : List Line) → AreShort (acts_from us lines) → AreShort us
short_front us [] short = short
short_front us (l ∷ lines) short = short_turn us (begun_of l.body) (short_front (acts_after us l.body) lines short)

short_at : (us : List Act) (before : List Line) (line : Line) (behind : List Line) → AreShort (acts_from us (before ++ line ∷ behind)) →
    AreShort (acts_after (acts_from us before) line.body)
short_at us [] line behind short = short_front (acts_after us line.body) behind short
short_at us (l ∷ before) line behind short = short_at (acts_after us l.body) before line behind short

-- ---- all lines

module _ (hd : Header) where
  line_rules : (before : List Line) (line : Line) (behind : List Line) → AreRight new_book (before ++ line ∷ behind) →
      AreShort (acts (before ++ line ∷ behind)) → CallFits hd line.body → body_rule hd (met before) line.body ≡ None
  line_rules before line behind right short fits =
      let r = right_before new_book before line behind right in
      line_keeps hd before r.0 line.body r.1 (by line.body (short_at [] before line behind short)) fits
    where
      by : (b : Body) → AreShort (acts_after (acts before) b) → ShortBegin (acts before) b
      by (body.Began l k u p) s =
          let new : Act = record { id = length (acts before); label = name l; kind = k; uid = u; parent = option_map name p } in
          let above : List Act = upwards (option_map name p) k (path (acts before)) in
          let long : length (above ++ new ∷ []) ≡ length above + 1 = length-append above (new ∷ []) in
          let most : length (above ++ new ∷ []) ≤ most_on_path = s.0 in
          omega (arith, long, most)
      by b s = tt

  all_keep : (before lines : List Line) (last : ℕ) → AreRight new_book (before ++ lines) → AreShort (acts (before ++ lines)) →
      NeverFall last lines → AllByRecursion (λ (l : Line). CallFits hd l.body) lines → broken_from hd before last lines ≡ None
  all_keep before [] last right short order fits = refl
  all_keep before (line ∷ lines) last right short order fits =
      let same = sym (append_assoc before (line ∷ []) lines) in
      ap (λ o. broken_or (length before) o (broken_from hd (before ++ line ∷ []) line.event lines))
      (ap (λ b. or_else (unless b rule.Order) (body_rule hd (met before) line.body)) (in_order last line.event order.0)
      ∙ line_rules before line lines right short fits.0)
      ∙ all_keep (before ++ line ∷ []) lines line.event (subst (AreRight new_book) same right)
      (subst (λ ls. AreShort (acts ls)) same short) order.1 fits.1
    where
      in_order : (m n : ℕ) → m ≤ n → nat_le m n ≡ true
      in_order m n le = grind (arith, nat_tests, le)

  calls_fit : (lines : List Line) → LinesOf (IsOfHeader hd) lines → ((x : ℕ) → OpsFit x lines) →
      AllByRecursion (λ (l : Line). CallFits hd l.body) lines
  calls_fit [] all form = tt
  calls_fit (l ∷ lines) all form = (by l.body all.0 (λ x. (form x).0), calls_fit lines all.1 (λ x. (form x).1))
    where
      by : (b : Body) → SaysOf (IsOfHeader hd) b → ((x : ℕ) → OpFits x b) → CallFits hd b
      by (body.Ok l x o r) its fits = object_fits hd x o its.0 its.2 (fits x refl)
      by b its fits = tt

-- ---- runs

pub runs_are_readable : RunsAreReadable
runs_are_readable hd run form =
    let w = world_by hd run in
    let r = runs_in_form hd run form in
    let reached = r.0 in
    let calls = (reached.keeping _ (calls_keep hd)).holds.1 in
    all_keep hd [] w.lines 0 (kept_right hd w reached.keeping) (paths_short hd w reached.keeping) (events_never_fall hd run)
    (calls_fit hd w.lines calls.lines r.1)

pub no_answers_differ : NoAnswersDiffer
no_answers_differ hd run form =
    let s = joined_runs_are_serial hd run form in (
      (difference_right (first_values hd) (serial_calls (journal_by hd run))).1 s.0,
      (difference_right (first_values hd) (nested_calls (journal_by hd run))).1 s.1,
    )
