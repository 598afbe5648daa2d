-- The row of commits that are done: each is of an action that is committed by then.
use Rattle.arj_law_parts.proofs.Words
use Words.{◌≡◌, ◌∙◌, ◌&&◌, ◌++◌, ◌∷◌, true, false, List, Option, Some, None, refl, sym, ap, subst, find, uid_eq, uid_is}
use Words.{uid_same, In}
use Words.{in_find, in_find_none, in_from, Body, Header, Line, Uid, see, world_by}
use Words.body
use Words.ending
use Rattle.arj_law_runs.proofs.Terms.{Act, Holds, IsWritten, acts, keeps_asked, moves_asked, new_book, AreRight}
use Rattle.arj_law_runs.proofs.follow.Frames.{frames_are_caused}
use Rattle.arj_law_runs.proofs.follow.Halts.{KnowsAll, halts_keep}
use Rattle.arj_law_runs.proofs.journal.{Closed.one_act, Models.caused, Models.its_sound, Models.right_before}
use Rattle.arj_law_runs.specs.follow.Frames.{FramesStep, run_events}
use Rattle.arj_law_runs.specs.journal.Laws.{AreDistinct, IsCaused, IsCommittedIn}
use Rattle.arj_model.specs.Actions.{committed, is_committed, recovered}
use Rattle.arj_model.specs.CauseSpans.{Here, act_by, holds_in}
use Rattle.arj_model.specs.Caused.{has_cause}
use Rattle.arj_promise.specs.Runs.{Run, journal_by}
use Rattle.arj_law_cause.proofs.kinds.Lines.{lines_row}
use Rattle.arj_law_cause.specs.kinds.Kinds.{is_commit_done}
use Rattle.arj_law_cause.specs.kinds.Rows.{RowHolds}

-- an action is found by its Uid
pub act_found : (xs : List Act) → AreDistinct xs → (a : Act) → In a xs → (u : Uid) → a.uid ≡ u →
    find (λ (x : Act). uid_eq x.uid u) xs ≡ Some a
act_found xs distinct a there u is = by (find (λ (x : Act). uid_eq x.uid u) xs) refl
  where
    its : uid_eq a.uid u ≡ true
    its = ap (uid_eq a.uid) (sym is) ∙ uid_same a.uid

    by : (o : Option Act) → find (λ (x : Act). uid_eq x.uid u) xs ≡ o → o ≡ Some a
    by None none =
        let no_way : true ≡ false = sym its ∙ in_find_none (λ (x : Act). uid_eq x.uid u) a xs none there in absurd (cc no_way)
    by (Some b) found =
        let r = in_find (λ (x : Act). uid_eq x.uid u) b xs found in
        ap Some (one_act xs distinct b a r.0 there (uid_is b.uid u r.1 ∙ sym is))

-- so it is known of a line
pub record IsDecided (before : List Line) (b : Body) : Type 0 where
  pub distinct : AreDistinct (acts before)
  pub caused : IsCaused before b

pub committed_so : (h : Here) (u : Uid) → AreDistinct (acts h.lines) → IsCommittedIn h.lines u →
    holds_in (λ a. is_committed (committed h.lines) (recovered h.lines) a) (act_by h.lines u) ≡ true
committed_so h u distinct c =
    ap (holds_in (λ a. is_committed (committed h.lines) (recovered h.lines) a))
    (act_found (acts h.lines) distinct c.0 (in_from c.0 (acts h.lines) c.1) u c.2) ∙ c.3

to_cause : (h : Here) (b : Body) → is_commit_done b ≡ true → IsDecided h.lines b → has_cause h b ≡ true
to_cause h (body.Done n u r ending.Commit) its k = λ i. committed_so h u k.distinct k.caused i && true
to_cause h (body.Done n u r ending.Abort) its k = absurd (cc its)
to_cause h (body.Began a b c d) its k = absurd (cc its)
to_cause h (body.Ok a b c d) its k = absurd (cc its)
to_cause h (body.Includes a b c) its k = absurd (cc its)
to_cause h (body.Conflict a b c d) its k = absurd (cc its)
to_cause h (body.Lost a b) its k = absurd (cc its)
to_cause h (body.Changed a b c) its k = absurd (cc its)
to_cause h (body.Committing a) its k = absurd (cc its)
to_cause h (body.Committed a) its k = absurd (cc its)
to_cause h (body.Ended a) its k = absurd (cc its)
to_cause h (body.Aborted a b) its k = absurd (cc its)
to_cause h (body.GaveUp a b) its k = absurd (cc its)
to_cause h (body.Excluded a b c) its k = absurd (cc its)
to_cause h (body.Granted a b c d) its k = absurd (cc its)
to_cause h (body.Lowered a b c) its k = absurd (cc its)
to_cause h (body.Bound a b c) its k = absurd (cc its)
to_cause h (body.Active a b c) its k = absurd (cc its)
to_cause h (body.Told a b c d) its k = absurd (cc its)
to_cause h (body.Prepared a b c) its k = absurd (cc its)
to_cause h (body.Sent a b c d) its k = absurd (cc its)
to_cause h (body.Got a) its k = absurd (cc its)
to_cause h (body.Void a) its k = absurd (cc its)
to_cause h (body.Dropped a) its k = absurd (cc its)
to_cause h (body.Halted a) its k = absurd (cc its)
to_cause h (body.Up a b) its k = absurd (cc its)
to_cause h (body.Armed a) its k = absurd (cc its)
to_cause h (body.Recovered a b) its k = absurd (cc its)
to_cause h (body.Refused a) its k = absurd (cc its)
to_cause h (body.Entry a b c d) its k = absurd (cc its)
to_cause h (body.Copy a b c d e) its k = absurd (cc its)
to_cause h (body.Quiet a) its k = absurd (cc its)
to_cause h (body.Bad a) its k = absurd (cc its)
to_cause h (body.Limit a) its k = absurd (cc its)

-- the lines of a run are right
pub right_lines : (hd : Header) (r : Run hd) → AreRight new_book (journal_by hd r)
right_lines hd r =
    let h : Holds hd KnowsAll (world_by hd r) = moves_asked hd KnowsAll (keeps_asked hd KnowsAll (halts_keep hd)) r in
    let k = h.holds in let written : IsWritten (see h.sent (world_by hd r)) = k.0.1 in written.right

pub decided_line : (lines : List Line) → AreRight new_book lines → (before : List Line) (line : Line) (behind : List Line) →
    lines ≡ before ++ line ∷ behind → IsDecided before line.body
decided_line lines right before line behind is = record {
  distinct = (let front = (right_before new_book before line behind (subst (AreRight new_book) is right)).0 in
      let s = its_sound before front in s.distinct);
  caused = caused lines right before line behind is;
}

pub done_row : RowHolds is_commit_done
done_row hd r form =
    let lines = journal_by hd r in
    lines_row IsDecided is_commit_done to_cause lines (decided_line lines (right_lines hd r))
    hd (FramesStep hd) r.start (run_events hd r) (frames_are_caused hd r form)
