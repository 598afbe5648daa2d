-- Each line of a journal has its cause: what laws say of its kinds, one by one, holds of it together.
use Rattle.arj_law_parts.proofs.Words
use Words.{◌≡◌, ◌∙◌, ◌&&◌, ◌||◌, not, ℕ, Bool, true, false, List, [], ◌∷◌, refl, sym, and_parts, AllByRecursion, Body, Event, Header, Line}
use Words.{journal_by, name}
use Words.body
use Words.cause
use Words.ending
use Rattle.arj_law_runs.specs.follow.Frames.{are_so, run_events}
use Rattle.arj_model.specs.CauseSpans.{Here, behind, here_at}
use Rattle.arj_model.specs.Caused.{CausesStep, JHasCauses, are_caused, has_cause}
use Rattle.arj_model.specs.Follows.{Follows, Runs, Step, is_ending}
use Rattle.arj_model.specs.Past.{Past}
use Rattle.arj_model.specs.Table.{is_entry}
use Rattle.arj_promise.specs.Runs.{IsInForm, Run}
use Rattle.arj_start.specs.Start.{Start}
use Rattle.arj_law_cause.proofs.bindings.Active.{active_row}
use Rattle.arj_law_cause.proofs.bindings.Bound.{bound_row}
use Rattle.arj_law_cause.proofs.bindings.Lowered.{lowered_row}
use Rattle.arj_law_cause.proofs.confirm.{Differs.changed_row, Overdue.old_row, Runs.bare_row, Runs.listed_row, Runs.met_row}
use Rattle.arj_law_cause.proofs.kinds.Aborts.{abort_row}
use Rattle.arj_law_cause.proofs.kinds.Committed.{done_row}
use Rattle.arj_law_cause.proofs.kinds.Denied.{step_fits}
use Rattle.arj_law_cause.proofs.kinds.Forms.{runs_too, so_too}
use Rattle.arj_law_cause.proofs.kinds.Frames.{armed_row, dropped_row, got_row, halted_row, sent_row, void_row}
use Rattle.arj_law_cause.proofs.kinds.Granted.{granted_row}
use Rattle.arj_law_cause.proofs.kinds.Limit.{limit_row}
use Rattle.arj_law_cause.proofs.kinds.LostCommits.{lost_commit_row}
use Rattle.arj_law_cause.proofs.kinds.Openings.{opening_row}
use Rattle.arj_law_cause.proofs.kinds.Quiet.{quiet_row}
use Rattle.arj_law_cause.proofs.kinds.Recovered.{found_row}
use Rattle.arj_law_cause.proofs.kinds.Served.{told_row}
use Rattle.arj_law_cause.proofs.kinds.Shown.{copy_row, entry_row}
use Rattle.arj_law_cause.proofs.kinds.Up.{up_row}
use Rattle.arj_law_cause.proofs.rows.Whole.{answers_are_caused}
use Rattle.arj_law_cause.proofs.stores.Row.{committed_run}
use Rattle.arj_law_cause.proofs.told.Joined.{journals_follow}
use Rattle.arj_law_cause.proofs.told.Locks.{granted_whole}
use Rattle.arj_law_cause.proofs.told.Together.{AreInside, step_inside, together}
use Rattle.arj_law_cause.proofs.waits.given.Running.{given_row}
use Rattle.arj_law_cause.proofs.votes.{Exclusions.excluded_run, Prepared.prepared_row}
use Rattle.arj_law_cause.specs.kinds.Kinds.{is_abort_done, is_active, is_armed, is_bare_abort, is_bound, is_changed_abort, is_commit_done}
use Rattle.arj_law_cause.specs.kinds.Kinds.{is_committed}
use Rattle.arj_law_cause.specs.kinds.Kinds.{is_copy_shown, is_denial, is_dropped, is_entry_shown, is_excluded, is_found, is_got}
use Rattle.arj_law_cause.specs.kinds.Kinds.{is_granted_entry, is_granted_object, is_halted, is_limit, is_listed_abort, is_lock_lowered}
use Rattle.arj_law_cause.specs.kinds.Kinds.{is_lost_commit, is_met_abort, is_node_given_up, is_old_abort, is_opening, is_prepared, is_quiet}
use Rattle.arj_law_cause.specs.kinds.Kinds.{is_sent, is_told, is_up, is_void}
use Rattle.arj_law_cause.specs.kinds.Rows.{row}
use Rattle.arj_law_cause.specs.rows.Lines.{answer_fits, include_is_free, ok_is_free}

-- ---- tests of lines together

module _ (f g : Here → Body → Bool) where
  all_both : (h : Here) (bs : List Body) → are_so f h bs ≡ true → are_so g h bs ≡ true → are_so (λ x b. f x b && g x b) h bs ≡ true
  all_both h [] x y = refl
  all_both h (b ∷ bs) x y =
      let p = and_parts (f h b) (are_so f (behind h b) bs) x in
      let q = and_parts (g h b) (are_so g (behind h b) bs) y in
      λ i. (p.0 i && q.0 i) && all_both (behind h b) bs p.1 q.1 i

-- no line stands behind all events
abbrev is_inside : Here → Body → Bool
is_inside h b = not (is_ending b)

all_inside : (h : Here) (bs : List Body) → AreInside bs → are_so is_inside h bs ≡ true
all_inside h [] all = refl
all_inside h (b ∷ bs) all = λ i. not (all.0 i) && all_inside (behind h b) bs all.1 i

-- ---- tests of all kinds

abbrev Test : Type 0
Test = Here → Body → Bool

-- all of these, of a line that stands in an event, and has its cause if it is a denial
abbrev all_of : List Test → Test
all_of [] h b = row (λ x. is_denial) h b && is_inside h b
all_of (f ∷ fs) h b = f h b && all_of fs h b

module _ (hd : Header) (st : Start) (es : List Event) (journal : List Line) where
  abbrev Passes : Test → Past → Event → List Body → Type 0
  Passes f p e bs = are_so f (here_at hd p e bs) bs ≡ true

  abbrev Known : Test → Type 0
  Known f = Runs (λ p e bs. Step hd p e bs × Passes f p e bs) st es journal

  -- each line passes the test, and so does any refusal
  abbrev IsKnown : Test → Type 0
  IsKnown f = ((h : Here) (c : ℕ) → f h (body.Refused c) ≡ true) × Runs (Passes f) st es journal

  first : Follows hd st es journal → Known (all_of [])
  first = runs_too (Step hd) (λ p e bs. Step hd p e bs × Passes (all_of []) p e bs)
      (λ p e bs step. (
        step,
        all_both (row (λ x. is_denial)) is_inside (here_at hd p e bs) bs (step_fits hd p bs e step)
            (all_inside (here_at hd p e bs) bs (step_inside hd p e bs step)),
      )) st es journal

  -- so they pass all
  known : (fs : List Test) → AllByRecursion IsKnown fs → Follows hd st es journal → Known (all_of fs)
  known [] all follows = first follows
  known (f ∷ fs) all follows = runs_too (λ p e bs. Step hd p e bs × (Passes (all_of fs) p e bs × Passes f p e bs))
      (λ p e bs. Step hd p e bs × Passes (all_of (f ∷ fs)) p e bs)
      (λ p e bs x. (x.0, all_both f (all_of fs) (here_at hd p e bs) bs x.1.1 x.1.0)) st es journal
      (together hd (Passes (all_of fs)) f all.0.0 st es journal (known fs all.1 follows) all.0.1)

-- ---- in every run

abbrev others : List Test
others =
    answer_fits
    ∷ row (λ h. is_opening)
    ∷ row (λ h. is_committed)
    ∷ row (λ h. is_lost_commit)
    ∷ row (λ h. is_listed_abort)
    ∷ row (λ h. is_bare_abort)
    ∷ row (λ h. is_met_abort)
    ∷ row (λ h. is_armed)
    ∷ row (λ h. is_halted)
    ∷ row (λ h. is_up)
    ∷ row (λ h. is_found)
    ∷ row (λ h. is_prepared)
    ∷ row (λ h. is_commit_done)
    ∷ row (λ h. is_abort_done)
    ∷ row (λ h. is_told)
    ∷ row (λ h. is_granted_object)
    ∷ row (λ h. is_granted_entry)
    ∷ row (λ h. is_bound)
    ∷ row (λ h. is_active)
    ∷ row (λ h. is_lock_lowered)
    ∷ row (λ h. is_sent)
    ∷ row (λ h. is_got)
    ∷ row (λ h. is_void)
    ∷ row (λ h. is_dropped)
    ∷ row (λ h. is_limit)
    ∷ row (λ h. is_quiet)
    ∷ row (λ h. is_entry_shown)
    ∷ row (λ h. is_copy_shown)
    ∷ row (λ h. is_excluded)
    ∷ []

abbrev tests : List Test
tests = row (λ h. is_node_given_up) ∷ row (λ h. is_old_abort) ∷ row (λ h. is_changed_abort) ∷ others

module _ (hd : Header) (r : Run hd) (form : IsInForm hd r) where
  abbrev Its : Test → Type 0
  Its = IsKnown hd r.start (run_events hd r) (journal_by hd r)

  others_known : AllByRecursion Its others
  others_known = (
    (λ h c. refl, answers_are_caused hd r form),
    ((
      (λ h c. refl, opening_row hd r form),
      ((
        (λ h c. refl, committed_run hd r form),
        ((
          (λ h c. refl, lost_commit_row hd r form),
          ((
            (λ h c. refl, listed_row hd r form),
            ((
              (λ h c. refl, bare_row hd r form),
              ((
                (λ h c. refl, met_row hd r form),
                ((
                  (λ h c. refl, armed_row hd r form),
                  ((
                    (λ h c. refl, halted_row hd r form),
                    ((
                      (λ h c. refl, up_row hd r form),
                      ((
                        (λ h c. refl, found_row hd r form),
                        ((
                          (λ h c. refl, prepared_row hd r form),
                          ((
                            (λ h c. refl, done_row hd r form),
                            ((
                              (λ h c. refl, abort_row hd r form),
                              ((
                                (λ h c. refl, told_row hd r form),
                                ((
                                  (λ h c. refl, granted_row hd r form),
                                  ((
                                    (λ h c. refl, granted_whole hd r form),
                                    ((
                                      (λ h c. refl, bound_row hd r form),
                                      ((
                                        (λ h c. refl, active_row hd r form),
                                        ((
                                          (λ h c. refl, lowered_row hd r form),
                                          ((
                                            (λ h c. refl, sent_row hd r form),
                                            ((
                                              (λ h c. refl, got_row hd r form),
                                              ((
                                                (λ h c. refl, void_row hd r form),
                                                ((
                                                  (λ h c. refl, dropped_row hd r form),
                                                  ((
                                                    (λ h c. refl, limit_row hd r form),
                                                    ((
                                                      (λ h c. refl, quiet_row hd r form),
                                                      ((
                                                        (λ h c. refl, entry_row hd r form),
                                                        ((
                                                          (λ h c. refl, copy_row hd r form),
                                                          ((λ h c. refl, excluded_run hd r form), tt),
                                                        )),
                                                      )),
                                                    )),
                                                  )),
                                                )),
                                              )),
                                            )),
                                          )),
                                        )),
                                      )),
                                    )),
                                  )),
                                )),
                              )),
                            )),
                          )),
                        )),
                      )),
                    )),
                  )),
                )),
              )),
            )),
          )),
        )),
      )),
    )),
  )

  all_known : AllByRecursion Its tests
  all_known = (
    (λ h c. refl, given_row hd r form),
    ((λ h c. refl, old_row hd r form), ((λ h c. refl, changed_row hd r form), others_known)),
  )

-- the first of both holds
first_of : (a b : Bool) → ((a && b) && true) ≡ true → a ≡ true
first_of true b is = refl
first_of false b is = is

-- a line that passes all has its cause
why : (h : Here) (b : Body) → all_of tests h b ≡ true → has_cause h b ≡ true
why h (body.Began l k u p) is = (and_parts (has_cause h (body.Began l k u p)) true is).0
why h (body.Ok l x op answer) is = first_of (has_cause h (body.Ok l x op answer)) (ok_is_free h (name l) x op) is
why h (body.Includes l x n) is = first_of (has_cause h (body.Includes l x n)) (include_is_free h (name l) x n) is
why h (body.Lost l n) is = (and_parts (has_cause h (body.Lost l n)) true is).0
why h (body.Committing l) is = (and_parts (has_cause h (body.Committing l)) true is).0
why h (body.Ended l) is = (and_parts (has_cause h (body.Ended l)) true is).0
why h (body.Lowered n u o) is = (and_parts (has_cause h (body.Lowered n u o)) true is).0
why h (body.Bound x b n) is = (and_parts (has_cause h (body.Bound x b n)) true is).0
why h (body.Active n x b) is = (and_parts (has_cause h (body.Active n x b)) true is).0
why h (body.Sent k from to carried) is = (and_parts (has_cause h (body.Sent k from to carried)) true is).0
why h (body.Got k) is = (and_parts (has_cause h (body.Got k)) true is).0
why h (body.Void k) is = (and_parts (has_cause h (body.Void k)) true is).0
why h (body.Dropped k) is = (and_parts (has_cause h (body.Dropped k)) true is).0
why h (body.Halted n) is = (and_parts (has_cause h (body.Halted n)) true is).0
why h (body.Up n i) is = (and_parts (has_cause h (body.Up n i)) true is).0
why h (body.Armed n) is = (and_parts (has_cause h (body.Armed n)) true is).0
why h (body.Recovered n u) is = (and_parts (has_cause h (body.Recovered n u)) true is).0
why h (body.Refused c) is = (and_parts (has_cause h (body.Refused c)) true is).0
why h (body.Entry x v servers stores) is = (and_parts (has_cause h (body.Entry x v servers stores)) true is).0
why h (body.Copy n x v u payload) is = (and_parts (has_cause h (body.Copy n x v u payload)) true is).0
why h (body.Quiet still) is = (and_parts (has_cause h (body.Quiet still)) true is).0
why h (body.Limit w) is = (and_parts (has_cause h (body.Limit w)) (not (is_ending (body.Limit w))) is).0
why h (body.Done n u q ending.Commit) is = (and_parts (has_cause h (body.Done n u q ending.Commit)) true is).0
why h (body.Done n u q ending.Abort) is = (and_parts (has_cause h (body.Done n u q ending.Abort)) true is).0
why h (body.Aborted l cause.Asked) is = (and_parts (has_cause h (body.Aborted l cause.Asked)) true is).0
why h (body.Aborted l cause.Doomed) is = (and_parts (has_cause h (body.Aborted l cause.Doomed)) true is).0
why h (body.Aborted l (cause.Lost n)) is = (and_parts (has_cause h (body.Aborted l (cause.Lost n))) true is).0
why h (body.Aborted l (cause.Conflict u m n)) is = (and_parts (has_cause h (body.Aborted l (cause.Conflict u m n))) true is).0
why h (body.Aborted l (cause.NoStores x)) is = (and_parts (has_cause h (body.Aborted l (cause.NoStores x))) true is).0
why h (body.Aborted l (cause.Listed x n)) is = (and_parts (has_cause h (body.Aborted l (cause.Listed x n))) true is).0
why h (body.Conflict l u mode n) is = (and_parts (answer_fits h (body.Conflict l u mode n)) true is).0
why h (body.Changed l n d) is = (and_parts (answer_fits h (body.Changed l n d)) true is).0
why h (body.Committed l) is = (and_parts (has_cause h (body.Committed l)) true is).0
why h (body.Aborted l (cause.Changed n d)) is = (and_parts (has_cause h (body.Aborted l (cause.Changed n d))) true is).0
why h (body.Aborted l (cause.Old n x v)) is = (and_parts (has_cause h (body.Aborted l (cause.Old n x v))) true is).0
why h (body.GaveUp l n) is = (and_parts (has_cause h (body.GaveUp l n)) true is).0
why h (body.Excluded l x n) is = (and_parts (has_cause h (body.Excluded l x n)) true is).0
why h (body.Prepared n u r) is = (and_parts (has_cause h (body.Prepared n u r)) true is).0
why h (body.Told n u e p) is = (and_parts (has_cause h (body.Told n u e p)) true is).0
why h (body.Bad n) is = absurd (cc is)
why h (body.Granted n u o mode) is = by (is_entry o) is
  where
    b : Body
    b = body.Granted n u o mode

    by : (e : Bool) → ((not (not e) || has_cause h b) && ((not e || has_cause h b) && true)) ≡ true → has_cause h b ≡ true
    by false k = (and_parts (has_cause h b) true k).0
    by true k = (and_parts (has_cause h b) true k).0

caused_too : (h : Here) (bs : List Body) → are_so has_cause h bs ≡ are_caused h bs
caused_too h [] = refl
caused_too h (b ∷ bs) = λ i. has_cause h b && caused_too (behind h b) bs i

pub lines_have_causes : (hd : Header) (r : Run hd) → IsInForm hd r → JHasCauses hd r.start (run_events hd r) (journal_by hd r)
lines_have_causes hd r form = runs_too
    (λ p e bs. Step hd p e bs × Passes hd r.start (run_events hd r) (journal_by hd r) (all_of tests) p e bs) (CausesStep hd)
    (λ p e bs x. sym (caused_too (here_at hd p e bs) bs) ∙ so_too (all_of tests) has_cause why (here_at hd p e bs) bs x.1) r.start
    (run_events hd r) (journal_by hd r)
    (known hd r.start (run_events hd r) (journal_by hd r) tests (all_known hd r form) (journals_follow hd r form))
