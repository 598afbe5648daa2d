-- What each field of a journal's causes, and of its form, refuses: a line of an event behind those before it, and lines of whole runs
-- that are changed.
use Rattle.std.specs.Prelude.{◌≡◌, ◌++◌, ◌<◌, ◌^◌, refl, ℕ, List, [], ◌∷◌, Bool, None, codes}
use Rattle.std.proofs.Common.{arith}
use Rattle.arj_base.specs.declared.mode.Mode.TheVariants.{Exclude, Read, Write}
use Rattle.arj_base.specs.declared.mode.End.TheVariants.{Commit}
use Rattle.arj_class.specs.declared.op.Op.TheVariants as op
use Rattle.arj_class.specs.declared.value.Value.TheVariants as value
use Rattle.arj_journal.specs.declared.body.Body.{Body}
use Rattle.arj_journal.specs.declared.body.Body.TheVariants as body
use Rattle.arj_journal.specs.declared.body.Cause.TheVariants as cause
use Rattle.arj_journal.specs.declared.body.Difference.TheVariants as difference
use Rattle.arj_journal.specs.declared.body.FrameKind.TheVariants as frame
use Rattle.arj_journal.specs.declared.body.Kind.TheVariants as kind
use Rattle.arj_journal.specs.declared.body.Role.TheVariants as role
use Rattle.arj_journal.specs.declared.body.Which.TheVariants as which
use Rattle.arj_journal.specs.declared.event.Event.TheVariants as event
use Rattle.arj_model.specs.CauseSpans.{Here}
use Rattle.arj_model.specs.Past.{Past, nothing_yet}
use Rattle.arj_law_cause.specs.form.Form.{AreInForm}
use Rattle.arj_law_cause.specs.kinds.Kinds.{is_active, is_armed, is_bare_abort, is_bound, is_changed_abort, is_commit_done}
use Rattle.arj_law_cause.specs.kinds.Kinds.{is_committed, is_dropped, is_excluded}
use Rattle.arj_law_cause.specs.kinds.Kinds.{is_found, is_got, is_granted_entry, is_granted_object, is_halted, is_limit, is_listed_abort}
use Rattle.arj_law_cause.specs.kinds.Kinds.{is_lock_lowered, is_lost_commit, is_met_abort, is_old_abort, is_opening, is_prepared}
use Rattle.arj_law_cause.specs.kinds.Kinds.{is_quiet, is_sent}
use Rattle.arj_law_cause.specs.kinds.Kinds.{is_up, is_void}
use Rattle.arj_law_cause.specs.kinds.Rows.{row}
use Rattle.arj_law_cause.specs.rows.Lines.{answer_fits, is_exact}
use Rattle.arj_law_cause.specs.waits.replies.Ends.{RepliesStep}
use Rattle.arj_cause_tests.proofs.Words.{Run, after, b, end_from, instead, l, nodes, object_line, of_other_event, run, u, without}
use Rattle.arj_cause_tests.proofs.Worked.{conflict, exclusion, inclusion, lost_lock, naming_stopped, nested_abort, no_store_left}
use Rattle.arj_cause_tests.proofs.Worked.{rebinding}
use Rattle.arj_cause_tests.proofs.Worked.{stop_at_decision_done}
use Rattle.arj_cause_tests.proofs.Rare.{aborted_changed_bind, aborted_changed_included, aborted_changed_unit, aborted_conflict}
use Rattle.arj_cause_tests.proofs.Rare.{aborted_lost, aborted_old, changed_bind_naming, restarted_naming}
use Rattle.arj_cause_tests.proofs.Rarer.{changed_bind_server, changed_inc_naming, changed_inc_server, conflict_pending, conflict_unsaid}
use Rattle.arj_cause_tests.proofs.Rarer.{committed_unsaid, excluded_pending}
use Rattle.arj_cause_tests.proofs.WrongEvents.{begins, two_nodes}
use Rattle.arj_cause_tests.proofs.WrongShows.{failing_from}

-- `follows` is `Follows` of `arj_model`: `WrongRuns.antt` has journals that it refuses, by computation

-- ---- what calls are answered

-- behind the beginning of one action
abbrev begun : Past
begun = end_from nothing_yet (begins ∷ [])

-- `replies`: nobody waits for an answer
replies : RepliesStep two_nodes begun event.Settle (body.Ok (l 65) 1 (op.Add 1) (codes "done") ∷ []) → ⊥
replies s = s.0.0

-- ---- lines that don't pass a test

-- the places of the lines of a run that don't pass it
abbrev failing : (Here → Body → Bool) → Run → List ℕ
failing test r = failing_from test r.header nothing_yet r.wrote

-- those of one kind that lack their cause
abbrev failing_of : (Body → Bool) → Run → List ℕ
failing_of of r = failing (row (λ h. of)) r

-- `causes` of answers: another operation, a lock that isn't against the call, what was given up by nobody, another store, and no call
ok : failing answer_fits (instead 13 (body.Ok (l 65) 1 (op.Add 4) (codes "done")) nested_abort) ≡ 13 ∷ []
ok = refl

conflicts : failing answer_fits (instead 10 (body.Conflict (l 66) (u 1 1 1) Exclude 1) conflict) ≡ 10 ∷ []
conflicts = refl

-- `conflicts`: done while another's lock stands against the call, and a conflict behind its end
exact : failing is_exact conflict ≡ []
exact = refl

done_against : failing is_exact (instead 11 (body.Ok (l 66) 1 (op.Add 3) (codes "done"))
    (after 9 (body.Granted 1 (u 1 1 2) (u 0 0 1) Write ∷ []) conflict)) ≡ 11 ∷ []
done_against = refl

conflict_late : failing is_exact (instead 18 (body.Conflict (l 66) (u 1 1 1) Write 1) conflict) ≡ 18 ∷ []
conflict_late = refl

-- included while another top reads the entry
included_against : failing is_exact (after 38 (body.Granted 1 (u 1 1 1) (u 0 1 1) Read ∷ []) inclusion) ≡ 45 ∷ 72 ∷ []
included_against = refl

lost : failing answer_fits (without 14 rebinding) ≡ 14 ∷ []
lost = refl

includes : failing answer_fits (instead 44 (body.Includes (l 73) 1 2) inclusion) ≡ 44 ∷ []
includes = refl

changed : failing answer_fits (after 8 (body.Changed (l 66) 1 (difference.Inc 1 2) ∷ []) conflict) ≡ 9 ∷ 11 ∷ 19 ∷ []
changed = refl

-- nobody tells what changed
changed_untold : failing answer_fits (without 23 changed_bind_naming) ≡ 26 ∷ []
changed_untold = refl

-- of two copies the newer one is said first; and of two bindings naming made one alone
changed_order : failing answer_fits (instead 53 (body.Changed (l 84) 2 (difference.Bind (b 2 1) (b 1 1))) changed_bind_server) ≡ 53 ∷ []
changed_order = refl

changed_bound : failing answer_fits (instead 27 (body.Changed (l 68) 1 (difference.Bind (b 1 1) (b 2 2))) changed_bind_naming) ≡ 27 ∷ []
changed_bound = refl

-- a server was never in the new incarnation since the call, and naming neither
changed_later : failing answer_fits (instead 18 (body.Changed (l 65) 2 (difference.Inc 1 3)) changed_inc_server) ≡ 18 ∷ []
changed_later = refl

changed_before : failing answer_fits (instead 18 (body.Changed (l 65) 2 (difference.Inc 2 1)) changed_inc_server) ≡ 18 ∷ []
changed_before = refl

naming_later : failing answer_fits (instead 27 (body.Changed (l 76) 1 (difference.Inc 1 3)) changed_inc_naming) ≡ 27 ∷ []
naming_later = refl

naming_before : failing answer_fits (instead 27 (body.Changed (l 76) 1 (difference.Inc 2 1)) changed_inc_naming) ≡ 27 ∷ []
naming_before = refl

-- the root called for the object once alone, and another root was at naming in the old incarnation
changed_alone : failing answer_fits (of_other_event 3 (event.Include (l 69) 1 2) changed_bind_naming) ≡ 27 ∷ 34 ∷ []
changed_alone = refl

naming_other : failing answer_fits (instead 4 (body.Granted 1 (u 2 1 2) (u 0 1 1) Write) changed_inc_naming) ≡ 27 ∷ []
naming_other = refl

-- a store says a conflict: another one than loaded, and a lock that no store has
stores_conflict : failing answer_fits (instead 47 (body.Conflict (l 66) (u 2 1 1) Write 4) conflict_pending) ≡ 47 ∷ []
stores_conflict = refl

stores_lock : failing answer_fits (instead 47 (body.Conflict (l 66) (u 2 1 1) Exclude 3) conflict_pending) ≡ 47 ∷ []
stores_lock = refl

-- it names who began, but whose commit wasn't called
stores_holder : failing answer_fits (instead 47 (body.Conflict (l 66) (u 3 1 1) Write 3) conflict_pending) ≡ 47 ∷ []
stores_holder = refl

-- it names one that only read
stores_changed : failing answer_fits (instead 19 (body.Ok (l 65) 1 op.Get (codes "0")) conflict_pending) ≡ 19 ∷ 47 ∷ []
stores_changed = refl

-- a store stopped before the line of what it prepared
stores_unsaid : failing answer_fits conflict_unsaid ≡ []
stores_unsaid = refl

-- it was sent nothing to prepare, took another frame as it stopped, or crashed
stores_stopped : failing answer_fits (instead 21 (body.Sent 7 2 3 frame.Vote) conflict_unsaid) ≡ 53 ∷ []
stores_stopped = refl

stores_taking : failing answer_fits (instead 23 (body.Got 6) conflict_unsaid) ≡ 53 ∷ []
stores_taking = refl

stores_crashed : failing answer_fits (of_other_event 6 (event.Crash 3) conflict_unsaid) ≡ 53 ∷ []
stores_crashed = refl

-- nothing of it was prepared there
stores_pending : failing answer_fits (instead 31 (body.Prepared 3 (u 2 1 1) role.Names) conflict_pending) ≡ 47 ∷ []
stores_pending = refl

-- ---- what nodes do, and what goes between them

-- `openings`: no action begins, and no commit is called
openings : failing_of is_opening (of_other_event 1 event.Settle conflict) ≡ 1 ∷ []
openings = refl

no_commit_called : failing_of is_opening (of_other_event 5 event.Settle conflict) ≡ 11 ∷ []
no_commit_called = refl

-- `committed`: a nested action in another event, and a top before its commit is called
committed_apart : failing_of is_committed (of_other_event 15 event.Settle rebinding) ≡ 36 ∷ []
committed_apart = refl

committed_early : failing_of is_committed (after 37 (body.Committed (l 65) ∷ []) rebinding) ≡ 38 ∷ 47 ∷ []
committed_early = refl

-- a listed store hasn't prepared what it wrote: it said nothing, or it prepared at another node, for another action, or as naming
committed_unprepared : failing_of is_committed (without 17 exclusion) ≡ 23 ∷ []
committed_unprepared = refl

committed_elsewhere : failing_of is_committed (instead 17 (body.Prepared 3 (u 1 1 1) role.Store) exclusion) ≡ 24 ∷ []
committed_elsewhere = refl

committed_other : failing_of is_committed (instead 17 (body.Prepared 2 (u 1 1 2) role.Store) exclusion) ≡ 24 ∷ []
committed_other = refl

committed_names : failing_of is_committed (instead 17 (body.Prepared 2 (u 1 1 1) role.Names) exclusion) ≡ 24 ∷ []
committed_names = refl

-- before the commit was called it had
committed_before : failing_of is_committed (after 11 (body.Prepared 2 (u 1 1 1) role.Store ∷ []) (without 17 exclusion)) ≡ 24 ∷ []
committed_before = refl

-- nor has one that stopped, but was sent no Prepare, took another frame as it stopped, or one of an earlier event, or crashed; nor has it
-- where another node stopped
committed_unasked : failing_of is_committed (instead 13 (body.Sent 3 1 2 frame.Vote) committed_unsaid) ≡ 28 ∷ []
committed_unasked = refl

committed_taking : failing_of is_committed (instead 15 (body.Got 2) committed_unsaid) ≡ 28 ∷ []
committed_taking = refl

committed_untaken : failing_of is_committed (without 16 (after 14 (body.Got 3 ∷ []) committed_unsaid)) ≡ 28 ∷ []
committed_untaken = refl

committed_crashed : failing_of is_committed (of_other_event 6 (event.Crash 2) committed_unsaid) ≡ 28 ∷ []
committed_crashed = refl

committed_apart_stop : failing_of is_committed (instead 16 (body.Halted 3) committed_unsaid) ≡ 28 ∷ []
committed_apart_stop = refl

-- `armed`: nothing is armed
armed : failing_of is_armed (of_other_event 5 event.Settle stop_at_decision_done) ≡ 15 ∷ []
armed = refl

-- `halted`: another node crashes
halted : failing_of is_halted (run two_nodes ((event.Crash 1, body.Halted 2 ∷ []) ∷ [])) ≡ 1 ∷ []
halted = refl

-- `up`: no greater incarnation
up : failing_of is_up (instead 48 (body.Up 1 1) naming_stopped) ≡ 48 ∷ []
up = refl

-- `granted`: once more, to an action that didn't begin, and against another one's lock
granted_again : failing_of is_granted_object (after 18 (body.Granted 2 (u 2 1 1) (u 0 0 1) Write ∷ []) conflict_pending) ≡ 19 ∷ []
granted_again = refl

granted_early : failing_of is_granted_object (after 18 (body.Granted 2 (u 3 1 1) (u 0 0 1) Write ∷ []) conflict_pending) ≡ 19 ∷ []
granted_early = refl

granted_against : failing_of is_granted_object (after 29 (body.Granted 2 (u 3 1 1) (u 0 0 1) Read ∷ []) conflict_pending) ≡ 30 ∷ []
granted_against = refl

-- for no call that was accepted, of another mode, and in a restart
granted_uncalled : failing_of is_granted_object (after 8 (body.Granted 1 (u 1 1 2) (u 0 0 1) Write ∷ []) nested_abort) ≡ 9 ∷ 10 ∷ []
granted_uncalled = refl

granted_mode : failing_of is_granted_object (instead 12 (body.Granted 2 (u 1 1 1) (u 0 0 1) Write) lost_lock) ≡ 12 ∷ []
granted_mode = refl

granted_restarting : failing_of is_granted_object (after 17 (body.Granted 2 (u 1 1 1) (u 0 0 1) Read ∷ []) lost_lock) ≡ 18 ∷ []
granted_restarting = refl

-- `locked`: before a call was accepted, at another node, against another top's lock, to an action that is no top, and again
abbrev locked : Run → List ℕ
locked = failing_of is_granted_entry

locked_so : locked nested_abort ++ (locked conflict ++ (locked rebinding ++ (locked naming_stopped ++ locked exclusion))) ≡ []
locked_so = refl

locked_early : locked (after 1 (body.Granted 1 (u 1 1 1) (u 0 1 1) Write ∷ []) nested_abort) ≡ 2 ∷ 3 ∷ []
locked_early = refl

locked_elsewhere : locked (instead 2 (body.Granted 2 (u 1 1 1) (u 0 1 1) Write) nested_abort) ≡ 2 ∷ []
locked_elsewhere = refl

locked_against : locked (instead 9 (body.Granted 1 (u 1 1 2) (u 0 1 1) Write) conflict) ≡ 9 ∷ []
locked_against = refl

locked_below : locked (after 9 (body.Granted 1 (u 1 1 2) (u 0 1 1) Read ∷ []) nested_abort) ≡ 10 ∷ []
locked_below = refl

locked_again : locked (after 9 (body.Granted 1 (u 1 1 2) (u 0 1 1) Read ∷ []) conflict) ≡ 10 ∷ []
locked_again = refl

-- for no store that was excluded
locked_unmarked : locked (without 21 exclusion) ≡ 21 ∷ []
locked_unmarked = refl

-- `bound`: not the next binding, not the server in turn, and without a write lock
bound : failing_of is_bound (instead 3 (body.Bound 1 (b 1 2) 1) conflict) ≡ 3 ∷ []
bound = refl

bound_turn : failing_of is_bound (instead 22 (body.Bound 1 (b 1 2) 2) rebinding) ≡ 22 ∷ []
bound_turn = refl

bound_unlocked : failing_of is_bound (without 21 rebinding) ≡ 21 ∷ []
bound_unlocked = refl

-- `active`: never bound so, for another node, and not newer than the copy before
active : failing_of is_active (instead 4 (body.Active 1 1 (b 1 2)) conflict) ≡ 4 ∷ []
active = refl

active_elsewhere : failing_of is_active (instead 26 (body.Active 2 1 (b 1 2)) rebinding) ≡ 26 ∷ []
active_elsewhere = refl

active_again : failing_of is_active (after 4 (body.Active 1 1 (b 1 1) ∷ []) conflict) ≡ 5 ∷ []
active_again = refl

-- `lowered`: without a write lock, and before a copy was active
lowered : failing_of is_lock_lowered (after 5 (body.Lowered 1 (u 1 1 1) (u 0 1 1) ∷ []) conflict) ≡ 6 ∷ []
lowered = refl

lowered_early : failing_of is_lock_lowered (after 3 (body.Lowered 1 (u 1 1 1) (u 0 1 1) ∷ []) conflict) ≡ 4 ∷ 6 ∷ []
lowered_early = refl

-- `lost`: of another node than was given up, of no commit, and in another event
lost_node : failing_of is_lost_commit (instead 16 (body.Aborted (l 73) (cause.Lost 2)) aborted_lost) ≡ 16 ∷ []
lost_node = refl

lost_uncalled : failing_of is_lost_commit (without 12 aborted_lost) ≡ 15 ∷ []
lost_uncalled = refl

lost_unasked : failing_of is_lost_commit (of_other_event 5 event.Settle aborted_lost) ≡ 16 ∷ []
lost_unasked = refl

-- `included`: of commits that are refused another store than is listed, none that is listed so far, and one that the commit excludes
included_other : failing_of is_listed_abort (instead 78 (body.Aborted (l 74) (cause.Listed 1 2)) inclusion) ≡ 78 ∷ []
included_other = refl

included_early : failing_of is_listed_abort (instead 52 (body.Aborted (l 73) (cause.Listed 1 3)) inclusion) ≡ 52 ∷ 78 ∷ []
included_early = refl

included_excluded : failing_of is_listed_abort (after 77 (body.Excluded (l 74) 1 3 ∷ []) inclusion) ≡ 79 ∷ []
included_excluded = refl

-- `bare`: a listed store isn't excluded, and of another object
bare_kept : failing_of is_bare_abort (without 18 no_store_left) ≡ 18 ∷ []
bare_kept = refl

bare_other : failing_of is_bare_abort (instead 19 (body.Aborted (l 65) (cause.NoStores 2)) no_store_left) ≡ 19 ∷ []
bare_other = refl

-- `met`: another mode, another holder, the top itself, nobody, another node, no answer, and of an action that has excluded nothing
met_mode : failing_of is_met_abort (instead 76 (body.Aborted (l 66) (cause.Conflict (u 2 1 1) Write 1)) aborted_conflict) ≡ 76 ∷ []
met_mode = refl

met_holder : failing_of is_met_abort (instead 76 (body.Aborted (l 66) (cause.Conflict (u 4 1 1) Exclude 1)) aborted_conflict) ≡ 76 ∷ []
met_holder = refl

met_itself : failing_of is_met_abort (instead 76 (body.Aborted (l 66) (cause.Conflict (u 3 1 1) Read 1)) aborted_conflict) ≡ 76 ∷ []
met_itself = refl

met_nobody : failing_of is_met_abort (instead 76 (body.Aborted (l 66) (cause.Conflict (u 0 0 0) Write 1)) aborted_conflict) ≡ 76 ∷ []
met_nobody = refl

met_node : failing_of is_met_abort (instead 76 (body.Aborted (l 66) (cause.Conflict (u 2 1 1) Exclude 2)) aborted_conflict) ≡ 76 ∷ []
met_node = refl

met_silent : failing_of is_met_abort (instead 73 (body.Sent 25 1 3 frame.Acked) aborted_conflict) ≡ 76 ∷ []
met_silent = refl

met_nothing : failing_of is_met_abort (without 67 aborted_conflict) ≡ 75 ∷ []
met_nothing = refl

-- by its own run it is so
met_so : failing_of is_met_abort aborted_conflict ≡ []
met_so = refl

-- `aborted` with `old`: not so many writers, version zero, before any of them committed, no answer, no restart, one before the root
-- entered, one of another node, and where the root entered another object
old_many : failing_of is_old_abort (instead 111 (body.Aborted (l 76) (cause.Old 4 1 2)) aborted_old) ≡ 111 ∷ []
old_many = refl

old_none : failing_of is_old_abort (instead 111 (body.Aborted (l 76) (cause.Old 4 1 0)) aborted_old) ≡ 111 ∷ []
old_none = refl

old_early : failing_of is_old_abort (instead 86 (body.Aborted (l 87) (cause.Old 4 1 1)) aborted_old) ≡ 86 ∷ 111 ∷ []
old_early = refl

old_silent : failing_of is_old_abort (instead 108 (body.Sent 41 5 2 frame.Prepared) aborted_old) ≡ 111 ∷ []
old_silent = refl

old_unrestarted : failing_of is_old_abort (without 25 aborted_old) ≡ 110 ∷ []
old_unrestarted = refl

old_restarted_before : failing_of is_old_abort (after 2 (body.Up 1 2 ∷ []) (without 25 aborted_old)) ≡ 111 ∷ []
old_restarted_before = refl

old_restarted_beside : failing_of is_old_abort (instead 25 (body.Up 4 2) aborted_old) ≡ 111 ∷ []
old_restarted_beside = refl

old_entered_beside : failing_of is_old_abort (instead 4 (body.Granted 1 (u 2 1 1) (u 0 1 2) Write) aborted_old) ≡ 111 ∷ []
old_entered_beside = refl

-- by its own run it is so
old_so : failing_of is_old_abort aborted_old ≡ []
old_so = refl

-- `aborted` with `changed`, of a server: another incarnation than it has, its own twice, no answer, and one of a later life
voted_later : failing_of is_changed_abort (instead 25 (body.Aborted (l 65) (cause.Changed 2 (difference.Inc 1 3))) lost_lock) ≡ 25 ∷ []
voted_later = refl

voted_same : failing_of is_changed_abort (instead 25 (body.Aborted (l 65) (cause.Changed 2 (difference.Inc 2 2))) lost_lock) ≡ 25 ∷ []
voted_same = refl

voted_silent : failing_of is_changed_abort (instead 23 (body.Sent 7 2 1 frame.Invoked) lost_lock) ≡ 25 ∷ []
voted_silent = refl

voted_after : failing_of is_changed_abort (instead 17 (body.Up 2 3) lost_lock) ≡ 25 ∷ []
voted_after = refl

-- of naming: another node, and bindings, of which its answer to a Confirm says nothing
confirmed_other : failing_of is_changed_abort (instead 50 (body.Aborted (l 84) (cause.Changed 3 (difference.Inc 1 2))) restarted_naming) ≡ 50 ∷ []
confirmed_other = refl

confirmed_binding :
    failing_of is_changed_abort (instead 50 (body.Aborted (l 84) (cause.Changed 1 (difference.Bind (b 1 1) (b 2 1)))) restarted_naming) ≡ 50 ∷ []
confirmed_binding = refl

-- the root had not entered, and the later incarnation comes first
confirmed_unentered : failing_of is_changed_abort (instead 4 (body.Granted 1 (u 4 1 2) (u 0 1 1) Write) restarted_naming) ≡ 50 ∷ []
confirmed_unentered = refl

confirmed_backwards : failing_of is_changed_abort (instead 50 (body.Aborted (l 84) (cause.Changed 1 (difference.Inc 2 1))) restarted_naming) ≡ 50 ∷ []
confirmed_backwards = refl

-- a server had no copy in the earlier incarnation; and of two copies the newer one comes first, or never became active
voted_inactive : failing_of is_changed_abort (without 6 lost_lock) ≡ 24 ∷ []
voted_inactive = refl

bound_backwards : failing_of is_changed_abort (instead 69 (body.Aborted (l 84) (cause.Changed 2 (difference.Bind (b 2 1) (b 1 1)))) aborted_changed_bind)
    ≡ 69 ∷ []
bound_backwards = refl

bound_inactive : failing_of is_changed_abort (without 50 aborted_changed_bind) ≡ 68 ∷ []
bound_inactive = refl

-- of an object that the unit uses: no call of it was answered, or of another object; and where a constituent before used it, that one hasn't
-- committed, and is of another root; and the include was for another object
voted_unused : failing_of is_changed_abort (without 15 lost_lock) ≡ 24 ∷ []
voted_unused = refl

voted_beside : failing_of is_changed_abort (instead 15 (body.Ok (l 65) 2 op.Get (codes "0")) lost_lock) ≡ 25 ∷ []
voted_beside = refl

unit_unused : failing_of is_changed_abort (without 16 aborted_changed_unit) ≡ 36 ∷ []
unit_unused = refl

unit_uncommitted : failing_of is_changed_abort (without 22 aborted_changed_unit) ≡ 36 ∷ []
unit_uncommitted = refl

unit_of_another : failing_of is_changed_abort (instead 31 (body.Began (l 68) kind.Top (u 1 1 3) None) aborted_changed_unit) ≡ 37 ∷ []
unit_of_another = refl

unit_includes_beside : failing_of is_changed_abort (instead 7 (body.Includes (l 65) 2 3) aborted_changed_included) ≡ 24 ∷ []
unit_includes_beside = refl

-- by their own runs they are so
voted_so : failing_of is_changed_abort lost_lock ≡ []
voted_so = refl

bound_so : failing_of is_changed_abort aborted_changed_bind ≡ []
bound_so = refl

unit_so : failing_of is_changed_abort aborted_changed_unit ≡ []
unit_so = refl

confirmed_so : failing_of is_changed_abort restarted_naming ≡ []
confirmed_so = refl

-- `found`: in no restart
found : failing_of is_found (after 24 (body.Recovered 1 (u 1 1 1) ∷ []) stop_at_decision_done) ≡ 25 ∷ []
found = refl

-- `prepared`: before its commit was called, what no line says was written, where nothing was excluded, and at another node than naming's
prepared_early : failing_of is_prepared (after 11 (body.Prepared 2 (u 1 1 1) role.Store ∷ []) exclusion) ≡ 12 ∷ []
prepared_early = refl

prepared_unwritten : failing_of is_prepared (without 11 exclusion) ≡ 16 ∷ []
prepared_unwritten = refl

prepared_alike : failing_of is_prepared (without 21 exclusion) ≡ 22 ∷ []
prepared_alike = refl

prepared_elsewhere : failing_of is_prepared (instead 23 (body.Prepared 2 (u 1 1 1) role.Names) exclusion) ≡ 23 ∷ []
prepared_elsewhere = refl

-- `excluded`: what no line says was written, where its commit wasn't called, of another object, and behind its commit
excluded_unwritten : failing_of is_excluded (without 11 exclusion) ≡ 20 ∷ []
excluded_unwritten = refl

excluded_uncalled : failing_of is_excluded (without 12 exclusion) ≡ 20 ∷ []
excluded_uncalled = refl

excluded_another : failing_of is_excluded (instead 21 (body.Excluded (l 65) 2 3) exclusion) ≡ 21 ∷ []
excluded_another = refl

excluded_late : failing_of is_excluded (after 24 (body.Excluded (l 65) 1 2 ∷ []) exclusion) ≡ 25 ∷ []
excluded_late = refl

-- it has prepared, was given up by nobody, or was sent nothing to prepare
excluded_prepared : failing_of is_excluded (instead 21 (body.Excluded (l 65) 1 2) exclusion) ≡ 21 ∷ []
excluded_prepared = refl

excluded_kept : failing_of is_excluded (without 20 exclusion) ≡ 20 ∷ []
excluded_kept = refl

excluded_unsent : failing_of is_excluded (instead 14 (body.Sent 4 1 3 frame.Vote) exclusion) ≡ 21 ∷ []
excluded_unsent = refl

-- it had nothing of another action in doubt, answered somebody else, had nothing to doubt, or isn't a store of the object
excluded_undoubted : failing_of is_excluded (instead 71 (body.Excluded (l 85) 1 3) excluded_pending) ≡ 71 ∷ []
excluded_undoubted = refl

excluded_unanswered : failing_of is_excluded (instead 66 (body.Sent 22 4 1 frame.Prepared) excluded_pending)
    ≡ 71 ∷ []
excluded_unanswered = refl

excluded_unpending : failing_of is_excluded (without 43 excluded_pending) ≡ 70 ∷ []
excluded_unpending = refl

excluded_unstored : failing_of is_excluded
    (run (nodes 4 (object_line 1 (value.Counter 0) (2 ∷ []) (3 ∷ []) ∷ [])) (let r = excluded_pending in r.wrote)) ≡ 71 ∷ []
excluded_unstored = refl

-- `done`: it isn't committed
done : failing_of is_commit_done (after 17 (body.Done 2 (u 1 1 1) role.Store Commit ∷ []) exclusion) ≡ 18 ∷ []
done = refl

-- `sent`: not the next number
sent : failing_of is_sent (run two_nodes ((event.Settle, body.Sent 2 1 2 frame.Bind ∷ []) ∷ [])) ≡ 1 ∷ []
sent = refl

-- `got`: its receiver is down
got : failing_of is_got (instead 42 (body.Got 12) naming_stopped) ≡ 42 ∷ []
got = refl

-- `void`: its receiver is up, and takes it
void : failing_of is_void (instead 43 (body.Void 13) naming_stopped) ≡ 43 ∷ []
void = refl

-- `dropped`: it wasn't sent
dropped : failing_of is_dropped (instead 15 (body.Dropped 5) exclusion) ≡ 15 ∷ []
dropped = refl

-- `limit`: no frame was sent
limit : failing_of is_limit (run two_nodes ((event.Settle, body.Limit which.Frames ∷ []) ∷ [])) ≡ 1 ∷ []
limit = refl

-- `quiet`: an action waits
quiet : failing_of is_quiet (without 47 conflict_pending) ≡ 62 ∷ []
quiet = refl

-- `undone`, `told`, `entries` and `copies`: `WrongShows.antt`

-- ---- lines in form

-- an incarnation that has no 32 bits isn't in form
too_great : AreInForm (record { event = 1; body = body.Up 1 4294967296 } ∷ []) → ⊥
too_great all = let f = all.0 in let less : 4294967296 < 2 ^ 32 = f.1.1 in omega (arith, less)

-- nor is a count of bindings
too_many : AreInForm (record { event = 1; body = body.Bound 1 (record { inc = 1; count = 4294967296 }) 1 } ∷ []) → ⊥
too_many all = let f = all.0 in let less : 4294967296 < 2 ^ 32 = f.1.1.1 in omega (arith, less)

-- nor an entry that lists no store
bare : AreInForm (record { event = 1; body = body.Entry 1 0 (1 ∷ []) [] } ∷ []) → ⊥
bare all = let f = all.0 in cc f.1.3
