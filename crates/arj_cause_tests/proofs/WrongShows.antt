-- Shows behind a start that isn't fresh, ends that nodes are told of, and nodes that are given up: which lines of a kind don't pass the test of their row.
use Rattle.std.specs.Prelude.{◌≡◌, ◌+◌, ◌++◌, ℕ, Bool, List, [], ◌∷◌, length, refl, if◌then◌else◌}
use Rattle.arj_base.specs.declared.mode.End.TheVariants.{Abort, Commit}
use Rattle.arj_base.specs.declared.mode.Mode.TheVariants.{Exclude}
use Rattle.arj_class.specs.declared.value.Value.TheVariants as value
use Rattle.arj_journal.specs.declared.body.Body.{Body}
use Rattle.arj_journal.specs.declared.body.Body.TheVariants as body
use Rattle.arj_journal.specs.declared.body.Part.TheVariants as part
use Rattle.arj_journal.specs.declared.body.Role.TheVariants as role
use Rattle.arj_journal.specs.declared.event.Event.TheVariants as event
use Rattle.arj_journal.specs.declared.header.Header.{Header}
use Rattle.arj_model.specs.CauseSpans.{Here, behind, here_at}
use Rattle.arj_model.specs.Caused.{has_cause}
use Rattle.arj_model.specs.Past.{Past, at_start, next}
use Rattle.arj_start.specs.Start.{Start, fresh}
use Rattle.arj_law_cause.specs.kinds.Kinds.{is_abort_done, is_copy_shown, is_entry_shown, is_granted_entry, is_node_given_up, is_told}
use Rattle.arj_law_cause.specs.kinds.Rows.{tested}
use Rattle.arj_cause_tests.proofs.Words.{Run, Wrote, after, instead, l, lacking, nodes, object_line, run, u, without}
use Rattle.arj_cause_tests.proofs.Worked.{conflict, exclusion, lost_lock, naming_stopped, nested_abort, no_store_left, rebinding}
use Rattle.arj_cause_tests.proofs.Rarer.{conflict_pending}

-- the places of those lines of an event that don't pass a test, from 1
abbrev pub failing_in : (Here → Body → Bool) → Here → List Body → List ℕ
failing_in test h [] = []
failing_in test h (b ∷ rest) =
    if test h b then failing_in test (behind h b) rest else (length h.lines + 1) ∷ failing_in test (behind h b) rest

-- the same over events
abbrev pub failing_from : (Here → Body → Bool) → Header → Past → List Wrote → List ℕ
failing_from test header past [] = []
failing_from test header past (w ∷ rest) =
    failing_in test (here_at header past w.0 w.1) w.1 ++ failing_from test header (next past w.0 w.1) rest

-- the places of those lines of a run from this start
abbrev failing : (Here → Body → Bool) → (Body → Bool) → Start → Run → List ℕ
failing test of st r = failing_from (tested test (λ h. of)) r.header (at_start st) r.wrote

-- lines of an entry that aren't as the journal says, and of a copy, and of an end, from a start
abbrev entries : Start → Run → List ℕ
entries = failing has_cause is_entry_shown

abbrev copies : Start → Run → List ℕ
copies = failing has_cause is_copy_shown

abbrev tolds : Run → List ℕ
tolds = failing has_cause is_told fresh

-- nodes that giveups name without their cause
abbrev givens : Run → List ℕ
givens = failing has_cause is_node_given_up fresh

-- locks on entries that are granted without their cause
abbrev locked : Run → List ℕ
locked = failing has_cause is_granted_entry fresh

-- aborts that are done without their cause
abbrev undone : Run → List ℕ
undone = failing has_cause is_abort_done fresh

-- ---- a run that goes on: object 1 has its fourth entry, and stores hold its sixth state

-- the bytes of a counter
abbrev bytes : ℕ → List ℕ
bytes n = 0 ∷ 0 ∷ 0 ∷ 0 ∷ 0 ∷ 0 ∷ 0 ∷ n ∷ []

-- the marks of object 1
abbrev goes_on : Start
goes_on = record fresh {
  marks = record {
    entries = λ x. record { version = 3; writer = u 1 2 1 };
    states = λ x. record { version = 5; writer = u 1 2 4 };
  };
}

-- a show right after it began
abbrev shown : Run
shown = run (nodes 3 (object_line 1 (value.Counter 7) (1 ∷ []) (2 ∷ 3 ∷ []) ∷ [])) (
    (event.Show 1, body.Entry 1 3 (1 ∷ []) (2 ∷ 3 ∷ []) ∷ body.Copy 2 1 5 (u 1 2 4) (bytes 7) ∷ body.Copy 3 1 5 (u 1 2 4) (bytes 7) ∷ [])
    ∷ []
    )

shown_so : entries goes_on shown ++ copies goes_on shown ≡ []
shown_so = refl

-- where a run begins fresh its lines have no cause
shown_from_nothing : lacking shown ≡ 1 ∷ 2 ∷ 3 ∷ []
shown_from_nothing = refl

entry_version : entries goes_on (instead 1 (body.Entry 1 0 (1 ∷ []) (2 ∷ 3 ∷ [])) shown) ≡ 1 ∷ []
entry_version = refl

entry_stores : entries goes_on (instead 1 (body.Entry 1 3 (1 ∷ []) (2 ∷ [])) shown) ≡ 1 ∷ []
entry_stores = refl

entry_servers : entries goes_on (instead 1 (body.Entry 1 3 (2 ∷ []) (2 ∷ 3 ∷ [])) shown) ≡ 1 ∷ []
entry_servers = refl

entry_object : entries goes_on (instead 1 (body.Entry 2 3 (1 ∷ []) (2 ∷ 3 ∷ [])) shown) ≡ 1 ∷ []
entry_object = refl

copy_version : copies goes_on (instead 2 (body.Copy 2 1 0 (u 1 2 4) (bytes 7)) shown) ≡ 2 ∷ []
copy_version = refl

copy_writer : copies goes_on (instead 3 (body.Copy 3 1 5 (u 1 2 1) (bytes 7)) shown) ≡ 3 ∷ []
copy_writer = refl

copy_value : copies goes_on (instead 2 (body.Copy 2 1 5 (u 1 2 4) (bytes 8)) shown) ≡ 2 ∷ []
copy_value = refl

-- also where no entry is shown
copy_alone : copies goes_on (instead 1 (body.Halted 1) (instead 2 (body.Copy 2 1 0 (u 1 2 4) (bytes 7)) shown)) ≡ 2 ∷ []
copy_alone = refl

-- of a node that halted none stands
copy_down : copies goes_on (instead 1 (body.Halted 2) shown) ≡ 2 ∷ []
copy_down = refl

-- ---- a fresh run

exclusion_so : entries fresh exclusion ++ copies fresh exclusion ≡ []
exclusion_so = refl

entry_late : entries fresh (instead 34 (body.Entry 1 1 (1 ∷ []) (2 ∷ [])) exclusion) ≡ 34 ∷ []
entry_late = refl

copy_late : copies fresh (instead 34 (body.Copy 2 1 1 (u 1 1 1) (bytes 1)) exclusion) ≡ 34 ∷ []
copy_late = refl

-- ---- ends

tolds_so : tolds nested_abort ++ (tolds conflict ++ (tolds exclusion ++ (tolds rebinding ++ tolds lost_lock))) ≡ []
tolds_so = refl

told_commit : tolds (instead 41 (body.Told 3 (u 1 1 1) Commit part.Server) rebinding) ≡ 41 ∷ []
told_commit = refl

-- where the lock stands, its action open, no later one has it
told_abort : tolds (instead 12 (body.Told 1 (u 1 1 1) Abort part.Server) nested_abort) ≡ 12 ∷ 19 ∷ []
told_abort = refl

-- no lock is left at the server, and none at naming
told_nothing : tolds (after 26 (body.Told 2 (u 1 1 1) Abort part.Server ∷ []) lost_lock) ≡ 27 ∷ []
told_nothing = refl

told_no_entry : tolds (after 26 (body.Told 2 (u 1 1 1) Abort part.Naming ∷ []) lost_lock) ≡ 27 ∷ []
told_no_entry = refl

-- ---- giveups

givens_so : givens rebinding ++ (givens exclusion ++ (givens no_store_left ++ givens conflict_pending)) ≡ []
givens_so = refl

-- of another action; a node that wasn't asked; what asked it left out
given_action : givens (instead 14 (body.GaveUp (l 65) 2) rebinding) ≡ 14 ∷ []
given_action = refl

given_node : givens (instead 14 (body.GaveUp (l 78) 3) rebinding) ≡ 14 ∷ []
given_node = refl

given_unasked : givens (without 5 (without 12 rebinding)) ≡ 12 ∷ []
given_unasked = refl

-- of a commit: a store that wasn't asked, twice the same, and not rising
given_store : givens (without 14 exclusion) ≡ 19 ∷ []
given_store = refl

given_twice : givens (after 20 (body.GaveUp (l 65) 3 ∷ []) exclusion) ≡ 21 ∷ []
given_twice = refl

given_falling : givens (instead 15 (body.GaveUp (l 65) 3) (instead 16 (body.GaveUp (l 65) 2) no_store_left)) ≡ 16 ∷ []
given_falling = refl

-- its own node needs no frame
given_own : givens (instead 14 (body.GaveUp (l 78) 1) rebinding) ≡ []
given_own = refl

-- ---- locks that naming gives back

locked_so : locked naming_stopped ≡ []
locked_so = refl

-- twice, elsewhere, and against who has it
back_twice : locked (after 49 (body.Granted 1 (u 2 1 1) (u 0 1 1) Exclude ∷ []) naming_stopped) ≡ 50 ∷ []
back_twice = refl

back_elsewhere : locked (instead 49 (body.Granted 2 (u 2 1 1) (u 0 1 1) Exclude) naming_stopped) ≡ 49 ∷ []
back_elsewhere = refl

back_against : locked (after 49 (body.Granted 1 (u 3 1 1) (u 0 1 1) Exclude ∷ []) naming_stopped) ≡ 50 ∷ []
back_against = refl

-- on an entry that it neither used nor excluded a store of, and to nobody
back_unused : locked (instead 49 (body.Granted 1 (u 2 1 1) (u 0 1 2) Exclude) naming_stopped) ≡ 49 ∷ []
back_unused = refl

back_unbegun : locked (instead 49 (body.Granted 1 (u 2 1 2) (u 0 1 1) Exclude) naming_stopped) ≡ 49 ∷ []
back_unbegun = refl

undone_so : undone nested_abort ++ (undone conflict ++ (undone exclusion ++ undone rebinding)) ≡ []
undone_so = refl

undone_open : undone (after 17 (body.Done 2 (u 1 1 1) role.Store Abort ∷ []) exclusion) ≡ 18 ∷ []
undone_open = refl

undone_committed : undone (instead 31 (body.Done 2 (u 1 1 1) role.Store Abort) exclusion) ≡ 31 ∷ []
undone_committed = refl
