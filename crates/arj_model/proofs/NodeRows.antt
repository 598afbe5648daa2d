-- The definitions tried on worked runs with locks, messages and several nodes: what each event may write, and the lock
-- table of a node.
use Rattle.std.specs.Prelude.{◌≡◌, refl, ℕ, List, [], ◌∷◌, ◌++◌, ◌-◌, ◌==◌, if◌then◌else◌, map, take, drop, codes, true, Some, None}
use Rattle.std.proofs.Common.{arith, sym, inl, inr}
use Rattle.std.proofs.lemmas.Fmt.{decimal_digit}
use Rattle.arj_base.specs.declared.mode.Mode.{Mode}
use Rattle.arj_base.specs.declared.mode.Mode.TheVariants.{Read, Exclude, Write}
use Rattle.arj_base.specs.Uid.{object, entry}
use Rattle.arj_base.specs.Rows.{Row}
use Rattle.arj_class.specs.declared.op.Op.TheVariants.{Get, Add, Push}
use Rattle.arj_class.specs.declared.value.Value.TheVariants.{Counter}
use Rattle.arj_journal.specs.declared.body.Body.{Body}
use Rattle.arj_journal.specs.declared.body.Body.TheVariants as body
use Rattle.arj_journal.specs.declared.body.Cause.TheVariants as cause
use Rattle.arj_journal.specs.declared.body.Kind.TheVariants as kind
use Rattle.arj_journal.specs.declared.body.Part.TheVariants as part
use Rattle.arj_journal.specs.declared.body.Role.TheVariants as role
use Rattle.arj_base.specs.declared.mode.End.TheVariants.{Abort, Commit}
use Rattle.arj_journal.specs.declared.event.Event.{Event}
use Rattle.arj_journal.specs.declared.event.Event.TheVariants as event
use Rattle.arj_journal.specs.declared.event.FrameNo.TheVariants.{Number}
use Rattle.arj_journal.specs.declared.event.StopKind.TheVariants as stop
use Rattle.arj_model.specs.Follows.{Follows, Step}
use Rattle.arj_start.specs.Start.{fresh}
use Rattle.arj_model.specs.Table.{table}
use Rattle.arj_model.proofs.Journals.{A, B, C, D, N, S, uid, began, ok, told, prepared, on_entry, on_object, first_use, commit_end}
use Rattle.arj_model.proofs.Journals.{lines_of, one_node, three_nodes, nested_abort_bodies, serializing_bodies, smallest_bodies}
use Rattle.arj_model.proofs.Journals.{conflict_bodies, older_image_bodies, to_exclusion, stop_at_decision_done_bodies}
use Rattle.arj_model.proofs.Journals.{naming_stopped_bodies, rebinding_bodies, M, two_servers, uid_at, four_nodes}
use Rattle.arj_text.specs.Label.{name}
use Rattle.arj_model.proofs.Rows.{went, went_doomed, accepted, runs, ◌&◌}

-- rows of the only object and of its entry, by the numbers of actions on the path of the holder
abbrev locked : List ℕ → ℕ → Mode → Row
locked path tops m = record { object = object 1; holder = map uid path; tops = tops; mode = m }

abbrev named : List ℕ → ℕ → Mode → Row
named path tops m = record { object = entry 1; holder = map uid path; tops = tops; mode = m }

-- the table of a node after so many events
abbrev tables : ℕ → List (List Body) → List ℕ → List (List Row)
tables n blocks counts = map (λ k. table n (lines_of (take k blocks))) counts

-- The first use of an object leaves its entry read; a commit lets all go.
smallest_tables :
    tables 1 smallest_bodies (1 ∷ 2 ∷ 3 ∷ 5 ∷ 6 ∷ [])
    ≡ [] ∷ (named (1 ∷ []) 1 Read ∷ locked (1 ∷ []) 1 Write ∷ []) ∷ [] ∷ (named (2 ∷ []) 1 Read ∷ locked (2 ∷ []) 1 Read ∷ []) ∷ [] ∷ []
smallest_tables = refl

-- A refused call has its entry's lock.
conflict_tables :
    tables 1 conflict_bodies (4 ∷ 5 ∷ 6 ∷ 7 ∷ [])
    ≡ (named (1 ∷ []) 1 Read ∷ locked (1 ∷ []) 1 Write ∷ named (2 ∷ []) 1 Read ∷ [])
    ∷ (named (2 ∷ []) 1 Read ∷ []) ∷ (named (2 ∷ []) 1 Read ∷ locked (2 ∷ []) 1 Write ∷ []) ∷ [] ∷ []
conflict_tables = refl

-- A nested action holds by its whole path. Its abort drops its row alone.
nested_abort_tables :
    tables 1 nested_abort_bodies (4 ∷ 5 ∷ 7 ∷ [])
    ≡ (named (1 ∷ []) 1 Read ∷ locked (1 ∷ []) 1 Write ∷ locked (1 ∷ 2 ∷ []) 1 Write ∷ [])
    ∷ (named (1 ∷ []) 1 Read ∷ locked (1 ∷ []) 1 Write ∷ []) ∷ [] ∷ []
nested_abort_tables = refl

-- Its commit hands the row to the parent.
older_image_tables :
    tables 1 older_image_bodies (3 ∷ 4 ∷ 6 ∷ 7 ∷ 8 ∷ [])
    ≡ (named (1 ∷ []) 1 Read ∷ locked (1 ∷ 2 ∷ []) 1 Write ∷ [])
    ∷ (named (1 ∷ []) 1 Read ∷ locked (1 ∷ []) 1 Write ∷ [])
    ∷ (named (1 ∷ []) 1 Read ∷ locked (1 ∷ []) 1 Write ∷ locked (1 ∷ 3 ∷ []) 1 Write ∷ [])
    ∷ (named (1 ∷ []) 1 Read ∷ locked (1 ∷ []) 1 Write ∷ []) ∷ [] ∷ []
older_image_tables = refl

-- A constituent's locks pass to its serializing action, and go when that ends.
serializing_tables :
    tables 1 serializing_bodies (3 ∷ 4 ∷ 8 ∷ 9 ∷ 10 ∷ [])
    ≡ (named (1 ∷ 2 ∷ []) 2 Read ∷ locked (1 ∷ 2 ∷ []) 2 Write ∷ [])
    ∷ (named (1 ∷ []) 1 Read ∷ locked (1 ∷ []) 1 Write ∷ [])
    ∷ (named (1 ∷ []) 1 Read ∷ locked (1 ∷ []) 1 Write ∷ named (3 ∷ []) 1 Read ∷ locked (1 ∷ 4 ∷ []) 2 Write ∷ [])
    ∷ (named (1 ∷ []) 1 Read ∷ locked (1 ∷ []) 1 Write ∷ named (3 ∷ []) 1 Read ∷ []) ∷ (named (3 ∷ []) 1 Read ∷ []) ∷ []
serializing_tables = refl

-- An exclusion raises the entry's lock in its place; a halt lets all go.
exclusion_tables :
    tables 1 to_exclusion (3 ∷ 7 ∷ 8 ∷ []) ≡ (named (1 ∷ []) 1 Read ∷ locked (1 ∷ []) 1 Write ∷ []) ∷ [] ∷ [] ∷ []
exclusion_tables = refl

stop_at_decision_done_tables : tables 1 stop_at_decision_done_bodies (5 ∷ 6 ∷ 7 ∷ []) ≡ (named (1 ∷ []) 1 Read ∷ locked (1 ∷ []) 1 Write ∷ []) ∷ [] ∷ [] ∷ []
stop_at_decision_done_tables = refl

-- Naming gives an exclusion's lock back at its restart, with its holder alone, and lets it go at the commit.
abbrev at_two : ℕ → Mode → Row
at_two k m = record { object = entry 1; holder = uid_at k 1 ∷ []; tops = 1; mode = m }

naming_stopped_tables :
    tables 1 naming_stopped_bodies (3 ∷ 8 ∷ 9 ∷ 12 ∷ 16 ∷ 17 ∷ [])
    ≡ (at_two 2 Read ∷ []) ∷ (at_two 2 Exclude ∷ []) ∷ [] ∷ (at_two 2 Exclude ∷ []) ∷ (at_two 2 Exclude ∷ []) ∷ [] ∷ []
naming_stopped_tables = refl

naming_stopped_servers : tables 2 naming_stopped_bodies (3 ∷ 9 ∷ 10 ∷ []) ≡ (record {
  object = object 1;
  holder = uid_at 2 1 ∷ [];
  tops =
      1;
  mode = Write;
} ∷ []) ∷ (record { object = object 1; holder = uid_at 2 1 ∷ []; tops = 1; mode = Write } ∷ []) ∷ [] ∷ []
naming_stopped_servers = refl

-- What each event of these runs may write.

abbrev nested_abort_events : List Event
nested_abort_events =
    event.Begin A 1 ∷ event.Call A 1 (Add 4) ∷ event.BeginIn N A ∷ event.Call N 1 (Add 5) ∷ event.Abort N ∷ event.Call A 1 Get ∷ event.Commit A ∷ []

abbrev done : List ℕ
done = codes "done"

nested_abort_follows : Follows (one_node 0) fresh nested_abort_events (lines_of nested_abort_bodies)
nested_abort_follows = runs (Step (one_node 0)) nested_abort_events nested_abort_bodies [] (
    went refl (accepted (began A kind.Top 1 None ∷ []) [] [] refl refl refl refl tt)
    & went refl (accepted [] (first_use 1 ++ on_object 1 Write ∷ ok A (Add 4) done ∷ []) [] refl (inl refl) refl refl (tt & tt & tt & tt & tt & ((refl, refl), (Counter 0, refl, refl)) & tt))
    & went refl (accepted (began N kind.Nested 2 (Some A) ∷ []) [] [] (1, refl, refl) refl refl refl tt)
    & went refl (accepted [] (on_object 2 Write ∷ ok N (Add 5) done ∷ []) [] refl (inl refl) refl refl (tt & ((refl, refl), (Counter 4, refl, refl)) & tt))
    & went refl (accepted (body.Aborted N cause.Asked ∷ []) (told 2 Abort part.Server ∷ []) [] (refl, tt) (inl refl) refl refl (tt & tt))
    & went refl (accepted [] (ok A Get (codes "4") ∷ []) [] refl (inl refl) refl refl (((refl, refl), (Counter 4, refl, sym (decimal_digit 4 (omega arith)))) & tt))
    & went refl (accepted (body.Committing A ∷ []) (commit_end A 1) [] (inl refl) (inl refl) refl refl (tt & refl & tt & tt & tt & tt))
    & tt) tt

-- The commit of a nested action, and an abort of a top behind it.
abbrev older_image_events : List Event
older_image_events =
    event.Begin A 1 ∷ event.BeginIn C A ∷ event.Call C 1 (Add 1) ∷ event.Commit C ∷ event.BeginIn D A ∷ event.Call D 1 (Add 1) ∷ event.Commit D ∷ event.Abort A ∷ event.Begin B 1
    ∷ event.Call B 1 Get ∷ []

older_image_follows : Follows (one_node 7) fresh older_image_events (lines_of older_image_bodies)
older_image_follows = runs (Step (one_node 7)) older_image_events older_image_bodies [] (
    went refl (accepted (began A kind.Top 1 None ∷ []) [] [] refl refl refl refl tt)
    & went refl (accepted (began C kind.Nested 2 (Some A) ∷ []) [] [] (1, refl, refl) refl refl refl tt)
    & went refl (accepted [] (first_use 1 ++ on_object 2 Write ∷ ok C (Add 1) done ∷ []) [] refl (inl refl) refl refl (tt & tt & tt & tt & tt & ((refl, refl), (Counter 7, refl, refl)) & tt))
    & went refl (accepted (body.Committed C ∷ []) (told 2 Commit part.Server ∷ []) [] (inl refl) (inl refl) refl refl (tt & tt))
    & went refl (accepted (began D kind.Nested 3 (Some A) ∷ []) [] [] (1, refl, refl) refl refl refl tt)
    & went refl (accepted [] (on_object 3 Write ∷ ok D (Add 1) done ∷ []) [] refl (inl refl) refl refl (tt & ((refl, refl), (Counter 8, refl, refl)) & tt))
    & went refl (accepted (body.Committed D ∷ []) (told 3 Commit part.Server ∷ []) [] (inl refl) (inl refl) refl refl (tt & tt))
    & went refl (accepted (body.Aborted A cause.Asked ∷ []) (told 1 Abort part.Naming ∷ told 1 Abort part.Server ∷ []) [] (refl, tt) (inl refl) refl refl (tt & tt & tt))
    & went refl (accepted (began B kind.Top 4 None ∷ []) [] [] refl refl refl refl tt)
    & went refl (accepted [] (on_entry 4 Read ∷ on_object 4 Read ∷ ok B Get (codes "7") ∷ []) [] refl (inl refl) refl refl (tt & tt & ((refl, refl), (Counter 7, refl, sym (decimal_digit 7 (omega arith)))) & tt))
    & tt) tt

-- Constituents, and the end of their serializing action.
abbrev serializing_events : List Event
serializing_events =
    event.Serial S 1 ∷ event.BeginIn C S ∷ event.Call C 1 (Add 1) ∷ event.Commit C ∷ event.Begin B 1 ∷ event.Call B 1 Get ∷ event.BeginIn D S ∷ event.Call D 1 (Add 1) ∷ event.Commit D
    ∷ event.Abort S ∷ event.Call B 1 Get ∷ []

serializing_follows : Follows (one_node 0) fresh serializing_events (lines_of serializing_bodies)
serializing_follows = runs (Step (one_node 0)) serializing_events serializing_bodies [] (
    went refl (accepted (began S kind.Serial 1 None ∷ []) [] [] refl refl refl refl tt)
    & went refl (accepted (began C kind.Constituent 2 (Some S) ∷ []) [] [] (1, refl, refl) refl refl refl tt)
    & went refl (accepted [] (first_use 2 ++ on_object 2 Write ∷ ok C (Add 1) done ∷ []) [] refl (inl refl) refl refl (tt & tt & tt & tt & tt & ((refl, refl), (Counter 0, refl, refl)) & tt))
    & went refl (accepted (body.Committing C ∷ []) (commit_end C 2) [] (inl refl) (inl refl) refl refl (tt & refl & tt & tt & tt & tt))
    & went refl (accepted (began B kind.Top 3 None ∷ []) [] [] refl refl refl refl tt)
    & went refl (accepted [] (on_entry 3 Read ∷ body.Conflict B (uid 1) Write 1 ∷ []) [] refl (inl refl) refl refl (tt & refl & tt))
    & went refl (accepted (began D kind.Constituent 4 (Some S) ∷ []) [] [] (1, refl, refl) refl refl refl tt)
    & went refl (accepted [] (on_object 4 Write ∷ ok D (Add 1) done ∷ []) [] refl (inl refl) refl refl (tt & ((refl, refl), (Counter 1, refl, refl)) & tt))
    & went refl (accepted (body.Committing D ∷ [])
    (prepared 1 4 role.Store ∷ body.Committed D ∷ body.Done 1 (uid 4) role.Store Commit ∷ told 4 Commit part.Server ∷ []) [] (inl refl) (inl refl) refl refl (tt & refl & tt & tt & tt))
    & went refl (accepted (body.Aborted S cause.Asked ∷ []) (told 1 Abort part.Naming ∷ told 1 Abort part.Server ∷ []) [] (refl, tt) (inl refl) refl refl (tt & tt & tt))
    & went refl (accepted [] (on_object 3 Read ∷ ok B Get (codes "2") ∷ []) [] refl (inl refl) refl refl (tt & ((refl, refl), (Counter 2, refl, sym (decimal_digit 2 (omega arith)))) & tt))
    & tt) tt

-- Messages, a lost frame, a giveup, and what is shown.
abbrev pub exclusion_events : List Event
exclusion_events =
    event.Begin A 1 ∷ event.Call A 1 (Add 1) ∷ event.Settle ∷ event.Commit A ∷ event.Lose (Number 4) ∷ event.Settle ∷ event.GiveUp A ∷ event.Settle ∷ event.Show 1 ∷ []

-- the lines of the event with this number, and those of them behind the first
abbrev lines_at : List (List Body) → ℕ → List Body
lines_at [] n = []
lines_at (bodies ∷ rest) n = if n == 1 then bodies else lines_at rest (n - 1)

exclusion_follows : Follows three_nodes fresh exclusion_events (lines_of to_exclusion)
exclusion_follows = runs (Step three_nodes) exclusion_events to_exclusion [] (
    went refl (accepted (began A kind.Top 1 None ∷ []) [] [] refl refl refl refl tt)
    & went refl (accepted [] (lines_at to_exclusion 2) [] refl (inl refl) refl refl (tt & tt & refl & tt))
    & went refl (accepted [] (lines_at to_exclusion 3) [] refl (inl refl) refl refl (refl & refl & refl & tt & tt & tt & ((refl, refl), (Counter 0, refl, refl)) & tt))
    & went refl (accepted (body.Committing A ∷ []) (drop 1 (lines_at to_exclusion 4)) [] (inl refl) (inl refl) refl refl (refl & refl & tt))
    & went refl (accepted (body.Dropped 4 ∷ []) [] [] refl refl refl refl tt)
    & went refl (accepted [] (lines_at to_exclusion 6) [] refl (inl refl) refl refl (refl & tt & refl & refl & tt))
    & went refl (accepted (body.GaveUp A 3 ∷ []) (drop 1 (lines_at to_exclusion 7)) [] refl (inl refl) refl refl (tt & tt & tt & refl & refl & refl & tt & tt & tt & tt))
    & went refl (accepted [] (lines_at to_exclusion 8) [] refl (inl refl) refl refl (refl & tt & refl & refl & refl & tt))
    & went refl (accepted [] (lines_at to_exclusion 9) [] refl refl refl refl (tt & tt & tt & tt))
    & tt) tt

-- A stop inside a commit, a restart that finds the record, and a quiesce.
abbrev stop_at_decision_done_events : List Event
stop_at_decision_done_events =
    event.Begin A 1 ∷ event.Call A 1 (Add 1) ∷ event.Settle ∷ event.Commit A ∷ event.Stop 1 2 stop.Done ∷ event.Settle ∷ event.Restart 1 ∷ event.Quiesce ∷ event.Show 1 ∷ []

abbrev stopped : List (List Body)
stopped = stop_at_decision_done_bodies

stop_at_decision_done_follows : Follows three_nodes fresh stop_at_decision_done_events (lines_of stopped)
stop_at_decision_done_follows = runs (Step three_nodes) stop_at_decision_done_events stopped [] (
    went refl (accepted (began A kind.Top 1 None ∷ []) [] [] refl refl refl refl tt)
    & went refl (accepted [] (lines_at stopped 2) [] refl (inl refl) refl refl (tt & tt & refl & tt))
    & went refl (accepted [] (lines_at stopped 3) [] refl (inl refl) refl refl (refl & refl & refl & tt & tt & tt & ((refl, refl), (Counter 0, refl, refl)) & tt))
    & went refl (accepted (body.Committing A ∷ []) (drop 1 (lines_at stopped 4)) [] (inl refl) (inl refl) refl refl (refl & refl & tt))
    & went refl (accepted (body.Armed 1 ∷ []) [] [] refl refl refl refl tt)
    & went refl (accepted [] (lines_at stopped 6) [] refl (inl refl) refl refl (refl & tt & refl & refl & tt & refl & refl & refl & refl & tt))
    & went refl (accepted (body.Up 1 2 ∷ []) (drop 1 (lines_at stopped 7)) [] (inl (2, omega arith, refl)) (inl refl) refl refl (tt & refl & refl & refl & refl & tt))
    & went refl (accepted [] (take 10 (lines_at stopped 8)) (body.Quiet true ∷ []) refl (inl (true, refl)) refl refl (refl & tt & refl & refl & tt & refl & refl & refl & refl & refl & tt))
    & went refl (accepted [] (lines_at stopped 9) [] refl refl refl refl (tt & tt & tt & tt))
    & tt) tt

-- Deliveries one by one, and a crash.
abbrev naming_stopped_events : List Event
naming_stopped_events =
    event.Begin A 2 ∷ event.Call A 1 (Add 1) ∷ event.Settle ∷ event.Commit A ∷ event.Lose (Number 8) ∷ event.Settle ∷ event.GiveUp A ∷ event.Deliver (Number 10) ∷ event.Crash 1
    ∷ event.Deliver (Number 11) ∷ event.Settle ∷ event.Restart 1 ∷ event.Begin B 3 ∷ event.Call B 1 Get ∷ event.Deliver (Number 20) ∷ event.Deliver (Number 21) ∷ event.Quiesce ∷ event.Show 1 ∷ []

abbrev named_at : ℕ → List Body
named_at n = lines_at naming_stopped_bodies n

naming_stopped_follows : Follows four_nodes fresh naming_stopped_events (lines_of naming_stopped_bodies)
naming_stopped_follows = runs (Step four_nodes) naming_stopped_events naming_stopped_bodies [] (
    went refl (accepted (named_at 1) [] [] refl refl refl refl tt)
    & went refl (accepted [] (named_at 2) [] refl (inl refl) refl refl (refl & tt))
    & went refl (accepted [] (named_at 3) [] refl (inl refl) refl refl (refl & tt & tt & refl & refl & refl & refl & refl & refl & tt & refl & refl & tt & refl & refl & tt & ((refl, refl), (Counter 0, refl, refl)) & tt))
    & went refl (accepted (body.Committing A ∷ []) (drop 1 (named_at 4)) [] (inl refl) (inl refl) refl refl (refl & refl & tt))
    & went refl (accepted (named_at 5) [] [] refl refl refl refl tt)
    & went refl (accepted [] (named_at 6) [] refl (inl refl) refl refl (refl & tt & refl & refl & tt))
    & went refl (accepted (body.GaveUp A 4 ∷ []) (drop 1 (named_at 7)) [] refl (inl refl) refl refl (tt & refl & tt))
    & went refl (accepted (body.Got 10 ∷ []) (drop 1 (named_at 8)) [] (inl refl) (inl refl) refl refl (tt & tt & refl & tt))
    & went refl (accepted (named_at 9) [] [] refl refl refl refl tt)
    & went refl (accepted (body.Got 11 ∷ []) (drop 1 (named_at 10)) [] (inl refl) (inl refl) refl refl (refl & refl & refl & refl & tt & tt))
    & went refl (accepted [] (named_at 11) [] refl (inl refl) refl refl (refl & refl & tt & refl & refl & refl & tt))
    & went refl (accepted (body.Up 1 2 ∷ []) (drop 1 (named_at 12)) [] (inl (2, omega arith, refl)) (inl refl) refl refl (tt & refl & refl & refl & refl & tt))
    & went refl (accepted (named_at 13) [] [] refl refl refl refl tt)
    & went refl (accepted [] (named_at 14) [] refl (inl refl) refl refl (refl & tt))
    & went refl (accepted (body.Got 20 ∷ []) (drop 1 (named_at 15)) [] (inl refl) (inl refl) refl refl (refl & tt))
    & went refl (accepted (body.Got 21 ∷ []) (drop 1 (named_at 16)) [] (inl refl) (inl refl) refl refl (refl & tt))
    & went refl (accepted [] (take 10 (named_at 17)) (body.Quiet true ∷ []) refl (inl (true, refl)) refl refl (refl & refl & refl & refl & refl & refl & tt & tt & refl & refl & tt))
    & went refl (accepted [] (named_at 18) [] refl refl refl refl (tt & tt & tt & tt))
    & tt) tt

-- A doomed action takes no more, and is aborted at its commit.
abbrev rebinding_events : List Event
rebinding_events =
    event.Begin A 1 ∷ event.BeginIn N A ∷ event.Call N 1 (Add 1) ∷ event.Call A 1 Get ∷ event.Deliver (Number 1) ∷ event.Deliver (Number 2) ∷ event.Lose (Number 3) ∷ event.GiveUp N ∷ event.Call N 1 Get ∷ event.Commit N ∷ event.BeginIn M A ∷ event.Call M 1 (Push 1) ∷ event.Call M 1 (Add 1) ∷ event.Settle ∷ event.Commit M ∷ event.Commit A ∷ event.Settle ∷ []

abbrev rebound : ℕ → List Body
rebound n = lines_at rebinding_bodies n

rebinding_follows : Follows two_servers fresh rebinding_events (lines_of rebinding_bodies)
rebinding_follows = runs (Step two_servers) rebinding_events rebinding_bodies [] (
    went refl (accepted (take 1 (rebound 1)) (drop 1 (rebound 1)) [] refl refl refl refl (tt))
    & went refl (accepted (take 1 (rebound 2)) (drop 1 (rebound 2)) [] (1, refl, refl) refl refl refl (tt))
    & went refl (accepted [] (rebound 3) [] refl (inl refl) refl refl (tt & tt & refl & tt))
    & went refl refl
    & went refl (accepted (take 1 (rebound 5)) (drop 1 (rebound 5)) [] (inl refl) (inl refl) refl refl (tt & refl & tt))
    & went refl (accepted (take 1 (rebound 6)) (drop 1 (rebound 6)) [] (inl refl) (inl refl) refl refl (tt & refl & tt))
    & went refl (accepted (take 1 (rebound 7)) (drop 1 (rebound 7)) [] refl refl refl refl (tt))
    & went refl (accepted (take 1 (rebound 8)) (drop 1 (rebound 8)) [] refl (inl refl) refl refl (refl & tt))
    & went_doomed refl (record { label = name N; about = refl; lost = refl; lowest = refl; line = refl })
    & went refl (accepted (take 1 (rebound 10)) (drop 1 (rebound 10)) [] (inr (refl, refl, refl)) (inl refl) refl refl (refl & tt))
    & went refl (accepted (take 1 (rebound 11)) (drop 1 (rebound 11)) [] (1, refl, refl) refl refl refl (tt))
    & went refl refl
    & went refl (accepted [] (rebound 13) [] refl (inl refl) refl refl (tt & tt & refl & tt))
    & went refl (accepted [] (rebound 14) [] refl (inl refl) refl refl (refl & refl & tt & refl & refl & tt & refl & refl & tt & refl & refl & ((refl, refl), (Counter 0, refl, refl)) & tt))
    & went refl (accepted (take 1 (rebound 15)) (drop 1 (rebound 15)) [] (inl refl) (inl refl) refl refl (refl & tt))
    & went refl (accepted (take 1 (rebound 16)) (drop 1 (rebound 16)) [] (inl refl) (inl refl) refl refl (refl & tt))
    & went refl (accepted [] (rebound 17) [] refl (inl refl) refl refl (refl & tt & refl & refl & refl & tt & refl & refl & refl & tt & tt & refl & refl & tt & refl & refl & tt))
    & tt) tt
