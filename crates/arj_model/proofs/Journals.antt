-- Worked runs as journals, line for line: what they must show is known, so they try the definitions.
use Rattle.std.specs.Prelude.{refl, ℕ, ◌+◌, List, [], ◌∷◌, ◌++◌, replicate, codes, true, Option, Some, None}
use Rattle.std.proofs.Common.{arith}
use Rattle.arj_base.specs.declared.uid.Uid.{Uid}
use Rattle.arj_base.specs.declared.binding.Binding.{Binding}
use Rattle.arj_base.specs.declared.mode.Mode.{Mode}
use Rattle.arj_base.specs.declared.mode.Mode.TheVariants.{Read, Exclude, Write}
use Rattle.arj_base.specs.declared.mode.End.{End}
use Rattle.arj_base.specs.declared.state.Format.TheVariants as format
use Rattle.arj_base.specs.declared.mode.End.TheVariants.{Abort, Commit}
use Rattle.arj_base.specs.Uid.{object, entry, nobody}
use Rattle.arj_class.specs.declared.op.Op.{Op}
use Rattle.arj_class.specs.declared.op.Op.TheVariants.{Get, Add}
use Rattle.arj_class.specs.declared.value.Value.TheVariants.{Counter}
use Rattle.arj_text.specs.declared.label.Label.{Label}
use Rattle.arj_journal.specs.declared.body.Body.{Body}
use Rattle.arj_journal.specs.declared.body.Body.TheVariants as body
use Rattle.arj_journal.specs.declared.body.Cause.TheVariants as cause
use Rattle.arj_journal.specs.declared.body.FrameKind.{FrameKind}
use Rattle.arj_journal.specs.declared.body.FrameKind.TheVariants as frame
use Rattle.arj_journal.specs.declared.body.Kind.{Kind}
use Rattle.arj_journal.specs.declared.body.Kind.TheVariants as kind
use Rattle.arj_journal.specs.declared.body.Line.{Line}
use Rattle.arj_journal.specs.declared.body.Part.{Part}
use Rattle.arj_journal.specs.declared.body.Part.TheVariants as part
use Rattle.arj_journal.specs.declared.body.Role.{Role}
use Rattle.arj_journal.specs.declared.body.Role.TheVariants as role
use Rattle.arj_journal.specs.declared.header.Header.{Header}
use Rattle.arj_model.specs.Past.{block}

-- Words for journals.

-- a label of one letter
abbrev pub letter : ℕ → Label
letter b = record { len = 1; text = b ∷ replicate 15 0; whole = refl; short = omega arith; zeros = refl }

abbrev pub uid : ℕ → Uid
uid k = record { node = 1; inc = 1; num = k }

abbrev pub A : Label
A = letter 65

abbrev pub B : Label
B = letter 66

abbrev pub C : Label
C = letter 67

abbrev pub D : Label
D = letter 68

abbrev pub M : Label
M = letter 77

abbrev pub N : Label
N = letter 78

abbrev pub I : Label
I = letter 73

abbrev pub J : Label
J = letter 74

abbrev pub S : Label
S = letter 83

abbrev pub T : Label
T = letter 84

-- the lines of each event, from the first on
abbrev pub lines_from : ℕ → List (List Body) → List Line
lines_from n [] = []
lines_from n (bodies ∷ rest) = block n bodies ++ lines_from (n + 1) rest

abbrev pub lines_of : List (List Body) → List Line
lines_of events = lines_from 1 events

abbrev pub began : Label → Kind → ℕ → Option Label → Body
began l k n p = body.Began l k (uid n) p

abbrev pub ok : Label → Op → List ℕ → Body
ok l op answer = body.Ok l 1 op answer

-- the payload of a counter below 256
abbrev pub counter : ℕ → List ℕ
counter n = replicate 7 0 ++ n ∷ []

abbrev pub on_entry : ℕ → Mode → Body
on_entry k m = body.Granted 1 (uid k) (entry 1) m

abbrev pub on_object : ℕ → Mode → Body
on_object k m = body.Granted 1 (uid k) (object 1) m

abbrev pub first_binding : Binding
first_binding = record { inc = 1; count = 1 }

-- the first use of the object on one node
abbrev pub first_use : ℕ → List Body
first_use k = on_entry k Write ∷ body.Bound 1 first_binding 1 ∷ body.Active 1 1 first_binding ∷ body.Lowered 1 (uid k) (entry 1) ∷ []

abbrev pub told : ℕ → End → Part → Body
told k end p = body.Told 1 (uid k) end p

abbrev pub prepared : ℕ → ℕ → Role → Body
prepared n k r = body.Prepared n (uid k) r

abbrev pub done : ℕ → ℕ → Role → End → Body
done n k r end = body.Done n (uid k) r end

abbrev pub sent : ℕ → ℕ → ℕ → FrameKind → Body
sent k m n f = body.Sent k m n f

-- the end of a commit on one node, behind `committing`
abbrev pub commit_end : Label → ℕ → List Body
commit_end l k =
    prepared 1 k role.Store ∷ body.Committed l ∷ done 1 k role.Store Commit ∷ told k Commit part.Naming ∷ told k Commit part.Server ∷ []

abbrev pub smallest_bodies : List (List Body)
smallest_bodies =
    (began A kind.Top 1 None ∷ [])
    ∷ (first_use 1 ++ on_object 1 Write ∷ ok A (Add 5) (codes "done") ∷ [])
    ∷ (body.Committing A ∷ commit_end A 1)
    ∷ (began B kind.Top 2 None ∷ [])
    ∷ (on_entry 2 Read ∷ on_object 2 Read ∷ ok B Get (codes "5") ∷ [])
    ∷ (body.Committing B ∷ body.Committed B ∷ told 2 Commit part.Naming ∷ told 2 Commit part.Server ∷ [])
    ∷ []

abbrev pub smallest : List Line
smallest = lines_of smallest_bodies

abbrev pub conflict_bodies : List (List Body)
conflict_bodies =
    (began A kind.Top 1 None ∷ [])
    ∷ (first_use 1 ++ on_object 1 Write ∷ ok A (Add 2) (codes "done") ∷ [])
    ∷ (began B kind.Top 2 None ∷ [])
    ∷ (on_entry 2 Read ∷ body.Conflict B (uid 1) Write 1 ∷ [])
    ∷ (body.Committing A ∷ commit_end A 1)
    ∷ (on_object 2 Write ∷ ok B (Add 3) (codes "done") ∷ [])
    ∷ (body.Committing B ∷ commit_end B 2)
    ∷ (body.Entry 1 0 (1 ∷ []) (1 ∷ []) ∷ body.Copy 1 1 2 (uid 2) (counter 5) ∷ [])
    ∷ []

abbrev pub conflict : List Line
conflict = lines_of conflict_bodies

abbrev pub nested_abort_bodies : List (List Body)
nested_abort_bodies =
    (began A kind.Top 1 None ∷ [])
    ∷ (first_use 1 ++ on_object 1 Write ∷ ok A (Add 4) (codes "done") ∷ [])
    ∷ (began N kind.Nested 2 (Some A) ∷ [])
    ∷ (on_object 2 Write ∷ ok N (Add 5) (codes "done") ∷ [])
    ∷ (body.Aborted N cause.Asked ∷ told 2 Abort part.Server ∷ [])
    ∷ (ok A Get (codes "4") ∷ [])
    ∷ (body.Committing A ∷ commit_end A 1)
    ∷ []

abbrev pub nested_abort : List Line
nested_abort = lines_of nested_abort_bodies

abbrev pub older_image_bodies : List (List Body)
older_image_bodies =
    (began A kind.Top 1 None ∷ [])
    ∷ (began C kind.Nested 2 (Some A) ∷ [])
    ∷ (first_use 1 ++ on_object 2 Write ∷ ok C (Add 1) (codes "done") ∷ [])
    ∷ (body.Committed C ∷ told 2 Commit part.Server ∷ [])
    ∷ (began D kind.Nested 3 (Some A) ∷ [])
    ∷ (on_object 3 Write ∷ ok D (Add 1) (codes "done") ∷ [])
    ∷ (body.Committed D ∷ told 3 Commit part.Server ∷ [])
    ∷ (body.Aborted A cause.Asked ∷ told 1 Abort part.Naming ∷ told 1 Abort part.Server ∷ [])
    ∷ (began B kind.Top 4 None ∷ [])
    ∷ (on_entry 4 Read ∷ on_object 4 Read ∷ ok B Get (codes "7") ∷ [])
    ∷ []

abbrev pub older_image : List Line
older_image = lines_of older_image_bodies

abbrev pub independent_bodies : List (List Body)
independent_bodies =
    (began A kind.Top 1 None ∷ [])
    ∷ (first_use 1 ++ on_object 1 Read ∷ ok A Get (codes "0") ∷ [])
    ∷ (began T kind.Independent 2 (Some A) ∷ [])
    ∷ (on_entry 2 Read ∷ body.Conflict T (uid 1) Read 1 ∷ [])
    ∷ (body.Aborted T cause.Asked ∷ told 2 Abort part.Naming ∷ [])
    ∷ []

abbrev pub independent : List Line
independent = lines_of independent_bodies

abbrev pub serializing_bodies : List (List Body)
serializing_bodies =
    (began S kind.Serial 1 None ∷ [])
    ∷ (began C kind.Constituent 2 (Some S) ∷ [])
    ∷ (first_use 2 ++ on_object 2 Write ∷ ok C (Add 1) (codes "done") ∷ [])
    ∷ (body.Committing C ∷ commit_end C 2)
    ∷ (began B kind.Top 3 None ∷ [])
    ∷ (on_entry 3 Read ∷ body.Conflict B (uid 1) Write 1 ∷ [])
    ∷ (began D kind.Constituent 4 (Some S) ∷ [])
    ∷ (on_object 4 Write ∷ ok D (Add 1) (codes "done") ∷ [])
    ∷ (body.Committing D ∷ prepared 1 4 role.Store ∷ body.Committed D ∷ done 1 4 role.Store Commit ∷ told 4 Commit part.Server ∷ [])
    ∷ (body.Aborted S cause.Asked ∷ told 1 Abort part.Naming ∷ told 1 Abort part.Server ∷ [])
    ∷ (on_object 3 Read ∷ ok B Get (codes "2") ∷ [])
    ∷ []

abbrev pub serializing : List Line
serializing = lines_of serializing_bodies

-- Three nodes, the server at 1 and the stores at 2 and 3: a call of A, and its commit up to the prepares.
abbrev pub to_prepares : List (List Body)
to_prepares =
    (began A kind.Top 1 None ∷ [])
    ∷ (on_entry 1 Write ∷ body.Bound 1 first_binding 1 ∷ sent 1 1 2 frame.Load ∷ [])
    ∷ (body.Got 1 ∷ sent 2 2 1 frame.Loaded ∷ body.Got 2 ∷ body.Active 1 1 first_binding ∷ body.Lowered 1 (uid 1) (entry 1) ∷ on_object 1 Write ∷ ok A (Add 1) (codes "done") ∷ [])
    ∷ (body.Committing A ∷ sent 3 1 2 frame.Prepare ∷ sent 4 1 3 frame.Prepare ∷ [])
    ∷ []

abbrev pub to_exclusion : List (List Body)
to_exclusion = to_prepares ++ (
    (body.Dropped 4 ∷ [])
    ∷ (body.Got 3 ∷ prepared 2 1 role.Store ∷ sent 5 2 1 frame.Prepared ∷ body.Got 5 ∷ [])
    ∷ (body.GaveUp A 3 ∷ body.Excluded A 1 3 ∷ on_entry 1 Exclude ∷ prepared 1 1 role.Names ∷ body.Committed A ∷ sent 6 1 2 frame.Told ∷ sent 7 1 3 frame.Told
    ∷ done 1 1 role.Names Commit ∷ told 1 Commit part.Naming ∷ told 1 Commit part.Server ∷ [])
    ∷ (body.Got 6 ∷ done 2 1 role.Store Commit ∷ sent 8 2 1 frame.Acked ∷ body.Got 7 ∷ body.Got 8 ∷ [])
    ∷ (body.Entry 1 1 (1 ∷ []) (2 ∷ []) ∷ body.Copy 2 1 1 (uid 1) (counter 1) ∷ body.Copy 3 1 0 nobody (counter 0) ∷ [])
    ∷ [])

abbrev pub exclusion : List Line
exclusion = lines_of to_exclusion

abbrev pub to_inclusion : List (List Body)
to_inclusion = to_exclusion ++ (
    (began I kind.Top 2 None ∷ [])
    ∷ (on_entry 2 Write ∷ sent 9 1 2 frame.Load ∷ [])
    ∷ (body.Got 9 ∷ sent 10 2 1 frame.Loaded ∷ body.Got 10 ∷ body.Includes I 1 3 ∷ [])
    ∷ (body.Committing I ∷ sent 11 1 3 frame.Prepare ∷ [])
    ∷ (body.Got 11 ∷ prepared 3 2 role.Store ∷ sent 12 3 1 frame.Prepared ∷ body.Got 12 ∷ prepared 1 2 role.Names ∷ body.Committed I ∷ sent 13 1 2 frame.Told ∷ sent 14 1 3 frame.Told
    ∷ done 1 2 role.Names Commit ∷ told 2 Commit part.Naming ∷ body.Got 13 ∷ body.Got 14 ∷ done 3 2 role.Store Commit ∷ sent 15 3 1 frame.Acked ∷ body.Got 15 ∷ [])
    ∷ (body.Entry 1 2 (1 ∷ []) (2 ∷ 3 ∷ []) ∷ body.Copy 2 1 1 (uid 1) (counter 1) ∷ body.Copy 3 1 1 (uid 1) (counter 1) ∷ [])
    ∷ [])

abbrev pub inclusion : List Line
inclusion = lines_of (to_inclusion ++ (
    (began J kind.Top 3 None ∷ [])
    ∷ (on_entry 3 Write ∷ sent 16 1 2 frame.Load ∷ [])
    ∷ (body.Got 16 ∷ sent 17 2 1 frame.Loaded ∷ body.Got 17 ∷ body.Includes J 1 3 ∷ [])
    ∷ (body.Committing J ∷ sent 18 1 3 frame.Prepare ∷ [])
    ∷ (body.Got 18 ∷ prepared 3 3 role.Store ∷ sent 19 3 1 frame.Prepared ∷ body.Got 19 ∷ body.Aborted J (cause.Listed 1 3) ∷ sent 20 1 2 frame.Told ∷ sent 21 1 3 frame.Told
    ∷ told 3 Abort part.Naming ∷ body.Got 20 ∷ body.Got 21 ∷ done 3 3 role.Store Abort ∷ [])
    ∷ []))

abbrev pub stop_at_decision_done_bodies : List (List Body)
stop_at_decision_done_bodies = to_prepares ++ (
    (body.Armed 1 ∷ [])
    ∷ (body.Got 3 ∷ prepared 2 1 role.Store ∷ sent 5 2 1 frame.Prepared ∷ body.Got 4 ∷ prepared 3 1 role.Store ∷ sent 6 3 1 frame.Prepared ∷ body.Got 5 ∷ body.Got 6 ∷ body.Halted 1 ∷ [])
    ∷ (body.Up 1 2 ∷ body.Recovered 1 (uid 1) ∷ sent 7 1 2 frame.Told ∷ sent 8 1 3 frame.Told ∷ sent 9 1 2 frame.Hello ∷ sent 10 1 3 frame.Hello ∷ [])
    ∷ (body.Got 7 ∷ done 2 1 role.Store Commit ∷ sent 11 2 1 frame.Acked ∷ body.Got 8 ∷ done 3 1 role.Store Commit ∷ sent 12 3 1 frame.Acked ∷ body.Got 9 ∷ body.Got 10 ∷ body.Got 11
    ∷ body.Got 12 ∷ body.Quiet true ∷ [])
    ∷ (body.Entry 1 0 (1 ∷ []) (2 ∷ 3 ∷ []) ∷ body.Copy 2 1 1 (uid 1) (counter 1) ∷ body.Copy 3 1 1 (uid 1) (counter 1) ∷ [])
    ∷ [])

abbrev pub stop_at_decision_done : List Line
stop_at_decision_done = lines_of stop_at_decision_done_bodies

abbrev pub one_node : ℕ → Header
one_node v = record { nodes = 1; objects = record { x = 1; value = Counter v; servers = 1 ∷ []; stores = 1 ∷ [] } ∷ []; format = format.Two }

abbrev pub three_nodes : Header
three_nodes = record { nodes = 3; objects = record { x = 1; value = Counter 0; servers = 1 ∷ []; stores = 2 ∷ 3 ∷ [] } ∷ []; format = format.Two }

-- Not worked by hand elsewhere: B's commit is called between those of the two constituents of S.
abbrev pub unit_round_a_top : List Line
unit_round_a_top = lines_of (
    (began S kind.Serial 1 None ∷ [])
    ∷ (began C kind.Constituent 2 (Some S) ∷ [])
    ∷ (body.Ok C 1 (Add 1) (codes "done") ∷ [])
    ∷ (body.Committing C ∷ body.Committed C ∷ [])
    ∷ (began B kind.Top 3 None ∷ body.Ok B 2 Get (codes "0") ∷ body.Committing B ∷ body.Committed B ∷ [])
    ∷ (began D kind.Constituent 4 (Some S) ∷ began N kind.Nested 5 (Some D) ∷ began T kind.Nested 6 (Some N) ∷ [])
    ∷ (body.Ok T 1 (Add 1) (codes "done") ∷ body.Committed T ∷ body.Aborted N cause.Asked ∷ body.Ok D 1 Get (codes "1") ∷ [])
    ∷ (body.Committing D ∷ body.Committed D ∷ [])
    ∷ [])

-- Includes of a top: one below a commit, one below an abort, one of a store that it also excludes, and one twice.
abbrev pub many_includes : List Line
many_includes = lines_of (
    (began A kind.Top 1 None ∷ body.Includes A 1 5 ∷ body.Includes A 1 4 ∷ body.Includes A 2 1 ∷ [])
    ∷ (began N kind.Nested 2 (Some A) ∷ body.Includes N 1 1 ∷ body.Includes N 1 5 ∷ body.Committed N ∷ [])
    ∷ (began C kind.Nested 3 (Some A) ∷ body.Includes C 1 6 ∷ body.Aborted C cause.Asked ∷ [])
    ∷ (body.Committing A ∷ body.Excluded A 1 2 ∷ body.Excluded A 1 4 ∷ body.Committed A ∷ [])
    ∷ [])

-- Four nodes, naming at 1, the server at 2 and the stores at 3 and 4: naming is stopped while an exclusion is in doubt.
abbrev pub uid_at : ℕ → ℕ → Uid
uid_at n k = record { node = n; inc = 1; num = k }

abbrev pub two_servers : Header
two_servers = record { nodes = 3; objects = record { x = 1; value = Counter 0; servers = 2 ∷ 3 ∷ []; stores = 1 ∷ [] } ∷ []; format = format.Two }

abbrev pub four_nodes : Header
four_nodes = record { nodes = 4; objects = record { x = 1; value = Counter 0; servers = 2 ∷ []; stores = 3 ∷ 4 ∷ [] } ∷ []; format = format.Two }

abbrev pub naming_stopped_bodies : List (List Body)
naming_stopped_bodies =
    (body.Began A kind.Top (uid_at 2 1) None ∷ [])
    ∷ (sent 1 2 1 frame.Bind ∷ [])
    ∷ (body.Got 1 ∷ body.Granted 1 (uid_at 2 1) (entry 1) Write ∷ body.Bound 1 first_binding 2 ∷ sent 2 1 2 frame.Bound ∷ body.Got 2 ∷ sent 3 2 3 frame.Load ∷ body.Got 3 ∷ sent 4 3 2 frame.Loaded ∷ body.Got 4 ∷ body.Active 2 1 first_binding ∷ sent 5 2 1 frame.Record ∷ body.Got 5 ∷ body.Lowered 1 (uid_at 2 1) (entry 1) ∷ sent 6 1 2 frame.Recorded ∷ body.Got 6 ∷ body.Granted 2 (uid_at 2 1) (object 1) Write ∷ ok A (Add 1) (codes "done") ∷ [])
    ∷ (body.Committing A ∷ sent 7 2 3 frame.Prepare ∷ sent 8 2 4 frame.Prepare ∷ [])
    ∷ (body.Dropped 8 ∷ [])
    ∷ (body.Got 7 ∷ body.Prepared 3 (uid_at 2 1) role.Store ∷ sent 9 3 2 frame.Prepared ∷ body.Got 9 ∷ [])
    ∷ (body.GaveUp A 4 ∷ body.Excluded A 1 4 ∷ sent 10 2 1 frame.Confirm ∷ [])
    ∷ (body.Got 10 ∷ body.Granted 1 (uid_at 2 1) (entry 1) Exclude ∷ body.Prepared 1 (uid_at 2 1) role.Names ∷ sent 11 1 2 frame.Confirmed ∷ [])
    ∷ (body.Halted 1 ∷ [])
    ∷ (body.Got 11 ∷ body.Committed A ∷ sent 12 2 1 frame.Told ∷ sent 13 2 3 frame.Told ∷ sent 14 2 4 frame.Told ∷ body.Told 2 (uid_at 2 1) Commit part.Server ∷ [])
    ∷ (body.Void 12 ∷ body.Got 13 ∷ body.Done 3 (uid_at 2 1) role.Store Commit ∷ sent 15 3 2 frame.Acked ∷ body.Got 14 ∷ body.Got 15 ∷ [])
    ∷ (body.Up 1 2 ∷ body.Granted 1 (uid_at 2 1) (entry 1) Exclude ∷ sent 16 1 2 frame.Query ∷ sent 17 1 2 frame.Hello ∷ sent 18 1 3 frame.Hello ∷ sent 19 1 4 frame.Hello ∷ [])
    ∷ (body.Began B kind.Top (uid_at 3 1) None ∷ [])
    ∷ (sent 20 3 1 frame.Bind ∷ [])
    ∷ (body.Got 20 ∷ sent 21 1 3 frame.Bound ∷ [])
    ∷ (body.Got 21 ∷ body.Conflict B (uid_at 2 1) Exclude 1 ∷ [])
    ∷ (body.Got 16 ∷ sent 22 2 1 frame.Told ∷ body.Got 17 ∷ body.Got 18 ∷ body.Got 19 ∷ body.Got 22 ∷ body.Done 1 (uid_at 2 1) role.Names Commit ∷ body.Told 1 (uid_at 2 1) Commit part.Naming ∷ sent 23 1 2 frame.Acked ∷ body.Got 23 ∷ body.Quiet true ∷ [])
    ∷ (body.Entry 1 1 (2 ∷ []) (3 ∷ []) ∷ body.Copy 3 1 1 (uid_at 2 1) (counter 1) ∷ body.Copy 4 1 0 (nobody) (counter 0) ∷ [])
    ∷ []

abbrev pub naming_stopped : List Line
naming_stopped = lines_of naming_stopped_bodies

-- Three nodes, naming and the store at 1 and servers at 2 and 3: a doomed nested action, and the next binding for another.
abbrev pub rebinding_bodies : List (List Body)
rebinding_bodies =
    (body.Began A kind.Top (uid_at 1 1) None ∷ [])
    ∷ (body.Began N kind.Nested (uid_at 1 2) (Some A) ∷ [])
    ∷ (body.Granted 1 (uid_at 1 1) (entry 1) Write ∷ body.Bound 1 first_binding 2 ∷ sent 1 1 2 frame.Activate ∷ [])
    ∷ (body.Refused 7 ∷ [])
    ∷ (body.Got 1 ∷ body.Active 2 1 first_binding ∷ sent 2 2 1 frame.Activated ∷ [])
    ∷ (body.Got 2 ∷ body.Lowered 1 (uid_at 1 1) (entry 1) ∷ sent 3 1 2 frame.Invoke ∷ [])
    ∷ (body.Dropped 3 ∷ [])
    ∷ (body.GaveUp N 2 ∷ body.Lost N 2 ∷ [])
    ∷ (body.Refused 12 ∷ [])
    ∷ (body.Aborted N cause.Doomed ∷ sent 4 1 2 frame.Told ∷ [])
    ∷ (body.Began M kind.Nested (uid_at 1 3) (Some A) ∷ [])
    ∷ (body.Refused 14 ∷ [])
    ∷ (body.Granted 1 (uid_at 1 1) (entry 1) Write ∷ body.Bound 1 (record { inc = 1; count = 2 }) 3 ∷ sent 5 1 3 frame.Activate ∷ [])
    ∷ (body.Got 4 ∷ body.Got 5 ∷ body.Active 3 1 (record {
      inc = 1;
      count =
          2;
    }) ∷ sent 6 3 1 frame.Activated ∷ body.Got 6 ∷ body.Lowered 1 (uid_at 1 1) (entry 1) ∷ sent 7 1 3 frame.Invoke ∷ body.Got 7 ∷ body.Granted 3 (uid_at 1 3) (object 1) Write ∷ sent 8 3 1 frame.Invoked ∷ body.Got 8 ∷ ok M (Add 1) (codes "done") ∷ [])
    ∷ (body.Committed M ∷ sent 9 1 3 frame.Told ∷ [])
    ∷ (body.Committing A ∷ sent 10 1 3 frame.Vote ∷ [])
    ∷ (body.Got 9 ∷ body.Told 3 (uid_at 1 3) Commit part.Server ∷ body.Got 10 ∷ sent 11 3 1 frame.Voted ∷ body.Got 11 ∷ body.Prepared 1 (uid_at 1 1) role.Store ∷ body.Committed A ∷ sent 12 1 2 frame.Told ∷ sent 13 1 3 frame.Told ∷ body.Done 1 (uid_at 1 1) role.Store Commit ∷ body.Told 1 (uid_at 1 1) Commit part.Naming ∷ body.Got 12 ∷ body.Got 13 ∷ body.Told 3 (uid_at 1 1) Commit part.Server ∷ sent 14 3 1 frame.Acked ∷ body.Got 14 ∷ [])
    ∷ []
