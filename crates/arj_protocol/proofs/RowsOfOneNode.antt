-- Whole runs, by computation: the journal of each script is known line by line.
use Rattle.std.specs.Prelude.{◌≡◌, refl, List, [], ◌∷◌, ◌++◌, Some, None}
use Rattle.arj_protocol.specs.Words.{Header, object, entry}
use Rattle.arj_protocol.specs.Words.mode
use Rattle.arj_protocol.specs.Words.class
use Rattle.arj_protocol.specs.Words.ending
use Rattle.arj_protocol.specs.Words.op
use Rattle.arj_protocol.specs.Words.answer
use Rattle.arj_protocol.specs.Words.format
use Rattle.arj_protocol.specs.Words.value
use Rattle.arj_protocol.specs.Words.body
use Rattle.arj_protocol.specs.Words.kind
use Rattle.arj_protocol.specs.Words.cause
use Rattle.arj_protocol.specs.Words.part
use Rattle.arj_protocol.specs.Words.role
use Rattle.arj_protocol.specs.Words.event
use Rattle.arj_protocol.specs.World.{Asked, journal}
use Rattle.arj_protocol.proofs.RowWords.{u, b, does, at, text, l_A, l_B, l_C, l_D, l_N, l_S, l_T}

header_empty : Header
header_empty = record { nodes = 1; objects = record { x = 1; value = (value.Counter 0); servers = 1 ∷ []; stores = 1 ∷ [] } ∷ []; format = format.Two }

script_empty : List Asked
script_empty =
    []

-- header and no event: an empty journal
empty : journal header_empty script_empty ≡
    []
unfolding header_empty script_empty
empty = refl

header_smallest : Header
header_smallest = record { nodes = 1; objects = record { x = 1; value = (value.Counter 0); servers = 1 ∷ []; stores = 1 ∷ [] } ∷ []; format = format.Two }

script_smallest : List Asked
script_smallest =
    does (event.Begin l_A 1) ∷ does (event.Call l_A 1 (op.Add 5)) ∷ does (event.Commit l_A) ∷ does (event.Begin l_B 1) ∷ does (event.Call l_B 1 op.Get) ∷ does (event.Commit l_B) ∷ []

-- one increment committed, then read by a second action
smallest : journal header_smallest script_smallest ≡
    at 1 (body.Began l_A kind.Top (u 1 1 1) None ∷ [])
    ++ at 2 (body.Granted 1 (u 1 1 1) (entry 1) mode.Write ∷ body.Bound 1 (b 1 1) 1 ∷ body.Active 1 1 (b 1 1) ∷ body.Lowered 1 (u 1 1 1) (entry 1) ∷ body.Granted 1 (u 1 1 1) (object 1) mode.Write ∷ body.Ok l_A 1 (op.Add 5) (text answer.Done) ∷ [])
    ++ at 3 (body.Committing l_A ∷ body.Prepared 1 (u 1 1 1) role.Store ∷ body.Committed l_A ∷ body.Done 1 (u 1 1 1) role.Store ending.Commit ∷ body.Told 1 (u 1 1 1) ending.Commit part.Naming ∷ body.Told 1 (u 1 1 1) ending.Commit part.Server ∷ [])
    ++ at 4 (body.Began l_B kind.Top (u 1 1 2) None ∷ [])
    ++ at 5 (body.Granted 1 (u 1 1 2) (entry 1) mode.Read ∷ body.Granted 1 (u 1 1 2) (object 1) mode.Read ∷ body.Ok l_B 1 op.Get (text (answer.Number 5)) ∷ [])
    ++ at 6 (body.Committing l_B ∷ body.Committed l_B ∷ body.Told 1 (u 1 1 2) ending.Commit part.Naming ∷ body.Told 1 (u 1 1 2) ending.Commit part.Server ∷ [])
unfolding header_smallest script_smallest
smallest = refl

header_conflict : Header
header_conflict = record { nodes = 1; objects = record { x = 1; value = (value.Counter 0); servers = 1 ∷ []; stores = 1 ∷ [] } ∷ []; format = format.Two }

script_conflict : List Asked
script_conflict =
    does (event.Begin l_A 1) ∷ does (event.Call l_A 1 (op.Add 2)) ∷ does (event.Begin l_B 1) ∷ does (event.Call l_B 1 (op.Add 3)) ∷ does (event.Commit l_A) ∷
    does (event.Call l_B 1 (op.Add 3)) ∷ does (event.Commit l_B) ∷ does (event.Show 1) ∷ []

-- a second action meets the write lock, and gets it after the commit
conflict : journal header_conflict script_conflict ≡
    at 1 (body.Began l_A kind.Top (u 1 1 1) None ∷ [])
    ++ at 2 (body.Granted 1 (u 1 1 1) (entry 1) mode.Write ∷ body.Bound 1 (b 1 1) 1 ∷ body.Active 1 1 (b 1 1) ∷ body.Lowered 1 (u 1 1 1) (entry 1) ∷ body.Granted 1 (u 1 1 1) (object 1) mode.Write ∷ body.Ok l_A 1 (op.Add 2) (text answer.Done) ∷ [])
    ++ at 3 (body.Began l_B kind.Top (u 1 1 2) None ∷ [])
    ++ at 4 (body.Granted 1 (u 1 1 2) (entry 1) mode.Read ∷ body.Conflict l_B (u 1 1 1) mode.Write 1 ∷ [])
    ++ at 5 (body.Committing l_A ∷ body.Prepared 1 (u 1 1 1) role.Store ∷ body.Committed l_A ∷ body.Done 1 (u 1 1 1) role.Store ending.Commit ∷ body.Told 1 (u 1 1 1) ending.Commit part.Naming ∷ body.Told 1 (u 1 1 1) ending.Commit part.Server ∷ [])
    ++ at 6 (body.Granted 1 (u 1 1 2) (object 1) mode.Write ∷ body.Ok l_B 1 (op.Add 3) (text answer.Done) ∷ [])
    ++ at 7 (body.Committing l_B ∷ body.Prepared 1 (u 1 1 2) role.Store ∷ body.Committed l_B ∷ body.Done 1 (u 1 1 2) role.Store ending.Commit ∷ body.Told 1 (u 1 1 2) ending.Commit part.Naming ∷ body.Told 1 (u 1 1 2) ending.Commit part.Server ∷ [])
    ++ at 8 (body.Entry 1 0 (1 ∷ []) (1 ∷ []) ∷ body.Copy 1 1 2 (u 1 1 2) (0 ∷ 0 ∷ 0 ∷ 0 ∷ 0 ∷ 0 ∷ 0 ∷ 5 ∷ []) ∷ [])
unfolding header_conflict script_conflict
conflict = refl

header_types_end : Header
header_types_end =
    record { nodes = 1; objects = record { x = 1; value = (value.Counter 18446744073709551615); servers = 1 ∷ []; stores = 1 ∷ [] } ∷ []; format = format.Two }

script_types_end : List Asked
script_types_end =
    does (event.Begin l_A 1) ∷ does (event.Call l_A 1 (op.Add 1)) ∷ does (event.Commit l_A) ∷ does (event.Show 1) ∷ []

-- a counter at the end of its type answers over, and the commit still counts as a write
types_end : journal header_types_end script_types_end ≡
    at 1 (body.Began l_A kind.Top (u 1 1 1) None ∷ [])
    ++ at 2 (body.Granted 1 (u 1 1 1) (entry 1) mode.Write ∷ body.Bound 1 (b 1 1) 1 ∷ body.Active 1 1 (b 1 1) ∷ body.Lowered 1 (u 1 1 1) (entry 1) ∷ body.Granted 1 (u 1 1 1) (object 1) mode.Write ∷ body.Ok l_A 1 (op.Add 1) (text answer.Over) ∷ [])
    ++ at 3 (body.Committing l_A ∷ body.Prepared 1 (u 1 1 1) role.Store ∷ body.Committed l_A ∷ body.Done 1 (u 1 1 1) role.Store ending.Commit ∷ body.Told 1 (u 1 1 1) ending.Commit part.Naming ∷ body.Told 1 (u 1 1 1) ending.Commit part.Server ∷ [])
    ++ at 4 (body.Entry 1 0 (1 ∷ []) (1 ∷ []) ∷ body.Copy 1 1 1 (u 1 1 1) (255 ∷ 255 ∷ 255 ∷ 255 ∷ 255 ∷ 255 ∷ 255 ∷ 255 ∷ []) ∷ [])
unfolding header_types_end script_types_end
types_end = refl

header_nested_abort : Header
header_nested_abort = record { nodes = 1; objects = record { x = 1; value = (value.Counter 0); servers = 1 ∷ []; stores = 1 ∷ [] } ∷ []; format = format.Two }

script_nested_abort : List Asked
script_nested_abort =
    does (event.Begin l_A 1) ∷ does (event.Call l_A 1 (op.Add 4)) ∷ does (event.BeginIn l_N l_A) ∷ does (event.Call l_N 1 (op.Add 5)) ∷ does (event.Abort l_N) ∷
    does (event.Call l_A 1 op.Get) ∷ does (event.Commit l_A) ∷ []

-- a nested abort restores the value of the parent
nested_abort : journal header_nested_abort script_nested_abort ≡
    at 1 (body.Began l_A kind.Top (u 1 1 1) None ∷ [])
    ++ at 2 (body.Granted 1 (u 1 1 1) (entry 1) mode.Write ∷ body.Bound 1 (b 1 1) 1 ∷ body.Active 1 1 (b 1 1) ∷ body.Lowered 1 (u 1 1 1) (entry 1) ∷ body.Granted 1 (u 1 1 1) (object 1) mode.Write ∷ body.Ok l_A 1 (op.Add 4) (text answer.Done) ∷ [])
    ++ at 3 (body.Began l_N kind.Nested (u 1 1 2) (Some l_A) ∷ [])
    ++ at 4 (body.Granted 1 (u 1 1 2) (object 1) mode.Write ∷ body.Ok l_N 1 (op.Add 5) (text answer.Done) ∷ [])
    ++ at 5 (body.Aborted l_N cause.Asked ∷ body.Told 1 (u 1 1 2) ending.Abort part.Server ∷ [])
    ++ at 6 (body.Ok l_A 1 op.Get (text (answer.Number 4)) ∷ [])
    ++ at 7 (body.Committing l_A ∷ body.Prepared 1 (u 1 1 1) role.Store ∷ body.Committed l_A ∷ body.Done 1 (u 1 1 1) role.Store ending.Commit ∷ body.Told 1 (u 1 1 1) ending.Commit part.Naming ∷ body.Told 1 (u 1 1 1) ending.Commit part.Server ∷ [])
unfolding header_nested_abort script_nested_abort
nested_abort = refl

header_older_image : Header
header_older_image = record { nodes = 1; objects = record { x = 1; value = (value.Counter 7); servers = 1 ∷ []; stores = 1 ∷ [] } ∷ []; format = format.Two }

script_older_image : List Asked
script_older_image =
    does (event.Begin l_A 1) ∷ does (event.BeginIn l_C l_A) ∷ does (event.Call l_C 1 (op.Add 1)) ∷ does (event.Commit l_C) ∷ does (event.BeginIn l_D l_A) ∷
    does (event.Call l_D 1 (op.Add 1)) ∷ does (event.Commit l_D) ∷ does (event.Abort l_A) ∷ does (event.Begin l_B 1) ∷ does (event.Call l_B 1 op.Get) ∷ []

-- two nested commits and an abort: the older image is restored
older_image : journal header_older_image script_older_image ≡
    at 1 (body.Began l_A kind.Top (u 1 1 1) None ∷ [])
    ++ at 2 (body.Began l_C kind.Nested (u 1 1 2) (Some l_A) ∷ [])
    ++ at 3 (body.Granted 1 (u 1 1 1) (entry 1) mode.Write ∷ body.Bound 1 (b 1 1) 1 ∷ body.Active 1 1 (b 1 1) ∷ body.Lowered 1 (u 1 1 1) (entry 1) ∷ body.Granted 1 (u 1 1 2) (object 1) mode.Write ∷ body.Ok l_C 1 (op.Add 1) (text answer.Done) ∷ [])
    ++ at 4 (body.Committed l_C ∷ body.Told 1 (u 1 1 2) ending.Commit part.Server ∷ [])
    ++ at 5 (body.Began l_D kind.Nested (u 1 1 3) (Some l_A) ∷ [])
    ++ at 6 (body.Granted 1 (u 1 1 3) (object 1) mode.Write ∷ body.Ok l_D 1 (op.Add 1) (text answer.Done) ∷ [])
    ++ at 7 (body.Committed l_D ∷ body.Told 1 (u 1 1 3) ending.Commit part.Server ∷ [])
    ++ at 8 (body.Aborted l_A cause.Asked ∷ body.Told 1 (u 1 1 1) ending.Abort part.Naming ∷ body.Told 1 (u 1 1 1) ending.Abort part.Server ∷ [])
    ++ at 9 (body.Began l_B kind.Top (u 1 1 4) None ∷ [])
    ++ at 10 (body.Granted 1 (u 1 1 4) (entry 1) mode.Read ∷ body.Granted 1 (u 1 1 4) (object 1) mode.Read ∷ body.Ok l_B 1 op.Get (text (answer.Number 7)) ∷ [])
unfolding header_older_image script_older_image
older_image = refl

header_independent : Header
header_independent = record { nodes = 1; objects = record { x = 1; value = (value.Counter 0); servers = 1 ∷ []; stores = 1 ∷ [] } ∷ []; format = format.Two }

script_independent : List Asked
script_independent =
    does (event.Begin l_A 1) ∷ does (event.Call l_A 1 op.Get) ∷ does (event.Top l_T l_A) ∷ does (event.Call l_T 1 (op.Add 1)) ∷ does (event.Abort l_T) ∷ []

-- an independent action meets the lock of its invoker
independent : journal header_independent script_independent ≡
    at 1 (body.Began l_A kind.Top (u 1 1 1) None ∷ [])
    ++ at 2 (body.Granted 1 (u 1 1 1) (entry 1) mode.Write ∷ body.Bound 1 (b 1 1) 1 ∷ body.Active 1 1 (b 1 1) ∷ body.Lowered 1 (u 1 1 1) (entry 1) ∷ body.Granted 1 (u 1 1 1) (object 1) mode.Read ∷ body.Ok l_A 1 op.Get (text (answer.Number 0)) ∷ [])
    ++ at 3 (body.Began l_T kind.Independent (u 1 1 2) (Some l_A) ∷ [])
    ++ at 4 (body.Granted 1 (u 1 1 2) (entry 1) mode.Read ∷ body.Conflict l_T (u 1 1 1) mode.Read 1 ∷ [])
    ++ at 5 (body.Aborted l_T cause.Asked ∷ body.Told 1 (u 1 1 2) ending.Abort part.Naming ∷ [])
unfolding header_independent script_independent
independent = refl

header_serializing : Header
header_serializing = record { nodes = 1; objects = record { x = 1; value = (value.Counter 0); servers = 1 ∷ []; stores = 1 ∷ [] } ∷ []; format = format.Two }

script_serializing : List Asked
script_serializing =
    does (event.Serial l_S 1) ∷ does (event.BeginIn l_C l_S) ∷ does (event.Call l_C 1 (op.Add 1)) ∷ does (event.Commit l_C) ∷ does (event.Begin l_B 1) ∷ does (event.Call l_B 1 op.Get) ∷
    does (event.BeginIn l_D l_S) ∷ does (event.Call l_D 1 (op.Add 1)) ∷ does (event.Commit l_D) ∷ does (event.Abort l_S) ∷ does (event.Call l_B 1 op.Get) ∷ []

-- two constituents, a stranger in between, and the abort of the serializing action
serializing : journal header_serializing script_serializing ≡
    at 1 (body.Began l_S kind.Serial (u 1 1 1) None ∷ [])
    ++ at 2 (body.Began l_C kind.Constituent (u 1 1 2) (Some l_S) ∷ [])
    ++ at 3 (body.Granted 1 (u 1 1 2) (entry 1) mode.Write ∷ body.Bound 1 (b 1 1) 1 ∷ body.Active 1 1 (b 1 1) ∷ body.Lowered 1 (u 1 1 2) (entry 1) ∷ body.Granted 1 (u 1 1 2) (object 1) mode.Write ∷ body.Ok l_C 1 (op.Add 1) (text answer.Done) ∷ [])
    ++ at 4 (body.Committing l_C ∷ body.Prepared 1 (u 1 1 2) role.Store ∷ body.Committed l_C ∷ body.Done 1 (u 1 1 2) role.Store ending.Commit ∷ body.Told 1 (u 1 1 2) ending.Commit part.Naming ∷ body.Told 1 (u 1 1 2) ending.Commit part.Server ∷ [])
    ++ at 5 (body.Began l_B kind.Top (u 1 1 3) None ∷ [])
    ++ at 6 (body.Granted 1 (u 1 1 3) (entry 1) mode.Read ∷ body.Conflict l_B (u 1 1 1) mode.Write 1 ∷ [])
    ++ at 7 (body.Began l_D kind.Constituent (u 1 1 4) (Some l_S) ∷ [])
    ++ at 8 (body.Granted 1 (u 1 1 4) (object 1) mode.Write ∷ body.Ok l_D 1 (op.Add 1) (text answer.Done) ∷ [])
    ++ at 9 (body.Committing l_D ∷ body.Prepared 1 (u 1 1 4) role.Store ∷ body.Committed l_D ∷ body.Done 1 (u 1 1 4) role.Store ending.Commit ∷ body.Told 1 (u 1 1 4) ending.Commit part.Server ∷ [])
    ++ at 10 (body.Aborted l_S cause.Asked ∷ body.Told 1 (u 1 1 1) ending.Abort part.Naming ∷ body.Told 1 (u 1 1 1) ending.Abort part.Server ∷ [])
    ++ at 11 (body.Granted 1 (u 1 1 3) (object 1) mode.Read ∷ body.Ok l_B 1 op.Get (text (answer.Number 2)) ∷ [])
unfolding header_serializing script_serializing
serializing = refl

header_gone : Header
header_gone = record { nodes = 1; objects = record { x = 1; value = (value.Gone class.Counter); servers = 1 ∷ []; stores = 1 ∷ [] } ∷ []; format = format.Two }

script_gone : List Asked
script_gone =
    does (event.Begin l_A 1) ∷ does (event.Call l_A 1 op.Get) ∷ does (event.Call l_A 1 (op.Create (value.Queue (1 ∷ [])))) ∷
    does (event.Call l_A 1 (op.Create (value.Counter 7))) ∷ does (event.BeginIn l_N l_A) ∷ does (event.Call l_N 1 op.Destroy) ∷ does (event.Abort l_N) ∷
    does (event.Call l_A 1 (op.Create (value.Counter 9))) ∷ does (event.Commit l_A) ∷ does (event.Show 1) ∷ does (event.Begin l_B 1) ∷
    does (event.Call l_B 1 op.Destroy) ∷ does (event.Commit l_B) ∷ does (event.Show 1) ∷ []

-- an object that is gone at first is created, destroyed in a nested action that aborts, and destroyed again
gone : journal header_gone script_gone ≡
    at 1 (body.Began l_A kind.Top (u 1 1 1) None ∷ [])
    ++ at 2 (body.Granted 1 (u 1 1 1) (entry 1) mode.Write ∷ body.Bound 1 (b 1 1) 1 ∷ body.Active 1 1 (b 1 1) ∷ body.Lowered 1 (u 1 1 1) (entry 1) ∷ body.Granted 1 (u 1 1 1) (object 1) mode.Read ∷ body.Ok l_A 1 op.Get (text answer.Gone) ∷ [])
    ++ at 3 (body.Refused 14 ∷ [])
    ++ at 4 (body.Granted 1 (u 1 1 1) (object 1) mode.Write ∷ body.Ok l_A 1 (op.Create (value.Counter 7)) (text answer.Done) ∷ [])
    ++ at 5 (body.Began l_N kind.Nested (u 1 1 2) (Some l_A) ∷ [])
    ++ at 6 (body.Granted 1 (u 1 1 2) (object 1) mode.Write ∷ body.Ok l_N 1 op.Destroy (text answer.Done) ∷ [])
    ++ at 7 (body.Aborted l_N cause.Asked ∷ body.Told 1 (u 1 1 2) ending.Abort part.Server ∷ [])
    ++ at 8 (body.Ok l_A 1 (op.Create (value.Counter 9)) (text answer.There) ∷ [])
    ++ at 9 (body.Committing l_A ∷ body.Prepared 1 (u 1 1 1) role.Store ∷ body.Committed l_A ∷ body.Done 1 (u 1 1 1) role.Store ending.Commit ∷ body.Told 1 (u 1 1 1) ending.Commit part.Naming ∷ body.Told 1 (u 1 1 1) ending.Commit part.Server ∷ [])
    ++ at 10 (body.Entry 1 0 (1 ∷ []) (1 ∷ []) ∷ body.Copy 1 1 1 (u 1 1 1) (0 ∷ 0 ∷ 0 ∷ 0 ∷ 0 ∷ 0 ∷ 0 ∷ 7 ∷ []) ∷ [])
    ++ at 11 (body.Began l_B kind.Top (u 1 1 3) None ∷ [])
    ++ at 12 (body.Granted 1 (u 1 1 3) (entry 1) mode.Read ∷ body.Granted 1 (u 1 1 3) (object 1) mode.Write ∷ body.Ok l_B 1 op.Destroy (text answer.Done) ∷ [])
    ++ at 13 (body.Committing l_B ∷ body.Prepared 1 (u 1 1 3) role.Store ∷ body.Committed l_B ∷ body.Done 1 (u 1 1 3) role.Store ending.Commit ∷ body.Told 1 (u 1 1 3) ending.Commit part.Naming ∷ body.Told 1 (u 1 1 3) ending.Commit part.Server ∷ [])
    ++ at 14 (body.Entry 1 0 (1 ∷ []) (1 ∷ []) ∷ body.Copy 1 1 2 (u 1 1 3) (1 ∷ []) ∷ [])
unfolding header_gone script_gone
gone = refl
