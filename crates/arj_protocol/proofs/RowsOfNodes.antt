-- Whole runs, by computation: the journal of each script is known line by line.
use Rattle.std.specs.Prelude.{◌≡◌, refl, List, [], ◌∷◌, ◌++◌, true, Some, None}
use Rattle.arj_protocol.specs.Words.{Header, object, entry}
use Rattle.arj_protocol.specs.Words.mode
use Rattle.arj_protocol.specs.Words.ending
use Rattle.arj_protocol.specs.Words.op
use Rattle.arj_protocol.specs.Words.answer
use Rattle.arj_protocol.specs.Words.format
use Rattle.arj_protocol.specs.Words.value
use Rattle.arj_protocol.specs.Words.body
use Rattle.arj_protocol.specs.Words.kind
use Rattle.arj_protocol.specs.Words.cause
use Rattle.arj_protocol.specs.Words.part
use Rattle.arj_protocol.specs.Words.role
use Rattle.arj_protocol.specs.Words.frame
use Rattle.arj_protocol.specs.Words.event
use Rattle.arj_protocol.specs.Words.frame_no
use Rattle.arj_protocol.specs.World.{Asked, journal}
use Rattle.arj_protocol.proofs.RowWords.{u, b, does, at, text, l_A, l_B, l_I, l_J, l_K, l_M, l_N}

header_repeat : Header
header_repeat = record { nodes = 2; objects = record { x = 1; value = (value.Counter 0); servers = 2 ∷ []; stores = 1 ∷ [] } ∷ []; format = format.Two }

script_repeat : List Asked
script_repeat =
    does (event.Begin l_A 1) ∷ does (event.Call l_A 1 (op.Add 5)) ∷ does (event.Deliver (frame_no.Number 1)) ∷ does (event.Deliver (frame_no.Number 2)) ∷
    does (event.Deliver (frame_no.Number 3)) ∷ does (event.Deliver (frame_no.Number 3)) ∷ does (event.Deliver (frame_no.Number 4)) ∷ does (event.Commit l_A) ∷ does event.Settle ∷
    does (event.Show 1) ∷ []

-- a repeated invoke has one effect and two answers
repeat : journal header_repeat script_repeat ≡
    at 1 (body.Began l_A kind.Top (u 1 1 1) None ∷ [])
    ++ at 2 (body.Granted 1 (u 1 1 1) (entry 1) mode.Write ∷ body.Bound 1 (b 1 1) 2 ∷ body.Sent 1 1 2 frame.Activate ∷ [])
    ++ at 3 (body.Got 1 ∷ body.Active 2 1 (b 1 1) ∷ body.Sent 2 2 1 frame.Activated ∷ [])
    ++ at 4 (body.Got 2 ∷ body.Lowered 1 (u 1 1 1) (entry 1) ∷ body.Sent 3 1 2 frame.Invoke ∷ [])
    ++ at 5 (body.Got 3 ∷ body.Granted 2 (u 1 1 1) (object 1) mode.Write ∷ body.Sent 4 2 1 frame.Invoked ∷ [])
    ++ at 6 (body.Got 3 ∷ body.Sent 5 2 1 frame.Invoked ∷ [])
    ++ at 7 (body.Got 4 ∷ body.Ok l_A 1 (op.Add 5) (text answer.Done) ∷ [])
    ++ at 8 (body.Committing l_A ∷ body.Sent 6 1 2 frame.Vote ∷ [])
    ++ at 9 (body.Void 5 ∷ body.Got 6 ∷ body.Sent 7 2 1 frame.Voted ∷ body.Got 7 ∷ body.Prepared 1 (u 1 1 1) role.Store ∷ body.Committed l_A ∷ body.Sent 8 1 2 frame.Told ∷ body.Done 1 (u 1 1 1) role.Store ending.Commit ∷ body.Told 1 (u 1 1 1) ending.Commit part.Naming ∷ body.Got 8 ∷ body.Told 2 (u 1 1 1) ending.Commit part.Server ∷ body.Sent 9 2 1 frame.Acked ∷ body.Got 9 ∷ [])
    ++ at 10 (body.Entry 1 0 (2 ∷ []) (1 ∷ []) ∷ body.Copy 1 1 1 (u 1 1 1) (0 ∷ 0 ∷ 0 ∷ 0 ∷ 0 ∷ 0 ∷ 0 ∷ 5 ∷ []) ∷ [])
unfolding header_repeat script_repeat
repeat = refl

header_rebinding : Header
header_rebinding = record { nodes = 3; objects = record { x = 1; value = (value.Counter 0); servers = 2 ∷ 3 ∷ []; stores = 1 ∷ [] } ∷ []; format = format.Two }

script_rebinding : List Asked
script_rebinding =
    does (event.Begin l_A 1) ∷ does (event.BeginIn l_N l_A) ∷ does (event.Call l_N 1 (op.Add 1)) ∷ does (event.Call l_A 1 op.Get) ∷ does (event.Deliver (frame_no.Number 1)) ∷
    does (event.Deliver (frame_no.Number 2)) ∷ does (event.Lose (frame_no.Number 3)) ∷ does (event.GiveUp l_N) ∷ does (event.Call l_N 1 op.Get) ∷ does (event.Commit l_N) ∷
    does (event.BeginIn l_M l_A) ∷ does (event.Call l_M 1 (op.Push 1)) ∷ does (event.Call l_M 1 (op.Add 1)) ∷ does event.Settle ∷ does (event.Commit l_M) ∷ does (event.Commit l_A) ∷
    does event.Settle ∷ []

-- giveup dooms a nested action, and a later call binds to the next server
rebinding : journal header_rebinding script_rebinding ≡
    at 1 (body.Began l_A kind.Top (u 1 1 1) None ∷ [])
    ++ at 2 (body.Began l_N kind.Nested (u 1 1 2) (Some l_A) ∷ [])
    ++ at 3 (body.Granted 1 (u 1 1 1) (entry 1) mode.Write ∷ body.Bound 1 (b 1 1) 2 ∷ body.Sent 1 1 2 frame.Activate ∷ [])
    ++ at 4 (body.Refused 7 ∷ [])
    ++ at 5 (body.Got 1 ∷ body.Active 2 1 (b 1 1) ∷ body.Sent 2 2 1 frame.Activated ∷ [])
    ++ at 6 (body.Got 2 ∷ body.Lowered 1 (u 1 1 1) (entry 1) ∷ body.Sent 3 1 2 frame.Invoke ∷ [])
    ++ at 7 (body.Dropped 3 ∷ [])
    ++ at 8 (body.GaveUp l_N 2 ∷ body.Lost l_N 2 ∷ [])
    ++ at 9 (body.Refused 12 ∷ [])
    ++ at 10 (body.Aborted l_N cause.Doomed ∷ body.Sent 4 1 2 frame.Told ∷ [])
    ++ at 11 (body.Began l_M kind.Nested (u 1 1 3) (Some l_A) ∷ [])
    ++ at 12 (body.Refused 14 ∷ [])
    ++ at 13 (body.Granted 1 (u 1 1 1) (entry 1) mode.Write ∷ body.Bound 1 (b 1 2) 3 ∷ body.Sent 5 1 3 frame.Activate ∷ [])
    ++ at 14 (body.Got 4 ∷ body.Got 5 ∷ body.Active 3 1 (b 1 2) ∷ body.Sent 6 3 1 frame.Activated ∷ body.Got 6 ∷ body.Lowered 1 (u 1 1 1) (entry 1) ∷ body.Sent 7 1 3 frame.Invoke ∷ body.Got 7 ∷ body.Granted 3 (u 1 1 3) (object 1) mode.Write ∷ body.Sent 8 3 1 frame.Invoked ∷ body.Got 8 ∷ body.Ok l_M 1 (op.Add 1) (text answer.Done) ∷ [])
    ++ at 15 (body.Committed l_M ∷ body.Sent 9 1 3 frame.Told ∷ [])
    ++ at 16 (body.Committing l_A ∷ body.Sent 10 1 3 frame.Vote ∷ [])
    ++ at 17 (body.Got 9 ∷ body.Told 3 (u 1 1 3) ending.Commit part.Server ∷ body.Got 10 ∷ body.Sent 11 3 1 frame.Voted ∷ body.Got 11 ∷ body.Prepared 1 (u 1 1 1) role.Store ∷ body.Committed l_A ∷ body.Sent 12 1 2 frame.Told ∷ body.Sent 13 1 3 frame.Told ∷ body.Done 1 (u 1 1 1) role.Store ending.Commit ∷ body.Told 1 (u 1 1 1) ending.Commit part.Naming ∷ body.Got 12 ∷ body.Got 13 ∷ body.Told 3 (u 1 1 1) ending.Commit part.Server ∷ body.Sent 14 3 1 frame.Acked ∷ body.Got 14 ∷ [])
unfolding header_rebinding script_rebinding
rebinding = refl

header_exclusion : Header
header_exclusion = record { nodes = 3; objects = record { x = 1; value = (value.Counter 0); servers = 1 ∷ []; stores = 2 ∷ 3 ∷ [] } ∷ []; format = format.Two }

script_exclusion : List Asked
script_exclusion =
    does (event.Begin l_A 1) ∷ does (event.Call l_A 1 (op.Add 1)) ∷ does event.Settle ∷ does (event.Commit l_A) ∷ does (event.Lose (frame_no.Number 4)) ∷ does event.Settle ∷
    does (event.GiveUp l_A) ∷ does event.Settle ∷ does (event.Show 1) ∷ []

-- a store that is given up in the prepare step is excluded
exclusion : journal header_exclusion script_exclusion ≡
    at 1 (body.Began l_A kind.Top (u 1 1 1) None ∷ [])
    ++ at 2 (body.Granted 1 (u 1 1 1) (entry 1) mode.Write ∷ body.Bound 1 (b 1 1) 1 ∷ body.Sent 1 1 2 frame.Load ∷ [])
    ++ at 3 (body.Got 1 ∷ body.Sent 2 2 1 frame.Loaded ∷ body.Got 2 ∷ body.Active 1 1 (b 1 1) ∷ body.Lowered 1 (u 1 1 1) (entry 1) ∷ body.Granted 1 (u 1 1 1) (object 1) mode.Write ∷ body.Ok l_A 1 (op.Add 1) (text answer.Done) ∷ [])
    ++ at 4 (body.Committing l_A ∷ body.Sent 3 1 2 frame.Prepare ∷ body.Sent 4 1 3 frame.Prepare ∷ [])
    ++ at 5 (body.Dropped 4 ∷ [])
    ++ at 6 (body.Got 3 ∷ body.Prepared 2 (u 1 1 1) role.Store ∷ body.Sent 5 2 1 frame.Prepared ∷ body.Got 5 ∷ [])
    ++ at 7 (body.GaveUp l_A 3 ∷ body.Excluded l_A 1 3 ∷ body.Granted 1 (u 1 1 1) (entry 1) mode.Exclude ∷ body.Prepared 1 (u 1 1 1) role.Names ∷ body.Committed l_A ∷ body.Sent 6 1 2 frame.Told ∷ body.Sent 7 1 3 frame.Told ∷ body.Done 1 (u 1 1 1) role.Names ending.Commit ∷ body.Told 1 (u 1 1 1) ending.Commit part.Naming ∷ body.Told 1 (u 1 1 1) ending.Commit part.Server ∷ [])
    ++ at 8 (body.Got 6 ∷ body.Done 2 (u 1 1 1) role.Store ending.Commit ∷ body.Sent 8 2 1 frame.Acked ∷ body.Got 7 ∷ body.Got 8 ∷ [])
    ++ at 9 (body.Entry 1 1 (1 ∷ []) (2 ∷ []) ∷ body.Copy 2 1 1 (u 1 1 1) (0 ∷ 0 ∷ 0 ∷ 0 ∷ 0 ∷ 0 ∷ 0 ∷ 1 ∷ []) ∷ body.Copy 3 1 0 (u 0 0 0) (0 ∷ 0 ∷ 0 ∷ 0 ∷ 0 ∷ 0 ∷ 0 ∷ 0 ∷ []) ∷ [])
unfolding header_exclusion script_exclusion
exclusion = refl

header_no_store_left : Header
header_no_store_left =
    record { nodes = 3; objects = record { x = 1; value = (value.Counter 0); servers = 1 ∷ []; stores = 2 ∷ 3 ∷ [] } ∷ []; format = format.Two }

script_no_store_left : List Asked
script_no_store_left =
    does (event.Begin l_A 1) ∷ does (event.Call l_A 1 (op.Add 1)) ∷ does event.Settle ∷ does (event.Commit l_A) ∷ does (event.GiveUp l_A) ∷ []

-- every store is given up: the commit is aborted
no_store_left : journal header_no_store_left script_no_store_left ≡
    at 1 (body.Began l_A kind.Top (u 1 1 1) None ∷ [])
    ++ at 2 (body.Granted 1 (u 1 1 1) (entry 1) mode.Write ∷ body.Bound 1 (b 1 1) 1 ∷ body.Sent 1 1 2 frame.Load ∷ [])
    ++ at 3 (body.Got 1 ∷ body.Sent 2 2 1 frame.Loaded ∷ body.Got 2 ∷ body.Active 1 1 (b 1 1) ∷ body.Lowered 1 (u 1 1 1) (entry 1) ∷ body.Granted 1 (u 1 1 1) (object 1) mode.Write ∷ body.Ok l_A 1 (op.Add 1) (text answer.Done) ∷ [])
    ++ at 4 (body.Committing l_A ∷ body.Sent 3 1 2 frame.Prepare ∷ body.Sent 4 1 3 frame.Prepare ∷ [])
    ++ at 5 (body.GaveUp l_A 2 ∷ body.GaveUp l_A 3 ∷ body.Excluded l_A 1 2 ∷ body.Excluded l_A 1 3 ∷ body.Aborted l_A (cause.NoStores 1) ∷ body.Sent 5 1 2 frame.Told ∷ body.Sent 6 1 3 frame.Told ∷ body.Told 1 (u 1 1 1) ending.Abort part.Naming ∷ body.Told 1 (u 1 1 1) ending.Abort part.Server ∷ [])
unfolding header_no_store_left script_no_store_left
no_store_left = refl

header_old_frames : Header
header_old_frames = record { nodes = 2; objects = record { x = 1; value = (value.Counter 0); servers = 1 ∷ []; stores = 2 ∷ [] } ∷ []; format = format.Two }

script_old_frames : List Asked
script_old_frames =
    does (event.Begin l_A 1) ∷ does (event.Call l_A 1 (op.Add 1)) ∷ does event.Settle ∷ does (event.Commit l_A) ∷ does event.Settle ∷ does (event.Deliver (frame_no.Number 3)) ∷
    does (event.Begin l_B 1) ∷ does (event.Call l_B 1 (op.Add 1)) ∷ does (event.Commit l_B) ∷ does event.Settle ∷ does (event.Deliver (frame_no.Number 3)) ∷
    does (event.Deliver (frame_no.Number 5)) ∷ does event.Settle ∷ does (event.Show 1) ∷ []

-- old prepare and told frames after a later commit
old_frames : journal header_old_frames script_old_frames ≡
    at 1 (body.Began l_A kind.Top (u 1 1 1) None ∷ [])
    ++ at 2 (body.Granted 1 (u 1 1 1) (entry 1) mode.Write ∷ body.Bound 1 (b 1 1) 1 ∷ body.Sent 1 1 2 frame.Load ∷ [])
    ++ at 3 (body.Got 1 ∷ body.Sent 2 2 1 frame.Loaded ∷ body.Got 2 ∷ body.Active 1 1 (b 1 1) ∷ body.Lowered 1 (u 1 1 1) (entry 1) ∷ body.Granted 1 (u 1 1 1) (object 1) mode.Write ∷ body.Ok l_A 1 (op.Add 1) (text answer.Done) ∷ [])
    ++ at 4 (body.Committing l_A ∷ body.Sent 3 1 2 frame.Prepare ∷ [])
    ++ at 5 (body.Got 3 ∷ body.Prepared 2 (u 1 1 1) role.Store ∷ body.Sent 4 2 1 frame.Prepared ∷ body.Got 4 ∷ body.Committed l_A ∷ body.Sent 5 1 2 frame.Told ∷ body.Told 1 (u 1 1 1) ending.Commit part.Naming ∷ body.Told 1 (u 1 1 1) ending.Commit part.Server ∷ body.Got 5 ∷ body.Done 2 (u 1 1 1) role.Store ending.Commit ∷ body.Sent 6 2 1 frame.Acked ∷ body.Got 6 ∷ [])
    ++ at 6 (body.Void 3 ∷ [])
    ++ at 7 (body.Began l_B kind.Top (u 1 1 2) None ∷ [])
    ++ at 8 (body.Granted 1 (u 1 1 2) (entry 1) mode.Read ∷ body.Granted 1 (u 1 1 2) (object 1) mode.Write ∷ body.Ok l_B 1 (op.Add 1) (text answer.Done) ∷ [])
    ++ at 9 (body.Committing l_B ∷ body.Sent 7 1 2 frame.Prepare ∷ [])
    ++ at 10 (body.Got 7 ∷ body.Prepared 2 (u 1 1 2) role.Store ∷ body.Sent 8 2 1 frame.Prepared ∷ body.Got 8 ∷ body.Committed l_B ∷ body.Sent 9 1 2 frame.Told ∷ body.Told 1 (u 1 1 2) ending.Commit part.Naming ∷ body.Told 1 (u 1 1 2) ending.Commit part.Server ∷ body.Got 9 ∷ body.Done 2 (u 1 1 2) role.Store ending.Commit ∷ body.Sent 10 2 1 frame.Acked ∷ body.Got 10 ∷ [])
    ++ at 11 (body.Got 3 ∷ body.Sent 11 2 1 frame.Prepared ∷ [])
    ++ at 12 (body.Got 5 ∷ body.Sent 12 2 1 frame.Acked ∷ [])
    ++ at 13 (body.Void 11 ∷ body.Void 12 ∷ [])
    ++ at 14 (body.Entry 1 0 (1 ∷ []) (2 ∷ []) ∷ body.Copy 2 1 2 (u 1 1 2) (0 ∷ 0 ∷ 0 ∷ 0 ∷ 0 ∷ 0 ∷ 0 ∷ 2 ∷ []) ∷ [])
unfolding header_old_frames script_old_frames
old_frames = refl

header_inclusion : Header
header_inclusion = record { nodes = 3; objects = record { x = 1; value = (value.Counter 0); servers = 1 ∷ []; stores = 2 ∷ 3 ∷ [] } ∷ []; format = format.Two }

script_inclusion : List Asked
script_inclusion =
    does (event.Begin l_A 1) ∷ does (event.Call l_A 1 (op.Add 1)) ∷ does event.Settle ∷ does (event.Commit l_A) ∷ does (event.Lose (frame_no.Number 4)) ∷ does event.Settle ∷
    does (event.GiveUp l_A) ∷ does event.Settle ∷ does (event.Show 1) ∷ does (event.Begin l_I 1) ∷ does (event.Include l_I 1 3) ∷ does event.Settle ∷ does (event.Commit l_I) ∷
    does event.Settle ∷ does (event.Show 1) ∷ does (event.Begin l_J 1) ∷ does (event.Include l_J 1 3) ∷ does event.Settle ∷ does (event.Commit l_J) ∷ does event.Settle ∷ []

-- an excluded store is included again, and once too often
inclusion : journal header_inclusion script_inclusion ≡
    at 1 (body.Began l_A kind.Top (u 1 1 1) None ∷ [])
    ++ at 2 (body.Granted 1 (u 1 1 1) (entry 1) mode.Write ∷ body.Bound 1 (b 1 1) 1 ∷ body.Sent 1 1 2 frame.Load ∷ [])
    ++ at 3 (body.Got 1 ∷ body.Sent 2 2 1 frame.Loaded ∷ body.Got 2 ∷ body.Active 1 1 (b 1 1) ∷ body.Lowered 1 (u 1 1 1) (entry 1) ∷ body.Granted 1 (u 1 1 1) (object 1) mode.Write ∷ body.Ok l_A 1 (op.Add 1) (text answer.Done) ∷ [])
    ++ at 4 (body.Committing l_A ∷ body.Sent 3 1 2 frame.Prepare ∷ body.Sent 4 1 3 frame.Prepare ∷ [])
    ++ at 5 (body.Dropped 4 ∷ [])
    ++ at 6 (body.Got 3 ∷ body.Prepared 2 (u 1 1 1) role.Store ∷ body.Sent 5 2 1 frame.Prepared ∷ body.Got 5 ∷ [])
    ++ at 7 (body.GaveUp l_A 3 ∷ body.Excluded l_A 1 3 ∷ body.Granted 1 (u 1 1 1) (entry 1) mode.Exclude ∷ body.Prepared 1 (u 1 1 1) role.Names ∷ body.Committed l_A ∷ body.Sent 6 1 2 frame.Told ∷ body.Sent 7 1 3 frame.Told ∷ body.Done 1 (u 1 1 1) role.Names ending.Commit ∷ body.Told 1 (u 1 1 1) ending.Commit part.Naming ∷ body.Told 1 (u 1 1 1) ending.Commit part.Server ∷ [])
    ++ at 8 (body.Got 6 ∷ body.Done 2 (u 1 1 1) role.Store ending.Commit ∷ body.Sent 8 2 1 frame.Acked ∷ body.Got 7 ∷ body.Got 8 ∷ [])
    ++ at 9 (body.Entry 1 1 (1 ∷ []) (2 ∷ []) ∷ body.Copy 2 1 1 (u 1 1 1) (0 ∷ 0 ∷ 0 ∷ 0 ∷ 0 ∷ 0 ∷ 0 ∷ 1 ∷ []) ∷ body.Copy 3 1 0 (u 0 0 0) (0 ∷ 0 ∷ 0 ∷ 0 ∷ 0 ∷ 0 ∷ 0 ∷ 0 ∷ []) ∷ [])
    ++ at 10 (body.Began l_I kind.Top (u 1 1 2) None ∷ [])
    ++ at 11 (body.Granted 1 (u 1 1 2) (entry 1) mode.Write ∷ body.Sent 9 1 2 frame.Load ∷ [])
    ++ at 12 (body.Got 9 ∷ body.Sent 10 2 1 frame.Loaded ∷ body.Got 10 ∷ body.Includes l_I 1 3 ∷ [])
    ++ at 13 (body.Committing l_I ∷ body.Sent 11 1 3 frame.Prepare ∷ [])
    ++ at 14 (body.Got 11 ∷ body.Prepared 3 (u 1 1 2) role.Store ∷ body.Sent 12 3 1 frame.Prepared ∷ body.Got 12 ∷ body.Prepared 1 (u 1 1 2) role.Names ∷ body.Committed l_I ∷ body.Sent 13 1 2 frame.Told ∷ body.Sent 14 1 3 frame.Told ∷ body.Done 1 (u 1 1 2) role.Names ending.Commit ∷ body.Told 1 (u 1 1 2) ending.Commit part.Naming ∷ body.Got 13 ∷ body.Got 14 ∷ body.Done 3 (u 1 1 2) role.Store ending.Commit ∷ body.Sent 15 3 1 frame.Acked ∷ body.Got 15 ∷ [])
    ++ at 15 (body.Entry 1 2 (1 ∷ []) (2 ∷ 3 ∷ []) ∷ body.Copy 2 1 1 (u 1 1 1) (0 ∷ 0 ∷ 0 ∷ 0 ∷ 0 ∷ 0 ∷ 0 ∷ 1 ∷ []) ∷ body.Copy 3 1 1 (u 1 1 1) (0 ∷ 0 ∷ 0 ∷ 0 ∷ 0 ∷ 0 ∷ 0 ∷ 1 ∷ []) ∷ [])
    ++ at 16 (body.Began l_J kind.Top (u 1 1 3) None ∷ [])
    ++ at 17 (body.Granted 1 (u 1 1 3) (entry 1) mode.Write ∷ body.Sent 16 1 2 frame.Load ∷ [])
    ++ at 18 (body.Got 16 ∷ body.Sent 17 2 1 frame.Loaded ∷ body.Got 17 ∷ body.Includes l_J 1 3 ∷ [])
    ++ at 19 (body.Committing l_J ∷ body.Sent 18 1 3 frame.Prepare ∷ [])
    ++ at 20 (body.Got 18 ∷ body.Prepared 3 (u 1 1 3) role.Store ∷ body.Sent 19 3 1 frame.Prepared ∷ body.Got 19 ∷ body.Aborted l_J (cause.Listed 1 3) ∷ body.Sent 20 1 2 frame.Told ∷ body.Sent 21 1 3 frame.Told ∷ body.Told 1 (u 1 1 3) ending.Abort part.Naming ∷ body.Got 20 ∷ body.Got 21 ∷ body.Done 3 (u 1 1 3) role.Store ending.Abort ∷ [])
unfolding header_inclusion script_inclusion
inclusion = refl

header_sibling_waits : Header
header_sibling_waits =
    record { nodes = 3; objects = record { x = 1; value = (value.Counter 0); servers = 2 ∷ 3 ∷ []; stores = 1 ∷ [] } ∷ []; format = format.Two }

script_sibling_waits : List Asked
script_sibling_waits =
    does (event.Begin l_A 1) ∷ does (event.BeginIn l_N l_A) ∷ does (event.BeginIn l_M l_A) ∷ does (event.Call l_N 1 (op.Add 1)) ∷ does (event.Deliver (frame_no.Number 1)) ∷
    does (event.Deliver (frame_no.Number 2)) ∷ does (event.Call l_M 1 op.Get) ∷ does (event.GiveUp l_M) ∷ does (event.Abort l_M) ∷ does (event.BeginIn l_K l_A) ∷
    does (event.Call l_K 1 (op.Add 1)) ∷ does event.Settle ∷ []

-- a binding is not avoided while a sibling waits under it
sibling_waits : journal header_sibling_waits script_sibling_waits ≡
    at 1 (body.Began l_A kind.Top (u 1 1 1) None ∷ [])
    ++ at 2 (body.Began l_N kind.Nested (u 1 1 2) (Some l_A) ∷ [])
    ++ at 3 (body.Began l_M kind.Nested (u 1 1 3) (Some l_A) ∷ [])
    ++ at 4 (body.Granted 1 (u 1 1 1) (entry 1) mode.Write ∷ body.Bound 1 (b 1 1) 2 ∷ body.Sent 1 1 2 frame.Activate ∷ [])
    ++ at 5 (body.Got 1 ∷ body.Active 2 1 (b 1 1) ∷ body.Sent 2 2 1 frame.Activated ∷ [])
    ++ at 6 (body.Got 2 ∷ body.Lowered 1 (u 1 1 1) (entry 1) ∷ body.Sent 3 1 2 frame.Invoke ∷ [])
    ++ at 7 (body.Sent 4 1 2 frame.Invoke ∷ [])
    ++ at 8 (body.GaveUp l_M 2 ∷ body.Lost l_M 2 ∷ [])
    ++ at 9 (body.Aborted l_M cause.Asked ∷ body.Sent 5 1 2 frame.Told ∷ [])
    ++ at 10 (body.Began l_K kind.Nested (u 1 1 4) (Some l_A) ∷ [])
    ++ at 11 (body.Sent 6 1 2 frame.Invoke ∷ [])
    ++ at 12 (body.Got 3 ∷ body.Granted 2 (u 1 1 2) (object 1) mode.Write ∷ body.Sent 7 2 1 frame.Invoked ∷ body.Got 4 ∷ body.Sent 8 2 1 frame.Invoked ∷ body.Got 5 ∷ body.Got 6 ∷ body.Sent 9 2 1 frame.Invoked ∷ body.Got 7 ∷ body.Ok l_N 1 (op.Add 1) (text answer.Done) ∷ body.Void 8 ∷ body.Got 9 ∷ body.Conflict l_K (u 1 1 2) mode.Write 2 ∷ [])
unfolding header_sibling_waits script_sibling_waits
sibling_waits = refl

header_lost_load : Header
header_lost_load = record { nodes = 2; objects = record { x = 1; value = (value.Counter 0); servers = 1 ∷ []; stores = 2 ∷ [] } ∷ []; format = format.Two }

script_lost_load : List Asked
script_lost_load =
    does (event.Begin l_A 1) ∷ does (event.Call l_A 1 (op.Add 1)) ∷ does (event.Lose (frame_no.Number 1)) ∷ does event.Settle ∷ does event.Quiesce ∷ []

-- a lost load is sent again by quiesce
lost_load : journal header_lost_load script_lost_load ≡
    at 1 (body.Began l_A kind.Top (u 1 1 1) None ∷ [])
    ++ at 2 (body.Granted 1 (u 1 1 1) (entry 1) mode.Write ∷ body.Bound 1 (b 1 1) 1 ∷ body.Sent 1 1 2 frame.Load ∷ [])
    ++ at 3 (body.Dropped 1 ∷ [])
    ++ at 5 (body.Sent 2 1 2 frame.Load ∷ body.Got 2 ∷ body.Sent 3 2 1 frame.Loaded ∷ body.Got 3 ∷ body.Active 1 1 (b 1 1) ∷ body.Lowered 1 (u 1 1 1) (entry 1) ∷ body.Granted 1 (u 1 1 1) (object 1) mode.Write ∷ body.Ok l_A 1 (op.Add 1) (text answer.Done) ∷ body.Quiet true ∷ [])
unfolding header_lost_load script_lost_load
lost_load = refl

header_all_frames_again : Header
header_all_frames_again =
    record { nodes = 3; objects = record { x = 1; value = (value.Counter 0); servers = 1 ∷ []; stores = 2 ∷ 3 ∷ [] } ∷ []; format = format.Two }

script_all_frames_again : List Asked
script_all_frames_again =
    does (event.Begin l_A 1) ∷ does (event.Call l_A 1 (op.Add 1)) ∷ does event.Settle ∷ does (event.Commit l_A) ∷ does (event.Lose (frame_no.Number 4)) ∷ does event.Settle ∷
    does (event.GiveUp l_A) ∷ does event.Settle ∷ does (event.Show 1) ∷ does (event.Deliver (frame_no.Number 8)) ∷ does (event.Deliver (frame_no.Number 7)) ∷
    does (event.Deliver (frame_no.Number 6)) ∷ does (event.Deliver (frame_no.Number 5)) ∷ does (event.Deliver (frame_no.Number 4)) ∷ does (event.Deliver (frame_no.Number 3)) ∷
    does (event.Deliver (frame_no.Number 2)) ∷ does (event.Deliver (frame_no.Number 1)) ∷ does event.Quiesce ∷ does (event.Show 1) ∷ []

-- every frame of the exclusion delivered again, last first
all_frames_again : journal header_all_frames_again script_all_frames_again ≡
    at 1 (body.Began l_A kind.Top (u 1 1 1) None ∷ [])
    ++ at 2 (body.Granted 1 (u 1 1 1) (entry 1) mode.Write ∷ body.Bound 1 (b 1 1) 1 ∷ body.Sent 1 1 2 frame.Load ∷ [])
    ++ at 3 (body.Got 1 ∷ body.Sent 2 2 1 frame.Loaded ∷ body.Got 2 ∷ body.Active 1 1 (b 1 1) ∷ body.Lowered 1 (u 1 1 1) (entry 1) ∷ body.Granted 1 (u 1 1 1) (object 1) mode.Write ∷ body.Ok l_A 1 (op.Add 1) (text answer.Done) ∷ [])
    ++ at 4 (body.Committing l_A ∷ body.Sent 3 1 2 frame.Prepare ∷ body.Sent 4 1 3 frame.Prepare ∷ [])
    ++ at 5 (body.Dropped 4 ∷ [])
    ++ at 6 (body.Got 3 ∷ body.Prepared 2 (u 1 1 1) role.Store ∷ body.Sent 5 2 1 frame.Prepared ∷ body.Got 5 ∷ [])
    ++ at 7 (body.GaveUp l_A 3 ∷ body.Excluded l_A 1 3 ∷ body.Granted 1 (u 1 1 1) (entry 1) mode.Exclude ∷ body.Prepared 1 (u 1 1 1) role.Names ∷ body.Committed l_A ∷ body.Sent 6 1 2 frame.Told ∷ body.Sent 7 1 3 frame.Told ∷ body.Done 1 (u 1 1 1) role.Names ending.Commit ∷ body.Told 1 (u 1 1 1) ending.Commit part.Naming ∷ body.Told 1 (u 1 1 1) ending.Commit part.Server ∷ [])
    ++ at 8 (body.Got 6 ∷ body.Done 2 (u 1 1 1) role.Store ending.Commit ∷ body.Sent 8 2 1 frame.Acked ∷ body.Got 7 ∷ body.Got 8 ∷ [])
    ++ at 9 (body.Entry 1 1 (1 ∷ []) (2 ∷ []) ∷ body.Copy 2 1 1 (u 1 1 1) (0 ∷ 0 ∷ 0 ∷ 0 ∷ 0 ∷ 0 ∷ 0 ∷ 1 ∷ []) ∷ body.Copy 3 1 0 (u 0 0 0) (0 ∷ 0 ∷ 0 ∷ 0 ∷ 0 ∷ 0 ∷ 0 ∷ 0 ∷ []) ∷ [])
    ++ at 10 (body.Void 8 ∷ [])
    ++ at 11 (body.Got 7 ∷ [])
    ++ at 12 (body.Got 6 ∷ body.Sent 9 2 1 frame.Acked ∷ [])
    ++ at 13 (body.Void 5 ∷ [])
    ++ at 14 (body.Got 4 ∷ body.Prepared 3 (u 1 1 1) role.Store ∷ body.Sent 10 3 1 frame.Prepared ∷ [])
    ++ at 15 (body.Void 3 ∷ [])
    ++ at 16 (body.Void 2 ∷ [])
    ++ at 17 (body.Got 1 ∷ body.Sent 11 2 1 frame.Loaded ∷ [])
    ++ at 18 (body.Void 9 ∷ body.Void 10 ∷ body.Void 11 ∷ body.Sent 12 3 1 frame.Query ∷ body.Got 12 ∷ body.Sent 13 1 3 frame.Told ∷ body.Got 13 ∷ body.Done 3 (u 1 1 1) role.Store ending.Abort ∷ body.Quiet true ∷ [])
    ++ at 19 (body.Entry 1 1 (1 ∷ []) (2 ∷ []) ∷ body.Copy 2 1 1 (u 1 1 1) (0 ∷ 0 ∷ 0 ∷ 0 ∷ 0 ∷ 0 ∷ 0 ∷ 1 ∷ []) ∷ body.Copy 3 1 0 (u 0 0 0) (0 ∷ 0 ∷ 0 ∷ 0 ∷ 0 ∷ 0 ∷ 0 ∷ 0 ∷ []) ∷ [])
unfolding header_all_frames_again script_all_frames_again
all_frames_again = refl
