-- Whole runs, by computation: the journal of each script is known line by line.
use Rattle.std.specs.Prelude.{◌≡◌, refl, List, [], ◌∷◌, ◌++◌, true, Some, None}
use Rattle.arj_protocol.specs.Words.{Header, object, entry}
use Rattle.arj_protocol.specs.Words.mode
use Rattle.arj_protocol.specs.Words.ending
use Rattle.arj_protocol.specs.Words.op
use Rattle.arj_protocol.specs.Words.answer
use Rattle.arj_protocol.specs.Words.format
use Rattle.arj_protocol.specs.Words.value
use Rattle.arj_protocol.specs.Words.body
use Rattle.arj_protocol.specs.Words.kind
use Rattle.arj_protocol.specs.Words.difference
use Rattle.arj_protocol.specs.Words.cause
use Rattle.arj_protocol.specs.Words.part
use Rattle.arj_protocol.specs.Words.role
use Rattle.arj_protocol.specs.Words.frame
use Rattle.arj_protocol.specs.Words.event
use Rattle.arj_protocol.specs.Words.frame_no
use Rattle.arj_protocol.specs.Words.stop_kind
use Rattle.arj_protocol.specs.Effect.{Before, After}
use Rattle.arj_protocol.specs.World.{Asked, journal}
use Rattle.arj_protocol.proofs.RowWords.{u, b, does, stops, at, text, l_A, l_B, l_C, l_S}

header_lost_lock : Header
header_lost_lock = record { nodes = 2; objects = record { x = 1; value = (value.Counter 0); servers = 2 ∷ []; stores = 1 ∷ [] } ∷ []; format = format.Two }

script_lost_lock : List Asked
script_lost_lock =
    does (event.Begin l_A 1) ∷ does (event.Call l_A 1 op.Get) ∷ does event.Settle ∷ does (event.Crash 2) ∷ does (event.Restart 2) ∷ does (event.Commit l_A) ∷ does event.Settle ∷ []

-- a server restarts between a grant and the vote
lost_lock : journal header_lost_lock script_lost_lock ≡
    at 1 (body.Began l_A kind.Top (u 1 1 1) None ∷ [])
    ++ at 2 (body.Granted 1 (u 1 1 1) (entry 1) mode.Write ∷ body.Bound 1 (b 1 1) 2 ∷ body.Sent 1 1 2 frame.Activate ∷ [])
    ++ at 3 (body.Got 1 ∷ body.Active 2 1 (b 1 1) ∷ body.Sent 2 2 1 frame.Activated ∷ body.Got 2 ∷ body.Lowered 1 (u 1 1 1) (entry 1) ∷ body.Sent 3 1 2 frame.Invoke ∷ body.Got 3 ∷ body.Granted 2 (u 1 1 1) (object 1) mode.Read ∷ body.Sent 4 2 1 frame.Invoked ∷ body.Got 4 ∷ body.Ok l_A 1 op.Get (text (answer.Number 0)) ∷ [])
    ++ at 4 (body.Halted 2 ∷ [])
    ++ at 5 (body.Up 2 2 ∷ body.Sent 5 2 1 frame.Hello ∷ [])
    ++ at 6 (body.Committing l_A ∷ body.Sent 6 1 2 frame.Vote ∷ [])
    ++ at 7 (body.Got 5 ∷ body.Got 6 ∷ body.Sent 7 2 1 frame.Voted ∷ body.Got 7 ∷ body.Aborted l_A (cause.Changed 2 (difference.Inc 1 2)) ∷ body.Sent 8 1 2 frame.Told ∷ body.Told 1 (u 1 1 1) ending.Abort part.Naming ∷ body.Got 8 ∷ [])
unfolding header_lost_lock script_lost_lock
lost_lock = refl

header_naming_stopped : Header
header_naming_stopped =
    record { nodes = 4; objects = record { x = 1; value = (value.Counter 0); servers = 2 ∷ []; stores = 3 ∷ 4 ∷ [] } ∷ []; format = format.Two }

script_naming_stopped : List Asked
script_naming_stopped =
    does (event.Begin l_A 2) ∷ does (event.Call l_A 1 (op.Add 1)) ∷ does event.Settle ∷ does (event.Commit l_A) ∷ does (event.Lose (frame_no.Number 8)) ∷ does event.Settle ∷
    does (event.GiveUp l_A) ∷ does (event.Deliver (frame_no.Number 10)) ∷ does (event.Crash 1) ∷ does (event.Deliver (frame_no.Number 11)) ∷ does event.Settle ∷ does (event.Restart 1) ∷
    does (event.Begin l_B 3) ∷ does (event.Call l_B 1 op.Get) ∷ does (event.Deliver (frame_no.Number 20)) ∷ does (event.Deliver (frame_no.Number 21)) ∷ does event.Quiesce ∷
    does (event.Show 1) ∷ []

-- the naming node stops with an exclusion in doubt
naming_stopped : journal header_naming_stopped script_naming_stopped ≡
    at 1 (body.Began l_A kind.Top (u 2 1 1) None ∷ [])
    ++ at 2 (body.Sent 1 2 1 frame.Bind ∷ [])
    ++ at 3 (body.Got 1 ∷ body.Granted 1 (u 2 1 1) (entry 1) mode.Write ∷ body.Bound 1 (b 1 1) 2 ∷ body.Sent 2 1 2 frame.Bound ∷ body.Got 2 ∷ body.Sent 3 2 3 frame.Load ∷ body.Got 3 ∷ body.Sent 4 3 2 frame.Loaded ∷ body.Got 4 ∷ body.Active 2 1 (b 1 1) ∷ body.Sent 5 2 1 frame.Record ∷ body.Got 5 ∷ body.Lowered 1 (u 2 1 1) (entry 1) ∷ body.Sent 6 1 2 frame.Recorded ∷ body.Got 6 ∷ body.Granted 2 (u 2 1 1) (object 1) mode.Write ∷ body.Ok l_A 1 (op.Add 1) (text answer.Done) ∷ [])
    ++ at 4 (body.Committing l_A ∷ body.Sent 7 2 3 frame.Prepare ∷ body.Sent 8 2 4 frame.Prepare ∷ [])
    ++ at 5 (body.Dropped 8 ∷ [])
    ++ at 6 (body.Got 7 ∷ body.Prepared 3 (u 2 1 1) role.Store ∷ body.Sent 9 3 2 frame.Prepared ∷ body.Got 9 ∷ [])
    ++ at 7 (body.GaveUp l_A 4 ∷ body.Excluded l_A 1 4 ∷ body.Sent 10 2 1 frame.Confirm ∷ [])
    ++ at 8 (body.Got 10 ∷ body.Granted 1 (u 2 1 1) (entry 1) mode.Exclude ∷ body.Prepared 1 (u 2 1 1) role.Names ∷ body.Sent 11 1 2 frame.Confirmed ∷ [])
    ++ at 9 (body.Halted 1 ∷ [])
    ++ at 10 (body.Got 11 ∷ body.Committed l_A ∷ body.Sent 12 2 1 frame.Told ∷ body.Sent 13 2 3 frame.Told ∷ body.Sent 14 2 4 frame.Told ∷ body.Told 2 (u 2 1 1) ending.Commit part.Server ∷ [])
    ++ at 11 (body.Void 12 ∷ body.Got 13 ∷ body.Done 3 (u 2 1 1) role.Store ending.Commit ∷ body.Sent 15 3 2 frame.Acked ∷ body.Got 14 ∷ body.Got 15 ∷ [])
    ++ at 12 (body.Up 1 2 ∷ body.Granted 1 (u 2 1 1) (entry 1) mode.Exclude ∷ body.Sent 16 1 2 frame.Query ∷ body.Sent 17 1 2 frame.Hello ∷ body.Sent 18 1 3 frame.Hello ∷ body.Sent 19 1 4 frame.Hello ∷ [])
    ++ at 13 (body.Began l_B kind.Top (u 3 1 1) None ∷ [])
    ++ at 14 (body.Sent 20 3 1 frame.Bind ∷ [])
    ++ at 15 (body.Got 20 ∷ body.Sent 21 1 3 frame.Bound ∷ [])
    ++ at 16 (body.Got 21 ∷ body.Conflict l_B (u 2 1 1) mode.Exclude 1 ∷ [])
    ++ at 17 (body.Got 16 ∷ body.Sent 22 2 1 frame.Told ∷ body.Got 17 ∷ body.Got 18 ∷ body.Got 19 ∷ body.Got 22 ∷ body.Done 1 (u 2 1 1) role.Names ending.Commit ∷ body.Told 1 (u 2 1 1) ending.Commit part.Naming ∷ body.Sent 23 1 2 frame.Acked ∷ body.Got 23 ∷ body.Quiet true ∷ [])
    ++ at 18 (body.Entry 1 1 (2 ∷ []) (3 ∷ []) ∷ body.Copy 3 1 1 (u 2 1 1) (0 ∷ 0 ∷ 0 ∷ 0 ∷ 0 ∷ 0 ∷ 0 ∷ 1 ∷ []) ∷ body.Copy 4 1 0 (u 0 0 0) (0 ∷ 0 ∷ 0 ∷ 0 ∷ 0 ∷ 0 ∷ 0 ∷ 0 ∷ []) ∷ [])
unfolding header_naming_stopped script_naming_stopped
naming_stopped = refl

header_serializing_waits_for_records : Header
header_serializing_waits_for_records =
    record { nodes = 2; objects = record { x = 1; value = (value.Counter 0); servers = 2 ∷ []; stores = 1 ∷ [] } ∷ []; format = format.Two }

script_serializing_waits_for_records : List Asked
script_serializing_waits_for_records =
    does (event.Serial l_S 1) ∷ does (event.BeginIn l_C l_S) ∷ does (event.Call l_C 1 (op.Add 5)) ∷ does event.Settle ∷ does (event.Commit l_C) ∷ does (event.Deliver (frame_no.Number 5)) ∷
    does (event.Deliver (frame_no.Number 6)) ∷ does (event.Lose (frame_no.Number 7)) ∷ does (event.Abort l_S) ∷ does event.Quiesce ∷ does (event.Begin l_B 1) ∷
    does (event.Call l_B 1 op.Get) ∷ does event.Settle ∷ []

-- the end of a serializing action waits for the records of its constituents
serializing_waits_for_records : journal header_serializing_waits_for_records script_serializing_waits_for_records ≡
    at 1 (body.Began l_S kind.Serial (u 1 1 1) None ∷ [])
    ++ at 2 (body.Began l_C kind.Constituent (u 1 1 2) (Some l_S) ∷ [])
    ++ at 3 (body.Granted 1 (u 1 1 2) (entry 1) mode.Write ∷ body.Bound 1 (b 1 1) 2 ∷ body.Sent 1 1 2 frame.Activate ∷ [])
    ++ at 4 (body.Got 1 ∷ body.Active 2 1 (b 1 1) ∷ body.Sent 2 2 1 frame.Activated ∷ body.Got 2 ∷ body.Lowered 1 (u 1 1 2) (entry 1) ∷ body.Sent 3 1 2 frame.Invoke ∷ body.Got 3 ∷ body.Granted 2 (u 1 1 2) (object 1) mode.Write ∷ body.Sent 4 2 1 frame.Invoked ∷ body.Got 4 ∷ body.Ok l_C 1 (op.Add 5) (text answer.Done) ∷ [])
    ++ at 5 (body.Committing l_C ∷ body.Sent 5 1 2 frame.Vote ∷ [])
    ++ at 6 (body.Got 5 ∷ body.Sent 6 2 1 frame.Voted ∷ [])
    ++ at 7 (body.Got 6 ∷ body.Prepared 1 (u 1 1 2) role.Store ∷ body.Committed l_C ∷ body.Sent 7 1 2 frame.Told ∷ body.Done 1 (u 1 1 2) role.Store ending.Commit ∷ body.Told 1 (u 1 1 2) ending.Commit part.Naming ∷ [])
    ++ at 8 (body.Dropped 7 ∷ [])
    ++ at 9 (body.Aborted l_S cause.Asked ∷ [])
    ++ at 10 (body.Sent 8 1 2 frame.Told ∷ body.Sent 9 2 1 frame.Query ∷ body.Got 8 ∷ body.Told 2 (u 1 1 2) ending.Commit part.Server ∷ body.Sent 10 2 1 frame.Acked ∷ body.Got 9 ∷ body.Sent 11 1 2 frame.Told ∷ body.Got 10 ∷ body.Sent 12 1 2 frame.Told ∷ body.Told 1 (u 1 1 1) ending.Abort part.Naming ∷ body.Got 11 ∷ body.Sent 13 2 1 frame.Acked ∷ body.Got 12 ∷ body.Told 2 (u 1 1 1) ending.Abort part.Server ∷ body.Void 13 ∷ body.Quiet true ∷ [])
    ++ at 11 (body.Began l_B kind.Top (u 1 1 3) None ∷ [])
    ++ at 12 (body.Granted 1 (u 1 1 3) (entry 1) mode.Read ∷ body.Sent 14 1 2 frame.Invoke ∷ [])
    ++ at 13 (body.Got 14 ∷ body.Granted 2 (u 1 1 3) (object 1) mode.Read ∷ body.Sent 15 2 1 frame.Invoked ∷ body.Got 15 ∷ body.Ok l_B 1 op.Get (text (answer.Number 5)) ∷ [])
unfolding header_serializing_waits_for_records script_serializing_waits_for_records
serializing_waits_for_records = refl

header_stop_at_decision_undone : Header
header_stop_at_decision_undone =
    record { nodes = 3; objects = record { x = 1; value = (value.Counter 0); servers = 1 ∷ []; stores = 2 ∷ 3 ∷ [] } ∷ []; format = format.Two }

script_stop_at_decision_undone : List Asked
script_stop_at_decision_undone =
    does (event.Begin l_A 1) ∷ does (event.Call l_A 1 (op.Add 1)) ∷ does event.Settle ∷ does (event.Commit l_A) ∷ stops (event.Stop 1 2 stop_kind.Undone) 1 Before ∷ does event.Settle ∷
    does (event.Restart 1) ∷ does event.Quiesce ∷ does (event.Show 1) ∷ []

-- the coordinator stops before the record is in place: presumed abort
stop_at_decision_undone : journal header_stop_at_decision_undone script_stop_at_decision_undone ≡
    at 1 (body.Began l_A kind.Top (u 1 1 1) None ∷ [])
    ++ at 2 (body.Granted 1 (u 1 1 1) (entry 1) mode.Write ∷ body.Bound 1 (b 1 1) 1 ∷ body.Sent 1 1 2 frame.Load ∷ [])
    ++ at 3 (body.Got 1 ∷ body.Sent 2 2 1 frame.Loaded ∷ body.Got 2 ∷ body.Active 1 1 (b 1 1) ∷ body.Lowered 1 (u 1 1 1) (entry 1) ∷ body.Granted 1 (u 1 1 1) (object 1) mode.Write ∷ body.Ok l_A 1 (op.Add 1) (text answer.Done) ∷ [])
    ++ at 4 (body.Committing l_A ∷ body.Sent 3 1 2 frame.Prepare ∷ body.Sent 4 1 3 frame.Prepare ∷ [])
    ++ at 5 (body.Armed 1 ∷ [])
    ++ at 6 (body.Got 3 ∷ body.Prepared 2 (u 1 1 1) role.Store ∷ body.Sent 5 2 1 frame.Prepared ∷ body.Got 4 ∷ body.Prepared 3 (u 1 1 1) role.Store ∷ body.Sent 6 3 1 frame.Prepared ∷ body.Got 5 ∷ body.Got 6 ∷ body.Halted 1 ∷ [])
    ++ at 7 (body.Up 1 2 ∷ body.Sent 7 1 2 frame.Hello ∷ body.Sent 8 1 3 frame.Hello ∷ [])
    ++ at 8 (body.Got 7 ∷ body.Sent 9 2 1 frame.Query ∷ body.Got 8 ∷ body.Sent 10 3 1 frame.Query ∷ body.Got 9 ∷ body.Sent 11 1 2 frame.Told ∷ body.Got 10 ∷ body.Sent 12 1 3 frame.Told ∷ body.Got 11 ∷ body.Done 2 (u 1 1 1) role.Store ending.Abort ∷ body.Got 12 ∷ body.Done 3 (u 1 1 1) role.Store ending.Abort ∷ body.Quiet true ∷ [])
    ++ at 9 (body.Entry 1 0 (1 ∷ []) (2 ∷ 3 ∷ []) ∷ body.Copy 2 1 0 (u 0 0 0) (0 ∷ 0 ∷ 0 ∷ 0 ∷ 0 ∷ 0 ∷ 0 ∷ 0 ∷ []) ∷ body.Copy 3 1 0 (u 0 0 0) (0 ∷ 0 ∷ 0 ∷ 0 ∷ 0 ∷ 0 ∷ 0 ∷ 0 ∷ []) ∷ [])
unfolding header_stop_at_decision_undone script_stop_at_decision_undone
stop_at_decision_undone = refl

header_stop_at_decision_done : Header
header_stop_at_decision_done =
    record { nodes = 3; objects = record { x = 1; value = (value.Counter 0); servers = 1 ∷ []; stores = 2 ∷ 3 ∷ [] } ∷ []; format = format.Two }

script_stop_at_decision_done : List Asked
script_stop_at_decision_done =
    does (event.Begin l_A 1) ∷ does (event.Call l_A 1 (op.Add 1)) ∷ does event.Settle ∷ does (event.Commit l_A) ∷ stops (event.Stop 1 2 stop_kind.Done) 1 After ∷ does event.Settle ∷
    does (event.Restart 1) ∷ does event.Quiesce ∷ does (event.Show 1) ∷ []

-- the coordinator stops after the record is in place: the commit is resumed
stop_at_decision_done : journal header_stop_at_decision_done script_stop_at_decision_done ≡
    at 1 (body.Began l_A kind.Top (u 1 1 1) None ∷ [])
    ++ at 2 (body.Granted 1 (u 1 1 1) (entry 1) mode.Write ∷ body.Bound 1 (b 1 1) 1 ∷ body.Sent 1 1 2 frame.Load ∷ [])
    ++ at 3 (body.Got 1 ∷ body.Sent 2 2 1 frame.Loaded ∷ body.Got 2 ∷ body.Active 1 1 (b 1 1) ∷ body.Lowered 1 (u 1 1 1) (entry 1) ∷ body.Granted 1 (u 1 1 1) (object 1) mode.Write ∷ body.Ok l_A 1 (op.Add 1) (text answer.Done) ∷ [])
    ++ at 4 (body.Committing l_A ∷ body.Sent 3 1 2 frame.Prepare ∷ body.Sent 4 1 3 frame.Prepare ∷ [])
    ++ at 5 (body.Armed 1 ∷ [])
    ++ at 6 (body.Got 3 ∷ body.Prepared 2 (u 1 1 1) role.Store ∷ body.Sent 5 2 1 frame.Prepared ∷ body.Got 4 ∷ body.Prepared 3 (u 1 1 1) role.Store ∷ body.Sent 6 3 1 frame.Prepared ∷ body.Got 5 ∷ body.Got 6 ∷ body.Halted 1 ∷ [])
    ++ at 7 (body.Up 1 2 ∷ body.Recovered 1 (u 1 1 1) ∷ body.Sent 7 1 2 frame.Told ∷ body.Sent 8 1 3 frame.Told ∷ body.Sent 9 1 2 frame.Hello ∷ body.Sent 10 1 3 frame.Hello ∷ [])
    ++ at 8 (body.Got 7 ∷ body.Done 2 (u 1 1 1) role.Store ending.Commit ∷ body.Sent 11 2 1 frame.Acked ∷ body.Got 8 ∷ body.Done 3 (u 1 1 1) role.Store ending.Commit ∷ body.Sent 12 3 1 frame.Acked ∷ body.Got 9 ∷ body.Got 10 ∷ body.Got 11 ∷ body.Got 12 ∷ body.Quiet true ∷ [])
    ++ at 9 (body.Entry 1 0 (1 ∷ []) (2 ∷ 3 ∷ []) ∷ body.Copy 2 1 1 (u 1 1 1) (0 ∷ 0 ∷ 0 ∷ 0 ∷ 0 ∷ 0 ∷ 0 ∷ 1 ∷ []) ∷ body.Copy 3 1 1 (u 1 1 1) (0 ∷ 0 ∷ 0 ∷ 0 ∷ 0 ∷ 0 ∷ 0 ∷ 1 ∷ []) ∷ [])
unfolding header_stop_at_decision_done script_stop_at_decision_done
stop_at_decision_done = refl

header_torn_write : Header
header_torn_write = record { nodes = 2; objects = record { x = 1; value = (value.Counter 0); servers = 1 ∷ []; stores = 2 ∷ [] } ∷ []; format = format.Two }

script_torn_write : List Asked
script_torn_write =
    does (event.Begin l_A 1) ∷ does (event.Call l_A 1 (op.Add 1)) ∷ does event.Settle ∷ stops (event.Stop 2 2 (stop_kind.Torn (65 ∷ 82 ∷ 74 ∷ []))) 2 Before ∷ does (event.Commit l_A) ∷
    does event.Settle ∷ does (event.Restart 2) ∷ does (event.Show 1) ∷ does event.Quiesce ∷ []

-- a store stops in a torn write of its prepare and is asked again
torn_write : journal header_torn_write script_torn_write ≡
    at 1 (body.Began l_A kind.Top (u 1 1 1) None ∷ [])
    ++ at 2 (body.Granted 1 (u 1 1 1) (entry 1) mode.Write ∷ body.Bound 1 (b 1 1) 1 ∷ body.Sent 1 1 2 frame.Load ∷ [])
    ++ at 3 (body.Got 1 ∷ body.Sent 2 2 1 frame.Loaded ∷ body.Got 2 ∷ body.Active 1 1 (b 1 1) ∷ body.Lowered 1 (u 1 1 1) (entry 1) ∷ body.Granted 1 (u 1 1 1) (object 1) mode.Write ∷ body.Ok l_A 1 (op.Add 1) (text answer.Done) ∷ [])
    ++ at 4 (body.Armed 2 ∷ [])
    ++ at 5 (body.Committing l_A ∷ body.Sent 3 1 2 frame.Prepare ∷ [])
    ++ at 6 (body.Got 3 ∷ body.Halted 2 ∷ [])
    ++ at 7 (body.Up 2 2 ∷ body.Sent 4 2 1 frame.Hello ∷ [])
    ++ at 8 (body.Entry 1 0 (1 ∷ []) (2 ∷ []) ∷ body.Copy 2 1 0 (u 0 0 0) (0 ∷ 0 ∷ 0 ∷ 0 ∷ 0 ∷ 0 ∷ 0 ∷ 0 ∷ []) ∷ [])
    ++ at 9 (body.Got 4 ∷ body.Sent 5 1 2 frame.Prepare ∷ body.Got 5 ∷ body.Prepared 2 (u 1 1 1) role.Store ∷ body.Sent 6 2 1 frame.Prepared ∷ body.Got 6 ∷ body.Committed l_A ∷ body.Sent 7 1 2 frame.Told ∷ body.Told 1 (u 1 1 1) ending.Commit part.Naming ∷ body.Told 1 (u 1 1 1) ending.Commit part.Server ∷ body.Got 7 ∷ body.Done 2 (u 1 1 1) role.Store ending.Commit ∷ body.Sent 8 2 1 frame.Acked ∷ body.Got 8 ∷ body.Quiet true ∷ [])
unfolding header_torn_write script_torn_write
torn_write = refl
