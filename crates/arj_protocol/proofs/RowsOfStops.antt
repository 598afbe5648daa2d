-- Whole runs, by computation: the journal of each script is known line by line.
use Rattle.std.specs.Prelude.{◌≡◌, refl, List, [], ◌∷◌, ◌++◌, true, None}
use Rattle.arj_protocol.specs.Words.{Header, object, entry}
use Rattle.arj_protocol.specs.Words.mode
use Rattle.arj_protocol.specs.Words.ending
use Rattle.arj_protocol.specs.Words.op
use Rattle.arj_protocol.specs.Words.answer
use Rattle.arj_protocol.specs.Words.format
use Rattle.arj_protocol.specs.Words.value
use Rattle.arj_protocol.specs.Words.body
use Rattle.arj_protocol.specs.Words.kind
use Rattle.arj_protocol.specs.Words.part
use Rattle.arj_protocol.specs.Words.role
use Rattle.arj_protocol.specs.Words.frame
use Rattle.arj_protocol.specs.Words.event
use Rattle.arj_protocol.specs.Words.stop_kind
use Rattle.arj_protocol.specs.Effect.{Before}
use Rattle.arj_protocol.specs.World.{Asked, journal}
use Rattle.arj_protocol.proofs.RowWords.{u, b, does, stops, at, text, l_A}

header_store_stops_at_read_undone : Header
header_store_stops_at_read_undone =
    record { nodes = 3; objects = record { x = 1; value = (value.Counter 0); servers = 1 ∷ []; stores = 2 ∷ 3 ∷ [] } ∷ []; format = format.Two }

script_store_stops_at_read_undone : List Asked
script_store_stops_at_read_undone =
    does (event.Begin l_A 1) ∷ does (event.Call l_A 1 (op.Add 1)) ∷ does event.Settle ∷ stops (event.Stop 2 1 stop_kind.Undone) 1 Before ∷ does (event.Commit l_A) ∷ does event.Settle ∷
    does (event.Restart 2) ∷ does event.Quiesce ∷ does (event.Show 1) ∷ []

-- a store stops in its read of a prepare, undone
store_stops_at_read_undone : journal header_store_stops_at_read_undone script_store_stops_at_read_undone ≡
    at 1 (body.Began l_A kind.Top (u 1 1 1) None ∷ [])
    ++ at 2 (body.Granted 1 (u 1 1 1) (entry 1) mode.Write ∷ body.Bound 1 (b 1 1) 1 ∷ body.Sent 1 1 2 frame.Load ∷ [])
    ++ at 3 (body.Got 1 ∷ body.Sent 2 2 1 frame.Loaded ∷ body.Got 2 ∷ body.Active 1 1 (b 1 1) ∷ body.Lowered 1 (u 1 1 1) (entry 1) ∷ body.Granted 1 (u 1 1 1) (object 1) mode.Write ∷ body.Ok l_A 1 (op.Add 1) (text answer.Done) ∷ [])
    ++ at 4 (body.Armed 2 ∷ [])
    ++ at 5 (body.Committing l_A ∷ body.Sent 3 1 2 frame.Prepare ∷ body.Sent 4 1 3 frame.Prepare ∷ [])
    ++ at 6 (body.Got 3 ∷ body.Halted 2 ∷ body.Got 4 ∷ body.Prepared 3 (u 1 1 1) role.Store ∷ body.Sent 5 3 1 frame.Prepared ∷ body.Got 5 ∷ [])
    ++ at 7 (body.Up 2 2 ∷ body.Sent 6 2 1 frame.Hello ∷ body.Sent 7 2 3 frame.Hello ∷ [])
    ++ at 8 (body.Got 6 ∷ body.Got 7 ∷ body.Sent 8 1 2 frame.Prepare ∷ body.Sent 9 3 1 frame.Query ∷ body.Got 8 ∷ body.Prepared 2 (u 1 1 1) role.Store ∷ body.Sent 10 2 1 frame.Prepared ∷ body.Got 9 ∷ body.Got 10 ∷ body.Committed l_A ∷ body.Sent 11 1 2 frame.Told ∷ body.Sent 12 1 3 frame.Told ∷ body.Told 1 (u 1 1 1) ending.Commit part.Naming ∷ body.Told 1 (u 1 1 1) ending.Commit part.Server ∷ body.Got 11 ∷ body.Done 2 (u 1 1 1) role.Store ending.Commit ∷ body.Sent 13 2 1 frame.Acked ∷ body.Got 12 ∷ body.Done 3 (u 1 1 1) role.Store ending.Commit ∷ body.Sent 14 3 1 frame.Acked ∷ body.Got 13 ∷ body.Got 14 ∷ body.Quiet true ∷ [])
    ++ at 9 (body.Entry 1 0 (1 ∷ []) (2 ∷ 3 ∷ []) ∷ body.Copy 2 1 1 (u 1 1 1) (0 ∷ 0 ∷ 0 ∷ 0 ∷ 0 ∷ 0 ∷ 0 ∷ 1 ∷ []) ∷ body.Copy 3 1 1 (u 1 1 1) (0 ∷ 0 ∷ 0 ∷ 0 ∷ 0 ∷ 0 ∷ 0 ∷ 1 ∷ []) ∷ [])
unfolding header_store_stops_at_read_undone script_store_stops_at_read_undone
store_stops_at_read_undone = refl

header_store_stops_at_read_done : Header
header_store_stops_at_read_done =
    record { nodes = 3; objects = record { x = 1; value = (value.Counter 0); servers = 1 ∷ []; stores = 2 ∷ 3 ∷ [] } ∷ []; format = format.Two }

script_store_stops_at_read_done : List Asked
script_store_stops_at_read_done =
    does (event.Begin l_A 1) ∷ does (event.Call l_A 1 (op.Add 1)) ∷ does event.Settle ∷ stops (event.Stop 2 1 stop_kind.Done) 1 Before ∷ does (event.Commit l_A) ∷ does event.Settle ∷
    does (event.Restart 2) ∷ does event.Quiesce ∷ does (event.Show 1) ∷ []

-- a store stops in its read of a prepare, done
store_stops_at_read_done : journal header_store_stops_at_read_done script_store_stops_at_read_done ≡
    at 1 (body.Began l_A kind.Top (u 1 1 1) None ∷ [])
    ++ at 2 (body.Granted 1 (u 1 1 1) (entry 1) mode.Write ∷ body.Bound 1 (b 1 1) 1 ∷ body.Sent 1 1 2 frame.Load ∷ [])
    ++ at 3 (body.Got 1 ∷ body.Sent 2 2 1 frame.Loaded ∷ body.Got 2 ∷ body.Active 1 1 (b 1 1) ∷ body.Lowered 1 (u 1 1 1) (entry 1) ∷ body.Granted 1 (u 1 1 1) (object 1) mode.Write ∷ body.Ok l_A 1 (op.Add 1) (text answer.Done) ∷ [])
    ++ at 4 (body.Armed 2 ∷ [])
    ++ at 5 (body.Committing l_A ∷ body.Sent 3 1 2 frame.Prepare ∷ body.Sent 4 1 3 frame.Prepare ∷ [])
    ++ at 6 (body.Got 3 ∷ body.Halted 2 ∷ body.Got 4 ∷ body.Prepared 3 (u 1 1 1) role.Store ∷ body.Sent 5 3 1 frame.Prepared ∷ body.Got 5 ∷ [])
    ++ at 7 (body.Up 2 2 ∷ body.Sent 6 2 1 frame.Hello ∷ body.Sent 7 2 3 frame.Hello ∷ [])
    ++ at 8 (body.Got 6 ∷ body.Got 7 ∷ body.Sent 8 1 2 frame.Prepare ∷ body.Sent 9 3 1 frame.Query ∷ body.Got 8 ∷ body.Prepared 2 (u 1 1 1) role.Store ∷ body.Sent 10 2 1 frame.Prepared ∷ body.Got 9 ∷ body.Got 10 ∷ body.Committed l_A ∷ body.Sent 11 1 2 frame.Told ∷ body.Sent 12 1 3 frame.Told ∷ body.Told 1 (u 1 1 1) ending.Commit part.Naming ∷ body.Told 1 (u 1 1 1) ending.Commit part.Server ∷ body.Got 11 ∷ body.Done 2 (u 1 1 1) role.Store ending.Commit ∷ body.Sent 13 2 1 frame.Acked ∷ body.Got 12 ∷ body.Done 3 (u 1 1 1) role.Store ending.Commit ∷ body.Sent 14 3 1 frame.Acked ∷ body.Got 13 ∷ body.Got 14 ∷ body.Quiet true ∷ [])
    ++ at 9 (body.Entry 1 0 (1 ∷ []) (2 ∷ 3 ∷ []) ∷ body.Copy 2 1 1 (u 1 1 1) (0 ∷ 0 ∷ 0 ∷ 0 ∷ 0 ∷ 0 ∷ 0 ∷ 1 ∷ []) ∷ body.Copy 3 1 1 (u 1 1 1) (0 ∷ 0 ∷ 0 ∷ 0 ∷ 0 ∷ 0 ∷ 0 ∷ 1 ∷ []) ∷ [])
unfolding header_store_stops_at_read_done script_store_stops_at_read_done
store_stops_at_read_done = refl

header_store_stops_at_read_torn : Header
header_store_stops_at_read_torn =
    record { nodes = 3; objects = record { x = 1; value = (value.Counter 0); servers = 1 ∷ []; stores = 2 ∷ 3 ∷ [] } ∷ []; format = format.Two }

script_store_stops_at_read_torn : List Asked
script_store_stops_at_read_torn =
    does (event.Begin l_A 1) ∷ does (event.Call l_A 1 (op.Add 1)) ∷ does event.Settle ∷ stops (event.Stop 2 1 (stop_kind.Torn (65 ∷ 82 ∷ 74 ∷ []))) 1 Before ∷ does (event.Commit l_A) ∷
    does event.Settle ∷ does (event.Restart 2) ∷ does event.Quiesce ∷ does (event.Show 1) ∷ []

-- a store stops in its read of a prepare, torn
store_stops_at_read_torn : journal header_store_stops_at_read_torn script_store_stops_at_read_torn ≡
    at 1 (body.Began l_A kind.Top (u 1 1 1) None ∷ [])
    ++ at 2 (body.Granted 1 (u 1 1 1) (entry 1) mode.Write ∷ body.Bound 1 (b 1 1) 1 ∷ body.Sent 1 1 2 frame.Load ∷ [])
    ++ at 3 (body.Got 1 ∷ body.Sent 2 2 1 frame.Loaded ∷ body.Got 2 ∷ body.Active 1 1 (b 1 1) ∷ body.Lowered 1 (u 1 1 1) (entry 1) ∷ body.Granted 1 (u 1 1 1) (object 1) mode.Write ∷ body.Ok l_A 1 (op.Add 1) (text answer.Done) ∷ [])
    ++ at 4 (body.Armed 2 ∷ [])
    ++ at 5 (body.Committing l_A ∷ body.Sent 3 1 2 frame.Prepare ∷ body.Sent 4 1 3 frame.Prepare ∷ [])
    ++ at 6 (body.Got 3 ∷ body.Halted 2 ∷ body.Got 4 ∷ body.Prepared 3 (u 1 1 1) role.Store ∷ body.Sent 5 3 1 frame.Prepared ∷ body.Got 5 ∷ [])
    ++ at 7 (body.Up 2 2 ∷ body.Sent 6 2 1 frame.Hello ∷ body.Sent 7 2 3 frame.Hello ∷ [])
    ++ at 8 (body.Got 6 ∷ body.Got 7 ∷ body.Sent 8 1 2 frame.Prepare ∷ body.Sent 9 3 1 frame.Query ∷ body.Got 8 ∷ body.Prepared 2 (u 1 1 1) role.Store ∷ body.Sent 10 2 1 frame.Prepared ∷ body.Got 9 ∷ body.Got 10 ∷ body.Committed l_A ∷ body.Sent 11 1 2 frame.Told ∷ body.Sent 12 1 3 frame.Told ∷ body.Told 1 (u 1 1 1) ending.Commit part.Naming ∷ body.Told 1 (u 1 1 1) ending.Commit part.Server ∷ body.Got 11 ∷ body.Done 2 (u 1 1 1) role.Store ending.Commit ∷ body.Sent 13 2 1 frame.Acked ∷ body.Got 12 ∷ body.Done 3 (u 1 1 1) role.Store ending.Commit ∷ body.Sent 14 3 1 frame.Acked ∷ body.Got 13 ∷ body.Got 14 ∷ body.Quiet true ∷ [])
    ++ at 9 (body.Entry 1 0 (1 ∷ []) (2 ∷ 3 ∷ []) ∷ body.Copy 2 1 1 (u 1 1 1) (0 ∷ 0 ∷ 0 ∷ 0 ∷ 0 ∷ 0 ∷ 0 ∷ 1 ∷ []) ∷ body.Copy 3 1 1 (u 1 1 1) (0 ∷ 0 ∷ 0 ∷ 0 ∷ 0 ∷ 0 ∷ 0 ∷ 1 ∷ []) ∷ [])
unfolding header_store_stops_at_read_torn script_store_stops_at_read_torn
store_stops_at_read_torn = refl

header_store_stops_at_write_undone : Header
header_store_stops_at_write_undone =
    record { nodes = 3; objects = record { x = 1; value = (value.Counter 0); servers = 1 ∷ []; stores = 2 ∷ 3 ∷ [] } ∷ []; format = format.Two }

script_store_stops_at_write_undone : List Asked
script_store_stops_at_write_undone =
    does (event.Begin l_A 1) ∷ does (event.Call l_A 1 (op.Add 1)) ∷ does event.Settle ∷ stops (event.Stop 2 2 stop_kind.Undone) 2 Before ∷ does (event.Commit l_A) ∷ does event.Settle ∷
    does (event.Restart 2) ∷ does event.Quiesce ∷ does (event.Show 1) ∷ []

-- a store stops in its write of a prepare, undone
store_stops_at_write_undone : journal header_store_stops_at_write_undone script_store_stops_at_write_undone ≡
    at 1 (body.Began l_A kind.Top (u 1 1 1) None ∷ [])
    ++ at 2 (body.Granted 1 (u 1 1 1) (entry 1) mode.Write ∷ body.Bound 1 (b 1 1) 1 ∷ body.Sent 1 1 2 frame.Load ∷ [])
    ++ at 3 (body.Got 1 ∷ body.Sent 2 2 1 frame.Loaded ∷ body.Got 2 ∷ body.Active 1 1 (b 1 1) ∷ body.Lowered 1 (u 1 1 1) (entry 1) ∷ body.Granted 1 (u 1 1 1) (object 1) mode.Write ∷ body.Ok l_A 1 (op.Add 1) (text answer.Done) ∷ [])
    ++ at 4 (body.Armed 2 ∷ [])
    ++ at 5 (body.Committing l_A ∷ body.Sent 3 1 2 frame.Prepare ∷ body.Sent 4 1 3 frame.Prepare ∷ [])
    ++ at 6 (body.Got 3 ∷ body.Halted 2 ∷ body.Got 4 ∷ body.Prepared 3 (u 1 1 1) role.Store ∷ body.Sent 5 3 1 frame.Prepared ∷ body.Got 5 ∷ [])
    ++ at 7 (body.Up 2 2 ∷ body.Sent 6 2 1 frame.Hello ∷ body.Sent 7 2 3 frame.Hello ∷ [])
    ++ at 8 (body.Got 6 ∷ body.Got 7 ∷ body.Sent 8 1 2 frame.Prepare ∷ body.Sent 9 3 1 frame.Query ∷ body.Got 8 ∷ body.Prepared 2 (u 1 1 1) role.Store ∷ body.Sent 10 2 1 frame.Prepared ∷ body.Got 9 ∷ body.Got 10 ∷ body.Committed l_A ∷ body.Sent 11 1 2 frame.Told ∷ body.Sent 12 1 3 frame.Told ∷ body.Told 1 (u 1 1 1) ending.Commit part.Naming ∷ body.Told 1 (u 1 1 1) ending.Commit part.Server ∷ body.Got 11 ∷ body.Done 2 (u 1 1 1) role.Store ending.Commit ∷ body.Sent 13 2 1 frame.Acked ∷ body.Got 12 ∷ body.Done 3 (u 1 1 1) role.Store ending.Commit ∷ body.Sent 14 3 1 frame.Acked ∷ body.Got 13 ∷ body.Got 14 ∷ body.Quiet true ∷ [])
    ++ at 9 (body.Entry 1 0 (1 ∷ []) (2 ∷ 3 ∷ []) ∷ body.Copy 2 1 1 (u 1 1 1) (0 ∷ 0 ∷ 0 ∷ 0 ∷ 0 ∷ 0 ∷ 0 ∷ 1 ∷ []) ∷ body.Copy 3 1 1 (u 1 1 1) (0 ∷ 0 ∷ 0 ∷ 0 ∷ 0 ∷ 0 ∷ 0 ∷ 1 ∷ []) ∷ [])
unfolding header_store_stops_at_write_undone script_store_stops_at_write_undone
store_stops_at_write_undone = refl

header_store_stops_at_write_done : Header
header_store_stops_at_write_done =
    record { nodes = 3; objects = record { x = 1; value = (value.Counter 0); servers = 1 ∷ []; stores = 2 ∷ 3 ∷ [] } ∷ []; format = format.Two }

script_store_stops_at_write_done : List Asked
script_store_stops_at_write_done =
    does (event.Begin l_A 1) ∷ does (event.Call l_A 1 (op.Add 1)) ∷ does event.Settle ∷ stops (event.Stop 2 2 stop_kind.Done) 2 Before ∷ does (event.Commit l_A) ∷ does event.Settle ∷
    does (event.Restart 2) ∷ does event.Quiesce ∷ does (event.Show 1) ∷ []

-- a store stops in its write of a prepare, done
store_stops_at_write_done : journal header_store_stops_at_write_done script_store_stops_at_write_done ≡
    at 1 (body.Began l_A kind.Top (u 1 1 1) None ∷ [])
    ++ at 2 (body.Granted 1 (u 1 1 1) (entry 1) mode.Write ∷ body.Bound 1 (b 1 1) 1 ∷ body.Sent 1 1 2 frame.Load ∷ [])
    ++ at 3 (body.Got 1 ∷ body.Sent 2 2 1 frame.Loaded ∷ body.Got 2 ∷ body.Active 1 1 (b 1 1) ∷ body.Lowered 1 (u 1 1 1) (entry 1) ∷ body.Granted 1 (u 1 1 1) (object 1) mode.Write ∷ body.Ok l_A 1 (op.Add 1) (text answer.Done) ∷ [])
    ++ at 4 (body.Armed 2 ∷ [])
    ++ at 5 (body.Committing l_A ∷ body.Sent 3 1 2 frame.Prepare ∷ body.Sent 4 1 3 frame.Prepare ∷ [])
    ++ at 6 (body.Got 3 ∷ body.Halted 2 ∷ body.Got 4 ∷ body.Prepared 3 (u 1 1 1) role.Store ∷ body.Sent 5 3 1 frame.Prepared ∷ body.Got 5 ∷ [])
    ++ at 7 (body.Up 2 2 ∷ body.Sent 6 2 1 frame.Hello ∷ body.Sent 7 2 3 frame.Hello ∷ [])
    ++ at 8 (body.Got 6 ∷ body.Got 7 ∷ body.Sent 8 1 2 frame.Prepare ∷ body.Sent 9 3 1 frame.Query ∷ body.Got 8 ∷ body.Prepared 2 (u 1 1 1) role.Store ∷ body.Sent 10 2 1 frame.Prepared ∷ body.Got 9 ∷ body.Got 10 ∷ body.Committed l_A ∷ body.Sent 11 1 2 frame.Told ∷ body.Sent 12 1 3 frame.Told ∷ body.Told 1 (u 1 1 1) ending.Commit part.Naming ∷ body.Told 1 (u 1 1 1) ending.Commit part.Server ∷ body.Got 11 ∷ body.Done 2 (u 1 1 1) role.Store ending.Commit ∷ body.Sent 13 2 1 frame.Acked ∷ body.Got 12 ∷ body.Done 3 (u 1 1 1) role.Store ending.Commit ∷ body.Sent 14 3 1 frame.Acked ∷ body.Got 13 ∷ body.Got 14 ∷ body.Quiet true ∷ [])
    ++ at 9 (body.Entry 1 0 (1 ∷ []) (2 ∷ 3 ∷ []) ∷ body.Copy 2 1 1 (u 1 1 1) (0 ∷ 0 ∷ 0 ∷ 0 ∷ 0 ∷ 0 ∷ 0 ∷ 1 ∷ []) ∷ body.Copy 3 1 1 (u 1 1 1) (0 ∷ 0 ∷ 0 ∷ 0 ∷ 0 ∷ 0 ∷ 0 ∷ 1 ∷ []) ∷ [])
unfolding header_store_stops_at_write_done script_store_stops_at_write_done
store_stops_at_write_done = refl

header_store_stops_at_write_torn : Header
header_store_stops_at_write_torn =
    record { nodes = 3; objects = record { x = 1; value = (value.Counter 0); servers = 1 ∷ []; stores = 2 ∷ 3 ∷ [] } ∷ []; format = format.Two }

script_store_stops_at_write_torn : List Asked
script_store_stops_at_write_torn =
    does (event.Begin l_A 1) ∷ does (event.Call l_A 1 (op.Add 1)) ∷ does event.Settle ∷ stops (event.Stop 2 2 (stop_kind.Torn (65 ∷ 82 ∷ 74 ∷ []))) 2 Before ∷ does (event.Commit l_A) ∷
    does event.Settle ∷ does (event.Restart 2) ∷ does event.Quiesce ∷ does (event.Show 1) ∷ []

-- a store stops in its write of a prepare, torn
store_stops_at_write_torn : journal header_store_stops_at_write_torn script_store_stops_at_write_torn ≡
    at 1 (body.Began l_A kind.Top (u 1 1 1) None ∷ [])
    ++ at 2 (body.Granted 1 (u 1 1 1) (entry 1) mode.Write ∷ body.Bound 1 (b 1 1) 1 ∷ body.Sent 1 1 2 frame.Load ∷ [])
    ++ at 3 (body.Got 1 ∷ body.Sent 2 2 1 frame.Loaded ∷ body.Got 2 ∷ body.Active 1 1 (b 1 1) ∷ body.Lowered 1 (u 1 1 1) (entry 1) ∷ body.Granted 1 (u 1 1 1) (object 1) mode.Write ∷ body.Ok l_A 1 (op.Add 1) (text answer.Done) ∷ [])
    ++ at 4 (body.Armed 2 ∷ [])
    ++ at 5 (body.Committing l_A ∷ body.Sent 3 1 2 frame.Prepare ∷ body.Sent 4 1 3 frame.Prepare ∷ [])
    ++ at 6 (body.Got 3 ∷ body.Halted 2 ∷ body.Got 4 ∷ body.Prepared 3 (u 1 1 1) role.Store ∷ body.Sent 5 3 1 frame.Prepared ∷ body.Got 5 ∷ [])
    ++ at 7 (body.Up 2 2 ∷ body.Sent 6 2 1 frame.Hello ∷ body.Sent 7 2 3 frame.Hello ∷ [])
    ++ at 8 (body.Got 6 ∷ body.Got 7 ∷ body.Sent 8 1 2 frame.Prepare ∷ body.Sent 9 3 1 frame.Query ∷ body.Got 8 ∷ body.Prepared 2 (u 1 1 1) role.Store ∷ body.Sent 10 2 1 frame.Prepared ∷ body.Got 9 ∷ body.Got 10 ∷ body.Committed l_A ∷ body.Sent 11 1 2 frame.Told ∷ body.Sent 12 1 3 frame.Told ∷ body.Told 1 (u 1 1 1) ending.Commit part.Naming ∷ body.Told 1 (u 1 1 1) ending.Commit part.Server ∷ body.Got 11 ∷ body.Done 2 (u 1 1 1) role.Store ending.Commit ∷ body.Sent 13 2 1 frame.Acked ∷ body.Got 12 ∷ body.Done 3 (u 1 1 1) role.Store ending.Commit ∷ body.Sent 14 3 1 frame.Acked ∷ body.Got 13 ∷ body.Got 14 ∷ body.Quiet true ∷ [])
    ++ at 9 (body.Entry 1 0 (1 ∷ []) (2 ∷ 3 ∷ []) ∷ body.Copy 2 1 1 (u 1 1 1) (0 ∷ 0 ∷ 0 ∷ 0 ∷ 0 ∷ 0 ∷ 0 ∷ 1 ∷ []) ∷ body.Copy 3 1 1 (u 1 1 1) (0 ∷ 0 ∷ 0 ∷ 0 ∷ 0 ∷ 0 ∷ 0 ∷ 1 ∷ []) ∷ [])
unfolding header_store_stops_at_write_torn script_store_stops_at_write_torn
store_stops_at_write_torn = refl

header_store_stops_at_rename_undone : Header
header_store_stops_at_rename_undone =
    record { nodes = 3; objects = record { x = 1; value = (value.Counter 0); servers = 1 ∷ []; stores = 2 ∷ 3 ∷ [] } ∷ []; format = format.Two }

script_store_stops_at_rename_undone : List Asked
script_store_stops_at_rename_undone =
    does (event.Begin l_A 1) ∷ does (event.Call l_A 1 (op.Add 1)) ∷ does event.Settle ∷ stops (event.Stop 2 3 stop_kind.Undone) 2 Before ∷ does (event.Commit l_A) ∷ does event.Settle ∷
    does (event.Restart 2) ∷ does event.Quiesce ∷ does (event.Show 1) ∷ []

-- a store stops in its rename of a prepare, undone
store_stops_at_rename_undone : journal header_store_stops_at_rename_undone script_store_stops_at_rename_undone ≡
    at 1 (body.Began l_A kind.Top (u 1 1 1) None ∷ [])
    ++ at 2 (body.Granted 1 (u 1 1 1) (entry 1) mode.Write ∷ body.Bound 1 (b 1 1) 1 ∷ body.Sent 1 1 2 frame.Load ∷ [])
    ++ at 3 (body.Got 1 ∷ body.Sent 2 2 1 frame.Loaded ∷ body.Got 2 ∷ body.Active 1 1 (b 1 1) ∷ body.Lowered 1 (u 1 1 1) (entry 1) ∷ body.Granted 1 (u 1 1 1) (object 1) mode.Write ∷ body.Ok l_A 1 (op.Add 1) (text answer.Done) ∷ [])
    ++ at 4 (body.Armed 2 ∷ [])
    ++ at 5 (body.Committing l_A ∷ body.Sent 3 1 2 frame.Prepare ∷ body.Sent 4 1 3 frame.Prepare ∷ [])
    ++ at 6 (body.Got 3 ∷ body.Halted 2 ∷ body.Got 4 ∷ body.Prepared 3 (u 1 1 1) role.Store ∷ body.Sent 5 3 1 frame.Prepared ∷ body.Got 5 ∷ [])
    ++ at 7 (body.Up 2 2 ∷ body.Sent 6 2 1 frame.Hello ∷ body.Sent 7 2 3 frame.Hello ∷ [])
    ++ at 8 (body.Got 6 ∷ body.Got 7 ∷ body.Sent 8 1 2 frame.Prepare ∷ body.Sent 9 3 1 frame.Query ∷ body.Got 8 ∷ body.Prepared 2 (u 1 1 1) role.Store ∷ body.Sent 10 2 1 frame.Prepared ∷ body.Got 9 ∷ body.Got 10 ∷ body.Committed l_A ∷ body.Sent 11 1 2 frame.Told ∷ body.Sent 12 1 3 frame.Told ∷ body.Told 1 (u 1 1 1) ending.Commit part.Naming ∷ body.Told 1 (u 1 1 1) ending.Commit part.Server ∷ body.Got 11 ∷ body.Done 2 (u 1 1 1) role.Store ending.Commit ∷ body.Sent 13 2 1 frame.Acked ∷ body.Got 12 ∷ body.Done 3 (u 1 1 1) role.Store ending.Commit ∷ body.Sent 14 3 1 frame.Acked ∷ body.Got 13 ∷ body.Got 14 ∷ body.Quiet true ∷ [])
    ++ at 9 (body.Entry 1 0 (1 ∷ []) (2 ∷ 3 ∷ []) ∷ body.Copy 2 1 1 (u 1 1 1) (0 ∷ 0 ∷ 0 ∷ 0 ∷ 0 ∷ 0 ∷ 0 ∷ 1 ∷ []) ∷ body.Copy 3 1 1 (u 1 1 1) (0 ∷ 0 ∷ 0 ∷ 0 ∷ 0 ∷ 0 ∷ 0 ∷ 1 ∷ []) ∷ [])
unfolding header_store_stops_at_rename_undone script_store_stops_at_rename_undone
store_stops_at_rename_undone = refl

header_store_stops_at_rename_torn : Header
header_store_stops_at_rename_torn =
    record { nodes = 3; objects = record { x = 1; value = (value.Counter 0); servers = 1 ∷ []; stores = 2 ∷ 3 ∷ [] } ∷ []; format = format.Two }

script_store_stops_at_rename_torn : List Asked
script_store_stops_at_rename_torn =
    does (event.Begin l_A 1) ∷ does (event.Call l_A 1 (op.Add 1)) ∷ does event.Settle ∷ stops (event.Stop 2 3 (stop_kind.Torn (65 ∷ 82 ∷ 74 ∷ []))) 2 Before ∷ does (event.Commit l_A) ∷
    does event.Settle ∷ does (event.Restart 2) ∷ does event.Quiesce ∷ does (event.Show 1) ∷ []

-- a store stops in its rename of a prepare, torn
store_stops_at_rename_torn : journal header_store_stops_at_rename_torn script_store_stops_at_rename_torn ≡
    at 1 (body.Began l_A kind.Top (u 1 1 1) None ∷ [])
    ++ at 2 (body.Granted 1 (u 1 1 1) (entry 1) mode.Write ∷ body.Bound 1 (b 1 1) 1 ∷ body.Sent 1 1 2 frame.Load ∷ [])
    ++ at 3 (body.Got 1 ∷ body.Sent 2 2 1 frame.Loaded ∷ body.Got 2 ∷ body.Active 1 1 (b 1 1) ∷ body.Lowered 1 (u 1 1 1) (entry 1) ∷ body.Granted 1 (u 1 1 1) (object 1) mode.Write ∷ body.Ok l_A 1 (op.Add 1) (text answer.Done) ∷ [])
    ++ at 4 (body.Armed 2 ∷ [])
    ++ at 5 (body.Committing l_A ∷ body.Sent 3 1 2 frame.Prepare ∷ body.Sent 4 1 3 frame.Prepare ∷ [])
    ++ at 6 (body.Got 3 ∷ body.Halted 2 ∷ body.Got 4 ∷ body.Prepared 3 (u 1 1 1) role.Store ∷ body.Sent 5 3 1 frame.Prepared ∷ body.Got 5 ∷ [])
    ++ at 7 (body.Up 2 2 ∷ body.Sent 6 2 1 frame.Hello ∷ body.Sent 7 2 3 frame.Hello ∷ [])
    ++ at 8 (body.Got 6 ∷ body.Got 7 ∷ body.Sent 8 1 2 frame.Prepare ∷ body.Sent 9 3 1 frame.Query ∷ body.Got 8 ∷ body.Prepared 2 (u 1 1 1) role.Store ∷ body.Sent 10 2 1 frame.Prepared ∷ body.Got 9 ∷ body.Got 10 ∷ body.Committed l_A ∷ body.Sent 11 1 2 frame.Told ∷ body.Sent 12 1 3 frame.Told ∷ body.Told 1 (u 1 1 1) ending.Commit part.Naming ∷ body.Told 1 (u 1 1 1) ending.Commit part.Server ∷ body.Got 11 ∷ body.Done 2 (u 1 1 1) role.Store ending.Commit ∷ body.Sent 13 2 1 frame.Acked ∷ body.Got 12 ∷ body.Done 3 (u 1 1 1) role.Store ending.Commit ∷ body.Sent 14 3 1 frame.Acked ∷ body.Got 13 ∷ body.Got 14 ∷ body.Quiet true ∷ [])
    ++ at 9 (body.Entry 1 0 (1 ∷ []) (2 ∷ 3 ∷ []) ∷ body.Copy 2 1 1 (u 1 1 1) (0 ∷ 0 ∷ 0 ∷ 0 ∷ 0 ∷ 0 ∷ 0 ∷ 1 ∷ []) ∷ body.Copy 3 1 1 (u 1 1 1) (0 ∷ 0 ∷ 0 ∷ 0 ∷ 0 ∷ 0 ∷ 0 ∷ 1 ∷ []) ∷ [])
unfolding header_store_stops_at_rename_torn script_store_stops_at_rename_torn
store_stops_at_rename_torn = refl
