-- On several nodes, which crash and whose disks stop: runs of 150 events that were chosen at random. Each journal follows its events, and each line has its cause.
use Rattle.std.specs.Prelude.{◌≡◌, refl, [], ◌∷◌, codes, true, Some, None}
use Rattle.arj_base.specs.declared.mode.Mode.TheVariants.{Exclude, Read, Write}
use Rattle.arj_base.specs.declared.mode.End.TheVariants.{Abort, Commit}
use Rattle.arj_class.specs.declared.op.Op.TheVariants as op
use Rattle.arj_class.specs.declared.value.Value.TheVariants as value
use Rattle.arj_journal.specs.declared.body.Body.TheVariants as body
use Rattle.arj_journal.specs.declared.body.Cause.TheVariants as cause
use Rattle.arj_journal.specs.declared.body.Difference.TheVariants as difference
use Rattle.arj_journal.specs.declared.body.FrameKind.TheVariants as frame
use Rattle.arj_journal.specs.declared.body.Kind.TheVariants as kind
use Rattle.arj_journal.specs.declared.body.Part.TheVariants as part
use Rattle.arj_journal.specs.declared.body.Role.TheVariants as role
use Rattle.arj_journal.specs.declared.event.Event.TheVariants as event
use Rattle.arj_journal.specs.declared.event.StopKind.TheVariants as stop
use Rattle.arj_journal.specs.declared.event.FrameNo.TheVariants.{Number}
use Rattle.arj_cause_tests.proofs.Words.{Run, b, is_followed, l, lacking, nodes, object_line, run, u}

abbrev crash_1 : Run
crash_1 = run
    (nodes 2 (object_line 1 (value.Queue (5 ∷ 5 ∷ [])) (1 ∷ 2 ∷ []) (2 ∷ 1 ∷ []) ∷ []))
    ((event.Settle, []) ∷ (event.Begin (l 161) 1, body.Began (l 161) kind.Top (u 1 1 1) None ∷ [])
    ∷ (
      event.Call (l 161) 1 (op.Push 0),
      body.Granted 1 (u 1 1 1) (u 0 1 1) Write ∷ body.Bound 1 (b 1 1) 1 ∷ body.Sent 1 1 2 frame.Load ∷ [],
    )
    ∷ (
      event.Settle,
      body.Got 1 ∷ body.Sent 2 2 1 frame.Loaded ∷ body.Got 2 ∷ body.Active 1 1 (b 1 1) ∷ body.Lowered 1 (u 1 1 1) (u 0 1 1)
          ∷ body.Granted 1 (u 1 1 1) (u 0 0 1) Write ∷ body.Ok (l 161) 1 (op.Push 0) (codes "done") ∷ [],
    ) ∷ (event.Commit (l 161), body.Committing (l 161) ∷ body.Sent 3 1 2 frame.Prepare ∷ body.Prepared 1 (u 1 1 1) role.Store ∷ [])
    ∷ (event.Deliver (Number 3), body.Got 3 ∷ body.Prepared 2 (u 1 1 1) role.Store ∷ body.Sent 4 2 1 frame.Prepared ∷ [])
    ∷ (
      event.Deliver (Number 4),
      body.Got 4 ∷ body.Committed (l 161) ∷ body.Sent 5 1 2 frame.Told ∷ body.Done 1 (u 1 1 1) role.Store Commit
          ∷ body.Told 1 (u 1 1 1) Commit part.Naming ∷ body.Told 1 (u 1 1 1) Commit part.Server ∷ [],
    ) ∷ (event.Settle, body.Got 5 ∷ body.Done 2 (u 1 1 1) role.Store Commit ∷ body.Sent 6 2 1 frame.Acked ∷ body.Got 6 ∷ [])
    ∷ (event.Begin (l 164) 1, body.Began (l 164) kind.Top (u 1 1 2) None ∷ [])
    ∷ (
      event.Call (l 164) 1 (op.Push 0),
      body.Granted 1 (u 1 1 2) (u 0 1 1) Read ∷ body.Granted 1 (u 1 1 2) (u 0 0 1) Write ∷ body.Ok (l 164) 1 (op.Push 0) (codes "done")
          ∷ [],
    ) ∷ (event.Crash 1, body.Halted 1 ∷ []) ∷ (event.Restart 1, body.Up 1 2 ∷ body.Sent 7 1 2 frame.Hello ∷ [])
    ∷ (event.Begin (l 165) 1, body.Began (l 165) kind.Top (u 1 2 1) None ∷ [])
    ∷ (event.Begin (l 166) 1, body.Began (l 166) kind.Top (u 1 2 2) None ∷ [])
    ∷ (event.Commit (l 166), body.Committing (l 166) ∷ body.Committed (l 166) ∷ [])
    ∷ (event.Begin (l 167) 2, body.Began (l 167) kind.Top (u 2 1 1) None ∷ []) ∷ (event.Deliver (Number 7), body.Got 7 ∷ [])
    ∷ (event.Abort (l 165), body.Aborted (l 165) cause.Asked ∷ [])
    ∷ (event.Begin (l 168) 1, body.Began (l 168) kind.Top (u 1 2 3) None ∷ [])
    ∷ (event.Top (l 169) (l 167), body.Began (l 169) kind.Independent (u 2 1 2) (Some (l 167)) ∷ [])
    ∷ (event.Deliver (Number 1), body.Got 1 ∷ body.Sent 8 2 1 frame.Loaded ∷ [])
    ∷ (event.BeginIn (l 170) (l 169), body.Began (l 170) kind.Nested (u 2 1 3) (Some (l 169)) ∷ [])
    ∷ (event.Call (l 170) 1 op.Pop, body.Sent 9 2 1 frame.Bind ∷ [])
    ∷ (
      event.Call (l 168) 1 op.Pop,
      body.Granted 1 (u 1 2 3) (u 0 1 1) Write ∷ body.Bound 1 (b 2 1) 1 ∷ body.Sent 10 1 2 frame.Load ∷ [],
    ) ∷ (event.Stop 2 13 stop.Done, body.Armed 2 ∷ []) ∷ (event.Deliver (Number 8), body.Void 8 ∷ [])
    ∷ (event.Lose (Number 10), body.Dropped 10 ∷ []) ∷ (event.Deliver (Number 9), body.Got 9 ∷ body.Sent 11 1 2 frame.Bound ∷ [])
    ∷ (event.Deliver (Number 11), body.Got 11 ∷ body.Conflict (l 170) (u 1 2 3) Write 1 ∷ [])
    ∷ (event.Call (l 169) 1 (op.Push 0), body.Sent 12 2 1 frame.Bind ∷ [])
    ∷ (event.Deliver (Number 12), body.Got 12 ∷ body.Sent 13 1 2 frame.Bound ∷ [])
    ∷ (event.Call (l 167) 1 op.Pop, body.Sent 14 2 1 frame.Bind ∷ [])
    ∷ (
      event.GiveUp (l 168),
      body.GaveUp (l 168) 2 ∷ body.Active 1 1 (b 2 1) ∷ body.Lowered 1 (u 1 2 3) (u 0 1 1) ∷ body.Granted 1 (u 1 2 3) (u 0 0 1) Write
          ∷ body.Ok (l 168) 1 op.Pop (codes "5") ∷ [],
    ) ∷ (event.Deliver (Number 13), body.Got 13 ∷ body.Conflict (l 169) (u 1 2 3) Write 1 ∷ [])
    ∷ (event.Deliver (Number 14), body.Got 14 ∷ body.Granted 1 (u 2 1 1) (u 0 1 1) Read ∷ body.Sent 15 1 2 frame.Bound ∷ [])
    ∷ (event.Deliver (Number 15), body.Got 15 ∷ body.Sent 16 2 1 frame.Invoke ∷ [])
    ∷ (event.GiveUp (l 167), body.GaveUp (l 167) 1 ∷ body.Lost (l 167) 1 ∷ [])
    ∷ (event.Deliver (Number 16), body.Got 16 ∷ body.Sent 17 1 2 frame.Invoked ∷ [])
    ∷ (event.Commit (l 168), body.Committing (l 168) ∷ body.Sent 18 1 2 frame.Prepare ∷ body.Prepared 1 (u 1 2 3) role.Store ∷ [])
    ∷ (event.Deliver (Number 17), body.Void 17 ∷ [])
    ∷ (event.Deliver (Number 18), body.Got 18 ∷ body.Prepared 2 (u 1 2 3) role.Store ∷ body.Sent 19 2 1 frame.Prepared ∷ [])
    ∷ (
      event.Deliver (Number 19),
      body.Got 19 ∷ body.Committed (l 168) ∷ body.Sent 20 1 2 frame.Told ∷ body.Done 1 (u 1 2 3) role.Store Commit
          ∷ body.Told 1 (u 1 2 3) Commit part.Naming ∷ body.Told 1 (u 1 2 3) Commit part.Server ∷ [],
    ) ∷ (event.Call (l 169) 1 (op.Push 3), body.Sent 21 2 1 frame.Bind ∷ [])
    ∷ (event.Deliver (Number 20), body.Got 20 ∷ body.Done 2 (u 1 2 3) role.Store Commit ∷ body.Sent 22 2 1 frame.Acked ∷ [])
    ∷ (event.Lose (Number 22), body.Dropped 22 ∷ [])
    ∷ (
      event.Settle,
      body.Got 21 ∷ body.Granted 1 (u 2 1 2) (u 0 1 1) Read ∷ body.Sent 23 1 2 frame.Bound ∷ body.Got 23 ∷ body.Sent 24 2 1 frame.Invoke
          ∷ body.Got 24 ∷ body.Granted 1 (u 2 1 2) (u 0 0 1) Write ∷ body.Sent 25 1 2 frame.Invoked ∷ body.Got 25
          ∷ body.Ok (l 169) 1 (op.Push 3) (codes "done") ∷ [],
    ) ∷ (event.BeginIn (l 171) (l 169), body.Began (l 171) kind.Nested (u 2 1 4) (Some (l 169)) ∷ [])
    ∷ (event.Commit (l 167), body.Aborted (l 167) cause.Doomed ∷ body.Sent 26 2 1 frame.Told ∷ [])
    ∷ (event.Deliver (Number 26), body.Got 26 ∷ body.Told 1 (u 2 1 1) Abort part.Naming ∷ [])
    ∷ (event.Commit (l 170), body.Committed (l 170) ∷ []) ∷ (event.Call (l 171) 1 (op.Push 1), body.Sent 27 2 1 frame.Invoke ∷ [])
    ∷ (event.Deliver (Number 27), body.Got 27 ∷ body.Granted 1 (u 2 1 4) (u 0 0 1) Write ∷ body.Sent 28 1 2 frame.Invoked ∷ [])
    ∷ (event.Lose (Number 28), body.Dropped 28 ∷ [])
    ∷ (event.BeginIn (l 172) (l 169), body.Began (l 172) kind.Nested (u 2 1 5) (Some (l 169)) ∷ [])
    ∷ (event.Call (l 172) 1 op.Pop, body.Sent 29 2 1 frame.Invoke ∷ [])
    ∷ (event.Deliver (Number 29), body.Got 29 ∷ body.Sent 30 1 2 frame.Invoked ∷ [])
    ∷ (event.Deliver (Number 30), body.Got 30 ∷ body.Conflict (l 172) (u 2 1 4) Write 1 ∷ []) ∷ (event.Abort (l 169), body.Refused 7 ∷ [])
    ∷ (event.Settle, []) ∷ (event.Begin (l 173) 2, body.Began (l 173) kind.Top (u 2 1 6) None ∷ [])
    ∷ (event.Abort (l 173), body.Aborted (l 173) cause.Asked ∷ []) ∷ (event.Call (l 173) 1 (op.Push 4), body.Refused 6 ∷ [])
    ∷ (event.Settle, []) ∷ (event.Commit (l 173), body.Refused 6 ∷ []) ∷ (event.Settle, []) ∷ (event.Settle, [])
    ∷ (event.Begin (l 174) 2, body.Began (l 174) kind.Top (u 2 1 7) None ∷ [])
    ∷ (event.Call (l 174) 1 (op.Push 0), body.Sent 31 2 1 frame.Bind ∷ [])
    ∷ (
      event.Settle,
      body.Got 31 ∷ body.Granted 1 (u 2 1 7) (u 0 1 1) Read ∷ body.Sent 32 1 2 frame.Bound ∷ body.Got 32 ∷ body.Sent 33 2 1 frame.Invoke
          ∷ body.Got 33 ∷ body.Sent 34 1 2 frame.Invoked ∷ body.Got 34 ∷ body.Conflict (l 174) (u 2 1 2) Write 1 ∷ [],
    ) ∷ (event.Commit (l 174), body.Committing (l 174) ∷ body.Committed (l 174) ∷ body.Sent 35 2 1 frame.Told ∷ [])
    ∷ (event.Settle, body.Got 35 ∷ body.Told 1 (u 2 1 7) Abort part.Naming ∷ []) ∷ (event.Settle, [])
    ∷ (event.Stop 1 1 stop.Undone, body.Armed 1 ∷ []) ∷ (event.Begin (l 176) 2, body.Began (l 176) kind.Top (u 2 1 8) None ∷ [])
    ∷ (event.Deliver (Number 6), body.Void 6 ∷ []) ∷ (event.Call (l 172) 1 (op.Push 4), body.Sent 36 2 1 frame.Invoke ∷ [])
    ∷ (event.Top (l 177) (l 169), body.Began (l 177) kind.Independent (u 2 1 9) (Some (l 169)) ∷ [])
    ∷ (event.Call (l 177) 1 (op.Push 4), body.Sent 37 2 1 frame.Bind ∷ [])
    ∷ (event.Deliver (Number 36), body.Got 36 ∷ body.Sent 38 1 2 frame.Invoked ∷ [])
    ∷ (event.Deliver (Number 38), body.Got 38 ∷ body.Conflict (l 172) (u 2 1 4) Write 1 ∷ [])
    ∷ (event.Deliver (Number 37), body.Got 37 ∷ body.Granted 1 (u 2 1 9) (u 0 1 1) Read ∷ body.Sent 39 1 2 frame.Bound ∷ [])
    ∷ (event.Deliver (Number 39), body.Got 39 ∷ body.Sent 40 2 1 frame.Invoke ∷ [])
    ∷ (event.Deliver (Number 40), body.Got 40 ∷ body.Sent 41 1 2 frame.Invoked ∷ [])
    ∷ (event.Call (l 176) 1 (op.Push 0), body.Sent 42 2 1 frame.Bind ∷ []) ∷ (event.Lose (Number 41), body.Dropped 41 ∷ [])
    ∷ (event.GiveUp (l 171), body.GaveUp (l 171) 1 ∷ body.Lost (l 171) 1 ∷ []) ∷ (event.Deliver (Number 31), body.Void 31 ∷ [])
    ∷ (event.Deliver (Number 42), body.Got 42 ∷ body.Granted 1 (u 2 1 8) (u 0 1 1) Read ∷ body.Sent 43 1 2 frame.Bound ∷ [])
    ∷ (event.Deliver (Number 43), body.Got 43 ∷ body.Sent 44 2 1 frame.Invoke ∷ [])
    ∷ (event.Deliver (Number 44), body.Got 44 ∷ body.Sent 45 1 2 frame.Invoked ∷ [])
    ∷ (event.Deliver (Number 45), body.Got 45 ∷ body.Conflict (l 176) (u 2 1 2) Write 1 ∷ [])
    ∷ (event.Call (l 176) 1 op.Pop, body.Sent 46 2 1 frame.Invoke ∷ [])
    ∷ (
      event.Abort (l 169),
      body.Aborted (l 172) cause.Asked ∷ body.Aborted (l 171) cause.Asked ∷ body.Aborted (l 169) cause.Asked
          ∷ body.Sent 47 2 1 frame.Told ∷ body.Sent 48 2 1 frame.Told ∷ body.Sent 49 2 1 frame.Told ∷ [],
    ) ∷ (event.Abort (l 176), body.Refused 7 ∷ []) ∷ (event.Abort (l 177), body.Refused 7 ∷ [])
    ∷ (
      event.Settle,
      body.Got 46 ∷ body.Sent 50 1 2 frame.Invoked ∷ body.Got 47 ∷ body.Got 48 ∷ body.Told 1 (u 2 1 4) Abort part.Server ∷ body.Got 49
          ∷ body.Told 1 (u 2 1 2) Abort part.Naming ∷ body.Told 1 (u 2 1 2) Abort part.Server ∷ body.Got 50
          ∷ body.Conflict (l 176) (u 2 1 2) Write 1 ∷ [],
    ) ∷ (event.Begin (l 178) 1, body.Began (l 178) kind.Top (u 1 2 4) None ∷ [])
    ∷ (
      event.Call (l 178) 1 (op.Push 1),
      body.Granted 1 (u 1 2 4) (u 0 1 1) Read ∷ body.Granted 1 (u 1 2 4) (u 0 0 1) Write ∷ body.Ok (l 178) 1 (op.Push 1) (codes "done")
          ∷ [],
    ) ∷ (event.Call (l 178) 1 (op.Push 18446744073709551615), body.Ok (l 178) 1 (op.Push 18446744073709551615) (codes "done") ∷ [])
    ∷ (event.Settle, []) ∷ (event.Commit (l 178), body.Committing (l 178) ∷ body.Sent 51 1 2 frame.Prepare ∷ body.Halted 1 ∷ [])
    ∷ (event.Lose (Number 51), body.Dropped 51 ∷ []) ∷ (event.Deliver (Number 33), body.Void 33 ∷ [])
    ∷ (event.Tick 2, body.Sent 52 2 1 frame.Invoke ∷ []) ∷ (event.Deliver (Number 52), body.Void 52 ∷ [])
    ∷ (event.Call (l 176) 1 op.Pop, body.Sent 53 2 1 frame.Invoke ∷ []) ∷ (event.Deliver (Number 53), body.Void 53 ∷ [])
    ∷ (event.Restart 1, body.Up 1 3 ∷ body.Recovered 1 (u 1 2 3) ∷ body.Sent 54 1 2 frame.Told ∷ body.Sent 55 1 2 frame.Hello ∷ [])
    ∷ (event.Deliver (Number 54), body.Got 54 ∷ body.Sent 56 2 1 frame.Acked ∷ []) ∷ (event.Deliver (Number 55), body.Got 55 ∷ [])
    ∷ (event.Deliver (Number 56), body.Got 56 ∷ []) ∷ (event.Settle, [])
    ∷ (event.Begin (l 181) 1, body.Began (l 181) kind.Top (u 1 3 1) None ∷ [])
    ∷ (
      event.Call (l 181) 1 (op.Push 0),
      body.Granted 1 (u 1 3 1) (u 0 1 1) Write ∷ body.Bound 1 (b 3 1) 1 ∷ body.Sent 57 1 2 frame.Load ∷ [],
    )
    ∷ (
      event.Settle,
      body.Got 57 ∷ body.Sent 58 2 1 frame.Loaded ∷ body.Got 58 ∷ body.Active 1 1 (b 3 1) ∷ body.Lowered 1 (u 1 3 1) (u 0 1 1)
          ∷ body.Granted 1 (u 1 3 1) (u 0 0 1) Write ∷ body.Ok (l 181) 1 (op.Push 0) (codes "done") ∷ [],
    ) ∷ (event.Commit (l 181), body.Committing (l 181) ∷ body.Sent 59 1 2 frame.Prepare ∷ body.Prepared 1 (u 1 3 1) role.Store ∷ [])
    ∷ (event.Deliver (Number 59), body.Got 59 ∷ body.Halted 2 ∷ []) ∷ (event.Settle, [])
    ∷ (event.Begin (l 182) 1, body.Began (l 182) kind.Top (u 1 3 2) None ∷ [])
    ∷ (event.Call (l 182) 1 op.Pop, body.Granted 1 (u 1 3 2) (u 0 1 1) Read ∷ body.Conflict (l 182) (u 1 3 1) Write 1 ∷ [])
    ∷ (event.Settle, [])
    ∷ (event.Commit (l 182), body.Committing (l 182) ∷ body.Committed (l 182) ∷ body.Told 1 (u 1 3 2) Abort part.Naming ∷ [])
    ∷ (event.Settle, [])
    ∷ (event.Deliver (Number 31), body.Got 31 ∷ body.Granted 1 (u 2 1 7) (u 0 1 1) Read ∷ body.Sent 60 1 2 frame.Bound ∷ [])
    ∷ (event.Lose (Number 60), body.Dropped 60 ∷ [])
    ∷ (
      event.GiveUp (l 181),
      body.GaveUp (l 181) 2 ∷ body.Excluded (l 181) 1 2 ∷ body.Granted 1 (u 1 3 1) (u 0 1 1) Exclude
          ∷ body.Prepared 1 (u 1 3 1) role.Names ∷ body.Committed (l 181) ∷ body.Sent 61 1 2 frame.Told
          ∷ body.Done 1 (u 1 3 1) role.Store Commit ∷ body.Done 1 (u 1 3 1) role.Names Commit ∷ body.Told 1 (u 1 3 1) Commit part.Naming
          ∷ body.Told 1 (u 1 3 1) Commit part.Server ∷ [],
    ) ∷ (event.Deliver (Number 61), body.Void 61 ∷ [])
    ∷ (event.Restart 2, body.Up 2 2 ∷ body.Sent 62 2 1 frame.Query ∷ body.Sent 63 2 1 frame.Hello ∷ [])
    ∷ (
      event.Settle,
      body.Got 62 ∷ body.Sent 64 1 2 frame.Told ∷ body.Got 63 ∷ body.Sent 65 1 2 frame.Query ∷ body.Got 64
          ∷ body.Done 2 (u 1 3 1) role.Store Abort ∷ body.Got 65 ∷ body.Sent 66 2 1 frame.Told ∷ body.Got 66
          ∷ body.Told 1 (u 2 1 7) Abort part.Naming ∷ [],
    ) ∷ (event.Begin (l 184) 1, body.Began (l 184) kind.Top (u 1 3 3) None ∷ [])
    ∷ (
      event.Call (l 184) 1 (op.Push 2),
      body.Granted 1 (u 1 3 3) (u 0 1 1) Read ∷ body.Granted 1 (u 1 3 3) (u 0 0 1) Write ∷ body.Ok (l 184) 1 (op.Push 2) (codes "done")
          ∷ [],
    ) ∷ (event.Deliver (Number 58), body.Void 58 ∷ []) ∷ (event.Settle, [])
    ∷ (event.Call (l 184) 1 (op.Push 2), body.Ok (l 184) 1 (op.Push 2) (codes "done") ∷ []) ∷ (event.Tick 1, []) ∷ (event.Settle, [])
    ∷ (event.Call (l 184) 1 (op.Push 2), body.Ok (l 184) 1 (op.Push 2) (codes "done") ∷ []) ∷ (event.Settle, []) ∷ (event.Settle, [])
    ∷ (
      event.Commit (l 184),
      body.Committing (l 184) ∷ body.Prepared 1 (u 1 3 3) role.Store ∷ body.Committed (l 184) ∷ body.Done 1 (u 1 3 3) role.Store Commit
          ∷ body.Told 1 (u 1 3 3) Commit part.Naming ∷ body.Told 1 (u 1 3 3) Commit part.Server ∷ [],
    ) ∷ (event.Begin (l 187) 1, body.Began (l 187) kind.Top (u 1 3 4) None ∷ [])
    ∷ (
      event.Call (l 187) 1 op.Len,
      body.Granted 1 (u 1 3 4) (u 0 1 1) Read ∷ body.Granted 1 (u 1 3 4) (u 0 0 1) Read ∷ body.Ok (l 187) 1 op.Len (codes "6") ∷ [],
    ) ∷ (event.Call (l 187) 1 op.Len, body.Ok (l 187) 1 op.Len (codes "6") ∷ []) ∷ (event.Tick 2, [])
    ∷ (event.Call (l 187) 1 (op.Push 3), body.Granted 1 (u 1 3 4) (u 0 0 1) Write ∷ body.Ok (l 187) 1 (op.Push 3) (codes "done") ∷ [])
    ∷ (
      event.Abort (l 187),
      body.Aborted (l 187) cause.Asked ∷ body.Told 1 (u 1 3 4) Abort part.Naming ∷ body.Told 1 (u 1 3 4) Abort part.Server ∷ [],
    ) ∷ (event.Settle, []) ∷ (event.Begin (l 188) 2, body.Began (l 188) kind.Top (u 2 2 1) None ∷ [])
    ∷ (event.Call (l 188) 1 (op.Push 0), body.Sent 67 2 1 frame.Bind ∷ [])
    ∷ (event.Deliver (Number 67), body.Got 67 ∷ body.Granted 1 (u 2 2 1) (u 0 1 1) Read ∷ body.Sent 68 1 2 frame.Bound ∷ []) ∷ [])

crash_1_follows : is_followed crash_1 ≡ true
crash_1_follows = refl

crash_1_has_causes : lacking crash_1 ≡ []
crash_1_has_causes = refl

abbrev crash_2 : Run
crash_2 = run
    (nodes 3 (object_line 1 (value.Counter 18446744073709551614) (3 ∷ 2 ∷ []) (3 ∷ 1 ∷ []) ∷ []))
    ((event.Begin (l 161) 2, body.Began (l 161) kind.Top (u 2 1 1) None ∷ [])
    ∷ (event.Abort (l 161), body.Aborted (l 161) cause.Asked ∷ []) ∷ (event.Settle, [])
    ∷ (event.Begin (l 162) 2, body.Began (l 162) kind.Top (u 2 1 2) None ∷ [])
    ∷ (event.Call (l 162) 1 (op.Add 4), body.Sent 1 2 1 frame.Bind ∷ [])
    ∷ (
      event.Deliver (Number 1),
      body.Got 1 ∷ body.Granted 1 (u 2 1 2) (u 0 1 1) Write ∷ body.Bound 1 (b 1 1) 3 ∷ body.Sent 2 1 2 frame.Bound ∷ [],
    ) ∷ (event.Deliver (Number 2), body.Got 2 ∷ body.Sent 3 2 3 frame.Load ∷ [])
    ∷ (event.Deliver (Number 3), body.Got 3 ∷ body.Sent 4 3 2 frame.Loaded ∷ [])
    ∷ (event.Deliver (Number 4), body.Got 4 ∷ body.Sent 5 2 3 frame.Activate ∷ [])
    ∷ (event.Deliver (Number 5), body.Got 5 ∷ body.Active 3 1 (b 1 1) ∷ body.Sent 6 3 2 frame.Activated ∷ [])
    ∷ (event.Deliver (Number 6), body.Got 6 ∷ body.Sent 7 2 1 frame.Record ∷ []) ∷ (event.Lose (Number 7), body.Dropped 7 ∷ [])
    ∷ (event.GiveUp (l 162), body.GaveUp (l 162) 1 ∷ body.Lost (l 162) 1 ∷ [])
    ∷ (event.Call (l 162) 1 (op.Add 18446744073709551615), body.Sent 8 2 1 frame.Bind ∷ [])
    ∷ (event.Deliver (Number 8), body.Got 8 ∷ body.Bound 1 (b 1 2) 2 ∷ body.Sent 9 1 2 frame.Bound ∷ [])
    ∷ (event.Deliver (Number 9), body.Got 9 ∷ body.Sent 10 2 3 frame.Load ∷ [])
    ∷ (event.Deliver (Number 10), body.Got 10 ∷ body.Sent 11 3 2 frame.Loaded ∷ [])
    ∷ (event.Deliver (Number 11), body.Got 11 ∷ body.Active 2 1 (b 1 2) ∷ body.Sent 12 2 1 frame.Record ∷ [])
    ∷ (event.Deliver (Number 12), body.Got 12 ∷ body.Lowered 1 (u 2 1 2) (u 0 1 1) ∷ body.Sent 13 1 2 frame.Recorded ∷ [])
    ∷ (
      event.Deliver (Number 13),
      body.Got 13 ∷ body.Granted 2 (u 2 1 2) (u 0 0 1) Write ∷ body.Ok (l 162) 1 (op.Add 18446744073709551615) (codes "over") ∷ [],
    ) ∷ (event.Deliver (Number 7), body.Void 7 ∷ []) ∷ (event.Settle, []) ∷ (event.Stop 2 31 stop.Done, body.Armed 2 ∷ [])
    ∷ (event.BeginIn (l 165) (l 162), body.Began (l 165) kind.Nested (u 2 1 3) (Some (l 162)) ∷ [])
    ∷ (event.Stop 2 36 stop.Done, body.Armed 2 ∷ [])
    ∷ (event.Call (l 162) 1 op.Get, body.Ok (l 162) 1 op.Get (codes "18446744073709551614") ∷ []) ∷ (event.Settle, [])
    ∷ (event.Begin (l 166) 3, body.Began (l 166) kind.Top (u 3 1 1) None ∷ [])
    ∷ (event.Call (l 166) 1 (op.Add 3), body.Sent 14 3 1 frame.Bind ∷ [])
    ∷ (
      event.Settle,
      body.Got 14 ∷ body.Granted 1 (u 3 1 1) (u 0 1 1) Read ∷ body.Sent 15 1 3 frame.Bound ∷ body.Got 15 ∷ body.Sent 16 3 2 frame.Invoke
          ∷ body.Got 16 ∷ body.Sent 17 2 3 frame.Invoked ∷ body.Got 17 ∷ body.Conflict (l 166) (u 2 1 2) Write 2 ∷ [],
    )
    ∷ (
      event.Commit (l 166),
      body.Committing (l 166) ∷ body.Committed (l 166) ∷ body.Sent 18 3 1 frame.Told ∷ body.Sent 19 3 2 frame.Told ∷ [],
    ) ∷ (event.Settle, body.Got 18 ∷ body.Told 1 (u 3 1 1) Abort part.Naming ∷ body.Got 19 ∷ [])
    ∷ (event.Abort (l 165), body.Aborted (l 165) cause.Asked ∷ []) ∷ (event.Settle, [])
    ∷ (event.Begin (l 169) 3, body.Began (l 169) kind.Top (u 3 1 2) None ∷ [])
    ∷ (event.Call (l 169) 1 (op.Add 0), body.Sent 20 3 1 frame.Bind ∷ [])
    ∷ (
      event.Settle,
      body.Got 20 ∷ body.Granted 1 (u 3 1 2) (u 0 1 1) Read ∷ body.Sent 21 1 3 frame.Bound ∷ body.Got 21 ∷ body.Sent 22 3 2 frame.Invoke
          ∷ body.Got 22 ∷ body.Sent 23 2 3 frame.Invoked ∷ body.Got 23 ∷ body.Conflict (l 169) (u 2 1 2) Write 2 ∷ [],
    )
    ∷ (
      event.Commit (l 169),
      body.Committing (l 169) ∷ body.Committed (l 169) ∷ body.Sent 24 3 1 frame.Told ∷ body.Sent 25 3 2 frame.Told ∷ [],
    ) ∷ (event.Deliver (Number 24), body.Got 24 ∷ body.Told 1 (u 3 1 2) Abort part.Naming ∷ []) ∷ (event.Settle, body.Got 25 ∷ [])
    ∷ (event.Call (l 162) 1 op.Get, body.Ok (l 162) 1 op.Get (codes "18446744073709551614") ∷ []) ∷ (event.Settle, [])
    ∷ (event.Call (l 162) 1 (op.Add 3), body.Ok (l 162) 1 (op.Add 3) (codes "over") ∷ [])
    ∷ (event.Begin (l 170) 3, body.Began (l 170) kind.Top (u 3 1 3) None ∷ [])
    ∷ (event.Call (l 170) 1 (op.Add 2), body.Sent 26 3 1 frame.Bind ∷ [])
    ∷ (event.Call (l 162) 1 op.Get, body.Ok (l 162) 1 op.Get (codes "18446744073709551614") ∷ [])
    ∷ (
      event.Settle,
      body.Got 26 ∷ body.Granted 1 (u 3 1 3) (u 0 1 1) Read ∷ body.Sent 27 1 3 frame.Bound ∷ body.Got 27 ∷ body.Sent 28 3 2 frame.Invoke
          ∷ body.Got 28 ∷ body.Sent 29 2 3 frame.Invoked ∷ body.Got 29 ∷ body.Conflict (l 170) (u 2 1 2) Write 2 ∷ [],
    )
    ∷ (
      event.Commit (l 170),
      body.Committing (l 170) ∷ body.Committed (l 170) ∷ body.Sent 30 3 1 frame.Told ∷ body.Sent 31 3 2 frame.Told ∷ [],
    ) ∷ (event.Settle, body.Got 30 ∷ body.Told 1 (u 3 1 3) Abort part.Naming ∷ body.Got 31 ∷ []) ∷ (event.Settle, [])
    ∷ (event.Call (l 162) 1 (op.Set 3), body.Ok (l 162) 1 (op.Set 3) (codes "done") ∷ [])
    ∷ (event.Commit (l 162), body.Committing (l 162) ∷ body.Sent 32 2 1 frame.Prepare ∷ body.Sent 33 2 3 frame.Prepare ∷ [])
    ∷ (event.Deliver (Number 32), body.Got 32 ∷ body.Prepared 1 (u 2 1 2) role.Store ∷ body.Sent 34 1 2 frame.Prepared ∷ [])
    ∷ (event.Deliver (Number 33), body.Got 33 ∷ body.Prepared 3 (u 2 1 2) role.Store ∷ body.Sent 35 3 2 frame.Prepared ∷ [])
    ∷ (event.Deliver (Number 34), body.Got 34 ∷ []) ∷ (event.Begin (l 172) 2, body.Began (l 172) kind.Top (u 2 1 4) None ∷ [])
    ∷ (event.Call (l 172) 1 (op.Set 4), body.Sent 36 2 1 frame.Bind ∷ [])
    ∷ (event.Deliver (Number 35), body.Got 35 ∷ body.Sent 37 2 1 frame.Confirm ∷ [])
    ∷ (
      event.Settle,
      body.Got 36 ∷ body.Granted 1 (u 2 1 4) (u 0 1 1) Read ∷ body.Sent 38 1 2 frame.Bound ∷ body.Got 37
          ∷ body.Sent 39 1 2 frame.Confirmed ∷ body.Got 38 ∷ body.Conflict (l 172) (u 2 1 2) Write 2 ∷ body.Got 39
          ∷ body.Committed (l 162) ∷ body.Sent 40 2 1 frame.Told ∷ body.Sent 41 2 3 frame.Told
          ∷ body.Told 2 (u 2 1 2) Commit part.Server ∷ body.Got 40 ∷ body.Done 1 (u 2 1 2) role.Store Commit
          ∷ body.Told 1 (u 2 1 2) Commit part.Naming ∷ body.Sent 42 1 2 frame.Acked ∷ body.Got 41
          ∷ body.Done 3 (u 2 1 2) role.Store Commit ∷ body.Sent 43 3 2 frame.Acked ∷ body.Got 42 ∷ body.Got 43 ∷ [],
    ) ∷ (event.Call (l 172) 1 op.Get, body.Granted 2 (u 2 1 4) (u 0 0 1) Read ∷ body.Ok (l 172) 1 op.Get (codes "3") ∷ [])
    ∷ (event.Begin (l 173) 3, body.Began (l 173) kind.Top (u 3 1 4) None ∷ [])
    ∷ (event.Abort (l 173), body.Aborted (l 173) cause.Asked ∷ [])
    ∷ (event.Call (l 172) 1 (op.Add 0), body.Granted 2 (u 2 1 4) (u 0 0 1) Write ∷ body.Ok (l 172) 1 (op.Add 0) (codes "done") ∷ [])
    ∷ (event.Call (l 172) 1 (op.Add 4), body.Ok (l 172) 1 (op.Add 4) (codes "done") ∷ [])
    ∷ (event.Call (l 172) 1 (op.Add 0), body.Ok (l 172) 1 (op.Add 0) (codes "done") ∷ [])
    ∷ (event.Call (l 172) 1 (op.Add 4), body.Ok (l 172) 1 (op.Add 4) (codes "done") ∷ [])
    ∷ (event.BeginIn (l 174) (l 172), body.Began (l 174) kind.Nested (u 2 1 5) (Some (l 172)) ∷ [])
    ∷ (event.Call (l 174) 1 op.Get, body.Granted 2 (u 2 1 5) (u 0 0 1) Read ∷ body.Ok (l 174) 1 op.Get (codes "11") ∷ [])
    ∷ (event.Call (l 174) 1 (op.Add 0), body.Granted 2 (u 2 1 5) (u 0 0 1) Write ∷ body.Ok (l 174) 1 (op.Add 0) (codes "done") ∷ [])
    ∷ (event.Commit (l 174), body.Committed (l 174) ∷ body.Told 2 (u 2 1 5) Commit part.Server ∷ [])
    ∷ (event.Commit (l 172), body.Committing (l 172) ∷ body.Sent 44 2 1 frame.Prepare ∷ body.Sent 45 2 3 frame.Prepare ∷ [])
    ∷ (event.Deliver (Number 8), body.Void 8 ∷ []) ∷ (event.Deliver (Number 18), body.Got 18 ∷ [])
    ∷ (event.Deliver (Number 44), body.Got 44 ∷ body.Prepared 1 (u 2 1 4) role.Store ∷ body.Sent 46 1 2 frame.Prepared ∷ [])
    ∷ (event.Begin (l 175) 3, body.Began (l 175) kind.Top (u 3 1 5) None ∷ [])
    ∷ (event.Deliver (Number 45), body.Got 45 ∷ body.Prepared 3 (u 2 1 4) role.Store ∷ body.Sent 47 3 2 frame.Prepared ∷ [])
    ∷ (event.Deliver (Number 46), body.Got 46 ∷ []) ∷ (event.Deliver (Number 47), body.Got 47 ∷ body.Sent 48 2 1 frame.Confirm ∷ [])
    ∷ (event.Deliver (Number 48), body.Got 48 ∷ body.Sent 49 1 2 frame.Confirmed ∷ [])
    ∷ (
      event.Settle,
      body.Got 49 ∷ body.Committed (l 172) ∷ body.Sent 50 2 1 frame.Told ∷ body.Sent 51 2 3 frame.Told
          ∷ body.Told 2 (u 2 1 4) Commit part.Server ∷ body.Got 50 ∷ body.Done 1 (u 2 1 4) role.Store Commit
          ∷ body.Told 1 (u 2 1 4) Commit part.Naming ∷ body.Sent 52 1 2 frame.Acked ∷ body.Got 51
          ∷ body.Done 3 (u 2 1 4) role.Store Commit ∷ body.Sent 53 3 2 frame.Acked ∷ body.Got 52 ∷ body.Got 53 ∷ [],
    ) ∷ (event.Deliver (Number 29), body.Void 29 ∷ []) ∷ (event.Deliver (Number 39), body.Void 39 ∷ [])
    ∷ (event.Begin (l 176) 2, body.Began (l 176) kind.Top (u 2 1 6) None ∷ [])
    ∷ (event.Call (l 176) 1 op.Get, body.Sent 54 2 1 frame.Bind ∷ [])
    ∷ (event.Deliver (Number 54), body.Got 54 ∷ body.Granted 1 (u 2 1 6) (u 0 1 1) Read ∷ body.Sent 55 1 2 frame.Bound ∷ [])
    ∷ (event.Call (l 175) 1 (op.Add 0), body.Sent 56 3 1 frame.Bind ∷ [])
    ∷ (event.Deliver (Number 56), body.Got 56 ∷ body.Granted 1 (u 3 1 5) (u 0 1 1) Read ∷ body.Sent 57 1 3 frame.Bound ∷ [])
    ∷ (event.Deliver (Number 55), body.Got 55 ∷ body.Granted 2 (u 2 1 6) (u 0 0 1) Read ∷ body.Ok (l 176) 1 op.Get (codes "11") ∷ [])
    ∷ (event.Deliver (Number 57), body.Got 57 ∷ body.Sent 58 3 2 frame.Invoke ∷ [])
    ∷ (event.Call (l 176) 1 (op.Add 2), body.Granted 2 (u 2 1 6) (u 0 0 1) Write ∷ body.Ok (l 176) 1 (op.Add 2) (codes "done") ∷ [])
    ∷ (event.Commit (l 176), body.Committing (l 176) ∷ body.Sent 59 2 1 frame.Prepare ∷ body.Sent 60 2 3 frame.Prepare ∷ [])
    ∷ (event.Deliver (Number 58), body.Got 58 ∷ body.Sent 61 2 3 frame.Invoked ∷ [])
    ∷ (event.Deliver (Number 60), body.Got 60 ∷ body.Prepared 3 (u 2 1 6) role.Store ∷ body.Sent 62 3 2 frame.Prepared ∷ [])
    ∷ (event.Deliver (Number 59), body.Got 59 ∷ body.Prepared 1 (u 2 1 6) role.Store ∷ body.Sent 63 1 2 frame.Prepared ∷ [])
    ∷ (event.Deliver (Number 61), body.Got 61 ∷ body.Conflict (l 175) (u 2 1 6) Write 2 ∷ []) ∷ (event.Crash 1, body.Halted 1 ∷ [])
    ∷ (event.Deliver (Number 62), body.Got 62 ∷ []) ∷ (event.Call (l 175) 1 (op.Add 4), body.Sent 64 3 2 frame.Invoke ∷ [])
    ∷ (event.Stop 1 4 (stop.Torn (234 ∷ 235 ∷ 75 ∷ [])), body.Armed 1 ∷ [])
    ∷ (event.Tick 3, body.Sent 65 3 2 frame.Invoke ∷ body.Sent 66 3 2 frame.Query ∷ [])
    ∷ (event.Deliver (Number 65), body.Got 65 ∷ body.Sent 67 2 3 frame.Invoked ∷ [])
    ∷ (event.Begin (l 177) 3, body.Began (l 177) kind.Top (u 3 1 6) None ∷ [])
    ∷ (event.BeginIn (l 178) (l 177), body.Began (l 178) kind.Nested (u 3 1 7) (Some (l 177)) ∷ [])
    ∷ (event.Tick 3, body.Sent 68 3 2 frame.Invoke ∷ body.Sent 69 3 2 frame.Query ∷ [])
    ∷ (event.Restart 1, body.Up 1 2 ∷ body.Halted 1 ∷ []) ∷ (event.Call (l 178) 1 (op.Add 3), body.Sent 70 3 1 frame.Bind ∷ [])
    ∷ (event.Deliver (Number 63), body.Got 63 ∷ body.Sent 71 2 1 frame.Confirm ∷ []) ∷ (event.Deliver (Number 69), body.Got 69 ∷ [])
    ∷ (event.Deliver (Number 64), body.Got 64 ∷ body.Sent 72 2 3 frame.Invoked ∷ []) ∷ (event.Deliver (Number 66), body.Got 66 ∷ [])
    ∷ (event.Deliver (Number 67), body.Got 67 ∷ body.Conflict (l 175) (u 2 1 6) Write 2 ∷ [])
    ∷ (event.Settle, body.Got 68 ∷ body.Sent 73 2 3 frame.Invoked ∷ body.Void 70 ∷ body.Void 71 ∷ body.Void 72 ∷ body.Void 73 ∷ [])
    ∷ (event.Begin (l 179) 2, body.Began (l 179) kind.Top (u 2 1 7) None ∷ [])
    ∷ (event.Call (l 179) 1 (op.Add 1), body.Sent 74 2 1 frame.Bind ∷ []) ∷ (event.Deliver (Number 74), body.Void 74 ∷ [])
    ∷ (event.GiveUp (l 179), body.GaveUp (l 179) 1 ∷ body.Lost (l 179) 1 ∷ [])
    ∷ (event.Call (l 179) 1 (op.Add 1), body.Sent 75 2 1 frame.Bind ∷ []) ∷ (event.Settle, body.Void 75 ∷ [])
    ∷ (event.Crash 1, body.Refused 2 ∷ [])
    ∷ (event.Restart 1, body.Up 1 3 ∷ body.Sent 76 1 2 frame.Query ∷ body.Sent 77 1 2 frame.Hello ∷ body.Sent 78 1 3 frame.Hello ∷ [])
    ∷ (event.Settle, body.Got 76 ∷ body.Got 77 ∷ body.Got 78 ∷ [])
    ∷ (event.Begin (l 180) 3, body.Began (l 180) kind.Top (u 3 1 8) None ∷ [])
    ∷ (event.Call (l 180) 1 (op.Add 0), body.Sent 79 3 1 frame.Bind ∷ [])
    ∷ (
      event.Settle,
      body.Got 79 ∷ body.Granted 1 (u 3 1 8) (u 0 1 1) Write ∷ body.Bound 1 (b 3 1) 3 ∷ body.Sent 80 1 3 frame.Bound ∷ body.Got 80
          ∷ body.Conflict (l 180) (u 2 1 6) Write 3 ∷ [],
    ) ∷ (event.Commit (l 180), body.Committing (l 180) ∷ body.Committed (l 180) ∷ body.Sent 81 3 1 frame.Told ∷ [])
    ∷ (event.Settle, body.Got 81 ∷ body.Told 1 (u 3 1 8) Abort part.Naming ∷ []) ∷ (event.Commit (l 179), body.Refused 7 ∷ [])
    ∷ (event.Settle, []) ∷ (event.Deliver (Number 68), body.Got 68 ∷ body.Sent 82 2 3 frame.Invoked ∷ [])
    ∷ (event.Call (l 175) 1 (op.Add 1), body.Sent 83 3 2 frame.Invoke ∷ []) ∷ (event.Deliver (Number 82), body.Void 82 ∷ [])
    ∷ (event.Begin (l 182) 1, body.Began (l 182) kind.Top (u 1 3 1) None ∷ [])
    ∷ (
      event.Call (l 182) 1 op.Get,
      body.Granted 1 (u 1 3 1) (u 0 1 1) Write ∷ body.Bound 1 (b 3 2) 2 ∷ body.Sent 84 1 3 frame.Load ∷ [],
    ) ∷ (event.Deliver (Number 51), body.Got 51 ∷ body.Sent 85 3 2 frame.Acked ∷ [])
    ∷ (event.Tick 1, body.Sent 86 1 3 frame.Load ∷ body.Sent 87 1 2 frame.Query ∷ [])
    ∷ (event.Deliver (Number 83), body.Got 83 ∷ body.Sent 88 2 3 frame.Invoked ∷ []) ∷ (event.Deliver (Number 62), body.Void 62 ∷ [])
    ∷ (event.Deliver (Number 84), body.Got 84 ∷ body.Sent 89 3 1 frame.Loaded ∷ []) ∷ (event.Deliver (Number 58), body.Void 58 ∷ [])
    ∷ (event.Deliver (Number 85), body.Void 85 ∷ []) ∷ (event.Deliver (Number 86), body.Got 86 ∷ body.Sent 90 3 1 frame.Loaded ∷ [])
    ∷ (event.Deliver (Number 89), body.Got 89 ∷ body.Conflict (l 182) (u 2 1 6) Write 3 ∷ [])
    ∷ (event.Deliver (Number 88), body.Got 88 ∷ body.Conflict (l 175) (u 2 1 6) Write 2 ∷ [])
    ∷ (event.Deliver (Number 87), body.Got 87 ∷ []) ∷ (event.Deliver (Number 90), body.Void 90 ∷ [])
    ∷ (event.GiveUp (l 178), body.GaveUp (l 178) 1 ∷ body.Lost (l 178) 1 ∷ [])
    ∷ (event.Top (l 183) (l 182), body.Began (l 183) kind.Independent (u 1 3 2) (Some (l 182)) ∷ [])
    ∷ (event.Call (l 177) 1 (op.Add 4), body.Sent 91 3 1 frame.Bind ∷ [])
    ∷ (event.Deliver (Number 91), body.Got 91 ∷ body.Sent 92 1 3 frame.Bound ∷ [])
    ∷ (event.Deliver (Number 92), body.Got 92 ∷ body.Conflict (l 177) (u 1 3 1) Write 1 ∷ []) ∷ [])

crash_2_follows : is_followed crash_2 ≡ true
crash_2_follows = refl

crash_2_has_causes : lacking crash_2 ≡ []
crash_2_has_causes = refl

abbrev crash_3 : Run
crash_3 = run
    (nodes 3 (object_line 1 (value.Account 6) (2 ∷ []) (3 ∷ []) ∷ []))
    ((event.Settle, []) ∷ (event.Begin (l 161) 2, body.Began (l 161) kind.Top (u 2 1 1) None ∷ [])
    ∷ (event.Call (l 161) 1 (op.Withdraw 3), body.Sent 1 2 1 frame.Bind ∷ [])
    ∷ (
      event.Deliver (Number 1),
      body.Got 1 ∷ body.Granted 1 (u 2 1 1) (u 0 1 1) Write ∷ body.Bound 1 (b 1 1) 2 ∷ body.Sent 2 1 2 frame.Bound ∷ [],
    ) ∷ (event.Deliver (Number 2), body.Got 2 ∷ body.Sent 3 2 3 frame.Load ∷ [])
    ∷ (event.Deliver (Number 3), body.Got 3 ∷ body.Sent 4 3 2 frame.Loaded ∷ [])
    ∷ (event.Deliver (Number 4), body.Got 4 ∷ body.Active 2 1 (b 1 1) ∷ body.Sent 5 2 1 frame.Record ∷ [])
    ∷ (event.Lose (Number 5), body.Dropped 5 ∷ []) ∷ (event.GiveUp (l 161), body.GaveUp (l 161) 1 ∷ body.Lost (l 161) 1 ∷ [])
    ∷ (event.Call (l 161) 1 (op.Withdraw 18446744073709551615), body.Sent 6 2 1 frame.Bind ∷ [])
    ∷ (event.Deliver (Number 6), body.Got 6 ∷ body.Bound 1 (b 1 2) 2 ∷ body.Sent 7 1 2 frame.Bound ∷ [])
    ∷ (event.Deliver (Number 7), body.Got 7 ∷ body.Sent 8 2 3 frame.Load ∷ [])
    ∷ (event.Deliver (Number 8), body.Got 8 ∷ body.Sent 9 3 2 frame.Loaded ∷ [])
    ∷ (event.Deliver (Number 9), body.Got 9 ∷ body.Active 2 1 (b 1 2) ∷ body.Sent 10 2 1 frame.Record ∷ [])
    ∷ (event.Deliver (Number 10), body.Got 10 ∷ body.Lowered 1 (u 2 1 1) (u 0 1 1) ∷ body.Sent 11 1 2 frame.Recorded ∷ [])
    ∷ (
      event.Deliver (Number 11),
      body.Got 11 ∷ body.Granted 2 (u 2 1 1) (u 0 0 1) Write ∷ body.Ok (l 161) 1 (op.Withdraw 18446744073709551615) (codes "short") ∷ [],
    ) ∷ (event.Deliver (Number 5), body.Void 5 ∷ []) ∷ (event.Settle, [])
    ∷ (event.Commit (l 161), body.Committing (l 161) ∷ body.Sent 12 2 3 frame.Prepare ∷ [])
    ∷ (event.Deliver (Number 12), body.Got 12 ∷ body.Prepared 3 (u 2 1 1) role.Store ∷ body.Sent 13 3 2 frame.Prepared ∷ [])
    ∷ (event.Deliver (Number 13), body.Got 13 ∷ body.Sent 14 2 1 frame.Confirm ∷ [])
    ∷ (event.Deliver (Number 1), body.Got 1 ∷ body.Sent 15 1 2 frame.Bound ∷ [])
    ∷ (event.Deliver (Number 14), body.Got 14 ∷ body.Sent 16 1 2 frame.Confirmed ∷ [])
    ∷ (
      event.Settle,
      body.Void 15 ∷ body.Got 16 ∷ body.Committed (l 161) ∷ body.Sent 17 2 1 frame.Told ∷ body.Sent 18 2 3 frame.Told
          ∷ body.Told 2 (u 2 1 1) Commit part.Server ∷ body.Got 17 ∷ body.Told 1 (u 2 1 1) Commit part.Naming
          ∷ body.Sent 19 1 2 frame.Acked ∷ body.Got 18 ∷ body.Done 3 (u 2 1 1) role.Store Commit ∷ body.Sent 20 3 2 frame.Acked
          ∷ body.Got 19 ∷ body.Got 20 ∷ [],
    ) ∷ (event.Begin (l 164) 2, body.Began (l 164) kind.Top (u 2 1 2) None ∷ [])
    ∷ (event.BeginIn (l 165) (l 164), body.Began (l 165) kind.Nested (u 2 1 3) (Some (l 164)) ∷ []) ∷ (event.Tick 3, [])
    ∷ (event.BeginIn (l 166) (l 165), body.Began (l 166) kind.Nested (u 2 1 4) (Some (l 165)) ∷ [])
    ∷ (event.Call (l 166) 1 (op.Withdraw 0), body.Sent 21 2 1 frame.Bind ∷ []) ∷ (event.Lose (Number 21), body.Dropped 21 ∷ [])
    ∷ (
      event.Quiesce,
      body.Sent 22 2 1 frame.Bind ∷ body.Got 22 ∷ body.Granted 1 (u 2 1 2) (u 0 1 1) Read ∷ body.Sent 23 1 2 frame.Bound ∷ body.Got 23
          ∷ body.Granted 2 (u 2 1 4) (u 0 0 1) Write ∷ body.Ok (l 166) 1 (op.Withdraw 0) (codes "done") ∷ body.Quiet true ∷ [],
    ) ∷ (event.Commit (l 166), body.Committed (l 166) ∷ body.Told 2 (u 2 1 4) Commit part.Server ∷ [])
    ∷ (event.Commit (l 165), body.Committed (l 165) ∷ body.Told 2 (u 2 1 3) Commit part.Server ∷ [])
    ∷ (event.Call (l 164) 1 (op.Withdraw 0), body.Ok (l 164) 1 (op.Withdraw 0) (codes "done") ∷ [])
    ∷ (event.Commit (l 164), body.Committing (l 164) ∷ body.Sent 24 2 3 frame.Prepare ∷ [])
    ∷ (
      event.Settle,
      body.Got 24 ∷ body.Prepared 3 (u 2 1 2) role.Store ∷ body.Sent 25 3 2 frame.Prepared ∷ body.Got 25
          ∷ body.Sent 26 2 1 frame.Confirm ∷ body.Got 26 ∷ body.Sent 27 1 2 frame.Confirmed ∷ body.Got 27 ∷ body.Committed (l 164)
          ∷ body.Sent 28 2 1 frame.Told ∷ body.Sent 29 2 3 frame.Told ∷ body.Told 2 (u 2 1 2) Commit part.Server ∷ body.Got 28
          ∷ body.Told 1 (u 2 1 2) Commit part.Naming ∷ body.Sent 30 1 2 frame.Acked ∷ body.Got 29
          ∷ body.Done 3 (u 2 1 2) role.Store Commit ∷ body.Sent 31 3 2 frame.Acked ∷ body.Got 30 ∷ body.Got 31 ∷ [],
    ) ∷ (event.Begin (l 167) 1, body.Began (l 167) kind.Top (u 1 1 1) None ∷ [])
    ∷ (event.Call (l 167) 1 op.Get, body.Granted 1 (u 1 1 1) (u 0 1 1) Read ∷ body.Sent 32 1 2 frame.Invoke ∷ [])
    ∷ (event.Deliver (Number 32), body.Got 32 ∷ body.Granted 2 (u 1 1 1) (u 0 0 1) Read ∷ body.Sent 33 2 1 frame.Invoked ∷ [])
    ∷ (event.Deliver (Number 33), body.Got 33 ∷ body.Ok (l 167) 1 op.Get (codes "6") ∷ [])
    ∷ (event.Top (l 168) (l 167), body.Began (l 168) kind.Independent (u 1 1 2) (Some (l 167)) ∷ [])
    ∷ (event.Call (l 167) 1 (op.Withdraw 1), body.Sent 34 1 2 frame.Invoke ∷ [])
    ∷ (event.Deliver (Number 34), body.Got 34 ∷ body.Granted 2 (u 1 1 1) (u 0 0 1) Write ∷ body.Sent 35 2 1 frame.Invoked ∷ [])
    ∷ (event.Call (l 168) 1 (op.Deposit 3), body.Granted 1 (u 1 1 2) (u 0 1 1) Read ∷ body.Sent 36 1 2 frame.Invoke ∷ [])
    ∷ (event.Lose (Number 35), body.Dropped 35 ∷ []) ∷ (event.Deliver (Number 36), body.Got 36 ∷ body.Sent 37 2 1 frame.Invoked ∷ [])
    ∷ (event.Deliver (Number 37), body.Got 37 ∷ body.Conflict (l 168) (u 1 1 1) Write 2 ∷ [])
    ∷ (event.Call (l 168) 1 (op.Deposit 4), body.Sent 38 1 2 frame.Invoke ∷ [])
    ∷ (event.Deliver (Number 38), body.Got 38 ∷ body.Sent 39 2 1 frame.Invoked ∷ [])
    ∷ (event.Deliver (Number 39), body.Got 39 ∷ body.Conflict (l 168) (u 1 1 1) Write 2 ∷ [])
    ∷ (
      event.Commit (l 168),
      body.Committing (l 168) ∷ body.Committed (l 168) ∷ body.Sent 40 1 2 frame.Told ∷ body.Told 1 (u 1 1 2) Abort part.Naming ∷ [],
    ) ∷ (event.Deliver (Number 40), body.Got 40 ∷ []) ∷ (event.Deliver (Number 33), body.Void 33 ∷ [])
    ∷ (event.Stop 1 3 stop.Done, body.Armed 1 ∷ []) ∷ (event.Deliver (Number 26), body.Void 26 ∷ [])
    ∷ (event.Deliver (Number 16), body.Void 16 ∷ []) ∷ (event.Deliver (Number 3), body.Got 3 ∷ body.Sent 41 3 2 frame.Loaded ∷ [])
    ∷ (event.Lose (Number 41), body.Dropped 41 ∷ []) ∷ (event.Deliver (Number 14), body.Void 14 ∷ [])
    ∷ (event.Tick 2, body.Sent 42 2 1 frame.Query ∷ []) ∷ (event.Lose (Number 42), body.Dropped 42 ∷ [])
    ∷ (event.Deliver (Number 32), body.Void 32 ∷ []) ∷ (event.Deliver (Number 34), body.Got 34 ∷ body.Sent 43 2 1 frame.Invoked ∷ [])
    ∷ (event.Deliver (Number 43), body.Got 43 ∷ body.Ok (l 167) 1 (op.Withdraw 1) (codes "done") ∷ [])
    ∷ (event.Commit (l 167), body.Committing (l 167) ∷ body.Sent 44 1 2 frame.Vote ∷ [])
    ∷ (event.Deliver (Number 44), body.Got 44 ∷ body.Sent 45 2 1 frame.Voted ∷ [])
    ∷ (
      event.GiveUp (l 167),
      body.GaveUp (l 167) 2 ∷ body.Aborted (l 167) (cause.Lost 2) ∷ body.Sent 46 1 2 frame.Told
          ∷ body.Told 1 (u 1 1 1) Abort part.Naming ∷ [],
    ) ∷ (event.Begin (l 169) 2, body.Began (l 169) kind.Top (u 2 1 5) None ∷ []) ∷ (event.Deliver (Number 45), body.Void 45 ∷ [])
    ∷ (event.Commit (l 169), body.Committing (l 169) ∷ body.Committed (l 169) ∷ [])
    ∷ (event.Deliver (Number 46), body.Got 46 ∷ body.Told 2 (u 1 1 1) Abort part.Server ∷ []) ∷ (event.Tick 3, [])
    ∷ (event.Deliver (Number 29), body.Got 29 ∷ body.Sent 47 3 2 frame.Acked ∷ []) ∷ (event.Settle, body.Void 47 ∷ [])
    ∷ (event.Begin (l 170) 3, body.Began (l 170) kind.Top (u 3 1 1) None ∷ [])
    ∷ (event.Call (l 170) 1 (op.Deposit 3), body.Sent 48 3 1 frame.Bind ∷ [])
    ∷ (event.Deliver (Number 48), body.Got 48 ∷ body.Granted 1 (u 3 1 1) (u 0 1 1) Read ∷ body.Sent 49 1 3 frame.Bound ∷ [])
    ∷ (event.Deliver (Number 49), body.Got 49 ∷ body.Sent 50 3 2 frame.Invoke ∷ [])
    ∷ (event.Deliver (Number 50), body.Got 50 ∷ body.Granted 2 (u 3 1 1) (u 0 0 1) Write ∷ body.Sent 51 2 3 frame.Invoked ∷ [])
    ∷ (event.Deliver (Number 51), body.Got 51 ∷ body.Ok (l 170) 1 (op.Deposit 3) (codes "done") ∷ [])
    ∷ (event.Call (l 170) 1 (op.Deposit 3), body.Sent 52 3 2 frame.Invoke ∷ [])
    ∷ (event.Settle, body.Got 52 ∷ body.Sent 53 2 3 frame.Invoked ∷ body.Got 53 ∷ body.Ok (l 170) 1 (op.Deposit 3) (codes "done") ∷ [])
    ∷ (event.Crash 1, body.Halted 1 ∷ []) ∷ (event.Restart 1, body.Halted 1 ∷ [])
    ∷ (event.Commit (l 170), body.Committing (l 170) ∷ body.Sent 54 3 2 frame.Vote ∷ [])
    ∷ (
      event.Settle,
      body.Got 54 ∷ body.Sent 55 2 3 frame.Voted ∷ body.Got 55 ∷ body.Prepared 3 (u 3 1 1) role.Store ∷ body.Sent 56 3 1 frame.Confirm
          ∷ body.Void 56 ∷ [],
    ) ∷ (event.Begin (l 171) 3, body.Began (l 171) kind.Top (u 3 1 2) None ∷ [])
    ∷ (event.Call (l 171) 1 (op.Deposit 3), body.Sent 57 3 1 frame.Bind ∷ []) ∷ (event.Settle, body.Void 57 ∷ [])
    ∷ (event.Restart 1, body.Up 1 3 ∷ body.Sent 58 1 2 frame.Hello ∷ body.Sent 59 1 3 frame.Hello ∷ [])
    ∷ (event.Commit (l 171), body.Refused 7 ∷ []) ∷ (event.Settle, body.Got 58 ∷ body.Got 59 ∷ [])
    ∷ (event.Commit (l 170), body.Refused 7 ∷ []) ∷ (event.Settle, []) ∷ (event.Tick 2, body.Sent 60 2 3 frame.Query ∷ [])
    ∷ (event.Settle, body.Got 60 ∷ []) ∷ (event.GiveUp (l 171), body.GaveUp (l 171) 1 ∷ body.Lost (l 171) 1 ∷ [])
    ∷ (event.Call (l 171) 1 (op.Deposit 1), body.Sent 61 3 1 frame.Bind ∷ [])
    ∷ (
      event.Deliver (Number 61),
      body.Got 61 ∷ body.Granted 1 (u 3 1 2) (u 0 1 1) Write ∷ body.Bound 1 (b 3 1) 2 ∷ body.Sent 62 1 3 frame.Bound ∷ [],
    ) ∷ (event.Deliver (Number 62), body.Got 62 ∷ body.Conflict (l 171) (u 3 1 1) Write 3 ∷ [])
    ∷ (
      event.GiveUp (l 170),
      body.GaveUp (l 170) 1 ∷ body.Aborted (l 170) (cause.Lost 1) ∷ body.Sent 63 3 1 frame.Told ∷ body.Sent 64 3 2 frame.Told
          ∷ body.Done 3 (u 3 1 1) role.Store Abort ∷ [],
    ) ∷ (event.BeginIn (l 173) (l 171), body.Began (l 173) kind.Nested (u 3 1 3) (Some (l 171)) ∷ [])
    ∷ (event.Commit (l 173), body.Committed (l 173) ∷ []) ∷ (event.Deliver (Number 63), body.Got 63 ∷ [])
    ∷ (event.Abort (l 171), body.Aborted (l 171) cause.Asked ∷ body.Sent 65 3 1 frame.Told ∷ [])
    ∷ (event.Deliver (Number 64), body.Got 64 ∷ body.Told 2 (u 3 1 1) Abort part.Server ∷ [])
    ∷ (event.Begin (l 174) 1, body.Began (l 174) kind.Top (u 1 3 1) None ∷ [])
    ∷ (event.Deliver (Number 65), body.Got 65 ∷ body.Told 1 (u 3 1 2) Abort part.Naming ∷ [])
    ∷ (event.Deliver (Number 30), body.Void 30 ∷ [])
    ∷ (
      event.Call (l 174) 1 op.Get,
      body.Granted 1 (u 1 3 1) (u 0 1 1) Write ∷ body.Bound 1 (b 3 2) 2 ∷ body.Sent 66 1 3 frame.Load ∷ [],
    ) ∷ (event.Stop 1 5 stop.Undone, body.Armed 1 ∷ []) ∷ (event.Deliver (Number 66), body.Got 66 ∷ body.Sent 67 3 1 frame.Loaded ∷ [])
    ∷ (event.Deliver (Number 67), body.Got 67 ∷ body.Sent 68 1 2 frame.Activate ∷ [])
    ∷ (event.Deliver (Number 68), body.Got 68 ∷ body.Active 2 1 (b 3 2) ∷ body.Sent 69 2 1 frame.Activated ∷ [])
    ∷ (event.Deliver (Number 69), body.Got 69 ∷ body.Lowered 1 (u 1 3 1) (u 0 1 1) ∷ body.Sent 70 1 2 frame.Invoke ∷ [])
    ∷ (event.Lose (Number 70), body.Dropped 70 ∷ []) ∷ (event.Tick 3, []) ∷ (event.Deliver (Number 55), body.Void 55 ∷ [])
    ∷ (event.Deliver (Number 32), body.Void 32 ∷ []) ∷ (event.Tick 3, []) ∷ (event.Deliver (Number 31), body.Void 31 ∷ [])
    ∷ (event.Deliver (Number 31), body.Void 31 ∷ []) ∷ (event.Deliver (Number 65), body.Got 65 ∷ [])
    ∷ (event.Stop 2 18 stop.Undone, body.Armed 2 ∷ [])
    ∷ (event.Show 1, body.Entry 1 0 (2 ∷ []) (3 ∷ []) ∷ body.Copy 3 1 2 (u 2 1 2) (0 ∷ 0 ∷ 0 ∷ 0 ∷ 0 ∷ 0 ∷ 0 ∷ 6 ∷ []) ∷ [])
    ∷ (event.Settle, []) ∷ (event.Begin (l 175) 3, body.Began (l 175) kind.Top (u 3 1 4) None ∷ [])
    ∷ (event.Call (l 175) 1 op.Get, body.Sent 71 3 1 frame.Bind ∷ [])
    ∷ (event.Call (l 175) 1 (op.Deposit 18446744073709551615), body.Refused 7 ∷ [])
    ∷ (
      event.Settle,
      body.Got 71 ∷ body.Granted 1 (u 3 1 4) (u 0 1 1) Read ∷ body.Sent 72 1 3 frame.Bound ∷ body.Got 72 ∷ body.Sent 73 3 2 frame.Invoke
          ∷ body.Got 73 ∷ body.Granted 2 (u 3 1 4) (u 0 0 1) Read ∷ body.Sent 74 2 3 frame.Invoked ∷ body.Got 74
          ∷ body.Ok (l 175) 1 op.Get (codes "6") ∷ [],
    ) ∷ (event.Tick 2, body.Sent 75 2 3 frame.Query ∷ [])
    ∷ (event.Commit (l 175), body.Committing (l 175) ∷ body.Sent 76 3 2 frame.Vote ∷ []) ∷ (event.Deliver (Number 75), body.Got 75 ∷ [])
    ∷ (event.Deliver (Number 76), body.Got 76 ∷ body.Sent 77 2 3 frame.Voted ∷ [])
    ∷ (event.Deliver (Number 77), body.Got 77 ∷ body.Sent 78 3 1 frame.Confirm ∷ [])
    ∷ (event.Deliver (Number 78), body.Got 78 ∷ body.Sent 79 1 3 frame.Confirmed ∷ [])
    ∷ (event.Deliver (Number 79), body.Got 79 ∷ body.Committed (l 175) ∷ body.Sent 80 3 1 frame.Told ∷ body.Sent 81 3 2 frame.Told ∷ [])
    ∷ (
      event.Settle,
      body.Got 80 ∷ body.Told 1 (u 3 1 4) Commit part.Naming ∷ body.Got 81 ∷ body.Told 2 (u 3 1 4) Commit part.Server ∷ [],
    )
    ∷ (
      event.Quiesce,
      body.Sent 82 1 2 frame.Invoke ∷ body.Got 82 ∷ body.Granted 2 (u 1 3 1) (u 0 0 1) Read ∷ body.Sent 83 2 1 frame.Invoked
          ∷ body.Got 83 ∷ body.Ok (l 174) 1 op.Get (codes "6") ∷ body.Quiet true ∷ [],
    ) ∷ (event.Settle, []) ∷ (event.Begin (l 176) 3, body.Began (l 176) kind.Top (u 3 1 5) None ∷ [])
    ∷ (event.Call (l 176) 1 (op.Withdraw 0), body.Sent 84 3 1 frame.Bind ∷ [])
    ∷ (
      event.Settle,
      body.Got 84 ∷ body.Granted 1 (u 3 1 5) (u 0 1 1) Read ∷ body.Sent 85 1 3 frame.Bound ∷ body.Got 85 ∷ body.Sent 86 3 2 frame.Invoke
          ∷ body.Got 86 ∷ body.Sent 87 2 3 frame.Invoked ∷ body.Got 87 ∷ body.Conflict (l 176) (u 1 3 1) Read 2 ∷ [],
    )
    ∷ (
      event.Commit (l 176),
      body.Committing (l 176) ∷ body.Committed (l 176) ∷ body.Sent 88 3 1 frame.Told ∷ body.Sent 89 3 2 frame.Told ∷ [],
    ) ∷ (event.Call (l 174) 1 (op.Deposit 0), body.Sent 90 1 2 frame.Invoke ∷ [])
    ∷ (
      event.Settle,
      body.Got 88 ∷ body.Told 1 (u 3 1 5) Abort part.Naming ∷ body.Got 89 ∷ body.Got 90 ∷ body.Granted 2 (u 1 3 1) (u 0 0 1) Write
          ∷ body.Sent 91 2 1 frame.Invoked ∷ body.Got 91 ∷ body.Ok (l 174) 1 (op.Deposit 0) (codes "done") ∷ [],
    ) ∷ (event.Settle, []) ∷ (event.Deliver (Number 83), body.Void 83 ∷ [])
    ∷ (event.Commit (l 174), body.Committing (l 174) ∷ body.Sent 92 1 2 frame.Vote ∷ [])
    ∷ (event.Deliver (Number 92), body.Got 92 ∷ body.Sent 93 2 1 frame.Voted ∷ []) ∷ [])

crash_3_follows : is_followed crash_3 ≡ true
crash_3_follows = refl

crash_3_has_causes : lacking crash_3 ≡ []
crash_3_has_causes = refl

abbrev crash_4 : Run
crash_4 = run
    (nodes 2 (object_line 1 (value.Counter 7) (2 ∷ []) (1 ∷ []) ∷ object_line 2 (value.Counter 8) (1 ∷ 2 ∷ []) (2 ∷ [])
    ∷ object_line 253 (value.Counter 5) (2 ∷ 1 ∷ []) (2 ∷ 1 ∷ []) ∷ []))
    ((event.Begin (l 161) 1, body.Began (l 161) kind.Top (u 1 1 1) None ∷ []) ∷ (event.Quiesce, body.Quiet true ∷ [])
    ∷ (
      event.Call (l 161) 1 (op.Set 4),
      body.Granted 1 (u 1 1 1) (u 0 1 1) Write ∷ body.Bound 1 (b 1 1) 2 ∷ body.Sent 1 1 2 frame.Activate ∷ [],
    ) ∷ (event.Begin (l 162) 1, body.Began (l 162) kind.Top (u 1 1 2) None ∷ [])
    ∷ (event.Deliver (Number 1), body.Got 1 ∷ body.Active 2 1 (b 1 1) ∷ body.Sent 2 2 1 frame.Activated ∷ [])
    ∷ (event.Begin (l 163) 2, body.Began (l 163) kind.Top (u 2 1 1) None ∷ [])
    ∷ (event.Deliver (Number 2), body.Got 2 ∷ body.Lowered 1 (u 1 1 1) (u 0 1 1) ∷ body.Sent 3 1 2 frame.Invoke ∷ [])
    ∷ (event.Call (l 163) 1 (op.Set 4), body.Sent 4 2 1 frame.Bind ∷ [])
    ∷ (event.Deliver (Number 3), body.Got 3 ∷ body.Granted 2 (u 1 1 1) (u 0 0 1) Write ∷ body.Sent 5 2 1 frame.Invoked ∷ [])
    ∷ (event.Begin (l 164) 1, body.Began (l 164) kind.Top (u 1 1 3) None ∷ [])
    ∷ (event.Deliver (Number 4), body.Got 4 ∷ body.Granted 1 (u 2 1 1) (u 0 1 1) Read ∷ body.Sent 6 1 2 frame.Bound ∷ [])
    ∷ (event.BeginIn (l 165) (l 164), body.Began (l 165) kind.Nested (u 1 1 4) (Some (l 164)) ∷ [])
    ∷ (event.Deliver (Number 5), body.Got 5 ∷ body.Ok (l 161) 1 (op.Set 4) (codes "done") ∷ [])
    ∷ (event.Call (l 161) 1 (op.Add 18446744073709551615), body.Sent 7 1 2 frame.Invoke ∷ []) ∷ (event.Crash 2, body.Halted 2 ∷ [])
    ∷ (event.Deliver (Number 6), body.Void 6 ∷ []) ∷ (event.Deliver (Number 7), body.Void 7 ∷ [])
    ∷ (event.Restart 2, body.Up 2 2 ∷ body.Sent 8 2 1 frame.Hello ∷ [])
    ∷ (event.BeginIn (l 166) (l 164), body.Began (l 166) kind.Nested (u 1 1 5) (Some (l 164)) ∷ [])
    ∷ (event.Deliver (Number 8), body.Got 8 ∷ body.Sent 9 1 2 frame.Query ∷ [])
    ∷ (event.Call (l 164) 1 op.Get, body.Conflict (l 164) (u 1 1 1) Read 1 ∷ [])
    ∷ (event.Call (l 162) 1 op.Get, body.Conflict (l 162) (u 1 1 1) Read 1 ∷ [])
    ∷ (event.Deliver (Number 9), body.Got 9 ∷ body.Sent 10 2 1 frame.Told ∷ [])
    ∷ (event.Deliver (Number 10), body.Got 10 ∷ body.Told 1 (u 2 1 1) Abort part.Naming ∷ [])
    ∷ (event.Show 1, body.Entry 1 0 (2 ∷ []) (1 ∷ []) ∷ body.Copy 1 1 0 (u 0 0 0) (0 ∷ 0 ∷ 0 ∷ 0 ∷ 0 ∷ 0 ∷ 0 ∷ 7 ∷ []) ∷ [])
    ∷ (event.Begin (l 167) 2, body.Began (l 167) kind.Top (u 2 2 1) None ∷ [])
    ∷ (event.Call (l 167) 253 (op.Add 4), body.Sent 11 2 1 frame.Bind ∷ []) ∷ (event.Deliver (Number 10), body.Got 10 ∷ [])
    ∷ (
      event.Settle,
      body.Got 11 ∷ body.Granted 1 (u 2 2 1) (u 0 1 253) Write ∷ body.Bound 253 (b 1 2) 2 ∷ body.Sent 12 1 2 frame.Bound ∷ body.Got 12
          ∷ body.Active 2 253 (b 1 2) ∷ body.Sent 13 2 1 frame.Record ∷ body.Got 13 ∷ body.Lowered 1 (u 2 2 1) (u 0 1 253)
          ∷ body.Sent 14 1 2 frame.Recorded ∷ body.Got 14 ∷ body.Granted 2 (u 2 2 1) (u 0 0 253) Write
          ∷ body.Ok (l 167) 253 (op.Add 4) (codes "done") ∷ [],
    ) ∷ (event.Commit (l 167), body.Committing (l 167) ∷ body.Sent 15 2 1 frame.Prepare ∷ body.Prepared 2 (u 2 2 1) role.Store ∷ [])
    ∷ (event.Deliver (Number 15), body.Got 15 ∷ body.Prepared 1 (u 2 2 1) role.Store ∷ body.Sent 16 1 2 frame.Prepared ∷ [])
    ∷ (event.BeginIn (l 168) (l 162), body.Began (l 168) kind.Nested (u 1 1 6) (Some (l 162)) ∷ [])
    ∷ (event.Call (l 162) 1 (op.Add 4), body.Conflict (l 162) (u 1 1 1) Read 1 ∷ [])
    ∷ (
      event.Call (l 166) 2 (op.Add 1),
      body.Granted 1 (u 1 1 3) (u 0 1 2) Write ∷ body.Bound 2 (b 1 3) 1 ∷ body.Sent 17 1 2 frame.Load ∷ [],
    ) ∷ (event.Call (l 168) 1 (op.Add 3), body.Conflict (l 168) (u 1 1 1) Read 1 ∷ [])
    ∷ (event.BeginIn (l 169) (l 162), body.Began (l 169) kind.Nested (u 1 1 7) (Some (l 162)) ∷ [])
    ∷ (event.Deliver (Number 16), body.Got 16 ∷ body.Sent 18 2 1 frame.Confirm ∷ [])
    ∷ (
      event.Settle,
      body.Got 17 ∷ body.Sent 19 2 1 frame.Loaded ∷ body.Got 18 ∷ body.Sent 20 1 2 frame.Confirmed ∷ body.Got 19
          ∷ body.Active 1 2 (b 1 3) ∷ body.Lowered 1 (u 1 1 3) (u 0 1 2) ∷ body.Granted 1 (u 1 1 5) (u 0 0 2) Write
          ∷ body.Ok (l 166) 2 (op.Add 1) (codes "done") ∷ body.Got 20 ∷ body.Committed (l 167) ∷ body.Sent 21 2 1 frame.Told
          ∷ body.Done 2 (u 2 2 1) role.Store Commit ∷ body.Told 2 (u 2 2 1) Commit part.Server ∷ body.Got 21
          ∷ body.Done 1 (u 2 2 1) role.Store Commit ∷ body.Told 1 (u 2 2 1) Commit part.Naming ∷ body.Sent 22 1 2 frame.Acked
          ∷ body.Got 22 ∷ [],
    ) ∷ (event.Abort (l 168), body.Aborted (l 168) cause.Asked ∷ [])
    ∷ (event.Top (l 170) (l 169), body.Began (l 170) kind.Independent (u 1 1 8) (Some (l 169)) ∷ [])
    ∷ (event.Abort (l 161), body.Refused 7 ∷ [])
    ∷ (event.Abort (l 162), body.Aborted (l 169) cause.Asked ∷ body.Aborted (l 162) cause.Asked ∷ [])
    ∷ (
      event.Abort (l 164),
      body.Aborted (l 166) cause.Asked ∷ body.Aborted (l 165) cause.Asked ∷ body.Aborted (l 164) cause.Asked
          ∷ body.Sent 23 1 2 frame.Told ∷ body.Told 1 (u 1 1 5) Abort part.Server ∷ body.Told 1 (u 1 1 3) Abort part.Naming ∷ [],
    ) ∷ (event.Settle, body.Got 23 ∷ []) ∷ (event.Abort (l 170), body.Aborted (l 170) cause.Asked ∷ []) ∷ (event.Settle, [])
    ∷ (event.Begin (l 171) 2, body.Began (l 171) kind.Top (u 2 2 2) None ∷ [])
    ∷ (event.Call (l 171) 2 (op.Add 3), body.Sent 24 2 1 frame.Bind ∷ [])
    ∷ (
      event.Settle,
      body.Got 24 ∷ body.Granted 1 (u 2 2 2) (u 0 1 2) Read ∷ body.Sent 25 1 2 frame.Bound ∷ body.Got 25 ∷ body.Sent 26 2 1 frame.Invoke
          ∷ body.Got 26 ∷ body.Granted 1 (u 2 2 2) (u 0 0 2) Write ∷ body.Sent 27 1 2 frame.Invoked ∷ body.Got 27
          ∷ body.Ok (l 171) 2 (op.Add 3) (codes "done") ∷ [],
    ) ∷ (event.Commit (l 171), body.Committing (l 171) ∷ body.Sent 28 2 1 frame.Vote ∷ [])
    ∷ (event.Deliver (Number 28), body.Got 28 ∷ body.Sent 29 1 2 frame.Voted ∷ [])
    ∷ (event.Deliver (Number 29), body.Got 29 ∷ body.Prepared 2 (u 2 2 2) role.Store ∷ body.Sent 30 2 1 frame.Confirm ∷ [])
    ∷ (event.Deliver (Number 30), body.Got 30 ∷ body.Sent 31 1 2 frame.Confirmed ∷ [])
    ∷ (
      event.Deliver (Number 31),
      body.Got 31 ∷ body.Committed (l 171) ∷ body.Sent 32 2 1 frame.Told ∷ body.Done 2 (u 2 2 2) role.Store Commit ∷ [],
    ) ∷ (event.Stop 2 2 stop.Done, body.Armed 2 ∷ [])
    ∷ (
      event.Settle,
      body.Got 32 ∷ body.Told 1 (u 2 2 2) Commit part.Naming ∷ body.Told 1 (u 2 2 2) Commit part.Server ∷ body.Sent 33 1 2 frame.Acked
          ∷ body.Got 33 ∷ [],
    ) ∷ (event.Restart 2, body.Refused 3 ∷ [])
    ∷ (
      event.Quiesce,
      body.Sent 34 1 2 frame.Invoke ∷ body.Got 34 ∷ body.Sent 35 2 1 frame.Invoked ∷ body.Got 35
          ∷ body.Changed (l 161) 2 (difference.Inc 1 2) ∷ body.Quiet true ∷ [],
    ) ∷ (event.Crash 1, body.Halted 1 ∷ []) ∷ (event.Deliver (Number 32), body.Void 32 ∷ []) ∷ (event.Tick 2, [])
    ∷ (event.Restart 1, body.Up 1 2 ∷ body.Sent 36 1 2 frame.Hello ∷ []) ∷ (event.Deliver (Number 36), body.Got 36 ∷ [])
    ∷ (event.Settle, []) ∷ (event.Begin (l 174) 2, body.Began (l 174) kind.Top (u 2 2 3) None ∷ [])
    ∷ (event.Call (l 174) 2 (op.Add 4), body.Sent 37 2 1 frame.Bind ∷ [])
    ∷ (
      event.Deliver (Number 37),
      body.Got 37 ∷ body.Granted 1 (u 2 2 3) (u 0 1 2) Write ∷ body.Bound 2 (b 2 1) 1 ∷ body.Sent 38 1 2 frame.Bound ∷ [],
    ) ∷ (event.Settle, body.Got 38 ∷ body.Halted 2 ∷ []) ∷ (event.Call (l 174) 2 (op.Add 4), body.Refused 6 ∷ [])
    ∷ (event.Tick 2, body.Refused 2 ∷ []) ∷ (event.Settle, []) ∷ (event.Call (l 174) 2 (op.Add 4), body.Refused 6 ∷ [])
    ∷ (event.Settle, []) ∷ (event.Restart 2, body.Up 2 3 ∷ body.Sent 39 2 1 frame.Hello ∷ [])
    ∷ (
      event.Settle,
      body.Got 39 ∷ body.Sent 40 1 2 frame.Query ∷ body.Got 40 ∷ body.Sent 41 2 1 frame.Told ∷ body.Got 41
          ∷ body.Told 1 (u 2 2 3) Abort part.Naming ∷ [],
    ) ∷ (event.Commit (l 174), body.Refused 6 ∷ []) ∷ (event.Begin (l 177) 2, body.Began (l 177) kind.Top (u 2 3 1) None ∷ [])
    ∷ (event.Deliver (Number 23), body.Got 23 ∷ []) ∷ (event.Call (l 177) 2 op.Get, body.Sent 42 2 1 frame.Bind ∷ [])
    ∷ (
      event.Deliver (Number 42),
      body.Got 42 ∷ body.Granted 1 (u 2 3 1) (u 0 1 2) Write ∷ body.Bound 2 (b 2 2) 2 ∷ body.Sent 43 1 2 frame.Bound ∷ [],
    ) ∷ (event.Begin (l 178) 1, body.Began (l 178) kind.Top (u 1 2 1) None ∷ [])
    ∷ (event.Commit (l 178), body.Committing (l 178) ∷ body.Committed (l 178) ∷ [])
    ∷ (event.Deliver (Number 43), body.Got 43 ∷ body.Active 2 2 (b 2 2) ∷ body.Sent 44 2 1 frame.Record ∷ [])
    ∷ (event.Begin (l 179) 1, body.Began (l 179) kind.Top (u 1 2 2) None ∷ [])
    ∷ (
      event.Call (l 179) 1 (op.Add 0),
      body.Granted 1 (u 1 2 2) (u 0 1 1) Write ∷ body.Bound 1 (b 2 3) 2 ∷ body.Sent 45 1 2 frame.Activate ∷ [],
    ) ∷ (event.Deliver (Number 44), body.Got 44 ∷ body.Lowered 1 (u 2 3 1) (u 0 1 2) ∷ body.Sent 46 1 2 frame.Recorded ∷ [])
    ∷ (event.Deliver (Number 45), body.Got 45 ∷ body.Active 2 1 (b 2 3) ∷ body.Sent 47 2 1 frame.Activated ∷ [])
    ∷ (event.Deliver (Number 42), body.Got 42 ∷ body.Sent 48 1 2 frame.Bound ∷ []) ∷ (event.Lose (Number 46), body.Dropped 46 ∷ [])
    ∷ (event.Deliver (Number 48), body.Void 48 ∷ [])
    ∷ (event.Deliver (Number 47), body.Got 47 ∷ body.Lowered 1 (u 1 2 2) (u 0 1 1) ∷ body.Sent 49 1 2 frame.Invoke ∷ [])
    ∷ (event.GiveUp (l 179), body.GaveUp (l 179) 2 ∷ body.Lost (l 179) 2 ∷ [])
    ∷ (event.Deliver (Number 49), body.Got 49 ∷ body.Granted 2 (u 1 2 2) (u 0 0 1) Write ∷ body.Sent 50 2 1 frame.Invoked ∷ [])
    ∷ (event.Deliver (Number 50), body.Void 50 ∷ []) ∷ (event.Tick 2, body.Sent 51 2 1 frame.Record ∷ body.Sent 52 2 1 frame.Query ∷ [])
    ∷ (event.Abort (l 177), body.Refused 7 ∷ [])
    ∷ (
      event.Abort (l 179),
      body.Aborted (l 179) cause.Asked ∷ body.Sent 53 1 2 frame.Told ∷ body.Told 1 (u 1 2 2) Abort part.Naming ∷ [],
    )
    ∷ (
      event.Settle,
      body.Got 51 ∷ body.Sent 54 1 2 frame.Recorded ∷ body.Got 52 ∷ body.Sent 55 1 2 frame.Told ∷ body.Got 53
          ∷ body.Told 2 (u 1 2 2) Abort part.Server ∷ body.Got 54 ∷ body.Granted 2 (u 2 3 1) (u 0 0 2) Read
          ∷ body.Ok (l 177) 2 op.Get (codes "11") ∷ body.Got 55 ∷ [],
    ) ∷ (event.Begin (l 180) 1, body.Began (l 180) kind.Top (u 1 2 3) None ∷ [])
    ∷ (event.Call (l 180) 2 (op.Add 1), body.Granted 1 (u 1 2 3) (u 0 1 2) Read ∷ body.Sent 56 1 2 frame.Invoke ∷ [])
    ∷ (event.Settle, body.Got 56 ∷ body.Sent 57 2 1 frame.Invoked ∷ body.Got 57 ∷ body.Conflict (l 180) (u 2 3 1) Read 2 ∷ [])
    ∷ (
      event.Commit (l 180),
      body.Committing (l 180) ∷ body.Committed (l 180) ∷ body.Sent 58 1 2 frame.Told ∷ body.Told 1 (u 1 2 3) Abort part.Naming ∷ [],
    ) ∷ (event.Settle, body.Got 58 ∷ []) ∷ (event.Commit (l 177), body.Committing (l 177) ∷ body.Sent 59 2 1 frame.Confirm ∷ [])
    ∷ (event.Deliver (Number 59), body.Got 59 ∷ body.Sent 60 1 2 frame.Confirmed ∷ []) ∷ (event.Stop 1 4 stop.Done, body.Armed 1 ∷ [])
    ∷ (
      event.Deliver (Number 60),
      body.Got 60 ∷ body.Committed (l 177) ∷ body.Sent 61 2 1 frame.Told ∷ body.Told 2 (u 2 3 1) Commit part.Server ∷ [],
    ) ∷ (event.Deliver (Number 61), body.Got 61 ∷ body.Told 1 (u 2 3 1) Commit part.Naming ∷ [])
    ∷ (event.Begin (l 183) 2, body.Began (l 183) kind.Top (u 2 3 2) None ∷ [])
    ∷ (event.Call (l 183) 253 (op.Add 0), body.Sent 62 2 1 frame.Bind ∷ [])
    ∷ (event.Begin (l 184) 2, body.Began (l 184) kind.Top (u 2 3 3) None ∷ [])
    ∷ (
      event.Deliver (Number 62),
      body.Got 62 ∷ body.Granted 1 (u 2 3 2) (u 0 1 253) Write ∷ body.Bound 253 (b 2 4) 2 ∷ body.Sent 63 1 2 frame.Bound ∷ [],
    ) ∷ (event.Deliver (Number 63), body.Got 63 ∷ body.Active 2 253 (b 2 4) ∷ body.Sent 64 2 1 frame.Record ∷ [])
    ∷ (event.BeginIn (l 185) (l 184), body.Began (l 185) kind.Nested (u 2 3 4) (Some (l 184)) ∷ [])
    ∷ (event.Deliver (Number 64), body.Got 64 ∷ body.Lowered 1 (u 2 3 2) (u 0 1 253) ∷ body.Sent 65 1 2 frame.Recorded ∷ [])
    ∷ (event.Call (l 185) 2 op.Get, body.Sent 66 2 1 frame.Bind ∷ [])
    ∷ (
      event.Deliver (Number 65),
      body.Got 65 ∷ body.Granted 2 (u 2 3 2) (u 0 0 253) Write ∷ body.Ok (l 183) 253 (op.Add 0) (codes "done") ∷ [],
    ) ∷ (event.Call (l 183) 1 (op.Add 0), body.Sent 67 2 1 frame.Bind ∷ [])
    ∷ (event.Deliver (Number 66), body.Got 66 ∷ body.Granted 1 (u 2 3 3) (u 0 1 2) Read ∷ body.Sent 68 1 2 frame.Bound ∷ [])
    ∷ (event.BeginIn (l 186) (l 184), body.Began (l 186) kind.Nested (u 2 3 5) (Some (l 184)) ∷ [])
    ∷ (event.Deliver (Number 67), body.Got 67 ∷ body.Granted 1 (u 2 3 2) (u 0 1 1) Read ∷ body.Sent 69 1 2 frame.Bound ∷ [])
    ∷ (event.Deliver (Number 68), body.Got 68 ∷ body.Granted 2 (u 2 3 4) (u 0 0 2) Read ∷ body.Ok (l 185) 2 op.Get (codes "11") ∷ [])
    ∷ (event.Call (l 185) 1 op.Get, body.Sent 70 2 1 frame.Bind ∷ [])
    ∷ (
      event.Deliver (Number 69),
      body.Got 69 ∷ body.Granted 2 (u 2 3 2) (u 0 0 1) Write ∷ body.Ok (l 183) 1 (op.Add 0) (codes "done") ∷ [],
    ) ∷ (event.Deliver (Number 70), body.Got 70 ∷ body.Granted 1 (u 2 3 3) (u 0 1 1) Read ∷ body.Sent 71 1 2 frame.Bound ∷ [])
    ∷ (event.Call (l 186) 1 op.Get, body.Sent 72 2 1 frame.Bind ∷ [])
    ∷ (event.Deliver (Number 72), body.Got 72 ∷ body.Sent 73 1 2 frame.Bound ∷ [])
    ∷ (
      event.Abort (l 183),
      body.Aborted (l 183) cause.Asked ∷ body.Sent 74 2 1 frame.Told ∷ body.Told 2 (u 2 3 2) Abort part.Server ∷ [],
    ) ∷ (event.Begin (l 187) 1, body.Began (l 187) kind.Top (u 1 2 4) None ∷ [])
    ∷ (
      event.Settle,
      body.Got 71 ∷ body.Granted 2 (u 2 3 4) (u 0 0 1) Read ∷ body.Ok (l 185) 1 op.Get (codes "7") ∷ body.Got 73
          ∷ body.Granted 2 (u 2 3 5) (u 0 0 1) Read ∷ body.Ok (l 186) 1 op.Get (codes "7") ∷ body.Got 74
          ∷ body.Told 1 (u 2 3 2) Abort part.Naming ∷ [],
    ) ∷ (event.Settle, []) ∷ (event.Begin (l 188) 2, body.Began (l 188) kind.Top (u 2 3 6) None ∷ [])
    ∷ (event.Call (l 188) 1 (op.Add 0), body.Sent 75 2 1 frame.Bind ∷ [])
    ∷ (
      event.Settle,
      body.Got 75 ∷ body.Granted 1 (u 2 3 6) (u 0 1 1) Read ∷ body.Sent 76 1 2 frame.Bound ∷ body.Got 76
          ∷ body.Conflict (l 188) (u 2 3 4) Read 2 ∷ [],
    ) ∷ (event.Commit (l 188), body.Committing (l 188) ∷ body.Committed (l 188) ∷ body.Sent 77 2 1 frame.Told ∷ [])
    ∷ (event.Settle, body.Got 77 ∷ body.Told 1 (u 2 3 6) Abort part.Naming ∷ [])
    ∷ (event.Commit (l 185), body.Committed (l 185) ∷ body.Told 2 (u 2 3 4) Commit part.Server ∷ [])
    ∷ (event.Commit (l 186), body.Committed (l 186) ∷ body.Told 2 (u 2 3 5) Commit part.Server ∷ [])
    ∷ (event.Call (l 184) 2 (op.Add 4), body.Granted 2 (u 2 3 3) (u 0 0 2) Write ∷ body.Ok (l 184) 2 (op.Add 4) (codes "done") ∷ [])
    ∷ (event.Call (l 184) 1 (op.Add 2), body.Granted 2 (u 2 3 3) (u 0 0 1) Write ∷ body.Ok (l 184) 1 (op.Add 2) (codes "done") ∷ [])
    ∷ (event.BeginIn (l 191) (l 187), body.Began (l 191) kind.Nested (u 1 2 5) (Some (l 187)) ∷ [])
    ∷ (event.Quiesce, body.Sent 78 1 2 frame.Query ∷ body.Got 78 ∷ body.Quiet true ∷ [])
    ∷ (event.Commit (l 184), body.Committing (l 184) ∷ body.Sent 79 2 1 frame.Prepare ∷ body.Prepared 2 (u 2 3 3) role.Store ∷ [])
    ∷ (event.Deliver (Number 79), body.Got 79 ∷ body.Halted 1 ∷ []) ∷ (event.Show 1, []) ∷ (event.Deliver (Number 56), body.Void 56 ∷ [])
    ∷ (event.Restart 1, body.Up 1 3 ∷ body.Sent 80 1 2 frame.Hello ∷ []) ∷ (event.Deliver (Number 80), body.Got 80 ∷ [])
    ∷ (event.Abort (l 184), body.Refused 7 ∷ []) ∷ (event.Settle, []) ∷ [])

crash_4_follows : is_followed crash_4 ≡ true
crash_4_follows = refl

crash_4_has_causes : lacking crash_4 ≡ []
crash_4_has_causes = refl
