-- Runs of 150 events of all kinds that were chosen at random. Each journal follows its events, and each line has its cause.
use Rattle.std.specs.Prelude.{◌≡◌, refl, [], ◌∷◌, codes, true, Some, None}
use Rattle.arj_base.specs.declared.mode.Mode.TheVariants.{Read, Write}
use Rattle.arj_base.specs.declared.mode.End.TheVariants.{Abort, Commit}
use Rattle.arj_class.specs.declared.op.Op.TheVariants as op
use Rattle.arj_class.specs.declared.value.Value.TheVariants as value
use Rattle.arj_journal.specs.declared.body.Body.TheVariants as body
use Rattle.arj_journal.specs.declared.body.Cause.TheVariants as cause
use Rattle.arj_journal.specs.declared.body.Difference.TheVariants as difference
use Rattle.arj_journal.specs.declared.body.FrameKind.TheVariants as frame
use Rattle.arj_journal.specs.declared.body.Kind.TheVariants as kind
use Rattle.arj_journal.specs.declared.body.Part.TheVariants as part
use Rattle.arj_journal.specs.declared.body.Role.TheVariants as role
use Rattle.arj_journal.specs.declared.event.Event.TheVariants as event
use Rattle.arj_journal.specs.declared.event.StopKind.TheVariants as stop
use Rattle.arj_journal.specs.declared.event.FrameNo.TheVariants.{Number}
use Rattle.arj_cause_tests.proofs.Words.{Run, b, is_followed, l, lacking, nodes, object_line, run, u}

abbrev full_1 : Run
full_1 = run
    (nodes 4 (object_line 2 (value.Account 5) (4 ∷ 3 ∷ []) (2 ∷ 3 ∷ []) ∷ object_line 3 (value.Table []) (1 ∷ []) (2 ∷ 3 ∷ [])
    ∷ object_line 4 (value.Table []) (2 ∷ 1 ∷ []) (2 ∷ []) ∷ object_line 255 (value.Queue []) (1 ∷ []) (2 ∷ 3 ∷ []) ∷ []))
    ((event.Begin (l 161) 3, body.Began (l 161) kind.Top (u 3 1 1) None ∷ [])
    ∷ (event.Abort (l 161), body.Aborted (l 161) cause.Asked ∷ [])
    ∷ (event.Begin (l 162) 2, body.Began (l 162) kind.Top (u 2 1 1) None ∷ [])
    ∷ (event.Begin (l 163) 2, body.Began (l 163) kind.Top (u 2 1 2) None ∷ [])
    ∷ (event.Call (l 163) 4 (op.GetKey 15), body.Sent 1 2 1 frame.Bind ∷ [])
    ∷ (event.Call (l 162) 4 (op.PutPair 0 0), body.Sent 2 2 1 frame.Bind ∷ [])
    ∷ (
      event.Deliver (Number 1),
      body.Got 1 ∷ body.Granted 1 (u 2 1 2) (u 0 1 4) Write ∷ body.Bound 4 (b 1 1) 2 ∷ body.Sent 3 1 2 frame.Bound ∷ [],
    ) ∷ (event.GiveUp (l 162), body.GaveUp (l 162) 1 ∷ body.Lost (l 162) 1 ∷ []) ∷ (event.Lose (Number 3), body.Dropped 3 ∷ [])
    ∷ (event.Deliver (Number 2), body.Got 2 ∷ body.Sent 4 1 2 frame.Bound ∷ []) ∷ (event.Deliver (Number 4), body.Void 4 ∷ [])
    ∷ (event.Call (l 162) 2 (op.Withdraw 2), body.Sent 5 2 1 frame.Bind ∷ []) ∷ (event.Lose (Number 5), body.Dropped 5 ∷ [])
    ∷ (event.GiveUp (l 162), body.GaveUp (l 162) 1 ∷ body.Lost (l 162) 1 ∷ [])
    ∷ (event.BeginIn (l 164) (l 162), body.Began (l 164) kind.Nested (u 2 1 3) (Some (l 162)) ∷ [])
    ∷ (event.Call (l 164) 255 op.Len, body.Sent 6 2 1 frame.Bind ∷ []) ∷ (event.Lose (Number 6), body.Dropped 6 ∷ [])
    ∷ (event.BeginIn (l 165) (l 162), body.Began (l 165) kind.Nested (u 2 1 4) (Some (l 162)) ∷ [])
    ∷ (event.Call (l 165) 3 (op.GetKey 9), body.Sent 7 2 1 frame.Bind ∷ [])
    ∷ (
      event.Deliver (Number 7),
      body.Got 7 ∷ body.Granted 1 (u 2 1 1) (u 0 1 3) Write ∷ body.Bound 3 (b 1 2) 1 ∷ body.Sent 8 1 2 frame.Bound ∷ [],
    ) ∷ (event.Deliver (Number 8), body.Got 8 ∷ body.Sent 9 2 1 frame.Activate ∷ []) ∷ (event.Lose (Number 9), body.Dropped 9 ∷ [])
    ∷ (event.GiveUp (l 164), body.GaveUp (l 164) 1 ∷ body.Lost (l 164) 1 ∷ [])
    ∷ (event.Call (l 164) 4 (op.PutPair 6 2), body.Sent 10 2 1 frame.Bind ∷ [])
    ∷ (event.Deliver (Number 10), body.Got 10 ∷ body.Sent 11 1 2 frame.Bound ∷ [])
    ∷ (event.Deliver (Number 11), body.Got 11 ∷ body.Conflict (l 164) (u 2 1 2) Write 1 ∷ []) ∷ (event.Tick 4, [])
    ∷ (event.Call (l 164) 2 (op.Withdraw 0), body.Sent 12 2 1 frame.Bind ∷ [])
    ∷ (
      event.Deliver (Number 12),
      body.Got 12 ∷ body.Granted 1 (u 2 1 1) (u 0 1 2) Write ∷ body.Bound 2 (b 1 3) 4 ∷ body.Sent 13 1 2 frame.Bound ∷ [],
    ) ∷ (event.Deliver (Number 13), body.Got 13 ∷ body.Sent 14 2 4 frame.Activate ∷ [])
    ∷ (event.Deliver (Number 10), body.Got 10 ∷ body.Sent 15 1 2 frame.Bound ∷ [])
    ∷ (event.Deliver (Number 14), body.Got 14 ∷ body.Active 4 2 (b 1 3) ∷ body.Sent 16 4 2 frame.Activated ∷ [])
    ∷ (event.Deliver (Number 15), body.Void 15 ∷ []) ∷ (event.Deliver (Number 2), body.Got 2 ∷ body.Sent 17 1 2 frame.Bound ∷ [])
    ∷ (event.Deliver (Number 16), body.Got 16 ∷ body.Sent 18 2 1 frame.Record ∷ [])
    ∷ (event.Deliver (Number 18), body.Got 18 ∷ body.Lowered 1 (u 2 1 1) (u 0 1 2) ∷ body.Sent 19 1 2 frame.Recorded ∷ [])
    ∷ (event.Deliver (Number 17), body.Void 17 ∷ []) ∷ (event.Deliver (Number 19), body.Got 19 ∷ body.Sent 20 2 4 frame.Invoke ∷ [])
    ∷ (event.BeginIn (l 166) (l 162), body.Began (l 166) kind.Nested (u 2 1 5) (Some (l 162)) ∷ [])
    ∷ (event.BeginIn (l 167) (l 166), body.Began (l 167) kind.Nested (u 2 1 6) (Some (l 166)) ∷ [])
    ∷ (event.BeginIn (l 168) (l 167), body.Began (l 168) kind.Nested (u 2 1 7) (Some (l 167)) ∷ [])
    ∷ (event.BeginIn (l 169) (l 162), body.Began (l 169) kind.Nested (u 2 1 8) (Some (l 162)) ∷ [])
    ∷ (event.Deliver (Number 20), body.Got 20 ∷ body.Granted 4 (u 2 1 3) (u 0 0 2) Write ∷ body.Sent 21 4 2 frame.Invoked ∷ [])
    ∷ (event.Call (l 166) 2 (op.Withdraw 0), body.Sent 22 2 4 frame.Invoke ∷ []) ∷ (event.Lose (Number 21), body.Dropped 21 ∷ [])
    ∷ (event.GiveUp (l 166), body.GaveUp (l 166) 4 ∷ body.Lost (l 166) 4 ∷ [])
    ∷ (event.Deliver (Number 22), body.Got 22 ∷ body.Sent 23 4 2 frame.Invoked ∷ []) ∷ (event.Deliver (Number 23), body.Void 23 ∷ [])
    ∷ (event.Call (l 169) 2 (op.Deposit 2), body.Sent 24 2 4 frame.Invoke ∷ [])
    ∷ (event.Abort (l 168), body.Aborted (l 168) cause.Asked ∷ [])
    ∷ (event.Deliver (Number 24), body.Got 24 ∷ body.Sent 25 4 2 frame.Invoked ∷ [])
    ∷ (event.Deliver (Number 25), body.Got 25 ∷ body.Conflict (l 169) (u 2 1 3) Write 4 ∷ [])
    ∷ (event.Include (l 167) 4 4, body.Sent 26 2 1 frame.Bind ∷ [])
    ∷ (event.Deliver (Number 26), body.Got 26 ∷ body.Sent 27 1 2 frame.Bound ∷ [])
    ∷ (event.Call (l 169) 2 (op.Withdraw 2), body.Sent 28 2 4 frame.Invoke ∷ [])
    ∷ (event.Deliver (Number 27), body.Got 27 ∷ body.Conflict (l 167) (u 2 1 2) Write 1 ∷ [])
    ∷ (event.BeginIn (l 170) (l 167), body.Began (l 170) kind.Nested (u 2 1 9) (Some (l 167)) ∷ [])
    ∷ (event.Include (l 167) 2 1, body.Sent 29 2 1 frame.Bind ∷ [])
    ∷ (event.Deliver (Number 28), body.Got 28 ∷ body.Sent 30 4 2 frame.Invoked ∷ [])
    ∷ (event.Deliver (Number 29), body.Got 29 ∷ body.Granted 1 (u 2 1 1) (u 0 1 2) Write ∷ body.Sent 31 1 2 frame.Bound ∷ [])
    ∷ (event.GiveUp (l 169), body.GaveUp (l 169) 4 ∷ body.Lost (l 169) 4 ∷ [])
    ∷ (event.Top (l 171) (l 162), body.Began (l 171) kind.Independent (u 2 1 10) (Some (l 162)) ∷ [])
    ∷ (event.Call (l 171) 4 (op.GetKey 7), body.Sent 32 2 1 frame.Bind ∷ []) ∷ (event.Deliver (Number 30), body.Void 30 ∷ [])
    ∷ (event.Deliver (Number 32), body.Got 32 ∷ body.Sent 33 1 2 frame.Bound ∷ [])
    ∷ (event.Deliver (Number 33), body.Got 33 ∷ body.Conflict (l 171) (u 2 1 2) Write 1 ∷ [])
    ∷ (event.Commit (l 171), body.Committing (l 171) ∷ body.Committed (l 171) ∷ body.Sent 34 2 1 frame.Told ∷ [])
    ∷ (event.BeginIn (l 172) (l 162), body.Began (l 172) kind.Nested (u 2 1 11) (Some (l 162)) ∷ [])
    ∷ (event.Deliver (Number 31), body.Got 31 ∷ body.Includes (l 167) 2 1 ∷ [])
    ∷ (event.Call (l 170) 4 (op.PutPair 14 4), body.Sent 35 2 1 frame.Bind ∷ [])
    ∷ (event.Call (l 172) 2 (op.Withdraw 3), body.Sent 36 2 4 frame.Invoke ∷ [])
    ∷ (event.Deliver (Number 35), body.Got 35 ∷ body.Sent 37 1 2 frame.Bound ∷ [])
    ∷ (event.Deliver (Number 35), body.Got 35 ∷ body.Sent 38 1 2 frame.Bound ∷ [])
    ∷ (event.GiveUp (l 165), body.GaveUp (l 165) 1 ∷ body.Lost (l 165) 1 ∷ []) ∷ (event.Deliver (Number 34), body.Got 34 ∷ [])
    ∷ (event.Deliver (Number 36), body.Got 36 ∷ body.Sent 39 4 2 frame.Invoked ∷ [])
    ∷ (event.Deliver (Number 38), body.Got 38 ∷ body.Conflict (l 170) (u 2 1 2) Write 1 ∷ [])
    ∷ (event.Deliver (Number 37), body.Void 37 ∷ []) ∷ (event.Crash 3, body.Halted 3 ∷ [])
    ∷ (event.Deliver (Number 39), body.Got 39 ∷ body.Conflict (l 172) (u 2 1 3) Write 4 ∷ [])
    ∷ (event.Deliver (Number 32), body.Void 32 ∷ []) ∷ (event.Call (l 172) 255 (op.Push 3), body.Sent 40 2 1 frame.Bind ∷ [])
    ∷ (event.Call (l 165) 2 op.Get, body.Sent 41 2 4 frame.Invoke ∷ [])
    ∷ (event.Call (l 167) 2 (op.Withdraw 0), body.Sent 42 2 4 frame.Invoke ∷ [])
    ∷ (
      event.Settle,
      body.Got 40 ∷ body.Granted 1 (u 2 1 1) (u 0 1 255) Write ∷ body.Bound 255 (b 1 4) 1 ∷ body.Sent 43 1 2 frame.Bound ∷ body.Got 41
          ∷ body.Sent 44 4 2 frame.Invoked ∷ body.Got 42 ∷ body.Sent 45 4 2 frame.Invoked ∷ body.Got 43
          ∷ body.Sent 46 2 1 frame.Activate ∷ body.Got 44 ∷ body.Conflict (l 165) (u 2 1 3) Write 4 ∷ body.Got 45
          ∷ body.Conflict (l 167) (u 2 1 3) Write 4 ∷ body.Got 46 ∷ body.Active 1 255 (b 1 4) ∷ body.Sent 47 1 2 frame.Activated
          ∷ body.Got 47 ∷ body.Sent 48 2 1 frame.Record ∷ body.Got 48 ∷ body.Lowered 1 (u 2 1 1) (u 0 1 255)
          ∷ body.Sent 49 1 2 frame.Recorded ∷ body.Got 49 ∷ body.Sent 50 2 1 frame.Invoke ∷ body.Got 50
          ∷ body.Granted 1 (u 2 1 11) (u 0 0 255) Write ∷ body.Sent 51 1 2 frame.Invoked ∷ body.Got 51
          ∷ body.Ok (l 172) 255 (op.Push 3) (codes "done") ∷ [],
    ) ∷ (event.Call (l 172) 2 (op.Withdraw 2), body.Sent 52 2 4 frame.Invoke ∷ [])
    ∷ (event.Deliver (Number 52), body.Got 52 ∷ body.Sent 53 4 2 frame.Invoked ∷ [])
    ∷ (event.Call (l 170) 2 op.Get, body.Sent 54 2 4 frame.Invoke ∷ [])
    ∷ (event.Deliver (Number 53), body.Got 53 ∷ body.Conflict (l 172) (u 2 1 3) Write 4 ∷ [])
    ∷ (event.Deliver (Number 54), body.Got 54 ∷ body.Sent 55 4 2 frame.Invoked ∷ []) ∷ (event.Lose (Number 55), body.Dropped 55 ∷ [])
    ∷ (event.BeginIn (l 173) (l 167), body.Began (l 173) kind.Nested (u 2 1 12) (Some (l 167)) ∷ [])
    ∷ (event.Abort (l 162), body.Refused 7 ∷ []) ∷ (event.Abort (l 163), body.Refused 7 ∷ [])
    ∷ (event.Restart 3, body.Up 3 2 ∷ body.Sent 56 3 1 frame.Hello ∷ body.Sent 57 3 2 frame.Hello ∷ body.Sent 58 3 4 frame.Hello ∷ [])
    ∷ (event.Settle, body.Got 56 ∷ body.Got 57 ∷ body.Got 58 ∷ [])
    ∷ (event.Abort (l 169), body.Aborted (l 169) cause.Asked ∷ body.Sent 59 2 4 frame.Told ∷ [])
    ∷ (event.Begin (l 174) 1, body.Began (l 174) kind.Top (u 1 1 1) None ∷ [])
    ∷ (event.Call (l 174) 2 (op.Deposit 2), body.Conflict (l 174) (u 2 1 1) Write 1 ∷ []) ∷ (event.Settle, body.Got 59 ∷ [])
    ∷ (event.Commit (l 174), body.Committing (l 174) ∷ body.Committed (l 174) ∷ []) ∷ (event.Settle, [])
    ∷ (event.Call (l 165) 2 (op.Deposit 1), body.Sent 60 2 4 frame.Invoke ∷ [])
    ∷ (event.Deliver (Number 60), body.Got 60 ∷ body.Sent 61 4 2 frame.Invoked ∷ [])
    ∷ (event.Deliver (Number 61), body.Got 61 ∷ body.Conflict (l 165) (u 2 1 3) Write 4 ∷ [])
    ∷ (event.Call (l 172) 255 op.Len, body.Sent 62 2 1 frame.Invoke ∷ [])
    ∷ (event.Call (l 165) 2 op.Get, body.Sent 63 2 4 frame.Invoke ∷ [])
    ∷ (event.Deliver (Number 62), body.Got 62 ∷ body.Sent 64 1 2 frame.Invoked ∷ [])
    ∷ (event.BeginIn (l 177) (l 167), body.Began (l 177) kind.Nested (u 2 1 13) (Some (l 167)) ∷ [])
    ∷ (event.BeginIn (l 178) (l 162), body.Began (l 178) kind.Nested (u 2 1 14) (Some (l 162)) ∷ [])
    ∷ (event.Deliver (Number 64), body.Got 64 ∷ body.Ok (l 172) 255 op.Len (codes "1") ∷ [])
    ∷ (event.Commit (l 172), body.Committed (l 172) ∷ body.Sent 65 2 1 frame.Told ∷ body.Sent 66 2 4 frame.Told ∷ [])
    ∷ (event.Deliver (Number 65), body.Got 65 ∷ body.Told 1 (u 2 1 11) Commit part.Server ∷ [])
    ∷ (event.Lose (Number 66), body.Dropped 66 ∷ []) ∷ (event.Deliver (Number 63), body.Got 63 ∷ body.Sent 67 4 2 frame.Invoked ∷ [])
    ∷ (event.Tick 1, body.Sent 68 1 2 frame.Query ∷ body.Sent 69 1 2 frame.Query ∷ [])
    ∷ (event.Deliver (Number 67), body.Got 67 ∷ body.Conflict (l 165) (u 2 1 3) Write 4 ∷ [])
    ∷ (event.Commit (l 173), body.Committed (l 173) ∷ []) ∷ (event.Call (l 177) 255 (op.Push 1), body.Sent 70 2 1 frame.Invoke ∷ [])
    ∷ (
      event.Settle,
      body.Got 68 ∷ body.Got 69 ∷ body.Got 70 ∷ body.Granted 1 (u 2 1 13) (u 0 0 255) Write ∷ body.Sent 71 1 2 frame.Invoked
          ∷ body.Got 71 ∷ body.Ok (l 177) 255 (op.Push 1) (codes "done") ∷ [],
    ) ∷ (event.Call (l 165) 2 (op.Deposit 0), body.Sent 72 2 4 frame.Invoke ∷ [])
    ∷ (event.GiveUp (l 170), body.GaveUp (l 170) 4 ∷ body.Lost (l 170) 4 ∷ [])
    ∷ (event.Call (l 177) 2 (op.Deposit 1), body.Sent 73 2 4 frame.Invoke ∷ [])
    ∷ (event.Call (l 178) 255 (op.Push 4), body.Sent 74 2 1 frame.Invoke ∷ []) ∷ (event.Deliver (Number 43), body.Void 43 ∷ [])
    ∷ (event.Deliver (Number 73), body.Got 73 ∷ body.Sent 75 4 2 frame.Invoked ∷ [])
    ∷ (event.BeginIn (l 179) (l 162), body.Began (l 179) kind.Nested (u 2 1 15) (Some (l 162)) ∷ [])
    ∷ (event.Deliver (Number 72), body.Got 72 ∷ body.Sent 76 4 2 frame.Invoked ∷ []) ∷ (event.Crash 2, body.Halted 2 ∷ [])
    ∷ (event.Restart 2, body.Up 2 2 ∷ body.Sent 77 2 1 frame.Hello ∷ body.Sent 78 2 3 frame.Hello ∷ body.Sent 79 2 4 frame.Hello ∷ [])
    ∷ (event.Deliver (Number 74), body.Got 74 ∷ body.Sent 80 1 2 frame.Invoked ∷ []) ∷ (event.Tick 3, [])
    ∷ (event.Deliver (Number 75), body.Void 75 ∷ []) ∷ (event.Deliver (Number 76), body.Void 76 ∷ [])
    ∷ (event.Begin (l 180) 2, body.Began (l 180) kind.Top (u 2 2 1) None ∷ [])
    ∷ (event.Include (l 180) 2 4, body.Sent 81 2 1 frame.Bind ∷ []) ∷ (event.Deliver (Number 80), body.Void 80 ∷ [])
    ∷ (event.Deliver (Number 77), body.Got 77 ∷ body.Sent 82 1 2 frame.Query ∷ body.Sent 83 1 2 frame.Query ∷ [])
    ∷ (event.Lose (Number 78), body.Dropped 78 ∷ []) ∷ (event.Deliver (Number 63), body.Void 63 ∷ [])
    ∷ (event.Deliver (Number 81), body.Got 81 ∷ body.Sent 84 1 2 frame.Bound ∷ [])
    ∷ (event.Deliver (Number 79), body.Got 79 ∷ body.Sent 85 4 2 frame.Query ∷ [])
    ∷ (event.Deliver (Number 82), body.Got 82 ∷ body.Sent 86 2 1 frame.Told ∷ []) ∷ (event.Lose (Number 86), body.Dropped 86 ∷ [])
    ∷ (event.Deliver (Number 83), body.Got 83 ∷ body.Sent 87 2 1 frame.Told ∷ [])
    ∷ (event.Deliver (Number 84), body.Got 84 ∷ body.Conflict (l 180) (u 2 1 1) Write 1 ∷ [])
    ∷ (event.BeginIn (l 181) (l 180), body.Began (l 181) kind.Nested (u 2 2 2) (Some (l 180)) ∷ [])
    ∷ (event.Deliver (Number 79), body.Got 79 ∷ body.Sent 88 4 2 frame.Query ∷ [])
    ∷ (event.Deliver (Number 85), body.Got 85 ∷ body.Sent 89 2 4 frame.Told ∷ [])
    ∷ (event.Begin (l 182) 1, body.Began (l 182) kind.Top (u 1 1 2) None ∷ []) ∷ [])

full_1_follows : is_followed full_1 ≡ true
full_1_follows = refl

full_1_has_causes : lacking full_1 ≡ []
full_1_has_causes = refl

abbrev full_2 : Run
full_2 = run
    (nodes 2 (object_line 1 (value.Counter 7) (2 ∷ []) (1 ∷ []) ∷ object_line 2 (value.Counter 8) (1 ∷ 2 ∷ []) (2 ∷ [])
    ∷ object_line 253 (value.Counter 5) (2 ∷ 1 ∷ []) (2 ∷ 1 ∷ []) ∷ []))
    ((event.Show 2, body.Entry 2 0 (1 ∷ 2 ∷ []) (2 ∷ []) ∷ body.Copy 2 2 0 (u 0 0 0) (0 ∷ 0 ∷ 0 ∷ 0 ∷ 0 ∷ 0 ∷ 0 ∷ 8 ∷ []) ∷ [])
    ∷ (event.Begin (l 161) 1, body.Began (l 161) kind.Top (u 1 1 1) None ∷ [])
    ∷ (event.Begin (l 162) 2, body.Began (l 162) kind.Top (u 2 1 1) None ∷ [])
    ∷ (event.Show 1, body.Entry 1 0 (2 ∷ []) (1 ∷ []) ∷ body.Copy 1 1 0 (u 0 0 0) (0 ∷ 0 ∷ 0 ∷ 0 ∷ 0 ∷ 0 ∷ 0 ∷ 7 ∷ []) ∷ [])
    ∷ (event.Begin (l 163) 1, body.Began (l 163) kind.Top (u 1 1 2) None ∷ [])
    ∷ (event.Top (l 164) (l 163), body.Began (l 164) kind.Independent (u 1 1 3) (Some (l 163)) ∷ [])
    ∷ (
      event.Call (l 161) 1 op.Get,
      body.Granted 1 (u 1 1 1) (u 0 1 1) Write ∷ body.Bound 1 (b 1 1) 2 ∷ body.Sent 1 1 2 frame.Activate ∷ [],
    ) ∷ (event.Call (l 162) 1 (op.Set 4), body.Sent 2 2 1 frame.Bind ∷ [])
    ∷ (event.Deliver (Number 1), body.Got 1 ∷ body.Active 2 1 (b 1 1) ∷ body.Sent 3 2 1 frame.Activated ∷ [])
    ∷ (event.Deliver (Number 2), body.Got 2 ∷ body.Sent 4 1 2 frame.Bound ∷ [])
    ∷ (event.BeginIn (l 165) (l 163), body.Began (l 165) kind.Nested (u 1 1 4) (Some (l 163)) ∷ [])
    ∷ (event.Deliver (Number 3), body.Got 3 ∷ body.Lowered 1 (u 1 1 1) (u 0 1 1) ∷ body.Sent 5 1 2 frame.Invoke ∷ [])
    ∷ (event.Deliver (Number 5), body.Got 5 ∷ body.Granted 2 (u 1 1 1) (u 0 0 1) Read ∷ body.Sent 6 2 1 frame.Invoked ∷ [])
    ∷ (event.Deliver (Number 4), body.Got 4 ∷ body.Conflict (l 162) (u 1 1 1) Write 1 ∷ [])
    ∷ (event.Deliver (Number 6), body.Got 6 ∷ body.Ok (l 161) 1 op.Get (codes "7") ∷ [])
    ∷ (event.Call (l 161) 1 (op.Add 0), body.Sent 7 1 2 frame.Invoke ∷ [])
    ∷ (event.Deliver (Number 7), body.Got 7 ∷ body.Granted 2 (u 1 1 1) (u 0 0 1) Write ∷ body.Sent 8 2 1 frame.Invoked ∷ [])
    ∷ (event.Deliver (Number 8), body.Got 8 ∷ body.Ok (l 161) 1 (op.Add 0) (codes "done") ∷ [])
    ∷ (event.Call (l 163) 1 (op.Add 0), body.Granted 1 (u 1 1 2) (u 0 1 1) Read ∷ body.Sent 9 1 2 frame.Invoke ∷ [])
    ∷ (event.Deliver (Number 9), body.Got 9 ∷ body.Sent 10 2 1 frame.Invoked ∷ [])
    ∷ (event.Show 1, body.Entry 1 0 (2 ∷ []) (1 ∷ []) ∷ body.Copy 1 1 0 (u 0 0 0) (0 ∷ 0 ∷ 0 ∷ 0 ∷ 0 ∷ 0 ∷ 0 ∷ 7 ∷ []) ∷ [])
    ∷ (event.Deliver (Number 10), body.Got 10 ∷ body.Conflict (l 163) (u 1 1 1) Write 2 ∷ [])
    ∷ (event.Commit (l 161), body.Committing (l 161) ∷ body.Sent 11 1 2 frame.Vote ∷ []) ∷ (event.Abort (l 161), body.Refused 7 ∷ [])
    ∷ (event.Abort (l 162), body.Aborted (l 162) cause.Asked ∷ body.Sent 12 2 1 frame.Told ∷ [])
    ∷ (event.Show 1, body.Entry 1 0 (2 ∷ []) (1 ∷ []) ∷ body.Copy 1 1 0 (u 0 0 0) (0 ∷ 0 ∷ 0 ∷ 0 ∷ 0 ∷ 0 ∷ 0 ∷ 7 ∷ []) ∷ [])
    ∷ (
      event.Abort (l 163),
      body.Aborted (l 165) cause.Asked ∷ body.Aborted (l 163) cause.Asked ∷ body.Sent 13 1 2 frame.Told
          ∷ body.Told 1 (u 1 1 2) Abort part.Naming ∷ [],
    ) ∷ (event.Abort (l 164), body.Aborted (l 164) cause.Asked ∷ [])
    ∷ (
      event.Settle,
      body.Got 11 ∷ body.Sent 14 2 1 frame.Voted ∷ body.Got 12 ∷ body.Got 13 ∷ body.Got 14 ∷ body.Prepared 1 (u 1 1 1) role.Store
          ∷ body.Committed (l 161) ∷ body.Sent 15 1 2 frame.Told ∷ body.Done 1 (u 1 1 1) role.Store Commit
          ∷ body.Told 1 (u 1 1 1) Commit part.Naming ∷ body.Got 15 ∷ body.Told 2 (u 1 1 1) Commit part.Server
          ∷ body.Sent 16 2 1 frame.Acked ∷ body.Got 16 ∷ [],
    ) ∷ (event.Begin (l 166) 2, body.Began (l 166) kind.Top (u 2 1 2) None ∷ [])
    ∷ (event.Call (l 166) 1 (op.Add 3), body.Sent 17 2 1 frame.Bind ∷ [])
    ∷ (
      event.Settle,
      body.Got 17 ∷ body.Granted 1 (u 2 1 2) (u 0 1 1) Read ∷ body.Sent 18 1 2 frame.Bound ∷ body.Got 18
          ∷ body.Granted 2 (u 2 1 2) (u 0 0 1) Write ∷ body.Ok (l 166) 1 (op.Add 3) (codes "done") ∷ [],
    ) ∷ (event.Commit (l 166), body.Committing (l 166) ∷ body.Sent 19 2 1 frame.Prepare ∷ [])
    ∷ (event.Deliver (Number 19), body.Got 19 ∷ body.Prepared 1 (u 2 1 2) role.Store ∷ body.Sent 20 1 2 frame.Prepared ∷ [])
    ∷ (event.Deliver (Number 20), body.Got 20 ∷ body.Sent 21 2 1 frame.Confirm ∷ [])
    ∷ (event.Deliver (Number 21), body.Got 21 ∷ body.Sent 22 1 2 frame.Confirmed ∷ [])
    ∷ (
      event.GiveUp (l 166),
      body.GaveUp (l 166) 1 ∷ body.Aborted (l 166) (cause.Lost 1) ∷ body.Sent 23 2 1 frame.Told
          ∷ body.Told 2 (u 2 1 2) Abort part.Server ∷ [],
    ) ∷ (event.Settle, body.Void 22 ∷ body.Got 23 ∷ body.Done 1 (u 2 1 2) role.Store Abort ∷ body.Told 1 (u 2 1 2) Abort part.Naming ∷ [])
    ∷ (event.Deliver (Number 17), body.Void 17 ∷ []) ∷ (event.Begin (l 169) 2, body.Began (l 169) kind.Top (u 2 1 3) None ∷ [])
    ∷ (event.Stop 2 2 (stop.Torn (87 ∷ 16 ∷ [])), body.Armed 2 ∷ []) ∷ (event.Call (l 169) 1 (op.Add 2), body.Sent 24 2 1 frame.Bind ∷ [])
    ∷ (event.Stop 1 1 stop.Undone, body.Armed 1 ∷ [])
    ∷ (event.Deliver (Number 24), body.Got 24 ∷ body.Granted 1 (u 2 1 3) (u 0 1 1) Read ∷ body.Sent 25 1 2 frame.Bound ∷ [])
    ∷ (event.GiveUp (l 169), body.GaveUp (l 169) 1 ∷ body.Lost (l 169) 1 ∷ []) ∷ (event.Deliver (Number 25), body.Void 25 ∷ [])
    ∷ (event.Begin (l 170) 1, body.Began (l 170) kind.Top (u 1 1 5) None ∷ [])
    ∷ (event.BeginIn (l 171) (l 169), body.Began (l 171) kind.Nested (u 2 1 4) (Some (l 169)) ∷ [])
    ∷ (
      event.Call (l 170) 2 (op.Add 0),
      body.Granted 1 (u 1 1 5) (u 0 1 2) Write ∷ body.Bound 2 (b 1 2) 1 ∷ body.Sent 26 1 2 frame.Load ∷ [],
    ) ∷ (event.GiveUp (l 170), body.GaveUp (l 170) 2 ∷ body.Lost (l 170) 2 ∷ [])
    ∷ (event.Deliver (Number 26), body.Got 26 ∷ body.Sent 27 2 1 frame.Loaded ∷ [])
    ∷ (event.BeginIn (l 172) (l 169), body.Began (l 172) kind.Nested (u 2 1 5) (Some (l 169)) ∷ [])
    ∷ (event.Serial (l 173) 2, body.Began (l 173) kind.Serial (u 2 1 6) None ∷ []) ∷ (event.Deliver (Number 27), body.Void 27 ∷ [])
    ∷ (event.Begin (l 174) 2, body.Began (l 174) kind.Top (u 2 1 7) None ∷ [])
    ∷ (event.Call (l 169) 1 (op.Set 3), body.Sent 28 2 1 frame.Bind ∷ [])
    ∷ (event.Deliver (Number 28), body.Got 28 ∷ body.Sent 29 1 2 frame.Bound ∷ [])
    ∷ (event.Call (l 170) 1 (op.Set 3), body.Granted 1 (u 1 1 5) (u 0 1 1) Read ∷ body.Sent 30 1 2 frame.Invoke ∷ [])
    ∷ (event.BeginIn (l 175) (l 173), body.Began (l 175) kind.Constituent (u 2 1 8) (Some (l 173)) ∷ [])
    ∷ (
      event.Deliver (Number 29),
      body.Got 29 ∷ body.Granted 2 (u 2 1 3) (u 0 0 1) Write ∷ body.Ok (l 169) 1 (op.Set 3) (codes "done") ∷ [],
    ) ∷ (event.Deliver (Number 30), body.Got 30 ∷ body.Sent 31 2 1 frame.Invoked ∷ [])
    ∷ (event.Deliver (Number 31), body.Got 31 ∷ body.Conflict (l 170) (u 2 1 3) Write 2 ∷ [])
    ∷ (event.Commit (l 175), body.Committing (l 175) ∷ body.Committed (l 175) ∷ [])
    ∷ (event.Call (l 171) 1 (op.Add 1), body.Granted 2 (u 2 1 4) (u 0 0 1) Write ∷ body.Ok (l 171) 1 (op.Add 1) (codes "done") ∷ [])
    ∷ (event.Call (l 172) 2 (op.Set 0), body.Sent 32 2 1 frame.Bind ∷ []) ∷ (event.Deliver (Number 27), body.Void 27 ∷ [])
    ∷ (event.Settle, body.Got 32 ∷ body.Sent 33 1 2 frame.Bound ∷ body.Got 33 ∷ body.Conflict (l 172) (u 1 1 5) Write 1 ∷ [])
    ∷ (event.Begin (l 176) 2, body.Began (l 176) kind.Top (u 2 1 9) None ∷ [])
    ∷ (event.Call (l 176) 2 (op.Set 4), body.Sent 34 2 1 frame.Bind ∷ [])
    ∷ (event.Deliver (Number 34), body.Got 34 ∷ body.Sent 35 1 2 frame.Bound ∷ [])
    ∷ (event.Deliver (Number 35), body.Got 35 ∷ body.Conflict (l 176) (u 1 1 5) Write 1 ∷ [])
    ∷ (event.Call (l 169) 1 (op.Add 1), body.Conflict (l 169) (u 2 1 4) Write 2 ∷ [])
    ∷ (event.Call (l 176) 2 (op.Add 4), body.Sent 36 2 1 frame.Bind ∷ [])
    ∷ (event.Deliver (Number 36), body.Got 36 ∷ body.Sent 37 1 2 frame.Bound ∷ [])
    ∷ (event.Deliver (Number 37), body.Got 37 ∷ body.Conflict (l 176) (u 1 1 5) Write 1 ∷ []) ∷ (event.Settle, [])
    ∷ (event.Include (l 174) 1 2, body.Sent 38 2 1 frame.Bind ∷ [])
    ∷ (event.Call (l 169) 1 op.Get, body.Conflict (l 169) (u 2 1 4) Write 2 ∷ []) ∷ (event.Commit (l 172), body.Committed (l 172) ∷ [])
    ∷ (
      event.Commit (l 170),
      body.Committing (l 170) ∷ body.Committed (l 170) ∷ body.Sent 39 1 2 frame.Told ∷ body.Told 1 (u 1 1 5) Abort part.Naming ∷ [],
    ) ∷ (event.Call (l 169) 1 op.Get, body.Conflict (l 169) (u 2 1 4) Write 2 ∷ []) ∷ (event.Deliver (Number 39), body.Got 39 ∷ [])
    ∷ (event.Call (l 169) 1 (op.Add 3), body.Conflict (l 169) (u 2 1 4) Write 2 ∷ [])
    ∷ (event.BeginIn (l 179) (l 171), body.Began (l 179) kind.Nested (u 2 1 10) (Some (l 171)) ∷ [])
    ∷ (event.Include (l 179) 1 2, body.Sent 40 2 1 frame.Bind ∷ [])
    ∷ (event.GiveUp (l 179), body.GaveUp (l 179) 1 ∷ body.Lost (l 179) 1 ∷ [])
    ∷ (event.Deliver (Number 38), body.Got 38 ∷ body.Sent 41 1 2 frame.Bound ∷ [])
    ∷ (event.Deliver (Number 40), body.Got 40 ∷ body.Granted 1 (u 2 1 3) (u 0 1 1) Write ∷ body.Sent 42 1 2 frame.Bound ∷ [])
    ∷ (event.Lose (Number 41), body.Dropped 41 ∷ [])
    ∷ (event.Call (l 179) 1 (op.Add 2), body.Granted 2 (u 2 1 10) (u 0 0 1) Write ∷ body.Ok (l 179) 1 (op.Add 2) (codes "done") ∷ [])
    ∷ (event.Commit (l 179), body.Committed (l 179) ∷ body.Told 2 (u 2 1 10) Commit part.Server ∷ [])
    ∷ (event.Deliver (Number 42), body.Void 42 ∷ []) ∷ (event.Abort (l 173), body.Aborted (l 173) cause.Asked ∷ [])
    ∷ (event.Serial (l 180) 2, body.Began (l 180) kind.Serial (u 2 1 11) None ∷ [])
    ∷ (event.Deliver (Number 19), body.Got 19 ∷ body.Halted 1 ∷ [])
    ∷ (event.BeginIn (l 181) (l 180), body.Began (l 181) kind.Constituent (u 2 1 12) (Some (l 180)) ∷ [])
    ∷ (event.Call (l 176) 1 op.Get, body.Sent 43 2 1 frame.Bind ∷ [])
    ∷ (event.Call (l 169) 1 op.Get, body.Conflict (l 169) (u 2 1 4) Write 2 ∷ [])
    ∷ (event.Commit (l 171), body.Committed (l 171) ∷ body.Told 2 (u 2 1 4) Commit part.Server ∷ [])
    ∷ (event.Deliver (Number 43), body.Void 43 ∷ []) ∷ (event.Call (l 181) 1 (op.Add 4), body.Sent 44 2 1 frame.Bind ∷ [])
    ∷ (event.Deliver (Number 44), body.Void 44 ∷ []) ∷ (event.Restart 1, body.Up 1 2 ∷ body.Sent 45 1 2 frame.Hello ∷ [])
    ∷ (event.Top (l 182) (l 169), body.Began (l 182) kind.Independent (u 2 1 13) (Some (l 169)) ∷ [])
    ∷ (event.Call (l 182) 1 (op.Set 1), body.Sent 46 2 1 frame.Bind ∷ [])
    ∷ (
      event.Abort (l 169),
      body.Aborted (l 169) cause.Asked ∷ body.Sent 47 2 1 frame.Told ∷ body.Told 2 (u 2 1 3) Abort part.Server ∷ [],
    ) ∷ (event.Abort (l 174), body.Refused 7 ∷ []) ∷ (event.Abort (l 176), body.Refused 7 ∷ [])
    ∷ (event.Abort (l 180), body.Refused 7 ∷ []) ∷ (event.Abort (l 182), body.Refused 7 ∷ [])
    ∷ (
      event.Settle,
      body.Got 45 ∷ body.Got 46 ∷ body.Granted 1 (u 2 1 13) (u 0 1 1) Write ∷ body.Bound 1 (b 2 1) 2 ∷ body.Sent 48 1 2 frame.Bound
          ∷ body.Got 47 ∷ body.Got 48 ∷ body.Sent 49 2 1 frame.Load ∷ body.Got 49 ∷ body.Sent 50 1 2 frame.Loaded ∷ body.Got 50
          ∷ body.Active 2 1 (b 2 1) ∷ body.Sent 51 2 1 frame.Record ∷ body.Got 51 ∷ body.Lowered 1 (u 2 1 13) (u 0 1 1)
          ∷ body.Sent 52 1 2 frame.Recorded ∷ body.Got 52 ∷ body.Granted 2 (u 2 1 13) (u 0 0 1) Write
          ∷ body.Ok (l 182) 1 (op.Set 1) (codes "done") ∷ [],
    ) ∷ (event.Begin (l 183) 1, body.Began (l 183) kind.Top (u 1 2 1) None ∷ [])
    ∷ (event.Call (l 183) 1 (op.Add 4), body.Granted 1 (u 1 2 1) (u 0 1 1) Read ∷ body.Sent 53 1 2 frame.Invoke ∷ [])
    ∷ (event.Deliver (Number 53), body.Got 53 ∷ body.Sent 54 2 1 frame.Invoked ∷ [])
    ∷ (event.Deliver (Number 54), body.Got 54 ∷ body.Conflict (l 183) (u 2 1 13) Write 2 ∷ [])
    ∷ (event.Call (l 183) 1 (op.Add 2), body.Sent 55 1 2 frame.Invoke ∷ [])
    ∷ (event.Deliver (Number 55), body.Got 55 ∷ body.Sent 56 2 1 frame.Invoked ∷ [])
    ∷ (event.Deliver (Number 56), body.Got 56 ∷ body.Conflict (l 183) (u 2 1 13) Write 2 ∷ []) ∷ (event.Settle, []) ∷ (event.Settle, [])
    ∷ (event.Begin (l 186) 1, body.Began (l 186) kind.Top (u 1 2 2) None ∷ [])
    ∷ (event.Call (l 186) 1 (op.Add 1), body.Granted 1 (u 1 2 2) (u 0 1 1) Read ∷ body.Sent 57 1 2 frame.Invoke ∷ [])
    ∷ (event.Deliver (Number 57), body.Got 57 ∷ body.Sent 58 2 1 frame.Invoked ∷ [])
    ∷ (event.Deliver (Number 58), body.Got 58 ∷ body.Conflict (l 186) (u 2 1 13) Write 2 ∷ [])
    ∷ (event.Call (l 186) 1 (op.Add 2), body.Sent 59 1 2 frame.Invoke ∷ [])
    ∷ (event.Deliver (Number 59), body.Got 59 ∷ body.Sent 60 2 1 frame.Invoked ∷ [])
    ∷ (event.Deliver (Number 60), body.Got 60 ∷ body.Conflict (l 186) (u 2 1 13) Write 2 ∷ []) ∷ (event.Settle, [])
    ∷ (event.Call (l 186) 1 op.Get, body.Sent 61 1 2 frame.Invoke ∷ [])
    ∷ (event.Call (l 182) 1 (op.Set 1), body.Ok (l 182) 1 (op.Set 1) (codes "done") ∷ [])
    ∷ (event.Call (l 183) 1 op.Get, body.Sent 62 1 2 frame.Invoke ∷ [])
    ∷ (event.BeginIn (l 189) (l 180), body.Began (l 189) kind.Constituent (u 2 1 14) (Some (l 180)) ∷ [])
    ∷ (event.Deliver (Number 61), body.Got 61 ∷ body.Sent 63 2 1 frame.Invoked ∷ [])
    ∷ (event.Deliver (Number 63), body.Got 63 ∷ body.Conflict (l 186) (u 2 1 13) Write 2 ∷ [])
    ∷ (event.Commit (l 182), body.Committing (l 182) ∷ body.Sent 64 2 1 frame.Prepare ∷ [])
    ∷ (event.Deliver (Number 62), body.Got 62 ∷ body.Sent 65 2 1 frame.Invoked ∷ [])
    ∷ (event.Deliver (Number 64), body.Got 64 ∷ body.Prepared 1 (u 2 1 13) role.Store ∷ body.Sent 66 1 2 frame.Prepared ∷ [])
    ∷ (event.Deliver (Number 66), body.Got 66 ∷ body.Sent 67 2 1 frame.Confirm ∷ [])
    ∷ (
      event.Call (l 186) 2 (op.Add 2),
      body.Granted 1 (u 1 2 2) (u 0 1 2) Write ∷ body.Bound 2 (b 2 2) 1 ∷ body.Sent 68 1 2 frame.Load ∷ [],
    ) ∷ (event.Call (l 189) 1 (op.Set 3), body.Sent 69 2 1 frame.Bind ∷ [])
    ∷ (event.Deliver (Number 65), body.Got 65 ∷ body.Conflict (l 183) (u 2 1 13) Write 2 ∷ [])
    ∷ (event.Call (l 183) 2 op.Get, body.Conflict (l 183) (u 1 2 2) Write 1 ∷ [])
    ∷ (event.Deliver (Number 67), body.Got 67 ∷ body.Sent 70 1 2 frame.Confirmed ∷ [])
    ∷ (event.GiveUp (l 176), body.GaveUp (l 176) 1 ∷ body.Lost (l 176) 1 ∷ [])
    ∷ (event.GiveUp (l 181), body.GaveUp (l 181) 1 ∷ body.Lost (l 181) 1 ∷ [])
    ∷ (event.Call (l 176) 1 op.Get, body.Sent 71 2 1 frame.Bind ∷ []) ∷ (event.Deliver (Number 70), body.Got 70 ∷ body.Halted 2 ∷ [])
    ∷ (event.Include (l 183) 1 2, body.Conflict (l 183) (u 2 1 13) Read 1 ∷ [])
    ∷ (event.Call (l 183) 1 (op.Add 0), body.Sent 72 1 2 frame.Invoke ∷ []) ∷ (event.Deliver (Number 68), body.Void 68 ∷ []) ∷ [])

full_2_follows : is_followed full_2 ≡ true
full_2_follows = refl

full_2_has_causes : lacking full_2 ≡ []
full_2_has_causes = refl

abbrev full_3 : Run
full_3 = run
    (nodes 2 (object_line 1 (value.Register (217 ∷ [])) (2 ∷ 1 ∷ []) (1 ∷ [])
    ∷ object_line 2 (value.Counter 1) (2 ∷ 1 ∷ []) (1 ∷ 2 ∷ []) ∷ object_line 3 (value.Table ((0, 6) ∷ [])) (1 ∷ []) (1 ∷ 2 ∷ [])
    ∷ object_line 4 (value.Table ((0, 0) ∷ (1, 8) ∷ [])) (2 ∷ 1 ∷ []) (1 ∷ []) ∷ []))
    ((event.Begin (l 161) 2, body.Began (l 161) kind.Top (u 2 1 1) None ∷ []) ∷ (event.Crash 2, body.Halted 2 ∷ [])
    ∷ (event.Restart 2, body.Up 2 2 ∷ body.Sent 1 2 1 frame.Hello ∷ []) ∷ (event.Deliver (Number 1), body.Got 1 ∷ [])
    ∷ (
      event.Show 3,
      body.Entry 3 0 (1 ∷ []) (1 ∷ 2 ∷ []) ∷ body.Copy 1 3 0 (u 0 0 0) (0 ∷ 0 ∷ 0 ∷ 0 ∷ 0 ∷ 0 ∷ 0 ∷ 0 ∷ 0 ∷ 0 ∷ 0 ∷ 0 ∷ 0 ∷ 0 ∷ 0 ∷ 6
          ∷ []) ∷ body.Copy 2 3 0 (u 0 0 0) (0 ∷ 0 ∷ 0 ∷ 0 ∷ 0 ∷ 0 ∷ 0 ∷ 0 ∷ 0 ∷ 0 ∷ 0 ∷ 0 ∷ 0 ∷ 0 ∷ 0 ∷ 6 ∷ []) ∷ [],
    ) ∷ (event.Settle, []) ∷ (event.Begin (l 165) 2, body.Began (l 165) kind.Top (u 2 2 1) None ∷ [])
    ∷ (event.Begin (l 162) 1, body.Began (l 162) kind.Top (u 1 1 1) None ∷ [])
    ∷ (event.Include (l 162) 1 1, body.Granted 1 (u 1 1 1) (u 0 1 1) Write ∷ body.Includes (l 162) 1 1 ∷ []) ∷ (event.Settle, [])
    ∷ (
      event.Commit (l 162),
      body.Committing (l 162) ∷ body.Prepared 1 (u 1 1 1) role.Store ∷ body.Aborted (l 162) (cause.Listed 1 1)
          ∷ body.Done 1 (u 1 1 1) role.Store Abort ∷ body.Told 1 (u 1 1 1) Abort part.Naming ∷ [],
    ) ∷ (event.Settle, []) ∷ (event.Abort (l 165), body.Aborted (l 165) cause.Asked ∷ []) ∷ (event.Settle, [])
    ∷ (event.Begin (l 166) 1, body.Began (l 166) kind.Top (u 1 1 2) None ∷ [])
    ∷ (
      event.Call (l 166) 3 (op.Remove 5),
      body.Granted 1 (u 1 1 2) (u 0 1 3) Write ∷ body.Bound 3 (b 1 1) 1 ∷ body.Active 1 3 (b 1 1) ∷ body.Lowered 1 (u 1 1 2) (u 0 1 3)
          ∷ body.Granted 1 (u 1 1 2) (u 0 0 3) Write ∷ body.Ok (l 166) 3 (op.Remove 5) (codes "none") ∷ [],
    ) ∷ (event.Include (l 166) 1 2, body.Granted 1 (u 1 1 2) (u 0 1 1) Write ∷ body.Includes (l 166) 1 2 ∷ [])
    ∷ (event.Call (l 166) 3 (op.PutPair 12 1), body.Ok (l 166) 3 (op.PutPair 12 1) (codes "done") ∷ []) ∷ (event.Settle, [])
    ∷ (
      event.Abort (l 166),
      body.Aborted (l 166) cause.Asked ∷ body.Told 1 (u 1 1 2) Abort part.Naming ∷ body.Told 1 (u 1 1 2) Abort part.Server ∷ [],
    ) ∷ (event.Tick 1, []) ∷ (event.Deliver (Number 1), body.Got 1 ∷ []) ∷ (event.Tick 1, [])
    ∷ (event.Show 1, body.Entry 1 0 (2 ∷ 1 ∷ []) (1 ∷ []) ∷ body.Copy 1 1 0 (u 0 0 0) (217 ∷ []) ∷ [])
    ∷ (event.Begin (l 169) 2, body.Began (l 169) kind.Top (u 2 2 2) None ∷ []) ∷ (event.Deliver (Number 1), body.Got 1 ∷ [])
    ∷ (event.Commit (l 169), body.Committing (l 169) ∷ body.Committed (l 169) ∷ [])
    ∷ (event.Show 1, body.Entry 1 0 (2 ∷ 1 ∷ []) (1 ∷ []) ∷ body.Copy 1 1 0 (u 0 0 0) (217 ∷ []) ∷ []) ∷ (event.Settle, [])
    ∷ (event.Begin (l 170) 2, body.Began (l 170) kind.Top (u 2 2 3) None ∷ []) ∷ (event.Tick 1, [])
    ∷ (event.Call (l 170) 1 op.Get, body.Sent 2 2 1 frame.Bind ∷ []) ∷ (event.Call (l 170) 3 (op.PutPair 17 2), body.Refused 7 ∷ [])
    ∷ (
      event.Deliver (Number 2),
      body.Got 2 ∷ body.Granted 1 (u 2 2 3) (u 0 1 1) Write ∷ body.Bound 1 (b 1 2) 2 ∷ body.Sent 3 1 2 frame.Bound ∷ [],
    ) ∷ (event.Deliver (Number 3), body.Got 3 ∷ body.Sent 4 2 1 frame.Load ∷ [])
    ∷ (event.Deliver (Number 4), body.Got 4 ∷ body.Sent 5 1 2 frame.Loaded ∷ [])
    ∷ (event.Deliver (Number 5), body.Got 5 ∷ body.Active 2 1 (b 1 2) ∷ body.Sent 6 2 1 frame.Record ∷ [])
    ∷ (event.Lose (Number 6), body.Dropped 6 ∷ []) ∷ (event.GiveUp (l 170), body.GaveUp (l 170) 1 ∷ body.Lost (l 170) 1 ∷ [])
    ∷ (event.Call (l 170) 3 (op.PutPair 1 0), body.Sent 7 2 1 frame.Bind ∷ [])
    ∷ (event.Deliver (Number 7), body.Got 7 ∷ body.Granted 1 (u 2 2 3) (u 0 1 3) Read ∷ body.Sent 8 1 2 frame.Bound ∷ [])
    ∷ (event.Deliver (Number 8), body.Got 8 ∷ body.Sent 9 2 1 frame.Invoke ∷ [])
    ∷ (event.Deliver (Number 9), body.Got 9 ∷ body.Granted 1 (u 2 2 3) (u 0 0 3) Write ∷ body.Sent 10 1 2 frame.Invoked ∷ [])
    ∷ (event.Deliver (Number 10), body.Got 10 ∷ body.Ok (l 170) 3 (op.PutPair 1 0) (codes "done") ∷ [])
    ∷ (event.Deliver (Number 6), body.Got 6 ∷ body.Lowered 1 (u 2 2 3) (u 0 1 1) ∷ body.Sent 11 1 2 frame.Recorded ∷ [])
    ∷ (event.Settle, body.Void 11 ∷ []) ∷ (event.Commit (l 170), body.Committing (l 170) ∷ body.Sent 12 2 1 frame.Vote ∷ [])
    ∷ (event.Deliver (Number 12), body.Got 12 ∷ body.Sent 13 1 2 frame.Voted ∷ []) ∷ (event.Tick 1, body.Sent 14 1 2 frame.Query ∷ [])
    ∷ (event.Deliver (Number 8), body.Void 8 ∷ [])
    ∷ (event.GiveUp (l 170), body.GaveUp (l 170) 1 ∷ body.Aborted (l 170) (cause.Lost 1) ∷ body.Sent 15 2 1 frame.Told ∷ [])
    ∷ (event.Serial (l 173) 2, body.Began (l 173) kind.Serial (u 2 2 4) None ∷ []) ∷ (event.Deliver (Number 13), body.Void 13 ∷ [])
    ∷ (event.Deliver (Number 15), body.Got 15 ∷ body.Told 1 (u 2 2 3) Abort part.Naming ∷ body.Told 1 (u 2 2 3) Abort part.Server ∷ [])
    ∷ (event.Crash 1, body.Halted 1 ∷ []) ∷ (event.Deliver (Number 14), body.Got 14 ∷ body.Sent 16 2 1 frame.Told ∷ [])
    ∷ (event.Deliver (Number 16), body.Void 16 ∷ []) ∷ (event.Restart 1, body.Up 1 2 ∷ body.Sent 17 1 2 frame.Hello ∷ [])
    ∷ (event.Deliver (Number 17), body.Got 17 ∷ []) ∷ (event.Begin (l 174) 1, body.Began (l 174) kind.Top (u 1 2 1) None ∷ [])
    ∷ (
      event.Call (l 174) 1 (op.Put []),
      body.Granted 1 (u 1 2 1) (u 0 1 1) Write ∷ body.Bound 1 (b 2 1) 2 ∷ body.Sent 18 1 2 frame.Activate ∷ [],
    ) ∷ (event.Deliver (Number 18), body.Got 18 ∷ body.Active 2 1 (b 2 1) ∷ body.Sent 19 2 1 frame.Activated ∷ [])
    ∷ (event.Crash 2, body.Halted 2 ∷ [])
    ∷ (event.Deliver (Number 19), body.Got 19 ∷ body.Lowered 1 (u 1 2 1) (u 0 1 1) ∷ body.Sent 20 1 2 frame.Invoke ∷ [])
    ∷ (event.Restart 2, body.Up 2 3 ∷ body.Sent 21 2 1 frame.Hello ∷ [])
    ∷ (
      event.Settle,
      body.Got 20 ∷ body.Sent 22 2 1 frame.Invoked ∷ body.Got 21 ∷ body.Got 22 ∷ body.Changed (l 174) 2 (difference.Inc 2 3) ∷ [],
    )
    ∷ (
      event.Call (l 174) 1 (op.Put (154 ∷ [])),
      body.Granted 1 (u 1 2 1) (u 0 1 1) Write ∷ body.Bound 1 (b 2 2) 1 ∷ body.Active 1 1 (b 2 2) ∷ body.Lowered 1 (u 1 2 1) (u 0 1 1)
          ∷ body.Granted 1 (u 1 2 1) (u 0 0 1) Write ∷ body.Ok (l 174) 1 (op.Put (154 ∷ [])) (codes "done") ∷ [],
    ) ∷ (event.Serial (l 175) 1, body.Began (l 175) kind.Serial (u 1 2 2) None ∷ []) ∷ (event.Tick 2, [])
    ∷ (event.Call (l 174) 1 (op.Put (192 ∷ 165 ∷ [])), body.Ok (l 174) 1 (op.Put (192 ∷ 165 ∷ [])) (codes "done") ∷ [])
    ∷ (event.Stop 2 16 stop.Undone, body.Armed 2 ∷ [])
    ∷ (
      event.Commit (l 174),
      body.Committing (l 174) ∷ body.Prepared 1 (u 1 2 1) role.Store ∷ body.Committed (l 174) ∷ body.Sent 23 1 2 frame.Told
          ∷ body.Done 1 (u 1 2 1) role.Store Commit ∷ body.Told 1 (u 1 2 1) Commit part.Naming
          ∷ body.Told 1 (u 1 2 1) Commit part.Server ∷ [],
    ) ∷ (event.Deliver (Number 23), body.Got 23 ∷ []) ∷ (event.Begin (l 176) 2, body.Began (l 176) kind.Top (u 2 3 1) None ∷ [])
    ∷ (event.Include (l 176) 1 2, body.Sent 24 2 1 frame.Bind ∷ [])
    ∷ (event.Serial (l 177) 1, body.Began (l 177) kind.Serial (u 1 2 3) None ∷ [])
    ∷ (event.Deliver (Number 24), body.Got 24 ∷ body.Granted 1 (u 2 3 1) (u 0 1 1) Write ∷ body.Sent 25 1 2 frame.Bound ∷ [])
    ∷ (event.Stop 2 3 stop.Undone, body.Armed 2 ∷ []) ∷ (event.Deliver (Number 25), body.Got 25 ∷ body.Sent 26 2 1 frame.Load ∷ [])
    ∷ (event.Deliver (Number 26), body.Got 26 ∷ body.Sent 27 1 2 frame.Loaded ∷ [])
    ∷ (event.Deliver (Number 27), body.Got 27 ∷ body.Includes (l 176) 1 2 ∷ [])
    ∷ (event.Abort (l 175), body.Aborted (l 175) cause.Asked ∷ [])
    ∷ (event.Abort (l 176), body.Aborted (l 176) cause.Asked ∷ body.Sent 28 2 1 frame.Told ∷ [])
    ∷ (event.Commit (l 177), body.Ended (l 177) ∷ []) ∷ (event.Abort (l 177), body.Refused 6 ∷ [])
    ∷ (event.Settle, body.Got 28 ∷ body.Told 1 (u 2 3 1) Abort part.Naming ∷ [])
    ∷ (event.Begin (l 178) 1, body.Began (l 178) kind.Top (u 1 2 4) None ∷ [])
    ∷ (
      event.Call (l 178) 1 (op.Put (232 ∷ 80 ∷ [])),
      body.Granted 1 (u 1 2 4) (u 0 1 1) Read ∷ body.Granted 1 (u 1 2 4) (u 0 0 1) Write ∷ body.Ok (l 178) 1 (op.Put (232 ∷ 80
          ∷ [])) (codes "done") ∷ [],
    ) ∷ (event.Settle, [])
    ∷ (
      event.Commit (l 178),
      body.Committing (l 178) ∷ body.Prepared 1 (u 1 2 4) role.Store ∷ body.Committed (l 178) ∷ body.Done 1 (u 1 2 4) role.Store Commit
          ∷ body.Told 1 (u 1 2 4) Commit part.Naming ∷ body.Told 1 (u 1 2 4) Commit part.Server ∷ [],
    ) ∷ (event.Settle, []) ∷ (event.Serial (l 181) 2, body.Began (l 181) kind.Serial (u 2 3 2) None ∷ [])
    ∷ (event.Abort (l 181), body.Aborted (l 181) cause.Asked ∷ []) ∷ (event.Deliver (Number 27), body.Void 27 ∷ [])
    ∷ (event.Deliver (Number 20), body.Void 20 ∷ []) ∷ (event.Begin (l 182) 1, body.Began (l 182) kind.Top (u 1 2 5) None ∷ [])
    ∷ (
      event.Call (l 182) 1 (op.Put (230 ∷ [])),
      body.Granted 1 (u 1 2 5) (u 0 1 1) Read ∷ body.Granted 1 (u 1 2 5) (u 0 0 1) Write ∷ body.Ok (l 182) 1 (op.Put (230
          ∷ [])) (codes "done") ∷ [],
    ) ∷ (event.Include (l 182) 1 2, body.Granted 1 (u 1 2 5) (u 0 1 1) Write ∷ body.Includes (l 182) 1 2 ∷ [])
    ∷ (
      event.Abort (l 182),
      body.Aborted (l 182) cause.Asked ∷ body.Told 1 (u 1 2 5) Abort part.Naming ∷ body.Told 1 (u 1 2 5) Abort part.Server ∷ [],
    ) ∷ (event.Deliver (Number 18), body.Void 18 ∷ []) ∷ (event.Begin (l 183) 1, body.Began (l 183) kind.Top (u 1 2 6) None ∷ [])
    ∷ (event.Serial (l 184) 1, body.Began (l 184) kind.Serial (u 1 2 7) None ∷ [])
    ∷ (event.Include (l 183) 1 2, body.Granted 1 (u 1 2 6) (u 0 1 1) Write ∷ body.Includes (l 183) 1 2 ∷ [])
    ∷ (event.Commit (l 183), body.Committing (l 183) ∷ body.Sent 29 1 2 frame.Prepare ∷ [])
    ∷ (event.Begin (l 185) 1, body.Began (l 185) kind.Top (u 1 2 8) None ∷ [])
    ∷ (event.Deliver (Number 29), body.Got 29 ∷ body.Halted 2 ∷ [])
    ∷ (event.Call (l 185) 1 (op.Put (104 ∷ 127 ∷ 24 ∷ 159 ∷ [])), body.Conflict (l 185) (u 1 2 6) Write 1 ∷ [])
    ∷ (event.Restart 2, body.Up 2 4 ∷ body.Sent 30 2 1 frame.Hello ∷ []) ∷ (event.Deliver (Number 30), body.Got 30 ∷ [])
    ∷ (event.Abort (l 185), body.Aborted (l 185) cause.Asked ∷ [])
    ∷ (
      event.Quiesce,
      body.Sent 31 1 2 frame.Prepare ∷ body.Got 31 ∷ body.Prepared 2 (u 1 2 6) role.Store ∷ body.Sent 32 2 1 frame.Prepared
          ∷ body.Got 32 ∷ body.Prepared 1 (u 1 2 6) role.Names ∷ body.Committed (l 183) ∷ body.Sent 33 1 2 frame.Told
          ∷ body.Done 1 (u 1 2 6) role.Names Commit ∷ body.Told 1 (u 1 2 6) Commit part.Naming ∷ body.Got 33
          ∷ body.Done 2 (u 1 2 6) role.Store Commit ∷ body.Sent 34 2 1 frame.Acked ∷ body.Got 34 ∷ body.Quiet true ∷ [],
    ) ∷ (event.Abort (l 184), body.Aborted (l 184) cause.Asked ∷ []) ∷ (event.Deliver (Number 5), body.Void 5 ∷ [])
    ∷ (
      event.Show 1,
      body.Entry 1 1 (2 ∷ 1 ∷ []) (1 ∷ 2 ∷ []) ∷ body.Copy 1 1 2 (u 1 2 4) (232 ∷ 80 ∷ []) ∷ body.Copy 2 1 2 (u 1 2 4) (232 ∷ 80 ∷ [])
          ∷ [],
    ) ∷ (event.Begin (l 186) 1, body.Began (l 186) kind.Top (u 1 2 9) None ∷ [])
    ∷ (
      event.Call (l 186) 1 op.Get,
      body.Granted 1 (u 1 2 9) (u 0 1 1) Read ∷ body.Granted 1 (u 1 2 9) (u 0 0 1) Read ∷ body.Ok (l 186) 1 op.Get (codes "e850") ∷ [],
    )
    ∷ (
      event.Call (l 186) 3 (op.PutPair 8 4),
      body.Granted 1 (u 1 2 9) (u 0 1 3) Write ∷ body.Bound 3 (b 2 3) 1 ∷ body.Active 1 3 (b 2 3) ∷ body.Lowered 1 (u 1 2 9) (u 0 1 3)
          ∷ body.Granted 1 (u 1 2 9) (u 0 0 3) Write ∷ body.Ok (l 186) 3 (op.PutPair 8 4) (codes "done") ∷ [],
    ) ∷ (event.Begin (l 187) 1, body.Began (l 187) kind.Top (u 1 2 10) None ∷ [])
    ∷ (event.Commit (l 186), body.Committing (l 186) ∷ body.Sent 35 1 2 frame.Prepare ∷ body.Prepared 1 (u 1 2 9) role.Store ∷ [])
    ∷ (event.Deliver (Number 35), body.Got 35 ∷ body.Prepared 2 (u 1 2 9) role.Store ∷ body.Sent 36 2 1 frame.Prepared ∷ [])
    ∷ (event.Deliver (Number 35), body.Got 35 ∷ body.Sent 37 2 1 frame.Prepared ∷ [])
    ∷ (
      event.Deliver (Number 36),
      body.Got 36 ∷ body.Committed (l 186) ∷ body.Sent 38 1 2 frame.Told ∷ body.Done 1 (u 1 2 9) role.Store Commit
          ∷ body.Told 1 (u 1 2 9) Commit part.Naming ∷ body.Told 1 (u 1 2 9) Commit part.Server ∷ [],
    ) ∷ (event.Deliver (Number 37), body.Void 37 ∷ [])
    ∷ (
      event.Call (l 187) 1 (op.Put (148 ∷ 195 ∷ [])),
      body.Granted 1 (u 1 2 10) (u 0 1 1) Read ∷ body.Granted 1 (u 1 2 10) (u 0 0 1) Write ∷ body.Ok (l 187) 1 (op.Put (148 ∷ 195
          ∷ [])) (codes "done") ∷ [],
    ) ∷ (event.Commit (l 187), body.Committing (l 187) ∷ body.Sent 39 1 2 frame.Prepare ∷ body.Prepared 1 (u 1 2 10) role.Store ∷ [])
    ∷ (event.Deliver (Number 38), body.Got 38 ∷ body.Done 2 (u 1 2 9) role.Store Commit ∷ body.Sent 40 2 1 frame.Acked ∷ [])
    ∷ (event.Serial (l 188) 2, body.Began (l 188) kind.Serial (u 2 4 1) None ∷ [])
    ∷ (event.Deliver (Number 33), body.Got 33 ∷ body.Sent 41 2 1 frame.Acked ∷ [])
    ∷ (
      event.Settle,
      body.Got 39 ∷ body.Prepared 2 (u 1 2 10) role.Store ∷ body.Sent 42 2 1 frame.Prepared ∷ body.Got 40 ∷ body.Void 41 ∷ body.Got 42
          ∷ body.Committed (l 187) ∷ body.Sent 43 1 2 frame.Told ∷ body.Done 1 (u 1 2 10) role.Store Commit
          ∷ body.Told 1 (u 1 2 10) Commit part.Naming ∷ body.Told 1 (u 1 2 10) Commit part.Server ∷ body.Got 43
          ∷ body.Done 2 (u 1 2 10) role.Store Commit ∷ body.Sent 44 2 1 frame.Acked ∷ body.Got 44 ∷ [],
    ) ∷ (event.Deliver (Number 15), body.Got 15 ∷ []) ∷ (event.Begin (l 189) 1, body.Began (l 189) kind.Top (u 1 2 11) None ∷ [])
    ∷ (event.Serial (l 190) 2, body.Began (l 190) kind.Serial (u 2 4 2) None ∷ [])
    ∷ (
      event.Call (l 189) 1 (op.Put (41 ∷ [])),
      body.Granted 1 (u 1 2 11) (u 0 1 1) Read ∷ body.Granted 1 (u 1 2 11) (u 0 0 1) Write ∷ body.Ok (l 189) 1 (op.Put (41
          ∷ [])) (codes "done") ∷ [],
    ) ∷ (event.Stop 1 1 (stop.Torn (149 ∷ 122 ∷ 232 ∷ [])), body.Armed 1 ∷ [])
    ∷ (event.Commit (l 189), body.Committing (l 189) ∷ body.Sent 45 1 2 frame.Prepare ∷ body.Halted 1 ∷ [])
    ∷ (event.Deliver (Number 45), body.Got 45 ∷ body.Prepared 2 (u 1 2 11) role.Store ∷ body.Sent 46 2 1 frame.Prepared ∷ [])
    ∷ (event.Deliver (Number 46), body.Void 46 ∷ []) ∷ (event.Restart 1, body.Up 1 3 ∷ body.Sent 47 1 2 frame.Hello ∷ [])
    ∷ (event.Deliver (Number 47), body.Got 47 ∷ body.Sent 48 2 1 frame.Query ∷ [])
    ∷ (event.Deliver (Number 48), body.Got 48 ∷ body.Sent 49 1 2 frame.Told ∷ [])
    ∷ (event.Deliver (Number 49), body.Got 49 ∷ body.Done 2 (u 1 2 11) role.Store Abort ∷ [])
    ∷ (event.Abort (l 188), body.Aborted (l 188) cause.Asked ∷ [])
    ∷ (
      event.Show 2,
      body.Entry 2 0 (2 ∷ 1 ∷ []) (1 ∷ 2 ∷ []) ∷ body.Copy 1 2 0 (u 0 0 0) (0 ∷ 0 ∷ 0 ∷ 0 ∷ 0 ∷ 0 ∷ 0 ∷ 1 ∷ [])
          ∷ body.Copy 2 2 0 (u 0 0 0) (0 ∷ 0 ∷ 0 ∷ 0 ∷ 0 ∷ 0 ∷ 0 ∷ 1 ∷ []) ∷ [],
    ) ∷ (event.Tick 2, []) ∷ (event.Begin (l 191) 1, body.Began (l 191) kind.Top (u 1 3 1) None ∷ [])
    ∷ (
      event.Call (l 191) 4 (op.PutPair 3 0),
      body.Granted 1 (u 1 3 1) (u 0 1 4) Write ∷ body.Bound 4 (b 3 1) 2 ∷ body.Sent 50 1 2 frame.Activate ∷ [],
    ) ∷ (event.Begin (l 192) 1, body.Began (l 192) kind.Top (u 1 3 2) None ∷ [])
    ∷ (event.Deliver (Number 50), body.Got 50 ∷ body.Active 2 4 (b 3 1) ∷ body.Sent 51 2 1 frame.Activated ∷ [])
    ∷ (
      event.Call (l 192) 3 (op.PutPair 15 3),
      body.Granted 1 (u 1 3 2) (u 0 1 3) Write ∷ body.Bound 3 (b 3 2) 1 ∷ body.Active 1 3 (b 3 2) ∷ body.Lowered 1 (u 1 3 2) (u 0 1 3)
          ∷ body.Granted 1 (u 1 3 2) (u 0 0 3) Write ∷ body.Ok (l 192) 3 (op.PutPair 15 3) (codes "done") ∷ [],
    ) ∷ (event.Call (l 192) 3 (op.Remove 6), body.Ok (l 192) 3 (op.Remove 6) (codes "none") ∷ []) ∷ [])

full_3_follows : is_followed full_3 ≡ true
full_3_follows = refl

full_3_has_causes : lacking full_3 ≡ []
full_3_has_causes = refl

abbrev full_4 : Run
full_4 = run
    (nodes 4 (object_line 1 (value.Queue (1 ∷ 0 ∷ 4 ∷ 7 ∷ 1 ∷ 4 ∷ 1 ∷ 1 ∷ 8 ∷ 3 ∷ 1 ∷ 4 ∷ 7 ∷ 8 ∷ 6 ∷ 8 ∷ 6 ∷ 5 ∷ 2 ∷ 0 ∷ 0 ∷ 2 ∷ 4 ∷ 0
    ∷ 6 ∷ 3 ∷ 6 ∷ 7 ∷ 3 ∷ 6 ∷ 6 ∷ [])) (2 ∷ 1 ∷ []) (3 ∷ 2 ∷ 1 ∷ [])
    ∷ []))
    ((event.Settle, []) ∷ (event.Begin (l 161) 3, body.Began (l 161) kind.Top (u 3 1 1) None ∷ [])
    ∷ (event.Call (l 161) 1 (op.Push 4), body.Sent 1 3 1 frame.Bind ∷ [])
    ∷ (
      event.Settle,
      body.Got 1 ∷ body.Granted 1 (u 3 1 1) (u 0 1 1) Write ∷ body.Bound 1 (b 1 1) 2 ∷ body.Sent 2 1 3 frame.Bound ∷ body.Got 2
          ∷ body.Sent 3 3 2 frame.Activate ∷ body.Got 3 ∷ body.Active 2 1 (b 1 1) ∷ body.Sent 4 2 3 frame.Activated ∷ body.Got 4
          ∷ body.Sent 5 3 1 frame.Record ∷ body.Got 5 ∷ body.Lowered 1 (u 3 1 1) (u 0 1 1) ∷ body.Sent 6 1 3 frame.Recorded ∷ body.Got 6
          ∷ body.Sent 7 3 2 frame.Invoke ∷ body.Got 7 ∷ body.Granted 2 (u 3 1 1) (u 0 0 1) Write ∷ body.Sent 8 2 3 frame.Invoked
          ∷ body.Got 8 ∷ body.Ok (l 161) 1 (op.Push 4) (codes "done") ∷ [],
    ) ∷ (event.Commit (l 161), body.Committing (l 161) ∷ body.Sent 9 3 2 frame.Vote ∷ [])
    ∷ (event.Deliver (Number 9), body.Got 9 ∷ body.Sent 10 2 3 frame.Voted ∷ [])
    ∷ (
      event.Deliver (Number 10),
      body.Got 10 ∷ body.Sent 11 3 1 frame.Prepare ∷ body.Sent 12 3 2 frame.Prepare ∷ body.Prepared 3 (u 3 1 1) role.Store ∷ [],
    ) ∷ (event.Stop 3 2 stop.Done, body.Armed 3 ∷ [])
    ∷ (
      event.Settle,
      body.Got 11 ∷ body.Prepared 1 (u 3 1 1) role.Store ∷ body.Sent 13 1 3 frame.Prepared ∷ body.Got 12
          ∷ body.Prepared 2 (u 3 1 1) role.Store ∷ body.Sent 14 2 3 frame.Prepared ∷ body.Got 13 ∷ body.Got 14
          ∷ body.Sent 15 3 1 frame.Confirm ∷ body.Got 15 ∷ body.Sent 16 1 3 frame.Confirmed ∷ body.Got 16 ∷ body.Halted 3 ∷ [],
    )
    ∷ (
      event.Restart 3,
      body.Up 3 2 ∷ body.Recovered 3 (u 3 1 1) ∷ body.Sent 17 3 1 frame.Told ∷ body.Sent 18 3 2 frame.Told
          ∷ body.Sent 19 3 1 frame.Hello ∷ body.Sent 20 3 2 frame.Hello ∷ body.Sent 21 3 4 frame.Hello
          ∷ body.Done 3 (u 3 1 1) role.Store Commit ∷ [],
    )
    ∷ (
      event.Quiesce,
      body.Got 17 ∷ body.Done 1 (u 3 1 1) role.Store Commit ∷ body.Told 1 (u 3 1 1) Commit part.Naming ∷ body.Sent 22 1 3 frame.Acked
          ∷ body.Got 18 ∷ body.Done 2 (u 3 1 1) role.Store Commit ∷ body.Told 2 (u 3 1 1) Commit part.Server
          ∷ body.Sent 23 2 3 frame.Acked ∷ body.Got 19 ∷ body.Got 20 ∷ body.Got 21 ∷ body.Got 22 ∷ body.Got 23 ∷ body.Quiet true ∷ [],
    ) ∷ (event.Deliver (Number 5), body.Void 5 ∷ []) ∷ (event.Deliver (Number 11), body.Void 11 ∷ [])
    ∷ (event.Stop 1 6 stop.Undone, body.Armed 1 ∷ []) ∷ (event.Settle, [])
    ∷ (event.Begin (l 164) 4, body.Began (l 164) kind.Top (u 4 1 1) None ∷ [])
    ∷ (event.Commit (l 164), body.Committing (l 164) ∷ body.Committed (l 164) ∷ [])
    ∷ (event.Begin (l 167) 2, body.Began (l 167) kind.Top (u 2 1 1) None ∷ []) ∷ (event.Call (l 164) 1 op.Pop, body.Refused 6 ∷ [])
    ∷ (event.Settle, []) ∷ (event.Call (l 164) 1 (op.Push 1), body.Refused 6 ∷ []) ∷ (event.Tick 4, []) ∷ (event.Settle, [])
    ∷ (event.Call (l 164) 1 op.Pop, body.Refused 6 ∷ []) ∷ (event.Settle, []) ∷ (event.Settle, [])
    ∷ (event.Commit (l 164), body.Refused 6 ∷ []) ∷ (event.Begin (l 168) 1, body.Began (l 168) kind.Top (u 1 1 1) None ∷ [])
    ∷ (event.Call (l 168) 1 op.Len, body.Granted 1 (u 1 1 1) (u 0 1 1) Read ∷ body.Sent 24 1 2 frame.Invoke ∷ [])
    ∷ (event.Include (l 167) 1 3, body.Sent 25 2 1 frame.Bind ∷ [])
    ∷ (event.Deliver (Number 24), body.Got 24 ∷ body.Granted 2 (u 1 1 1) (u 0 0 1) Read ∷ body.Sent 26 2 1 frame.Invoked ∷ [])
    ∷ (event.Deliver (Number 16), body.Void 16 ∷ []) ∷ (event.Deliver (Number 25), body.Got 25 ∷ body.Sent 27 1 2 frame.Bound ∷ [])
    ∷ (event.Deliver (Number 27), body.Got 27 ∷ body.Conflict (l 167) (u 1 1 1) Read 1 ∷ [])
    ∷ (event.Abort (l 167), body.Aborted (l 167) cause.Asked ∷ body.Sent 28 2 1 frame.Told ∷ [])
    ∷ (event.Begin (l 169) 1, body.Began (l 169) kind.Top (u 1 1 2) None ∷ []) ∷ (event.Lose (Number 26), body.Dropped 26 ∷ [])
    ∷ (event.Call (l 169) 1 op.Len, body.Granted 1 (u 1 1 2) (u 0 1 1) Read ∷ body.Sent 29 1 2 frame.Invoke ∷ [])
    ∷ (event.Begin (l 170) 3, body.Began (l 170) kind.Top (u 3 2 1) None ∷ []) ∷ (event.Deliver (Number 28), body.Got 28 ∷ [])
    ∷ (event.Call (l 170) 1 (op.Push 4), body.Sent 30 3 1 frame.Bind ∷ [])
    ∷ (event.Deliver (Number 29), body.Got 29 ∷ body.Granted 2 (u 1 1 2) (u 0 0 1) Read ∷ body.Sent 31 2 1 frame.Invoked ∷ [])
    ∷ (event.Deliver (Number 30), body.Got 30 ∷ body.Granted 1 (u 3 2 1) (u 0 1 1) Read ∷ body.Sent 32 1 3 frame.Bound ∷ [])
    ∷ (
      event.Settle,
      body.Got 31 ∷ body.Ok (l 169) 1 op.Len (codes "32") ∷ body.Got 32 ∷ body.Sent 33 3 2 frame.Invoke ∷ body.Got 33
          ∷ body.Sent 34 2 3 frame.Invoked ∷ body.Got 34 ∷ body.Conflict (l 170) (u 1 1 1) Read 2 ∷ [],
    ) ∷ (event.Begin (l 171) 2, body.Began (l 171) kind.Top (u 2 1 2) None ∷ [])
    ∷ (event.Call (l 171) 1 (op.Push 3), body.Sent 35 2 1 frame.Bind ∷ [])
    ∷ (
      event.Settle,
      body.Got 35 ∷ body.Granted 1 (u 2 1 2) (u 0 1 1) Read ∷ body.Sent 36 1 2 frame.Bound ∷ body.Got 36
          ∷ body.Conflict (l 171) (u 1 1 1) Read 2 ∷ [],
    ) ∷ (event.Commit (l 171), body.Committing (l 171) ∷ body.Committed (l 171) ∷ body.Sent 37 2 1 frame.Told ∷ [])
    ∷ (event.Settle, body.Got 37 ∷ body.Told 1 (u 2 1 2) Abort part.Naming ∷ [])
    ∷ (event.BeginIn (l 174) (l 170), body.Began (l 174) kind.Nested (u 3 2 2) (Some (l 170)) ∷ [])
    ∷ (event.Call (l 169) 1 op.Pop, body.Sent 38 1 2 frame.Invoke ∷ [])
    ∷ (event.Deliver (Number 38), body.Got 38 ∷ body.Sent 39 2 1 frame.Invoked ∷ [])
    ∷ (event.GiveUp (l 169), body.GaveUp (l 169) 2 ∷ body.Lost (l 169) 2 ∷ [])
    ∷ (
      event.Show 1,
      body.Entry 1 0 (2 ∷ 1 ∷ []) (3 ∷ 2 ∷ 1 ∷ []) ∷ body.Copy 1 1 1 (u 3 1 1) (0 ∷ 0 ∷ 0 ∷ 0 ∷ 0 ∷ 0 ∷ 0 ∷ 1 ∷ 0 ∷ 0 ∷ 0 ∷ 0 ∷ 0 ∷ 0
          ∷ 0 ∷ 0 ∷ 0 ∷ 0 ∷ 0 ∷ 0 ∷ 0 ∷ 0 ∷ 0 ∷ 4 ∷ 0 ∷ 0 ∷ 0 ∷ 0 ∷ 0 ∷ 0 ∷ 0 ∷ 7 ∷ 0 ∷ 0 ∷ 0 ∷ 0 ∷ 0 ∷ 0 ∷ 0 ∷ 1 ∷ 0 ∷ 0 ∷ 0 ∷ 0 ∷ 0
          ∷ 0 ∷ 0 ∷ 4 ∷ 0 ∷ 0 ∷ 0 ∷ 0 ∷ 0 ∷ 0 ∷ 0 ∷ 1 ∷ 0 ∷ 0 ∷ 0 ∷ 0 ∷ 0 ∷ 0 ∷ 0 ∷ 1 ∷ 0 ∷ 0 ∷ 0 ∷ 0 ∷ 0 ∷ 0 ∷ 0 ∷ 8 ∷ 0 ∷ 0 ∷ 0 ∷ 0
          ∷ 0 ∷ 0 ∷ 0 ∷ 3 ∷ 0 ∷ 0 ∷ 0 ∷ 0 ∷ 0 ∷ 0 ∷ 0 ∷ 1 ∷ 0 ∷ 0 ∷ 0 ∷ 0 ∷ 0 ∷ 0 ∷ 0 ∷ 4 ∷ 0 ∷ 0 ∷ 0 ∷ 0 ∷ 0 ∷ 0 ∷ 0 ∷ 7 ∷ 0 ∷ 0 ∷ 0
          ∷ 0 ∷ 0 ∷ 0 ∷ 0 ∷ 8 ∷ 0 ∷ 0 ∷ 0 ∷ 0 ∷ 0 ∷ 0 ∷ 0 ∷ 6 ∷ 0 ∷ 0 ∷ 0 ∷ 0 ∷ 0 ∷ 0 ∷ 0 ∷ 8 ∷ 0 ∷ 0 ∷ 0 ∷ 0 ∷ 0 ∷ 0 ∷ 0 ∷ 6 ∷ 0 ∷ 0
          ∷ 0 ∷ 0 ∷ 0 ∷ 0 ∷ 0 ∷ 5 ∷ 0 ∷ 0 ∷ 0 ∷ 0 ∷ 0 ∷ 0 ∷ 0 ∷ 2 ∷ 0 ∷ 0 ∷ 0 ∷ 0 ∷ 0 ∷ 0 ∷ 0 ∷ 0 ∷ 0 ∷ 0 ∷ 0 ∷ 0 ∷ 0 ∷ 0 ∷ 0 ∷ 0 ∷ 0
          ∷ 0 ∷ 0 ∷ 0 ∷ 0 ∷ 0 ∷ 0 ∷ 2 ∷ 0 ∷ 0 ∷ 0 ∷ 0 ∷ 0 ∷ 0 ∷ 0 ∷ 4 ∷ 0 ∷ 0 ∷ 0 ∷ 0 ∷ 0 ∷ 0 ∷ 0 ∷ 0 ∷ 0 ∷ 0 ∷ 0 ∷ 0 ∷ 0 ∷ 0 ∷ 0 ∷ 6
          ∷ 0 ∷ 0 ∷ 0 ∷ 0 ∷ 0 ∷ 0 ∷ 0 ∷ 3 ∷ 0 ∷ 0 ∷ 0 ∷ 0 ∷ 0 ∷ 0 ∷ 0 ∷ 6 ∷ 0 ∷ 0 ∷ 0 ∷ 0 ∷ 0 ∷ 0 ∷ 0 ∷ 7 ∷ 0 ∷ 0 ∷ 0 ∷ 0 ∷ 0 ∷ 0 ∷ 0
          ∷ 3 ∷ 0 ∷ 0 ∷ 0 ∷ 0 ∷ 0 ∷ 0 ∷ 0 ∷ 6 ∷ 0 ∷ 0 ∷ 0 ∷ 0 ∷ 0 ∷ 0 ∷ 0 ∷ 6 ∷ 0 ∷ 0 ∷ 0 ∷ 0 ∷ 0 ∷ 0 ∷ 0 ∷ 4 ∷ [])
          ∷ body.Copy 2 1 1 (u 3 1 1) (0 ∷ 0 ∷ 0 ∷ 0 ∷ 0 ∷ 0 ∷ 0 ∷ 1 ∷ 0 ∷ 0 ∷ 0 ∷ 0 ∷ 0 ∷ 0 ∷ 0 ∷ 0 ∷ 0 ∷ 0 ∷ 0 ∷ 0 ∷ 0 ∷ 0 ∷ 0 ∷ 4 ∷ 0
          ∷ 0 ∷ 0 ∷ 0 ∷ 0 ∷ 0 ∷ 0 ∷ 7 ∷ 0 ∷ 0 ∷ 0 ∷ 0 ∷ 0 ∷ 0 ∷ 0 ∷ 1 ∷ 0 ∷ 0 ∷ 0 ∷ 0 ∷ 0 ∷ 0 ∷ 0 ∷ 4 ∷ 0 ∷ 0 ∷ 0 ∷ 0 ∷ 0 ∷ 0 ∷ 0 ∷ 1
          ∷ 0 ∷ 0 ∷ 0 ∷ 0 ∷ 0 ∷ 0 ∷ 0 ∷ 1 ∷ 0 ∷ 0 ∷ 0 ∷ 0 ∷ 0 ∷ 0 ∷ 0 ∷ 8 ∷ 0 ∷ 0 ∷ 0 ∷ 0 ∷ 0 ∷ 0 ∷ 0 ∷ 3 ∷ 0 ∷ 0 ∷ 0 ∷ 0 ∷ 0 ∷ 0 ∷ 0
          ∷ 1 ∷ 0 ∷ 0 ∷ 0 ∷ 0 ∷ 0 ∷ 0 ∷ 0 ∷ 4 ∷ 0 ∷ 0 ∷ 0 ∷ 0 ∷ 0 ∷ 0 ∷ 0 ∷ 7 ∷ 0 ∷ 0 ∷ 0 ∷ 0 ∷ 0 ∷ 0 ∷ 0 ∷ 8 ∷ 0 ∷ 0 ∷ 0 ∷ 0 ∷ 0 ∷ 0
          ∷ 0 ∷ 6 ∷ 0 ∷ 0 ∷ 0 ∷ 0 ∷ 0 ∷ 0 ∷ 0 ∷ 8 ∷ 0 ∷ 0 ∷ 0 ∷ 0 ∷ 0 ∷ 0 ∷ 0 ∷ 6 ∷ 0 ∷ 0 ∷ 0 ∷ 0 ∷ 0 ∷ 0 ∷ 0 ∷ 5 ∷ 0 ∷ 0 ∷ 0 ∷ 0 ∷ 0
          ∷ 0 ∷ 0 ∷ 2 ∷ 0 ∷ 0 ∷ 0 ∷ 0 ∷ 0 ∷ 0 ∷ 0 ∷ 0 ∷ 0 ∷ 0 ∷ 0 ∷ 0 ∷ 0 ∷ 0 ∷ 0 ∷ 0 ∷ 0 ∷ 0 ∷ 0 ∷ 0 ∷ 0 ∷ 0 ∷ 0 ∷ 2 ∷ 0 ∷ 0 ∷ 0 ∷ 0
          ∷ 0 ∷ 0 ∷ 0 ∷ 4 ∷ 0 ∷ 0 ∷ 0 ∷ 0 ∷ 0 ∷ 0 ∷ 0 ∷ 0 ∷ 0 ∷ 0 ∷ 0 ∷ 0 ∷ 0 ∷ 0 ∷ 0 ∷ 6 ∷ 0 ∷ 0 ∷ 0 ∷ 0 ∷ 0 ∷ 0 ∷ 0 ∷ 3 ∷ 0 ∷ 0 ∷ 0
          ∷ 0 ∷ 0 ∷ 0 ∷ 0 ∷ 6 ∷ 0 ∷ 0 ∷ 0 ∷ 0 ∷ 0 ∷ 0 ∷ 0 ∷ 7 ∷ 0 ∷ 0 ∷ 0 ∷ 0 ∷ 0 ∷ 0 ∷ 0 ∷ 3 ∷ 0 ∷ 0 ∷ 0 ∷ 0 ∷ 0 ∷ 0 ∷ 0 ∷ 6 ∷ 0 ∷ 0
          ∷ 0 ∷ 0 ∷ 0 ∷ 0 ∷ 0 ∷ 6 ∷ 0 ∷ 0 ∷ 0 ∷ 0 ∷ 0 ∷ 0 ∷ 0 ∷ 4 ∷ []) ∷ body.Copy 3 1 1 (u 3 1 1) (0 ∷ 0 ∷ 0 ∷ 0 ∷ 0 ∷ 0 ∷ 0 ∷ 1 ∷ 0
          ∷ 0 ∷ 0 ∷ 0 ∷ 0 ∷ 0 ∷ 0 ∷ 0 ∷ 0 ∷ 0 ∷ 0 ∷ 0 ∷ 0 ∷ 0 ∷ 0 ∷ 4 ∷ 0 ∷ 0 ∷ 0 ∷ 0 ∷ 0 ∷ 0 ∷ 0 ∷ 7 ∷ 0 ∷ 0 ∷ 0 ∷ 0 ∷ 0 ∷ 0 ∷ 0 ∷ 1
          ∷ 0 ∷ 0 ∷ 0 ∷ 0 ∷ 0 ∷ 0 ∷ 0 ∷ 4 ∷ 0 ∷ 0 ∷ 0 ∷ 0 ∷ 0 ∷ 0 ∷ 0 ∷ 1 ∷ 0 ∷ 0 ∷ 0 ∷ 0 ∷ 0 ∷ 0 ∷ 0 ∷ 1 ∷ 0 ∷ 0 ∷ 0 ∷ 0 ∷ 0 ∷ 0 ∷ 0
          ∷ 8 ∷ 0 ∷ 0 ∷ 0 ∷ 0 ∷ 0 ∷ 0 ∷ 0 ∷ 3 ∷ 0 ∷ 0 ∷ 0 ∷ 0 ∷ 0 ∷ 0 ∷ 0 ∷ 1 ∷ 0 ∷ 0 ∷ 0 ∷ 0 ∷ 0 ∷ 0 ∷ 0 ∷ 4 ∷ 0 ∷ 0 ∷ 0 ∷ 0 ∷ 0 ∷ 0
          ∷ 0 ∷ 7 ∷ 0 ∷ 0 ∷ 0 ∷ 0 ∷ 0 ∷ 0 ∷ 0 ∷ 8 ∷ 0 ∷ 0 ∷ 0 ∷ 0 ∷ 0 ∷ 0 ∷ 0 ∷ 6 ∷ 0 ∷ 0 ∷ 0 ∷ 0 ∷ 0 ∷ 0 ∷ 0 ∷ 8 ∷ 0 ∷ 0 ∷ 0 ∷ 0 ∷ 0
          ∷ 0 ∷ 0 ∷ 6 ∷ 0 ∷ 0 ∷ 0 ∷ 0 ∷ 0 ∷ 0 ∷ 0 ∷ 5 ∷ 0 ∷ 0 ∷ 0 ∷ 0 ∷ 0 ∷ 0 ∷ 0 ∷ 2 ∷ 0 ∷ 0 ∷ 0 ∷ 0 ∷ 0 ∷ 0 ∷ 0 ∷ 0 ∷ 0 ∷ 0 ∷ 0 ∷ 0
          ∷ 0 ∷ 0 ∷ 0 ∷ 0 ∷ 0 ∷ 0 ∷ 0 ∷ 0 ∷ 0 ∷ 0 ∷ 0 ∷ 2 ∷ 0 ∷ 0 ∷ 0 ∷ 0 ∷ 0 ∷ 0 ∷ 0 ∷ 4 ∷ 0 ∷ 0 ∷ 0 ∷ 0 ∷ 0 ∷ 0 ∷ 0 ∷ 0 ∷ 0 ∷ 0 ∷ 0
          ∷ 0 ∷ 0 ∷ 0 ∷ 0 ∷ 6 ∷ 0 ∷ 0 ∷ 0 ∷ 0 ∷ 0 ∷ 0 ∷ 0 ∷ 3 ∷ 0 ∷ 0 ∷ 0 ∷ 0 ∷ 0 ∷ 0 ∷ 0 ∷ 6 ∷ 0 ∷ 0 ∷ 0 ∷ 0 ∷ 0 ∷ 0 ∷ 0 ∷ 7 ∷ 0 ∷ 0
          ∷ 0 ∷ 0 ∷ 0 ∷ 0 ∷ 0 ∷ 3 ∷ 0 ∷ 0 ∷ 0 ∷ 0 ∷ 0 ∷ 0 ∷ 0 ∷ 6 ∷ 0 ∷ 0 ∷ 0 ∷ 0 ∷ 0 ∷ 0 ∷ 0 ∷ 6 ∷ 0 ∷ 0 ∷ 0 ∷ 0 ∷ 0 ∷ 0 ∷ 0 ∷ 4 ∷ [])
          ∷ [],
    ) ∷ (event.Deliver (Number 39), body.Void 39 ∷ []) ∷ (event.Call (l 174) 1 (op.Push 3), body.Sent 40 3 2 frame.Invoke ∷ [])
    ∷ (event.Deliver (Number 40), body.Got 40 ∷ body.Sent 41 2 3 frame.Invoked ∷ [])
    ∷ (event.Settle, body.Got 41 ∷ body.Conflict (l 174) (u 1 1 1) Read 2 ∷ [])
    ∷ (event.Begin (l 175) 4, body.Began (l 175) kind.Top (u 4 1 2) None ∷ [])
    ∷ (event.Call (l 175) 1 (op.Push 2), body.Sent 42 4 1 frame.Bind ∷ [])
    ∷ (
      event.Settle,
      body.Got 42 ∷ body.Granted 1 (u 4 1 2) (u 0 1 1) Read ∷ body.Sent 43 1 4 frame.Bound ∷ body.Got 43 ∷ body.Sent 44 4 2 frame.Invoke
          ∷ body.Got 44 ∷ body.Sent 45 2 4 frame.Invoked ∷ body.Got 45 ∷ body.Conflict (l 175) (u 1 1 1) Read 2 ∷ [],
    ) ∷ (event.Call (l 175) 1 op.Pop, body.Sent 46 4 2 frame.Invoke ∷ []) ∷ (event.Lose (Number 46), body.Dropped 46 ∷ [])
    ∷ (event.Tick 4, body.Sent 47 4 2 frame.Invoke ∷ []) ∷ (event.Tick 4, body.Sent 48 4 2 frame.Invoke ∷ [])
    ∷ (
      event.Settle,
      body.Got 47 ∷ body.Sent 49 2 4 frame.Invoked ∷ body.Got 48 ∷ body.Sent 50 2 4 frame.Invoked ∷ body.Got 49
          ∷ body.Conflict (l 175) (u 1 1 1) Read 2 ∷ body.Void 50 ∷ [],
    ) ∷ (event.Call (l 175) 1 (op.Push 2), body.Sent 51 4 2 frame.Invoke ∷ [])
    ∷ (event.Settle, body.Got 51 ∷ body.Sent 52 2 4 frame.Invoked ∷ body.Got 52 ∷ body.Conflict (l 175) (u 1 1 1) Read 2 ∷ [])
    ∷ (event.Deliver (Number 46), body.Void 46 ∷ []) ∷ (event.Settle, [])
    ∷ (
      event.Commit (l 175),
      body.Committing (l 175) ∷ body.Committed (l 175) ∷ body.Sent 53 4 1 frame.Told ∷ body.Sent 54 4 2 frame.Told ∷ [],
    )
    ∷ (
      event.Show 1,
      body.Entry 1 0 (2 ∷ 1 ∷ []) (3 ∷ 2 ∷ 1 ∷ []) ∷ body.Copy 1 1 1 (u 3 1 1) (0 ∷ 0 ∷ 0 ∷ 0 ∷ 0 ∷ 0 ∷ 0 ∷ 1 ∷ 0 ∷ 0 ∷ 0 ∷ 0 ∷ 0 ∷ 0
          ∷ 0 ∷ 0 ∷ 0 ∷ 0 ∷ 0 ∷ 0 ∷ 0 ∷ 0 ∷ 0 ∷ 4 ∷ 0 ∷ 0 ∷ 0 ∷ 0 ∷ 0 ∷ 0 ∷ 0 ∷ 7 ∷ 0 ∷ 0 ∷ 0 ∷ 0 ∷ 0 ∷ 0 ∷ 0 ∷ 1 ∷ 0 ∷ 0 ∷ 0 ∷ 0 ∷ 0
          ∷ 0 ∷ 0 ∷ 4 ∷ 0 ∷ 0 ∷ 0 ∷ 0 ∷ 0 ∷ 0 ∷ 0 ∷ 1 ∷ 0 ∷ 0 ∷ 0 ∷ 0 ∷ 0 ∷ 0 ∷ 0 ∷ 1 ∷ 0 ∷ 0 ∷ 0 ∷ 0 ∷ 0 ∷ 0 ∷ 0 ∷ 8 ∷ 0 ∷ 0 ∷ 0 ∷ 0
          ∷ 0 ∷ 0 ∷ 0 ∷ 3 ∷ 0 ∷ 0 ∷ 0 ∷ 0 ∷ 0 ∷ 0 ∷ 0 ∷ 1 ∷ 0 ∷ 0 ∷ 0 ∷ 0 ∷ 0 ∷ 0 ∷ 0 ∷ 4 ∷ 0 ∷ 0 ∷ 0 ∷ 0 ∷ 0 ∷ 0 ∷ 0 ∷ 7 ∷ 0 ∷ 0 ∷ 0
          ∷ 0 ∷ 0 ∷ 0 ∷ 0 ∷ 8 ∷ 0 ∷ 0 ∷ 0 ∷ 0 ∷ 0 ∷ 0 ∷ 0 ∷ 6 ∷ 0 ∷ 0 ∷ 0 ∷ 0 ∷ 0 ∷ 0 ∷ 0 ∷ 8 ∷ 0 ∷ 0 ∷ 0 ∷ 0 ∷ 0 ∷ 0 ∷ 0 ∷ 6 ∷ 0 ∷ 0
          ∷ 0 ∷ 0 ∷ 0 ∷ 0 ∷ 0 ∷ 5 ∷ 0 ∷ 0 ∷ 0 ∷ 0 ∷ 0 ∷ 0 ∷ 0 ∷ 2 ∷ 0 ∷ 0 ∷ 0 ∷ 0 ∷ 0 ∷ 0 ∷ 0 ∷ 0 ∷ 0 ∷ 0 ∷ 0 ∷ 0 ∷ 0 ∷ 0 ∷ 0 ∷ 0 ∷ 0
          ∷ 0 ∷ 0 ∷ 0 ∷ 0 ∷ 0 ∷ 0 ∷ 2 ∷ 0 ∷ 0 ∷ 0 ∷ 0 ∷ 0 ∷ 0 ∷ 0 ∷ 4 ∷ 0 ∷ 0 ∷ 0 ∷ 0 ∷ 0 ∷ 0 ∷ 0 ∷ 0 ∷ 0 ∷ 0 ∷ 0 ∷ 0 ∷ 0 ∷ 0 ∷ 0 ∷ 6
          ∷ 0 ∷ 0 ∷ 0 ∷ 0 ∷ 0 ∷ 0 ∷ 0 ∷ 3 ∷ 0 ∷ 0 ∷ 0 ∷ 0 ∷ 0 ∷ 0 ∷ 0 ∷ 6 ∷ 0 ∷ 0 ∷ 0 ∷ 0 ∷ 0 ∷ 0 ∷ 0 ∷ 7 ∷ 0 ∷ 0 ∷ 0 ∷ 0 ∷ 0 ∷ 0 ∷ 0
          ∷ 3 ∷ 0 ∷ 0 ∷ 0 ∷ 0 ∷ 0 ∷ 0 ∷ 0 ∷ 6 ∷ 0 ∷ 0 ∷ 0 ∷ 0 ∷ 0 ∷ 0 ∷ 0 ∷ 6 ∷ 0 ∷ 0 ∷ 0 ∷ 0 ∷ 0 ∷ 0 ∷ 0 ∷ 4 ∷ [])
          ∷ body.Copy 2 1 1 (u 3 1 1) (0 ∷ 0 ∷ 0 ∷ 0 ∷ 0 ∷ 0 ∷ 0 ∷ 1 ∷ 0 ∷ 0 ∷ 0 ∷ 0 ∷ 0 ∷ 0 ∷ 0 ∷ 0 ∷ 0 ∷ 0 ∷ 0 ∷ 0 ∷ 0 ∷ 0 ∷ 0 ∷ 4 ∷ 0
          ∷ 0 ∷ 0 ∷ 0 ∷ 0 ∷ 0 ∷ 0 ∷ 7 ∷ 0 ∷ 0 ∷ 0 ∷ 0 ∷ 0 ∷ 0 ∷ 0 ∷ 1 ∷ 0 ∷ 0 ∷ 0 ∷ 0 ∷ 0 ∷ 0 ∷ 0 ∷ 4 ∷ 0 ∷ 0 ∷ 0 ∷ 0 ∷ 0 ∷ 0 ∷ 0 ∷ 1
          ∷ 0 ∷ 0 ∷ 0 ∷ 0 ∷ 0 ∷ 0 ∷ 0 ∷ 1 ∷ 0 ∷ 0 ∷ 0 ∷ 0 ∷ 0 ∷ 0 ∷ 0 ∷ 8 ∷ 0 ∷ 0 ∷ 0 ∷ 0 ∷ 0 ∷ 0 ∷ 0 ∷ 3 ∷ 0 ∷ 0 ∷ 0 ∷ 0 ∷ 0 ∷ 0 ∷ 0
          ∷ 1 ∷ 0 ∷ 0 ∷ 0 ∷ 0 ∷ 0 ∷ 0 ∷ 0 ∷ 4 ∷ 0 ∷ 0 ∷ 0 ∷ 0 ∷ 0 ∷ 0 ∷ 0 ∷ 7 ∷ 0 ∷ 0 ∷ 0 ∷ 0 ∷ 0 ∷ 0 ∷ 0 ∷ 8 ∷ 0 ∷ 0 ∷ 0 ∷ 0 ∷ 0 ∷ 0
          ∷ 0 ∷ 6 ∷ 0 ∷ 0 ∷ 0 ∷ 0 ∷ 0 ∷ 0 ∷ 0 ∷ 8 ∷ 0 ∷ 0 ∷ 0 ∷ 0 ∷ 0 ∷ 0 ∷ 0 ∷ 6 ∷ 0 ∷ 0 ∷ 0 ∷ 0 ∷ 0 ∷ 0 ∷ 0 ∷ 5 ∷ 0 ∷ 0 ∷ 0 ∷ 0 ∷ 0
          ∷ 0 ∷ 0 ∷ 2 ∷ 0 ∷ 0 ∷ 0 ∷ 0 ∷ 0 ∷ 0 ∷ 0 ∷ 0 ∷ 0 ∷ 0 ∷ 0 ∷ 0 ∷ 0 ∷ 0 ∷ 0 ∷ 0 ∷ 0 ∷ 0 ∷ 0 ∷ 0 ∷ 0 ∷ 0 ∷ 0 ∷ 2 ∷ 0 ∷ 0 ∷ 0 ∷ 0
          ∷ 0 ∷ 0 ∷ 0 ∷ 4 ∷ 0 ∷ 0 ∷ 0 ∷ 0 ∷ 0 ∷ 0 ∷ 0 ∷ 0 ∷ 0 ∷ 0 ∷ 0 ∷ 0 ∷ 0 ∷ 0 ∷ 0 ∷ 6 ∷ 0 ∷ 0 ∷ 0 ∷ 0 ∷ 0 ∷ 0 ∷ 0 ∷ 3 ∷ 0 ∷ 0 ∷ 0
          ∷ 0 ∷ 0 ∷ 0 ∷ 0 ∷ 6 ∷ 0 ∷ 0 ∷ 0 ∷ 0 ∷ 0 ∷ 0 ∷ 0 ∷ 7 ∷ 0 ∷ 0 ∷ 0 ∷ 0 ∷ 0 ∷ 0 ∷ 0 ∷ 3 ∷ 0 ∷ 0 ∷ 0 ∷ 0 ∷ 0 ∷ 0 ∷ 0 ∷ 6 ∷ 0 ∷ 0
          ∷ 0 ∷ 0 ∷ 0 ∷ 0 ∷ 0 ∷ 6 ∷ 0 ∷ 0 ∷ 0 ∷ 0 ∷ 0 ∷ 0 ∷ 0 ∷ 4 ∷ []) ∷ body.Copy 3 1 1 (u 3 1 1) (0 ∷ 0 ∷ 0 ∷ 0 ∷ 0 ∷ 0 ∷ 0 ∷ 1 ∷ 0
          ∷ 0 ∷ 0 ∷ 0 ∷ 0 ∷ 0 ∷ 0 ∷ 0 ∷ 0 ∷ 0 ∷ 0 ∷ 0 ∷ 0 ∷ 0 ∷ 0 ∷ 4 ∷ 0 ∷ 0 ∷ 0 ∷ 0 ∷ 0 ∷ 0 ∷ 0 ∷ 7 ∷ 0 ∷ 0 ∷ 0 ∷ 0 ∷ 0 ∷ 0 ∷ 0 ∷ 1
          ∷ 0 ∷ 0 ∷ 0 ∷ 0 ∷ 0 ∷ 0 ∷ 0 ∷ 4 ∷ 0 ∷ 0 ∷ 0 ∷ 0 ∷ 0 ∷ 0 ∷ 0 ∷ 1 ∷ 0 ∷ 0 ∷ 0 ∷ 0 ∷ 0 ∷ 0 ∷ 0 ∷ 1 ∷ 0 ∷ 0 ∷ 0 ∷ 0 ∷ 0 ∷ 0 ∷ 0
          ∷ 8 ∷ 0 ∷ 0 ∷ 0 ∷ 0 ∷ 0 ∷ 0 ∷ 0 ∷ 3 ∷ 0 ∷ 0 ∷ 0 ∷ 0 ∷ 0 ∷ 0 ∷ 0 ∷ 1 ∷ 0 ∷ 0 ∷ 0 ∷ 0 ∷ 0 ∷ 0 ∷ 0 ∷ 4 ∷ 0 ∷ 0 ∷ 0 ∷ 0 ∷ 0 ∷ 0
          ∷ 0 ∷ 7 ∷ 0 ∷ 0 ∷ 0 ∷ 0 ∷ 0 ∷ 0 ∷ 0 ∷ 8 ∷ 0 ∷ 0 ∷ 0 ∷ 0 ∷ 0 ∷ 0 ∷ 0 ∷ 6 ∷ 0 ∷ 0 ∷ 0 ∷ 0 ∷ 0 ∷ 0 ∷ 0 ∷ 8 ∷ 0 ∷ 0 ∷ 0 ∷ 0 ∷ 0
          ∷ 0 ∷ 0 ∷ 6 ∷ 0 ∷ 0 ∷ 0 ∷ 0 ∷ 0 ∷ 0 ∷ 0 ∷ 5 ∷ 0 ∷ 0 ∷ 0 ∷ 0 ∷ 0 ∷ 0 ∷ 0 ∷ 2 ∷ 0 ∷ 0 ∷ 0 ∷ 0 ∷ 0 ∷ 0 ∷ 0 ∷ 0 ∷ 0 ∷ 0 ∷ 0 ∷ 0
          ∷ 0 ∷ 0 ∷ 0 ∷ 0 ∷ 0 ∷ 0 ∷ 0 ∷ 0 ∷ 0 ∷ 0 ∷ 0 ∷ 2 ∷ 0 ∷ 0 ∷ 0 ∷ 0 ∷ 0 ∷ 0 ∷ 0 ∷ 4 ∷ 0 ∷ 0 ∷ 0 ∷ 0 ∷ 0 ∷ 0 ∷ 0 ∷ 0 ∷ 0 ∷ 0 ∷ 0
          ∷ 0 ∷ 0 ∷ 0 ∷ 0 ∷ 6 ∷ 0 ∷ 0 ∷ 0 ∷ 0 ∷ 0 ∷ 0 ∷ 0 ∷ 3 ∷ 0 ∷ 0 ∷ 0 ∷ 0 ∷ 0 ∷ 0 ∷ 0 ∷ 6 ∷ 0 ∷ 0 ∷ 0 ∷ 0 ∷ 0 ∷ 0 ∷ 0 ∷ 7 ∷ 0 ∷ 0
          ∷ 0 ∷ 0 ∷ 0 ∷ 0 ∷ 0 ∷ 3 ∷ 0 ∷ 0 ∷ 0 ∷ 0 ∷ 0 ∷ 0 ∷ 0 ∷ 6 ∷ 0 ∷ 0 ∷ 0 ∷ 0 ∷ 0 ∷ 0 ∷ 0 ∷ 6 ∷ 0 ∷ 0 ∷ 0 ∷ 0 ∷ 0 ∷ 0 ∷ 0 ∷ 4 ∷ [])
          ∷ [],
    ) ∷ (event.Settle, body.Got 53 ∷ body.Told 1 (u 4 1 2) Abort part.Naming ∷ body.Got 54 ∷ [])
    ∷ (
      event.Commit (l 169),
      body.Aborted (l 169) cause.Doomed ∷ body.Sent 55 1 2 frame.Told ∷ body.Told 1 (u 1 1 2) Abort part.Naming ∷ [],
    ) ∷ (event.BeginIn (l 178) (l 174), body.Began (l 178) kind.Nested (u 3 2 3) (Some (l 174)) ∷ [])
    ∷ (event.Deliver (Number 22), body.Void 22 ∷ []) ∷ (event.Crash 2, body.Halted 2 ∷ [])
    ∷ (event.Deliver (Number 55), body.Void 55 ∷ []) ∷ (event.Deliver (Number 18), body.Void 18 ∷ [])
    ∷ (event.Call (l 178) 1 op.Len, body.Sent 56 3 2 frame.Invoke ∷ []) ∷ (event.Deliver (Number 56), body.Void 56 ∷ [])
    ∷ (event.Restart 2, body.Up 2 2 ∷ body.Sent 57 2 1 frame.Hello ∷ body.Sent 58 2 3 frame.Hello ∷ body.Sent 59 2 4 frame.Hello ∷ [])
    ∷ (event.Settle, body.Got 57 ∷ body.Got 58 ∷ body.Got 59 ∷ [])
    ∷ (event.GiveUp (l 178), body.GaveUp (l 178) 2 ∷ body.Lost (l 178) 2 ∷ [])
    ∷ (event.Begin (l 179) 4, body.Began (l 179) kind.Top (u 4 1 3) None ∷ [])
    ∷ (event.Call (l 179) 1 (op.Push 0), body.Sent 60 4 1 frame.Bind ∷ [])
    ∷ (event.Settle, body.Got 60 ∷ body.Sent 61 1 4 frame.Bound ∷ body.Got 61 ∷ body.Conflict (l 179) (u 1 1 1) Read 1 ∷ [])
    ∷ (event.Commit (l 179), body.Committing (l 179) ∷ body.Committed (l 179) ∷ body.Sent 62 4 1 frame.Told ∷ [])
    ∷ (event.Lose (Number 62), body.Dropped 62 ∷ []) ∷ (event.Settle, [])
    ∷ (event.Begin (l 180) 4, body.Began (l 180) kind.Top (u 4 1 4) None ∷ [])
    ∷ (event.Call (l 180) 1 (op.Push 3), body.Sent 63 4 1 frame.Bind ∷ [])
    ∷ (event.Settle, body.Got 63 ∷ body.Sent 64 1 4 frame.Bound ∷ body.Got 64 ∷ body.Conflict (l 180) (u 1 1 1) Read 1 ∷ [])
    ∷ (event.Commit (l 180), body.Committing (l 180) ∷ body.Committed (l 180) ∷ body.Sent 65 4 1 frame.Told ∷ [])
    ∷ (event.Settle, body.Got 65 ∷ []) ∷ (event.Deliver (Number 60), body.Got 60 ∷ body.Sent 66 1 4 frame.Bound ∷ [])
    ∷ (event.Call (l 170) 1 (op.Push 0), body.Sent 67 3 1 frame.Bind ∷ [])
    ∷ (event.Begin (l 182) 3, body.Began (l 182) kind.Top (u 3 2 4) None ∷ []) ∷ (event.Deliver (Number 66), body.Void 66 ∷ [])
    ∷ (event.Call (l 182) 1 op.Len, body.Sent 68 3 1 frame.Bind ∷ [])
    ∷ (event.Deliver (Number 67), body.Got 67 ∷ body.Sent 69 1 3 frame.Bound ∷ [])
    ∷ (event.Deliver (Number 68), body.Got 68 ∷ body.Sent 70 1 3 frame.Bound ∷ [])
    ∷ (event.Deliver (Number 69), body.Got 69 ∷ body.Conflict (l 170) (u 1 1 1) Read 1 ∷ [])
    ∷ (event.Settle, body.Got 70 ∷ body.Conflict (l 182) (u 1 1 1) Read 1 ∷ [])
    ∷ (event.Begin (l 183) 1, body.Began (l 183) kind.Top (u 1 1 3) None ∷ [])
    ∷ (event.Call (l 183) 1 (op.Push 1), body.Conflict (l 183) (u 1 1 1) Read 1 ∷ []) ∷ (event.Settle, [])
    ∷ (event.Commit (l 183), body.Committing (l 183) ∷ body.Committed (l 183) ∷ []) ∷ (event.Settle, [])
    ∷ (event.Begin (l 184) 1, body.Began (l 184) kind.Top (u 1 1 4) None ∷ [])
    ∷ (event.Call (l 184) 1 op.Pop, body.Conflict (l 184) (u 1 1 1) Read 1 ∷ []) ∷ (event.Settle, [])
    ∷ (event.Commit (l 184), body.Committing (l 184) ∷ body.Committed (l 184) ∷ []) ∷ (event.Settle, [])
    ∷ (event.GiveUp (l 168), body.GaveUp (l 168) 2 ∷ body.Lost (l 168) 2 ∷ []) ∷ (event.Deliver (Number 69), body.Void 69 ∷ [])
    ∷ (event.Call (l 170) 1 (op.Push 4), body.Sent 71 3 1 frame.Bind ∷ []) ∷ (event.Lose (Number 71), body.Dropped 71 ∷ [])
    ∷ (event.BeginIn (l 186) (l 182), body.Began (l 186) kind.Nested (u 3 2 5) (Some (l 182)) ∷ [])
    ∷ (
      event.Abort (l 168),
      body.Aborted (l 168) cause.Asked ∷ body.Sent 72 1 2 frame.Told ∷ body.Told 1 (u 1 1 1) Abort part.Naming ∷ [],
    ) ∷ (event.Abort (l 170), body.Refused 7 ∷ [])
    ∷ (event.BeginIn (l 190) (l 182), body.Began (l 190) kind.Nested (u 3 2 6) (Some (l 182)) ∷ [])
    ∷ (
      event.Abort (l 182),
      body.Aborted (l 190) cause.Asked ∷ body.Aborted (l 186) cause.Asked ∷ body.Aborted (l 182) cause.Asked
          ∷ body.Sent 73 3 1 frame.Told ∷ [],
    ) ∷ (event.Settle, body.Got 72 ∷ body.Got 73 ∷ []) ∷ (event.Begin (l 187) 2, body.Began (l 187) kind.Top (u 2 2 1) None ∷ [])
    ∷ (event.Call (l 187) 1 (op.Push 3), body.Sent 74 2 1 frame.Bind ∷ [])
    ∷ (event.Settle, body.Got 74 ∷ body.Sent 75 1 2 frame.Bound ∷ body.Got 75 ∷ body.Conflict (l 187) (u 3 2 1) Read 1 ∷ [])
    ∷ (event.Commit (l 187), body.Committing (l 187) ∷ body.Committed (l 187) ∷ body.Sent 76 2 1 frame.Told ∷ [])
    ∷ (event.Deliver (Number 76), body.Got 76 ∷ []) ∷ (event.Settle, [])
    ∷ (event.Begin (l 191) 3, body.Began (l 191) kind.Top (u 3 2 7) None ∷ [])
    ∷ (event.Call (l 191) 1 (op.Push 1), body.Sent 77 3 1 frame.Bind ∷ [])
    ∷ (event.Deliver (Number 77), body.Got 77 ∷ body.Sent 78 1 3 frame.Bound ∷ [])
    ∷ (event.Deliver (Number 78), body.Got 78 ∷ body.Conflict (l 191) (u 3 2 1) Read 1 ∷ [])
    ∷ (event.Deliver (Number 53), body.Got 53 ∷ []) ∷ (event.Call (l 191) 1 (op.Push 0), body.Sent 79 3 1 frame.Bind ∷ [])
    ∷ (event.Settle, body.Got 79 ∷ body.Sent 80 1 3 frame.Bound ∷ body.Got 80 ∷ body.Conflict (l 191) (u 3 2 1) Read 1 ∷ [])
    ∷ (event.BeginIn (l 192) (l 191), body.Began (l 192) kind.Nested (u 3 2 8) (Some (l 191)) ∷ [])
    ∷ (event.Top (l 193) (l 192), body.Began (l 193) kind.Independent (u 3 2 9) (Some (l 192)) ∷ [])
    ∷ (event.Stop 3 4 (stop.Torn []), body.Armed 3 ∷ []) ∷ (event.Abort (l 170), body.Refused 7 ∷ [])
    ∷ (event.Abort (l 191), body.Aborted (l 192) cause.Asked ∷ body.Aborted (l 191) cause.Asked ∷ body.Sent 81 3 1 frame.Told ∷ [])
    ∷ (event.Abort (l 193), body.Aborted (l 193) cause.Asked ∷ []) ∷ (event.Settle, body.Got 81 ∷ [])
    ∷ (event.Begin (l 194) 1, body.Began (l 194) kind.Top (u 1 1 5) None ∷ [])
    ∷ (event.GiveUp (l 170), body.GaveUp (l 170) 1 ∷ body.Lost (l 170) 1 ∷ [])
    ∷ (event.Call (l 194) 1 op.Pop, body.Conflict (l 194) (u 3 2 1) Read 1 ∷ [])
    ∷ (event.Call (l 194) 1 op.Pop, body.Conflict (l 194) (u 3 2 1) Read 1 ∷ []) ∷ (event.Settle, [])
    ∷ (event.Crash 1, body.Halted 1 ∷ []) ∷ [])

full_4_follows : is_followed full_4 ≡ true
full_4_follows = refl

full_4_has_causes : lacking full_4 ≡ []
full_4_has_causes = refl
