-- Runs of 150 events that were chosen at random, many of which are refused: each journal follows its events.
use Rattle.std.specs.Prelude.{◌≡◌, refl, [], ◌∷◌, codes, true, Some, None}
use Rattle.arj_base.specs.declared.mode.Mode.TheVariants.{Exclude, Read, Write}
use Rattle.arj_base.specs.declared.mode.End.TheVariants.{Abort, Commit}
use Rattle.arj_class.specs.declared.op.Op.TheVariants as op
use Rattle.arj_class.specs.declared.value.Value.TheVariants as value
use Rattle.arj_journal.specs.declared.body.Body.TheVariants as body
use Rattle.arj_journal.specs.declared.body.Cause.TheVariants as cause
use Rattle.arj_journal.specs.declared.body.Difference.TheVariants as difference
use Rattle.arj_journal.specs.declared.body.FrameKind.TheVariants as frame
use Rattle.arj_journal.specs.declared.body.Kind.TheVariants as kind
use Rattle.arj_journal.specs.declared.body.Part.TheVariants as part
use Rattle.arj_journal.specs.declared.body.Role.TheVariants as role
use Rattle.arj_journal.specs.declared.event.Event.TheVariants as event
use Rattle.arj_journal.specs.declared.event.StopKind.TheVariants as stop
use Rattle.arj_journal.specs.declared.event.FrameNo.TheVariants.{Last, Number}
use Rattle.arj_cause_tests.proofs.Words.{Run, b, is_followed, l, lacking, nodes, object_line, run, u}

abbrev hostile_1 : Run
hostile_1 = run
    (nodes 3 (object_line 1 (value.Account 2) (1 ∷ []) (2 ∷ []) ∷ []))
    ((event.Serial (l 161) 2, body.Began (l 161) kind.Serial (u 2 1 1) None ∷ [])
    ∷ (event.Begin (l 162) 1, body.Began (l 162) kind.Top (u 1 1 1) None ∷ [])
    ∷ (event.Serial (l 163) 1, body.Began (l 163) kind.Serial (u 1 1 2) None ∷ []) ∷ (event.Commit (l 163), body.Ended (l 163) ∷ [])
    ∷ (event.Include (l 162) 1 1, body.Granted 1 (u 1 1 1) (u 0 1 1) Write ∷ body.Sent 1 1 2 frame.Load ∷ [])
    ∷ (event.Deliver (Number 1), body.Got 1 ∷ body.Sent 2 2 1 frame.Loaded ∷ []) ∷ (event.Lose (Number 2), body.Dropped 2 ∷ [])
    ∷ (event.Begin (l 164) 1, body.Began (l 164) kind.Top (u 1 1 3) None ∷ [])
    ∷ (event.Call (l 164) 1 (op.Deposit 0), body.Conflict (l 164) (u 1 1 1) Write 1 ∷ [])
    ∷ (event.Call (l 164) 1 (op.Deposit 4), body.Conflict (l 164) (u 1 1 1) Write 1 ∷ [])
    ∷ (event.Abort (l 164), body.Aborted (l 164) cause.Asked ∷ [])
    ∷ (event.BeginIn (l 165) (l 161), body.Began (l 165) kind.Constituent (u 2 1 2) (Some (l 161)) ∷ [])
    ∷ (event.Begin (l 166) 2, body.Began (l 166) kind.Top (u 2 1 3) None ∷ [])
    ∷ (event.BeginIn (l 167) (l 166), body.Began (l 167) kind.Nested (u 2 1 4) (Some (l 166)) ∷ [])
    ∷ (event.Call (l 167) 1 (op.Deposit 0), body.Sent 3 2 1 frame.Bind ∷ [])
    ∷ (event.Settle, body.Got 3 ∷ body.Sent 4 1 2 frame.Bound ∷ body.Got 4 ∷ body.Conflict (l 167) (u 1 1 1) Write 1 ∷ [])
    ∷ (event.Settle, [])
    ∷ (event.Abort (l 166), body.Aborted (l 167) cause.Asked ∷ body.Aborted (l 166) cause.Asked ∷ body.Sent 5 2 1 frame.Told ∷ [])
    ∷ (event.Deliver (Number 2), body.Got 2 ∷ body.Includes (l 162) 1 1 ∷ []) ∷ (event.Deliver (Number 5), body.Got 5 ∷ [])
    ∷ (event.Call (l 162) 1 op.Get, body.Bound 1 (b 1 1) 1 ∷ body.Sent 6 1 2 frame.Load ∷ [])
    ∷ (event.Deliver (Number 6), body.Got 6 ∷ body.Sent 7 2 1 frame.Loaded ∷ [])
    ∷ (event.Abort (l 161), body.Aborted (l 165) cause.Asked ∷ body.Aborted (l 161) cause.Asked ∷ [])
    ∷ (event.Abort (l 162), body.Refused 7 ∷ [])
    ∷ (
      event.Settle,
      body.Got 7 ∷ body.Active 1 1 (b 1 1) ∷ body.Granted 1 (u 1 1 1) (u 0 0 1) Read ∷ body.Ok (l 162) 1 op.Get (codes "2") ∷ [],
    ) ∷ (event.Begin (l 168) 1, body.Began (l 168) kind.Top (u 1 1 4) None ∷ [])
    ∷ (event.Call (l 168) 1 (op.Withdraw 1), body.Conflict (l 168) (u 1 1 1) Write 1 ∷ [])
    ∷ (event.Call (l 168) 1 (op.Withdraw 1), body.Conflict (l 168) (u 1 1 1) Write 1 ∷ []) ∷ (event.Settle, [])
    ∷ (event.Crash 1, body.Halted 1 ∷ [])
    ∷ (event.Restart 1, body.Up 1 2 ∷ body.Sent 8 1 2 frame.Hello ∷ body.Sent 9 1 3 frame.Hello ∷ [])
    ∷ (event.Settle, body.Got 8 ∷ body.Got 9 ∷ []) ∷ (event.Begin (l 169) 2, body.Began (l 169) kind.Top (u 2 1 5) None ∷ [])
    ∷ (event.Call (l 169) 1 (op.Withdraw 1), body.Sent 10 2 1 frame.Bind ∷ [])
    ∷ (
      event.Deliver (Number 10),
      body.Got 10 ∷ body.Granted 1 (u 2 1 5) (u 0 1 1) Write ∷ body.Bound 1 (b 2 1) 1 ∷ body.Sent 11 1 2 frame.Bound ∷ [],
    )
    ∷ (
      event.Settle,
      body.Got 11 ∷ body.Sent 12 2 1 frame.Activate ∷ body.Got 12 ∷ body.Active 1 1 (b 2 1) ∷ body.Sent 13 1 2 frame.Activated
          ∷ body.Got 13 ∷ body.Sent 14 2 1 frame.Record ∷ body.Got 14 ∷ body.Lowered 1 (u 2 1 5) (u 0 1 1)
          ∷ body.Sent 15 1 2 frame.Recorded ∷ body.Got 15 ∷ body.Sent 16 2 1 frame.Invoke ∷ body.Got 16
          ∷ body.Granted 1 (u 2 1 5) (u 0 0 1) Write ∷ body.Sent 17 1 2 frame.Invoked ∷ body.Got 17
          ∷ body.Ok (l 169) 1 (op.Withdraw 1) (codes "done") ∷ [],
    ) ∷ (event.Commit (l 169), body.Committing (l 169) ∷ body.Sent 18 2 1 frame.Vote ∷ [])
    ∷ (
      event.Settle,
      body.Got 18 ∷ body.Sent 19 1 2 frame.Voted ∷ body.Got 19 ∷ body.Prepared 2 (u 2 1 5) role.Store ∷ body.Sent 20 2 1 frame.Confirm
          ∷ body.Got 20 ∷ body.Sent 21 1 2 frame.Confirmed ∷ body.Got 21 ∷ body.Committed (l 169) ∷ body.Sent 22 2 1 frame.Told
          ∷ body.Done 2 (u 2 1 5) role.Store Commit ∷ body.Got 22 ∷ body.Told 1 (u 2 1 5) Commit part.Naming
          ∷ body.Told 1 (u 2 1 5) Commit part.Server ∷ body.Sent 23 1 2 frame.Acked ∷ body.Got 23 ∷ [],
    ) ∷ (event.Commit (l 168), body.Refused 6 ∷ []) ∷ (event.Settle, []) ∷ (event.Crash 3, body.Halted 3 ∷ [])
    ∷ (event.Deliver (Number 24), body.Refused 17 ∷ []) ∷ (event.Begin (l 172) 1, body.Began (l 172) kind.Top (u 1 2 1) None ∷ [])
    ∷ (
      event.Call (l 172) 1 (op.Deposit 3),
      body.Granted 1 (u 1 2 1) (u 0 1 1) Read ∷ body.Granted 1 (u 1 2 1) (u 0 0 1) Write
          ∷ body.Ok (l 172) 1 (op.Deposit 3) (codes "done") ∷ [],
    ) ∷ (event.Call (l 172) 1 (op.Deposit 3), body.Ok (l 172) 1 (op.Deposit 3) (codes "done") ∷ [])
    ∷ (event.Call (l 172) 1 (op.Deposit 0), body.Ok (l 172) 1 (op.Deposit 0) (codes "done") ∷ [])
    ∷ (event.BeginIn (l 173) (l 172), body.Began (l 173) kind.Nested (u 1 2 2) (Some (l 172)) ∷ [])
    ∷ (event.Begin (l 174) 2, body.Began (l 174) kind.Top (u 2 1 6) None ∷ []) ∷ (event.Call (l 173) 223 (op.Set 3), body.Refused 13 ∷ [])
    ∷ (event.Restart 3, body.Up 3 2 ∷ body.Sent 24 3 1 frame.Hello ∷ body.Sent 25 3 2 frame.Hello ∷ [])
    ∷ (event.Deliver (Number 24), body.Got 24 ∷ []) ∷ (event.Deliver (Number 23), body.Void 23 ∷ []) ∷ (event.Tick 3, [])
    ∷ (event.Deliver (Number 25), body.Got 25 ∷ [])
    ∷ (event.Call (l 172) 1 (op.Deposit 3), body.Ok (l 172) 1 (op.Deposit 3) (codes "done") ∷ [])
    ∷ (event.BeginIn (l 175) (l 172), body.Began (l 175) kind.Nested (u 1 2 3) (Some (l 172)) ∷ []) ∷ (event.Settle, [])
    ∷ (event.Begin (l 176) 3, body.Began (l 176) kind.Top (u 3 2 1) None ∷ [])
    ∷ (event.Call (l 176) 1 (op.Withdraw 3), body.Sent 26 3 1 frame.Bind ∷ [])
    ∷ (
      event.Settle,
      body.Got 26 ∷ body.Granted 1 (u 3 2 1) (u 0 1 1) Read ∷ body.Sent 27 1 3 frame.Bound ∷ body.Got 27 ∷ body.Sent 28 3 1 frame.Invoke
          ∷ body.Got 28 ∷ body.Sent 29 1 3 frame.Invoked ∷ body.Got 29 ∷ body.Conflict (l 176) (u 1 2 1) Write 1 ∷ [],
    ) ∷ (event.Commit (l 176), body.Committing (l 176) ∷ body.Committed (l 176) ∷ body.Sent 30 3 1 frame.Told ∷ [])
    ∷ (event.Settle, body.Got 30 ∷ body.Told 1 (u 3 2 1) Abort part.Naming ∷ [])
    ∷ (event.Call (l 174) 1 (op.Withdraw 2), body.Sent 31 2 1 frame.Bind ∷ [])
    ∷ (event.BeginIn (l 179) (l 172), body.Began (l 179) kind.Nested (u 1 2 4) (Some (l 172)) ∷ [])
    ∷ (event.BeginIn (l 171) (l 171), body.Refused 5 ∷ [])
    ∷ (event.Deliver (Number 31), body.Got 31 ∷ body.Granted 1 (u 2 1 6) (u 0 1 1) Read ∷ body.Sent 32 1 2 frame.Bound ∷ [])
    ∷ (event.Deliver (Number 32), body.Got 32 ∷ body.Sent 33 2 1 frame.Invoke ∷ []) ∷ (event.Tick 3, [])
    ∷ (event.Abort (l 175), body.Aborted (l 175) cause.Asked ∷ [])
    ∷ (event.Deliver (Number 33), body.Got 33 ∷ body.Sent 34 1 2 frame.Invoked ∷ [])
    ∷ (
      event.Call (l 173) 1 (op.Deposit 4),
      body.Granted 1 (u 1 2 2) (u 0 0 1) Write ∷ body.Ok (l 173) 1 (op.Deposit 4) (codes "done") ∷ [],
    ) ∷ (event.Deliver (Number 34), body.Got 34 ∷ body.Conflict (l 174) (u 1 2 1) Write 1 ∷ [])
    ∷ (event.Deliver (Number 0), body.Refused 17 ∷ [])
    ∷ (event.Abort (l 174), body.Aborted (l 174) cause.Asked ∷ body.Sent 35 2 1 frame.Told ∷ [])
    ∷ (event.Deliver (Number 35), body.Got 35 ∷ body.Told 1 (u 2 1 6) Abort part.Naming ∷ [])
    ∷ (event.Call (l 172) 1 (op.Withdraw 0), body.Conflict (l 172) (u 1 2 2) Write 1 ∷ [])
    ∷ (event.Top (l 180) (l 180), body.Refused 5 ∷ [])
    ∷ (event.Call (l 179) 1 (op.Withdraw 0), body.Conflict (l 179) (u 1 2 2) Write 1 ∷ [])
    ∷ (event.Begin (l 181) 2, body.Began (l 181) kind.Top (u 2 1 7) None ∷ [])
    ∷ (event.Commit (l 173), body.Committed (l 173) ∷ body.Told 1 (u 1 2 2) Commit part.Server ∷ [])
    ∷ (event.Begin (l 171) 4, body.Refused 1 ∷ [])
    ∷ (event.BeginIn (l 182) (l 172), body.Began (l 182) kind.Nested (u 1 2 5) (Some (l 172)) ∷ [])
    ∷ (
      event.Call (l 179) 1 (op.Deposit 2),
      body.Granted 1 (u 1 2 4) (u 0 0 1) Write ∷ body.Ok (l 179) 1 (op.Deposit 2) (codes "done") ∷ [],
    ) ∷ (event.Top (l 183) (l 183), body.Refused 5 ∷ []) ∷ (event.Call (l 172) 1 op.Get, body.Conflict (l 172) (u 1 2 4) Write 1 ∷ [])
    ∷ (event.Call (l 182) 1 (op.Withdraw 3), body.Conflict (l 182) (u 1 2 4) Write 1 ∷ []) ∷ (event.Settle, [])
    ∷ (event.Begin (l 183) 3, body.Began (l 183) kind.Top (u 3 2 2) None ∷ [])
    ∷ (event.Call (l 183) 1 (op.Deposit 0), body.Sent 36 3 1 frame.Bind ∷ [])
    ∷ (
      event.Settle,
      body.Got 36 ∷ body.Granted 1 (u 3 2 2) (u 0 1 1) Read ∷ body.Sent 37 1 3 frame.Bound ∷ body.Got 37 ∷ body.Sent 38 3 1 frame.Invoke
          ∷ body.Got 38 ∷ body.Sent 39 1 3 frame.Invoked ∷ body.Got 39 ∷ body.Conflict (l 183) (u 1 2 1) Write 1 ∷ [],
    ) ∷ (event.Commit (l 183), body.Committing (l 183) ∷ body.Committed (l 183) ∷ body.Sent 40 3 1 frame.Told ∷ [])
    ∷ (event.Deliver (Number 40), body.Got 40 ∷ body.Told 1 (u 3 2 2) Abort part.Naming ∷ [])
    ∷ (event.Stop 3 2 stop.Undone, body.Armed 3 ∷ []) ∷ (event.Settle, []) ∷ (event.Restart 3, body.Refused 3 ∷ [])
    ∷ (event.Quiesce, body.Quiet true ∷ [])
    ∷ (event.Commit (l 179), body.Committed (l 179) ∷ body.Told 1 (u 1 2 4) Commit part.Server ∷ [])
    ∷ (event.Call (l 172) 1 (op.Deposit 2), body.Ok (l 172) 1 (op.Deposit 2) (codes "done") ∷ [])
    ∷ (event.Include (l 181) 1 3, body.Sent 41 2 1 frame.Bind ∷ []) ∷ (event.BeginIn (l 173) (l 173), body.Refused 4 ∷ [])
    ∷ (
      event.Abort (l 172),
      body.Aborted (l 182) cause.Asked ∷ body.Aborted (l 172) cause.Asked ∷ body.Told 1 (u 1 2 1) Abort part.Naming
          ∷ body.Told 1 (u 1 2 1) Abort part.Server ∷ [],
    ) ∷ (event.Begin (l 186) 1, body.Began (l 186) kind.Top (u 1 2 6) None ∷ [])
    ∷ (
      event.Call (l 186) 1 (op.Withdraw 2),
      body.Granted 1 (u 1 2 6) (u 0 1 1) Read ∷ body.Granted 1 (u 1 2 6) (u 0 0 1) Write
          ∷ body.Ok (l 186) 1 (op.Withdraw 2) (codes "short") ∷ [],
    ) ∷ (event.Call (l 186) 1 (op.Withdraw 2), body.Ok (l 186) 1 (op.Withdraw 2) (codes "short") ∷ [])
    ∷ (event.BeginIn (l 187) (l 182), body.Refused 6 ∷ []) ∷ (event.Deliver (Number 41), body.Got 41 ∷ body.Sent 42 1 2 frame.Bound ∷ [])
    ∷ (
      event.Abort (l 186),
      body.Aborted (l 186) cause.Asked ∷ body.Told 1 (u 1 2 6) Abort part.Naming ∷ body.Told 1 (u 1 2 6) Abort part.Server ∷ [],
    ) ∷ (event.Show 1, body.Entry 1 0 (1 ∷ []) (2 ∷ []) ∷ body.Copy 2 1 1 (u 2 1 5) (0 ∷ 0 ∷ 0 ∷ 0 ∷ 0 ∷ 0 ∷ 0 ∷ 1 ∷ []) ∷ [])
    ∷ (event.Lose (Number 42), body.Dropped 42 ∷ []) ∷ (event.Commit (l 181), body.Refused 7 ∷ [])
    ∷ (event.Serial (l 189) 1, body.Began (l 189) kind.Serial (u 1 2 7) None ∷ []) ∷ (event.Restart 9, body.Refused 1 ∷ [])
    ∷ (event.Serial (l 190) 2, body.Began (l 190) kind.Serial (u 2 1 8) None ∷ [])
    ∷ (event.BeginIn (l 191) (l 190), body.Began (l 191) kind.Constituent (u 2 1 9) (Some (l 190)) ∷ [])
    ∷ (event.Call (l 191) 1 op.Get, body.Sent 43 2 1 frame.Bind ∷ []) ∷ (event.Call (l 191) 1 (op.Withdraw 4), body.Refused 7 ∷ [])
    ∷ (
      event.Settle,
      body.Got 43 ∷ body.Granted 1 (u 2 1 9) (u 0 1 1) Read ∷ body.Sent 44 1 2 frame.Bound ∷ body.Got 44 ∷ body.Sent 45 2 1 frame.Invoke
          ∷ body.Got 45 ∷ body.Granted 1 (u 2 1 9) (u 0 0 1) Read ∷ body.Sent 46 1 2 frame.Invoked ∷ body.Got 46
          ∷ body.Ok (l 191) 1 op.Get (codes "1") ∷ [],
    ) ∷ (event.Settle, [])
    ∷ (
      event.Abort (l 190),
      body.Aborted (l 191) cause.Asked ∷ body.Aborted (l 190) cause.Asked ∷ body.Sent 47 2 1 frame.Told ∷ body.Sent 48 2 1 frame.Told
          ∷ [],
    ) ∷ (event.Deliver (Number 47), body.Got 47 ∷ body.Told 1 (u 2 1 9) Abort part.Naming ∷ body.Told 1 (u 2 1 9) Abort part.Server ∷ [])
    ∷ (event.Deliver (Number 23), body.Void 23 ∷ [])
    ∷ (event.BeginIn (l 192) (l 189), body.Began (l 192) kind.Constituent (u 1 2 8) (Some (l 189)) ∷ [])
    ∷ (event.Deliver (Number 25), body.Got 25 ∷ [])
    ∷ (
      event.Call (l 192) 1 op.Get,
      body.Granted 1 (u 1 2 8) (u 0 1 1) Read ∷ body.Granted 1 (u 1 2 8) (u 0 0 1) Read ∷ body.Ok (l 192) 1 op.Get (codes "1") ∷ [],
    ) ∷ (event.Call (l 192) 1 op.Get, body.Ok (l 192) 1 op.Get (codes "1") ∷ []) ∷ (event.Lose (Number 48), body.Dropped 48 ∷ [])
    ∷ (event.Abort (l 181), body.Refused 7 ∷ [])
    ∷ (
      event.Abort (l 189),
      body.Aborted (l 192) cause.Asked ∷ body.Aborted (l 189) cause.Asked ∷ body.Told 1 (u 1 2 8) Abort part.Naming
          ∷ body.Told 1 (u 1 2 8) Abort part.Server ∷ [],
    ) ∷ (event.Settle, []) ∷ (event.Begin (l 193) 1, body.Began (l 193) kind.Top (u 1 2 9) None ∷ [])
    ∷ (
      event.Call (l 193) 1 (op.Deposit 1),
      body.Granted 1 (u 1 2 9) (u 0 1 1) Read ∷ body.Granted 1 (u 1 2 9) (u 0 0 1) Write
          ∷ body.Ok (l 193) 1 (op.Deposit 1) (codes "done") ∷ [],
    ) ∷ (event.Settle, []) ∷ (event.Commit (l 193), body.Committing (l 193) ∷ body.Sent 49 1 2 frame.Prepare ∷ [])
    ∷ (event.Lose (Number 49), body.Dropped 49 ∷ []) ∷ (event.Settle, [])
    ∷ (
      event.GiveUp (l 193),
      body.GaveUp (l 193) 2 ∷ body.Excluded (l 193) 1 2 ∷ body.Aborted (l 193) (cause.NoStores 1) ∷ body.Sent 50 1 2 frame.Told
          ∷ body.Told 1 (u 1 2 9) Abort part.Naming ∷ body.Told 1 (u 1 2 9) Abort part.Server ∷ [],
    ) ∷ (event.Settle, body.Got 50 ∷ []) ∷ (event.Begin (l 194) 1, body.Began (l 194) kind.Top (u 1 2 10) None ∷ [])
    ∷ (
      event.Call (l 194) 1 (op.Withdraw 2),
      body.Granted 1 (u 1 2 10) (u 0 1 1) Read ∷ body.Granted 1 (u 1 2 10) (u 0 0 1) Write
          ∷ body.Ok (l 194) 1 (op.Withdraw 2) (codes "short") ∷ [],
    ) ∷ (event.Settle, []) ∷ (event.Commit (l 194), body.Committing (l 194) ∷ body.Sent 51 1 2 frame.Prepare ∷ [])
    ∷ (event.Lose (Number 51), body.Dropped 51 ∷ []) ∷ (event.Settle, [])
    ∷ (
      event.GiveUp (l 194),
      body.GaveUp (l 194) 2 ∷ body.Excluded (l 194) 1 2 ∷ body.Aborted (l 194) (cause.NoStores 1) ∷ body.Sent 52 1 2 frame.Told
          ∷ body.Told 1 (u 1 2 10) Abort part.Naming ∷ body.Told 1 (u 1 2 10) Abort part.Server ∷ [],
    ) ∷ (event.Settle, body.Got 52 ∷ []) ∷ (event.Deliver (Number 37), body.Void 37 ∷ []) ∷ (event.Deliver (Number 52), body.Got 52 ∷ [])
    ∷ (event.Commit (l 181), body.Refused 7 ∷ []) ∷ (event.BeginIn (l 163) (l 181), body.Refused 4 ∷ [])
    ∷ (event.Stop 3 5 stop.Undone, body.Armed 3 ∷ []) ∷ [])

hostile_1_follows : is_followed hostile_1 ≡ true
hostile_1_follows = refl

hostile_1_has_causes : lacking hostile_1 ≡ []
hostile_1_has_causes = refl

abbrev hostile_2 : Run
hostile_2 = run
    (nodes 2 (object_line 1 (value.Queue (8 ∷ 5 ∷ [])) (1 ∷ []) (2 ∷ 1 ∷ []) ∷ []))
    ((event.Begin (l 161) 2, body.Began (l 161) kind.Top (u 2 1 1) None ∷ []) ∷ (event.Call (l 161) 273 (op.Add 1), body.Refused 13 ∷ [])
    ∷ (event.Call (l 161) 1 op.Len, body.Sent 1 2 1 frame.Bind ∷ []) ∷ (event.Abort (l 161), body.Refused 7 ∷ [])
    ∷ (
      event.Settle,
      body.Got 1 ∷ body.Granted 1 (u 2 1 1) (u 0 1 1) Write ∷ body.Bound 1 (b 1 1) 1 ∷ body.Sent 2 1 2 frame.Bound ∷ body.Got 2
          ∷ body.Sent 3 2 1 frame.Activate ∷ body.Got 3 ∷ body.Active 1 1 (b 1 1) ∷ body.Sent 4 1 2 frame.Activated ∷ body.Got 4
          ∷ body.Sent 5 2 1 frame.Record ∷ body.Got 5 ∷ body.Lowered 1 (u 2 1 1) (u 0 1 1) ∷ body.Sent 6 1 2 frame.Recorded ∷ body.Got 6
          ∷ body.Sent 7 2 1 frame.Invoke ∷ body.Got 7 ∷ body.Granted 1 (u 2 1 1) (u 0 0 1) Read ∷ body.Sent 8 1 2 frame.Invoked
          ∷ body.Got 8 ∷ body.Ok (l 161) 1 op.Len (codes "2") ∷ [],
    ) ∷ (event.Begin (l 162) 1, body.Began (l 162) kind.Top (u 1 1 1) None ∷ [])
    ∷ (event.Include (l 162) 1 2, body.Conflict (l 162) (u 2 1 1) Read 1 ∷ []) ∷ (event.Settle, [])
    ∷ (event.Commit (l 162), body.Committing (l 162) ∷ body.Committed (l 162) ∷ []) ∷ (event.Settle, [])
    ∷ (event.Call (l 161) 1 op.Pop, body.Sent 9 2 1 frame.Invoke ∷ [])
    ∷ (event.Deliver (Number 9), body.Got 9 ∷ body.Granted 1 (u 2 1 1) (u 0 0 1) Write ∷ body.Sent 10 1 2 frame.Invoked ∷ [])
    ∷ (event.Abort (l 161), body.Refused 7 ∷ []) ∷ (event.Settle, body.Got 10 ∷ body.Ok (l 161) 1 op.Pop (codes "8") ∷ [])
    ∷ (event.Begin (l 165) 1, body.Began (l 165) kind.Top (u 1 1 2) None ∷ [])
    ∷ (event.Call (l 165) 1 (op.Push 2), body.Granted 1 (u 1 1 2) (u 0 1 1) Read ∷ body.Conflict (l 165) (u 2 1 1) Write 1 ∷ [])
    ∷ (event.Call (l 165) 1 op.Pop, body.Conflict (l 165) (u 2 1 1) Write 1 ∷ []) ∷ (event.Settle, [])
    ∷ (event.Serial (l 168) 9, body.Refused 1 ∷ []) ∷ (event.Deliver (Number 7), body.Void 7 ∷ [])
    ∷ (event.Abort (l 165), body.Aborted (l 165) cause.Asked ∷ body.Told 1 (u 1 1 2) Abort part.Naming ∷ [])
    ∷ (event.Commit (l 161), body.Committing (l 161) ∷ body.Sent 11 2 1 frame.Vote ∷ [])
    ∷ (event.Deliver (Number 11), body.Got 11 ∷ body.Sent 12 1 2 frame.Voted ∷ []) ∷ (event.Deliver (Number 10), body.Void 10 ∷ [])
    ∷ (event.Serial (l 169) 1, body.Began (l 169) kind.Serial (u 1 1 3) None ∷ [])
    ∷ (event.Deliver (Number 12), body.Got 12 ∷ body.Sent 13 2 1 frame.Prepare ∷ body.Prepared 2 (u 2 1 1) role.Store ∷ [])
    ∷ (event.Deliver (Number 13), body.Got 13 ∷ body.Prepared 1 (u 2 1 1) role.Store ∷ body.Sent 14 1 2 frame.Prepared ∷ [])
    ∷ (event.GiveUp (l 161), body.GaveUp (l 161) 1 ∷ body.Excluded (l 161) 1 1 ∷ body.Sent 15 2 1 frame.Confirm ∷ [])
    ∷ (
      event.Deliver (Number 15),
      body.Got 15 ∷ body.Granted 1 (u 2 1 1) (u 0 1 1) Exclude ∷ body.Prepared 1 (u 2 1 1) role.Names ∷ body.Sent 16 1 2 frame.Confirmed
          ∷ [],
    ) ∷ (event.Abort (l 169), body.Aborted (l 169) cause.Asked ∷ []) ∷ (event.Deliver (Number 14), body.Void 14 ∷ [])
    ∷ (event.Begin (l 170) 2, body.Began (l 170) kind.Top (u 2 1 2) None ∷ [])
    ∷ (
      event.Settle,
      body.Got 16 ∷ body.Committed (l 161) ∷ body.Sent 17 2 1 frame.Told ∷ body.Done 2 (u 2 1 1) role.Store Commit ∷ body.Got 17
          ∷ body.Done 1 (u 2 1 1) role.Store Commit ∷ body.Done 1 (u 2 1 1) role.Names Commit ∷ body.Told 1 (u 2 1 1) Commit part.Naming
          ∷ body.Told 1 (u 2 1 1) Commit part.Server ∷ body.Sent 18 1 2 frame.Acked ∷ body.Got 18 ∷ [],
    ) ∷ (event.Include (l 170) 1 1, body.Sent 19 2 1 frame.Bind ∷ [])
    ∷ (
      event.Settle,
      body.Got 19 ∷ body.Granted 1 (u 2 1 2) (u 0 1 1) Write ∷ body.Sent 20 1 2 frame.Bound ∷ body.Got 20 ∷ body.Includes (l 170) 1 1
          ∷ [],
    ) ∷ (event.Begin (l 171) 2, body.Began (l 171) kind.Top (u 2 1 3) None ∷ [])
    ∷ (event.Call (l 171) 1 op.Pop, body.Sent 21 2 1 frame.Bind ∷ [])
    ∷ (event.Settle, body.Got 21 ∷ body.Sent 22 1 2 frame.Bound ∷ body.Got 22 ∷ body.Conflict (l 171) (u 2 1 2) Write 1 ∷ [])
    ∷ (event.Begin (l 174) 1, body.Began (l 174) kind.Top (u 1 1 4) None ∷ [])
    ∷ (event.Call (l 171) 1 (op.Push 0), body.Sent 23 2 1 frame.Bind ∷ [])
    ∷ (event.Deliver (Number 23), body.Got 23 ∷ body.Sent 24 1 2 frame.Bound ∷ [])
    ∷ (event.Deliver (Number 24), body.Got 24 ∷ body.Conflict (l 171) (u 2 1 2) Write 1 ∷ []) ∷ (event.Tick 2, []) ∷ (event.Settle, [])
    ∷ (event.Call (l 171) 1 op.Pop, body.Sent 25 2 1 frame.Bind ∷ [])
    ∷ (event.Settle, body.Got 25 ∷ body.Sent 26 1 2 frame.Bound ∷ body.Got 26 ∷ body.Conflict (l 171) (u 2 1 2) Write 1 ∷ [])
    ∷ (event.Settle, []) ∷ (event.Commit (l 171), body.Committing (l 171) ∷ body.Committed (l 171) ∷ body.Sent 27 2 1 frame.Told ∷ [])
    ∷ (event.Deliver (Number 27), body.Got 27 ∷ [])
    ∷ (event.Commit (l 170), body.Committing (l 170) ∷ body.Sent 28 2 1 frame.Prepare ∷ [])
    ∷ (event.Serial (l 175) 1, body.Began (l 175) kind.Serial (u 1 1 5) None ∷ [])
    ∷ (event.Deliver (Number 28), body.Got 28 ∷ body.Prepared 1 (u 2 1 2) role.Store ∷ body.Sent 29 1 2 frame.Prepared ∷ [])
    ∷ (event.Abort (l 170), body.Refused 7 ∷ []) ∷ (event.Abort (l 174), body.Aborted (l 174) cause.Asked ∷ [])
    ∷ (event.Abort (l 175), body.Aborted (l 175) cause.Asked ∷ [])
    ∷ (
      event.Settle,
      body.Got 29 ∷ body.Sent 30 2 1 frame.Confirm ∷ body.Got 30 ∷ body.Prepared 1 (u 2 1 2) role.Names
          ∷ body.Sent 31 1 2 frame.Confirmed ∷ body.Got 31 ∷ body.Committed (l 170) ∷ body.Sent 32 2 1 frame.Told ∷ body.Got 32
          ∷ body.Done 1 (u 2 1 2) role.Store Commit ∷ body.Done 1 (u 2 1 2) role.Names Commit ∷ body.Told 1 (u 2 1 2) Commit part.Naming
          ∷ body.Sent 33 1 2 frame.Acked ∷ body.Got 33 ∷ [],
    ) ∷ (event.Begin (l 176) 2, body.Began (l 176) kind.Top (u 2 1 4) None ∷ [])
    ∷ (event.Call (l 176) 1 op.Pop, body.Sent 34 2 1 frame.Bind ∷ [])
    ∷ (event.Deliver (Number 34), body.Got 34 ∷ body.Granted 1 (u 2 1 4) (u 0 1 1) Read ∷ body.Sent 35 1 2 frame.Bound ∷ [])
    ∷ (event.Deliver (Number 35), body.Got 35 ∷ body.Sent 36 2 1 frame.Invoke ∷ [])
    ∷ (event.Deliver (Number 36), body.Got 36 ∷ body.Granted 1 (u 2 1 4) (u 0 0 1) Write ∷ body.Sent 37 1 2 frame.Invoked ∷ [])
    ∷ (event.Deliver (Number 37), body.Got 37 ∷ body.Ok (l 176) 1 op.Pop (codes "5") ∷ [])
    ∷ (event.Call (l 176) 1 (op.Push 1), body.Sent 38 2 1 frame.Invoke ∷ [])
    ∷ (event.Deliver (Number 38), body.Got 38 ∷ body.Sent 39 1 2 frame.Invoked ∷ [])
    ∷ (event.Deliver (Number 39), body.Got 39 ∷ body.Ok (l 176) 1 (op.Push 1) (codes "done") ∷ []) ∷ (event.Settle, [])
    ∷ (event.Call (l 176) 1 (op.Push 1), body.Sent 40 2 1 frame.Invoke ∷ [])
    ∷ (event.Deliver (Number 40), body.Got 40 ∷ body.Sent 41 1 2 frame.Invoked ∷ [])
    ∷ (event.GiveUp (l 176), body.GaveUp (l 176) 1 ∷ body.Lost (l 176) 1 ∷ []) ∷ (event.Deliver (Number 41), body.Void 41 ∷ [])
    ∷ (event.Deliver (Number 20), body.Void 20 ∷ [])
    ∷ (event.Abort (l 176), body.Aborted (l 176) cause.Asked ∷ body.Sent 42 2 1 frame.Told ∷ [])
    ∷ (event.Deliver (Number 42), body.Got 42 ∷ body.Told 1 (u 2 1 4) Abort part.Naming ∷ body.Told 1 (u 2 1 4) Abort part.Server ∷ [])
    ∷ (event.Serial (l 179) 1, body.Began (l 179) kind.Serial (u 1 1 6) None ∷ [])
    ∷ (
      event.Show 1,
      body.Entry 1 2 (1 ∷ []) (2 ∷ 1 ∷ []) ∷ body.Copy 1 1 1 (u 2 1 1) (0 ∷ 0 ∷ 0 ∷ 0 ∷ 0 ∷ 0 ∷ 0 ∷ 5 ∷ [])
          ∷ body.Copy 2 1 1 (u 2 1 1) (0 ∷ 0 ∷ 0 ∷ 0 ∷ 0 ∷ 0 ∷ 0 ∷ 5 ∷ []) ∷ [],
    ) ∷ (event.Serial (l 180) 1, body.Began (l 180) kind.Serial (u 1 1 7) None ∷ [])
    ∷ (event.BeginIn (l 181) (l 179), body.Began (l 181) kind.Constituent (u 1 1 8) (Some (l 179)) ∷ [])
    ∷ (
      event.Call (l 181) 1 op.Pop,
      body.Granted 1 (u 1 1 8) (u 0 1 1) Read ∷ body.Granted 1 (u 1 1 8) (u 0 0 1) Write ∷ body.Ok (l 181) 1 op.Pop (codes "5") ∷ [],
    ) ∷ (event.Quiesce, body.Quiet true ∷ []) ∷ (event.Deliver (Number 22), body.Void 22 ∷ [])
    ∷ (event.Call (l 181) 1 op.Pop, body.Ok (l 181) 1 op.Pop (codes "none") ∷ [])
    ∷ (event.Call (l 179) 32 (op.Add 1), body.Refused 11 ∷ [])
    ∷ (
      event.Show 1,
      body.Entry 1 2 (1 ∷ []) (2 ∷ 1 ∷ []) ∷ body.Copy 1 1 1 (u 2 1 1) (0 ∷ 0 ∷ 0 ∷ 0 ∷ 0 ∷ 0 ∷ 0 ∷ 5 ∷ [])
          ∷ body.Copy 2 1 1 (u 2 1 1) (0 ∷ 0 ∷ 0 ∷ 0 ∷ 0 ∷ 0 ∷ 0 ∷ 5 ∷ []) ∷ [],
    ) ∷ (event.Abort (l 180), body.Aborted (l 180) cause.Asked ∷ [])
    ∷ (event.Begin (l 182) 1, body.Began (l 182) kind.Top (u 1 1 9) None ∷ [])
    ∷ (
      event.Show 1,
      body.Entry 1 2 (1 ∷ []) (2 ∷ 1 ∷ []) ∷ body.Copy 1 1 1 (u 2 1 1) (0 ∷ 0 ∷ 0 ∷ 0 ∷ 0 ∷ 0 ∷ 0 ∷ 5 ∷ [])
          ∷ body.Copy 2 1 1 (u 2 1 1) (0 ∷ 0 ∷ 0 ∷ 0 ∷ 0 ∷ 0 ∷ 0 ∷ 5 ∷ []) ∷ [],
    ) ∷ (event.Call (l 181) 1 op.Pop, body.Ok (l 181) 1 op.Pop (codes "none") ∷ [])
    ∷ (event.Commit (l 181), body.Committing (l 181) ∷ body.Sent 43 1 2 frame.Prepare ∷ body.Prepared 1 (u 1 1 8) role.Store ∷ [])
    ∷ (
      event.Settle,
      body.Got 43 ∷ body.Prepared 2 (u 1 1 8) role.Store ∷ body.Sent 44 2 1 frame.Prepared ∷ body.Got 44 ∷ body.Committed (l 181)
          ∷ body.Sent 45 1 2 frame.Told ∷ body.Done 1 (u 1 1 8) role.Store Commit ∷ body.Told 1 (u 1 1 8) Commit part.Naming
          ∷ body.Told 1 (u 1 1 8) Commit part.Server ∷ body.Got 45 ∷ body.Done 2 (u 1 1 8) role.Store Commit
          ∷ body.Sent 46 2 1 frame.Acked ∷ body.Got 46 ∷ [],
    ) ∷ (event.Begin (l 183) 1, body.Began (l 183) kind.Top (u 1 1 10) None ∷ [])
    ∷ (event.Call (l 182) 1 op.Len, body.Granted 1 (u 1 1 9) (u 0 1 1) Read ∷ body.Conflict (l 182) (u 1 1 6) Write 1 ∷ [])
    ∷ (event.BeginIn (l 184) (l 183), body.Began (l 184) kind.Nested (u 1 1 11) (Some (l 183)) ∷ [])
    ∷ (event.Call (l 182) 1 op.Len, body.Conflict (l 182) (u 1 1 6) Write 1 ∷ [])
    ∷ (event.Call (l 183) 1 (op.Push 0), body.Granted 1 (u 1 1 10) (u 0 1 1) Read ∷ body.Conflict (l 183) (u 1 1 6) Write 1 ∷ [])
    ∷ (
      event.Commit (l 179),
      body.Ended (l 179) ∷ body.Sent 47 1 2 frame.Told ∷ body.Told 1 (u 1 1 6) Abort part.Naming
          ∷ body.Told 1 (u 1 1 6) Abort part.Server ∷ [],
    ) ∷ (event.Call (l 184) 1 (op.Push 2), body.Granted 1 (u 1 1 11) (u 0 0 1) Write ∷ body.Ok (l 184) 1 (op.Push 2) (codes "done") ∷ [])
    ∷ (event.Call (l 184) 1 op.Pop, body.Ok (l 184) 1 op.Pop (codes "2") ∷ [])
    ∷ (event.BeginIn (l 185) (l 184), body.Began (l 185) kind.Nested (u 1 1 12) (Some (l 184)) ∷ [])
    ∷ (event.BeginIn (l 186) (l 184), body.Began (l 186) kind.Nested (u 1 1 13) (Some (l 184)) ∷ [])
    ∷ (event.Deliver (Number 47), body.Got 47 ∷ []) ∷ (event.Call (l 183) 1 op.Len, body.Conflict (l 183) (u 1 1 11) Write 1 ∷ [])
    ∷ (event.Abort (l 182), body.Aborted (l 182) cause.Asked ∷ body.Told 1 (u 1 1 9) Abort part.Naming ∷ [])
    ∷ (
      event.Abort (l 183),
      body.Aborted (l 186) cause.Asked ∷ body.Aborted (l 185) cause.Asked ∷ body.Aborted (l 184) cause.Asked
          ∷ body.Aborted (l 183) cause.Asked ∷ body.Told 1 (u 1 1 11) Abort part.Server ∷ body.Told 1 (u 1 1 10) Abort part.Naming ∷ [],
    ) ∷ (event.Settle, []) ∷ (event.Begin (l 187) 2, body.Began (l 187) kind.Top (u 2 1 5) None ∷ [])
    ∷ (event.Call (l 187) 1 (op.Push 1), body.Sent 48 2 1 frame.Bind ∷ [])
    ∷ (
      event.Settle,
      body.Got 48 ∷ body.Granted 1 (u 2 1 5) (u 0 1 1) Read ∷ body.Sent 49 1 2 frame.Bound ∷ body.Got 49 ∷ body.Sent 50 2 1 frame.Invoke
          ∷ body.Got 50 ∷ body.Granted 1 (u 2 1 5) (u 0 0 1) Write ∷ body.Sent 51 1 2 frame.Invoked ∷ body.Got 51
          ∷ body.Ok (l 187) 1 (op.Push 1) (codes "done") ∷ [],
    ) ∷ (event.Deliver (Number 47), body.Got 47 ∷ []) ∷ (event.Commit (l 187), body.Committing (l 187) ∷ body.Sent 52 2 1 frame.Vote ∷ [])
    ∷ (event.Deliver (Number 52), body.Got 52 ∷ body.Sent 53 1 2 frame.Voted ∷ [])
    ∷ (event.Deliver (Number 53), body.Got 53 ∷ body.Sent 54 2 1 frame.Prepare ∷ body.Prepared 2 (u 2 1 5) role.Store ∷ [])
    ∷ (event.GiveUp (l 187), body.GaveUp (l 187) 1 ∷ body.Excluded (l 187) 1 1 ∷ body.Sent 55 2 1 frame.Confirm ∷ [])
    ∷ (
      event.Settle,
      body.Got 54 ∷ body.Prepared 1 (u 2 1 5) role.Store ∷ body.Sent 56 1 2 frame.Prepared ∷ body.Got 55
          ∷ body.Granted 1 (u 2 1 5) (u 0 1 1) Exclude ∷ body.Prepared 1 (u 2 1 5) role.Names ∷ body.Sent 57 1 2 frame.Confirmed
          ∷ body.Void 56 ∷ body.Got 57 ∷ body.Committed (l 187) ∷ body.Sent 58 2 1 frame.Told ∷ body.Done 2 (u 2 1 5) role.Store Commit
          ∷ body.Got 58 ∷ body.Done 1 (u 2 1 5) role.Store Commit ∷ body.Done 1 (u 2 1 5) role.Names Commit
          ∷ body.Told 1 (u 2 1 5) Commit part.Naming ∷ body.Told 1 (u 2 1 5) Commit part.Server ∷ body.Sent 59 1 2 frame.Acked
          ∷ body.Got 59 ∷ [],
    ) ∷ (event.Call (l 165) 279 (op.Set 0), body.Refused 6 ∷ []) ∷ (event.Settle, [])
    ∷ (event.Begin (l 191) 1, body.Began (l 191) kind.Top (u 1 1 14) None ∷ [])
    ∷ (event.BeginIn (l 192) (l 191), body.Began (l 192) kind.Nested (u 1 1 15) (Some (l 191)) ∷ [])
    ∷ (event.BeginIn (l 193) (l 191), body.Began (l 193) kind.Nested (u 1 1 16) (Some (l 191)) ∷ [])
    ∷ (
      event.Call (l 192) 1 op.Pop,
      body.Granted 1 (u 1 1 14) (u 0 1 1) Read ∷ body.Granted 1 (u 1 1 15) (u 0 0 1) Write ∷ body.Ok (l 192) 1 op.Pop (codes "1") ∷ [],
    ) ∷ (event.Call (l 193) 1 (op.Push 2), body.Conflict (l 193) (u 1 1 15) Write 1 ∷ [])
    ∷ (event.Abort (l 192), body.Aborted (l 192) cause.Asked ∷ body.Told 1 (u 1 1 15) Abort part.Server ∷ [])
    ∷ (event.Crash 1, body.Halted 1 ∷ []) ∷ (event.Restart 1, body.Up 1 2 ∷ body.Sent 60 1 2 frame.Hello ∷ [])
    ∷ (event.Restart 1, body.Refused 3 ∷ []) ∷ (event.Tick 1, []) ∷ (event.Settle, body.Got 60 ∷ []) ∷ (event.Settle, [])
    ∷ (event.BeginIn (l 194) (l 179), body.Refused 6 ∷ []) ∷ (event.Deliver (Number 52), body.Got 52 ∷ body.Sent 61 1 2 frame.Voted ∷ [])
    ∷ (event.Deliver (Number 61), body.Void 61 ∷ []) ∷ (event.Serial (l 195) 2, body.Began (l 195) kind.Serial (u 2 1 6) None ∷ [])
    ∷ (event.Tick 1, []) ∷ (event.GiveUp (l 195), body.Refused 8 ∷ []) ∷ (event.Lose Last, body.Dropped 61 ∷ [])
    ∷ (event.Stop 5 14 stop.Undone, body.Refused 1 ∷ []) ∷ (event.Serial (l 198) 1, body.Began (l 198) kind.Serial (u 1 2 1) None ∷ [])
    ∷ (event.Lose (Number 1), body.Dropped 1 ∷ []) ∷ (event.Deliver (Number 32), body.Got 32 ∷ body.Sent 62 1 2 frame.Acked ∷ [])
    ∷ (event.Top (l 200) (l 172), body.Refused 5 ∷ []) ∷ (event.Deliver (Number 62), body.Void 62 ∷ [])
    ∷ (event.Abort (l 195), body.Aborted (l 195) cause.Asked ∷ [])
    ∷ (event.BeginIn (l 204) (l 198), body.Began (l 204) kind.Constituent (u 1 2 2) (Some (l 198)) ∷ [])
    ∷ (event.Abort (l 198), body.Aborted (l 204) cause.Asked ∷ body.Aborted (l 198) cause.Asked ∷ []) ∷ (event.Settle, [])
    ∷ (event.Begin (l 201) 2, body.Began (l 201) kind.Top (u 2 1 7) None ∷ [])
    ∷ (event.Call (l 201) 1 op.Pop, body.Sent 63 2 1 frame.Bind ∷ [])
    ∷ (
      event.Deliver (Number 63),
      body.Got 63 ∷ body.Granted 1 (u 2 1 7) (u 0 1 1) Write ∷ body.Bound 1 (b 2 1) 1 ∷ body.Sent 64 1 2 frame.Bound ∷ [],
    ) ∷ (event.Deliver (Number 64), body.Got 64 ∷ body.Sent 65 2 1 frame.Activate ∷ [])
    ∷ (event.GiveUp (l 201), body.GaveUp (l 201) 1 ∷ body.Lost (l 201) 1 ∷ [])
    ∷ (event.Call (l 201) 1 op.Pop, body.Sent 66 2 1 frame.Bind ∷ []) ∷ [])

hostile_2_follows : is_followed hostile_2 ≡ true
hostile_2_follows = refl

hostile_2_has_causes : lacking hostile_2 ≡ []
hostile_2_has_causes = refl

abbrev hostile_3 : Run
hostile_3 = run
    (nodes 2 (object_line 1 (value.Account 2) (1 ∷ []) (2 ∷ [])
    ∷ object_line 2 (value.Counter 18446744073709551614) (1 ∷ 2 ∷ []) (1 ∷ 2 ∷ [])
    ∷ object_line 3 (value.Account 8) (2 ∷ []) (2 ∷ 1 ∷ []) ∷ []))
    ((event.Tick 12, body.Refused 1 ∷ []) ∷ (event.Call (l 161) 140 op.Get, body.Refused 5 ∷ [])
    ∷ (event.Begin (l 163) 2, body.Began (l 163) kind.Top (u 2 1 1) None ∷ [])
    ∷ (event.BeginIn (l 164) (l 163), body.Began (l 164) kind.Nested (u 2 1 2) (Some (l 163)) ∷ [])
    ∷ (event.BeginIn (l 165) (l 164), body.Began (l 165) kind.Nested (u 2 1 3) (Some (l 164)) ∷ [])
    ∷ (event.BeginIn (l 166) (l 165), body.Began (l 166) kind.Nested (u 2 1 4) (Some (l 165)) ∷ [])
    ∷ (event.BeginIn (l 167) (l 166), body.Began (l 167) kind.Nested (u 2 1 5) (Some (l 166)) ∷ [])
    ∷ (event.BeginIn (l 171) (l 163), body.Began (l 171) kind.Nested (u 2 1 6) (Some (l 163)) ∷ [])
    ∷ (event.Include (l 171) 1 1, body.Sent 1 2 1 frame.Bind ∷ [])
    ∷ (event.BeginIn (l 168) (l 167), body.Began (l 168) kind.Nested (u 2 1 7) (Some (l 167)) ∷ [])
    ∷ (event.BeginIn (l 169) (l 168), body.Began (l 169) kind.Nested (u 2 1 8) (Some (l 168)) ∷ [])
    ∷ (event.BeginIn (l 170) (l 169), body.Began (l 170) kind.Nested (u 2 1 9) (Some (l 169)) ∷ [])
    ∷ (event.BeginIn (l 171) (l 170), body.Refused 4 ∷ []) ∷ (event.BeginIn (l 172) (l 171), body.Refused 7 ∷ [])
    ∷ (event.BeginIn (l 173) (l 172), body.Refused 5 ∷ []) ∷ (event.BeginIn (l 174) (l 173), body.Refused 5 ∷ [])
    ∷ (event.BeginIn (l 175) (l 174), body.Refused 5 ∷ []) ∷ (event.BeginIn (l 176) (l 175), body.Refused 5 ∷ [])
    ∷ (event.BeginIn (l 177) (l 176), body.Refused 5 ∷ []) ∷ (event.BeginIn (l 178) (l 177), body.Refused 5 ∷ [])
    ∷ (event.BeginIn (l 179) (l 178), body.Refused 5 ∷ []) ∷ (event.BeginIn (l 180) (l 179), body.Refused 5 ∷ [])
    ∷ (
      event.Settle,
      body.Got 1 ∷ body.Granted 1 (u 2 1 1) (u 0 1 1) Write ∷ body.Sent 2 1 2 frame.Bound ∷ body.Got 2 ∷ body.Includes (l 171) 1 1 ∷ [],
    )
    ∷ (
      event.Abort (l 163),
      body.Aborted (l 170) cause.Asked ∷ body.Aborted (l 169) cause.Asked ∷ body.Aborted (l 168) cause.Asked
          ∷ body.Aborted (l 171) cause.Asked ∷ body.Aborted (l 167) cause.Asked ∷ body.Aborted (l 166) cause.Asked
          ∷ body.Aborted (l 165) cause.Asked ∷ body.Aborted (l 164) cause.Asked ∷ body.Aborted (l 163) cause.Asked
          ∷ body.Sent 3 2 1 frame.Told ∷ [],
    ) ∷ (event.Settle, body.Got 3 ∷ body.Told 1 (u 2 1 1) Abort part.Naming ∷ []) ∷ (event.Include (l 166) 84 2, body.Refused 6 ∷ [])
    ∷ (event.Serial (l 182) 2, body.Began (l 182) kind.Serial (u 2 1 10) None ∷ []) ∷ (event.Commit (l 182), body.Ended (l 182) ∷ [])
    ∷ (event.Settle, []) ∷ (event.Begin (l 183) 2, body.Began (l 183) kind.Top (u 2 1 11) None ∷ [])
    ∷ (event.BeginIn (l 184) (l 183), body.Began (l 184) kind.Nested (u 2 1 12) (Some (l 183)) ∷ [])
    ∷ (event.Include (l 183) 2 2, body.Sent 4 2 1 frame.Bind ∷ []) ∷ (event.BeginIn (l 185) (l 183), body.Refused 7 ∷ [])
    ∷ (event.Call (l 184) 2 (op.Add 0), body.Refused 7 ∷ []) ∷ (event.Call (l 185) 2 (op.Set 18446744073709551615), body.Refused 5 ∷ [])
    ∷ (event.Abort (l 184), body.Refused 7 ∷ []) ∷ (event.Crash 1, body.Halted 1 ∷ [])
    ∷ (event.Restart 1, body.Up 1 2 ∷ body.Sent 5 1 2 frame.Hello ∷ []) ∷ (event.Tick 2, body.Sent 6 2 1 frame.Bind ∷ [])
    ∷ (
      event.Settle,
      body.Got 4 ∷ body.Granted 1 (u 2 1 11) (u 0 1 2) Write ∷ body.Sent 7 1 2 frame.Bound ∷ body.Got 5 ∷ body.Got 6
          ∷ body.Sent 8 1 2 frame.Bound ∷ body.Got 7 ∷ body.Sent 9 2 1 frame.Load ∷ body.Void 8 ∷ body.Got 9
          ∷ body.Sent 10 1 2 frame.Loaded ∷ body.Got 10 ∷ body.Includes (l 183) 2 2 ∷ [],
    ) ∷ (event.BeginIn (l 186) (l 183), body.Began (l 186) kind.Nested (u 2 1 13) (Some (l 183)) ∷ [])
    ∷ (event.Commit (l 186), body.Committed (l 186) ∷ [])
    ∷ (
      event.Show 3,
      body.Entry 3 0 (2 ∷ []) (2 ∷ 1 ∷ []) ∷ body.Copy 1 3 0 (u 0 0 0) (0 ∷ 0 ∷ 0 ∷ 0 ∷ 0 ∷ 0 ∷ 0 ∷ 8 ∷ [])
          ∷ body.Copy 2 3 0 (u 0 0 0) (0 ∷ 0 ∷ 0 ∷ 0 ∷ 0 ∷ 0 ∷ 0 ∷ 8 ∷ []) ∷ [],
    ) ∷ (event.Call (l 184) 1 (op.Withdraw 18446744073709551615), body.Sent 11 2 1 frame.Bind ∷ [])
    ∷ (
      event.Deliver (Number 11),
      body.Got 11 ∷ body.Granted 1 (u 2 1 11) (u 0 1 1) Write ∷ body.Bound 1 (b 2 1) 1 ∷ body.Sent 12 1 2 frame.Bound ∷ [],
    ) ∷ (event.BeginIn (l 187) (l 183), body.Began (l 187) kind.Nested (u 2 1 14) (Some (l 183)) ∷ [])
    ∷ (event.Begin (l 188) 1, body.Began (l 188) kind.Top (u 1 2 1) None ∷ [])
    ∷ (
      event.Settle,
      body.Got 12 ∷ body.Sent 13 2 1 frame.Activate ∷ body.Got 13 ∷ body.Active 1 1 (b 2 1) ∷ body.Sent 14 1 2 frame.Activated
          ∷ body.Got 14 ∷ body.Sent 15 2 1 frame.Record ∷ body.Got 15 ∷ body.Lowered 1 (u 2 1 11) (u 0 1 1)
          ∷ body.Sent 16 1 2 frame.Recorded ∷ body.Got 16 ∷ body.Sent 17 2 1 frame.Invoke ∷ body.Got 17
          ∷ body.Granted 1 (u 2 1 12) (u 0 0 1) Write ∷ body.Sent 18 1 2 frame.Invoked ∷ body.Got 18
          ∷ body.Ok (l 184) 1 (op.Withdraw 18446744073709551615) (codes "short") ∷ [],
    )
    ∷ (
      event.Show 3,
      body.Entry 3 0 (2 ∷ []) (2 ∷ 1 ∷ []) ∷ body.Copy 1 3 0 (u 0 0 0) (0 ∷ 0 ∷ 0 ∷ 0 ∷ 0 ∷ 0 ∷ 0 ∷ 8 ∷ [])
          ∷ body.Copy 2 3 0 (u 0 0 0) (0 ∷ 0 ∷ 0 ∷ 0 ∷ 0 ∷ 0 ∷ 0 ∷ 8 ∷ []) ∷ [],
    ) ∷ (event.Commit (l 188), body.Committing (l 188) ∷ body.Committed (l 188) ∷ [])
    ∷ (event.Commit (l 187), body.Committed (l 187) ∷ []) ∷ (event.Call (l 184) 1 (op.Withdraw 4), body.Sent 19 2 1 frame.Invoke ∷ [])
    ∷ (event.Top (l 189) (l 183), body.Began (l 189) kind.Independent (u 2 1 15) (Some (l 183)) ∷ [])
    ∷ (event.Call (l 189) 1 op.Get, body.Sent 20 2 1 frame.Bind ∷ [])
    ∷ (event.Deliver (Number 19), body.Got 19 ∷ body.Sent 21 1 2 frame.Invoked ∷ [])
    ∷ (event.Serial (l 191) 2, body.Began (l 191) kind.Serial (u 2 1 16) None ∷ [])
    ∷ (event.Deliver (Number 21), body.Got 21 ∷ body.Ok (l 184) 1 (op.Withdraw 4) (codes "short") ∷ [])
    ∷ (event.Deliver (Number 20), body.Got 20 ∷ body.Granted 1 (u 2 1 15) (u 0 1 1) Read ∷ body.Sent 22 1 2 frame.Bound ∷ [])
    ∷ (event.Deliver (Number 22), body.Got 22 ∷ body.Sent 23 2 1 frame.Invoke ∷ [])
    ∷ (event.Deliver (Number 23), body.Got 23 ∷ body.Sent 24 1 2 frame.Invoked ∷ [])
    ∷ (event.Deliver (Number 24), body.Got 24 ∷ body.Conflict (l 189) (u 2 1 12) Write 1 ∷ [])
    ∷ (event.Call (l 183) 1 (op.Withdraw 2), body.Sent 25 2 1 frame.Invoke ∷ [])
    ∷ (event.Deliver (Number 25), body.Got 25 ∷ body.Sent 26 1 2 frame.Invoked ∷ []) ∷ (event.Abort (l 183), body.Refused 7 ∷ [])
    ∷ (event.Abort (l 189), body.Aborted (l 189) cause.Asked ∷ body.Sent 27 2 1 frame.Told ∷ [])
    ∷ (event.Begin (l 195) 1, body.Began (l 195) kind.Top (u 1 2 2) None ∷ [])
    ∷ (event.Abort (l 191), body.Aborted (l 191) cause.Asked ∷ [])
    ∷ (
      event.Settle,
      body.Got 26 ∷ body.Conflict (l 183) (u 2 1 12) Write 1 ∷ body.Got 27 ∷ body.Told 1 (u 2 1 15) Abort part.Naming ∷ [],
    ) ∷ (event.Begin (l 192) 2, body.Began (l 192) kind.Top (u 2 1 17) None ∷ [])
    ∷ (event.Call (l 192) 1 (op.Deposit 1), body.Sent 28 2 1 frame.Bind ∷ [])
    ∷ (
      event.Settle,
      body.Got 28 ∷ body.Granted 1 (u 2 1 17) (u 0 1 1) Read ∷ body.Sent 29 1 2 frame.Bound ∷ body.Got 29
          ∷ body.Sent 30 2 1 frame.Invoke ∷ body.Got 30 ∷ body.Sent 31 1 2 frame.Invoked ∷ body.Got 31
          ∷ body.Conflict (l 192) (u 2 1 12) Write 1 ∷ [],
    ) ∷ (event.Commit (l 192), body.Committing (l 192) ∷ body.Committed (l 192) ∷ body.Sent 32 2 1 frame.Told ∷ [])
    ∷ (event.Settle, body.Got 32 ∷ body.Told 1 (u 2 1 17) Abort part.Naming ∷ [])
    ∷ (event.Begin (l 196) 1, body.Began (l 196) kind.Top (u 1 2 3) None ∷ [])
    ∷ (event.Serial (l 197) 1, body.Began (l 197) kind.Serial (u 1 2 4) None ∷ [])
    ∷ (event.BeginIn (l 180) (l 184), body.Began (l 180) kind.Nested (u 2 1 18) (Some (l 184)) ∷ [])
    ∷ (event.Call (l 183) 3 op.Get, body.Sent 33 2 1 frame.Bind ∷ []) ∷ (event.Begin (l 165) 0, body.Refused 1 ∷ [])
    ∷ (event.Abort (l 171), body.Refused 6 ∷ [])
    ∷ (
      event.Deliver (Number 33),
      body.Got 33 ∷ body.Granted 1 (u 2 1 11) (u 0 1 3) Write ∷ body.Bound 3 (b 2 2) 2 ∷ body.Sent 34 1 2 frame.Bound ∷ [],
    ) ∷ (event.Top (l 199) (l 195), body.Began (l 199) kind.Independent (u 1 2 5) (Some (l 195)) ∷ [])
    ∷ (event.Call (l 195) 1 op.Get, body.Granted 1 (u 1 2 2) (u 0 1 1) Read ∷ body.Conflict (l 195) (u 2 1 12) Write 1 ∷ [])
    ∷ (event.Deliver (Number 34), body.Got 34 ∷ body.Active 2 3 (b 2 2) ∷ body.Sent 35 2 1 frame.Record ∷ [])
    ∷ (event.Deliver (Number 35), body.Got 35 ∷ body.Lowered 1 (u 2 1 11) (u 0 1 3) ∷ body.Sent 36 1 2 frame.Recorded ∷ [])
    ∷ (event.Deliver (Number 36), body.Got 36 ∷ body.Granted 2 (u 2 1 11) (u 0 0 3) Read ∷ body.Ok (l 183) 3 op.Get (codes "8") ∷ [])
    ∷ (event.Deliver (Number 33), body.Got 33 ∷ body.Sent 37 1 2 frame.Bound ∷ [])
    ∷ (event.Commit (l 196), body.Committing (l 196) ∷ body.Committed (l 196) ∷ [])
    ∷ (event.Include (l 184) 1 1, body.Sent 38 2 1 frame.Bind ∷ []) ∷ (event.Deliver (Number 37), body.Void 37 ∷ [])
    ∷ (event.Deliver (Number 38), body.Got 38 ∷ body.Sent 39 1 2 frame.Bound ∷ [])
    ∷ (event.Call (l 195) 2 op.Get, body.Conflict (l 195) (u 2 1 11) Write 1 ∷ [])
    ∷ (event.Deliver (Number 39), body.Got 39 ∷ body.Conflict (l 184) (u 1 2 2) Read 1 ∷ [])
    ∷ (event.Call (l 195) 1 (op.Withdraw 2), body.Conflict (l 195) (u 2 1 12) Write 1 ∷ [])
    ∷ (event.Deliver (Number 14), body.Void 14 ∷ [])
    ∷ (event.Call (l 199) 1 op.Get, body.Granted 1 (u 1 2 5) (u 0 1 1) Read ∷ body.Conflict (l 199) (u 2 1 12) Write 1 ∷ [])
    ∷ (event.Commit (l 195), body.Committing (l 195) ∷ body.Committed (l 195) ∷ body.Told 1 (u 1 2 2) Abort part.Naming ∷ [])
    ∷ (event.Settle, []) ∷ (event.Begin (l 201) 2, body.Began (l 201) kind.Top (u 2 1 19) None ∷ [])
    ∷ (event.Call (l 201) 2 (op.Add 0), body.Sent 40 2 1 frame.Bind ∷ [])
    ∷ (event.Deliver (Number 40), body.Got 40 ∷ body.Sent 41 1 2 frame.Bound ∷ [])
    ∷ (event.Deliver (Number 41), body.Got 41 ∷ body.Conflict (l 201) (u 2 1 11) Write 1 ∷ [])
    ∷ (event.Call (l 201) 2 (op.Add 0), body.Sent 42 2 1 frame.Bind ∷ [])
    ∷ (event.Settle, body.Got 42 ∷ body.Sent 43 1 2 frame.Bound ∷ body.Got 43 ∷ body.Conflict (l 201) (u 2 1 11) Write 1 ∷ [])
    ∷ (event.Crash 1, body.Halted 1 ∷ []) ∷ (event.Restart 1, body.Up 1 3 ∷ body.Sent 44 1 2 frame.Hello ∷ [])
    ∷ (event.Settle, body.Got 44 ∷ []) ∷ (event.Begin (l 202) 1, body.Began (l 202) kind.Top (u 1 3 1) None ∷ [])
    ∷ (
      event.Call (l 202) 2 (op.Set 4),
      body.Granted 1 (u 1 3 1) (u 0 1 2) Write ∷ body.Bound 2 (b 3 1) 1 ∷ body.Active 1 2 (b 3 1) ∷ body.Lowered 1 (u 1 3 1) (u 0 1 2)
          ∷ body.Granted 1 (u 1 3 1) (u 0 0 2) Write ∷ body.Ok (l 202) 2 (op.Set 4) (codes "done") ∷ [],
    ) ∷ (event.Settle, [])
    ∷ (event.Commit (l 202), body.Committing (l 202) ∷ body.Sent 45 1 2 frame.Prepare ∷ body.Prepared 1 (u 1 3 1) role.Store ∷ [])
    ∷ (
      event.Settle,
      body.Got 45 ∷ body.Prepared 2 (u 1 3 1) role.Store ∷ body.Sent 46 2 1 frame.Prepared ∷ body.Got 46 ∷ body.Committed (l 202)
          ∷ body.Sent 47 1 2 frame.Told ∷ body.Done 1 (u 1 3 1) role.Store Commit ∷ body.Told 1 (u 1 3 1) Commit part.Naming
          ∷ body.Told 1 (u 1 3 1) Commit part.Server ∷ body.Got 47 ∷ body.Done 2 (u 1 3 1) role.Store Commit
          ∷ body.Sent 48 2 1 frame.Acked ∷ body.Got 48 ∷ [],
    ) ∷ (event.Commit (l 201), body.Committing (l 201) ∷ body.Committed (l 201) ∷ body.Sent 49 2 1 frame.Told ∷ [])
    ∷ (event.Settle, body.Got 49 ∷ []) ∷ (event.Serial (l 204) 2, body.Began (l 204) kind.Serial (u 2 1 20) None ∷ [])
    ∷ (event.BeginIn (l 205) (l 204), body.Began (l 205) kind.Constituent (u 2 1 21) (Some (l 204)) ∷ [])
    ∷ (
      event.Call (l 183) 3 (op.Withdraw 0),
      body.Granted 2 (u 2 1 11) (u 0 0 3) Write ∷ body.Ok (l 183) 3 (op.Withdraw 0) (codes "done") ∷ [],
    ) ∷ (event.Tick 1, []) ∷ (event.Call (l 184) 1 (op.Withdraw 2), body.Sent 50 2 1 frame.Invoke ∷ [])
    ∷ (event.Deliver (Number 50), body.Got 50 ∷ body.Sent 51 1 2 frame.Invoked ∷ [])
    ∷ (event.Begin (l 206) 2, body.Began (l 206) kind.Top (u 2 1 22) None ∷ [])
    ∷ (event.BeginIn (l 207) (l 206), body.Began (l 207) kind.Nested (u 2 1 23) (Some (l 206)) ∷ [])
    ∷ (event.BeginIn (l 208) (l 207), body.Began (l 208) kind.Nested (u 2 1 24) (Some (l 207)) ∷ [])
    ∷ (event.BeginIn (l 209) (l 208), body.Began (l 209) kind.Nested (u 2 1 25) (Some (l 208)) ∷ [])
    ∷ (event.BeginIn (l 210) (l 209), body.Began (l 210) kind.Nested (u 2 1 26) (Some (l 209)) ∷ [])
    ∷ (event.BeginIn (l 211) (l 210), body.Began (l 211) kind.Nested (u 2 1 27) (Some (l 210)) ∷ [])
    ∷ (event.BeginIn (l 212) (l 211), body.Began (l 212) kind.Nested (u 2 1 28) (Some (l 211)) ∷ [])
    ∷ (event.BeginIn (l 213) (l 212), body.Began (l 213) kind.Nested (u 2 1 29) (Some (l 212)) ∷ [])
    ∷ (event.BeginIn (l 214) (l 213), body.Began (l 214) kind.Nested (u 2 1 30) (Some (l 213)) ∷ [])
    ∷ (event.BeginIn (l 215) (l 214), body.Began (l 215) kind.Nested (u 2 1 31) (Some (l 214)) ∷ [])
    ∷ (event.BeginIn (l 216) (l 215), body.Began (l 216) kind.Nested (u 2 1 32) (Some (l 215)) ∷ [])
    ∷ (event.BeginIn (l 217) (l 216), body.Began (l 217) kind.Nested (u 2 1 33) (Some (l 216)) ∷ [])
    ∷ (event.BeginIn (l 218) (l 217), body.Began (l 218) kind.Nested (u 2 1 34) (Some (l 217)) ∷ [])
    ∷ (event.BeginIn (l 219) (l 218), body.Began (l 219) kind.Nested (u 2 1 35) (Some (l 218)) ∷ [])
    ∷ (event.BeginIn (l 220) (l 219), body.Began (l 220) kind.Nested (u 2 1 36) (Some (l 219)) ∷ [])
    ∷ (event.BeginIn (l 221) (l 220), body.Began (l 221) kind.Nested (u 2 1 37) (Some (l 220)) ∷ [])
    ∷ (event.BeginIn (l 222) (l 221), body.Refused 15 ∷ []) ∷ (event.BeginIn (l 223) (l 222), body.Refused 5 ∷ [])
    ∷ (event.Settle, body.Got 51 ∷ body.Changed (l 184) 1 (difference.Inc 2 3) ∷ [])
    ∷ (
      event.Abort (l 206),
      body.Aborted (l 221) cause.Asked ∷ body.Aborted (l 220) cause.Asked ∷ body.Aborted (l 219) cause.Asked
          ∷ body.Aborted (l 218) cause.Asked ∷ body.Aborted (l 217) cause.Asked ∷ body.Aborted (l 216) cause.Asked
          ∷ body.Aborted (l 215) cause.Asked ∷ body.Aborted (l 214) cause.Asked ∷ body.Aborted (l 213) cause.Asked
          ∷ body.Aborted (l 212) cause.Asked ∷ body.Aborted (l 211) cause.Asked ∷ body.Aborted (l 210) cause.Asked
          ∷ body.Aborted (l 209) cause.Asked ∷ body.Aborted (l 208) cause.Asked ∷ body.Aborted (l 207) cause.Asked
          ∷ body.Aborted (l 206) cause.Asked ∷ [],
    ) ∷ (event.BeginIn (l 224) (l 197), body.Refused 6 ∷ []) ∷ (event.Call (l 180) 2 (op.Set 3), body.Sent 52 2 1 frame.Bind ∷ [])
    ∷ (event.Begin (l 225) 1, body.Began (l 225) kind.Top (u 1 3 2) None ∷ []) ∷ (event.BeginIn (l 226) (l 180), body.Refused 7 ∷ [])
    ∷ (event.Begin (l 227) 2, body.Began (l 227) kind.Top (u 2 1 38) None ∷ [])
    ∷ (event.Deliver (Number 52), body.Got 52 ∷ body.Granted 1 (u 2 1 11) (u 0 1 2) Read ∷ body.Sent 53 1 2 frame.Bound ∷ [])
    ∷ (event.Lose Last, body.Dropped 53 ∷ []) ∷ (event.Begin (l 202) 5, body.Refused 1 ∷ [])
    ∷ (event.GiveUp (l 180), body.GaveUp (l 180) 1 ∷ body.Lost (l 180) 1 ∷ [])
    ∷ (event.Show 1, body.Entry 1 0 (1 ∷ []) (2 ∷ []) ∷ body.Copy 2 1 0 (u 0 0 0) (0 ∷ 0 ∷ 0 ∷ 0 ∷ 0 ∷ 0 ∷ 0 ∷ 2 ∷ []) ∷ [])
    ∷ (event.Call (l 180) 1 op.Get, body.Sent 54 2 1 frame.Invoke ∷ []) ∷ [])

hostile_3_follows : is_followed hostile_3 ≡ true
hostile_3_follows = refl

hostile_3_has_causes : lacking hostile_3 ≡ []
hostile_3_has_causes = refl

abbrev hostile_4 : Run
hostile_4 = run
    (nodes 3 (object_line 1 (value.Register (48 ∷ 240 ∷ [])) (3 ∷ []) (1 ∷ 2 ∷ [])
    ∷ object_line 2 (value.Account 6) (2 ∷ []) (3 ∷ 2 ∷ 1 ∷ []) ∷ object_line 3 (value.Queue (6 ∷ 2 ∷ [])) (1 ∷ 3 ∷ 2 ∷ []) (1 ∷ [])
    ∷ object_line 4 (value.Register (32 ∷ 20 ∷ 222 ∷ 247 ∷ 236 ∷ 235 ∷ 53 ∷ 14 ∷ 98 ∷ 4 ∷ 216 ∷ 47 ∷ 241 ∷ 240 ∷ 31 ∷ 128 ∷ 210 ∷ 60 ∷ 4
    ∷ 91 ∷ 228 ∷ 244 ∷ 208 ∷ 240 ∷ 153 ∷ 180 ∷ 37 ∷ 38 ∷ 130 ∷ 201 ∷ 50 ∷ 152 ∷ 29 ∷ 103 ∷ 111 ∷ 55 ∷ 132 ∷ 183 ∷ 40 ∷ 225 ∷ 115
    ∷ 165 ∷ 160 ∷ 141 ∷ 179 ∷ 88 ∷ 161 ∷ 33 ∷ 77 ∷ 152 ∷ 70 ∷ 52 ∷ 152 ∷ 24 ∷ 215 ∷ 229 ∷ 222 ∷ 205 ∷ 53 ∷ 76 ∷ 178 ∷ 43 ∷ 159
    ∷ 64 ∷ [])) (3 ∷ 2 ∷ []) (3 ∷ 2 ∷ [])
    ∷ object_line 5 (value.Account 1) (2 ∷ []) (3 ∷ 1 ∷ [])
    ∷ object_line 6 (value.Queue (1 ∷ 1 ∷ 7 ∷ 5 ∷ 3 ∷ 0 ∷ 1 ∷ 1 ∷ 3 ∷ 6 ∷ 5 ∷ 6 ∷ 7 ∷ 5 ∷ 5 ∷ 2 ∷ 1 ∷ 5 ∷ 8 ∷ 3 ∷ 8 ∷ 4 ∷ 0 ∷ 2 ∷ 4 ∷ 2
    ∷ 2 ∷ 0 ∷ 6 ∷ 8 ∷ 0 ∷ 0 ∷ [])) (1 ∷ 3 ∷ []) (3 ∷ 1 ∷ 2 ∷ [])
    ∷ object_line 7 (value.Register (204 ∷ 186 ∷ 223 ∷ 35 ∷ 176 ∷ 28 ∷ 201 ∷ 214 ∷ 98 ∷ 29 ∷ 200 ∷ 84 ∷ 193 ∷ 30 ∷ 136 ∷ 237 ∷ 233 ∷ 158
    ∷ 198 ∷ 78 ∷ 236 ∷ 156 ∷ 142 ∷ 107 ∷ 228 ∷ 226 ∷ 109 ∷ 101 ∷ 114 ∷ 85 ∷ 218 ∷ 14 ∷ 221 ∷ 135 ∷ 58 ∷ 25 ∷ 81 ∷ 89 ∷ 150 ∷ 49
    ∷ 29 ∷ 215 ∷ 28 ∷ 20 ∷ 122 ∷ 242 ∷ 147 ∷ 48 ∷ 16 ∷ 218 ∷ 230 ∷ 0 ∷ 81 ∷ 228 ∷ 163 ∷ 30 ∷ 178 ∷ 224 ∷ 175 ∷ 163 ∷ 194 ∷ 181
    ∷ 52 ∷ 201 ∷ [])) (2 ∷ []) (3 ∷ [])
    ∷ object_line 8 (value.Account 0) (3 ∷ 2 ∷ []) (3 ∷ 1 ∷ []) ∷ object_line 9 (value.Table []) (3 ∷ []) (3 ∷ 2 ∷ 1 ∷ [])
    ∷ object_line 10 (value.Account 0) (2 ∷ 3 ∷ 1 ∷ []) (2 ∷ 1 ∷ 3 ∷ [])
    ∷ object_line 11 (value.Counter 8) (3 ∷ 1 ∷ []) (3 ∷ 2 ∷ 1 ∷ []) ∷ object_line 12 (value.Account 8) (1 ∷ 2 ∷ []) (2 ∷ [])
    ∷ object_line 13 (value.Counter 3) (2 ∷ 1 ∷ 3 ∷ []) (1 ∷ 3 ∷ [])
    ∷ object_line 14 (value.Table ((0, 7) ∷ (1, 6) ∷ [])) (3 ∷ 2 ∷ 1 ∷ []) (3 ∷ 1 ∷ [])
    ∷ object_line 15 (value.Register (203 ∷ 77 ∷ 20 ∷ 136 ∷ 146 ∷ 224 ∷ 80 ∷ 129 ∷ 153 ∷ 111 ∷ 99 ∷ 19 ∷ 5 ∷ 28 ∷ 137 ∷ 252 ∷ 55 ∷ 254
    ∷ 176 ∷ 229 ∷ 127 ∷ 245 ∷ 169 ∷ 152 ∷ 80 ∷ 14 ∷ 241 ∷ 126 ∷ 206 ∷ 198 ∷ 59 ∷ 249 ∷ 245 ∷ 179 ∷ 102 ∷ 218 ∷ 154 ∷ 159 ∷ 230
    ∷ 67 ∷ 35 ∷ 39 ∷ 215 ∷ 185 ∷ 216 ∷ 233 ∷ 68 ∷ 198 ∷ 217 ∷ 123 ∷ 255 ∷ 120 ∷ 185 ∷ 173 ∷ 22 ∷ 96 ∷ 43 ∷ 95 ∷ 30 ∷ 134 ∷ 22 ∷ 80
    ∷ 225 ∷ 68 ∷ [])) (1 ∷ 2 ∷ []) (1 ∷ 3 ∷ [])
    ∷ object_line 16 (value.Counter 6) (2 ∷ 3 ∷ []) (2 ∷ 3 ∷ 1 ∷ [])
    ∷ object_line 17 (value.Register (250 ∷ 53 ∷ 100 ∷ [])) (1 ∷ 2 ∷ 3 ∷ []) (1 ∷ 3 ∷ [])
    ∷ object_line 18 (value.Account 4) (3 ∷ 1 ∷ []) (3 ∷ 2 ∷ []) ∷ []))
    ((event.BeginIn (l 161) (l 161), body.Refused 5 ∷ []) ∷ (event.Stop 1 32 stop.Undone, body.Armed 1 ∷ [])
    ∷ (event.Show 66, body.Refused 13 ∷ []) ∷ (event.Begin (l 162) 3, body.Began (l 162) kind.Top (u 3 1 1) None ∷ [])
    ∷ (event.BeginIn (l 163) (l 162), body.Began (l 163) kind.Nested (u 3 1 2) (Some (l 162)) ∷ [])
    ∷ (event.BeginIn (l 164) (l 163), body.Began (l 164) kind.Nested (u 3 1 3) (Some (l 163)) ∷ [])
    ∷ (event.Call (l 162) 1 op.Get, body.Sent 1 3 1 frame.Bind ∷ [])
    ∷ (
      event.Deliver (Number 1),
      body.Got 1 ∷ body.Granted 1 (u 3 1 1) (u 0 1 1) Write ∷ body.Bound 1 (b 1 1) 3 ∷ body.Sent 2 1 3 frame.Bound ∷ [],
    ) ∷ (event.Abort (l 161), body.Refused 5 ∷ []) ∷ (event.Lose (Number 2), body.Dropped 2 ∷ []) ∷ (event.Settle, [])
    ∷ (event.Begin (l 166) 1, body.Began (l 166) kind.Top (u 1 1 1) None ∷ [])
    ∷ (event.BeginIn (l 167) (l 166), body.Began (l 167) kind.Nested (u 1 1 2) (Some (l 166)) ∷ [])
    ∷ (event.BeginIn (l 168) (l 166), body.Began (l 168) kind.Nested (u 1 1 3) (Some (l 166)) ∷ [])
    ∷ (event.Call (l 167) 1 (op.Put (201 ∷ [])), body.Conflict (l 167) (u 3 1 1) Write 1 ∷ [])
    ∷ (event.Call (l 168) 1 (op.Put (11 ∷ 162 ∷ [])), body.Conflict (l 168) (u 3 1 1) Write 1 ∷ [])
    ∷ (event.Abort (l 167), body.Aborted (l 167) cause.Asked ∷ []) ∷ (event.Crash 1, body.Halted 1 ∷ [])
    ∷ (event.Restart 1, body.Up 1 2 ∷ body.Sent 3 1 2 frame.Hello ∷ body.Sent 4 1 3 frame.Hello ∷ []) ∷ (event.Tick 1, [])
    ∷ (event.Deliver (Number 3), body.Got 3 ∷ []) ∷ (event.Settle, body.Got 4 ∷ [])
    ∷ (
      event.Show 2,
      body.Entry 2 0 (2 ∷ []) (3 ∷ 2 ∷ 1 ∷ []) ∷ body.Copy 1 2 0 (u 0 0 0) (0 ∷ 0 ∷ 0 ∷ 0 ∷ 0 ∷ 0 ∷ 0 ∷ 6 ∷ [])
          ∷ body.Copy 2 2 0 (u 0 0 0) (0 ∷ 0 ∷ 0 ∷ 0 ∷ 0 ∷ 0 ∷ 0 ∷ 6 ∷ []) ∷ body.Copy 3 2 0 (u 0 0 0) (0 ∷ 0 ∷ 0 ∷ 0 ∷ 0 ∷ 0 ∷ 0 ∷ 6
          ∷ []) ∷ [],
    ) ∷ (event.Begin (l 164) 2, body.Refused 4 ∷ []) ∷ (event.Commit (l 167), body.Refused 6 ∷ [])
    ∷ (
      event.Deliver (Number 1),
      body.Got 1 ∷ body.Granted 1 (u 3 1 1) (u 0 1 1) Write ∷ body.Bound 1 (b 2 1) 3 ∷ body.Sent 5 1 3 frame.Bound ∷ [],
    ) ∷ (event.Deliver (Number 2), body.Got 2 ∷ body.Sent 6 3 1 frame.Load ∷ []) ∷ (event.Deliver (Number 5), body.Void 5 ∷ [])
    ∷ (event.Deliver (Number 6), body.Got 6 ∷ body.Sent 7 1 3 frame.Loaded ∷ [])
    ∷ (event.Deliver (Number 7), body.Got 7 ∷ body.Active 3 1 (b 1 1) ∷ body.Sent 8 3 1 frame.Record ∷ [])
    ∷ (event.GiveUp (l 162), body.GaveUp (l 162) 1 ∷ body.Lost (l 162) 1 ∷ [])
    ∷ (event.Deliver (Number 8), body.Got 8 ∷ body.Sent 9 1 3 frame.Recorded ∷ [])
    ∷ (event.Call (l 163) 14 (op.GetKey 15), body.Sent 10 3 1 frame.Bind ∷ []) ∷ (event.Deliver (Number 9), body.Void 9 ∷ [])
    ∷ (event.Stop 1 6 stop.Undone, body.Armed 1 ∷ [])
    ∷ (
      event.Deliver (Number 10),
      body.Got 10 ∷ body.Granted 1 (u 3 1 1) (u 0 1 14) Write ∷ body.Bound 14 (b 2 2) 3 ∷ body.Sent 11 1 3 frame.Bound ∷ [],
    )
    ∷ (
      event.Settle,
      body.Got 11 ∷ body.Active 3 14 (b 2 2) ∷ body.Sent 12 3 1 frame.Record ∷ body.Got 12 ∷ body.Lowered 1 (u 3 1 1) (u 0 1 14)
          ∷ body.Sent 13 1 3 frame.Recorded ∷ body.Got 13 ∷ body.Granted 3 (u 3 1 2) (u 0 0 14) Read
          ∷ body.Ok (l 163) 14 (op.GetKey 15) (codes "none") ∷ [],
    ) ∷ (event.Lose (Number 1), body.Dropped 1 ∷ []) ∷ (event.Call (l 162) 1 op.Get, body.Sent 14 3 1 frame.Bind ∷ [])
    ∷ (event.Deliver (Number 14), body.Got 14 ∷ body.Sent 15 1 3 frame.Bound ∷ []) ∷ (event.Deliver (Number 13), body.Void 13 ∷ [])
    ∷ (event.GiveUp (l 162), body.GaveUp (l 162) 1 ∷ body.Lost (l 162) 1 ∷ []) ∷ (event.Stop 3 3 stop.Undone, body.Armed 3 ∷ [])
    ∷ (event.Top (l 172) (l 162), body.Began (l 172) kind.Independent (u 3 1 4) (Some (l 162)) ∷ [])
    ∷ (event.Call (l 164) 1 (op.Put (51 ∷ [])), body.Sent 16 3 1 frame.Bind ∷ [])
    ∷ (
      event.Settle,
      body.Void 15 ∷ body.Got 16 ∷ body.Sent 17 1 3 frame.Bound ∷ body.Got 17 ∷ body.Sent 18 3 1 frame.Load ∷ body.Got 18
          ∷ body.Sent 19 1 3 frame.Loaded ∷ body.Got 19 ∷ body.Active 3 1 (b 2 1) ∷ body.Sent 20 3 1 frame.Record ∷ body.Got 20
          ∷ body.Lowered 1 (u 3 1 1) (u 0 1 1) ∷ body.Sent 21 1 3 frame.Recorded ∷ body.Got 21
          ∷ body.Granted 3 (u 3 1 3) (u 0 0 1) Write ∷ body.Ok (l 164) 1 (op.Put (51 ∷ [])) (codes "done") ∷ [],
    ) ∷ (event.Begin (l 173) 1, body.Began (l 173) kind.Top (u 1 2 1) None ∷ [])
    ∷ (event.BeginIn (l 176) (l 164), body.Began (l 176) kind.Nested (u 3 1 5) (Some (l 164)) ∷ [])
    ∷ (
      event.Call (l 173) 3 (op.Push 0),
      body.Granted 1 (u 1 2 1) (u 0 1 3) Write ∷ body.Bound 3 (b 2 3) 1 ∷ body.Active 1 3 (b 2 3) ∷ body.Lowered 1 (u 1 2 1) (u 0 1 3)
          ∷ body.Granted 1 (u 1 2 1) (u 0 0 3) Write ∷ body.Ok (l 173) 3 (op.Push 0) (codes "done") ∷ [],
    ) ∷ (event.Settle, []) ∷ (event.Commit (l 173), body.Committing (l 173) ∷ body.Halted 1 ∷ []) ∷ (event.Settle, [])
    ∷ (event.Restart 1, body.Up 1 3 ∷ body.Sent 22 1 2 frame.Hello ∷ body.Sent 23 1 3 frame.Hello ∷ [])
    ∷ (event.Deliver (Number 9), body.Void 9 ∷ []) ∷ (event.Deliver (Number 22), body.Got 22 ∷ [])
    ∷ (event.Call (l 164) 1 op.Get, body.Ok (l 164) 1 op.Get (codes "33") ∷ []) ∷ (event.Deliver (Number 23), body.Got 23 ∷ [])
    ∷ (event.BeginIn (l 177) (l 163), body.Began (l 177) kind.Nested (u 3 1 6) (Some (l 163)) ∷ [])
    ∷ (event.BeginIn (l 178) (l 163), body.Began (l 178) kind.Nested (u 3 1 7) (Some (l 163)) ∷ [])
    ∷ (event.Call (l 163) 8 (op.Withdraw 4), body.Sent 24 3 1 frame.Bind ∷ []) ∷ (event.Lose (Number 24), body.Dropped 24 ∷ [])
    ∷ (event.Include (l 172) 1 3, body.Sent 25 3 1 frame.Bind ∷ []) ∷ (event.Tick 2, [])
    ∷ (
      event.Settle,
      body.Got 25 ∷ body.Granted 1 (u 3 1 4) (u 0 1 1) Write ∷ body.Sent 26 1 3 frame.Bound ∷ body.Got 26 ∷ body.Sent 27 3 1 frame.Load
          ∷ body.Got 27 ∷ body.Sent 28 1 3 frame.Loaded ∷ body.Got 28 ∷ body.Includes (l 172) 1 3 ∷ [],
    ) ∷ (event.Begin (l 179) 2, body.Began (l 179) kind.Top (u 2 1 1) None ∷ [])
    ∷ (event.Call (l 179) 1 (op.Put (187 ∷ [])), body.Sent 29 2 1 frame.Bind ∷ [])
    ∷ (event.Deliver (Number 29), body.Got 29 ∷ body.Sent 30 1 2 frame.Bound ∷ [])
    ∷ (event.Deliver (Number 30), body.Got 30 ∷ body.Conflict (l 179) (u 3 1 4) Write 1 ∷ [])
    ∷ (event.GiveUp (l 179), body.Refused 8 ∷ []) ∷ (event.Call (l 179) 1 (op.Put (187 ∷ [])), body.Sent 31 2 1 frame.Bind ∷ [])
    ∷ (event.Settle, body.Got 31 ∷ body.Sent 32 1 2 frame.Bound ∷ body.Got 32 ∷ body.Conflict (l 179) (u 3 1 4) Write 1 ∷ [])
    ∷ (event.Crash 1, body.Halted 1 ∷ [])
    ∷ (event.Restart 1, body.Up 1 4 ∷ body.Sent 33 1 2 frame.Hello ∷ body.Sent 34 1 3 frame.Hello ∷ [])
    ∷ (event.Settle, body.Got 33 ∷ body.Got 34 ∷ []) ∷ (event.Begin (l 180) 2, body.Began (l 180) kind.Top (u 2 1 2) None ∷ [])
    ∷ (event.Call (l 180) 1 (op.Put (51 ∷ 196 ∷ [])), body.Sent 35 2 1 frame.Bind ∷ [])
    ∷ (
      event.Settle,
      body.Got 35 ∷ body.Granted 1 (u 2 1 2) (u 0 1 1) Write ∷ body.Bound 1 (b 4 1) 3 ∷ body.Sent 36 1 2 frame.Bound ∷ body.Got 36
          ∷ body.Sent 37 2 1 frame.Load ∷ body.Got 37 ∷ body.Sent 38 1 2 frame.Loaded ∷ body.Got 38 ∷ body.Sent 39 2 3 frame.Activate
          ∷ body.Got 39 ∷ body.Active 3 1 (b 4 1) ∷ body.Sent 40 3 2 frame.Activated ∷ body.Got 40 ∷ body.Sent 41 2 1 frame.Record
          ∷ body.Got 41 ∷ body.Lowered 1 (u 2 1 2) (u 0 1 1) ∷ body.Sent 42 1 2 frame.Recorded ∷ body.Got 42
          ∷ body.Sent 43 2 3 frame.Invoke ∷ body.Got 43 ∷ body.Granted 3 (u 2 1 2) (u 0 0 1) Write ∷ body.Sent 44 3 2 frame.Invoked
          ∷ body.Got 44 ∷ body.Ok (l 180) 1 (op.Put (51 ∷ 196 ∷ [])) (codes "done") ∷ [],
    ) ∷ (event.Commit (l 180), body.Committing (l 180) ∷ body.Sent 45 2 3 frame.Vote ∷ [])
    ∷ (
      event.Settle,
      body.Got 45 ∷ body.Sent 46 3 2 frame.Voted ∷ body.Got 46 ∷ body.Sent 47 2 1 frame.Prepare ∷ body.Prepared 2 (u 2 1 2) role.Store
          ∷ body.Got 47 ∷ body.Prepared 1 (u 2 1 2) role.Store ∷ body.Sent 48 1 2 frame.Prepared ∷ body.Got 48
          ∷ body.Sent 49 2 1 frame.Confirm ∷ body.Got 49 ∷ body.Sent 50 1 2 frame.Confirmed ∷ body.Got 50 ∷ body.Committed (l 180)
          ∷ body.Sent 51 2 1 frame.Told ∷ body.Sent 52 2 3 frame.Told ∷ body.Done 2 (u 2 1 2) role.Store Commit ∷ body.Got 51
          ∷ body.Done 1 (u 2 1 2) role.Store Commit ∷ body.Told 1 (u 2 1 2) Commit part.Naming ∷ body.Sent 53 1 2 frame.Acked
          ∷ body.Got 52 ∷ body.Told 3 (u 2 1 2) Commit part.Server ∷ body.Sent 54 3 2 frame.Acked ∷ body.Got 53 ∷ body.Got 54 ∷ [],
    ) ∷ (event.Commit (l 179), body.Committing (l 179) ∷ body.Committed (l 179) ∷ body.Sent 55 2 1 frame.Told ∷ [])
    ∷ (event.Settle, body.Got 55 ∷ []) ∷ (event.Call (l 172) 16 (op.Add 0), body.Sent 56 3 1 frame.Bind ∷ [])
    ∷ (
      event.Deliver (Number 56),
      body.Got 56 ∷ body.Granted 1 (u 3 1 4) (u 0 1 16) Write ∷ body.Bound 16 (b 4 2) 2 ∷ body.Sent 57 1 3 frame.Bound ∷ [],
    ) ∷ (event.Abort (l 182), body.Refused 5 ∷ []) ∷ (event.Deliver (Number 57), body.Got 57 ∷ body.Sent 58 3 2 frame.Load ∷ [])
    ∷ (event.Include (l 181) 13 3, body.Refused 5 ∷ []) ∷ (event.Deliver (Number 58), body.Got 58 ∷ body.Sent 59 2 3 frame.Loaded ∷ [])
    ∷ (event.Deliver (Number 59), body.Got 59 ∷ body.Sent 60 3 2 frame.Activate ∷ [])
    ∷ (event.GiveUp (l 172), body.GaveUp (l 172) 2 ∷ body.Lost (l 172) 2 ∷ []) ∷ (event.Stop 13 24 stop.Undone, body.Refused 1 ∷ [])
    ∷ (event.Deliver (Number 60), body.Got 60 ∷ body.Active 2 16 (b 4 2) ∷ body.Sent 61 2 3 frame.Activated ∷ [])
    ∷ (event.Commit (l 172), body.Committing (l 172) ∷ body.Halted 3 ∷ []) ∷ (event.Deliver (Number 61), body.Void 61 ∷ [])
    ∷ (event.Commit (l 171), body.Refused 5 ∷ []) ∷ (event.Tick 11, body.Refused 1 ∷ [])
    ∷ (event.Serial (l 186) 1, body.Began (l 186) kind.Serial (u 1 4 1) None ∷ [])
    ∷ (event.Abort (l 186), body.Aborted (l 186) cause.Asked ∷ [])
    ∷ (event.Serial (l 187) 1, body.Began (l 187) kind.Serial (u 1 4 2) None ∷ []) ∷ (event.Deliver (Number 50), body.Void 50 ∷ [])
    ∷ (event.Stop 2 28 (stop.Torn (54 ∷ 155 ∷ 113 ∷ [])), body.Armed 2 ∷ [])
    ∷ (event.BeginIn (l 188) (l 187), body.Began (l 188) kind.Constituent (u 1 4 3) (Some (l 187)) ∷ [])
    ∷ (event.Include (l 188) 16 8, body.Refused 1 ∷ [])
    ∷ (event.Include (l 188) 1 3, body.Granted 1 (u 1 4 3) (u 0 1 1) Write ∷ body.Includes (l 188) 1 3 ∷ [])
    ∷ (event.Stop 9 1 stop.Undone, body.Refused 1 ∷ [])
    ∷ (event.Commit (l 188), body.Committing (l 188) ∷ body.Sent 62 1 3 frame.Prepare ∷ [])
    ∷ (event.Deliver (Number 62), body.Void 62 ∷ []) ∷ (event.Deliver (Number 46), body.Void 46 ∷ [])
    ∷ (event.Call (l 178) 17 (op.Put []), body.Refused 6 ∷ [])
    ∷ (event.BeginIn (l 191) (l 187), body.Began (l 191) kind.Constituent (u 1 4 4) (Some (l 187)) ∷ [])
    ∷ (event.Deliver (Number 59), body.Void 59 ∷ []) ∷ (event.Abort (l 171), body.Refused 5 ∷ [])
    ∷ (
      event.Call (l 191) 7 (op.Put []),
      body.Granted 1 (u 1 4 4) (u 0 1 7) Write ∷ body.Bound 7 (b 4 3) 2 ∷ body.Sent 63 1 3 frame.Load ∷ [],
    ) ∷ (event.BeginIn (l 192) (l 187), body.Began (l 192) kind.Constituent (u 1 4 5) (Some (l 187)) ∷ [])
    ∷ (event.Restart 1, body.Refused 3 ∷ []) ∷ (event.Deliver (Number 63), body.Void 63 ∷ [])
    ∷ (event.Deliver (Number 29), body.Void 29 ∷ [])
    ∷ (event.Show 9, body.Entry 9 0 (3 ∷ []) (3 ∷ 2 ∷ 1 ∷ []) ∷ body.Copy 1 9 0 (u 0 0 0) [] ∷ body.Copy 2 9 0 (u 0 0 0) [] ∷ [])
    ∷ (event.GiveUp (l 191), body.GaveUp (l 191) 3 ∷ body.Lost (l 191) 3 ∷ []) ∷ (event.Crash 2, body.Halted 2 ∷ [])
    ∷ (event.Top (l 170) (l 191), body.Began (l 170) kind.Independent (u 1 4 6) (Some (l 191)) ∷ [])
    ∷ (event.Call (l 170) 1 op.Get, body.Conflict (l 170) (u 1 4 3) Write 1 ∷ []) ∷ (event.Abort (l 187), body.Refused 7 ∷ [])
    ∷ (event.Abort (l 170), body.Aborted (l 170) cause.Asked ∷ []) ∷ (event.Settle, [])
    ∷ (event.Begin (l 194) 1, body.Began (l 194) kind.Top (u 1 4 7) None ∷ [])
    ∷ (event.Call (l 194) 1 (op.Put (73 ∷ [])), body.Conflict (l 194) (u 1 4 3) Write 1 ∷ []) ∷ (event.Settle, [])
    ∷ (event.Commit (l 194), body.Committing (l 194) ∷ body.Committed (l 194) ∷ [])
    ∷ (event.Call (l 192) 1 op.Get, body.Conflict (l 192) (u 1 4 3) Write 1 ∷ []) ∷ (event.Settle, [])
    ∷ (event.Begin (l 195) 1, body.Began (l 195) kind.Top (u 1 4 8) None ∷ [])
    ∷ (event.Call (l 195) 1 (op.Put []), body.Conflict (l 195) (u 1 4 3) Write 1 ∷ []) ∷ (event.Settle, [])
    ∷ (event.Commit (l 195), body.Committing (l 195) ∷ body.Committed (l 195) ∷ []) ∷ (event.Settle, [])
    ∷ (event.Top (l 197) (l 189), body.Refused 5 ∷ [])
    ∷ (event.BeginIn (l 198) (l 187), body.Began (l 198) kind.Constituent (u 1 4 9) (Some (l 187)) ∷ [])
    ∷ (event.Show 17, body.Entry 17 0 (1 ∷ 2 ∷ 3 ∷ []) (1 ∷ 3 ∷ []) ∷ body.Copy 1 17 0 (u 0 0 0) (250 ∷ 53 ∷ 100 ∷ []) ∷ [])
    ∷ (event.BeginIn (l 199) (l 187), body.Began (l 199) kind.Constituent (u 1 4 10) (Some (l 187)) ∷ [])
    ∷ (event.Restart 2, body.Up 2 2 ∷ body.Sent 64 2 1 frame.Hello ∷ body.Sent 65 2 3 frame.Hello ∷ [])
    ∷ (event.Commit (l 192), body.Refused 7 ∷ []) ∷ (event.Include (l 199) 1 3, body.Conflict (l 199) (u 1 4 3) Write 1 ∷ [])
    ∷ (event.Abort (l 187), body.Refused 7 ∷ []) ∷ (event.Settle, body.Got 64 ∷ body.Void 65 ∷ [])
    ∷ (event.Begin (l 200) 2, body.Began (l 200) kind.Top (u 2 2 1) None ∷ [])
    ∷ (event.Call (l 200) 3 (op.Push 2), body.Sent 66 2 1 frame.Bind ∷ [])
    ∷ (
      event.Settle,
      body.Got 66 ∷ body.Granted 1 (u 2 2 1) (u 0 1 3) Write ∷ body.Bound 3 (b 4 4) 1 ∷ body.Sent 67 1 2 frame.Bound ∷ body.Got 67
          ∷ body.Sent 68 2 1 frame.Load ∷ body.Got 68 ∷ body.Sent 69 1 2 frame.Loaded ∷ body.Got 69 ∷ body.Sent 70 2 1 frame.Activate
          ∷ body.Got 70 ∷ body.Active 1 3 (b 4 4) ∷ body.Sent 71 1 2 frame.Activated ∷ body.Got 71 ∷ body.Sent 72 2 1 frame.Record
          ∷ body.Got 72 ∷ body.Lowered 1 (u 2 2 1) (u 0 1 3) ∷ body.Sent 73 1 2 frame.Recorded ∷ body.Got 73
          ∷ body.Sent 74 2 1 frame.Invoke ∷ body.Got 74 ∷ body.Granted 1 (u 2 2 1) (u 0 0 3) Write ∷ body.Sent 75 1 2 frame.Invoked
          ∷ body.Got 75 ∷ body.Ok (l 200) 3 (op.Push 2) (codes "done") ∷ [],
    ) ∷ (event.Commit (l 200), body.Committing (l 200) ∷ body.Sent 76 2 1 frame.Vote ∷ [])
    ∷ (event.Deliver (Number 76), body.Got 76 ∷ body.Sent 77 1 2 frame.Voted ∷ [])
    ∷ (event.Deliver (Number 77), body.Got 77 ∷ body.Sent 78 2 1 frame.Prepare ∷ []) ∷ [])

hostile_4_follows : is_followed hostile_4 ≡ true
hostile_4_follows = refl

hostile_4_has_causes : lacking hostile_4 ≡ []
hostile_4_has_causes = refl
