-- Short runs that reach causes which seldom come: every line has its cause.
use Rattle.std.specs.Prelude.{◌≡◌, refl, [], ◌∷◌, codes, true, None}
use Rattle.arj_base.specs.declared.mode.Mode.TheVariants.{Read, Exclude, Write}
use Rattle.arj_base.specs.declared.mode.End.TheVariants.{Abort, Commit}
use Rattle.arj_class.specs.declared.op.Op.TheVariants as op
use Rattle.arj_class.specs.declared.value.Value.TheVariants as value
use Rattle.arj_journal.specs.declared.body.Body.TheVariants as body
use Rattle.arj_journal.specs.declared.body.Cause.TheVariants as cause
use Rattle.arj_journal.specs.declared.body.Difference.TheVariants as difference
use Rattle.arj_journal.specs.declared.body.FrameKind.TheVariants as frame
use Rattle.arj_journal.specs.declared.body.Kind.TheVariants as kind
use Rattle.arj_journal.specs.declared.body.Part.TheVariants as part
use Rattle.arj_journal.specs.declared.body.Role.TheVariants as role
use Rattle.arj_journal.specs.declared.event.Event.TheVariants as event
use Rattle.arj_journal.specs.declared.event.FrameNo.TheVariants.{Number, Last}
use Rattle.arj_journal.specs.declared.event.StopKind.TheVariants as stop
use Rattle.arj_cause_tests.proofs.Words.{l, u, b, object_line, nodes, run, Run, lacking}

-- a server has a newer copy
abbrev pub changed_bind_server : Run
changed_bind_server = run
    (nodes 4 (object_line 1 (value.Counter 0) (2 ∷ []) (3 ∷ []) ∷ []))
    ((event.Begin (l 84) 4, body.Began (l 84) kind.Top (u 4 1 1) None ∷ [])
    ∷ (event.Call (l 84) 1 op.Get, body.Sent 1 4 1 frame.Bind ∷ [])
    ∷ (
      event.Settle,
      body.Got 1 ∷ body.Granted 1 (u 4 1 1) (u 0 1 1) Write ∷ body.Bound 1 (b 1 1) 2 ∷ body.Sent 2 1 4 frame.Bound
          ∷ body.Got 2 ∷ body.Sent 3 4 3 frame.Load ∷ body.Got 3 ∷ body.Sent 4 3 4 frame.Loaded ∷ body.Got 4
          ∷ body.Sent 5 4 2 frame.Activate ∷ body.Got 5 ∷ body.Active 2 1 (b 1 1) ∷ body.Sent 6 2 4 frame.Activated ∷ body.Got 6
          ∷ body.Sent 7 4 1 frame.Record ∷ body.Got 7 ∷ body.Lowered 1 (u 4 1 1) (u 0 1 1) ∷ body.Sent 8 1 4 frame.Recorded ∷ body.Got 8
          ∷ body.Sent 9 4 2 frame.Invoke ∷ body.Got 9 ∷ body.Granted 2 (u 4 1 1) (u 0 0 1) Read ∷ body.Sent 10 2 4 frame.Invoked
          ∷ body.Got 10 ∷ body.Ok (l 84) 1 op.Get (codes "0") ∷ [],
    )
    ∷ (event.Crash 1, body.Halted 1 ∷ [])
    ∷ (event.Restart 1, body.Up 1 2 ∷ body.Sent 11 1 2 frame.Hello ∷ body.Sent 12 1 3 frame.Hello ∷ body.Sent 13 1 4 frame.Hello ∷ [])
    ∷ (event.Begin (l 85) 3, body.Began (l 85) kind.Top (u 3 1 1) None ∷ [])
    ∷ (event.Call (l 85) 1 (op.Add 1), body.Sent 14 3 1 frame.Bind ∷ [])
    ∷ (
      event.Deliver Last,
      body.Got 14 ∷ body.Granted 1 (u 3 1 1) (u 0 1 1) Write ∷ body.Bound 1 (b 2 1) 2
          ∷ body.Sent 15 1 3 frame.Bound ∷ [],
    )
    ∷ (event.Deliver Last, body.Got 15 ∷ body.Sent 16 3 2 frame.Activate ∷ [])
    ∷ (event.Call (l 84) 1 (op.Add 1), body.Sent 17 4 2 frame.Invoke ∷ [])
    ∷ (
      event.Quiesce,
      body.Got 11 ∷ body.Got 12 ∷ body.Got 13 ∷ body.Got 16 ∷ body.Active 2 1 (b 2 1) ∷ body.Sent 18 2 3 frame.Activated
          ∷ body.Got 17 ∷ body.Sent 19 2 4 frame.Invoked ∷ body.Got 18 ∷ body.Sent 20 3 1 frame.Record ∷ body.Got 19
          ∷ body.Changed (l 84) 2 (difference.Bind (b 1 1) (b 2 1)) ∷ body.Got 20 ∷ body.Lowered 1 (u 3 1 1) (u 0 1 1)
          ∷ body.Sent 21 1 3 frame.Recorded ∷ body.Got 21 ∷ body.Sent 22 3 2 frame.Invoke ∷ body.Got 22
          ∷ body.Granted 2 (u 3 1 1) (u 0 0 1) Write ∷ body.Sent 23 2 3 frame.Invoked ∷ body.Got 23
          ∷ body.Ok (l 85) 1 (op.Add 1) (codes "done") ∷ body.Sent 24 1 3 frame.Query ∷ body.Sent 25 2 3 frame.Query ∷ body.Got 24
          ∷ body.Got 25 ∷ body.Quiet true ∷ [],
    )
    ∷ [])

changed_bind_server_has_causes : lacking changed_bind_server ≡ []
changed_bind_server_has_causes = refl

-- naming restarts before what it said is heard
abbrev pub changed_inc_naming : Run
changed_inc_naming = run
    (nodes 5 (object_line 1 (value.Counter 0) (2 ∷ 3 ∷ []) (4 ∷ 5 ∷ []) ∷ []))
    ((event.Begin (l 76) 2, body.Began (l 76) kind.Top (u 2 1 1) None ∷ [])
    ∷ (event.Call (l 76) 1 (op.Add 1), body.Sent 1 2 1 frame.Bind ∷ [])
    ∷ (
      event.Deliver Last,
      body.Got 1 ∷ body.Granted 1 (u 2 1 1) (u 0 1 1) Write ∷ body.Bound 1 (b 1 1) 2 ∷ body.Sent 2 1 2 frame.Bound
          ∷ [],
    )
    ∷ (event.Crash 1, body.Halted 1 ∷ [])
    ∷ (
      event.Restart 1,
      body.Up 1 2 ∷ body.Sent 3 1 2 frame.Hello ∷ body.Sent 4 1 3 frame.Hello ∷ body.Sent 5 1 4 frame.Hello
          ∷ body.Sent 6 1 5 frame.Hello ∷ [],
    )
    ∷ (
      event.Settle,
      body.Got 2 ∷ body.Sent 7 2 4 frame.Load ∷ body.Got 3 ∷ body.Got 4 ∷ body.Got 5 ∷ body.Got 6 ∷ body.Got 7
          ∷ body.Sent 8 4 2 frame.Loaded ∷ body.Got 8 ∷ body.Active 2 1 (b 1 1) ∷ body.Sent 9 2 1 frame.Record ∷ body.Got 9
          ∷ body.Sent 10 1 2 frame.Recorded ∷ body.Got 10 ∷ body.Changed (l 76) 1 (difference.Inc 1 2) ∷ [],
    )
    ∷ [])

changed_inc_naming_has_causes : lacking changed_inc_naming ≡ []
changed_inc_naming_has_causes = refl

-- a server restarts between two messages
abbrev pub changed_inc_server : Run
changed_inc_server = run
    (nodes 2 (object_line 1 (value.Counter 0) (2 ∷ []) (1 ∷ []) ∷ []))
    ((event.Begin (l 65) 1, body.Began (l 65) kind.Top (u 1 1 1) None ∷ [])
    ∷ (
      event.Call (l 65) 1 op.Get,
      body.Granted 1 (u 1 1 1) (u 0 1 1) Write ∷ body.Bound 1 (b 1 1) 2 ∷ body.Sent 1 1 2 frame.Activate
          ∷ [],
    )
    ∷ (event.Deliver Last, body.Got 1 ∷ body.Active 2 1 (b 1 1) ∷ body.Sent 2 2 1 frame.Activated ∷ [])
    ∷ (event.Crash 2, body.Halted 2 ∷ [])
    ∷ (event.Restart 2, body.Up 2 2 ∷ body.Sent 3 2 1 frame.Hello ∷ [])
    ∷ (
      event.Settle,
      body.Got 2 ∷ body.Lowered 1 (u 1 1 1) (u 0 1 1) ∷ body.Sent 4 1 2 frame.Invoke ∷ body.Got 3 ∷ body.Got 4
          ∷ body.Sent 5 2 1 frame.Invoked ∷ body.Got 5 ∷ body.Changed (l 65) 2 (difference.Inc 1 2) ∷ [],
    )
    ∷ [])

changed_inc_server_has_causes : lacking changed_inc_server ≡ []
changed_inc_server_has_causes = refl

-- a load meets a state that is in doubt
abbrev pub conflict_pending : Run
conflict_pending = run
    (nodes 4 (object_line 1 (value.Counter 0) (2 ∷ []) (3 ∷ 4 ∷ []) ∷ []))
    ((event.Begin (l 65) 2, body.Began (l 65) kind.Top (u 2 1 1) None ∷ [])
    ∷ (event.Call (l 65) 1 (op.Add 1), body.Sent 1 2 1 frame.Bind ∷ [])
    ∷ (
      event.Settle,
      body.Got 1 ∷ body.Granted 1 (u 2 1 1) (u 0 1 1) Write ∷ body.Bound 1 (b 1 1) 2 ∷ body.Sent 2 1 2 frame.Bound
          ∷ body.Got 2 ∷ body.Sent 3 2 3 frame.Load ∷ body.Got 3 ∷ body.Sent 4 3 2 frame.Loaded ∷ body.Got 4 ∷ body.Active 2 1 (b 1 1)
          ∷ body.Sent 5 2 1 frame.Record ∷ body.Got 5 ∷ body.Lowered 1 (u 2 1 1) (u 0 1 1) ∷ body.Sent 6 1 2 frame.Recorded ∷ body.Got 6
          ∷ body.Granted 2 (u 2 1 1) (u 0 0 1) Write ∷ body.Ok (l 65) 1 (op.Add 1) (codes "done") ∷ [],
    )
    ∷ (event.Commit (l 65), body.Committing (l 65) ∷ body.Sent 7 2 3 frame.Prepare ∷ body.Sent 8 2 4 frame.Prepare ∷ [])
    ∷ (event.Crash 1, body.Halted 1 ∷ [])
    ∷ (event.Restart 1, body.Up 1 2 ∷ body.Sent 9 1 2 frame.Hello ∷ body.Sent 10 1 3 frame.Hello ∷ body.Sent 11 1 4 frame.Hello ∷ [])
    ∷ (event.Begin (l 66) 3, body.Began (l 66) kind.Top (u 3 1 1) None ∷ [])
    ∷ (event.Call (l 66) 1 op.Get, body.Sent 12 3 1 frame.Bind ∷ [])
    ∷ (
      event.Quiesce,
      body.Got 7 ∷ body.Prepared 3 (u 2 1 1) role.Store ∷ body.Sent 13 3 2 frame.Prepared ∷ body.Got 8
          ∷ body.Prepared 4 (u 2 1 1) role.Store ∷ body.Sent 14 4 2 frame.Prepared ∷ body.Got 9 ∷ body.Got 10 ∷ body.Got 11 ∷ body.Got 12
          ∷ body.Granted 1 (u 3 1 1) (u 0 1 1) Write ∷ body.Bound 1 (b 2 1) 2 ∷ body.Sent 15 1 3 frame.Bound ∷ body.Got 13 ∷ body.Got 14
          ∷ body.Sent 16 2 1 frame.Confirm ∷ body.Got 15 ∷ body.Conflict (l 66) (u 2 1 1) Write 3 ∷ body.Got 16
          ∷ body.Sent 17 1 2 frame.Confirmed ∷ body.Got 17 ∷ body.Aborted (l 65) (cause.Changed 1 (difference.Inc 1 2))
          ∷ body.Sent 18 2 1 frame.Told ∷ body.Sent 19 2 3 frame.Told ∷ body.Sent 20 2 4 frame.Told
          ∷ body.Told 2 (u 2 1 1) Abort part.Server ∷ body.Got 18 ∷ body.Got 19 ∷ body.Done 3 (u 2 1 1) role.Store Abort ∷ body.Got 20
          ∷ body.Done 4 (u 2 1 1) role.Store Abort ∷ body.Sent 21 1 3 frame.Query ∷ body.Got 21 ∷ body.Quiet true ∷ [],
    )
    ∷ [])

conflict_pending_has_causes : lacking conflict_pending ≡ []
conflict_pending_has_causes = refl

-- a load meets a state that a stop left without its line
abbrev pub conflict_unsaid : Run
conflict_unsaid = run
    (nodes 4 (object_line 1 (value.Counter 0) (2 ∷ []) (3 ∷ []) ∷ []))
    ((event.Begin (l 65) 2, body.Began (l 65) kind.Top (u 2 1 1) None ∷ [])
    ∷ (event.Call (l 65) 1 (op.Add 1), body.Sent 1 2 1 frame.Bind ∷ [])
    ∷ (
      event.Settle,
      body.Got 1 ∷ body.Granted 1 (u 2 1 1) (u 0 1 1) Write ∷ body.Bound 1 (b 1 1) 2 ∷ body.Sent 2 1 2 frame.Bound
          ∷ body.Got 2 ∷ body.Sent 3 2 3 frame.Load ∷ body.Got 3 ∷ body.Sent 4 3 2 frame.Loaded ∷ body.Got 4 ∷ body.Active 2 1 (b 1 1)
          ∷ body.Sent 5 2 1 frame.Record ∷ body.Got 5 ∷ body.Lowered 1 (u 2 1 1) (u 0 1 1) ∷ body.Sent 6 1 2 frame.Recorded ∷ body.Got 6
          ∷ body.Granted 2 (u 2 1 1) (u 0 0 1) Write ∷ body.Ok (l 65) 1 (op.Add 1) (codes "done") ∷ [],
    )
    ∷ (event.Commit (l 65), body.Committing (l 65) ∷ body.Sent 7 2 3 frame.Prepare ∷ [])
    ∷ (event.Stop 3 3 stop.Done, body.Armed 3 ∷ [])
    ∷ (event.Deliver Last, body.Got 7 ∷ body.Halted 3 ∷ [])
    ∷ (
      event.Restart 3,
      body.Up 3 2 ∷ body.Sent 8 3 2 frame.Query ∷ body.Sent 9 3 1 frame.Hello ∷ body.Sent 10 3 2 frame.Hello
          ∷ body.Sent 11 3 4 frame.Hello ∷ [],
    )
    ∷ (event.Crash 1, body.Halted 1 ∷ [])
    ∷ (event.Restart 1, body.Up 1 2 ∷ body.Sent 12 1 2 frame.Hello ∷ body.Sent 13 1 3 frame.Hello ∷ body.Sent 14 1 4 frame.Hello ∷ [])
    ∷ (event.Begin (l 66) 4, body.Began (l 66) kind.Top (u 4 1 1) None ∷ [])
    ∷ (event.Call (l 66) 1 op.Get, body.Sent 15 4 1 frame.Bind ∷ [])
    ∷ (
      event.Settle,
      body.Got 8 ∷ body.Got 9 ∷ body.Got 10 ∷ body.Got 11 ∷ body.Got 12 ∷ body.Got 13 ∷ body.Got 14 ∷ body.Got 15
          ∷ body.Granted 1 (u 4 1 1) (u 0 1 1) Write ∷ body.Bound 1 (b 2 1) 2 ∷ body.Sent 16 1 4 frame.Bound ∷ body.Got 16
          ∷ body.Sent 17 4 3 frame.Load ∷ body.Got 17 ∷ body.Sent 18 3 4 frame.Loaded ∷ body.Got 18
          ∷ body.Conflict (l 66) (u 2 1 1) Write 3 ∷ [],
    )
    ∷ [])

conflict_unsaid_has_causes : lacking conflict_unsaid ≡ []
conflict_unsaid_has_causes = refl

-- a top commits whose store stopped before the line of what it prepared, and was asked again
abbrev pub committed_unsaid : Run
committed_unsaid = run
    (nodes 3 (object_line 1 (value.Counter 0) (1 ∷ []) (2 ∷ []) ∷ []))
    ((event.Begin (l 65) 1, body.Began (l 65) kind.Top (u 1 1 1) None ∷ [])
    ∷ (
      event.Call (l 65) 1 (op.Add 1),
      body.Granted 1 (u 1 1 1) (u 0 1 1) Write ∷ body.Bound 1 (b 1 1) 1 ∷ body.Sent 1 1 2 frame.Load ∷ [],
    )
    ∷ (
      event.Settle,
      body.Got 1 ∷ body.Sent 2 2 1 frame.Loaded ∷ body.Got 2 ∷ body.Active 1 1 (b 1 1) ∷ body.Lowered 1 (u 1 1 1) (u 0 1 1)
          ∷ body.Granted 1 (u 1 1 1) (u 0 0 1) Write ∷ body.Ok (l 65) 1 (op.Add 1) (codes "done") ∷ [],
    )
    ∷ (event.Commit (l 65), body.Committing (l 65) ∷ body.Sent 3 1 2 frame.Prepare ∷ [])
    ∷ (event.Stop 2 3 stop.Done, body.Armed 2 ∷ [])
    ∷ (event.Deliver Last, body.Got 3 ∷ body.Halted 2 ∷ [])
    ∷ (event.Restart 2, body.Up 2 2 ∷ body.Sent 4 2 1 frame.Query ∷ body.Sent 5 2 1 frame.Hello ∷ body.Sent 6 2 3 frame.Hello ∷ [])
    ∷ (event.Tick 1, body.Sent 7 1 2 frame.Prepare ∷ [])
    ∷ (
      event.Settle,
      body.Got 4 ∷ body.Got 5 ∷ body.Got 6 ∷ body.Got 7 ∷ body.Sent 8 2 1 frame.Prepared ∷ body.Got 8 ∷ body.Committed (l 65)
          ∷ body.Sent 9 1 2 frame.Told ∷ body.Told 1 (u 1 1 1) Commit part.Naming ∷ body.Told 1 (u 1 1 1) Commit part.Server
          ∷ body.Got 9 ∷ body.Done 2 (u 1 1 1) role.Store Commit ∷ body.Sent 10 2 1 frame.Acked ∷ body.Got 10 ∷ [],
    )
    ∷ [])

committed_unsaid_has_causes : lacking committed_unsaid ≡ []
committed_unsaid_has_causes = refl

-- a store is excluded that has another top in doubt
abbrev pub excluded_pending : Run
excluded_pending = run
    (nodes 4 (object_line 1 (value.Counter 0) (2 ∷ []) (3 ∷ 4 ∷ []) ∷ []))
    ((event.Begin (l 84) 2, body.Began (l 84) kind.Top (u 2 1 1) None ∷ [])
    ∷ (event.Call (l 84) 1 (op.Add 1), body.Sent 1 2 1 frame.Bind ∷ [])
    ∷ (
      event.Settle,
      body.Got 1 ∷ body.Granted 1 (u 2 1 1) (u 0 1 1) Write ∷ body.Bound 1 (b 1 1) 2 ∷ body.Sent 2 1 2 frame.Bound
          ∷ body.Got 2 ∷ body.Sent 3 2 3 frame.Load ∷ body.Got 3 ∷ body.Sent 4 3 2 frame.Loaded ∷ body.Got 4 ∷ body.Active 2 1 (b 1 1)
          ∷ body.Sent 5 2 1 frame.Record ∷ body.Got 5 ∷ body.Lowered 1 (u 2 1 1) (u 0 1 1) ∷ body.Sent 6 1 2 frame.Recorded ∷ body.Got 6
          ∷ body.Granted 2 (u 2 1 1) (u 0 0 1) Write ∷ body.Ok (l 84) 1 (op.Add 1) (codes "done") ∷ [],
    )
    ∷ (event.Commit (l 84), body.Committing (l 84) ∷ body.Sent 7 2 3 frame.Prepare ∷ body.Sent 8 2 4 frame.Prepare ∷ [])
    ∷ (
      event.GiveUp (l 84),
      body.GaveUp (l 84) 3 ∷ body.GaveUp (l 84) 4 ∷ body.Excluded (l 84) 1 3 ∷ body.Excluded (l 84) 1 4
          ∷ body.Sent 9 2 1 frame.Confirm ∷ [],
    )
    ∷ (event.Deliver Last, body.Got 9 ∷ body.Sent 10 1 2 frame.Confirmed ∷ [])
    ∷ (
      event.Deliver Last,
      body.Got 10 ∷ body.Aborted (l 84) (cause.NoStores 1) ∷ body.Sent 11 2 1 frame.Told
          ∷ body.Sent 12 2 3 frame.Told ∷ body.Sent 13 2 4 frame.Told ∷ body.Told 2 (u 2 1 1) Abort part.Server ∷ [],
    )
    ∷ (event.Deliver Last, body.Got 13 ∷ [])
    ∷ (event.Begin (l 85) 2, body.Began (l 85) kind.Top (u 2 1 2) None ∷ [])
    ∷ (event.Call (l 85) 1 (op.Add 1), body.Sent 14 2 1 frame.Bind ∷ [])
    ∷ (
      event.Settle,
      body.Got 7 ∷ body.Prepared 3 (u 2 1 1) role.Store ∷ body.Sent 15 3 2 frame.Prepared ∷ body.Got 8
          ∷ body.Prepared 4 (u 2 1 1) role.Store ∷ body.Sent 16 4 2 frame.Prepared ∷ body.Got 11 ∷ body.Told 1 (u 2 1 1) Abort part.Naming
          ∷ body.Got 12 ∷ body.Done 3 (u 2 1 1) role.Store Abort ∷ body.Got 14 ∷ body.Granted 1 (u 2 1 2) (u 0 1 1) Read
          ∷ body.Sent 17 1 2 frame.Bound ∷ body.Void 15 ∷ body.Void 16 ∷ body.Got 17 ∷ body.Granted 2 (u 2 1 2) (u 0 0 1) Write
          ∷ body.Ok (l 85) 1 (op.Add 1) (codes "done") ∷ [],
    )
    ∷ (event.Commit (l 85), body.Committing (l 85) ∷ body.Sent 18 2 3 frame.Prepare ∷ body.Sent 19 2 4 frame.Prepare ∷ [])
    ∷ (event.Begin (l 74) 3, body.Began (l 74) kind.Top (u 3 1 1) None ∷ [])
    ∷ (event.Include (l 74) 1 4, body.Sent 20 3 1 frame.Bind ∷ [])
    ∷ (
      event.Settle,
      body.Got 18 ∷ body.Prepared 3 (u 2 1 2) role.Store ∷ body.Sent 21 3 2 frame.Prepared ∷ body.Got 19
          ∷ body.Sent 22 4 2 frame.Prepared ∷ body.Got 20 ∷ body.Sent 23 1 3 frame.Bound ∷ body.Got 21 ∷ body.Got 22
          ∷ body.Excluded (l 85) 1 4 ∷ body.Sent 24 2 1 frame.Confirm ∷ body.Got 23 ∷ body.Conflict (l 74) (u 2 1 2) Read 1 ∷ body.Got 24
          ∷ body.Granted 1 (u 2 1 2) (u 0 1 1) Exclude ∷ body.Prepared 1 (u 2 1 2) role.Names ∷ body.Sent 25 1 2 frame.Confirmed
          ∷ body.Got 25 ∷ body.Committed (l 85) ∷ body.Sent 26 2 1 frame.Told ∷ body.Sent 27 2 3 frame.Told ∷ body.Sent 28 2 4 frame.Told
          ∷ body.Told 2 (u 2 1 2) Commit part.Server ∷ body.Got 26 ∷ body.Done 1 (u 2 1 2) role.Names Commit
          ∷ body.Told 1 (u 2 1 2) Commit part.Naming ∷ body.Sent 29 1 2 frame.Acked ∷ body.Got 27
          ∷ body.Done 3 (u 2 1 2) role.Store Commit ∷ body.Sent 30 3 2 frame.Acked ∷ body.Got 28 ∷ body.Got 29 ∷ body.Got 30 ∷ [],
    )
    ∷ [])

excluded_pending_has_causes : lacking excluded_pending ≡ []
excluded_pending_has_causes = refl

-- an excluded store is told an abort of a top that is committed
abbrev pub excluded_late : Run
excluded_late = run
    (nodes 3 (object_line 1 (value.Counter 0) (1 ∷ []) (2 ∷ 3 ∷ []) ∷ []))
    ((event.Begin (l 65) 1, body.Began (l 65) kind.Top (u 1 1 1) None ∷ [])
    ∷ (
      event.Call (l 65) 1 (op.Add 1),
      body.Granted 1 (u 1 1 1) (u 0 1 1) Write ∷ body.Bound 1 (b 1 1) 1 ∷ body.Sent 1 1 2 frame.Load
          ∷ [],
    )
    ∷ (
      event.Settle,
      body.Got 1 ∷ body.Sent 2 2 1 frame.Loaded ∷ body.Got 2 ∷ body.Active 1 1 (b 1 1)
          ∷ body.Lowered 1 (u 1 1 1) (u 0 1 1) ∷ body.Granted 1 (u 1 1 1) (u 0 0 1) Write ∷ body.Ok (l 65) 1 (op.Add 1) (codes "done")
          ∷ [],
    )
    ∷ (event.Commit (l 65), body.Committing (l 65) ∷ body.Sent 3 1 2 frame.Prepare ∷ body.Sent 4 1 3 frame.Prepare ∷ [])
    ∷ (event.Lose (Number 4), body.Dropped 4 ∷ [])
    ∷ (event.Settle, body.Got 3 ∷ body.Prepared 2 (u 1 1 1) role.Store ∷ body.Sent 5 2 1 frame.Prepared ∷ body.Got 5 ∷ [])
    ∷ (
      event.GiveUp (l 65),
      body.GaveUp (l 65) 3 ∷ body.Excluded (l 65) 1 3 ∷ body.Granted 1 (u 1 1 1) (u 0 1 1) Exclude
          ∷ body.Prepared 1 (u 1 1 1) role.Names ∷ body.Committed (l 65) ∷ body.Sent 6 1 2 frame.Told ∷ body.Sent 7 1 3 frame.Told
          ∷ body.Done 1 (u 1 1 1) role.Names Commit ∷ body.Told 1 (u 1 1 1) Commit part.Naming ∷ body.Told 1 (u 1 1 1) Commit part.Server
          ∷ [],
    )
    ∷ (event.Settle, body.Got 6 ∷ body.Done 2 (u 1 1 1) role.Store Commit ∷ body.Sent 8 2 1 frame.Acked ∷ body.Got 7 ∷ body.Got 8 ∷ [])
    ∷ (event.Deliver (Number 4), body.Got 4 ∷ body.Prepared 3 (u 1 1 1) role.Store ∷ body.Sent 9 3 1 frame.Prepared ∷ [])
    ∷ (
      event.Quiesce,
      body.Void 9 ∷ body.Sent 10 3 1 frame.Query ∷ body.Got 10 ∷ body.Sent 11 1 3 frame.Told ∷ body.Got 11
          ∷ body.Done 3 (u 1 1 1) role.Store Abort ∷ body.Quiet true ∷ [],
    )
    ∷ [])

excluded_late_has_causes : lacking excluded_late ≡ []
excluded_late_has_causes = refl

-- a lock that came late goes by an abort of a top that is committed
abbrev pub locked_late : Run
locked_late = run
    (nodes 2 (object_line 1 (value.Counter 0) (2 ∷ []) (1 ∷ []) ∷ []))
    ((event.Begin (l 73) 2, body.Began (l 73) kind.Top (u 2 1 1) None ∷ [])
    ∷ (event.Call (l 73) 1 (op.Add 1), body.Sent 1 2 1 frame.Bind ∷ [])
    ∷ (event.GiveUp (l 73), body.GaveUp (l 73) 1 ∷ body.Lost (l 73) 1 ∷ [])
    ∷ (event.Commit (l 73), body.Committing (l 73) ∷ body.Committed (l 73) ∷ body.Sent 2 2 1 frame.Told ∷ [])
    ∷ (
      event.Settle,
      body.Got 1 ∷ body.Granted 1 (u 2 1 1) (u 0 1 1) Write ∷ body.Bound 1 (b 1 1) 2 ∷ body.Sent 3 1 2 frame.Bound
          ∷ body.Got 2 ∷ body.Told 1 (u 2 1 1) Abort part.Naming ∷ body.Void 3 ∷ [],
    )
    ∷ [])

locked_late_has_causes : lacking locked_late ≡ []
locked_late_has_causes = refl

-- an include meets a read lock on the entry
abbrev pub include_meets_read : Run
include_meets_read = run
    (nodes 2 (object_line 1 (value.Counter 0) (1 ∷ []) (1 ∷ 2 ∷ []) ∷ []))
    ((event.Begin (l 65) 1, body.Began (l 65) kind.Top (u 1 1 1) None ∷ [])
    ∷ (
      event.Call (l 65) 1 op.Get,
      body.Granted 1 (u 1 1 1) (u 0 1 1) Write ∷ body.Bound 1 (b 1 1) 1 ∷ body.Active 1 1 (b 1 1)
          ∷ body.Lowered 1 (u 1 1 1) (u 0 1 1) ∷ body.Granted 1 (u 1 1 1) (u 0 0 1) Read ∷ body.Ok (l 65) 1 op.Get (codes "0") ∷ [],
    )
    ∷ (event.Settle, [])
    ∷ (event.Begin (l 73) 1, body.Began (l 73) kind.Top (u 1 1 2) None ∷ [])
    ∷ (event.Include (l 73) 1 2, body.Conflict (l 73) (u 1 1 1) Read 1 ∷ [])
    ∷ (event.Settle, [])
    ∷ [])

include_meets_read_has_causes : lacking include_meets_read ≡ []
include_meets_read_has_causes = refl
