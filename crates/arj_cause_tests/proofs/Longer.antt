-- Longer runs, whose events were chosen at random: every line has its cause.
use Rattle.std.specs.Prelude.{◌≡◌, refl, [], ◌∷◌, codes, true, Some, None}
use Rattle.arj_base.specs.declared.mode.Mode.TheVariants.{Read, Write}
use Rattle.arj_base.specs.declared.mode.End.TheVariants.{Abort, Commit}
use Rattle.arj_class.specs.declared.op.Op.TheVariants as op
use Rattle.arj_class.specs.declared.value.Value.TheVariants as value
use Rattle.arj_journal.specs.declared.body.Body.TheVariants as body
use Rattle.arj_journal.specs.declared.body.Cause.TheVariants as cause
use Rattle.arj_journal.specs.declared.body.FrameKind.TheVariants as frame
use Rattle.arj_journal.specs.declared.body.Kind.TheVariants as kind
use Rattle.arj_journal.specs.declared.body.Part.TheVariants as part
use Rattle.arj_journal.specs.declared.body.Role.TheVariants as role
use Rattle.arj_journal.specs.declared.event.Event.TheVariants as event
use Rattle.arj_journal.specs.declared.event.FrameNo.TheVariants.{Number}
use Rattle.arj_journal.specs.declared.event.StopKind.TheVariants as stop
use Rattle.arj_cause_tests.proofs.Words.{l, u, b, object_line, nodes, run, Run, lacking}

-- on few nodes
abbrev of_local : Run
of_local = run
    (nodes 1 (object_line 1 (value.Queue (0 ∷ [])) (1 ∷ []) (1 ∷ []) ∷ object_line 2 (value.Counter 0) (1 ∷ []) (1 ∷ []) ∷ []))
    ((event.Begin (l 161) 1, body.Began (l 161) kind.Top (u 1 1 1) None ∷ [])
    ∷ (event.BeginIn (l 162) (l 161), body.Began (l 162) kind.Nested (u 1 1 2) (Some (l 161)) ∷ [])
    ∷ (
      event.Call (l 162) 1 (op.Push 2),
      body.Granted 1 (u 1 1 1) (u 0 1 1) Write ∷ body.Bound 1 (b 1 1) 1 ∷ body.Active 1 1 (b 1 1)
          ∷ body.Lowered 1 (u 1 1 1) (u 0 1 1) ∷ body.Granted 1 (u 1 1 2) (u 0 0 1) Write ∷ body.Ok (l 162) 1 (op.Push 2) (codes "done")
          ∷ [],
    )
    ∷ (event.Call (l 162) 1 (op.Push 3), body.Ok (l 162) 1 (op.Push 3) (codes "done") ∷ [])
    ∷ (event.Call (l 161) 1 op.Pop, body.Conflict (l 161) (u 1 1 2) Write 1 ∷ [])
    ∷ (event.Call (l 161) 1 op.Pop, body.Conflict (l 161) (u 1 1 2) Write 1 ∷ [])
    ∷ (event.Commit (l 162), body.Committed (l 162) ∷ body.Told 1 (u 1 1 2) Commit part.Server ∷ [])
    ∷ (
      event.Commit (l 161),
      body.Committing (l 161) ∷ body.Prepared 1 (u 1 1 1) role.Store ∷ body.Committed (l 161)
          ∷ body.Done 1 (u 1 1 1) role.Store Commit ∷ body.Told 1 (u 1 1 1) Commit part.Naming ∷ body.Told 1 (u 1 1 1) Commit part.Server
          ∷ [],
    )
    ∷ (event.Begin (l 163) 1, body.Began (l 163) kind.Top (u 1 1 3) None ∷ [])
    ∷ (event.Commit (l 163), body.Committing (l 163) ∷ body.Committed (l 163) ∷ [])
    ∷ (event.Begin (l 164) 1, body.Began (l 164) kind.Top (u 1 1 4) None ∷ [])
    ∷ (
      event.Call (l 164) 2 op.Get,
      body.Granted 1 (u 1 1 4) (u 0 1 2) Write ∷ body.Bound 2 (b 1 2) 1 ∷ body.Active 1 2 (b 1 2)
          ∷ body.Lowered 1 (u 1 1 4) (u 0 1 2) ∷ body.Granted 1 (u 1 1 4) (u 0 0 2) Read ∷ body.Ok (l 164) 2 op.Get (codes "0") ∷ [],
    )
    ∷ (
      event.Call (l 164) 1 op.Pop,
      body.Granted 1 (u 1 1 4) (u 0 1 1) Read ∷ body.Granted 1 (u 1 1 4) (u 0 0 1) Write
          ∷ body.Ok (l 164) 1 op.Pop (codes "0") ∷ [],
    )
    ∷ (event.Call (l 164) 1 op.Len, body.Ok (l 164) 1 op.Len (codes "2") ∷ [])
    ∷ (event.Call (l 164) 2 (op.Add 1), body.Granted 1 (u 1 1 4) (u 0 0 2) Write ∷ body.Ok (l 164) 2 (op.Add 1) (codes "done") ∷ [])
    ∷ (event.BeginIn (l 165) (l 164), body.Began (l 165) kind.Nested (u 1 1 5) (Some (l 164)) ∷ [])
    ∷ (event.Call (l 165) 1 (op.Push 0), body.Granted 1 (u 1 1 5) (u 0 0 1) Write ∷ body.Ok (l 165) 1 (op.Push 0) (codes "done") ∷ [])
    ∷ (event.Call (l 165) 2 (op.Set 2), body.Granted 1 (u 1 1 5) (u 0 0 2) Write ∷ body.Ok (l 165) 2 (op.Set 2) (codes "done") ∷ [])
    ∷ (event.BeginIn (l 166) (l 165), body.Began (l 166) kind.Nested (u 1 1 6) (Some (l 165)) ∷ [])
    ∷ (
      event.Show 1,
      body.Entry 1 0 (1 ∷ []) (1 ∷ [])
          ∷ body.Copy 1 1 1 (u 1 1 1) (0 ∷ 0 ∷ 0 ∷ 0 ∷ 0 ∷ 0 ∷ 0 ∷ 0 ∷ 0 ∷ 0 ∷ 0 ∷ 0 ∷ 0 ∷ 0 ∷ 0 ∷ 2 ∷ 0 ∷ 0 ∷ 0 ∷ 0 ∷ 0 ∷ 0 ∷ 0 ∷ 3 ∷ [])
          ∷ [],
    )
    ∷ (event.Call (l 165) 1 op.Len, body.Ok (l 165) 1 op.Len (codes "3") ∷ [])
    ∷ (event.Call (l 165) 1 op.Len, body.Ok (l 165) 1 op.Len (codes "3") ∷ [])
    ∷ (
      event.Abort (l 165),
      body.Aborted (l 166) cause.Asked ∷ body.Aborted (l 165) cause.Asked
          ∷ body.Told 1 (u 1 1 5) Abort part.Server ∷ [],
    )
    ∷ (event.Call (l 164) 1 op.Pop, body.Ok (l 164) 1 op.Pop (codes "2") ∷ [])
    ∷ (event.BeginIn (l 167) (l 164), body.Began (l 167) kind.Nested (u 1 1 7) (Some (l 164)) ∷ [])
    ∷ (event.Abort (l 167), body.Aborted (l 167) cause.Asked ∷ [])
    ∷ (event.BeginIn (l 168) (l 164), body.Began (l 168) kind.Nested (u 1 1 8) (Some (l 164)) ∷ [])
    ∷ (event.Call (l 168) 1 op.Len, body.Granted 1 (u 1 1 8) (u 0 0 1) Read ∷ body.Ok (l 168) 1 op.Len (codes "1") ∷ [])
    ∷ (event.Call (l 164) 1 op.Len, body.Ok (l 164) 1 op.Len (codes "1") ∷ [])
    ∷ (event.Call (l 168) 2 op.Get, body.Granted 1 (u 1 1 8) (u 0 0 2) Read ∷ body.Ok (l 168) 2 op.Get (codes "1") ∷ [])
    ∷ (event.BeginIn (l 169) (l 164), body.Began (l 169) kind.Nested (u 1 1 9) (Some (l 164)) ∷ [])
    ∷ (event.Commit (l 168), body.Committed (l 168) ∷ body.Told 1 (u 1 1 8) Commit part.Server ∷ [])
    ∷ (event.Call (l 164) 1 (op.Push 0), body.Ok (l 164) 1 (op.Push 0) (codes "done") ∷ [])
    ∷ (
      event.Abort (l 164),
      body.Aborted (l 169) cause.Asked ∷ body.Aborted (l 164) cause.Asked
          ∷ body.Told 1 (u 1 1 4) Abort part.Naming ∷ body.Told 1 (u 1 1 4) Abort part.Server ∷ [],
    )
    ∷ (event.Begin (l 170) 1, body.Began (l 170) kind.Top (u 1 1 10) None ∷ [])
    ∷ (
      event.Call (l 170) 1 op.Pop,
      body.Granted 1 (u 1 1 10) (u 0 1 1) Read ∷ body.Granted 1 (u 1 1 10) (u 0 0 1) Write
          ∷ body.Ok (l 170) 1 op.Pop (codes "0") ∷ [],
    )
    ∷ (
      event.Call (l 170) 2 (op.Add 4),
      body.Granted 1 (u 1 1 10) (u 0 1 2) Read ∷ body.Granted 1 (u 1 1 10) (u 0 0 2) Write
          ∷ body.Ok (l 170) 2 (op.Add 4) (codes "done") ∷ [],
    )
    ∷ (
      event.Commit (l 170),
      body.Committing (l 170) ∷ body.Prepared 1 (u 1 1 10) role.Store ∷ body.Committed (l 170)
          ∷ body.Done 1 (u 1 1 10) role.Store Commit ∷ body.Told 1 (u 1 1 10) Commit part.Naming
          ∷ body.Told 1 (u 1 1 10) Commit part.Server ∷ [],
    )
    ∷ (event.Begin (l 171) 1, body.Began (l 171) kind.Top (u 1 1 11) None ∷ [])
    ∷ (
      event.Call (l 171) 1 op.Len,
      body.Granted 1 (u 1 1 11) (u 0 1 1) Read ∷ body.Granted 1 (u 1 1 11) (u 0 0 1) Read
          ∷ body.Ok (l 171) 1 op.Len (codes "2") ∷ [],
    )
    ∷ [])

of_local_has_causes : lacking of_local ≡ []
of_local_has_causes = refl

-- with many calls
abbrev of_calls : Run
of_calls = run
    (nodes 3 (object_line 1 (value.Counter 8) (2 ∷ []) (1 ∷ []) ∷ []))
    ((event.Begin (l 161) 3, body.Began (l 161) kind.Top (u 3 1 1) None ∷ [])
    ∷ (event.Call (l 161) 1 (op.Add 0), body.Sent 1 3 1 frame.Bind ∷ [])
    ∷ (
      event.Deliver (Number 1),
      body.Got 1 ∷ body.Granted 1 (u 3 1 1) (u 0 1 1) Write ∷ body.Bound 1 (b 1 1) 2
          ∷ body.Sent 2 1 3 frame.Bound ∷ [],
    )
    ∷ (event.Deliver (Number 2), body.Got 2 ∷ body.Sent 3 3 1 frame.Load ∷ [])
    ∷ (event.Deliver (Number 3), body.Got 3 ∷ body.Sent 4 1 3 frame.Loaded ∷ [])
    ∷ (event.Deliver (Number 4), body.Got 4 ∷ body.Sent 5 3 2 frame.Activate ∷ [])
    ∷ (
      event.Settle,
      body.Got 5 ∷ body.Active 2 1 (b 1 1) ∷ body.Sent 6 2 3 frame.Activated ∷ body.Got 6 ∷ body.Sent 7 3 1 frame.Record
          ∷ body.Got 7 ∷ body.Lowered 1 (u 3 1 1) (u 0 1 1) ∷ body.Sent 8 1 3 frame.Recorded ∷ body.Got 8 ∷ body.Sent 9 3 2 frame.Invoke
          ∷ body.Got 9 ∷ body.Granted 2 (u 3 1 1) (u 0 0 1) Write ∷ body.Sent 10 2 3 frame.Invoked ∷ body.Got 10
          ∷ body.Ok (l 161) 1 (op.Add 0) (codes "done") ∷ [],
    )
    ∷ (event.BeginIn (l 162) (l 161), body.Began (l 162) kind.Nested (u 3 1 2) (Some (l 161)) ∷ [])
    ∷ (event.Begin (l 163) 3, body.Began (l 163) kind.Top (u 3 1 3) None ∷ [])
    ∷ (event.Call (l 162) 1 (op.Add 0), body.Sent 11 3 2 frame.Invoke ∷ [])
    ∷ (event.Begin (l 164) 2, body.Began (l 164) kind.Top (u 2 1 1) None ∷ [])
    ∷ (event.Call (l 163) 1 (op.Add 4), body.Sent 12 3 1 frame.Bind ∷ [])
    ∷ (event.Deliver (Number 11), body.Got 11 ∷ body.Granted 2 (u 3 1 2) (u 0 0 1) Write ∷ body.Sent 13 2 3 frame.Invoked ∷ [])
    ∷ (event.Commit (l 164), body.Committing (l 164) ∷ body.Committed (l 164) ∷ [])
    ∷ (event.Deliver (Number 12), body.Got 12 ∷ body.Granted 1 (u 3 1 3) (u 0 1 1) Read ∷ body.Sent 14 1 3 frame.Bound ∷ [])
    ∷ (event.Deliver (Number 14), body.Got 14 ∷ body.Sent 15 3 2 frame.Invoke ∷ [])
    ∷ (
      event.Settle,
      body.Got 13 ∷ body.Ok (l 162) 1 (op.Add 0) (codes "done") ∷ body.Got 15 ∷ body.Sent 16 2 3 frame.Invoked
          ∷ body.Got 16 ∷ body.Conflict (l 163) (u 3 1 1) Write 2 ∷ [],
    )
    ∷ (event.Commit (l 162), body.Committed (l 162) ∷ body.Sent 17 3 2 frame.Told ∷ [])
    ∷ (event.Deliver (Number 13), body.Void 13 ∷ [])
    ∷ (
      event.Commit (l 163),
      body.Committing (l 163) ∷ body.Committed (l 163) ∷ body.Sent 18 3 1 frame.Told
          ∷ body.Sent 19 3 2 frame.Told ∷ [],
    )
    ∷ (event.Deliver (Number 19), body.Got 19 ∷ [])
    ∷ (event.Call (l 161) 1 (op.Set 4), body.Sent 20 3 2 frame.Invoke ∷ [])
    ∷ (event.Deliver (Number 17), body.Got 17 ∷ body.Told 2 (u 3 1 2) Commit part.Server ∷ [])
    ∷ (event.Deliver (Number 18), body.Got 18 ∷ body.Told 1 (u 3 1 3) Abort part.Naming ∷ [])
    ∷ (event.Deliver (Number 20), body.Got 20 ∷ body.Sent 21 2 3 frame.Invoked ∷ [])
    ∷ (event.GiveUp (l 161), body.GaveUp (l 161) 2 ∷ body.Lost (l 161) 2 ∷ [])
    ∷ (event.Commit (l 161), body.Aborted (l 161) cause.Doomed ∷ body.Sent 22 3 1 frame.Told ∷ body.Sent 23 3 2 frame.Told ∷ [])
    ∷ (event.Begin (l 165) 2, body.Began (l 165) kind.Top (u 2 1 2) None ∷ [])
    ∷ (event.Deliver (Number 22), body.Got 22 ∷ body.Told 1 (u 3 1 1) Abort part.Naming ∷ [])
    ∷ (event.BeginIn (l 166) (l 165), body.Began (l 166) kind.Nested (u 2 1 3) (Some (l 165)) ∷ [])
    ∷ (event.Show 1, body.Entry 1 0 (2 ∷ []) (1 ∷ []) ∷ body.Copy 1 1 0 (u 0 0 0) (0 ∷ 0 ∷ 0 ∷ 0 ∷ 0 ∷ 0 ∷ 0 ∷ 8 ∷ []) ∷ [])
    ∷ (event.Deliver (Number 21), body.Void 21 ∷ [])
    ∷ (event.BeginIn (l 167) (l 166), body.Began (l 167) kind.Nested (u 2 1 4) (Some (l 166)) ∷ [])
    ∷ (event.Call (l 166) 1 op.Get, body.Sent 24 2 1 frame.Bind ∷ [])
    ∷ (event.Deliver (Number 13), body.Void 13 ∷ [])
    ∷ (event.Deliver (Number 23), body.Got 23 ∷ body.Told 2 (u 3 1 1) Abort part.Server ∷ [])
    ∷ (event.Deliver (Number 24), body.Got 24 ∷ body.Granted 1 (u 2 1 2) (u 0 1 1) Read ∷ body.Sent 25 1 2 frame.Bound ∷ [])
    ∷ (event.Deliver (Number 25), body.Got 25 ∷ body.Granted 2 (u 2 1 3) (u 0 0 1) Read ∷ body.Ok (l 166) 1 op.Get (codes "8") ∷ [])
    ∷ (event.Call (l 165) 1 op.Get, body.Granted 2 (u 2 1 2) (u 0 0 1) Read ∷ body.Ok (l 165) 1 op.Get (codes "8") ∷ [])
    ∷ (event.BeginIn (l 168) (l 165), body.Began (l 168) kind.Nested (u 2 1 5) (Some (l 165)) ∷ [])
    ∷ [])

of_calls_has_causes : lacking of_calls ≡ []
of_calls_has_causes = refl

-- with crashes
abbrev of_crash : Run
of_crash = run
    (nodes 3 (object_line 1 (value.Counter 18446744073709551615) (1 ∷ 3 ∷ 2 ∷ []) (3 ∷ []) ∷ object_line 254 (value.Queue (2 ∷ [])) (2 ∷ 3 ∷ 1 ∷ []) (2 ∷ []) ∷ []))
    ((event.Begin (l 161) 1, body.Began (l 161) kind.Top (u 1 1 1) None ∷ [])
    ∷ (
      event.Call (l 161) 1 (op.Set 3),
      body.Granted 1 (u 1 1 1) (u 0 1 1) Write ∷ body.Bound 1 (b 1 1) 1 ∷ body.Sent 1 1 3 frame.Load
          ∷ [],
    )
    ∷ (event.Deliver (Number 1), body.Got 1 ∷ body.Sent 2 3 1 frame.Loaded ∷ [])
    ∷ (
      event.Settle,
      body.Got 2 ∷ body.Active 1 1 (b 1 1) ∷ body.Lowered 1 (u 1 1 1) (u 0 1 1)
          ∷ body.Granted 1 (u 1 1 1) (u 0 0 1) Write ∷ body.Ok (l 161) 1 (op.Set 3) (codes "done") ∷ [],
    )
    ∷ (event.Commit (l 161), body.Committing (l 161) ∷ body.Sent 3 1 3 frame.Prepare ∷ [])
    ∷ (event.Deliver (Number 3), body.Got 3 ∷ body.Prepared 3 (u 1 1 1) role.Store ∷ body.Sent 4 3 1 frame.Prepared ∷ [])
    ∷ (
      event.Deliver (Number 4),
      body.Got 4 ∷ body.Committed (l 161) ∷ body.Sent 5 1 3 frame.Told
          ∷ body.Told 1 (u 1 1 1) Commit part.Naming ∷ body.Told 1 (u 1 1 1) Commit part.Server ∷ [],
    )
    ∷ (event.Deliver (Number 5), body.Got 5 ∷ body.Done 3 (u 1 1 1) role.Store Commit ∷ body.Sent 6 3 1 frame.Acked ∷ [])
    ∷ (event.Deliver (Number 6), body.Got 6 ∷ [])
    ∷ (event.Begin (l 162) 1, body.Began (l 162) kind.Top (u 1 1 2) None ∷ [])
    ∷ (
      event.Call (l 162) 1 op.Get,
      body.Granted 1 (u 1 1 2) (u 0 1 1) Read ∷ body.Granted 1 (u 1 1 2) (u 0 0 1) Read
          ∷ body.Ok (l 162) 1 op.Get (codes "3") ∷ [],
    )
    ∷ (event.Deliver (Number 6), body.Void 6 ∷ [])
    ∷ (event.Call (l 162) 1 op.Get, body.Ok (l 162) 1 op.Get (codes "3") ∷ [])
    ∷ (
      event.Call (l 162) 254 (op.Push 4),
      body.Granted 1 (u 1 1 2) (u 0 1 254) Write ∷ body.Bound 254 (b 1 2) 2
          ∷ body.Sent 7 1 2 frame.Load ∷ [],
    )
    ∷ (event.Deliver (Number 7), body.Got 7 ∷ body.Sent 8 2 1 frame.Loaded ∷ [])
    ∷ (event.Deliver (Number 8), body.Got 8 ∷ body.Sent 9 1 2 frame.Activate ∷ [])
    ∷ (event.Deliver (Number 9), body.Got 9 ∷ body.Active 2 254 (b 1 2) ∷ body.Sent 10 2 1 frame.Activated ∷ [])
    ∷ (event.Deliver (Number 10), body.Got 10 ∷ body.Lowered 1 (u 1 1 2) (u 0 1 254) ∷ body.Sent 11 1 2 frame.Invoke ∷ [])
    ∷ (event.Abort (l 162), body.Refused 7 ∷ [])
    ∷ (
      event.Settle,
      body.Got 11 ∷ body.Granted 2 (u 1 1 2) (u 0 0 254) Write ∷ body.Sent 12 2 1 frame.Invoked ∷ body.Got 12
          ∷ body.Ok (l 162) 254 (op.Push 4) (codes "done") ∷ [],
    )
    ∷ (event.Begin (l 163) 3, body.Began (l 163) kind.Top (u 3 1 1) None ∷ [])
    ∷ (event.Call (l 163) 1 (op.Add 3), body.Sent 13 3 1 frame.Bind ∷ [])
    ∷ (
      event.Settle,
      body.Got 13 ∷ body.Granted 1 (u 3 1 1) (u 0 1 1) Read ∷ body.Sent 14 1 3 frame.Bound ∷ body.Got 14
          ∷ body.Sent 15 3 1 frame.Invoke ∷ body.Got 15 ∷ body.Sent 16 1 3 frame.Invoked ∷ body.Got 16
          ∷ body.Conflict (l 163) (u 1 1 2) Read 1 ∷ [],
    )
    ∷ (event.Commit (l 163), body.Committing (l 163) ∷ body.Committed (l 163) ∷ body.Sent 17 3 1 frame.Told ∷ [])
    ∷ (
      event.Abort (l 162),
      body.Aborted (l 162) cause.Asked ∷ body.Sent 18 1 2 frame.Told ∷ body.Told 1 (u 1 1 2) Abort part.Naming
          ∷ body.Told 1 (u 1 1 2) Abort part.Server ∷ [],
    )
    ∷ (event.Settle, body.Got 17 ∷ body.Told 1 (u 3 1 1) Abort part.Naming ∷ body.Got 18 ∷ body.Told 2 (u 1 1 2) Abort part.Server ∷ [])
    ∷ (event.Deliver (Number 7), body.Got 7 ∷ body.Sent 19 2 1 frame.Loaded ∷ [])
    ∷ (event.Settle, body.Void 19 ∷ [])
    ∷ (event.Begin (l 164) 3, body.Began (l 164) kind.Top (u 3 1 2) None ∷ [])
    ∷ (event.Call (l 164) 1 (op.Set 1), body.Sent 20 3 1 frame.Bind ∷ [])
    ∷ (
      event.Settle,
      body.Got 20 ∷ body.Granted 1 (u 3 1 2) (u 0 1 1) Read ∷ body.Sent 21 1 3 frame.Bound ∷ body.Got 21
          ∷ body.Sent 22 3 1 frame.Invoke ∷ body.Got 22 ∷ body.Granted 1 (u 3 1 2) (u 0 0 1) Write ∷ body.Sent 23 1 3 frame.Invoked
          ∷ body.Got 23 ∷ body.Ok (l 164) 1 (op.Set 1) (codes "done") ∷ [],
    )
    ∷ (event.Commit (l 164), body.Committing (l 164) ∷ body.Sent 24 3 1 frame.Vote ∷ [])
    ∷ (event.Deliver (Number 24), body.Got 24 ∷ body.Sent 25 1 3 frame.Voted ∷ [])
    ∷ (event.Deliver (Number 25), body.Got 25 ∷ body.Prepared 3 (u 3 1 2) role.Store ∷ body.Sent 26 3 1 frame.Confirm ∷ [])
    ∷ (event.Deliver (Number 26), body.Got 26 ∷ body.Sent 27 1 3 frame.Confirmed ∷ [])
    ∷ (
      event.Deliver (Number 27),
      body.Got 27 ∷ body.Committed (l 164) ∷ body.Sent 28 3 1 frame.Told
          ∷ body.Done 3 (u 3 1 2) role.Store Commit ∷ [],
    )
    ∷ (
      event.Settle,
      body.Got 28 ∷ body.Told 1 (u 3 1 2) Commit part.Naming ∷ body.Told 1 (u 3 1 2) Commit part.Server
          ∷ body.Sent 29 1 3 frame.Acked ∷ body.Got 29 ∷ [],
    )
    ∷ (event.Settle, [])
    ∷ (event.Deliver (Number 18), body.Got 18 ∷ [])
    ∷ (event.Begin (l 165) 2, body.Began (l 165) kind.Top (u 2 1 1) None ∷ [])
    ∷ [])

of_crash_has_causes : lacking of_crash ≡ []
of_crash_has_causes = refl

-- with all kinds of events
abbrev of_full : Run
of_full = run
    (nodes 2 (object_line 1 (value.Table ((0, 5) ∷ (1, 6) ∷ [])) (1 ∷ 2 ∷ []) (2 ∷ []) ∷ object_line 3 (value.Account 4) (2 ∷ []) (2 ∷ 1 ∷ []) ∷ object_line 4 (value.Counter 7) (2 ∷ 1 ∷ []) (2 ∷ []) ∷ object_line 254 (value.Queue (6 ∷ 6 ∷ 8 ∷ 1 ∷ 5 ∷ 1 ∷ 7 ∷ 6 ∷ 0 ∷ 3 ∷ 4 ∷ 2 ∷ 8 ∷ 8 ∷ 4 ∷ 1 ∷ 4 ∷ 7 ∷ 2 ∷ 1 ∷ 4 ∷ 1 ∷ 2 ∷ 0 ∷ 2 ∷ 7 ∷ 3 ∷ 1 ∷ 3 ∷ 6 ∷ 1 ∷ 6 ∷ [])) (1 ∷ 2 ∷ []) (1 ∷ 2 ∷ []) ∷ []))
    ((event.Settle, [])
    ∷ (event.Begin (l 161) 2, body.Began (l 161) kind.Top (u 2 1 1) None ∷ [])
    ∷ (event.Begin (l 162) 2, body.Began (l 162) kind.Top (u 2 1 2) None ∷ [])
    ∷ (event.BeginIn (l 163) (l 161), body.Began (l 163) kind.Nested (u 2 1 3) (Some (l 161)) ∷ [])
    ∷ (event.Call (l 161) 3 (op.Deposit 3), body.Sent 1 2 1 frame.Bind ∷ [])
    ∷ (
      event.Settle,
      body.Got 1 ∷ body.Granted 1 (u 2 1 1) (u 0 1 3) Write ∷ body.Bound 3 (b 1 1) 2 ∷ body.Sent 2 1 2 frame.Bound
          ∷ body.Got 2 ∷ body.Active 2 3 (b 1 1) ∷ body.Sent 3 2 1 frame.Record ∷ body.Got 3 ∷ body.Lowered 1 (u 2 1 1) (u 0 1 3)
          ∷ body.Sent 4 1 2 frame.Recorded ∷ body.Got 4 ∷ body.Granted 2 (u 2 1 1) (u 0 0 3) Write
          ∷ body.Ok (l 161) 3 (op.Deposit 3) (codes "done") ∷ [],
    )
    ∷ (event.Commit (l 161), body.Refused 9 ∷ [])
    ∷ (event.Stop 2 2 stop.Done, body.Armed 2 ∷ [])
    ∷ (event.Settle, [])
    ∷ (event.Restart 2, body.Refused 3 ∷ [])
    ∷ (event.Quiesce, body.Sent 5 1 2 frame.Query ∷ body.Got 5 ∷ body.Quiet true ∷ [])
    ∷ (event.BeginIn (l 164) (l 162), body.Began (l 164) kind.Nested (u 2 1 4) (Some (l 162)) ∷ [])
    ∷ (event.BeginIn (l 165) (l 164), body.Began (l 165) kind.Nested (u 2 1 5) (Some (l 164)) ∷ [])
    ∷ (event.Deliver (Number 2), body.Void 2 ∷ [])
    ∷ (event.Settle, [])
    ∷ (event.Begin (l 166) 1, body.Began (l 166) kind.Top (u 1 1 1) None ∷ [])
    ∷ (
      event.Call (l 166) 1 (op.PutPair 7 4),
      body.Granted 1 (u 1 1 1) (u 0 1 1) Write ∷ body.Bound 1 (b 1 2) 1
          ∷ body.Sent 6 1 2 frame.Load ∷ [],
    )
    ∷ (
      event.Settle,
      body.Got 6 ∷ body.Sent 7 2 1 frame.Loaded ∷ body.Got 7 ∷ body.Active 1 1 (b 1 2)
          ∷ body.Lowered 1 (u 1 1 1) (u 0 1 1) ∷ body.Granted 1 (u 1 1 1) (u 0 0 1) Write
          ∷ body.Ok (l 166) 1 (op.PutPair 7 4) (codes "done") ∷ [],
    )
    ∷ (event.Call (l 166) 1 (op.Remove 12), body.Ok (l 166) 1 (op.Remove 12) (codes "none") ∷ [])
    ∷ (event.Deliver (Number 4), body.Void 4 ∷ [])
    ∷ (event.Deliver (Number 1), body.Got 1 ∷ body.Sent 8 1 2 frame.Bound ∷ [])
    ∷ (event.Tick 1, body.Sent 9 1 2 frame.Query ∷ [])
    ∷ (event.Settle, body.Void 8 ∷ body.Got 9 ∷ [])
    ∷ (event.Call (l 166) 1 (op.PutPair 7 4), body.Ok (l 166) 1 (op.PutPair 7 4) (codes "done") ∷ [])
    ∷ (event.Settle, [])
    ∷ (event.Call (l 166) 4 op.Get, body.Granted 1 (u 1 1 1) (u 0 1 4) Write ∷ body.Bound 4 (b 1 3) 2 ∷ body.Sent 10 1 2 frame.Load ∷ [])
    ∷ (event.Settle, body.Got 10 ∷ body.Halted 2 ∷ [])
    ∷ (event.Commit (l 166), body.Refused 7 ∷ [])
    ∷ (event.Begin (l 167) 1, body.Began (l 167) kind.Top (u 1 1 2) None ∷ [])
    ∷ (event.Commit (l 167), body.Committing (l 167) ∷ body.Committed (l 167) ∷ [])
    ∷ (event.Deliver (Number 10), body.Void 10 ∷ [])
    ∷ (event.Restart 2, body.Up 2 2 ∷ body.Sent 11 2 1 frame.Hello ∷ [])
    ∷ (
      event.Settle,
      body.Got 11 ∷ body.Sent 12 1 2 frame.Query ∷ body.Got 12 ∷ body.Sent 13 2 1 frame.Told ∷ body.Got 13
          ∷ body.Told 1 (u 2 1 1) Abort part.Naming ∷ [],
    )
    ∷ (event.Abort (l 166), body.Refused 7 ∷ [])
    ∷ (event.Serial (l 168) 2, body.Began (l 168) kind.Serial (u 2 2 1) None ∷ [])
    ∷ (event.Settle, [])
    ∷ (event.Begin (l 169) 2, body.Began (l 169) kind.Top (u 2 2 2) None ∷ [])
    ∷ (event.Call (l 169) 1 (op.PutPair 16 3), body.Sent 14 2 1 frame.Bind ∷ [])
    ∷ (
      event.Settle,
      body.Got 14 ∷ body.Granted 1 (u 2 2 2) (u 0 1 1) Read ∷ body.Sent 15 1 2 frame.Bound ∷ body.Got 15
          ∷ body.Sent 16 2 1 frame.Invoke ∷ body.Got 16 ∷ body.Sent 17 1 2 frame.Invoked ∷ body.Got 17
          ∷ body.Conflict (l 169) (u 1 1 1) Write 1 ∷ [],
    )
    ∷ (event.Commit (l 169), body.Committing (l 169) ∷ body.Committed (l 169) ∷ body.Sent 18 2 1 frame.Told ∷ [])
    ∷ [])

of_full_has_causes : lacking of_full ≡ []
of_full_has_causes = refl

-- with events that are refused, and words at the ends of their ranges
abbrev of_hostile : Run
of_hostile = run
    (nodes 2 (object_line 1 (value.Account 6) (2 ∷ []) (1 ∷ []) ∷ []))
    ((event.BeginIn (l 161) (l 161), body.Refused 5 ∷ [])
    ∷ (event.Begin (l 161) 1, body.Began (l 161) kind.Top (u 1 1 1) None ∷ [])
    ∷ (event.Abort (l 162), body.Refused 5 ∷ [])
    ∷ (
      event.Call (l 161) 1 (op.Deposit 3),
      body.Granted 1 (u 1 1 1) (u 0 1 1) Write ∷ body.Bound 1 (b 1 1) 2
          ∷ body.Sent 1 1 2 frame.Activate ∷ [],
    )
    ∷ (event.Begin (l 163) 1, body.Began (l 163) kind.Top (u 1 1 2) None ∷ [])
    ∷ (event.Call (l 163) 1 op.Get, body.Conflict (l 163) (u 1 1 1) Write 1 ∷ [])
    ∷ (event.Call (l 163) 1 (op.Deposit 3), body.Conflict (l 163) (u 1 1 1) Write 1 ∷ [])
    ∷ (
      event.Settle,
      body.Got 1 ∷ body.Active 2 1 (b 1 1) ∷ body.Sent 2 2 1 frame.Activated ∷ body.Got 2
          ∷ body.Lowered 1 (u 1 1 1) (u 0 1 1) ∷ body.Sent 3 1 2 frame.Invoke ∷ body.Got 3 ∷ body.Granted 2 (u 1 1 1) (u 0 0 1) Write
          ∷ body.Sent 4 2 1 frame.Invoked ∷ body.Got 4 ∷ body.Ok (l 161) 1 (op.Deposit 3) (codes "done") ∷ [],
    )
    ∷ (event.Top (l 163) (l 163), body.Refused 4 ∷ [])
    ∷ (event.Call (l 161) 1 (op.Deposit 4), body.Sent 5 1 2 frame.Invoke ∷ [])
    ∷ (event.Abort (l 161), body.Refused 7 ∷ [])
    ∷ (event.Abort (l 163), body.Aborted (l 163) cause.Asked ∷ [])
    ∷ (event.Abort (l 163), body.Refused 6 ∷ [])
    ∷ (event.Settle, body.Got 5 ∷ body.Sent 6 2 1 frame.Invoked ∷ body.Got 6 ∷ body.Ok (l 161) 1 (op.Deposit 4) (codes "done") ∷ [])
    ∷ (event.Begin (l 164) 2, body.Began (l 164) kind.Top (u 2 1 1) None ∷ [])
    ∷ (event.Call (l 164) 1 (op.Deposit 1), body.Sent 7 2 1 frame.Bind ∷ [])
    ∷ (
      event.Settle,
      body.Got 7 ∷ body.Granted 1 (u 2 1 1) (u 0 1 1) Read ∷ body.Sent 8 1 2 frame.Bound ∷ body.Got 8
          ∷ body.Conflict (l 164) (u 1 1 1) Write 2 ∷ [],
    )
    ∷ (event.Call (l 164) 1 (op.Withdraw 0), body.Conflict (l 164) (u 1 1 1) Write 2 ∷ [])
    ∷ (event.Call (l 161) 1 (op.Deposit 3), body.Sent 9 1 2 frame.Invoke ∷ [])
    ∷ (event.Lose (Number 9), body.Dropped 9 ∷ [])
    ∷ (event.Tick 2, body.Sent 10 2 1 frame.Query ∷ [])
    ∷ (event.Settle, body.Got 10 ∷ [])
    ∷ (event.Call (l 164) 1 (op.Deposit 1), body.Conflict (l 164) (u 1 1 1) Write 2 ∷ [])
    ∷ (event.Settle, [])
    ∷ (event.Deliver (Number 9), body.Got 9 ∷ body.Sent 11 2 1 frame.Invoked ∷ [])
    ∷ (event.Settle, body.Got 11 ∷ body.Ok (l 161) 1 (op.Deposit 3) (codes "done") ∷ [])
    ∷ (event.Commit (l 164), body.Committing (l 164) ∷ body.Committed (l 164) ∷ body.Sent 12 2 1 frame.Told ∷ [])
    ∷ (event.Call (l 161) 1 op.Get, body.Sent 13 1 2 frame.Invoke ∷ [])
    ∷ (event.Deliver (Number 12), body.Got 12 ∷ body.Told 1 (u 2 1 1) Abort part.Naming ∷ [])
    ∷ (event.Lose (Number 13), body.Dropped 13 ∷ [])
    ∷ (event.Settle, [])
    ∷ (event.Deliver (Number 0), body.Refused 17 ∷ [])
    ∷ (event.Serial (l 165) 2, body.Began (l 165) kind.Serial (u 2 1 2) None ∷ [])
    ∷ (event.BeginIn (l 166) (l 165), body.Began (l 166) kind.Constituent (u 2 1 3) (Some (l 165)) ∷ [])
    ∷ (event.Call (l 166) 1 (op.Deposit 3), body.Sent 14 2 1 frame.Bind ∷ [])
    ∷ (
      event.Settle,
      body.Got 14 ∷ body.Granted 1 (u 2 1 3) (u 0 1 1) Read ∷ body.Sent 15 1 2 frame.Bound ∷ body.Got 15
          ∷ body.Conflict (l 166) (u 1 1 1) Write 2 ∷ [],
    )
    ∷ (event.Commit (l 166), body.Committing (l 166) ∷ body.Committed (l 166) ∷ body.Sent 16 2 1 frame.Told ∷ [])
    ∷ (event.Lose (Number 16), body.Dropped 16 ∷ [])
    ∷ (event.BeginIn (l 167) (l 165), body.Began (l 167) kind.Constituent (u 2 1 4) (Some (l 165)) ∷ [])
    ∷ (event.Call (l 167) 1 (op.Deposit 3), body.Sent 17 2 1 frame.Bind ∷ [])
    ∷ [])

of_hostile_has_causes : lacking of_hostile ≡ []
of_hostile_has_causes = refl
