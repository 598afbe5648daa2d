-- Worked runs: every line has its cause.
use Rattle.std.specs.Prelude.{◌≡◌, refl, [], ◌∷◌, codes, true, Some, None}
use Rattle.arj_base.specs.declared.mode.Mode.TheVariants.{Read, Exclude, Write}
use Rattle.arj_base.specs.declared.mode.End.TheVariants.{Abort, Commit}
use Rattle.arj_base.specs.declared.state.Class.TheVariants as class
use Rattle.arj_class.specs.declared.op.Op.TheVariants as op
use Rattle.arj_class.specs.declared.value.Value.TheVariants as value
use Rattle.arj_journal.specs.declared.body.Body.TheVariants as body
use Rattle.arj_journal.specs.declared.body.Cause.TheVariants as cause
use Rattle.arj_journal.specs.declared.body.Difference.TheVariants as difference
use Rattle.arj_journal.specs.declared.body.FrameKind.TheVariants as frame
use Rattle.arj_journal.specs.declared.body.Kind.TheVariants as kind
use Rattle.arj_journal.specs.declared.body.Part.TheVariants as part
use Rattle.arj_journal.specs.declared.body.Role.TheVariants as role
use Rattle.arj_journal.specs.declared.event.Event.TheVariants as event
use Rattle.arj_journal.specs.declared.event.FrameNo.TheVariants.{Number}
use Rattle.arj_journal.specs.declared.event.StopKind.TheVariants as stop
use Rattle.arj_cause_tests.proofs.Words.{l, u, b, object_line, nodes, run, Run, lacking}

-- a doomed nested action, and the next binding for another server
abbrev pub rebinding : Run
rebinding = run
    (nodes 3 (object_line 1 (value.Counter 0) (2 ∷ 3 ∷ []) (1 ∷ []) ∷ []))
    ((event.Begin (l 65) 1, body.Began (l 65) kind.Top (u 1 1 1) None ∷ [])
    ∷ (event.BeginIn (l 78) (l 65), body.Began (l 78) kind.Nested (u 1 1 2) (Some (l 65)) ∷ [])
    ∷ (
      event.Call (l 78) 1 (op.Add 1),
      body.Granted 1 (u 1 1 1) (u 0 1 1) Write ∷ body.Bound 1 (b 1 1) 2
          ∷ body.Sent 1 1 2 frame.Activate ∷ [],
    )
    ∷ (event.Call (l 65) 1 op.Get, body.Refused 7 ∷ [])
    ∷ (event.Deliver (Number 1), body.Got 1 ∷ body.Active 2 1 (b 1 1) ∷ body.Sent 2 2 1 frame.Activated ∷ [])
    ∷ (event.Deliver (Number 2), body.Got 2 ∷ body.Lowered 1 (u 1 1 1) (u 0 1 1) ∷ body.Sent 3 1 2 frame.Invoke ∷ [])
    ∷ (event.Lose (Number 3), body.Dropped 3 ∷ [])
    ∷ (event.GiveUp (l 78), body.GaveUp (l 78) 2 ∷ body.Lost (l 78) 2 ∷ [])
    ∷ (event.Call (l 78) 1 op.Get, body.Refused 12 ∷ [])
    ∷ (event.Commit (l 78), body.Aborted (l 78) cause.Doomed ∷ body.Sent 4 1 2 frame.Told ∷ [])
    ∷ (event.BeginIn (l 77) (l 65), body.Began (l 77) kind.Nested (u 1 1 3) (Some (l 65)) ∷ [])
    ∷ (event.Call (l 77) 1 (op.Push 1), body.Refused 14 ∷ [])
    ∷ (
      event.Call (l 77) 1 (op.Add 1),
      body.Granted 1 (u 1 1 1) (u 0 1 1) Write ∷ body.Bound 1 (b 1 2) 3
          ∷ body.Sent 5 1 3 frame.Activate ∷ [],
    )
    ∷ (
      event.Settle,
      body.Got 4 ∷ body.Got 5 ∷ body.Active 3 1 (b 1 2) ∷ body.Sent 6 3 1 frame.Activated ∷ body.Got 6
          ∷ body.Lowered 1 (u 1 1 1) (u 0 1 1) ∷ body.Sent 7 1 3 frame.Invoke ∷ body.Got 7 ∷ body.Granted 3 (u 1 1 3) (u 0 0 1) Write
          ∷ body.Sent 8 3 1 frame.Invoked ∷ body.Got 8 ∷ body.Ok (l 77) 1 (op.Add 1) (codes "done") ∷ [],
    )
    ∷ (event.Commit (l 77), body.Committed (l 77) ∷ body.Sent 9 1 3 frame.Told ∷ [])
    ∷ (event.Commit (l 65), body.Committing (l 65) ∷ body.Sent 10 1 3 frame.Vote ∷ [])
    ∷ (
      event.Settle,
      body.Got 9 ∷ body.Told 3 (u 1 1 3) Commit part.Server ∷ body.Got 10 ∷ body.Sent 11 3 1 frame.Voted ∷ body.Got 11
          ∷ body.Prepared 1 (u 1 1 1) role.Store ∷ body.Committed (l 65) ∷ body.Sent 12 1 2 frame.Told ∷ body.Sent 13 1 3 frame.Told
          ∷ body.Done 1 (u 1 1 1) role.Store Commit ∷ body.Told 1 (u 1 1 1) Commit part.Naming ∷ body.Got 12 ∷ body.Got 13
          ∷ body.Told 3 (u 1 1 1) Commit part.Server ∷ body.Sent 14 3 1 frame.Acked ∷ body.Got 14 ∷ [],
    )
    ∷ [])

rebinding_has_causes : lacking rebinding ≡ []
rebinding_has_causes = refl

-- a server crashes between the grant of a lock and the vote
abbrev pub lost_lock : Run
lost_lock = run
    (nodes 2 (object_line 1 (value.Counter 0) (2 ∷ []) (1 ∷ []) ∷ []))
    ((event.Begin (l 65) 1, body.Began (l 65) kind.Top (u 1 1 1) None ∷ [])
    ∷ (
      event.Call (l 65) 1 op.Get,
      body.Granted 1 (u 1 1 1) (u 0 1 1) Write ∷ body.Bound 1 (b 1 1) 2 ∷ body.Sent 1 1 2 frame.Activate
          ∷ [],
    )
    ∷ (
      event.Settle,
      body.Got 1 ∷ body.Active 2 1 (b 1 1) ∷ body.Sent 2 2 1 frame.Activated ∷ body.Got 2
          ∷ body.Lowered 1 (u 1 1 1) (u 0 1 1) ∷ body.Sent 3 1 2 frame.Invoke ∷ body.Got 3 ∷ body.Granted 2 (u 1 1 1) (u 0 0 1) Read
          ∷ body.Sent 4 2 1 frame.Invoked ∷ body.Got 4 ∷ body.Ok (l 65) 1 op.Get (codes "0") ∷ [],
    )
    ∷ (event.Crash 2, body.Halted 2 ∷ [])
    ∷ (event.Restart 2, body.Up 2 2 ∷ body.Sent 5 2 1 frame.Hello ∷ [])
    ∷ (event.Commit (l 65), body.Committing (l 65) ∷ body.Sent 6 1 2 frame.Vote ∷ [])
    ∷ (
      event.Settle,
      body.Got 5 ∷ body.Got 6 ∷ body.Sent 7 2 1 frame.Voted ∷ body.Got 7
          ∷ body.Aborted (l 65) (cause.Changed 2 (difference.Inc 1 2)) ∷ body.Sent 8 1 2 frame.Told
          ∷ body.Told 1 (u 1 1 1) Abort part.Naming ∷ body.Got 8 ∷ [],
    )
    ∷ [])

lost_lock_has_causes : lacking lost_lock ≡ []
lost_lock_has_causes = refl

-- a nested action is aborted, and its parent goes on
abbrev pub nested_abort : Run
nested_abort = run
    (nodes 1 (object_line 1 (value.Counter 0) (1 ∷ []) (1 ∷ []) ∷ []))
    ((event.Begin (l 65) 1, body.Began (l 65) kind.Top (u 1 1 1) None ∷ [])
    ∷ (
      event.Call (l 65) 1 (op.Add 4),
      body.Granted 1 (u 1 1 1) (u 0 1 1) Write ∷ body.Bound 1 (b 1 1) 1 ∷ body.Active 1 1 (b 1 1)
          ∷ body.Lowered 1 (u 1 1 1) (u 0 1 1) ∷ body.Granted 1 (u 1 1 1) (u 0 0 1) Write ∷ body.Ok (l 65) 1 (op.Add 4) (codes "done")
          ∷ [],
    )
    ∷ (event.BeginIn (l 78) (l 65), body.Began (l 78) kind.Nested (u 1 1 2) (Some (l 65)) ∷ [])
    ∷ (event.Call (l 78) 1 (op.Add 5), body.Granted 1 (u 1 1 2) (u 0 0 1) Write ∷ body.Ok (l 78) 1 (op.Add 5) (codes "done") ∷ [])
    ∷ (event.Abort (l 78), body.Aborted (l 78) cause.Asked ∷ body.Told 1 (u 1 1 2) Abort part.Server ∷ [])
    ∷ (event.Call (l 65) 1 op.Get, body.Ok (l 65) 1 op.Get (codes "4") ∷ [])
    ∷ (
      event.Commit (l 65),
      body.Committing (l 65) ∷ body.Prepared 1 (u 1 1 1) role.Store ∷ body.Committed (l 65)
          ∷ body.Done 1 (u 1 1 1) role.Store Commit ∷ body.Told 1 (u 1 1 1) Commit part.Naming ∷ body.Told 1 (u 1 1 1) Commit part.Server
          ∷ [],
    )
    ∷ [])

nested_abort_has_causes : lacking nested_abort ≡ []
nested_abort_has_causes = refl

-- a second action meets a write lock, and gets it behind the commit
abbrev pub conflict : Run
conflict = run
    (nodes 1 (object_line 1 (value.Counter 0) (1 ∷ []) (1 ∷ []) ∷ []))
    ((event.Begin (l 65) 1, body.Began (l 65) kind.Top (u 1 1 1) None ∷ [])
    ∷ (
      event.Call (l 65) 1 (op.Add 2),
      body.Granted 1 (u 1 1 1) (u 0 1 1) Write ∷ body.Bound 1 (b 1 1) 1 ∷ body.Active 1 1 (b 1 1)
          ∷ body.Lowered 1 (u 1 1 1) (u 0 1 1) ∷ body.Granted 1 (u 1 1 1) (u 0 0 1) Write ∷ body.Ok (l 65) 1 (op.Add 2) (codes "done")
          ∷ [],
    )
    ∷ (event.Begin (l 66) 1, body.Began (l 66) kind.Top (u 1 1 2) None ∷ [])
    ∷ (event.Call (l 66) 1 (op.Add 3), body.Granted 1 (u 1 1 2) (u 0 1 1) Read ∷ body.Conflict (l 66) (u 1 1 1) Write 1 ∷ [])
    ∷ (
      event.Commit (l 65),
      body.Committing (l 65) ∷ body.Prepared 1 (u 1 1 1) role.Store ∷ body.Committed (l 65)
          ∷ body.Done 1 (u 1 1 1) role.Store Commit ∷ body.Told 1 (u 1 1 1) Commit part.Naming ∷ body.Told 1 (u 1 1 1) Commit part.Server
          ∷ [],
    )
    ∷ (event.Call (l 66) 1 (op.Add 3), body.Granted 1 (u 1 1 2) (u 0 0 1) Write ∷ body.Ok (l 66) 1 (op.Add 3) (codes "done") ∷ [])
    ∷ (
      event.Commit (l 66),
      body.Committing (l 66) ∷ body.Prepared 1 (u 1 1 2) role.Store ∷ body.Committed (l 66)
          ∷ body.Done 1 (u 1 1 2) role.Store Commit ∷ body.Told 1 (u 1 1 2) Commit part.Naming ∷ body.Told 1 (u 1 1 2) Commit part.Server
          ∷ [],
    )
    ∷ (event.Show 1, body.Entry 1 0 (1 ∷ []) (1 ∷ []) ∷ body.Copy 1 1 2 (u 1 1 2) (0 ∷ 0 ∷ 0 ∷ 0 ∷ 0 ∷ 0 ∷ 0 ∷ 5 ∷ []) ∷ [])
    ∷ [])

conflict_has_causes : lacking conflict ≡ []
conflict_has_causes = refl

-- a store is excluded, included again, and once too often
abbrev pub inclusion : Run
inclusion = run
    (nodes 3 (object_line 1 (value.Counter 0) (1 ∷ []) (2 ∷ 3 ∷ []) ∷ []))
    ((event.Begin (l 65) 1, body.Began (l 65) kind.Top (u 1 1 1) None ∷ [])
    ∷ (
      event.Call (l 65) 1 (op.Add 1),
      body.Granted 1 (u 1 1 1) (u 0 1 1) Write ∷ body.Bound 1 (b 1 1) 1 ∷ body.Sent 1 1 2 frame.Load
          ∷ [],
    )
    ∷ (
      event.Settle,
      body.Got 1 ∷ body.Sent 2 2 1 frame.Loaded ∷ body.Got 2 ∷ body.Active 1 1 (b 1 1)
          ∷ body.Lowered 1 (u 1 1 1) (u 0 1 1) ∷ body.Granted 1 (u 1 1 1) (u 0 0 1) Write ∷ body.Ok (l 65) 1 (op.Add 1) (codes "done")
          ∷ [],
    )
    ∷ (event.Commit (l 65), body.Committing (l 65) ∷ body.Sent 3 1 2 frame.Prepare ∷ body.Sent 4 1 3 frame.Prepare ∷ [])
    ∷ (event.Lose (Number 4), body.Dropped 4 ∷ [])
    ∷ (event.Settle, body.Got 3 ∷ body.Prepared 2 (u 1 1 1) role.Store ∷ body.Sent 5 2 1 frame.Prepared ∷ body.Got 5 ∷ [])
    ∷ (
      event.GiveUp (l 65),
      body.GaveUp (l 65) 3 ∷ body.Excluded (l 65) 1 3 ∷ body.Granted 1 (u 1 1 1) (u 0 1 1) Exclude
          ∷ body.Prepared 1 (u 1 1 1) role.Names ∷ body.Committed (l 65) ∷ body.Sent 6 1 2 frame.Told ∷ body.Sent 7 1 3 frame.Told
          ∷ body.Done 1 (u 1 1 1) role.Names Commit ∷ body.Told 1 (u 1 1 1) Commit part.Naming ∷ body.Told 1 (u 1 1 1) Commit part.Server
          ∷ [],
    )
    ∷ (event.Settle, body.Got 6 ∷ body.Done 2 (u 1 1 1) role.Store Commit ∷ body.Sent 8 2 1 frame.Acked ∷ body.Got 7 ∷ body.Got 8 ∷ [])
    ∷ (
      event.Show 1,
      body.Entry 1 1 (1 ∷ []) (2 ∷ []) ∷ body.Copy 2 1 1 (u 1 1 1) (0 ∷ 0 ∷ 0 ∷ 0 ∷ 0 ∷ 0 ∷ 0 ∷ 1 ∷ [])
          ∷ body.Copy 3 1 0 (u 0 0 0) (0 ∷ 0 ∷ 0 ∷ 0 ∷ 0 ∷ 0 ∷ 0 ∷ 0 ∷ []) ∷ [],
    )
    ∷ (event.Begin (l 73) 1, body.Began (l 73) kind.Top (u 1 1 2) None ∷ [])
    ∷ (event.Include (l 73) 1 3, body.Granted 1 (u 1 1 2) (u 0 1 1) Write ∷ body.Sent 9 1 2 frame.Load ∷ [])
    ∷ (event.Settle, body.Got 9 ∷ body.Sent 10 2 1 frame.Loaded ∷ body.Got 10 ∷ body.Includes (l 73) 1 3 ∷ [])
    ∷ (event.Commit (l 73), body.Committing (l 73) ∷ body.Sent 11 1 3 frame.Prepare ∷ [])
    ∷ (
      event.Settle,
      body.Got 11 ∷ body.Prepared 3 (u 1 1 2) role.Store ∷ body.Sent 12 3 1 frame.Prepared ∷ body.Got 12
          ∷ body.Prepared 1 (u 1 1 2) role.Names ∷ body.Committed (l 73) ∷ body.Sent 13 1 2 frame.Told ∷ body.Sent 14 1 3 frame.Told
          ∷ body.Done 1 (u 1 1 2) role.Names Commit ∷ body.Told 1 (u 1 1 2) Commit part.Naming ∷ body.Got 13 ∷ body.Got 14
          ∷ body.Done 3 (u 1 1 2) role.Store Commit ∷ body.Sent 15 3 1 frame.Acked ∷ body.Got 15 ∷ [],
    )
    ∷ (
      event.Show 1,
      body.Entry 1 2 (1 ∷ []) (2 ∷ 3 ∷ []) ∷ body.Copy 2 1 1 (u 1 1 1) (0 ∷ 0 ∷ 0 ∷ 0 ∷ 0 ∷ 0 ∷ 0 ∷ 1 ∷ [])
          ∷ body.Copy 3 1 1 (u 1 1 1) (0 ∷ 0 ∷ 0 ∷ 0 ∷ 0 ∷ 0 ∷ 0 ∷ 1 ∷ []) ∷ [],
    )
    ∷ (event.Begin (l 74) 1, body.Began (l 74) kind.Top (u 1 1 3) None ∷ [])
    ∷ (event.Include (l 74) 1 3, body.Granted 1 (u 1 1 3) (u 0 1 1) Write ∷ body.Sent 16 1 2 frame.Load ∷ [])
    ∷ (event.Settle, body.Got 16 ∷ body.Sent 17 2 1 frame.Loaded ∷ body.Got 17 ∷ body.Includes (l 74) 1 3 ∷ [])
    ∷ (event.Commit (l 74), body.Committing (l 74) ∷ body.Sent 18 1 3 frame.Prepare ∷ [])
    ∷ (
      event.Settle,
      body.Got 18 ∷ body.Prepared 3 (u 1 1 3) role.Store ∷ body.Sent 19 3 1 frame.Prepared ∷ body.Got 19
          ∷ body.Aborted (l 74) (cause.Listed 1 3) ∷ body.Sent 20 1 2 frame.Told ∷ body.Sent 21 1 3 frame.Told
          ∷ body.Told 1 (u 1 1 3) Abort part.Naming ∷ body.Got 20 ∷ body.Got 21 ∷ body.Done 3 (u 1 1 3) role.Store Abort ∷ [],
    )
    ∷ [])

inclusion_has_causes : lacking inclusion ≡ []
inclusion_has_causes = refl

-- siblings over two servers, of which one waits
abbrev pub sibling_waits : Run
sibling_waits = run
    (nodes 3 (object_line 1 (value.Counter 0) (2 ∷ 3 ∷ []) (1 ∷ []) ∷ []))
    ((event.Begin (l 65) 1, body.Began (l 65) kind.Top (u 1 1 1) None ∷ [])
    ∷ (event.BeginIn (l 78) (l 65), body.Began (l 78) kind.Nested (u 1 1 2) (Some (l 65)) ∷ [])
    ∷ (event.BeginIn (l 77) (l 65), body.Began (l 77) kind.Nested (u 1 1 3) (Some (l 65)) ∷ [])
    ∷ (
      event.Call (l 78) 1 (op.Add 1),
      body.Granted 1 (u 1 1 1) (u 0 1 1) Write ∷ body.Bound 1 (b 1 1) 2
          ∷ body.Sent 1 1 2 frame.Activate ∷ [],
    )
    ∷ (event.Deliver (Number 1), body.Got 1 ∷ body.Active 2 1 (b 1 1) ∷ body.Sent 2 2 1 frame.Activated ∷ [])
    ∷ (event.Deliver (Number 2), body.Got 2 ∷ body.Lowered 1 (u 1 1 1) (u 0 1 1) ∷ body.Sent 3 1 2 frame.Invoke ∷ [])
    ∷ (event.Call (l 77) 1 op.Get, body.Sent 4 1 2 frame.Invoke ∷ [])
    ∷ (event.GiveUp (l 77), body.GaveUp (l 77) 2 ∷ body.Lost (l 77) 2 ∷ [])
    ∷ (event.Abort (l 77), body.Aborted (l 77) cause.Asked ∷ body.Sent 5 1 2 frame.Told ∷ [])
    ∷ (event.BeginIn (l 75) (l 65), body.Began (l 75) kind.Nested (u 1 1 4) (Some (l 65)) ∷ [])
    ∷ (event.Call (l 75) 1 (op.Add 1), body.Sent 6 1 2 frame.Invoke ∷ [])
    ∷ (
      event.Settle,
      body.Got 3 ∷ body.Granted 2 (u 1 1 2) (u 0 0 1) Write ∷ body.Sent 7 2 1 frame.Invoked ∷ body.Got 4
          ∷ body.Sent 8 2 1 frame.Invoked ∷ body.Got 5 ∷ body.Got 6 ∷ body.Sent 9 2 1 frame.Invoked ∷ body.Got 7
          ∷ body.Ok (l 78) 1 (op.Add 1) (codes "done") ∷ body.Void 8 ∷ body.Got 9 ∷ body.Conflict (l 75) (u 1 1 2) Write 2 ∷ [],
    )
    ∷ [])

sibling_waits_has_causes : lacking sibling_waits ≡ []
sibling_waits_has_causes = refl

-- naming stops while an exclusion is in doubt
abbrev pub naming_stopped : Run
naming_stopped = run
    (nodes 4 (object_line 1 (value.Counter 0) (2 ∷ []) (3 ∷ 4 ∷ []) ∷ []))
    ((event.Begin (l 65) 2, body.Began (l 65) kind.Top (u 2 1 1) None ∷ [])
    ∷ (event.Call (l 65) 1 (op.Add 1), body.Sent 1 2 1 frame.Bind ∷ [])
    ∷ (
      event.Settle,
      body.Got 1 ∷ body.Granted 1 (u 2 1 1) (u 0 1 1) Write ∷ body.Bound 1 (b 1 1) 2 ∷ body.Sent 2 1 2 frame.Bound
          ∷ body.Got 2 ∷ body.Sent 3 2 3 frame.Load ∷ body.Got 3 ∷ body.Sent 4 3 2 frame.Loaded ∷ body.Got 4 ∷ body.Active 2 1 (b 1 1)
          ∷ body.Sent 5 2 1 frame.Record ∷ body.Got 5 ∷ body.Lowered 1 (u 2 1 1) (u 0 1 1) ∷ body.Sent 6 1 2 frame.Recorded ∷ body.Got 6
          ∷ body.Granted 2 (u 2 1 1) (u 0 0 1) Write ∷ body.Ok (l 65) 1 (op.Add 1) (codes "done") ∷ [],
    )
    ∷ (event.Commit (l 65), body.Committing (l 65) ∷ body.Sent 7 2 3 frame.Prepare ∷ body.Sent 8 2 4 frame.Prepare ∷ [])
    ∷ (event.Lose (Number 8), body.Dropped 8 ∷ [])
    ∷ (event.Settle, body.Got 7 ∷ body.Prepared 3 (u 2 1 1) role.Store ∷ body.Sent 9 3 2 frame.Prepared ∷ body.Got 9 ∷ [])
    ∷ (event.GiveUp (l 65), body.GaveUp (l 65) 4 ∷ body.Excluded (l 65) 1 4 ∷ body.Sent 10 2 1 frame.Confirm ∷ [])
    ∷ (
      event.Deliver (Number 10),
      body.Got 10 ∷ body.Granted 1 (u 2 1 1) (u 0 1 1) Exclude ∷ body.Prepared 1 (u 2 1 1) role.Names
          ∷ body.Sent 11 1 2 frame.Confirmed ∷ [],
    )
    ∷ (event.Crash 1, body.Halted 1 ∷ [])
    ∷ (
      event.Deliver (Number 11),
      body.Got 11 ∷ body.Committed (l 65) ∷ body.Sent 12 2 1 frame.Told ∷ body.Sent 13 2 3 frame.Told
          ∷ body.Sent 14 2 4 frame.Told ∷ body.Told 2 (u 2 1 1) Commit part.Server ∷ [],
    )
    ∷ (
      event.Settle,
      body.Void 12 ∷ body.Got 13 ∷ body.Done 3 (u 2 1 1) role.Store Commit ∷ body.Sent 15 3 2 frame.Acked ∷ body.Got 14
          ∷ body.Got 15 ∷ [],
    )
    ∷ (
      event.Restart 1,
      body.Up 1 2 ∷ body.Granted 1 (u 2 1 1) (u 0 1 1) Exclude ∷ body.Sent 16 1 2 frame.Query
          ∷ body.Sent 17 1 2 frame.Hello ∷ body.Sent 18 1 3 frame.Hello ∷ body.Sent 19 1 4 frame.Hello ∷ [],
    )
    ∷ (event.Begin (l 66) 3, body.Began (l 66) kind.Top (u 3 1 1) None ∷ [])
    ∷ (event.Call (l 66) 1 op.Get, body.Sent 20 3 1 frame.Bind ∷ [])
    ∷ (event.Deliver (Number 20), body.Got 20 ∷ body.Sent 21 1 3 frame.Bound ∷ [])
    ∷ (event.Deliver (Number 21), body.Got 21 ∷ body.Conflict (l 66) (u 2 1 1) Exclude 1 ∷ [])
    ∷ (
      event.Quiesce,
      body.Got 16 ∷ body.Sent 22 2 1 frame.Told ∷ body.Got 17 ∷ body.Got 18 ∷ body.Got 19 ∷ body.Got 22
          ∷ body.Done 1 (u 2 1 1) role.Names Commit ∷ body.Told 1 (u 2 1 1) Commit part.Naming ∷ body.Sent 23 1 2 frame.Acked
          ∷ body.Got 23 ∷ body.Quiet true ∷ [],
    )
    ∷ (
      event.Show 1,
      body.Entry 1 1 (2 ∷ []) (3 ∷ []) ∷ body.Copy 3 1 1 (u 2 1 1) (0 ∷ 0 ∷ 0 ∷ 0 ∷ 0 ∷ 0 ∷ 0 ∷ 1 ∷ [])
          ∷ body.Copy 4 1 0 (u 0 0 0) (0 ∷ 0 ∷ 0 ∷ 0 ∷ 0 ∷ 0 ∷ 0 ∷ 0 ∷ []) ∷ [],
    )
    ∷ [])

pub naming_stopped_has_causes : lacking naming_stopped ≡ []
naming_stopped_has_causes = refl

-- an independent action meets a lock of the one that began it
abbrev pub independent : Run
independent = run
    (nodes 1 (object_line 1 (value.Counter 0) (1 ∷ []) (1 ∷ []) ∷ []))
    ((event.Begin (l 65) 1, body.Began (l 65) kind.Top (u 1 1 1) None ∷ [])
    ∷ (
      event.Call (l 65) 1 op.Get,
      body.Granted 1 (u 1 1 1) (u 0 1 1) Write ∷ body.Bound 1 (b 1 1) 1 ∷ body.Active 1 1 (b 1 1)
          ∷ body.Lowered 1 (u 1 1 1) (u 0 1 1) ∷ body.Granted 1 (u 1 1 1) (u 0 0 1) Read ∷ body.Ok (l 65) 1 op.Get (codes "0") ∷ [],
    )
    ∷ (event.Top (l 84) (l 65), body.Began (l 84) kind.Independent (u 1 1 2) (Some (l 65)) ∷ [])
    ∷ (event.Call (l 84) 1 (op.Add 1), body.Granted 1 (u 1 1 2) (u 0 1 1) Read ∷ body.Conflict (l 84) (u 1 1 1) Read 1 ∷ [])
    ∷ (event.Abort (l 84), body.Aborted (l 84) cause.Asked ∷ body.Told 1 (u 1 1 2) Abort part.Naming ∷ [])
    ∷ [])

independent_has_causes : lacking independent ≡ []
independent_has_causes = refl

-- a store that is given up is excluded
abbrev pub exclusion : Run
exclusion = run
    (nodes 3 (object_line 1 (value.Counter 0) (1 ∷ []) (2 ∷ 3 ∷ []) ∷ []))
    ((event.Begin (l 65) 1, body.Began (l 65) kind.Top (u 1 1 1) None ∷ [])
    ∷ (
      event.Call (l 65) 1 (op.Add 1),
      body.Granted 1 (u 1 1 1) (u 0 1 1) Write ∷ body.Bound 1 (b 1 1) 1 ∷ body.Sent 1 1 2 frame.Load
          ∷ [],
    )
    ∷ (
      event.Settle,
      body.Got 1 ∷ body.Sent 2 2 1 frame.Loaded ∷ body.Got 2 ∷ body.Active 1 1 (b 1 1)
          ∷ body.Lowered 1 (u 1 1 1) (u 0 1 1) ∷ body.Granted 1 (u 1 1 1) (u 0 0 1) Write ∷ body.Ok (l 65) 1 (op.Add 1) (codes "done")
          ∷ [],
    )
    ∷ (event.Commit (l 65), body.Committing (l 65) ∷ body.Sent 3 1 2 frame.Prepare ∷ body.Sent 4 1 3 frame.Prepare ∷ [])
    ∷ (event.Lose (Number 4), body.Dropped 4 ∷ [])
    ∷ (event.Settle, body.Got 3 ∷ body.Prepared 2 (u 1 1 1) role.Store ∷ body.Sent 5 2 1 frame.Prepared ∷ body.Got 5 ∷ [])
    ∷ (
      event.GiveUp (l 65),
      body.GaveUp (l 65) 3 ∷ body.Excluded (l 65) 1 3 ∷ body.Granted 1 (u 1 1 1) (u 0 1 1) Exclude
          ∷ body.Prepared 1 (u 1 1 1) role.Names ∷ body.Committed (l 65) ∷ body.Sent 6 1 2 frame.Told ∷ body.Sent 7 1 3 frame.Told
          ∷ body.Done 1 (u 1 1 1) role.Names Commit ∷ body.Told 1 (u 1 1 1) Commit part.Naming ∷ body.Told 1 (u 1 1 1) Commit part.Server
          ∷ [],
    )
    ∷ (event.Settle, body.Got 6 ∷ body.Done 2 (u 1 1 1) role.Store Commit ∷ body.Sent 8 2 1 frame.Acked ∷ body.Got 7 ∷ body.Got 8 ∷ [])
    ∷ (
      event.Show 1,
      body.Entry 1 1 (1 ∷ []) (2 ∷ []) ∷ body.Copy 2 1 1 (u 1 1 1) (0 ∷ 0 ∷ 0 ∷ 0 ∷ 0 ∷ 0 ∷ 0 ∷ 1 ∷ [])
          ∷ body.Copy 3 1 0 (u 0 0 0) (0 ∷ 0 ∷ 0 ∷ 0 ∷ 0 ∷ 0 ∷ 0 ∷ 0 ∷ []) ∷ [],
    )
    ∷ [])

exclusion_has_causes : lacking exclusion ≡ []
exclusion_has_causes = refl

-- every store is given up
abbrev pub no_store_left : Run
no_store_left = run
    (nodes 3 (object_line 1 (value.Counter 0) (1 ∷ []) (2 ∷ 3 ∷ []) ∷ []))
    ((event.Begin (l 65) 1, body.Began (l 65) kind.Top (u 1 1 1) None ∷ [])
    ∷ (
      event.Call (l 65) 1 (op.Add 1),
      body.Granted 1 (u 1 1 1) (u 0 1 1) Write ∷ body.Bound 1 (b 1 1) 1 ∷ body.Sent 1 1 2 frame.Load
          ∷ [],
    )
    ∷ (
      event.Settle,
      body.Got 1 ∷ body.Sent 2 2 1 frame.Loaded ∷ body.Got 2 ∷ body.Active 1 1 (b 1 1)
          ∷ body.Lowered 1 (u 1 1 1) (u 0 1 1) ∷ body.Granted 1 (u 1 1 1) (u 0 0 1) Write ∷ body.Ok (l 65) 1 (op.Add 1) (codes "done")
          ∷ [],
    )
    ∷ (event.Commit (l 65), body.Committing (l 65) ∷ body.Sent 3 1 2 frame.Prepare ∷ body.Sent 4 1 3 frame.Prepare ∷ [])
    ∷ (
      event.GiveUp (l 65),
      body.GaveUp (l 65) 2 ∷ body.GaveUp (l 65) 3 ∷ body.Excluded (l 65) 1 2 ∷ body.Excluded (l 65) 1 3
          ∷ body.Aborted (l 65) (cause.NoStores 1) ∷ body.Sent 5 1 2 frame.Told ∷ body.Sent 6 1 3 frame.Told
          ∷ body.Told 1 (u 1 1 1) Abort part.Naming ∷ body.Told 1 (u 1 1 1) Abort part.Server ∷ [],
    )
    ∷ [])

no_store_left_has_causes : lacking no_store_left ≡ []
no_store_left_has_causes = refl

-- a coordinator stops behind its decision, and finds it again
abbrev pub stop_at_decision_done : Run
stop_at_decision_done = run
    (nodes 3 (object_line 1 (value.Counter 0) (1 ∷ []) (2 ∷ 3 ∷ []) ∷ []))
    ((event.Begin (l 65) 1, body.Began (l 65) kind.Top (u 1 1 1) None ∷ [])
    ∷ (
      event.Call (l 65) 1 (op.Add 1),
      body.Granted 1 (u 1 1 1) (u 0 1 1) Write ∷ body.Bound 1 (b 1 1) 1 ∷ body.Sent 1 1 2 frame.Load
          ∷ [],
    )
    ∷ (
      event.Settle,
      body.Got 1 ∷ body.Sent 2 2 1 frame.Loaded ∷ body.Got 2 ∷ body.Active 1 1 (b 1 1)
          ∷ body.Lowered 1 (u 1 1 1) (u 0 1 1) ∷ body.Granted 1 (u 1 1 1) (u 0 0 1) Write ∷ body.Ok (l 65) 1 (op.Add 1) (codes "done")
          ∷ [],
    )
    ∷ (event.Commit (l 65), body.Committing (l 65) ∷ body.Sent 3 1 2 frame.Prepare ∷ body.Sent 4 1 3 frame.Prepare ∷ [])
    ∷ (event.Stop 1 2 stop.Done, body.Armed 1 ∷ [])
    ∷ (
      event.Settle,
      body.Got 3 ∷ body.Prepared 2 (u 1 1 1) role.Store ∷ body.Sent 5 2 1 frame.Prepared ∷ body.Got 4
          ∷ body.Prepared 3 (u 1 1 1) role.Store ∷ body.Sent 6 3 1 frame.Prepared ∷ body.Got 5 ∷ body.Got 6 ∷ body.Halted 1 ∷ [],
    )
    ∷ (
      event.Restart 1,
      body.Up 1 2 ∷ body.Recovered 1 (u 1 1 1) ∷ body.Sent 7 1 2 frame.Told ∷ body.Sent 8 1 3 frame.Told
          ∷ body.Sent 9 1 2 frame.Hello ∷ body.Sent 10 1 3 frame.Hello ∷ [],
    )
    ∷ (
      event.Quiesce,
      body.Got 7 ∷ body.Done 2 (u 1 1 1) role.Store Commit ∷ body.Sent 11 2 1 frame.Acked ∷ body.Got 8
          ∷ body.Done 3 (u 1 1 1) role.Store Commit ∷ body.Sent 12 3 1 frame.Acked ∷ body.Got 9 ∷ body.Got 10 ∷ body.Got 11 ∷ body.Got 12
          ∷ body.Quiet true ∷ [],
    )
    ∷ (
      event.Show 1,
      body.Entry 1 0 (1 ∷ []) (2 ∷ 3 ∷ []) ∷ body.Copy 2 1 1 (u 1 1 1) (0 ∷ 0 ∷ 0 ∷ 0 ∷ 0 ∷ 0 ∷ 0 ∷ 1 ∷ [])
          ∷ body.Copy 3 1 1 (u 1 1 1) (0 ∷ 0 ∷ 0 ∷ 0 ∷ 0 ∷ 0 ∷ 0 ∷ 1 ∷ []) ∷ [],
    )
    ∷ [])

stop_at_decision_done_has_causes : lacking stop_at_decision_done ≡ []
stop_at_decision_done_has_causes = refl

-- constituents of a serializing action, and a stranger between them
abbrev pub serializing : Run
serializing = run
    (nodes 1 (object_line 1 (value.Counter 0) (1 ∷ []) (1 ∷ []) ∷ []))
    ((event.Serial (l 83) 1, body.Began (l 83) kind.Serial (u 1 1 1) None ∷ [])
    ∷ (event.BeginIn (l 67) (l 83), body.Began (l 67) kind.Constituent (u 1 1 2) (Some (l 83)) ∷ [])
    ∷ (
      event.Call (l 67) 1 (op.Add 1),
      body.Granted 1 (u 1 1 2) (u 0 1 1) Write ∷ body.Bound 1 (b 1 1) 1 ∷ body.Active 1 1 (b 1 1)
          ∷ body.Lowered 1 (u 1 1 2) (u 0 1 1) ∷ body.Granted 1 (u 1 1 2) (u 0 0 1) Write ∷ body.Ok (l 67) 1 (op.Add 1) (codes "done")
          ∷ [],
    )
    ∷ (
      event.Commit (l 67),
      body.Committing (l 67) ∷ body.Prepared 1 (u 1 1 2) role.Store ∷ body.Committed (l 67)
          ∷ body.Done 1 (u 1 1 2) role.Store Commit ∷ body.Told 1 (u 1 1 2) Commit part.Naming ∷ body.Told 1 (u 1 1 2) Commit part.Server
          ∷ [],
    )
    ∷ (event.Begin (l 66) 1, body.Began (l 66) kind.Top (u 1 1 3) None ∷ [])
    ∷ (event.Call (l 66) 1 op.Get, body.Granted 1 (u 1 1 3) (u 0 1 1) Read ∷ body.Conflict (l 66) (u 1 1 1) Write 1 ∷ [])
    ∷ (event.BeginIn (l 68) (l 83), body.Began (l 68) kind.Constituent (u 1 1 4) (Some (l 83)) ∷ [])
    ∷ (event.Call (l 68) 1 (op.Add 1), body.Granted 1 (u 1 1 4) (u 0 0 1) Write ∷ body.Ok (l 68) 1 (op.Add 1) (codes "done") ∷ [])
    ∷ (
      event.Commit (l 68),
      body.Committing (l 68) ∷ body.Prepared 1 (u 1 1 4) role.Store ∷ body.Committed (l 68)
          ∷ body.Done 1 (u 1 1 4) role.Store Commit ∷ body.Told 1 (u 1 1 4) Commit part.Server ∷ [],
    )
    ∷ (
      event.Abort (l 83),
      body.Aborted (l 83) cause.Asked ∷ body.Told 1 (u 1 1 1) Abort part.Naming
          ∷ body.Told 1 (u 1 1 1) Abort part.Server ∷ [],
    )
    ∷ (event.Call (l 66) 1 op.Get, body.Granted 1 (u 1 1 3) (u 0 0 1) Read ∷ body.Ok (l 66) 1 op.Get (codes "2") ∷ [])
    ∷ [])

serializing_has_causes : lacking serializing ≡ []
serializing_has_causes = refl

-- an object that is gone at first comes, goes in a nested action that aborts, and goes again
abbrev pub gone : Run
gone = run
    (nodes 1 (object_line 1 (value.Gone class.Counter) (1 ∷ []) (1 ∷ []) ∷ []))
    ((event.Begin (l 65) 1, body.Began (l 65) kind.Top (u 1 1 1) None ∷ [])
    ∷ (
      event.Call (l 65) 1 op.Get,
      body.Granted 1 (u 1 1 1) (u 0 1 1) Write ∷ body.Bound 1 (b 1 1) 1 ∷ body.Active 1 1 (b 1 1)
          ∷ body.Lowered 1 (u 1 1 1) (u 0 1 1) ∷ body.Granted 1 (u 1 1 1) (u 0 0 1) Read ∷ body.Ok (l 65) 1 op.Get (codes "gone") ∷ [],
    )
    ∷ (event.Call (l 65) 1 (op.Create (value.Queue (1 ∷ []))), body.Refused 14 ∷ [])
    ∷ (
      event.Call (l 65) 1 (op.Create (value.Counter 7)),
      body.Granted 1 (u 1 1 1) (u 0 0 1) Write ∷ body.Ok (l 65) 1 (op.Create (value.Counter 7)) (codes "done") ∷ [],
    )
    ∷ (event.BeginIn (l 78) (l 65), body.Began (l 78) kind.Nested (u 1 1 2) (Some (l 65)) ∷ [])
    ∷ (event.Call (l 78) 1 op.Destroy, body.Granted 1 (u 1 1 2) (u 0 0 1) Write ∷ body.Ok (l 78) 1 op.Destroy (codes "done") ∷ [])
    ∷ (event.Abort (l 78), body.Aborted (l 78) cause.Asked ∷ body.Told 1 (u 1 1 2) Abort part.Server ∷ [])
    ∷ (event.Call (l 65) 1 (op.Create (value.Counter 9)), body.Ok (l 65) 1 (op.Create (value.Counter 9)) (codes "there") ∷ [])
    ∷ (
      event.Commit (l 65),
      body.Committing (l 65) ∷ body.Prepared 1 (u 1 1 1) role.Store ∷ body.Committed (l 65)
          ∷ body.Done 1 (u 1 1 1) role.Store Commit ∷ body.Told 1 (u 1 1 1) Commit part.Naming ∷ body.Told 1 (u 1 1 1) Commit part.Server
          ∷ [],
    )
    ∷ (event.Show 1, body.Entry 1 0 (1 ∷ []) (1 ∷ []) ∷ body.Copy 1 1 1 (u 1 1 1) (0 ∷ 0 ∷ 0 ∷ 0 ∷ 0 ∷ 0 ∷ 0 ∷ 7 ∷ []) ∷ [])
    ∷ (event.Begin (l 66) 1, body.Began (l 66) kind.Top (u 1 1 3) None ∷ [])
    ∷ (
      event.Call (l 66) 1 op.Destroy,
      body.Granted 1 (u 1 1 3) (u 0 1 1) Read ∷ body.Granted 1 (u 1 1 3) (u 0 0 1) Write
          ∷ body.Ok (l 66) 1 op.Destroy (codes "done") ∷ [],
    )
    ∷ (
      event.Commit (l 66),
      body.Committing (l 66) ∷ body.Prepared 1 (u 1 1 3) role.Store ∷ body.Committed (l 66)
          ∷ body.Done 1 (u 1 1 3) role.Store Commit ∷ body.Told 1 (u 1 1 3) Commit part.Naming ∷ body.Told 1 (u 1 1 3) Commit part.Server
          ∷ [],
    )
    ∷ (event.Show 1, body.Entry 1 0 (1 ∷ []) (1 ∷ []) ∷ body.Copy 1 1 2 (u 1 1 3) (1 ∷ []) ∷ [])
    ∷ [])

gone_has_causes : lacking gone ≡ []
gone_has_causes = refl
