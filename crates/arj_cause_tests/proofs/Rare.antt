-- Short runs that reach causes which seldom come: every line has its cause.
use Rattle.std.specs.Prelude.{◌≡◌, refl, [], ◌∷◌, codes, true, Some, None}
use Rattle.arj_base.specs.declared.mode.Mode.TheVariants.{Read, Exclude, Write}
use Rattle.arj_base.specs.declared.mode.End.TheVariants.{Abort, Commit}
use Rattle.arj_class.specs.declared.op.Op.TheVariants as op
use Rattle.arj_class.specs.declared.value.Value.TheVariants as value
use Rattle.arj_journal.specs.declared.body.Body.TheVariants as body
use Rattle.arj_journal.specs.declared.body.Cause.TheVariants as cause
use Rattle.arj_journal.specs.declared.body.Difference.TheVariants as difference
use Rattle.arj_journal.specs.declared.body.FrameKind.TheVariants as frame
use Rattle.arj_journal.specs.declared.body.Kind.TheVariants as kind
use Rattle.arj_journal.specs.declared.body.Part.TheVariants as part
use Rattle.arj_journal.specs.declared.body.Role.TheVariants as role
use Rattle.arj_journal.specs.declared.event.Event.TheVariants as event
use Rattle.arj_journal.specs.declared.event.FrameNo.TheVariants.{Number, Last}
use Rattle.arj_cause_tests.proofs.Words.{l, u, b, object_line, nodes, run, Run, lacking}

-- a vote finds another copy than the one that was used
abbrev pub aborted_changed_bind : Run
aborted_changed_bind = run
    (nodes 4 (object_line 1 (value.Counter 0) (2 ∷ []) (3 ∷ []) ∷ []))
    ((event.Begin (l 84) 4, body.Began (l 84) kind.Top (u 4 1 1) None ∷ [])
    ∷ (event.Call (l 84) 1 op.Get, body.Sent 1 4 1 frame.Bind ∷ [])
    ∷ (
      event.Quiesce,
      body.Got 1 ∷ body.Granted 1 (u 4 1 1) (u 0 1 1) Write ∷ body.Bound 1 (b 1 1) 2 ∷ body.Sent 2 1 4 frame.Bound
          ∷ body.Got 2 ∷ body.Sent 3 4 3 frame.Load ∷ body.Got 3 ∷ body.Sent 4 3 4 frame.Loaded ∷ body.Got 4
          ∷ body.Sent 5 4 2 frame.Activate ∷ body.Got 5 ∷ body.Active 2 1 (b 1 1) ∷ body.Sent 6 2 4 frame.Activated ∷ body.Got 6
          ∷ body.Sent 7 4 1 frame.Record ∷ body.Got 7 ∷ body.Lowered 1 (u 4 1 1) (u 0 1 1) ∷ body.Sent 8 1 4 frame.Recorded ∷ body.Got 8
          ∷ body.Sent 9 4 2 frame.Invoke ∷ body.Got 9 ∷ body.Granted 2 (u 4 1 1) (u 0 0 1) Read ∷ body.Sent 10 2 4 frame.Invoked
          ∷ body.Got 10 ∷ body.Ok (l 84) 1 op.Get (codes "0") ∷ body.Sent 11 1 4 frame.Query ∷ body.Sent 12 2 4 frame.Query ∷ body.Got 11
          ∷ body.Got 12 ∷ body.Quiet true ∷ [],
    )
    ∷ (event.Crash 1, body.Halted 1 ∷ [])
    ∷ (event.Restart 1, body.Up 1 2 ∷ body.Sent 13 1 2 frame.Hello ∷ body.Sent 14 1 3 frame.Hello ∷ body.Sent 15 1 4 frame.Hello ∷ [])
    ∷ (event.Begin (l 85) 3, body.Began (l 85) kind.Top (u 3 1 1) None ∷ [])
    ∷ (event.Call (l 85) 1 (op.Add 1), body.Sent 16 3 1 frame.Bind ∷ [])
    ∷ (
      event.Settle,
      body.Got 13 ∷ body.Got 14 ∷ body.Got 15 ∷ body.Got 16 ∷ body.Granted 1 (u 3 1 1) (u 0 1 1) Write
          ∷ body.Bound 1 (b 2 1) 2 ∷ body.Sent 17 1 3 frame.Bound ∷ body.Got 17 ∷ body.Sent 18 3 2 frame.Activate ∷ body.Got 18
          ∷ body.Active 2 1 (b 2 1) ∷ body.Sent 19 2 3 frame.Activated ∷ body.Got 19 ∷ body.Sent 20 3 1 frame.Record ∷ body.Got 20
          ∷ body.Lowered 1 (u 3 1 1) (u 0 1 1) ∷ body.Sent 21 1 3 frame.Recorded ∷ body.Got 21 ∷ body.Sent 22 3 2 frame.Invoke
          ∷ body.Got 22 ∷ body.Granted 2 (u 3 1 1) (u 0 0 1) Write ∷ body.Sent 23 2 3 frame.Invoked ∷ body.Got 23
          ∷ body.Ok (l 85) 1 (op.Add 1) (codes "done") ∷ [],
    )
    ∷ (event.Commit (l 84), body.Committing (l 84) ∷ body.Sent 24 4 2 frame.Vote ∷ [])
    ∷ (
      event.Quiesce,
      body.Got 24 ∷ body.Sent 25 2 4 frame.Voted ∷ body.Got 25
          ∷ body.Aborted (l 84) (cause.Changed 2 (difference.Bind (b 1 1) (b 2 1))) ∷ body.Sent 26 4 1 frame.Told
          ∷ body.Sent 27 4 2 frame.Told ∷ body.Sent 28 4 3 frame.Told ∷ body.Got 26 ∷ body.Got 27 ∷ body.Got 28
          ∷ body.Sent 29 1 3 frame.Query ∷ body.Sent 30 2 3 frame.Query ∷ body.Got 29 ∷ body.Got 30 ∷ body.Quiet true ∷ [],
    )
    ∷ [])

aborted_changed_bind_has_causes : lacking aborted_changed_bind ≡ []
aborted_changed_bind_has_causes = refl

-- a vote finds the server in a later incarnation than the constituent before had called it in
abbrev pub aborted_changed_unit : Run
aborted_changed_unit = run
    (nodes 2 (object_line 1 (value.Counter 0) (2 ∷ []) (1 ∷ []) ∷ []))
    ((event.Serial (l 83) 1, body.Began (l 83) kind.Serial (u 1 1 1) None ∷ [])
    ∷ (event.BeginIn (l 67) (l 83), body.Began (l 67) kind.Constituent (u 1 1 2) (Some (l 83)) ∷ [])
    ∷ (
      event.Call (l 67) 1 op.Get,
      body.Granted 1 (u 1 1 2) (u 0 1 1) Write ∷ body.Bound 1 (b 1 1) 2 ∷ body.Sent 1 1 2 frame.Activate ∷ [],
    )
    ∷ (
      event.Settle,
      body.Got 1 ∷ body.Active 2 1 (b 1 1) ∷ body.Sent 2 2 1 frame.Activated ∷ body.Got 2 ∷ body.Lowered 1 (u 1 1 2) (u 0 1 1)
          ∷ body.Sent 3 1 2 frame.Invoke ∷ body.Got 3 ∷ body.Granted 2 (u 1 1 2) (u 0 0 1) Read ∷ body.Sent 4 2 1 frame.Invoked
          ∷ body.Got 4 ∷ body.Ok (l 67) 1 op.Get (codes "0") ∷ [],
    )
    ∷ (event.Commit (l 67), body.Committing (l 67) ∷ body.Sent 5 1 2 frame.Vote ∷ [])
    ∷ (
      event.Settle,
      body.Got 5 ∷ body.Sent 6 2 1 frame.Voted ∷ body.Got 6 ∷ body.Committed (l 67) ∷ body.Sent 7 1 2 frame.Told
          ∷ body.Told 1 (u 1 1 2) Commit part.Naming ∷ body.Got 7 ∷ body.Told 2 (u 1 1 2) Commit part.Server ∷ [],
    )
    ∷ (event.Crash 2, body.Halted 2 ∷ [])
    ∷ (event.Restart 2, body.Up 2 2 ∷ body.Sent 8 2 1 frame.Hello ∷ [])
    ∷ (event.Settle, body.Got 8 ∷ [])
    ∷ (event.BeginIn (l 68) (l 83), body.Began (l 68) kind.Constituent (u 1 1 3) (Some (l 83)) ∷ [])
    ∷ (event.Commit (l 68), body.Committing (l 68) ∷ body.Sent 9 1 2 frame.Vote ∷ [])
    ∷ (
      event.Settle,
      body.Got 9 ∷ body.Sent 10 2 1 frame.Voted ∷ body.Got 10 ∷ body.Aborted (l 68) (cause.Changed 2 (difference.Inc 1 2))
          ∷ body.Sent 11 1 2 frame.Told ∷ body.Got 11 ∷ [],
    )
    ∷ [])

aborted_changed_unit_has_causes : lacking aborted_changed_unit ≡ []
aborted_changed_unit_has_causes = refl

-- naming restarts behind an include, and nothing else uses the object
abbrev pub aborted_changed_included : Run
aborted_changed_included = run
    (nodes 3 (object_line 1 (value.Counter 0) (2 ∷ []) (2 ∷ []) ∷ []))
    ((event.Begin (l 65) 2, body.Began (l 65) kind.Top (u 2 1 1) None ∷ [])
    ∷ (event.Include (l 65) 1 3, body.Sent 1 2 1 frame.Bind ∷ [])
    ∷ (
      event.Settle,
      body.Got 1 ∷ body.Granted 1 (u 2 1 1) (u 0 1 1) Write ∷ body.Sent 2 1 2 frame.Bound ∷ body.Got 2 ∷ body.Includes (l 65) 1 3 ∷ [],
    )
    ∷ (event.Crash 1, body.Halted 1 ∷ [])
    ∷ (event.Restart 1, body.Up 1 2 ∷ body.Sent 3 1 2 frame.Hello ∷ body.Sent 4 1 3 frame.Hello ∷ [])
    ∷ (event.Settle, body.Got 3 ∷ body.Got 4 ∷ [])
    ∷ (event.Commit (l 65), body.Committing (l 65) ∷ body.Sent 5 2 3 frame.Prepare ∷ [])
    ∷ (
      event.Settle,
      body.Got 5 ∷ body.Prepared 3 (u 2 1 1) role.Store ∷ body.Sent 6 3 2 frame.Prepared ∷ body.Got 6 ∷ body.Sent 7 2 1 frame.Confirm
          ∷ body.Got 7 ∷ body.Sent 8 1 2 frame.Confirmed ∷ body.Got 8 ∷ body.Aborted (l 65) (cause.Changed 1 (difference.Inc 1 2))
          ∷ body.Sent 9 2 1 frame.Told ∷ body.Sent 10 2 3 frame.Told ∷ body.Got 9 ∷ body.Got 10
          ∷ body.Done 3 (u 2 1 1) role.Store Abort ∷ [],
    )
    ∷ [])

aborted_changed_included_has_causes : lacking aborted_changed_included ≡ []
aborted_changed_included_has_causes = refl

-- naming restarts behind a commit that is called
abbrev pub restarted_naming : Run
restarted_naming = run
    (nodes 4 (object_line 1 (value.Counter 0) (2 ∷ []) (3 ∷ []) ∷ []))
    ((event.Begin (l 84) 4, body.Began (l 84) kind.Top (u 4 1 1) None ∷ [])
    ∷ (event.Call (l 84) 1 (op.Add 1), body.Sent 1 4 1 frame.Bind ∷ [])
    ∷ (
      event.Settle,
      body.Got 1 ∷ body.Granted 1 (u 4 1 1) (u 0 1 1) Write ∷ body.Bound 1 (b 1 1) 2 ∷ body.Sent 2 1 4 frame.Bound
          ∷ body.Got 2 ∷ body.Sent 3 4 3 frame.Load ∷ body.Got 3 ∷ body.Sent 4 3 4 frame.Loaded ∷ body.Got 4
          ∷ body.Sent 5 4 2 frame.Activate ∷ body.Got 5 ∷ body.Active 2 1 (b 1 1) ∷ body.Sent 6 2 4 frame.Activated ∷ body.Got 6
          ∷ body.Sent 7 4 1 frame.Record ∷ body.Got 7 ∷ body.Lowered 1 (u 4 1 1) (u 0 1 1) ∷ body.Sent 8 1 4 frame.Recorded ∷ body.Got 8
          ∷ body.Sent 9 4 2 frame.Invoke ∷ body.Got 9 ∷ body.Granted 2 (u 4 1 1) (u 0 0 1) Write ∷ body.Sent 10 2 4 frame.Invoked
          ∷ body.Got 10 ∷ body.Ok (l 84) 1 (op.Add 1) (codes "done") ∷ [],
    )
    ∷ (event.Commit (l 84), body.Committing (l 84) ∷ body.Sent 11 4 2 frame.Vote ∷ [])
    ∷ (event.Crash 1, body.Halted 1 ∷ [])
    ∷ (event.Restart 1, body.Up 1 2 ∷ body.Sent 12 1 2 frame.Hello ∷ body.Sent 13 1 3 frame.Hello ∷ body.Sent 14 1 4 frame.Hello ∷ [])
    ∷ (
      event.Quiesce,
      body.Got 11 ∷ body.Sent 15 2 4 frame.Voted ∷ body.Got 12 ∷ body.Got 13 ∷ body.Got 14 ∷ body.Got 15
          ∷ body.Sent 16 4 3 frame.Prepare ∷ body.Got 16 ∷ body.Prepared 3 (u 4 1 1) role.Store ∷ body.Sent 17 3 4 frame.Prepared
          ∷ body.Got 17 ∷ body.Sent 18 4 1 frame.Confirm ∷ body.Got 18 ∷ body.Sent 19 1 4 frame.Confirmed ∷ body.Got 19
          ∷ body.Aborted (l 84) (cause.Changed 1 (difference.Inc 1 2)) ∷ body.Sent 20 4 1 frame.Told ∷ body.Sent 21 4 2 frame.Told
          ∷ body.Sent 22 4 3 frame.Told ∷ body.Got 20 ∷ body.Got 21 ∷ body.Told 2 (u 4 1 1) Abort part.Server ∷ body.Got 22
          ∷ body.Done 3 (u 4 1 1) role.Store Abort ∷ body.Quiet true ∷ [],
    )
    ∷ [])

restarted_naming_has_causes : lacking restarted_naming ≡ []
restarted_naming_has_causes = refl

-- an exclusion meets a read lock on the entry
abbrev pub aborted_conflict : Run
aborted_conflict = run
    (nodes 4 (object_line 1 (value.Counter 0) (2 ∷ []) (3 ∷ 4 ∷ []) ∷ []))
    ((event.Begin (l 65) 2, body.Began (l 65) kind.Top (u 2 1 1) None ∷ [])
    ∷ (event.Call (l 65) 1 (op.Add 1), body.Sent 1 2 1 frame.Bind ∷ [])
    ∷ (
      event.Settle,
      body.Got 1 ∷ body.Granted 1 (u 2 1 1) (u 0 1 1) Write ∷ body.Bound 1 (b 1 1) 2 ∷ body.Sent 2 1 2 frame.Bound
          ∷ body.Got 2 ∷ body.Sent 3 2 3 frame.Load ∷ body.Got 3 ∷ body.Sent 4 3 2 frame.Loaded ∷ body.Got 4 ∷ body.Active 2 1 (b 1 1)
          ∷ body.Sent 5 2 1 frame.Record ∷ body.Got 5 ∷ body.Lowered 1 (u 2 1 1) (u 0 1 1) ∷ body.Sent 6 1 2 frame.Recorded ∷ body.Got 6
          ∷ body.Granted 2 (u 2 1 1) (u 0 0 1) Write ∷ body.Ok (l 65) 1 (op.Add 1) (codes "done") ∷ [],
    )
    ∷ (event.Commit (l 65), body.Committing (l 65) ∷ body.Sent 7 2 3 frame.Prepare ∷ body.Sent 8 2 4 frame.Prepare ∷ [])
    ∷ (event.Lose Last, body.Dropped 8 ∷ [])
    ∷ (event.Settle, body.Got 7 ∷ body.Prepared 3 (u 2 1 1) role.Store ∷ body.Sent 9 3 2 frame.Prepared ∷ body.Got 9 ∷ [])
    ∷ (event.GiveUp (l 65), body.GaveUp (l 65) 4 ∷ body.Excluded (l 65) 1 4 ∷ body.Sent 10 2 1 frame.Confirm ∷ [])
    ∷ (
      event.Deliver Last,
      body.Got 10 ∷ body.Granted 1 (u 2 1 1) (u 0 1 1) Exclude ∷ body.Prepared 1 (u 2 1 1) role.Names
          ∷ body.Sent 11 1 2 frame.Confirmed ∷ [],
    )
    ∷ (
      event.Deliver Last,
      body.Got 11 ∷ body.Committed (l 65) ∷ body.Sent 12 2 1 frame.Told ∷ body.Sent 13 2 3 frame.Told
          ∷ body.Sent 14 2 4 frame.Told ∷ body.Told 2 (u 2 1 1) Commit part.Server ∷ [],
    )
    ∷ (event.Lose (Number 12), body.Dropped 12 ∷ [])
    ∷ (event.Begin (l 66) 3, body.Began (l 66) kind.Top (u 3 1 1) None ∷ [])
    ∷ (event.Call (l 66) 1 (op.Add 1), body.Sent 15 3 1 frame.Bind ∷ [])
    ∷ (
      event.Settle,
      body.Got 13 ∷ body.Done 3 (u 2 1 1) role.Store Commit ∷ body.Sent 16 3 2 frame.Acked ∷ body.Got 14 ∷ body.Got 15
          ∷ body.Granted 1 (u 3 1 1) (u 0 1 1) Read ∷ body.Sent 17 1 3 frame.Bound ∷ body.Got 16 ∷ body.Got 17
          ∷ body.Sent 18 3 2 frame.Invoke ∷ body.Got 18 ∷ body.Granted 2 (u 3 1 1) (u 0 0 1) Write ∷ body.Sent 19 2 3 frame.Invoked
          ∷ body.Got 19 ∷ body.Ok (l 66) 1 (op.Add 1) (codes "done") ∷ [],
    )
    ∷ (event.Commit (l 66), body.Committing (l 66) ∷ body.Sent 20 3 2 frame.Vote ∷ [])
    ∷ (event.Deliver Last, body.Got 20 ∷ body.Sent 21 2 3 frame.Voted ∷ [])
    ∷ (event.Deliver Last, body.Got 21 ∷ body.Sent 22 3 4 frame.Prepare ∷ body.Prepared 3 (u 3 1 1) role.Store ∷ [])
    ∷ (event.GiveUp (l 66), body.GaveUp (l 66) 4 ∷ body.Excluded (l 66) 1 4 ∷ body.Sent 23 3 1 frame.Confirm ∷ [])
    ∷ (
      event.Settle,
      body.Got 22 ∷ body.Prepared 4 (u 3 1 1) role.Store ∷ body.Sent 24 4 3 frame.Prepared ∷ body.Got 23
          ∷ body.Sent 25 1 3 frame.Confirmed ∷ body.Void 24 ∷ body.Got 25 ∷ body.Aborted (l 66) (cause.Conflict (u 2 1 1) Exclude 1)
          ∷ body.Sent 26 3 1 frame.Told ∷ body.Sent 27 3 2 frame.Told ∷ body.Sent 28 3 4 frame.Told
          ∷ body.Done 3 (u 3 1 1) role.Store Abort ∷ body.Got 26 ∷ body.Told 1 (u 3 1 1) Abort part.Naming ∷ body.Got 27
          ∷ body.Told 2 (u 3 1 1) Abort part.Server ∷ body.Got 28 ∷ body.Done 4 (u 3 1 1) role.Store Abort ∷ [],
    )
    ∷ [])

aborted_conflict_has_causes : lacking aborted_conflict ≡ []
aborted_conflict_has_causes = refl

-- a nested action is doomed
abbrev pub aborted_doomed : Run
aborted_doomed = run
    (nodes 3 (object_line 1 (value.Counter 0) (2 ∷ 3 ∷ []) (1 ∷ []) ∷ []))
    ((event.Begin (l 65) 1, body.Began (l 65) kind.Top (u 1 1 1) None ∷ [])
    ∷ (event.BeginIn (l 78) (l 65), body.Began (l 78) kind.Nested (u 1 1 2) (Some (l 65)) ∷ [])
    ∷ (
      event.Call (l 78) 1 (op.Add 1),
      body.Granted 1 (u 1 1 1) (u 0 1 1) Write ∷ body.Bound 1 (b 1 1) 2
          ∷ body.Sent 1 1 2 frame.Activate ∷ [],
    )
    ∷ (event.Deliver (Number 1), body.Got 1 ∷ body.Active 2 1 (b 1 1) ∷ body.Sent 2 2 1 frame.Activated ∷ [])
    ∷ (event.Deliver (Number 2), body.Got 2 ∷ body.Lowered 1 (u 1 1 1) (u 0 1 1) ∷ body.Sent 3 1 2 frame.Invoke ∷ [])
    ∷ (event.GiveUp (l 78), body.GaveUp (l 78) 2 ∷ body.Lost (l 78) 2 ∷ [])
    ∷ (event.Commit (l 78), body.Aborted (l 78) cause.Doomed ∷ body.Sent 4 1 2 frame.Told ∷ [])
    ∷ [])

aborted_doomed_has_causes : lacking aborted_doomed ≡ []
aborted_doomed_has_causes = refl

-- a store is included that is listed, all on one node
abbrev pub aborted_listed : Run
aborted_listed = run
    (nodes 2 (object_line 1 (value.Counter 0) (2 ∷ []) (1 ∷ []) ∷ []))
    ((event.Serial (l 83) 1, body.Began (l 83) kind.Serial (u 1 1 1) None ∷ [])
    ∷ (event.BeginIn (l 67) (l 83), body.Began (l 67) kind.Constituent (u 1 1 2) (Some (l 83)) ∷ [])
    ∷ (event.Include (l 67) 1 1, body.Granted 1 (u 1 1 2) (u 0 1 1) Write ∷ body.Includes (l 67) 1 1 ∷ [])
    ∷ (
      event.Commit (l 67),
      body.Committing (l 67) ∷ body.Prepared 1 (u 1 1 2) role.Store ∷ body.Aborted (l 67) (cause.Listed 1 1)
          ∷ body.Done 1 (u 1 1 2) role.Store Abort ∷ body.Told 1 (u 1 1 2) Abort part.Naming ∷ [],
    )
    ∷ [])

aborted_listed_has_causes : lacking aborted_listed ≡ []
aborted_listed_has_causes = refl

-- naming is given up in a commit
abbrev pub aborted_lost : Run
aborted_lost = run
    (nodes 2 (object_line 1 (value.Counter 0) (2 ∷ []) (1 ∷ []) ∷ []))
    ((event.Begin (l 73) 2, body.Began (l 73) kind.Top (u 2 1 1) None ∷ [])
    ∷ (event.Include (l 73) 1 2, body.Sent 1 2 1 frame.Bind ∷ [])
    ∷ (
      event.Settle,
      body.Got 1 ∷ body.Granted 1 (u 2 1 1) (u 0 1 1) Write ∷ body.Sent 2 1 2 frame.Bound ∷ body.Got 2
          ∷ body.Sent 3 2 1 frame.Load ∷ body.Got 3 ∷ body.Sent 4 1 2 frame.Loaded ∷ body.Got 4 ∷ body.Includes (l 73) 1 2 ∷ [],
    )
    ∷ (event.Commit (l 73), body.Committing (l 73) ∷ body.Prepared 2 (u 2 1 1) role.Store ∷ body.Sent 5 2 1 frame.Confirm ∷ [])
    ∷ (
      event.GiveUp (l 73),
      body.GaveUp (l 73) 1 ∷ body.Aborted (l 73) (cause.Lost 1) ∷ body.Sent 6 2 1 frame.Told
          ∷ body.Done 2 (u 2 1 1) role.Store Abort ∷ [],
    )
    ∷ [])

aborted_lost_has_causes : lacking aborted_lost ≡ []
aborted_lost_has_causes = refl

-- a store has a newer state, since naming lost a lock
abbrev pub aborted_old : Run
aborted_old = run
    (nodes 5 (object_line 1 (value.Counter 0) (2 ∷ 3 ∷ []) (4 ∷ 5 ∷ []) ∷ []))
    ((event.Begin (l 76) 2, body.Began (l 76) kind.Top (u 2 1 1) None ∷ [])
    ∷ (event.Call (l 76) 1 (op.Add 1), body.Sent 1 2 1 frame.Bind ∷ [])
    ∷ (
      event.Settle,
      body.Got 1 ∷ body.Granted 1 (u 2 1 1) (u 0 1 1) Write ∷ body.Bound 1 (b 1 1) 2 ∷ body.Sent 2 1 2 frame.Bound
          ∷ body.Got 2 ∷ body.Sent 3 2 4 frame.Load ∷ body.Got 3 ∷ body.Sent 4 4 2 frame.Loaded ∷ body.Got 4 ∷ body.Active 2 1 (b 1 1)
          ∷ body.Sent 5 2 1 frame.Record ∷ body.Got 5 ∷ body.Lowered 1 (u 2 1 1) (u 0 1 1) ∷ body.Sent 6 1 2 frame.Recorded ∷ body.Got 6
          ∷ body.Granted 2 (u 2 1 1) (u 0 0 1) Write ∷ body.Ok (l 76) 1 (op.Add 1) (codes "done") ∷ [],
    )
    ∷ (event.Commit (l 76), body.Committing (l 76) ∷ body.Sent 7 2 4 frame.Prepare ∷ body.Sent 8 2 5 frame.Prepare ∷ [])
    ∷ (event.Lose (Number 7), body.Dropped 7 ∷ [])
    ∷ (event.Crash 1, body.Halted 1 ∷ [])
    ∷ (
      event.Restart 1,
      body.Up 1 2 ∷ body.Sent 9 1 2 frame.Hello ∷ body.Sent 10 1 3 frame.Hello ∷ body.Sent 11 1 4 frame.Hello
          ∷ body.Sent 12 1 5 frame.Hello ∷ [],
    )
    ∷ (event.Begin (l 87) 3, body.Began (l 87) kind.Top (u 3 1 1) None ∷ [])
    ∷ (event.Call (l 87) 1 (op.Add 1), body.Sent 13 3 1 frame.Bind ∷ [])
    ∷ (
      event.Settle,
      body.Got 8 ∷ body.Prepared 5 (u 2 1 1) role.Store ∷ body.Sent 14 5 2 frame.Prepared ∷ body.Got 9 ∷ body.Got 10
          ∷ body.Got 11 ∷ body.Got 12 ∷ body.Got 13 ∷ body.Granted 1 (u 3 1 1) (u 0 1 1) Write ∷ body.Bound 1 (b 2 1) 2
          ∷ body.Sent 15 1 3 frame.Bound ∷ body.Got 14 ∷ body.Got 15 ∷ body.Sent 16 3 4 frame.Load ∷ body.Got 16
          ∷ body.Sent 17 4 3 frame.Loaded ∷ body.Got 17 ∷ body.Sent 18 3 2 frame.Activate ∷ body.Got 18 ∷ body.Active 2 1 (b 2 1)
          ∷ body.Sent 19 2 3 frame.Activated ∷ body.Got 19 ∷ body.Sent 20 3 1 frame.Record ∷ body.Got 20
          ∷ body.Lowered 1 (u 3 1 1) (u 0 1 1) ∷ body.Sent 21 1 3 frame.Recorded ∷ body.Got 21 ∷ body.Sent 22 3 2 frame.Invoke
          ∷ body.Got 22 ∷ body.Granted 2 (u 3 1 1) (u 0 0 1) Write ∷ body.Sent 23 2 3 frame.Invoked ∷ body.Got 23
          ∷ body.Ok (l 87) 1 (op.Add 1) (codes "done") ∷ [],
    )
    ∷ (event.Commit (l 87), body.Committing (l 87) ∷ body.Sent 24 3 2 frame.Vote ∷ [])
    ∷ (
      event.Quiesce,
      body.Got 24 ∷ body.Sent 25 2 3 frame.Voted ∷ body.Got 25 ∷ body.Sent 26 3 4 frame.Prepare
          ∷ body.Sent 27 3 5 frame.Prepare ∷ body.Got 26 ∷ body.Prepared 4 (u 3 1 1) role.Store ∷ body.Sent 28 4 3 frame.Prepared
          ∷ body.Got 27 ∷ body.Sent 29 5 3 frame.Prepared ∷ body.Got 28 ∷ body.Got 29 ∷ body.Excluded (l 87) 1 5
          ∷ body.Sent 30 3 1 frame.Confirm ∷ body.Got 30 ∷ body.Granted 1 (u 3 1 1) (u 0 1 1) Exclude
          ∷ body.Prepared 1 (u 3 1 1) role.Names ∷ body.Sent 31 1 3 frame.Confirmed ∷ body.Got 31 ∷ body.Committed (l 87)
          ∷ body.Sent 32 3 1 frame.Told ∷ body.Sent 33 3 2 frame.Told ∷ body.Sent 34 3 4 frame.Told ∷ body.Sent 35 3 5 frame.Told
          ∷ body.Got 32 ∷ body.Done 1 (u 3 1 1) role.Names Commit ∷ body.Told 1 (u 3 1 1) Commit part.Naming
          ∷ body.Sent 36 1 3 frame.Acked ∷ body.Got 33 ∷ body.Told 2 (u 3 1 1) Commit part.Server ∷ body.Sent 37 2 3 frame.Acked
          ∷ body.Got 34 ∷ body.Done 4 (u 3 1 1) role.Store Commit ∷ body.Sent 38 4 3 frame.Acked ∷ body.Got 35 ∷ body.Got 36 ∷ body.Got 37
          ∷ body.Got 38 ∷ body.Sent 39 2 4 frame.Prepare ∷ body.Sent 40 5 2 frame.Query ∷ body.Got 39 ∷ body.Sent 41 4 2 frame.Prepared
          ∷ body.Got 40 ∷ body.Got 41 ∷ body.Aborted (l 76) (cause.Old 4 1 1) ∷ body.Sent 42 2 1 frame.Told ∷ body.Sent 43 2 4 frame.Told
          ∷ body.Sent 44 2 5 frame.Told ∷ body.Got 42 ∷ body.Got 43 ∷ body.Got 44 ∷ body.Done 5 (u 2 1 1) role.Store Abort
          ∷ body.Quiet true ∷ [],
    )
    ∷ [])

aborted_old_has_causes : lacking aborted_old ≡ []
aborted_old_has_causes = refl

-- naming binds anew, and constituents find it
abbrev pub changed_bind_naming : Run
changed_bind_naming = run
    (nodes 4 (object_line 1 (value.Counter 0) (2 ∷ []) (3 ∷ []) ∷ []))
    ((event.Serial (l 83) 2, body.Began (l 83) kind.Serial (u 2 1 1) None ∷ [])
    ∷ (event.BeginIn (l 69) (l 83), body.Began (l 69) kind.Constituent (u 2 1 2) (Some (l 83)) ∷ [])
    ∷ (event.Call (l 69) 1 op.Get, body.Sent 1 2 1 frame.Bind ∷ [])
    ∷ (
      event.Deliver (Number 1),
      body.Got 1 ∷ body.Granted 1 (u 2 1 2) (u 0 1 1) Write ∷ body.Bound 1 (b 1 1) 2
          ∷ body.Sent 2 1 2 frame.Bound ∷ [],
    )
    ∷ (event.Crash 1, body.Halted 1 ∷ [])
    ∷ (event.Restart 1, body.Up 1 2 ∷ body.Sent 3 1 2 frame.Hello ∷ body.Sent 4 1 3 frame.Hello ∷ body.Sent 5 1 4 frame.Hello ∷ [])
    ∷ (event.BeginIn (l 68) (l 83), body.Began (l 68) kind.Constituent (u 2 1 3) (Some (l 83)) ∷ [])
    ∷ (event.Call (l 68) 1 (op.Add 1), body.Sent 6 2 1 frame.Bind ∷ [])
    ∷ (
      event.Quiesce,
      body.Got 2 ∷ body.Sent 7 2 3 frame.Load ∷ body.Got 3 ∷ body.Got 4 ∷ body.Got 5 ∷ body.Got 6
          ∷ body.Granted 1 (u 2 1 3) (u 0 1 1) Write ∷ body.Bound 1 (b 2 1) 2 ∷ body.Sent 8 1 2 frame.Bound ∷ body.Got 7
          ∷ body.Sent 9 3 2 frame.Loaded ∷ body.Got 8 ∷ body.Changed (l 68) 1 (difference.Bind (b 1 1) (b 2 1)) ∷ body.Got 9
          ∷ body.Active 2 1 (b 1 1) ∷ body.Sent 10 2 1 frame.Record ∷ body.Got 10 ∷ body.Sent 11 1 2 frame.Recorded ∷ body.Got 11
          ∷ body.Changed (l 69) 1 (difference.Inc 1 2) ∷ body.Sent 12 1 2 frame.Query ∷ body.Got 12 ∷ body.Quiet true ∷ [],
    )
    ∷ [])

changed_bind_naming_has_causes : lacking changed_bind_naming ≡ []
changed_bind_naming_has_causes = refl
