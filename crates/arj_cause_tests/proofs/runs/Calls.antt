-- On several nodes, none of which stops: runs of 150 events that were chosen at random. Each journal follows its events, and each line has its cause.
use Rattle.std.specs.Prelude.{◌≡◌, refl, [], ◌∷◌, codes, true, Some, None}
use Rattle.arj_base.specs.declared.mode.Mode.TheVariants.{Exclude, Read, Write}
use Rattle.arj_base.specs.declared.mode.End.TheVariants.{Abort, Commit}
use Rattle.arj_class.specs.declared.op.Op.TheVariants as op
use Rattle.arj_class.specs.declared.value.Value.TheVariants as value
use Rattle.arj_journal.specs.declared.body.Body.TheVariants as body
use Rattle.arj_journal.specs.declared.body.Cause.TheVariants as cause
use Rattle.arj_journal.specs.declared.body.FrameKind.TheVariants as frame
use Rattle.arj_journal.specs.declared.body.Kind.TheVariants as kind
use Rattle.arj_journal.specs.declared.body.Part.TheVariants as part
use Rattle.arj_journal.specs.declared.body.Role.TheVariants as role
use Rattle.arj_journal.specs.declared.event.Event.TheVariants as event
use Rattle.arj_journal.specs.declared.event.FrameNo.TheVariants.{Number}
use Rattle.arj_cause_tests.proofs.Words.{Run, b, is_followed, l, lacking, nodes, object_line, run, u}

abbrev calls_1 : Run
calls_1 = run
    (nodes 3 (object_line 1 (value.Table []) (3 ∷ 1 ∷ 2 ∷ []) (1 ∷ 2 ∷ []) ∷ []))
    ((event.Tick 2, []) ∷ (event.Begin (l 161) 3, body.Began (l 161) kind.Top (u 3 1 1) None ∷ [])
    ∷ (event.Call (l 161) 1 (op.PutPair 5 3), body.Sent 1 3 1 frame.Bind ∷ [])
    ∷ (
      event.Deliver (Number 1),
      body.Got 1 ∷ body.Granted 1 (u 3 1 1) (u 0 1 1) Write ∷ body.Bound 1 (b 1 1) 3 ∷ body.Sent 2 1 3 frame.Bound ∷ [],
    ) ∷ (event.Deliver (Number 2), body.Got 2 ∷ body.Sent 3 3 1 frame.Load ∷ []) ∷ (event.Lose (Number 3), body.Dropped 3 ∷ [])
    ∷ (event.Begin (l 162) 1, body.Began (l 162) kind.Top (u 1 1 1) None ∷ [])
    ∷ (event.Begin (l 163) 3, body.Began (l 163) kind.Top (u 3 1 2) None ∷ []) ∷ (event.Tick 2, [])
    ∷ (event.Commit (l 163), body.Committing (l 163) ∷ body.Committed (l 163) ∷ [])
    ∷ (event.Call (l 162) 1 (op.GetKey 12), body.Conflict (l 162) (u 3 1 1) Write 1 ∷ [])
    ∷ (event.Top (l 164) (l 162), body.Began (l 164) kind.Independent (u 1 1 2) (Some (l 162)) ∷ [])
    ∷ (event.Abort (l 162), body.Aborted (l 162) cause.Asked ∷ [])
    ∷ (event.Call (l 164) 1 (op.PutPair 10 3), body.Conflict (l 164) (u 3 1 1) Write 1 ∷ [])
    ∷ (event.BeginIn (l 165) (l 164), body.Began (l 165) kind.Nested (u 1 1 3) (Some (l 164)) ∷ [])
    ∷ (event.BeginIn (l 166) (l 165), body.Began (l 166) kind.Nested (u 1 1 4) (Some (l 165)) ∷ [])
    ∷ (event.Call (l 166) 1 (op.PutPair 0 4), body.Conflict (l 166) (u 3 1 1) Write 1 ∷ [])
    ∷ (event.Call (l 165) 1 (op.PutPair 6 0), body.Conflict (l 165) (u 3 1 1) Write 1 ∷ [])
    ∷ (event.Call (l 164) 1 (op.GetKey 15), body.Conflict (l 164) (u 3 1 1) Write 1 ∷ []) ∷ (event.Deliver (Number 2), body.Void 2 ∷ [])
    ∷ (event.Call (l 165) 1 (op.GetKey 16), body.Conflict (l 165) (u 3 1 1) Write 1 ∷ [])
    ∷ (event.Begin (l 167) 1, body.Began (l 167) kind.Top (u 1 1 5) None ∷ [])
    ∷ (event.Call (l 167) 1 (op.PutPair 16 1), body.Conflict (l 167) (u 3 1 1) Write 1 ∷ [])
    ∷ (event.Call (l 164) 1 (op.Remove 3), body.Conflict (l 164) (u 3 1 1) Write 1 ∷ [])
    ∷ (event.Commit (l 166), body.Committed (l 166) ∷ []) ∷ (event.Commit (l 167), body.Committing (l 167) ∷ body.Committed (l 167) ∷ [])
    ∷ (event.Call (l 164) 1 (op.PutPair 4 2), body.Conflict (l 164) (u 3 1 1) Write 1 ∷ [])
    ∷ (event.Call (l 165) 1 (op.PutPair 1 1), body.Conflict (l 165) (u 3 1 1) Write 1 ∷ [])
    ∷ (event.Abort (l 165), body.Aborted (l 165) cause.Asked ∷ []) ∷ (event.Abort (l 164), body.Aborted (l 164) cause.Asked ∷ [])
    ∷ (event.Deliver (Number 3), body.Got 3 ∷ body.Sent 4 1 3 frame.Loaded ∷ [])
    ∷ (event.Deliver (Number 4), body.Got 4 ∷ body.Active 3 1 (b 1 1) ∷ body.Sent 5 3 1 frame.Record ∷ [])
    ∷ (event.Deliver (Number 5), body.Got 5 ∷ body.Lowered 1 (u 3 1 1) (u 0 1 1) ∷ body.Sent 6 1 3 frame.Recorded ∷ [])
    ∷ (
      event.Deliver (Number 6),
      body.Got 6 ∷ body.Granted 3 (u 3 1 1) (u 0 0 1) Write ∷ body.Ok (l 161) 1 (op.PutPair 5 3) (codes "done") ∷ [],
    ) ∷ (event.Deliver (Number 5), body.Got 5 ∷ body.Sent 7 1 3 frame.Recorded ∷ [])
    ∷ (event.Call (l 161) 1 (op.PutPair 8 3), body.Ok (l 161) 1 (op.PutPair 8 3) (codes "done") ∷ [])
    ∷ (event.Call (l 161) 1 (op.PutPair 9 1), body.Ok (l 161) 1 (op.PutPair 9 1) (codes "done") ∷ [])
    ∷ (event.Deliver (Number 2), body.Void 2 ∷ [])
    ∷ (event.Commit (l 161), body.Committing (l 161) ∷ body.Sent 8 3 1 frame.Prepare ∷ body.Sent 9 3 2 frame.Prepare ∷ [])
    ∷ (event.Deliver (Number 8), body.Got 8 ∷ body.Prepared 1 (u 3 1 1) role.Store ∷ body.Sent 10 1 3 frame.Prepared ∷ [])
    ∷ (event.Deliver (Number 10), body.Got 10 ∷ []) ∷ (event.Deliver (Number 7), body.Void 7 ∷ [])
    ∷ (event.Deliver (Number 9), body.Got 9 ∷ body.Prepared 2 (u 3 1 1) role.Store ∷ body.Sent 11 2 3 frame.Prepared ∷ [])
    ∷ (event.Deliver (Number 11), body.Got 11 ∷ body.Sent 12 3 1 frame.Confirm ∷ [])
    ∷ (event.Deliver (Number 12), body.Got 12 ∷ body.Sent 13 1 3 frame.Confirmed ∷ [])
    ∷ (
      event.Deliver (Number 13),
      body.Got 13 ∷ body.Committed (l 161) ∷ body.Sent 14 3 1 frame.Told ∷ body.Sent 15 3 2 frame.Told
          ∷ body.Told 3 (u 3 1 1) Commit part.Server ∷ [],
    )
    ∷ (
      event.Deliver (Number 14),
      body.Got 14 ∷ body.Done 1 (u 3 1 1) role.Store Commit ∷ body.Told 1 (u 3 1 1) Commit part.Naming ∷ body.Sent 16 1 3 frame.Acked
          ∷ [],
    ) ∷ (event.Deliver (Number 15), body.Got 15 ∷ body.Done 2 (u 3 1 1) role.Store Commit ∷ body.Sent 17 2 3 frame.Acked ∷ [])
    ∷ (event.Deliver (Number 16), body.Got 16 ∷ []) ∷ (event.Deliver (Number 17), body.Got 17 ∷ []) ∷ (event.Tick 2, [])
    ∷ (event.Deliver (Number 1), body.Void 1 ∷ []) ∷ (event.Begin (l 168) 2, body.Began (l 168) kind.Top (u 2 1 1) None ∷ [])
    ∷ (event.Begin (l 169) 3, body.Began (l 169) kind.Top (u 3 1 3) None ∷ [])
    ∷ (event.Begin (l 170) 1, body.Began (l 170) kind.Top (u 1 1 6) None ∷ [])
    ∷ (event.Call (l 170) 1 (op.GetKey 14), body.Granted 1 (u 1 1 6) (u 0 1 1) Read ∷ body.Sent 18 1 3 frame.Invoke ∷ [])
    ∷ (event.Deliver (Number 18), body.Got 18 ∷ body.Granted 3 (u 1 1 6) (u 0 0 1) Read ∷ body.Sent 19 3 1 frame.Invoked ∷ [])
    ∷ (event.BeginIn (l 171) (l 168), body.Began (l 171) kind.Nested (u 2 1 2) (Some (l 168)) ∷ [])
    ∷ (event.Top (l 172) (l 171), body.Began (l 172) kind.Independent (u 2 1 3) (Some (l 171)) ∷ [])
    ∷ (event.GiveUp (l 170), body.GaveUp (l 170) 3 ∷ body.Lost (l 170) 3 ∷ []) ∷ (event.Deliver (Number 19), body.Void 19 ∷ [])
    ∷ (event.Call (l 168) 1 (op.PutPair 10 4), body.Sent 20 2 1 frame.Bind ∷ [])
    ∷ (event.Deliver (Number 20), body.Got 20 ∷ body.Granted 1 (u 2 1 1) (u 0 1 1) Read ∷ body.Sent 21 1 2 frame.Bound ∷ [])
    ∷ (event.Deliver (Number 21), body.Got 21 ∷ body.Sent 22 2 3 frame.Invoke ∷ [])
    ∷ (event.Deliver (Number 22), body.Got 22 ∷ body.Sent 23 3 2 frame.Invoked ∷ [])
    ∷ (event.Deliver (Number 23), body.Got 23 ∷ body.Conflict (l 168) (u 1 1 6) Read 3 ∷ [])
    ∷ (event.Call (l 172) 1 (op.GetKey 17), body.Sent 24 2 1 frame.Bind ∷ [])
    ∷ (event.BeginIn (l 173) (l 169), body.Began (l 173) kind.Nested (u 3 1 4) (Some (l 169)) ∷ [])
    ∷ (event.Deliver (Number 22), body.Got 22 ∷ body.Sent 25 3 2 frame.Invoked ∷ []) ∷ (event.Commit (l 171), body.Committed (l 171) ∷ [])
    ∷ (event.Deliver (Number 24), body.Got 24 ∷ body.Granted 1 (u 2 1 3) (u 0 1 1) Read ∷ body.Sent 26 1 2 frame.Bound ∷ [])
    ∷ (event.Deliver (Number 22), body.Got 22 ∷ body.Sent 27 3 2 frame.Invoked ∷ []) ∷ (event.Deliver (Number 17), body.Void 17 ∷ [])
    ∷ (event.Deliver (Number 25), body.Void 25 ∷ []) ∷ (event.Deliver (Number 26), body.Got 26 ∷ body.Sent 28 2 3 frame.Invoke ∷ [])
    ∷ (event.Deliver (Number 27), body.Void 27 ∷ []) ∷ (event.Call (l 168) 1 (op.GetKey 14), body.Sent 29 2 3 frame.Invoke ∷ [])
    ∷ (event.Call (l 169) 1 (op.Remove 14), body.Sent 30 3 1 frame.Bind ∷ [])
    ∷ (event.GiveUp (l 172), body.GaveUp (l 172) 3 ∷ body.Lost (l 172) 3 ∷ [])
    ∷ (event.Deliver (Number 28), body.Got 28 ∷ body.Granted 3 (u 2 1 3) (u 0 0 1) Read ∷ body.Sent 31 3 2 frame.Invoked ∷ [])
    ∷ (event.Deliver (Number 29), body.Got 29 ∷ body.Granted 3 (u 2 1 1) (u 0 0 1) Read ∷ body.Sent 32 3 2 frame.Invoked ∷ [])
    ∷ (event.Deliver (Number 32), body.Got 32 ∷ body.Ok (l 168) 1 (op.GetKey 14) (codes "none") ∷ [])
    ∷ (event.Call (l 168) 1 (op.PutPair 12 2), body.Sent 33 2 3 frame.Invoke ∷ [])
    ∷ (event.Deliver (Number 33), body.Got 33 ∷ body.Sent 34 3 2 frame.Invoked ∷ [])
    ∷ (event.Deliver (Number 30), body.Got 30 ∷ body.Granted 1 (u 3 1 3) (u 0 1 1) Read ∷ body.Sent 35 1 3 frame.Bound ∷ [])
    ∷ (event.Deliver (Number 31), body.Void 31 ∷ [])
    ∷ (event.Deliver (Number 34), body.Got 34 ∷ body.Conflict (l 168) (u 1 1 6) Read 3 ∷ [])
    ∷ (event.Deliver (Number 35), body.Got 35 ∷ body.Conflict (l 169) (u 1 1 6) Read 3 ∷ [])
    ∷ (event.Call (l 169) 1 (op.PutPair 2 4), body.Conflict (l 169) (u 1 1 6) Read 3 ∷ [])
    ∷ (event.Call (l 168) 1 (op.Remove 2), body.Sent 36 2 3 frame.Invoke ∷ [])
    ∷ (
      event.Abort (l 170),
      body.Aborted (l 170) cause.Asked ∷ body.Sent 37 1 3 frame.Told ∷ body.Told 1 (u 1 1 6) Abort part.Naming ∷ [],
    ) ∷ (event.Call (l 173) 1 (op.PutPair 3 0), body.Conflict (l 173) (u 1 1 6) Read 3 ∷ [])
    ∷ (event.Deliver (Number 36), body.Got 36 ∷ body.Sent 38 3 2 frame.Invoked ∷ [])
    ∷ (event.Abort (l 173), body.Aborted (l 173) cause.Asked ∷ [])
    ∷ (event.Deliver (Number 37), body.Got 37 ∷ body.Told 3 (u 1 1 6) Abort part.Server ∷ [])
    ∷ (event.Top (l 174) (l 169), body.Began (l 174) kind.Independent (u 3 1 5) (Some (l 169)) ∷ [])
    ∷ (event.Commit (l 174), body.Committing (l 174) ∷ body.Committed (l 174) ∷ [])
    ∷ (event.Abort (l 169), body.Aborted (l 169) cause.Asked ∷ body.Sent 39 3 1 frame.Told ∷ [])
    ∷ (event.Deliver (Number 31), body.Void 31 ∷ [])
    ∷ (event.Deliver (Number 38), body.Got 38 ∷ body.Conflict (l 168) (u 1 1 6) Read 3 ∷ [])
    ∷ (event.Deliver (Number 4), body.Void 4 ∷ []) ∷ (event.Call (l 168) 1 (op.PutPair 4 0), body.Sent 40 2 3 frame.Invoke ∷ [])
    ∷ (event.Deliver (Number 40), body.Got 40 ∷ body.Sent 41 3 2 frame.Invoked ∷ [])
    ∷ (event.Deliver (Number 39), body.Got 39 ∷ body.Told 1 (u 3 1 3) Abort part.Naming ∷ [])
    ∷ (event.Deliver (Number 41), body.Got 41 ∷ body.Conflict (l 168) (u 2 1 3) Read 3 ∷ [])
    ∷ (event.BeginIn (l 175) (l 168), body.Began (l 175) kind.Nested (u 2 1 4) (Some (l 168)) ∷ [])
    ∷ (event.Commit (l 172), body.Aborted (l 172) cause.Doomed ∷ body.Sent 42 2 1 frame.Told ∷ body.Sent 43 2 3 frame.Told ∷ [])
    ∷ (event.Deliver (Number 42), body.Got 42 ∷ body.Told 1 (u 2 1 3) Abort part.Naming ∷ [])
    ∷ (event.Deliver (Number 43), body.Got 43 ∷ body.Told 3 (u 2 1 3) Abort part.Server ∷ [])
    ∷ (event.Tick 1, body.Sent 44 1 2 frame.Query ∷ []) ∷ (event.Call (l 168) 1 (op.PutPair 4 0), body.Sent 45 2 3 frame.Invoke ∷ [])
    ∷ (event.Lose (Number 44), body.Dropped 44 ∷ [])
    ∷ (event.Deliver (Number 45), body.Got 45 ∷ body.Granted 3 (u 2 1 1) (u 0 0 1) Write ∷ body.Sent 46 3 2 frame.Invoked ∷ [])
    ∷ (event.Deliver (Number 46), body.Got 46 ∷ body.Ok (l 168) 1 (op.PutPair 4 0) (codes "done") ∷ [])
    ∷ (event.Top (l 176) (l 168), body.Began (l 176) kind.Independent (u 2 1 5) (Some (l 168)) ∷ [])
    ∷ (event.Begin (l 177) 3, body.Began (l 177) kind.Top (u 3 1 6) None ∷ [])
    ∷ (event.BeginIn (l 178) (l 168), body.Began (l 178) kind.Nested (u 2 1 6) (Some (l 168)) ∷ [])
    ∷ (event.Commit (l 176), body.Committing (l 176) ∷ body.Committed (l 176) ∷ [])
    ∷ (event.Abort (l 178), body.Aborted (l 178) cause.Asked ∷ [])
    ∷ (event.Call (l 168) 1 (op.Remove 4), body.Sent 47 2 3 frame.Invoke ∷ [])
    ∷ (event.Deliver (Number 47), body.Got 47 ∷ body.Sent 48 3 2 frame.Invoked ∷ [])
    ∷ (event.Call (l 177) 1 (op.Remove 10), body.Sent 49 3 1 frame.Bind ∷ [])
    ∷ (event.Deliver (Number 48), body.Got 48 ∷ body.Ok (l 168) 1 (op.Remove 4) (codes "0") ∷ [])
    ∷ (event.Deliver (Number 49), body.Got 49 ∷ body.Granted 1 (u 3 1 6) (u 0 1 1) Read ∷ body.Sent 50 1 3 frame.Bound ∷ [])
    ∷ (event.Deliver (Number 50), body.Got 50 ∷ body.Conflict (l 177) (u 2 1 1) Write 3 ∷ [])
    ∷ (event.Deliver (Number 11), body.Void 11 ∷ [])
    ∷ (event.Call (l 177) 1 (op.PutPair 3 2), body.Conflict (l 177) (u 2 1 1) Write 3 ∷ [])
    ∷ (event.Call (l 168) 1 (op.PutPair 8 0), body.Sent 51 2 3 frame.Invoke ∷ [])
    ∷ (event.Call (l 177) 1 (op.Remove 15), body.Conflict (l 177) (u 2 1 1) Write 3 ∷ [])
    ∷ (event.Deliver (Number 51), body.Got 51 ∷ body.Sent 52 3 2 frame.Invoked ∷ [])
    ∷ (event.Deliver (Number 52), body.Got 52 ∷ body.Ok (l 168) 1 (op.PutPair 8 0) (codes "done") ∷ [])
    ∷ (event.Call (l 168) 1 (op.PutPair 5 2), body.Sent 53 2 3 frame.Invoke ∷ [])
    ∷ (event.Deliver (Number 53), body.Got 53 ∷ body.Sent 54 3 2 frame.Invoked ∷ [])
    ∷ (event.Deliver (Number 54), body.Got 54 ∷ body.Ok (l 168) 1 (op.PutPair 5 2) (codes "done") ∷ [])
    ∷ (event.Call (l 175) 1 (op.PutPair 4 4), body.Sent 55 2 3 frame.Invoke ∷ [])
    ∷ (event.Deliver (Number 55), body.Got 55 ∷ body.Granted 3 (u 2 1 4) (u 0 0 1) Write ∷ body.Sent 56 3 2 frame.Invoked ∷ [])
    ∷ (event.Deliver (Number 56), body.Got 56 ∷ body.Ok (l 175) 1 (op.PutPair 4 4) (codes "done") ∷ [])
    ∷ (event.BeginIn (l 179) (l 175), body.Began (l 179) kind.Nested (u 2 1 7) (Some (l 175)) ∷ [])
    ∷ (event.Call (l 177) 1 (op.PutPair 7 2), body.Conflict (l 177) (u 2 1 1) Write 3 ∷ [])
    ∷ (event.Deliver (Number 26), body.Void 26 ∷ []) ∷ (event.Call (l 175) 1 (op.PutPair 0 1), body.Sent 57 2 3 frame.Invoke ∷ [])
    ∷ (event.Begin (l 180) 1, body.Began (l 180) kind.Top (u 1 1 7) None ∷ [])
    ∷ (event.Commit (l 177), body.Committing (l 177) ∷ body.Committed (l 177) ∷ body.Sent 58 3 1 frame.Told ∷ [])
    ∷ (event.Call (l 180) 1 (op.GetKey 15), body.Granted 1 (u 1 1 7) (u 0 1 1) Read ∷ body.Sent 59 1 3 frame.Invoke ∷ [])
    ∷ (event.Deliver (Number 57), body.Got 57 ∷ body.Sent 60 3 2 frame.Invoked ∷ [])
    ∷ (event.Deliver (Number 60), body.Got 60 ∷ body.Ok (l 175) 1 (op.PutPair 0 1) (codes "done") ∷ [])
    ∷ (event.Deliver (Number 58), body.Got 58 ∷ body.Told 1 (u 3 1 6) Abort part.Naming ∷ [])
    ∷ (event.Begin (l 181) 1, body.Began (l 181) kind.Top (u 1 1 8) None ∷ [])
    ∷ (event.Deliver (Number 59), body.Got 59 ∷ body.Sent 61 3 1 frame.Invoked ∷ [])
    ∷ (event.Top (l 182) (l 181), body.Began (l 182) kind.Independent (u 1 1 9) (Some (l 181)) ∷ []) ∷ [])

calls_1_follows : is_followed calls_1 ≡ true
calls_1_follows = refl

calls_1_has_causes : lacking calls_1 ≡ []
calls_1_has_causes = refl

abbrev calls_2 : Run
calls_2 = run
    (nodes 4 (object_line 1 (value.Table []) (1 ∷ []) (1 ∷ 3 ∷ 4 ∷ []) ∷ []))
    ((event.Begin (l 161) 2, body.Began (l 161) kind.Top (u 2 1 1) None ∷ [])
    ∷ (event.Call (l 161) 1 (op.PutPair 4 3), body.Sent 1 2 1 frame.Bind ∷ [])
    ∷ (
      event.Deliver (Number 1),
      body.Got 1 ∷ body.Granted 1 (u 2 1 1) (u 0 1 1) Write ∷ body.Bound 1 (b 1 1) 1 ∷ body.Sent 2 1 2 frame.Bound ∷ [],
    ) ∷ (event.Deliver (Number 2), body.Got 2 ∷ body.Sent 3 2 1 frame.Load ∷ [])
    ∷ (event.Deliver (Number 3), body.Got 3 ∷ body.Sent 4 1 2 frame.Loaded ∷ [])
    ∷ (
      event.Show 1,
      body.Entry 1 0 (1 ∷ []) (1 ∷ 3 ∷ 4 ∷ []) ∷ body.Copy 1 1 0 (u 0 0 0) [] ∷ body.Copy 3 1 0 (u 0 0 0) []
          ∷ body.Copy 4 1 0 (u 0 0 0) [] ∷ [],
    ) ∷ (event.Deliver (Number 4), body.Got 4 ∷ body.Sent 5 2 1 frame.Activate ∷ [])
    ∷ (event.Deliver (Number 5), body.Got 5 ∷ body.Active 1 1 (b 1 1) ∷ body.Sent 6 1 2 frame.Activated ∷ [])
    ∷ (event.Deliver (Number 6), body.Got 6 ∷ body.Sent 7 2 1 frame.Record ∷ [])
    ∷ (event.Deliver (Number 7), body.Got 7 ∷ body.Lowered 1 (u 2 1 1) (u 0 1 1) ∷ body.Sent 8 1 2 frame.Recorded ∷ [])
    ∷ (event.Deliver (Number 8), body.Got 8 ∷ body.Sent 9 2 1 frame.Invoke ∷ [])
    ∷ (event.Deliver (Number 9), body.Got 9 ∷ body.Granted 1 (u 2 1 1) (u 0 0 1) Write ∷ body.Sent 10 1 2 frame.Invoked ∷ [])
    ∷ (event.Deliver (Number 10), body.Got 10 ∷ body.Ok (l 161) 1 (op.PutPair 4 3) (codes "done") ∷ [])
    ∷ (event.Tick 1, body.Sent 11 1 2 frame.Query ∷ []) ∷ (event.Deliver (Number 11), body.Got 11 ∷ [])
    ∷ (event.Call (l 161) 1 (op.Remove 12), body.Sent 12 2 1 frame.Invoke ∷ [])
    ∷ (event.Deliver (Number 12), body.Got 12 ∷ body.Sent 13 1 2 frame.Invoked ∷ [])
    ∷ (event.Deliver (Number 13), body.Got 13 ∷ body.Ok (l 161) 1 (op.Remove 12) (codes "none") ∷ [])
    ∷ (event.Commit (l 161), body.Committing (l 161) ∷ body.Sent 14 2 1 frame.Vote ∷ [])
    ∷ (event.Deliver (Number 14), body.Got 14 ∷ body.Sent 15 1 2 frame.Voted ∷ [])
    ∷ (
      event.Deliver (Number 15),
      body.Got 15 ∷ body.Sent 16 2 1 frame.Prepare ∷ body.Sent 17 2 3 frame.Prepare ∷ body.Sent 18 2 4 frame.Prepare ∷ [],
    ) ∷ (event.Deliver (Number 16), body.Got 16 ∷ body.Prepared 1 (u 2 1 1) role.Store ∷ body.Sent 19 1 2 frame.Prepared ∷ [])
    ∷ (event.Deliver (Number 17), body.Got 17 ∷ body.Prepared 3 (u 2 1 1) role.Store ∷ body.Sent 20 3 2 frame.Prepared ∷ [])
    ∷ (event.Deliver (Number 18), body.Got 18 ∷ body.Prepared 4 (u 2 1 1) role.Store ∷ body.Sent 21 4 2 frame.Prepared ∷ [])
    ∷ (event.Lose (Number 19), body.Dropped 19 ∷ []) ∷ (event.Deliver (Number 20), body.Got 20 ∷ [])
    ∷ (event.Deliver (Number 21), body.Got 21 ∷ []) ∷ (event.Begin (l 162) 1, body.Began (l 162) kind.Top (u 1 1 1) None ∷ [])
    ∷ (event.BeginIn (l 163) (l 162), body.Began (l 163) kind.Nested (u 1 1 2) (Some (l 162)) ∷ [])
    ∷ (event.Call (l 163) 1 (op.GetKey 1), body.Granted 1 (u 1 1 1) (u 0 1 1) Read ∷ body.Conflict (l 163) (u 2 1 1) Write 1 ∷ [])
    ∷ (event.Call (l 163) 1 (op.Remove 10), body.Conflict (l 163) (u 2 1 1) Write 1 ∷ [])
    ∷ (event.Call (l 162) 1 (op.GetKey 16), body.Conflict (l 162) (u 2 1 1) Write 1 ∷ []) ∷ (event.Deliver (Number 6), body.Void 6 ∷ [])
    ∷ (event.Call (l 162) 1 (op.PutPair 17 2), body.Conflict (l 162) (u 2 1 1) Write 1 ∷ [])
    ∷ (event.Top (l 164) (l 162), body.Began (l 164) kind.Independent (u 1 1 3) (Some (l 162)) ∷ [])
    ∷ (event.Commit (l 164), body.Committing (l 164) ∷ body.Committed (l 164) ∷ [])
    ∷ (event.Call (l 162) 1 (op.PutPair 7 0), body.Conflict (l 162) (u 2 1 1) Write 1 ∷ []) ∷ (event.Deliver (Number 2), body.Void 2 ∷ [])
    ∷ (event.Commit (l 163), body.Committed (l 163) ∷ [])
    ∷ (event.Top (l 165) (l 162), body.Began (l 165) kind.Independent (u 1 1 4) (Some (l 162)) ∷ [])
    ∷ (event.Call (l 162) 1 (op.GetKey 9), body.Conflict (l 162) (u 2 1 1) Write 1 ∷ [])
    ∷ (event.BeginIn (l 166) (l 162), body.Began (l 166) kind.Nested (u 1 1 5) (Some (l 162)) ∷ [])
    ∷ (event.Deliver (Number 9), body.Void 9 ∷ []) ∷ (event.Abort (l 166), body.Aborted (l 166) cause.Asked ∷ [])
    ∷ (event.Call (l 162) 1 (op.PutPair 6 1), body.Conflict (l 162) (u 2 1 1) Write 1 ∷ [])
    ∷ (event.Call (l 162) 1 (op.GetKey 9), body.Conflict (l 162) (u 2 1 1) Write 1 ∷ [])
    ∷ (event.BeginIn (l 167) (l 162), body.Began (l 167) kind.Nested (u 1 1 6) (Some (l 162)) ∷ [])
    ∷ (event.Abort (l 167), body.Aborted (l 167) cause.Asked ∷ [])
    ∷ (
      event.Call (l 165) 1 (op.PutPair 15 18446744073709551615),
      body.Granted 1 (u 1 1 4) (u 0 1 1) Read ∷ body.Conflict (l 165) (u 2 1 1) Write 1 ∷ [],
    ) ∷ (event.Call (l 162) 1 (op.PutPair 15 3), body.Conflict (l 162) (u 2 1 1) Write 1 ∷ [])
    ∷ (event.Call (l 162) 1 (op.GetKey 17), body.Conflict (l 162) (u 2 1 1) Write 1 ∷ [])
    ∷ (event.Abort (l 165), body.Aborted (l 165) cause.Asked ∷ body.Told 1 (u 1 1 4) Abort part.Naming ∷ [])
    ∷ (event.Call (l 162) 1 (op.GetKey 2), body.Conflict (l 162) (u 2 1 1) Write 1 ∷ [])
    ∷ (event.Tick 3, body.Sent 22 3 2 frame.Query ∷ []) ∷ (event.Deliver (Number 22), body.Got 22 ∷ [])
    ∷ (event.Top (l 168) (l 162), body.Began (l 168) kind.Independent (u 1 1 7) (Some (l 162)) ∷ [])
    ∷ (event.Abort (l 162), body.Aborted (l 162) cause.Asked ∷ body.Told 1 (u 1 1 1) Abort part.Naming ∷ [])
    ∷ (event.Call (l 168) 1 (op.GetKey 10), body.Granted 1 (u 1 1 7) (u 0 1 1) Read ∷ body.Conflict (l 168) (u 2 1 1) Write 1 ∷ [])
    ∷ (event.BeginIn (l 169) (l 168), body.Began (l 169) kind.Nested (u 1 1 8) (Some (l 168)) ∷ [])
    ∷ (event.Begin (l 170) 1, body.Began (l 170) kind.Top (u 1 1 9) None ∷ [])
    ∷ (event.Abort (l 169), body.Aborted (l 169) cause.Asked ∷ [])
    ∷ (event.Call (l 168) 1 (op.Remove 6), body.Conflict (l 168) (u 2 1 1) Write 1 ∷ [])
    ∷ (event.Commit (l 168), body.Committing (l 168) ∷ body.Committed (l 168) ∷ body.Told 1 (u 1 1 7) Abort part.Naming ∷ [])
    ∷ (event.Deliver (Number 1), body.Got 1 ∷ body.Sent 23 1 2 frame.Bound ∷ [])
    ∷ (event.Call (l 170) 1 (op.GetKey 13), body.Granted 1 (u 1 1 9) (u 0 1 1) Read ∷ body.Conflict (l 170) (u 2 1 1) Write 1 ∷ [])
    ∷ (event.Deliver (Number 23), body.Void 23 ∷ [])
    ∷ (event.Call (l 170) 1 (op.PutPair 14 2), body.Conflict (l 170) (u 2 1 1) Write 1 ∷ [])
    ∷ (event.Begin (l 171) 2, body.Began (l 171) kind.Top (u 2 1 2) None ∷ [])
    ∷ (event.Call (l 171) 1 (op.GetKey 5), body.Sent 24 2 1 frame.Bind ∷ [])
    ∷ (event.Deliver (Number 24), body.Got 24 ∷ body.Granted 1 (u 2 1 2) (u 0 1 1) Read ∷ body.Sent 25 1 2 frame.Bound ∷ [])
    ∷ (event.Deliver (Number 14), body.Got 14 ∷ body.Sent 26 1 2 frame.Voted ∷ [])
    ∷ (event.Abort (l 170), body.Aborted (l 170) cause.Asked ∷ body.Told 1 (u 1 1 9) Abort part.Naming ∷ [])
    ∷ (event.Deliver (Number 25), body.Got 25 ∷ body.Sent 27 2 1 frame.Invoke ∷ []) ∷ (event.Deliver (Number 26), body.Void 26 ∷ [])
    ∷ (event.Deliver (Number 27), body.Got 27 ∷ body.Sent 28 1 2 frame.Invoked ∷ [])
    ∷ (event.Begin (l 172) 3, body.Began (l 172) kind.Top (u 3 1 1) None ∷ [])
    ∷ (event.Call (l 172) 1 (op.GetKey 2), body.Sent 29 3 1 frame.Bind ∷ []) ∷ (event.Deliver (Number 2), body.Void 2 ∷ [])
    ∷ (event.Deliver (Number 28), body.Got 28 ∷ body.Conflict (l 171) (u 2 1 1) Write 1 ∷ [])
    ∷ (event.Lose (Number 29), body.Dropped 29 ∷ []) ∷ (event.Call (l 171) 1 (op.Remove 13), body.Sent 30 2 1 frame.Invoke ∷ [])
    ∷ (event.Deliver (Number 30), body.Got 30 ∷ body.Sent 31 1 2 frame.Invoked ∷ [])
    ∷ (event.Deliver (Number 31), body.Got 31 ∷ body.Conflict (l 171) (u 2 1 1) Write 1 ∷ [])
    ∷ (event.Call (l 171) 1 (op.Remove 11), body.Sent 32 2 1 frame.Invoke ∷ [])
    ∷ (event.Deliver (Number 32), body.Got 32 ∷ body.Sent 33 1 2 frame.Invoked ∷ []) ∷ (event.Lose (Number 33), body.Dropped 33 ∷ [])
    ∷ (event.Tick 4, body.Sent 34 4 2 frame.Query ∷ []) ∷ (event.Deliver (Number 34), body.Got 34 ∷ [])
    ∷ (event.Deliver (Number 12), body.Got 12 ∷ body.Sent 35 1 2 frame.Invoked ∷ []) ∷ (event.Deliver (Number 35), body.Void 35 ∷ [])
    ∷ (event.GiveUp (l 161), body.GaveUp (l 161) 1 ∷ body.Excluded (l 161) 1 1 ∷ body.Sent 36 2 1 frame.Confirm ∷ [])
    ∷ (
      event.Deliver (Number 36),
      body.Got 36 ∷ body.Granted 1 (u 2 1 1) (u 0 1 1) Exclude ∷ body.Prepared 1 (u 2 1 1) role.Names ∷ body.Sent 37 1 2 frame.Confirmed
          ∷ [],
    )
    ∷ (
      event.Deliver (Number 37),
      body.Got 37 ∷ body.Committed (l 161) ∷ body.Sent 38 2 1 frame.Told ∷ body.Sent 39 2 3 frame.Told ∷ body.Sent 40 2 4 frame.Told
          ∷ [],
    )
    ∷ (
      event.Deliver (Number 38),
      body.Got 38 ∷ body.Done 1 (u 2 1 1) role.Store Commit ∷ body.Done 1 (u 2 1 1) role.Names Commit
          ∷ body.Told 1 (u 2 1 1) Commit part.Naming ∷ body.Told 1 (u 2 1 1) Commit part.Server ∷ body.Sent 41 1 2 frame.Acked ∷ [],
    ) ∷ (event.Begin (l 173) 2, body.Began (l 173) kind.Top (u 2 1 3) None ∷ [])
    ∷ (event.Call (l 173) 1 (op.Remove 2), body.Sent 42 2 1 frame.Bind ∷ [])
    ∷ (event.Deliver (Number 39), body.Got 39 ∷ body.Done 3 (u 2 1 1) role.Store Commit ∷ body.Sent 43 3 2 frame.Acked ∷ [])
    ∷ (event.Tick 1, body.Sent 44 1 2 frame.Query ∷ []) ∷ (event.Deliver (Number 43), body.Got 43 ∷ [])
    ∷ (event.Deliver (Number 41), body.Got 41 ∷ []) ∷ (event.Lose (Number 42), body.Dropped 42 ∷ [])
    ∷ (event.Deliver (Number 40), body.Got 40 ∷ body.Done 4 (u 2 1 1) role.Store Commit ∷ body.Sent 45 4 2 frame.Acked ∷ [])
    ∷ (event.Deliver (Number 45), body.Got 45 ∷ []) ∷ (event.Tick 2, body.Sent 46 2 1 frame.Invoke ∷ body.Sent 47 2 1 frame.Bind ∷ [])
    ∷ (event.Deliver (Number 44), body.Got 44 ∷ []) ∷ (event.Deliver (Number 46), body.Got 46 ∷ body.Sent 48 1 2 frame.Invoked ∷ [])
    ∷ (event.Deliver (Number 48), body.Got 48 ∷ body.Conflict (l 171) (u 2 1 1) Write 1 ∷ [])
    ∷ (event.Deliver (Number 22), body.Got 22 ∷ body.Sent 49 2 3 frame.Told ∷ [])
    ∷ (event.Deliver (Number 47), body.Got 47 ∷ body.Granted 1 (u 2 1 3) (u 0 1 1) Read ∷ body.Sent 50 1 2 frame.Bound ∷ [])
    ∷ (event.Deliver (Number 19), body.Void 19 ∷ []) ∷ (event.Deliver (Number 49), body.Got 49 ∷ [])
    ∷ (event.Deliver (Number 50), body.Got 50 ∷ body.Sent 51 2 1 frame.Invoke ∷ [])
    ∷ (event.Call (l 171) 1 (op.GetKey 2), body.Sent 52 2 1 frame.Invoke ∷ [])
    ∷ (event.Deliver (Number 51), body.Got 51 ∷ body.Granted 1 (u 2 1 3) (u 0 0 1) Write ∷ body.Sent 53 1 2 frame.Invoked ∷ [])
    ∷ (
      event.Settle,
      body.Got 52 ∷ body.Sent 54 1 2 frame.Invoked ∷ body.Got 53 ∷ body.Ok (l 173) 1 (op.Remove 2) (codes "none") ∷ body.Got 54
          ∷ body.Conflict (l 171) (u 2 1 3) Write 1 ∷ [],
    ) ∷ (event.Call (l 171) 1 (op.PutPair 1 4), body.Sent 55 2 1 frame.Invoke ∷ []) ∷ (event.Deliver (Number 20), body.Void 20 ∷ [])
    ∷ (event.GiveUp (l 172), body.GaveUp (l 172) 1 ∷ body.Lost (l 172) 1 ∷ [])
    ∷ (event.Deliver (Number 55), body.Got 55 ∷ body.Sent 56 1 2 frame.Invoked ∷ [])
    ∷ (event.Call (l 172) 1 (op.GetKey 16), body.Sent 57 3 1 frame.Bind ∷ [])
    ∷ (event.Deliver (Number 56), body.Got 56 ∷ body.Conflict (l 171) (u 2 1 3) Write 1 ∷ [])
    ∷ (event.Deliver (Number 57), body.Got 57 ∷ body.Granted 1 (u 3 1 1) (u 0 1 1) Read ∷ body.Sent 58 1 3 frame.Bound ∷ [])
    ∷ (event.Deliver (Number 58), body.Got 58 ∷ body.Sent 59 3 1 frame.Invoke ∷ [])
    ∷ (event.Call (l 173) 1 (op.Remove 0), body.Sent 60 2 1 frame.Invoke ∷ [])
    ∷ (event.GiveUp (l 172), body.GaveUp (l 172) 1 ∷ body.Lost (l 172) 1 ∷ [])
    ∷ (event.Deliver (Number 59), body.Got 59 ∷ body.Sent 61 1 3 frame.Invoked ∷ [])
    ∷ (event.Deliver (Number 60), body.Got 60 ∷ body.Sent 62 1 2 frame.Invoked ∷ []) ∷ (event.Deliver (Number 61), body.Void 61 ∷ [])
    ∷ (event.Call (l 171) 1 (op.PutPair 6 1), body.Sent 63 2 1 frame.Invoke ∷ [])
    ∷ (event.Deliver (Number 62), body.Got 62 ∷ body.Ok (l 173) 1 (op.Remove 0) (codes "none") ∷ [])
    ∷ (event.BeginIn (l 174) (l 173), body.Began (l 174) kind.Nested (u 2 1 4) (Some (l 173)) ∷ [])
    ∷ (event.Call (l 174) 1 (op.PutPair 15 2), body.Sent 64 2 1 frame.Invoke ∷ [])
    ∷ (
      event.Settle,
      body.Got 63 ∷ body.Sent 65 1 2 frame.Invoked ∷ body.Got 64 ∷ body.Granted 1 (u 2 1 4) (u 0 0 1) Write
          ∷ body.Sent 66 1 2 frame.Invoked ∷ body.Got 65 ∷ body.Conflict (l 171) (u 2 1 3) Write 1 ∷ body.Got 66
          ∷ body.Ok (l 174) 1 (op.PutPair 15 2) (codes "done") ∷ [],
    ) ∷ (event.Call (l 173) 1 (op.PutPair 1 0), body.Sent 67 2 1 frame.Invoke ∷ [])
    ∷ (event.Call (l 171) 1 (op.PutPair 14 0), body.Sent 68 2 1 frame.Invoke ∷ [])
    ∷ (event.Deliver (Number 67), body.Got 67 ∷ body.Sent 69 1 2 frame.Invoked ∷ [])
    ∷ (event.Deliver (Number 68), body.Got 68 ∷ body.Sent 70 1 2 frame.Invoked ∷ [])
    ∷ (event.GiveUp (l 171), body.GaveUp (l 171) 1 ∷ body.Lost (l 171) 1 ∷ [])
    ∷ (event.Deliver (Number 69), body.Got 69 ∷ body.Conflict (l 173) (u 2 1 4) Write 1 ∷ [])
    ∷ (event.Deliver (Number 70), body.Void 70 ∷ []) ∷ (event.Call (l 173) 1 (op.GetKey 8), body.Sent 71 2 1 frame.Invoke ∷ [])
    ∷ (event.Commit (l 172), body.Aborted (l 172) cause.Doomed ∷ body.Sent 72 3 1 frame.Told ∷ [])
    ∷ (event.Begin (l 175) 3, body.Began (l 175) kind.Top (u 3 1 2) None ∷ [])
    ∷ (event.Deliver (Number 72), body.Got 72 ∷ body.Told 1 (u 3 1 1) Abort part.Naming ∷ [])
    ∷ (event.Deliver (Number 71), body.Got 71 ∷ body.Sent 73 1 2 frame.Invoked ∷ [])
    ∷ (event.Commit (l 171), body.Aborted (l 171) cause.Doomed ∷ body.Sent 74 2 1 frame.Told ∷ [])
    ∷ (event.Call (l 175) 1 (op.PutPair 16 1), body.Sent 75 3 1 frame.Bind ∷ [])
    ∷ (event.Deliver (Number 75), body.Got 75 ∷ body.Granted 1 (u 3 1 2) (u 0 1 1) Read ∷ body.Sent 76 1 3 frame.Bound ∷ [])
    ∷ (event.Deliver (Number 73), body.Got 73 ∷ body.Conflict (l 173) (u 2 1 4) Write 1 ∷ [])
    ∷ (
      event.Settle,
      body.Got 74 ∷ body.Told 1 (u 2 1 2) Abort part.Naming ∷ body.Got 76 ∷ body.Sent 77 3 1 frame.Invoke ∷ body.Got 77
          ∷ body.Sent 78 1 3 frame.Invoked ∷ body.Got 78 ∷ body.Conflict (l 175) (u 2 1 3) Write 1 ∷ [],
    ) ∷ [])

calls_2_follows : is_followed calls_2 ≡ true
calls_2_follows = refl

calls_2_has_causes : lacking calls_2 ≡ []
calls_2_has_causes = refl

abbrev calls_3 : Run
calls_3 = run
    (nodes 2 (object_line 1 (value.Counter 6) (2 ∷ 1 ∷ []) (1 ∷ 2 ∷ [])
    ∷ object_line 2 (value.Register (116 ∷ 219 ∷ [])) (2 ∷ 1 ∷ []) (2 ∷ 1 ∷ []) ∷ []))
    ((event.Tick 2, []) ∷ (event.Begin (l 161) 2, body.Began (l 161) kind.Top (u 2 1 1) None ∷ [])
    ∷ (event.Begin (l 162) 2, body.Began (l 162) kind.Top (u 2 1 2) None ∷ [])
    ∷ (event.Commit (l 161), body.Committing (l 161) ∷ body.Committed (l 161) ∷ [])
    ∷ (event.Call (l 162) 2 op.Get, body.Sent 1 2 1 frame.Bind ∷ [])
    ∷ (
      event.Deliver (Number 1),
      body.Got 1 ∷ body.Granted 1 (u 2 1 2) (u 0 1 2) Write ∷ body.Bound 2 (b 1 1) 2 ∷ body.Sent 2 1 2 frame.Bound ∷ [],
    ) ∷ (event.Deliver (Number 2), body.Got 2 ∷ body.Active 2 2 (b 1 1) ∷ body.Sent 3 2 1 frame.Record ∷ [])
    ∷ (event.Deliver (Number 3), body.Got 3 ∷ body.Lowered 1 (u 2 1 2) (u 0 1 2) ∷ body.Sent 4 1 2 frame.Recorded ∷ [])
    ∷ (event.Lose (Number 4), body.Dropped 4 ∷ []) ∷ (event.GiveUp (l 162), body.GaveUp (l 162) 1 ∷ body.Lost (l 162) 1 ∷ [])
    ∷ (event.BeginIn (l 163) (l 162), body.Began (l 163) kind.Nested (u 2 1 3) (Some (l 162)) ∷ [])
    ∷ (event.Call (l 162) 1 (op.Add 3), body.Sent 5 2 1 frame.Bind ∷ [])
    ∷ (
      event.Deliver (Number 5),
      body.Got 5 ∷ body.Granted 1 (u 2 1 2) (u 0 1 1) Write ∷ body.Bound 1 (b 1 2) 2 ∷ body.Sent 6 1 2 frame.Bound ∷ [],
    ) ∷ (event.Deliver (Number 6), body.Got 6 ∷ body.Sent 7 2 1 frame.Load ∷ [])
    ∷ (event.Deliver (Number 7), body.Got 7 ∷ body.Sent 8 1 2 frame.Loaded ∷ []) ∷ (event.Lose (Number 8), body.Dropped 8 ∷ [])
    ∷ (event.GiveUp (l 162), body.GaveUp (l 162) 1 ∷ body.Active 2 1 (b 1 2) ∷ body.Sent 9 2 1 frame.Record ∷ [])
    ∷ (event.Tick 2, body.Sent 10 2 1 frame.Record ∷ [])
    ∷ (event.Deliver (Number 9), body.Got 9 ∷ body.Lowered 1 (u 2 1 2) (u 0 1 1) ∷ body.Sent 11 1 2 frame.Recorded ∷ [])
    ∷ (event.Begin (l 164) 2, body.Began (l 164) kind.Top (u 2 1 4) None ∷ [])
    ∷ (event.Commit (l 164), body.Committing (l 164) ∷ body.Committed (l 164) ∷ []) ∷ (event.Lose (Number 10), body.Dropped 10 ∷ [])
    ∷ (
      event.Deliver (Number 11),
      body.Got 11 ∷ body.Granted 2 (u 2 1 2) (u 0 0 1) Write ∷ body.Ok (l 162) 1 (op.Add 3) (codes "done") ∷ [],
    ) ∷ (event.Begin (l 165) 1, body.Began (l 165) kind.Top (u 1 1 1) None ∷ []) ∷ (event.Tick 1, body.Sent 12 1 2 frame.Query ∷ [])
    ∷ (event.Deliver (Number 12), body.Got 12 ∷ []) ∷ (event.Call (l 162) 2 (op.Put []), body.Sent 13 2 1 frame.Bind ∷ [])
    ∷ (event.Abort (l 165), body.Aborted (l 165) cause.Asked ∷ [])
    ∷ (
      event.Show 1,
      body.Entry 1 0 (2 ∷ 1 ∷ []) (1 ∷ 2 ∷ []) ∷ body.Copy 1 1 0 (u 0 0 0) (0 ∷ 0 ∷ 0 ∷ 0 ∷ 0 ∷ 0 ∷ 0 ∷ 6 ∷ [])
          ∷ body.Copy 2 1 0 (u 0 0 0) (0 ∷ 0 ∷ 0 ∷ 0 ∷ 0 ∷ 0 ∷ 0 ∷ 6 ∷ []) ∷ [],
    ) ∷ (event.GiveUp (l 162), body.GaveUp (l 162) 1 ∷ body.Lost (l 162) 1 ∷ [])
    ∷ (
      event.Deliver (Number 13),
      body.Got 13 ∷ body.Granted 1 (u 2 1 2) (u 0 1 2) Write ∷ body.Bound 2 (b 1 3) 1 ∷ body.Sent 14 1 2 frame.Bound ∷ [],
    ) ∷ (event.Call (l 163) 1 (op.Add 1), body.Granted 2 (u 2 1 3) (u 0 0 1) Write ∷ body.Ok (l 163) 1 (op.Add 1) (codes "done") ∷ [])
    ∷ (event.Settle, body.Void 14 ∷ []) ∷ (event.Commit (l 163), body.Committed (l 163) ∷ body.Told 2 (u 2 1 3) Commit part.Server ∷ [])
    ∷ (event.Begin (l 166) 1, body.Began (l 166) kind.Top (u 1 1 2) None ∷ [])
    ∷ (event.Call (l 162) 2 (op.Put (189 ∷ 174 ∷ [])), body.Sent 15 2 1 frame.Bind ∷ []) ∷ (event.Deliver (Number 4), body.Void 4 ∷ [])
    ∷ (event.Deliver (Number 15), body.Got 15 ∷ body.Sent 16 1 2 frame.Bound ∷ [])
    ∷ (event.Deliver (Number 16), body.Got 16 ∷ body.Sent 17 2 1 frame.Activate ∷ [])
    ∷ (event.Call (l 166) 1 op.Get, body.Granted 1 (u 1 1 2) (u 0 1 1) Read ∷ body.Sent 18 1 2 frame.Invoke ∷ [])
    ∷ (event.Deliver (Number 17), body.Got 17 ∷ body.Active 1 2 (b 1 3) ∷ body.Sent 19 1 2 frame.Activated ∷ [])
    ∷ (event.Begin (l 167) 1, body.Began (l 167) kind.Top (u 1 1 3) None ∷ [])
    ∷ (event.Deliver (Number 18), body.Got 18 ∷ body.Sent 20 2 1 frame.Invoked ∷ [])
    ∷ (event.Deliver (Number 20), body.Got 20 ∷ body.Conflict (l 166) (u 2 1 2) Write 2 ∷ [])
    ∷ (event.GiveUp (l 162), body.GaveUp (l 162) 1 ∷ body.Lost (l 162) 1 ∷ []) ∷ (event.Deliver (Number 19), body.Void 19 ∷ [])
    ∷ (event.Call (l 162) 2 op.Get, body.Sent 21 2 1 frame.Bind ∷ [])
    ∷ (event.BeginIn (l 168) (l 166), body.Began (l 168) kind.Nested (u 1 1 4) (Some (l 166)) ∷ [])
    ∷ (event.Deliver (Number 21), body.Got 21 ∷ body.Bound 2 (b 1 4) 2 ∷ body.Sent 22 1 2 frame.Bound ∷ [])
    ∷ (event.Deliver (Number 22), body.Got 22 ∷ body.Active 2 2 (b 1 4) ∷ body.Sent 23 2 1 frame.Record ∷ [])
    ∷ (event.Call (l 167) 2 (op.Put (61 ∷ [])), body.Conflict (l 167) (u 2 1 2) Write 1 ∷ [])
    ∷ (event.Deliver (Number 23), body.Got 23 ∷ body.Lowered 1 (u 2 1 2) (u 0 1 2) ∷ body.Sent 24 1 2 frame.Recorded ∷ [])
    ∷ (event.Call (l 166) 1 (op.Add 1), body.Sent 25 1 2 frame.Invoke ∷ [])
    ∷ (event.Deliver (Number 24), body.Got 24 ∷ body.Granted 2 (u 2 1 2) (u 0 0 2) Read ∷ body.Ok (l 162) 2 op.Get (codes "74db") ∷ [])
    ∷ (event.Call (l 162) 1 op.Get, body.Ok (l 162) 1 op.Get (codes "10") ∷ [])
    ∷ (event.GiveUp (l 166), body.GaveUp (l 166) 2 ∷ body.Lost (l 166) 2 ∷ [])
    ∷ (event.Deliver (Number 25), body.Got 25 ∷ body.Sent 26 2 1 frame.Invoked ∷ [])
    ∷ (event.Commit (l 162), body.Committing (l 162) ∷ body.Sent 27 2 1 frame.Prepare ∷ body.Prepared 2 (u 2 1 2) role.Store ∷ [])
    ∷ (event.Deliver (Number 26), body.Void 26 ∷ [])
    ∷ (event.Deliver (Number 27), body.Got 27 ∷ body.Prepared 1 (u 2 1 2) role.Store ∷ body.Sent 28 1 2 frame.Prepared ∷ [])
    ∷ (event.Call (l 168) 1 (op.Add 2), body.Conflict (l 168) (u 2 1 2) Read 1 ∷ [])
    ∷ (event.Call (l 168) 1 (op.Set 1), body.Conflict (l 168) (u 2 1 2) Read 1 ∷ [])
    ∷ (event.Call (l 167) 1 op.Get, body.Granted 1 (u 1 1 3) (u 0 1 1) Read ∷ body.Sent 29 1 2 frame.Invoke ∷ [])
    ∷ (event.Deliver (Number 28), body.Got 28 ∷ body.Sent 30 2 1 frame.Confirm ∷ [])
    ∷ (event.BeginIn (l 169) (l 168), body.Began (l 169) kind.Nested (u 1 1 5) (Some (l 168)) ∷ [])
    ∷ (event.Deliver (Number 29), body.Got 29 ∷ body.Sent 31 2 1 frame.Invoked ∷ [])
    ∷ (event.BeginIn (l 170) (l 169), body.Began (l 170) kind.Nested (u 1 1 6) (Some (l 169)) ∷ [])
    ∷ (event.Deliver (Number 31), body.Got 31 ∷ body.Conflict (l 167) (u 2 1 2) Write 2 ∷ [])
    ∷ (event.Call (l 167) 2 op.Get, body.Granted 1 (u 1 1 3) (u 0 1 2) Read ∷ body.Sent 32 1 2 frame.Invoke ∷ [])
    ∷ (event.Deliver (Number 22), body.Void 22 ∷ []) ∷ (event.Deliver (Number 30), body.Got 30 ∷ body.Sent 33 1 2 frame.Confirmed ∷ [])
    ∷ (event.Deliver (Number 32), body.Got 32 ∷ body.Granted 2 (u 1 1 3) (u 0 0 2) Read ∷ body.Sent 34 2 1 frame.Invoked ∷ [])
    ∷ (event.Abort (l 169), body.Aborted (l 170) cause.Asked ∷ body.Aborted (l 169) cause.Asked ∷ [])
    ∷ (event.Deliver (Number 34), body.Got 34 ∷ body.Ok (l 167) 2 op.Get (codes "74db") ∷ [])
    ∷ (event.Commit (l 167), body.Committing (l 167) ∷ body.Sent 35 1 2 frame.Vote ∷ [])
    ∷ (
      event.Deliver (Number 33),
      body.Got 33 ∷ body.Committed (l 162) ∷ body.Sent 36 2 1 frame.Told ∷ body.Done 2 (u 2 1 2) role.Store Commit
          ∷ body.Told 2 (u 2 1 2) Commit part.Server ∷ [],
    ) ∷ (event.Deliver (Number 35), body.Got 35 ∷ body.Sent 37 2 1 frame.Voted ∷ [])
    ∷ (
      event.Deliver (Number 36),
      body.Got 36 ∷ body.Done 1 (u 2 1 2) role.Store Commit ∷ body.Told 1 (u 2 1 2) Commit part.Naming ∷ body.Sent 38 1 2 frame.Acked
          ∷ [],
    ) ∷ (event.Call (l 168) 1 op.Get, body.Conflict (l 168) (u 1 1 3) Read 1 ∷ [])
    ∷ (
      event.Deliver (Number 37),
      body.Got 37 ∷ body.Committed (l 167) ∷ body.Sent 39 1 2 frame.Told ∷ body.Told 1 (u 1 1 3) Commit part.Naming ∷ [],
    ) ∷ (event.Deliver (Number 38), body.Got 38 ∷ [])
    ∷ (event.Call (l 168) 2 op.Get, body.Granted 1 (u 1 1 2) (u 0 1 2) Read ∷ body.Sent 40 1 2 frame.Invoke ∷ [])
    ∷ (event.Deliver (Number 39), body.Got 39 ∷ body.Told 2 (u 1 1 3) Commit part.Server ∷ [])
    ∷ (event.Begin (l 171) 1, body.Began (l 171) kind.Top (u 1 1 7) None ∷ [])
    ∷ (event.Deliver (Number 40), body.Got 40 ∷ body.Granted 2 (u 1 1 4) (u 0 0 2) Read ∷ body.Sent 41 2 1 frame.Invoked ∷ [])
    ∷ (event.Begin (l 172) 1, body.Began (l 172) kind.Top (u 1 1 8) None ∷ [])
    ∷ (event.Call (l 172) 1 op.Get, body.Granted 1 (u 1 1 8) (u 0 1 1) Read ∷ body.Sent 42 1 2 frame.Invoke ∷ [])
    ∷ (event.Deliver (Number 41), body.Got 41 ∷ body.Ok (l 168) 2 op.Get (codes "74db") ∷ [])
    ∷ (event.Deliver (Number 40), body.Got 40 ∷ body.Sent 43 2 1 frame.Invoked ∷ []) ∷ (event.Deliver (Number 43), body.Void 43 ∷ [])
    ∷ (event.Deliver (Number 10), body.Void 10 ∷ []) ∷ (event.Commit (l 171), body.Committing (l 171) ∷ body.Committed (l 171) ∷ [])
    ∷ (event.Deliver (Number 42), body.Got 42 ∷ body.Granted 2 (u 1 1 8) (u 0 0 1) Read ∷ body.Sent 44 2 1 frame.Invoked ∷ [])
    ∷ (event.Begin (l 173) 1, body.Began (l 173) kind.Top (u 1 1 9) None ∷ []) ∷ (event.Deliver (Number 9), body.Void 9 ∷ [])
    ∷ (event.Call (l 173) 1 (op.Add 2), body.Granted 1 (u 1 1 9) (u 0 1 1) Read ∷ body.Sent 45 1 2 frame.Invoke ∷ [])
    ∷ (
      event.Settle,
      body.Got 44 ∷ body.Ok (l 172) 1 op.Get (codes "10") ∷ body.Got 45 ∷ body.Sent 46 2 1 frame.Invoked ∷ body.Got 46
          ∷ body.Conflict (l 173) (u 1 1 8) Read 2 ∷ [],
    ) ∷ (event.Call (l 168) 1 (op.Add 4), body.Conflict (l 168) (u 1 1 8) Read 1 ∷ [])
    ∷ (event.Commit (l 172), body.Committing (l 172) ∷ body.Sent 47 1 2 frame.Vote ∷ [])
    ∷ (
      event.GiveUp (l 172),
      body.GaveUp (l 172) 2 ∷ body.Aborted (l 172) (cause.Lost 2) ∷ body.Sent 48 1 2 frame.Told
          ∷ body.Told 1 (u 1 1 8) Abort part.Naming ∷ [],
    ) ∷ (event.Deliver (Number 12), body.Got 12 ∷ body.Sent 49 2 1 frame.Told ∷ [])
    ∷ (event.Call (l 168) 1 (op.Set 0), body.Conflict (l 168) (u 1 1 9) Read 1 ∷ []) ∷ (event.Lose (Number 49), body.Dropped 49 ∷ [])
    ∷ (event.Deliver (Number 47), body.Got 47 ∷ body.Sent 50 2 1 frame.Voted ∷ [])
    ∷ (event.Deliver (Number 48), body.Got 48 ∷ body.Told 2 (u 1 1 8) Abort part.Server ∷ [])
    ∷ (event.Top (l 174) (l 173), body.Began (l 174) kind.Independent (u 1 1 10) (Some (l 173)) ∷ [])
    ∷ (event.Deliver (Number 50), body.Void 50 ∷ [])
    ∷ (event.Call (l 173) 2 (op.Put []), body.Granted 1 (u 1 1 9) (u 0 1 2) Read ∷ body.Sent 51 1 2 frame.Invoke ∷ [])
    ∷ (event.Top (l 175) (l 174), body.Began (l 175) kind.Independent (u 1 1 11) (Some (l 174)) ∷ [])
    ∷ (event.Deliver (Number 51), body.Got 51 ∷ body.Sent 52 2 1 frame.Invoked ∷ [])
    ∷ (event.Deliver (Number 52), body.Got 52 ∷ body.Conflict (l 173) (u 1 1 4) Read 2 ∷ [])
    ∷ (event.Call (l 168) 1 (op.Add 0), body.Conflict (l 168) (u 1 1 9) Read 1 ∷ [])
    ∷ (event.BeginIn (l 176) (l 173), body.Began (l 176) kind.Nested (u 1 1 12) (Some (l 173)) ∷ [])
    ∷ (event.Commit (l 174), body.Committing (l 174) ∷ body.Committed (l 174) ∷ [])
    ∷ (event.Commit (l 168), body.Committed (l 168) ∷ body.Sent 53 1 2 frame.Told ∷ [])
    ∷ (event.Deliver (Number 53), body.Got 53 ∷ body.Told 2 (u 1 1 4) Commit part.Server ∷ [])
    ∷ (event.Call (l 173) 1 (op.Add 2), body.Sent 54 1 2 frame.Invoke ∷ [])
    ∷ (
      event.Settle,
      body.Got 54 ∷ body.Granted 2 (u 1 1 9) (u 0 0 1) Write ∷ body.Sent 55 2 1 frame.Invoked ∷ body.Got 55
          ∷ body.Ok (l 173) 1 (op.Add 2) (codes "done") ∷ [],
    ) ∷ (event.Call (l 176) 2 op.Get, body.Sent 56 1 2 frame.Invoke ∷ [])
    ∷ (
      event.Commit (l 166),
      body.Aborted (l 166) cause.Doomed ∷ body.Sent 57 1 2 frame.Told ∷ body.Told 1 (u 1 1 2) Abort part.Naming ∷ [],
    ) ∷ (event.Deliver (Number 56), body.Got 56 ∷ body.Granted 2 (u 1 1 12) (u 0 0 2) Read ∷ body.Sent 58 2 1 frame.Invoked ∷ [])
    ∷ (event.Deliver (Number 57), body.Got 57 ∷ body.Told 2 (u 1 1 2) Abort part.Server ∷ [])
    ∷ (event.Lose (Number 58), body.Dropped 58 ∷ []) ∷ (event.Begin (l 177) 1, body.Began (l 177) kind.Top (u 1 1 13) None ∷ [])
    ∷ (event.Call (l 177) 1 (op.Add 0), body.Granted 1 (u 1 1 13) (u 0 1 1) Read ∷ body.Sent 59 1 2 frame.Invoke ∷ [])
    ∷ (event.Deliver (Number 31), body.Void 31 ∷ [])
    ∷ (event.Call (l 175) 1 (op.Add 2), body.Granted 1 (u 1 1 11) (u 0 1 1) Read ∷ body.Sent 60 1 2 frame.Invoke ∷ [])
    ∷ (event.Lose (Number 59), body.Dropped 59 ∷ []) ∷ (event.Deliver (Number 60), body.Got 60 ∷ body.Sent 61 2 1 frame.Invoked ∷ [])
    ∷ (event.Deliver (Number 61), body.Got 61 ∷ body.Conflict (l 175) (u 1 1 9) Write 2 ∷ [])
    ∷ (event.BeginIn (l 178) (l 173), body.Began (l 178) kind.Nested (u 1 1 14) (Some (l 173)) ∷ [])
    ∷ (event.Call (l 175) 2 op.Get, body.Granted 1 (u 1 1 11) (u 0 1 2) Read ∷ body.Sent 62 1 2 frame.Invoke ∷ [])
    ∷ (event.Deliver (Number 62), body.Got 62 ∷ body.Granted 2 (u 1 1 11) (u 0 0 2) Read ∷ body.Sent 63 2 1 frame.Invoked ∷ [])
    ∷ (event.Deliver (Number 63), body.Got 63 ∷ body.Ok (l 175) 2 op.Get (codes "74db") ∷ [])
    ∷ (event.Call (l 175) 1 op.Get, body.Sent 64 1 2 frame.Invoke ∷ [])
    ∷ (event.Deliver (Number 64), body.Got 64 ∷ body.Sent 65 2 1 frame.Invoked ∷ []) ∷ (event.Commit (l 178), body.Committed (l 178) ∷ [])
    ∷ (event.Deliver (Number 65), body.Got 65 ∷ body.Conflict (l 175) (u 1 1 9) Write 2 ∷ [])
    ∷ (event.BeginIn (l 179) (l 175), body.Began (l 179) kind.Nested (u 1 1 15) (Some (l 175)) ∷ [])
    ∷ (event.Deliver (Number 36), body.Got 36 ∷ body.Sent 66 1 2 frame.Acked ∷ [])
    ∷ (event.Call (l 175) 1 (op.Add 1), body.Sent 67 1 2 frame.Invoke ∷ []) ∷ (event.Deliver (Number 66), body.Void 66 ∷ [])
    ∷ (event.Deliver (Number 67), body.Got 67 ∷ body.Sent 68 2 1 frame.Invoked ∷ [])
    ∷ (event.Deliver (Number 68), body.Got 68 ∷ body.Conflict (l 175) (u 1 1 9) Write 2 ∷ [])
    ∷ (event.Call (l 179) 2 op.Get, body.Sent 69 1 2 frame.Invoke ∷ [])
    ∷ (event.BeginIn (l 180) (l 175), body.Began (l 180) kind.Nested (u 1 1 16) (Some (l 175)) ∷ [])
    ∷ (event.BeginIn (l 181) (l 173), body.Began (l 181) kind.Nested (u 1 1 17) (Some (l 173)) ∷ [])
    ∷ (event.GiveUp (l 176), body.GaveUp (l 176) 2 ∷ body.Lost (l 176) 2 ∷ [])
    ∷ (event.Call (l 173) 1 op.Get, body.Sent 70 1 2 frame.Invoke ∷ [])
    ∷ (event.Tick 2, body.Sent 71 2 1 frame.Query ∷ body.Sent 72 2 1 frame.Query ∷ []) ∷ [])

calls_3_follows : is_followed calls_3 ≡ true
calls_3_follows = refl

calls_3_has_causes : lacking calls_3 ≡ []
calls_3_has_causes = refl

abbrev calls_4 : Run
calls_4 = run
    (nodes 5 (object_line 1 (value.Counter 7) (4 ∷ []) (1 ∷ 3 ∷ []) ∷ object_line 2 (value.Counter 8) (5 ∷ []) (4 ∷ 2 ∷ 5 ∷ []) ∷ []))
    ((event.Begin (l 161) 1, body.Began (l 161) kind.Top (u 1 1 1) None ∷ [])
    ∷ (event.Call (l 161) 2 op.Get, body.Granted 1 (u 1 1 1) (u 0 1 2) Write ∷ body.Bound 2 (b 1 1) 5 ∷ body.Sent 1 1 4 frame.Load ∷ [])
    ∷ (event.Tick 4, []) ∷ (event.GiveUp (l 161), body.GaveUp (l 161) 4 ∷ body.Sent 2 1 2 frame.Load ∷ [])
    ∷ (event.Begin (l 162) 4, body.Began (l 162) kind.Top (u 4 1 1) None ∷ [])
    ∷ (event.Deliver (Number 1), body.Got 1 ∷ body.Sent 3 4 1 frame.Loaded ∷ [])
    ∷ (event.Deliver (Number 2), body.Got 2 ∷ body.Sent 4 2 1 frame.Loaded ∷ [])
    ∷ (event.BeginIn (l 163) (l 162), body.Began (l 163) kind.Nested (u 4 1 2) (Some (l 162)) ∷ [])
    ∷ (event.Begin (l 164) 4, body.Began (l 164) kind.Top (u 4 1 3) None ∷ [])
    ∷ (event.Call (l 162) 1 op.Get, body.Sent 5 4 1 frame.Bind ∷ [])
    ∷ (event.Begin (l 165) 1, body.Began (l 165) kind.Top (u 1 1 2) None ∷ [])
    ∷ (event.GiveUp (l 162), body.GaveUp (l 162) 1 ∷ body.Lost (l 162) 1 ∷ []) ∷ (event.Deliver (Number 3), body.Void 3 ∷ [])
    ∷ (event.Deliver (Number 4), body.Got 4 ∷ body.Sent 6 1 5 frame.Activate ∷ [])
    ∷ (event.Deliver (Number 6), body.Got 6 ∷ body.Active 5 2 (b 1 1) ∷ body.Sent 7 5 1 frame.Activated ∷ [])
    ∷ (event.Deliver (Number 6), body.Got 6 ∷ body.Sent 8 5 1 frame.Activated ∷ [])
    ∷ (event.BeginIn (l 166) (l 164), body.Began (l 166) kind.Nested (u 4 1 4) (Some (l 164)) ∷ []) ∷ (event.Tick 3, [])
    ∷ (event.Deliver (Number 7), body.Got 7 ∷ body.Lowered 1 (u 1 1 1) (u 0 1 2) ∷ body.Sent 9 1 5 frame.Invoke ∷ [])
    ∷ (event.Deliver (Number 9), body.Got 9 ∷ body.Granted 5 (u 1 1 1) (u 0 0 2) Read ∷ body.Sent 10 5 1 frame.Invoked ∷ [])
    ∷ (
      event.Deliver (Number 5),
      body.Got 5 ∷ body.Granted 1 (u 4 1 1) (u 0 1 1) Write ∷ body.Bound 1 (b 1 2) 4 ∷ body.Sent 11 1 4 frame.Bound ∷ [],
    ) ∷ (event.Deliver (Number 10), body.Got 10 ∷ body.Ok (l 161) 2 op.Get (codes "8") ∷ [])
    ∷ (event.Deliver (Number 8), body.Void 8 ∷ []) ∷ (event.Deliver (Number 11), body.Void 11 ∷ []) ∷ (event.Tick 4, [])
    ∷ (event.Deliver (Number 3), body.Void 3 ∷ []) ∷ (event.Deliver (Number 9), body.Got 9 ∷ body.Sent 12 5 1 frame.Invoked ∷ [])
    ∷ (event.Deliver (Number 12), body.Void 12 ∷ []) ∷ (event.Call (l 164) 1 op.Get, body.Sent 13 4 1 frame.Bind ∷ [])
    ∷ (event.Deliver (Number 13), body.Got 13 ∷ body.Sent 14 1 4 frame.Bound ∷ [])
    ∷ (event.Call (l 165) 1 op.Get, body.Conflict (l 165) (u 4 1 1) Write 1 ∷ [])
    ∷ (event.Deliver (Number 14), body.Got 14 ∷ body.Conflict (l 164) (u 4 1 1) Write 1 ∷ [])
    ∷ (event.Deliver (Number 8), body.Void 8 ∷ [])
    ∷ (event.BeginIn (l 167) (l 166), body.Began (l 167) kind.Nested (u 4 1 5) (Some (l 166)) ∷ [])
    ∷ (event.Commit (l 161), body.Committing (l 161) ∷ body.Sent 15 1 5 frame.Vote ∷ [])
    ∷ (event.Call (l 166) 1 (op.Add 4), body.Sent 16 4 1 frame.Bind ∷ []) ∷ (event.Abort (l 163), body.Aborted (l 163) cause.Asked ∷ [])
    ∷ (event.Deliver (Number 15), body.Got 15 ∷ body.Sent 17 5 1 frame.Voted ∷ [])
    ∷ (event.Abort (l 165), body.Aborted (l 165) cause.Asked ∷ []) ∷ (event.Call (l 162) 1 op.Get, body.Sent 18 4 1 frame.Bind ∷ [])
    ∷ (event.Deliver (Number 16), body.Got 16 ∷ body.Sent 19 1 4 frame.Bound ∷ [])
    ∷ (
      event.Deliver (Number 17),
      body.Got 17 ∷ body.Committed (l 161) ∷ body.Sent 20 1 2 frame.Told ∷ body.Sent 21 1 4 frame.Told ∷ body.Sent 22 1 5 frame.Told
          ∷ body.Told 1 (u 1 1 1) Commit part.Naming ∷ [],
    ) ∷ (event.Deliver (Number 18), body.Got 18 ∷ body.Sent 23 1 4 frame.Bound ∷ [])
    ∷ (event.Deliver (Number 23), body.Got 23 ∷ body.Sent 24 4 1 frame.Load ∷ [])
    ∷ (event.Begin (l 168) 3, body.Began (l 168) kind.Top (u 3 1 1) None ∷ [])
    ∷ (event.Top (l 169) (l 164), body.Began (l 169) kind.Independent (u 4 1 6) (Some (l 164)) ∷ [])
    ∷ (event.Commit (l 169), body.Committing (l 169) ∷ body.Committed (l 169) ∷ [])
    ∷ (event.Commit (l 168), body.Committing (l 168) ∷ body.Committed (l 168) ∷ [])
    ∷ (event.Deliver (Number 19), body.Got 19 ∷ body.Conflict (l 166) (u 4 1 1) Write 1 ∷ [])
    ∷ (event.Deliver (Number 20), body.Got 20 ∷ []) ∷ (event.Deliver (Number 21), body.Got 21 ∷ [])
    ∷ (event.Deliver (Number 22), body.Got 22 ∷ body.Told 5 (u 1 1 1) Commit part.Server ∷ [])
    ∷ (event.Deliver (Number 24), body.Got 24 ∷ body.Sent 25 1 4 frame.Loaded ∷ []) ∷ (event.Deliver (Number 21), body.Got 21 ∷ [])
    ∷ (event.Begin (l 170) 2, body.Began (l 170) kind.Top (u 2 1 1) None ∷ [])
    ∷ (event.Deliver (Number 25), body.Got 25 ∷ body.Active 4 1 (b 1 2) ∷ body.Sent 26 4 1 frame.Record ∷ [])
    ∷ (event.Deliver (Number 26), body.Got 26 ∷ body.Lowered 1 (u 4 1 1) (u 0 1 1) ∷ body.Sent 27 1 4 frame.Recorded ∷ [])
    ∷ (event.BeginIn (l 171) (l 167), body.Began (l 171) kind.Nested (u 4 1 7) (Some (l 167)) ∷ [])
    ∷ (event.Call (l 167) 1 (op.Add 2), body.Sent 28 4 1 frame.Bind ∷ []) ∷ (event.Lose (Number 27), body.Dropped 27 ∷ [])
    ∷ (
      event.Settle,
      body.Got 28 ∷ body.Granted 1 (u 4 1 3) (u 0 1 1) Read ∷ body.Sent 29 1 4 frame.Bound ∷ body.Got 29
          ∷ body.Granted 4 (u 4 1 5) (u 0 0 1) Write ∷ body.Ok (l 167) 1 (op.Add 2) (codes "done") ∷ [],
    )
    ∷ (
      event.Abort (l 167),
      body.Aborted (l 171) cause.Asked ∷ body.Aborted (l 167) cause.Asked ∷ body.Told 4 (u 4 1 5) Abort part.Server ∷ [],
    ) ∷ (event.Call (l 166) 1 (op.Add 1), body.Granted 4 (u 4 1 4) (u 0 0 1) Write ∷ body.Ok (l 166) 1 (op.Add 1) (codes "done") ∷ [])
    ∷ (event.Commit (l 166), body.Committed (l 166) ∷ body.Told 4 (u 4 1 4) Commit part.Server ∷ [])
    ∷ (event.GiveUp (l 162), body.GaveUp (l 162) 1 ∷ body.Lost (l 162) 1 ∷ [])
    ∷ (event.Commit (l 164), body.Committing (l 164) ∷ body.Sent 30 4 1 frame.Prepare ∷ body.Sent 31 4 3 frame.Prepare ∷ [])
    ∷ (event.BeginIn (l 172) (l 170), body.Began (l 172) kind.Nested (u 2 1 2) (Some (l 170)) ∷ [])
    ∷ (event.Call (l 162) 2 op.Get, body.Sent 32 4 1 frame.Bind ∷ [])
    ∷ (event.Deliver (Number 31), body.Got 31 ∷ body.Prepared 3 (u 4 1 3) role.Store ∷ body.Sent 33 3 4 frame.Prepared ∷ [])
    ∷ (event.Deliver (Number 30), body.Got 30 ∷ body.Prepared 1 (u 4 1 3) role.Store ∷ body.Sent 34 1 4 frame.Prepared ∷ [])
    ∷ (event.Deliver (Number 32), body.Got 32 ∷ body.Granted 1 (u 4 1 1) (u 0 1 2) Read ∷ body.Sent 35 1 4 frame.Bound ∷ [])
    ∷ (event.Deliver (Number 33), body.Got 33 ∷ [])
    ∷ (event.Abort (l 170), body.Aborted (l 172) cause.Asked ∷ body.Aborted (l 170) cause.Asked ∷ [])
    ∷ (event.Deliver (Number 34), body.Got 34 ∷ body.Sent 36 4 1 frame.Confirm ∷ [])
    ∷ (event.Deliver (Number 36), body.Got 36 ∷ body.Sent 37 1 4 frame.Confirmed ∷ [])
    ∷ (event.Deliver (Number 32), body.Got 32 ∷ body.Sent 38 1 4 frame.Bound ∷ [])
    ∷ (event.Deliver (Number 35), body.Got 35 ∷ body.Sent 39 4 5 frame.Invoke ∷ [])
    ∷ (
      event.Deliver (Number 37),
      body.Got 37 ∷ body.Committed (l 164) ∷ body.Sent 40 4 1 frame.Told ∷ body.Sent 41 4 3 frame.Told
          ∷ body.Told 4 (u 4 1 3) Commit part.Server ∷ [],
    ) ∷ (event.Deliver (Number 38), body.Void 38 ∷ [])
    ∷ (event.Deliver (Number 39), body.Got 39 ∷ body.Granted 5 (u 4 1 1) (u 0 0 2) Read ∷ body.Sent 42 5 4 frame.Invoked ∷ [])
    ∷ (event.Tick 1, body.Sent 43 1 4 frame.Query ∷ body.Sent 44 1 4 frame.Query ∷ [])
    ∷ (
      event.Deliver (Number 40),
      body.Got 40 ∷ body.Done 1 (u 4 1 3) role.Store Commit ∷ body.Told 1 (u 4 1 3) Commit part.Naming ∷ body.Sent 45 1 4 frame.Acked
          ∷ [],
    ) ∷ (event.Deliver (Number 41), body.Got 41 ∷ body.Done 3 (u 4 1 3) role.Store Commit ∷ body.Sent 46 3 4 frame.Acked ∷ [])
    ∷ (event.Deliver (Number 42), body.Got 42 ∷ body.Ok (l 162) 2 op.Get (codes "8") ∷ []) ∷ (event.Deliver (Number 43), body.Got 43 ∷ [])
    ∷ (event.Call (l 162) 1 (op.Set 3), body.Sent 47 4 1 frame.Bind ∷ []) ∷ (event.Deliver (Number 46), body.Got 46 ∷ [])
    ∷ (event.Deliver (Number 44), body.Got 44 ∷ body.Sent 48 4 1 frame.Told ∷ []) ∷ (event.Deliver (Number 45), body.Got 45 ∷ [])
    ∷ (
      event.Deliver (Number 47),
      body.Got 47 ∷ body.Granted 1 (u 4 1 1) (u 0 1 1) Write ∷ body.Bound 1 (b 1 3) 4 ∷ body.Sent 49 1 4 frame.Bound ∷ [],
    ) ∷ (event.Deliver (Number 48), body.Got 48 ∷ body.Sent 50 1 4 frame.Acked ∷ [])
    ∷ (event.Begin (l 173) 2, body.Began (l 173) kind.Top (u 2 1 3) None ∷ [])
    ∷ (event.Deliver (Number 49), body.Got 49 ∷ body.Sent 51 4 1 frame.Load ∷ [])
    ∷ (event.GiveUp (l 162), body.GaveUp (l 162) 1 ∷ body.Sent 52 4 3 frame.Load ∷ [])
    ∷ (event.BeginIn (l 174) (l 173), body.Began (l 174) kind.Nested (u 2 1 4) (Some (l 173)) ∷ [])
    ∷ (event.Deliver (Number 52), body.Got 52 ∷ body.Sent 53 3 4 frame.Loaded ∷ []) ∷ (event.Deliver (Number 50), body.Void 50 ∷ [])
    ∷ (event.Call (l 173) 2 (op.Add 1), body.Sent 54 2 1 frame.Bind ∷ [])
    ∷ (event.Deliver (Number 51), body.Got 51 ∷ body.Sent 55 1 4 frame.Loaded ∷ [])
    ∷ (event.Deliver (Number 53), body.Got 53 ∷ body.Active 4 1 (b 1 3) ∷ body.Sent 56 4 1 frame.Record ∷ [])
    ∷ (event.Deliver (Number 54), body.Got 54 ∷ body.Granted 1 (u 2 1 3) (u 0 1 2) Read ∷ body.Sent 57 1 2 frame.Bound ∷ [])
    ∷ (event.Deliver (Number 56), body.Got 56 ∷ body.Lowered 1 (u 4 1 1) (u 0 1 1) ∷ body.Sent 58 1 4 frame.Recorded ∷ [])
    ∷ (event.Deliver (Number 57), body.Got 57 ∷ body.Sent 59 2 5 frame.Invoke ∷ []) ∷ (event.Deliver (Number 55), body.Void 55 ∷ [])
    ∷ (
      event.Deliver (Number 58),
      body.Got 58 ∷ body.Granted 4 (u 4 1 1) (u 0 0 1) Write ∷ body.Ok (l 162) 1 (op.Set 3) (codes "done") ∷ [],
    ) ∷ (event.Deliver (Number 59), body.Got 59 ∷ body.Sent 60 5 2 frame.Invoked ∷ [])
    ∷ (event.Begin (l 175) 4, body.Began (l 175) kind.Top (u 4 1 8) None ∷ [])
    ∷ (event.Call (l 162) 1 (op.Add 3), body.Ok (l 162) 1 (op.Add 3) (codes "done") ∷ [])
    ∷ (event.Deliver (Number 60), body.Got 60 ∷ body.Conflict (l 173) (u 4 1 1) Read 5 ∷ [])
    ∷ (event.Commit (l 174), body.Committed (l 174) ∷ []) ∷ (event.Tick 3, [])
    ∷ (event.Commit (l 175), body.Committing (l 175) ∷ body.Committed (l 175) ∷ []) ∷ (event.Deliver (Number 43), body.Got 43 ∷ [])
    ∷ (event.Call (l 162) 1 op.Get, body.Ok (l 162) 1 op.Get (codes "6") ∷ [])
    ∷ (event.Call (l 162) 1 (op.Add 1), body.Ok (l 162) 1 (op.Add 1) (codes "done") ∷ [])
    ∷ (event.BeginIn (l 176) (l 173), body.Began (l 176) kind.Nested (u 2 1 5) (Some (l 173)) ∷ [])
    ∷ (event.Commit (l 162), body.Committing (l 162) ∷ body.Sent 61 4 5 frame.Vote ∷ [])
    ∷ (event.Call (l 173) 1 (op.Add 2), body.Sent 62 2 1 frame.Bind ∷ []) ∷ (event.Lose (Number 61), body.Dropped 61 ∷ [])
    ∷ (event.Deliver (Number 26), body.Void 26 ∷ []) ∷ (event.Begin (l 177) 5, body.Began (l 177) kind.Top (u 5 1 1) None ∷ [])
    ∷ (event.Call (l 177) 1 (op.Set 4), body.Sent 63 5 1 frame.Bind ∷ [])
    ∷ (event.Deliver (Number 62), body.Got 62 ∷ body.Granted 1 (u 2 1 3) (u 0 1 1) Read ∷ body.Sent 64 1 2 frame.Bound ∷ [])
    ∷ (event.Deliver (Number 63), body.Got 63 ∷ body.Granted 1 (u 5 1 1) (u 0 1 1) Read ∷ body.Sent 65 1 5 frame.Bound ∷ [])
    ∷ (event.Begin (l 178) 2, body.Began (l 178) kind.Top (u 2 1 6) None ∷ [])
    ∷ (event.Deliver (Number 64), body.Got 64 ∷ body.Sent 66 2 4 frame.Invoke ∷ [])
    ∷ (event.Deliver (Number 65), body.Got 65 ∷ body.Sent 67 5 4 frame.Invoke ∷ [])
    ∷ (event.Deliver (Number 66), body.Got 66 ∷ body.Sent 68 4 2 frame.Invoked ∷ [])
    ∷ (event.Deliver (Number 67), body.Got 67 ∷ body.Sent 69 4 5 frame.Invoked ∷ [])
    ∷ (event.Deliver (Number 68), body.Got 68 ∷ body.Conflict (l 173) (u 4 1 1) Write 4 ∷ [])
    ∷ (event.Lose (Number 69), body.Dropped 69 ∷ []) ∷ (event.Call (l 178) 1 (op.Set 4), body.Sent 70 2 1 frame.Bind ∷ [])
    ∷ (event.Lose (Number 70), body.Dropped 70 ∷ []) ∷ (event.Commit (l 176), body.Committed (l 176) ∷ [])
    ∷ (event.Call (l 173) 1 op.Get, body.Sent 71 2 4 frame.Invoke ∷ [])
    ∷ (event.Deliver (Number 71), body.Got 71 ∷ body.Sent 72 4 2 frame.Invoked ∷ [])
    ∷ (event.Deliver (Number 72), body.Got 72 ∷ body.Conflict (l 173) (u 4 1 1) Write 4 ∷ [])
    ∷ (event.Call (l 173) 1 (op.Add 1), body.Sent 73 2 4 frame.Invoke ∷ [])
    ∷ (event.Deliver (Number 73), body.Got 73 ∷ body.Sent 74 4 2 frame.Invoked ∷ [])
    ∷ (event.Deliver (Number 74), body.Got 74 ∷ body.Conflict (l 173) (u 4 1 1) Write 4 ∷ [])
    ∷ (event.Deliver (Number 49), body.Void 49 ∷ []) ∷ (event.Call (l 173) 1 op.Get, body.Sent 75 2 4 frame.Invoke ∷ [])
    ∷ (event.Deliver (Number 75), body.Got 75 ∷ body.Sent 76 4 2 frame.Invoked ∷ [])
    ∷ (event.GiveUp (l 177), body.GaveUp (l 177) 4 ∷ body.Lost (l 177) 4 ∷ [])
    ∷ (event.Settle, body.Got 76 ∷ body.Conflict (l 173) (u 4 1 1) Write 4 ∷ [])
    ∷ (event.Call (l 173) 1 (op.Add 0), body.Sent 77 2 4 frame.Invoke ∷ [])
    ∷ (event.GiveUp (l 178), body.GaveUp (l 178) 1 ∷ body.Lost (l 178) 1 ∷ []) ∷ (event.Deliver (Number 9), body.Void 9 ∷ [])
    ∷ (event.Deliver (Number 77), body.Got 77 ∷ body.Sent 78 4 2 frame.Invoked ∷ [])
    ∷ (event.Deliver (Number 78), body.Got 78 ∷ body.Conflict (l 173) (u 4 1 1) Write 4 ∷ []) ∷ [])

calls_4_follows : is_followed calls_4 ≡ true
calls_4_follows = refl

calls_4_has_causes : lacking calls_4 ≡ []
calls_4_has_causes = refl
