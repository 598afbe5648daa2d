-- On one node: runs of 150 events that were chosen at random. Each journal follows its events, and each line has its cause.
use Rattle.std.specs.Prelude.{◌≡◌, refl, [], ◌∷◌, codes, true, Some, None}
use Rattle.arj_base.specs.declared.mode.Mode.TheVariants.{Read, Write}
use Rattle.arj_base.specs.declared.mode.End.TheVariants.{Abort, Commit}
use Rattle.arj_class.specs.declared.op.Op.TheVariants as op
use Rattle.arj_class.specs.declared.value.Value.TheVariants as value
use Rattle.arj_journal.specs.declared.body.Body.TheVariants as body
use Rattle.arj_journal.specs.declared.body.Cause.TheVariants as cause
use Rattle.arj_journal.specs.declared.body.Kind.TheVariants as kind
use Rattle.arj_journal.specs.declared.body.Part.TheVariants as part
use Rattle.arj_journal.specs.declared.body.Role.TheVariants as role
use Rattle.arj_journal.specs.declared.event.Event.TheVariants as event
use Rattle.arj_cause_tests.proofs.Words.{Run, b, is_followed, l, lacking, nodes, object_line, run, u}

abbrev local_more_1 : Run
local_more_1 = run
    (nodes 1 (object_line 1 (value.Queue []) (1 ∷ []) (1 ∷ []) ∷ []))
    ((event.Show 1, body.Entry 1 0 (1 ∷ []) (1 ∷ []) ∷ body.Copy 1 1 0 (u 0 0 0) [] ∷ [])
    ∷ (event.Begin (l 161) 1, body.Began (l 161) kind.Top (u 1 1 1) None ∷ [])
    ∷ (
      event.Call (l 161) 1 op.Len,
      body.Granted 1 (u 1 1 1) (u 0 1 1) Write ∷ body.Bound 1 (b 1 1) 1 ∷ body.Active 1 1 (b 1 1) ∷ body.Lowered 1 (u 1 1 1) (u 0 1 1)
          ∷ body.Granted 1 (u 1 1 1) (u 0 0 1) Read ∷ body.Ok (l 161) 1 op.Len (codes "0") ∷ [],
    )
    ∷ (
      event.Commit (l 161),
      body.Committing (l 161) ∷ body.Committed (l 161) ∷ body.Told 1 (u 1 1 1) Commit part.Naming
          ∷ body.Told 1 (u 1 1 1) Commit part.Server ∷ [],
    ) ∷ (event.Show 1, body.Entry 1 0 (1 ∷ []) (1 ∷ []) ∷ body.Copy 1 1 0 (u 0 0 0) [] ∷ [])
    ∷ (event.Serial (l 162) 1, body.Began (l 162) kind.Serial (u 1 1 2) None ∷ [])
    ∷ (event.Begin (l 163) 1, body.Began (l 163) kind.Top (u 1 1 3) None ∷ [])
    ∷ (
      event.Call (l 163) 1 (op.Push 4),
      body.Granted 1 (u 1 1 3) (u 0 1 1) Read ∷ body.Granted 1 (u 1 1 3) (u 0 0 1) Write ∷ body.Ok (l 163) 1 (op.Push 4) (codes "done")
          ∷ [],
    ) ∷ (event.Call (l 163) 1 op.Len, body.Ok (l 163) 1 op.Len (codes "1") ∷ [])
    ∷ (
      event.Commit (l 163),
      body.Committing (l 163) ∷ body.Prepared 1 (u 1 1 3) role.Store ∷ body.Committed (l 163) ∷ body.Done 1 (u 1 1 3) role.Store Commit
          ∷ body.Told 1 (u 1 1 3) Commit part.Naming ∷ body.Told 1 (u 1 1 3) Commit part.Server ∷ [],
    ) ∷ (event.BeginIn (l 164) (l 162), body.Began (l 164) kind.Constituent (u 1 1 4) (Some (l 162)) ∷ [])
    ∷ (
      event.Call (l 164) 1 (op.Push 0),
      body.Granted 1 (u 1 1 4) (u 0 1 1) Read ∷ body.Granted 1 (u 1 1 4) (u 0 0 1) Write ∷ body.Ok (l 164) 1 (op.Push 0) (codes "done")
          ∷ [],
    ) ∷ (event.Call (l 164) 1 (op.Push 1), body.Ok (l 164) 1 (op.Push 1) (codes "done") ∷ [])
    ∷ (event.BeginIn (l 165) (l 162), body.Began (l 165) kind.Constituent (u 1 1 5) (Some (l 162)) ∷ [])
    ∷ (event.Call (l 165) 1 (op.Push 0), body.Granted 1 (u 1 1 5) (u 0 1 1) Read ∷ body.Conflict (l 165) (u 1 1 4) Write 1 ∷ [])
    ∷ (event.Call (l 165) 1 (op.Push 4), body.Conflict (l 165) (u 1 1 4) Write 1 ∷ [])
    ∷ (event.Call (l 165) 1 (op.Push 2), body.Conflict (l 165) (u 1 1 4) Write 1 ∷ [])
    ∷ (event.Call (l 165) 1 op.Pop, body.Conflict (l 165) (u 1 1 4) Write 1 ∷ [])
    ∷ (event.Call (l 164) 1 op.Len, body.Ok (l 164) 1 op.Len (codes "3") ∷ [])
    ∷ (event.BeginIn (l 166) (l 162), body.Began (l 166) kind.Constituent (u 1 1 6) (Some (l 162)) ∷ [])
    ∷ (event.Call (l 165) 1 (op.Push 3), body.Conflict (l 165) (u 1 1 4) Write 1 ∷ [])
    ∷ (
      event.Abort (l 164),
      body.Aborted (l 164) cause.Asked ∷ body.Told 1 (u 1 1 4) Abort part.Naming ∷ body.Told 1 (u 1 1 4) Abort part.Server ∷ [],
    ) ∷ (event.BeginIn (l 167) (l 162), body.Began (l 167) kind.Constituent (u 1 1 7) (Some (l 162)) ∷ [])
    ∷ (event.BeginIn (l 168) (l 165), body.Began (l 168) kind.Nested (u 1 1 8) (Some (l 165)) ∷ [])
    ∷ (
      event.Call (l 166) 1 (op.Push 4),
      body.Granted 1 (u 1 1 6) (u 0 1 1) Read ∷ body.Granted 1 (u 1 1 6) (u 0 0 1) Write ∷ body.Ok (l 166) 1 (op.Push 4) (codes "done")
          ∷ [],
    ) ∷ (event.BeginIn (l 169) (l 162), body.Began (l 169) kind.Constituent (u 1 1 9) (Some (l 162)) ∷ [])
    ∷ (
      event.Commit (l 166),
      body.Committing (l 166) ∷ body.Prepared 1 (u 1 1 6) role.Store ∷ body.Committed (l 166) ∷ body.Done 1 (u 1 1 6) role.Store Commit
          ∷ body.Told 1 (u 1 1 6) Commit part.Naming ∷ body.Told 1 (u 1 1 6) Commit part.Server ∷ [],
    ) ∷ (event.Call (l 165) 1 (op.Push 3), body.Granted 1 (u 1 1 5) (u 0 0 1) Write ∷ body.Ok (l 165) 1 (op.Push 3) (codes "done") ∷ [])
    ∷ (event.Commit (l 168), body.Committed (l 168) ∷ []) ∷ (event.Begin (l 170) 1, body.Began (l 170) kind.Top (u 1 1 10) None ∷ [])
    ∷ (event.Call (l 165) 1 (op.Push 18446744073709551615), body.Ok (l 165) 1 (op.Push 18446744073709551615) (codes "done") ∷ [])
    ∷ (event.Call (l 165) 1 op.Pop, body.Ok (l 165) 1 op.Pop (codes "4") ∷ [])
    ∷ (event.Call (l 169) 1 (op.Push 1), body.Conflict (l 169) (u 1 1 5) Write 1 ∷ [])
    ∷ (event.Call (l 165) 1 op.Pop, body.Ok (l 165) 1 op.Pop (codes "4") ∷ [])
    ∷ (event.Serial (l 171) 1, body.Began (l 171) kind.Serial (u 1 1 11) None ∷ [])
    ∷ (event.Call (l 167) 1 op.Len, body.Conflict (l 167) (u 1 1 5) Write 1 ∷ [])
    ∷ (
      event.Commit (l 165),
      body.Committing (l 165) ∷ body.Prepared 1 (u 1 1 5) role.Store ∷ body.Committed (l 165) ∷ body.Done 1 (u 1 1 5) role.Store Commit
          ∷ body.Told 1 (u 1 1 5) Commit part.Naming ∷ body.Told 1 (u 1 1 5) Commit part.Server ∷ [],
    ) ∷ (event.Begin (l 172) 1, body.Began (l 172) kind.Top (u 1 1 12) None ∷ [])
    ∷ (event.Call (l 169) 1 op.Pop, body.Granted 1 (u 1 1 9) (u 0 0 1) Write ∷ body.Ok (l 169) 1 op.Pop (codes "3") ∷ [])
    ∷ (event.Call (l 172) 1 op.Len, body.Granted 1 (u 1 1 12) (u 0 1 1) Read ∷ body.Conflict (l 172) (u 1 1 2) Write 1 ∷ [])
    ∷ (event.Call (l 170) 1 op.Pop, body.Granted 1 (u 1 1 10) (u 0 1 1) Read ∷ body.Conflict (l 170) (u 1 1 2) Write 1 ∷ [])
    ∷ (event.Call (l 167) 1 (op.Push 1), body.Conflict (l 167) (u 1 1 9) Write 1 ∷ [])
    ∷ (event.BeginIn (l 173) (l 169), body.Began (l 173) kind.Nested (u 1 1 13) (Some (l 169)) ∷ [])
    ∷ (event.Call (l 167) 1 op.Pop, body.Conflict (l 167) (u 1 1 9) Write 1 ∷ [])
    ∷ (event.Call (l 170) 1 op.Pop, body.Conflict (l 170) (u 1 1 2) Write 1 ∷ [])
    ∷ (event.Abort (l 171), body.Aborted (l 171) cause.Asked ∷ [])
    ∷ (event.BeginIn (l 174) (l 169), body.Began (l 174) kind.Nested (u 1 1 14) (Some (l 169)) ∷ [])
    ∷ (event.Commit (l 173), body.Committed (l 173) ∷ []) ∷ (event.Call (l 172) 1 op.Pop, body.Conflict (l 172) (u 1 1 2) Write 1 ∷ [])
    ∷ (event.BeginIn (l 175) (l 172), body.Began (l 175) kind.Nested (u 1 1 15) (Some (l 172)) ∷ [])
    ∷ (event.Call (l 170) 1 op.Len, body.Conflict (l 170) (u 1 1 2) Write 1 ∷ [])
    ∷ (event.BeginIn (l 176) (l 162), body.Began (l 176) kind.Constituent (u 1 1 16) (Some (l 162)) ∷ [])
    ∷ (
      event.Abort (l 172),
      body.Aborted (l 175) cause.Asked ∷ body.Aborted (l 172) cause.Asked ∷ body.Told 1 (u 1 1 12) Abort part.Naming ∷ [],
    )
    ∷ (
      event.Show 1,
      body.Entry 1 0 (1 ∷ []) (1 ∷ []) ∷ body.Copy 1 1 3 (u 1 1 5) (0 ∷ 0 ∷ 0 ∷ 0 ∷ 0 ∷ 0 ∷ 0 ∷ 3 ∷ 255 ∷ 255 ∷ 255 ∷ 255 ∷ 255 ∷ 255
          ∷ 255 ∷ 255 ∷ []) ∷ [],
    ) ∷ (event.Call (l 170) 1 (op.Push 0), body.Conflict (l 170) (u 1 1 2) Write 1 ∷ [])
    ∷ (event.Begin (l 177) 1, body.Began (l 177) kind.Top (u 1 1 17) None ∷ [])
    ∷ (
      event.Show 1,
      body.Entry 1 0 (1 ∷ []) (1 ∷ []) ∷ body.Copy 1 1 3 (u 1 1 5) (0 ∷ 0 ∷ 0 ∷ 0 ∷ 0 ∷ 0 ∷ 0 ∷ 3 ∷ 255 ∷ 255 ∷ 255 ∷ 255 ∷ 255 ∷ 255
          ∷ 255 ∷ 255 ∷ []) ∷ [],
    ) ∷ (event.Call (l 177) 1 op.Pop, body.Granted 1 (u 1 1 17) (u 0 1 1) Read ∷ body.Conflict (l 177) (u 1 1 2) Write 1 ∷ [])
    ∷ (event.Serial (l 178) 1, body.Began (l 178) kind.Serial (u 1 1 18) None ∷ [])
    ∷ (event.BeginIn (l 179) (l 178), body.Began (l 179) kind.Constituent (u 1 1 19) (Some (l 178)) ∷ [])
    ∷ (event.Call (l 170) 1 (op.Push 0), body.Conflict (l 170) (u 1 1 2) Write 1 ∷ [])
    ∷ (event.Call (l 177) 1 (op.Push 3), body.Conflict (l 177) (u 1 1 2) Write 1 ∷ [])
    ∷ (event.Call (l 174) 1 (op.Push 3), body.Granted 1 (u 1 1 14) (u 0 0 1) Write ∷ body.Ok (l 174) 1 (op.Push 3) (codes "done") ∷ [])
    ∷ (event.Commit (l 170), body.Committing (l 170) ∷ body.Committed (l 170) ∷ body.Told 1 (u 1 1 10) Abort part.Naming ∷ [])
    ∷ (event.Commit (l 176), body.Committing (l 176) ∷ body.Committed (l 176) ∷ [])
    ∷ (event.Commit (l 174), body.Committed (l 174) ∷ body.Told 1 (u 1 1 14) Commit part.Server ∷ [])
    ∷ (event.Abort (l 169), body.Aborted (l 169) cause.Asked ∷ body.Told 1 (u 1 1 9) Abort part.Server ∷ [])
    ∷ (event.Begin (l 180) 1, body.Began (l 180) kind.Top (u 1 1 20) None ∷ [])
    ∷ (event.Call (l 177) 1 op.Len, body.Conflict (l 177) (u 1 1 2) Write 1 ∷ [])
    ∷ (event.Commit (l 177), body.Committing (l 177) ∷ body.Committed (l 177) ∷ body.Told 1 (u 1 1 17) Abort part.Naming ∷ [])
    ∷ (event.Call (l 167) 1 op.Pop, body.Granted 1 (u 1 1 7) (u 0 0 1) Write ∷ body.Ok (l 167) 1 op.Pop (codes "3") ∷ [])
    ∷ (event.Call (l 180) 1 (op.Push 1), body.Granted 1 (u 1 1 20) (u 0 1 1) Read ∷ body.Conflict (l 180) (u 1 1 2) Write 1 ∷ [])
    ∷ (event.Call (l 179) 1 op.Len, body.Granted 1 (u 1 1 19) (u 0 1 1) Read ∷ body.Conflict (l 179) (u 1 1 2) Write 1 ∷ [])
    ∷ (event.Call (l 180) 1 op.Len, body.Conflict (l 180) (u 1 1 2) Write 1 ∷ [])
    ∷ (event.Call (l 180) 1 op.Len, body.Conflict (l 180) (u 1 1 2) Write 1 ∷ [])
    ∷ (event.Top (l 181) (l 179), body.Began (l 181) kind.Independent (u 1 1 21) (Some (l 179)) ∷ [])
    ∷ (
      event.Commit (l 167),
      body.Committing (l 167) ∷ body.Prepared 1 (u 1 1 7) role.Store ∷ body.Committed (l 167) ∷ body.Done 1 (u 1 1 7) role.Store Commit
          ∷ body.Told 1 (u 1 1 7) Commit part.Server ∷ [],
    ) ∷ (event.Call (l 180) 1 op.Len, body.Conflict (l 180) (u 1 1 2) Write 1 ∷ [])
    ∷ (event.Abort (l 181), body.Aborted (l 181) cause.Asked ∷ [])
    ∷ (event.Call (l 180) 1 (op.Push 1), body.Conflict (l 180) (u 1 1 2) Write 1 ∷ [])
    ∷ (event.Call (l 179) 1 op.Pop, body.Conflict (l 179) (u 1 1 2) Write 1 ∷ [])
    ∷ (event.Call (l 180) 1 (op.Push 0), body.Conflict (l 180) (u 1 1 2) Write 1 ∷ [])
    ∷ (
      event.Abort (l 178),
      body.Aborted (l 179) cause.Asked ∷ body.Aborted (l 178) cause.Asked ∷ body.Told 1 (u 1 1 19) Abort part.Naming ∷ [],
    ) ∷ (event.Call (l 180) 1 (op.Push 4), body.Conflict (l 180) (u 1 1 2) Write 1 ∷ [])
    ∷ (event.Begin (l 182) 1, body.Began (l 182) kind.Top (u 1 1 22) None ∷ [])
    ∷ (event.Call (l 182) 1 op.Len, body.Granted 1 (u 1 1 22) (u 0 1 1) Read ∷ body.Conflict (l 182) (u 1 1 2) Write 1 ∷ [])
    ∷ (event.BeginIn (l 183) (l 182), body.Began (l 183) kind.Nested (u 1 1 23) (Some (l 182)) ∷ [])
    ∷ (event.Call (l 182) 1 (op.Push 4), body.Conflict (l 182) (u 1 1 2) Write 1 ∷ [])
    ∷ (event.Call (l 180) 1 op.Len, body.Conflict (l 180) (u 1 1 2) Write 1 ∷ [])
    ∷ (event.Call (l 183) 1 (op.Push 18446744073709551615), body.Conflict (l 183) (u 1 1 2) Write 1 ∷ [])
    ∷ (event.BeginIn (l 184) (l 162), body.Began (l 184) kind.Constituent (u 1 1 24) (Some (l 162)) ∷ [])
    ∷ (event.Call (l 180) 1 (op.Push 4), body.Conflict (l 180) (u 1 1 2) Write 1 ∷ [])
    ∷ (event.Begin (l 185) 1, body.Began (l 185) kind.Top (u 1 1 25) None ∷ [])
    ∷ (event.Call (l 185) 1 (op.Push 0), body.Granted 1 (u 1 1 25) (u 0 1 1) Read ∷ body.Conflict (l 185) (u 1 1 2) Write 1 ∷ [])
    ∷ (event.Call (l 180) 1 op.Len, body.Conflict (l 180) (u 1 1 2) Write 1 ∷ [])
    ∷ (event.Call (l 183) 1 (op.Push 2), body.Conflict (l 183) (u 1 1 2) Write 1 ∷ [])
    ∷ (event.Commit (l 180), body.Committing (l 180) ∷ body.Committed (l 180) ∷ body.Told 1 (u 1 1 20) Abort part.Naming ∷ [])
    ∷ (event.Call (l 185) 1 (op.Push 3), body.Conflict (l 185) (u 1 1 2) Write 1 ∷ [])
    ∷ (event.Commit (l 184), body.Committing (l 184) ∷ body.Committed (l 184) ∷ [])
    ∷ (event.Begin (l 186) 1, body.Began (l 186) kind.Top (u 1 1 26) None ∷ [])
    ∷ (
      event.Show 1,
      body.Entry 1 0 (1 ∷ []) (1 ∷ []) ∷ body.Copy 1 1 4 (u 1 1 7) (255 ∷ 255 ∷ 255 ∷ 255 ∷ 255 ∷ 255 ∷ 255 ∷ 255 ∷ []) ∷ [],
    ) ∷ (event.Call (l 182) 1 op.Len, body.Conflict (l 182) (u 1 1 2) Write 1 ∷ [])
    ∷ (event.BeginIn (l 187) (l 182), body.Began (l 187) kind.Nested (u 1 1 27) (Some (l 182)) ∷ [])
    ∷ (event.Top (l 188) (l 183), body.Began (l 188) kind.Independent (u 1 1 28) (Some (l 183)) ∷ [])
    ∷ (event.Call (l 187) 1 op.Pop, body.Conflict (l 187) (u 1 1 2) Write 1 ∷ [])
    ∷ (event.BeginIn (l 189) (l 186), body.Began (l 189) kind.Nested (u 1 1 29) (Some (l 186)) ∷ [])
    ∷ (event.Commit (l 187), body.Committed (l 187) ∷ [])
    ∷ (
      event.Show 1,
      body.Entry 1 0 (1 ∷ []) (1 ∷ []) ∷ body.Copy 1 1 4 (u 1 1 7) (255 ∷ 255 ∷ 255 ∷ 255 ∷ 255 ∷ 255 ∷ 255 ∷ 255 ∷ []) ∷ [],
    )
    ∷ (
      event.Abort (l 162),
      body.Aborted (l 162) cause.Asked ∷ body.Told 1 (u 1 1 2) Abort part.Naming ∷ body.Told 1 (u 1 1 2) Abort part.Server ∷ [],
    ) ∷ (event.Call (l 185) 1 op.Len, body.Granted 1 (u 1 1 25) (u 0 0 1) Read ∷ body.Ok (l 185) 1 op.Len (codes "1") ∷ [])
    ∷ (event.Call (l 183) 1 op.Len, body.Granted 1 (u 1 1 23) (u 0 0 1) Read ∷ body.Ok (l 183) 1 op.Len (codes "1") ∷ [])
    ∷ (
      event.Abort (l 185),
      body.Aborted (l 185) cause.Asked ∷ body.Told 1 (u 1 1 25) Abort part.Naming ∷ body.Told 1 (u 1 1 25) Abort part.Server ∷ [],
    ) ∷ (event.Call (l 188) 1 (op.Push 4), body.Granted 1 (u 1 1 28) (u 0 1 1) Read ∷ body.Conflict (l 188) (u 1 1 23) Read 1 ∷ [])
    ∷ (event.Call (l 189) 1 (op.Push 3), body.Granted 1 (u 1 1 26) (u 0 1 1) Read ∷ body.Conflict (l 189) (u 1 1 23) Read 1 ∷ [])
    ∷ (event.Call (l 188) 1 (op.Push 2), body.Conflict (l 188) (u 1 1 23) Read 1 ∷ [])
    ∷ (event.Commit (l 183), body.Committed (l 183) ∷ body.Told 1 (u 1 1 23) Commit part.Server ∷ [])
    ∷ (event.Call (l 182) 1 (op.Push 1), body.Granted 1 (u 1 1 22) (u 0 0 1) Write ∷ body.Ok (l 182) 1 (op.Push 1) (codes "done") ∷ [])
    ∷ (
      event.Commit (l 182),
      body.Committing (l 182) ∷ body.Prepared 1 (u 1 1 22) role.Store ∷ body.Committed (l 182)
          ∷ body.Done 1 (u 1 1 22) role.Store Commit ∷ body.Told 1 (u 1 1 22) Commit part.Naming
          ∷ body.Told 1 (u 1 1 22) Commit part.Server ∷ [],
    ) ∷ (event.Begin (l 190) 1, body.Began (l 190) kind.Top (u 1 1 30) None ∷ [])
    ∷ (event.Call (l 189) 1 (op.Push 0), body.Granted 1 (u 1 1 29) (u 0 0 1) Write ∷ body.Ok (l 189) 1 (op.Push 0) (codes "done") ∷ [])
    ∷ (event.Call (l 190) 1 (op.Push 1), body.Granted 1 (u 1 1 30) (u 0 1 1) Read ∷ body.Conflict (l 190) (u 1 1 29) Write 1 ∷ [])
    ∷ (event.Call (l 186) 1 (op.Push 0), body.Conflict (l 186) (u 1 1 29) Write 1 ∷ [])
    ∷ (event.Begin (l 191) 1, body.Began (l 191) kind.Top (u 1 1 31) None ∷ [])
    ∷ (event.Call (l 191) 1 op.Len, body.Granted 1 (u 1 1 31) (u 0 1 1) Read ∷ body.Conflict (l 191) (u 1 1 29) Write 1 ∷ [])
    ∷ (event.Call (l 188) 1 (op.Push 2), body.Conflict (l 188) (u 1 1 29) Write 1 ∷ [])
    ∷ (event.Commit (l 189), body.Committed (l 189) ∷ body.Told 1 (u 1 1 29) Commit part.Server ∷ [])
    ∷ (
      event.Commit (l 186),
      body.Committing (l 186) ∷ body.Prepared 1 (u 1 1 26) role.Store ∷ body.Committed (l 186)
          ∷ body.Done 1 (u 1 1 26) role.Store Commit ∷ body.Told 1 (u 1 1 26) Commit part.Naming
          ∷ body.Told 1 (u 1 1 26) Commit part.Server ∷ [],
    ) ∷ (event.Call (l 191) 1 op.Len, body.Granted 1 (u 1 1 31) (u 0 0 1) Read ∷ body.Ok (l 191) 1 op.Len (codes "3") ∷ [])
    ∷ (
      event.Commit (l 191),
      body.Committing (l 191) ∷ body.Committed (l 191) ∷ body.Told 1 (u 1 1 31) Commit part.Naming
          ∷ body.Told 1 (u 1 1 31) Commit part.Server ∷ [],
    )
    ∷ (
      event.Call (l 190) 1 op.Pop,
      body.Granted 1 (u 1 1 30) (u 0 0 1) Write ∷ body.Ok (l 190) 1 op.Pop (codes "18446744073709551615") ∷ [],
    ) ∷ (event.Commit (l 188), body.Committing (l 188) ∷ body.Committed (l 188) ∷ body.Told 1 (u 1 1 28) Abort part.Naming ∷ [])
    ∷ (
      event.Commit (l 190),
      body.Committing (l 190) ∷ body.Prepared 1 (u 1 1 30) role.Store ∷ body.Committed (l 190)
          ∷ body.Done 1 (u 1 1 30) role.Store Commit ∷ body.Told 1 (u 1 1 30) Commit part.Naming
          ∷ body.Told 1 (u 1 1 30) Commit part.Server ∷ [],
    ) ∷ (event.Serial (l 192) 1, body.Began (l 192) kind.Serial (u 1 1 32) None ∷ []) ∷ (event.Commit (l 192), body.Ended (l 192) ∷ [])
    ∷ (
      event.Show 1,
      body.Entry 1 0 (1 ∷ []) (1 ∷ []) ∷ body.Copy 1 1 7 (u 1 1 30) (0 ∷ 0 ∷ 0 ∷ 0 ∷ 0 ∷ 0 ∷ 0 ∷ 1 ∷ 0 ∷ 0 ∷ 0 ∷ 0 ∷ 0 ∷ 0 ∷ 0 ∷ 0 ∷ [])
          ∷ [],
    ) ∷ (event.Serial (l 193) 1, body.Began (l 193) kind.Serial (u 1 1 33) None ∷ [])
    ∷ (event.Begin (l 194) 1, body.Began (l 194) kind.Top (u 1 1 34) None ∷ [])
    ∷ (event.Abort (l 193), body.Aborted (l 193) cause.Asked ∷ [])
    ∷ (event.Top (l 195) (l 194), body.Began (l 195) kind.Independent (u 1 1 35) (Some (l 194)) ∷ [])
    ∷ (event.BeginIn (l 196) (l 195), body.Began (l 196) kind.Nested (u 1 1 36) (Some (l 195)) ∷ [])
    ∷ (
      event.Call (l 194) 1 op.Len,
      body.Granted 1 (u 1 1 34) (u 0 1 1) Read ∷ body.Granted 1 (u 1 1 34) (u 0 0 1) Read ∷ body.Ok (l 194) 1 op.Len (codes "2") ∷ [],
    ) ∷ (event.Call (l 196) 1 op.Pop, body.Granted 1 (u 1 1 35) (u 0 1 1) Read ∷ body.Conflict (l 196) (u 1 1 34) Read 1 ∷ [])
    ∷ (
      event.Commit (l 194),
      body.Committing (l 194) ∷ body.Committed (l 194) ∷ body.Told 1 (u 1 1 34) Commit part.Naming
          ∷ body.Told 1 (u 1 1 34) Commit part.Server ∷ [],
    ) ∷ (event.BeginIn (l 197) (l 195), body.Began (l 197) kind.Nested (u 1 1 37) (Some (l 195)) ∷ [])
    ∷ (event.Begin (l 198) 1, body.Began (l 198) kind.Top (u 1 1 38) None ∷ [])
    ∷ (
      event.Call (l 198) 1 (op.Push 0),
      body.Granted 1 (u 1 1 38) (u 0 1 1) Read ∷ body.Granted 1 (u 1 1 38) (u 0 0 1) Write
          ∷ body.Ok (l 198) 1 (op.Push 0) (codes "done") ∷ [],
    ) ∷ (event.BeginIn (l 199) (l 196), body.Began (l 199) kind.Nested (u 1 1 39) (Some (l 196)) ∷ [])
    ∷ (event.Call (l 198) 1 (op.Push 0), body.Ok (l 198) 1 (op.Push 0) (codes "done") ∷ [])
    ∷ (
      event.Show 1,
      body.Entry 1 0 (1 ∷ []) (1 ∷ []) ∷ body.Copy 1 1 7 (u 1 1 30) (0 ∷ 0 ∷ 0 ∷ 0 ∷ 0 ∷ 0 ∷ 0 ∷ 1 ∷ 0 ∷ 0 ∷ 0 ∷ 0 ∷ 0 ∷ 0 ∷ 0 ∷ 0 ∷ [])
          ∷ [],
    ) ∷ (event.Serial (l 200) 1, body.Began (l 200) kind.Serial (u 1 1 40) None ∷ []) ∷ [])

local_more_1_follows : is_followed local_more_1 ≡ true
local_more_1_follows = refl

local_more_1_has_causes : lacking local_more_1 ≡ []
local_more_1_has_causes = refl

abbrev local_more_2 : Run
local_more_2 = run
    (nodes 1 (object_line 1 (value.Counter 3) (1 ∷ []) (1 ∷ []) ∷ []))
    ((event.Begin (l 161) 1, body.Began (l 161) kind.Top (u 1 1 1) None ∷ [])
    ∷ (
      event.Call (l 161) 1 (op.Set 0),
      body.Granted 1 (u 1 1 1) (u 0 1 1) Write ∷ body.Bound 1 (b 1 1) 1 ∷ body.Active 1 1 (b 1 1) ∷ body.Lowered 1 (u 1 1 1) (u 0 1 1)
          ∷ body.Granted 1 (u 1 1 1) (u 0 0 1) Write ∷ body.Ok (l 161) 1 (op.Set 0) (codes "done") ∷ [],
    ) ∷ (event.Call (l 161) 1 (op.Set 2), body.Ok (l 161) 1 (op.Set 2) (codes "done") ∷ [])
    ∷ (event.Show 1, body.Entry 1 0 (1 ∷ []) (1 ∷ []) ∷ body.Copy 1 1 0 (u 0 0 0) (0 ∷ 0 ∷ 0 ∷ 0 ∷ 0 ∷ 0 ∷ 0 ∷ 3 ∷ []) ∷ [])
    ∷ (event.Call (l 161) 1 (op.Set 0), body.Ok (l 161) 1 (op.Set 0) (codes "done") ∷ [])
    ∷ (event.Call (l 161) 1 (op.Add 1), body.Ok (l 161) 1 (op.Add 1) (codes "done") ∷ [])
    ∷ (
      event.Commit (l 161),
      body.Committing (l 161) ∷ body.Prepared 1 (u 1 1 1) role.Store ∷ body.Committed (l 161) ∷ body.Done 1 (u 1 1 1) role.Store Commit
          ∷ body.Told 1 (u 1 1 1) Commit part.Naming ∷ body.Told 1 (u 1 1 1) Commit part.Server ∷ [],
    ) ∷ (event.Begin (l 162) 1, body.Began (l 162) kind.Top (u 1 1 2) None ∷ [])
    ∷ (
      event.Call (l 162) 1 (op.Set 0),
      body.Granted 1 (u 1 1 2) (u 0 1 1) Read ∷ body.Granted 1 (u 1 1 2) (u 0 0 1) Write ∷ body.Ok (l 162) 1 (op.Set 0) (codes "done")
          ∷ [],
    ) ∷ (event.BeginIn (l 163) (l 162), body.Began (l 163) kind.Nested (u 1 1 3) (Some (l 162)) ∷ [])
    ∷ (event.Call (l 162) 1 (op.Set 2), body.Ok (l 162) 1 (op.Set 2) (codes "done") ∷ [])
    ∷ (event.Show 1, body.Entry 1 0 (1 ∷ []) (1 ∷ []) ∷ body.Copy 1 1 1 (u 1 1 1) (0 ∷ 0 ∷ 0 ∷ 0 ∷ 0 ∷ 0 ∷ 0 ∷ 1 ∷ []) ∷ [])
    ∷ (event.Call (l 163) 1 op.Get, body.Granted 1 (u 1 1 3) (u 0 0 1) Read ∷ body.Ok (l 163) 1 op.Get (codes "2") ∷ [])
    ∷ (event.Call (l 163) 1 (op.Add 0), body.Granted 1 (u 1 1 3) (u 0 0 1) Write ∷ body.Ok (l 163) 1 (op.Add 0) (codes "done") ∷ [])
    ∷ (event.Call (l 162) 1 (op.Add 3), body.Conflict (l 162) (u 1 1 3) Write 1 ∷ [])
    ∷ (event.Call (l 163) 1 (op.Add 1), body.Ok (l 163) 1 (op.Add 1) (codes "done") ∷ [])
    ∷ (event.BeginIn (l 164) (l 162), body.Began (l 164) kind.Nested (u 1 1 4) (Some (l 162)) ∷ [])
    ∷ (event.Call (l 163) 1 op.Get, body.Ok (l 163) 1 op.Get (codes "3") ∷ [])
    ∷ (event.Commit (l 163), body.Committed (l 163) ∷ body.Told 1 (u 1 1 3) Commit part.Server ∷ [])
    ∷ (event.BeginIn (l 165) (l 162), body.Began (l 165) kind.Nested (u 1 1 5) (Some (l 162)) ∷ [])
    ∷ (
      event.Abort (l 162),
      body.Aborted (l 165) cause.Asked ∷ body.Aborted (l 164) cause.Asked ∷ body.Aborted (l 162) cause.Asked
          ∷ body.Told 1 (u 1 1 2) Abort part.Naming ∷ body.Told 1 (u 1 1 2) Abort part.Server ∷ [],
    ) ∷ (event.Begin (l 166) 1, body.Began (l 166) kind.Top (u 1 1 6) None ∷ [])
    ∷ (event.Commit (l 166), body.Committing (l 166) ∷ body.Committed (l 166) ∷ [])
    ∷ (event.Begin (l 167) 1, body.Began (l 167) kind.Top (u 1 1 7) None ∷ [])
    ∷ (
      event.Call (l 167) 1 (op.Set 3),
      body.Granted 1 (u 1 1 7) (u 0 1 1) Read ∷ body.Granted 1 (u 1 1 7) (u 0 0 1) Write ∷ body.Ok (l 167) 1 (op.Set 3) (codes "done")
          ∷ [],
    )
    ∷ (
      event.Abort (l 167),
      body.Aborted (l 167) cause.Asked ∷ body.Told 1 (u 1 1 7) Abort part.Naming ∷ body.Told 1 (u 1 1 7) Abort part.Server ∷ [],
    ) ∷ (event.Begin (l 168) 1, body.Began (l 168) kind.Top (u 1 1 8) None ∷ [])
    ∷ (
      event.Call (l 168) 1 (op.Add 1),
      body.Granted 1 (u 1 1 8) (u 0 1 1) Read ∷ body.Granted 1 (u 1 1 8) (u 0 0 1) Write ∷ body.Ok (l 168) 1 (op.Add 1) (codes "done")
          ∷ [],
    ) ∷ (event.Call (l 168) 1 op.Get, body.Ok (l 168) 1 op.Get (codes "2") ∷ [])
    ∷ (event.Call (l 168) 1 (op.Set 1), body.Ok (l 168) 1 (op.Set 1) (codes "done") ∷ [])
    ∷ (event.Show 1, body.Entry 1 0 (1 ∷ []) (1 ∷ []) ∷ body.Copy 1 1 1 (u 1 1 1) (0 ∷ 0 ∷ 0 ∷ 0 ∷ 0 ∷ 0 ∷ 0 ∷ 1 ∷ []) ∷ [])
    ∷ (
      event.Commit (l 168),
      body.Committing (l 168) ∷ body.Prepared 1 (u 1 1 8) role.Store ∷ body.Committed (l 168) ∷ body.Done 1 (u 1 1 8) role.Store Commit
          ∷ body.Told 1 (u 1 1 8) Commit part.Naming ∷ body.Told 1 (u 1 1 8) Commit part.Server ∷ [],
    ) ∷ (event.Begin (l 169) 1, body.Began (l 169) kind.Top (u 1 1 9) None ∷ [])
    ∷ (
      event.Call (l 169) 1 (op.Add 0),
      body.Granted 1 (u 1 1 9) (u 0 1 1) Read ∷ body.Granted 1 (u 1 1 9) (u 0 0 1) Write ∷ body.Ok (l 169) 1 (op.Add 0) (codes "done")
          ∷ [],
    ) ∷ (event.Call (l 169) 1 (op.Add 2), body.Ok (l 169) 1 (op.Add 2) (codes "done") ∷ [])
    ∷ (
      event.Abort (l 169),
      body.Aborted (l 169) cause.Asked ∷ body.Told 1 (u 1 1 9) Abort part.Naming ∷ body.Told 1 (u 1 1 9) Abort part.Server ∷ [],
    ) ∷ (event.Begin (l 170) 1, body.Began (l 170) kind.Top (u 1 1 10) None ∷ [])
    ∷ (event.BeginIn (l 171) (l 170), body.Began (l 171) kind.Nested (u 1 1 11) (Some (l 170)) ∷ [])
    ∷ (
      event.Call (l 170) 1 op.Get,
      body.Granted 1 (u 1 1 10) (u 0 1 1) Read ∷ body.Granted 1 (u 1 1 10) (u 0 0 1) Read ∷ body.Ok (l 170) 1 op.Get (codes "1") ∷ [],
    ) ∷ (event.Call (l 171) 1 (op.Set 0), body.Granted 1 (u 1 1 11) (u 0 0 1) Write ∷ body.Ok (l 171) 1 (op.Set 0) (codes "done") ∷ [])
    ∷ (event.BeginIn (l 172) (l 170), body.Began (l 172) kind.Nested (u 1 1 12) (Some (l 170)) ∷ [])
    ∷ (event.Call (l 172) 1 op.Get, body.Conflict (l 172) (u 1 1 11) Write 1 ∷ [])
    ∷ (event.Call (l 172) 1 (op.Add 1), body.Conflict (l 172) (u 1 1 11) Write 1 ∷ [])
    ∷ (event.Top (l 173) (l 171), body.Began (l 173) kind.Independent (u 1 1 13) (Some (l 171)) ∷ [])
    ∷ (event.Commit (l 173), body.Committing (l 173) ∷ body.Committed (l 173) ∷ [])
    ∷ (event.BeginIn (l 174) (l 170), body.Began (l 174) kind.Nested (u 1 1 14) (Some (l 170)) ∷ [])
    ∷ (event.Abort (l 174), body.Aborted (l 174) cause.Asked ∷ [])
    ∷ (event.Show 1, body.Entry 1 0 (1 ∷ []) (1 ∷ []) ∷ body.Copy 1 1 2 (u 1 1 8) (0 ∷ 0 ∷ 0 ∷ 0 ∷ 0 ∷ 0 ∷ 0 ∷ 1 ∷ []) ∷ [])
    ∷ (event.Call (l 172) 1 (op.Set 2), body.Conflict (l 172) (u 1 1 11) Write 1 ∷ [])
    ∷ (event.Abort (l 171), body.Aborted (l 171) cause.Asked ∷ body.Told 1 (u 1 1 11) Abort part.Server ∷ [])
    ∷ (event.Call (l 172) 1 op.Get, body.Granted 1 (u 1 1 12) (u 0 0 1) Read ∷ body.Ok (l 172) 1 op.Get (codes "1") ∷ [])
    ∷ (event.Call (l 170) 1 (op.Set 0), body.Conflict (l 170) (u 1 1 12) Read 1 ∷ [])
    ∷ (event.Show 1, body.Entry 1 0 (1 ∷ []) (1 ∷ []) ∷ body.Copy 1 1 2 (u 1 1 8) (0 ∷ 0 ∷ 0 ∷ 0 ∷ 0 ∷ 0 ∷ 0 ∷ 1 ∷ []) ∷ [])
    ∷ (event.Commit (l 172), body.Committed (l 172) ∷ body.Told 1 (u 1 1 12) Commit part.Server ∷ [])
    ∷ (event.Call (l 170) 1 (op.Add 1), body.Granted 1 (u 1 1 10) (u 0 0 1) Write ∷ body.Ok (l 170) 1 (op.Add 1) (codes "done") ∷ [])
    ∷ (event.Call (l 170) 1 op.Get, body.Ok (l 170) 1 op.Get (codes "2") ∷ [])
    ∷ (event.Call (l 170) 1 (op.Add 3), body.Ok (l 170) 1 (op.Add 3) (codes "done") ∷ [])
    ∷ (
      event.Commit (l 170),
      body.Committing (l 170) ∷ body.Prepared 1 (u 1 1 10) role.Store ∷ body.Committed (l 170)
          ∷ body.Done 1 (u 1 1 10) role.Store Commit ∷ body.Told 1 (u 1 1 10) Commit part.Naming
          ∷ body.Told 1 (u 1 1 10) Commit part.Server ∷ [],
    ) ∷ (event.Begin (l 175) 1, body.Began (l 175) kind.Top (u 1 1 15) None ∷ [])
    ∷ (
      event.Call (l 175) 1 (op.Set 0),
      body.Granted 1 (u 1 1 15) (u 0 1 1) Read ∷ body.Granted 1 (u 1 1 15) (u 0 0 1) Write ∷ body.Ok (l 175) 1 (op.Set 0) (codes "done")
          ∷ [],
    )
    ∷ (
      event.Commit (l 175),
      body.Committing (l 175) ∷ body.Prepared 1 (u 1 1 15) role.Store ∷ body.Committed (l 175)
          ∷ body.Done 1 (u 1 1 15) role.Store Commit ∷ body.Told 1 (u 1 1 15) Commit part.Naming
          ∷ body.Told 1 (u 1 1 15) Commit part.Server ∷ [],
    ) ∷ (event.Begin (l 176) 1, body.Began (l 176) kind.Top (u 1 1 16) None ∷ [])
    ∷ (
      event.Call (l 176) 1 (op.Set 1),
      body.Granted 1 (u 1 1 16) (u 0 1 1) Read ∷ body.Granted 1 (u 1 1 16) (u 0 0 1) Write ∷ body.Ok (l 176) 1 (op.Set 1) (codes "done")
          ∷ [],
    ) ∷ (event.Call (l 176) 1 (op.Set 0), body.Ok (l 176) 1 (op.Set 0) (codes "done") ∷ [])
    ∷ (event.Call (l 176) 1 (op.Set 0), body.Ok (l 176) 1 (op.Set 0) (codes "done") ∷ [])
    ∷ (event.Call (l 176) 1 (op.Add 0), body.Ok (l 176) 1 (op.Add 0) (codes "done") ∷ [])
    ∷ (
      event.Commit (l 176),
      body.Committing (l 176) ∷ body.Prepared 1 (u 1 1 16) role.Store ∷ body.Committed (l 176)
          ∷ body.Done 1 (u 1 1 16) role.Store Commit ∷ body.Told 1 (u 1 1 16) Commit part.Naming
          ∷ body.Told 1 (u 1 1 16) Commit part.Server ∷ [],
    ) ∷ (event.Begin (l 177) 1, body.Began (l 177) kind.Top (u 1 1 17) None ∷ [])
    ∷ (
      event.Call (l 177) 1 (op.Add 2),
      body.Granted 1 (u 1 1 17) (u 0 1 1) Read ∷ body.Granted 1 (u 1 1 17) (u 0 0 1) Write ∷ body.Ok (l 177) 1 (op.Add 2) (codes "done")
          ∷ [],
    ) ∷ (event.Call (l 177) 1 (op.Set 4), body.Ok (l 177) 1 (op.Set 4) (codes "done") ∷ [])
    ∷ (event.Call (l 177) 1 (op.Set 1), body.Ok (l 177) 1 (op.Set 1) (codes "done") ∷ [])
    ∷ (
      event.Commit (l 177),
      body.Committing (l 177) ∷ body.Prepared 1 (u 1 1 17) role.Store ∷ body.Committed (l 177)
          ∷ body.Done 1 (u 1 1 17) role.Store Commit ∷ body.Told 1 (u 1 1 17) Commit part.Naming
          ∷ body.Told 1 (u 1 1 17) Commit part.Server ∷ [],
    ) ∷ (event.Begin (l 178) 1, body.Began (l 178) kind.Top (u 1 1 18) None ∷ [])
    ∷ (event.BeginIn (l 179) (l 178), body.Began (l 179) kind.Nested (u 1 1 19) (Some (l 178)) ∷ [])
    ∷ (
      event.Call (l 178) 1 (op.Set 1),
      body.Granted 1 (u 1 1 18) (u 0 1 1) Read ∷ body.Granted 1 (u 1 1 18) (u 0 0 1) Write ∷ body.Ok (l 178) 1 (op.Set 1) (codes "done")
          ∷ [],
    ) ∷ (event.Show 1, body.Entry 1 0 (1 ∷ []) (1 ∷ []) ∷ body.Copy 1 1 6 (u 1 1 17) (0 ∷ 0 ∷ 0 ∷ 0 ∷ 0 ∷ 0 ∷ 0 ∷ 1 ∷ []) ∷ [])
    ∷ (event.Call (l 178) 1 (op.Add 1), body.Ok (l 178) 1 (op.Add 1) (codes "done") ∷ [])
    ∷ (event.BeginIn (l 180) (l 178), body.Began (l 180) kind.Nested (u 1 1 20) (Some (l 178)) ∷ [])
    ∷ (event.Call (l 180) 1 (op.Set 0), body.Granted 1 (u 1 1 20) (u 0 0 1) Write ∷ body.Ok (l 180) 1 (op.Set 0) (codes "done") ∷ [])
    ∷ (event.Call (l 179) 1 (op.Add 3), body.Conflict (l 179) (u 1 1 20) Write 1 ∷ [])
    ∷ (event.Abort (l 180), body.Aborted (l 180) cause.Asked ∷ body.Told 1 (u 1 1 20) Abort part.Server ∷ [])
    ∷ (event.Call (l 178) 1 op.Get, body.Ok (l 178) 1 op.Get (codes "2") ∷ [])
    ∷ (event.Call (l 179) 1 op.Get, body.Granted 1 (u 1 1 19) (u 0 0 1) Read ∷ body.Ok (l 179) 1 op.Get (codes "2") ∷ [])
    ∷ (event.Call (l 179) 1 (op.Set 4), body.Granted 1 (u 1 1 19) (u 0 0 1) Write ∷ body.Ok (l 179) 1 (op.Set 4) (codes "done") ∷ [])
    ∷ (event.BeginIn (l 181) (l 178), body.Began (l 181) kind.Nested (u 1 1 21) (Some (l 178)) ∷ [])
    ∷ (event.Call (l 179) 1 op.Get, body.Ok (l 179) 1 op.Get (codes "4") ∷ [])
    ∷ (event.Show 1, body.Entry 1 0 (1 ∷ []) (1 ∷ []) ∷ body.Copy 1 1 6 (u 1 1 17) (0 ∷ 0 ∷ 0 ∷ 0 ∷ 0 ∷ 0 ∷ 0 ∷ 1 ∷ []) ∷ [])
    ∷ (event.Call (l 181) 1 (op.Add 2), body.Conflict (l 181) (u 1 1 19) Write 1 ∷ [])
    ∷ (event.Abort (l 181), body.Aborted (l 181) cause.Asked ∷ [])
    ∷ (event.BeginIn (l 182) (l 179), body.Began (l 182) kind.Nested (u 1 1 22) (Some (l 179)) ∷ [])
    ∷ (event.Call (l 178) 1 (op.Add 0), body.Conflict (l 178) (u 1 1 19) Write 1 ∷ [])
    ∷ (event.Call (l 179) 1 op.Get, body.Ok (l 179) 1 op.Get (codes "4") ∷ [])
    ∷ (event.Call (l 179) 1 (op.Set 0), body.Ok (l 179) 1 (op.Set 0) (codes "done") ∷ [])
    ∷ (event.Show 1, body.Entry 1 0 (1 ∷ []) (1 ∷ []) ∷ body.Copy 1 1 6 (u 1 1 17) (0 ∷ 0 ∷ 0 ∷ 0 ∷ 0 ∷ 0 ∷ 0 ∷ 1 ∷ []) ∷ [])
    ∷ (event.Call (l 179) 1 (op.Set 0), body.Ok (l 179) 1 (op.Set 0) (codes "done") ∷ [])
    ∷ (event.Call (l 179) 1 (op.Add 1), body.Ok (l 179) 1 (op.Add 1) (codes "done") ∷ [])
    ∷ (event.Call (l 179) 1 (op.Set 0), body.Ok (l 179) 1 (op.Set 0) (codes "done") ∷ [])
    ∷ (
      event.Call (l 182) 1 (op.Add 18446744073709551615),
      body.Granted 1 (u 1 1 22) (u 0 0 1) Write ∷ body.Ok (l 182) 1 (op.Add 18446744073709551615) (codes "done") ∷ [],
    ) ∷ (event.Abort (l 182), body.Aborted (l 182) cause.Asked ∷ body.Told 1 (u 1 1 22) Abort part.Server ∷ [])
    ∷ (event.Commit (l 179), body.Committed (l 179) ∷ body.Told 1 (u 1 1 19) Commit part.Server ∷ [])
    ∷ (event.BeginIn (l 183) (l 178), body.Began (l 183) kind.Nested (u 1 1 23) (Some (l 178)) ∷ [])
    ∷ (event.Call (l 178) 1 (op.Add 2), body.Ok (l 178) 1 (op.Add 2) (codes "done") ∷ [])
    ∷ (event.Call (l 183) 1 (op.Set 0), body.Granted 1 (u 1 1 23) (u 0 0 1) Write ∷ body.Ok (l 183) 1 (op.Set 0) (codes "done") ∷ [])
    ∷ (event.Call (l 178) 1 (op.Add 4), body.Conflict (l 178) (u 1 1 23) Write 1 ∷ [])
    ∷ (event.Call (l 183) 1 (op.Add 3), body.Ok (l 183) 1 (op.Add 3) (codes "done") ∷ [])
    ∷ (event.Call (l 183) 1 op.Get, body.Ok (l 183) 1 op.Get (codes "3") ∷ [])
    ∷ (event.Call (l 183) 1 (op.Add 3), body.Ok (l 183) 1 (op.Add 3) (codes "done") ∷ [])
    ∷ (event.Call (l 183) 1 (op.Add 0), body.Ok (l 183) 1 (op.Add 0) (codes "done") ∷ [])
    ∷ (event.Call (l 178) 1 (op.Add 4), body.Conflict (l 178) (u 1 1 23) Write 1 ∷ [])
    ∷ (event.Commit (l 183), body.Committed (l 183) ∷ body.Told 1 (u 1 1 23) Commit part.Server ∷ [])
    ∷ (event.Call (l 178) 1 op.Get, body.Ok (l 178) 1 op.Get (codes "6") ∷ [])
    ∷ (event.Call (l 178) 1 op.Get, body.Ok (l 178) 1 op.Get (codes "6") ∷ [])
    ∷ (
      event.Commit (l 178),
      body.Committing (l 178) ∷ body.Prepared 1 (u 1 1 18) role.Store ∷ body.Committed (l 178)
          ∷ body.Done 1 (u 1 1 18) role.Store Commit ∷ body.Told 1 (u 1 1 18) Commit part.Naming
          ∷ body.Told 1 (u 1 1 18) Commit part.Server ∷ [],
    ) ∷ (event.Begin (l 184) 1, body.Began (l 184) kind.Top (u 1 1 24) None ∷ [])
    ∷ (
      event.Call (l 184) 1 op.Get,
      body.Granted 1 (u 1 1 24) (u 0 1 1) Read ∷ body.Granted 1 (u 1 1 24) (u 0 0 1) Read ∷ body.Ok (l 184) 1 op.Get (codes "6") ∷ [],
    ) ∷ (event.Call (l 184) 1 op.Get, body.Ok (l 184) 1 op.Get (codes "6") ∷ [])
    ∷ (event.Call (l 184) 1 (op.Add 1), body.Granted 1 (u 1 1 24) (u 0 0 1) Write ∷ body.Ok (l 184) 1 (op.Add 1) (codes "done") ∷ [])
    ∷ (
      event.Commit (l 184),
      body.Committing (l 184) ∷ body.Prepared 1 (u 1 1 24) role.Store ∷ body.Committed (l 184)
          ∷ body.Done 1 (u 1 1 24) role.Store Commit ∷ body.Told 1 (u 1 1 24) Commit part.Naming
          ∷ body.Told 1 (u 1 1 24) Commit part.Server ∷ [],
    ) ∷ (event.Begin (l 185) 1, body.Began (l 185) kind.Top (u 1 1 25) None ∷ [])
    ∷ (
      event.Call (l 185) 1 op.Get,
      body.Granted 1 (u 1 1 25) (u 0 1 1) Read ∷ body.Granted 1 (u 1 1 25) (u 0 0 1) Read ∷ body.Ok (l 185) 1 op.Get (codes "7") ∷ [],
    ) ∷ (event.Top (l 186) (l 185), body.Began (l 186) kind.Independent (u 1 1 26) (Some (l 185)) ∷ [])
    ∷ (event.Call (l 186) 1 (op.Set 0), body.Granted 1 (u 1 1 26) (u 0 1 1) Read ∷ body.Conflict (l 186) (u 1 1 25) Read 1 ∷ [])
    ∷ (event.Call (l 186) 1 (op.Add 2), body.Conflict (l 186) (u 1 1 25) Read 1 ∷ [])
    ∷ (event.Call (l 186) 1 (op.Add 3), body.Conflict (l 186) (u 1 1 25) Read 1 ∷ [])
    ∷ (
      event.Abort (l 185),
      body.Aborted (l 185) cause.Asked ∷ body.Told 1 (u 1 1 25) Abort part.Naming ∷ body.Told 1 (u 1 1 25) Abort part.Server ∷ [],
    ) ∷ (event.Call (l 186) 1 (op.Add 0), body.Granted 1 (u 1 1 26) (u 0 0 1) Write ∷ body.Ok (l 186) 1 (op.Add 0) (codes "done") ∷ [])
    ∷ (
      event.Commit (l 186),
      body.Committing (l 186) ∷ body.Prepared 1 (u 1 1 26) role.Store ∷ body.Committed (l 186)
          ∷ body.Done 1 (u 1 1 26) role.Store Commit ∷ body.Told 1 (u 1 1 26) Commit part.Naming
          ∷ body.Told 1 (u 1 1 26) Commit part.Server ∷ [],
    ) ∷ (event.Show 1, body.Entry 1 0 (1 ∷ []) (1 ∷ []) ∷ body.Copy 1 1 9 (u 1 1 26) (0 ∷ 0 ∷ 0 ∷ 0 ∷ 0 ∷ 0 ∷ 0 ∷ 7 ∷ []) ∷ [])
    ∷ (event.Begin (l 187) 1, body.Began (l 187) kind.Top (u 1 1 27) None ∷ [])
    ∷ (
      event.Call (l 187) 1 op.Get,
      body.Granted 1 (u 1 1 27) (u 0 1 1) Read ∷ body.Granted 1 (u 1 1 27) (u 0 0 1) Read ∷ body.Ok (l 187) 1 op.Get (codes "7") ∷ [],
    ) ∷ (event.BeginIn (l 188) (l 187), body.Began (l 188) kind.Nested (u 1 1 28) (Some (l 187)) ∷ [])
    ∷ (event.BeginIn (l 189) (l 187), body.Began (l 189) kind.Nested (u 1 1 29) (Some (l 187)) ∷ [])
    ∷ (event.Call (l 189) 1 op.Get, body.Granted 1 (u 1 1 29) (u 0 0 1) Read ∷ body.Ok (l 189) 1 op.Get (codes "7") ∷ [])
    ∷ (event.Call (l 189) 1 op.Get, body.Ok (l 189) 1 op.Get (codes "7") ∷ [])
    ∷ (event.Show 1, body.Entry 1 0 (1 ∷ []) (1 ∷ []) ∷ body.Copy 1 1 9 (u 1 1 26) (0 ∷ 0 ∷ 0 ∷ 0 ∷ 0 ∷ 0 ∷ 0 ∷ 7 ∷ []) ∷ [])
    ∷ (event.Call (l 187) 1 (op.Set 3), body.Conflict (l 187) (u 1 1 29) Read 1 ∷ [])
    ∷ (event.Call (l 189) 1 (op.Add 3), body.Granted 1 (u 1 1 29) (u 0 0 1) Write ∷ body.Ok (l 189) 1 (op.Add 3) (codes "done") ∷ [])
    ∷ (event.Call (l 189) 1 (op.Add 0), body.Ok (l 189) 1 (op.Add 0) (codes "done") ∷ [])
    ∷ (event.Call (l 188) 1 (op.Add 0), body.Conflict (l 188) (u 1 1 29) Write 1 ∷ [])
    ∷ (event.Call (l 189) 1 (op.Add 2), body.Ok (l 189) 1 (op.Add 2) (codes "done") ∷ [])
    ∷ (event.Show 1, body.Entry 1 0 (1 ∷ []) (1 ∷ []) ∷ body.Copy 1 1 9 (u 1 1 26) (0 ∷ 0 ∷ 0 ∷ 0 ∷ 0 ∷ 0 ∷ 0 ∷ 7 ∷ []) ∷ [])
    ∷ (event.BeginIn (l 190) (l 187), body.Began (l 190) kind.Nested (u 1 1 30) (Some (l 187)) ∷ [])
    ∷ (event.Call (l 190) 1 (op.Add 0), body.Conflict (l 190) (u 1 1 29) Write 1 ∷ [])
    ∷ (event.Call (l 187) 1 (op.Add 3), body.Conflict (l 187) (u 1 1 29) Write 1 ∷ [])
    ∷ (event.Call (l 187) 1 (op.Set 18446744073709551615), body.Conflict (l 187) (u 1 1 29) Write 1 ∷ [])
    ∷ (event.Commit (l 189), body.Committed (l 189) ∷ body.Told 1 (u 1 1 29) Commit part.Server ∷ [])
    ∷ (event.Call (l 187) 1 op.Get, body.Ok (l 187) 1 op.Get (codes "12") ∷ [])
    ∷ (event.BeginIn (l 191) (l 187), body.Began (l 191) kind.Nested (u 1 1 31) (Some (l 187)) ∷ [])
    ∷ (event.Call (l 187) 1 (op.Add 3), body.Ok (l 187) 1 (op.Add 3) (codes "done") ∷ [])
    ∷ (event.Call (l 188) 1 (op.Add 4), body.Granted 1 (u 1 1 28) (u 0 0 1) Write ∷ body.Ok (l 188) 1 (op.Add 4) (codes "done") ∷ [])
    ∷ [])

local_more_2_follows : is_followed local_more_2 ≡ true
local_more_2_follows = refl

local_more_2_has_causes : lacking local_more_2 ≡ []
local_more_2_has_causes = refl
