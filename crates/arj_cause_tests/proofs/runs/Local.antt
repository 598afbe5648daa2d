-- On one node: runs of 150 events that were chosen at random. Each journal follows its events, and each line has its cause.
use Rattle.std.specs.Prelude.{◌≡◌, refl, [], ◌∷◌, codes, true, Some, None}
use Rattle.arj_base.specs.declared.mode.Mode.TheVariants.{Read, Write}
use Rattle.arj_base.specs.declared.mode.End.TheVariants.{Abort, Commit}
use Rattle.arj_class.specs.declared.op.Op.TheVariants as op
use Rattle.arj_class.specs.declared.value.Value.TheVariants as value
use Rattle.arj_journal.specs.declared.body.Body.TheVariants as body
use Rattle.arj_journal.specs.declared.body.Cause.TheVariants as cause
use Rattle.arj_journal.specs.declared.body.Kind.TheVariants as kind
use Rattle.arj_journal.specs.declared.body.Part.TheVariants as part
use Rattle.arj_journal.specs.declared.body.Role.TheVariants as role
use Rattle.arj_journal.specs.declared.event.Event.TheVariants as event
use Rattle.arj_cause_tests.proofs.Words.{Run, b, is_followed, l, lacking, nodes, object_line, run, u}

abbrev local_1 : Run
local_1 = run
    (nodes 1 (object_line 1 (value.Queue (6 ∷ 3 ∷ [])) (1 ∷ []) (1 ∷ []) ∷ []))
    ((event.Begin (l 161) 1, body.Began (l 161) kind.Top (u 1 1 1) None ∷ [])
    ∷ (event.BeginIn (l 162) (l 161), body.Began (l 162) kind.Nested (u 1 1 2) (Some (l 161)) ∷ [])
    ∷ (event.Abort (l 162), body.Aborted (l 162) cause.Asked ∷ [])
    ∷ (
      event.Call (l 161) 1 op.Pop,
      body.Granted 1 (u 1 1 1) (u 0 1 1) Write ∷ body.Bound 1 (b 1 1) 1 ∷ body.Active 1 1 (b 1 1) ∷ body.Lowered 1 (u 1 1 1) (u 0 1 1)
          ∷ body.Granted 1 (u 1 1 1) (u 0 0 1) Write ∷ body.Ok (l 161) 1 op.Pop (codes "6") ∷ [],
    ) ∷ (event.BeginIn (l 163) (l 161), body.Began (l 163) kind.Nested (u 1 1 3) (Some (l 161)) ∷ [])
    ∷ (event.Begin (l 164) 1, body.Began (l 164) kind.Top (u 1 1 4) None ∷ []) ∷ (event.Commit (l 163), body.Committed (l 163) ∷ [])
    ∷ (event.Serial (l 165) 1, body.Began (l 165) kind.Serial (u 1 1 5) None ∷ [])
    ∷ (event.BeginIn (l 166) (l 165), body.Began (l 166) kind.Constituent (u 1 1 6) (Some (l 165)) ∷ [])
    ∷ (event.Call (l 164) 1 (op.Push 4), body.Granted 1 (u 1 1 4) (u 0 1 1) Read ∷ body.Conflict (l 164) (u 1 1 1) Write 1 ∷ [])
    ∷ (event.BeginIn (l 167) (l 165), body.Began (l 167) kind.Constituent (u 1 1 7) (Some (l 165)) ∷ [])
    ∷ (event.Call (l 167) 1 op.Pop, body.Granted 1 (u 1 1 7) (u 0 1 1) Read ∷ body.Conflict (l 167) (u 1 1 1) Write 1 ∷ [])
    ∷ (event.Call (l 161) 1 (op.Push 4), body.Ok (l 161) 1 (op.Push 4) (codes "done") ∷ [])
    ∷ (event.Call (l 166) 1 op.Len, body.Granted 1 (u 1 1 6) (u 0 1 1) Read ∷ body.Conflict (l 166) (u 1 1 1) Write 1 ∷ [])
    ∷ (event.Call (l 167) 1 (op.Push 1), body.Conflict (l 167) (u 1 1 1) Write 1 ∷ [])
    ∷ (event.Call (l 167) 1 op.Len, body.Conflict (l 167) (u 1 1 1) Write 1 ∷ [])
    ∷ (
      event.Commit (l 161),
      body.Committing (l 161) ∷ body.Prepared 1 (u 1 1 1) role.Store ∷ body.Committed (l 161) ∷ body.Done 1 (u 1 1 1) role.Store Commit
          ∷ body.Told 1 (u 1 1 1) Commit part.Naming ∷ body.Told 1 (u 1 1 1) Commit part.Server ∷ [],
    ) ∷ (event.Commit (l 164), body.Committing (l 164) ∷ body.Committed (l 164) ∷ body.Told 1 (u 1 1 4) Abort part.Naming ∷ [])
    ∷ (event.Call (l 166) 1 (op.Push 1), body.Granted 1 (u 1 1 6) (u 0 0 1) Write ∷ body.Ok (l 166) 1 (op.Push 1) (codes "done") ∷ [])
    ∷ (event.Serial (l 168) 1, body.Began (l 168) kind.Serial (u 1 1 8) None ∷ [])
    ∷ (event.BeginIn (l 169) (l 166), body.Began (l 169) kind.Nested (u 1 1 9) (Some (l 166)) ∷ [])
    ∷ (event.BeginIn (l 170) (l 169), body.Began (l 170) kind.Nested (u 1 1 10) (Some (l 169)) ∷ [])
    ∷ (event.Call (l 166) 1 op.Len, body.Ok (l 166) 1 op.Len (codes "3") ∷ [])
    ∷ (event.Serial (l 171) 1, body.Began (l 171) kind.Serial (u 1 1 11) None ∷ [])
    ∷ (event.Call (l 167) 1 op.Pop, body.Conflict (l 167) (u 1 1 6) Write 1 ∷ [])
    ∷ (event.Begin (l 172) 1, body.Began (l 172) kind.Top (u 1 1 12) None ∷ [])
    ∷ (event.Commit (l 172), body.Committing (l 172) ∷ body.Committed (l 172) ∷ [])
    ∷ (
      event.Show 1,
      body.Entry 1 0 (1 ∷ []) (1 ∷ []) ∷ body.Copy 1 1 1 (u 1 1 1) (0 ∷ 0 ∷ 0 ∷ 0 ∷ 0 ∷ 0 ∷ 0 ∷ 3 ∷ 0 ∷ 0 ∷ 0 ∷ 0 ∷ 0 ∷ 0 ∷ 0 ∷ 4 ∷ [])
          ∷ [],
    ) ∷ (event.Commit (l 171), body.Ended (l 171) ∷ [])
    ∷ (event.Abort (l 169), body.Aborted (l 170) cause.Asked ∷ body.Aborted (l 169) cause.Asked ∷ [])
    ∷ (event.BeginIn (l 173) (l 165), body.Began (l 173) kind.Constituent (u 1 1 13) (Some (l 165)) ∷ [])
    ∷ (
      event.Commit (l 166),
      body.Committing (l 166) ∷ body.Prepared 1 (u 1 1 6) role.Store ∷ body.Committed (l 166) ∷ body.Done 1 (u 1 1 6) role.Store Commit
          ∷ body.Told 1 (u 1 1 6) Commit part.Naming ∷ body.Told 1 (u 1 1 6) Commit part.Server ∷ [],
    ) ∷ (event.Call (l 173) 1 op.Pop, body.Granted 1 (u 1 1 13) (u 0 0 1) Write ∷ body.Ok (l 173) 1 op.Pop (codes "3") ∷ [])
    ∷ (event.Begin (l 174) 1, body.Began (l 174) kind.Top (u 1 1 14) None ∷ [])
    ∷ (event.Call (l 167) 1 op.Len, body.Conflict (l 167) (u 1 1 13) Write 1 ∷ [])
    ∷ (event.Call (l 174) 1 op.Len, body.Granted 1 (u 1 1 14) (u 0 1 1) Read ∷ body.Conflict (l 174) (u 1 1 5) Write 1 ∷ [])
    ∷ (event.BeginIn (l 175) (l 165), body.Began (l 175) kind.Constituent (u 1 1 15) (Some (l 165)) ∷ [])
    ∷ (event.Call (l 167) 1 op.Pop, body.Conflict (l 167) (u 1 1 13) Write 1 ∷ [])
    ∷ (
      event.Commit (l 173),
      body.Committing (l 173) ∷ body.Prepared 1 (u 1 1 13) role.Store ∷ body.Committed (l 173)
          ∷ body.Done 1 (u 1 1 13) role.Store Commit ∷ body.Told 1 (u 1 1 13) Commit part.Server ∷ [],
    ) ∷ (event.Abort (l 167), body.Aborted (l 167) cause.Asked ∷ body.Told 1 (u 1 1 7) Abort part.Naming ∷ [])
    ∷ (event.Call (l 174) 1 op.Pop, body.Conflict (l 174) (u 1 1 5) Write 1 ∷ [])
    ∷ (
      event.Show 1,
      body.Entry 1 0 (1 ∷ []) (1 ∷ []) ∷ body.Copy 1 1 3 (u 1 1 13) (0 ∷ 0 ∷ 0 ∷ 0 ∷ 0 ∷ 0 ∷ 0 ∷ 4 ∷ 0 ∷ 0 ∷ 0 ∷ 0 ∷ 0 ∷ 0 ∷ 0 ∷ 1 ∷ [])
          ∷ [],
    ) ∷ (event.Call (l 174) 1 (op.Push 4), body.Conflict (l 174) (u 1 1 5) Write 1 ∷ [])
    ∷ (event.Begin (l 176) 1, body.Began (l 176) kind.Top (u 1 1 16) None ∷ [])
    ∷ (event.Commit (l 176), body.Committing (l 176) ∷ body.Committed (l 176) ∷ [])
    ∷ (event.Commit (l 175), body.Committing (l 175) ∷ body.Committed (l 175) ∷ [])
    ∷ (event.Call (l 174) 1 op.Pop, body.Conflict (l 174) (u 1 1 5) Write 1 ∷ [])
    ∷ (event.Call (l 174) 1 op.Len, body.Conflict (l 174) (u 1 1 5) Write 1 ∷ [])
    ∷ (event.Begin (l 177) 1, body.Began (l 177) kind.Top (u 1 1 17) None ∷ [])
    ∷ (event.BeginIn (l 178) (l 165), body.Began (l 178) kind.Constituent (u 1 1 18) (Some (l 165)) ∷ [])
    ∷ (event.Begin (l 179) 1, body.Began (l 179) kind.Top (u 1 1 19) None ∷ [])
    ∷ (event.Commit (l 178), body.Committing (l 178) ∷ body.Committed (l 178) ∷ [])
    ∷ (event.Call (l 177) 1 (op.Push 3), body.Granted 1 (u 1 1 17) (u 0 1 1) Read ∷ body.Conflict (l 177) (u 1 1 5) Write 1 ∷ [])
    ∷ (event.Top (l 180) (l 179), body.Began (l 180) kind.Independent (u 1 1 20) (Some (l 179)) ∷ [])
    ∷ (event.BeginIn (l 181) (l 165), body.Began (l 181) kind.Constituent (u 1 1 21) (Some (l 165)) ∷ [])
    ∷ (event.BeginIn (l 182) (l 181), body.Began (l 182) kind.Nested (u 1 1 22) (Some (l 181)) ∷ [])
    ∷ (event.Call (l 180) 1 (op.Push 3), body.Granted 1 (u 1 1 20) (u 0 1 1) Read ∷ body.Conflict (l 180) (u 1 1 5) Write 1 ∷ [])
    ∷ (event.Call (l 180) 1 op.Len, body.Conflict (l 180) (u 1 1 5) Write 1 ∷ [])
    ∷ (event.Call (l 174) 1 (op.Push 0), body.Conflict (l 174) (u 1 1 5) Write 1 ∷ [])
    ∷ (event.BeginIn (l 183) (l 179), body.Began (l 183) kind.Nested (u 1 1 23) (Some (l 179)) ∷ [])
    ∷ (event.Call (l 181) 1 (op.Push 4), body.Granted 1 (u 1 1 21) (u 0 0 1) Write ∷ body.Ok (l 181) 1 (op.Push 4) (codes "done") ∷ [])
    ∷ (event.Call (l 174) 1 (op.Push 3), body.Conflict (l 174) (u 1 1 5) Write 1 ∷ [])
    ∷ (event.Call (l 182) 1 op.Len, body.Granted 1 (u 1 1 22) (u 0 0 1) Read ∷ body.Ok (l 182) 1 op.Len (codes "3") ∷ [])
    ∷ (event.Call (l 174) 1 op.Len, body.Conflict (l 174) (u 1 1 5) Write 1 ∷ [])
    ∷ (event.Call (l 180) 1 op.Len, body.Conflict (l 180) (u 1 1 5) Write 1 ∷ [])
    ∷ (event.Commit (l 182), body.Committed (l 182) ∷ body.Told 1 (u 1 1 22) Commit part.Server ∷ [])
    ∷ (event.Call (l 183) 1 (op.Push 3), body.Granted 1 (u 1 1 19) (u 0 1 1) Read ∷ body.Conflict (l 183) (u 1 1 5) Write 1 ∷ [])
    ∷ (event.Call (l 174) 1 op.Pop, body.Conflict (l 174) (u 1 1 5) Write 1 ∷ [])
    ∷ (
      event.Abort (l 179),
      body.Aborted (l 183) cause.Asked ∷ body.Aborted (l 179) cause.Asked ∷ body.Told 1 (u 1 1 19) Abort part.Naming ∷ [],
    ) ∷ (event.BeginIn (l 184) (l 168), body.Began (l 184) kind.Constituent (u 1 1 24) (Some (l 168)) ∷ [])
    ∷ (event.Top (l 185) (l 181), body.Began (l 185) kind.Independent (u 1 1 25) (Some (l 181)) ∷ [])
    ∷ (event.Call (l 174) 1 op.Len, body.Conflict (l 174) (u 1 1 5) Write 1 ∷ [])
    ∷ (event.BeginIn (l 186) (l 168), body.Began (l 186) kind.Constituent (u 1 1 26) (Some (l 168)) ∷ [])
    ∷ (event.Call (l 177) 1 op.Len, body.Conflict (l 177) (u 1 1 5) Write 1 ∷ [])
    ∷ (event.Commit (l 174), body.Committing (l 174) ∷ body.Committed (l 174) ∷ body.Told 1 (u 1 1 14) Abort part.Naming ∷ [])
    ∷ (event.Call (l 185) 1 (op.Push 2), body.Granted 1 (u 1 1 25) (u 0 1 1) Read ∷ body.Conflict (l 185) (u 1 1 5) Write 1 ∷ [])
    ∷ (event.BeginIn (l 187) (l 168), body.Began (l 187) kind.Constituent (u 1 1 27) (Some (l 168)) ∷ [])
    ∷ (event.Call (l 186) 1 (op.Push 3), body.Granted 1 (u 1 1 26) (u 0 1 1) Read ∷ body.Conflict (l 186) (u 1 1 5) Write 1 ∷ [])
    ∷ (event.BeginIn (l 188) (l 165), body.Began (l 188) kind.Constituent (u 1 1 28) (Some (l 165)) ∷ [])
    ∷ (event.BeginIn (l 189) (l 168), body.Began (l 189) kind.Constituent (u 1 1 29) (Some (l 168)) ∷ [])
    ∷ (
      event.Commit (l 181),
      body.Committing (l 181) ∷ body.Prepared 1 (u 1 1 21) role.Store ∷ body.Committed (l 181)
          ∷ body.Done 1 (u 1 1 21) role.Store Commit ∷ body.Told 1 (u 1 1 21) Commit part.Server ∷ [],
    )
    ∷ (
      event.Abort (l 168),
      body.Aborted (l 189) cause.Asked ∷ body.Aborted (l 187) cause.Asked ∷ body.Aborted (l 186) cause.Asked
          ∷ body.Aborted (l 184) cause.Asked ∷ body.Aborted (l 168) cause.Asked ∷ body.Told 1 (u 1 1 26) Abort part.Naming ∷ [],
    ) ∷ (event.BeginIn (l 190) (l 165), body.Began (l 190) kind.Constituent (u 1 1 30) (Some (l 165)) ∷ [])
    ∷ (event.Commit (l 190), body.Committing (l 190) ∷ body.Committed (l 190) ∷ [])
    ∷ (event.Call (l 185) 1 (op.Push 0), body.Conflict (l 185) (u 1 1 5) Write 1 ∷ [])
    ∷ (event.Abort (l 180), body.Aborted (l 180) cause.Asked ∷ body.Told 1 (u 1 1 20) Abort part.Naming ∷ [])
    ∷ (event.BeginIn (l 191) (l 165), body.Began (l 191) kind.Constituent (u 1 1 31) (Some (l 165)) ∷ [])
    ∷ (event.Begin (l 192) 1, body.Began (l 192) kind.Top (u 1 1 32) None ∷ [])
    ∷ (event.Begin (l 193) 1, body.Began (l 193) kind.Top (u 1 1 33) None ∷ [])
    ∷ (event.Commit (l 185), body.Committing (l 185) ∷ body.Committed (l 185) ∷ body.Told 1 (u 1 1 25) Abort part.Naming ∷ [])
    ∷ (event.BeginIn (l 194) (l 191), body.Began (l 194) kind.Nested (u 1 1 34) (Some (l 191)) ∷ [])
    ∷ (event.Commit (l 192), body.Committing (l 192) ∷ body.Committed (l 192) ∷ [])
    ∷ (event.Call (l 177) 1 op.Len, body.Conflict (l 177) (u 1 1 5) Write 1 ∷ [])
    ∷ (event.Commit (l 188), body.Committing (l 188) ∷ body.Committed (l 188) ∷ [])
    ∷ (event.Call (l 193) 1 op.Len, body.Granted 1 (u 1 1 33) (u 0 1 1) Read ∷ body.Conflict (l 193) (u 1 1 5) Write 1 ∷ [])
    ∷ (event.Begin (l 195) 1, body.Began (l 195) kind.Top (u 1 1 35) None ∷ [])
    ∷ (event.Call (l 191) 1 op.Len, body.Granted 1 (u 1 1 31) (u 0 0 1) Read ∷ body.Ok (l 191) 1 op.Len (codes "3") ∷ [])
    ∷ (event.Call (l 191) 1 op.Len, body.Ok (l 191) 1 op.Len (codes "3") ∷ [])
    ∷ (event.Serial (l 196) 1, body.Began (l 196) kind.Serial (u 1 1 36) None ∷ [])
    ∷ (event.Call (l 195) 1 op.Len, body.Granted 1 (u 1 1 35) (u 0 1 1) Read ∷ body.Conflict (l 195) (u 1 1 5) Write 1 ∷ [])
    ∷ (event.Top (l 197) (l 193), body.Began (l 197) kind.Independent (u 1 1 37) (Some (l 193)) ∷ [])
    ∷ (event.BeginIn (l 198) (l 196), body.Began (l 198) kind.Constituent (u 1 1 38) (Some (l 196)) ∷ [])
    ∷ (event.Call (l 193) 1 (op.Push 4), body.Conflict (l 193) (u 1 1 5) Write 1 ∷ [])
    ∷ (
      event.Show 1,
      body.Entry 1 0 (1 ∷ []) (1 ∷ []) ∷ body.Copy 1 1 4 (u 1 1 21) (0 ∷ 0 ∷ 0 ∷ 0 ∷ 0 ∷ 0 ∷ 0 ∷ 4 ∷ 0 ∷ 0 ∷ 0 ∷ 0 ∷ 0 ∷ 0 ∷ 0 ∷ 1 ∷ 0
          ∷ 0 ∷ 0 ∷ 0 ∷ 0 ∷ 0 ∷ 0 ∷ 4 ∷ []) ∷ [],
    ) ∷ (event.Call (l 193) 1 op.Len, body.Conflict (l 193) (u 1 1 5) Write 1 ∷ [])
    ∷ (event.Commit (l 197), body.Committing (l 197) ∷ body.Committed (l 197) ∷ [])
    ∷ (event.BeginIn (l 199) (l 165), body.Began (l 199) kind.Constituent (u 1 1 39) (Some (l 165)) ∷ [])
    ∷ (event.Call (l 195) 1 (op.Push 1), body.Conflict (l 195) (u 1 1 5) Write 1 ∷ [])
    ∷ (event.Call (l 193) 1 (op.Push 0), body.Conflict (l 193) (u 1 1 5) Write 1 ∷ [])
    ∷ (event.Call (l 191) 1 op.Pop, body.Granted 1 (u 1 1 31) (u 0 0 1) Write ∷ body.Ok (l 191) 1 op.Pop (codes "4") ∷ [])
    ∷ (event.Call (l 199) 1 (op.Push 1), body.Conflict (l 199) (u 1 1 31) Write 1 ∷ [])
    ∷ (event.Top (l 200) (l 194), body.Began (l 200) kind.Independent (u 1 1 40) (Some (l 194)) ∷ [])
    ∷ (event.Call (l 177) 1 op.Pop, body.Conflict (l 177) (u 1 1 5) Write 1 ∷ [])
    ∷ (event.Abort (l 193), body.Aborted (l 193) cause.Asked ∷ body.Told 1 (u 1 1 33) Abort part.Naming ∷ [])
    ∷ (event.Call (l 200) 1 (op.Push 4), body.Granted 1 (u 1 1 40) (u 0 1 1) Read ∷ body.Conflict (l 200) (u 1 1 5) Write 1 ∷ [])
    ∷ (event.Call (l 199) 1 op.Len, body.Conflict (l 199) (u 1 1 31) Write 1 ∷ [])
    ∷ (event.Call (l 198) 1 (op.Push 3), body.Granted 1 (u 1 1 38) (u 0 1 1) Read ∷ body.Conflict (l 198) (u 1 1 5) Write 1 ∷ [])
    ∷ (event.Abort (l 198), body.Aborted (l 198) cause.Asked ∷ body.Told 1 (u 1 1 38) Abort part.Naming ∷ [])
    ∷ (event.Call (l 195) 1 op.Len, body.Conflict (l 195) (u 1 1 5) Write 1 ∷ [])
    ∷ (event.BeginIn (l 201) (l 196), body.Began (l 201) kind.Constituent (u 1 1 41) (Some (l 196)) ∷ [])
    ∷ (event.Call (l 191) 1 op.Len, body.Ok (l 191) 1 op.Len (codes "2") ∷ [])
    ∷ (event.Call (l 195) 1 (op.Push 2), body.Conflict (l 195) (u 1 1 5) Write 1 ∷ [])
    ∷ (
      event.Abort (l 165),
      body.Aborted (l 199) cause.Asked ∷ body.Aborted (l 194) cause.Asked ∷ body.Aborted (l 191) cause.Asked
          ∷ body.Aborted (l 165) cause.Asked ∷ body.Told 1 (u 1 1 31) Abort part.Server ∷ body.Told 1 (u 1 1 5) Abort part.Naming
          ∷ body.Told 1 (u 1 1 5) Abort part.Server ∷ [],
    ) ∷ (event.Top (l 202) (l 195), body.Began (l 202) kind.Independent (u 1 1 42) (Some (l 195)) ∷ [])
    ∷ (event.Commit (l 202), body.Committing (l 202) ∷ body.Committed (l 202) ∷ [])
    ∷ (
      event.Show 1,
      body.Entry 1 0 (1 ∷ []) (1 ∷ []) ∷ body.Copy 1 1 4 (u 1 1 21) (0 ∷ 0 ∷ 0 ∷ 0 ∷ 0 ∷ 0 ∷ 0 ∷ 4 ∷ 0 ∷ 0 ∷ 0 ∷ 0 ∷ 0 ∷ 0 ∷ 0 ∷ 1 ∷ 0
          ∷ 0 ∷ 0 ∷ 0 ∷ 0 ∷ 0 ∷ 0 ∷ 4 ∷ []) ∷ [],
    ) ∷ (event.Serial (l 203) 1, body.Began (l 203) kind.Serial (u 1 1 43) None ∷ [])
    ∷ (event.Abort (l 196), body.Aborted (l 201) cause.Asked ∷ body.Aborted (l 196) cause.Asked ∷ [])
    ∷ (event.Abort (l 203), body.Aborted (l 203) cause.Asked ∷ [])
    ∷ (event.Call (l 195) 1 op.Len, body.Granted 1 (u 1 1 35) (u 0 0 1) Read ∷ body.Ok (l 195) 1 op.Len (codes "3") ∷ [])
    ∷ (event.BeginIn (l 204) (l 200), body.Began (l 204) kind.Nested (u 1 1 44) (Some (l 200)) ∷ [])
    ∷ (event.Begin (l 205) 1, body.Began (l 205) kind.Top (u 1 1 45) None ∷ [])
    ∷ (event.Call (l 177) 1 op.Len, body.Granted 1 (u 1 1 17) (u 0 0 1) Read ∷ body.Ok (l 177) 1 op.Len (codes "3") ∷ [])
    ∷ (event.Call (l 205) 1 (op.Push 4), body.Granted 1 (u 1 1 45) (u 0 1 1) Read ∷ body.Conflict (l 205) (u 1 1 35) Read 1 ∷ [])
    ∷ (event.Begin (l 206) 1, body.Began (l 206) kind.Top (u 1 1 46) None ∷ [])
    ∷ (
      event.Commit (l 195),
      body.Committing (l 195) ∷ body.Committed (l 195) ∷ body.Told 1 (u 1 1 35) Commit part.Naming
          ∷ body.Told 1 (u 1 1 35) Commit part.Server ∷ [],
    ) ∷ (event.BeginIn (l 207) (l 206), body.Began (l 207) kind.Nested (u 1 1 47) (Some (l 206)) ∷ [])
    ∷ (
      event.Commit (l 177),
      body.Committing (l 177) ∷ body.Committed (l 177) ∷ body.Told 1 (u 1 1 17) Commit part.Naming
          ∷ body.Told 1 (u 1 1 17) Commit part.Server ∷ [],
    ) ∷ (event.Begin (l 208) 1, body.Began (l 208) kind.Top (u 1 1 48) None ∷ [])
    ∷ (
      event.Call (l 207) 1 (op.Push 2),
      body.Granted 1 (u 1 1 46) (u 0 1 1) Read ∷ body.Granted 1 (u 1 1 47) (u 0 0 1) Write
          ∷ body.Ok (l 207) 1 (op.Push 2) (codes "done") ∷ [],
    ) ∷ (event.BeginIn (l 209) (l 207), body.Began (l 209) kind.Nested (u 1 1 49) (Some (l 207)) ∷ [])
    ∷ (event.BeginIn (l 210) (l 208), body.Began (l 210) kind.Nested (u 1 1 50) (Some (l 208)) ∷ [])
    ∷ (event.Begin (l 211) 1, body.Began (l 211) kind.Top (u 1 1 51) None ∷ [])
    ∷ (event.Call (l 207) 1 (op.Push 1), body.Ok (l 207) 1 (op.Push 1) (codes "done") ∷ [])
    ∷ (event.Top (l 212) (l 211), body.Began (l 212) kind.Independent (u 1 1 52) (Some (l 211)) ∷ [])
    ∷ (event.Call (l 207) 1 op.Len, body.Ok (l 207) 1 op.Len (codes "5") ∷ [])
    ∷ (event.Call (l 206) 1 op.Pop, body.Conflict (l 206) (u 1 1 47) Write 1 ∷ [])
    ∷ (event.Call (l 206) 1 (op.Push 2), body.Conflict (l 206) (u 1 1 47) Write 1 ∷ [])
    ∷ (event.Call (l 212) 1 (op.Push 2), body.Granted 1 (u 1 1 52) (u 0 1 1) Read ∷ body.Conflict (l 212) (u 1 1 47) Write 1 ∷ [])
    ∷ (event.Commit (l 209), body.Committed (l 209) ∷ []) ∷ [])

local_1_follows : is_followed local_1 ≡ true
local_1_follows = refl

local_1_has_causes : lacking local_1 ≡ []
local_1_has_causes = refl

abbrev local_2 : Run
local_2 = run
    (nodes 1 (object_line 1 (value.Account 1) (1 ∷ []) (1 ∷ []) ∷ []))
    ((event.Begin (l 161) 1, body.Began (l 161) kind.Top (u 1 1 1) None ∷ [])
    ∷ (
      event.Call (l 161) 1 (op.Deposit 4),
      body.Granted 1 (u 1 1 1) (u 0 1 1) Write ∷ body.Bound 1 (b 1 1) 1 ∷ body.Active 1 1 (b 1 1) ∷ body.Lowered 1 (u 1 1 1) (u 0 1 1)
          ∷ body.Granted 1 (u 1 1 1) (u 0 0 1) Write ∷ body.Ok (l 161) 1 (op.Deposit 4) (codes "done") ∷ [],
    ) ∷ (event.Begin (l 162) 1, body.Began (l 162) kind.Top (u 1 1 2) None ∷ [])
    ∷ (
      event.Commit (l 161),
      body.Committing (l 161) ∷ body.Prepared 1 (u 1 1 1) role.Store ∷ body.Committed (l 161) ∷ body.Done 1 (u 1 1 1) role.Store Commit
          ∷ body.Told 1 (u 1 1 1) Commit part.Naming ∷ body.Told 1 (u 1 1 1) Commit part.Server ∷ [],
    )
    ∷ (
      event.Call (l 162) 1 (op.Withdraw 3),
      body.Granted 1 (u 1 1 2) (u 0 1 1) Read ∷ body.Granted 1 (u 1 1 2) (u 0 0 1) Write
          ∷ body.Ok (l 162) 1 (op.Withdraw 3) (codes "done") ∷ [],
    ) ∷ (event.Call (l 162) 1 op.Get, body.Ok (l 162) 1 op.Get (codes "2") ∷ [])
    ∷ (
      event.Commit (l 162),
      body.Committing (l 162) ∷ body.Prepared 1 (u 1 1 2) role.Store ∷ body.Committed (l 162) ∷ body.Done 1 (u 1 1 2) role.Store Commit
          ∷ body.Told 1 (u 1 1 2) Commit part.Naming ∷ body.Told 1 (u 1 1 2) Commit part.Server ∷ [],
    ) ∷ (event.Show 1, body.Entry 1 0 (1 ∷ []) (1 ∷ []) ∷ body.Copy 1 1 2 (u 1 1 2) (0 ∷ 0 ∷ 0 ∷ 0 ∷ 0 ∷ 0 ∷ 0 ∷ 2 ∷ []) ∷ [])
    ∷ (event.Begin (l 163) 1, body.Began (l 163) kind.Top (u 1 1 3) None ∷ [])
    ∷ (event.BeginIn (l 164) (l 163), body.Began (l 164) kind.Nested (u 1 1 4) (Some (l 163)) ∷ [])
    ∷ (
      event.Call (l 164) 1 (op.Withdraw 0),
      body.Granted 1 (u 1 1 3) (u 0 1 1) Read ∷ body.Granted 1 (u 1 1 4) (u 0 0 1) Write
          ∷ body.Ok (l 164) 1 (op.Withdraw 0) (codes "done") ∷ [],
    ) ∷ (event.Commit (l 164), body.Committed (l 164) ∷ body.Told 1 (u 1 1 4) Commit part.Server ∷ [])
    ∷ (
      event.Commit (l 163),
      body.Committing (l 163) ∷ body.Prepared 1 (u 1 1 3) role.Store ∷ body.Committed (l 163) ∷ body.Done 1 (u 1 1 3) role.Store Commit
          ∷ body.Told 1 (u 1 1 3) Commit part.Naming ∷ body.Told 1 (u 1 1 3) Commit part.Server ∷ [],
    ) ∷ (event.Begin (l 165) 1, body.Began (l 165) kind.Top (u 1 1 5) None ∷ [])
    ∷ (event.Begin (l 166) 1, body.Began (l 166) kind.Top (u 1 1 6) None ∷ [])
    ∷ (
      event.Call (l 166) 1 op.Get,
      body.Granted 1 (u 1 1 6) (u 0 1 1) Read ∷ body.Granted 1 (u 1 1 6) (u 0 0 1) Read ∷ body.Ok (l 166) 1 op.Get (codes "2") ∷ [],
    )
    ∷ (
      event.Commit (l 166),
      body.Committing (l 166) ∷ body.Committed (l 166) ∷ body.Told 1 (u 1 1 6) Commit part.Naming
          ∷ body.Told 1 (u 1 1 6) Commit part.Server ∷ [],
    ) ∷ (event.BeginIn (l 167) (l 165), body.Began (l 167) kind.Nested (u 1 1 7) (Some (l 165)) ∷ [])
    ∷ (event.BeginIn (l 168) (l 167), body.Began (l 168) kind.Nested (u 1 1 8) (Some (l 167)) ∷ [])
    ∷ (
      event.Call (l 168) 1 op.Get,
      body.Granted 1 (u 1 1 5) (u 0 1 1) Read ∷ body.Granted 1 (u 1 1 8) (u 0 0 1) Read ∷ body.Ok (l 168) 1 op.Get (codes "2") ∷ [],
    ) ∷ (event.Call (l 167) 1 (op.Withdraw 18446744073709551615), body.Conflict (l 167) (u 1 1 8) Read 1 ∷ [])
    ∷ (event.BeginIn (l 169) (l 168), body.Began (l 169) kind.Nested (u 1 1 9) (Some (l 168)) ∷ [])
    ∷ (event.Serial (l 170) 1, body.Began (l 170) kind.Serial (u 1 1 10) None ∷ [])
    ∷ (event.Call (l 168) 1 op.Get, body.Ok (l 168) 1 op.Get (codes "2") ∷ [])
    ∷ (event.Serial (l 171) 1, body.Began (l 171) kind.Serial (u 1 1 11) None ∷ []) ∷ (event.Commit (l 170), body.Ended (l 170) ∷ [])
    ∷ (event.Commit (l 171), body.Ended (l 171) ∷ [])
    ∷ (event.BeginIn (l 172) (l 169), body.Began (l 172) kind.Nested (u 1 1 12) (Some (l 169)) ∷ [])
    ∷ (event.Begin (l 173) 1, body.Began (l 173) kind.Top (u 1 1 13) None ∷ [])
    ∷ (event.BeginIn (l 174) (l 169), body.Began (l 174) kind.Nested (u 1 1 14) (Some (l 169)) ∷ [])
    ∷ (event.Call (l 167) 1 (op.Deposit 0), body.Conflict (l 167) (u 1 1 8) Read 1 ∷ [])
    ∷ (event.Begin (l 175) 1, body.Began (l 175) kind.Top (u 1 1 15) None ∷ [])
    ∷ (event.Commit (l 175), body.Committing (l 175) ∷ body.Committed (l 175) ∷ [])
    ∷ (event.BeginIn (l 176) (l 173), body.Began (l 176) kind.Nested (u 1 1 16) (Some (l 173)) ∷ [])
    ∷ (event.Call (l 167) 1 op.Get, body.Granted 1 (u 1 1 7) (u 0 0 1) Read ∷ body.Ok (l 167) 1 op.Get (codes "2") ∷ [])
    ∷ (event.BeginIn (l 177) (l 172), body.Began (l 177) kind.Nested (u 1 1 17) (Some (l 172)) ∷ [])
    ∷ (event.Commit (l 177), body.Committed (l 177) ∷ [])
    ∷ (event.BeginIn (l 178) (l 168), body.Began (l 178) kind.Nested (u 1 1 18) (Some (l 168)) ∷ [])
    ∷ (
      event.Call (l 169) 1 (op.Deposit 1),
      body.Granted 1 (u 1 1 9) (u 0 0 1) Write ∷ body.Ok (l 169) 1 (op.Deposit 1) (codes "done") ∷ [],
    ) ∷ (event.Commit (l 174), body.Committed (l 174) ∷ [])
    ∷ (event.Call (l 169) 1 (op.Deposit 2), body.Ok (l 169) 1 (op.Deposit 2) (codes "done") ∷ [])
    ∷ (event.Serial (l 179) 1, body.Began (l 179) kind.Serial (u 1 1 19) None ∷ [])
    ∷ (event.Call (l 178) 1 (op.Deposit 1), body.Conflict (l 178) (u 1 1 9) Write 1 ∷ [])
    ∷ (event.Call (l 167) 1 (op.Withdraw 1), body.Conflict (l 167) (u 1 1 8) Read 1 ∷ [])
    ∷ (event.Commit (l 172), body.Committed (l 172) ∷ [])
    ∷ (event.BeginIn (l 180) (l 179), body.Began (l 180) kind.Constituent (u 1 1 20) (Some (l 179)) ∷ [])
    ∷ (event.Top (l 181) (l 165), body.Began (l 181) kind.Independent (u 1 1 21) (Some (l 165)) ∷ [])
    ∷ (event.Commit (l 169), body.Committed (l 169) ∷ body.Told 1 (u 1 1 9) Commit part.Server ∷ [])
    ∷ (event.Call (l 167) 1 op.Get, body.Conflict (l 167) (u 1 1 8) Write 1 ∷ [])
    ∷ (
      event.Call (l 178) 1 (op.Withdraw 3),
      body.Granted 1 (u 1 1 18) (u 0 0 1) Write ∷ body.Ok (l 178) 1 (op.Withdraw 3) (codes "done") ∷ [],
    ) ∷ (event.Commit (l 178), body.Committed (l 178) ∷ body.Told 1 (u 1 1 18) Commit part.Server ∷ [])
    ∷ (event.Call (l 180) 1 (op.Deposit 2), body.Granted 1 (u 1 1 20) (u 0 1 1) Read ∷ body.Conflict (l 180) (u 1 1 8) Write 1 ∷ [])
    ∷ (event.Commit (l 180), body.Committing (l 180) ∷ body.Committed (l 180) ∷ body.Told 1 (u 1 1 20) Abort part.Naming ∷ [])
    ∷ (event.Call (l 168) 1 (op.Withdraw 3), body.Ok (l 168) 1 (op.Withdraw 3) (codes "short") ∷ [])
    ∷ (event.Call (l 176) 1 (op.Deposit 3), body.Granted 1 (u 1 1 13) (u 0 1 1) Read ∷ body.Conflict (l 176) (u 1 1 8) Write 1 ∷ [])
    ∷ (event.Call (l 167) 1 (op.Deposit 3), body.Conflict (l 167) (u 1 1 8) Write 1 ∷ [])
    ∷ (event.Commit (l 168), body.Committed (l 168) ∷ body.Told 1 (u 1 1 8) Commit part.Server ∷ [])
    ∷ (event.Call (l 181) 1 (op.Withdraw 2), body.Granted 1 (u 1 1 21) (u 0 1 1) Read ∷ body.Conflict (l 181) (u 1 1 7) Write 1 ∷ [])
    ∷ (event.Call (l 173) 1 (op.Withdraw 3), body.Conflict (l 173) (u 1 1 7) Write 1 ∷ [])
    ∷ (event.Commit (l 167), body.Committed (l 167) ∷ body.Told 1 (u 1 1 7) Commit part.Server ∷ [])
    ∷ (
      event.Commit (l 165),
      body.Committing (l 165) ∷ body.Prepared 1 (u 1 1 5) role.Store ∷ body.Committed (l 165) ∷ body.Done 1 (u 1 1 5) role.Store Commit
          ∷ body.Told 1 (u 1 1 5) Commit part.Naming ∷ body.Told 1 (u 1 1 5) Commit part.Server ∷ [],
    ) ∷ (event.Call (l 181) 1 op.Get, body.Granted 1 (u 1 1 21) (u 0 0 1) Read ∷ body.Ok (l 181) 1 op.Get (codes "2") ∷ [])
    ∷ (event.Call (l 173) 1 (op.Withdraw 0), body.Conflict (l 173) (u 1 1 21) Read 1 ∷ [])
    ∷ (event.BeginIn (l 182) (l 179), body.Began (l 182) kind.Constituent (u 1 1 22) (Some (l 179)) ∷ [])
    ∷ (
      event.Commit (l 181),
      body.Committing (l 181) ∷ body.Committed (l 181) ∷ body.Told 1 (u 1 1 21) Commit part.Naming
          ∷ body.Told 1 (u 1 1 21) Commit part.Server ∷ [],
    )
    ∷ (
      event.Call (l 176) 1 (op.Withdraw 2),
      body.Granted 1 (u 1 1 16) (u 0 0 1) Write ∷ body.Ok (l 176) 1 (op.Withdraw 2) (codes "done") ∷ [],
    ) ∷ (event.Call (l 173) 1 op.Get, body.Conflict (l 173) (u 1 1 16) Write 1 ∷ [])
    ∷ (event.Commit (l 176), body.Committed (l 176) ∷ body.Told 1 (u 1 1 16) Commit part.Server ∷ [])
    ∷ (
      event.Commit (l 173),
      body.Committing (l 173) ∷ body.Prepared 1 (u 1 1 13) role.Store ∷ body.Committed (l 173)
          ∷ body.Done 1 (u 1 1 13) role.Store Commit ∷ body.Told 1 (u 1 1 13) Commit part.Naming
          ∷ body.Told 1 (u 1 1 13) Commit part.Server ∷ [],
    ) ∷ (event.Begin (l 183) 1, body.Began (l 183) kind.Top (u 1 1 23) None ∷ [])
    ∷ (
      event.Call (l 183) 1 op.Get,
      body.Granted 1 (u 1 1 23) (u 0 1 1) Read ∷ body.Granted 1 (u 1 1 23) (u 0 0 1) Read ∷ body.Ok (l 183) 1 op.Get (codes "0") ∷ [],
    ) ∷ (event.Abort (l 179), body.Aborted (l 182) cause.Asked ∷ body.Aborted (l 179) cause.Asked ∷ [])
    ∷ (event.Serial (l 184) 1, body.Began (l 184) kind.Serial (u 1 1 24) None ∷ []) ∷ (event.Commit (l 184), body.Ended (l 184) ∷ [])
    ∷ (
      event.Commit (l 183),
      body.Committing (l 183) ∷ body.Committed (l 183) ∷ body.Told 1 (u 1 1 23) Commit part.Naming
          ∷ body.Told 1 (u 1 1 23) Commit part.Server ∷ [],
    ) ∷ (event.Serial (l 185) 1, body.Began (l 185) kind.Serial (u 1 1 25) None ∷ [])
    ∷ (event.Serial (l 186) 1, body.Began (l 186) kind.Serial (u 1 1 26) None ∷ [])
    ∷ (event.Serial (l 187) 1, body.Began (l 187) kind.Serial (u 1 1 27) None ∷ [])
    ∷ (event.Abort (l 186), body.Aborted (l 186) cause.Asked ∷ [])
    ∷ (event.Begin (l 188) 1, body.Began (l 188) kind.Top (u 1 1 28) None ∷ [])
    ∷ (event.Abort (l 188), body.Aborted (l 188) cause.Asked ∷ [])
    ∷ (event.Show 1, body.Entry 1 0 (1 ∷ []) (1 ∷ []) ∷ body.Copy 1 1 5 (u 1 1 13) (0 ∷ 0 ∷ 0 ∷ 0 ∷ 0 ∷ 0 ∷ 0 ∷ 0 ∷ []) ∷ [])
    ∷ (event.Abort (l 187), body.Aborted (l 187) cause.Asked ∷ [])
    ∷ (event.Serial (l 189) 1, body.Began (l 189) kind.Serial (u 1 1 29) None ∷ [])
    ∷ (event.Abort (l 189), body.Aborted (l 189) cause.Asked ∷ [])
    ∷ (event.Begin (l 190) 1, body.Began (l 190) kind.Top (u 1 1 30) None ∷ [])
    ∷ (
      event.Call (l 190) 1 (op.Withdraw 2),
      body.Granted 1 (u 1 1 30) (u 0 1 1) Read ∷ body.Granted 1 (u 1 1 30) (u 0 0 1) Write
          ∷ body.Ok (l 190) 1 (op.Withdraw 2) (codes "short") ∷ [],
    ) ∷ (event.Begin (l 191) 1, body.Began (l 191) kind.Top (u 1 1 31) None ∷ [])
    ∷ (event.Call (l 190) 1 (op.Deposit 2), body.Ok (l 190) 1 (op.Deposit 2) (codes "done") ∷ [])
    ∷ (event.Commit (l 191), body.Committing (l 191) ∷ body.Committed (l 191) ∷ [])
    ∷ (event.Begin (l 192) 1, body.Began (l 192) kind.Top (u 1 1 32) None ∷ [])
    ∷ (
      event.Commit (l 190),
      body.Committing (l 190) ∷ body.Prepared 1 (u 1 1 30) role.Store ∷ body.Committed (l 190)
          ∷ body.Done 1 (u 1 1 30) role.Store Commit ∷ body.Told 1 (u 1 1 30) Commit part.Naming
          ∷ body.Told 1 (u 1 1 30) Commit part.Server ∷ [],
    ) ∷ (event.BeginIn (l 193) (l 192), body.Began (l 193) kind.Nested (u 1 1 33) (Some (l 192)) ∷ [])
    ∷ (event.Begin (l 194) 1, body.Began (l 194) kind.Top (u 1 1 34) None ∷ [])
    ∷ (
      event.Call (l 194) 1 (op.Withdraw 3),
      body.Granted 1 (u 1 1 34) (u 0 1 1) Read ∷ body.Granted 1 (u 1 1 34) (u 0 0 1) Write
          ∷ body.Ok (l 194) 1 (op.Withdraw 3) (codes "short") ∷ [],
    ) ∷ (event.Call (l 192) 1 (op.Withdraw 2), body.Granted 1 (u 1 1 32) (u 0 1 1) Read ∷ body.Conflict (l 192) (u 1 1 34) Write 1 ∷ [])
    ∷ (event.Call (l 193) 1 (op.Withdraw 4), body.Conflict (l 193) (u 1 1 34) Write 1 ∷ [])
    ∷ (event.Call (l 193) 1 (op.Withdraw 1), body.Conflict (l 193) (u 1 1 34) Write 1 ∷ [])
    ∷ (event.Call (l 192) 1 op.Get, body.Conflict (l 192) (u 1 1 34) Write 1 ∷ [])
    ∷ (
      event.Abort (l 194),
      body.Aborted (l 194) cause.Asked ∷ body.Told 1 (u 1 1 34) Abort part.Naming ∷ body.Told 1 (u 1 1 34) Abort part.Server ∷ [],
    )
    ∷ (
      event.Call (l 193) 1 (op.Withdraw 3),
      body.Granted 1 (u 1 1 33) (u 0 0 1) Write ∷ body.Ok (l 193) 1 (op.Withdraw 3) (codes "short") ∷ [],
    ) ∷ (event.Show 1, body.Entry 1 0 (1 ∷ []) (1 ∷ []) ∷ body.Copy 1 1 6 (u 1 1 30) (0 ∷ 0 ∷ 0 ∷ 0 ∷ 0 ∷ 0 ∷ 0 ∷ 2 ∷ []) ∷ [])
    ∷ (event.Commit (l 193), body.Committed (l 193) ∷ body.Told 1 (u 1 1 33) Commit part.Server ∷ [])
    ∷ (event.Begin (l 195) 1, body.Began (l 195) kind.Top (u 1 1 35) None ∷ [])
    ∷ (event.Call (l 195) 1 (op.Deposit 1), body.Granted 1 (u 1 1 35) (u 0 1 1) Read ∷ body.Conflict (l 195) (u 1 1 32) Write 1 ∷ [])
    ∷ (event.BeginIn (l 196) (l 185), body.Began (l 196) kind.Constituent (u 1 1 36) (Some (l 185)) ∷ [])
    ∷ (event.Commit (l 196), body.Committing (l 196) ∷ body.Committed (l 196) ∷ [])
    ∷ (event.BeginIn (l 197) (l 185), body.Began (l 197) kind.Constituent (u 1 1 37) (Some (l 185)) ∷ [])
    ∷ (event.Call (l 197) 1 op.Get, body.Granted 1 (u 1 1 37) (u 0 1 1) Read ∷ body.Conflict (l 197) (u 1 1 32) Write 1 ∷ [])
    ∷ (event.Call (l 197) 1 (op.Deposit 2), body.Conflict (l 197) (u 1 1 32) Write 1 ∷ [])
    ∷ (event.Call (l 197) 1 op.Get, body.Conflict (l 197) (u 1 1 32) Write 1 ∷ [])
    ∷ (event.Commit (l 195), body.Committing (l 195) ∷ body.Committed (l 195) ∷ body.Told 1 (u 1 1 35) Abort part.Naming ∷ [])
    ∷ (event.Begin (l 198) 1, body.Began (l 198) kind.Top (u 1 1 38) None ∷ [])
    ∷ (event.BeginIn (l 199) (l 185), body.Began (l 199) kind.Constituent (u 1 1 39) (Some (l 185)) ∷ [])
    ∷ (event.Call (l 192) 1 op.Get, body.Ok (l 192) 1 op.Get (codes "2") ∷ [])
    ∷ (event.Call (l 199) 1 (op.Deposit 0), body.Granted 1 (u 1 1 39) (u 0 1 1) Read ∷ body.Conflict (l 199) (u 1 1 32) Write 1 ∷ [])
    ∷ (event.Call (l 199) 1 (op.Withdraw 2), body.Conflict (l 199) (u 1 1 32) Write 1 ∷ [])
    ∷ (event.Call (l 192) 1 (op.Withdraw 2), body.Ok (l 192) 1 (op.Withdraw 2) (codes "done") ∷ [])
    ∷ (event.BeginIn (l 200) (l 185), body.Began (l 200) kind.Constituent (u 1 1 40) (Some (l 185)) ∷ [])
    ∷ (event.BeginIn (l 201) (l 197), body.Began (l 201) kind.Nested (u 1 1 41) (Some (l 197)) ∷ [])
    ∷ (event.Commit (l 200), body.Committing (l 200) ∷ body.Committed (l 200) ∷ [])
    ∷ (event.Call (l 197) 1 (op.Deposit 18446744073709551615), body.Conflict (l 197) (u 1 1 32) Write 1 ∷ [])
    ∷ (
      event.Commit (l 192),
      body.Committing (l 192) ∷ body.Prepared 1 (u 1 1 32) role.Store ∷ body.Committed (l 192)
          ∷ body.Done 1 (u 1 1 32) role.Store Commit ∷ body.Told 1 (u 1 1 32) Commit part.Naming
          ∷ body.Told 1 (u 1 1 32) Commit part.Server ∷ [],
    ) ∷ (event.Abort (l 198), body.Aborted (l 198) cause.Asked ∷ [])
    ∷ (event.Show 1, body.Entry 1 0 (1 ∷ []) (1 ∷ []) ∷ body.Copy 1 1 7 (u 1 1 32) (0 ∷ 0 ∷ 0 ∷ 0 ∷ 0 ∷ 0 ∷ 0 ∷ 0 ∷ []) ∷ [])
    ∷ (event.Commit (l 199), body.Committing (l 199) ∷ body.Committed (l 199) ∷ body.Told 1 (u 1 1 39) Abort part.Naming ∷ [])
    ∷ (event.Begin (l 202) 1, body.Began (l 202) kind.Top (u 1 1 42) None ∷ [])
    ∷ (
      event.Call (l 197) 1 (op.Deposit 2),
      body.Granted 1 (u 1 1 37) (u 0 0 1) Write ∷ body.Ok (l 197) 1 (op.Deposit 2) (codes "done") ∷ [],
    ) ∷ (event.Begin (l 203) 1, body.Began (l 203) kind.Top (u 1 1 43) None ∷ [])
    ∷ (event.Top (l 204) (l 202), body.Began (l 204) kind.Independent (u 1 1 44) (Some (l 202)) ∷ [])
    ∷ (event.Call (l 203) 1 (op.Deposit 1), body.Granted 1 (u 1 1 43) (u 0 1 1) Read ∷ body.Conflict (l 203) (u 1 1 37) Write 1 ∷ [])
    ∷ (event.BeginIn (l 205) (l 185), body.Began (l 205) kind.Constituent (u 1 1 45) (Some (l 185)) ∷ [])
    ∷ (event.Call (l 204) 1 (op.Deposit 2), body.Granted 1 (u 1 1 44) (u 0 1 1) Read ∷ body.Conflict (l 204) (u 1 1 37) Write 1 ∷ [])
    ∷ (event.Show 1, body.Entry 1 0 (1 ∷ []) (1 ∷ []) ∷ body.Copy 1 1 7 (u 1 1 32) (0 ∷ 0 ∷ 0 ∷ 0 ∷ 0 ∷ 0 ∷ 0 ∷ 0 ∷ []) ∷ [])
    ∷ (event.Call (l 202) 1 (op.Withdraw 2), body.Granted 1 (u 1 1 42) (u 0 1 1) Read ∷ body.Conflict (l 202) (u 1 1 37) Write 1 ∷ [])
    ∷ (event.Show 1, body.Entry 1 0 (1 ∷ []) (1 ∷ []) ∷ body.Copy 1 1 7 (u 1 1 32) (0 ∷ 0 ∷ 0 ∷ 0 ∷ 0 ∷ 0 ∷ 0 ∷ 0 ∷ []) ∷ [])
    ∷ (event.BeginIn (l 206) (l 185), body.Began (l 206) kind.Constituent (u 1 1 46) (Some (l 185)) ∷ [])
    ∷ (event.Call (l 206) 1 (op.Deposit 2), body.Granted 1 (u 1 1 46) (u 0 1 1) Read ∷ body.Conflict (l 206) (u 1 1 37) Write 1 ∷ [])
    ∷ (event.Call (l 204) 1 (op.Deposit 2), body.Conflict (l 204) (u 1 1 37) Write 1 ∷ [])
    ∷ (event.Commit (l 205), body.Committing (l 205) ∷ body.Committed (l 205) ∷ [])
    ∷ (event.BeginIn (l 207) (l 185), body.Began (l 207) kind.Constituent (u 1 1 47) (Some (l 185)) ∷ [])
    ∷ (event.Call (l 206) 1 (op.Withdraw 1), body.Conflict (l 206) (u 1 1 37) Write 1 ∷ [])
    ∷ (event.Call (l 207) 1 (op.Deposit 4), body.Granted 1 (u 1 1 47) (u 0 1 1) Read ∷ body.Conflict (l 207) (u 1 1 37) Write 1 ∷ [])
    ∷ (event.Commit (l 202), body.Committing (l 202) ∷ body.Committed (l 202) ∷ body.Told 1 (u 1 1 42) Abort part.Naming ∷ [])
    ∷ (event.Commit (l 207), body.Committing (l 207) ∷ body.Committed (l 207) ∷ body.Told 1 (u 1 1 47) Abort part.Naming ∷ [])
    ∷ (event.Commit (l 206), body.Committing (l 206) ∷ body.Committed (l 206) ∷ body.Told 1 (u 1 1 46) Abort part.Naming ∷ [])
    ∷ (event.BeginIn (l 208) (l 204), body.Began (l 208) kind.Nested (u 1 1 48) (Some (l 204)) ∷ [])
    ∷ (event.Show 1, body.Entry 1 0 (1 ∷ []) (1 ∷ []) ∷ body.Copy 1 1 7 (u 1 1 32) (0 ∷ 0 ∷ 0 ∷ 0 ∷ 0 ∷ 0 ∷ 0 ∷ 0 ∷ []) ∷ [])
    ∷ (event.Call (l 208) 1 op.Get, body.Conflict (l 208) (u 1 1 37) Write 1 ∷ [])
    ∷ (event.Call (l 201) 1 op.Get, body.Granted 1 (u 1 1 41) (u 0 0 1) Read ∷ body.Ok (l 201) 1 op.Get (codes "2") ∷ []) ∷ [])

local_2_follows : is_followed local_2 ≡ true
local_2_follows = refl

local_2_has_causes : lacking local_2 ≡ []
local_2_has_causes = refl
