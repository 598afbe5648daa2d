-- Lines that their event doesn't write: in each run some line lacks its cause.
use Rattle.std.specs.Prelude.{◌≡◌, refl, [], ◌∷◌, codes, None}
use Rattle.arj_base.specs.declared.mode.Mode.TheVariants.{Write}
use Rattle.arj_base.specs.declared.mode.End.TheVariants.{Commit}
use Rattle.arj_class.specs.declared.op.Op.TheVariants as op
use Rattle.arj_class.specs.declared.value.Value.TheVariants as value
use Rattle.arj_journal.specs.declared.body.Body.TheVariants as body
use Rattle.arj_journal.specs.declared.body.FrameKind.TheVariants as frame
use Rattle.arj_journal.specs.declared.body.Kind.TheVariants as kind
use Rattle.arj_journal.specs.declared.body.Part.TheVariants as part
use Rattle.arj_journal.specs.declared.body.Role.TheVariants as role
use Rattle.arj_journal.specs.declared.event.Event.TheVariants as event
use Rattle.arj_journal.specs.declared.event.FrameNo.TheVariants.{Number}
use Rattle.arj_journal.specs.declared.header.Header.{Header}
use Rattle.arj_msg.specs.Format.{byte}
use Rattle.arj_msg.specs.Layout.{message}
use Rattle.arj_cause_tests.proofs.Words.{Run, Wrote, after, b, before, instead, l, lacking, nodes, object_line, run, u}

-- two nodes, all on the first
abbrev pub two_nodes : Header
two_nodes = nodes 2 (object_line 1 (value.Counter 0) (1 ∷ []) (1 ∷ []) ∷ [])

-- an action begins at node 1
abbrev pub begins : Wrote
begins = (event.Begin (l 65) 1, body.Began (l 65) kind.Top (u 1 1 1) None ∷ [])

-- one increment, committed
abbrev pub increment : Run
increment = run two_nodes (
    begins
    ∷ (
      event.Call (l 65) 1 (op.Add 1),
      body.Granted 1 (u 1 1 1) (u 0 1 1) Write ∷ body.Bound 1 (b 1 1) 1 ∷ body.Active 1 1 (b 1 1) ∷ body.Lowered 1 (u 1 1 1) (u 0 1 1)
          ∷ body.Granted 1 (u 1 1 1) (u 0 0 1) Write ∷ body.Ok (l 65) 1 (op.Add 1) (codes "done") ∷ [],
    )
    ∷ (
      event.Commit (l 65),
      body.Committing (l 65) ∷ body.Prepared 1 (u 1 1 1) role.Store ∷ body.Committed (l 65) ∷ body.Done 1 (u 1 1 1) role.Store Commit
          ∷ body.Told 1 (u 1 1 1) Commit part.Naming ∷ body.Told 1 (u 1 1 1) Commit part.Server ∷ [],
    )
    ∷ [])

increment_has_causes : lacking increment ≡ []
increment_has_causes = refl

-- another operation than the one that was called
other_operation : lacking (instead 7 (body.Ok (l 65) 1 (op.Add 2) (codes "done")) increment) ≡ 7 ∷ []
other_operation = refl

-- an answer that nobody waits for, in front of the commit
second_answer : lacking (before 8 (body.Ok (l 65) 1 (op.Add 1) (codes "done") ∷ []) increment) ≡ 8 ∷ 9 ∷ []
second_answer = refl

-- a commit that wasn't called yet, and one too many
early_commit : lacking (before 8 (body.Committed (l 65) ∷ []) increment) ≡ 8 ∷ 9 ∷ 11 ∷ []
early_commit = refl

second_commit : lacking (after 10 (body.Committed (l 65) ∷ []) increment) ≡ 11 ∷ []
second_commit = refl

-- refusals whose cause doesn't hold: the action doesn't wait, and isn't doomed; a lower cause holds
refused_waiting : lacking (run two_nodes (begins ∷ (event.Call (l 65) 1 (op.Add 1), body.Refused 7 ∷ []) ∷ [])) ≡ 2 ∷ []
refused_waiting = refl

refused_doomed : lacking (run two_nodes (begins ∷ (event.Call (l 65) 1 (op.Add 1), body.Refused 12 ∷ []) ∷ [])) ≡ 2 ∷ []
refused_doomed = refl

refused_wrong : lacking (run two_nodes (begins ∷ (event.Call (l 65) 2 op.Len, body.Refused 14 ∷ []) ∷ [])) ≡ 2 ∷ []
refused_wrong = refl

refused_unknown : lacking (run two_nodes (begins ∷ (event.Call (l 65) 2 op.Len, body.Refused 13 ∷ []) ∷ [])) ≡ []
refused_unknown = refl

-- bytes that are no message, refused as one
refused_junk : lacking (run two_nodes ((event.Junk 1 (255 ∷ []), body.Refused 18 ∷ []) ∷ [])) ≡ 1 ∷ []
unfolding message byte
refused_junk = refl

-- another node halts than the one that crashes
other_halt : lacking (run two_nodes ((event.Crash 1, body.Halted 2 ∷ []) ∷ [])) ≡ 1 ∷ []
other_halt = refl

-- a node is up in the incarnation in which it halted
same_incarnation : lacking (run two_nodes ((event.Crash 1, body.Halted 1 ∷ []) ∷ (event.Restart 1, body.Up 1 1 ∷ []) ∷ [])) ≡ 2 ∷ []
same_incarnation = refl

-- the first frame isn't the first
second_frame : lacking (run two_nodes ((event.Settle, body.Sent 2 1 2 frame.Bind ∷ []) ∷ [])) ≡ 1 ∷ []
second_frame = refl

-- a frame is delivered that wasn't sent
no_such_frame : lacking (run two_nodes ((event.Deliver (Number 1), body.Got 1 ∷ []) ∷ [])) ≡ 1 ∷ []
no_such_frame = refl
