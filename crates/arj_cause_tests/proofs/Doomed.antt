-- A `sent` line names no action, so a journal may doom an action whose coordinator doesn't: another action of its node sent the Invoke. It
-- commits, and the journal follows its events.
use Rattle.std.specs.Prelude.{◌≡◌, refl, true, [], ◌∷◌, ◌++◌, List, None}
use Rattle.arj_base.specs.declared.mode.Mode.TheVariants.{Write}
use Rattle.arj_base.specs.declared.mode.End.TheVariants.{Abort}
use Rattle.arj_class.specs.declared.op.Op.TheVariants as op
use Rattle.arj_class.specs.declared.value.Value.TheVariants as value
use Rattle.arj_journal.specs.declared.body.Body.TheVariants as body
use Rattle.arj_journal.specs.declared.body.FrameKind.TheVariants as frame
use Rattle.arj_journal.specs.declared.body.Kind.TheVariants as kind
use Rattle.arj_journal.specs.declared.body.Part.TheVariants as part
use Rattle.arj_journal.specs.declared.event.Event.TheVariants as event
use Rattle.arj_journal.specs.declared.event.FrameNo.TheVariants.{Number}
use Rattle.arj_model.specs.CauseSpans.{is_doomed}
use Rattle.arj_model.specs.Past.{Past, nothing_yet}
use Rattle.arj_text.specs.Label.{name}
use Rattle.arj_cause_tests.proofs.Words.{Run, Wrote, b, end_from, is_followed, l, lacking, nodes, object_line, run, u}

-- two calls by two actions of one node: the second one's Invoke goes to the node at which the first one is lost
abbrev called : List Wrote
called =
    (event.Begin (l 65) 1, body.Began (l 65) kind.Top (u 1 1 1) None ∷ [])
    ∷ (event.Begin (l 66) 1, body.Began (l 66) kind.Top (u 1 1 2) None ∷ [])
    ∷ (
      event.Call (l 65) 1 (op.Add 1),
      body.Granted 1 (u 1 1 1) (u 0 1 1) Write ∷ body.Bound 1 (b 1 1) 2 ∷ body.Sent 1 1 2 frame.Activate ∷ [],
    )
    ∷ (
      event.Call (l 66) 2 (op.Add 1),
      body.Granted 1 (u 1 1 2) (u 0 1 2) Write ∷ body.Bound 2 (b 1 2) 2 ∷ body.Sent 2 1 2 frame.Activate ∷ [],
    )
    ∷ (event.Deliver (Number 2), body.Got 2 ∷ body.Active 2 2 (b 1 2) ∷ body.Sent 3 2 1 frame.Activated ∷ [])
    ∷ (event.Deliver (Number 3), body.Got 3 ∷ body.Lowered 1 (u 1 1 2) (u 0 1 2) ∷ body.Sent 4 1 2 frame.Invoke ∷ [])
    ∷ (event.GiveUp (l 65), body.GaveUp (l 65) 2 ∷ body.Lost (l 65) 2 ∷ [])
    ∷ []

-- the first one commits
abbrev commits : Run
commits = run
    (nodes 2 (object_line 1 (value.Counter 0) (2 ∷ []) (1 ∷ []) ∷ object_line 2 (value.Counter 0) (2 ∷ []) (1 ∷ []) ∷ []))
    (called
    ++ (
      event.Commit (l 65),
      body.Committing (l 65) ∷ body.Committed (l 65) ∷ body.Sent 5 1 2 frame.Told ∷ body.Told 1 (u 1 1 1) Abort part.Naming ∷ [],
    )
    ∷ [])

-- though its call was lost behind an Invoke
abbrev behind : Past
behind = end_from nothing_yet called

is_lost : is_doomed behind.accepted behind.lines (name (l 65)) ≡ true
is_lost = refl

commits_followed : is_followed commits ≡ true
commits_followed = refl

commits_has_causes : lacking commits ≡ []
commits_has_causes = refl
