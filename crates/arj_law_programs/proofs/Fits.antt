-- What programs hear, against the events and the journal: each line is of what was asked.
use Rattle.std.specs.Prelude.{◌≡◌, ◌⊎◌, ⊤, ◌+◌, List, [], ◌∷◌, ◌++◌, map, true, false, if◌then◌else◌, Option, Some, None}
use Rattle.std.specs.List.{AllByRecursion}
use Rattle.arj_base.specs.declared.uid.Uid.{Uid}
use Rattle.arj_journal.specs.declared.body.Body.{Body}
use Rattle.arj_journal.specs.declared.body.Body.TheVariants as body
use Rattle.arj_journal.specs.declared.body.Kind.{Kind}
use Rattle.arj_journal.specs.declared.body.Kind.TheVariants as kind
use Rattle.arj_journal.specs.declared.body.Line.{Line}
use Rattle.arj_journal.specs.declared.event.Event.{Event}
use Rattle.arj_model.specs.Actions.{Act, act_in, acts, is_begun}
use Rattle.arj_model.specs.Follows.{IsCallOf, is_ending}
use Rattle.arj_model.specs.Own.{commit_line}
use Rattle.arj_model.specs.Past.{Past, asked_of, block, next}
use Rattle.arj_model.specs.Refusals.{has_ended, is_committing, is_serializing, waits_for}
use Rattle.arj_progrun.specs.Client.{Ask, Begins, BeginsIn, Commits, Other, Quiesces}
use Rattle.arj_progrun.specs.Events.{ask_of}
use Rattle.arj_progrun.specs.Schedule.{Given}
use Rattle.arj_text.specs.Label.{name}
use Rattle.arj_text.specs.declared.label.Label.{Label}

-- An action began as it was asked for: a top, at its node, or one in its parent.
abbrev pub IsBegunBy : Ask → List Line → Label → Kind → Uid → Option Label → Type 0
IsBegunBy (Begins m n) lines l k u None = (name l ≡ m) × (k ≡ kind.Top) × (u.node ≡ n)
IsBegunBy (BeginsIn m q) lines l k u (Some p) =
    (name l ≡ m) × (name p ≡ q) × (k ≡ (if is_serializing lines (name p) then kind.Constituent else kind.Nested))
IsBegunBy Other lines l k u p = ⊤
IsBegunBy ask lines l k u p = ⊥

-- the line is the own one of a commit that was asked, by the kind of its action, which is open
abbrev pub IsOwnCommit : Past → Event → Label → Body → Type 0
IsOwnCommit past e l b =
    (ask_of e ≡ Commits (name l)) × ((a : Act) × (act_in (acts past.lines) (name l) ≡ Some a) × (commit_line a.kind l ≡ b))
    × (has_ended past.lines (name l) ≡ false)

-- A line behind an event's first one, and behind these lines. An `ok` answers the call that its action waits for; what is committed is a top
-- whose commit was called; and no action begins, and no commit is called.
abbrev pub LaterFits : Past → Event → List Line → Body → Type 0
LaterFits past e lines (body.Ok l x op answer) = IsCallOf x op (waits_for (past.accepted ++ asked_of past e ∷ []) lines (name l))
LaterFits past e lines (body.Committed l) = is_committing lines (name l) ≡ true
LaterFits past e lines (body.Began l k u p) = ⊥
LaterFits past e lines (body.Committing l) = ⊥
LaterFits past e lines (body.Refused c) = ⊥
LaterFits past e lines b = ⊤

-- all lines behind these
abbrev pub LaterFit : Past → Event → List Line → List Body → Type 0
LaterFit past e lines [] = ⊤
LaterFit past e lines (b ∷ bs) = LaterFits past e lines b × LaterFit past e (lines ++ block (past.count + 1) (b ∷ [])) bs

-- The first line of an event that isn't refused. An action that begins was asked for, and its label is new; a commit that is called was asked,
-- and so was one of a nested action, which is done at once.
abbrev pub FirstFits : Past → Event → Body → Type 0
FirstFits past e (body.Began l k u p) = IsBegunBy (ask_of e) past.lines l k u p × (is_begun past.lines (name l) ≡ false)
FirstFits past e (body.Committing l) = IsOwnCommit past e l (body.Committing l)
FirstFits past e (body.Committed l) = IsOwnCommit past e l (body.Committed l) ⊎ (is_committing past.lines (name l) ≡ true)
FirstFits past e b = LaterFits past e past.lines b

-- the lines of an event: where it is refused no line stands behind, but, behind a quiesce, one outside of events
abbrev pub AreFit : Past → Event → List Body → Type 0
AreFit past e [] = ⊤
AreFit past e (body.Refused c ∷ rest) =
    (rest ≡ []) ⊎ ((ask_of e ≡ Quiesces) × AllByRecursion (λ (b : Body). is_ending b ≡ true) rest)
AreFit past e (b ∷ bs) = FirstFits past e b × LaterFit past e (past.lines ++ block (past.count + 1) (b ∷ [])) bs

-- what a line says
abbrev pub bodies_of : List Line → List Body
bodies_of lines = map (λ line. line.body) lines

-- So are the lines of each event of a trace, behind this run, and have its number; at its end the run is this.
abbrev pub FitAlong : Past → List Given → Past → Type 0
FitAlong past [] end = past ≡ end
FitAlong past (g ∷ gs) end =
    (g.lines ≡ block (past.count + 1) (bodies_of g.lines)) × AreFit past g.event (bodies_of g.lines)
    × FitAlong (next past g.event (bodies_of g.lines)) gs end
