-- What the coordinator's enums are as the protocol has them.
use Rattle.std.specs.Prelude.{List, [], ◌∷◌, Option, Some, None}
use Rattle.arj_commit.specs.Steps.{voting, preparing}
use Rattle.arj_coord.specs.declared.effect.Effect.{Effect}
use Rattle.arj_coord.specs.declared.ending.EndLine.{EndLine}
use Rattle.arj_coord.specs.declared.now.Commit.{Commit}
use Rattle.arj_coord.specs.declared.now.Now.{Now}
use Rattle.arj_intent.specs.Records.{IsInForm, shown}
use Rattle.arj_protocol.specs.Commit as commit
use Rattle.arj_protocol.specs.Coord as coord
use Rattle.arj_protocol.specs.Effect as protocol
use Rattle.arj_protocol.specs.Words.{Label, Body}
use Rattle.arj_protocol.specs.Words.body

-- an effect
abbrev pub effect_of : Effect → protocol.Effect
effect_of (Effect.Say b) = protocol.Say b
effect_of (Effect.Send n m) = protocol.Send n m.value
effect_of (Effect.PutRecord i) = protocol.Do (protocol.PutIntent i.top (shown i))
effect_of (Effect.RemoveRecord top) = protocol.Do (protocol.RemoveIntent top)

-- a record that an effect puts can be written
abbrev pub CanBeDone : Effect → Type 0
CanBeDone (Effect.PutRecord i) = IsInForm i
CanBeDone _ = Unit {0}

-- the step of a commit that waits
abbrev pub machine_of : Commit → commit.Machine
machine_of (Commit.Voting a) = voting a
machine_of (Commit.Preparing a) = preparing a
machine_of (Commit.Confirming p) = commit.Confirming p

-- what an action waits for
abbrev pub now_of : Now → coord.Now
now_of Now.Idle = coord.Idle
now_of (Now.Calling s) = coord.Calling s
now_of (Now.Committing m) = coord.Committing (machine_of m.value)

-- the line of an end
abbrev pub line_of : EndLine → Label → Body
line_of EndLine.Committed l = body.Committed l
line_of EndLine.Ended l = body.Ended l
line_of (EndLine.Aborted why) l = body.Aborted l why

-- what is said where there is a line
abbrev pub said : Option Body → List protocol.Effect
said None = []
said (Some b) = protocol.Say b ∷ []
