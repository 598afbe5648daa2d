-- Who waits, by coordinators' memory, which call is overtaken, and which line answers whoever waited.
use Rattle.std.specs.Prelude.{Bool, Contains, List, None, Option, Some, false, option_map, true, ℕ, ⊤, ◌++◌, ◌≡◌, ◌⊎◌}
use Rattle.arj_base.specs.declared.binding.Binding.{Binding}
use Rattle.arj_base.specs.declared.uid.Uid.{Uid}
use Rattle.arj_journal.specs.declared.body.Body.{Body}
use Rattle.arj_journal.specs.declared.body.Cause.{Cause}
use Rattle.arj_journal.specs.declared.body.Line.{Line}
use Rattle.arj_protocol.specs.Asking.{end_line}
use Rattle.arj_protocol.specs.Call.{At, AtActivate, AtNote, CallEnd, Known, Steps}
use Rattle.arj_protocol.specs.Coord.{Calling, Committing, Coord, Doing, Idle, Now, doing_of}
use Rattle.arj_protocol.specs.Node.{Parts}
use Rattle.arj_protocol.specs.Order.{binding_less}
use Rattle.arj_protocol.specs.Step.{Node, is_waiting_now}
use Rattle.arj_protocol.specs.Tree.{at_place}
use Rattle.arj_protocol.specs.Words.body
use Rattle.arj_protocol.specs.Words.cause
use Rattle.arj_protocol.specs.World.{World, is_node, is_up_at}
use Rattle.arj_text.specs.declared.label.Label.{Label}

-- the step stands on this binding, which its server is to take or naming to record
abbrev pub IsToSettle : At → Known → Type 0
IsToSettle (AtActivate k st) q = k ≡ q
IsToSettle (AtNote k i) q = k ≡ q
IsToSettle at q = ⊥

-- The call is overtaken: it asks a server to take a binding, or naming to record it, and a greater one of its object was made by a line.
pub record IsOvertaken (said : Body → Type 0) (s : Steps) : Type 0 where
  pub known : Known
  pub step : IsToSettle s.at known
  pub binding : Binding
  pub server : ℕ
  pub line : said (body.Bound s.x binding server)
  pub greater : binding_less known.binding binding ≡ true

-- a line says so
abbrev pub IsSaid : List Line → Body → Type 0
IsSaid lines b = (l : Line) × Contains lines l × (l.body ≡ b)

-- the coordinator of a node that is up
abbrev pub coord_of : Parts → Coord
coord_of t = t.coord

-- the coordinator of a node that is there and up
abbrev pub coord_in : Option Node → Option Coord
coord_in None = None
coord_in (Some n) = option_map coord_of n.live

-- the same call or include goes on, or a commit does
abbrev pub IsSameWork : Now → Now → Type 0
IsSameWork (Calling s) (Calling r) = (r.x ≡ s.x) × (r.goal ≡ s.goal)
IsSameWork (Committing m) (Committing n) = ⊤
IsSameWork _ _ = ⊥

-- the line by this label answers it: a call or an include by its end, with a refusal by its cause, and a commit as done
abbrev pub IsAnswerTo : Now → Label → Body → Type 0
IsAnswerTo (Calling s) l b = (e : CallEnd) × (b ≡ end_line s.x s.goal e l)
IsAnswerTo (Committing m) l b = b ≡ body.Committed l
IsAnswerTo Idle l b = ⊥

-- the action waits at the node for the same
pub record StillWaits (w : World) (k : ℕ) (u : Uid) (q : Doing) : Type 0 where
  pub coord : Coord
  pub doing : Doing
  pub found : coord_in (at_place k w.nodes) ≡ Some coord
  pub does : doing_of u coord ≡ Some doing
  pub label : doing.label ≡ q.label
  pub same : IsSameWork q.now doing.now

-- an answer that refuses the commit is the cause: the abort wasn't asked for, and no answer was given up
abbrev pub is_refusal : Cause → Bool
is_refusal cause.Asked = false
is_refusal cause.Doomed = false
is_refusal (cause.Lost n) = false
is_refusal _ = true

-- no halt, no giveup, and no abort but by such an answer
abbrev pub is_plain : Body → Bool
is_plain (body.Halted n) = false
is_plain (body.GaveUp l n) = false
is_plain (body.Aborted l why) = is_refusal why
is_plain _ = true

-- the line is such a one, or says of a node that is down in this world that it halted
abbrev pub IsPlainIn : World → Line → Type 0
IsPlainIn w line = (is_plain line.body ≡ true) ⊎ ((k : ℕ) × (line.body ≡ body.Halted k) × (is_up_at k w ≡ false))

-- a line behind the old ones answers what the action waited for, or says that its commit was refused by an answer, with the cause
pub record HasAnswer (q : Doing) (old new : List Line) : Type 0 where
  pub more : List Line
  pub line : Line
  pub are : new ≡ old ++ more
  pub there : Contains more line
  pub answers : IsAnswerTo q.now q.label line.body ⊎ ((why : Cause) × (line.body ≡ body.Aborted q.label why) × (is_refusal why ≡ true))

-- at the nodes of the header whoever waits is a call that is overtaken
abbrev pub OnlyOvertakenWait : World → Type 0
OnlyOvertakenWait w = (k : ℕ) (c : Coord) (u : Uid) (q : Doing) → is_node k w ≡ true → coord_in (at_place k w.nodes) ≡ Some c →
    doing_of u c ≡ Some q → is_waiting_now q.now ≡ true → (s : Steps) × (q.now ≡ Calling s) × IsOvertaken (IsSaid w.lines) s

-- The action waits still at the node, in a call that is overtaken.
pub record WaitsOvertaken (w : World) (k : ℕ) (u : Uid) (q : Doing) : Type 0 where
  pub still : StillWaits w k u q
  pub steps : Steps
  pub now : (let d = still.doing in d.now) ≡ Calling steps
  pub overtaken : IsOvertaken (IsSaid w.lines) steps
