-- What actions wait for, by the events and the journal, and at their coordinators.
use Rattle.std.specs.Prelude.{◌≡◌, ℕ, true, false, List, Some, None}
use Rattle.arj_law_lock_view.specs.asking.Asked.{asks_goal}
use Rattle.arj_law_parts.specs.moves.With.{past_of}
use Rattle.arj_model.specs.Actions.{uids}
use Rattle.arj_model.specs.Past.{Asked, Past}
use Rattle.arj_model.specs.Refusals.{is_committing, is_waiting, unanswered, waits_for}
use Rattle.arj_promise.specs.Runs.{IsInForm, Run, world_by}
use Rattle.arj_protocol.specs.Call.{Steps}
use Rattle.arj_protocol.specs.Coord.{Calling, Committing, Doing, Idle, Now, doing_of}
use Rattle.arj_protocol.specs.Node.{Parts}
use Rattle.arj_protocol.specs.Step.{Node}
use Rattle.arj_protocol.specs.Tree.{at_place}
use Rattle.arj_protocol.specs.Words.{Header, Label, Line, Uid, name, uids_of}
use Rattle.arj_protocol.specs.World.{World}

-- Of a call or an include under way the journal has the event that asked it, of the same object for the same, with the path of the
-- action, and no answer; and no commit.
pub record IsAsked (accepted : List Asked) (lines : List Line) (l : Label) (s : Steps) : Type 0 where
  pub asked : Asked
  pub last : unanswered accepted lines (name l) ≡ Some asked
  pub waits : waits_for accepted lines (name l) ≡ Some asked.event
  pub goal : (m : Label) × (name m ≡ name l) × (asked.event ≡ asks_goal m s.x s.goal)
  pub path : uids asked.path ≡ uids_of s.path
  pub rests : is_committing lines (name l) ≡ false

-- what an action is at is what the journal has under its label
abbrev pub IsAt : List Asked → List Line → Label → Now → Type 0
IsAt accepted lines l Idle = (waits_for accepted lines (name l) ≡ None) × (is_committing lines (name l) ≡ false)
IsAt accepted lines l (Calling s) = IsAsked accepted lines l s
IsAt accepted lines l (Committing m) = (waits_for accepted lines (name l) ≡ None) × (is_committing lines (name l) ≡ true)

-- an action with this label is at work at a node that is up
pub record IsAtWork (w : World) (l : List ℕ) : Type 0 where
  pub number : ℕ
  pub node : Node
  pub parts : Parts
  pub act : Uid
  pub doing : Doing
  pub there : at_place number w.nodes ≡ Some node
  pub live : node.live ≡ Some parts
  pub does : doing_of act parts.coord ≡ Some doing
  pub label : name doing.label ≡ l

-- Each action at work at a node that is up is at what the journal has; and who waits by the journal is at work.
pub record WaitsAgree (past : Past) (w : World) : Type 0 where
  pub works : (k : ℕ) (n : Node) (t : Parts) (u : Uid) (d : Doing) → at_place k w.nodes ≡ Some n → n.live ≡ Some t →
      doing_of u t.coord ≡ Some d →
      IsAt past.accepted past.lines d.label d.now
  pub others : (l : List ℕ) → is_waiting past l ≡ true → IsAtWork w l

-- so it is behind each event of each run
abbrev pub RunsWait : Type 0
RunsWait = (hd : Header) (r : Run hd) → IsInForm hd r → WaitsAgree (let g = past_of hd r in g.run) (world_by hd r)
