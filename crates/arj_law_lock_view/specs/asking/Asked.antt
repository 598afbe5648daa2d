-- What is asked of actions, and the calls and includes that coordinators wait for: each is the last one that was asked, and isn't answered.
use Rattle.std.specs.Prelude.{◌≡◌, ◌≤◌, ℕ, ◌+◌, List, [], ◌∷◌, ◌++◌, length, Option, Some, None}
use Rattle.arj_lock.proofs.Members as list
use Rattle.arj_model.specs.Actions.{act_in, acts, uids}
use Rattle.arj_model.specs.Past.{Asked}
use Rattle.arj_model.specs.Refusals.{answers_to, asks_by, last_asked}
use Rattle.arj_protocol.specs.Call.{Goal, Include, Run, Steps}
use Rattle.arj_protocol.specs.Coord.{Doing, doing_of}
use Rattle.arj_protocol.specs.Node.{Parts}
use Rattle.arj_protocol.specs.Step.{Node}
use Rattle.arj_protocol.specs.Words.{Event, Label, Line, Uid, name, uids_of}
use Rattle.arj_protocol.specs.Words.event
use Rattle.arj_law_parts.specs.moves.Moments.{Asking, Moment}
use Rattle.arj_law_lock_view.specs.asking.Turns.{calling}

-- what was asked, the oldest first
abbrev pub accepted_of : List Asking → List Asked
accepted_of [] = []
accepted_of (k ∷ ks) = accepted_of ks ++ k.asked ∷ []

-- the event asks so much of the action with this label
abbrev pub asks_goal : Label → ℕ → Goal → Event
asks_goal l x (Run o) = event.Call l x o
asks_goal l x (Include s) = event.Include l x s

-- how many calls and includes of a label were asked, and were answered
abbrev pub count_asks : List Asking → List ℕ → ℕ
count_asks asked l = length (asks_by (accepted_of asked) l)

abbrev pub count_answers : List Line → List ℕ → ℕ
count_answers lines l = length (answers_to lines l)

-- What an action waits for is what was asked last of it, by an event that can own the request, of the same object for the same.
pub record IsAskedSo (asked : List Asking) (u : Uid) (d : Doing) (s : Steps) : Type 0 where
  pub asking : Asking
  pub there : list.In asking asked
  pub act : asking.act ≡ u
  pub first : asking.first ≤ d.req
  pub last : last_asked (asks_by (accepted_of asked) (name d.label)) ≡ Some asking.asked
  pub goal : (l : Label) × (name l ≡ name d.label) × ((let k = asking.asked in k.event) ≡ asks_goal l s.x s.goal)
  pub path : uids (let k = asking.asked in k.path) ≡ uids_of s.path

-- An action that waits has one more asked than answered, and waits for that; of any other each was answered.
abbrev pub IsTied : List Asking → List Line → Uid → Doing → Option Steps → Type 0
IsTied asked lines u d None = count_answers lines (name d.label) ≡ count_asks asked (name d.label)
IsTied asked lines u d (Some s) = (count_asks asked (name d.label) ≡ count_answers lines (name d.label) + 1) × IsAskedSo asked u d s

-- so it is of the actions of a coordinator
abbrev pub IsTiedAt : List Asking → List Line → Uid → Doing → Type 0
IsTiedAt asked lines u d = IsTied asked lines u d (calling d.now)

-- at each node that is up; and nothing was asked under a label that wasn't given, nor answered
pub record AskedAreTied (M : Moment) : Type 0 where
  pub tied : (j : ℕ) (n : Node) (t : Parts) (u : Uid) (d : Doing) → M.seen.nodes j ≡ Some n → n.live ≡ Some t →
      doing_of u t.coord ≡ Some d →
      IsTiedAt M.past.askings M.seen.lines u d
  pub new : (l : List ℕ) → act_in (acts M.seen.lines) l ≡ None →
      (asks_by (accepted_of M.past.askings) l ≡ []) × (answers_to M.seen.lines l ≡ [])
