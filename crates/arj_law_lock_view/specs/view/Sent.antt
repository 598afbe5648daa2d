-- Requests and ends that were sent to a server, in the machine of one object: what they show for ever, as actions begin and the machine
-- goes on.
use Rattle.std.specs.Prelude.{List, Contains}
use Rattle.arj_protocol.specs.Words.{Ask, End, Head, Uid}
use Rattle.arj_protocol.specs.Server.{Server}
use Rattle.arj_law_lock.specs.machine.State.{State}
use Rattle.arj_protocol.specs.Follow.{ends_in}
use Rattle.arj_law_parts.specs.parts.Messages.{FitsAsk}
use Rattle.arj_law_lock_view.specs.view.Asks.{ShowsAsk}
use Rattle.arj_law_lock_view.specs.view.Calling.{IsReached}
use Rattle.arj_law_lock_view.specs.view.Serving.{IsForServer, IsShown, IsWanted, post_to}
use Rattle.arj_law_lock_view.specs.view.Telling.{AreOneTree, HasEnded, IsOfFamily, View}

-- all these ends are those that their actions have in the machine
abbrev pub HaveEnded : View → List (Uid × End) → State → Type 0
HaveEnded v ends S = (u : Uid) (e : End) → Contains {X = Uid × End} ends (u, e) → HasEnded v S u e

-- A request that was sent to the node shows what its coordinator did about the object, what it wants, and the ends that it brings.
pub record IsSent (v : View) (h : Head) (a : Ask) (S : State) : Type 0 where
  pub says : IsForServer v.x a → ShowsAsk v.family.act v.code (post_to v h) S a
  pub wanted : IsWanted v h a
  pub ended : HaveEnded v (ends_in a) S

-- Where it comes to a good server it is shown.
abbrev pub SentAreShown : Type 0
SentAreShown = (v : View) (h : Head) (a : Ask) (s : Server) (S : State)
    → IsReached S → AreOneTree v.family → IsOfFamily v.family s → FitsAsk (let g = v.family in g.begun) h a → IsSent v h a S →
    IsShown v h a s S
