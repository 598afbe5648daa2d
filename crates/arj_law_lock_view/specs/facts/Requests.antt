-- What was asked for what waits at a coordinator.
use Rattle.std.specs.Prelude.{◌≡◌, ◌≤◌, ℕ, true, List, Some}
use Rattle.arj_protocol.specs.Words.{Ask, Head, Header, asks}
use Rattle.arj_protocol.specs.Ask.{actor}
use Rattle.arj_protocol.specs.Call.{Steps}
use Rattle.arj_protocol.specs.Commit.{Machine, ask_of, plan_of}
use Rattle.arj_protocol.specs.Coord.{Calling, Committing, Coord, Doing, doing_of}
use Rattle.arj_protocol.specs.Node.{Parts}
use Rattle.arj_protocol.specs.Step.{Node}
use Rattle.arj_protocol.specs.Tree.{is_own}
use Rattle.arj_law_runs.specs.addresses.Binds.{BindsAreKnown}
use Rattle.arj_law_runs.specs.calls.Coords.{IsOfStep}
use Rattle.arj_law_runs.specs.kept.Worlds.{IsGood}
use Rattle.arj_law_parts.specs.moves.Keeps.{Keeps}
use Rattle.arj_law_parts.specs.moves.Seen.{In}
use Rattle.arj_promise.specs.Runs.{Post, Seen}

-- A request that was sent is of no later number than its action's last one; and if it's that one, it is the request of the step that waits,
-- or what the commit under way asks of that node.
pub record IsAskedBy (c : Coord) (to : ℕ) (h : Head) (a : Ask) : Type 0 where
  pub doing : Doing
  pub found : doing_of (actor h.path) c ≡ Some doing
  pub low : h.req ≤ doing.req
  pub step : (s : Steps) → doing.now ≡ Calling s → h.req ≡ doing.req → IsOfStep s to h a
  pub commit : (m : Machine) → doing.now ≡ Committing m → h.req ≡ doing.req → (h.path ≡ (let p = plan_of m in p.path)) × (a ≡ ask_of m to)

-- So it is of each request that this node sent for an action that its coordinator has.
abbrev pub KnowsRequests : List Post → ℕ → Coord → Type 0
KnowsRequests sent k c = (p : Post) (h : Head) (a : Ask) → In p sent → p.from ≡ k → asks p.message ≡ Some (h, a) →
    is_own (actor h.path) c.tree ≡ true → IsAskedBy c p.to h a

-- So it is at each node that is up, beside good nodes and known Binds.
abbrev pub AreAsked : Seen → Type 0
AreAsked M = (j : ℕ) (n : Node) (t : Parts) → M.nodes j ≡ Some n → n.live ≡ Some t → KnowsRequests M.sent j t.coord

-- so it is in what is seen
abbrev pub RequestsAreKnown : Seen → Type 0
RequestsAreKnown M = (IsGood M × BindsAreKnown M) × AreAsked M

-- each handler keeps it
abbrev pub HandlersKeepRequests : Type 0
HandlersKeepRequests = (hd : Header) → Keeps hd RequestsAreKnown
