-- Requests come from where their actors began.
use Rattle.std.specs.Prelude.{List, Some, ℕ, ◌≡◌}
use Rattle.arj_protocol.specs.Words.{Ask, Head, asks}
use Rattle.arj_protocol.specs.Ask.{actor}
use Rattle.arj_protocol.specs.Node.{Parts}
use Rattle.arj_protocol.specs.Step.{Node}
use Rattle.arj_law_runs.specs.addresses.Binds.{BindsAreKnown}
use Rattle.arj_law_runs.specs.kept.Worlds.{IsGood}
use Rattle.arj_law_parts.specs.moves.Seen.{In}
use Rattle.arj_promise.specs.Runs.{Post, Seen}

-- each request is by an action of the node that sent it
abbrev pub AreHome : List Post → Type 0
AreHome sent = (p : Post) (h : Head) (a : Ask) → In p sent → asks p.message ≡ Some (h, a) → (let u = actor h.path in u.node) ≡ p.from

-- each coordinator is of its node
abbrev pub CoordsAreHome : Seen → Type 0
CoordsAreHome M = (j : ℕ) (n : Node) (t : Parts) → M.nodes j ≡ Some n → n.live ≡ Some t → (let c = t.coord in c.tree.node) ≡ j

-- beside good nodes and known Binds
abbrev pub RequestsAreHome : Seen → Type 0
RequestsAreHome M = (IsGood M × BindsAreKnown M) × (AreHome M.sent × CoordsAreHome M)
