-- Which bindings are avoided: one that was avoided in a Bind which was sent, or none.
use Rattle.std.specs.Prelude.{◌≡◌, ◌⊎◌, ℕ, Bool, List, Some}
use Rattle.arj_protocol.specs.Words.{Binding, Head, Uid, asks}
use Rattle.arj_protocol.specs.Words.ask
use Rattle.arj_protocol.specs.Call.{AtBind, Steps}
use Rattle.arj_protocol.specs.Coord.{Calling, Coord, Doing, doing_of, keeping_of, root_at}
use Rattle.arj_protocol.specs.Node.{Parts}
use Rattle.arj_protocol.specs.Order.{unbound}
use Rattle.arj_protocol.specs.Step.{Node}
use Rattle.arj_law_parts.specs.moves.Seen.{In}
use Rattle.arj_promise.specs.Runs.{Post, Seen}

-- What a coordinator avoids is so: the Binds that wait, and what its roots avoid.
pub record Avoids (W : ℕ → Binding → Type 0) (c : Coord) : Type 0 where
  pub works : (u : Uid) (d : Doing) (s : Steps) (a : Binding) → doing_of u c ≡ Some d → d.now ≡ Calling s → s.at ≡ AtBind a → W s.x a
  pub roots : (root : Uid) (x : ℕ) → W x (let k = keeping_of x (root_at root c) in k.avoid)

-- a Bind of the object that avoids the binding was sent
pub record IsAvoiding (sent : List Post) (x : ℕ) (a : Binding) : Type 0 where
  pub post : Post
  pub head : Head
  pub include : Bool
  pub posted : In post sent
  pub asking : asks post.message ≡ Some (head, ask.Bind x include a)

-- or none is avoided
abbrev pub WasAvoided : List Post → ℕ → Binding → Type 0
WasAvoided sent x a = (a ≡ unbound) ⊎ IsAvoiding sent x a

-- so it is at each node that is up
abbrev pub AvoidsAreKnown : Seen → Type 0
AvoidsAreKnown M = (j : ℕ) (n : Node) (t : Parts) → M.nodes j ≡ Some n → n.live ≡ Some t → Avoids (WasAvoided M.sent) t.coord
