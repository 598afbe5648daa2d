-- Which server each binding is of, and which bindings servers reached, in whole runs: naming gives each binding's number once.
use Rattle.std.specs.Prelude.{⊤, ◌≡◌, ◌<◌, ◌+◌, ◌*◌, nat_lt, ℕ, true, false, List, [], ◌∷◌, Option, Some, None}
use Rattle.std.specs.List.{AllByRecursion}
use Rattle.arj_protocol.specs.Words.{Ask, Asked, Head, asks}
use Rattle.arj_protocol.specs.Ask.{Reply, answers, asked_by}
use Rattle.arj_protocol.specs.Copy.{Copy}
use Rattle.arj_protocol.specs.Naming.{Naming}
use Rattle.arj_protocol.specs.Node.{Parts}
use Rattle.arj_protocol.specs.Order.{at_number, binding_number}
use Rattle.arj_protocol.specs.Step.{Node}
use Rattle.arj_law_parts.specs.parts.Lives.{Homes, IsNamingSo, IsPastZero, KnowsServers, NamesAsked, NamesReply, Reach}
use Rattle.arj_law_parts.specs.moves.Seen.{In}
use Rattle.arj_promise.specs.Runs.{Post, Seen}

-- numbers of bindings with their servers, the last one first
abbrev pub Gifts : Type 0
Gifts = List (ℕ × ℕ)

-- each of these bindings was made before that of this number
abbrev pub AreBelow : ℕ → Gifts → Type 0
AreBelow top given = AllByRecursion (λ (g : ℕ × ℕ). g.0 < top) given

-- each number stands once, and none is 0
abbrev pub AreApart : Gifts → Type 0
AreApart [] = ⊤
AreApart (g ∷ gs) = (0 < g.0) × AreBelow g.0 gs × AreApart gs

-- the server of each binding, as it was given
pub record IsHome (given : Gifts) (home : Homes) : Type 0 where
  pub nobody : home 0 ≡ 0
  pub agrees : AllByRecursion (λ (g : ℕ × ℕ). home g.0 ≡ g.1) given

-- what a node has of servers
abbrev pub HasServers : Homes → Reach → Parts → Type 0
HasServers home reach t = KnowsServers home reach t.coord × ((o : Naming) → t.naming ≡ Some o → IsNamingSo home reach o)

-- an answer that was sent: it goes back to who sent the request, and is so
pub record IsAnswer (home : Homes) (reach : Reach) (sent : List Post) (p : Post) (a : Asked) (r : Reply) : Type 0 where
  pub post : Post
  pub head : Head
  pub ask : Ask
  pub posted : In post sent
  pub asked : asks post.message ≡ Some (head, ask)
  pub same : asked_by head ≡ a
  pub from : post.from ≡ p.to
  pub so : NamesReply home reach p.from ask r

-- what a message says of servers is so
pub record NamesPost (home : Homes) (reach : Reach) (sent : List Post) (p : Post) : Type 0 where
  pub asking : NamesAsked home reach p.to (asks p.message)
  pub answering : (a : Asked) (r : Reply) → answers p.message ≡ Some (a, r) → IsAnswer home reach sent p a r

-- in this incarnation of the server the test passes for its copies' bindings, and for those below; once it is down, for all
abbrev pub PassesIn : Reach → ℕ → ℕ → Option Parts → Type 0
PassesIn reach j i None = (x n : ℕ) → reach j x n i ≡ true
PassesIn reach j i (Some t) = (x n : ℕ) (c : Copy) → at_number x (let s = t.server in s.objects) ≡ Some c →
    nat_lt (binding_number c.binding) n ≡ false → reach j x n i ≡ true

-- the test passes for what the server reached, and for all that is named in an earlier incarnation
pub record Passes (reach : Reach) (j i : ℕ) (live : Option Parts) : Type 0 where
  pub past : (x n h : ℕ) → h < i → reach j x n h ≡ true
  pub here : PassesIn reach j i live

-- so it is of each node, and of incarnation 0
pub record PassesAll (reach : Reach) (M : Seen) : Type 0 where
  pub zero : IsPastZero reach
  pub nodes : (j : ℕ) (n : Node) → M.nodes j ≡ Some n → Passes reach j (let d = n.disk in d.inc) n.live

-- What was sent and what nodes have in memory names only servers of bindings that reached them.
pub record IsLived (home : Homes) (reach : Reach) (M : Seen) : Type 0 where
  pub sent : (p : Post) → In p M.sent → NamesPost home reach M.sent p
  pub nodes : (j : ℕ) (n : Node) → M.nodes j ≡ Some n → (t : Parts) → n.live ≡ Some t → HasServers home reach t

-- Incarnations begin at 1; naming is at node 1, and has given no number above its count.
pub record HasGiven (given : Gifts) (j : ℕ) (n : Node) : Type 0 where
  pub first : 0 < (let d = n.disk in d.inc)
  pub low : j ≡ 1 → AreBelow ((let d = n.disk in d.inc + 1) * 4294967296) given
  pub naming : (t : Parts) (o : Naming) → n.live ≡ Some t → t.naming ≡ Some o →
      (j ≡ 1) × (o.inc ≡ (let d = n.disk in d.inc)) × AreBelow (binding_number (record { inc = o.inc; count = o.count + 1 })) given

-- Naming gave these numbers; and for each home that agrees, and each test that passes for what servers reached, all that is known of
-- servers is so.
pub record LivesWith (given : Gifts) (M : Seen) : Type 0 where
  pub apart : AreApart given
  pub places : (j : ℕ) (n : Node) → M.nodes j ≡ Some n → HasGiven given j n
  pub lived : (home : Homes) (reach : Reach) → IsHome given home → PassesAll reach M → IsLived home reach M

-- there are such bindings with their servers
abbrev pub LivesRun : Seen → Type 0
LivesRun M = (given : Gifts) × LivesWith given M

-- naming's count has 32 bits, also after the next binding
abbrev pub CountFits : Parts → Type 0
CountFits t = (o : Naming) → t.naming ≡ Some o → o.count + 1 < 4294967296
