-- Who was told to have ended has ended where it began.
use Rattle.std.specs.Prelude.{⊤, ◌≡◌, ℕ, true, List, Option, Some, None, is_some, Contains}
use Rattle.arj_protocol.specs.Words.{End, Header, Uid, is_on, uids_of}
use Rattle.arj_protocol.specs.Naming.{Naming}
use Rattle.arj_protocol.specs.Node.{Parts}
use Rattle.arj_protocol.specs.Server.{is_told}
use Rattle.arj_protocol.specs.Step.{Node}
use Rattle.arj_protocol.specs.Tree.{Branch, branch_of}
use Rattle.arj_law_parts.specs.parts.Actions.{Action}
use Rattle.arj_law_parts.specs.parts.Ends.{brought, told_by}
use Rattle.arj_law_disk_view.specs.running.Places.{AreBegunIn, AreCallRows, AreKeyed, AreNamesRows, AsksBegun, HasNaming}
use Rattle.arj_law_runs.specs.kept.Worlds.{IsGoodOf}
use Rattle.arj_law_parts.specs.moves.Keeps.{Keeps}
use Rattle.arj_law_parts.specs.moves.Seen.{In}
use Rattle.arj_promise.specs.Runs.{Post, Seen}

-- the Uid is on the path of an action that was begun
abbrev pub IsNamedBy : List Action → Uid → Type 0
IsNamedBy acts u = (a : Action) × Contains acts a × (is_on (uids_of a.path) u ≡ true)

-- while its node is up the action isn't open there
abbrev pub IsClosedAt : Uid → Option Parts → Type 0
IsClosedAt u None = ⊤
IsClosedAt u (Some t) = (b : Branch) → branch_of u t.coord.tree ≡ Some b → is_some b.ended ≡ true

-- the memory of a node that is there and up
abbrev pub live_in : Option Node → Option Parts
live_in None = None
live_in (Some n) = n.live

-- an action that was begun, and isn't open any more at its node
abbrev pub IsPast : List Action → (ℕ → Option Parts) → Uid → Type 0
IsPast acts lives u = IsNamedBy acts u × IsClosedAt u (lives u.node)

-- Whose end a message tells, or brings, is past; and a question is about an action that was begun, and goes to its node.
pub record SaysPast (acts : List Action) (lives : ℕ → Option Parts) (p : Post) : Type 0 where
  pub told : (u : Uid) (e : End) → Contains (told_by p.message) (u, e) → IsPast acts lives u
  pub brings : (u : Uid) (e : End) → Contains (brought p.message) (u, e) → IsPast acts lives u
  pub asks : AsksBegun acts p.to p.message

-- A node that is up: naming is at node 1, locks are of actions that were begun, and whoever was told to have ended is past.
pub record ToldPast (acts : List Action) (lives : ℕ → Option Parts) (k : ℕ) (t : Parts) : Type 0 where
  pub place : HasNaming k t
  pub calls : AreCallRows acts (let s = t.server in s.objects)
  pub keys : AreKeyed (let s = t.server in s.objects)
  pub entries : AreNamesRows acts t.naming
  pub server : (u : Uid) → is_told u t.server ≡ true → IsPast acts lives u
  pub naming : (o : Naming) (u : Uid) → t.naming ≡ Some o → is_on o.told u ≡ true → IsPast acts lives u

-- and who has something prepared on its disk was begun
pub record IsPastNode (acts : List Action) (lives : ℕ → Option Parts) (k : ℕ) (n : Node) : Type 0 where
  pub store : AreBegunIn acts (let d = n.disk in d.store)
  pub names : AreBegunIn acts (let d = n.disk in d.names)
  pub live : (t : Parts) → n.live ≡ Some t → ToldPast acts lives k t

-- So it is at each node, and of each message that was sent.
pub record ArePast (acts : List Action) (lives : ℕ → Option Parts) (sent : List Post) (found : ℕ → Option Node) : Type 0 where
  pub posts : (p : Post) → In p sent → SaysPast acts lives p
  pub nodes : (k : ℕ) (n : Node) → found k ≡ Some n → IsPastNode acts lives k n

-- so it is in what is seen
abbrev pub ArePastIn : List Action → Seen → Type 0
ArePastIn acts M = ArePast acts (λ j. live_in (M.nodes j)) M.sent M.nodes

-- beside good nodes
abbrev pub EndsArePast : Seen → Type 0
EndsArePast M = (acts : List Action) × IsGoodOf acts M × ArePastIn acts M

-- each handler keeps it
abbrev pub HandlersKeepPast : Type 0
HandlersKeepPast = (hd : Header) → Keeps hd EndsArePast
