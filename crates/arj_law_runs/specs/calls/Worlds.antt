-- What holds of calls and votes at all nodes, and of every message that was ever sent.
use Rattle.std.specs.Prelude.{⊤, ◌≡◌, ◌≤◌, ◌<◌, ℕ, List, [], ◌∷◌, Option, Some, None}
use Rattle.std.specs.List.{AllByRecursion}
use Rattle.arj_protocol.specs.Words.{Ask, Asked, Head, Message, ObjectState, VotedReply, asks}
use Rattle.arj_protocol.specs.Words.voted
use Rattle.arj_protocol.specs.Ask.{Reply, actor, answers}
use Rattle.arj_protocol.specs.Copy.{Copy}
use Rattle.arj_protocol.specs.Node.{Parts}
use Rattle.arj_protocol.specs.Step.{Node}
use Rattle.arj_law_parts.specs.parts.Copies.{Paths}
use Rattle.arj_law_parts.specs.parts.Messages.{Seals}
use Rattle.arj_law_parts.specs.moves.Seen.{In}
use Rattle.arj_promise.specs.Runs.{Post, Seen}
use Rattle.arj_law_runs.specs.calls.Coords.{KnowsCalls}
use Rattle.arj_law_runs.specs.calls.Servers.{AreFromCalls, AreOneCall, AreRefusals, HaveReached}

-- each object's copy stands once, by increasing numbers
abbrev pub AreKeyed : List (ℕ × Copy) → Type 0
AreKeyed [] = ⊤
AreKeyed (e ∷ es) = AllByRecursion (λ (f : ℕ × Copy). e.0 < f.0) es × AreKeyed es

-- what a Yes to a vote votes, and who is answered
abbrev pub states_voted : Asked → VotedReply → Option (Asked × List ObjectState)
states_voted a (voted.Yes states) = Some (a, states)
states_voted a (voted.Changed w) = None

-- so it is of an answer of any kind
abbrev pub vote_in : Asked → Reply → Option (Asked × List ObjectState)
vote_in a (Reply.Voted r) = states_voted a r
vote_in a _ = None

-- so it is of what a message answers
abbrev pub vote_by : Option (Asked × Reply) → Option (Asked × List ObjectState)
vote_by None = None
vote_by (Some a) = vote_in a.0 a.1

-- what a message votes, if it is such an answer
abbrev pub vote_of : Message → Option (Asked × List ObjectState)
vote_of m = vote_by (answers m)

-- At a node: its coordinator knows its calls; what its server wrote is from calls; and what it refused won't be run. Requests that it sent
-- are of no later incarnation.
pub record KnowsNode (paths : Paths) (sent : List Post) (j : ℕ) (n : Node) : Type 0 where
  pub coord : (t : Parts) → n.live ≡ Some t → KnowsCalls paths sent t.coord
  pub server : (t : Parts) → n.live ≡ Some t → AreFromCalls sent j t.server
  pub keys : (t : Parts) → n.live ≡ Some t → AreKeyed (let s = t.server in s.objects)
  pub refusals : AreRefusals sent j n
  pub past : (p : Post) (h : Head) (a : Ask) → In p sent → p.from ≡ j → asks p.message ≡ Some (h, a) →
      (let u = actor h.path in u.inc) ≤ (let d = n.disk in d.inc)

-- So it is at each node; no node is node 0; calls of one request are on one copy; a request is by an action of its sender; and a Yes
-- answers a vote.
pub record KnowsWorld (paths : Paths) (M : Seen) : Type 0 where
  pub none : M.nodes 0 ≡ None
  pub one : AreOneCall M.sent
  pub senders : (p : Post) (h : Head) (a : Ask) → In p M.sent → asks p.message ≡ Some (h, a) → (let u = actor h.path in u.node) ≡ p.from
  pub votes : (p : Post) (a : Asked) (states : List ObjectState) → In p M.sent → vote_of p.message ≡ Some (a, states) →
      (v : Post) × In v M.sent × (v.from ≡ p.to) × Seals v.message a.act
  pub nodes : (j : ℕ) (n : Node) → M.nodes j ≡ Some n → KnowsNode paths M.sent j n

-- so each call that was sent, to whichever node, names what its server reached
abbrev pub CallsReach : Seen → Type 0
CallsReach M = (j : ℕ) (n : Node) → M.nodes j ≡ Some n → HaveReached M.sent j n
