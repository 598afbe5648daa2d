-- Who acknowledges a top's commit: whoever was asked for a part in it, a vote or naming's confirmation, is listed by its record,
-- acknowledges its commit before the record goes, and is told no abort of it before.
use Rattle.std.specs.Prelude.{◌≡◌, ◌⊎◌, ◌<◌, ℕ, Bool, true, false, List, Option, Some, None, Contains, option_map}
use Rattle.std.specs.List.{AllByRecursion}
use Rattle.arj_protocol.specs.Words.{Binding, End, Head, Message, Uid, asks, first_uid, is_on, uids_of}
use Rattle.arj_protocol.specs.Words.ask
use Rattle.arj_protocol.specs.Words.ending
use Rattle.arj_protocol.specs.Words.kind
use Rattle.arj_protocol.specs.Words.message
use Rattle.arj_protocol.specs.Ask.{actor, last_end}
use Rattle.arj_protocol.specs.Effect.{Intent}
use Rattle.arj_protocol.specs.Node.{Parts}
use Rattle.arj_protocol.specs.Order.{at_uid, has}
use Rattle.arj_protocol.specs.Server.{is_told}
use Rattle.arj_protocol.specs.Step.{Node}
use Rattle.arj_protocol.specs.Tree.{root_of}
use Rattle.arj_law_parts.specs.parts.Actions.{Action, act_of}
use Rattle.arj_law_parts.specs.parts.Ends.{told_by}
use Rattle.arj_law_parts.specs.moves.Seen.{In}
use Rattle.arj_promise.specs.Runs.{Post, Seen}
use Rattle.arj_law_serial.specs.whole.Aborts.{IsPartAsked}

-- ---- messages

-- whose end is to be acknowledged, and whose is
abbrev pub demanded_if : Bool → List (Uid × End) → Option Uid
demanded_if true ends = option_map (λ (e : Uid × End). e.0) (last_end ends)
demanded_if false ends = None

-- whose end a message wants acknowledged
abbrev pub demanded : Message → Option Uid
demanded (message.Told m) = demanded_if m.ack m.ends
demanded _ = None

-- whose end a message acknowledges
abbrev pub acked_in : Message → Option Uid
acked_in (message.Acked m) = Some m.act
acked_in _ = None

-- the action's end was told to be acknowledged
pub record IsDemanded (sent : List Post) (u : Uid) : Type 0 where
  pub post : Post
  pub posted : In post sent
  pub demands : demanded (let p = post in p.message) ≡ Some u

-- the node acknowledged it
pub record HasAcked (sent : List Post) (u : Uid) (k : ℕ) : Type 0 where
  pub post : Post
  pub posted : In post sent
  pub from : (let p = post in p.from) ≡ k
  pub acks : acked_in (let p = post in p.message) ≡ Some u

-- the node was asked to vote for the top, in this incarnation
pub record IsVoter (sent : List Post) (u : Uid) (k i : ℕ) : Type 0 where
  pub post : Post
  pub posted : In post sent
  pub to : (let p = post in p.to) ≡ k
  pub head : Head
  pub ties : List (ℕ × Binding)
  pub ends : List (Uid × End)
  pub asking : asks (let p = post in p.message) ≡ Some (head, ask.Vote i ties ends)
  pub top : actor (let h = head in h.path) ≡ u

-- ---- records

-- the record of an action at a node, if it has one
abbrev pub record_in : Uid → Option Node → Option Intent
record_in u None = None
record_in u (Some n) = at_uid u (let d = n.disk in d.intents)

-- the records of all nodes' disks, each at its action's node
abbrev pub records_in : (ℕ → Option Node) → Uid → Option Intent
records_in found u = record_in u (found u.node)

-- the action's commit has a record, or was told to be acknowledged
abbrev pub WasRecorded : (Uid → Option Intent) → List Post → Uid → Type 0
WasRecorded records sent u = ((i : Intent) × (records u ≡ Some i)) ⊎ IsDemanded sent u

-- it is the action, or a constituent of it
abbrev pub IsPartOf : List Action → Uid → Uid → Type 0
IsPartOf begun u w = (u ≡ w) ⊎ ((a : Action) × Contains begun a × (act_of a ≡ u) × (a.kind ≡ kind.Constituent) × (root_of a.path ≡ w))

-- each action is of its root's node
abbrev pub AreHomed : List Action → Type 0
AreHomed begun = AllByRecursion (λ (a : Action). (let r = first_uid (uids_of a.path) in r.node) ≡ (let u = act_of a in u.node)) begun

-- A record lists whoever was asked for a part; a top that was recorded and has no record any more was acknowledged by them; and each of
-- them that an abort of it, or of its serializing action, was told acknowledged it before, where it was ever recorded. Who acknowledges was
-- told to.
pub record AreListed (begun : List Action) (records : Uid → Option Intent) (sent : List Post) : Type 0 where
  pub listed : (u : Uid) (i : Intent) (k : ℕ) → records u ≡ Some i → IsPartAsked sent u k → has (let j = i in j.nodes) k ≡ true
  pub ended : (u : Uid) (k : ℕ) → IsDemanded sent u → records u ≡ None → IsPartAsked sent u k → HasAcked sent u k
  pub aborts : (p : Post) (w u : Uid) → In p sent → Contains {X = Uid × End} (told_by p.message) (w, ending.Abort) → IsPartOf begun u w →
      IsPartAsked sent u p.to → WasRecorded records sent u → HasAcked sent u p.to
  pub asked : (u : Uid) (k : ℕ) → HasAcked sent u k → IsDemanded sent u

-- ---- nodes

-- A node that is up: for whom its server votes it was asked to, in its incarnation; where few bindings were made, what it acknowledged its
-- server was told, or was asked to vote for in earlier incarnations; and of a record that is told again, who isn't awaited acknowledged.
pub record KnowsAcked (few : Bool) (sent : List Post) (k : ℕ) (intents : List (Uid × Intent)) (t : Parts) : Type 0 where
  pub voted : (u : Uid) → is_on (let s = t.server in s.voted) u ≡ true → IsVoter sent u k (let s = t.server in s.inc)
  pub acked : few ≡ true → (u : Uid) → HasAcked sent u k →
      (is_told u t.server ≡ true) ⊎ ((i : ℕ) → IsVoter sent u k i → i < (let s = t.server in s.inc))
  pub awaited : (u : Uid) (j i : Intent) (m : ℕ) → at_uid u (let c = t.coord in c.telling) ≡ Some j → at_uid u intents ≡ Some i →
      has (let z = i in z.nodes) m ≡ true → has (let z = j in z.nodes) m ≡ false → HasAcked sent u m

-- so it is at a node that is up
abbrev pub KnowsAcks : Bool → List Post → ℕ → Node → Type 0
KnowsAcks few sent k n = (t : Parts) → n.live ≡ Some t → KnowsAcked few sent k (let d = n.disk in d.intents) t

-- So it is in the world, where the test says whether few bindings were made.
pub record AcksAreKnown (few : Bool) (begun : List Action) (M : Seen) : Type 0 where
  pub homes : AreHomed begun
  pub world : AreListed begun (records_in M.nodes) M.sent
  pub nodes : (k : ℕ) (n : Node) → M.nodes k ≡ Some n → KnowsAcks few M.sent k n
