-- What a run's own relations have to give beside what is seen in the machine, so that what naming and servers do is seen again.
use Rattle.std.specs.Prelude.{◌≡◌, ◌<◌, ℕ, List, [], true, false, Option, Some, Contains, is_some}
use Rattle.arj_protocol.specs.Words.{End, Message, Row, Uid, before_last, is_held_by, is_on, uid_eq, uids_of}
use Rattle.arj_protocol.specs.Words.ending
use Rattle.arj_protocol.specs.Words.kind
use Rattle.arj_protocol.specs.Words.message
use Rattle.arj_protocol.specs.Ask.{last_end}
use Rattle.arj_protocol.specs.Confirm.{recovered_naming}
use Rattle.arj_protocol.specs.Copy.{Copy}
use Rattle.arj_protocol.specs.Effect.{Disk}
use Rattle.arj_protocol.specs.Named.{Named}
use Rattle.arj_protocol.specs.Naming.{Naming, loses_row}
use Rattle.arj_protocol.specs.Node.{Parts}
use Rattle.arj_protocol.specs.Order.{at_number}
use Rattle.arj_protocol.specs.Server.{Server, is_told}
use Rattle.arj_law_lock.specs.machine.Actions.{Act, Root, is_top, root}
use Rattle.arj_law_lock.specs.machine.State.{State}
use Rattle.arj_law_parts.specs.parts.Actions.{Action, act_of, owners_of}
use Rattle.arj_law_runs.specs.journal.Book.{book}
use Rattle.arj_law_runs.specs.journal.Knows.{IsWritten}
use Rattle.arj_law_runs.specs.journal.Paths.{AreAlike}
use Rattle.arj_law_runs.specs.kept.Worlds.{IsGoodOf}
use Rattle.arj_law_parts.specs.moves.Seen.{In, up}
use Rattle.arj_promise.specs.Runs.{Post, Seen}
use Rattle.arj_law_lock_view.specs.facts.Parted.{KnowsParted}
use Rattle.arj_law_lock_view.specs.view.Namings.{HasNothingAt, IsGoodAt}
use Rattle.arj_law_lock_view.specs.view.Telling.{HasNoneLeft, View}
use Rattle.arj_law_lock_view.specs.running.Fixed.{Agrees, Fixed, view_of}
use Rattle.arj_law_lock_view.specs.running.Sees.{SeesLocks}
use Rattle.arj_law_lock_view.specs.running.Tied.{AreTied}

-- ---- where something comes

-- A node that is up, in what is seen.
pub record Spot : Type 0 where
  pub node : ℕ
  pub disk : Disk
  pub parts : Parts
  pub seen : Seen

-- what is seen, with this node up
abbrev pub world_at : Spot → Seen
world_at s = up s.node s.disk s.parts s.seen

-- The object in a run, in a state of the machine.
pub record Case : Type 0 where
  pub fixed : Fixed
  pub x : ℕ
  pub begun : List Action
  pub state : State

-- as a node looks at it
abbrev pub view_in : Case → ℕ → View
view_in c k = view_of c.fixed c.x c.begun k

-- Nodes are good, their actions are those of the journal, which they know, what is fixed agrees with what was done, and the object is
-- seen, in a state to which the journal is tied.
pub record IsSeenIn (c : Case) (M : Seen) : Type 0 where
  pub good : IsGoodOf c.begun M
  pub alike : AreAlike c.begun (let B = book M.lines in B.acts)
  pub written : IsWritten M
  pub agrees : Agrees c.fixed c.x c.begun M.sent
  pub sees : SeesLocks c.fixed c.x c.begun c.state M
  pub tied : AreTied c.fixed c.x M.lines c.state

-- the action, in the machine's place, and what the machine has of it
abbrev pub place_in : Case → Uid → Act
place_in c u = let f = c.fixed in f.act u

-- its unit is over
abbrev pub IsUnitOver : Case → Uid → Type 0
IsUnitOver c u = (let S = c.state in let a = S.action (Root (root (place_in c u))) in a.stage) ≡ 3

-- it is aborted
abbrev pub IsAborted : Case → Uid → Type 0
IsAborted c u = (let S = c.state in let a = S.action (place_in c u) in a.stage) ≡ 4

-- it is a committed top
abbrev pub IsCommittedTop : Case → Uid → Type 0
IsCommittedTop c u = (is_top (place_in c u) ≡ true) × ((let S = c.state in let a = S.action (place_in c u) in a.stage) ≡ 3)

-- ---- ends that come

-- the ends that a message tells
abbrev pub told_in : Message → List (Uid × End)
told_in (message.Told m) = m.ends
told_in m = []

-- an abort of this action was told to the node
pub record IsToldAbort (s : Spot) (u : Uid) : Type 0 where
  pub post : Post
  pub sent : In post (let M = s.seen in M.sent)
  pub to : (let p = post in p.to) ≡ s.node
  pub told : Contains {X = Uid × End} (told_in (let p = post in p.message)) (u, ending.Abort)

-- a commit of this action was told to the node, as the last end
pub record IsToldCommit (s : Spot) (u : Uid) : Type 0 where
  pub post : Post
  pub sent : In post (let M = s.seen in M.sent)
  pub to : (let p = post in p.to) ≡ s.node
  pub told : last_end (told_in (let p = post in p.message)) ≡ Some (u, ending.Commit)

-- ---- what is known of servers

-- its server
abbrev pub server_at : Spot → Server
server_at s = let t = s.parts in t.server

-- A server lists each copy under its object. Where an abort comes to it of an action that isn't aborted, whose unit is over, and that is
-- new to it, nothing is left there of a committed top with a surviving write, for which it voted, but what is below an aborted action; and
-- where one comes of a committed top whose unit isn't over, it didn't vote for that.
pub record KnowsServer (c : Case) (s : Spot) : Type 0 where
  pub listed : (y : ℕ) (o : Copy) → Contains {X = ℕ × Copy} (let v = server_at s in v.objects) (y, o) →
      at_number y (let v = server_at s in v.objects) ≡ Some o
  pub left : (u : Uid) → IsToldAbort s u → is_told u (server_at s) ≡ false → IsUnitOver c u → (IsAborted c u → ⊥) →
      HasNoneLeft (view_in c s.node) u (server_at s) c.state
  pub unvoted : (u : Uid) → IsToldAbort s u → is_told u (server_at s) ≡ false → IsCommittedTop c u → (IsUnitOver c u → ⊥) →
      is_on (let v = server_at s in v.voted) u ≡ false

-- ---- what is known of naming

-- the machine's naming has confirmed the action, in this incarnation
abbrev pub IsConfirmedNow : Case → Uid → Type 0
IsConfirmedNow c u = (let S = c.state in let m = S.naming in m.confirmed (place_in c u)) ≡ true

-- It made fewer bindings than are told apart, and the object is good there.
pub record HoldsNaming (c : Case) (k : ℕ) (n : Naming) : Type 0 where
  pub count : n.count < 4294967296
  pub good : IsGoodAt (view_in c k) (owners_of c.begun) n

-- so it is where the node has naming
abbrev pub HoldsNamingIn : Case → ℕ → Option Naming → Type 0
HoldsNamingIn c k o = (n : Naming) → o ≡ Some n → HoldsNaming c k n

-- Besides: an abort that comes to it of a committed top whose unit isn't over is of one that it didn't confirm. Where the commit of a
-- constituent comes that it confirmed, each row of that can pass to its serializing action; and of a nested action it has nothing. Whoever
-- loses a row with another action stands below that.
pub record KnowsNaming (c : Case) (s : Spot) (n : Naming) : Type 0 where
  pub holds : HoldsNaming c s.node n
  pub unconfirmed : (u : Uid) → IsToldAbort s u → is_on n.told u ≡ false → IsCommittedTop c u → (IsUnitOver c u → ⊥) → IsConfirmedNow c u →
      ⊥
  pub heirs : (o : Named) (a : Action) → at_number c.x n.objects ≡ Some o → Contains c.begun a → a.kind ≡ kind.Constituent →
      IsToldCommit s (act_of a) → is_on n.told (act_of a) ≡ false → IsConfirmedNow c (act_of a)
      → (r : Row) → Contains o.rows r → is_held_by (act_of a) r ≡ true → before_last r.holder ≡ before_last (uids_of a.path)
  pub nothing : (o : Named) (a : Action) → at_number c.x n.objects ≡ Some o → Contains c.begun a → a.kind ≡ kind.Nested →
      IsToldCommit s (act_of a) → is_on n.told (act_of a) ≡ false → HasNothingAt n o (act_of a)
  pub lost : (w u : Uid) → uid_eq u w ≡ false → loses_row w u n ≡ true →
      (a : Action) × Contains c.begun a × (act_of a ≡ u) × (is_on (uids_of a.path) w ≡ true)

-- What is known at the node; and who takes part in each commit is known in the world: all Confirms of a top are one.
pub record KnowsSpot (c : Case) (s : Spot) : Type 0 where
  pub parted : KnowsParted c.begun (world_at s)
  pub server : KnowsServer c s
  pub naming : (n : Naming) → (let t = s.parts in t.naming) ≡ Some n → KnowsNaming c s n

-- of a node that is down: naming finds the object in the entries
abbrev pub KnowsEntry : ℕ → ℕ → Disk → Type 0
KnowsEntry x k d = k ≡ 1 → (inc : ℕ) → is_some (at_number x (let n = recovered_naming inc d.names in n.objects)) ≡ true
