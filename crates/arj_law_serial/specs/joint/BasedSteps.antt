-- What handlers do to what is known of an object's copies and votes, where both its machines are seen; and what naming then takes.
use Rattle.std.specs.Prelude.{⊤, ◌≡◌, true, ℕ, List, Option, Some}
use Rattle.std.specs.List.{AllByRecursion}
use Rattle.arj_protocol.specs.Words.{Asked, Message, ObjectState, Uid, object}
use Rattle.arj_protocol.specs.Words.voted
use Rattle.arj_protocol.specs.Ask.{Reply, answers}
use Rattle.arj_protocol.specs.Asking.{heard}
use Rattle.arj_protocol.specs.Commit.{Machine, plan_of}
use Rattle.arj_protocol.specs.Coord.{Committing, Coord, Doing, doing_of}
use Rattle.arj_protocol.specs.Effect.{Disk, Do, Effect, Say, Send, held_at}
use Rattle.arj_protocol.specs.Ending.{acked, answer_query}
use Rattle.arj_protocol.specs.Node.{Parts, Took, handle, is_meant}
use Rattle.arj_law_parts.specs.parts.Actions.{Action}
use Rattle.arj_law_parts.specs.parts.Claims.{AreTrue}
use Rattle.arj_law_runs.specs.calls.Runs.{VotesAreUsed}
use Rattle.arj_law_disk.specs.machine.Core.{Core}
use Rattle.arj_law_disk.specs.machine.Effects.{World}
use Rattle.arj_law_disk_view.specs.view.Sees.{IsLater}
use Rattle.arj_law_disk_view.specs.running.States.{AllSay, CoordIsSo}
use Rattle.arj_law_lock_view.specs.facts.Requests.{KnowsRequests}
use Rattle.arj_law_lock.specs.machine.Actions as machine
use Rattle.arj_law_lock.specs.machine.Actions.{top}
use Rattle.arj_law_lock.specs.machine.Machine.{Run, start}
use Rattle.arj_law_lock.specs.machine.State as lock
use Rattle.arj_law_lock.specs.machine.State.{Alive, Call}
use Rattle.arj_law_lock_view.specs.running.Fixed.{Fixed, view_of}
use Rattle.arj_law_lock_view.specs.running.Sees.{SeesLocks}
use Rattle.arj_law_lock_view.specs.view.Handling.{IsMessageShown}
use Rattle.arj_law_lock_view.specs.view.Telling.{Sees}
use Rattle.arj_law_serial.specs.order.Tied.{AreApart}
use Rattle.arj_law_parts.specs.moves.Seen.{In, at, up}
use Rattle.arj_promise.specs.Runs.{Seen}
use Rattle.arj_law_parts.specs.moves.Walks.{Up, Walks, halted}
use Rattle.arj_law_serial.specs.joint.Based.{AreBased, CopiesAreBased, HasWriters, IsKnownState, WasVotedOver, coord_fits}

-- no vote is sent
abbrev pub SendsNoYes : Effect → Type 0
SendsNoYes (Send to m) = (a : Asked) (states : List ObjectState) → answers m ≡ Some (a, Reply.Voted (voted.Yes states)) → ⊥
SendsNoYes (Say b) = ⊤
SendsNoYes (Do w) = ⊤

-- so much is known of copies and votes, wherever both machines have come to by then
abbrev pub StaysBased : Fixed → ℕ → List Action → lock.State → World → Seen → Type 0
StaysBased f x begun S W Z = (T : lock.State) (V : World) → Run S T → IsLater W V → SeesLocks f x begun T Z → AreBased f x T V Z

-- a committed top with a surviving write of the object was decided, with what was voted for it
abbrev pub ArePlannedOver : Fixed → ℕ → lock.State → World → Type 0
ArePlannedOver f x S W = (u : Uid) → (let a = S.action (f.act u) in a.stage) ≡ 3 → (c : Call) → machine.In c S.calls → c.write ≡ true →
    top c.act ≡ f.act u → Alive S c.act → WasVotedOver f x u S W

-- So much is known of copies and votes, and of committed tops, where the codes of values and of their writers are apart.
abbrev pub AreBasedSo : Fixed → ℕ → lock.State → World → Seen → Type 0
AreBasedSo f x S W M = AreApart f.code → AreBased f x S W M × ArePlannedOver f x S W

-- what a store holds of the object was the last state once
abbrev pub HeldAreKnown : ℕ → World → Disk → Type 0
HeldAreKnown x W d = (y : ℕ) (st : ObjectState) → held_at (object y) d.store ≡ Some st → st.uid ≡ object x → IsKnownState W st

-- the number of what a commit waits for is that of its action's last request
abbrev pub AreNumberedSo : Coord → Type 0
AreNumberedSo c = (a : Asked) (q : Doing) (y : Machine) → doing_of a.act c ≡ Some q → q.now ≡ Committing y →
    (let p = plan_of y in p.req) ≡ q.req

-- What a node that is up knows by the protocol alone: answers are to what was asked, votes are used, and what its coordinator sends is
-- true.
pub record KnowsVoting (k from : ℕ) (d : Disk) (t : Parts) (m : Message) (M : Seen) : Type 0 where
  pub requests : (r : Asked × Reply) → answers m ≡ Some r → KnowsRequests M.sent k t.coord
  pub used : VotesAreUsed k t (up k d t M)
  pub numbered : AreNumberedSo t.coord
  pub heard_true : (a : Asked) (r : Reply) → let q = heard from a r d.intents t.coord in AreTrue q.part q.outs
  pub acked_true : (u : Uid) → let q = acked from u d.intents t.coord in AreTrue q.part q.outs
  pub query_true : (u : Uid) → AreTrue t.coord (answer_query from u d.intents t.coord)

-- A node takes a message: by what is known of copies and votes before it, so much is known along its effects, wherever a stop falls.
abbrev pub MessagesKeepBased : Type 0
MessagesKeepBased = (f : Fixed) (x k : ℕ) (begun : List Action) (S : lock.State) (W : World) (d : Disk) (t : Parts) (M : Seen) →
    AreApart f.code → Core W.disk → HasWriters W.disk → Run (start f.first) S → AreBased f x S W (up k d t M)
    → Sees (view_of f x begun k) t.server S → ArePlannedOver f x S W → HeldAreKnown x W d
    → (e from : ℕ) (m : Message) (v : Parts) (outs : List Effect) → In (record { from = from; to = k; message = m }) M.sent → is_meant t m
    ≡ true → handle k d t from m ≡ Took v outs → IsMessageShown (view_of f x begun k) t.server S m → KnowsVoting k from d t m M
    → Walks (StaysBased f x begun S W) e k outs (Up (StaysBased f x begun S W) k v) d M

-- So it is where a coordinator goes on, or a node starts, that sends only states of which so much is known, and no vote.
abbrev pub CoordinatorsKeepBased : Type 0
CoordinatorsKeepBased = (f : Fixed) (x k : ℕ) (begun : List Action) (S : lock.State) (W : World) (d : Disk) (live : Option Parts)
    (M L : Seen) → Run (start f.first) S → AreBased f x S W (at k d live M) → L.nodes ≡ M.nodes → L.sent ≡ M.sent
    → (e : ℕ) (v : Parts) (outs : List Effect) → CopiesAreBased x S W v.server → CoordIsSo (coord_fits f x S W) v.coord →
    AllSay (coord_fits f x S W) outs → AllByRecursion SendsNoYes outs
    → Walks (StaysBased f x begun S W) e k outs (Up (StaysBased f x begun S W) k v) d L

-- and where a node stops
abbrev pub StopsKeepBased : Type 0
StopsKeepBased = (f : Fixed) (x k : ℕ) (begun : List Action) (S : lock.State) (W : World) (d : Disk) (live : Option Parts) (M : Seen) →
    Run (start f.first) S → AreBased f x S W (at k d live M) → (e : ℕ) → StaysBased f x begun S W (halted e k d M)
