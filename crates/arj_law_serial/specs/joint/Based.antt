-- Which versions copies of an object have, and what is voted, where both its machines stand in one run.
use Rattle.std.specs.Prelude.{⊤, ◌≡◌, true, ◌<◌, ◌≤◌, ℕ, List, Some, Contains}
use Rattle.std.specs.List.{AllByRecursion}
use Rattle.arj_protocol.specs.Words.{Ask, Asked, Binding, End, Head, ObjectState, Uid, asks, object}
use Rattle.arj_protocol.specs.Words.ask as vote
use Rattle.arj_protocol.specs.Words.voted
use Rattle.arj_protocol.specs.Ask.{Reply, answers, asked_by}
use Rattle.arj_protocol.specs.Copy.{Copy, changed_state}
use Rattle.arj_protocol.specs.Node.{Parts}
use Rattle.arj_protocol.specs.Order.{binding_number, uid_number}
use Rattle.arj_protocol.specs.Server.{Server}
use Rattle.arj_protocol.specs.Step.{Node}
use Rattle.arj_law_disk.specs.machine.Effects.{World}
use Rattle.arj_law_disk.specs.machine.State as disk
use Rattle.arj_law_disk.specs.machine.State.{Known, Packed, IsNew}
use Rattle.arj_law_disk_view.specs.view.Pairs.{packed}
use Rattle.arj_law_lock.specs.machine.Actions as machine
use Rattle.arj_law_lock.specs.machine.Actions.{top}
use Rattle.arj_law_lock.specs.machine.Machine.{Run, start}
use Rattle.arj_law_lock.specs.machine.State as lock
use Rattle.arj_law_lock.specs.logs.Under.{MayCount}
use Rattle.arj_law_lock_view.specs.view.Copies.{SeesCopy}
use Rattle.arj_law_lock_view.specs.running.Fixed.{Fixed}
use Rattle.arj_law_disk_view.specs.running.States.{CoordIsSo, Fits, MessageIsSo}
use Rattle.arj_law_parts.specs.moves.Seen.{In}
use Rattle.arj_promise.specs.Runs.{Post, Seen}

-- ---- one copy

-- a state of this version, by this writer, was the last one once
abbrev pub IsKnownAs : disk.State → ℕ → Uid → Type 0
IsKnownAs S v u = (g : Packed) × Known S g × (g.version ≡ v) × (g.writer ≡ uid_number u)

-- So it is of what lies under a copy's overlays, while the binding may count, by the lock machine.
abbrev pub IsBasedAt : lock.State → World → ℕ → ℕ → Uid → Type 0
IsBasedAt S W b v u = (b < (let n = S.naming in n.bound)) × (MayCount S b → IsKnownAs W.disk v u)

-- so it is of a copy, under its binding
abbrev pub IsBased : lock.State → World → Copy → Type 0
IsBased S W c = let b = c.base in IsBasedAt S W (binding_number c.binding) b.version b.writer

-- A server had this state for the top in a copy, with the top's commit called, and was asked to vote for the top under the copy's binding.
pub record IsVotedOver (f : Fixed) (x : ℕ) (u : Uid) (S : lock.State) (W : World) (st : ObjectState) : Type 0 where
  pub copy : Copy
  pub before : lock.State
  pub node : ℕ
  pub inc : ℕ
  pub reached : Run (start f.first) before
  pub called : 1 ≤ (let a = before.action (f.act u) in a.stage)
  pub run : Run before S
  pub state : changed_state u x copy ≡ Some st
  pub sees : SeesCopy f.act f.code x copy (before.server node)
  pub sent : machine.In (lock.Vote (f.act u) (binding_number copy.binding) inc) S.net
  pub based : IsBased S W copy

-- What is known of a state of the object that a store gave, and of one that a server voted, wherever it goes.
abbrev pub fits_of : ℕ → (ObjectState → Type 0) → (ObjectState → Type 0) → Fits
fits_of x L Q = record { loaded = λ u st. u ≡ object x → L st; voted = λ u st. u ≡ object x → Q st; kept = λ u st. ⊤ }

-- ---- a node, and messages

-- so it is of each copy of the object at a server
abbrev pub CopiesAreBased : ℕ → lock.State → World → Server → Type 0
CopiesAreBased x S W s = AllByRecursion (λ (e : ℕ × Copy). e.0 ≡ x → IsBased S W e.1) s.objects

-- what a store gave is known
abbrev pub IsKnownState : World → ObjectState → Type 0
IsKnownState W st = IsKnownAs W.disk st.version st.writer

-- what a server voted is so, for the top that wrote it
abbrev pub IsVotedState : Fixed → ℕ → lock.State → World → ObjectState → Type 0
IsVotedState f x S W st = IsVotedOver f x st.writer S W st

-- what a coordinator has of states: those that it loaded, and those that were voted
abbrev pub coord_fits : Fixed → ℕ → lock.State → World → Fits
coord_fits f x S W = fits_of x (IsKnownState W) (IsVotedState f x S W)

-- what messages have of them: those that stores gave
abbrev pub post_fits : ℕ → World → Fits
post_fits x W = fits_of x (IsKnownState W) (λ st. ⊤)

-- A Yes answers a request; if that asks to vote, for each binding of the object that it names this holds of each state of the object.
pub record IsYesBased (x : ℕ) (IsSo : ObjectState → Type 0) (sent : List Post) (p : Post) (a : Asked) (states : List ObjectState) :
    Type 0 where
  pub request : Post
  pub asked : In request sent
  pub from : (let r = request in r.from) ≡ p.to
  pub to : (let r = request in r.to) ≡ p.from
  pub head : Head
  pub ask : Ask
  pub is : asks (let r = request in r.message) ≡ Some (head, ask)
  pub of : asked_by head ≡ a
  pub over : (inc : ℕ) (ties : List (ℕ × Binding)) (ends : List (Uid × End)) (b : Binding) (st : ObjectState) →
      ask ≡ vote.Vote inc ties ends → Contains {X = ℕ × Binding} ties (x, b) → Contains states st → st.uid ≡ object x → IsSo st

-- So it is at each node that is up, and of each message that was ever sent.
pub record AreBased (f : Fixed) (x : ℕ) (S : lock.State) (W : World) (M : Seen) : Type 0 where
  pub copies : (k : ℕ) (n : Node) (t : Parts) → M.nodes k ≡ Some n → n.live ≡ Some t → CopiesAreBased x S W t.server
  pub coords : (k : ℕ) (n : Node) (t : Parts) → M.nodes k ≡ Some n → n.live ≡ Some t → CoordIsSo (coord_fits f x S W) t.coord
  pub posts : (p : Post) → In p M.sent → MessageIsSo (post_fits x W) p.message
  pub yeses : (p : Post) (a : Asked) (states : List ObjectState) → In p M.sent →
      answers p.message ≡ Some (a, Reply.Voted (voted.Yes states)) → IsYesBased x (IsVotedState f x S W) M.sent p a states

-- ---- a decided top

-- It is decided, with what it wrote in its plan, which a server voted so in an earlier state of the lock machine, with its commit called
-- and not decided, and with a call of it that wasn't undone.
pub record WasVotedOver (f : Fixed) (x : ℕ) (u : Uid) (S : lock.State) (W : World) : Type 0 where
  pub decided : disk.decided W.disk (uid_number u) ≡ true
  pub state : ObjectState
  pub writes : (let p = W.disk.plan (uid_number u) in p.writes) ≡ Some (packed state)
  pub waiting : lock.State
  pub reached : Run (start f.first) waiting
  pub since : Run waiting S
  pub stage : (let a = waiting.action (f.act u) in a.stage) ≡ 1
  pub call : (c : lock.Call) × machine.In c waiting.calls × (top c.act ≡ f.act u) × lock.Alive waiting c.act
  pub over : IsVotedOver f x u waiting W state

-- what a plan writes is by its top, and nobody of these wrote the first state
abbrev pub HasWriters : disk.State → Type 0
HasWriters S = (t : ℕ) (w : Packed) → S.begun t ≡ true → (let p = S.plan t in p.writes) ≡ Some w → (w.writer ≡ t) × IsNew S t
