-- A server, as the lock machine of one object has it.
use Rattle.std.specs.Prelude.{⊤, ◌≡◌, ◌≤◌, ℕ, false, [], Option, Some, None}
use Rattle.arj_protocol.specs.Words.{Binding, InvokedReply, Op, Uid, Value, answer_of, is_on, writes}
use Rattle.arj_protocol.specs.Words.invoked
use Rattle.arj_protocol.specs.Copy.{Copy}
use Rattle.arj_protocol.specs.Order.{at_number, at_uid, binding_number}
use Rattle.arj_protocol.specs.Server.{Kept, Server, is_told}
use Rattle.arj_law_lock.specs.machine.Actions.{Act, In}
use Rattle.arj_law_lock.specs.machine.State as machine
use Rattle.arj_law_lock.specs.machine.State.{Request, State}
use Rattle.arj_law_lock_view.specs.view.Acts.{Acts}
use Rattle.arj_law_lock_view.specs.view.Calling.{IsApplied}
use Rattle.arj_law_lock_view.specs.view.Copies.{Codes, SeesCopy}

-- ---- what requests want

-- an operation on the object, under a binding
pub record Wanted : Type 0 where
  pub binding : Binding
  pub op : Op

-- What each request of an action wants of the object, where it is an Invoke of it. A run's coordinators fix it.
abbrev pub Wants : Type 0
Wants = Uid → ℕ → Option Wanted

-- such a request as one of the machine
abbrev pub wanted_by : Acts → Uid → ℕ → Wanted → Request
wanted_by act u number w = record { act = act u; number = number; binding = binding_number w.binding; write = writes w.op }

-- what an answer to such a request shows
abbrev pub ShowsInvoked : Acts → Codes → Uid → ℕ → Wanted → State → InvokedReply → Type 0
ShowsInvoked act code u number w S (invoked.Answered a) =
    (v : Value) × (a ≡ answer_of w.op v) × IsApplied code (wanted_by act u number w) w.op v S
ShowsInvoked act code u number w S (invoked.Conflict h m) = In (machine.Refused (wanted_by act u number w)) S.net
ShowsInvoked act code u number w S (invoked.Changed d) = In (machine.Changed (binding_number w.binding)) S.net

-- so it is of an answer that is there
abbrev pub ShowsIfInvoked : Acts → Codes → Uid → ℕ → Wanted → State → Option InvokedReply → Type 0
ShowsIfInvoked act code u number w S None = ⊤
ShowsIfInvoked act code u number w S (Some a) = ShowsInvoked act code u number w S a

-- ---- a server

-- Its copy of the object, with the answer that said so; or nothing since it started, and no row.
abbrev pub SeesObject : Acts → Codes → ℕ → ℕ → Option Copy → machine.Server → State → Type 0
SeesObject act code x i None m S = (m.active ≡ 0) × (m.log ≡ []) × ((a : Act) → m.rows a ≡ 0)
SeesObject act code x i (Some c) m S = SeesCopy act code x c m × In (machine.Activated (binding_number c.binding) i) S.net

-- the number of the last request that was answered
abbrev pub last_of : Option Kept → ℕ
last_of None = 0
last_of (Some k) = k.req

-- A server: its incarnation, its copy, and for each action that it wasn't told of, the number of its last request, what the answer
-- to that shows, and whether it voted for it.
pub record SeesServer (act : Acts) (code : Codes) (wants : Wants) (x n : ℕ) (s : Server) (S : State) : Type 0 where
  pub incarnation : (let m = S.server n in m.incarnation) ≡ s.inc
  pub object : SeesObject act code x s.inc (at_number x s.objects) (S.server n) S
  pub latest : (u : Uid) → is_told u s ≡ false → (let m = S.server n in m.request (act u)) ≤ last_of (at_uid u s.kept)
  pub kept : (u : Uid) (k : Kept) (w : Wanted) → at_uid u s.kept ≡ Some k → wants u k.req ≡ Some w →
      ShowsInvoked act code u k.req w S k.answer
  pub voted : (u : Uid) → is_told u s ≡ false → is_on s.voted u ≡ false → (let m = S.server n in m.voted (act u)) ≡ false
