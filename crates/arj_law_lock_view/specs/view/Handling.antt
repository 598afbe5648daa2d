-- What a node does with a whole message, as far as its server goes, in the machine of one object.
use Rattle.std.specs.Prelude.{⊤, ◌≡◌, ◌≢◌, ◌≤◌, ℕ, Bool, true, false, List, Option, Some, None, Contains}
use Rattle.arj_protocol.specs.Words.{Ask, Binding, Head, Message, asks}
use Rattle.arj_protocol.specs.Words.ask
use Rattle.arj_protocol.specs.Words.message
use Rattle.arj_protocol.specs.Words.voted
use Rattle.arj_protocol.specs.Ask.{Reply, actor, asked_by, response}
use Rattle.arj_protocol.specs.Effect.{Disk, Effect, Send}
use Rattle.arj_protocol.specs.Node.{Handled, Parts, Took, Void, taken}
use Rattle.arj_protocol.specs.Order.{binding_number}
use Rattle.arj_protocol.specs.Server.{Server}
use Rattle.arj_law_lock.specs.machine.Actions.{Act, In, same}
use Rattle.arj_law_lock.specs.machine.State as machine
use Rattle.arj_law_lock.specs.machine.State.{State}
use Rattle.arj_law_parts.specs.parts.Frames.{outs_of}
use Rattle.arj_law_lock_view.specs.view.Going.{Goes}
use Rattle.arj_law_lock_view.specs.view.Servers.{ShowsInvoked}
use Rattle.arj_law_lock_view.specs.view.Serving.{IsShown, IsVotedBy, ListsEach, HaveOne}
use Rattle.arj_law_lock_view.specs.view.Telling.{AreBrought, Sees, View}
use Rattle.arj_law_lock_view.specs.view.Calling.{IsReached}

-- ---- what a message shows

-- ends that are told
abbrev pub IsTellingShown : View → Server → State → Message → Type 0
IsTellingShown v s S (message.Told m) = AreBrought v m.ends s S
IsTellingShown v s S m = ⊤

-- or a request
abbrev pub IsAskingShown : View → Server → State → Message → Option (Head × Ask) → Type 0
IsAskingShown v s S m None = IsTellingShown v s S m
IsAskingShown v s S m (Some q) = IsShown v q.0 q.1 s S

-- A message comes to the node: it shows what a request, or what ends that are told show to its server.
abbrev pub IsMessageShown : View → Server → State → Message → Type 0
IsMessageShown v s S m = IsAskingShown v s S m (asks m)

-- ---- what answers show

-- What an answer of a server to this request shows, where the request is about the object: the copy is active, the operation was applied
-- or refused, or the copy has changed; and a Yes, that the machine has a vote for the top under the binding, or a greater one, and what the
-- vote gave.
abbrev pub ShowsReply : View → Head → Ask → State → Reply → Type 0
ShowsReply v h (ask.Activate b st) T (Reply.Activated i) = (let u = st.uid in u.num) ≡ v.x →
    In (machine.Activated (binding_number b) i) T.net
ShowsReply v h (ask.Invoke y b i ends o) T (Reply.Invoked r) = y ≡ v.x →
    ShowsInvoked v.family.act v.code (actor h.path) h.req (record { binding = b; op = o }) T r
ShowsReply v h (ask.Vote i ties ends) T (Reply.Voted (voted.Yes states)) = (b : Binding) → Contains {X = ℕ × Binding} ties (v.x, b) →
    (binding_number b ≤ T.yes (v.family.act (actor h.path))) × IsVotedBy v (actor h.path) b states T × HaveOne v.x states
ShowsReply v h a T r = ⊤

-- a request that is for the server
abbrev pub is_for_server : Ask → Bool
is_for_server (ask.Activate b st) = true
is_for_server (ask.Invoke y b i ends o) = true
is_for_server (ask.Vote i ties ends) = true
is_for_server _ = false

-- what goes out at such a request is an answer to it, and shown
abbrev pub AreAnswersShown : View → State → List Effect → Option (Head × Ask) → Type 0
AreAnswersShown v T outs None = ⊤
AreAnswersShown v T outs (Some q) = is_for_server q.1 ≡ true → (to : ℕ) (z : Message) → Contains outs (Send to z) →
    (r : Reply) × (z ≡ response (asked_by q.0) r) × ShowsReply v q.0 q.1 T r

-- ---- what the node does with it

-- the request asks for a vote for this top
abbrev pub is_vote : View → Act → Head → Ask → Bool
is_vote v a h (ask.Vote i ties ends) = same a (v.family.act (actor h.path))
is_vote v a h _ = false

-- the message asks for a vote for this top
abbrev pub is_vote_for : View → Act → Option (Head × Ask) → Bool
is_vote_for v a None = false
is_vote_for v a (Some q) = is_vote v a q.0 q.1

-- Only the server of this node changed, messages were sent, and of votes only what one for the message's top gave.
pub record OnlyServing (v : View) (m : Message) (S T : State) : Type 0 where
  pub rest : T ≡ record S { server = T.server; yes = T.yes; vote = T.vote; net = T.net }
  pub others : (k : ℕ) → k ≢ v.node → T.server k ≡ S.server k
  pub sent : (z : machine.Message) → In z S.net → In z T.net
  pub tops : (a : Act) → is_vote_for v a (asks m) ≡ false → (T.yes a ≡ S.yes a) × (T.vote a ≡ S.vote a)
  pub raised : (a : Act) → S.yes a ≤ T.yes a

-- the server after it
abbrev pub server_after : Parts → Handled → Server
server_after t (Void outs) = t.server
server_after t (Took u outs) = u.server

-- A node takes a message: its server is seen again, and what it answers is shown.
abbrev pub MessagesAreTaken : Type 0
MessagesAreTaken = (v : View) (d : Disk) (t : Parts) (from : ℕ) (m : Message) (S : State)
    → IsReached S → ListsEach t.server → IsMessageShown v t.server S m → Sees v t.server S
    → let r = taken v.node d t from m in
    Goes S (λ T. Sees v (server_after t r) T × OnlyServing v m S T × AreAnswersShown v T (outs_of r) (asks m))
