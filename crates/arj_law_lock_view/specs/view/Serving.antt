-- What a server does in the machine of one object: it stops, starts, and takes the messages that are for it.
use Rattle.std.specs.Prelude.{⊤, ◌≡◌, ◌≢◌, ◌<◌, ◌≤◌, ◌+◌, ℕ, List, Option, Some, None, Contains, find}
use Rattle.arj_protocol.specs.Words.{Ask, Binding, End, Head, ObjectState, Op, Uid, object, uid_eq}
use Rattle.arj_protocol.specs.Words.ask
use Rattle.arj_protocol.specs.Words.voted
use Rattle.arj_protocol.specs.Ask.{actor}
use Rattle.arj_protocol.specs.Copy.{Copy, changed_state}
use Rattle.arj_protocol.specs.Order.{at_number, binding_number}
use Rattle.arj_protocol.specs.Server.{Server, activate, invoke, new_server, vote}
use Rattle.arj_law_lock.specs.machine.Actions.{In}
use Rattle.arj_law_lock.specs.machine.Machine.{after_crash, start}
use Rattle.arj_law_lock.specs.machine.State as machine
use Rattle.arj_law_lock.specs.machine.State.{State}
use Rattle.arj_protocol.specs.Follow.{ends_in}
use Rattle.arj_law_parts.specs.parts.Messages.{FitsAsk}
use Rattle.arj_law_lock_view.specs.view.Asks.{Post, ShowsAsk}
use Rattle.arj_law_lock_view.specs.view.Calling.{IsReached}
use Rattle.arj_law_lock_view.specs.view.Commits.{HasVoted, OnlyVote, ballot_for, IsVoteOf}
use Rattle.arj_law_lock_view.specs.view.Copies.{Codes, OnlyServer, SeesCopy}
use Rattle.arj_law_lock_view.specs.view.Going.{Goes}
use Rattle.arj_law_lock_view.specs.view.Servers.{ShowsIfInvoked}
use Rattle.arj_law_lock_view.specs.view.Telling.{AreOneTree, IsOfFamily, Sees, ShowEnds, View}
use Rattle.arj_law_lock_view.specs.view.Acts.{Acts}

-- ---- it stops and starts

-- The node is down: the machine's server has nothing, in an incarnation that is at most the next one.
pub record IsDown (node inc : ℕ) (S : State) : Type 0 where
  pub last : ℕ
  pub low : last ≤ inc + 1
  pub empty : S.server node ≡ after_crash last

-- It stops: so does the machine's.
abbrev pub ServersStop : Type 0
ServersStop = (v : View) (s : Server) (S : State) → Sees v s S → Goes S (λ T. IsDown v.node s.inc T × OnlyServer v.node S T)

-- Before it first starts it is down too.
abbrev pub ServersAreDown : Type 0
ServersAreDown = (v : View) (first inc : ℕ) → IsDown v.node inc (start first)

-- It starts in a later incarnation, with nothing: so does the machine's, unless it did already.
abbrev pub ServersStart : Type 0
ServersStart = (v : View) (inc i : ℕ) (S : State) → inc < i → IsDown v.node inc S →
    Goes S (λ T. Sees v (new_server i) T × OnlyServer v.node S T)

-- ---- what requests show

-- the request, as one about the object that comes to this node
abbrev pub post_to : View → Head → Post
post_to v h = record { x = v.x; path = h.path; number = h.req; node = v.node }

-- It is for the server, and about the object, which a Vote may tie.
abbrev pub IsForServer : ℕ → Ask → Type 0
IsForServer x (ask.Activate b st) = (let u = st.uid in u.num) ≡ x
IsForServer x (ask.Invoke y b i ends o) = y ≡ x
IsForServer x (ask.Vote i ties ends) = ⊤
IsForServer x a = ⊥

-- An Invoke has a number, and is what its action wants of the object by that; one of another object is no request that wants something of
-- this one.
abbrev pub IsWanted : View → Head → Ask → Type 0
IsWanted v h (ask.Invoke y b i ends o) = (1 ≤ h.req) × (y ≡ v.x → v.wants (actor h.path) h.req ≡ Some (record { binding = b; op = o }))
    × (y ≢ v.x → v.wants (actor h.path) h.req ≡ None)
IsWanted v h a = ⊤

-- A request comes to the server: both are of the actions that were begun, and it shows what its coordinator did about the object, what it
-- wants, and its ends.
pub record IsShown (v : View) (h : Head) (a : Ask) (s : Server) (S : State) : Type 0 where
  pub reached : IsReached S
  pub whole : AreOneTree v.family
  pub server : IsOfFamily v.family s
  pub fits : FitsAsk (let g = v.family in g.begun) h a
  pub says : IsForServer v.x a → ShowsAsk v.family.act v.code (post_to v h) S a
  pub wanted : IsWanted v h a
  pub shown : ShowEnds v s S (ends_in a)

-- ---- what it does with them

-- what an answer to an Activate shows
abbrev pub ShowsActivated : Binding → State → Option ℕ → Type 0
ShowsActivated b S None = ⊤
ShowsActivated b S (Some i) = In (machine.Activated (binding_number b) i) S.net

-- An Activate: the server takes the state, or has it, or the message is void.
abbrev pub ActivatesAreSeen : Type 0
ActivatesAreSeen = (v : View) (h : Head) (b : Binding) (st : ObjectState) (s : Server) (S : State)
    → IsShown v h (ask.Activate b st) s S → Sees v s S
    → let r = activate v.node h.path b st s in
    Goes S (λ T. Sees v r.part T × OnlyServer v.node S T × ((let u = st.uid in u.num) ≡ v.x → ShowsActivated b T r.reply))

-- An Invoke: the server answers that it has changed, answers as it did, or applies the ends that are new to it and then the operation, or
-- refuses that.
abbrev pub InvokesAreSeen : Type 0
InvokesAreSeen = (v : View) (h : Head) (y : ℕ) (b : Binding) (i : ℕ) (ends : List (Uid × End)) (o : Op) (s : Server) (S : State)
    → IsShown v h (ask.Invoke y b i ends o) s S → Sees v s S
    → let r = invoke v.node h y b i ends o s in
    Goes S (λ T. Sees v r.part T × OnlyServer v.node S T
    × (y ≡ v.x → ShowsIfInvoked v.family.act v.code (actor h.path) h.req (record { binding = b; op = o }) T r.reply))

-- each copy that the server lists is the one that it has of the object
abbrev pub ListsEach : Server → Type 0
ListsEach s = (y : ℕ) (o : Copy) → Contains {X = ℕ × Copy} s.objects (y, o) → at_number y s.objects ≡ Some o

-- the object's state among these
abbrev pub state_in : ℕ → List ObjectState → Option ObjectState
state_in x states = find (λ (s : ObjectState). uid_eq s.uid (object x)) states

-- among these the object has one state at most
abbrev pub HaveOne : ℕ → List ObjectState → Type 0
HaveOne x states = (s t : ObjectState) → Contains states s → Contains states t → s.uid ≡ object x → t.uid ≡ object x → s ≡ t

-- a Yes: under which binding, and with which states
pub record Yes : Type 0 where
  pub binding : Binding
  pub states : List ObjectState

-- It was given for the top: among its states the object's is what the top left in a copy, and the machine has what it left there; there it
-- saw that copy.
pub record IsVotedSo (act : Acts) (code : Codes) (x : ℕ) (u : Uid) (y : Yes) (T : State) : Type 0 where
  pub copy : Copy
  pub vote : IsVoteOf (act u) (binding_number y.binding) (ballot_for act code u copy) T
  pub state : state_in x y.states ≡ changed_state u x copy
  pub sees : SeesCopy act code x copy ((let o = vote in let k = o.before in k.server) (let o = vote in o.node))

-- as a node looks at it
abbrev pub IsVotedBy : View → Uid → Binding → List ObjectState → State → Type 0
IsVotedBy v u b states T = IsVotedSo v.family.act v.code v.x u (record { binding = b; states = states }) T

-- The server has voted for the top, under this binding, which is its copy's, with what the top left in that.
pub record HasVotedHere (v : View) (u : Uid) (b : Binding) (s : Server) (S T : State) : Type 0 where
  pub copy : Copy
  pub there : at_number v.x s.objects ≡ Some copy
  pub bound : binding_number b ≡ binding_number copy.binding
  pub voted : HasVoted v.node (v.family.act u) (binding_number b) (ballot_for v.family.act v.code u copy) S T

-- A Vote: the server applies the ends that are new to it and votes, says that it has changed, or the message is void.
abbrev pub VotesAreTaken : Type 0
VotesAreTaken = (v : View) (h : Head) (i : ℕ) (ties : List (ℕ × Binding)) (ends : List (Uid × End)) (s : Server) (S : State)
    → IsReached S → ListsEach s → IsShown v h (ask.Vote i ties ends) s S → Sees v s S
    → let r = vote v.node h.path i ties ends s in
    Goes S (λ T. Sees v r.part T × OnlyVote v.node (v.family.act (actor h.path)) S T
    × ((b : Binding) (states : List ObjectState) → Contains {X = ℕ × Binding} ties (v.x, b) → r.reply ≡ Some (voted.Yes states) →
    HasVotedHere v (actor h.path) b r.part S T × IsVotedBy v (actor h.path) b states T × HaveOne v.x states))
