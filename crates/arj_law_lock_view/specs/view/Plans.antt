-- The commit of a top at its coordinator, in the machine: what its plan covers, who has voted, and what its requests show.
use Rattle.std.specs.Prelude.{⊤, ◌≡◌, ◌≤◌, ◌*◌, ℕ, List, [], false, true, Contains, filter, map}
use Rattle.arj_protocol.specs.Words.{Uid}
use Rattle.arj_protocol.specs.Words.confirmed
use Rattle.arj_protocol.specs.Words.voted
use Rattle.arj_protocol.specs.Ask.{Reply, actor}
use Rattle.arj_protocol.specs.Commit.{Aborts, Asks, CommitStep, Confirming, Decides, Machine, Plan, Preparing, Stays, Used, Voting}
use Rattle.arj_protocol.specs.Commit.{answered, ask_of, begin_vote, given_up, is_at_server, least_of, servers_of}
use Rattle.arj_protocol.specs.Order.{binding_number, has}
use Rattle.arj_law_lock.specs.machine.Actions.{Act, In, is_top, root}
use Rattle.arj_law_lock.specs.machine.Machine.{Run}
use Rattle.arj_law_lock.specs.machine.State as machine
use Rattle.arj_law_lock.specs.machine.State.{Alive, Call, Covered, Include, State}
use Rattle.arj_law_lock_view.specs.view.Acting.{IsBacked}
use Rattle.arj_law_lock_view.specs.view.Acts.{Acts}
use Rattle.arj_law_lock_view.specs.view.Asks.{Post, ShowsAsk}
use Rattle.arj_law_lock_view.specs.view.Calling.{IsReached}
use Rattle.arj_law_lock_view.specs.view.Copies.{Codes}
use Rattle.arj_law_lock_view.specs.view.Going.{Goes, IsServedBy}
use Rattle.arj_law_lock_view.specs.view.Named.{IsNamedSo}

-- ---- what a plan covers

-- a call on the object that wasn't undone, and that the top's commit covers
pub record IsCounted (m : Act) (k : Call) (S : State) : Type 0 where
  pub there : In k S.calls
  pub alive : Alive S k.act
  pub covered : Covered S m k.act

-- or such an include
pub record IsIncluded (m : Act) (k : Include) (S : State) : Type 0 where
  pub there : In k S.includes
  pub alive : Alive S k.act
  pub covered : Covered S m k.act

-- A top at its commit. Its plan has the object as called where a call on it counts, and has it where an include does; and the grant in
-- the plan isn't above the binding that the unit keeps, or the include's own.
pub record SeesPlan (x : ℕ) (m : Act) (p : Plan) (S : State) : Type 0 where
  pub top : is_top m ≡ true
  pub begun : 1 ≤ (S.action m).stage
  pub calls : (k : Call) → IsCounted m k S → (q : Used) × Contains p.used q × (q.x ≡ x) × (q.called ≡ true)
  pub includes : (k : Include) → IsIncluded m k S → (q : Used) × Contains p.used q × (q.x ≡ x)
  pub below : (q : Used) (k : Call) → Contains p.used q → q.x ≡ x → IsCounted m k S → q.grant * 4294967296 ≤ S.kept (root m)
  pub granted : (q : Used) (k : Include) → Contains p.used q → q.x ≡ x → IsIncluded m k S → q.grant * 4294967296 ≤ k.grant

-- ---- what has been asked

-- the least incarnation of the plan's objects at a server
abbrev pub least_inc : Plan → ℕ → ℕ
least_inc p s = least_of (map (λ u. u.inc) (filter (is_at_server s) p.used))

-- The object's server was asked for its vote, and has given it unless it is left.
pub record SeesVotes (x : ℕ) (m : Act) (p : Plan) (left : List ℕ) (S : State) : Type 0 where
  pub asked : (q : Used) → Contains p.used q → q.x ≡ x → q.called ≡ true →
      IsServedBy S q.binding q.server × In (machine.Vote m (binding_number q.binding) (least_inc p q.server)) S.net
  pub given : (q : Used) → Contains p.used q → q.x ≡ x → q.called ≡ true → has left q.server ≡ false → binding_number q.binding ≤ S.yes m

-- Naming was asked to confirm the object's grant.
abbrev pub IsConfirmAsked : ℕ → Act → Plan → State → Type 0
IsConfirmAsked x m p S = (q : Used) → Contains p.used q → q.x ≡ x → In (machine.Confirm m (q.grant * 4294967296)) S.net

-- A commit under way: what its plan covers, who was asked, who has voted.
abbrev pub SeesMachine : ℕ → Act → Machine → State → Type 0
SeesMachine x m (Voting p left) S = SeesPlan x m p S × SeesVotes x m p left S
SeesMachine x m (Preparing p left) S = SeesPlan x m p S × SeesVotes x m p [] S
SeesMachine x m (Confirming p) S = SeesPlan x m p S × IsConfirmAsked x m p S

-- It is seen in every later state of the machine.
abbrev pub CommitsStaySeen : Type 0
CommitsStaySeen = (x : ℕ) (m : Act) (k : Machine) (S T : State) → IsReached S → Run S T → SeesMachine x m k S → SeesMachine x m k T

-- What it asks of a node shows the machine's Vote, with the binding that the unit keeps, or its Confirm.
abbrev pub CommitRequestsAreShown : Type 0
CommitRequestsAreShown = (act : Acts) (code : Codes) (x : ℕ) (u : Uid) (k : Machine) (o : Post) (S : State) → o.x ≡ x → actor o.path ≡ u →
    SeesMachine x (act u) k S → ShowsAsk act code o S (ask_of k o.node)

-- ---- how it goes on

-- what a commit comes to: it stays, asks for more, or is decided, where everything stands behind it
abbrev pub SeesNext : ℕ → Act → CommitStep → State → Type 0
SeesNext x m (Stays k) S = SeesMachine x m k S
SeesNext x m (Asks k) S = SeesMachine x m k S
SeesNext x m (Decides p) S = IsBacked m S
SeesNext x m (Aborts why p) S = ⊤

-- only messages were sent
pub record OnlySent (S T : State) : Type 0 where
  pub rest : T ≡ record S { net = T.net }
  pub sent : (m : machine.Message) → In m S.net → In m T.net

-- What an answer shows to a commit: a server that voted yes has voted in the machine under the binding that the plan has there, and
-- naming that says yes has confirmed the top where the plan has the object.
abbrev pub ShowsToCommit : ℕ → Act → Machine → ℕ → Reply → State → Type 0
ShowsToCommit x m (Voting p left) from (Reply.Voted (voted.Yes states)) S = (q : Used) → Contains p.used q → q.x ≡ x → q.called ≡ true →
    q.server ≡ from → binding_number q.binding ≤ S.yes m
ShowsToCommit x m (Confirming p) from (Reply.Confirmed confirmed.Yes) S = (q : Used) → Contains p.used q → q.x ≡ x → S.confirmed m ≡ true
ShowsToCommit x m k from r S = ⊤

-- An answer is taken: the machine's top asks naming for its confirmation where the protocol's does, and the commit is seen.
abbrev pub CommitAnswersAreTaken : Type 0
CommitAnswersAreTaken = (x : ℕ) (m : Act) (k : Machine) (from : ℕ) (r : Reply) (S : State)
    → IsReached S → (S.action m).stage ≡ 1 → ShowsToCommit x m k from r S → SeesMachine x m k S →
    Goes S (λ T. SeesNext x m (let j = answered from k r in j.step) T × OnlySent S T)

-- It is given up: in the prepare step it goes on without the stores that didn't answer, else it is to be aborted.
abbrev pub CommitsAreGivenUp : Type 0
CommitsAreGivenUp = (x : ℕ) (m : Act) (k : Machine) (S : State)
    → IsReached S → (S.action m).stage ≡ 1 → SeesMachine x m k S →
    Goes S (λ T. SeesNext x m (let j = given_up k in j.step) T × OnlySent S T)

-- what the plan has of a called object is what the unit keeps: the binding, its server and the incarnation that was heard
abbrev pub AreKept : ℕ → Act → Plan → State → Type 0
AreKept x m p S = (q : Used) → Contains p.used q → q.x ≡ x → q.called ≡ true →
    (S.kept (root m) ≡ binding_number q.binding) × IsServedBy S q.binding q.server × IsNamedSo S q.binding q.inc

-- It sets out by its plan: the object's server is asked for its vote, with the least incarnation over the objects that it has there.
abbrev pub CommitsSetOut : Type 0
CommitsSetOut = (x : ℕ) (m : Act) (p : Plan) (S : State)
    → IsReached S → (S.action m).stage ≡ 1 → AreKept x m p S → SeesPlan x m p S →
    Goes S (λ T. SeesNext x m (begin_vote (servers_of p) p) T × OnlySent S T)
