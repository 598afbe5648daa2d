-- What the plan of a top's commit has of the object's state, by the votes that came.
use Rattle.std.specs.Prelude.{⊤, ◌≡◌, ℕ, List, [], true, false, None, Contains}
use Rattle.arj_protocol.specs.Words.{Head, ObjectState, Uid, VotedReply, object}
use Rattle.arj_protocol.specs.Words.voted
use Rattle.arj_protocol.specs.Ask.{Reply, actor}
use Rattle.arj_protocol.specs.Commit.{Aborts, Asks, CommitStep, Confirming, Decides, Machine, Plan, Preparing, Stays, Used, Voting}
use Rattle.arj_protocol.specs.Commit.{answered, begin_vote, given_up, left_of, plan_of, servers_of, vote_ask}
use Rattle.arj_protocol.specs.Order.{has}
use Rattle.arj_law_lock.specs.machine.Machine.{Run}
use Rattle.arj_law_lock.specs.machine.State.{State}
use Rattle.arj_law_lock_view.specs.view.Acts.{Acts}
use Rattle.arj_law_lock_view.specs.view.Copies.{Codes}
use Rattle.arj_law_lock_view.specs.view.Handling.{ShowsReply}
use Rattle.arj_law_lock_view.specs.view.Serving.{HaveOne, IsVotedSo, state_in}
use Rattle.arj_law_lock_view.specs.view.Telling.{View}

-- ---- what a plan has

-- The object, as a top sees it that commits: places and codes in the machine, and who it is.
pub record Side : Type 0 where
  pub act : Acts
  pub code : Codes
  pub x : ℕ
  pub top : Uid

-- the plan uses it, by a call
pub record IsCalledIn (w : Side) (p : Plan) (q : Used) : Type 0 where
  pub there : Contains p.used q
  pub about : q.x ≡ w.x
  pub called : q.called ≡ true

-- the plan uses the object once at most
abbrev pub UsesOnce : Side → Plan → Type 0
UsesOnce w p = (q r : Used) → IsCalledIn w p q → IsCalledIn w p r → q ≡ r

-- The plan's changed state of the object is what the server that it was called at has voted, under the binding that the plan has; before
-- that, and where it wasn't called, there is none.
pub record HasVotes (w : Side) (p : Plan) (left : List ℕ) (S : State) : Type 0 where
  pub once : UsesOnce w p
  pub given : (q : Used) → IsCalledIn w p q → has left q.server ≡ false →
      IsVotedSo w.act w.code w.x w.top (record { binding = q.binding; states = p.changed }) S
  pub awaited : (q : Used) → IsCalledIn w p q → has left q.server ≡ true → state_in w.x p.changed ≡ None
  pub uncalled : ((q : Used) → IsCalledIn w p q → ⊥) → state_in w.x p.changed ≡ None

-- whose votes are awaited
abbrev pub voters_left : Machine → List ℕ
voters_left (Voting p left) = left
voters_left (Preparing p left) = []
voters_left (Confirming p) = []

-- so it is of the step that waits
abbrev pub KnowsVotes : Side → Machine → State → Type 0
KnowsVotes w k S = HasVotes w (plan_of k) (voters_left k) S

-- what a commit comes to
abbrev pub KnowsNext : Side → CommitStep → State → Type 0
KnowsNext w (Stays k) S = KnowsVotes w k S
KnowsNext w (Asks k) S = KnowsVotes w k S
KnowsNext w (Decides p) S = HasVotes w p [] S
KnowsNext w (Aborts why p) S = ⊤

-- ---- what answers show

-- A Yes of a server: for what was called there it is a vote under the plan's binding, with one state of the object at most; and where
-- nothing was called there it has none.
pub record IsVoteFor (w : Side) (p : Plan) (from : ℕ) (states : List ObjectState) (S : State) : Type 0 where
  pub given : (q : Used) → IsCalledIn w p q → q.server ≡ from →
      IsVotedSo w.act w.code w.x w.top (record { binding = q.binding; states = states }) S × HaveOne w.x states
  pub used : (s : ObjectState) → Contains states s → s.uid ≡ object w.x → (q : Used) × IsCalledIn w p q × (q.server ≡ from)

-- so an answer shows it to the step that waits
abbrev pub ShowsVotes : Side → Machine → ℕ → Reply → State → Type 0
ShowsVotes w (Voting p left) from (Reply.Voted (voted.Yes states)) S = IsVoteFor w p from states S
ShowsVotes w k from r S = ⊤

-- as a node's view has it
abbrev pub side_of : View → Uid → Side
side_of v u = record { act = v.family.act; code = v.code; x = v.x; top = u }

-- ---- how it goes

-- A commit sets out without a changed state,
abbrev pub VotesSetOut : Type 0
VotesSetOut = (w : Side) (p : Plan) (S : State) → UsesOnce w p → p.changed ≡ [] → KnowsNext w (begin_vote (servers_of p) p) S

-- takes an answer that it waits for,
abbrev pub VotesAreHeard : Type 0
VotesAreHeard = (w : Side) (k : Machine) (from : ℕ) (r : Reply) (S : State) → has (left_of k) from ≡ true → ShowsVotes w k from r S →
    KnowsVotes w k S → KnowsNext w (let j = answered from k r in j.step) S

-- is given up,
abbrev pub VotesAreLost : Type 0
VotesAreLost = (w : Side) (k : Machine) (S : State) → KnowsVotes w k S → KnowsNext w (let j = given_up k in j.step) S

-- and knows it in every later state of the machine.
abbrev pub VotesStay : Type 0
VotesStay = (w : Side) (p : Plan) (left : List ℕ) (S T : State) → Run S T → HasVotes w p left S → HasVotes w p left T

-- A server's answer shows it, where it votes no state but of what was called there.
abbrev pub VotesAreShown : Type 0
VotesAreShown = (v : View) (p : Plan) (left : List ℕ) (h : Head) (from : ℕ) (r : VotedReply) (T : State)
    → ((states : List ObjectState) (s : ObjectState) → r ≡ voted.Yes states → Contains states s → s.uid ≡ object v.x →
    (q : Used) × IsCalledIn (side_of v (actor h.path)) p q × (q.server ≡ from))
    → ShowsReply v h (vote_ask p from) T (Reply.Voted r) → ShowsVotes (side_of v (actor h.path)) (Voting p left) from (Reply.Voted r) T
