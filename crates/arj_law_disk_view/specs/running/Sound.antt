-- Commits under way have tidy plans, one at most of each root, and states stand for their objects.
use Rattle.std.specs.Prelude.{⊤, ◌≡◌, ℕ, true, false, List, [], ◌∷◌, Option, Some, None, Contains}
use Rattle.std.specs.List.{AllByRecursion}
use Rattle.arj_lock.proofs.Members as list
use Rattle.arj_protocol.specs.Words.{Asked, Message, ObjectState, Uid, VotedReply, is_on, object, uids_of}
use Rattle.arj_protocol.specs.Words.ending
use Rattle.arj_protocol.specs.Words.voted
use Rattle.arj_protocol.specs.Ask.{Reply, actor, answers}
use Rattle.arj_protocol.specs.Call.{Steps}
use Rattle.arj_protocol.specs.Commit as commit
use Rattle.arj_protocol.specs.Coord.{Calling, Coord, Doing, Joined, Now, Committing, Root, Said, doing_of, root_at}
use Rattle.arj_protocol.specs.Node.{Parts}
use Rattle.arj_protocol.specs.Order as order
use Rattle.arj_protocol.specs.Order.{is_empty}
use Rattle.arj_protocol.specs.Tree.{Tree, behind, is_own, root_of}
use Rattle.arj_law_parts.specs.moves.Seen as seen
use Rattle.arj_promise.specs.Runs.{Seen}
use Rattle.arj_law_disk_view.specs.view.Knows.{CommitsAt, IsFirstAt, IsFromRoot, IsUnderWay}
use Rattle.arj_law_disk_view.specs.view.Pairs.{Among}
use Rattle.arj_law_disk_view.specs.view.Plans.{IsTidy, Uses, used_at}

-- the state is of an object that the plan uses, at a server of which this holds, and its action wrote it
pub record IsUsedState (p : commit.Plan) (Q : ℕ → Type 0) (s : ObjectState) : Type 0 where
  pub own : s.uid ≡ object (let u = s.uid in u.num)
  pub writer : s.writer ≡ actor p.path
  pub used : commit.Used
  pub found : used_at (let u = s.uid in u.num) p.used ≡ Some used
  pub server : Q used.server

-- two of these states that are of one object are one
abbrev pub AreOneEach : List ObjectState → Type 0
AreOneEach states = (s t : ObjectState) → Among s states → Among t states → s.uid ≡ t.uid → s ≡ t

-- of a Yes to a vote its states
abbrev pub states_in : VotedReply → Option (List ObjectState)
states_in (voted.Yes states) = Some states
states_in (voted.Changed w) = None

-- so it is of an answer of any kind
abbrev pub voted_of : Reply → Option (List ObjectState)
voted_of (Reply.Voted r) = states_in r
voted_of _ = None

-- They are each of the object of its number, of each object one, and this top wrote them.
pub record AreOwnStates (top : Uid) (states : List ObjectState) : Type 0 where
  pub own : (s : ObjectState) → Among s states → s.uid ≡ object (let u = s.uid in u.num)
  pub once : AreOneEach states
  pub writer : (s : ObjectState) → Among s states → s.writer ≡ top

-- so it is of the states of a vote, where the answer is one
abbrev pub AreOwnIn : Uid → Option (List ObjectState) → Type 0
AreOwnIn top None = ⊤
AreOwnIn top (Some states) = AreOwnStates top states

-- an answer that votes has states of its asker's own
abbrev pub IsOwnAnswer : Option (Asked × Reply) → Type 0
IsOwnAnswer None = ⊤
IsOwnAnswer (Some a) = AreOwnIn (let q = a.0 in q.act) (voted_of a.1)

-- so it is of what a message answers
abbrev pub IsOwnVote : Message → Type 0
IsOwnVote m = IsOwnAnswer (answers m)

-- What a server votes fits a plan: states of objects that the plan uses there, of each object one.
pub record FitsVote (p : commit.Plan) (from : ℕ) (states : List ObjectState) : Type 0 where
  pub used : (s : ObjectState) → Among s states → IsUsedState p (λ n. n ≡ from) s
  pub once : AreOneEach states

-- What was changed so far: states of objects that the plan uses at servers that voted, of each object one.
pub record AreChanged (p : commit.Plan) (left : List ℕ) : Type 0 where
  pub used : (s : ObjectState) → Among s p.changed → IsUsedState p (λ n. order.has left n ≡ false) s
  pub once : AreOneEach p.changed

-- the servers whose votes are still awaited
abbrev pub unvoted : commit.Machine → List ℕ
unvoted (commit.Voting p left) = left
unvoted _ = []

-- a commit under way uses something, and its plan is tidy and changes of each object one state
pub record IsSound (m : commit.Machine) : Type 0 where
  pub tidy : IsTidy (commit.plan_of m)
  pub changed : AreChanged (commit.plan_of m) (unvoted m)
  pub way : IsUnderWay m
  pub used : commit.Used
  pub more : List commit.Used
  pub uses : (let p = commit.plan_of m in p.used) ≡ used ∷ more

-- so it is of what an action is at
abbrev pub IsSoundNow : Now → Type 0
IsSoundNow (Committing m) = IsSound m
IsSoundNow _ = ⊤

-- the path begins with the root that has this number here
pub record IsRootPath (t : Tree) (n : ℕ) (path : List Uid) : Type 0 where
  pub root : Uid
  pub own : is_own root t ≡ true
  pub number : root.num ≡ n
  pub from : IsFromRoot root path

-- a call or an include under way is by a path of its root
abbrev pub AreOnPaths : Coord → Type 0
AreOnPaths c = (u : Uid) (q : Doing) (s : Steps) → doing_of u c ≡ Some q → q.now ≡ Calling s →
    IsRootPath c.tree (let root = root_of s.path in root.num) (uids_of s.path)

-- What a root's includes loaded, and what its constituents changed, is of the object for which it stands; what it was answered is by
-- its paths.
pub record IsOwnRoot (t : Tree) (n : ℕ) (r : Root) : Type 0 where
  pub joined : AllByRecursion (λ (j : Joined). (let s = j.loaded in s.uid) ≡ object j.x) r.joined
  pub states : AllByRecursion (λ (e : ℕ × ObjectState). (let s = e.1 in s.uid) ≡ object e.0) r.states
  pub said : AllByRecursion (λ (s : Said). IsRootPath t n s.path) r.said

-- the root has loaded the object for an include under this path
abbrev pub HasJoin : List Uid → ℕ → Root → Type 0
HasJoin us x r = (j : Joined) × list.In j r.joined × (j.path ≡ us) × (j.x ≡ x)

-- A plan's top includes the object: under a path that goes through the top, and behind it there the plan has no abort.
pub record IsIncluded (r : Root) (p : commit.Plan) (x : ℕ) : Type 0 where
  pub path : List Uid
  pub joined : HasJoin path x r
  pub on : is_on path (actor p.path) ≡ true
  pub lives : (w : Uid) → is_on (behind (actor p.path) path) w ≡ true → Contains p.ends (w, ending.Abort) → ⊥

-- so it does with what the plan includes somewhere
abbrev pub AreIncluded : Root → commit.Plan → Type 0
AreIncluded r p = (v : commit.Used) → Uses v p.used → is_empty v.joins ≡ false → IsIncluded r p v.x

-- So it is at a coordinator; of one root one commit at most is under way; and what a commit under way includes its top did.
pub record AreSound (c : Coord) : Type 0 where
  pub works : (u : Uid) (q : Doing) → doing_of u c ≡ Some q → IsSoundNow q.now
  pub alone : (root u : Uid) → CommitsAt c root u → IsFirstAt c root u
  pub roots : AllByRecursion (λ (e : ℕ × Root). IsOwnRoot c.tree e.0 e.1) c.roots
  pub includes : (u : Uid) (q : Doing) (m : commit.Machine) → doing_of u c ≡ Some q → q.now ≡ Committing m →
      AreIncluded (root_at (let p = commit.plan_of m in root_of p.path) c) (commit.plan_of m)

-- the plan uses the object at this server
pub record IsUsedAt (p : commit.Plan) (from x : ℕ) : Type 0 where
  pub used : commit.Used
  pub found : used_at x p.used ≡ Some used
  pub server : used.server ≡ from

-- Of a vote that was sent and that a commit of this node waits for each state is of an object that the plan uses at the server
-- which votes.
abbrev pub VotesFit : ℕ → Parts → Seen → Type 0
VotesFit k t M = (from : ℕ) (m : Message) (a : Asked) (states : List ObjectState) →
    seen.In (record { from = from; to = k; message = m }) M.sent → answers m ≡ Some (a, Reply.Voted (voted.Yes states))
    → (q : Doing) (p : commit.Plan) (left : List ℕ) → doing_of a.act t.coord ≡ Some q → q.now ≡ Committing (commit.Voting p left) →
    p.req ≡ a.req → order.has left from ≡ true → (s : ObjectState) → Among s states → IsUsedAt p from (let u = s.uid in u.num)
