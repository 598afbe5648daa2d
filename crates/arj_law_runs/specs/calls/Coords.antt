-- What a coordinator knows of the calls that it asked servers to run.
use Rattle.std.specs.Prelude.{⊤, ◌≡◌, ◌≢◌, ◌⊎◌, ◌≤◌, ◌==◌, ◌++◌, ℕ, true, false, List, [], Option, Some, find}
use Rattle.arj_protocol.specs.Words.{Uid, Head, Ask, Asked, Message, ObjectState, asks, first_uid, is_on, last_uid, uids_of, writes}
use Rattle.arj_protocol.specs.Words.ask
use Rattle.arj_protocol.specs.Words.ending
use Rattle.arj_protocol.specs.Words.voted
use Rattle.arj_protocol.specs.Ask.{Reply, actor, answers, asked_by}
use Rattle.arj_protocol.specs.Call.{At, AtBind, AtLoad, AtActivate, AtNote, AtInvoke, Known, Steps, next_ask, next_node}
use Rattle.arj_protocol.specs.Commit.{Machine, Plan, Used, plan_of}
use Rattle.arj_protocol.specs.Coord.{Calling, Committing, Coord, Doing, Said, doing_of, is_call, kept_of, root_at}
use Rattle.arj_protocol.specs.Order.{binding_number}
use Rattle.arj_protocol.specs.Tree.{Branch, Tree, branch_of, is_own, root_of}
use Rattle.arj_lock.proofs.Members as list
use Rattle.arj_law_parts.specs.parts.Copies.{Paths}
use Rattle.arj_law_parts.specs.parts.Messages.{IsDecided}
use Rattle.arj_law_parts.specs.moves.Seen.{In}
use Rattle.arj_promise.specs.Runs.{Post}
use Rattle.arj_law_runs.specs.calls.Calls.{Call, IsAsked, IsRefused, IsSaidToCommit, call_in}

-- a request without the ends that a call brings
abbrev pub bare : Ask → Ask
bare (ask.Invoke x b i ends op) = ask.Invoke x b i [] op
bare a = a

-- who asks in a step
abbrev pub head_of : Steps → Head
head_of s = record { path = s.path; req = s.req }

-- the request is that of the step
pub record IsOfStep (s : Steps) (to : ℕ) (h : Head) (a : Ask) : Type 0 where
  pub node : to ≡ next_node s
  pub head : h ≡ head_of s
  pub same : bare a ≡ next_ask [] s

-- A request that was sent is of no later number than the action's last one; and if it's that one, and the action waits in a call, it is
-- the request of the step.
pub record IsCounted (c : Coord) (to : ℕ) (h : Head) (a : Ask) : Type 0 where
  pub doing : Doing
  pub found : doing_of (actor h.path) c ≡ Some doing
  pub low : h.req ≤ doing.req
  pub last : (s : Steps) → doing.now ≡ Calling s → h.req ≡ doing.req → IsOfStep s to h a

-- the action waits for the answer to the call
pub record IsWaiting (c : Coord) (to : ℕ) (k : Call) : Type 0 where
  pub doing : Doing
  pub step : Steps
  pub found : doing_of (actor (let h = k.head in h.path)) c ≡ Some doing
  pub now : doing.now ≡ Calling step
  pub node : to ≡ next_node step
  pub call : call_in (head_of step) (next_ask [] step) ≡ Some k

-- what is known of a binding is what the root keeps, and of the same server; or it has no server
abbrev pub IsTie : Option Known → Known → Type 0
IsTie kept k =
    (k.server ≡ 0) ⊎ ((old : Known) × (kept ≡ Some old) × (binding_number old.binding ≡ binding_number k.binding) × (old.server ≡ k.server))

-- so it is of the step in which a call waits
abbrev pub IsTiedAt : Option Known → At → Type 0
IsTiedAt kept (AtBind avoid) = ⊤
IsTiedAt kept (AtLoad k s rest) = IsTie kept k
IsTiedAt kept (AtActivate k st) = IsTie kept k
IsTiedAt kept (AtNote k i) = IsTie kept k
IsTiedAt kept (AtInvoke k i) = IsTie kept k

-- a call that waits stands on what its root keeps of the object
abbrev pub IsTied : Coord → Steps → Type 0
IsTied c s = is_call s.goal ≡ true → IsTiedAt (kept_of s.x (root_at (root_of s.path) c)) s.at

-- the action can only abort, and hasn't committed
abbrev pub IsDoomed : Tree → Uid → Type 0
IsDoomed t u = (b : Branch) × (branch_of u t ≡ Some b) × (b.doomed ≡ true) × (b.ended ≢ Some ending.Commit)

-- the action, where it is in the tree, can still commit
abbrev pub IsFree : Tree → Uid → Type 0
IsFree t u = (b : Branch) → branch_of u t ≡ Some b → b.doomed ≡ false

-- an action of the path was aborted
abbrev pub IsSpent : Tree → List Uid → Type 0
IsSpent t path = (u : Uid) × (is_on path u ≡ true) × IsDecided u ending.Abort t

-- the root was answered the call, and keeps its binding
pub record IsSaid (c : Coord) (to : ℕ) (k : Call) : Type 0 where
  pub said : Said
  pub there : list.In said (let r = root_at (root_of (let h = k.head in h.path)) c in r.said)
  pub path : said.path ≡ uids_of (let h = k.head in h.path)
  pub object : said.x ≡ k.x
  pub kept : Known
  pub keeps : kept_of k.x (root_at (root_of (let h = k.head in h.path)) c) ≡ Some kept
  pub binding : binding_number kept.binding ≡ binding_number k.binding
  pub server : kept.server ≡ to

-- What became of a call that isn't waited for: it was refused, or had no server; its action can only abort, or was aborted, or one
-- above it; or it was answered. (The tree is that of the coordinator once all is done.)
pub data IsOver (sent : List Post) (t : Tree) (c : Coord) (to : ℕ) (k : Call) : Type 0 where
  Refused : IsRefused sent to (asked_by k.head) → IsOver sent t c to k
  Nowhere : to ≡ 0 → IsOver sent t c to k
  Doomed : IsDoomed t (actor (let h = k.head in h.path)) → IsOver sent t c to k
  Spent : IsSpent t (uids_of (let h = k.head in h.path)) → IsOver sent t c to k
  Answered : IsSaid c to k → IsOver sent t c to k

-- the coordinator asked for the call, which writes
pub record IsOwn (sent : List Post) (c : Coord) (to : ℕ) (k : Call) : Type 0 where
  pub asked : IsAsked sent (let t = c.tree in t.node) to k
  pub own : is_own (actor (let h = k.head in h.path)) c.tree ≡ true
  pub writing : writes k.op ≡ true

-- a list of what a plan uses has the object, called at this server
abbrev pub IsUsed : List Used → ℕ → ℕ → Type 0
IsUsed used x to = (u : Used) × (find (λ (u : Used). u.x == x) used ≡ Some u) × (u.server ≡ to) × (u.called ≡ true)

-- the root of a path was answered a call by it on the object
pub record IsAnswered (c : Coord) (us : List Uid) (x : ℕ) : Type 0 where
  pub said : Said
  pub there : list.In said (let r = root_at (first_uid us) c in r.said)
  pub path : said.path ≡ us
  pub object : said.x ≡ x

-- The top with this path, or an action below it, was answered a call on the object, and whoever stands behind the top was said to commit.
pub record IsCalledBy (sent : List Post) (c : Coord) (us : List Uid) (x : ℕ) : Type 0 where
  pub rest : List Uid
  pub answered : IsAnswered c (us ++ rest) x
  pub own : (w : Uid) → is_on rest w ≡ true → is_own w c.tree ≡ true
  pub merged : (w : Uid) → is_on rest w ≡ true → IsSaidToCommit sent w

-- an object that a server votes is used there, and was called in the top
abbrev pub IsVotedIn : List Post → Coord → Plan → ℕ → ℕ → Type 0
IsVotedIn sent c p x from = IsUsed p.used x from × IsCalledBy sent c (uids_of p.path) x

-- what a plan that uses these has to know of a call below its top
pub data IsPlanned (sent : List Post) (t : Tree) (c : Coord) (used : List Used) (to : ℕ) (k : Call) : Type 0 where
  WasRefused : IsRefused sent to (asked_by k.head) → IsPlanned sent t c used to k
  HasNoServer : to ≡ 0 → IsPlanned sent t c used to k
  WasSpent : IsSpent t (uids_of (let h = k.head in h.path)) → IsPlanned sent t c used to k
  IsThere : IsUsed used k.x to → IsAnswered c (uids_of (let h = k.head in h.path)) k.x → IsPlanned sent t c used to k

-- each state that a server voted for this top is of an object that is used there, and was called in the top
abbrev pub AreVoted : List Post → Coord → Uid → Plan → Type 0
AreVoted sent c u p = (from : ℕ) (m : Message) (a : Asked) (states : List ObjectState) →
    In (record { from = from; to = (let t = c.tree in t.node); message = m }) sent → answers m ≡ Some (a, Reply.Voted (voted.Yes states)) →
    a.act ≡ u → (s : ObjectState) → list.In s states → IsVotedIn sent c p (let w = s.uid in w.num) from

-- a commit under way: its top isn't doomed, its plan knows of each call below it, what was voted is used, and what has changed was called
pub record IsCovered (sent : List Post) (t : Tree) (c : Coord) (u : Uid) (m : Machine) : Type 0 where
  pub free : IsFree t u
  pub calls : (to : ℕ) (k : Call) → IsOwn sent c to k → is_on (uids_of (let h = k.head in h.path)) u ≡ true →
      IsPlanned sent t c (let p = plan_of m in p.used) to k
  pub votes : AreVoted sent c u (plan_of m)
  pub changed : (s : ObjectState) → list.In s (let p = plan_of m in p.changed) →
      IsCalledBy sent c (let p = plan_of m in uids_of p.path) (let w = s.uid in w.num)

-- what roots were answered is by the paths of actions
abbrev pub AreOfPaths : Paths → Coord → Type 0
AreOfPaths paths c = (root : Uid) (s : Said) → list.In s (let r = root_at root c in r.said) → s.path ≡ paths (last_uid s.path)

-- What a coordinator knows: of each request that it sent its number; of each call that writes that it's waited for, or what became of it;
-- that calls stand on what roots keep; and that commits know of their calls.
pub record KnowsCalls (paths : Paths) (sent : List Post) (c : Coord) : Type 0 where
  pub counted : (p : Post) (h : Head) (a : Ask) → In p sent → p.from ≡ (let t = c.tree in t.node) → asks p.message ≡ Some (h, a) →
      is_own (actor h.path) c.tree ≡ true → IsCounted c p.to h a
  pub calls : (to : ℕ) (k : Call) → IsOwn sent c to k → IsWaiting c to k ⊎ IsOver sent c.tree c to k
  pub ties : (u : Uid) (d : Doing) (s : Steps) → doing_of u c ≡ Some d → d.now ≡ Calling s → IsTied c s
  pub plans : (u : Uid) (d : Doing) (m : Machine) → doing_of u c ≡ Some d → d.now ≡ Committing m → IsCovered sent c.tree c u m
  pub said : AreOfPaths paths c
