-- What coordinators have of naming's answers and what messages claim of them, in what is seen and the machine's state: the relation
-- that is kept beside both halves.
use Rattle.std.specs.Prelude.{⊤, ◌≡◌, ◌⊎◌, ◌≤◌, ◌<◌, ℕ, Bool, true, false, List, ◌∷◌, Option, None, Some, Contains}
use Rattle.arj_protocol.specs.Words.{Uid, Ask, Asked, Binding, BoundReply, Head, ObjectState, asks, object, uids_of}
use Rattle.arj_protocol.specs.Words.ask
use Rattle.arj_protocol.specs.Words.bound
use Rattle.arj_protocol.specs.Words.loaded
use Rattle.arj_protocol.specs.Ask.{Reply, answers, ask_kind, asked_by, reply_kind, top_of}
use Rattle.arj_protocol.specs.Call.{At, AtActivate, AtBind, AtInvoke, AtLoad, AtNote, Known, Steps, is_include}
use Rattle.arj_protocol.specs.Commit.{Machine, Used, plan_of}
use Rattle.arj_protocol.specs.Confirm.{Grants}
use Rattle.arj_protocol.specs.Coord.{Calling, Committing, Coord, Doing, Joined, doing_of, kept_of, root_at}
use Rattle.arj_protocol.specs.Node.{Parts}
use Rattle.arj_protocol.specs.Order.{uid_number}
use Rattle.arj_protocol.specs.Step.{Node}
use Rattle.arj_protocol.specs.Tree.{Branch, Tree, branch_of, is_own, root_of}
use Rattle.arj_law_disk.specs.machine.Names as machine
use Rattle.arj_law_disk.specs.machine.Names.{Kept, Names, Office, written_in}
use Rattle.arj_law_disk.specs.machine.Words.{In, has}
use Rattle.arj_law_parts.specs.moves.Seen as seen
use Rattle.arj_promise.specs.Runs.{Post, Seen}
use Rattle.arj_law_disk_view.specs.view.Knows.{KnowsKinds}
use Rattle.arj_law_disk_view.specs.view.Pairs.{Among, packed}
use Rattle.arj_law_disk_view.specs.view.Plans.{used_at}
use Rattle.arj_law_disk_view.specs.view.Sees.{Kinds}
use Rattle.arj_law_runs.specs.calls.Coords.{head_of}
use Rattle.arj_law_disk_view.specs.names.Booked.{CountsOnGrants}
use Rattle.arj_law_disk_view.specs.names.Both.{SeesRootOf}
use Rattle.arj_law_disk_view.specs.names.Calls.{ClaimsBound}
use Rattle.arj_law_disk_view.specs.names.Grants.{StandsOn}
use Rattle.arj_law_disk_view.specs.names.Handlers.{is_voting}
use Rattle.arj_law_disk_view.specs.names.Lists.{HasCallList, IsShort, IsTopOf}
use Rattle.arj_law_disk_view.specs.names.Loads.{HasLoaded}

-- ---- roots

-- an action of this coordinator that is its own root, open or still to begin
pub record IsWorkingRoot (tops : Kinds) (c : Coord) (root : Uid) : Type 0 where
  pub own : is_own root c.tree ≡ true
  pub alone : tops.root (uid_number root) ≡ uid_number root
  pub unended : (b : Branch) → branch_of root c.tree ≡ Some b → b.ended ≡ None

-- the action, or one of which it is the root
abbrev pub IsOfRoot : Kinds → ℕ → ℕ → Type 0
IsOfRoot tops root h = (h ≡ root) ⊎ (tops.root h ≡ root)

-- The machine has nothing of the root: no grant, no kept list, and no state.
pub record HasNoneOf (tops : Kinds) (root : ℕ) (A : Office) : Type 0 where
  pub had : (h i : ℕ) → IsOfRoot tops root h → A.names.had h i ≡ false
  pub kept : (h : ℕ) → IsOfRoot tops root h → A.names.kept h ≡ None
  pub states : written_in A.world.disk.root root A.world.disk.tops ≡ None

-- ---- calls under way

-- an include is asked for by this answer's list
pub record AsksListed (top : ℕ) (q : Known) (asked : List ℕ) (N : Names) : Type 0 where
  pub answered : In (machine.Bound top q.grant true q.stores) N.answers
  pub stores : (s : ℕ) → has s asked ≡ true → has s q.stores ≡ true

-- the answer is of an include, or of a call
abbrev pub IsOfGoal : Bool → BoundReply → Type 0
IsOfGoal include (bound.Write g stores) = include ≡ true
IsOfGoal include (bound.Live b server i g stores) = include ≡ false
IsOfGoal include (bound.Make b server g stores) = include ≡ false
IsOfGoal include (bound.Conflict holder m) = ⊤

-- an answer of naming names a binding of its incarnation, whose count is short, and some store
pub record IsNamedOf (b : Binding) (g : ℕ) (stores : List ℕ) : Type 0 where
  pub inc : b.inc ≡ g
  pub short : IsShort b
  pub stored : (s : ℕ) × (has s stores ≡ true)

-- so it is where the answer is of a call, and names one
abbrev pub NamesNow : BoundReply → Type 0
NamesNow (bound.Live b server i g stores) = IsNamedOf b g stores
NamesNow (bound.Make b server g stores) = IsNamedOf b g stores
NamesNow (bound.Write g stores) = ⊤
NamesNow (bound.Conflict holder m) = ⊤

-- an include only binds, and loads
abbrev pub only_loads : At → Bool
only_loads (AtBind avoid) = true
only_loads (AtLoad q n rest) = true
only_loads (AtActivate q st) = false
only_loads (AtNote q i) = false
only_loads (AtInvoke q i) = false

-- this answer was sent to the node, to the step that waits
pub record IsToStep (k : ℕ) (sent : List Post) (s : Steps) (r : Reply) : Type 0 where
  pub post : Post
  pub posted : seen.In post sent
  pub node : post.to ≡ k
  pub answer : answers post.message ≡ Some (asked_by (head_of s), r)

-- What a call or an include under way on the object stands on: a grant that its top took; an include that loads, an answer whose list has
-- the stores that it asks; and the answers that were sent to the step are the machine's, and name a binding of naming's incarnation.
pub record SeesStep (x k : ℕ) (sent : List Post) (s : Steps) (N : Names) : Type 0 where
  pub stands : StandsOn (uid_number (top_of s.path)) N s.at
  pub listed : (q : Known) (n : ℕ) (rest : List ℕ) → s.at ≡ AtLoad q n rest → is_include s.goal ≡ true →
      AsksListed (uid_number (top_of s.path)) q (n ∷ rest) N
  pub goal : is_include s.goal ≡ true → only_loads s.at ≡ true
  pub bound : (r : BoundReply) → IsToStep k sent s (Reply.Bound r) →
      IsOfGoal (is_include s.goal) r × ClaimsBound x s.x (uid_number (top_of s.path)) r N
  pub named : (r : BoundReply) → IsToStep k sent s (Reply.Bound r) → NamesNow r
  pub loaded : (q : Known) (n : ℕ) (rest : List ℕ) (st : ObjectState) → s.at ≡ AtLoad q n rest → is_include s.goal ≡ true →
      IsToStep k sent s (Reply.Loaded (loaded.State st)) → In (machine.Loaded (uid_number (top_of s.path)) q.grant (packed st)) N.answers

-- the binding of the call is known
abbrev pub is_bound : At → Bool
is_bound (AtBind avoid) = false
is_bound (AtLoad q n rest) = true
is_bound (AtActivate q st) = true
is_bound (AtNote q i) = true
is_bound (AtInvoke q i) = true

-- A call under way on the object whose binding is known: its root keeps a binding, and the machine has a list for it.
pub record SeesCall (x : ℕ) (tops : Kinds) (c : Coord) (s : Steps) (N : Names) : Type 0 where
  pub own : is_own (top_of s.path) c.tree ≡ true
  pub top : IsTopOf tops (root_of s.path) (top_of s.path)
  pub known : Known
  pub kept : kept_of x (root_at (root_of s.path) c) ≡ Some known
  pub list : HasCallList N (uid_number (root_of s.path)) (uid_number (top_of s.path)) known

-- ---- commits under way

-- the top has a grant, or its root retains one
abbrev pub IsHadBy : Office → ℕ → ℕ → Type 0
IsHadBy A t i = (A.names.had t i ≡ true) ⊎ (A.names.had (A.world.disk.root t) i ≡ true)

-- all of these are of one incarnation
abbrev pub AreOfOne : Office → ℕ → ℕ → Type 0
AreOfOne A t j = (i : ℕ) → IsHadBy A t i → i ≡ j

-- There is such a grant; and as long as all are of one incarnation, a list that is kept for the top, or retained, names only stores of
-- this one.
pub record IsListFor (A : Office) (t : ℕ) (stores : List ℕ) : Type 0 where
  pub inc : ℕ
  pub had : IsHadBy A t inc
  pub list : (j : ℕ) → AreOfOne A t j → (h : ℕ) × ((h ≡ t) ⊎ (h ≡ A.world.disk.root t)) × (l : Kept) × (A.names.kept h ≡ Some l)
      × ((s : ℕ) → has s l.list ≡ true → has s stores ≡ true)

-- What the plan of a top's commit uses of the object: no grant that counts is before the one that it names; it changes what it called,
-- as its top wrote it; and while it votes, a list stands behind what it called, and a load behind what it includes.
pub record SeesPlan (x : ℕ) (tops : Kinds) (u : Uid) (m : Machine) (A : Office) : Type 0 where
  pub top : tops.is_top (uid_number u) ≡ true
  pub grants : (w : Used) (i : ℕ) → used_at x (let p = plan_of m in p.used) ≡ Some w → IsHadBy A (uid_number u) i → w.grant ≤ i
  pub changed : (w : Used) (st : ObjectState) → used_at x (let p = plan_of m in p.used) ≡ Some w →
      Among st (let p = plan_of m in p.changed) → st.uid ≡ object x → (w.called ≡ true) × (st.writer ≡ u)
  pub list : (w : Used) → is_voting m ≡ true → used_at x (let p = plan_of m in p.used) ≡ Some w → w.called ≡ true →
      IsListFor A (uid_number u) w.stores
  pub loaded : (w : Used) (st : ObjectState) → is_voting m ≡ true → used_at x (let p = plan_of m in p.used) ≡ Some w → w.loaded ≡ Some st →
      HasLoaded A.world.disk A.names (uid_number u) st

-- ---- a coordinator

-- the path is of an action of this tree
pub record IsPathIn (t : Tree) (us : List Uid) : Type 0 where
  pub uid : Uid
  pub branch : Branch
  pub found : branch_of uid t ≡ Some branch
  pub path : us ≡ uids_of branch.path

-- A coordinator of node k: what it has of its roots, of calls on the object and of commits under way; and includes were answered under
-- the paths of its actions.
pub record SeesHeardAt (x k : ℕ) (tops : Kinds) (sent : List Post) (c : Coord) (A : Office) : Type 0 where
  pub roots : (root : Uid) → IsWorkingRoot tops c root → SeesRootOf x tops root c (root_at root c) A
  pub steps : (u : Uid) (q : Doing) (s : Steps) → doing_of u c ≡ Some q → q.now ≡ Calling s → s.x ≡ x → SeesStep x k sent s A.names
  pub calls : (u : Uid) (q : Doing) (s : Steps) → doing_of u c ≡ Some q → q.now ≡ Calling s → s.x ≡ x → is_include s.goal ≡ false →
      is_bound s.at ≡ true → SeesCall x tops c s A.names
  pub includes : (root : Uid) (j : Joined) → Contains (let r = root_at root c in r.joined) j → IsPathIn c.tree j.path
  pub plans : (u : Uid) (q : Doing) (m : Machine) → doing_of u c ≡ Some q → q.now ≡ Committing m → SeesPlan x tops u m A

-- ---- messages

-- What the commit of a top says of its grants, for ever.
abbrev pub ClaimsGrants : ℕ → Office → ℕ → Grants → Type 0
ClaimsGrants x A t grants = (A.world.disk.begun t ≡ true) × CountsOnGrants x A.world.disk A.names t grants

-- A Record is by a top that took the grant which it names; a Confirm names grants.
abbrev pub ClaimsAsked : ℕ → Office → Option (Head × Ask) → Type 0
ClaimsAsked x A (Some (h, ask.Record y b i g)) = y ≡ x → A.names.had (uid_number (top_of h.path)) g ≡ true
ClaimsAsked x A (Some (h, ask.Confirm grants excluded included)) = ClaimsGrants x A (uid_number (top_of h.path)) grants
ClaimsAsked x A _ = ⊤

-- an answer was asked for, of the node that gives it, by the one who gets it
pub record IsAskedFor (sent : List Post) (p : Post) (a : Asked) (r : Reply) : Type 0 where
  pub post : Post
  pub head : Head
  pub request : Ask
  pub posted : seen.In post sent
  pub from : post.from ≡ p.to
  pub to : post.to ≡ p.from
  pub asking : asks post.message ≡ Some (head, request)
  pub asker : asked_by head ≡ a
  pub kind : ask_kind request ≡ reply_kind r

-- ---- all nodes

-- So it is at each coordinator that is up; of a later incarnation of a node the machine has nothing; each answer was asked for; and
-- requests claim what they say.
pub record SeesHeard (x : ℕ) (tops : Kinds) (A : Office) (M : Seen) : Type 0 where
  pub kinds : KnowsKinds tops
  pub coords : (k : ℕ) (n : Node) (t : Parts) → M.nodes k ≡ Some n → n.live ≡ Some t → SeesHeardAt x k tops M.sent t.coord A
  pub future : (k : ℕ) (n : Node) (u : Uid) → M.nodes k ≡ Some n → u.node ≡ k → tops.root (uid_number u) ≡ uid_number u →
      (let d = n.disk in d.inc) < u.inc → HasNoneOf tops (uid_number u) A
  pub asked : (p : Post) (a : Asked) (r : Reply) → seen.In p M.sent → answers p.message ≡ Some (a, r) → IsAskedFor M.sent p a r
  pub posts : (p : Post) → seen.In p M.sent → ClaimsAsked x A (asks p.message)
