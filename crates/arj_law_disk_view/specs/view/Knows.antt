-- What is known of the protocol without the machine, on which the disk half stands.
use Rattle.std.specs.Prelude.{⊤, ◌≡◌, ◌≢◌, ℕ, true, false, nat_le, List, [], ◌∷◌, length, Some, None, Contains}
use Rattle.std.specs.List.{AllByRecursion}
use Rattle.arj_protocol.specs.Words.{Uid, Kind, ObjectState, Path, object, uids_of, is_on}
use Rattle.arj_protocol.specs.Words.ending
use Rattle.arj_protocol.specs.Words.kind
use Rattle.arj_protocol.specs.Ask.{actor, top_of}
use Rattle.arj_protocol.specs.Call.{Steps}
use Rattle.arj_protocol.specs.Commit as commit
use Rattle.arj_protocol.specs.Coord.{Coord, Doing, Calling, Committing, Joined, Root, Said, doing_of, root_at, plan_for}
use Rattle.arj_protocol.specs.Effect.{Intent}
use Rattle.arj_protocol.specs.Order as order
use Rattle.arj_protocol.specs.Order.{at_uid, is_empty, uid_number}
use Rattle.arj_protocol.specs.Tree.{behind, branch_of, is_open, is_own, root_of}
use Rattle.arj_protocol.specs.Tree as tree
use Rattle.arj_law_disk_view.specs.view.Asking.{IsUnanswered}
use Rattle.arj_law_disk_view.specs.view.Pairs.{Among}
use Rattle.arj_law_disk_view.specs.view.Plans.{IsTidy, Uses}
use Rattle.arj_law_disk_view.specs.view.Sees.{Kinds, AreOneChange}
use Rattle.arj_start.specs.Kinds.{is_constituent}

-- Tops are actions, each of its root's node and incarnation, and are no serializing ones; the root of a constituent is a serializing
-- action, which is its own, as is whoever has no such root.
pub record KnowsKinds (tops : Kinds) : Type 0 where
  pub named : (z : ℕ) → tops.is_top z ≡ true → (w : Uid) × (uid_number w ≡ z)
  pub apart : (z : ℕ) → tops.is_top z ≡ true → tops.is_serial z ≡ false
  pub serial : (w r : Uid) → tops.is_top (uid_number w) ≡ true → tops.root (uid_number w) ≡ uid_number r → w ≢ r →
      (tops.is_top (uid_number r) ≡ false) × (tops.is_serial (uid_number r) ≡ true)
  pub own : (w r : Uid) → tops.is_top (uid_number w) ≡ true → tops.root (uid_number w) ≡ uid_number r → (w.node ≡ r.node) × (w.inc ≡ r.inc)
  pub rooted : (w : Uid) → tops.is_top (uid_number w) ≡ true → (r : Uid) × (tops.root (uid_number w) ≡ uid_number r)
  pub alone : (z : ℕ) → tops.is_serial z ≡ true → tops.root z ≡ z
  pub plain : (z : ℕ) → tops.is_serial (tops.root z) ≡ false → tops.root z ≡ z
  pub idem : (z : ℕ) → tops.root (tops.root z) ≡ tops.root z

-- An action's path by its kind: tops that are no constituents and serializing actions are their own roots.
abbrev pub IsOfKind : Kinds → Uid → Kind → Path → Type 0
IsOfKind tops u kind.Nested p =
    (tops.is_top (uid_number u) ≡ false) × (tops.is_serial (uid_number u) ≡ false) × (nat_le (length (uids_of p)) 1 ≡ false)
IsOfKind tops u kind.Serial p = (tops.is_top (uid_number u) ≡ false) × (tops.is_serial (uid_number u) ≡ true) × (uids_of p ≡ u ∷ [])
IsOfKind tops u kind.Constituent p =
    (tops.is_top (uid_number u) ≡ true) × (tops.is_serial (uid_number u) ≡ false) × (uids_of p ≡ root_of p ∷ u ∷ [])
IsOfKind tops u _ p = (tops.is_top (uid_number u) ≡ true) × (tops.is_serial (uid_number u) ≡ false) × (uids_of p ≡ u ∷ [])

-- The plan of a top's commit is by its path, and tidy.
pub record KnowsPlan (u : Uid) (p : commit.Plan) : Type 0 where
  pub actor_is : actor p.path ≡ u
  pub top_is : top_of p.path ≡ u
  pub tidy : IsTidy p

-- while a commit votes nobody has prepared, and while it prepares somebody hasn't answered
abbrev pub IsUnderWay : commit.Machine → Type 0
IsUnderWay (commit.Voting p left) = IsUnanswered p
IsUnderWay (commit.Preparing p left) = (n : ℕ) × (order.has left n ≡ true)
IsUnderWay _ = ⊤

-- A commit under way is of an open top, by its path; it uses something, and changes of each object one state, which is of that object.
pub record KnowsMachine (tops : Kinds) (c : Coord) (u : Uid) (m : commit.Machine) : Type 0 where
  pub branch : tree.Branch
  pub found : branch_of u c.tree ≡ Some branch
  pub unended : branch.ended ≡ None
  pub path : branch.path ≡ (let p = commit.plan_of m in p.path)
  pub objects : (s : ObjectState) → Among s (let p = commit.plan_of m in p.changed) → s.uid ≡ object (let w = s.uid in w.num)
  pub top : tops.is_top (uid_number u) ≡ true
  pub changes : AreOneChange (commit.plan_of m)
  pub plan : KnowsPlan u (commit.plan_of m)
  pub way : IsUnderWay m
  pub used : commit.Used
  pub more : List commit.Used
  pub uses : (let p = commit.plan_of m in p.used) ≡ used ∷ more

-- a call or an include under way is of an open action, by its path
pub record KnowsSteps (c : Coord) (u : Uid) (s : Steps) : Type 0 where
  pub branch : tree.Branch
  pub found : branch_of u c.tree ≡ Some branch
  pub unended : branch.ended ≡ None
  pub actor_is : actor s.path ≡ u

-- an open serializing action
pub record IsOpenSerial (c : Coord) (u : Uid) : Type 0 where
  pub branch : tree.Branch
  pub found : branch_of u c.tree ≡ Some branch
  pub unended : branch.ended ≡ None
  pub serial : branch.kind ≡ kind.Serial

-- the action is at its commit here, and this is its root
abbrev pub CommitsAt : Coord → Uid → Uid → Type 0
CommitsAt c root u = (q : Doing) × (m : commit.Machine) × (doing_of u c ≡ Some q) × (q.now ≡ Committing m)
    × (root_of (let p = commit.plan_of m in p.path) ≡ root)

-- if an action of this root is at its commit here, then it is this one
abbrev pub IsFirstAt : Coord → Uid → Uid → Type 0
IsFirstAt c root u = (w : Uid) → CommitsAt c root w → w ≡ u

-- the path begins with the root, and each action stands on it once
pub record IsFromRoot (root : Uid) (path : List Uid) : Type 0 where
  pub rest : List Uid
  pub headed : path ≡ root ∷ rest
  pub once : (w : Uid) → is_on (behind w path) w ≡ false

-- The top of a plan includes the object: under a path that goes through it, and behind it there the plan has no abort.
pub record HasIncluded (r : Root) (p : commit.Plan) (x : ℕ) : Type 0 where
  pub joined : Joined
  pub there : Contains r.joined joined
  pub object : joined.x ≡ x
  pub on : is_on joined.path (actor p.path) ≡ true
  pub lives : (w : Uid) → is_on (behind (actor p.path) joined.path) w ≡ true → Contains p.ends (w, ending.Abort) → ⊥

-- What is known of a coordinator and the records beside it: each action stands at its place, at the end of its path, which a
-- top's root begins; it is at work in its place; an open one has no record; a record has its top's root; of each root one
-- commit at most is under way; what a root was answered is by paths that it begins; and what a plan includes its top did.
pub record KnowsCoord (tops : Kinds) (intents : List (Uid × Intent)) (c : Coord) : Type 0 where
  pub path : (u : Uid) (b : tree.Branch) → branch_of u c.tree ≡ Some b → actor b.path ≡ u
  pub kind : (u : Uid) (b : tree.Branch) → branch_of u c.tree ≡ Some b → IsOfKind tops u b.kind b.path
  pub root : (u : Uid) (b : tree.Branch) → branch_of u c.tree ≡ Some b → tops.is_top (uid_number u) ≡ true →
      tops.root (uid_number u) ≡ uid_number (root_of b.path)
  pub headed : (u : Uid) (b : tree.Branch) → branch_of u c.tree ≡ Some b → is_on (uids_of b.path) (root_of b.path) ≡ true
  pub stem : (u : Uid) (b : tree.Branch) → branch_of u c.tree ≡ Some b → is_constituent b.kind ≡ true →
      (r : tree.Branch) × (branch_of (root_of b.path) c.tree ≡ Some r)
  pub at_work : (u : Uid) (b : tree.Branch) → branch_of u c.tree ≡ Some b → (q : Doing) × (doing_of u c ≡ Some q)
  pub unrecorded : (u : Uid) → is_open u c.tree ≡ true → at_uid u intents ≡ None
  pub awaited : (u : Uid) (j : Intent) → at_uid u c.telling ≡ Some j → (i : Intent) × (at_uid u intents ≡ Some i)
  pub rooted : (u : Uid) (i : Intent) → at_uid u intents ≡ Some i → tops.is_top (uid_number u) ≡ true →
      tops.root (uid_number u) ≡ uid_number i.root
  pub machines : (u : Uid) (q : Doing) (m : commit.Machine) → doing_of u c ≡ Some q → q.now ≡ Committing m → KnowsMachine tops c u m
  pub starts : (u : Uid) (b : tree.Branch) (req : ℕ) → branch_of u c.tree ≡ Some b → tops.is_top (uid_number u) ≡ true →
      KnowsPlan u (plan_for b.path req (root_at (root_of b.path) c) c)
  pub above : (u : Uid) (b : tree.Branch) → branch_of u c.tree ≡ Some b → b.ended ≡ None → is_constituent b.kind ≡ true →
      IsOpenSerial c (root_of b.path)
  pub steps : (u : Uid) (q : Doing) (s : Steps) → doing_of u c ≡ Some q → q.now ≡ Calling s → KnowsSteps c u s
  pub alone : (root u : Uid) → CommitsAt c root u → IsFirstAt c root u
  pub as_long : length c.doings ≡ length c.tree.branches
  pub telling_there : AllByRecursion (λ (e : Uid × Intent). (i : Intent) × (at_uid e.0 intents ≡ Some i)) c.telling
  pub said : (root : Uid) (s : Said) → is_own root c.tree ≡ true → Contains (let r = root_at root c in r.said) s → IsFromRoot root s.path
  pub includes : (u : Uid) (q : Doing) (m : commit.Machine) → doing_of u c ≡ Some q → q.now ≡ Committing m → (v : commit.Used) →
      Uses v (let p = commit.plan_of m in p.used) → is_empty v.joins ≡ false →
      HasIncluded (root_at (let p = commit.plan_of m in root_of p.path) c) (commit.plan_of m) v.x
