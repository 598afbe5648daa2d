-- Which stores a commit under way includes, by the journal: those of the surviving includes of its top.
use Rattle.std.specs.Prelude.{⊤, ◌≡◌, ◌<◌, ◌==◌, ◌&&◌, ℕ, Bool, true, false, List, [], ◌∷◌, Option, Some, None, Contains}
use Rattle.std.specs.List.{AllByRecursion, list_all, list_any}
use Rattle.arj_base.specs.Path.{first_uid}
use Rattle.arj_base.specs.Rows.{is_on}
use Rattle.arj_base.specs.Uid.{uid_eq}
use Rattle.arj_model.specs.Actions.{Act, act_in, chain_in, path, top_in}
use Rattle.arj_protocol.specs.Commit as commit
use Rattle.arj_protocol.specs.Commit.{Machine, plan_of}
use Rattle.arj_protocol.specs.Coord.{Committing, Coord, Doing, Joined, Root, doing_of}
use Rattle.arj_protocol.specs.Node.{Parts}
use Rattle.arj_protocol.specs.Order.{has}
use Rattle.arj_protocol.specs.Step.{Node}
use Rattle.arj_protocol.specs.Tree.{is_own}
use Rattle.arj_protocol.specs.Words.{Uid, name}
use Rattle.arj_law_disk_view.specs.view.Plans.{plan_at}
use Rattle.arj_promise.specs.Runs.{Seen}
use Rattle.arj_law_runs.specs.journal.Book.{Access, Book, book}
use Rattle.arj_law_runs.specs.journal.Knows.{root_in}
use Rattle.arj_law_runs.specs.journal.Plans.{path_of}

-- ---- by the book

-- the access is an include of this store
abbrev pub is_of_store : ℕ → Option ℕ → Bool
is_of_store s None = false
is_of_store s (Some n) = n == s

-- the path of who made an access
abbrev pub acts_of : Book → Access → List Act
acts_of B a = path B.acts (let c = a.act in c.label)

-- this is the top of the path, and of the actions below it each passes
abbrev pub lasts_in : (Uid → Bool) → Uid → List Act → Option Act → Bool
lasts_in f u p None = false
lasts_in f u p (Some t) = uid_eq t.uid u && list_all (λ (b : Act). f b.uid) (chain_in p)

-- the access is an include of this store of the object, and all actions below the top, which is this one, are committed
abbrev pub includes_in : Book → Uid → ℕ → ℕ → Access → Bool
includes_in B u x s a = lasts_in (is_on B.committed) u (acts_of B a) (top_in (acts_of B a)) && ((a.x == x) && is_of_store s a.store)

-- a surviving include of the top is of this store of the object
abbrev pub has_included : Book → Uid → ℕ → ℕ → Bool
has_included B u x s = list_any (includes_in B u x s) B.accesses

-- ---- commits

-- each number is below all behind it
abbrev pub AreRising : List ℕ → Type 0
AreRising [] = ⊤
AreRising (n ∷ ns) = AllByRecursion (λ (m : ℕ). n < m) ns × AreRising ns

-- The plan of this top's commit includes of each object the stores of the top's surviving includes, each once, in increasing order.
pub record IncludesLeft (B : Book) (u : Uid) (p : commit.Plan) : Type 0 where
  pub rising : (x : ℕ) → AreRising (let q = plan_at x p in q.joins)
  pub same : (x s : ℕ) → has (let q = plan_at x p in q.joins) s ≡ has_included B u x s

-- so it is of a commit under way of the action with this name, which was called
abbrev pub FitsIncludes : Book → List ℕ → Machine → Type 0
FitsIncludes B l m = (a : Act) × (act_in B.acts l ≡ Some a) × (is_on B.called a.uid ≡ true) × IncludesLeft B a.uid (plan_of m)

-- and of each that a coordinator has under way
abbrev pub PlansInclude : Book → Coord → Type 0
PlansInclude B c = (u : Uid) (d : Doing) (m : Machine) → doing_of u c ≡ Some d → d.now ≡ Committing m → FitsIncludes B (name d.label) m

-- ---- roots

-- the root has noted an include of this store of the object under this path
abbrev pub HasJoined : ℕ → ℕ → List Uid → Root → Type 0
HasJoined x s us r = (j : Joined) × Contains r.joined j × (j.path ≡ us) × (j.x ≡ x) × (j.store ≡ s)

-- each answered include of this coordinator's actions is noted by its root as an include
abbrev pub IncludesAreNoted : Book → Coord → Type 0
IncludesAreNoted B c = (a : Access) (s : ℕ) → Contains B.accesses a → a.store ≡ Some s → is_own (let b = a.act in b.uid) c.tree ≡ true →
    HasJoined a.x s (path_of B a) (root_in (first_uid (path_of B a)) c.roots)

-- ---- all nodes

-- so it is at each node that is up
abbrev pub IncludesAreSaid : Seen → Type 0
IncludesAreSaid M = (j : ℕ) (n : Node) (t : Parts) → M.nodes j ≡ Some n → n.live ≡ Some t →
    IncludesAreNoted (book M.lines) t.coord × PlansInclude (book M.lines) t.coord
