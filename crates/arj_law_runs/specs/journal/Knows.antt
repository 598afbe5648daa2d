-- What nodes know of the journal: each action at work, each record and each message against the book.
use Rattle.std.specs.Prelude.{⊤, ◌≡◌, ◌⊎◌, ℕ, true, false, if◌then◌else◌, List, [], ◌∷◌, length, Option, Some, None, Contains, unwrap_or}
use Rattle.std.specs.List.{AllByRecursion}
use Rattle.arj_base.specs.Rows.{is_on}
use Rattle.arj_law_runs.specs.coordinators.Uses.{KnowsTops}
use Rattle.arj_model.specs.Actions.{Act, act_in, path, uids}
use Rattle.arj_law_parts.specs.parts.Actions.{IsCounted}
use Rattle.arj_law_parts.specs.parts.Ends.{brought, told_by}
use Rattle.arj_protocol.specs.Words.{Uid, End, Kind, Label, Message, Body, name, uids_of}
use Rattle.arj_protocol.specs.Words.body
use Rattle.arj_protocol.specs.Words.ending
use Rattle.arj_protocol.specs.Commit.{Machine, plan_of}
use Rattle.arj_protocol.specs.Coord.{Coord, Doing, Committing, Joined, Root, Said, doing_of, no_root}
use Rattle.arj_protocol.specs.Effect.{Effect, Say, Send, Do, PutInc, PutIntent, Intent}
use Rattle.arj_protocol.specs.Node.{Parts}
use Rattle.arj_protocol.specs.Step.{Node, is_committing_now}
use Rattle.arj_protocol.specs.Order.{at_number}
use Rattle.arj_protocol.specs.Tree.{Branch, Tree, branch_of, ends_of, is_own, root_of}
use Rattle.arj_protocol.specs.World.{Labelled}
use Rattle.arj_law_runs.specs.kept.Worlds.{IsGood}
use Rattle.arj_law_parts.specs.moves.Keeps.{label_at}
use Rattle.arj_law_parts.specs.moves.Seen as seen
use Rattle.arj_promise.specs.Runs.{Post, Seen}
use Rattle.arj_law_runs.specs.journal.Book.{Access, Book, book, new_book, turned, uid_in, is_decided, is_over}
use Rattle.arj_law_runs.specs.journal.Right.{AreRight, IsSaid, MayBeFound, Right}
use Rattle.arj_start.specs.Kinds.{is_serial}

-- ---- coordinators

-- an action's end, as its coordinator has it, is that of the book
abbrev pub IsEnd : Book → Uid → Kind → Option End → Type 0
IsEnd B u k None = (is_over B u ≡ false) × (is_on B.found u ≡ false)
IsEnd B u k (Some ending.Commit) = (if is_serial k then is_on B.ended u else is_on B.committed u) ≡ true
IsEnd B u k (Some ending.Abort) = is_on B.aborted u ≡ true

-- the action is that of its label, of its kind, and ended as the book says
pub record IsKnown (B : Book) (u : Uid) (k : Kind) (o : Option End) (l : Label) : Type 0 where
  pub act : Act
  pub named : act_in B.acts (name l) ≡ Some act
  pub uid : act.uid ≡ u
  pub kind : act.kind ≡ k
  pub end : IsEnd B u k o

-- of these ends each commit is of an action that is decided
abbrev pub AreSaid : Book → List (Uid × End) → Type 0
AreSaid B ends = AllByRecursion (λ (e : Uid × End). IsSaid B e.0 e.1) ends

-- so it is of the action of each record
abbrev pub EachRecord : (Uid → Type 0) → List (Uid × Intent) → Type 0
EachRecord P intents = (u : Uid) (i : Intent) → Contains intents (u, i) → P u

-- what a coordinator has of a root
abbrev pub root_in : Uid → List (ℕ × Root) → Root
root_in root roots = unwrap_or (at_number root.num roots) no_root

-- the root was answered a call on the object under this path
abbrev pub HasSaid : ℕ → List Uid → Root → Type 0
HasSaid x us r = (s : Said) × Contains r.said s × (s.path ≡ us) × (s.x ≡ x)

-- The root has taken note of an access under this path. That an include isn't answered as a call is isn't said.
abbrev pub HasNoted : Option ℕ → ℕ → List Uid → Root → Type 0
HasNoted None x us r = HasSaid x us r
HasNoted (Some n) x us r = ((j : Joined) × Contains r.joined j × (j.path ≡ us) × (j.x ≡ x) × (j.store ≡ n)) ⊎ HasSaid x us r

-- an action of this tree, with this path, accessed the object, as the book has it
abbrev pub IsAccess : List Access → Tree → List Uid → ℕ → (Option ℕ → Type 0) → Type 0
IsAccess accesses t us x P = (a : Access) × (b : Branch) × Contains accesses a × (branch_of (let c = a.act in c.uid) t ≡ Some b)
    × (us ≡ uids_of b.path) × (a.x ≡ x) × P a.store

-- What a coordinator's tree and roots have of the actions and accesses of a book: its actions stand at their places, with all that is below
-- them; and its roots have noted the accesses of its actions, and no others.
pub record Ties (acts : List Act) (accesses : List Access) (t : Tree) (roots : List (ℕ × Root)) : Type 0 where
  pub paths : (a : Act) (b : Branch) → Contains acts a → branch_of a.uid t ≡ Some b → uids (path acts a.label) ≡ uids_of b.path
  pub homes : (a : Act) (u : Uid) → Contains acts a → is_on (uids (path acts a.label)) u ≡ true → is_own u t ≡ true →
      (b : Branch) × (branch_of a.uid t ≡ Some b)
  pub noted : (a : Access) (b : Branch) → Contains accesses a → branch_of (let c = a.act in c.uid) t ≡ Some b →
      HasNoted a.store a.x (uids_of b.path) (root_in (root_of b.path) roots)
  pub said : (root : Uid) (s : Said) → Contains (root_in root roots).said s → IsAccess accesses t s.path s.x (λ store. ⊤)
  pub joined : (root : Uid) (j : Joined) → Contains (root_in root roots).joined j →
      IsAccess accesses t j.path j.x (λ store. store ≡ Some j.store)

-- A coordinator: its actions are known, and the commits that it lists, that its commits bring and that it tells again are
-- decided; and its tree and its roots have the book's actions and accesses.
pub record Knows (B : Book) (c : Coord) : Type 0 where
  pub acts : (u : Uid) (b : Branch) (q : Doing) → branch_of u c.tree ≡ Some b → doing_of u c ≡ Some q → IsKnown B u b.kind b.ended q.label
  pub lists : (root : Uid) → AreSaid B (ends_of root c.tree)
  pub plans : (u : Uid) (q : Doing) (m : Machine) → doing_of u c ≡ Some q → q.now ≡ Committing m → AreSaid B (let p = plan_of m in p.ends)
  pub telling : EachRecord (λ u. is_decided B u ≡ true) c.telling
  pub ties : Ties B.acts B.accesses c.tree c.roots

-- of an open action the commit was called exactly if it is under way
abbrev pub Calls : Book → Coord → Type 0
Calls B c = (u : Uid) (b : Branch) (q : Doing) → branch_of u c.tree ≡ Some b → doing_of u c ≡ Some q → b.ended ≡ None →
    is_on B.called u ≡ is_committing_now q.now

-- ---- effects

-- the commits of a message are of actions that are decided
abbrev pub Claims : Book → Message → Type 0
Claims B m = AreSaid B (brought m) × AreSaid B (told_by m)

-- a line is about actions of this node
abbrev pub IsAbout : ℕ → Book → Body → Type 0
IsAbout k B (body.Began l h u p) = u.node ≡ k
IsAbout k B (body.Committing l) = (a : Act) → act_in B.acts (name l) ≡ Some a → a.uid.node ≡ k
IsAbout k B (body.Committed l) = (a : Act) → act_in B.acts (name l) ≡ Some a → a.uid.node ≡ k
IsAbout k B (body.Aborted l c) = (a : Act) → act_in B.acts (name l) ≡ Some a → a.uid.node ≡ k
IsAbout k B (body.Ended l) = (a : Act) → act_in B.acts (name l) ≡ Some a → a.uid.node ≡ k
IsAbout k B (body.Recovered n u) = u.node ≡ k
IsAbout k B (body.Ok l x o r) = (a : Act) → act_in B.acts (name l) ≡ Some a → a.uid.node ≡ k
IsAbout k B (body.Includes l x n) = (a : Act) → act_in B.acts (name l) ≡ Some a → a.uid.node ≡ k
IsAbout k B _ = ⊤

-- the action's commit was called at this node
abbrev pub IsCalled : Book → ℕ → Uid → Type 0
IsCalled B k u = (u.node ≡ k) × (is_on B.called u ≡ true)

-- a line that is right, a message whose commits are decided, the record of a commit that was called; and no incarnation is put
abbrev pub IsLined : ℕ → Book → Effect → Type 0
IsLined k B (Say b) = Right B b × IsAbout k B b
IsLined k B (Send to m) = Claims B m
IsLined k B (Do (PutIntent u i)) = IsCalled B k u
IsLined k B (Do (PutInc i)) = ⊥
IsLined k B (Do w) = ⊤

-- the book after an effect
abbrev pub turned_by : Book → Effect → Book
turned_by B (Say b) = turned B b
turned_by B (Send to m) = B
turned_by B (Do w) = B

-- the book after effects
abbrev pub after : Book → List Effect → Book
after B [] = B
after B (e ∷ es) = after (turned_by B e) es

-- so it is of effects, each with the book before it
abbrev pub AreLined : ℕ → Book → List Effect → Type 0
AreLined k B [] = ⊤
AreLined k B (e ∷ es) = IsLined k B e × AreLined k (turned_by B e) es

-- a record that is put is of an action that is decided at the end
abbrev pub Puts : Book → Effect → Type 0
Puts V (Do (PutIntent u i)) = is_decided V u ≡ true
Puts V _ = ⊤

-- who is decided by a line
abbrev pub decides : Book → Body → Option Uid
decides B (body.Committed l) = uid_in B.acts l
decides B (body.Recovered n u) = Some u
decides B _ = None

-- nothing is done on the disk
abbrev pub IsIdle : Effect → Type 0
IsIdle (Do w) = ⊥
IsIdle _ = ⊤

-- so it is of all effects
abbrev pub AreIdle : List Effect → Type 0
AreIdle es = AllByRecursion IsIdle es

-- who is decided by a line is one of these, and behind that line nothing is done on the disk
abbrev pub AreLate : (Uid → Type 0) → Book → List Effect → Type 0
AreLate Q B [] = ⊤
AreLate Q B (Say b ∷ es) = ((u : Uid) → decides B b ≡ Some u → Q u × AreIdle es) × AreLate Q (turned B b) es
AreLate Q B (Send to m ∷ es) = AreLate Q B es
AreLate Q B (Do w ∷ es) = AreLate Q B es

-- the coordinator has the action
abbrev pub HasBranch : Coord → Uid → Type 0
HasBranch c u = (b : Branch) × (branch_of u c.tree ≡ Some b)

-- ---- nodes

-- of the actions that began this node's are counted
abbrev pub Counts : ℕ → ℕ → ℕ → Book → Type 0
Counts k inc count B = AllByRecursion (λ (a : Act). IsCounted k inc count a.uid) B.acts

-- the book counts the actions that a node began in its incarnation: those of its tree, where it is up
abbrev pub Remembers : Book → ℕ → ℕ → Option Parts → Type 0
Remembers B k inc None = (count : ℕ) × Counts k inc count B
Remembers B k inc (Some t) = Counts k inc (length t.coord.tree.branches) B

-- a node that is up: its coordinator knows the book, its labels and who took part in its commits, and the records on its disk are of
-- actions that are decided
pub record KnowsUp (B : Book) (intents : List (Uid × Intent)) (c : Coord) : Type 0 where
  pub knows : Knows B c
  pub calls : Calls B c
  pub tops : KnowsTops c
  pub found : EachRecord (λ u. is_decided B u ≡ true) intents

-- A node: each record on its disk may be found by a restart, its actions are counted, and while it is up it knows the book.
pub record KnowsNode (B : Book) (k : ℕ) (n : Node) : Type 0 where
  pub records : EachRecord (MayBeFound B k) (let d = n.disk in d.intents)
  pub counts : Remembers B k (let d = n.disk in d.inc) n.live
  pub live : (t : Parts) → n.live ≡ Some t → KnowsUp B (let d = n.disk in d.intents) t.coord

-- ---- all of it

-- the label of an action was given, at the action's node
abbrev pub IsGiven : List (Label × Labelled) → Act → Type 0
IsGiven given a = (l : Label) × (g : Labelled) × (name l ≡ a.label) × (label_at l given ≡ Some g) × (g.node ≡ a.uid.node)

-- each label that was given stands for an action that began, of its kind
abbrev pub AreBegun : List (Label × Labelled) → List Act → Type 0
AreBegun given acts = (l : Label) (g : Labelled) → label_at l given ≡ Some g →
    (a : Act) × (act_in acts (name l) ≡ Some a) × (is_serial a.kind ≡ g.serial)

-- The lines are right, nodes know their book, the commits in all messages that were ever sent are decided by it, and its labels
-- are those that were given.
pub record IsWritten (M : Seen) : Type 0 where
  pub right : AreRight new_book M.lines
  pub nodes : (k : ℕ) (n : Node) → M.nodes k ≡ Some n → KnowsNode (book M.lines) k n
  pub posts : (p : Post) → seen.In p M.sent → Claims (book M.lines) p.message
  pub labels : AllByRecursion (IsGiven M.labels) (book M.lines).acts
  pub begun : AreBegun M.labels (book M.lines).acts

-- good nodes, and the journal
abbrev pub IsKept : Seen → Type 0
IsKept M = IsGood M × IsWritten M
