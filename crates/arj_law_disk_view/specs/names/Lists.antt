-- What a root keeps of an object's store list, as the disk machine's naming half has it.
use Rattle.std.specs.Prelude.{◌≡◌, ◌⊎◌, ◌<◌, ℕ, Bool, true, false, List, map, Option, Some, None, Contains}
use Rattle.arj_protocol.specs.Words.{Uid, Binding, is_on}
use Rattle.arj_protocol.specs.Order.{is_binding}
use Rattle.arj_protocol.specs.Call.{At, Known, bound_by}
use Rattle.arj_protocol.specs.Commit as commit
use Rattle.arj_protocol.specs.Commit.{Used, included_of}
use Rattle.arj_protocol.specs.Coord as coord
use Rattle.arj_protocol.specs.Coord.{Coord, Grant, Root, Said, granted_with, is_called, kept_of, survives}
use Rattle.arj_protocol.specs.Ending.{kept_after}
use Rattle.arj_protocol.specs.Order.{uid_number}
use Rattle.arj_protocol.specs.Tree.{is_spent}
use Rattle.arj_law_disk.specs.machine.Guards.{IsPresent}
use Rattle.arj_law_disk.specs.machine.Named.{Named}
use Rattle.arj_law_disk.specs.machine.Names as machine
use Rattle.arj_law_disk.specs.machine.Names.{Names, Office, Kept, lists_after, retained}
use Rattle.arj_law_disk.specs.machine.State.{State, Idle}
use Rattle.arj_law_disk.specs.machine.Words.{In, has, put2}
use Rattle.arj_law_disk_view.specs.view.Confirming.{SaysMarks}
use Rattle.arj_law_disk_view.specs.view.Sees.{Kinds, IsFixed}
use Rattle.arj_law_disk_view.specs.names.Grants.{SeesGrants}
use Rattle.arj_law_disk_view.specs.names.Memory.{NamesGo}

-- each of these stores is among those
abbrev pub IsWithin : List ℕ → List ℕ → Type 0
IsWithin l m = (s : ℕ) → has s l ≡ true → has s m ≡ true

-- counts of bindings have 32 bits
abbrev pub IsShort : Binding → Type 0
IsShort b = b.count < 4294967296

-- the machine keeps a list for this action in which no store is but those of the known binding
pub record HasList (N : Names) (h : ℕ) (k : Known) : Type 0 where
  pub kept : Kept
  pub there : N.kept h ≡ Some kept
  pub since : (let b = k.binding in b.inc) ≡ kept.since
  pub within : IsWithin kept.list k.stores

-- the root has a grant of the binding's incarnation, and some list is kept for it
pub record HasRetained (N : Names) (root : ℕ) (k : Known) : Type 0 where
  pub had : N.had root (let b = k.binding in b.inc) ≡ true
  pub kept : Kept
  pub there : N.kept root ≡ Some kept

-- a top of the root
pub record IsTopOf (tops : Kinds) (root t : Uid) : Type 0 where
  pub top : tops.is_top (uid_number t) ≡ true
  pub plain : tops.is_serial (uid_number t) ≡ false
  pub of_root : tops.root (uid_number t) ≡ uid_number root

-- The list of the binding that a root keeps. Whatever list of that binding's incarnation the machine keeps in the root is within the
-- root's; it has one for each top that was answered this binding, and one that counts for each that has an answered call; and
-- where nothing is kept no call survives.
pub record SeesLists (x : ℕ) (tops : Kinds) (root : Uid) (c : Coord) (r : Root) (N : Names) : Type 0 where
  pub agree : (k : Known) (h : Uid) (l : Kept) → kept_of x r ≡ Some k → (h ≡ root) ⊎ IsTopOf tops root h → N.kept (uid_number h) ≡ Some l →
      l.since ≡ (let b = k.binding in b.inc) → IsWithin l.list k.stores
  pub family : (g : Grant) → Contains r.grants g → IsTopOf tops root g.top
  pub granted : (g : Grant) (b : Binding) → Contains r.grants g → g.x ≡ x → g.named ≡ Some b →
      (N.had (uid_number g.top) b.inc ≡ true) × IsShort b
  pub named : (k : Known) (g : Grant) → kept_of x r ≡ Some k → Contains r.grants g → g.x ≡ x → is_binding k.binding g.named ≡ true →
      HasList N (uid_number g.top) k
  pub short : (k : Known) → kept_of x r ≡ Some k → IsShort k.binding
  pub called : (k : Known) (s : Said) (t : Uid) → kept_of x r ≡ Some k → Contains r.said s → s.x ≡ x → is_spent s.path c.tree ≡ false →
      is_on s.path t ≡ true → IsTopOf tops root t → HasList N (uid_number t) k ⊎ HasRetained N (uid_number root) k
  pub retained : (k : Known) (s : Said) → kept_of x r ≡ Some k → Contains r.said s → s.x ≡ x → coord.is_retained s.path c ≡ true →
      HasRetained N (uid_number root) k
  pub nothing : kept_of x r ≡ None → (s : Said) → Contains r.said s → s.x ≡ x → is_spent s.path c.tree ≡ true

-- what survives isn't spent, while the root and this top are open
pub record IsLasting (x : ℕ) (c : Coord) (r : Root) : Type 0 where
  pub retained : (s : Said) → Contains r.said s → s.x ≡ x → coord.is_retained s.path c ≡ true → is_spent s.path c.tree ≡ false

-- ---- an answer names a binding

-- a kept list is there still, and within what it was as long as it is of the same incarnation
pub record HasNarrowed (k : Kept) (o : Option Kept) : Type 0 where
  pub kept : Kept
  pub there : o ≡ Some kept
  pub within : kept.since ≡ k.since → IsWithin kept.list k.list

-- so it is of each that was kept
abbrev pub AreNarrowed : Names → Names → Type 0
AreNarrowed N M = (h : ℕ) (k : Kept) → N.kept h ≡ Some k → HasNarrowed k (M.kept h)

-- Of the machine only grants and kept lists of coordinators change; grants grow.
pub record OnlyKept (A B : Office) : Type 0 where
  pub names : B.names ≡ record A.names { had = B.names.had; kept = B.names.kept }
  pub world : B.world ≡ A.world
  pub had : (t i : ℕ) → A.names.had t i ≡ true → B.names.had t i ≡ true
  pub narrows : AreNarrowed A.names B.names

-- What an answer to a call brings: a binding of the naming incarnation that answers, with a list; and where the root is free of
-- the kept binding each call on the object is spent.
pub record IsNamedNow (x : ℕ) (c : Coord) (r : Root) (g : ℕ) (known : Known) (free : Bool) : Type 0 where
  pub inc : (let b = known.binding in b.inc) ≡ g
  pub short : IsShort known.binding
  pub spent : free ≡ true → (s : Said) → Contains r.said s → s.x ≡ x → is_spent s.path c.tree ≡ true

-- The root after an answer to the top's call: the grant is noted, and what is kept is what the answer makes of it.
pub record AfterAnswer (x g : ℕ) (t : Uid) (known : Known) (at : At) (free : Bool) (r q : Root) : Type 0 where
  pub grants : q.grants ≡ granted_with (record { top = t; x = x; least = g; named = Some known.binding }) r.grants
  pub said : q.said ≡ r.said
  pub kept : kept_of x q ≡ (let m = bound_by free known at (kept_of x r) in m.kept)

-- kept lists of other roots are left
abbrev pub LeavesOthers : Kinds → Uid → Office → Office → Type 0
LeavesOthers tops root A B = (h : ℕ) → (tops.root h ≡ uid_number root → ⊥) → B.names.kept h ≡ A.names.kept h

-- the machine keeps a list within that of the binding for the top, or its root retains one
abbrev pub HasCallList : Names → ℕ → ℕ → Known → Type 0
HasCallList N root top k = HasList N top k ⊎ HasRetained N root k

-- whichever of the root's tops had a list for what was kept has one for what is kept now
abbrev pub KeepsCalls : Kinds → Uid → Option Known → Option Known → Names → Names → Type 0
KeepsCalls tops root old new N M = (w : Uid) (k : Known) → IsTopOf tops root w → old ≡ Some k →
    HasCallList N (uid_number root) (uid_number w) k → (l : Known) × (new ≡ Some l) × HasCallList M (uid_number root) (uid_number w) l

-- The answer is taken, and with it its list for each of the root that has a grant of its incarnation; of grants it is the one new one.
-- Where the root isn't free of what it keeps, its tops have lists as before.
abbrev pub ListsAreHeard : Type 0
ListsAreHeard = (x g : ℕ) (tops : Kinds) (root t : Uid) (c : Coord) (r q : Root) (known : Known) (at : At) (free : Bool) (A : Office) →
    Named A → IsFixed tops A.world.disk → SeesGrants x root c r A.world.disk A.names → SeesLists x tops root c r A.names → IsLasting x c r
    → IsTopOf tops root t → tops.root (uid_number root) ≡ uid_number root → A.world.disk.stage (uid_number t) ≡ Idle → In (machine.Bound
    (uid_number t) g false known.stores) A.names.answers → IsNamedNow x c r g known free → AfterAnswer x g t known at free r q
    → NamesGo A (λ B. OnlyKept A B × SeesLists x tops root c q B.names × (B.names.had ≡ put2 (uid_number t) g true A.names.had)
    × LeavesOthers tops root A B × (free ≡ false → KeepsCalls tops root (kept_of x r) (kept_of x q) A.names B.names))

-- ---- a commit's list

-- What a commit of a top asks for that called the object: a grant, and as long as all grants are of the present incarnation, a
-- kept list of which each store is in the root's.
pub record HasKeptList (x : ℕ) (root t : Uid) (r : Root) (S : State) (N : Names) : Type 0 where
  pub known : Known
  pub kept : kept_of x r ≡ Some known
  pub inc : ℕ
  pub had : (N.had (uid_number t) inc ≡ true) ⊎ (N.had (uid_number root) inc ≡ true)
  pub list : IsPresent S N (uid_number t) → (h : ℕ) × ((h ≡ uid_number t) ⊎ (h ≡ uid_number root)) × (l : Kept) × (N.kept h ≡ Some l)
      × ((s : ℕ) → has s l.list ≡ true → has s known.stores ≡ true)

-- a commit of a top that called the object has such a list
abbrev pub CommitsHaveLists : Type 0
CommitsHaveLists = (x : ℕ) (tops : Kinds) (root t : Uid) (c : Coord) (r : Root) (A : Office) → Named A → IsFixed tops A.world.disk →
    SeesLists x tops root c r A.names → IsLasting x c r → IsTopOf tops root t
    → ((s : Said) → Contains r.said s → survives t s.path c ≡ true → is_spent s.path c.tree ≡ false) → is_called x t r c ≡ true →
    HasKeptList x root t r A.world.disk A.names

-- ---- a call is answered

-- The root after a call on an object is answered: it is noted, for an action below a top.
pub record AfterCall (y : ℕ) (path : List Uid) (r q : Root) : Type 0 where
  pub grants : q.grants ≡ r.grants
  pub kept : (x : ℕ) → kept_of x q ≡ kept_of x r
  pub said : (s : Said) → Contains q.said s → Contains r.said s ⊎ (s ≡ record { path = path; x = y })

-- Where the object is the call's, its tops have a list; what is kept there is no nothing.
abbrev pub AnsweredCallsHaveLists : Type 0
AnsweredCallsHaveLists = (x y : ℕ) (tops : Kinds) (root : Uid) (c : Coord) (r q : Root) (path : List Uid) (N : Names) →
    SeesLists x tops root c r N → AfterCall y path r q
    → (y ≡ x → (k : Known) × (kept_of x r ≡ Some k) × ((t : Uid) → is_on path t ≡ true → IsTopOf tops root t → HasList N (uid_number t) k
    ⊎ HasRetained N (uid_number root) k) × (coord.is_retained path c ≡ true → HasRetained N (uid_number root) k))
    → SeesLists x tops root c q N

-- ---- a decision

-- The root after a decision of a top: its exclusions are out of the kept list, and its inclusions are in it. No call is spent by
-- it; and who is retained from now on is below the top.
pub record AfterDecision (x : ℕ) (t : Uid) (p : commit.Plan) (c d : Coord) (r q : Root) : Type 0 where
  pub grants : q.grants ≡ r.grants
  pub said : q.said ≡ r.said
  pub kept : kept_of x q ≡ kept_after p x (kept_of x r)
  pub spent : (s : Said) → Contains r.said s → is_spent s.path d.tree ≡ is_spent s.path c.tree

-- what the Confirm of the plan says is what the machine has of the top
abbrev pub IsSaid : ℕ → State → Uid → commit.Plan → Type 0
IsSaid x S t p = SaysMarks x (S.plan (uid_number t)) (S.got (uid_number t)) (map {A = Used} {B = ℕ × ℕ} (λ u. (u.x, u.grant)) p.used)
    p.excluded (included_of p)

-- Lists stay the root's by a decision of which nothing is retained, and by one that is retained.
abbrev pub DecisionsKeepLists : Type 0
DecisionsKeepLists = (x : ℕ) (tops : Kinds) (root t : Uid) (c d : Coord) (r q : Root) (p : commit.Plan) (S : State) (N : Names) →
    IsFixed tops S → SeesLists x tops root c r N → IsTopOf tops root t → tops.root (uid_number root) ≡ uid_number root → IsSaid x S t p →
    AfterDecision x t p c d r q
    → ((s : Said) → Contains r.said s → s.x ≡ x → coord.is_retained s.path d ≡ true → coord.is_retained s.path c ≡ true)
    → SeesLists x tops root d q (record N { kept = lists_after S (uid_number t) N.kept })

-- lists stay so by a decision that is retained
abbrev pub RetainedListsAreSeen : Type 0
RetainedListsAreSeen = (x : ℕ) (tops : Kinds) (root t : Uid) (c d : Coord) (r q : Root) (p : commit.Plan) (S : State) (N : Names) →
    IsFixed tops S → SeesLists x tops root c r N → ((h : ℕ) (l : Kept) → N.kept h ≡ Some l → N.had h l.since ≡ true)
    → IsTopOf tops root t → tops.root (uid_number root) ≡ uid_number root → tops.is_serial (uid_number root) ≡ true → IsSaid x S t p →
    AfterDecision x t p c d r q
    → ((s : Said) → Contains r.said s → s.x ≡ x → coord.is_retained s.path d ≡ true →
    (coord.is_retained s.path c ≡ true) ⊎ ((is_on s.path t ≡ true) × (is_spent s.path c.tree ≡ false)))
    → SeesLists x tops root d q (retained S (uid_number t) (record N { kept = lists_after S (uid_number t) N.kept }))
