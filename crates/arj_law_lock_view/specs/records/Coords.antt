-- What a coordinator knows of the bindings that its roots keep, of those that it asked to record, and of its includes.
use Rattle.std.specs.Prelude.{◌≡◌, ◌⊎◌, ◌≤◌, ◌<◌, ◌||◌, ℕ, Bool, true, List, ◌∷◌, Option, Some, None}
use Rattle.arj_lock.proofs.Members as list
use Rattle.arj_protocol.specs.Words.{Uid, Binding, Head, ObjectState, asks, last_uid, uids_of}
use Rattle.arj_protocol.specs.Words.ask
use Rattle.arj_protocol.specs.Ask.{actor, top_of}
use Rattle.arj_protocol.specs.Call.{At, AtActivate, AtBind, AtInvoke, AtLoad, AtNote, Goal, Include, Known, Run, Steps}
use Rattle.arj_protocol.specs.Commit.{Plan, Used, plan_of, Machine}
use Rattle.arj_protocol.specs.Confirm.{Grants, Marks}
use Rattle.arj_protocol.specs.Coord.{Calling, Committing, Coord, Doing, Grant, Joined, Keeping, Root, Said, doing_of, keeping_of, kept_of}
use Rattle.arj_protocol.specs.Coord.{root_at}
use Rattle.arj_protocol.specs.Order.{at_number, binding_number, has}
use Rattle.arj_protocol.specs.Tree.{Branch, branch_of, is_own, root_of}
use Rattle.arj_law_runs.specs.calls.Coords.{IsSpent}
use Rattle.arj_law_parts.specs.parts.Claims.{IsSettled}
use Rattle.arj_law_parts.specs.moves.Seen.{In}
use Rattle.arj_promise.specs.Runs.{Post}
use Rattle.arj_law_lock_view.specs.records.Tests.{Tests}

-- ---- roots

-- something is kept that is recorded
abbrev pub IsRecorded : Option Known → Type 0
IsRecorded None = ⊥
IsRecorded (Some k) = k.recorded ≡ true

-- the number of the binding that is kept, or else of the one to avoid
abbrev pub top_number : Option Known → Binding → ℕ
top_number None avoid = binding_number avoid
top_number (Some k) avoid = binding_number k.binding

-- the number of the binding that is kept or avoided
abbrev pub height : Keeping → ℕ
height k = top_number k.kept k.avoid

-- a binding that is kept was given, is above the one to avoid, and where it is known to be recorded it was
pub record IsKept (T : Tests) (x : ℕ) (avoid : Binding) (k : Known) : Type 0 where
  pub made : T.made (binding_number k.binding) ≡ true
  pub above : binding_number avoid < binding_number k.binding
  pub past : k.recorded ≡ true → T.past x (binding_number k.binding) ≡ true

-- what a root keeps of an object is in order
pub record IsOrdered (T : Tests) (x : ℕ) (k : Keeping) : Type 0 where
  pub avoid : T.made (binding_number k.avoid) ≡ true
  pub kept : (z : Known) → k.kept ≡ Some z → IsKept T x k.avoid z

-- the top was granted the lock by an include, and its grants say no later incarnation
pub record IsIncluded (T : Tests) (x : ℕ) (top : Uid) (g : ℕ) (r : Root) : Type 0 where
  pub asked : T.asked x top g ≡ true
  pub grant : Grant
  pub there : list.In grant r.grants
  pub object : grant.x ≡ x
  pub of : grant.top ≡ top
  pub low : grant.least ≤ g

-- ---- calls and includes

-- the root keeps a binding of this number
abbrev pub HasNumber : Option Known → Known → Type 0
HasNumber kept k = (old : Known) × (kept ≡ Some old) × (binding_number old.binding ≡ binding_number k.binding)

-- What a call stands on: its Bind avoids what the root does; further on the root keeps its binding, and the stores that it asks came with
-- it; and once it invokes that is recorded.
abbrev pub CallStands : Tests → ℕ → Option Known → Binding → At → Type 0
CallStands T x kept avoid (AtBind b) = binding_number b ≡ binding_number avoid
CallStands T x kept avoid (AtLoad z n rest) =
    HasNumber kept z × (T.low z.grant ≡ true) × ((s : ℕ) → has (n ∷ rest) s ≡ true → T.listed x (binding_number z.binding) s ≡ true)
CallStands T x kept avoid (AtActivate z st) = HasNumber kept z × (T.low z.grant ≡ true)
CallStands T x kept avoid (AtNote z i) = HasNumber kept z × (T.low z.grant ≡ true)
CallStands T x kept avoid (AtInvoke z i) = IsRecorded kept

-- an include loads with its grant
abbrev pub IncludeStands : Tests → ℕ → Uid → Root → At → Type 0
IncludeStands T x top r (AtBind avoid) = T.made (binding_number avoid) ≡ true
IncludeStands T x top r (AtLoad z n rest) = IsIncluded T x top z.grant r
IncludeStands T x top r _ = ⊥

-- so it is of the step in which a call or an include waits
abbrev pub StepStands : Tests → Goal → ℕ → Uid → Root → At → Type 0
StepStands T (Run o) x top r at = let k = keeping_of x r in CallStands T x k.kept k.avoid at
StepStands T (Include s) x top r at = IncludeStands T x top r at

-- ---- commits

-- each binding of the object that this top asked this node's naming to record was recorded
abbrev pub AreRecorded : Tests → List Post → ℕ → Uid → ℕ → Type 0
AreRecorded T sent k u x = (p : Post) (h : Head) (b : Binding) (i g : ℕ) → In p sent → p.from ≡ k →
    asks p.message ≡ Some (h, ask.Record x b i g) → top_of h.path ≡ u → T.past x (binding_number b) ≡ true

-- what is used has this store, or includes it
abbrev pub has_store : Used → ℕ → Bool
has_store w s = has w.stores s || has w.joins s

-- A plan: of what it uses at some store its top asked the lock by an include, in no earlier incarnation than the grant, or the bindings
-- that it asked to record were recorded; what it includes was loaded of its object; and what it marks it uses at some store.
pub record IsPlanSo (T : Tests) (sent : List Post) (k : ℕ) (u : Uid) (p : Plan) : Type 0 where
  pub used : (w : Used) (s : ℕ) → list.In w p.used → has_store w s ≡ true →
      ((g : ℕ) × (w.grant ≤ g) × (T.asked w.x u g ≡ true)) ⊎ AreRecorded T sent k u w.x
  pub loaded : (w : Used) (s : ℕ) (st : ObjectState) → list.In w p.used → has w.joins s ≡ true → w.loaded ≡ Some st →
      (let v = st.uid in v.num) ≡ w.x
  pub marks : (m : ℕ × ℕ) → list.In m p.excluded → (w : Used) × (s : ℕ) × list.In w p.used × (w.x ≡ m.0) × (has_store w s ≡ true)

-- ---- a coordinator

-- an include that was answered: its top asked the lock, and what was loaded is of the object
pub record IsJoin (c : Coord) (T : Tests) (r : Root) (j : Joined) : Type 0 where
  pub branch : Branch
  pub found : branch_of (last_uid j.path) c.tree ≡ Some branch
  pub path : uids_of branch.path ≡ j.path
  pub grant : ℕ
  pub included : IsIncluded T j.x (top_of branch.path) grant r
  pub loaded : (let s = j.loaded in let u = s.uid in u.num) ≡ j.x

-- What is known of a coordinator's roots and calls, with the tree of another one.
pub record KnowsKept (c : Coord) (T : Tests) (sent : List Post) (e : Coord) : Type 0 where
  pub keeps : (root : Uid) (x : ℕ) → IsOrdered T x (keeping_of x (root_at root e))
  pub said : (root : Uid) (s : Said) → list.In s (let r = root_at root e in r.said) →
      IsSpent c.tree s.path ⊎ IsRecorded (kept_of s.x (root_at root e))
  pub joined : (root : Uid) (j : Joined) → list.In j (let r = root_at root e in r.joined) → IsJoin c T (root_at root e) j
  pub states : (root : Uid) (x : ℕ) (s : ObjectState) → at_number x (let r = root_at root e in r.states) ≡ Some s →
      (let u = s.uid in u.num) ≡ x
  pub steps : (u : Uid) (d : Doing) (s : Steps) → doing_of u e ≡ Some d → d.now ≡ Calling s →
      StepStands T s.goal s.x (top_of s.path) (root_at (root_of s.path) e) s.at
  pub records : (p : Post) (h : Head) (x : ℕ) (b : Binding) (i g : ℕ) → In p sent → p.from ≡ (let t = c.tree in t.node) →
      asks p.message ≡ Some (h, ask.Record x b i g) → is_own (top_of h.path) e.tree ≡ true →
      binding_number b ≤ height (keeping_of x (root_at (root_of h.path) e))

-- What a coordinator of this node knows of its Records and Confirms, whatever passes: a top that asked to record has its branch, at the
-- root of the one who asked; and who sent a Confirm has ended, or is at its commit.
pub record KnowsSent (sent : List Post) (k : ℕ) (c : Coord) : Type 0 where
  pub node : (let t = c.tree in t.node) ≡ k
  pub rooted : (p : Post) (h : Head) (x : ℕ) (b : Binding) (i g : ℕ) → In p sent → p.from ≡ k →
      asks p.message ≡ Some (h, ask.Record x b i g) → is_own (top_of h.path) c.tree ≡ true →
      (q : Branch) × (branch_of (top_of h.path) c.tree ≡ Some q) × (root_of q.path ≡ root_of h.path)
  pub settled : (p : Post) (h : Head) (grants : Grants) (excluded included : Marks) → In p sent → p.from ≡ k →
      asks p.message ≡ Some (h, ask.Confirm grants excluded included) → is_own (actor h.path) c.tree ≡ true → IsSettled (actor h.path) c

-- for these tests, with its plans
pub record KnowsRecords (T : Tests) (sent : List Post) (k : ℕ) (c : Coord) : Type 0 where
  pub kept : KnowsKept c T sent c
  pub plans : (u : Uid) (d : Doing) (m : Machine) → doing_of u c ≡ Some d → d.now ≡ Committing m → IsPlanSo T sent k u (plan_of m)
