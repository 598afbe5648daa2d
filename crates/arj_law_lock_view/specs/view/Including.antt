-- Includes of the object at a coordinator, in the machine: what its roots have of them, and what a waiting one stands on.
use Rattle.std.specs.Prelude.{⊤, ◌≡◌, ◌≤◌, ◌+◌, ◌*◌, ℕ, ◌∷◌, List, Option, Some, None, Contains}
use Rattle.arj_protocol.specs.Words.{ObjectState, Uid, last_uid, uids_of}
use Rattle.arj_protocol.specs.Words.bound
use Rattle.arj_protocol.specs.Words.loaded
use Rattle.arj_protocol.specs.Ask.{Reply, actor, top_of}
use Rattle.arj_protocol.specs.Asking.{heard_call}
use Rattle.arj_protocol.specs.Call.{At, AtLoad, Include as IncludeStore, Known, Steps}
use Rattle.arj_protocol.specs.Coord.{Calling, Coord, Doing, Grant, Joined, Root, doing_of, root_at}
use Rattle.arj_protocol.specs.Tree.{Branch, Tree, branch_of, root_of}
use Rattle.arj_law_lock.specs.machine.Actions.{In, root}
use Rattle.arj_law_lock.specs.machine.State as machine
use Rattle.arj_law_lock.specs.machine.State.{Include, State}
use Rattle.arj_law_parts.specs.parts.Copies.{Paths}
use Rattle.arj_law_lock_view.specs.view.Acts.{Acts}
use Rattle.arj_law_lock_view.specs.view.Calling.{IsAtWork, IsReached, IsWaiting}
use Rattle.arj_law_lock_view.specs.view.Copies.{Codes}
use Rattle.arj_law_lock_view.specs.view.Going.{Goes}
use Rattle.arj_law_lock_view.specs.view.Roots.{SeesCoord}

-- the root has a grant of this top on the object that isn't above the number of a first binding of a naming incarnation
abbrev pub HasGrant : Root → ℕ → Uid → ℕ → Type 0
HasGrant r x top n = (g : Grant) × Contains r.grants g × (g.top ≡ top) × (g.x ≡ x) × (g.least * 4294967296 ≤ n)

-- the action of an answered include, by its path
pub record IsJoined (j : Joined) (t : Tree) : Type 0 where
  pub branch : Branch
  pub found : branch_of (last_uid j.path) t ≡ Some branch
  pub path : uids_of branch.path ≡ j.path

-- An include of the machine is one of the root's, and the root has a grant of its top that isn't above the include's.
pub record IsNoted (act : Acts) (x : ℕ) (k : Include) (r : Root) (t : Tree) : Type 0 where
  pub join : Joined
  pub there : Contains r.joined join
  pub about : join.x ≡ x
  pub by : k.act ≡ act (last_uid join.path)
  pub granted : (b : Branch) → branch_of (last_uid join.path) t ≡ Some b → HasGrant r x (top_of b.path) k.grant

-- an include on the object that waits for a state, by this grant
pub record IsLoading (x : ℕ) (s : Steps) (k : Known) : Type 0 where
  pub about : s.x ≡ x
  pub goal : (store : ℕ) × (s.goal ≡ IncludeStore store)
  pub at : (n : ℕ) × (rest : List ℕ) × (s.at ≡ AtLoad k n rest)

-- naming gave its top the write row, and the root has the grant
pub record IsGranted (act : Acts) (x : ℕ) (s : Steps) (k : Known) (r : Root) (S : State) : Type 0 where
  pub sent : In (machine.Granted (act (top_of s.path)) (k.grant * 4294967296)) S.net
  pub noted : HasGrant r x (top_of s.path) (k.grant * 4294967296)

-- The includes of a coordinator: the machine's are those of its roots, and one that waits for a state has the write row.
pub record SeesIncludes (act : Acts) (x : ℕ) (c : Coord) (S : State) : Type 0 where
  pub lines : (u : Uid) (b : Branch) (k : Include) → branch_of u c.tree ≡ Some b → root_of b.path ≡ u → In k S.includes →
      root k.act ≡ root (act u) → IsNoted act x k (root_at u c) c.tree
  pub joins : (u : Uid) (b : Branch) (j : Joined) → branch_of u c.tree ≡ Some b → root_of b.path ≡ u →
      Contains (let r = root_at u c in r.joined) j → j.x ≡ x → IsJoined j c.tree
  pub waits : (u : Uid) (d : Doing) (s : Steps) (k : Known) → doing_of u c ≡ Some d → d.now ≡ Calling s → IsLoading x s k →
      IsGranted act x s k (root_at (root_of s.path) c) S

-- ---- an answer

-- What an answer shows to an include: the write row, and naming's incarnation. One that names a binding is none.
abbrev pub ShowsInclude : Acts → Uid → State → Reply → Type 0
ShowsInclude act top S (Reply.Bound (bound.Write g stores)) = In (machine.Granted (act top) (g * 4294967296)) S.net
ShowsInclude act top S (Reply.Bound (bound.Live b server i g stores)) = ⊥
ShowsInclude act top S (Reply.Bound (bound.Make b server g stores)) = ⊥
ShowsInclude act top S r = ⊤

-- only includes got lines
abbrev pub OnlyIncluded : State → State → Type 0
OnlyIncluded S T = T ≡ record S { now = T.now; includes = T.includes }

-- the grant and the state of an include that this answer ends well
abbrev pub included_by : At → Reply → Option (ℕ × ObjectState)
included_by (AtLoad k n rest) (Reply.Loaded (loaded.State st)) = Some (k.grant, st)
included_by at r = None

-- The include's line, where it ends well: at this place, by its grant.
abbrev pub WritesInclude : Acts → ℕ → Steps → Option (ℕ × ObjectState) → State → State → Type 0
WritesInclude act p s None S T = (T.includes ≡ S.includes) × (T.now ≡ S.now)
WritesInclude act p s (Some o) S T =
    (T.includes ≡ record { act = act (actor s.path); line = p; grant = o.0 * 4294967296 } ∷ S.includes) × (T.now ≡ p + 1)

-- The root has a state for the include's store, not older than the one that was loaded.
abbrev pub HasState : Steps → Option (ℕ × ObjectState) → Root → Type 0
HasState s None r = ⊤
HasState s (Some o) r = (j : Joined) × Contains r.joined j × (last_uid j.path ≡ actor s.path) × (j.x ≡ s.x)
    × (s.goal ≡ IncludeStore j.store) × ((let st = o.1 in st.version) ≤ (let l = j.loaded in l.version))

-- An answer to an include on the object is taken: the machine has its line where it ends well, and the coordinator is seen.
abbrev pub IncludeAnswersAreTaken : Type 0
IncludeAnswersAreTaken = (act : Acts) (code : Codes) (paths : Paths) (x p store : ℕ) (c : Coord) (u : Uid) (b : Branch) (d : Doing)
    (s : Steps) (r : Reply) (S : State)
    → IsReached S → IsAtWork act paths c u b d → IsWaiting b d s → s.x ≡ x → s.goal ≡ IncludeStore store → S.now ≤ p →
    ShowsInclude act (top_of s.path) S r → SeesCoord act code x c S → SeesIncludes act x c S
    → let e = heard_call s r c in Goes S (λ T. SeesCoord act code x e.part T × SeesIncludes act x e.part T × OnlyIncluded S T
    × WritesInclude act p s (included_by s.at r) S T × HasState s (included_by s.at r) (root_at (root_of s.path) e.part))
