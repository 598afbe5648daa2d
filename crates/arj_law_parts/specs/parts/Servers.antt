-- What a server keeps in an incarnation, whatever comes.
use Rattle.std.specs.Prelude.{◌≡◌, ◌≢◌, ◌⊎◌, ◌≤◌, ℕ, List, [], ◌∷◌, ◌++◌, Bool, true, false, Some, Contains, take, ⊤}
use Rattle.std.specs.List.{list_any}
use Rattle.arj_protocol.specs.Words.{Uid, End, Path, Binding, uid_eq, is_on, uids_of, tops_of, first_uid}
use Rattle.arj_protocol.specs.Words.ending
use Rattle.arj_protocol.specs.Order.{at_number, at_uid, binding_less, binding_eq}
use Rattle.arj_protocol.specs.Copy.{Copy, Over}
use Rattle.arj_protocol.specs.Server.{Server, Kept, is_told, active_binding, taken_end, end_one}
use Rattle.arj_base.specs.Rows.{Row, has_any}
use Rattle.arj_law_parts.specs.parts.Actions.{Action, act_of}
use Rattle.arj_law_parts.specs.parts.Copies.{Paths, IsGoodCopy, IsLowest}
use Rattle.arj_law_parts.specs.parts.Objects.{AreSorted}
use Rattle.arj_law_parts.specs.parts.Rows.{HasLock}

-- The server has run the action's requests up to this one, or was told of the action's end.
abbrev pub HasRun : Uid → ℕ → Server → Type 0
HasRun u req s = (is_told u s ≡ true) ⊎ ((k : Kept) × (at_uid u s.kept ≡ Some k) × (req ≤ k.req))

-- One server after another, in an incarnation: no active binding falls, each end that was told stays as it was taken, and
-- each request that was run stays so.
pub record Follows (s t : Server) : Type 0 where
  pub same : t.inc ≡ s.inc
  pub bindings : (x : ℕ) → binding_less (active_binding x t) (active_binding x s) ≡ false
  pub ends : (u : Uid) (e : End) → at_uid u s.ends ≡ Some e → at_uid u t.ends ≡ Some e
  pub run : (u : Uid) (req : ℕ) → HasRun u req s → HasRun u req t

-- ---- a good server

-- What holds of a server: its copies are good, each overlay is at or below a top, and of an action whose end it was told
-- it has no lock and keeps no answer.
pub record IsGoodServer (paths : Paths) (s : Server) : Type 0 where
  pub copies : (x : ℕ) (c : Copy) → at_number x s.objects ≡ Some c → IsGoodCopy paths x c
  pub tops : (x : ℕ) (c : Copy) (e : Over) → at_number x s.objects ≡ Some c → Contains c.stack e → 1 ≤ e.tops
  pub none : (x : ℕ) (c : Copy) (u : Uid) → at_number x s.objects ≡ Some c → is_told u s ≡ true → has_any u c.rows ≡ false
  pub sorted : AreSorted s.kept
  pub unanswered : (u : Uid) (k : Kept) → is_told u s ≡ true → at_uid u s.kept ≢ Some k

-- An end that is new and is taken as a commit finds no lock of a descendant of its action.
abbrev pub IsInTurn : Uid → End → Server → Type 0
IsInTurn u e s = is_told u s ≡ false → taken_end u e s ≡ ending.Commit → (x : ℕ) (c : Copy) → at_number x s.objects ≡ Some c →
    IsLowest u c.rows

-- Each end of a list comes in its turn. A coordinator's lists do: `ends_come_in_turn` shows it from what they say.
abbrev pub AreInTurn : ℕ → List (Uid × End) → Server → Type 0
AreInTurn n [] s = ⊤
AreInTurn n (e ∷ es) s = IsInTurn e.0 e.1 s × (let d = end_one n e.0 e.1 s in AreInTurn n es d.part)

-- the end of this action is in the list
abbrev pub has_end_of : Uid → List (Uid × End) → Bool
has_end_of u ends = list_any (λ (e : Uid × End). uid_eq e.0 u) ends

-- No end is of an action of the path. Who asks is open, and so is all that stands above it: `coordinators_tell_ends_in_order`
-- shows it.
abbrev pub AreOfOthers : Path → List (Uid × End) → Type 0
AreOfOthers p ends = (u : Uid) → is_on (uids_of p) u ≡ true → has_end_of u ends ≡ false

-- ---- the lock of a call

-- A call of the action with this path, run on object x under this binding in this mode. The object's binding isn't lower
-- since. And while it is the same, and no action of the path was told to abort, and the root wasn't told, an action of the
-- path has the lock.
pub record IsKeptCall (path : List Uid) (x : ℕ) (b : Binding) (strength : ℕ) (s : Server) : Type 0 where
  pub reached : binding_less (active_binding x s) b ≡ false
  pub holds : (c : Copy) → at_number x s.objects ≡ Some c → binding_eq b c.binding ≡ true →
      ((u : Uid) → is_on path u ≡ true → at_uid u s.ends ≢ Some ending.Abort) → is_told (first_uid path) s ≡ false
      → (h : Uid) × (is_on path h ≡ true) × HasLock h strength c.rows

-- ---- with the actions that were begun

-- Locks are of actions that were begun, by their paths; and a server has voted for a top after the ends of all actions
-- below it.
pub record KnowsActions (acts : List Action) (s : Server) : Type 0 where
  pub rows : (x : ℕ) (c : Copy) (r : Row) → at_number x s.objects ≡ Some c → Contains c.rows r →
      (a : Action) × Contains acts a × (r.holder ≡ uids_of a.path) × (r.tops ≡ tops_of a.path)
  pub voted : (t : Uid) (a : Action) → is_on s.voted t ≡ true → Contains acts a → is_on (uids_of a.path) t ≡ true → act_of a ≢ t →
      is_told (act_of a) s ≡ true

-- the ends of all descendants of the action that were begun are in the list
abbrev pub HasAllBelow : List Action → Uid → List (Uid × End) → Type 0
HasAllBelow acts u ends = (a : Action) → Contains acts a → is_on (uids_of a.path) u ≡ true → act_of a ≢ u →
    has_end_of (act_of a) ends ≡ true

-- on each path on which the action is, it is a top or a serializing action
abbrev pub IsTopOn : List Action → Uid → Type 0
IsTopOn acts u = (a : Action) → Contains acts a → is_on (uids_of a.path) u ≡ true → is_on (take (tops_of a.path) (uids_of a.path)) u ≡ true

-- Ends as a coordinator tells them: each commit stands behind the ends of all descendants, or is that of a top.
abbrev pub AreOrdered : List Action → List (Uid × End) → List (Uid × End) → Type 0
AreOrdered acts before [] = ⊤
AreOrdered acts before (e ∷ es) =
    (e.1 ≡ ending.Commit → IsTopOn acts e.0 ⊎ HasAllBelow acts e.0 before) × AreOrdered acts (before ++ e ∷ []) es

-- the path is that of an action that was begun
abbrev pub IsBegun : List Action → Path → Type 0
IsBegun acts p = (a : Action) × Contains acts a × (uids_of p ≡ uids_of a.path) × (tops_of p ≡ tops_of a.path)
