-- The actions that a node has begun in this incarnation, in order of beginning, and what each root has: the ends of its
-- nested actions and constituents in the order in which they were decided, and what counts against its limits.
use Rattle.std.specs.Prelude.{ℕ, zero, suc, ◌+◌, Bool, true, false, not, ◌&&◌, ◌==◌, nat_le, if◌then◌else◌, List, [], ◌∷◌, ◌++◌, length}
use Rattle.std.specs.Prelude.{filter, slice_get, slice_set, Option, Some, None, is_some, unwrap_or}
use Rattle.std.specs.List.{list_any}
use Rattle.arj_protocol.specs.Words.{Uid, Path, End, Kind, uid_eq, uids_of, tops_of, first_uid, before_last, is_on, path_of}
use Rattle.arj_protocol.specs.Words.kind
use Rattle.arj_protocol.specs.Words.ending
use Rattle.arj_start.specs.Limits.{most_actions, most_objects, most_on_path}
use Rattle.arj_protocol.specs.Order.{at_number, put_number, with_number, has}
use Rattle.arj_protocol.specs.Ask.{actor}

-- an action: how it ended is None while it is open
pub record Branch : Type 0 where
  pub path : Path
  pub kind : Kind
  pub ended : Option End
  pub doomed : Bool

-- what a root has: its ends, how many actions were begun in it, and the objects that they use
pub record Family : Type 0 where
  pub ends : List (Uid × End)
  pub actions : ℕ
  pub objects : List ℕ

-- The actions of a node in one incarnation, and what each root has, by the number of the root.
pub record Tree : Type 0 where
  pub node : ℕ
  pub inc : ℕ
  pub branches : List Branch
  pub families : List (ℕ × Family)

-- no action was begun
abbrev pub new_tree : ℕ → ℕ → Tree
new_tree node inc = record { node = node; inc = inc; branches = []; families = [] }

-- the item at a place, counted from 1
abbrev pub at_place : {A : Type 0} → ℕ → List A → Option A
at_place zero items = None
at_place (suc k) items = slice_get items k

-- the item at a place changed
abbrev pub set_place : {A : Type 0} → ℕ → A → List A → List A
set_place zero a items = items
set_place (suc k) a items = slice_set items k a

-- the Uid is of this node in this incarnation
abbrev pub is_own : Uid → Tree → Bool
is_own u t = (u.node == t.node) && (u.inc == t.inc)

-- an action, found by its place
abbrev pub branch_of : Uid → Tree → Option Branch
branch_of u t = if is_own u t then at_place u.num t.branches else None

-- an action that is there and hasn't ended
abbrev pub is_open_branch : Option Branch → Bool
is_open_branch None = false
is_open_branch (Some b) = not (is_some b.ended)

-- the action is one of this incarnation and hasn't ended
abbrev pub is_open : Uid → Tree → Bool
is_open u t = is_open_branch (branch_of u t)

-- an action that is there can't commit any more
abbrev pub is_doomed_branch : Option Branch → Bool
is_doomed_branch None = false
is_doomed_branch (Some b) = b.doomed

-- the action can't commit any more
abbrev pub is_doomed : Uid → Tree → Bool
is_doomed u t = is_doomed_branch (branch_of u t)

-- it ended so
abbrev pub has_end : End → Option End → Bool
has_end ending.Abort (Some ending.Abort) = true
has_end ending.Commit (Some ending.Commit) = true
has_end _ _ = false

-- the action ended so
abbrev pub ended_so : End → Option Branch → Bool
ended_so e None = false
ended_so e (Some b) = has_end e b.ended

-- the action was committed
abbrev pub is_committed : Uid → Tree → Bool
is_committed u t = ended_so ending.Commit (branch_of u t)

-- the action was aborted
abbrev pub is_aborted : Uid → Tree → Bool
is_aborted u t = ended_so ending.Abort (branch_of u t)

-- the root of a path: its first action
abbrev pub root_of : Path → Uid
root_of p = first_uid (uids_of p)

-- a root that has nothing yet
abbrev pub no_family : Family
no_family = record { ends = []; actions = 0; objects = [] }

-- what the root has
abbrev pub family_of : Uid → Tree → Family
family_of root t = unwrap_or (at_number root.num t.families) no_family

-- the root has this now
abbrev pub with_family : Uid → Family → Tree → Tree
with_family root f t = record t { families = put_number root.num f t.families }

-- the ends that are listed at the root
abbrev pub ends_of : Uid → Tree → List (Uid × End)
ends_of root t = let f = family_of root t in f.ends

-- ---- beginning

-- the Uid of the next action
abbrev pub next_uid : Tree → Uid
next_uid t = record { node = t.node; inc = t.inc; num = length t.branches + 1 }

-- A nested action stands below its parent, a constituent below its serializing action; any other action is its own root.
abbrev pub path_in : Kind → Path → Uid → Path
path_in kind.Nested p u = path_of (uids_of p ++ u ∷ []) (tops_of p)
path_in kind.Constituent p u = path_of (uids_of p ++ u ∷ []) 2
path_in _ p u = path_of (u ∷ []) 1

-- the path of a new action: one that begins in no other is its own root
abbrev pub path_below : Kind → Option Branch → Uid → Path
path_below k None u = path_of (u ∷ []) 1
path_below k (Some b) u = path_in k b.path u

-- one more action in its root
abbrev pub counted : Path → Tree → Tree
counted p t = with_family (root_of p) (let f = family_of (root_of p) t in record f { actions = f.actions + 1 }) t

-- an action with this path is begun
abbrev pub begun_by : Kind → Path → Tree → Tree
begun_by k p t = counted p (record t { branches = t.branches ++ record { path = p; kind = k; ended = None; doomed = false } ∷ [] })

-- an action of this kind is begun
abbrev pub begun : Kind → Option Branch → Tree → Tree
begun k parent t = begun_by k (path_below k parent (next_uid t)) t

-- ---- ending

-- the ends of nested actions and constituents are listed at their root
abbrev pub listed_end : Uid → End → Path → Tree → Tree
listed_end u e p t =
    if nat_le (length (uids_of p)) 1 then t
    else with_family (root_of p) (let f = family_of (root_of p) t in record f { ends = f.ends ++ (u, e) ∷ [] }) t

-- the action, where it is there, ended so
abbrev pub ended_branch : Uid → End → Tree → Option Branch → Tree
ended_branch u e t None = t
ended_branch u e t (Some b) = listed_end u e b.path (record t { branches = set_place u.num (record b { ended = Some e }) t.branches })

-- the action ended so
abbrev pub ended_at : Uid → End → Tree → Tree
ended_at u e t = ended_branch u e t (branch_of u t)

-- the action, where it is there, can't commit any more
abbrev pub doomed_branch : Uid → Tree → Option Branch → Tree
doomed_branch u t None = t
doomed_branch u t (Some b) = record t { branches = set_place u.num (record b { doomed = true }) t.branches }

-- the action can't commit any more
abbrev pub doomed_at : Uid → Tree → Tree
doomed_at u t = doomed_branch u t (branch_of u t)

-- the root uses the object
abbrev pub uses_object : Path → ℕ → Tree → Tree
uses_object p x t = with_family (root_of p) (let f = family_of (root_of p) t in record f { objects = with_number x f.objects }) t

-- ---- questions

-- a descendant, and not the action itself
abbrev pub is_below : Uid → Branch → Bool
is_below u b = is_on (uids_of b.path) u && not (uid_eq (actor b.path) u)

-- an open descendant
abbrev pub is_open_below : Uid → Branch → Bool
is_open_below u b = is_below u b && not (is_some b.ended)

-- the Uids of a list of actions, the one begun last first, in front of those found
abbrev pub latest_first : List Branch → List Uid → List Uid
latest_first [] found = found
latest_first (b ∷ bs) found = latest_first bs (actor b.path ∷ found)

-- the open descendants of an action, the one begun last first
abbrev pub open_below : Uid → Tree → List Uid
open_below u t = latest_first (filter (is_open_below u) t.branches) []

-- the action that stands right above is this one
abbrev pub is_parent : Uid → Option Uid → Bool
is_parent u None = false
is_parent u (Some p) = uid_eq p u

-- an action that was begun in it is open
abbrev pub has_open_child : Uid → Tree → Bool
has_open_child u t = list_any (λ b. is_parent u (before_last (uids_of b.path)) && not (is_some b.ended)) t.branches

-- a nested action
abbrev pub is_nested : Kind → Bool
is_nested kind.Nested = true
is_nested _ = false

-- its path is as long as a path may be
abbrev pub is_too_deep : Branch → Bool
is_too_deep b = nat_le most_on_path (length (uids_of b.path))

-- its root has as many actions as it may
abbrev pub has_many_actions : Branch → Tree → Bool
has_many_actions b t = let f = family_of (root_of b.path) t in nat_le most_actions f.actions

-- the object would be one more than its root may use
abbrev pub has_many_objects : Branch → ℕ → Tree → Bool
has_many_objects b x t = let f = family_of (root_of b.path) t in not (has f.objects x) && nat_le most_objects (length f.objects)

-- the Uids of a path behind one of them
abbrev pub behind : Uid → List Uid → List Uid
behind u [] = []
behind u (w ∷ ws) = if uid_eq w u then ws else behind u ws

-- the actions on the path behind this one were all committed
abbrev pub is_merged : Uid → List Uid → Tree → Bool
is_merged u path t = not (list_any (λ w. not (is_committed w t)) (behind u path))

-- an action of the path was aborted
abbrev pub is_spent : List Uid → Tree → Bool
is_spent path t = list_any (λ w. is_aborted w t) path
