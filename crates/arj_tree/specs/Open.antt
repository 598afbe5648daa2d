-- The open actions among all, each with its number, and what is asked of them alone.
use Rattle.std.specs.Prelude.{ℕ, ◌+◌, Bool, not, ◌&&◌, if◌then◌else◌, List, [], ◌∷◌, ◌++◌, Option, Some, None, is_some}
use Rattle.std.specs.List.{list_any}
use Rattle.arj_protocol.specs.Ask.{actor}
use Rattle.arj_protocol.specs.Tree.{Branch, is_parent}
use Rattle.arj_protocol.specs.Words.{Uid, Path, uid_eq, uids_of, before_last, is_on}

-- open actions by number
abbrev pub Opens : Type 0
Opens = List (ℕ × Path)

-- the open ones of actions whose numbers begin with this one
abbrev pub opens : ℕ → List Branch → Opens
opens n [] = []
opens n (b ∷ bs) = if is_some b.ended then opens (n + 1) bs else (n, b.path) ∷ opens (n + 1) bs

-- the path of a descendant, and not of the action itself
abbrev pub is_path_below : Uid → Path → Bool
is_path_below u p = is_on (uids_of p) u && not (uid_eq (actor p) u)

-- the descendants, the one begun last first
abbrev pub below : Uid → Opens → List Uid
below u [] = []
below u (e ∷ es) = below u es ++ (if is_path_below u e.1 then actor e.1 ∷ [] else [])

-- the descendant begun last, else the one that was found before
abbrev pub latest : Uid → Option Uid → Opens → Option Uid
latest u found [] = found
latest u found (e ∷ es) = latest u (if is_path_below u e.1 then Some (actor e.1) else found) es

-- one of them was begun in this action
abbrev pub has_child : Uid → Opens → Bool
has_child u es = list_any (λ (e : ℕ × Path). is_parent u (before_last (uids_of e.1))) es

-- the first of a list
abbrev pub first_in : List Uid → Option Uid
first_in [] = None
first_in (u ∷ us) = Some u
