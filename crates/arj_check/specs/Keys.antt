-- Items by the numbers of actions.
use Rattle.std.specs.Prelude.{ℕ, List, [], ◌∷◌, ◌++◌, Bool, ◌&&◌, ◌||◌, if◌then◌else◌, Option, Some, None, slice_get, slice_index_or, ◌≡◌}
use Rattle.std.specs.Prelude.{◌≢◌, ◌==◌, false}
use Rattle.std.specs.List.{list_all, list_any}
use Rattle.std.specs.Option.{unwrap_or}
use Rattle.arj_base.specs.Uid.{uid_eq}
use Rattle.arj_base.specs.declared.uid.Uid.{Uid}
use Rattle.arj_model.specs.Actions.{Act, Placed, chain_in, has_end, is_committed, top_in}
use Rattle.arj_model.specs.Calls.{Call, Top, top_of}
use Rattle.arj_model.specs.Serial.{serial_key}
use Rattle.arj_reading.specs.declared.action.TopAction.{TopAction}
use Rattle.arj_replay.specs.Orders.{commits_in}
use Rattle.arj_check.specs.declared.called.CalledTop.{CalledTop}

-- a top's root, as an item of the top's number
abbrev pub root_item : Top → Placed ℕ
root_item t = record { at = t.root; it = t.id }

-- the place at which its commit was called
abbrev pub place_item : Top → Placed ℕ
place_item t = record { at = t.at; it = t.id }

-- the path of the action of this number, none where there is no such action
abbrev pub path_at : List (List Act) → ℕ → List Act
path_at ps i = unwrap_or (slice_get ps i) []

-- the committed top whose commit was called at a mark
abbrev pub top_at : List (Placed ℕ) → List (Placed Uid) → List (List Act) → Placed ℕ → Option Top
top_at ends found ps m = top_of ends found (record { at = m.at; it = path_at ps m.it })

-- the key of a call by an action with this path, where the call survives and its top is committed; `key` says what the key
-- is of the path, the top and the place
abbrev pub key_below : (List Act → Act → ℕ → List ℕ) → List (Placed ℕ) → List (Placed Uid) → List Act → ℕ → Option Act → Option (List ℕ)
key_below key ends found p at None = None
key_below key ends found p at (Some top) =
    if list_all (λ a. has_end ends a.id) (chain_in p) && is_committed ends found top then Some (key p top at) else None

-- the key of a call that was answered at a mark
abbrev pub key_at : (List Act → Act → ℕ → List ℕ) → List (Placed ℕ) → List (Placed Uid) → List (List Act) → Placed ℕ → Option (List ℕ)
key_at key ends found ps m = key_below key ends found (path_at ps m.it) m.at (top_in (path_at ps m.it))

-- the key of a call: the place of its unit, that of its top, what `below` says of its path, and its own
abbrev pub key_of : List Top → (List Act → List ℕ) → List Act → Act → ℕ → List ℕ
key_of ts below p top at = serial_key ts top.id ++ (below p ++ at ∷ [])

-- in serial order nothing stands between
abbrev pub nothing_below : List Act → List ℕ
nothing_below p = []

-- the key in serial order
abbrev pub serial_of : List Top → List Act → Act → ℕ → List ℕ
serial_of ts = key_of ts nothing_below

-- the key in nested order
abbrev pub nested_of : List Top → List (Placed ℕ) → List Act → Act → ℕ → List ℕ
nested_of ts ends = key_of ts (commits_in ends)

-- the numbers at a place, none where there is no place
abbrev pub numbers_at : List (List ℕ) → Option ℕ → List ℕ
numbers_at keys None = []
numbers_at keys (Some at) = slice_index_or keys at []

-- The numbers are kept of each path, or of none where nothing stands below.
pub record AreBelow (ps : List (List Act)) (below : List Act → List ℕ) (keys : List (List ℕ)) : Type 0 where
  pub at : (i : ℕ) (p : List Act) → slice_get ps i ≡ Some p → numbers_at keys (Some i) ≡ below p

-- two calls of different tops have different keys
abbrev pub HaveOwnKeys : List Top → Call → Call → Type 0
HaveOwnKeys ts c d = (c.top == d.top) ≡ false → serial_key ts c.top ≢ serial_key ts d.top

-- a top that is there, as a list
abbrev pub one_or_none : Option Top → List Top
one_or_none None = []
one_or_none (Some t) = t ∷ []

-- a top is committed, by what is kept of it
abbrev pub is_committed_top : List (Placed ℕ) → List (Placed Uid) → TopAction → Bool
is_committed_top ends found top = has_end ends top.number || list_any (λ u. uid_eq u.it top.uid) found

-- a called commit, as a top
abbrev pub top_called : CalledTop → Top
top_called t = record { id = t.number; root = t.root; at = t.at }
