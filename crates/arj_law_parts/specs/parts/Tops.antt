-- What the laws take as known of actions: who owns whom. An action's owner is its root: a serializing action owns its
-- constituents, and every other root is its own owner.
use Rattle.std.specs.Prelude.{◌≡◌, ◌⊎◌, List, [], ◌∷◌, Bool, true, false, ◌||◌}
use Rattle.arj_base.specs.declared.uid.Uid.{Uid}
use Rattle.arj_base.specs.declared.path.Path.{Path}
use Rattle.arj_base.specs.Rows.{last_uid, is_on}
use Rattle.arj_base.specs.Uid.{uid_eq}
use Rattle.arj_protocol.specs.Ask.{top_path, top_of}

-- whose naming locks an action's are: that of its serializing action, or its own
abbrev pub Owners : Type 0
Owners = Uid → Uid

-- the second is the first, or owns it
abbrev pub stands_above : Owners → Uid → Uid → Bool
stands_above owner a b = uid_eq b a || uid_eq b (owner a)

-- a top owns no other action
abbrev pub IsTop : Owners → Uid → Type 0
IsTop owner t = (u : Uid) → owner u ≡ t → u ≡ t

-- the holder of a lock on an entry: an action alone, or behind its owner, which is another one
abbrev pub IsHolder : Owners → List Uid → Type 0
IsHolder owner us =
    (us ≡ last_uid us ∷ []) ⊎ ((us ≡ owner (last_uid us) ∷ last_uid us ∷ []) × (uid_eq (owner (last_uid us)) (last_uid us) ≡ false))

-- A request is of a top, and its path has the top's owner. `begun_actions_make_a_tree` shows it of each action that isn't
-- serializing, and `coordinators_send_what_fits` that requests are by such paths alone.
pub record Fits (owner : Owners) (p : Path) : Type 0 where
  pub holder : IsHolder owner (top_path p)
  pub top : IsTop owner (top_of p)
  pub owned : is_on (top_path p) (owner (top_of p)) ≡ true
