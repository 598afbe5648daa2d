-- The actions that were begun, by all nodes, and the tree that they make.
use Rattle.std.specs.Prelude.{◌≡◌, ◌≢◌, ◌⊎◌, ◌≤◌, ◌<◌, ℕ, List, [], ◌∷◌, ◌++◌, length, true, false, if◌then◌else◌, Option, Some, None}
use Rattle.std.specs.Prelude.{Contains, ⊤}
use Rattle.arj_protocol.specs.Words.{Uid, Path, Kind, uid_eq, uids_of, tops_of, is_on}
use Rattle.arj_protocol.specs.Words.kind
use Rattle.arj_protocol.specs.Ask.{actor}
use Rattle.arj_protocol.specs.Tree.{Branch, root_of}
use Rattle.arj_law_parts.specs.parts.Copies.{Paths}
use Rattle.arj_law_parts.specs.parts.Tops.{Owners}

-- an action as it began: where it stands, and its kind
pub record Action : Type 0 where
  pub path : Path
  pub kind : Kind

-- the action's own Uid
abbrev pub act_of : Action → Uid
act_of a = actor a.path

-- the action of a branch of a coordinator's tree
abbrev pub action_of : Branch → Action
action_of b = record { path = b.path; kind = b.kind }

-- the path of each action, where the newest one comes first; who wasn't begun stands alone
abbrev pub paths_of : List Action → Paths
paths_of [] u = u ∷ []
paths_of (a ∷ acts) u = if uid_eq (act_of a) u then uids_of a.path else paths_of acts u

-- a serializing action owns its constituents
abbrev pub owner_in : Action → Kind → Uid
owner_in a kind.Constituent = root_of a.path
owner_in a _ = act_of a

-- the owner of each action; every other one is its own
abbrev pub owners_of : List Action → Owners
owners_of [] u = u
owners_of (a ∷ acts) u = if uid_eq (act_of a) u then owner_in a a.kind else owners_of acts u

-- no path has the Uid
abbrev pub IsNew : Uid → List Action → Type 0
IsNew u acts = (a : Action) → Contains acts a → is_on (uids_of a.path) u ≡ false

-- Where an action of this kind stands: a nested one in an action that isn't serializing, with that one's top; a
-- constituent in a serializing one, as its own top; any other alone.
abbrev pub Stands : List Action → Action → Kind → Type 0
Stands acts a kind.Nested = (b : Action) × Contains acts b × (b.kind ≢ kind.Serial) × (uids_of a.path ≡ uids_of b.path ++ act_of a ∷ [])
    × (tops_of a.path ≡ tops_of b.path)
Stands acts a kind.Constituent =
    (b : Action) × Contains acts b × (b.kind ≡ kind.Serial) × (uids_of a.path ≡ uids_of b.path ++ act_of a ∷ []) × (tops_of a.path ≡ 2)
Stands acts a _ = (uids_of a.path ≡ act_of a ∷ []) × (tops_of a.path ≡ 1)

-- the action begins after these, with a new Uid
pub record Begins (a : Action) (acts : List Action) : Type 0 where
  pub new : IsNew (act_of a) acts
  pub stands : Stands acts a a.kind

-- they began one after another, the newest one first
abbrev pub AreBegun : List Action → Type 0
AreBegun [] = ⊤
AreBegun (a ∷ acts) = Begins a acts × AreBegun acts

-- The paths are those of the actions that were begun so far, whatever those of others are.
abbrev pub Agree : List Action → Paths → Type 0
Agree acts paths = (a : Action) → Contains acts a → paths (act_of a) ≡ uids_of a.path

-- The Uid isn't of this node, or is of an earlier incarnation, or of this one and counted.
abbrev pub IsCounted : ℕ → ℕ → ℕ → Uid → Type 0
IsCounted node inc count u = u.node ≡ node → (u.inc < inc) ⊎ ((u.inc ≡ inc) × (u.num ≤ count))

-- the Uids on the paths are counted
abbrev pub AreCounted : ℕ → ℕ → ℕ → List Action → Type 0
AreCounted node inc count acts = (a : Action) (u : Uid) → Contains acts a → is_on (uids_of a.path) u ≡ true → IsCounted node inc count u

-- An action of this kind may begin in this branch: a nested one in one that isn't serializing and whose path isn't the
-- longest, a constituent in a serializing one. A world gives kinds so, and a node refuses the rest.
abbrev pub MayBegin : List Action → Kind → Option Branch → Type 0
MayBegin acts kind.Nested None = ⊥
MayBegin acts kind.Nested (Some b) = Contains acts (action_of b) × (b.kind ≢ kind.Serial) × (length (uids_of b.path) < 16)
MayBegin acts kind.Constituent None = ⊥
MayBegin acts kind.Constituent (Some b) = Contains acts (action_of b) × (b.kind ≡ kind.Serial)
MayBegin acts _ parent = ⊤
