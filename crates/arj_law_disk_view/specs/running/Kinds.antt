-- Of what kind each action is, by those that were begun.
use Rattle.std.specs.Prelude.{◌≡◌, ◌⊎◌, ℕ, Bool, true, false, ◌&&◌, ◌==◌, if◌then◌else◌, List, [], ◌∷◌, None, Some, Contains}
use Rattle.std.specs.List.{list_any}
use Rattle.arj_protocol.specs.Words.{Uid, Ask, Head, Kind, Message, Path, asks, uid_eq, uids_of, is_on}
use Rattle.arj_protocol.specs.Words.kind
use Rattle.arj_protocol.specs.Ask.{top_of, top_path}
use Rattle.arj_protocol.specs.Order.{uid_number}
use Rattle.arj_protocol.specs.Tree.{root_of}
use Rattle.arj_law_parts.specs.parts.Actions.{Action, act_of}
use Rattle.arj_law_disk_view.specs.view.Knows.{KnowsKinds, IsOfKind}
use Rattle.arj_law_disk_view.specs.view.Sees.{Kinds}
use Rattle.arj_start.specs.Kinds.{is_serial}

-- tops, constituents among them
abbrev pub is_top_kind : Kind → Bool
is_top_kind kind.Nested = false
is_top_kind kind.Serial = false
is_top_kind _ = true

-- an action with this number was begun, of such a kind
abbrev pub is_of_kind : (Kind → Bool) → List Action → ℕ → Bool
is_of_kind f acts z = list_any (λ (a : Action). (uid_number (act_of a) == z) && f a.kind) acts

-- the number of an action's root: a top's begins its path, any other action is its own
abbrev pub root_number : Action → ℕ
root_number a = if is_top_kind a.kind then uid_number (root_of a.path) else uid_number (act_of a)

-- the root of the action with this number; who wasn't begun is its own
abbrev pub root_in : List Action → ℕ → ℕ
root_in [] z = z
root_in (a ∷ acts) z = if uid_number (act_of a) == z then root_number a else root_in acts z

-- the kinds of the actions that were begun; any other is nested; and no walk is followed
abbrev pub kinds_of : List Action → Kinds
kinds_of acts = record { is_top = is_of_kind is_top_kind acts; is_serial = is_of_kind is_serial acts; root = root_in acts; walk = None }

-- These kinds are those of the actions that were begun so far, whatever those of others are; no walk is followed.
pub record Agrees (tops : Kinds) (acts : List Action) : Type 0 where
  pub kinds : KnowsKinds tops
  pub unwalked : tops.walk ≡ None
  pub each : (a : Action) → Contains acts a → IsOfKind tops (act_of a) a.kind a.path
      × (tops.is_top (uid_number (act_of a)) ≡ true → tops.root (uid_number (act_of a)) ≡ uid_number (root_of a.path))

-- A path is of a top: of one that is its own root, or behind its root, which is a serializing action.
pub record IsOfTops (tops : Kinds) (p : Path) : Type 0 where
  pub top : tops.is_top (uid_number (top_of p)) ≡ true
  pub path : ((top_path p ≡ top_of p ∷ []) × (tops.root (uid_number (top_of p)) ≡ uid_number (top_of p)))
      ⊎ ((w : Uid) × (top_path p ≡ w ∷ top_of p ∷ []) × (tops.root (uid_number (top_of p)) ≡ uid_number w) × (uid_eq w (top_of p) ≡ false)
      × (tops.is_serial (uid_number w) ≡ true))

-- so is that of each request
abbrev pub AreOfTops : Kinds → Message → Type 0
AreOfTops tops m = (h : Head) (a : Ask) → asks m ≡ Some (h, a) → IsOfTops tops h.path

-- each action's path is of its own node and incarnation
abbrev pub AreOfOneNode : List Action → Type 0
AreOfOneNode acts = (a : Action) (w : Uid) → Contains acts a → is_on (uids_of a.path) w ≡ true →
    (w.node ≡ (act_of a).node) × (w.inc ≡ (act_of a).inc)
