-- Which stores coordinators ask for the state of an object: those that its entry lists, while the binding for which they ask is current.
use Rattle.std.specs.Prelude.{◌≡◌, ◌+◌, ◌*◌, ◌≤◌, ◌<◌, ℕ, true, false, List, ◌∷◌, Option, None, Some}
use Rattle.arj_protocol.specs.Words.{Op, Uid, object}
use Rattle.arj_protocol.specs.Ask.{top_of}
use Rattle.arj_protocol.specs.Call.{AtLoad, Known, Run, Steps}
use Rattle.arj_protocol.specs.Coord.{Calling, Doing, doing_of}
use Rattle.arj_protocol.specs.Effect.{Disk, holder_of}
use Rattle.arj_protocol.specs.Named.{Made, Named}
use Rattle.arj_protocol.specs.Naming.{Naming, listed_entry}
use Rattle.arj_protocol.specs.Node.{Parts}
use Rattle.arj_protocol.specs.Order.{at_number, at_uid, binding_number, has, uid_number}
use Rattle.arj_protocol.specs.Step.{Node}
use Rattle.arj_law_disk.specs.machine.Names.{Office}
use Rattle.arj_law_disk.specs.machine.NamingLaws.{HoldsWrite}
use Rattle.arj_law_disk.specs.machine.State.{Packed, State, is_gone, is_idle}
use Rattle.arj_law_disk.specs.machine.Words as list
use Rattle.arj_promise.specs.Runs.{Seen}
use Rattle.arj_law_disk_view.specs.view.Sees.{Kinds}
use Rattle.arj_law_lock_view.specs.records.Claims.{AreAnswered}
use Rattle.arj_law_lock_view.specs.records.Tests.{Tests}
use Rattle.arj_law_disk_view.specs.running.Runs.{AgreesOn, HasState}

-- A binding is current for a top at naming: it is the one that was made last for it, and isn't recorded yet, while the top works and its
-- coordinator has the top's root.
pub record IsCurrent (x : ℕ) (tops : Kinds) (S : State) (n : Naming) (top : Uid) (number : ℕ) : Type 0 where
  pub object : Named
  pub made : Made
  pub there : at_number x n.objects ≡ Some object
  pub of : at_uid top object.made ≡ Some made
  pub unrecorded : made.recorded ≡ false
  pub same : binding_number made.binding ≡ number
  pub is_top : tops.is_top (uid_number top) ≡ true
  pub works : is_idle (S.stage (uid_number top)) ≡ true
  pub rooted : is_gone (S.stage (S.root (uid_number top))) ≡ false

-- Of what entries list these tests pass for each store that the object's entry lists while the binding is current, if it was given so far,
-- and for all else that was; while naming is down, for all that was given.
abbrev pub PassesListed : ℕ → Kinds → State → Tests → Disk → Option Parts → Type 0
PassesListed x tops S T d None = (y v s : ℕ) → v < (d.inc + 1) * 4294967296 → T.listed y v s ≡ true
PassesListed x tops S T d (Some t) = (n : Naming) → t.naming ≡ Some n → (y v s : ℕ) →
    v ≤ binding_number (record { inc = n.inc; count = n.count })
    → (y ≡ x → (u : Uid) → IsCurrent x tops S n u v → has (let e = listed_entry x d.names in e.stores) s ≡ true) → T.listed y v s ≡ true

-- so it is at node 1, up or down
abbrev pub PassesLists : ℕ → Kinds → State → Tests → Seen → Type 0
PassesLists x tops S T M = (n : Node) → M.nodes 1 ≡ Some n → PassesListed x tops S T n.disk n.live

-- of all else they pass whatever it is
pub record TellsLists (T : Tests) : Type 0 where
  pub made : (v : ℕ) → T.made v ≡ true
  pub past : (x v : ℕ) → T.past x v ≡ true
  pub asked : (x : ℕ) (u : Uid) (i : ℕ) → T.asked x u i ≡ true
  pub low : (i : ℕ) → T.low i ≡ true

-- By such tests naming's answers claim what passes: a binding that is current was given with stores that the entry lists still.
abbrev pub AnswersList : ℕ → Kinds → Office → Seen → Type 0
AnswersList x tops A M = (T : Tests) → TellsLists T → PassesLists x tops A.world.disk T M → AreAnswered T M.sent

-- A call waits to load the object, for a binding that naming made last for its top and didn't record yet; the store that it asks and those
-- that are left.
pub record IsLoading (x : ℕ) (M : Seen) : Type 0 where
  pub place : ℕ
  pub node : Node
  pub parts : Parts
  pub up : M.nodes place ≡ Some node
  pub live : node.live ≡ Some parts
  pub actor : Uid
  pub doing : Doing
  pub steps : Steps
  pub does : doing_of actor parts.coord ≡ Some doing
  pub now : doing.now ≡ Calling steps
  pub of : steps.x ≡ x
  pub op : Op
  pub goal : steps.goal ≡ Run op
  pub known : Known
  pub store : ℕ
  pub rest : List ℕ
  pub waits : steps.at ≡ AtLoad known store rest
  pub first : Node
  pub names : Parts
  pub naming : Naming
  pub there : M.nodes 1 ≡ Some first
  pub first_live : first.live ≡ Some names
  pub named : names.naming ≡ Some naming
  pub object : Named
  pub made : Made
  pub found : at_number x naming.objects ≡ Some object
  pub last : at_uid (top_of steps.path) object.made ≡ Some made
  pub unrecorded : made.recorded ≡ false
  pub same : binding_number made.binding ≡ binding_number known.binding

-- its top has the write lock of the entry, which lists each store that it asks and those that are left
pub record LoadsListed (x : ℕ) (A : Office) (M : Seen) (l : IsLoading x M) : Type 0 where
  pub holds : HoldsWrite A (uid_number (top_of (let s = l.steps in s.path)))
  pub listed : (s : ℕ) → has (l.store ∷ l.rest) s ≡ true → list.has s A.world.disk.entry.content ≡ true

-- Copies agree, and each store that such a call asks holds what they agree on, where the object isn't in doubt there.
abbrev pub LoadsAgree : ℕ → Seen → Type 0
LoadsAgree x M = (last : Packed) × AgreesOn x last M × ((l : IsLoading x M) (s : ℕ) (m : Node) → has (l.store ∷ l.rest) s ≡ true →
    M.nodes s ≡ Some m → holder_of (object x) m.disk.store ≡ None → HasState x last m)
