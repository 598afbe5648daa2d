-- Who has anything at naming: no nested action.
use Rattle.std.specs.Prelude.{⊤, ◌≡◌, ◌≢◌, ℕ, List, Some, Contains}
use Rattle.std.specs.List.{AllByRecursion}
use Rattle.arj_protocol.specs.Words.{Header, ObjectState, Row, Uid, is_on}
use Rattle.arj_protocol.specs.Words.kind
use Rattle.arj_protocol.specs.Words.role
use Rattle.arj_protocol.specs.Effect.{Do, Effect, Pair, Prepare}
use Rattle.arj_protocol.specs.Named.{Made, Named}
use Rattle.arj_protocol.specs.Naming.{Naming}
use Rattle.arj_protocol.specs.Node.{Parts}
use Rattle.arj_protocol.specs.Order.{at_number}
use Rattle.arj_protocol.specs.Step.{Node}
use Rattle.arj_law_parts.specs.parts.Actions.{Action, act_of, owners_of}
use Rattle.arj_law_parts.specs.parts.Messages.{IsTopAction}
use Rattle.arj_law_parts.specs.parts.Objects.{IsGoodObject}
use Rattle.arj_law_runs.specs.addresses.Addresses.{IsEntry}
use Rattle.arj_law_runs.specs.kept.Worlds.{IsGoodOf}
use Rattle.arj_law_parts.specs.moves.Keeps.{Keeps}
use Rattle.arj_promise.specs.Runs.{Seen}
use Rattle.arj_law_lock_view.specs.view.Namings.{HasNothingAt, IsGoodAt}
use Rattle.arj_law_lock_view.specs.view.Telling.{View}

-- a top: it was begun, and is neither a nested nor a serializing action
abbrev pub IsTopOf : List Action → Uid → Type 0
IsTopOf acts u = (a : Action) × Contains acts a × (act_of a ≡ u) × (a.kind ≢ kind.Nested) × (a.kind ≢ kind.Serial)

-- each of them was begun, and is no nested action
abbrev pub AreUpper : List Action → List Uid → Type 0
AreUpper acts us = AllByRecursion (IsTopAction acts) us

-- so is each holder's path in a table
abbrev pub HaveUpper : List Action → List Row → Type 0
HaveUpper acts rows = (r : Row) → Contains rows r → AreUpper acts r.holder

-- naming: whom it confirmed, and who holds locks on entries
pub record HoldsUppers (acts : List Action) (n : Naming) : Type 0 where
  pub confirmed : AllByRecursion (IsTopOf acts) n.confirmed
  pub rows : AllByRecursion (λ (e : ℕ × Named). HaveUpper acts (let o = e.1 in o.rows)) n.objects

-- a state of an entry
abbrev pub AreOfEntries : List ObjectState → Type 0
AreOfEntries states = AllByRecursion (λ (s : ObjectState). IsEntry s.uid) states

-- The entries on a disk: tops have entries prepared, and entries are held, each under its name.
pub record HavePrepared (acts : List Action) (d : Pair) : Type 0 where
  pub pend : AllByRecursion (λ (e : Uid × List ObjectState). IsTopOf acts e.0 × AreOfEntries e.1) d.pend
  pub held : AllByRecursion (λ (e : Uid × ObjectState). IsEntry e.0 × ⊤) d.held

-- a node: its entries on the disk, and naming while it is up, of which this holds
pub record IsUpperNode (N : List Action → Naming → Type 0) (acts : List Action) (n : Node) : Type 0 where
  pub names : HavePrepared acts (let d = n.disk in d.names)
  pub live : (t : Parts) (o : Naming) → n.live ≡ Some t → t.naming ≡ Some o → N acts o

-- so it is at each node
abbrev pub AreUppersOf : (List Action → Naming → Type 0) → List Action → Seen → Type 0
AreUppersOf N acts M = (k : ℕ) (n : Node) → M.nodes k ≡ Some n → IsUpperNode N acts n

-- of naming that holds what it made
abbrev pub AreUppers : List Action → Seen → Type 0
AreUppers acts M = AreUppersOf HoldsUppers acts M

-- who prepares entries is a top
abbrev pub PreparesUpper : List Action → Effect → Type 0
PreparesUpper acts (Do (Prepare role.Names u states)) = IsTopOf acts u × AreOfEntries states
PreparesUpper acts e = ⊤

-- At naming of a node that is up a nested action has nothing.
abbrev pub NestedHaveNothing : Type 0
NestedHaveNothing = (acts : List Action) (k : ℕ) (n : Node) (t : Parts) (o : Naming) (M : Seen) → IsGoodOf acts M → AreUppers acts M →
    M.nodes k ≡ Some n → n.live ≡ Some t → t.naming ≡ Some o
    → (x : ℕ) (q : Named) (a : Action) → at_number x o.objects ≡ Some q → Contains acts a → a.kind ≡ kind.Nested →
    HasNothingAt o q (act_of a)

-- ---- objects at naming

-- the tops for which bindings were made, and those that asked the entry's lock by an include
pub record AsTops (acts : List Action) (o : Named) : Type 0 where
  pub made : AllByRecursion (λ (e : Uid × Made). IsTopOf acts e.0 × ⊤) o.made
  pub asked : AllByRecursion (IsTopOf acts) o.asked

-- naming: besides, each object is good
pub record HoldsObjects (acts : List Action) (n : Naming) : Type 0 where
  pub uppers : HoldsUppers acts n
  pub tops : AllByRecursion (λ (e : ℕ × Named). AsTops acts e.1) n.objects
  pub objects : (x : ℕ) (o : Named) → at_number x n.objects ≡ Some o → IsGoodObject (owners_of acts) (is_on n.told) n.inc n.count x o

-- So it is at each node, for the actions that were begun.
abbrev pub ObjectsAreHeld : Seen → Type 0
ObjectsAreHeld M = (acts : List Action) × IsGoodOf acts M × AreUppersOf HoldsObjects acts M

-- each handler keeps it
abbrev pub HandlersKeepObjects : Type 0
HandlersKeepObjects = (hd : Header) → Keeps hd ObjectsAreHeld

-- At naming of a node that is up each object is good, in the words of the machine's view.
abbrev pub ObjectsAreGood : Type 0
ObjectsAreGood = (v : View) (acts : List Action) (k : ℕ) (n : Node) (t : Parts) (o : Naming) (M : Seen) → AreUppersOf HoldsObjects acts M →
    M.nodes k ≡ Some n → n.live ≡ Some t → t.naming ≡ Some o → IsGoodAt v (owners_of acts) o
