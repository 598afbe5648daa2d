-- A server that is told of ends, in the machine of one object.
use Rattle.std.specs.Prelude.{◌≡◌, ◌≢◌, ℕ, Bool, true, false, List, [], Some, Contains}
use Rattle.arj_protocol.specs.Words.{End, Kind, Uid, is_on}
use Rattle.arj_protocol.specs.Words.ending
use Rattle.arj_protocol.specs.Words.kind
use Rattle.arj_protocol.specs.Copy.{Copy, Over}
use Rattle.arj_protocol.specs.Order.{at_number}
use Rattle.arj_protocol.specs.Server.{Server, is_told, told}
use Rattle.arj_law_lock.specs.machine.Actions.{In, Root, is_top, on, root, top}
use Rattle.arj_law_lock.specs.machine.Machine.{Run}
use Rattle.arj_law_lock.specs.machine.State.{Call, State}
use Rattle.arj_law_lock.specs.machine.Steps.{Survives}
use Rattle.arj_law_parts.specs.parts.Actions.{Action, Agree, AreBegun, act_of}
use Rattle.arj_law_parts.specs.parts.Copies.{IsTree, Paths}
use Rattle.arj_law_parts.specs.parts.Servers.{AreOrdered, IsGoodServer, KnowsActions}
use Rattle.arj_law_lock_view.specs.view.Actions.{AreAlike, IsPlaced}
use Rattle.arj_law_lock_view.specs.view.Acts.{Acts}
use Rattle.arj_law_lock_view.specs.view.Calling.{IsReached}
use Rattle.arj_law_lock_view.specs.view.Copies.{Codes, MayUndo, OnlyEnds}
use Rattle.arj_law_lock_view.specs.view.Going.{Goes}
use Rattle.arj_law_lock_view.specs.view.Servers.{SeesServer, Wants}

-- ---- what is known beside the machine

-- The actions of a run: who was begun, and the path of each in the protocol and in the machine.
pub record Family : Type 0 where
  pub begun : List Action
  pub paths : Paths
  pub act : Acts

-- They make a tree, in which each has its path; the machine has the same tree, and places each action by its kind.
pub record AreOneTree (g : Family) : Type 0 where
  pub tree : IsTree g.paths
  pub alike : AreAlike g.act g.paths
  pub begun : AreBegun g.begun
  pub agree : Agree g.begun g.paths
  pub placed : (a : Action) → Contains g.begun a → IsPlaced (g.act (act_of a)) a.kind

-- A server is good and knows these actions, and each copy that it lists is found by its object's number.
pub record IsOfFamily (g : Family) (s : Server) : Type 0 where
  pub good : IsGoodServer g.paths s
  pub knows : KnowsActions g.begun s
  pub listed : (y : ℕ) (c : Copy) → Contains {X = ℕ × Copy} s.objects (y, c) → at_number y s.objects ≡ Some c

-- What a run fixes of one object and one server: the actions, what stands for values, what requests want, the object's number
-- and the node's.
pub record View : Type 0 where
  pub family : Family
  pub code : Codes
  pub wants : Wants
  pub x : ℕ
  pub node : ℕ

-- the server, as the machine of the object has it
abbrev pub Sees : View → Server → State → Type 0
Sees v s S = SeesServer v.family.act v.code v.wants v.x v.node s S

-- ---- what ends show

-- an action of this kind is a unit of its own
abbrev pub is_plain : Kind → Bool
is_plain kind.Top = true
is_plain kind.Independent = true
is_plain _ = false

-- The action was begun, isn't serializing, and is committed in the machine; where it is a unit of its own that is over.
pub record IsCommittedSo (g : Family) (u : Uid) (S : State) : Type 0 where
  pub action : Action
  pub begun : Contains g.begun action
  pub of : act_of action ≡ u
  pub unserial : action.kind ≢ kind.Serial
  pub committed : (let a = S.action (g.act u) in a.stage) ≡ 3
  pub over : is_plain action.kind ≡ true → (let a = S.action (Root (root (g.act u))) in a.stage) ≡ 3

-- An end that comes to the server: of an abort the machine may drop the rows there, a commit stands.
abbrev pub ShowsEnd : View → State → Uid → End → Type 0
ShowsEnd v S u ending.Abort = MayUndo v.node (v.family.act u) S
ShowsEnd v S u ending.Commit = IsCommittedSo v.family u S

-- so it is with each end of the list that is new to the server
abbrev pub ShowEnds : View → Server → State → List (Uid × End) → Type 0
ShowEnds v s S ends = (u : Uid) (e : End) → Contains {X = Uid × End} ends (u, e) → is_told u s ≡ false → ShowsEnd v S u e

-- Ends come to the server in the order of a coordinator, and are shown.
pub record AreBrought (v : View) (ends : List (Uid × End)) (s : Server) (S : State) : Type 0 where
  pub whole : AreOneTree v.family
  pub server : IsOfFamily v.family s
  pub ordered : AreOrdered (let g = v.family in g.begun) [] ends
  pub shown : ShowEnds v s S ends

-- ---- what the server does with them

-- A server is told of ends: of each that is new the rows and writes that its action has here go, pass, or become the copy's own value.
abbrev pub EndsAreTaken : Type 0
EndsAreTaken = (v : View) (ends : List (Uid × End)) (s : Server) (S : State)
    → AreBrought v ends s S → Sees v s S → Goes S (λ T. Sees v (let d = told v.node ends s in d.part) T × OnlyEnds v.node S T)

-- ---- which ends are shown

-- The action has this end in the machine.
abbrev pub HasEnded : View → State → Uid → End → Type 0
HasEnded v S u ending.Abort = (let a = S.action (v.family.act u) in a.stage) ≡ 4
HasEnded v S u ending.Commit = IsCommittedSo v.family u S

-- It has it for ever.
abbrev pub EndedStay : Type 0
EndedStay = (v : View) (u : Uid) (e : End) (S T : State) → IsReached S → Run S T → HasEnded v S u e → HasEnded v T u e

-- An end is shown that the action has. An abort is shown, besides,
abbrev pub EndedAreShown : Type 0
EndedAreShown = (v : View) (u : Uid) (e : End) (S : State) → HasEnded v S u e → ShowsEnd v S u e

-- where a top is committed for which the server didn't vote,
abbrev pub UnvotedAreShown : Type 0
UnvotedAreShown = (v : View) (u : Uid) (s : Server) (S : State) → Sees v s S → is_told u s ≡ false → is_on s.voted u ≡ false →
    is_top (v.family.act u) ≡ true → (let a = S.action (v.family.act u) in a.stage) ≡ 3 → ShowsEnd v S u ending.Abort

-- an overlay below the action, with no aborted action between
abbrev pub IsOfLiving : View → Uid → State → Over → Type 0
IsOfLiving v u S o = (is_on o.holder u ≡ true) ×
    ((w : Uid) → is_on o.holder w ≡ true → on (v.family.act w) (v.family.act u) ≡ true → (let a = S.action (v.family.act w) in a.stage) ≢ 4)

-- No committed top of the action's unit that has a surviving write, and for which the server voted, has an overlay here below the action,
-- nor has an action below it, but what is below an aborted one.
abbrev pub HasNoneLeft : View → Uid → Server → State → Type 0
HasNoneLeft v u s S = (t : Uid) (k : Call) (c : Copy) (o : Over) → root (v.family.act t) ≡ root (v.family.act u) →
    (let a = S.action (v.family.act t) in a.stage) ≡ 3 → In k S.calls → k.write ≡ true → Survives S k.act → top k.act ≡ v.family.act t
    → (let m = S.server v.node in m.voted (v.family.act t)) ≡ true → at_number v.x s.objects ≡ Some c → Contains c.stack o →
    IsOfLiving v u S o → is_on o.holder t ≡ false

-- and where the unit is over, and nothing of it is left here that counts.
abbrev pub OverAreShown : Type 0
OverAreShown = (v : View) (u : Uid) (s : Server) (S : State) → IsReached S → AreOneTree v.family → IsOfFamily v.family s → Sees v s S →
    (let a = S.action (Root (root (v.family.act u))) in a.stage) ≡ 3 → HasNoneLeft v u s S → ShowsEnd v S u ending.Abort
