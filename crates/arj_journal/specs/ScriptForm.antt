-- Which headers and events of a script are in form: each number within its limits.
use Rattle.std.specs.Prelude.{◌≡◌, ℕ, List, [], ◌∷◌, ⊤, Bool, true, ◌&&◌, nat_lt}
use Rattle.std.specs.List.{AllByRecursion}
use Rattle.arj_base.specs.declared.state.Format.{Format}
use Rattle.arj_class.specs.Forms.{FormatHolds}
use Rattle.arj_journal.specs.declared.event.Event.{Event}
use Rattle.arj_journal.specs.declared.event.Event.TheVariants as event
use Rattle.arj_journal.specs.declared.event.FrameNo.{FrameNo}
use Rattle.arj_journal.specs.declared.event.FrameNo.TheVariants as frame_no
use Rattle.arj_journal.specs.declared.event.StopKind.{StopKind}
use Rattle.arj_journal.specs.declared.event.StopKind.TheVariants as stop_kind
use Rattle.arj_journal.specs.declared.header.Header.{Header}
use Rattle.arj_journal.specs.declared.header.ObjectLine.{ObjectLine}
use Rattle.arj_journal.specs.declared.limits.TheConstants.{NODES, OBJECTS, SERVERS, STOP_CALLS, STORES}
use Rattle.arj_text.specs.Fields.{AreBytes, IsWithin, NodesInForm, OpTextInForm, ShortInForm, ValueTextInForm, WordInForm}
use Rattle.arj_text.specs.Label.{LabelInForm}

-- the object's number, value, servers and stores are in form, among that many nodes
pub record ObjectLineInForm (nodes : ℕ) (o : ObjectLine) : Type 0 where
  pub number : IsWithin 1 OBJECTS o.x
  pub value : ValueTextInForm o.value
  pub servers : NodesInForm nodes SERVERS o.servers
  pub stores : NodesInForm nodes STORES o.stores

-- objects by strictly increasing number
abbrev pub are_by_number : List ObjectLine → Bool
are_by_number [] = true
are_by_number (o ∷ []) = true
are_by_number (o ∷ p ∷ os) = nat_lt o.x p.x && are_by_number (p ∷ os)

-- objects in form among that many nodes, by number
abbrev pub ObjectsInForm : ℕ → List ObjectLine → Type 0
ObjectsInForm nodes os = AllByRecursion (ObjectLineInForm nodes) os × (are_by_number os ≡ true)

-- states of this format hold the objects' values
abbrev pub AreHeld : Format → List ObjectLine → Type 0
AreHeld format os = AllByRecursion (λ (o : ObjectLine). FormatHolds format o.value) os

-- a header of 1 to 16 nodes, and objects in form among them, whose values states of its format hold
pub record HeaderInForm (header : Header) : Type 0 where
  pub nodes : IsWithin 1 NODES header.nodes
  pub objects : ObjectsInForm header.nodes header.objects
  pub held : AreHeld header.format header.objects

-- a frame: in events a node or a frame is any number of 32 bits, and an object any of 16
abbrev pub FrameNoInForm : FrameNo → Type 0
FrameNoInForm (frame_no.Number k) = WordInForm k
FrameNoInForm frame_no.Last = ⊤

-- what a stopped disk call leaves
abbrev pub StopKindInForm : StopKind → Type 0
StopKindInForm (stop_kind.Torn bytes) = AreBytes bytes
StopKindInForm _ = ⊤

-- the labels, numbers, operations and bytes of an event are in form
abbrev pub EventInForm : Event → Type 0
EventInForm (event.Begin l n) = LabelInForm l × WordInForm n
EventInForm (event.BeginIn l p) = LabelInForm l × LabelInForm p
EventInForm (event.Top l p) = LabelInForm l × LabelInForm p
EventInForm (event.Serial l n) = LabelInForm l × WordInForm n
EventInForm (event.Call l x op) = LabelInForm l × ShortInForm x × OpTextInForm op
EventInForm (event.Include l x n) = LabelInForm l × ShortInForm x × WordInForm n
EventInForm (event.Commit l) = LabelInForm l
EventInForm (event.Abort l) = LabelInForm l
EventInForm (event.GiveUp l) = LabelInForm l
EventInForm (event.Deliver k) = FrameNoInForm k
EventInForm (event.Lose k) = FrameNoInForm k
EventInForm (event.Tick n) = WordInForm n
EventInForm event.Settle = ⊤
EventInForm event.Quiesce = ⊤
EventInForm (event.Crash n) = WordInForm n
EventInForm (event.Restart n) = WordInForm n
EventInForm (event.Stop n calls kind) = WordInForm n × IsWithin 1 STOP_CALLS calls × StopKindInForm kind
EventInForm (event.Junk n bytes) = WordInForm n × AreBytes bytes
EventInForm (event.Show x) = ShortInForm x
