-- What parts did at an input about an action, at a tick, at a show and at a restart.
use Rattle.std.specs.Prelude.{◌≡◌, ◌+◌, ◌++◌, ℕ, List, Option, Some, None, map, ⊤}
use Rattle.arj_node.specs.Handing.{Does}
use Rattle.arj_node.specs.Outgoing.{Tells}
use Rattle.arj_node.specs.declared.act.Act.{Act}
use Rattle.arj_node.specs.declared.act.Act.TheVariants as of
use Rattle.arj_node.specs.declared.outgoing.Outgoing.{Outgoing}
use Rattle.arj_protocol.specs.Asking.{again_all}
use Rattle.arj_protocol.specs.Coord.{Coord}
use Rattle.arj_protocol.specs.Effect.{Did, Disk, Effect}
use Rattle.arj_protocol.specs.Node.{Here, Parts, holders, query_about, with_coord}
use Rattle.arj_protocol.specs.Step.{Input, Begin, Call, Include, Commit, Abort, GiveUp, acts, class_at, first_disk, parts_in, refusal_up}
use Rattle.arj_protocol.specs.Step.{restart_outs, tolds_again}
use Rattle.arj_protocol.specs.Words.{Class, Header}

-- ---- inputs about an action

-- an input about an action, as the protocol's
abbrev pub asked_of : Act → Input
asked_of (of.Begin l k parent) = Begin l k parent
asked_of (of.Call l x op) = Call l x op
asked_of (of.Include l x s) = Include l x s
asked_of (of.Commit l) = Commit l
asked_of (of.Abort l) = Abort l
asked_of (of.GiveUp l) = GiveUp l

-- the object that it is about, where it is about one, has this class
abbrev pub IsClass : Header → Act → Option Class → Type 0
IsClass header (of.Call l x op) c = class_at x header ≡ c
IsClass header (of.Include l x s) c = class_at x header ≡ c
IsClass header _ c = ⊤

-- why it is refused, and what the coordinator does
abbrev pub why_at : Header → Act → Here → Option ℕ
why_at header act h = refusal_up header (asked_of act) h.parts.coord

-- what the coordinator does at it
abbrev pub acts_at : Act → Here → Did Coord
acts_at act h = acts (asked_of act) h.disk.intents h.parts.coord

-- what was handed back before a call and after it
pub record Handed : Type 0 where
  pub before : List Outgoing
  pub after : List Outgoing

-- it was refused: nothing changed
pub record IsRefused (on : Here → Type 0) (h : Here) (why : Option ℕ) (outs : Handed) (cause : ℕ) : Type 0 where
  pub is : why ≡ Some cause
  pub stands : on h
  pub same : outs.after ≡ outs.before

-- it wasn't, and the coordinator did this
pub record IsDone (on : Here → Type 0) (h : Here) (why : Option ℕ) (did : Did Coord) (outs : Handed) : Type 0 where
  pub free : why ≡ None
  pub does : Does on (with_coord h.parts did.part) did.outs h.disk outs.before outs.after

-- it was done, or refused for this cause
abbrev pub IsActed : (Here → Type 0) → Here → Option ℕ → Did Coord → Handed → Option ℕ → Type 0
IsActed on h why did outs None = IsDone on h why did outs
IsActed on h why did outs (Some cause) = IsRefused on h why outs cause

-- ---- a tick

-- the requests that wait, again
abbrev pub again_at : Here → Did Coord
again_at h = again_all h.parts.coord.doings h.parts.coord

-- what a tick sends
abbrev pub tick_outs : Here → List Effect
tick_outs h = (again_at h).outs ++ tolds_again h.parts.coord.telling ++ map query_about (holders h.disk h.parts)

-- ---- a show

-- nothing changed, and these lines are handed back
pub record Shows (on : Here → Type 0) (h : Here) (es : List Effect) (before after : List Outgoing) : Type 0 where
  pub stands : on h
  pub tells : Tells es before after

-- ---- a beginning

-- a node that is formatted
abbrev pub first_here : Header → ℕ → Here
first_here header n = record { disk = first_disk header n; parts = parts_in n 1 (first_disk header n) }

-- a node that is up again over this disk, and what it does until it is
abbrev pub parts_again : ℕ → Disk → Parts
parts_again n d = parts_in n (d.inc + 1) d

-- what a node does until it is up again over this disk
abbrev pub outs_again : Header → ℕ → Disk → List Effect
outs_again header n d = restart_outs header n (d.inc + 1) d
