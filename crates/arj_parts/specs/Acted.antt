-- What a node's parts did where an action was asked to do something, at a tick and at a show, whatever node it is.
use Rattle.std.specs.Prelude.{ℕ, Option, ◌≡◌, None}
use Rattle.arj_journal.specs.declared.header.Header.{Header}
use Rattle.arj_node.specs.Acting.{IsActed, IsClass, Shows, acts_at, again_at, tick_outs, why_at}
use Rattle.arj_node.specs.Handing.{Does}
use Rattle.arj_node.specs.Outgoing.{IsHalted}
use Rattle.arj_node.specs.declared.act.Act.{Act}
use Rattle.arj_parts.specs.Calls.{Call}
use Rattle.arj_parts.specs.Kept.{RestsOn, StandsOn}
use Rattle.arj_protocol.specs.Coord.{Coord}
use Rattle.arj_protocol.specs.Effect.{Did}
use Rattle.arj_protocol.specs.Node.{Here, with_coord}
use Rattle.arj_protocol.specs.Step.{show_outs}
use Rattle.arj_protocol.specs.Words.{Class}
use Rattle.arj_store.specs.declared.store.ObjectStore.{Ghosts}

-- The coordinator did this, and its effects were done.
abbrev pub Acts : {O : Type 0} → Ghosts O → (Here → Did Coord) → Call O → Type 0
Acts o did call = (n : ℕ) (h : Here) → StandsOn o n call.old call.file h
    → Does (StandsOn o n call.new call.left) (with_coord h.parts (did h).part) (did h).outs h.disk call.before call.after

-- An action was asked to do something: it was refused, where the answer is the reason, or it did it.
abbrev pub IsAsked : {O : Type 0} → Ghosts O → Act → Option Class → Call O → Option ℕ → Type 0
IsAsked o act class call refused = (header : Header) (n : ℕ) (h : Here) → IsClass header act class → StandsOn o n call.old call.file h
    → IsActed (StandsOn o n call.new call.left) h (why_at header act h) (acts_at act h) (record {
      before = call.before;
      after =
          call.after;
    }) refused

-- A stop of the disk cut what the action did, which wasn't refused.
abbrev pub IsCutAsked : {O : Type 0} → Ghosts O → Act → Option Class → Call O → Type 0
IsCutAsked o act class call = (header : Header) (n : ℕ) (h : Here) → IsClass header act class → StandsOn o n call.old call.file h
    → (why_at header act h ≡ None) × IsHalted (RestsOn o n call.left) (acts_at act h).outs h.disk call.before call.after

-- What waits was asked for again.
abbrev pub Ticks : {O : Type 0} → Ghosts O → Call O → Type 0
Ticks o call = (n : ℕ) (h : Here) → StandsOn o n call.old call.file h
    → Does (StandsOn o n call.new call.left) (with_coord h.parts (again_at h).part) (tick_outs h) h.disk call.before call.after

-- What the disk has of an object was shown, and nothing changed.
abbrev pub ShowsObject : {O : Type 0} → Ghosts O → ℕ → Call O → Type 0
ShowsObject o x call = (n : ℕ) (h : Here) → StandsOn o n call.old call.file h
    → Shows (StandsOn o n call.new call.left) h (show_outs n x h.disk) call.before call.after
