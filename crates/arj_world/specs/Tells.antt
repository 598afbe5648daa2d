-- Which lines of a journal tell of stops.
use Rattle.std.specs.Prelude.{ℕ, ◌≡◌, ◌≤◌, ◌<◌, ◌+◌, ◌==◌, ◌&&◌, Bool, false, if◌then◌else◌, List, [], ◌∷◌, ◌++◌, Option, Some, None}
use Rattle.std.specs.Prelude.{length, slice_get}
use Rattle.arj_disk.specs.declared.disk.Disk.{Ghosts}
use Rattle.arj_law_parts.specs.steps.Halts.{halted_node, is_crash}
use Rattle.arj_journal.specs.declared.body.Line.{Line}
use Rattle.arj_protocol.specs.Step.{Input}
use Rattle.arj_protocol.specs.Words.{Event}
use Rattle.arj_protocol.specs.Words.event

-- the node is this one
abbrev pub is_this : ℕ → Option ℕ → Bool
is_this n None = false
is_this n (Some m) = m == n

-- how many lines say that a node halted
abbrev pub halts : ℕ → List Line → ℕ
halts n [] = 0
halts n (l ∷ ls) = (if is_this n (halted_node l.body) then 1 else 0) + halts n ls

-- A count of stops, where so many lines tell of it: it rose by no fewer, or stands at its last value; and without a line it stays.
pub record IsToldBy (lines old new : ℕ) : Type 0 where
  pub later : old ≤ new
  pub rose : new < 18446744073709551615 → old + lines ≤ new
  pub only : lines ≡ 0 → new ≡ old

-- These lines tell the stops of each disk, but that a node which is crashed says so without a stop; and of who isn't one of so many nodes none
-- says that he halted.
pub record AreTold {D : Type 0} (disk : Ghosts D) (nodes : ℕ) (crashed : ℕ → Bool) (old new : List D) (added : List Line) : Type 0 where
  pub count : length new ≡ length old
  pub each : (i : ℕ) (d e : D) → slice_get old i ≡ Some d → slice_get new i ≡ Some e →
      IsToldBy (if crashed (i + 1) then 0 else halts (i + 1) added) (disk.stops d) (disk.stops e)
  pub others : (n : ℕ) → (1 ≤ n → n ≤ nodes → ⊥) → halts n added ≡ 0

-- such lines came
abbrev pub TellsStops : {D : Type 0} → Ghosts D → ℕ → (ℕ → Bool) → List D → List D → List Line → List Line → Type 0
TellsStops disk nodes crashed old new before after =
    (added : List Line) × (after ≡ before ++ added) × AreTold disk nodes crashed old new added

-- no node is crashed
abbrev pub nobody : ℕ → Bool
nobody n = false

-- the node that takes the input is crashed by it
abbrev pub crashed_at : ℕ → Input → ℕ → Bool
crashed_at k i n = is_crash i && (n == k)

-- the node is crashed by the event
abbrev pub crashed_by : Event → ℕ → Bool
crashed_by (event.Crash k) n = n == k
crashed_by _ n = false
