-- What is done behind a script: each node that is up is crashed.
use Rattle.std.specs.Prelude.{◌≡◌, ◌⊎◌, ◌+◌, ℕ, zero, suc, List, [], ◌∷◌, ◌++◌, true, false, length, map, if◌then◌else◌}
use Rattle.arj_journal.specs.declared.body.Body.{Body}
use Rattle.arj_journal.specs.declared.body.Body.TheVariants as body
use Rattle.arj_journal.specs.declared.body.Line.{Line}
use Rattle.arj_journal.specs.declared.body.Which.TheVariants as which
use Rattle.arj_journal.specs.declared.event.Event.{Event}
use Rattle.arj_journal.specs.declared.event.Event.TheVariants as event
use Rattle.arj_journal.specs.declared.header.Header.{Header}
use Rattle.arj_loop.specs.Limits.{EndsAtFrames}
use Rattle.arj_loop.specs.declared.machine.Machine.{Ghosts}
use Rattle.arj_model.specs.Refusals.{is_down}
use Rattle.arj_start.specs.Start.{fresh}

-- the node, if it is up behind these lines
abbrev pub up_node : List Line → ℕ → List ℕ
up_node lines n = if is_down fresh lines n then [] else n ∷ []

-- of so many nodes those that are up, in the order of their numbers
abbrev pub up_nodes : List Line → ℕ → List ℕ
up_nodes lines zero = []
up_nodes lines (suc n) = up_nodes lines n ++ up_node lines (suc n)

-- the crashes of nodes
abbrev pub crashes : List ℕ → List Event
crashes nodes = map (λ n. event.Crash n) nodes

-- a frame's number, where the line says that it was sent
abbrev pub sent_by : Body → ℕ → ℕ
sent_by (body.Sent k _ _ _) before = k
sent_by _ before = before

-- the number of the last frame that was sent, or this one, where none was
abbrev pub last_sent : List Line → ℕ → ℕ
last_sent [] before = before
last_sent (line ∷ lines) before = last_sent lines (sent_by line.body before)

-- The disks, the machine and the journal at one moment.
pub record Moment (D M : Type 0) : Type 0 where
  pub rack : List D
  pub machine : M
  pub journal : List Line

-- one moment, of these
abbrev pub moment : {D M : Type 0} → List D → M → List Line → Moment D M
moment rack machine journal = record { rack = rack; machine = machine; journal = journal }

-- some events were run so far
abbrev pub HasRun : {D M : Type 0} → Ghosts M D → Moment D M → Type 0
HasRun {D} m now = (first : List D) × (header : Header) × (events : List Event) × m.ran first header events now.rack now.journal now.machine

-- What ran some events runs these behind them, from one moment to another.
abbrev pub RunsMore : {D M : Type 0} → Ghosts M D → List Event → Moment D M → Moment D M → Type 0
RunsMore {D} m more old now =
    (first : List D) (header : Header) (events : List Event) → m.ran first header events old.rack old.journal old.machine →
    m.ran first header (events ++ more) now.rack now.journal now.machine

-- These nodes were crashed, and every frame fitted.
pub record HasCrashed {D M : Type 0} (m : Ghosts M D) (nodes : List ℕ) (old now : Moment D M) : Type 0 where
  pub ran : RunsMore m (crashes nodes) old now
  pub steps : m.steps now.machine ≡ m.steps old.machine + length nodes
  pub going : m.over now.machine ≡ false

-- the line that says that no label is left
abbrev pub no_labels : ℕ → Line
no_labels number = record { event = number; body = body.Limit which.Labels }

-- how a run under this header that met a limit has ended: a frame didn't fit in its last event, or an event would give one label too many
abbrev pub EndsAtLimit : {D M : Type 0} → Ghosts M D → Header → Moment D M → List Line → Type 0
EndsAtLimit m header now journal =
    ((m.over now.machine ≡ true) × EndsAtFrames now.journal × (journal ≡ now.journal))
    ⊎ ((m.over now.machine ≡ false) × ((e : Event) × m.is_full header e now.rack now.machine) × (journal ≡ now.journal ++ no_labels (m.steps now.machine) ∷ []))

-- Some of these nodes were crashed, and a limit was met, which the journal says.
pub record MeetsLimit {D M : Type 0} (m : Ghosts M D) (nodes : List ℕ) (old now : Moment D M) : Type 0 where
  pub done : List ℕ
  pub rest : List ℕ
  pub cut : nodes ≡ done ++ rest
  pub lines : List Line
  pub ran : RunsMore m (crashes done) old (moment now.rack now.machine lines)
  pub ends : (first : List D) (header : Header) (events : List Event) → m.ran first header events old.rack old.journal old.machine →
      EndsAtLimit m header (moment now.rack now.machine lines) now.journal

-- the disks are as before, or as the crash of the first of these nodes asked
abbrev pub ChangedBy : {D M : Type 0} → Ghosts M D → Header → List ℕ → List D → List D → Type 0
ChangedBy m header [] before after = after ≡ before
ChangedBy m header (n ∷ nodes) before after = (after ≡ before) ⊎ m.moved header (event.Crash n ∷ []) before after

-- Some of these nodes were crashed; since then the disks may have changed by what the next crash asks.
pub record ComesSoFar {D M : Type 0} (m : Ghosts M D) (nodes : List ℕ) (old : Moment D M) (rack : List D) : Type 0 where
  pub done : List ℕ
  pub rest : List ℕ
  pub cut : nodes ≡ done ++ rest
  pub now : Moment D M
  pub ran : RunsMore m (crashes done) old now
  pub since : (first : List D) (header : Header) (events : List Event) → m.ran first header events old.rack old.journal old.machine →
      ChangedBy m header rest now.rack rack
