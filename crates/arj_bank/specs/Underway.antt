-- A run that is under way: how far it has come.
use Rattle.std.specs.Prelude.{◌≡◌, ◌≤◌, List, [], ◌∷◌, ◌++◌, false, length}
use Rattle.std.specs.List.{AllByRecursion}
use Rattle.arj_bank.specs.Bank.{AtLimit, Left, RanFront}
use Rattle.arj_journal.specs.ScriptForm.{EventInForm}
use Rattle.arj_journal.specs.declared.body.Line.{Line}
use Rattle.arj_journal.specs.declared.event.Event.{Event}
use Rattle.arj_journal.specs.declared.header.Header.{Header}
use Rattle.arj_loop.specs.declared.limits.TheConstants.{MOST_EVENTS}
use Rattle.arj_loop.specs.declared.machine.Machine.{Ghosts}
use Rattle.arj_nodes.specs.AllNodes.{task}

-- the disks, the machine and the journal at one moment
pub record Moment (D M : Type 0) : Type 0 where
  pub rack : List D
  pub machine : M
  pub journal : List Line

-- one moment, of these
abbrev pub moment : {D M : Type 0} → List D → M → List Line → Moment D M
moment rack machine journal = record { rack = rack; machine = machine; journal = journal }

-- A front of these events was run, and these are left.
pub record Underway {D M : Type 0} (m : Ghosts M D) (given rest : List Event) (old now : Moment D M) : Type 0 where
  pub done : List Event
  pub cut : given ≡ done ++ rest
  pub form : AllByRecursion EventInForm rest
  pub ran : (first : List D) (header : Header) → m.ran first header [] old.rack old.journal old.machine →
      m.ran first header done now.rack now.journal now.machine
  pub steps : m.steps now.machine ≡ length done
  pub going : m.over now.machine ≡ false

-- the machine has run nothing of some script
abbrev pub HasRun : {D M : Type 0} → Ghosts M D → Moment D M → Type 0
HasRun {D} m old = (first : List D) × (header : Header) × m.ran first header [] old.rack old.journal old.machine

-- some run has come to this event
abbrev pub Goes : {D M : Type 0} → Ghosts M D → Event → Moment D M → Type 0
Goes {D} {M} m e now =
    (given : List Event) × (rest : List Event) × (old : Moment D M) × Underway m given (e ∷ rest) old now × (length given ≤ MOST_EVENTS) × HasRun m old

-- the run of these events came to a limit
abbrev pub Ends : {D M : Type 0} → Ghosts M D → List Event → Moment D M → Left D M → Type 0
Ends {D} m given old now =
    (first : List D) (header : Header) → m.ran first header [] old.rack old.journal old.machine → AtLimit m (task first header given) now

-- the run of these events came so far
abbrev pub Wants : {D M : Type 0} → Ghosts M D → List Event → Moment D M → List D → Type 0
Wants {D} m given old rack =
    (first : List D) (header : Header) → m.ran first header [] old.rack old.journal old.machine → RanFront m (task first header given) rack
