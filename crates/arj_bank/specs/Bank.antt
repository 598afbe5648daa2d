-- Runs of the generated bank on a machine.
use Rattle.std.specs.Prelude.{ℕ, ◌≡◌, ◌≢◌, ◌⊎◌, List, [], ◌∷◌, ◌++◌, true, false, length, map, take, Option, Some, None}
use Rattle.std.specs.List.{AllByRecursion}
use Rattle.arj_bank.specs.Balances.{AddUpTo, Reader, node_files, node_holds}
use Rattle.arj_bank.specs.Summary.{summary_of, summary_text}
use Rattle.arj_disk.specs.FileMap.{FileMap}
use Rattle.arj_disk.specs.declared.disk.Disk as disk
use Rattle.arj_gen.specs.Bank.{bank_header, event_lines}
use Rattle.arj_gen.specs.declared.bank.TheConstants.{ACCOUNTS, NODES}
use Rattle.arj_io.specs.Told.{Takes}
use Rattle.arj_journal.specs.ScriptForm.{EventInForm}
use Rattle.arj_journal.specs.ScriptText.{event_text}
use Rattle.arj_journal.specs.declared.body.Body.TheVariants as body
use Rattle.arj_journal.specs.declared.body.Line.{Line}
use Rattle.arj_journal.specs.declared.body.Which.TheVariants as which
use Rattle.arj_journal.specs.declared.event.Event.{Event}
use Rattle.arj_journal.specs.declared.header.Header.{Header}
use Rattle.arj_loop.specs.Limits.{EndsAtFrames}
use Rattle.arj_loop.specs.Replayed.{Answer, Outside}
use Rattle.arj_loop.specs.declared.machine.Machine.{Ghosts}
use Rattle.arj_nodes.specs.AllNodes.{Task, task}
use Rattle.arj_world.specs.Disks.{HasStopped, HaveMoved, HaveNotStopped}

-- ---- runs of any events

-- What a run leaves: the disks, the journal, and the machine, if one was made.
pub record Left (D M : Type 0) : Type 0 where
  pub rack : List D
  pub journal : List Line
  pub machine : Option M

-- what a run leaves, of these
abbrev pub left : {D M : Type 0} → List D → List Line → Option M → Left D M
left rack journal machine = record { rack = rack; journal = journal; machine = machine }

-- Every event was run, and every frame fitted.
pub record RanWhole {D M : Type 0} (m : Ghosts M D) (t : Task D) (now : Left D M) : Type 0 where
  pub machine : M
  pub machine_is : now.machine ≡ Some machine
  pub ran : m.ran t.first t.header t.events now.rack now.journal machine
  pub going : m.over machine ≡ false

-- a frame didn't fit in the last event that was run, and the journal's last line says so
pub record AtFrames {D M : Type 0} (m : Ghosts M D) (machine : M) (before journal : List Line) : Type 0 where
  pub over : m.over machine ≡ true
  pub same : journal ≡ before
  pub last : EndsAtFrames journal

-- the next event would give one label too many, and the journal's last line says so
pub record AtLabels {D M : Type 0} (m : Ghosts M D) (header : Header) (now : Left D M) (rest : List Event) (machine : M) (before : List Line) : Type 0 where
  pub going : m.over machine ≡ false
  pub event : Event
  pub more : List Event
  pub next : rest ≡ event ∷ more
  pub full : m.is_full header event now.rack machine
  pub last : now.journal ≡ before ++ record { event = m.steps machine; body = body.Limit which.Labels } ∷ []

-- A front of the events was run, and a limit was met.
pub record AtLimit {D M : Type 0} (m : Ghosts M D) (t : Task D) (now : Left D M) : Type 0 where
  pub done : List Event
  pub rest : List Event
  pub cut : t.events ≡ done ++ rest
  pub machine : M
  pub machine_is : now.machine ≡ Some machine
  pub before : List Line
  pub ran : m.ran t.first t.header done now.rack before machine
  pub limit : AtFrames m machine before now.journal ⊎ AtLabels m t.header now rest machine before

-- the disks are as before, or as the first of these events asked
abbrev pub ChangedBy : {D M : Type 0} → Ghosts M D → Header → List Event → List D → List D → Type 0
ChangedBy m header [] before after = after ≡ before
ChangedBy m header (e ∷ events) before after = (after ≡ before) ⊎ m.moved header (e ∷ []) before after

-- A front of the events was run; since then the disks may have changed by what the next one asks.
pub record RanFront {D M : Type 0} (m : Ghosts M D) (t : Task D) (rack : List D) : Type 0 where
  pub done : List Event
  pub rest : List Event
  pub cut : t.events ≡ done ++ rest
  pub machine : M
  pub mid : List D
  pub journal : List Line
  pub ran : m.ran t.first t.header done mid journal machine
  pub since : ChangedBy m t.header rest mid rack

-- ---- runs of the bank

-- these are the events of the bank of n
pub record AreOfBank (n : ℕ) (events : List Event) : Type 0 where
  pub texts : map event_text events ≡ event_lines n
  pub form : AllByRecursion EventInForm events

-- The whole bank of n was run, from these disks on.
pub record RanBank {D M : Type 0} (m : Ghosts M D) (n : ℕ) (first : List D) (now : Left D M) : Type 0 where
  pub events : List Event
  pub are : AreOfBank n events
  pub ran : RanWhole m (task first bank_header events) now

-- The run of the bank of n, from these disks on, came to a limit.
pub record EndsAtLimit {D M : Type 0} (m : Ghosts M D) (n : ℕ) (first : List D) (now : Left D M) : Type 0 where
  pub events : List Event
  pub are : AreOfBank n events
  pub ended : AtLimit m (task first bank_header events) now

-- these bytes are the summary of a run of so many events that left these disks and this journal
abbrev pub SumsUp : {D : Type 0} → Reader D → ℕ → List D → List Line → List ℕ → Type 0
SumsUp r events rack journal bytes =
    (sum : ℕ) × AddUpTo (node_holds r rack) ACCOUNTS sum × (bytes ≡ summary_text (summary_of events journal sum))

-- Disks were read: their files are as they were, and none of them was armed, nor any disk touched that is no node's of the bank.
pub record HaveBeenRead {D : Type 0} (d : disk.Ghosts D) (before after : List D) : Type 0 where
  pub files : node_files d.file after ≡ node_files d.file before
  pub moved : HaveMoved d NODES [] before after

-- The whole bank of n was run, and these bytes are its summary. The sum was read from the disks that the run left. None of them
-- was stopped.
pub record IsSummary {D M : Type 0} (m : Ghosts M D) (r : Reader D) (n : ℕ) (first : List D) (now : Left D M) (bytes : List ℕ) : Type 0 where
  pub mid : List D
  pub ran : RanBank m n first (left mid now.journal now.machine)
  pub sums : SumsUp r (length (event_lines n)) mid now.journal bytes
  pub read : HaveBeenRead r.disk mid now.rack
  pub unstopped : HaveNotStopped r.disk mid now.rack

-- The whole bank of n was run, and a disk was stopped while the sum was read.
pub record StopsAtSum {D M : Type 0} (m : Ghosts M D) (d : disk.Ghosts D) (n : ℕ) (first : List D) (now : Left D M) : Type 0 where
  pub mid : List D
  pub ran : RanBank m n first (left mid now.journal now.machine)
  pub read : HaveBeenRead d mid now.rack
  pub stopped : HasStopped d mid now.rack

-- A disk was stopped while it was formatted: nothing was run.
pub record StopsAtFormat {D M : Type 0} (m : Ghosts M D) (first : List D) (now : Left D M) : Type 0 where
  pub journal : now.journal ≡ []
  pub machine : now.machine ≡ None
  pub stopped : m.stopped first now.rack
  pub moved : m.moved bank_header [] first now.rack

-- what a disk that was stopped left of a run of the bank: nothing was run yet, or all of it
abbrev pub StopsBank : {D M : Type 0} → Ghosts M D → disk.Ghosts D → ℕ → List D → Left D M → Type 0
StopsBank m d n first now = StopsAtFormat m first now ⊎ StopsAtSum m d n first now

-- how far a run of the bank of n came: nothing was done, or the disks were formatted, or a front of its events was run
abbrev pub ComesSoFar : {D M : Type 0} → Ghosts M D → ℕ → List D → List D → Type 0
ComesSoFar m n first after =
    (after ≡ first) ⊎ (m.moved bank_header [] first after ⊎ ((events : List Event) × AreOfBank n events × RanFront m (task first bank_header events) after))

-- Memory was wanting: so far the run came, and the disks may have been read since.
pub record WantsMemory {D M : Type 0} (m : Ghosts M D) (d : disk.Ghosts D) (n : ℕ) (first after : List D) : Type 0 where
  pub mid : List D
  pub comes : ComesSoFar m n first mid
  pub read : HaveBeenRead d mid after

-- what a run left, by what is outside of it and what it answers
abbrev pub left_by : {D M : Type 0} → Outside D → Answer M → Left D M
left_by after answer = left after.rack answer.journal answer.machine

-- A run of `generate n`: what it found and left outside of it, and what it answers, status by status.
pub record Generates {D M : Type 0} (m : Ghosts M D) (r : Reader D) (n : ℕ) (before after : Outside D) (answer : Answer M) : Type 0 where
  -- the sink took the summary
  pub summed : answer.status ≡ 0 →
      (text : List ℕ) × IsSummary m r n before.rack (left_by after answer) text × Takes before.taken text after.taken
  -- a write failed: the sink took a front of it
  pub front : answer.status ≡ 4 →
      (text : List ℕ) × (count : ℕ) × IsSummary m r n before.rack (left_by after answer) text × Takes before.taken (take count text) after.taken
  -- else it took nothing
  pub unwritten : answer.status ≢ 0 → answer.status ≢ 4 → after.taken ≡ before.taken
  pub memory : answer.status ≡ 5 → WantsMemory m r.disk n before.rack after.rack
  pub limit : answer.status ≡ 6 → EndsAtLimit m n before.rack (left_by after answer)
  pub stopped : answer.status ≡ 7 → StopsBank m r.disk n before.rack (left_by after answer)
  -- these aren't answered: the words are a command line, and nothing is read
  pub never : (answer.status ≢ 1) × (answer.status ≢ 2) × (answer.status ≢ 3)
  pub unread : (after.left ≡ before.left) × (after.faults ≡ before.faults)
