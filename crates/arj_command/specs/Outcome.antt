-- How a run of a command ends, by its status.
use Rattle.std.specs.Prelude.{⊤, ◌≡◌, ◌≢◌, ℕ, List, [], ◌++◌, Option, Some, None}
use Rattle.std.proofs.Common.{inl, inr}
use Rattle.arj_bank.specs.Balances.{Holds, reader}
use Rattle.arj_bank.specs.Bank.{AreOfBank, ComesSoFar, Generates, HaveBeenRead}
use Rattle.arj_core.specs.declared.node.Core as core
use Rattle.arj_disk.specs.declared.disk.Disk as disk
use Rattle.arj_gen.specs.Bank.{bank_header}
use Rattle.arj_journal.specs.declared.body.Line.{Line}
use Rattle.arj_journal.specs.declared.event.Event.{Event}
use Rattle.arj_loop.specs.Input.{Arrived}
use Rattle.arj_loop.specs.Replayed.{CameTo, Closes, Outside, StopsShort, answer}
use Rattle.arj_loop.specs.declared.ending.BadLine.{BadLine}
use Rattle.arj_nodes.specs.AllNodes.{task}
use Rattle.arj_nodes.specs.AsMachine.{all_nodes}
use Rattle.arj_nodes.specs.declared.all_nodes.AllNodes.{AllNodes}
use Rattle.arj_law_nodes.specs.nodes.Last.{IsLast}
use Rattle.arj_law_nodes.specs.nodes.Promised.{ShowsThePromise}
use Rattle.arj_law_nodes.specs.nodes.Readings.{Reads}
use Rattle.arj_script.specs.Input.{events_of}
use Rattle.arj_world.specs.Stands.{Kept}
use Rattle.arj_command.specs.Facts.{Behind, Facts, behind}

-- What a run finds outside of it, and what it leaves there.
pub record Around (D : Type 0) : Type 0 where
  pub before : Outside D
  pub after : Outside D

-- what is around a run, of these
abbrev pub around : {D : Type 0} → Outside D → Outside D → Around D
around before after = record { before = before; after = after }

-- What a run answers: its status, why a line is bad, if one is, the journal that it leaves, and the world of its nodes, once the
-- disks were formatted.
pub record Said (C : Type 0) : Type 0 where
  pub status : ℕ
  pub why : Option BadLine
  pub journal : List Line
  pub world : Option (Kept C)

-- what a run answers, of these
abbrev pub said : {C : Type 0} → ℕ → Option BadLine → List Line → Option (Kept C) → Said C
said status why journal world = record { status = status; why = why; journal = journal; world = world }

-- the world of nodes, if they are there
abbrev pub world_of : {C : Type 0} → Option (AllNodes C) → Option (Kept C)
world_of None = None
world_of (Some nodes) = Some nodes.world

-- ---- a script

-- What a run of a script to a status other than 1, 4 and 5 shows.
pub record Headline {C D : Type 0} (c : core.Ghosts C) (d : disk.Ghosts D) (read : Reads) (w : Around D) (says : Said C) : Type 0 where
  pub nodes : Option (AllNodes C)
  -- which bytes came, which of their lines were run, why no other was, as the status says, that the sink took the journal's text, and that
  -- before `run` no disk was touched and no event wrote a line
  pub run : Closes (all_nodes c d) w.before w.after (answer says.status says.why says.journal nodes)
  -- the world that is handed out
  pub world_is : says.world ≡ world_of nodes
  -- once the disks were formatted: what the events of these lines show
  pub facts : (all : AllNodes C) → nodes ≡ Some all
      → (let b = w.before in let a = w.after in let e = run.ends in let r = e.reached in let s = r.stage in
      Facts c d read (task b.rack s.header (events_of s.forms)) (behind all a.rack says.journal))

-- Where the disks were formatted, what the events show of the lines that were run; else no event wrote a line. A run that was cut short shows
-- it with the disks as they were behind these events: since then the next line may have been run in part.
abbrev pub CameShows : {C D : Type 0} (c : core.Ghosts C) (d : disk.Ghosts D) → Reads →
    (given : Arrived) (first after : List D) (status : ℕ) (journal : List Line)
    → CameTo (all_nodes c d) given first after status journal → Type 0
CameShows {C} c d read given first after status journal (inl (at, half, is, went)) =
    (at.machine ≡ None → journal ≡ [])
    × ((all : AllNodes C) → at.machine ≡ Some all →
    (let h = half in let s = h.stage in Facts c d read (task first s.header (events_of s.forms)) (behind all h.mid journal)))
CameShows {C} c d read given first after status journal (inr (four, (end, ends))) =
    ((let e = ends in let at = e.at in at.machine) ≡ None → IsLast journal)
    × ((all : AllNodes C) → (let e = ends in let at = e.at in at.machine) ≡ Some all
    → (let e = ends in let r = e.reached in let s =
    r.stage in Facts c d read (task first s.header (events_of s.forms)) (behind all after journal)))

-- What a run of a script to the status 4 or 5 shows.
pub record Shown {C D : Type 0} (c : core.Ghosts C) (d : disk.Ghosts D) (read : Reads) (w : Around D) (status : ℕ) : Type 0 where
  -- which bytes came, how far the run of their lines came, what the next one asked of the disks, and that the sink took a front of the
  -- journal's text, at 5 all of it
  pub run : StopsShort (all_nodes c d) w.before w.after status
  -- what the events of these lines show
  pub facts : (let b = w.before in let a = w.after in CameShows c d read run.given b.rack a.rack status run.journal run.run)

-- ---- a bank

-- what files hold, read so
abbrev pub holds : Reads → Holds
holds read file r uid = (let reading = read file in reading.held r uid)

-- A front of the events of the bank of n was run, from these disks on, and its disks were read since.
pub record RanOfBank {C D : Type 0} (c : core.Ghosts C) (d : disk.Ghosts D) (read : Reads) (n : ℕ) (first : List D) (now : Behind C D) : Type 0 where
  pub events : List Event
  pub rest : List Event
  pub are : AreOfBank n (events ++ rest)
  -- what they show, with the disks behind them
  pub mid : List D
  pub facts : Facts c d read (task first bank_header events) (behind now.nodes mid now.journal)
  -- and the promise with the disks that are handed back
  pub since : HaveBeenRead d mid now.rack
  pub promise : ShowsThePromise d read (task first bank_header events) (let a = now.nodes in a.over) now.journal now.rack

-- where memory was wanting in a front of the bank's events, what that shows
abbrev pub FrontShows : {C D : Type 0} (c : core.Ghosts C) (d : disk.Ghosts D) → Reads → (n : ℕ) (first after : List D) →
    ComesSoFar (all_nodes c d) n first after → Type 0
FrontShows c d read n first after (inl same) = ⊤
FrontShows c d read n first after (inr (inl formatted)) = ⊤
FrontShows c d read n first after (inr (inr (events, are, ran))) =
    (let f = ran in Facts c d read (task first bank_header f.done) (behind f.machine f.mid f.journal))

-- What a run of `generate n` shows.
pub record BankHeadline {C D : Type 0} (c : core.Ghosts C) (d : disk.Ghosts D) (read : Reads) (n : ℕ) (w : Around D) (says : Said C) : Type 0 where
  pub nodes : Option (AllNodes C)
  -- what the status means, and that the sink took the summary, whose sum is read from the disks
  pub run : Generates (all_nodes c d) (reader d (holds read)) n w.before w.after (answer says.status says.why says.journal nodes)
  -- the world that is handed out
  pub world_is : says.world ≡ world_of nodes
  -- once the disks were formatted: what the events that were run show
  pub facts : says.status ≢ 5 → (all : AllNodes C) → nodes ≡ Some all →
      (let b = w.before in let a = w.after in RanOfBank c d read n b.rack (behind all a.rack says.journal))
  pub front : (five : says.status ≡ 5) → (let b = w.before in let m = run.memory five in FrontShows c d read n b.rack m.mid m.comes)
