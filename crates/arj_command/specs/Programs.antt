-- What a run of client programs shows.
use Rattle.std.specs.Prelude.{◌≡◌, List, Option}
use Rattle.std.specs.List.{AllByRecursion}
use Rattle.arj_command.specs.Facts.{Facts, behind}
use Rattle.arj_command.specs.Outcome.{Around, Said, world_of}
use Rattle.arj_core.specs.declared.node.Core as core
use Rattle.arj_disk.specs.declared.disk.Disk as disk
use Rattle.arj_journal.specs.declared.header.Header.{Header}
use Rattle.arj_law_nodes.specs.nodes.Readings.{Reads}
use Rattle.arj_law_programs.specs.Alone.{RunsAsAlone}
use Rattle.arj_law_programs.specs.Counts.{CallsAreThose}
use Rattle.arj_loop.specs.Replayed.{answer}
use Rattle.arj_nodes.specs.AllNodes.{task}
use Rattle.arj_nodes.specs.AsMachine.{all_nodes}
use Rattle.arj_nodes.specs.declared.all_nodes.AllNodes.{AllNodes}
use Rattle.arj_prog.specs.declared.plan.Plan.{Plan}
use Rattle.arj_programs.specs.Outcome.{RunsPrograms}
use Rattle.arj_programs.specs.Runs.{Left, MetLimit, RanPlan, WasLeft, left}
use Rattle.arj_progrun.specs.Alone.{MeansItsCalls}
use Rattle.arj_progrun.specs.declared.report.ReportLine.{ReportLine}

-- What was run of a plan to its schedule's end: what the events show by their journal and the disks; and of each program that committed,
-- what it did.
pub record ShowsPlan {C D : Type 0} (c : core.Ghosts C) (d : disk.Ghosts D) (read : Reads) (plan : Plan) (first : List D)
    (now : Left D (AllNodes C)) (told : List ReportLine) (r : RanPlan (all_nodes c d) plan first now told) : Type 0 where
  pub facts : Facts c d read (task first plan.header (let q = r.run in q.events)) (behind r.machine now.rack now.journal)
  -- the calls that count of it are those that its statements make alone, wherever they get these answers
  pub alone : AllByRecursion MeansItsCalls (let s = r.drives in let e = s.end in e.clients)
  -- they are the surviving calls of its top in the journal, in order, with the same answers
  pub survive : AllByRecursion (CallsAreThose (let n = now in n.journal)) (let s = r.drives in let e = s.end in e.clients)
  -- and in the serial order of the journal's calls it did what it does alone, behind all that stand before it
  pub each : AllByRecursion (RunsAsAlone (let p = plan in p.header) (let n = now in n.journal)) (let s = r.drives in let e = s.end in e.clients)

-- what was run to a limit: the same of its events
abbrev pub ShowsLimit : {C D : Type 0} (c : core.Ghosts C) (d : disk.Ghosts D) → Reads → (header : Header) (first : List D)
    (now : Left D (AllNodes C)) → MetLimit (all_nodes c d) header first now → Type 0
ShowsLimit c d read header first now r =
    Facts c d read (task first header (let l = r in let q = l.run in q.events)) (behind (let l = r in l.machine) (let n =
    now in n.rack) (let n = now in n.journal))

-- what was run before memory was wanting: the same, with the disks as they were behind these events
abbrev pub ShowsFront : {C D : Type 0} (c : core.Ghosts C) (d : disk.Ghosts D) → Reads → (header : Header) (first rack : List D) →
    WasLeft (all_nodes c d) first header rack → Type 0
ShowsFront c d read header first rack r =
    Facts c d read (task first header (let l = r in let q = l.run in q.events)) (behind (let l = r in l.machine) (let l =
    r in l.mid) (let l = r in let q = l.run in q.lines))

-- What a run of client programs shows, at each status.
pub record ProgramsHeadline {C D : Type 0} (c : core.Ghosts C) (d : disk.Ghosts D) (read : Reads) (w : Around D)
    (says : Said C) : Type 0 where
  pub nodes : Option (AllNodes C)
  -- which bytes came, what the status means, what was run of their plan, and that the sink took what became of the programs
  pub run : RunsPrograms (all_nodes c d) w.before w.after (answer says.status says.why says.journal nodes)
  -- the world that is handed out
  pub world_is : says.world ≡ world_of nodes
  -- what each run shows of which this speaks: one to its schedule's end, one to a limit, and one that memory ended
  pub whole : (plan : Plan) (told : List ReportLine) →
      (let b = w.before in let a = w.after in let now = left a.rack says.journal nodes in
      (r : RanPlan (all_nodes c d) plan b.rack now told) → ShowsPlan c d read plan b.rack now told r)
  pub limited : (header : Header) →
      (let b = w.before in let a = w.after in let now = left a.rack says.journal nodes in
      (r : MetLimit (all_nodes c d) header b.rack now) → ShowsLimit c d read header b.rack now r)
  pub short : (header : Header) →
      (let b = w.before in let a = w.after in
      (r : WasLeft (all_nodes c d) b.rack header a.rack) → ShowsFront c d read header b.rack a.rack r)
