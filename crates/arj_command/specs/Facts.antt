-- What a run of events shows, by its journal and its disks.
use Rattle.std.specs.Prelude.{List}
use Rattle.arj_core.specs.declared.node.Core as core
use Rattle.arj_disk.specs.declared.disk.Disk as disk
use Rattle.arj_journal.specs.declared.body.Line.{Line}
use Rattle.arj_law_cause.specs.form.Form.{AreInForm}
use Rattle.arj_law_cause.specs.told.Told.{TellsItsCauses}
use Rattle.arj_nodes.specs.AllNodes.{RanAll, Task}
use Rattle.arj_nodes.specs.Told.{ArmsAreTold, HaltsHaveCause}
use Rattle.arj_nodes.specs.declared.all_nodes.AllNodes.{AllNodes}
use Rattle.arj_law_nodes.specs.nodes.Last.{EndsBehind}
use Rattle.arj_law_nodes.specs.nodes.Promised.{ShowsThePromise}
use Rattle.arj_law_nodes.specs.nodes.Readings.{Reads}
use Rattle.arj_world.specs.Stands.{hand}

-- What a run leaves behind its last event: the nodes, the disks, and the journal, which may have a line outside of events behind it.
pub record Behind (C D : Type 0) : Type 0 where
  pub nodes : AllNodes C
  pub rack : List D
  pub journal : List Line

-- what a run leaves, of these
abbrev pub behind : {C D : Type 0} → AllNodes C → List D → List Line → Behind C D
behind nodes rack journal = record { nodes = nodes; rack = rack; journal = journal }

-- The events of a task were run, and what they left shows what is promised of it.
pub record Facts {C D : Type 0} (c : core.Ghosts C) (d : disk.Ghosts D) (read : Reads) (t : Task D) (now : Behind C D) : Type 0 where
  -- the lines of the events: the journal, without a line outside of events
  pub lines : List Line
  pub last : EndsBehind lines now.journal
  -- these lines, the nodes and the disks are what the protocol makes of the events, with the stops that the disks made; and each disk
  -- was armed as the events ask, and those past the header's nodes stayed
  pub ran : RanAll c d t (let n = now.nodes in n.over) (hand (let n = now.nodes in n.world) now.rack lines)
  -- the promise, by the journal's lines and by the files of the disks
  pub promise : ShowsThePromise d read t (let n = now.nodes in n.over) now.journal now.rack
  -- these lines say why they are so, by the header, the events and themselves alone
  pub causes : (let a = t in TellsItsCauses a.header a.start a.events lines)
  -- each of them is in form
  pub form : AreInForm lines
  -- each `halted` line has its cause
  pub halts : HaltsHaveCause d t now.journal now.rack
  -- an `armed` line stands exactly for each arm that was asked
  pub armed : ArmsAreTold (let a = t in let h = a.header in h.nodes) (let a = t in a.events) now.journal
