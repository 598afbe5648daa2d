-- At rest: which nodes are up and idle, the giveups of the stated round, and disks that hold every entry and last state.
use Rattle.std.specs.Prelude.{Contains, List, None, Some, [], is_some, nat_le, true, ℕ, ◌&&◌, ◌++◌, ◌∷◌, ◌≡◌}
use Rattle.std.specs.List.{AllByRecursion}
use Rattle.arj_base.specs.State.{state_bytes}
use Rattle.arj_base.specs.Uid.{entry, object}
use Rattle.arj_base.specs.declared.uid.Uid.{Uid}
use Rattle.arj_disk.specs.declared.slot.Role.TheVariants.{Names, Store}
use Rattle.arj_disk.specs.declared.slot.Role.{Role}
use Rattle.arj_journal.specs.declared.body.Line.{Line}
use Rattle.arj_journal.specs.declared.header.Header.{Header}
use Rattle.arj_model.specs.Disks.{Disks, Reading, held}
use Rattle.arj_model.specs.Last.{entry_from, is_among, last_from, listed, object_line}
use Rattle.arj_start.specs.Start.{Marks}
use Rattle.arj_promise.specs.Runs.{Move}
use Rattle.arj_promise.specs.Waiting.{coord_in}
use Rattle.arj_protocol.specs.Coord.{Coord, Doing, Idle, doing_of, number_of}
use Rattle.arj_protocol.specs.Step.{Node, is_idle, is_waiting_now}
use Rattle.arj_protocol.specs.Tree.{at_place}
use Rattle.arj_protocol.specs.Words.body
use Rattle.arj_protocol.specs.Words.event
use Rattle.arj_protocol.specs.World.{World, is_node, is_quiet, is_up_at, node_of}
use Rattle.arj_text.specs.declared.label.Label.{Label}

-- no action waits at the coordinator
abbrev pub AreIdle : Coord → Type 0
AreIdle c = AllByRecursion (λ (d : Doing). d.now ≡ Idle) c.doings

-- nobody waits at the nodes of the header
abbrev pub NobodyWaits : World → Type 0
NobodyWaits w = (k : ℕ) (c : Coord) → is_node k w ≡ true → coord_in (at_place k w.nodes) ≡ Some c → AreIdle c

-- each node of the header is idle: up, with no action that waits, no prepared action and no record
abbrev pub AreQuiet : World → Type 0
AreQuiet w = (k : ℕ) (a : Node) → is_node k w ≡ true → at_place k w.nodes ≡ Some a → is_idle a ≡ true

-- the event gives up what an action waits for
abbrev pub IsGiveUp : Move → Type 0
IsGiveUp m = (l : Label) × (m.asked.event ≡ event.GiveUp l)

-- the event gives up what this action of the node's coordinator waits for: its label stands for the action there
pub record GivesUp (w : World) (k : ℕ) (c : Coord) (u : Uid) (m : Move) : Type 0 where
  pub label : Label
  pub is : m.asked.event ≡ event.GiveUp label
  pub node : node_of label w ≡ k
  pub number : number_of label c ≡ Some u.num

-- each action that waits at a node of the header is given up by one of these events
abbrev pub AreGivenUp : List Move → World → Type 0
AreGivenUp gs w = (k : ℕ) (c : Coord) (u : Uid) (q : Doing) → is_node k w ≡ true → coord_in (at_place k w.nodes) ≡ Some c →
    doing_of u c ≡ Some q → is_waiting_now q.now ≡ true → (m : Move) × Contains gs m × GivesUp w k c u m

-- every node of the header is up
abbrev pub AreUp : World → Type 0
AreUp w = (k : ℕ) → is_node k w ≡ true → is_up_at k w ≡ true

-- Every node of the world is idle, up and with no action that waits, no prepared action and no record; and the journal's last line says so.
pub record EndsQuiet (w : World) : Type 0 where
  pub idle : AreQuiet w
  pub quiet : is_quiet w ≡ true
  pub line : (before : List Line) × (w.lines ≡ before ++ record { event = w.event; body = body.Quiet true } ∷ [])

-- by its reading nothing is prepared on a disk, for either role, and it has no record
pub record HasNothingLeft (read : Reading) : Type 0 where
  pub prepared : (r : Role) (act : Uid) → (let d = read in d.pend r act) ≡ None
  pub records : (top : Uid) → (let d = read in d.records top) ≡ None

-- Naming holds each entry as the journal gives it, and each listed store the object's last committed state, where the run began with these
-- marks; and on the disk of each node of the header nothing is prepared, and no record is left.
pub record HoldAllStates (hd : Header) (marks : Marks) (lines : List Line) (disks : Disks) : Type 0 where
  pub entries : (x : ℕ) → is_some (object_line hd x) ≡ true → held (disks 1) Names (entry x) ≡ Some
      (state_bytes (entry_from hd marks lines x))
  pub stores : (x s : ℕ) → is_among (listed hd lines x) s ≡ true →
      held (disks s) Store (object x) ≡ Some (state_bytes (last_from hd marks lines x))
  pub nothing : (s : ℕ) → (nat_le 1 s && nat_le s hd.nodes) ≡ true → HasNothingLeft (disks s)
