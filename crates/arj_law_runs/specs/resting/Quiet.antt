-- When a quiesce leaves nothing to be done: nobody who waits, no record, and nothing prepared.
use Rattle.std.specs.Prelude.{◌≡◌, ◌≢◌, ◌≤◌, ◌⊎◌, ℕ, Bool, true, false, ◌&&◌, nat_le, List, [], Option, Some, None, is_some, length}
use Rattle.std.specs.Prelude.{Contains}
use Rattle.std.specs.List.{AllByRecursion}
use Rattle.arj_protocol.specs.Words.{End, Header, Label, Message, Uid, asks}
use Rattle.arj_protocol.specs.Words.ending
use Rattle.arj_protocol.specs.Words.event
use Rattle.arj_protocol.specs.Words.message
use Rattle.arj_protocol.specs.Ask.{answers, last_end}
use Rattle.arj_protocol.specs.Coord.{Coord, Doing, Idle, doing_of, number_of}
use Rattle.arj_protocol.specs.Effect.{Disk, Intent, is_prepared}
use Rattle.arj_protocol.specs.Ending.{is_deferred}
use Rattle.arj_protocol.specs.Node.{Parts}
use Rattle.arj_protocol.specs.Order.{at_uid, has}
use Rattle.arj_protocol.specs.Step.{Node, is_idle, is_waiting_now}
use Rattle.arj_protocol.specs.Tree.{at_place, is_open}
use Rattle.arj_protocol.specs.World.{Asked, World, is_node, lowest_from, run_event, node_of}
use Rattle.arj_law_parts.specs.parts.Coords.{IsCommitting}
use Rattle.arj_law_parts.specs.parts.Objects.{AreSorted}
use Rattle.arj_law_runs.specs.kept.Worlds.{IsGood}
use Rattle.arj_law_parts.specs.moves.Keeps.{Holds, KeepsAsked}
use Rattle.arj_promise.specs.Runs.{Move, Run, all_moved, moved, world_by}
use Rattle.arj_law_parts.specs.moves.Seen.{In, up}
use Rattle.arj_promise.specs.Runs.{Post, Seen}
use Rattle.arj_law_runs.specs.resting.Rounds.{AnswersWaits}
use Rattle.arj_promise.specs.Resting.{AreUp}
use Rattle.arj_promise.specs.Waiting.{coord_in}
use Rattle.arj_promise.specs.Resting.{AreGivenUp, AreIdle, AreQuiet, IsGiveUp, NobodyWaits}
use Rattle.arj_start.specs.Limits.{most_frames}

-- the action is prepared on the disk, by its store or by naming
abbrev pub IsPrepared : Uid → Disk → Type 0
IsPrepared u d = (is_prepared u d.store ≡ true) ⊎ (is_prepared u d.names ≡ true)

-- ---- what is under way

-- the last end that the message tells is this action's
abbrev pub TellsLast : Uid → Message → Type 0
TellsLast u (message.Told m) = (e : End) × (last_end m.ends ≡ Some (u, e))
TellsLast u m = ⊥

-- the message tells the action's commit, to be acknowledged
abbrev pub TellsCommit : Uid → Message → Type 0
TellsCommit u (message.Told m) = (m.ack ≡ true) × (last_end m.ends ≡ Some (u, ending.Commit))
TellsCommit u m = ⊥

-- The message brings node k what node j has to say of the action's end: it tells j, or it acknowledges.
pub data BringsAck (k j : ℕ) (u : Uid) (p : Post) : Type 0 where
  Telling : p.from ≡ k → p.to ≡ j → TellsCommit u p.message → BringsAck k j u p
  Acking : p.from ≡ j → p.to ≡ k → p.message ≡ message.Acked (record { act = u }) → BringsAck k j u p

-- The message brings node k the action's end: it asks the action's node, or it tells k.
pub data BringsEnd (k : ℕ) (u : Uid) (p : Post) : Type 0 where
  Querying : p.from ≡ k → p.to ≡ u.node → p.message ≡ message.Query (record { act = u }) → BringsEnd k u p
  Ending : p.to ≡ k → TellsLast u p.message → BringsEnd k u p

-- Nobody waits at the nodes of the header, nothing is under way that asks or answers, and at these nodes, for each node that is to
-- acknowledge an end and for each action that is prepared, what brings it is under way.
pub record AreSettling (of nodes : ℕ → Type 0) (found : ℕ → Option Node) (under : Post → Type 0) : Type 0 where
  pub idle : (k : ℕ) (a : Node) (t : Parts) → of k → found k ≡ Some a → a.live ≡ Some t → AreIdle t.coord
  pub plain : (p : Post) → under p → (asks p.message ≡ None) × (answers p.message ≡ None)
  pub acks : (k : ℕ) (a : Node) (t : Parts) (u : Uid) (i : Intent) (j : ℕ) → nodes k → found k ≡ Some a → a.live ≡ Some t →
      at_uid u t.coord.telling ≡ Some i → has i.nodes j ≡ true → (p : Post) × under p × BringsAck k j u p
  pub ends : (k : ℕ) (a : Node) (u : Uid) → nodes k → found k ≡ Some a → IsPrepared u a.disk → (p : Post) × under p × BringsEnd k u p

-- ---- what is taken

-- Maps of a node are sorted.
pub record AreKept (d : Disk) (t : Parts) : Type 0 where
  pub store : AreSorted d.store.pend
  pub names : AreSorted d.names.pend
  pub telling : AreSorted t.coord.telling

-- A relation gives that messages go to nodes of the header; that maps are sorted; that each record is told, and each end that is told wants
-- somebody's acknowledgement; that where an entry is prepared naming is; and that an action which is prepared somewhere has ended at its
-- node, or is at its commit, and is no serializing action for which records are kept.
pub record SettlesAll (hd : Header) (R : Seen → Type 0) : Type 0 where
  pub within : (M : Seen) (p : Post) → R M → In p M.sent → (nat_le 1 p.to && nat_le p.to hd.nodes) ≡ true
  pub sorted : (n : ℕ) (d : Disk) (t : Parts) (M : Seen) → R (up n d t M) → AreKept d t
  pub records : (n : ℕ) (d : Disk) (t : Parts) (M : Seen) (u : Uid) → R (up n d t M) → is_some (at_uid u d.intents) ≡ true →
      is_some (at_uid u t.coord.telling) ≡ true
  pub naming : (n : ℕ) (d : Disk) (t : Parts) (M : Seen) (u : Uid) → R (up n d t M) → is_prepared u d.names ≡ true → is_some t.naming ≡ true
  pub awaited : (n : ℕ) (d : Disk) (t : Parts) (M : Seen) (u : Uid) (i : Intent) → R (up n d t M) → at_uid u t.coord.telling ≡ Some i →
      i.nodes ≢ []
  pub prepared : (n : ℕ) (d : Disk) (t : Parts) (M : Seen) (k : ℕ) (a : Node) (u : Uid) → R (up n d t M) → (up n d t M).nodes k ≡ Some a →
      IsPrepared u a.disk → u.node ≡ n
      → (is_open u t.coord.tree ≡ true → IsCommitting u t.coord) × (is_deferred u d.intents k ≡ false)

-- ---- what a quiesce leaves

-- After a quiesce that begins where nobody waits and no frame is open, in which every node stays up and no limit is met, each node is idle,
-- whatever stops were to fall in it.
abbrev pub QuiescesSettle : Type 0
QuiescesSettle = (hd : Header) (test : Seen → Bool) → KeepsAsked hd (λ M. test M ≡ true) → SettlesAll hd (λ M. (test M ≡ true) × IsGood M)
    → (e : Asked) (w : World) → Holds hd (λ M. (test M ≡ true) × IsGood M) w → length w.frames ≤ most_frames →
    lowest_from 1 w.frames ≡ None → NobodyWaits w
    → e.event ≡ event.Quiesce → w.over ≡ false → (run_event e w).over ≡ false → AreUp (run_event e w) → AreQuiet (run_event e w)

-- ---- the stated round

-- After a quiesce, giveups of each action that waits then, and a second quiesce, each node is idle: where every node is up at the end of
-- both, whatever stops fall, and no limit is met. So it is behind any giveups where nobody waits then.
abbrev pub RoundsSettle : Type 0
RoundsSettle = (hd : Header) (test : Seen → Bool) → KeepsAsked hd (λ M. test M ≡ true) → AnswersWaits hd (λ M. (test M ≡ true) × IsGood M) →
    SettlesAll hd (λ M. (test M ≡ true) × IsGood M)
    → (r : Run hd) (gs : List Move) (m n : Move) → let u = world_by hd r in let v = moved m u in let w = all_moved gs v in
    m.asked.event ≡ event.Quiesce → AllByRecursion IsGiveUp gs → n.asked.event ≡ event.Quiesce
    → u.over ≡ false → v.over ≡ false → AreUp v → w.over ≡ false → AreGivenUp gs v ⊎ NobodyWaits w → (moved n w).over ≡ false →
    AreUp (moved n w) → AreQuiet (moved n w)
