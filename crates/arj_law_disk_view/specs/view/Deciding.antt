-- Decisions, their records, and who is told, in the machine's terms.
use Rattle.std.specs.Prelude.{◌≡◌, ℕ, true, false, List, Option, Some, None}
use Rattle.arj_protocol.specs.Words.{Uid}
use Rattle.arj_protocol.specs.Commit as commit
use Rattle.arj_protocol.specs.Commit.{participants, has_record}
use Rattle.arj_protocol.specs.Effect.{Pair, Intent}
use Rattle.arj_protocol.specs.Order as order
use Rattle.arj_protocol.specs.Order.{at_uid, put_uid, without_uid, uid_number}
use Rattle.arj_law_disk.specs.machine.Core.{Core}
use Rattle.arj_law_disk.specs.machine.Effects.{World, Effect, Intend, Decide, Remove, EndBare, Halt, Allowed, MaySend, after}
use Rattle.arj_law_disk.specs.machine.Messages as mail
use Rattle.arj_law_disk.specs.machine.Messages.{IsOver}
use Rattle.arj_law_disk.specs.machine.State.{State, decided, undecided}
use Rattle.arj_law_disk.specs.machine.Words.{In}
use Rattle.arj_law_disk_view.specs.view.Pairs.{AreSorted}
use Rattle.arj_law_disk_view.specs.view.Stores.{SeesStore}
use Rattle.arj_law_disk_view.specs.view.Entries.{SeesEntry}
use Rattle.arj_law_disk_view.specs.view.Asking.{SeesConfirming}

-- the nodes of a record that is there
abbrev pub nodes_of : Option Intent → Option (List ℕ)
nodes_of None = None
nodes_of (Some i) = Some i.nodes

-- The records on a node's disk: each is of a top of this node, and of these the machine has the same.
pub record SeesRecords (k : ℕ) (intents : List (Uid × Intent)) (S : State) : Type 0 where
  pub sorted : AreSorted intents
  pub own : (u : Uid) (i : Intent) → at_uid u intents ≡ Some i → u.node ≡ k
  pub is : (u : Uid) → u.node ≡ k → S.intent (uid_number u) ≡ nodes_of (at_uid u intents)

-- What a decision, a record or an end may change: stages, answers, records and decisions; and no outcome is opened.
pub record IsCalm (W V : World) : Type 0 where
  pub rest :
      V.disk ≡ record W.disk { stage = V.disk.stage; got = V.disk.got; intent = V.disk.intent; bare = V.disk.bare; tops = V.disk.tops }
  pub outcomes : (z : ℕ) → W.disk.begun z ≡ true → undecided V.disk z ≡ true → undecided W.disk z ≡ true

-- the same, under one effect
abbrev pub Stills : World → Effect → Type 0
Stills W e = IsCalm W (after W e)

-- ---- what holds

-- The record of a decision may be written, with the participants; it is the machine's.
abbrev pub RecordIsWritten : Type 0
RecordIsWritten = (x k : ℕ) (W : World) (u : Uid) (i : Intent) (p : commit.Plan) (intents : List (Uid × Intent)) → Core W.disk →
    SeesConfirming x W.disk (uid_number u) p → p.confirmed ≡ true
    → In (mail.Confirmed (uid_number u)) W.sent → SeesRecords k intents W.disk → u.node ≡ k → i.nodes ≡ participants p
    → Allowed W (Intend (uid_number u) (participants p)) × Stills W (Intend (uid_number u) (participants p))
    × SeesRecords k (put_uid u i intents) (after W (Intend (uid_number u) (participants p))).disk

-- with its record there a top that isn't decided may be
abbrev pub DecisionIsMade : Type 0
DecisionIsMade = (k : ℕ) (W : World) (u : Uid) (i : Intent) (intents : List (Uid × Intent)) → SeesRecords k intents W.disk →
    at_uid u intents ≡ Some i → decided W.disk (uid_number u) ≡ false
    → Allowed W (Decide (uid_number u)) × Stills W (Decide (uid_number u)) × SeesRecords k intents (after W (Decide (uid_number u))).disk

-- a top in its commit isn't decided
abbrev pub CommitsAreUndecided : Type 0
CommitsAreUndecided = (x : ℕ) (S : State) (t : ℕ) (p : commit.Plan) → Core S → SeesConfirming x S t p → decided S t ≡ false

-- a commit that needs no record sent no state: it may end without one
abbrev pub BareCommitEnds : Type 0
BareCommitEnds = (x k : ℕ) (W : World) (u : Uid) (p : commit.Plan) (intents : List (Uid × Intent)) →
    SeesConfirming x W.disk (uid_number u) p → p.confirmed ≡ true → has_record p ≡ false
    → In (mail.Confirmed (uid_number u)) W.sent → SeesRecords k intents W.disk → u.node ≡ k → at_uid u intents ≡ None
    → Allowed W (EndBare (uid_number u)) × Stills W (EndBare (uid_number u)) × SeesRecords k intents (after W (EndBare (uid_number u))).disk

-- the coordinator may let an action go at any time
abbrev pub ActionsMayHalt : Type 0
ActionsMayHalt = (k : ℕ) (W : World) (t : ℕ) (intents : List (Uid × Intent)) → SeesRecords k intents W.disk →
    Stills W (Halt t) × SeesRecords k intents (after W (Halt t)).disk

-- once each node of it has acknowledged, a record may go
abbrev pub RecordIsRemoved : Type 0
RecordIsRemoved = (k : ℕ) (W : World) (u : Uid) (i : Intent) (intents : List (Uid × Intent)) → SeesRecords k intents W.disk →
    at_uid u intents ≡ Some i
    → ((m : ℕ) → order.has i.nodes m ≡ true → In (mail.Acked (uid_number u) m) W.sent)
    → Allowed W (Remove (uid_number u) i.nodes) × Stills W (Remove (uid_number u) i.nodes)
    × SeesRecords k (without_uid u intents) (after W (Remove (uid_number u) i.nodes)).disk

-- whom a decision with a record tells: a participant that it is committed, any other node that it isn't
abbrev pub DecisionTells : Type 0
DecisionTells = (W : World) (u : Uid) (m : ℕ) (nodes : List ℕ) → Core W.disk → decided W.disk (uid_number u) ≡ true →
    W.disk.intent (uid_number u) ≡ Some nodes
    → MaySend W (mail.ToldCommit (uid_number u) m) × (order.has nodes m ≡ false → MaySend W (mail.ToldAbort (uid_number u) m))

-- An action that is over without a record that lists the node may be told as aborted: one that never was committed, and one
-- that was committed and whose record doesn't list the node; of a commit without a record only once its root is over.
abbrev pub EndsMayBeTold : Type 0
EndsMayBeTold = (k : ℕ) (W : World) (u : Uid) (m : ℕ) (intents : List (Uid × Intent)) → SeesRecords k intents W.disk → u.node ≡ k
    → ((i : Intent) → at_uid u intents ≡ Some i → (order.has i.nodes m ≡ false) × (decided W.disk (uid_number u) ≡ true))
    → (W.disk.bare (uid_number u) ≡ true → IsOver (after W (Halt (uid_number u))).disk (W.disk.root (uid_number u)))
    → MaySend (after W (Halt (uid_number u))) (mail.ToldAbort (uid_number u) m)

-- the other places are seen as they were
abbrev pub StoresStayCalm : Type 0
StoresStayCalm = (x s : ℕ) (d : Pair) (W V : World) → IsCalm W V → SeesStore x s d W.disk → SeesStore x s d V.disk

-- the entry is seen as it was
abbrev pub EntryStaysCalm : Type 0
EntryStaysCalm = (x : ℕ) (d : Pair) (W V : World) → IsCalm W V → SeesEntry x d W.disk → SeesEntry x d V.disk
