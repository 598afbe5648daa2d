-- A coordinator that asks, asks again, is acknowledged and answers questions, in the whole world.
use Rattle.std.specs.Prelude.{◌≡◌, ◌≢◌, ℕ, Some, Contains}
use Rattle.arj_protocol.specs.Words.{Uid}
use Rattle.arj_protocol.specs.Words.kind
use Rattle.arj_protocol.specs.Asking.{again_all}
use Rattle.arj_protocol.specs.Effect.{Intent}
use Rattle.arj_protocol.specs.Ending.{acked, answer_query}
use Rattle.arj_protocol.specs.Follow.{tick_outs}
use Rattle.arj_protocol.specs.Node.{with_coord}
use Rattle.arj_protocol.specs.Order.{at_uid}
use Rattle.arj_protocol.specs.Tree.{Branch, branch_of}
use Rattle.arj_law_parts.specs.parts.Actions.{Action, act_of}
use Rattle.arj_law_parts.specs.moves.Walks.{Up, Walks}
use Rattle.arj_law_lock_view.specs.facts.Works.{KnowsEnds}
use Rattle.arj_law_lock_view.specs.running.Beside.{Case, HoldsNamingIn, IsSeenIn, Spot, world_at}
use Rattle.arj_law_lock_view.specs.running.Coordinating.{KnowsAsks, coord_at, records_at}
use Rattle.arj_law_lock_view.specs.running.World.{IsSeenSo}

-- what it tells again is on the disk
abbrev pub TellsRecords : Spot → Type 0
TellsRecords s = (u : Uid) (i : Intent) → Contains {X = Uid × Intent} (let c = coord_at s in c.telling) (u, i) →
    (j : Intent) × Contains {X = Uid × Intent} (records_at s) (u, j)

-- A tick: what waits is asked again, what isn't acknowledged is told again, and holders of locks are asked about.
abbrev pub TicksGo : Type 0
TicksGo = (c : Case) (s : Spot) (e : ℕ) → IsSeenIn c (world_at s) → KnowsAsks c (coord_at s) → KnowsEnds (coord_at s) → TellsRecords s
    → Walks (IsSeenSo c) e s.node (tick_outs (record { number = s.node; disk = s.disk; live = Some s.parts }) s.parts) (Up (IsSeenSo c)
    s.node (with_coord s.parts (let d = again_all (let q = coord_at s in q.doings) (coord_at s) in d.part))) s.disk s.seen

-- The action that is asked about was begun at this node, and isn't nested.
abbrev pub IsAskedAbout : Case → Spot → Uid → Type 0
IsAskedAbout c s u = (a : Action) × Contains c.begun a × (act_of a ≡ u) × (a.kind ≢ kind.Nested) × (u.node ≡ s.node)

-- A question about an action: it is told as the record says, or as a kept constituent's commit, or as an abort.
abbrev pub QueriesGo : Type 0
QueriesGo = (c : Case) (s : Spot) (e from : ℕ) (u : Uid) → IsSeenIn c (world_at s) → IsAskedAbout c s u
    → Walks (IsSeenSo c) e s.node (answer_query from u (records_at s) (coord_at s)) (Up (IsSeenSo c) s.node s.parts) s.disk s.seen

-- The root of a record is no nested action, where it is known.
abbrev pub HasWholeRoots : Spot → Uid → Type 0
HasWholeRoots s u = (i : Intent) (b : Branch) → at_uid u (records_at s) ≡ Some i →
    branch_of i.root (let q = coord_at s in q.tree) ≡ Some b → b.kind ≢ kind.Nested

-- A node that was told an end acknowledges it. The last one removes the record from the disk; then, where a record of a constituent was the
-- last to list a node for a serializing action that has ended, the node is told that.
abbrev pub AcksGo : Type 0
AcksGo = (c : Case) (s : Spot) (e from : ℕ) (u : Uid) → IsSeenIn c (world_at s) → HoldsNamingIn c s.node (let t = s.parts in t.naming) →
    HasWholeRoots s u
    → let D = acked from u (records_at s) (coord_at s) in
    Walks (IsSeenSo c) e s.node D.outs (Up (IsSeenSo c) s.node (with_coord s.parts D.part)) s.disk s.seen
