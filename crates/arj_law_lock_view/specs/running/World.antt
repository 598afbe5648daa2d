-- What is shown of the whole world: what each handler leaves seen, wherever a stop falls.
use Rattle.std.specs.Prelude.{◌+◌, ◌≡◌, ℕ, true, false, Bool, List, [], is_some, not, Contains}
use Rattle.arj_protocol.specs.Words.{Body, Header, Message}
use Rattle.arj_protocol.specs.Words.message
use Rattle.arj_protocol.specs.Ask.{answers}
use Rattle.arj_protocol.specs.Effect.{Disk, Effect}
use Rattle.arj_protocol.specs.Node.{Parts, Took, handle, is_meant}
use Rattle.arj_protocol.specs.Step.{disk_by, parts_in, restart_outs}
use Rattle.arj_protocol.specs.World.{world_from}
use Rattle.arj_law_lock.specs.machine.Machine.{Run}
use Rattle.arj_law_lock.specs.machine.State.{State}
use Rattle.arj_law_parts.specs.parts.Actions.{Action}
use Rattle.arj_law_parts.specs.moves.Seen.{AreQuiet, In, Within, down, said}
use Rattle.arj_start.specs.Start.{Start}
use Rattle.arj_promise.specs.Runs.{Post, Seen, see}
use Rattle.arj_law_parts.specs.moves.Walks.{Up, Walks, halted}
use Rattle.arj_law_lock_view.specs.view.Calling.{IsReached}
use Rattle.arj_law_lock_view.specs.running.Beside.{Case, HoldsNamingIn, IsSeenIn, KnowsEntry, KnowsSpot, Spot, world_at}
use Rattle.arj_law_lock_view.specs.running.Fixed.{Agrees, Fixed}
use Rattle.arj_law_lock_view.specs.running.Posts.{IsPostSeen}
use Rattle.arj_law_lock_view.specs.running.Sees.{SeesLocks}
use Rattle.arj_law_lock_view.specs.running.Tied.{AreTied}

-- Where what is fixed agrees with it, the object is seen, in a state to which the machine has gone, and to which the journal is tied.
abbrev pub IsSeenSo : Case → Seen → Type 0
IsSeenSo c M = Agrees c.fixed c.x c.begun M.sent →
    (S : State) × SeesLocks c.fixed c.x c.begun S M × AreTied c.fixed c.x M.lines S × Run c.state S

-- the message isn't for the coordinator
abbrev pub is_for_parts : Message → Bool
is_for_parts (message.Acked m) = false
is_for_parts (message.Query m) = false
is_for_parts m = not (is_some (answers m))

-- A node takes a message that isn't for its coordinator: a request, ends that are told, a Hello. The object is seen again, wherever a
-- stop falls. Naming has few bindings and a good object after it too.
abbrev pub MessagesGo : Type 0
MessagesGo = (c : Case) (s : Spot) (e from : ℕ) (m : Message) (v : Parts) (outs : List Effect)
    → IsSeenIn c (world_at s) → KnowsSpot c s → HoldsNamingIn c s.node v.naming → In (record { from = from; to = s.node; message = m })
    (let M = s.seen in M.sent) → is_for_parts m ≡ true → is_meant s.parts m ≡ true → handle s.node s.disk s.parts from m ≡ Took v outs
    → Walks (IsSeenSo c) e s.node outs (Up (IsSeenSo c) s.node v) s.disk s.seen

-- A node stops, or is down and is said to have stopped: the object is seen again.
abbrev pub StopsGo : Type 0
StopsGo = (c : Case) (s : Spot) (e : ℕ) → IsSeenIn c (world_at s) → HoldsNamingIn c s.node (let t = s.parts in t.naming) →
    IsSeenSo c (halted e s.node s.disk s.seen)

-- a node that is down is said to have stopped
abbrev pub DownStays : Type 0
DownStays = (c : Case) (e k : ℕ) (d : Disk) (M : Seen) → IsSeenIn c (down k d M) → IsSeenSo c (halted e k d M)

-- A node restarts, by what its disk says: a top of which the record is found is committed by the line of its recovery, the machine's
-- server and its naming start anew, and the object is seen again, wherever a stop falls.
abbrev pub RestartsGo : Type 0
RestartsGo = (hd : Header) (c : Case) (e k : ℕ) (d : Disk) (M : Seen) → IsSeenIn c (down k d M) → KnowsEntry c.x k d
    → Walks (IsSeenSo c) e k (restart_outs hd k (d.inc + 1) d) (Up (IsSeenSo c) k (parts_in k (d.inc + 1) d)) d M

-- As a run begins the object is seen, where it has an entry, for all that may be fixed.
abbrev pub FirstGoes : Type 0
FirstGoes = (hd : Header) (st : Start) (f : Fixed) (x : ℕ) → KnowsEntry x 1 (disk_by hd st 1) → let M = see [] (world_from hd st) in
    (S : State) × SeesLocks f x [] S M × AreTied f x M.lines S

-- Lines leave it seen, whatever they say.
abbrev pub LinesStay : Type 0
LinesStay = (c : Case) (e : ℕ) (bs : List Body) (M : Seen) → SeesLocks c.fixed c.x c.begun c.state M →
    SeesLocks c.fixed c.x c.begun c.state (said e bs M)

-- The journal stays tied with lines at which no view looks.
abbrev pub QuietsStay : Type 0
QuietsStay = (c : Case) (e : ℕ) (bs : List Body) (M : Seen) → AreQuiet bs → IsSeenIn c M →
    AreTied c.fixed c.x (let N = said e bs M in N.lines) c.state

-- What a message shows it shows in every later state of the machine, as more is sent and more actions begin.
abbrev pub PostsStay : Type 0
PostsStay = (f : Fixed) (x : ℕ) (begun later : List Action) (sent more : List Post) (p : Post) (S T : State)
    → ((a : Action) → Contains begun a → Contains later a) → Within sent more → IsReached S → Run S T → IsPostSeen f x begun sent S p →
    IsPostSeen f x later more T p
