-- What these facts give: premises of the lock machine's view of coordinators and servers.
--
-- Who gives what that view (`view/`) takes as known of the protocol:
-- `IsSteady`, `IsBeginning.stands`, `IsCalling.path`, request numbers, paths that fit: good nodes (`arj_law_runs/kept`), with one tree of
-- what was begun (`AreOneTree`). `IsLone`, `IsFirst`, `AreTopped`, `AreUnserial`, roots that are empty, `IsWanted`: here. `AreKept`: the
-- machine's view of the root, and known Binds (`Keeping`). `HasLowGrant`: grants in order (`Grants`). `HasNothingAt`, `IsGoodAt`: naming
-- has tops alone, and good objects (`Uppers`). That naming finds the object as it starts: entries stay on the disk (`Entries`). That its
-- count has 32 bits:
-- its journal has few bindings, and it counted no more (`AreSaid` of `arj_law_runs/calls`). That an answer is to what waits: `Requests`.
-- That a repeated vote shows the first: `repeated_votes_agree` of `arj_law_lock/machine`.
-- The whole world as the machine sees it (`running/`) gives what messages show, `IsReached`, `IsFresh`, and that no more is decided
-- than was (`IfDecided`, `IsBacked`).
-- Whole runs (`arj_law_serial/whole`) give `HasNoneLeft` where an abort comes of an action whose unit is over: who acknowledged an end was
-- told of it in that incarnation, or was asked to vote in earlier ones; with what is taken there of records. `IsConfirming.again`: all
-- Confirms of one top are one (`Parted`), and a Confirm was sent of whom naming confirmed, which the machine confirmed too (`running/`).
use Rattle.std.specs.Prelude.{◌≡◌, ◌≢◌, ℕ, true, false, List, Some, Contains}
use Rattle.arj_protocol.specs.Words.{Ask, Head, Uid, asks}
use Rattle.arj_protocol.specs.Words.kind
use Rattle.arj_protocol.specs.Ask.{actor}
use Rattle.arj_protocol.specs.Commit.{Machine, plan_of}
use Rattle.arj_protocol.specs.Coord.{Committing, Coord, Doing, Idle, doing_of, no_root, root_at}
use Rattle.arj_protocol.specs.Copy.{Copy}
use Rattle.arj_protocol.specs.Node.{Parts}
use Rattle.arj_protocol.specs.Order.{at_number}
use Rattle.arj_protocol.specs.Step.{Node, is_waiting_now, sibling_waits, waits_above, waits_below}
use Rattle.arj_protocol.specs.Tree.{Branch, branch_of, ends_of, next_uid}
use Rattle.arj_law_parts.specs.parts.Coords.{IsGoodCoord}
use Rattle.arj_law_parts.specs.parts.Copies.{Paths}
use Rattle.arj_law_runs.specs.calls.Servers.{AreOneCall}
use Rattle.arj_law_runs.specs.calls.Worlds.{KnowsNode}
use Rattle.arj_law_parts.specs.moves.Seen.{In}
use Rattle.arj_promise.specs.Runs.{Post}
use Rattle.arj_law_lock_view.specs.view.Acting.{IsFirst}
use Rattle.arj_law_lock_view.specs.view.Actions.{IsLone}
use Rattle.arj_law_lock_view.specs.view.Inputs.{AreTopped}
use Rattle.arj_law_lock_view.specs.view.Listed.{AreUnserial}
use Rattle.arj_law_lock_view.specs.view.Serving.{IsWanted}
use Rattle.arj_law_lock_view.specs.view.Servers.{Wants}
use Rattle.arj_law_lock_view.specs.view.Telling.{AreOneTree, Family, View}
use Rattle.arj_law_lock_view.specs.facts.Works.{HasNoRoots, KnowsEnds, KnowsWaits}
use Rattle.arj_law_lock_view.specs.facts.Worlds.{IsFromOne}

-- A good coordinator of actions that were begun, which are one tree in the machine.
pub record IsPlaced (g : Family) (c : Coord) : Type 0 where
  pub whole : AreOneTree g
  pub good : IsGoodCoord g.begun g.paths c

-- an action that waits is alone on its path, and below it
abbrev pub WaitersAreLone : Type 0
WaitersAreLone = (g : Family) (c : Coord) (u : Uid) (d : Doing) → IsPlaced g c → KnowsWaits c → doing_of u c ≡ Some d →
    is_waiting_now d.now ≡ true → IsLone g.paths u c

-- An action that isn't refused, since nothing waits above or below it, waits for nothing and is alone there.
abbrev pub FreeAreLone : Type 0
FreeAreLone = (g : Family) (c : Coord) (b : Branch) (d : Doing) → IsPlaced g c → branch_of (actor b.path) c.tree ≡ Some b → doing_of
    (actor b.path) c ≡ Some d → waits_above b c ≡ false → waits_below b c ≡ false → (d.now ≡ Idle) × IsLone g.paths (actor b.path) c

-- Where the commit of a top isn't refused no other top of its root is at its commit.
abbrev pub CommitsAreFirst : Type 0
CommitsAreFirst = (g : Family) (c : Coord) (b : Branch) → IsPlaced g c → branch_of (actor b.path) c.tree ≡ Some b → b.kind ≢ kind.Serial →
    b.kind ≢ kind.Nested → waits_above b c ≡ false → sibling_waits b c ≡ false → IsFirst g.act c (actor b.path)

-- the machine has as top of each action the top of its path
abbrev pub ActionsAreTopped : Type 0
ActionsAreTopped = (g : Family) (c : Coord) → IsPlaced g c → AreTopped g.act c

-- The ends that a coordinator lists, and that its commits bring, are of no serializing action.
abbrev pub ListedAreUnserial : Type 0
ListedAreUnserial = (g : Family) (c : Coord) (root : Uid) → IsPlaced g c → KnowsEnds c → AreUnserial c (ends_of root c.tree)

-- so it is of what commits bring
abbrev pub BroughtAreUnserial : Type 0
BroughtAreUnserial = (g : Family) (c : Coord) (u : Uid) (d : Doing) (m : Machine) → IsPlaced g c → KnowsEnds c → doing_of u c ≡ Some d →
    d.now ≡ Committing m → AreUnserial c (let p = plan_of m in p.ends)

-- a root that begins has nothing yet
abbrev pub NewRootsAreEmpty : Type 0
NewRootsAreEmpty = (c : Coord) → HasNoRoots c → root_at (next_uid c.tree) c ≡ no_root

-- ---- what requests want

-- an Invoke in this message, of any object
abbrev pub SentWants : ℕ → List Post → Wants → Type 0
SentWants x sent wants = (v : View) (p : Post) (h : Head) (a : Ask) → v.x ≡ x → v.wants ≡ wants → In p sent → asks p.message ≡ Some (h, a) →
    IsWanted v h a

-- Where calls by one request are one, and have numbers from 1 on, there is what each request that was sent wants of the object.
abbrev pub RequestsWant : Type 0
RequestsWant = (x : ℕ) (sent : List Post) → AreOneCall sent → ((p : Post) → In p sent → (h : Head) (a : Ask) →
    asks p.message ≡ Some (h, a) → IsFromOne h a) → (wants : Wants) × SentWants x sent wants

-- ---- copies

-- A server finds each copy under its object.
abbrev pub CopiesAreListed : Type 0
CopiesAreListed = (paths : Paths) (sent : List Post) (j : ℕ) (n : Node) (t : Parts) → KnowsNode paths sent j n → n.live ≡ Some t
    → (y : ℕ) (o : Copy) → Contains {X = ℕ × Copy} (let s = t.server in s.objects) (y, o) →
    at_number y (let s = t.server in s.objects) ≡ Some o
