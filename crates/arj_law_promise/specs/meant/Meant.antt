-- Nothing that is sent in a run fails to be meant, so that every message is void by the table alone.
use Rattle.std.specs.Prelude.{◌≡◌, ◌⊎◌, ℕ, true, false, List, [], ◌∷◌, Some, map}
use Rattle.std.specs.List.{AllByRecursion}
use Rattle.arj_protocol.specs.Words.{Ask, Asked, Binding, Head, Header, Message, ObjectState, asks, object}
use Rattle.arj_protocol.specs.Words.ask
use Rattle.arj_protocol.specs.Ask.{Reply, answers}
use Rattle.arj_protocol.specs.Node.{Parts, are_of_objects, handle, is_meant, stand_once, taken}
use Rattle.arj_protocol.specs.Step.{Node, class_at, lacks_op, step}
use Rattle.arj_protocol.specs.Step as input
use Rattle.arj_protocol.specs.Tree.{at_place}
use Rattle.arj_protocol.specs.World.{Arm, Frame, World, counted, deliver, tick_up}
use Rattle.arj_law_lock_view.specs.facts.Entries.{HasObject}
use Rattle.arj_law_parts.specs.moves.Keeps.{Holds, KeepsAsked}
use Rattle.arj_law_parts.specs.moves.Seen.{In}
use Rattle.arj_promise.specs.Runs.{HeaderFits, Post, Run, Seen, world_by}
use Rattle.arj_law_promise.specs.meant.Void.{IsVoidWhere, SaysVoidWhere, awaits, frame_is_void, is_void_in}
use Rattle.arj_law_promise.specs.waiting.Waits.{WaitsAreKnown}

-- ---- requests

-- A request is about objects of the header. A state that it brings to a server is of the object, an operation is one of the object's class,
-- a store is to prepare states of objects, each of another one, and no object is confirmed twice.
abbrev pub AskFits : Header → Ask → Type 0
AskFits hd (ask.Bind x include avoid) = HasObject hd x
AskFits hd (ask.Load x) = HasObject hd x
AskFits hd (ask.Activate b st) = HasObject hd st.uid.num × (st.uid ≡ object st.uid.num)
AskFits hd (ask.Record x b i g) = HasObject hd x
AskFits hd (ask.Invoke x b i ends op) = HasObject hd x × (lacks_op op (class_at x hd) ≡ false)
AskFits hd (ask.Vote i ties ends) = AllByRecursion (λ (e : ℕ × Binding). HasObject hd e.0) ties
AskFits hd (ask.Prepare states) = (are_of_objects states ≡ true) × AllByRecursion (λ (s : ObjectState). HasObject hd s.uid.num) states
AskFits hd (ask.Confirm grants excluded included) =
    (stand_once (map (λ (g : ℕ × ℕ). g.0) grants) ≡ true) × AllByRecursion (λ (g : ℕ × ℕ). HasObject hd g.0) grants

-- so it is of each request that was sent
abbrev pub RequestsFit : Header → Seen → Type 0
RequestsFit hd M = (p : Post) (h : Head) (a : Ask) → In p M.sent → asks p.message ≡ Some (h, a) → AskFits hd a

-- beside what is known of whoever waits
abbrev pub MeantAreKnown : Header → Seen → Type 0
MeantAreKnown hd M = WaitsAreKnown hd M × RequestsFit hd M

-- each handler keeps it
abbrev pub HandlersKeepMeant : Type 0
HandlersKeepMeant = (hd : Header) → HeaderFits hd → KeepsAsked hd (MeantAreKnown hd)

-- ---- messages that come

-- an answer that no action awaits
abbrev pub IsUnawaited : ℕ → Parts → Message → Type 0
IsUnawaited from t m = (a : Asked) × (r : Reply) × (answers m ≡ Some (a, r)) × (awaits from a r t.coord ≡ false)

-- A message that comes to a node can be meant, or is an answer that nobody awaits, as one of an earlier call. So the node makes of it what
-- it
-- says; and it is void exactly by the table, in the words of the header.
pub record IsMeantAt (hd : Header) (p : Post) (n : Node) (t : Parts) : Type 0 where
  pub meant : (is_meant t p.message ≡ true) ⊎ IsUnawaited p.from t p.message
  pub as_said : taken n.number n.disk t p.from p.message ≡ handle n.number n.disk t p.from p.message
  pub void : IsVoidWhere (is_void_in hd n.number n.disk t p.from p.message) (taken n.number n.disk t p.from p.message)

-- so it is of each message that was sent, at its node at any later moment at which that is up
abbrev pub AreMeant : Header → Seen → Type 0
AreMeant hd M = (p : Post) (n : Node) (t : Parts) → In p M.sent → M.nodes p.to ≡ Some n → n.live ≡ Some t → n.number ≡ p.to → IsMeantAt hd p
    n t

-- so much is given at each moment of a run
abbrev pub KnownAreMeant : Type 0
KnownAreMeant = (hd : Header) → HeaderFits hd → (M : Seen) → MeantAreKnown hd M → AreMeant hd M

-- so it is behind every run
abbrev pub RunsMean : Type 0
RunsMean = (hd : Header) → HeaderFits hd → (r : Run hd) → Holds hd (AreMeant hd) (world_by hd r)

-- ---- frames

-- the delivery of this frame to this node is void exactly by the table
abbrev pub IsVoidExactly : Header → ℕ → Frame → Node → Type 0
IsVoidExactly hd k f n = SaysVoidWhere k n (step hd n (input.Frame k f.from f.message))
    (frame_is_void hd n.number n.disk n.live f.from f.message)

-- so it is of each frame that may be delivered now
abbrev pub FramesAreVoidExactly : Header → World → Type 0
FramesAreVoidExactly hd w = (k : ℕ) (f : Frame) (n : Node) → at_place k w.frames ≡ Some f → at_place f.to w.nodes ≡ Some n → IsVoidExactly
    hd k f n

-- What a settle and a quiesce do in one event: a frame is delivered, or a node that is up ticks.
pub data Part : Type 0 where
  Delivers : ℕ → Part
  Ticks : ℕ → Part

-- the world after it
abbrev pub part_done : Part → World → World
part_done (Delivers k) w = deliver k w
part_done (Ticks n) w = tick_up n w

-- and after some of these
abbrev pub parts_done : List Part → World → World
parts_done [] w = w
parts_done (p ∷ ps) w = parts_done ps (part_done p w)

-- So it is behind every run, and within the event behind it, whatever stops may fall there.
abbrev pub RunsAreVoidExactly : Type 0
RunsAreVoidExactly = (hd : Header) → HeaderFits hd → (r : Run hd) (arms : List (ℕ × Arm)) (ps : List Part) →
    FramesAreVoidExactly hd (parts_done ps (record (counted (world_by hd r)) { arms = arms }))
