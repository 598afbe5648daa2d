-- What was asked: answers go to who asked, what a server has of bindings and of the last requests of actions was asked of some server, and
-- each new binding is one that naming made, as a line says, and keeps for its top.
use Rattle.std.specs.Prelude.{Bool, List, None, Option, Some, true, ℕ, ⊤, ◌≡◌, ◌≤◌, ◌⊎◌}
use Rattle.std.specs.List.{AllByRecursion}
use Rattle.arj_base.specs.Uid.{object}
use Rattle.arj_protocol.specs.Words.{Ask, Asked, Binding, Body, Head, Header, ObjectState, Op, Path, Uid, asks, is_on}
use Rattle.arj_protocol.specs.Words.ask
use Rattle.arj_protocol.specs.Words.loaded
use Rattle.arj_protocol.specs.Ask.{Reply, actor, answers, asked_by, top_of}
use Rattle.arj_protocol.specs.Copy.{Copy}
use Rattle.arj_protocol.specs.Node.{Parts}
use Rattle.arj_protocol.specs.Server.{Kept, Server}
use Rattle.arj_protocol.specs.Step.{Node}
use Rattle.arj_law_parts.specs.moves.Seen.{In}
use Rattle.arj_promise.specs.Runs.{Post, Seen}
use Rattle.arj_law_serial.specs.joint.Forms.{AreSo, kind_of}
use Rattle.arj_protocol.specs.Call.{At, AtActivate, AtLoad, AtNote, Goal, Run, Steps}
use Rattle.arj_protocol.specs.Coord.{Calling, Coord, Doing, doing_of}
use Rattle.arj_protocol.specs.Words.body
use Rattle.arj_protocol.specs.Words.bound
use Rattle.arj_protocol.specs.Named.{Made, Named}
use Rattle.arj_protocol.specs.Naming.{Naming}
use Rattle.arj_promise.specs.Waiting.{IsSaid}
use Rattle.arj_protocol.specs.Order.{at_number, at_uid, binding_number}

-- ---- servers

-- a request of the action with this number was sent
pub record WasAsked (sent : List Post) (u : Uid) (req : ℕ) : Type 0 where
  pub post : Post
  pub head : Head
  pub ask : Ask
  pub posted : In post sent
  pub asking : asks post.message ≡ Some (head, ask)
  pub actor_is : actor head.path ≡ u
  pub number : head.req ≡ req

-- some server was asked for a copy of the object under this binding
pub record WasBrought (sent : List Post) (x : ℕ) (b : Binding) : Type 0 where
  pub post : Post
  pub head : Head
  pub state : ObjectState
  pub posted : In post sent
  pub asking : asks post.message ≡ Some (head, ask.Activate b state)
  pub object_is : (let u = state.uid in u.num) ≡ x

-- so it is of each answer that a server kept, and of each copy
pub record ServerWasAsked (sent : List Post) (s : Server) : Type 0 where
  pub kept : AllByRecursion (λ (e : Uid × Kept). WasAsked sent e.0 (let k = e.1 in k.req)) s.kept
  pub copies : AllByRecursion (λ (e : ℕ × Copy). WasBrought sent e.0 (let c = e.1 in c.binding)) s.objects

-- ---- answers

-- the request to which this answers: it came from the node to which the answer goes
pub record IsAnsweredBy (sent : List Post) (p : Post) (a : Asked) (h : Head) (ask : Ask) : Type 0 where
  pub post : Post
  pub posted : In post sent
  pub from : post.from ≡ p.to
  pub asking : asks post.message ≡ Some (h, ask)
  pub asker : asked_by h ≡ a

-- what is claimed of a binding that was made: for whom, of which object, to which server, and by which incarnation of naming
abbrev pub Claims : Type 1
Claims = Path → ℕ → Binding → ℕ → ℕ → Type 0

-- A state that is sent is of the object for which was asked. A new binding goes to a Bind, and this is claimed of it.
abbrev pub ReplyWasAsked : List Post → Claims → Post → Asked → Reply → Type 0
ReplyWasAsked sent claims p a (Reply.Loaded (loaded.State st)) =
    (h : Head) × (x : ℕ) × IsAnsweredBy sent p a h (ask.Load x) × (st.uid ≡ object x)
ReplyWasAsked sent claims p a (Reply.Bound (bound.Make b server g stores)) = (h : Head) × (x : ℕ) × (include : Bool) × (avoid : Binding)
    × IsAnsweredBy sent p a h (ask.Bind x include avoid) × claims h.path x b server g
ReplyWasAsked sent claims p a r = ⊤

-- ---- calls

-- naming answered a Bind of this path for the object with this binding, made in this incarnation of its own, and this is claimed of it
pub record WasNamed (sent : List Post) (claims : Claims) (p : Path) (x : ℕ) (b : Binding) (g : ℕ) : Type 0 where
  pub reply : Post
  pub asked : Asked
  pub server : ℕ
  pub stores : List ℕ
  pub head : Head
  pub include : Bool
  pub avoid : Binding
  pub posted : In reply sent
  pub answer : answers reply.message ≡ Some (asked, Reply.Bound (bound.Make b server g stores))
  pub by : IsAnsweredBy sent reply asked head (ask.Bind x include avoid)
  pub path : head.path ≡ p
  pub claim : claims p x b server g

-- a step of a call that has no known binding stands on one that naming answered so, and takes a state of the object to a server
abbrev pub NamedAt : List Post → Claims → Goal → Path → ℕ → At → Type 0
NamedAt sent claims g p x (AtLoad k n rest) = (o : Op) → g ≡ Run o → WasNamed sent claims p x k.binding k.grant
NamedAt sent claims g p x (AtActivate k st) = WasNamed sent claims p x k.binding k.grant × ((let u = st.uid in u.num) ≡ x)
NamedAt sent claims g p x (AtNote k i) = WasNamed sent claims p x k.binding k.grant
NamedAt sent claims g p x at = ⊤

-- so it is of a call or an include under way
abbrev pub StepNamed : List Post → Claims → Steps → Type 0
StepNamed sent claims s = NamedAt sent claims s.goal s.path s.x s.at

-- so it is of all of a coordinator
abbrev pub StepsNamed : List Post → Claims → Coord → Type 0
StepsNamed sent claims c = (u : Uid) (d : Doing) (s : Steps) → doing_of u c ≡ Some d → d.now ≡ Calling s → StepNamed sent claims s

-- so it is of the binding under which a server is asked for a copy
abbrev pub ActivateNamed : List Post → Claims → Head → Binding → ObjectState → Type 0
ActivateNamed sent claims h b st = (g : ℕ) × WasNamed sent claims h.path (let u = st.uid in u.num) b g

-- ---- naming

-- a line said of each binding that naming made
abbrev pub NamedWasSaid : (Body → Type 0) → ℕ → Named → Type 0
NamedWasSaid said x o = AllByRecursion (λ (e : Uid × Made). said (body.Bound x (let m = e.1 in m.binding) (let m = e.1 in m.server))) o.made

-- so it is of naming, where it is there
abbrev pub MadeWasSaid : (Body → Type 0) → Option Naming → Type 0
MadeWasSaid said None = ⊤
MadeWasSaid said (Some o) = AllByRecursion (λ (e : ℕ × Named). NamedWasSaid said e.0 e.1) o.objects

-- the last binding that naming made for this top isn't less
pub record HasMade (objects : List (ℕ × Named)) (u : Uid) (x : ℕ) (b : Binding) : Type 0 where
  pub named : Named
  pub made : Made
  pub there : at_number x objects ≡ Some named
  pub of : at_uid u (let o = named in o.made) ≡ Some made
  pub above : binding_number b ≤ binding_number (let m = made in m.binding)

-- or it was told of its end
abbrev pub StandsIn : Naming → Uid → ℕ → Binding → Type 0
StandsIn n u x b = (is_on n.told u ≡ true) ⊎ HasMade n.objects u x b

-- So it is at naming of this incarnation, which isn't above that of the disk.
pub record StandsAt (n : Node) (p : Path) (x : ℕ) (b : Binding) (g : ℕ) : Type 0 where
  pub low : g ≤ (let d = n.disk in d.inc)
  pub stands : (t : Parts) (o : Naming) → n.live ≡ Some t → t.naming ≡ Some o → g ≡ o.inc → StandsIn o (top_of p) x b

-- What is known of each binding that was made: a line said so, and it is the last one of its top, or a greater one is.
abbrev pub WasMade : Seen → Claims
WasMade M p x b server g = IsSaid M.lines (body.Bound x b server) × ((n : Node) → M.nodes 1 ≡ Some n → StandsAt n p x b g)

-- naming is at node 1, and its incarnation isn't above that of the disk
abbrev pub IsPlaced : ℕ → ℕ → Option Naming → Type 0
IsPlaced j inc o = (n : Naming) → o ≡ Some n → (j ≡ 1) × (n.inc ≤ inc)

-- ---- all nodes

-- So it is of each answer that was sent, of each request to activate a copy, and of each node that is up; lines say which bindings naming
-- made, and it is at node 1.
pub record WereAsked (M : Seen) : Type 0 where
  pub replies : (p : Post) (a : Asked) (r : Reply) → In p M.sent → answers p.message ≡ Some (a, r) → ReplyWasAsked M.sent (WasMade M) p a r
  pub activates : (p : Post) (h : Head) (b : Binding) (st : ObjectState) → In p M.sent → asks p.message ≡ Some (h, ask.Activate b st) →
      ActivateNamed M.sent (WasMade M) h b st
  pub servers : (j : ℕ) (n : Node) (t : Parts) → M.nodes j ≡ Some n → n.live ≡ Some t → ServerWasAsked M.sent t.server
  pub steps : (j : ℕ) (n : Node) (t : Parts) → M.nodes j ≡ Some n → n.live ≡ Some t → StepsNamed M.sent (WasMade M) t.coord
  pub namings : (j : ℕ) (n : Node) (t : Parts) → M.nodes j ≡ Some n → n.live ≡ Some t → MadeWasSaid (IsSaid M.lines) t.naming
  pub places : (j : ℕ) (n : Node) (t : Parts) → M.nodes j ≡ Some n → n.live ≡ Some t → IsPlaced j (let d = n.disk in d.inc) t.naming

-- states are of their objects' classes
abbrev pub HaveForms : Header → Seen → Type 0
HaveForms hd M = (x : ℕ) → AreSo (kind_of hd x) M
