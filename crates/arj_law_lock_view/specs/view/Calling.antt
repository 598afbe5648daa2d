-- What a coordinator does with a call on the object, in the machine: it begins, is answered step by step, and is given up.
use Rattle.std.specs.Prelude.{⊤, ◌≡◌, ◌≢◌, ◌⊎◌, ◌≤◌, ◌+◌, ℕ, true, false, Some, ◌∷◌, is_some}
use Rattle.arj_protocol.specs.Words.{Uid, Op, Value, BoundReply, answer_of, value_after, writes}
use Rattle.arj_protocol.specs.Words.bound
use Rattle.arj_protocol.specs.Words.kind
use Rattle.arj_protocol.specs.Words.loaded
use Rattle.arj_protocol.specs.Words.invoked
use Rattle.arj_protocol.specs.Ask.{Reply, actor, top_of}
use Rattle.arj_protocol.specs.Asking.{call, give_up_call, heard_call, include}
use Rattle.arj_protocol.specs.Call.{At, AtActivate, AtBind, AtInvoke, AtLoad, AtNote, Include, Run, Steps}
use Rattle.arj_protocol.specs.Coord.{Calling, Coord, Doing, Idle, doing_of}
use Rattle.arj_protocol.specs.Order.{binding_number}
use Rattle.arj_protocol.specs.Tree.{Branch, branch_of}
use Rattle.arj_law_lock.specs.machine.Actions.{Act, In, root, top}
use Rattle.arj_law_lock.specs.machine.Machine.{Run as MachineRun, start}
use Rattle.arj_law_lock.specs.machine.State as machine
use Rattle.arj_law_lock.specs.machine.State.{Call, Request, State}
use Rattle.arj_law_lock.specs.machine.Steps.{IsCurrent, LoadsTheLast}
use Rattle.arj_law_parts.specs.parts.Copies.{Paths}
use Rattle.arj_law_lock_view.specs.view.Acts.{Acts}
use Rattle.arj_law_lock_view.specs.view.Actions.{IsLone, IsSteady}
use Rattle.arj_law_lock_view.specs.view.Copies.{Codes, state_code}
use Rattle.arj_law_lock_view.specs.view.Ending.{KeepsEnds}
use Rattle.arj_law_lock_view.specs.view.Going.{Goes, ShowsBound, ShowsNoted}
use Rattle.arj_law_lock_view.specs.view.Named.{binding_at}
use Rattle.arj_law_lock_view.specs.view.Roots.{SeesCoord, invoke_of}

-- the machine came here by a run
abbrev pub IsReached : State → Type 0
IsReached S = (v : ℕ) × MachineRun (start v) S

-- Only what belongs to one unit changed: its actions that hadn't ended, the binding kept for it, new calls of it; a binding's
-- server and maker stay, and so does the incarnation once it was heard.
pub record OnlyCalled (unit : ℕ) (S T : State) : Type 0 where
  pub rest : T ≡ record S { now = T.now; binding = T.binding; action = T.action; kept = T.kept; calls = T.calls; net = T.net }
  pub actions : (a : Act) → root a ≢ unit → T.action a ≡ S.action a
  pub ended : (a : Act) → 3 ≤ (S.action a).stage → T.action a ≡ S.action a
  pub kept : (k : ℕ) → k ≢ unit → T.kept k ≡ S.kept k
  pub bindings : (b : ℕ) → ((T.binding b).server ≡ (S.binding b).server) × ((T.binding b).maker ≡ (S.binding b).maker)
  pub named : (b : ℕ) → ((S.binding b).named ≡ true) ⊎ (root (S.binding b).maker ≢ unit) → T.binding b ≡ S.binding b
  pub calls : (d : Call) → In d S.calls → In d T.calls
  pub fresh : (d : Call) → In d T.calls → In d S.calls ⊎ (root d.act ≡ unit)
  pub sent : (m : machine.Message) → In m S.net → In m T.net

-- An action of the coordinator's, open, whose top the machine has, and nothing waits above or below it.
pub record IsAtWork (act : Acts) (paths : Paths) (c : Coord) (u : Uid) (b : Branch) (d : Doing) : Type 0 where
  pub steady : IsSteady act paths c
  pub there : branch_of u c.tree ≡ Some b
  pub unended : is_some b.ended ≡ false
  pub works : doing_of u c ≡ Some d
  pub lone : IsLone paths u c
  pub topped : top (act u) ≡ act (top_of b.path)

-- it waits in this step of a call on the object
pub record IsCalling (x : ℕ) (b : Branch) (d : Doing) (s : Steps) (o : Op) : Type 0 where
  pub calling : d.now ≡ Calling s
  pub about : s.x ≡ x
  pub goal : s.goal ≡ Run o
  pub path : s.path ≡ b.path
  pub last : s.req ≡ d.req

-- ---- answers

-- an answer to a call isn't that to an include
abbrev pub IsToCall : BoundReply → Type 0
IsToCall (bound.Write g stores) = ⊥
IsToCall _ = ⊤

-- an Invoke was applied, and the answer is that of the operation at the value that it met, whoever wrote that
pub record IsApplied (code : Codes) (q : Request) (o : Op) (v : Value) (S : State) : Type 0 where
  pub answer : machine.Answer
  pub sent : In (machine.Invoked answer) S.net
  pub of : answer.request ≡ q
  pub by : Act
  pub sees : answer.sees ≡ code v by
  pub gives : answer.gives ≡ code (value_after o v) (top q.act)

-- What an answer shows to the step that waits for it; one of another kind is none.
abbrev pub ShowsAnswer : Acts → Codes → Steps → Op → State → At → Reply → Type 0
ShowsAnswer act code s o S (AtBind avoid) (Reply.Bound r) = IsToCall r × ShowsBound act (top_of s.path) avoid S (Some r)
ShowsAnswer act code s o S (AtLoad k n rest) (Reply.Loaded (loaded.State st)) =
    IsCurrent S.naming (let b = binding_at S k.binding in b.maker) (binding_number k.binding) → LoadsTheLast S (state_code act code st)
ShowsAnswer act code s o S (AtLoad k n rest) (Reply.Loaded (loaded.InDoubt h)) = ⊤
ShowsAnswer act code s o S (AtActivate k st) (Reply.Activated i) = In (machine.Activated (binding_number k.binding) i) S.net
ShowsAnswer act code s o S (AtNote k i) (Reply.Noted r) = ShowsNoted k.binding S (Some r)
ShowsAnswer act code s o S (AtInvoke k i) (Reply.Invoked (invoked.Answered a)) =
    (v : Value) × (a ≡ answer_of o v) × IsApplied code (invoke_of act s o k) o v S
ShowsAnswer act code s o S (AtInvoke k i) (Reply.Invoked (invoked.Conflict h m)) = In (machine.Refused (invoke_of act s o k)) S.net
ShowsAnswer act code s o S (AtInvoke k i) (Reply.Invoked (invoked.Changed w)) = In (machine.Changed (binding_number k.binding)) S.net
ShowsAnswer act code s o S at r = ⊥

-- the call's line, where the answer makes one: at this place, with the value met and the one left; and no action ends
abbrev pub WritesLine : Acts → Codes → ℕ → Steps → Op → State → State → At → Reply → Type 0
WritesLine act code p s o S T (AtInvoke k i) (Reply.Invoked (invoked.Answered a)) =
    (v : Value) × (by : Act) × (a ≡ answer_of o v) × (T.calls ≡ record {
      act = act (actor s.path);
      write = writes o;
      line = p;
      sees = code v by;
      gives = code (value_after o v) (top (act (actor s.path)));
    } ∷ S.calls) × (T.now ≡ p + 1) × KeepsEnds S T
WritesLine act code p s o S T at r = (T.calls ≡ S.calls) × (T.now ≡ S.now) × KeepsEnds S T

-- An answer to a call on the object is taken: the machine goes along, and the coordinator is seen.
abbrev pub AnswersAreTaken : Type 0
AnswersAreTaken = (act : Acts) (code : Codes) (paths : Paths) (x p : ℕ) (c : Coord) (u : Uid) (b : Branch) (d : Doing) (s : Steps) (o : Op)
    (r : Reply) (S : State)
    → IsReached S → IsAtWork act paths c u b d → IsCalling x b d s o → S.now ≤ p → ShowsAnswer act code s o S s.at r →
    SeesCoord act code x c S
    → Goes S (λ T. SeesCoord act code x (let e = heard_call s r c in e.part) T × OnlyCalled (root (act u)) S T
    × WritesLine act code p s o S T s.at r)

-- The lines and calls of the machine are as they were, and so are the ends of its actions.
abbrev pub WritesNone : State → State → Type 0
WritesNone S T = (T.calls ≡ S.calls) × (T.now ≡ S.now) × KeepsEnds S T

-- A call on the object begins, of an action that waits for nothing: with a Bind, where the root may give up a spoiled binding
-- before, or with its Invoke under the binding that the root keeps.
abbrev pub CallsBegin : Type 0
CallsBegin = (act : Acts) (code : Codes) (paths : Paths) (x : ℕ) (c : Coord) (u : Uid) (b : Branch) (d : Doing) (o : Op) (S : State)
    → IsReached S → IsAtWork act paths c u b d → d.now ≡ Idle → b.kind ≢ kind.Serial → SeesCoord act code x c S
    → Goes S (λ T. SeesCoord act code x (let e = call b.path x o c in e.part) T × OnlyCalled (root (act u)) S T × WritesNone S T)

-- A call on the object is given up: a Load goes to the next store, any other step ends the call; after an Invoke its action is
-- doomed.
abbrev pub CallsAreGivenUp : Type 0
CallsAreGivenUp =
    (act : Acts) (code : Codes) (paths : Paths) (x : ℕ) (c : Coord) (u : Uid) (b : Branch) (d : Doing) (s : Steps) (o : Op) (S : State)
    → IsReached S → IsAtWork act paths c u b d → IsCalling x b d s o → SeesCoord act code x c S
    → Goes S (λ T. SeesCoord act code x (let e = give_up_call s c in e.part) T × OnlyCalled (root (act u)) S T × WritesNone S T)

-- ---- calls on other objects, and includes

-- the step is of a call on another object, or of an include
abbrev pub IsElsewhere : ℕ → Steps → Type 0
IsElsewhere x s = (s.x ≢ x) ⊎ ((store : ℕ) × (s.goal ≡ Include store))

-- An answer that names a binding, live or made, is none to an include; any other may be: the write row, a conflict, a state.
abbrev pub IsToInclude : Reply → Type 0
IsToInclude (Reply.Bound (bound.Live b server i g stores)) = ⊥
IsToInclude (Reply.Bound (bound.Make b server g stores)) = ⊥
IsToInclude r = ⊤

-- the action waits in this step, whatever it is
pub record IsWaiting (b : Branch) (d : Doing) (s : Steps) : Type 0 where
  pub calling : d.now ≡ Calling s
  pub path : s.path ≡ b.path
  pub last : s.req ≡ d.req

-- The machine waits where such a call begins, is answered, or is given up: the coordinator is seen in the same state.
abbrev pub OtherCallsBegin : Type 0
OtherCallsBegin = (act : Acts) (code : Codes) (paths : Paths) (x y : ℕ) (c : Coord) (u : Uid) (b : Branch) (d : Doing) (o : Op) (S : State)
    → IsAtWork act paths c u b d → d.now ≡ Idle → b.kind ≢ kind.Serial → y ≢ x → SeesCoord act code x c S →
    SeesCoord act code x (let e = call b.path y o c in e.part) S

-- an include begins, of any object
abbrev pub IncludesBegin : Type 0
IncludesBegin = (act : Acts) (code : Codes) (paths : Paths) (x y store : ℕ) (c : Coord) (u : Uid) (b : Branch) (d : Doing) (S : State)
    → IsAtWork act paths c u b d → d.now ≡ Idle → b.kind ≢ kind.Serial → SeesCoord act code x c S →
    SeesCoord act code x (let e = include b.path y store c in e.part) S

-- an answer to it is taken
abbrev pub OtherAnswersAreTaken : Type 0
OtherAnswersAreTaken =
    (act : Acts) (code : Codes) (paths : Paths) (x : ℕ) (c : Coord) (u : Uid) (b : Branch) (d : Doing) (s : Steps) (r : Reply) (S : State)
    → IsAtWork act paths c u b d → IsWaiting b d s → IsElsewhere x s → ((s.x ≡ x) → IsToInclude r) → SeesCoord act code x c S →
    SeesCoord act code x (let e = heard_call s r c in e.part) S

-- it is given up
abbrev pub OtherCallsAreGivenUp : Type 0
OtherCallsAreGivenUp =
    (act : Acts) (code : Codes) (paths : Paths) (x : ℕ) (c : Coord) (u : Uid) (b : Branch) (d : Doing) (s : Steps) (S : State)
    → IsAtWork act paths c u b d → IsWaiting b d s → IsElsewhere x s → SeesCoord act code x c S →
    SeesCoord act code x (let e = give_up_call s c in e.part) S
