-- What a coordinator asks of the nodes, in the machine: a request that is sent, or sent again, is nothing to it, and what it shows stays.
use Rattle.std.specs.Prelude.{⊤, ◌≡◌, ◌*◌, ℕ, List, Some, Contains}
use Rattle.arj_protocol.specs.Words.{Ask, Binding, End, Op, Path, Uid, writes}
use Rattle.arj_protocol.specs.Words.ask
use Rattle.arj_protocol.specs.Ask.{actor, top_of}
use Rattle.arj_protocol.specs.Asking.{again_all, asks_all, asks_machine}
use Rattle.arj_protocol.specs.Call.{Run, Steps, next_ask, next_node}
use Rattle.arj_protocol.specs.Commit.{Machine}
use Rattle.arj_protocol.specs.Coord.{Calling, Coord, Doing, doing_of}
use Rattle.arj_protocol.specs.Order.{binding_number}
use Rattle.arj_law_lock.specs.machine.Actions.{In}
use Rattle.arj_law_lock.specs.machine.Machine.{Run as MachineRun}
use Rattle.arj_law_lock.specs.machine.State as machine
use Rattle.arj_law_lock.specs.machine.State.{State}
use Rattle.arj_law_lock_view.specs.view.Acts.{Acts}
use Rattle.arj_law_lock_view.specs.view.Calling.{IsReached}
use Rattle.arj_law_lock_view.specs.view.Copies.{Codes, state_code}
use Rattle.arj_law_lock_view.specs.view.Going.{IsServedBy}
use Rattle.arj_law_lock_view.specs.view.Named.{IsNamedSo}
use Rattle.arj_law_lock_view.specs.view.Roots.{SeesCoord}

-- A request about an object: which one, by which path and number it is sent, and to whom.
pub record Post : Type 0 where
  pub x : ℕ
  pub path : Path
  pub number : ℕ
  pub node : ℕ

-- What a request shows to the node that is asked. Of a call on the object: a state was given to the server of its binding; the
-- incarnation of a binding that was made for the top was heard; an Invoke of this number was sent on a binding of this node. Of a
-- commit: a Vote was sent for each binding of the object that it names, all of this node, with its incarnation; a Confirm was sent for each
-- grant on the object.
abbrev pub ShowsAsk : Acts → Codes → Post → State → Ask → Type 0
ShowsAsk act code o S (ask.Activate b st) = IsServedBy S b o.node × In (machine.Activate (binding_number b) (state_code act code st)) S.net
ShowsAsk act code o S (ask.Record y b i g) = In (machine.Made (act (top_of o.path)) (binding_number b)) S.net × IsNamedSo S b i
ShowsAsk act code o S (ask.Invoke y b i ends op) = IsServedBy S b o.node × IsNamedSo S b i
    × In (machine.Invoke (record { act = act (actor o.path); number = o.number; binding = binding_number b; write = writes op })) S.net
ShowsAsk act code o S (ask.Vote i ties ends) = (b : Binding) → Contains ties (o.x, b) →
    IsServedBy S b o.node × In (machine.Vote (act (actor o.path)) (binding_number b) i) S.net
ShowsAsk act code o S (ask.Confirm grants excluded included) = (g : ℕ) → Contains grants (o.x, g) →
    In (machine.Confirm (act (actor o.path)) (g * 4294967296)) S.net
ShowsAsk act code o S a = ⊤

-- The request of a call that waits is shown, whatever ends it says.
abbrev pub RequestsAreShown : Type 0
RequestsAreShown =
    (act : Acts) (code : Codes) (x : ℕ) (c : Coord) (u : Uid) (d : Doing) (s : Steps) (o : Op) (ends : List (Uid × End)) (S : State)
    → SeesCoord act code x c S → doing_of u c ≡ Some d → d.now ≡ Calling s → s.x ≡ x → s.goal ≡ Run o →
    ShowsAsk act code (record { x = x; path = s.path; number = s.req; node = next_node s }) S (next_ask ends s)

-- What a request shows it shows in every later state of the machine.
abbrev pub RequestsStayShown : Type 0
RequestsStayShown = (act : Acts) (code : Codes) (o : Post) (a : Ask) (S T : State) → IsReached S → MachineRun S T →
    ShowsAsk act code o S a → ShowsAsk act code o T a

-- Requests are sent: the coordinator is seen in the same state.
abbrev pub AsksAreNothing : Type 0
AsksAreNothing = (act : Acts) (code : Codes) (x : ℕ) (p : Path) (number : ℕ) (asked : List (ℕ × Ask)) (c : Coord) (S : State) →
    SeesCoord act code x c S → SeesCoord act code x (let e = asks_all p number asked c in e.part) S

-- So it is where a commit asks all nodes that it waits for,
abbrev pub CommitsAskOnly : Type 0
CommitsAskOnly = (act : Acts) (code : Codes) (x : ℕ) (m : Machine) (c : Coord) (S : State) → SeesCoord act code x c S →
    SeesCoord act code x (let e = asks_machine m c in e.part) S

-- and where a tick sends again what waits.
abbrev pub TicksAreNothing : Type 0
TicksAreNothing = (act : Acts) (code : Codes) (x : ℕ) (works : List Doing) (c : Coord) (S : State) → SeesCoord act code x c S →
    SeesCoord act code x (let e = again_all works c in e.part) S
