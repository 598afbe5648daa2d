-- One object at a server, as the lock machine has it, and what a server does with it.
use Rattle.std.specs.Prelude.{⊤, ◌≡◌, ◌≢◌, ◌⊎◌, ◌<◌, ℕ, true, List, [], ◌∷◌, ◌++◌, None}
use Rattle.std.specs.List.{AllByRecursion}
use Rattle.arj_protocol.specs.Words.{Path, Op, Value, ObjectState, Binding, object, is_on, last_uid, uids_of, op_mode, writes, value_after}
use Rattle.arj_protocol.specs.Words.{first_conflict, Uid, Row}
use Rattle.arj_protocol.specs.Words.ending
use Rattle.arj_protocol.specs.Ask.{actor}
use Rattle.arj_protocol.specs.Copy.{Base, Copy, Over, current, end_copy, run_copy, taken_copy}
use Rattle.arj_protocol.specs.Order.{binding_number}
use Rattle.arj_protocol.specs.Values.{state_value}
use Rattle.arj_law_lock.specs.machine.Actions.{Act, In, Root, at_act, on, root, top}
use Rattle.arj_law_lock.specs.machine.Machine.{Guard}
use Rattle.arj_law_lock.specs.machine.State as machine
use Rattle.arj_law_lock.specs.machine.State.{State, Call, Entry, Request, Answer}
use Rattle.arj_law_lock.specs.machine.Steps.{DropRows, IsAt, Survives}
use Rattle.arj_law_lock_view.specs.view.Acts.{Acts, AreOne, IsCaller, IsDeep}
use Rattle.arj_law_lock_view.specs.view.Going.{Goes}
use Rattle.arj_law_lock_view.specs.view.Rows.{SeesRows}

-- what stands in the machine for a value and the top that wrote it
abbrev pub Codes : Type 0
Codes = Value → Act → ℕ

-- the top that wrote an overlay
abbrev pub writer_of : Acts → Over → Act
writer_of act o = top (act (last_uid o.holder))

-- the top that wrote the value in place
abbrev pub writer_in : Acts → Base → List Over → Act
writer_in act b [] = act b.writer
writer_in act b (o ∷ os) = writer_of act o

-- what stands for the copy's own value
abbrev pub base_code : Acts → Codes → Base → ℕ
base_code act code b = code b.value (act b.writer)

-- what stands for a state
abbrev pub state_code : Acts → Codes → ObjectState → ℕ
state_code act code st = code (state_value st) (act st.writer)

-- all of these writes are held by the action
abbrev pub AreHeld : Act → List Entry → Type 0
AreHeld a [] = ⊤
AreHeld a (e ∷ es) = (e.holder ≡ a) × AreHeld a es

-- The writes that make up an overlay, newest first: at least one, of which the newest left its value.
pub record IsOver (act : Acts) (code : Codes) (o : Over) (own : List Entry) : Type 0 where
  pub newest : Entry
  pub older : List Entry
  pub are : own ≡ newest ∷ older
  pub held : AreHeld (act (last_uid o.holder)) own
  pub value : newest.gives ≡ code o.value (writer_of act o)
  pub deep : IsDeep act o.holder o.tops

-- the overlays, the deepest first, are the machine's log
abbrev pub SeesOvers : Acts → Codes → List Over → List Entry → Type 0
SeesOvers act code [] log = log ≡ []
SeesOvers act code (o ∷ os) log =
    (own : List Entry) × (rest : List Entry) × (log ≡ own ++ rest) × IsOver act code o own × SeesOvers act code os rest

-- The copy of object x: its binding is active, what lies under all overlays is the machine's own value, and the overlays its log.
pub record SeesCopy (act : Acts) (code : Codes) (x : ℕ) (c : Copy) (v : machine.Server) : Type 0 where
  pub active : v.active ≡ binding_number c.binding
  pub base : v.base ≡ base_code act code c.base
  pub overs : SeesOvers act code c.stack v.log
  pub rows : SeesRows act (object x) c.rows v.rows

-- Only the server of this node changed, and messages were sent.
pub record OnlyServer (n : ℕ) (S T : State) : Type 0 where
  pub rest : T ≡ record S { server = T.server; net = T.net }
  pub others : (k : ℕ) → k ≢ n → T.server k ≡ S.server k
  pub sent : (m : machine.Message) → In m S.net → In m T.net

-- Of a server its incarnation stays, and who it voted for; and the numbers of the last requests are these.
pub record KeepsServer (requests : Act → ℕ) (v w : machine.Server) : Type 0 where
  pub incarnation : w.incarnation ≡ v.incarnation
  pub voted : w.voted ≡ v.voted
  pub request : w.request ≡ requests

-- Each write of the second log stands in the first one, held by the same action or by one below it; and below whom of the aborted ones it
-- was held it still is.
abbrev pub AreLeft : State → List Entry → List Entry → Type 0
AreLeft S before after = (e : Entry) → In e after → (f : Entry) × In f before × (e.by ≡ f.by) × ((a : Act) → on e.holder a ≡ true →
    on f.holder a ≡ true) × ((a : Act) → on f.holder a ≡ true → (S.action a).stage ≡ 4 → on e.holder a ≡ true)

-- Only rows and writes at the server of this node changed: rows passed or went, and no write is new.
pub record OnlyEnds (n : ℕ) (S T : State) : Type 0 where
  pub rest : T ≡ record S { server = T.server }
  pub others : (k : ℕ) → k ≢ n → T.server k ≡ S.server k
  pub keeps : KeepsServer (let v = S.server n in v.request) (S.server n) (T.server n)
  pub left : AreLeft S (let v = S.server n in v.log) (let w = T.server n in w.log)

-- a request of the action at this copy
abbrev pub request_for : Acts → Path → ℕ → Op → Copy → Request
request_for act p number o c = record { act = act (actor p); number = number; binding = binding_number c.binding; write = writes o }

-- A request came, at the node where its binding is active, and the action ran none of this number or a later one there.
pub record IsNew (S : State) (n : ℕ) (q : Request) : Type 0 where
  pub sent : In (machine.Invoke q) S.net
  pub here : IsAt S n q.binding
  pub later : (let v = S.server n in v.request q.act) < q.number

-- what the answer to an operation shows: the value that it met, and the one that it left
abbrev pub answer_for : Acts → Codes → State → Request → Op → Copy → Answer
answer_for act code S q o c = record {
  request = q;
  place = S.now;
  sees = code (current c.base c.stack) (writer_in act c.base c.stack);
  gives = code (value_after o (current c.base c.stack)) (top q.act);
}

-- A new request that meets no conflict is applied: the copy is seen again, and the answer is shown.
abbrev pub OperationsAreSeen : Type 0
OperationsAreSeen = (act : Acts) (code : Codes) (n x number : ℕ) (p : Path) (o : Op) (c : Copy) (S : State)
    → AreOne act → IsCaller act p → first_conflict (uids_of p) (object x) (op_mode o) c.rows ≡ None
    → SeesCopy act code x c (S.server n) → IsNew S n (request_for act p number o c)
    → let r = run_copy n p x o c in
    Goes S (λ T. SeesCopy act code x r.part (T.server n) × OnlyServer n S T
    × KeepsServer (at_act (let v = S.server n in v.request) (act (actor p)) number) (S.server n) (T.server n)
    × In (machine.Invoked (answer_for act code S (request_for act p number o c) o c)) T.net)

-- One that meets a conflict changes nothing of the copy, and the refusal is shown.
abbrev pub RefusalsAreSeen : Type 0
RefusalsAreSeen = (act : Acts) (code : Codes) (n x number : ℕ) (p : Path) (o : Op) (c : Copy) (S : State)
    → SeesCopy act code x c (S.server n) → IsNew S n (request_for act p number o c)
    → Goes S (λ T. SeesCopy act code x c (T.server n) × OnlyServer n S T × KeepsServer (at_act (let v = S.server n in
    v.request) (act (actor p)) number) (S.server n) (T.server n) × In (machine.Refused (request_for act p number o c)) T.net)

-- A state came for a binding of this node that is above the active one: the copy is taken.
abbrev pub ActivationsAreSeen : Type 0
ActivationsAreSeen = (act : Acts) (code : Codes) (n x : ℕ) (b : Binding) (st : ObjectState) (S : State)
    → In (machine.Activate (binding_number b) (state_code act code st)) S.net
    → (let c = S.binding (binding_number b) in c.server) ≡ n → (let v = S.server n in v.active) < binding_number b
    → Goes S (λ T. SeesCopy act code x (taken_copy b st) (T.server n) × OnlyServer n S T × KeepsServer (let v = S.server n in
    v.request) (S.server n) (T.server n) × In (machine.Activated (binding_number b) (let v = S.server n in v.incarnation)) T.net)

-- Whose overlays and rows an end takes in the protocol and in the machine are the same: each holder's path stands in the machine
-- as it does there.
pub record IsTold (act : Acts) (u : Uid) (c : Copy) : Type 0 where
  pub overs : AllByRecursion (λ (o : Over). is_on o.holder u ≡ on (act (last_uid o.holder)) (act u)) c.stack
  pub rows : AllByRecursion (λ (r : Row). is_on r.holder u ≡ true → on (act (last_uid r.holder)) (act u) ≡ true) c.rows

-- the write is held below an aborted action, which is the given one or stands below it
abbrev pub IsDead : State → Act → Act → Type 0
IsDead S h a = (b : Act) × (on h b ≡ true) × (on b a ≡ true) × ((S.action b).stage ≡ 4)

-- it is of no committed top with a surviving write, for which the server voted
abbrev pub CountsForNone : ℕ → State → Entry → Type 0
CountsForNone n S e = (S.action (top e.by)).stage ≡ 3 → (S.server n).voted (top e.by) ≡ true → (c : Call) → In c S.calls → c.write ≡ true →
    Survives S c.act → top c.act ≢ top e.by

-- each write at the server below the action is dead, or counts for none
abbrev pub AreUndone : ℕ → State → Act → Type 0
AreUndone n S a = (e : Entry) → In e (S.server n).log → on e.holder a ≡ true → IsDead S e.holder a ⊎ CountsForNone n S e

-- The machine may drop the rows; or the unit is over, and each write below the action is dead, which the machine drops first, or counts
-- for none.
abbrev pub MayUndo : ℕ → Act → State → Type 0
MayUndo n a S = Guard (DropRows n a) S ⊎ (((S.action (Root (root a))).stage ≡ 3) × AreUndone n S a)

-- An end that a server takes for an abort, where the machine may drop rows, it may be after others: what the action and all below it wrote
-- is undone, and their rows go.
abbrev pub UndoingsAreSeen : Type 0
UndoingsAreSeen = (act : Acts) (code : Codes) (n x : ℕ) (u : Uid) (c : Copy) (S : State) → IsTold act u c → MayUndo n (act u) S
    → SeesCopy act code x c (S.server n) → Goes S (λ T. SeesCopy act code x (end_copy u ending.Abort c) (T.server n) × OnlyEnds n S T)
