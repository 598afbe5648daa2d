-- When each step may be taken, the state after it, and runs.
use Rattle.std.proofs.Common.{◌==◌, ◌≡◌, ◌≢◌, ◌≤◌, ◌<◌, ◌+◌, ◌⊎◌, ℕ, [], ◌∷◌, true, false, cond, max, min, filter, not, map}
use Rattle.arj_law_lock.specs.machine.Actions.{Act, Root, Sub, same, on, root, top, is_top, is_action, at, at_act, In}
use Rattle.arj_law_lock.specs.machine.Rows.{Rows, mode, Clear, raise, pass, drop_below}
use Rattle.arj_law_lock.specs.machine.State.{Ballot, Action, Naming, Entry, Server, Call, Include, Request, Answer, Message, Live, Made}
use Rattle.arj_law_lock.specs.machine.State.{Granted, Activate, Activated, Recorded, Invoke, Invoked, Refused, Changed, Vote, Confirm}
use Rattle.arj_law_lock.specs.machine.State.{State, Alive, Open, Covered, IsFree}
use Rattle.arj_law_lock.specs.machine.Steps.{Event, CrashNaming, BindLive, BindNew, Grant, Record, ConfirmTop, PassEntry, DropEntry}
use Rattle.arj_law_lock.specs.machine.Steps.{CrashServer, ActivateCopy, Apply, Refuse, Change, PassRow, PassTop, DropRows, VoteTop, Keep}
use Rattle.arj_law_lock.specs.machine.Steps.{Name, Load, SendInvoke, Answered, TurnedDown, Lost, GiveUp, CommitNested, Abort, CommitTop}
use Rattle.arj_law_lock.specs.machine.Steps.{SendVote, SendConfirm, Decide, Report, EndUnit, Included, value_over, held_value, IsCurrent}
use Rattle.arj_law_lock.specs.machine.Steps.{LoadsTheLast, IsGone, IsFolded, IsDrained, IsElsewhere, IsAt, IsWhole, KnowsRecorded, MayUse}

-- When a step may be taken.
abbrev pub Guard : Event → State → Type 0
Guard (CrashNaming g) s = (s.naming.bound ≤ g) × (s.naming.first < g)
Guard (BindLive m) s = (is_top m ≡ true) × (s.naming.first ≤ s.naming.recorded) × Clear s.naming.rows m 1
Guard (BindNew m b n) s = (is_top m ≡ true) × (s.naming.bound ≤ b) × Clear s.naming.rows m 2
Guard (Grant m) s = (is_top m ≡ true) × Clear s.naming.rows m 2
Guard (Record b) s = ((s.binding b).named ≡ true) × IsCurrent s.naming (s.binding b).maker b
Guard (ConfirmTop m q) s = In (Confirm m q) s.net × (s.naming.first ≤ q)
Guard (PassEntry u n) s = (s.action (Sub (Root u) n)).stage ≡ 3
Guard (DropEntry a) s = IsGone s a ⊎ ((is_top a ≡ true) × ((s.action a).stage ≡ 3) × (s.naming.confirmed a ≡ false))
Guard (CrashServer n i) s = (s.server n).incarnation < i
Guard (ActivateCopy n b v) s = In (Activate b v) s.net × ((s.binding b).server ≡ n) × ((s.server n).active < b)
Guard (Apply n q g) s =
    In (Invoke q) s.net × IsAt s n q.binding × ((s.server n).request q.act < q.number) × Clear (s.server n).rows q.act (mode q.write)
Guard (Refuse n q) s = In (Invoke q) s.net × IsAt s n q.binding × ((s.server n).request q.act < q.number)
Guard (Change n q) s =
    In (Invoke q) s.net × ((s.binding q.binding).server ≡ n) × IsElsewhere (s.server n) (s.binding q.binding).incarnation q.binding
Guard (PassRow n a j) s = (is_action a ≡ true) × ((s.action (Sub a j)).stage ≡ 3)
Guard (PassTop n u j) s = ((s.action (Sub (Root u) j)).stage ≡ 3) × IsFolded s (s.server n).log (Sub (Root u) j)
Guard (DropRows n a) s = ((s.action a).stage ≡ 4) ⊎ ((((s.action (Root (root a))).stage ≡ 3) × IsDrained s (s.server n) a)
    ⊎ ((is_top a ≡ true) × ((s.action a).stage ≡ 3) × ((s.server n).voted a ≡ false)))
Guard (VoteTop n m b i) s = In (Vote m b i) s.net × ((s.binding b).server ≡ n) × ((s.server n).incarnation ≡ i) × ((s.server n).active ≡ b)
    × IsFolded s (s.server n).log m
Guard (Keep m b) s = (In (Live m b) s.net ⊎ In (Made m b) s.net) × (s.kept (root m) < b) × IsFree s (root m)
Guard (Name b i) s = In (Activated b i) s.net × ((s.binding b).named ≡ false)
Guard (Load b v) s = In (Made (s.binding b).maker b) s.net × (b ≤ s.kept (root (s.binding b).maker))
    × (IsCurrent s.naming (s.binding b).maker b → LoadsTheLast s v)
Guard (SendInvoke a k w) s = (is_action a ≡ true) × Open s a × ((s.action a).request < k) × ((b : Act) → (s.action b).waits ≡ true →
    Alive s b → (on a b ≡ false) × (on b a ≡ false)) × KnowsRecorded s (s.kept (root a)) × MayUse s (top a) (s.kept (root a))
Guard (Answered r p) s = In (Invoked r) s.net × (r.request.number ≡ (s.action r.request.act).request)
    × ((s.action r.request.act).waits ≡ true) × Open s r.request.act × (s.now ≤ p)
Guard (TurnedDown q) s = In (Refused q) s.net × (q.number ≡ (s.action q.act).request)
Guard (Lost a) s = In (Changed (s.kept (root a))) s.net
Guard (GiveUp a) s = (s.action a).waits ≡ true
Guard (CommitNested a p) s =
    (is_action a ≡ true) × (is_top a ≡ false) × Open s a × ((s.action a).doomed ≡ false) × IsWhole s a × (s.now ≤ p)
Guard (Abort a) s = (is_action a ≡ true) × ((s.action a).stage ≤ 1)
Guard (CommitTop m p) s = (is_top m ≡ true) × Open s m × ((s.action m).doomed ≡ false) × IsWhole s m
    × ((t : Act) → is_top t ≡ true → root t ≡ root m → ((s.action t).stage ≢ 1) × ((s.action t).stage ≢ 2)) × (s.now ≤ p)
Guard (SendVote m i) s = (is_top m ≡ true) × ((s.action m).stage ≡ 1) × ((s.binding (s.kept (root m))).named ≡ true)
    × (i ≤ (s.binding (s.kept (root m))).incarnation)
Guard (SendConfirm m q) s = (is_top m ≡ true) × ((s.action m).stage ≡ 1)
    × ((c : Call) → In c s.calls → Alive s c.act → Covered s m c.act → (s.yes m ≡ s.kept (root m)) × (q ≤ s.kept (root m)))
    × ((c : Include) → In c s.includes → Alive s c.act → Covered s m c.act → q ≤ c.grant)
Guard (Decide m) s = (is_top m ≡ true) × ((s.action m).stage ≡ 1)
    × ((c : Call) → In c s.calls → Alive s c.act → Covered s m c.act → (s.yes m ≡ s.kept (root m)) × (s.confirmed m ≡ true))
    × ((c : Include) → In c s.includes → Alive s c.act → Covered s m c.act → s.confirmed m ≡ true)
Guard (Report m p) s = (is_top m ≡ true) × ((s.action m).stage ≡ 2) × (s.now ≤ p)
Guard (EndUnit u) s =
    ((s.action (Root u)).stage ≡ 0) × ((t : Act) → is_top t ≡ true → root t ≡ u → ((s.action t).stage ≢ 1) × ((s.action t).stage ≢ 2))
Guard (Included a g p) s = (is_action a ≡ true) × In (Granted (top a) g) s.net × Open s a × (s.now ≤ p)

-- One server, one action, or naming's part changes, and a message may be sent.
abbrev pub with_server : State → ℕ → Server → State
with_server s n v = record s { server = at s.server n v }

-- one action changes
abbrev pub with_action : State → Act → Action → State
with_action s a x = record s { action = at_act s.action a x }

-- naming's part changes
abbrev pub with_naming : State → Naming → State
with_naming s n = record s { naming = n }

-- a message is sent
abbrev pub sending : State → Message → State
sending s m = record s { net = m ∷ s.net }

-- the holder after a pass to the action above
abbrev pub handed : Act → ℕ → Entry → Entry
handed a j e = record e { holder = cond (same e.holder (Sub a j)) a e.holder }

-- a server that has just started
abbrev pub after_crash : ℕ → Server
after_crash i = record { incarnation = i; active = 0; base = 0; log = []; rows = λ a. 0; voted = λ a. false; request = λ a. 0 }

-- the answer to a request, and the server after it
abbrev pub answer_of : State → ℕ → Request → ℕ → Answer
answer_of s n q g = record { request = q; place = s.now; sees = value_over (s.server n).base (s.server n).log; gives = g }

-- the server after it applied a request that left this value
abbrev pub applied : Server → Request → ℕ → Server
applied v q g = record v {
  log = cond q.write (record { holder = q.act; by = q.act; request = q.number; gives = g } ∷ v.log) v.log;
  rows = raise v.rows q.act (mode q.write);
  request = at_act v.request q.act q.number;
}

-- the row that a Record leaves to the maker
abbrev pub lowered : Naming → Act → Rows
lowered n m = at_act n.rows m (cond (n.asked m) (n.rows m) (min (n.rows m) 1))

-- an action whose call has ended
abbrev pub stopped : Action → Action
stopped x = record x { waits = false }

-- what a vote gives; one that comes again, or of an earlier binding, gives nothing new
abbrev pub ballot : State → ℕ → Act → ℕ → Ballot
ballot s n m b = cond (max (s.yes m) b == s.yes m) (s.vote m)
    (record { value = held_value m (s.server n).base (s.server n).log; under = (s.server n).base })

-- The state after a step.
abbrev pub next : Event → State → State
next (CrashNaming g) s =
    with_naming s (record s.naming { first = g; bound = g; rows = λ a. 0; told = λ a. false; confirmed = λ a. false; asked = λ a. false })
next (BindLive m) s = sending (with_naming s (record s.naming { rows = raise s.naming.rows m 1 })) (Live m s.naming.recorded)
next (BindNew m b n) s = record s {
  naming = record s.naming { rows = raise s.naming.rows m 2; bound = b + 1; made = at_act s.naming.made m b };
  binding = at s.binding b (record { server = n; maker = m; named = false; incarnation = 0 });
  net = Made m b ∷ s.net;
}
next (Grant m) s = sending (with_naming s (record s.naming { rows = raise s.naming.rows m 2; asked = at_act s.naming.asked m true }))
    (Granted m s.naming.first)
next (Record b) s = sending (with_naming s (record s.naming { rows = lowered s.naming (s.binding b).maker; recorded = b })) (Recorded b)
next (ConfirmTop m q) s =
    record s { naming = record s.naming { confirmed = at_act s.naming.confirmed m true }; confirmed = at_act s.confirmed m true }
next (PassEntry u n) s =
    with_naming s (record s.naming { rows = pass s.naming.rows (Root u) n; told = at_act s.naming.told (Sub (Root u) n) true })
next (DropEntry a) s =
    with_naming s (record s.naming { rows = drop_below s.naming.rows a; told = λ b. cond (on b a) true (s.naming.told b) })
next (CrashServer n i) s = with_server s n (after_crash i)
next (ActivateCopy n b v) s =
    sending (with_server s n (record (s.server n) { active = b; base = v; log = []; rows = λ a. 0 })) (Activated b (s.server n).incarnation)
next (Apply n q g) s = sending (with_server s n (applied (s.server n) q g)) (Invoked (answer_of s n q g))
next (Refuse n q) s = sending (with_server s n (record (s.server n) { request = at_act (s.server n).request q.act q.number })) (Refused q)
next (Change n q) s = sending s (Changed q.binding)
next (PassRow n a j) s =
    with_server s n (record (s.server n) { rows = pass (s.server n).rows a j; log = map (handed a j) (s.server n).log })
next (PassTop n u j) s = with_server s n (record (s.server n) {
  rows = pass (s.server n).rows (Root u) j;
  base = held_value (Sub (Root u) j) (s.server n).base (s.server n).log;
  log = filter (λ e. not (on e.holder (Sub (Root u) j))) (s.server n).log;
})
next (DropRows n a) s = with_server s n
    (record (s.server n) { rows = drop_below (s.server n).rows a; log = filter (λ e. not (on e.holder a)) (s.server n).log })
next (VoteTop n m b i) s = record s {
  server = at s.server n (record (s.server n) { voted = at_act (s.server n).voted m true });
  yes = at_act s.yes m (max (s.yes m) b);
  vote = at_act s.vote m (ballot s n m b);
}
next (Keep m b) s = record s { kept = at s.kept (root m) b }
next (Name b i) s = record s { binding = at s.binding b (record (s.binding b) { named = true; incarnation = i }) }
next (Load b v) s = sending s (Activate b v)
next (SendInvoke a k w) s = sending (with_action s a (record (s.action a) { request = k; waits = true; since = s.now }))
    (Invoke (record { act = a; number = k; binding = s.kept (root a); write = w }))
next (Answered r p) s = record (with_action s r.request.act (stopped (s.action r.request.act)))
    { now = p + 1; calls = record { act = r.request.act; write = r.request.write; line = p; sees = r.sees; gives = r.gives } ∷ s.calls }
next (TurnedDown q) s = with_action s q.act (stopped (s.action q.act))
next (Lost a) s = with_action s a (stopped (s.action a))
next (GiveUp a) s = with_action s a (record (s.action a) { waits = false; doomed = true })
next (CommitNested a p) s = record (with_action s a (record (s.action a) { stage = 3; done = p })) { now = p + 1 }
next (Abort a) s = with_action s a (record (s.action a) { stage = 4 })
next (CommitTop m p) s = record (with_action s m (record (s.action m) { stage = 1; place = p })) { now = p + 1 }
next (SendVote m i) s = sending s (Vote m (s.kept (root m)) i)
next (SendConfirm m q) s = sending s (Confirm m q)
next (Decide m) s = with_action s m (record (s.action m) { stage = 2 })
next (Report m p) s = record (with_action s m (record (s.action m) { stage = 3; done = p })) { now = p + 1 }
next (EndUnit u) s = with_action s (Root u) (record (s.action (Root u)) { stage = 3 })
next (Included a g p) s = record s { now = p + 1; includes = record { act = a; line = p; grant = g } ∷ s.includes }

-- Nothing has happened; the object has its first value.
abbrev pub start : ℕ → State
start v = record {
  now = 1;
  initial = v;
  naming = record {
    first = 1;
    recorded = 0;
    bound = 1;
    rows = λ a. 0;
    told = λ a. false;
    confirmed = λ a. false;
    made = λ a. 0;
    asked = λ a. false;
  };
  binding = λ b. record { server = 0; maker = Root 0; named = false; incarnation = 0 };
  server = λ n. after_crash 0;
  action = λ a. record { stage = 0; place = 0; done = 0; request = 0; waits = false; since = 0; doomed = false };
  kept = λ r. 0;
  yes = λ a. 0;
  vote = λ a. record { value = 0; under = 0 };
  confirmed = λ a. false;
  calls = [];
  includes = [];
  net = [];
}

-- A run from one state to another.
pub data Run : State → State → Type 0 where
  stay : {s : State} → Run s s
  step : {s t : State} (e : Event) → Guard e s → Run (next e s) t → Run s t
