-- What holds of values in every state of a run, given the order: the log of applied writes against the calls.
use Rattle.arj_law_lock.proofs.Terms
use Terms.{◌≡◌, ◌≢◌, ◌≤◌, ◌<◌, ◌⊎◌, ℕ, List, [], ◌∷◌, true, false, Act, on, root, top, is_top, is_action, In, Entry, Call, Request, Answer}
use Terms.{Message, Live, Made, Granted, Activate, Activated, Recorded, Invoke, Invoked, Refused, Changed, Vote, Confirm, State, Alive}
use Terms.{Merged, Newest, IsLast, Survives, IsCurrent}
use Rattle.arj_law_lock.proofs.machine.Claims.{server_of, IsUp, IsPast, GoesOn, Good, Pending, Asked, Doubtless}

-- No action of the path was aborted or is doomed.
abbrev pub Clean : State → Act → Type 0
Clean s a = (u : Act) → on a u ≡ true → ((s.action u).stage ≤ 3) × ((s.action u).doomed ≡ false)

-- It may still survive, or does.
abbrev pub Fine : State → Act → Type 0
Fine s a = Clean s a × (GoesOn s (root a) ⊎ ((s.action (top a)).stage ≡ 3))

-- A call of it stands over the recorded binding's copy, or is committed.
abbrev pub Ok : State → Act → Type 0
Ok s a = Fine s a × (((s.action (top a)).stage ≡ 3) ⊎ (s.kept (root a) ≡ s.naming.recorded))

-- A write of the second action counts for a call of the first.
abbrev pub Mine : State → Act → Act → Type 0
Mine s d a = Survives s a ⊎ ((top a ≡ top d) × Clean s a)

abbrev pub IsWaiting : State → Entry → Type 0
IsWaiting s e = (e.request ≡ (s.action e.by).request) × ((s.action e.by).waits ≡ true)

-- The log against the calls, both newest first: each entry that counts is a call's, each call that counts has its entry, and
-- what is older is in the copy's own value.
pub data Matches (s : State) (base : ℕ) : List Entry → List Call → Type 0 where
  rest : {cs : List Call} → IsLast s base cs → ((c : Call) → In c cs → c.write ≡ true → Ok s c.act → Survives s c.act) →
      Matches s base [] cs
  both : (e : Entry) (c : Call) {es : List Entry} {cs : List Call} → e.by ≡ c.act → e.gives ≡ c.gives → c.write ≡ true →
      (Fine s c.act → s.kept (root c.act) ≡ s.naming.recorded) → Matches s base es cs → Matches s base (e ∷ es) (c ∷ cs)
  more : (e : Entry) {es : List Entry} {cs : List Call} → (Fine s e.by → ⊥) → Matches s base es cs → Matches s base (e ∷ es) cs
  less : (c : Call) {es : List Entry} {cs : List Call} → (c.write ≡ true → Ok s c.act → ⊥) → Matches s base es cs →
      Matches s base es (c ∷ cs)

abbrev pub NoneWaits : State → List Entry → Type 0
NoneWaits s es = (e : Entry) → In e es → IsWaiting s e → Fine s e.by → ⊥

-- The same, but for a write that waits for its line, with spoilt entries above it.
pub data Logged (s : State) (base : ℕ) : List Entry → List Call → Type 0 where
  calm : {es : List Entry} {cs : List Call} → NoneWaits s es → Matches s base es cs → Logged s base es cs
  bad : (e : Entry) {es : List Entry} {cs : List Call} → (Fine s e.by → ⊥) → Logged s base es cs → Logged s base (e ∷ es) cs
  waiting : (e : Entry) {es : List Entry} {cs : List Call} → (Fine s e.by → IsWaiting s e × (s.kept (root e.by) ≡ s.naming.recorded)) →
      NoneWaits s es → Matches s base es cs → Logged s base (e ∷ es) cs

pub record EntryHolds (s : State) (n : ℕ) (e : Entry) : Type 0 where
  pub acts : is_action e.by ≡ true
  pub path : on e.by e.holder ≡ true
  pub holder : is_action e.holder ≡ true
  pub row : 2 ≤ (s.server n).rows e.holder
  pub merged : Merged s e.by e.holder
  pub request : e.request ≤ (s.server n).request e.by
  pub asked : e.request ≤ (s.action e.by).request

-- The copy of a binding that isn't recorded yet is the last committed value.
pub record CopyHolds (s : State) (n : ℕ) : Type 0 where
  pub below : (s.server n).active < s.naming.bound
  pub kept : (s.server n).active ≤ s.kept (root (s.binding (s.server n).active).maker)
  pub maker : is_top (s.binding (s.server n).active).maker ≡ true
  pub doubtless : Doubtless s (s.server n).active
  pub base : IsCurrent s.naming (s.binding (s.server n).active).maker (s.server n).active → IsLast s (s.server n).base s.calls
  pub log : IsCurrent s.naming (s.binding (s.server n).active).maker (s.server n).active → (e : Entry) → In e (s.server n).log → ⊥

-- Each call saw the newest write that counts for it among those before it.
abbrev pub Seen : State → List Call → Type 0
Seen s [] = Unit {0}
Seen s (d ∷ cs) =
    ((c : Call) → In c cs → c.line < d.line) × (Clean s d.act → Good s (top d.act) → Newest s.initial (Mine s d.act) d.sees cs) × Seen s cs

-- Messages.

abbrev pub Used : State → Request → Type 0
Used s q = IsPast s q.binding ⊎ (q.number ≤ (server_of s q.binding).request q.act)

abbrev pub Spent : State → Request → Type 0
Spent s q = ((q.number ≡ (s.action q.act).request) × ((s.action q.act).waits ≡ true)) ⊎ (Fine s q.act → Used s q)

abbrev pub HasEntry : State → Answer → Type 0
HasEntry s r = r.request.write ≡ true → Pending s r.request.act r.request.number → IsPast s r.request.binding ⊎ ((e : Entry)
    × In e (server_of s r.request.binding).log × (e.by ≡ r.request.act) × (e.request ≡ r.request.number) × (e.gives ≡ r.gives))

abbrev pub SeesNow : State → Answer → Type 0
SeesNow s r = Pending s r.request.act r.request.number → Clean s r.request.act → s.naming.first ≤ s.kept (root r.request.act) →
    IsUp s (s.kept (root r.request.act)) → Newest s.initial (Mine s r.request.act) r.sees s.calls

abbrev pub NoEntry : State → Request → Type 0
NoEntry s q = IsPast s q.binding ⊎ ((q.number ≤ (server_of s q.binding).request q.act)
    × ((e : Entry) → In e (server_of s q.binding).log → e.by ≡ q.act → e.request ≢ q.number))

abbrev pub Says : State → Message → Type 0
Says s (Live m b) = Unit {0}
Says s (Made m b) = Unit {0}
Says s (Granted m g) = Unit {0}
Says s (Activate b v) = IsCurrent s.naming (s.binding b).maker b → IsLast s v s.calls
Says s (Activated b i) = Unit {0}
Says s (Recorded b) = Unit {0}
Says s (Invoke q) = (q.binding ≤ s.naming.recorded) × Spent s q
Says s (Invoked r) = Used s r.request × HasEntry s r × SeesNow s r × (r.request.write ≡ false → NoEntry s r.request)
Says s (Refused q) = Asked s q × NoEntry s q
Says s (Changed b) = ((s.binding b).named ≡ true) × IsPast s b
Says s (Vote m b i) = Unit {0}
Says s (Confirm m q) = Unit {0}

pub record Values (s : State) : Type 0 where
  pub waits : (a : Act) → (s.action a).waits ≡ true → (is_action a ≡ true) × (((s.action a).stage ≡ 0) ⊎ ((s.action a).stage ≡ 4))
  pub path : (a : Act) → (s.action a).waits ≡ true → Alive s a → (u : Act) → on a u ≡ true → is_action u ≡ true → (s.action u).stage ≡ 0
  pub doomed : (a : Act) → (s.action a).doomed ≡ true → (is_action a ≡ true) × (((s.action a).stage ≡ 0) ⊎ ((s.action a).stage ≡ 4))
  pub roots : (a : Act) → is_action a ≡ false → (s.action a).stage ≤ 3
  pub whole : (c : Call) → In c s.calls → Alive s c.act → 1 ≤ (s.action (top c.act)).stage → Merged s c.act (top c.act)
  pub logs : (n : ℕ) (e : Entry) → In e (s.server n).log → EntryHolds s n e
  pub fresh : (n : ℕ) → 1 ≤ (s.server n).active → CopyHolds s n
  pub copy : s.naming.first ≤ s.naming.recorded → IsUp s s.naming.recorded →
      Logged s (server_of s s.naming.recorded).base (server_of s s.naming.recorded).log s.calls
  pub seen : Seen s s.calls
  pub says : (m : Message) → In m s.net → Says s m
