-- What holds in every state of a run, as definitions: claims on copies and on naming's rows, what each message means for
-- ever, and the invariant.
use Rattle.arj_law_lock.proofs.Terms
use Terms.{◌≡◌, ◌≢◌, ◌≤◌, ◌<◌, ◌⊎◌, ℕ, Bool, true, false, Act, Root, on, root, top, is_top, is_action, In, mode, Apart, Naming, Server}
use Terms.{Call, Include, Request, Message, Live, Made, Granted, Activate, Activated, Recorded, Invoke, Invoked, Refused, Changed, Vote}
use Terms.{Confirm, State, Alive, Merged, Passed, Covered, NobodyInDoubt, IsCurrent}

-- Claims on a copy.

abbrev pub server_of : State → ℕ → Server
server_of s b = s.server (s.binding b).server

abbrev pub IsUp : State → ℕ → Type 0
IsUp s b = ((server_of s b).incarnation ≡ (s.binding b).incarnation) × ((server_of s b).active ≡ b)

-- the server has had the binding in this incarnation: it has it, or the copy is gone
abbrev pub Reached : Server → ℕ → ℕ → Type 0
Reached v i b = (i < v.incarnation) ⊎ ((i ≡ v.incarnation) × (b ≤ v.active))

abbrev pub IsPast : State → ℕ → Type 0
IsPast s b = ((s.binding b).incarnation < (server_of s b).incarnation)
    ⊎ (((s.binding b).incarnation ≡ (server_of s b).incarnation) × (b < (server_of s b).active))

abbrev pub GoesOn : State → ℕ → Type 0
GoesOn s u = (s.action (Root u)).stage ≤ 2

-- A row of the mode covers the action at the binding's copy, and what it has passed is committed; or why it doesn't.
pub data Covers (s : State) (a : Act) (b k : ℕ) : Type 0 where
  gone : IsPast s b → Covers s a b k
  over : 3 ≤ (s.action (Root (root a))).stage → Covers s a b k
  dropped : (u : Act) → on a u ≡ true → 4 ≤ (s.action u).stage → Covers s a b k
  stands : (h : Act) → IsUp s b → on a h ≡ true → k ≤ (server_of s b).rows h → Merged s a h → Covers s a b k

-- Claims on naming.

abbrev pub HoldsTop : Naming → ℕ → Act → Type 0
HoldsTop n k m = (k ≤ n.rows m) × (2 ≤ k → n.asked m ≡ true)

-- A row on the entry that keeps other units away: the top's own, its unit's, or that of a committed and confirmed sibling.
pub data Anchor (s : State) (k : ℕ) (m : Act) : Type 0 where
  own : HoldsTop s.naming k m → Anchor s k m
  unit : k ≤ s.naming.rows (Root (root m)) → Anchor s k m
  sibling : (t : Act) → is_top t ≡ true → root t ≡ root m → (s.action t).stage ≡ 3 → s.naming.confirmed t ≡ true → HoldsTop s.naming k t →
      Anchor s k m

pub record Sure (s : State) (m : Act) : Type 0 where
  pub named : (s.binding (s.kept (root m))).named ≡ true
  pub here : s.naming.first ≤ s.kept (root m) → GoesOn s (root m) → (s.naming.recorded ≡ s.kept (root m)) × Anchor s 1 m

-- A top that is committed or may still commit a call under its root's kept binding.
pub record Good (s : State) (m : Act) : Type 0 where
  pub alive : (s.action m).stage ≤ 3
  pub going : GoesOn s (root m) ⊎ (1 ≤ (s.action m).stage)
  pub up : IsUp s (s.kept (root m)) ⊎ (s.yes m ≡ s.kept (root m))
  pub present : (s.naming.first ≤ s.kept (root m)) ⊎ (s.confirmed m ≡ true)

abbrev pub Own : State → Act → ℕ → Type 0
Own s m b = s.naming.first ≤ b → s.naming.told m ≡ false →
    (1 ≤ s.naming.rows m) × ((s.naming.recorded < b) ⊎ ((s.naming.recorded ≡ b) ⊎ (b < s.kept (root m))))

abbrev pub Wrote : State → Act → ℕ → Type 0
Wrote s m g = g ≡ s.naming.first → s.naming.told m ≡ false → HoldsTop s.naming 2 m

abbrev pub Entered : State → Act → ℕ → Type 0
Entered s m g = g ≡ s.naming.first → GoesOn s (root m) → Anchor s 2 m

abbrev pub Doubtless : State → ℕ → Type 0
Doubtless s b = IsCurrent s.naming (s.binding b).maker b → NobodyInDoubt s

-- The request is what the action waits for now.
pub record Pending (s : State) (a : Act) (k : ℕ) : Type 0 where
  pub last : k ≡ (s.action a).request
  pub waits : (s.action a).waits ≡ true
  pub alive : Alive s a
  pub going : GoesOn s (root a)

abbrev pub Conflict : Bool → Bool → Type 0
Conflict v w = (v ≡ true) ⊎ (w ≡ true)

abbrev pub Order : State → Act → Bool → ℕ → Type 0
Order s a w p = (c : Call) → In c s.calls → root c.act ≡ root a → c.line < p → Conflict c.write w → Alive s c.act → Passed s c.act a p

-- What a message means, for ever.

abbrev pub Asked : State → Request → Type 0
Asked s q = (is_action q.act ≡ true) × (q.number ≤ (s.action q.act).request) × ((s.binding q.binding).named ≡ true)
    × (Pending s q.act q.number → q.binding ≡ s.kept (root q.act))

abbrev pub Mean : State → Message → Type 0
Mean s (Live m b) = (is_top m ≡ true) × ((s.binding b).named ≡ true) × (b ≤ s.naming.recorded) × Own s m b
Mean s (Made m b) = (is_top m ≡ true) × ((s.binding b).maker ≡ m) × (1 ≤ b) × (b < s.naming.bound) × Own s m b
Mean s (Granted m g) = (is_top m ≡ true) × (g ≤ s.naming.first) × Wrote s m g
Mean s (Activate b v) =
    (1 ≤ b) × (b < s.naming.bound) × (b ≤ s.kept (root (s.binding b).maker)) × (is_top (s.binding b).maker ≡ true) × Doubtless s b
Mean s (Activated b i) = (1 ≤ b) × (b < s.naming.bound) × (b ≤ s.kept (root (s.binding b).maker)) × (is_top (s.binding b).maker ≡ true)
    × Reached (server_of s b) i b × Doubtless s b
Mean s (Recorded b) = ((s.binding b).named ≡ true) × (b ≤ s.naming.recorded)
Mean s (Invoke q) = Asked s q
Mean s (Invoked r) = Asked s r.request × (r.place ≤ s.now) × (Pending s r.request.act r.request.number → Covers s r.request.act
    r.request.binding (mode r.request.write) × ((s.action r.request.act).since ≤ r.place) × Order s r.request.act r.request.write r.place)
Mean s (Refused q) = Unit {0}
Mean s (Changed b) = Unit {0}
Mean s (Vote m b i) =
    (is_top m ≡ true) × ((s.binding b).named ≡ true) × (b ≤ s.kept (root m)) × (i ≤ (s.binding b).incarnation) × (1 ≤ (s.action m).stage)
Mean s (Confirm m q) = (is_top m ≡ true) × (1 ≤ (s.action m).stage) × ((c : Call) → In c s.calls → Alive s c.act → Covered s m c.act →
    q ≤ s.kept (root m)) × ((c : Include) → In c s.includes → Alive s c.act → Covered s m c.act → q ≤ c.grant)

-- The invariant, part by part.

pub record NamingHolds (s : State) : Type 0 where
  pub apart : Apart s.naming.rows
  pub told : (m : Act) → is_top m ≡ true → s.naming.told m ≡ true → (3 ≤ (s.action m).stage) ⊎ (3 ≤ (s.action (Root (root m))).stage)
  pub known : s.naming.first ≤ s.naming.recorded → (s.binding s.naming.recorded).named ≡ true
  pub recorded_below : s.naming.recorded < s.naming.bound
  pub first_below : s.naming.first ≤ s.naming.bound
  pub first_above : 1 ≤ s.naming.first
  pub kept_below : (u : ℕ) → s.kept u < s.naming.bound
  pub made_below : (m : Act) → s.naming.made m < s.naming.bound
  pub making : (m : Act) → is_top m ≡ true → s.naming.told m ≡ false → s.naming.first ≤ s.naming.made m →
      s.naming.recorded < s.naming.made m → 2 ≤ s.naming.rows m
  pub doubt : s.naming.first ≤ s.naming.recorded → NobodyInDoubt s

pub record NamedHolds (s : State) (b : ℕ) : Type 0 where
  pub positive : 1 ≤ b
  pub below : b < s.naming.bound
  pub kept : b ≤ s.kept (root (s.binding b).maker)
  pub maker : is_top (s.binding b).maker ≡ true
  pub reached : Reached (server_of s b) (s.binding b).incarnation b
  pub doubtless : Doubtless s b

pub record CallHolds (s : State) (c : Call) : Type 0 where
  pub acts : is_action c.act ≡ true
  pub before : c.line < s.now
  pub sure : Alive s c.act → Sure s (top c.act)
  pub covers : Alive s c.act → Covers s c.act (s.kept (root c.act)) (mode c.write)

pub record IncludeHolds (s : State) (c : Include) : Type 0 where
  pub acts : is_action c.act ≡ true
  pub before : c.line < s.now
  pub granted : c.grant ≤ s.naming.first
  pub entered : Alive s c.act → Entered s (top c.act) c.grant

pub record TopHolds (s : State) (m : Act) : Type 0 where
  pub before : (s.action m).place < s.now
  pub ordered : (s.action m).stage ≡ 3 → (s.action m).place < (s.action m).done
  pub goes : 1 ≤ (s.action m).stage → (s.action m).stage ≤ 2 → GoesOn s (root m)
  pub called : 2 ≤ (s.action m).stage → (s.action m).stage ≤ 3 → (c : Call) → In c s.calls → Alive s c.act → Covered s m c.act →
      (s.yes m ≡ s.kept (root m)) × (s.confirmed m ≡ true)
  pub included : 2 ≤ (s.action m).stage → (s.action m).stage ≤ 3 → (c : Include) → In c s.includes → Alive s c.act → Covered s m c.act →
      s.confirmed m ≡ true
  pub asked : s.confirmed m ≡ true → 1 ≤ (s.action m).stage
  pub confirmed : s.confirmed m ≡ true → (s.naming.confirmed m ≡ true) ⊎ (((c : Call) → In c s.calls → Alive s c.act → Covered s m c.act →
      s.kept (root m) < s.naming.first) × ((c : Include) → In c s.includes → Alive s c.act → Covered s m c.act → c.grant < s.naming.first))
  pub voting : 1 ≤ s.yes m → 1 ≤ (s.action m).stage
  pub named : 1 ≤ s.yes m → (s.binding (s.yes m)).named ≡ true
  pub voted : 1 ≤ s.yes m → IsUp s (s.yes m) → (server_of s (s.yes m)).voted m ≡ true

pub record WaitHolds (s : State) (a : Act) : Type 0 where
  pub acts : is_action a ≡ true
  pub sure : Sure s (top a)
  pub path : (u : Act) → on a u ≡ true → is_action u ≡ true → (s.action u).stage ≡ 0
  pub since : (s.action a).since ≤ s.now
  pub alone : (c : Call) → In c s.calls → (s.action a).since ≤ c.line → on c.act a ≡ false

abbrev pub Waits : State → Act → Type 0
Waits s a = (s.action a).waits ≡ true → Alive s a → GoesOn s (root a) → WaitHolds s a

abbrev pub Anti : State → Type 0
Anti s = (a b : Act) → (s.action a).waits ≡ true → Alive s a → (s.action b).waits ≡ true → Alive s b → on a b ≡ true → a ≡ b

abbrev pub Live3 : State → Act → Type 0
Live3 s m = (1 ≤ (s.action m).stage) × ((s.action m).stage ≤ 3)

abbrev pub Done : State → Act → ℕ → Type 0
Done s m p = ((s.action m).stage ≡ 3) × ((s.action m).done < p)

abbrev pub Before : State → Act → ℕ → Type 0
Before s m p = (1 ≤ (s.action m).stage) × ((s.action m).place < p)

-- of two tops of one unit one committed before the other's commit was called
abbrev pub Turns : State → Type 0
Turns s = (m t : Act) → is_top m ≡ true → is_top t ≡ true → root m ≡ root t → m ≢ t → Live3 s m → Live3 s t →
    Done s m (s.action t).place ⊎ Done s t (s.action m).place

abbrev pub Member : State → Act → Act → Type 0
Member s m a = ((s.action m).stage ≡ 0) ⊎ Covered s m a

-- Two calls of different units: the later one's line stands behind the earlier unit's commit calls.
pub record Follows (s : State) (c : Call) (d : Act) (w : Bool) (p : ℕ) (m : Act) : Type 0 where
  pub node : Before s m p ⊎ (s.kept (root c.act) ≡ s.kept (root d))
  pub order : Conflict c.write w → Before s m p × (c.write ≡ true → Done s (top c.act) p)

-- what one asks of the earlier call and a member of its unit
pub record Counts (s : State) (c : Call) (m : Act) : Type 0 where
  pub alive : Alive s c.act
  pub good : Good s (top c.act)
  pub top : is_top m ≡ true
  pub unit : root m ≡ root c.act
  pub member : Member s m c.act
  pub counts : Good s m

abbrev pub Pairs : State → Type 0
Pairs s = (c d : Call) (m : Act) → In c s.calls → In d s.calls → c.line < d.line → root c.act ≢ root d.act → Counts s c m → Alive s d.act →
    Good s (top d.act) → Follows s c d.act d.write d.line m

abbrev pub Nested : State → Type 0
Nested s = (c d : Call) → In c s.calls → In d s.calls → c.line < d.line → root c.act ≡ root d.act → Conflict c.write d.write →
    Alive s c.act → Alive s d.act → Good s (top d.act) → Passed s c.act d.act d.line

pub record Holds (s : State) : Type 0 where
  pub naming : NamingHolds s
  pub bindings : (b : ℕ) → (s.binding b).named ≡ true → NamedHolds s b
  pub servers : (n : ℕ) → Apart (s.server n).rows
  pub calls : (c : Call) → In c s.calls → CallHolds s c
  pub includes : (c : Include) → In c s.includes → IncludeHolds s c
  pub tops : (m : Act) → is_top m ≡ true → TopHolds s m
  pub turns : Turns s
  pub ended : (a : Act) → is_action a ≡ true → (s.action a).stage ≡ 3 → (s.action a).done < s.now
  pub waits : (a : Act) → Waits s a
  pub anti : Anti s
  pub pairs : Pairs s
  pub nested : Nested s
  pub mail : (m : Message) → In m s.net → Mean s m
