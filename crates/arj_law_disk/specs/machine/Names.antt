-- The naming node's volatile half, for one entry, and what coordinators have from it: locks, grants, kept store lists.
use Rattle.std.specs.Prelude.{ℕ, ◌+◌, List, [], ◌∷◌, filter, Bool, true, false, ◌==◌, ◌||◌, ◌&&◌, not, if◌then◌else◌, Option, Some, None}
use Rattle.std.specs.Prelude.{nat_lt}
use Rattle.std.specs.List.{list_any}
use Rattle.arj_law_disk.specs.machine.Effects.{World, Effect, Begin, Take, Seal, Intend, Decide, Remove, EndBare, Halt, Keep, Move, Finish}
use Rattle.arj_law_disk.specs.machine.Effects.{Drop, Agree, Pass, Enter, MoveEntry, FinishEntry, DropEntry, Forget, Send, after}
use Rattle.arj_law_disk.specs.machine.State.{State, Packed, Plan, Hold, Done, list_after}
use Rattle.arj_law_disk.specs.machine.Words.{has, put, put2}

-- Lock modes on the entry: read 0, exclude 1, write 2. Two modes conflict exactly where their numbers add up to 2 or more.

-- a store list that a root keeps, with the incarnation of the naming node that answered it
pub record Kept : Type 0 where
  pub since : ℕ
  pub list : List ℕ

-- What was answered: to a top's bind in an incarnation, by an include or not, a store list; and to a load for an include
-- bound in an incarnation, a state.
pub data Answer : Type 0 where
  Bound : ℕ → ℕ → Bool → List ℕ → Answer
  Loaded : ℕ → ℕ → Packed → Answer

-- the naming node's memory of one entry, and the coordinators' of its answers
pub record Names : Type 0 where
  -- the naming node: its incarnation; the lock of each holder; which locks a restart gave back; of which actions it was
  -- told; which tops it confirmed; which tops asked the write lock by an include; and whether a binding is live
  pub inc : ℕ
  pub row : ℕ → Option ℕ
  pub given : ℕ → Bool
  pub told : ℕ → Bool
  pub confd : ℕ → Bool
  pub asked : ℕ → Bool
  pub live : Bool
  -- the coordinators: the incarnations of the grants that a top has, or that its serializing action retains; and the store
  -- list that is kept for a top's own use, or that its serializing action retains
  pub had : ℕ → ℕ → Bool
  pub kept : ℕ → Option Kept
  -- all answers that were ever given
  pub answers : List Answer

-- the object with the naming node's half
pub record Office : Type 0 where
  pub world : World
  pub names : Names

-- what a node does, with the naming node's half
pub data Act : Type 0 where
  -- an effect; a decision, or the end of a commit without a record, by which the serializing action retains what the top has
  Do : Effect → Act
  Commit CommitBare : ℕ → Act
  -- the naming node: a lock is granted for a live binding, for a new one or an include, for exclusion; a new binding is
  -- recorded; live bindings are dropped; a top or a serializing action is told of as ended; the node restarts
  Read : ℕ → Act
  Write : ℕ → Bool → Act
  Exclude : ℕ → Act
  Lower : ℕ → Act
  Unbind : Act
  EndTop : ℕ → Bool → Act
  EndSerial : ℕ → Act
  Restart : (ℕ → Bool) → Act
  -- coordinators take an answer's grant, or its store list, of which those stores stay that are kept; a store answers a load
  Hear : ℕ → ℕ → Bool → List ℕ → Act
  KeepList : ℕ → ℕ → ℕ → List ℕ → Act
  AnswerLoad : ℕ → ℕ → ℕ → List ℕ → Packed → Act

-- the stronger of a lock and a mode
abbrev pub raised : Option ℕ → ℕ → ℕ
raised None m = m
raised (Some n) m = if nat_lt n m then m else n

-- an answer's list, as far as it agrees with what is kept of the same incarnation
abbrev pub narrowed : ℕ → List ℕ → Option Kept → List ℕ
narrowed i l None = l
narrowed i l (Some k) = if k.since == i then filter (λ s. has s k.list) l else l

-- a kept list after a top's decision
abbrev pub with_list : Plan → (ℕ → Bool) → Option Kept → Option Kept
with_list p got None = None
with_list p got (Some k) = Some (record { since = k.since; list = list_after p got k.list })

-- the kept lists of the top's root after its decision: its exclusions taken out, its inclusions added
abbrev pub lists_after : State → ℕ → (ℕ → Option Kept) → ℕ → Option Kept
lists_after S t kept = λ h. if S.root h == S.root t then with_list (S.plan t) (S.got t) (kept h) else kept h

-- the first, or else the second
abbrev pub or_else : {A : Type 0} → Option A → Option A → Option A
or_else None b = b
or_else (Some a) b = Some a

-- what a serializing action has once it retains what a top has
abbrev pub retained : State → ℕ → Names → Names
retained S t N = record N {
  had = put (S.root t) (λ i. N.had (S.root t) i || N.had t i) N.had;
  kept = put (S.root t) (or_else (N.kept (S.root t)) (N.kept t)) N.kept;
}

-- the lock that a restart gives back for a prepared entry: write where it adds a store
abbrev pub given_mode : Packed → Hold → ℕ
given_mode entry h = if list_any (λ s. not (has s entry.content)) h.new.content then 2 else 1

-- the locks that a restart gives back
abbrev pub given_row : Packed → Option Hold → ℕ → Option ℕ
given_row entry None = λ h. None
given_row entry (Some p) = λ h. if h == p.top then Some (given_mode entry p) else None

-- the top's entry is prepared
abbrev pub is_pending : Option Hold → ℕ → Bool
is_pending None t = false
is_pending (Some p) t = t == p.top

-- a lock with another one passed to it
abbrev pub passed : Option ℕ → Option ℕ → Option ℕ
passed None old = old
passed (Some m) old = Some (raised old m)

-- the locks after a top's end: they pass to its root, or they go
abbrev pub rows_after : State → Names → ℕ → Bool → ℕ → Option ℕ
rows_after S N t passes = put t None (if passes then put (S.root t) (passed (N.row t) (N.row (S.root t))) N.row else N.row)

-- the locks after a serializing action's end
abbrev pub rows_left : State → Names → ℕ → ℕ → Option ℕ
rows_left S N r = λ h. if (S.root h == r) && not (N.given h) then None else N.row h

-- what an effect changes in the naming node's half
abbrev pub noted : State → Effect → Names → Names
noted S (Begin t p) N = N
noted S (Take t s) N = N
noted S (Seal t) N = N
noted S (Intend t nodes) N = N
noted S (Decide t) N = record N { kept = lists_after S t N.kept }
noted S (Remove t nodes) N = N
noted S (EndBare t) N = N
noted S (Halt t) N = N
noted S (Keep t s) N = N
noted S (Move s h) N = N
noted S (Finish s h) N = N
noted S (Drop s h) N = N
noted S (Agree t) N = record N { confd = put t true N.confd }
noted S (Pass t) N = record N { confd = put t true N.confd }
noted S (Enter t) N = record N { confd = put t true N.confd }
noted S (MoveEntry h) N = N
noted S (FinishEntry h) N = N
noted S (DropEntry h) N = N
noted S (Forget r h) N = N
noted S (Send m) N = N

-- what each act changes
abbrev pub acted : Office → Act → Office
acted A (Do e) = record { world = after A.world e; names = noted A.world.disk e A.names }
acted A (Commit t) = record { world = after A.world (Decide t); names = retained A.world.disk t (noted A.world.disk (Decide t) A.names) }
acted A (CommitBare t) = record { world = after A.world (EndBare t); names = retained A.world.disk t A.names }
acted A (Read t) = record A {
  names = record A.names {
    row = put t (Some (raised (A.names.row t) 0)) A.names.row;
    answers = Bound t A.names.inc false A.world.disk.entry.content ∷ A.names.answers;
  };
}
acted A (Write t b) = record A {
  names = record A.names {
    row = put t (Some (raised (A.names.row t) 2)) A.names.row;
    asked = put t (A.names.asked t || b) A.names.asked;
    answers = Bound t A.names.inc b A.world.disk.entry.content ∷ A.names.answers;
  };
}
acted A (Exclude t) = record A { names = record A.names { row = put t (Some (raised (A.names.row t) 1)) A.names.row } }
acted A (Lower t) = record A { names = record A.names { row = put t (Some (if A.names.asked t then 2 else 0)) A.names.row; live = true } }
acted A Unbind = record A { names = record A.names { live = false } }
acted A (EndTop t commits) = record A {
  names = record A.names {
    told = put t true A.names.told;
    row = rows_after A.world.disk A.names t (commits && A.names.confd t && not (A.names.given t));
    given = put t false A.names.given;
  };
}
acted A (EndSerial r) = record A { names = record A.names { told = put r true A.names.told; row = rows_left A.world.disk A.names r } }
acted A (Restart yes_again) = record A {
  names = record A.names {
    inc = A.names.inc + 1;
    row = given_row A.world.disk.entry A.world.disk.entry_pend;
    given = is_pending A.world.disk.entry_pend;
    told = λ t. false;
    confd = yes_again;
    asked = λ t. false;
    live = false;
  };
}
acted A (Hear t i b l) = record A { names = record A.names { had = put2 t i true A.names.had } }
acted A (KeepList h t i l) =
    record A { names = record A.names { kept = put h (Some (record { since = i; list = narrowed i l (A.names.kept h) })) A.names.kept } }
acted A (AnswerLoad t i s l g) = record A { names = record A.names { answers = Loaded t i g ∷ A.names.answers } }

-- the state that the last decided constituent of a root wrote
abbrev pub written_in : (ℕ → ℕ) → ℕ → List Done → Option Packed
written_in root r [] = None
written_in root r (d ∷ ds) = if root d.top == r then or_else d.plan.writes (written_in root r ds) else written_in root r ds

-- a loaded state, or the root's own one where that is newer
abbrev pub newer : Packed → Option Packed → Packed
newer g None = g
newer g (Some k) = if nat_lt g.version k.version then k else g

-- the state that an include of the top sends, once this one was loaded
abbrev pub load_of : State → ℕ → Packed → Packed
load_of S t g = newer g (written_in S.root (S.root t) S.tops)
