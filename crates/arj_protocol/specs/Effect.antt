-- What a node does in a step: lines, messages and work on its disk, in order; and what the disk is.
use Rattle.std.specs.Prelude.{ℕ, Bool, ◌==◌, ◌&&◌, ◌||◌, nat_lt, not, if◌then◌else◌, List, [], ◌∷◌, find, Option, Some, None, is_some}
use Rattle.std.specs.Prelude.{option_map, unwrap_or}
use Rattle.std.specs.List.{list_any}
use Rattle.arj_protocol.specs.Words.{Uid, uid_eq, ObjectState, class_code_of, head_of, Role, Body, Message}
use Rattle.std.specs.Str.{bytes_eq}
use Rattle.arj_protocol.specs.Words.role
use Rattle.arj_protocol.specs.Order.{at_uid, put_uid, without_uid}

-- an intentions record: the root, and the participants of the decided top
pub record Intent : Type 0 where
  pub root : Uid
  pub nodes : List ℕ

-- work on the disk
pub data Work : Type 0 where
  Look : Work  -- a read
  PutInc : ℕ → Work
  Prepare : Role → Uid → List ObjectState → Work
  Commit : Role → Uid → Work
  Abort : Role → Uid → Work
  PutIntent : Uid → Intent → Work
  RemoveIntent : Uid → Work

-- An effect of a step: a line, a message to a node, or work on the disk.
pub data Effect : Type 0 where
  Say : Body → Effect
  Send : ℕ → Message → Effect
  Do : Work → Effect

-- What a part did: the part after it, its effects, and the answer, where there is one. Without one the message is void.
pub record Served (S R : Type 0) : Type 0 where
  pub part : S
  pub outs : List Effect
  pub reply : Option R

-- what a part did without an answer
pub record Did (S : Type 0) : Type 0 where
  pub part : S
  pub outs : List Effect

-- the part is as it was, and gives no answer
abbrev pub void : {S R : Type 0} → S → Served S R
void s = record { part = s; outs = []; reply = None }

-- the part is as it was, and answers
abbrev pub reply : {S R : Type 0} → S → R → Served S R
reply s r = record { part = s; outs = []; reply = Some r }

-- the part is as it was
abbrev pub did_nothing : {S : Type 0} → S → Did S
did_nothing s = record { part = s; outs = [] }

-- ---- disks

-- The pair of a role: the committed states by Uid, and each prepared action with its new states.
pub record Pair : Type 0 where
  pub held : List (Uid × ObjectState)
  pub pend : List (Uid × List ObjectState)

-- A node's disk: its incarnation, states of objects, entries (at node 1), and the intentions records of its commits.
pub record Disk : Type 0 where
  pub inc : ℕ
  pub store : Pair
  pub names : Pair
  pub intents : List (Uid × Intent)

-- the pair of a role is changed
abbrev pub with_pair : Role → (Pair → Pair) → Disk → Disk
with_pair role.Store f d = record d { store = f d.store }
with_pair role.Names f d = record d { names = f d.names }

-- the committed state
abbrev pub held_at : Uid → Pair → Option ObjectState
held_at u d = at_uid u d.held

-- the action has something prepared
abbrev pub is_prepared : Uid → Pair → Bool
is_prepared act d = is_some (at_uid act d.pend)

-- the object is among these states
abbrev pub names_object : Uid → List ObjectState → Bool
names_object u states = list_any (λ s. uid_eq s.uid u) states

-- the prepared action that names an object
abbrev pub holder_of : Uid → Pair → Option Uid
holder_of u d = option_map (λ (p : Uid × List ObjectState). p.0) (find (λ (p : Uid × List ObjectState). names_object u p.1) d.pend)

-- the states, put in the places of the committed ones
abbrev pub moved : List ObjectState → List (Uid × ObjectState) → List (Uid × ObjectState)
moved [] held = held
moved (s ∷ ss) held = moved ss (put_uid s.uid s held)

-- the states of the objects that pass the test, put in the places of the committed ones
abbrev pub moved_some : (Uid → Bool) → List ObjectState → List (Uid × ObjectState) → List (Uid × ObjectState)
moved_some which [] held = held
moved_some which (s ∷ ss) held = moved_some which ss (if which s.uid then put_uid s.uid s held else held)

-- what the action has prepared
abbrev pub new_states : Uid → Pair → List ObjectState
new_states act d = unwrap_or (at_uid act d.pend) []

-- the action has these states prepared
abbrev pub pair_prepared : Uid → List ObjectState → Pair → Pair
pair_prepared act states d = record d { pend = put_uid act states d.pend }

-- what the action has prepared is committed
abbrev pub pair_committed : Uid → Pair → Pair
pair_committed act d = record { held = moved (new_states act d) d.held; pend = without_uid act d.pend }

-- what the action has prepared is gone
abbrev pub pair_aborted : Uid → Pair → Pair
pair_aborted act d = record d { pend = without_uid act d.pend }

-- some states are committed, and all are prepared as before
abbrev pub pair_in_part : (Uid → Bool) → Uid → Pair → Pair
pair_in_part which act d = record d { held = moved_some which (new_states act d) d.held }

-- the disk after the work
abbrev pub worked : Work → Disk → Disk
worked Look d = d
worked (PutInc i) d = record d { inc = i }
worked (Prepare r act states) d = with_pair r (pair_prepared act states) d
worked (Commit r act) d = with_pair r (pair_committed act) d
worked (Abort r act) d = with_pair r (pair_aborted act) d
worked (PutIntent top i) d = record d { intents = put_uid top i d.intents }
worked (RemoveIntent top) d = record d { intents = without_uid top d.intents }

-- How a stop leaves the work on which it falls: not done, done, or, for a commit, done for some of the objects.
pub data Stop : Type 0 where
  Before : Stop
  After : Stop
  InPart : (Uid → Bool) → Stop

-- a commit was done for these objects alone; any other work wasn't done
abbrev pub in_part : (Uid → Bool) → Work → Disk → Disk
in_part which (Commit r act) d = with_pair r (pair_in_part which act) d
in_part which _ d = d

-- the disk after work on which a stop fell
abbrev pub stopped : Stop → Work → Disk → Disk
stopped Before w d = d
stopped After w d = worked w d
stopped (InPart which) w d = in_part which w d

-- ---- what a store answers to a prepare

-- Ready, or why a store doesn't prepare: it committed a state by this action; it has a later one; another action has the object prepared.
pub data Prep : Type 0 where
  Ready : Prep
  Already : Uid → Prep
  Old : Uid → ℕ → Prep
  InDoubt : Uid → Uid → Prep

-- the same state: Uid, format, class, version, writer and value
abbrev pub state_eq : ObjectState → ObjectState → Bool
state_eq s t =
    uid_eq s.uid t.uid && ((head_of s.format == head_of t.format) && ((class_code_of s.class == class_code_of t.class)
    && ((s.version == t.version) && (uid_eq s.writer t.writer && bytes_eq s.payload t.payload))))

-- the version of a committed state that the new one doesn't follow: it is greater, or equal with another state
abbrev pub is_old : ObjectState → ObjectState → Bool
is_old s held = nat_lt s.version held.version || ((s.version == held.version) && not (state_eq s held))

-- another action that has the object prepared refuses the state
abbrev pub by_holder : ObjectState → Option Uid → Option Prep
by_holder s None = None
by_holder s (Some holder) = Some (InDoubt s.uid holder)

-- the refusal of one state, by the committed one and the action that has prepared the object
abbrev pub refusal_of : Uid → ObjectState → Option ObjectState → Option Uid → Option Prep
refusal_of act s None holder = by_holder s holder
refusal_of act s (Some held) holder =
    if uid_eq held.writer act then Some (Already s.uid)
    else (if is_old s held then Some (Old s.uid held.version) else by_holder s holder)

-- the refusal of one state by this pair
abbrev pub refusal_in : Uid → Pair → ObjectState → Option Prep
refusal_in act d s = refusal_of act s (held_at s.uid d) (holder_of s.uid d)

-- the first of two that is there
abbrev pub either : {A : Type 0} → Option A → Option A → Option A
either None other = other
either (Some a) other = Some a

-- the refusal of the first state that has one
abbrev pub first_refusal : Uid → Pair → List ObjectState → Option Prep
first_refusal act d [] = None
first_refusal act d (s ∷ ss) = either (refusal_in act d s) (first_refusal act d ss)

-- the answer where the action isn't prepared yet
abbrev pub prepare_answer : Uid → List ObjectState → Pair → Prep
prepare_answer act states d = unwrap_or (first_refusal act d states) Ready
