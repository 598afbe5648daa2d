-- One object at a server: its active copy, as the state that was activated or last committed here, and over it what the
-- open actions wrote, the deepest first; and the locks on it. An action's entry is its overlay, and what stands under an
-- entry is its before-image.
use Rattle.std.specs.Prelude.{ℕ, Bool, not, ◌&&◌, nat_le, if◌then◌else◌, List, [], ◌∷◌, length, take, filter, find, Option, Some, None}
use Rattle.std.specs.Prelude.{option_map, min}
use Rattle.std.specs.List.{list_any}
use Rattle.arj_protocol.specs.Words.{Uid, Path, End, Mode, Op, Value, ObjectState, Row, uid_eq, object, uids_of, tops_of, last_uid, front}
use Rattle.arj_protocol.specs.Words.{is_on, grant_row, drop_rows, pass_rows, is_row_of, first_conflict, mode_code, class_of, op_mode}
use Rattle.arj_protocol.specs.Words.{writes, answer_of, value_after, payload_of, Binding, InvokedReply}
use Rattle.arj_protocol.specs.Words.ending
use Rattle.arj_protocol.specs.Words.body
use Rattle.arj_protocol.specs.Words.format
use Rattle.arj_protocol.specs.Words.invoked
use Rattle.arj_protocol.specs.Order.{next_version}
use Rattle.arj_protocol.specs.Effect.{Effect, Say, Served}
use Rattle.arj_protocol.specs.Values.{state_value}

-- what an open action wrote: its path, how many leading Uids of it end with its top, and the value
pub record Over : Type 0 where
  pub holder : List Uid
  pub tops : ℕ
  pub value : Value

-- the value under all overlays, with the version and the writer of its state
pub record Base : Type 0 where
  pub value : Value
  pub version : ℕ
  pub writer : Uid

-- The copy of an object at its server: the binding under which it is active, its own value, the overlays, the deepest first, and the locks.
pub record Copy : Type 0 where
  pub binding : Binding
  pub base : Base
  pub stack : List Over
  pub rows : List Row

-- a copy as it is taken: with no overlay and no lock
abbrev pub taken_copy : Binding → ObjectState → Copy
taken_copy b s =
    record { binding = b; base = record { value = state_value s; version = s.version; writer = s.writer }; stack = []; rows = [] }

-- the value in place: that of the deepest overlay, or under all of them
abbrev pub current : Base → List Over → Value
current base [] = base.value
current base (e ∷ es) = e.value

-- the overlay is the action's
abbrev pub is_of : Uid → Over → Bool
is_of u e = uid_eq (last_uid e.holder) u

-- a write by an action: it replaces the action's overlay where that is the deepest one, or is a new one
abbrev pub written : List Uid → ℕ → Value → List Over → List Over
written holder tops v [] = record { holder = holder; tops = tops; value = v } ∷ []
written holder tops v (e ∷ es) =
    if is_of (last_uid holder) e then record e { value = v } ∷ es else record { holder = holder; tops = tops; value = v } ∷ e ∷ es

-- a nested commit is a write by the parent
abbrev pub folded : Uid → List Over → List Over
folded u [] = []
folded u (e ∷ es) = if is_of u e then written (front e.holder) (min e.tops (length (front e.holder))) e.value es else e ∷ es

-- an abort takes out the overlays of the action and of its descendants
abbrev pub undone : Uid → List Over → List Over
undone u es = filter (λ e. not (is_on e.holder u)) es

-- the action's overlay
abbrev pub over_of : Uid → List Over → Option Over
over_of u es = find (is_of u) es

-- the overlay is a top's own
abbrev pub is_top_over : Over → Bool
is_top_over e = nat_le (length e.holder) e.tops

-- a top's overlay becomes the state under all others, one version on, with the top as writer
abbrev pub raised : Uid → Value → Base → Base
raised u v base = record { value = v; version = next_version base.version; writer = u }

-- a top's overlay is settled
abbrev pub settled : Uid → Over → Copy → Copy
settled u e c = record c { base = raised u e.value c.base; stack = filter (λ o. not (is_of u o)) c.stack }

-- what a commit makes of the overlays: a top's is settled, a nested action's goes to its parent
abbrev pub overs_committed : Uid → Option Over → Copy → Copy
overs_committed u None c = c
overs_committed u (Some e) c = if is_top_over e then settled u e c else record c { stack = folded u c.stack }

-- the object after an end, which is applied to overlays and locks
abbrev pub end_copy : Uid → End → Copy → Copy
end_copy u ending.Commit c = let d = overs_committed u (over_of u c.stack) c in record d { rows = pass_rows u c.rows }
end_copy u ending.Abort c = record c { stack = undone u c.stack; rows = drop_rows u c.rows }

-- the action or a descendant of it has a lock
abbrev pub holds : Uid → List Row → Bool
holds u rows = list_any (λ r. is_on r.holder u) rows

-- the action is a top or a serializing action in the path of one of these locks
abbrev pub is_top_in : Uid → List Row → Bool
is_top_in u rows = list_any (λ r. is_on (take r.tops r.holder) u) rows

-- the row of an action's request
abbrev pub row_for : Uid → List Uid → ℕ → Mode → Row
row_for x holder tops m = record { object = x; holder = holder; tops = tops; mode = m }

-- the action has the object in this mode or in a stronger one
abbrev pub is_granted : Uid → Uid → Mode → List Row → Bool
is_granted x act m rows = list_any (λ r. is_row_of x act r && nat_le (mode_code m) (mode_code r.mode)) rows

-- a lock that is free is granted: it makes a line where the action's mode rises
abbrev pub rows_asked : Row → List Row → List Row
rows_asked new rows = if is_granted new.object (last_uid new.holder) new.mode rows then rows else grant_row new rows

-- the line of a lock that is granted, where the action's mode rises
abbrev pub grant_lines : ℕ → Row → List Row → List Effect
grant_lines n new rows =
    if is_granted new.object (last_uid new.holder) new.mode rows then []
    else Say (body.Granted n (last_uid new.holder) new.object new.mode) ∷ []

-- the overlays with the value after the operation on top, where it writes
abbrev pub wrote : Path → Op → Value → List Over → List Over
wrote p op v stack = if writes op then written (uids_of p) (tops_of p) (value_after op v) stack else stack

-- the operation is done in its lock
abbrev pub run_copy : ℕ → Path → ℕ → Op → Copy → Served Copy InvokedReply
run_copy n p x op c = record {
  part = record c {
    stack = wrote p op (current c.base c.stack) c.stack;
    rows =
        rows_asked (row_for (object x) (uids_of p) (tops_of p) (op_mode op)) c.rows;
  };
  outs = grant_lines n (row_for (object x) (uids_of p) (tops_of p) (op_mode op)) c.rows;
  reply = Some (invoked.Answered (answer_of op (current c.base c.stack)));
}

-- an operation on the object, where another action's lock doesn't conflict
abbrev pub ask_copy : ℕ → Path → ℕ → Op → Copy → Option Row → Served Copy InvokedReply
ask_copy n p x op c (Some r) = record { part = c; outs = []; reply = Some (invoked.Conflict (last_uid r.holder) r.mode) }
ask_copy n p x op c None = run_copy n p x op c

-- an operation is asked of the copy
abbrev pub invoke_copy : ℕ → Path → ℕ → Op → Copy → Served Copy InvokedReply
invoke_copy n p x op c = ask_copy n p x op c (first_conflict (uids_of p) (object x) (op_mode op) c.rows)

-- the state that a top made of the object, by its overlay, in the format in which states are written
abbrev pub state_over : Uid → ℕ → Copy → Over → ObjectState
state_over top x c e = record {
  uid = object x;
  class = class_of e.value;
  version = next_version c.base.version;
  writer = top;
  payload = payload_of e.value;
  format = format.Two;
}

-- the same, where it has one
abbrev pub changed_state : Uid → ℕ → Copy → Option ObjectState
changed_state top x c = option_map (state_over top x c) (over_of top c.stack)
