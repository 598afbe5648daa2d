-- Small journals of runs that ended and of runs that went on from their disks: of each the lines that tell of actions, calls, exclusions,
-- includes and nodes.
use Rattle.std.specs.Prelude.{refl, ◌≡◌, ℕ, List, [], ◌∷◌, ◌++◌, replicate, codes, None, Some}
use Rattle.std.proofs.Common.{arith}
use Rattle.arj_base.specs.declared.state.Class.TheVariants as class
use Rattle.arj_base.specs.declared.state.Format.TheVariants as format
use Rattle.arj_base.specs.declared.state.ObjectState.{ObjectState}
use Rattle.arj_base.specs.declared.uid.Uid.{Uid}
use Rattle.arj_base.specs.Uid.{entry, object}
use Rattle.arj_class.specs.declared.op.Op.TheVariants.{Add}
use Rattle.arj_class.specs.declared.value.Value.TheVariants.{Counter}
use Rattle.arj_journal.specs.declared.body.Body.{Body}
use Rattle.arj_journal.specs.declared.body.Body.TheVariants as body
use Rattle.arj_journal.specs.declared.body.Cause.TheVariants as cause
use Rattle.arj_journal.specs.declared.body.Kind.TheVariants as kind
use Rattle.arj_journal.specs.declared.body.Line.{Line}
use Rattle.arj_journal.specs.declared.header.Header.{Header}
use Rattle.arj_text.specs.declared.label.Label.{Label}
use Rattle.arj_model.specs.Last.{entry_from, entry_payload, entry_state, first_values, last_from, last_state}
use Rattle.arj_model.specs.Serial.{Serial}
use Rattle.arj_law.specs.Joined.{AreApart, AreCalled, marks_after}

-- a label of one letter
abbrev pub letter : ℕ → Label
letter c = record { len = 1; text = c ∷ replicate 15 0; whole = refl; short = omega arith; zeros = refl }

-- an action of node 1, in its first incarnation and in its second
abbrev pub early : ℕ → Uid
early num = record { node = 1; inc = 1; num = num }

-- in its second
abbrev pub late : ℕ → Uid
late num = record { node = 1; inc = 2; num = num }

-- a line of an event
abbrev pub line_in : ℕ → Body → Line
line_in event b = record { event = event; body = b }

-- a header with one counter
abbrev pub counter_at : ℕ → List ℕ → Header
counter_at value stores = record { nodes = 3; objects = record { x = 1; value = Counter value; servers = 1 ∷ []; stores = stores } ∷ []; format = format.Two }

-- a state of the counter
abbrev pub counter_state : ℕ → Uid → ℕ → ObjectState
counter_state version writer value =
    record { uid = object 1; class = class.Counter; version = version; writer = writer; payload = replicate 7 0 ++ value ∷ []; format = format.Two }

-- its entry
abbrev pub counter_entry : ℕ → Uid → List ℕ → ObjectState
counter_entry version writer stores =
    record { uid = entry 1; class = class.Entry; version = version; writer = writer; payload = entry_payload (1 ∷ []) stores; format = format.Two }

-- The second run goes on where the first one ended, and both together have these last states.
pub record EndSo (header next : Header) (first second : List Line) (state entry : ObjectState) : Type 0 where
  pub apart : AreApart first second
  pub called : AreCalled second
  pub serial : Serial (first_values header) (first ++ second)
  pub state_is : last_state header (first ++ second) 1 ≡ state
  pub state_from : last_from next (marks_after header first) second 1 ≡ state
  pub entry_is : entry_state header (first ++ second) 1 ≡ entry
  pub entry_goes : entry_from next (marks_after header first) second 1 ≡ entry

-- A top adds 5 to a counter that begins with 2; then another one adds 3.
abbrev pub adds : List Line
adds =
    line_in 1 (body.Began (letter 65) kind.Top (early 1) None) ∷ line_in 2 (body.Ok (letter 65) 1 (Add 5) (codes "done"))
    ∷ line_in 3 (body.Committing (letter 65)) ∷
    line_in 3 (body.Committed (letter 65)) ∷ line_in 4 (body.Halted 1) ∷ []

-- by another top, with another label
abbrev pub adds_more : List Line
adds_more =
    line_in 5 (body.Up 1 2) ∷ line_in 6 (body.Began (letter 66) kind.Top (late 1) None)
    ∷ line_in 7 (body.Ok (letter 66) 1 (Add 3) (codes "done")) ∷ line_in 8 (body.Committing (letter 66)) ∷
    line_in 8 (body.Committed (letter 66)) ∷ []

-- A top writes at two stores, of which the third node's is excluded; then another one includes it again.
abbrev pub excludes : List Line
excludes =
    line_in 1 (body.Began (letter 65) kind.Top (early 1) None) ∷ line_in 3 (body.Ok (letter 65) 1 (Add 1) (codes "done"))
    ∷ line_in 4 (body.Halted 3) ∷ line_in 5 (body.Committing (letter 65)) ∷
    line_in 7 (body.GaveUp (letter 65) 3) ∷ line_in 7 (body.Excluded (letter 65) 1 3) ∷ line_in 7 (body.Committed (letter 65))
    ∷ line_in 12 (body.Halted 1) ∷ line_in 13 (body.Halted 2) ∷ []

-- which writes nothing
abbrev pub includes : List Line
includes =
    line_in 14 (body.Up 1 2) ∷ line_in 15 (body.Up 2 2) ∷ line_in 16 (body.Up 3 2)
    ∷ line_in 17 (body.Began (letter 73) kind.Top (late 1) None) ∷ line_in 19 (body.Includes (letter 73) 1 3) ∷
    line_in 20 (body.Committing (letter 73)) ∷ line_in 21 (body.Committed (letter 73)) ∷ []

-- A serializing action with two constituents; then a top with two nested actions, of which one aborts.
abbrev pub constituents : List Line
constituents =
    line_in 1 (body.Began (letter 83) kind.Serial (early 1) None) ∷ line_in 2
    (body.Began (letter 67) kind.Constituent (early 2) (Some (letter 83))) ∷ line_in 3 (body.Ok (letter 67) 1 (Add 1) (codes "done")) ∷
    line_in 4 (body.Committing (letter 67)) ∷ line_in 4 (body.Committed (letter 67))
    ∷ line_in 5 (body.Began (letter 68) kind.Constituent (early 3) (Some (letter 83))) ∷
    line_in 6 (body.Ok (letter 68) 1 (Add 1) (codes "done")) ∷ line_in 7 (body.Committing (letter 68))
    ∷ line_in 7 (body.Committed (letter 68)) ∷ line_in 8 (body.Ended (letter 83)) ∷ line_in 9 (body.Halted 1) ∷ []

-- below the top
abbrev pub nested : List Line
nested =
    line_in 10 (body.Up 1 2) ∷ line_in 11 (body.Began (letter 65) kind.Top (late 1) None)
    ∷ line_in 12 (body.Ok (letter 65) 1 (Add 4) (codes "done")) ∷
    line_in 13 (body.Began (letter 78) kind.Nested (late 2) (Some (letter 65))) ∷ line_in 14 (body.Ok (letter 78) 1 (Add 5) (codes "done"))
    ∷ line_in 15 (body.Aborted (letter 78) cause.Asked) ∷
    line_in 16 (body.Began (letter 77) kind.Nested (late 3) (Some (letter 65))) ∷ line_in 17 (body.Ok (letter 77) 1 (Add 2) (codes "done"))
    ∷ line_in 18 (body.Committed (letter 77)) ∷
    line_in 19 (body.Committing (letter 65)) ∷ line_in 19 (body.Committed (letter 65)) ∷ []

-- so the samples end
abbrev pub AddsEnd : Type 0
AddsEnd = EndSo (counter_at 2 (1 ∷ [])) (counter_at 7 (1 ∷ [])) adds adds_more (counter_state 2 (late 1) 10)
    (counter_entry 0 (record { node = 0; inc = 0; num = 0 }) (1 ∷ []))

-- the second one
abbrev pub IncludesEnd : Type 0
IncludesEnd = EndSo (counter_at 0 (2 ∷ 3 ∷ [])) (counter_at 1 (2 ∷ [])) excludes includes (counter_state 1 (early 1) 1)
    (counter_entry 2 (late 1) (2 ∷ 3 ∷ []))

-- and the third
abbrev pub NestedEnd : Type 0
NestedEnd = EndSo (counter_at 0 (1 ∷ [])) (counter_at 2 (1 ∷ [])) constituents nested (counter_state 3 (late 1) 8)
    (counter_entry 0 (record { node = 0; inc = 0; num = 0 }) (1 ∷ []))
