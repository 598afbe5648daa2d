-- Small journals, right ones and ones that are wrong in one place; and what nodes have at the end of one.
use Rattle.std.specs.Prelude.{refl, ℕ, ◌==◌, ◌&&◌, if◌then◌else◌, List, [], ◌∷◌, ◌++◌, replicate, codes, Option, None, Some}
use Rattle.std.proofs.Common.{arith}
use Rattle.arj_base.specs.declared.mode.End.{End}
use Rattle.arj_base.specs.declared.mode.End.TheVariants as ending
use Rattle.arj_base.specs.declared.uid.Uid.{Uid}
use Rattle.arj_base.specs.State.{state_bytes}
use Rattle.arj_base.specs.Uid.{entry, nobody, object, uid_eq}
use Rattle.arj_base.specs.declared.state.Class.TheVariants as class
use Rattle.arj_base.specs.declared.state.Format.TheVariants.{Two}
use Rattle.arj_base.specs.declared.state.ObjectState.{ObjectState}
use Rattle.arj_class.specs.declared.op.Op.TheVariants.{Add}
use Rattle.arj_class.specs.declared.value.Value.TheVariants.{Counter}
use Rattle.arj_disk.specs.Says.{role_eq}
use Rattle.arj_disk.specs.declared.slot.Role.{Role as Side}
use Rattle.arj_disk.specs.declared.slot.Role.TheVariants as side
use Rattle.arj_journal.specs.declared.body.Body.{Body}
use Rattle.arj_journal.specs.declared.body.Body.TheVariants as body
use Rattle.arj_journal.specs.declared.body.Kind.TheVariants as kind
use Rattle.arj_journal.specs.declared.body.Line.{Line}
use Rattle.arj_journal.specs.declared.body.Role.TheVariants as role
use Rattle.arj_journal.specs.declared.header.Header.{Header}
use Rattle.arj_model.specs.Calls.{Top}
use Rattle.arj_model.specs.Disks.{Disks, Reading}
use Rattle.arj_model.specs.Last.{entry_payload, last_state}
use Rattle.arj_protocol.specs.Effect.{Pair}
use Rattle.arj_protocol.specs.Step.{Node}
use Rattle.arj_text.specs.declared.label.Label.{Label}
use Rattle.arj_protocol.specs.World.{numbered}

-- a top with its Uid, at node 1
abbrev pub label : Label
label = record { len = 1; text = 65 ∷ replicate 15 0; whole = refl; short = omega arith; zeros = refl }

-- its Uid
abbrev pub its_uid : Uid
its_uid = record { node = 1; inc = 1; num = 1 }

-- what the store of a node has done for it
abbrev pub done_at : ℕ → End → Body
done_at n e = body.Done n its_uid role.Store e

-- it writes object 1, and its commit is called: store 2 prepares, and store 3 doesn't
abbrev pub before_commit : List Line
before_commit =
    numbered 1 (body.Began label kind.Top its_uid None ∷ []) ++ numbered 2 (body.Ok label 1 (Add 5) (codes "done") ∷ [])
    ++ numbered 3 (body.Committing label ∷ []) ++ numbered 4 (body.Prepared 2 its_uid role.Store ∷ [])

-- Store 3 is excluded, and what it prepared too late is aborted; store 2 commits, prepares an old state again, and aborts that.
abbrev pub right_end : List Line
right_end =
    before_commit ++ numbered 5 (body.Excluded label 1 3 ∷ body.Committed label ∷ [])
    ++ numbered 6 (body.Prepared 3 its_uid role.Store ∷ done_at 3 ending.Abort ∷ done_at 2 ending.Commit
    ∷ body.Prepared 2 its_uid role.Store ∷ done_at 2 ending.Abort ∷ [])

-- Store 2 aborts what it prepared, though it hasn't committed it and wasn't excluded; only a halt since the commit call is a cause.
abbrev pub wrong_abort : List Line
wrong_abort = before_commit ++ numbered 5 (body.Excluded label 1 3 ∷ body.Committed label ∷ done_at 2 ending.Abort ∷ [])

-- nor may naming, without such a cause
abbrev pub wrong_names_abort : List Line
wrong_names_abort = before_commit ++ numbered 5 (body.Committed label ∷ body.Done 1 its_uid role.Names ending.Abort ∷ [])

-- a store aborts a decided top behind a halt
abbrev pub halted_abort : List Line
halted_abort = before_commit ++ numbered 5 (body.Halted 2 ∷ body.Committed label ∷ done_at 2 ending.Abort ∷ [])

-- Store 2 commits before the top is decided; where a restart has found its record it may.
abbrev pub wrong_commit : List Line
wrong_commit = before_commit ++ numbered 5 (done_at 2 ending.Commit ∷ body.Committed label ∷ [])

-- a store commits a top whose record a restart found
abbrev pub found_commit : List Line
found_commit = before_commit ++ numbered 5 (body.Halted 1 ∷ body.Up 1 2 ∷ body.Recovered 1 its_uid ∷ done_at 2 ending.Commit ∷ [])

-- ---- nodes, at the end of a journal

-- Store 3 was excluded when the top committed; store 2 has its state prepared, and the naming node the entry without store 3.
abbrev pub decided_lines : List Line
decided_lines = before_commit ++ numbered 5 (body.Excluded label 1 3 ∷ body.Committed label ∷ [])

-- a counter at the stores 2 and 3
abbrev pub header : Header
header = record { nodes = 3; objects = record { x = 1; value = Counter 0; servers = 1 ∷ []; stores = 2 ∷ 3 ∷ [] } ∷ []; format = Two }

-- its last state
abbrev pub its_last : ObjectState
its_last = last_state header decided_lines 1

-- the top, by its number and the place where its commit is called
abbrev pub its_top : Top
its_top = record { id = 0; root = 0; at = 2 }

-- a state of the counter
abbrev pub counter_state : ℕ → Uid → ℕ → ObjectState
counter_state version writer value =
    record {
      uid = object 1;
      class = class.Counter;
      version = version;
      writer = writer;
      payload = replicate 7 0 ++ value ∷ [];
      format = Two;
    }

-- a state of its entry, with these stores
abbrev pub entry_with : ℕ → Uid → List ℕ → ObjectState
entry_with version writer stores =
    record { uid = entry 1; class = class.Entry; version = version; writer = writer; payload = entry_payload (1 ∷ []) stores; format = Two }

-- a pair that holds a state and has another one prepared for the top, or nothing
abbrev pub pair_with : Uid → ObjectState → List (Uid × List ObjectState) → Pair
pair_with u held pend = record { held = (u, held) ∷ []; pend = pend }

-- a pair with nothing
abbrev pub empty : Pair
empty = record { held = []; pend = [] }

-- a node that is down, with these pairs
abbrev pub node_with : ℕ → Pair → Pair → Node
node_with n store names = record { number = n; disk = record { inc = 1; store = store; names = names; intents = [] }; live = None }

-- the counter's first state
abbrev pub first_counter : ObjectState
first_counter = counter_state 0 nobody 0

-- store 2 has the new state prepared
abbrev pub store_two : Node
store_two = node_with 2 (pair_with (object 1) first_counter ((its_uid, counter_state 1 its_uid 5 ∷ []) ∷ [])) empty

-- store 3 holds the first state
abbrev pub store_three : Node
store_three = node_with 3 (pair_with (object 1) first_counter []) empty

-- the naming node, with that entry prepared, and without
abbrev pub naming_node : Node
naming_node =
    node_with 1 empty (pair_with (entry 1) (entry_with 0 nobody (2 ∷ 3 ∷ [])) ((its_uid, entry_with 1 its_uid (2 ∷ []) ∷ []) ∷ []))

-- the naming node with the old entry and nothing prepared
abbrev pub naming_late : Node
naming_late = node_with 1 empty (pair_with (entry 1) (entry_with 0 nobody (2 ∷ 3 ∷ [])) [])

-- ---- what disks say, at the end of a journal

-- the new state that the top has prepared, if any
abbrev pub prepared_with : Side → Option ObjectState → Side → Uid → Option (List (Uid × List ℕ))
prepared_with r None q a = None
prepared_with r (Some new) q a = if role_eq q r && uid_eq a its_uid then Some ((new.uid, state_bytes new) ∷ []) else None

-- a disk with one state of a role, and another one prepared there for the top, or nothing
abbrev pub reading_with : Side → ObjectState → Option ObjectState → Reading
reading_with r state new = record {
  held = λ q u. if role_eq q r && uid_eq u state.uid then Some (state_bytes state) else None;
  pend = prepared_with r new;
  records = λ a. None;
  inc = 1;
}

-- The stores 2 and 3 hold the first state, and store 2 has the new one prepared; naming's entry is the old one, and this one is prepared,
-- if any.
abbrev pub disks_with : Option ObjectState → Disks
disks_with new n =
    if n == 1 then reading_with side.Names (entry_with 0 nobody (2 ∷ 3 ∷ [])) new
    else if n
    == 2 then reading_with side.Store first_counter (Some (counter_state 1 its_uid 5)) else reading_with side.Store first_counter None

-- the entry without store 3 is prepared
abbrev pub disks_decided : Disks
disks_decided = disks_with (Some (entry_with 1 its_uid (2 ∷ [])))

-- no entry is prepared
abbrev pub disks_late : Disks
disks_late = disks_with None
