-- Small runs, as lists of acts: that the guards can be met.
use Rattle.std.specs.Prelude.{◌≡◌, ℕ, List, [], ◌∷◌, ◌==◌, ◌||◌, true, false, if◌then◌else◌, Some, None}
use Rattle.arj_law_disk.specs.machine.Effects.{Begin, Take, Seal, Intend, Decide, Remove, Halt, Keep, Move, Finish, Drop, Agree, Enter}
use Rattle.arj_law_disk.specs.machine.Effects.{MoveEntry, FinishEntry, DropEntry, Send}
use Rattle.arj_law_disk.specs.machine.Guards.{end_of}
use Rattle.arj_law_disk.specs.machine.Messages.{Prepare, Prepared, Confirm, Confirmed, ToldCommit, ToldAbort, Acked}
use Rattle.arj_law_disk.specs.machine.Names.{Names, Office, Act, Do, Commit, Write, Exclude, Lower, EndTop, Restart, Hear, KeepList}
use Rattle.arj_law_disk.specs.machine.Names.{AnswerLoad}
use Rattle.arj_law_disk.specs.machine.State.{State, Packed, Plan, Hold, Idle}
use Rattle.arj_law_disk.specs.machine.Words.{has}

-- an object with value 0 at the stores 2 and 3, and its entry; each action is its own root
abbrev pub zero_state : Packed
zero_state = record { version = 0; writer = 0; content = 0 ∷ [] }

-- its entry lists both
abbrev pub zero_entry : Packed
zero_entry = record { version = 0; writer = 0; content = 2 ∷ 3 ∷ [] }

-- a plan that changes nothing
abbrev pub no_plan : Plan
no_plan = record { writes = None; list = []; joins = []; loaded = zero_state }

-- the machine before anything happened
abbrev pub first_state : State
first_state = record {
  first = zero_state;
  past = [];
  first_entry = zero_entry;
  root = λ t. t;
  serial = λ t. false;
  stage = λ t. Idle;
  plan = λ t. no_plan;
  begun = λ t. false;
  got = λ t s. false;
  intent = λ t. None;
  bare = λ t. false;
  tops = [];
  held = λ s. if has s (2 ∷ 3 ∷ []) then Some zero_state else None;
  pend = λ s. None;
  went = λ t s. false;
  entry = zero_entry;
  entry_pend = None;
  conf = λ t. false;
  light = λ t. false;
}

-- naming's half then
abbrev pub first_names : Names
first_names = record {
  inc = 1;
  row = λ h. None;
  given = λ t. false;
  told = λ t. false;
  confd = λ t. false;
  asked = λ t. false;
  live = false;
  had = λ t i. false;
  kept = λ h. None;
  answers = [];
}

-- both
abbrev pub first_office : Office
first_office = record { world = record { disk = first_state; sent = [] }; names = first_names }

-- a top's state, and its plan for a list
abbrev pub state_by : ℕ → ℕ → Packed
state_by version top = record { version = version; writer = top; content = version ∷ [] }

-- the plan of a top that writes a state, for a list of stores
abbrev pub writing : Packed → List ℕ → Plan
writing w list = record { writes = Some w; list = list; joins = []; loaded = zero_state }

-- the holds of the top 5 at a store, and of the tops 5 and 6 at the naming node
abbrev pub hold_of_five : Hold
hold_of_five = record { top = 5; new = state_by 1 5 }

-- what the top 5 has prepared at the naming node
abbrev pub entry_of_five : Hold
entry_of_five = record { top = 5; new = record { version = 1; writer = 5; content = 2 ∷ [] } }

-- what the top 6 has prepared there
abbrev pub entry_of_six : Hold
entry_of_six = record { top = 6; new = record { version = 2; writer = 6; content = 2 ∷ 3 ∷ [] } }

-- the plan of a top that includes a store, with the state that it loaded
abbrev pub joining : Packed → ℕ → Plan
joining g s = record { writes = None; list = []; joins = s ∷ []; loaded = g }

-- the same object, with a serializing action 9 and its constituents 6 and 7
abbrev pub serial_office : Office
serial_office = record first_office
    { world = record { disk = record first_state { root = λ t. if (t == 6) || (t == 7) then 9 else t; serial = λ t. t == 9 }; sent = [] } }

-- Top 5 writes; store 3 is silent and is excluded: up to the naming node's Yes.
abbrev pub excluding : List Act
excluding =
    Write 5 false ∷ Hear 5 1 false (2 ∷ 3 ∷ []) ∷ KeepList 5 5 1 (2 ∷ 3 ∷ []) ∷ Lower 5 ∷
    Do (Begin 5 (writing (state_by 1 5) (2 ∷ 3 ∷ []))) ∷ Do (Send (Prepare 5 2)) ∷ Do (Send (Prepare 5 3)) ∷ Do (Keep 5 2) ∷
    Do (Send (Prepared 5 2)) ∷ Do (Take 5 2) ∷ Do (Seal 5) ∷ Do (Send (Confirm 5)) ∷ Exclude 5 ∷ Do (Enter 5) ∷ Do (Send (Confirmed 5)) ∷
    []

-- The coordinator stops before its record is in place: everything is dropped.
abbrev pub stopped_before : List Act
stopped_before =
    Do (Halt 5) ∷ Do (Send (ToldAbort 5 2)) ∷ Do (Drop 2 (hold_of_five)) ∷ Do (Send (ToldAbort 5 1)) ∷ Do (DropEntry (entry_of_five)) ∷
    EndTop 5 false ∷ []

-- It stops after that: the restart reports the decision.
abbrev pub stopped_after : List Act
stopped_after =
    Do (Intend 5 (1 ∷ 2 ∷ [])) ∷ Do (Halt 5) ∷ Do (Decide 5) ∷ Do (Send (ToldCommit 5 2)) ∷ Do (Move 2 (hold_of_five)) ∷
    Do (Finish 2 (hold_of_five)) ∷ []

-- The naming node restarts with the exclusion in doubt, and the lock is given back.
abbrev pub naming_restarts : List Act
naming_restarts =
    Do (Intend 5 (1 ∷ 2 ∷ [])) ∷ Restart (λ t. t == 5) ∷ Commit 5 ∷ Do (Send (ToldCommit 5 1)) ∷ Do (MoveEntry (entry_of_five)) ∷
    Do (FinishEntry (entry_of_five)) ∷ EndTop 5 true ∷ []

-- Without stops; the question that comes again, before the top's end, is answered Yes again.
abbrev pub excluded : List Act
excluded =
    Do (Intend 5 (1 ∷ 2 ∷ [])) ∷ Commit 5 ∷ Do (Send (ToldCommit 5 1)) ∷ Do (Send (ToldAbort 5 3)) ∷ Do (Send (ToldCommit 5 2)) ∷
    Do (MoveEntry (entry_of_five)) ∷ Do (FinishEntry (entry_of_five)) ∷ Do (Send (Confirmed 5)) ∷ EndTop 5 true ∷ Do (Send (Acked 5 1)) ∷
    Do (Move 2 (hold_of_five)) ∷ Do (Finish 2 (hold_of_five)) ∷ Do (Send (Acked 5 2)) ∷ []

-- With both acknowledgements the record goes.
abbrev pub removed : List Act
removed =
    Do (Remove 5 (1 ∷ 2 ∷ [])) ∷ []

-- Top 6 includes store 3 again, with the state that store 2 holds.
abbrev pub including : List Act
including =
    Write 6 true ∷ Hear 6 1 true (2 ∷ []) ∷ AnswerLoad 6 1 2 (2 ∷ []) (state_by 1 5) ∷ Do (Begin 6 (joining (state_by 1 5) 3)) ∷
    Do (Send (Prepare 6 3)) ∷ Do (Keep 6 3) ∷ Do (Send (Prepared 6 3)) ∷ Do (Take 6 3) ∷ Do (Seal 6) ∷ Do (Send (Confirm 6)) ∷
    Do (Enter 6) ∷ Do (Send (Confirmed 6)) ∷ Do (Intend 6 (1 ∷ 3 ∷ [])) ∷ Commit 6 ∷ Do (Send (ToldCommit 6 1)) ∷
    Do (MoveEntry (entry_of_six)) ∷ Do (FinishEntry (entry_of_six)) ∷ EndTop 6 true ∷ []

-- Constituent 6 of the serializing action 9 writes and commits; 9 retains what it has.
abbrev pub serializing : List Act
serializing =
    Write 6 false ∷ Hear 6 1 false (2 ∷ 3 ∷ []) ∷ KeepList 6 6 1 (2 ∷ 3 ∷ []) ∷ Lower 6 ∷
    Do (Begin 6 (writing (state_by 1 6) (2 ∷ 3 ∷ []))) ∷ Do (Send (Prepare 6 2)) ∷ Do (Send (Prepare 6 3)) ∷ Do (Keep 6 2) ∷
    Do (Send (Prepared 6 2)) ∷ Do (Take 6 2) ∷ Do (Keep 6 3) ∷ Do (Send (Prepared 6 3)) ∷ Do (Take 6 3) ∷ Do (Seal 6) ∷
    Do (Send (Confirm 6)) ∷ Do (Agree 6) ∷ Do (Send (Confirmed 6)) ∷ Do (Intend 6 (1 ∷ 2 ∷ 3 ∷ [])) ∷ Commit 6 ∷
    Do (Send (ToldCommit 6 2)) ∷ Do (Move 2 (record { top = 6; new = state_by 1 6 })) ∷
    Do (Finish 2 (record { top = 6; new = state_by 1 6 })) ∷ Do (Send (ToldCommit 6 3)) ∷
    Do (Move 3 (record { top = 6; new = state_by 1 6 })) ∷ Do (Finish 3 (record { top = 6; new = state_by 1 6 })) ∷ []

-- Constituent 7 writes by what 9 retains, and has no lock of its own.
abbrev pub retaining : List Act
retaining =
    Do (Begin 7 (writing (state_by 2 7) (2 ∷ 3 ∷ []))) ∷ Do (Send (Prepare 7 2)) ∷ Do (Send (Prepare 7 3)) ∷ Do (Keep 7 2) ∷
    Do (Send (Prepared 7 2)) ∷ Do (Take 7 2) ∷ Do (Keep 7 3) ∷ Do (Send (Prepared 7 3)) ∷ Do (Take 7 3) ∷ Do (Seal 7) ∷
    Do (Send (Confirm 7)) ∷ Do (Agree 7) ∷ Do (Send (Confirmed 7)) ∷ Do (Intend 7 (1 ∷ 2 ∷ 3 ∷ [])) ∷ Commit 7 ∷ []

-- The same object begun after the store 3 was excluded: it holds the older state.
abbrev pub older_office : Office
older_office = record first_office {
  world = record {
    disk = record first_state {
      first = state_by 1 5;
      past = zero_state ∷ [];
      first_entry = entry_of_five.new;
      held = λ s. if s == 2 then Some (state_by 1 5) else if s == 3 then Some zero_state else None;
      entry = entry_of_five.new;
    };
    sent = [];
  };
}

-- where these runs end
abbrev pub in_doubt : Office
in_doubt = end_of first_office excluding

-- and with its record in place
abbrev pub recorded : Office
recorded = end_of in_doubt (Do (Intend 5 (1 ∷ 2 ∷ [])) ∷ [])

-- what a run leaves in which a top excludes the store 3
abbrev pub without_three : Office
without_three = end_of in_doubt excluded

-- and one in which it is then included again
abbrev pub with_three : Office
with_three = end_of without_three including

-- what the first constituent of a serializing action leaves
abbrev pub first_constituent : Office
first_constituent = end_of serial_office serializing

-- what is held: the entry, and the states of the stores 2 and 3
abbrev pub Holds : Office → Packed → Packed → Packed → Type 0
Holds A entry two three = (A.world.disk.entry ≡ entry) × (A.world.disk.held 2 ≡ Some two) × (A.world.disk.held 3 ≡ Some three)
