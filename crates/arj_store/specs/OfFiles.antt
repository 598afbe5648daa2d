-- The pair that the files of the shadow store give, and the relations of `specs/Pair.antt` between two states of them.
use Rattle.std.specs.Prelude.{List}
use Rattle.arj_base.specs.declared.state.ObjectState.{ObjectState}
use Rattle.arj_base.specs.declared.uid.Uid.{Uid}
use Rattle.arj_disk.specs.declared.slot.Role.{Role}
use Rattle.arj_disk.specs.FileMap.{FileMap}
use Rattle.arj_store.specs.Says.{held, pend}
use Rattle.arj_store.specs.Pair as pair
use Rattle.arj_store.specs.Pair.{Pair}
use Rattle.arj_store.specs.declared.answer.Prep.{Prep}
use Rattle.arj_store.specs.declared.answer.Found.{Found}

-- the pair that the files of a role give: what is committed, and what is prepared
abbrev pub pair_of : FileMap → Role → Pair
pair_of file role = record { held = held file role; pend = pend file role }

-- the files give the same pair as before
abbrev pub SamePair : Role → FileMap → FileMap → Type 0
SamePair role old new = pair.SamePair (pair_of old role) (pair_of new role)

-- by the files, the action has prepared these states; all else of the pair is as before
abbrev pub Adds : Role → FileMap → FileMap → Uid → List ObjectState → Type 0
Adds role old new act states = pair.Adds (pair_of old role) (pair_of new role) act states

-- by the files, the action is prepared no more; all else of the pair is as before
abbrev pub Drops : Role → FileMap → FileMap → Uid → Type 0
Drops role old new act = pair.Drops (pair_of old role) (pair_of new role) act

-- by the files, what the action had prepared is committed, and it is prepared no more
abbrev pub Moves : Role → FileMap → FileMap → Uid → Type 0
Moves role old new act = pair.Moves (pair_of old role) (pair_of new role) act

-- by the files, some of what the action has prepared is committed, and what is prepared is as before
abbrev pub MovesSome : Role → FileMap → FileMap → Uid → Type 0
MovesSome role old new act = pair.MovesSome (pair_of old role) (pair_of new role) act

-- by the files, this is the object's committed state, unpacked
abbrev pub IsHeld : FileMap → Role → Uid → ObjectState → Type 0
IsHeld file role u s = pair.IsHeld (pair_of file role) u s

-- by the files, the object has a committed state that the action wrote
abbrev pub IsWrittenBy : FileMap → Role → Uid → Uid → Type 0
IsWrittenBy file role act u = pair.IsWrittenBy (pair_of file role) act u

-- by the files, the action's state may follow the committed one of its object, if there is one
abbrev pub FollowsHeld : FileMap → Role → Uid → ObjectState → Type 0
FollowsHeld file role act s = pair.FollowsHeld (pair_of file role) act s

-- by the files, this answer is the refusal of this one state of the action
abbrev pub Refuses : FileMap → Role → Uid → ObjectState → Prep → Type 0
Refuses file role act s answer = pair.Refuses (pair_of file role) act s answer

-- by the files, nothing stands against the action's state
abbrev pub IsClear : FileMap → Role → Uid → ObjectState → Type 0
IsClear file role act s = pair.IsClear (pair_of file role) act s

-- by the files, the answer is the refusal of the first of these states that has one
abbrev pub IsRefused : FileMap → Role → Uid → List ObjectState → Prep → Type 0
IsRefused file role act states answer = pair.IsRefused (pair_of file role) act states answer

-- by the files, the action becomes prepared with these states, against which nothing stands
abbrev pub Prepares : Role → FileMap → FileMap → Uid → List ObjectState → Type 0
Prepares role old new act states = pair.Prepares (pair_of old role) (pair_of new role) act states

-- the answer to a prepare of these states, with what it changes of the pair that the files give
abbrev pub AnswersPrepare : Role → FileMap → FileMap → Uid → List ObjectState → Prep → Type 0
AnswersPrepare role old new act states answer = pair.AnswersPrepare (pair_of old role) (pair_of new role) act states answer

-- by the files, just these states are committed, and nothing is prepared
abbrev pub HasOnly : Role → FileMap → List ObjectState → Type 0
HasOnly role file states = pair.HasOnly (pair_of file role) states

-- by the files, just the first few of these states are committed, and nothing is prepared
abbrev pub HasFirst : Role → FileMap → List ObjectState → Type 0
HasFirst role file states = pair.HasFirst (pair_of file role) states

-- all that the files give is found: each committed state and each prepared action, by Uid
abbrev pub FindsPair : Role → FileMap → Found → Type 0
FindsPair role file found = pair.FindsPair (pair_of file role) found

-- what a recovery finds in the files: for the naming service their pair, for the object store nothing
abbrev pub Finds : Role → FileMap → Found → Type 0
Finds role file found = pair.Finds role (pair_of file role) found
