-- The lock machine of one object: naming, servers, coordinators, and every message that was ever sent. What is called a
-- history below tells what has happened once; no stop takes it away.
use Rattle.std.proofs.Common.{◌≡◌, ◌≤◌, ◌<◌, ◌⊎◌, ℕ, List, Bool, true, false}
use Rattle.arj_law_lock.specs.machine.Actions.{Act, on, root, top, In}
use Rattle.arj_law_lock.specs.machine.Rows.{Rows}

-- An action at its coordinator.
pub record Action : Type 0 where
  -- 0 open, 1 its commit was called (a top), 2 that commit is decided, 3 committed (its line stands; of a root: over), 4 aborted
  pub stage : ℕ
  -- where the line of its commit call stands (a top), and where its committed line stands
  pub place : ℕ
  pub done : ℕ
  -- the number of its last Invoke, whether that waits, and since when
  pub request : ℕ
  pub waits : Bool
  pub since : ℕ
  -- a call was given up after its Invoke was sent
  pub doomed : Bool

-- A binding: one number, above all that were made before and in earlier incarnations of naming. All of it is a history.
pub record Binding : Type 0 where
  pub server : ℕ
  -- the top that naming made it for
  pub maker : Act
  -- the maker's root heard an incarnation of the server for it, and which
  pub named : Bool
  pub incarnation : ℕ

-- Naming's part. A stop keeps the recorded binding, which then lies below the first one of the new incarnation.
pub record Naming : Type 0 where
  -- the least binding of the present incarnation, the recorded one, and one above all that were made
  pub first : ℕ
  pub recorded : ℕ
  pub bound : ℕ
  pub rows : Rows
  -- the ended actions that it was told of, and the tops that it confirmed, in this incarnation
  pub told : Act → Bool
  pub confirmed : Act → Bool
  -- the last binding made for a top, and whether the top asked the write lock by an include
  pub made : Act → ℕ
  pub asked : Act → Bool

-- An applied write that hasn't become the copy's own value: who holds it, who called it by which request, and the value left.
pub record Entry : Type 0 where
  pub holder : Act
  pub by : Act
  pub request : ℕ
  pub gives : ℕ

-- A server's part: its incarnation, the active binding, the copy's own value and the writes over it (newest first), the
-- rows, who it voted for, and the number of each action's last request.
pub record Server : Type 0 where
  pub incarnation : ℕ
  pub active : ℕ
  pub base : ℕ
  pub log : List Entry
  pub rows : Rows
  pub voted : Act → Bool
  pub request : Act → ℕ

-- A call with an ok line: where that stands, the value that it met and the one that it left.
pub record Call : Type 0 where
  pub act : Act
  pub write : Bool
  pub line : ℕ
  pub sees : ℕ
  pub gives : ℕ

-- An include with its line, and naming's incarnation of the grant.
pub record Include : Type 0 where
  pub act : Act
  pub line : ℕ
  pub grant : ℕ

-- An Invoke: who calls, by which of its numbers, under which binding, and whether it writes.
pub record Request : Type 0 where
  pub act : Act
  pub number : ℕ
  pub binding : ℕ
  pub write : Bool

-- What a server answered, and at which place of the journal it applied the request (a history).
pub record Answer : Type 0 where
  pub request : Request
  pub place : ℕ
  pub sees : ℕ
  pub gives : ℕ

-- What a server's vote gave: the value that the top left, and the copy's own value under it.
pub record Ballot : Type 0 where
  pub value : ℕ
  pub under : ℕ

-- What is sent. The incarnation of a binding's server isn't carried where it is a fact of the binding.
pub data Message : Type 0 where
  Live : Act → ℕ → Message  -- naming to a top: this binding is recorded, and you have a read row
  Made : Act → ℕ → Message  -- naming to a top: this binding is made for you, and you have the write row
  Granted : Act → ℕ → Message  -- naming to a top, for an include: you have the write row; and its incarnation
  Activate : ℕ → ℕ → Message  -- to a binding's server: the state that a store gave
  Activated : ℕ → ℕ → Message  -- the binding is active, in this incarnation of its server
  Recorded : ℕ → Message  -- naming recorded the binding
  Invoke : Request → Message
  Invoked : Answer → Message
  Refused : Request → Message  -- a lock conflicts
  Changed : ℕ → Message  -- the binding's copy is gone
  Vote : Act → ℕ → ℕ → Message  -- of a top, with binding and incarnation
  Confirm : Act → ℕ → Message  -- of a top, with the least grant

-- The state. A number stands for a node, a binding, a root; functions change at one place.
pub record State : Type 0 where
  pub now : ℕ  -- no line stands at this place or behind it
  pub initial : ℕ  -- the object's first value
  pub naming : Naming
  pub binding : ℕ → Binding
  pub server : ℕ → Server
  pub action : Act → Action
  pub kept : ℕ → ℕ  -- the last binding that a root kept; it only rises
  pub yes : Act → ℕ  -- a history: the greatest binding under which a server voted for the top
  pub vote : Act → Ballot  -- a history: what this vote gave
  pub confirmed : Act → Bool  -- a history: naming confirmed the top, in whatever incarnation
  pub calls : List Call  -- newest first
  pub includes : List Include
  pub net : List Message  -- every message that was ever sent

-- No action of the path was aborted.
abbrev pub Alive : State → Act → Type 0
Alive s a = (u : Act) → on a u ≡ true → (s.action u).stage ≤ 3

-- Each action of the first path that isn't on the second is committed.
abbrev pub Merged : State → Act → Act → Type 0
Merged s a b = (u : Act) → on a u ≡ true → on b u ≡ false → (s.action u).stage ≡ 3

-- and was so before the place
abbrev pub Passed : State → Act → Act → ℕ → Type 0
Passed s a b place = (u : Act) → on a u ≡ true → on b u ≡ false → ((s.action u).stage ≡ 3) × ((s.action u).done < place)

-- Each action of the path is open, and so is the unit.
abbrev pub Open : State → Act → Type 0
Open s a = (u : Act) → on a u ≡ true → (s.action u).stage ≡ 0

-- The top's vote and confirmation cover the call or include of this action: its own, or one that its unit retained before
-- the top's commit was called.
abbrev pub Covered : State → Act → Act → Type 0
Covered s m a = (root a ≡ root m) × ((top a ≡ m) ⊎ (((s.action (top a)).stage ≡ 3) × ((s.action (top a)).done < (s.action m).place)))

-- The call or include is retained by the unit: its top is committed.
abbrev pub Retained : State → ℕ → Act → Type 0
Retained s u a = (root a ≡ u) × ((s.action (top a)).stage ≡ 3)

-- The root is free of its kept binding: no action of it waits, and no call of it stands.
pub record IsFree (s : State) (u : ℕ) : Type 0 where
  pub waits : (a : Act) → root a ≡ u → (s.action a).waits ≡ true → Alive s a → ⊥
  pub called : (c : Call) → In c s.calls → root c.act ≡ u → Alive s c.act → ⊥
