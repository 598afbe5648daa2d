-- The actions of a journal. A journal is read once, line by line, carrying the actions begun so far, the newest
-- first; an action's number is the count of actions begun before it.
use Rattle.std.specs.Prelude.{ℕ, ◌+◌, List, [], ◌∷◌, ◌++◌, length, map, Bool, true, false, ◌==◌, ◌&&◌, ◌||◌, nat_lt, if◌then◌else◌, Option}
use Rattle.std.specs.Prelude.{Some, None, is_some, find}
use Rattle.std.specs.List.{list_any}
use Rattle.std.specs.Option.{option_map}
use Rattle.std.specs.Str.{bytes_eq}
use Rattle.arj_base.specs.declared.uid.Uid.{Uid}
use Rattle.arj_base.specs.Uid.{uid_eq}
use Rattle.arj_journal.specs.declared.body.Body.{Body}
use Rattle.arj_journal.specs.declared.body.Body.TheVariants as body
use Rattle.arj_journal.specs.declared.body.Kind.{Kind}
use Rattle.arj_journal.specs.declared.body.Kind.TheVariants as kind
use Rattle.arj_start.specs.Kinds.{is_serial}
use Rattle.arj_journal.specs.declared.body.Line.{Line}
use Rattle.arj_text.specs.Label.{name}

-- what a `began` line says
pub record Begun : Type 0 where
  pub label : List ℕ
  pub kind : Kind
  pub uid : Uid
  pub parent : Option (List ℕ)

-- an action
pub record Act : Type 0 where
  pub id : ℕ
  pub label : List ℕ
  pub kind : Kind
  pub uid : Uid
  pub parent : Option (List ℕ)

-- what a line says of an action that began
abbrev pub begun_of : Body → Option Begun
begun_of (body.Began l k u p) = Some (record { label = name l; kind = k; uid = u; parent = option_map name p })
begun_of _ = None

-- the actions with one more, where one began: its number is the count of those before it
abbrev pub numbered : List Act → Option Begun → List Act
numbered acts None = acts
numbered acts (Some b) = record { id = length acts; label = b.label; kind = b.kind; uid = b.uid; parent = b.parent } ∷ acts

-- the actions after a line
abbrev pub acts_after : List Act → Body → List Act
acts_after acts b = numbered acts (begun_of b)

-- the actions after these lines, from these on
abbrev pub acts_from : List Act → List Line → List Act
acts_from acts [] = acts
acts_from acts (line ∷ lines) = acts_from (acts_after acts line.body) lines

-- the actions of a journal, the newest first
abbrev pub acts : List Line → List Act
acts lines = acts_from [] lines

-- an item with the place of its line in the journal
pub record Placed (A : Type 0) : Type 0 where
  pub at : ℕ
  pub it : A

-- the items with the one of this place in front, where there is one
abbrev pub put : {A : Type 0} → ℕ → Option A → List (Placed A) → List (Placed A)
put n None rest = rest
put n (Some a) rest = record { at = n; it = a } ∷ rest

-- Reads one kind of item. What a line says is looked up among the actions so far, so no later line changes it.
abbrev pub read : {A : Type 0} → (List Act → Body → Option A) → List Act → ℕ → List Line → List (Placed A)
read f acts n [] = []
read f acts n (line ∷ lines) = put n (f acts line.body) (read f (acts_after acts line.body) (n + 1) lines)

-- The path above an action: its parent's, or nothing where it has no parent or is independent of it.
abbrev pub upwards : Option (List ℕ) → Kind → (List ℕ → List Act) → List Act
upwards None k paths = []
upwards (Some p) kind.Independent paths = []
upwards (Some p) k paths = paths p

-- the path of the action with this label, from its root to itself
abbrev pub path : List Act → List ℕ → List Act
path [] l = []
path (a ∷ older) l = if bytes_eq a.label l then upwards a.parent a.kind (path older) ++ a ∷ [] else path older l

-- the same of an action, with those begun before it
abbrev pub path_in : List Act → Act → List Act
path_in older a = upwards a.parent a.kind (path older) ++ a ∷ []

-- the Uids of a path
abbrev pub uids : List Act → List Uid
uids path = map (λ a. a.uid) path

-- The top of a path: its first action, or the second where the first is a serializing action.
abbrev pub top_in : List Act → Option Act
top_in [] = None
top_in (a ∷ []) = if is_serial a.kind then None else Some a
top_in (a ∷ b ∷ rest) = if is_serial a.kind then Some b else Some a

-- the list without its first item
abbrev pub behind_first : {A : Type 0} → List A → List A
behind_first [] = []
behind_first (a ∷ rest) = rest

-- the actions below the top
abbrev pub chain_in : List Act → List Act
chain_in [] = []
chain_in (a ∷ rest) = if is_serial a.kind then behind_first rest else rest

-- how many leading actions of a path end with its top
abbrev pub tops_in : List Act → ℕ
tops_in (a ∷ b ∷ rest) = if is_serial a.kind then 2 else 1
tops_in _ = 1

-- the number of the root
abbrev pub root_in : List Act → Option ℕ
root_in [] = None
root_in (a ∷ rest) = Some a.id

-- the action with this label
abbrev pub act_in : List Act → List ℕ → Option Act
act_in acts l = find (λ a. bytes_eq a.label l) acts

-- its number
abbrev pub id_in : List Act → List ℕ → Option ℕ
id_in acts l = option_map (λ a. a.id) (act_in acts l)

-- an action with this label began
abbrev pub is_begun : List Line → List ℕ → Bool
is_begun lines l = is_some (act_in (acts lines) l)

-- the number of the action that commits in a line
abbrev pub committed_of : List Act → Body → Option ℕ
committed_of acts (body.Committed l) = id_in acts (name l)
committed_of acts _ = None

-- the number of the action that ends in a line, by any end
abbrev pub ended_of : List Act → Body → Option ℕ
ended_of acts (body.Committed l) = id_in acts (name l)
ended_of acts (body.Ended l) = id_in acts (name l)
ended_of acts (body.Aborted l c) = id_in acts (name l)
ended_of acts _ = None

-- a node that halts ends the actions that it has begun by then
pub record Halt : Type 0 where
  pub node : ℕ
  pub begun : ℕ

-- what a line says of a halt
abbrev pub halt_of : List Act → Body → Option Halt
halt_of acts (body.Halted n) = Some (record { node = n; begun = length acts })
halt_of acts _ = None

-- the Uid whose record a restart found
abbrev pub recovered_of : List Act → Body → Option Uid
recovered_of acts (body.Recovered n u) = Some u
recovered_of acts _ = None

-- the commits of a journal, each with its place
abbrev pub committed : List Line → List (Placed ℕ)
committed lines = read committed_of [] 0 lines

-- its ends of any kind
abbrev pub ended : List Line → List (Placed ℕ)
ended lines = read ended_of [] 0 lines

-- its halts
abbrev pub halts : List Line → List (Placed Halt)
halts lines = read halt_of [] 0 lines

-- the Uids of the records that its restarts found
abbrev pub recovered : List Line → List (Placed Uid)
recovered lines = read recovered_of [] 0 lines

-- the action with this number is among these ends
abbrev pub has_end : List (Placed ℕ) → ℕ → Bool
has_end ends id = list_any (λ e. e.it == id) ends

-- the node of an action halted since it began
abbrev pub is_halted : List (Placed Halt) → Act → Bool
is_halted hs a = list_any (λ h. (h.it.node == a.uid.node) && nat_lt a.id h.it.begun) hs

-- an action is over from its end, or from its node's halt
abbrev pub is_over : List Line → Act → Bool
is_over lines a = has_end (ended lines) a.id || is_halted (halts lines) a

-- a top is committed by its `committed` line, or by a `recovered` line of its Uid
abbrev pub is_committed : List (Placed ℕ) → List (Placed Uid) → Act → Bool
is_committed ends found a = has_end ends a.id || list_any (λ u. uid_eq u.it a.uid) found
