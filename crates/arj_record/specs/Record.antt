-- One record: its kind, its object, and what it does at its action's end.
use Rattle.std.specs.Prelude.{ℕ, ◌==◌, ◌&&◌, Bool, true, false, List, [], ◌∷◌, Option, Some, None}
use Rattle.arj_base.specs.declared.mode.Mode.{Mode}
use Rattle.arj_base.specs.declared.uid.Uid.{Uid}
use Rattle.arj_base.specs.Mode.{stronger}
use Rattle.arj_base.specs.Uid.{uid_eq}
use Rattle.arj_record.specs.declared.record.Record.{Record}
use Rattle.arj_record.specs.declared.record.Record.TheVariants.{Recovery, Lock, Persistence}
use Rattle.arj_record.specs.Scene.{Call, restore, pass, release, raise}

-- the object of a record
abbrev pub object_of : {V : Type 0} → Record V → Uid
object_of (Recovery x before) = x
object_of (Lock x mode) = x
object_of (Persistence x) = x

-- The numbers of the kinds. Records end in increasing order of them: images first, then locks, then changed objects.

-- records of images end first
abbrev pub recovery_order : ℕ
recovery_order = 1

-- records of locks end next
abbrev pub lock_order : ℕ
lock_order = 2

-- records of changed objects end last
abbrev pub persistence_order : ℕ
persistence_order = 3

-- the number of a record's kind
abbrev pub order_of : {V : Type 0} → Record V → ℕ
order_of (Recovery x before) = recovery_order
order_of (Lock x mode) = lock_order
order_of (Persistence x) = persistence_order

-- the record is of this kind and object
abbrev pub is_of : {V : Type 0} → ℕ → Uid → Record V → Bool
is_of order x r = (order_of r == order) && uid_eq (object_of r) x

-- the two are of one kind and object, and so may be one record
abbrev pub is_like : {V : Type 0} → Record V → Record V → Bool
is_like r q = is_of (order_of q) (object_of q) r

-- An older record and a younger one of its kind and object as one: the older image and the stronger mode stay.
abbrev pub joined : {V : Type 0} → Record V → Record V → Record V
joined (Lock x mode) (Lock y other) = Lock x (stronger mode other)
joined older younger = older

-- a record of a lock
abbrev pub is_lock : {V : Type 0} → Record V → Bool
is_lock (Lock x mode) = true
is_lock r = false

-- the image of the object that the record holds
abbrev pub image_in : {V : Type 0} → Record V → Option V
image_in (Recovery x before) = Some before
image_in r = None

-- the mode of the lock that the record is of
abbrev pub mode_in : {V : Type 0} → Record V → Option Mode
mode_in (Lock x mode) = Some mode
mode_in r = None

-- the object, exactly for a changed one
abbrev pub changed_in : {V : Type 0} → Record V → Option Uid
changed_in (Persistence x) = Some x
changed_in r = None

-- what the record tells the scene where its action is undone
abbrev pub undone_by : {V : Type 0} → Uid → Record V → List (Call V)
undone_by action (Recovery x before) = restore x before ∷ []
undone_by action (Lock x mode) = release action ∷ []
undone_by action (Persistence x) = []

-- what the record tells the scene where its top-level action commits
abbrev pub kept_by : {V : Type 0} → Uid → Record V → List (Call V)
kept_by action (Recovery x before) = []
kept_by action (Lock x mode) = pass action ∷ []
kept_by action (Persistence x) = raise x action ∷ []
