-- Naming's calls about locks and ends, as acts of the disk machine on one object.
use Rattle.std.specs.Prelude.{⊤, ◌≡◌, ◌⊎◌, ℕ, Bool, true, false, List, Some, None, is_some}
use Rattle.arj_protocol.specs.Words.{Uid, Binding, BoundReply, End, Path, RecordedReply, is_on}
use Rattle.arj_protocol.specs.Words.bound
use Rattle.arj_protocol.specs.Words.ending
use Rattle.arj_protocol.specs.Ask.{top_of}
use Rattle.arj_protocol.specs.Confirm.{conflict_in, lock_all}
use Rattle.arj_protocol.specs.Effect.{Pair}
use Rattle.arj_protocol.specs.Naming.{Naming, bind, hello, is_over, note, told}
use Rattle.arj_protocol.specs.Named as object
use Rattle.arj_protocol.specs.Order.{at_number, at_uid, binding_eq, has, uid_number}
use Rattle.arj_law_disk.specs.machine.Effects.{IsNot}
use Rattle.arj_law_disk.specs.machine.Guards.{HasRow}
use Rattle.arj_law_disk.specs.machine.Messages.{ToldAbort, ToldBare, ToldCommit, ToldSerial}
use Rattle.arj_law_disk.specs.machine.Named.{Named}
use Rattle.arj_law_disk.specs.machine.Names.{Names, Office, Answer, Bound}
use Rattle.arj_law_disk.specs.machine.State.{Hold, naming}
use Rattle.arj_law_disk.specs.machine.Words.{In}
use Rattle.arj_law_disk_view.specs.view.Entries.{SeesEntry}
use Rattle.arj_law_disk_view.specs.view.Sees.{Kinds, IsFixed, IsNested}
use Rattle.arj_law_disk_view.specs.names.Memory.{IsOfTop, NamesGo, SeesNaming}

-- Of the machine only the naming node's locks change, and answers are given.
pub record OnlyLocks (A B : Office) : Type 0 where
  pub world : B.world ≡ A.world
  pub inc : B.names.inc ≡ A.names.inc
  pub told : B.names.told ≡ A.names.told
  pub given : B.names.given ≡ A.names.given
  pub confd : B.names.confd ≡ A.names.confd
  pub had : B.names.had ≡ A.names.had
  pub kept : B.names.kept ≡ A.names.kept
  pub answers : (a : Answer) → In a A.names.answers → In a B.names.answers

-- the machine has given the answer that grants a lock on the object
abbrev pub HasGiven : ℕ → BoundReply → Names → Type 0
HasGiven t (bound.Live b server i g stores) N = In (Bound t g false stores) N.answers
HasGiven t (bound.Make b server g stores) N = In (Bound t g false stores) N.answers
HasGiven t (bound.Write g stores) N = In (Bound t g true stores) N.answers
HasGiven t (bound.Conflict holder m) N = ⊤

-- so it is where the answer is about this object
abbrev pub ClaimsBound : ℕ → ℕ → ℕ → BoundReply → Names → Type 0
ClaimsBound x y t r N = y ≡ x → HasGiven t r N

-- a Bind that is answered
abbrev pub BindsAreActs : Type 0
BindsAreActs = (x y : ℕ) (tops : Kinds) (p : Path) (include : Bool) (avoid : Binding) (d : Pair) (n : Naming) (A : Office) (r : BoundReply)
    → Named A → SeesNaming x tops n A.world.disk A.names → SeesEntry x d A.world.disk
    → IsOfTop tops A.world.disk p → (let s = bind p y include avoid d n in s.reply) ≡ Some r
    → NamesGo A (λ B. OnlyLocks A B × SeesNaming x tops (let s = bind p y include avoid d n in s.part) B.world.disk B.names
    × ClaimsBound x y (uid_number (top_of p)) r B.names)

-- this is the binding that naming made for the top of the path last, it isn't recorded yet, and nobody on the path down to the top was told
-- of
pub record IsUnrecorded (x : ℕ) (p : Path) (b : Binding) (n : Naming) : Type 0 where
  pub named : object.Named
  pub made : object.Made
  pub there : at_number x n.objects ≡ Some named
  pub of : at_uid (top_of p) named.made ≡ Some made
  pub unrecorded : made.recorded ≡ false
  pub same : binding_eq b made.binding ≡ true
  pub untold : is_over p n ≡ false

-- What a Record counts on whose binding isn't recorded yet: its top took the grant, and has no entry of the object prepared, unless it
-- asked by an include too.
abbrev pub MayNote : ℕ → ℕ → Path → Binding → ℕ → Naming → Office → Type 0
MayNote x y p b g n A = y ≡ x → g ≡ A.names.inc → IsUnrecorded x p b n
    → (A.names.had (uid_number (top_of p)) A.names.inc ≡ true)
    × (A.names.asked (uid_number (top_of p)) ≡ false → IsNot A.world.disk.entry_pend (uid_number (top_of p)))

-- a Record that is answered
abbrev pub NotesAreActs : Type 0
NotesAreActs = (x y : ℕ) (tops : Kinds) (p : Path) (b : Binding) (i g : ℕ) (n : Naming) (A : Office) (r : RecordedReply) → Named A →
    SeesNaming x tops n A.world.disk A.names
    → IsOfTop tops A.world.disk p → MayNote x y p b g n A → (let s = note p y b i g n in s.reply) ≡ Some r
    → NamesGo A (λ B. OnlyLocks A B × SeesNaming x tops (let s = note p y b i g n in s.part) B.world.disk B.names)

-- the top has the exclude lock: if it had it before, and where it asks it of the object
pub record HasExclude (x t : ℕ) (xs : List ℕ) (n : Naming) (A B : Office) : Type 0 where
  pub keeps : HasRow A.names t 1 → HasRow B.names t 1
  pub gets : has xs x ≡ true → is_some (at_number x n.objects) ≡ true → HasRow B.names t 1

-- The exclude locks of a Confirm, where each is free.
abbrev pub ExcludesAreActs : Type 0
ExcludesAreActs = (x : ℕ) (tops : Kinds) (p : Path) (xs : List ℕ) (n : Naming) (A : Office) → Named A →
    SeesNaming x tops n A.world.disk A.names → IsOfTop tops A.world.disk p
    → ((y : ℕ) → has xs y ≡ true → conflict_in y p (at_number y n.objects) ≡ None)
    → NamesGo A (λ B. OnlyLocks A B × SeesNaming x tops (let s = lock_all xs p n in s.part) B.world.disk B.names
    × HasExclude x (uid_number (top_of p)) xs n A B)

-- Of the machine only the naming node's locks change, and whom it was told of.
pub record OnlyEnds (A B : Office) : Type 0 where
  pub world : B.world ≡ A.world
  pub inc : B.names.inc ≡ A.names.inc
  pub confd : B.names.confd ≡ A.names.confd
  pub had : B.names.had ≡ A.names.had
  pub kept : B.names.kept ≡ A.names.kept
  pub answers : B.names.answers ≡ A.names.answers
  pub told : (t : ℕ) → A.names.told t ≡ true → B.names.told t ≡ true

-- what is told of a top
abbrev pub ClaimsTop : Office → ℕ → End → Type 0
ClaimsTop A t ending.Commit = In (ToldCommit t naming) A.world.sent ⊎ In (ToldBare t naming) A.world.sent
ClaimsTop A t ending.Abort = In (ToldAbort t naming) A.world.sent

-- A top's end, once its own entry has ended.
abbrev pub TopsEndByActs : Type 0
TopsEndByActs = (x : ℕ) (tops : Kinds) (u : Uid) (e : End) (d : Pair) (n : Naming) (A : Office) → Named A → SeesNaming x tops n A.world.disk
    A.names → IsFixed tops A.world.disk → tops.is_top (uid_number u) ≡ true → A.world.disk.serial (uid_number u) ≡ false
    → IsNot A.world.disk.entry_pend (uid_number u) → ClaimsTop A (uid_number u) e
    → NamesGo A
    (λ B. OnlyEnds A B × SeesNaming x tops (let s = told u e d n in s.part) B.world.disk B.names × (B.names.told (uid_number u) ≡ true))

-- The end of a serializing action, once the entries of those whose locks go with it have ended.
abbrev pub SerialsEndByActs : Type 0
SerialsEndByActs = (x : ℕ) (tops : Kinds) (u : Uid) (d : Pair) (n : Naming) (A : Office) → Named A → SeesNaming x tops n A.world.disk
    A.names → IsFixed tops A.world.disk → tops.is_serial (uid_number u) ≡ true → A.world.disk.serial (uid_number u) ≡ true
    → In (ToldSerial (uid_number u) naming) A.world.sent → (is_on n.told u ≡ false → (h : Hold) → A.world.disk.entry_pend ≡ Some h →
    A.world.disk.root h.top ≡ uid_number u → A.names.given h.top ≡ true)
    → NamesGo A (λ B. OnlyEnds A B × SeesNaming x tops (let s = told u ending.Abort d n in s.part) B.world.disk B.names)

-- The end of a nested action is nothing to the machine, and so is the word that a node is up again.
abbrev pub NestedEndsAreNothing : Type 0
NestedEndsAreNothing = (x : ℕ) (tops : Kinds) (u : Uid) (e : End) (d : Pair) (n : Naming) (A : Office) → Named A →
    SeesNaming x tops n A.world.disk A.names → IsFixed tops A.world.disk → IsNested tops (uid_number u) → is_on n.confirmed u ≡ false
    → SeesNaming x tops (let s = told u e d n in s.part) A.world.disk A.names

-- a Hello changes nothing that is seen
abbrev pub HellosAreNothing : Type 0
HellosAreNothing = (x : ℕ) (tops : Kinds) (node inc : ℕ) (n : Naming) (A : Office) → SeesNaming x tops n A.world.disk A.names →
    SeesNaming x tops (hello node inc n) A.world.disk A.names
