-- Naming, whole, as the lock machine of one object has it, and what it does with the messages that are for it.
use Rattle.std.specs.Prelude.{⊤, ◌≡◌, ◌<◌, ◌⊎◌, ◌*◌, ◌||◌, ℕ, Bool, true, false, List, [], ◌∷◌, Option, Some, Contains}
use Rattle.arj_protocol.specs.Words.{Binding, ConfirmedReply, End, Path, Row, Uid, is_on}
use Rattle.arj_protocol.specs.Words.confirmed
use Rattle.arj_protocol.specs.Words.ending
use Rattle.arj_protocol.specs.Ask.{top_of}
use Rattle.arj_protocol.specs.Confirm.{Grants, Marks, confirm, recovered_naming}
use Rattle.arj_protocol.specs.Effect.{Pair, is_prepared}
use Rattle.arj_protocol.specs.Named.{Named}
use Rattle.arj_protocol.specs.Naming.{Naming, bind, hello, is_over, note, told}
use Rattle.arj_protocol.specs.Order.{at_number, binding_number}
use Rattle.arj_law_lock.specs.machine.Actions.{Act, In, is_top}
use Rattle.arj_law_lock.specs.machine.Machine.{start}
use Rattle.arj_law_lock.specs.machine.State as machine
use Rattle.arj_law_lock.specs.machine.State.{State}
use Rattle.arj_law_parts.specs.parts.Tops.{Fits, Owners}
use Rattle.arj_law_lock_view.specs.view.Acts.{Acts, AreOne, IsAlong, IsTopped}
use Rattle.arj_law_lock_view.specs.view.Bindings.{IsGood}
use Rattle.arj_law_lock_view.specs.view.Calling.{IsReached}
use Rattle.arj_law_lock_view.specs.view.Ends.{AreOwned, MayGo, MayPass, SeesNothing}
use Rattle.arj_law_lock_view.specs.view.Going.{Goes, NobodyConfirmed, OnlyNaming, ShowsBound, ShowsNoted}
use Rattle.arj_law_lock_view.specs.view.Named.{IsNamedSo, Place, SeesNamed}
use Rattle.arj_law_lock_view.specs.view.Telling.{View}

-- ---- naming

-- what one object needs of naming
abbrev pub place_of : Naming → Place
place_of n = record { told = is_on n.told; inc = n.inc; count = n.count }

-- Who is first on the path of a lock has nobody above it in the machine; or a restart gave the lock back: it has its action alone as its
-- path, naming has that as confirmed, and the machine's naming didn't confirm it since.
abbrev pub StandsFirst : Acts → List Uid → (Act → Bool) → List Uid → Type 0
StandsFirst act confirmed seen [] = ⊤
StandsFirst act confirmed seen (u ∷ us) = IsAlong act (u ∷ []) ⊎ ((us ≡ []) × (is_on confirmed u ≡ true) × (seen (act u) ≡ false))

-- so it is of each lock
abbrev pub HaveFirsts : Acts → List Uid → (Act → Bool) → List Row → Type 0
HaveFirsts act confirmed seen rows = (r : Row) → Contains rows r → StandsFirst act confirmed seen r.holder

-- Naming has the object, which is seen. The machine's naming was told of no top on whose path nobody was told of, and confirmed nobody but
-- who is confirmed, or was told of since; and of locks that a restart gave back it confirmed nobody.
pub record SeesNaming (v : View) (n : Naming) (S : State) : Type 0 where
  pub named : Named
  pub there : at_number v.x n.objects ≡ Some named
  pub seen : SeesNamed v.family.act v.x (place_of n) named S
  pub told : (p : Path) → IsTopped v.family.act p → is_over p n ≡ false → S.naming.told (v.family.act (top_of p)) ≡ false
  pub confirmed : (u : Uid) → S.naming.confirmed (v.family.act u) ≡ true → (is_on n.confirmed u ≡ true) ⊎ (is_on n.told u ≡ true)
  pub firsts : HaveFirsts v.family.act n.confirmed S.naming.confirmed named.rows

-- what the parts keep of the object at naming
abbrev pub IsGoodAt : View → Owners → Naming → Type 0
IsGoodAt v owner n = (o : Named) → at_number v.x n.objects ≡ Some o → IsGood owner v.x (place_of n) o

-- ---- requests

-- A request of this path comes to naming: two actions have two places in the machine, the path's top is one there and fits its owner, and
-- the object is good.
pub record IsAsking (v : View) (owner : Owners) (p : Path) (n : Naming) : Type 0 where
  pub one : AreOne v.family.act
  pub topped : IsTopped v.family.act p
  pub fits : Fits owner p
  pub good : IsGoodAt v owner n

-- A Bind of any object, which avoids a binding that was made before where it is of this one: naming is seen again, and the answer is shown.
abbrev pub BindsAreTaken : Type 0
BindsAreTaken = (v : View) (owner : Owners) (p : Path) (y : ℕ) (include : Bool) (avoid : Binding) (d : Pair) (n : Naming) (S : State)
    → IsAsking v owner p n → (y ≡ v.x → binding_number avoid < S.naming.bound) → SeesNaming v n S
    → let r = bind p y include avoid d n in Goes S
    (λ T. SeesNaming v r.part T × OnlyNaming S T × NobodyConfirmed S T × (y ≡ v.x → ShowsBound v.family.act (top_of p) avoid T r.reply))

-- A Record of any object, with an incarnation that its top's root heard where it is of this one: naming is seen again, and the answer is
-- shown.
abbrev pub NotesAreTaken : Type 0
NotesAreTaken = (v : View) (owner : Owners) (p : Path) (y : ℕ) (b : Binding) (i g : ℕ) (n : Naming) (S : State)
    → IsAsking v owner p n → (y ≡ v.x → IsNamedSo S b i) → SeesNaming v n S
    → let r = note p y b i g n in
    Goes S (λ T. SeesNaming v r.part T × OnlyNaming S T × NobodyConfirmed S T × (y ≡ v.x → ShowsNoted b T r.reply))

-- ---- a Hello

-- Naming drops the live bindings of a node that is up again: the machine does nothing.
abbrev pub HellosAreTaken : Type 0
HellosAreTaken = (v : View) (node inc : ℕ) (n : Naming) (S : State) → SeesNaming v n S → SeesNaming v (hello node inc n) S

-- ---- a Told

-- naming didn't confirm the action, which is on the path of no lock here: a nested one
pub record HasNothingAt (n : Naming) (o : Named) (u : Uid) : Type 0 where
  pub unconfirmed : is_on n.confirmed u ≡ false
  pub rows : (r : Row) → Contains o.rows r → is_on r.holder u ≡ false

-- An end of an action at naming, in the machine: the machine may drop the rows of one that was aborted, and may drop those of one that was
-- committed, or pass them to its unit, or the action has nothing here.
abbrev pub ShowsEndAt : View → Naming → Named → State → Uid → End → Type 0
ShowsEndAt v n o S u ending.Abort = MayGo S (v.family.act u)
ShowsEndAt v n o S u ending.Commit =
    MayGo S (v.family.act u) ⊎ (((s : Uid) × MayPass v.family.act u s o S) ⊎ (HasNothingAt n o u × (is_top (v.family.act u) ≡ false)))

-- An end comes to naming: two actions have two places in the machine, each stands there below its owner, the object is good, and an end
-- that is new to naming is shown.
pub record IsTelling (v : View) (owner : Owners) (u : Uid) (e : End) (n : Naming) (S : State) : Type 0 where
  pub one : AreOne v.family.act
  pub owned : AreOwned v.family.act owner
  pub good : IsGoodAt v owner n
  pub shown : (o : Named) → at_number v.x n.objects ≡ Some o → is_on n.told u ≡ false → ShowsEndAt v n o S u e

-- An end: naming takes it for an abort or a commit, or was told before, and is seen again.
abbrev pub EndsAreTold : Type 0
EndsAreTold = (v : View) (owner : Owners) (u : Uid) (e : End) (d : Pair) (n : Naming) (S : State)
    → IsTelling v owner u e n S → SeesNaming v n S → let r = told u e d n in
    Goes S (λ T. SeesNaming v r.part T × OnlyNaming S T × NobodyConfirmed S T)

-- ---- a Confirm

-- What its answer shows, where one of its grants is on the object: the machine's naming has confirmed the top.
abbrev pub ShowsConfirmed : View → Uid → Grants → State → Option ConfirmedReply → Type 0
ShowsConfirmed v t grants T (Some confirmed.Yes) = (g : ℕ) → Contains {X = ℕ × ℕ} grants (v.x, g) → T.confirmed (v.family.act t) ≡ true
ShowsConfirmed v t grants T _ = ⊤

-- It confirms nobody anew but the top, where one of its grants is on the object, and then the answer is Yes.
abbrev pub OnlyConfirms : View → Uid → Grants → State → State → Option ConfirmedReply → Type 0
OnlyConfirms v t grants S T r = (a : Act) → T.confirmed a ≡ true →
    (S.confirmed a ≡ true) ⊎ ((a ≡ v.family.act t) × (r ≡ Some confirmed.Yes) × (g : ℕ) × Contains {X = ℕ × ℕ} grants (v.x, g))

-- A Confirm comes to naming: it was sent in the machine for each of its grants on the object; and where naming confirmed the top before, or
-- has entries of it prepared, the machine's naming did confirm it once.
pub record IsConfirming (v : View) (p : Path) (grants : Grants) (d : Pair) (n : Naming) (S : State) : Type 0 where
  pub sent : (g : ℕ) → Contains {X = ℕ × ℕ} grants (v.x, g) → In (machine.Confirm (v.family.act (top_of p)) (g * 4294967296)) S.net
  pub again : (g : ℕ) → Contains {X = ℕ × ℕ} grants (v.x, g) → (is_on n.confirmed (top_of p) || is_prepared (top_of p) d) ≡ true →
      S.confirmed (v.family.act (top_of p)) ≡ true

-- A Confirm: naming takes exclude locks, prepares entries and confirms the top, or refuses, and is seen again; what it answers is shown.
abbrev pub ConfirmsAreTaken : Type 0
ConfirmsAreTaken = (v : View) (owner : Owners) (p : Path) (grants : Grants) (excluded included : Marks) (d : Pair) (n : Naming) (S : State)
    → IsAsking v owner p n → IsConfirming v p grants d n S → SeesNaming v n S
    → let r = confirm p grants excluded included d n in Goes S (λ T. SeesNaming v r.part T × OnlyNaming S T
    × OnlyConfirms v (top_of p) grants S T r.reply × ShowsConfirmed v (top_of p) grants T r.reply)

-- ---- it stops and starts

-- It stops: so does the machine's naming. Counts of bindings have 32 bits.
abbrev pub NamingStops : Type 0
NamingStops = (v : View) (owner : Owners) (n : Naming) (S : State) → n.count < 4294967296 → IsReached S → IsGoodAt v owner n →
    SeesNaming v n S → Goes S (λ T. SeesNothing n.inc T × OnlyNaming S T × NobodyConfirmed S T)

-- Before it first starts it is down too.
abbrev pub NamingIsDown : Type 0
NamingIsDown = (first inc : ℕ) → SeesNothing inc (start first)

-- It starts in a later incarnation, by what the disk says, where the object has an entry: the machine's naming restarts, and naming is
-- seen.
abbrev pub NamingStarts : Type 0
NamingStarts = (v : View) (inc i : ℕ) (d : Pair) (o : Named) (S : State) → inc < i →
    at_number v.x (let n = recovered_naming i d in n.objects) ≡ Some o → SeesNothing inc S
    → Goes S (λ T. SeesNaming v (recovered_naming i d) T × OnlyNaming S T × NobodyConfirmed S T)
