-- What naming does with an end, with the locks of a Confirm and with its own restart, in the machine.
use Rattle.std.specs.Prelude.{◌≡◌, ◌<◌, ◌≤◌, ◌⊎◌, ◌+◌, ◌*◌, ℕ, true, false, List, Some, Contains}
use Rattle.arj_protocol.specs.Words.{Uid, Path, Row, is_held_by, before_last}
use Rattle.arj_protocol.specs.Words.ending
use Rattle.arj_protocol.specs.Words.mode
use Rattle.arj_protocol.specs.Named.{Named, end_named, locked, unnamed}
use Rattle.arj_law_lock.specs.machine.Actions.{Act, Root, Sub, is_top, on}
use Rattle.arj_law_lock.specs.machine.State.{State}
use Rattle.arj_law_lock.specs.machine.Steps.{IsGone}
use Rattle.arj_law_parts.specs.parts.Objects.{IsToldOf}
use Rattle.arj_law_parts.specs.parts.Rows.{Told}
use Rattle.arj_law_parts.specs.parts.Tops.{Owners}
use Rattle.arj_law_lock_view.specs.view.Acts.{Acts, AreOne}
use Rattle.arj_law_lock_view.specs.view.Bindings.{IsGood}
use Rattle.arj_law_lock_view.specs.view.Calling.{IsReached}
use Rattle.arj_law_lock_view.specs.view.Going.{Goes, NobodyConfirmed, OnlyNaming, SameConfirmed}
use Rattle.arj_law_lock_view.specs.view.Named.{Place, SeesNamed}

-- each action stands below its owner, which is itself or its serializing action
abbrev pub AreOwned : Acts → Owners → Type 0
AreOwned act owner = (u : Uid) → on (act u) (act (owner u)) ≡ true

-- naming was told of nobody else's end but of those below the action
abbrev pub OnlyTold : Acts → Uid → State → State → Type 0
OnlyTold act u S T = (a : Act) → T.naming.told a ≡ true → (S.naming.told a ≡ true) ⊎ (on a (act u) ≡ true)

-- The end of an action of which the machine may drop the rows: it was aborted, its unit is over, or naming didn't confirm it.
abbrev pub MayGo : State → Act → Type 0
MayGo S a = IsGone S a ⊎ ((is_top a ≡ true) × ((S.action a).stage ≡ 3) × (S.naming.confirmed a ≡ false))

-- An end that naming takes for an abort: the machine drops the rows of the action and of all below it.
abbrev pub AbortsAreSeen : Type 0
AbortsAreSeen = (act : Acts) (owner : Owners) (x : ℕ) (n : Place) (told : Told) (o : Named) (u : Uid) (S : State)
    → AreOwned act owner → IsToldOf n.told told u → MayGo S (act u) → IsGood owner x n o → SeesNamed act x n o S
    → Goes S (λ T. SeesNamed act x (record n { told = told }) (end_named u ending.Abort o) T × OnlyNaming S T × OnlyTold act u S T
    × SameConfirmed S T)

-- A commit of a plain top, whose unit is over, or of a top that the machine's naming didn't confirm in this incarnation: the
-- machine drops its rows.
abbrev pub CommitsAreSeen : Type 0
CommitsAreSeen = (act : Acts) (owner : Owners) (x : ℕ) (n : Place) (told : Told) (o : Named) (u : Uid) (S : State)
    → AreOne act → IsToldOf n.told told u → MayGo S (act u) → IsGood owner x n o → SeesNamed act x n o S
    → Goes S (λ T. SeesNamed act x (record n { told = told }) (end_named u ending.Commit o) T × OnlyNaming S T × OnlyTold act u S T
    × SameConfirmed S T)

-- A committed constituent stands right below its serializing action, and each of its rows can pass to that. A row that a restart
-- gave back can't, since it has its action alone as its path: the machine has no row for it, and didn't confirm its action since.
pub record MayPass (act : Acts) (u s : Uid) (o : Named) (S : State) : Type 0 where
  pub unit : ℕ
  pub number : ℕ
  pub serial : act s ≡ Root unit
  pub below : act u ≡ Sub (Root unit) number
  pub committed : (S.action (act u)).stage ≡ 3
  pub heirs : (r : Row) → Contains o.rows r → is_held_by u r ≡ true → before_last r.holder ≡ Some s

-- A commit of a constituent that is confirmed: the machine passes its rows to its unit.
abbrev pub PassesAreSeen : Type 0
PassesAreSeen = (act : Acts) (owner : Owners) (x : ℕ) (n : Place) (told : Told) (o : Named) (u s : Uid) (S : State)
    → AreOne act → IsToldOf n.told told u → MayPass act u s o S → IsGood owner x n o → SeesNamed act x n o S
    → Goes S (λ T. SeesNamed act x (record n { told = told }) (end_named u ending.Commit o) T × OnlyNaming S T × OnlyTold act u S T
    × SameConfirmed S T)

-- An exclude lock that a Confirm takes is no row of the machine's, which does nothing.
abbrev pub ExcludesAreSeen : Type 0
ExcludesAreSeen = (act : Acts) (x : ℕ) (n : Place) (o : Named) (p : Path) (S : State) → SeesNamed act x n o S →
    SeesNamed act x n (locked x p mode.Exclude o) S

-- Naming is down, and its last incarnation was this one: the machine's naming has no rows, asked for nobody's, was told of nobody and
-- confirmed nobody, and made no binding, in an incarnation that is at most the next one.
pub record SeesNothing (inc : ℕ) (S : State) : Type 0 where
  pub bound : S.naming.bound ≤ (inc + 1) * 4294967296
  pub first : S.naming.first ≤ (inc + 1) * 4294967296
  pub recorded : S.naming.recorded < (inc + 1) * 4294967296
  pub empty : (a : Act) → (S.naming.rows a ≡ 0) × (S.naming.asked a ≡ false)
  pub nobody : (a : Act) → (S.naming.told a ≡ false) × (S.naming.confirmed a ≡ false)
  pub made : (m : Act) → S.naming.made m < S.naming.first

-- Naming stops: so does the machine's. Counts of bindings have 32 bits.
abbrev pub FallsAreSeen : Type 0
FallsAreSeen = (act : Acts) (owner : Owners) (x : ℕ) (n : Place) (o : Named) (S : State) → n.count < 4294967296 → IsReached S →
    IsGood owner x n o → SeesNamed act x n o S → Goes S (λ T. SeesNothing n.inc T × OnlyNaming S T × NobodyConfirmed S T)

-- Naming is up again in a later incarnation, whatever rows it gives back: the machine's naming restarts, unless it did already,
-- and nobody is told of or confirmed.
abbrev pub RestartsAreSeen : Type 0
RestartsAreSeen = (act : Acts) (x inc : ℕ) (n : Place) (rows : List Row) (S : State) → inc < n.inc → n.count ≡ 0 → SeesNothing inc S
    → Goes S (λ T. SeesNamed act x n (unnamed rows) T × OnlyNaming S T × NobodyConfirmed S T
    × ((a : Act) → (T.naming.told a ≡ false) × (T.naming.confirmed a ≡ false)))
