-- What locking is for: no two rows of one object conflict, unless one holder is on the other's path.
use Rattle.std.specs.Prelude.{◌≡◌, ◌⊎◌, ◌≤◌, List, [], ◌∷◌, length, Bool, true, false, if◌then◌else◌, Some, Contains, ⊤}
use Rattle.arj_base.specs.declared.uid.Uid.{Uid}
use Rattle.arj_base.specs.Mode.{conflicting}
use Rattle.arj_base.specs.Path.{before_last}
use Rattle.arj_base.specs.Rows.{Row, is_on, front, last_uid, has_row}
use Rattle.arj_base.specs.Uid.{uid_eq}

-- the Uids before the first place of this one
abbrev pub before : Uid → List Uid → List Uid
before u [] = []
before u (w ∷ us) = if uid_eq w u then [] else w ∷ before u us

-- Two paths agree: a Uid on both has the same Uids before it on both.
abbrev pub Agree : List Uid → List Uid → Type 0
Agree p q = (u : Uid) → is_on p u ≡ true → is_on q u ≡ true → before u p ≡ before u q

-- a path agrees with those of all holders of these rows
abbrev pub AgreesWithAll : List Uid → List Row → Type 0
AgreesWithAll path rows = (r : Row) → Contains rows r → Agree path r.holder

-- two rows that may stand together
abbrev pub GoTogether : Row → Row → Type 0
GoTogether r s =
    r.object ≡ s.object → conflicting r.mode s.mode ≡ true →
    (is_on s.holder (last_uid r.holder) ≡ true) ⊎ (is_on r.holder (last_uid s.holder) ≡ true)

-- A table that excludes: its paths agree, each with an action, and any two of its rows may stand together.
pub record Excluding (rows : List Row) : Type 0 where
  pub named : (r : Row) → Contains rows r → 1 ≤ length r.holder
  pub agreed : (r s : Row) → Contains rows r → Contains rows s → Agree r.holder s.holder
  pub apart : (r s : Row) → Contains rows r → Contains rows s → GoTogether r s

-- no descendant of the action has a row
abbrev pub NoneBelow : Uid → List Row → Type 0
NoneBelow action rows = (r : Row) → Contains rows r → is_on (front r.holder) action ≡ false

-- no action has two rows of one object
abbrev pub IsOneEach : List Row → Type 0
IsOneEach [] = ⊤
IsOneEach (row ∷ rows) = (has_row row.object (last_uid row.holder) rows ≡ false) × IsOneEach rows

-- The same over a relation that the caller gives: `on a b` says that b is a or stands above it.

-- one of the two is the other, or stands above it
abbrev pub AreRelated : (Uid → Uid → Bool) → Uid → Uid → Type 0
AreRelated on a b = (on a b ≡ true) ⊎ (on b a ≡ true)

-- any two rows of one object that conflict have related holders
abbrev pub AreApart : (Uid → Uid → Bool) → List Row → Type 0
AreApart on rows =
    (r s : Row) → Contains rows r → Contains rows s → r.object ≡ s.object → conflicting r.mode s.mode ≡ true →
    AreRelated on (last_uid r.holder) (last_uid s.holder)

-- the action stands above itself, and so does whoever is on its path
abbrev pub StandsBelow : (Uid → Uid → Bool) → List Uid → Type 0
StandsBelow on path = (on (last_uid path) (last_uid path) ≡ true) × ((b : Uid) → is_on path b ≡ true → on (last_uid path) b ≡ true)

-- the heir stands right above the action: whoever else stands above the action stands above the heir, or is it
pub record IsRightAbove (on : Uid → Uid → Bool) (action heir : Uid) : Type 0 where
  pub above : on action heir ≡ true
  pub nearest : (b : Uid) → on action b ≡ true → (b ≡ action) ⊎ (on heir b ≡ true)

-- The action's rows may pass: each heir stands right above the action, and nobody below the action has a row.
pub record MayPass (on : Uid → Uid → Bool) (action : Uid) (rows : List Row) : Type 0 where
  pub heirs : (r : Row) → Contains rows r → last_uid r.holder ≡ action → (heir : Uid) → before_last r.holder ≡ Some heir →
      IsRightAbove on action heir
  pub lowest : (r : Row) → Contains rows r → on (last_uid r.holder) action ≡ true → last_uid r.holder ≡ action
