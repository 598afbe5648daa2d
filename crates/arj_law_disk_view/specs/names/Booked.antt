-- A Confirm that naming checks anew is booked, by its locks and the grants that the Confirm names.
use Rattle.std.specs.Prelude.{◌≡◌, ◌⊎◌, ◌≤◌, ℕ, [], ◌∷◌, true}
use Rattle.arj_protocol.specs.Words.{Path}
use Rattle.arj_protocol.specs.Ask.{top_of}
use Rattle.arj_protocol.specs.Confirm.{Grants, Marks, confirms, lock_all, wanted}
use Rattle.arj_protocol.specs.Effect.{Pair}
use Rattle.arj_protocol.specs.Naming.{Naming}
use Rattle.arj_protocol.specs.Order.{uid_number}
use Rattle.arj_law_disk.specs.machine.Effects.{Effect, Allowed, after}
use Rattle.arj_law_disk.specs.machine.Guards.{HasPart, IsNext}
use Rattle.arj_law_disk.specs.machine.Named.{Named}
use Rattle.arj_law_disk.specs.machine.Names.{Names, Office, Answer}
use Rattle.arj_law_disk.specs.machine.State.{State, undecided}
use Rattle.arj_law_disk.specs.machine.Words.{In}
use Rattle.arj_law_disk_view.specs.view.Confirming.{IsBooked, IsConfirmation, IsNewConfirm}
use Rattle.arj_law_disk_view.specs.view.Entries.{SeesEntry}
use Rattle.arj_law_disk_view.specs.view.Sees.{Kinds, ClaimsConfirm}
use Rattle.arj_law_disk_view.specs.names.Memory.{IsOfTop, NamesGo, SeesNaming}

-- the object is confirmed with this grant
abbrev pub HasGrant : ℕ → ℕ → Grants → Type 0
HasGrant x i [] = ⊥
HasGrant x i (g ∷ gs) = (g ≡ (x, i)) ⊎ HasGrant x i gs

-- A Confirm of a top with a part in the object names a grant of it that is no later than any which the top has, or its root
-- retains.
abbrev pub NamesGrants : ℕ → State → Names → ℕ → Grants → Type 0
NamesGrants x S N t grants = HasPart (S.plan t) → (i : ℕ) → (N.had t i ≡ true) ⊎ (N.had (S.root t) i ≡ true) →
    (g : ℕ) × HasGrant x g grants × (g ≤ i)

-- What a Confirm says of grants, for ever: none that the top has itself is before a named one; nor one that its root retains, as long
-- as the top's outcome is open; and where the top was confirmed, a named grant is of an earlier incarnation than the present one, or
-- the top is known as confirmed.
pub record CountsOnGrants (x : ℕ) (S : State) (N : Names) (t : ℕ) (grants : Grants) : Type 0 where
  pub own : HasPart (S.plan t) → (i : ℕ) → N.had t i ≡ true → (g : ℕ) × HasGrant x g grants × (g ≤ i)
  pub unsettled : undecided S t ≡ true → NamesGrants x S N t grants
  pub taken : HasPart (S.plan t) → (S.conf t ≡ true) ⊎ (S.light t ≡ true) →
      (g : ℕ) × HasGrant x g grants × (g ≤ N.inc) × (g ≡ N.inc → N.confd t ≡ true)

-- a Confirm that naming takes newly and for which it prepares an entry is booked in the disk machine
abbrev pub NewConfirmsAreBooked : Type 0
NewConfirmsAreBooked = (x : ℕ) (tops : Kinds) (p : Path) (grants : Grants) (excluded included : Marks) (d : Pair) (n : Naming) (A : Office)
    → Named A → SeesNaming x tops n A.world.disk A.names → SeesEntry x d A.world.disk
    → IsOfTop tops A.world.disk p → ClaimsConfirm x A.world (uid_number (top_of p)) grants excluded included →
    CountsOnGrants x A.world.disk A.names (uid_number (top_of p)) grants → IsNext A.world.disk (uid_number (top_of p))
    → IsNewConfirm p grants excluded included d n → IsBooked A.world.disk (uid_number (top_of p))

-- ---- what the call does

-- Of the machine only this effect is done, and naming's locks and whom it confirmed change.
pub record IsConfirmedBy (A B : Office) (e : Effect) : Type 0 where
  pub world : B.world ≡ after A.world e
  pub inc : B.names.inc ≡ A.names.inc
  pub told : B.names.told ≡ A.names.told
  pub given : B.names.given ≡ A.names.given
  pub had : B.names.had ≡ A.names.had
  pub kept : B.names.kept ≡ A.names.kept
  pub answers : (a : Answer) → In a A.names.answers → In a B.names.answers
  pub confd : (t : ℕ) → A.names.confd t ≡ true → B.names.confd t ≡ true

-- With its exclude locks, the confirmation that the disk half makes may be done.
abbrev pub NewConfirmsAreActs : Type 0
NewConfirmsAreActs = (x : ℕ) (tops : Kinds) (p : Path) (grants : Grants) (excluded included : Marks) (d : Pair) (n : Naming) (A : Office) →
    Named A → SeesNaming x tops n A.world.disk A.names → SeesEntry x d A.world.disk
    → IsOfTop tops A.world.disk p → ClaimsConfirm x A.world (uid_number (top_of p)) grants excluded included →
    CountsOnGrants x A.world.disk A.names (uid_number (top_of p)) grants → IsNext A.world.disk (uid_number (top_of p))
    → IsNewConfirm p grants excluded included d n → (e : Effect) → IsConfirmation (uid_number (top_of p)) e → Allowed A.world e
    → NamesGo A (λ B. IsConfirmedBy A B e × SeesNaming x tops (confirms (top_of p) (let l = lock_all (wanted (top_of p) grants excluded d)
    p n in l.part)) B.world.disk B.names × (B.names.confd (uid_number (top_of p)) ≡ true))

-- One that is answered Yes again is nothing to the machine.
abbrev pub OldConfirmsAreNothing : Type 0
OldConfirmsAreNothing = (x : ℕ) (tops : Kinds) (p : Path) (n : Naming) (A : Office) → SeesNaming x tops n A.world.disk A.names →
    A.names.confd (uid_number (top_of p)) ≡ true → SeesNaming x tops (confirms (top_of p) n) A.world.disk A.names
