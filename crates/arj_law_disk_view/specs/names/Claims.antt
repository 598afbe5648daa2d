-- What requests to naming claim, for ever: a Confirm of its grants, a Record of the one that it names.
use Rattle.std.specs.Prelude.{◌≡◌, ◌⊎◌, ◌≤◌, ℕ, Bool, true, false}
use Rattle.arj_protocol.specs.Confirm.{Grants}
use Rattle.arj_law_disk.specs.machine.Named.{Named}
use Rattle.arj_law_disk.specs.machine.Names.{Answer, Office}
use Rattle.arj_law_disk.specs.machine.State.{Idle, undecided}
use Rattle.arj_law_disk.specs.machine.Words.{In}
use Rattle.arj_law_disk_view.specs.view.Sees.{IsLater}
use Rattle.arj_law_disk_view.specs.names.Booked.{CountsOnGrants, NamesGrants}
use Rattle.arj_law_disk_view.specs.names.Both.{OnlyAnswers, OnlyFound}
use Rattle.arj_law_disk_view.specs.names.Handlers.{Change, Changes}

-- what an action has it had before; or it took a grant while it worked; or it retains that of a top whose outcome was open
abbrev pub IsHadBefore : Office → ℕ → ℕ → Type 0
IsHadBefore A h i = (A.names.had h i ≡ true) ⊎ (((A.world.disk.stage h ≡ Idle) × (A.world.disk.serial h ≡ false))
    ⊎ ((t : ℕ) × (undecided A.world.disk t ≡ true) × (A.world.disk.root t ≡ h) × (A.names.had t i ≡ true)))

-- Whatever a step has done: the disk half has gone on, what was had and answered is so still, and what is had now came so; naming's
-- incarnation doesn't fall, and in one of them whoever was confirmed is so still.
pub record IsAfter (A B : Office) : Type 0 where
  pub later : IsLater A.world B.world
  pub grows : (h i : ℕ) → A.names.had h i ≡ true → B.names.had h i ≡ true
  pub from : (h i : ℕ) → B.names.had h i ≡ true → IsHadBefore A h i
  pub answers : (a : Answer) → In a A.names.answers → In a B.names.answers
  pub inc : A.names.inc ≤ B.names.inc
  pub confd : A.names.inc ≡ B.names.inc → (t : ℕ) → A.names.confd t ≡ true → B.names.confd t ≡ true

-- so it is by each change of a step, by a restart, and where answers are taken
abbrev pub ChangesAreAfter : Type 0
ChangesAreAfter = (o : Change) (A B : Office) → Named A → Changes o A B → IsAfter A B

-- by a restart
abbrev pub RestartsAreAfter : Type 0
RestartsAreAfter = (g : ℕ → Bool) (A B : Office) → Named A → OnlyFound g A B → IsAfter A B

-- where answers are taken
abbrev pub AnswersAreAfter : Type 0
AnswersAreAfter = (A B : Office) → OnlyAnswers A B → IsAfter A B

-- A commit that is under way and names its grants may ask naming to confirm it; what it says of them stays true.
abbrev pub GrantsAreCountedOn : Type 0
GrantsAreCountedOn = (x : ℕ) (t : ℕ) (grants : Grants) (A : Office) → Named A → NamesGrants x A.world.disk A.names t grants →
    CountsOnGrants x A.world.disk A.names t grants

-- what a Confirm counts on stays so
abbrev pub GrantsStayCountedOn : Type 0
GrantsStayCountedOn = (x : ℕ) (t : ℕ) (grants : Grants) (A B : Office) → Named A → Named B → A.world.disk.begun t ≡ true → IsAfter A B →
    CountsOnGrants x A.world.disk A.names t grants → CountsOnGrants x B.world.disk B.names t grants
