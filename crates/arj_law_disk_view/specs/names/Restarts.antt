-- Naming at a restart, and as a run begins.
use Rattle.std.specs.Prelude.{◌≡◌, ℕ, ◌+◌, Bool, true, false, ◌==◌, List, Contains}
use Rattle.std.specs.List.{list_any}
use Rattle.arj_protocol.specs.Words.{Uid, ObjectState, entry}
use Rattle.arj_protocol.specs.Confirm.{recovered_naming}
use Rattle.arj_protocol.specs.Effect.{Pair}
use Rattle.arj_protocol.specs.Order.{uid_number}
use Rattle.arj_law_disk.specs.machine.Guards.{May}
use Rattle.arj_law_disk.specs.machine.Laws.{IsFirst}
use Rattle.arj_law_disk.specs.machine.Named.{Named}
use Rattle.arj_law_disk.specs.machine.NamingLaws.{IsFirstNames}
use Rattle.arj_law_disk.specs.machine.Names.{Names, Office, Restart, acted}
use Rattle.arj_law_disk.specs.machine.State.{State}
use Rattle.arj_law_disk_view.specs.view.Entries.{SeesEntry}
use Rattle.arj_law_disk_view.specs.view.Sees.{Kinds}
use Rattle.arj_law_disk_view.specs.names.Memory.{SeesNaming}

-- what is held at naming is held under the names of entries
abbrev pub AreEntries : Pair → Type 0
AreEntries d = (e : Uid × ObjectState) → Contains d.held e → e.0 ≡ entry e.0.num

-- an action has an entry prepared, of whatever object
abbrev pub has_prepared : Pair → ℕ → Bool
has_prepared d t = list_any (λ (p : Uid × List ObjectState). uid_number p.0 == t) d.pend

-- The incarnation rises: naming gets back the locks of entries that are in doubt, and knows as confirmed who has one prepared.
abbrev pub RestartsAreActs : Type 0
RestartsAreActs = (x : ℕ) (tops : Kinds) (inc : ℕ) (d : Pair) (A : Office) → Named A → A.names.inc ≡ inc → SeesEntry x d A.world.disk →
    AreEntries d → ((t : ℕ) → A.world.disk.begun t ≡ true → tops.is_top t ≡ true)
    → May A (Restart (has_prepared d))
    × SeesNaming x tops (recovered_naming (inc + 1) d) A.world.disk (let B = acted A (Restart (has_prepared d)) in B.names)

-- as a run begins
abbrev pub FirstIsSeen : Type 0
FirstIsSeen = (x : ℕ) (tops : Kinds) (inc : ℕ) (d : Pair) (S : State) (N : Names) → IsFirst S → IsFirstNames N → N.inc ≡ inc →
    N.live ≡ false → SeesEntry x d S → AreEntries d → SeesNaming x tops (recovered_naming inc d) S N
