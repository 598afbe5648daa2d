-- A list of calls on one object by lists of records, one of each open action.
use Rattle.std.specs.Prelude.{◌≡◌, if◌then◌else◌, List, [], ◌∷◌, is_some}
use Rattle.arj_base.specs.declared.uid.Uid.{Uid}
use Rattle.arj_base.specs.Rows.{last_uid}
use Rattle.arj_base.specs.Uid.{uid_eq}
use Rattle.arj_class.specs.declared.value.Value.{Value}
use Rattle.arj_record.specs.declared.record.Record.{Record}
use Rattle.arj_record.specs.declared.record.Record.TheVariants.{Persistence, Recovery}
use Rattle.arj_record.specs.Records.{added, is_changed, merged, restored, undo_calls, IsArranged}
use Rattle.arj_record.specs.Records as records
use Rattle.arj_manager.specs.Runs.{Step, Images}
use Rattle.arj_manager.specs.Runs.Step.{Write, Nested, Abort, Top}

-- the value in place, and each action's records
pub record Lists : Type 0 where
  pub now : Value
  pub kept : Uid → List (Record Value)

-- the last of these values, or else this
abbrev pub latest : List Value → Value → Value
latest [] now = now
latest (v ∷ vs) now = latest vs v

-- A write on object x keeps its image and marks it as changed; a nested commit merges the action's list into its
-- parent's; an abort restores what the list's undo gives back; a top's list goes.
abbrev pub list_step : Uid → Step → Lists → Lists
list_step x (Write holder tops v) l =
    record {
      now = v;
      kept =
          λ b. if uid_eq (last_uid holder) b then added (Persistence x) (added (Recovery x l.now) (l.kept (last_uid holder))) else l.kept b;
    }
list_step x (Nested u h) l =
    record { now = l.now; kept = λ b. if uid_eq h b then merged (l.kept h) (l.kept u) else (if uid_eq u b then [] else l.kept b) }
list_step x (Abort u) l =
    record { now = latest (restored x (undo_calls u (l.kept u))) l.now; kept = λ b. if uid_eq u b then [] else l.kept b }
list_step x (Top u) l = record { now = l.now; kept = λ b. if uid_eq u b then [] else l.kept b }

-- calls one after another
abbrev pub list_run : Uid → List Step → Lists → Lists
list_run x [] l = l
list_run x (s ∷ ss) l = list_run x ss (list_step x s l)

-- the value in place, and the image of object x in each action's list
abbrev pub images_in : Uid → Lists → Images
images_in x l = record { now = l.now; before = λ b. records.image x (l.kept b) }

-- Each list is in its order, and has object x as changed exactly where it has its image.
pub record AreLists (x : Uid) (l : Lists) : Type 0 where
  pub arranged : (b : Uid) → IsArranged (l.kept b)
  pub changed : (b : Uid) → is_changed x (l.kept b) ≡ is_some (records.image x (l.kept b))
