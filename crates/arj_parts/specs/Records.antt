-- What a coordinator's work does to the records of commits, in memory and on the disk.
use Rattle.std.specs.Prelude.{◌≡◌, List, [], ◌∷◌, ◌++◌}
use Rattle.arj_disk.specs.FileMap.{FileMap}
use Rattle.arj_disk.specs.declared.slot.Slot.{Slot}
use Rattle.arj_disk.specs.declared.slot.Slot.TheVariants as slot
use Rattle.arj_intent.specs.Records.{AreRecords}
use Rattle.arj_node.specs.Outgoing.{Tells}
use Rattle.arj_node.specs.declared.outgoing.Outgoing.{Outgoing}
use Rattle.arj_protocol.specs.Effect.{Effect, Say, Send, Do, Work, PutIntent, RemoveIntent, Intent, Stop, Before, After, InPart}
use Rattle.arj_protocol.specs.Order.{put_uid, without_uid}
use Rattle.arj_protocol.specs.Words.{Uid}

-- the records after one work
abbrev pub records_worked : Work → List (Uid × Intent) → List (Uid × Intent)
records_worked (PutIntent top i) all = put_uid top i all
records_worked (RemoveIntent top) all = without_uid top all
records_worked _ all = all

-- after effects in order
abbrev pub records_after : List Effect → List (Uid × Intent) → List (Uid × Intent)
records_after [] all = all
records_after (Do w ∷ es) all = records_after es (records_worked w all)
records_after (Say b ∷ es) all = records_after es all
records_after (Send to m ∷ es) all = records_after es all

-- as a stop leaves the work on which it falls
abbrev pub records_stopped : Stop → Work → List (Uid × Intent) → List (Uid × Intent)
records_stopped Before w all = all
records_stopped After w all = records_worked w all
records_stopped (InPart which) w all = all

-- every file but the records, and the one in the making, is as before
abbrev pub OnlyRecords : FileMap → FileMap → Type 0
OnlyRecords old new = (q : Slot) → ((top : Uid) → q ≡ slot.Intent top → ⊥) → (q ≡ slot.Tmp → ⊥) → new q ≡ old q

-- The effects were done: the records in memory are those after them, and so are the disk's; the others were handed back.
pub record DoesRecords (es : List Effect) (old new : FileMap) (was now : List (Uid × Intent)) (before after : List Outgoing) : Type 0 where
  pub memory : now ≡ records_after es was
  pub disk : (all : List (Uid × Intent)) → AreRecords old all → AreRecords new (records_after es all)
  pub tells : Tells es before after

-- A stop cut the effects at a work: what stands before it is done and handed back, and the disk's records are as it left them.
pub record CutsRecords (es : List Effect) (old new : FileMap) (before after : List Outgoing) : Type 0 where
  pub front : List Effect
  pub work : Work
  pub back : List Effect
  pub how : Stop
  pub are : es ≡ front ++ Do work ∷ back
  pub disk : (all : List (Uid × Intent)) → AreRecords old all → AreRecords new (records_stopped how work (records_after front all))
  pub tells : Tells front before after
