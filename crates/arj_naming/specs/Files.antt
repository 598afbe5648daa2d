-- The states that the files of a disk give are of entries.
use Rattle.std.specs.Prelude.{◌≡◌, List, Some}
use Rattle.std.specs.List.{AllByRecursion}
use Rattle.arj_base.specs.State.{StateInForm}
use Rattle.arj_naming.specs.Entries.{AreOfEntries, IsEntryState}
use Rattle.arj_protocol.specs.Words.{Uid, ObjectState}
use Rattle.arj_store.specs.Pair as files
use Rattle.arj_store.specs.Pair.{packed}

-- the states of the pair that files give are of entries
pub record GivesEntries (p : files.Pair) : Type 0 where
  pub held : (s : ObjectState) → files.IsHeld p s.uid s → IsEntryState s.uid s
  pub pend : (a : Uid) (states : List ObjectState) → p.pend a ≡ Some (packed states) → AllByRecursion StateInForm states →
      AreOfEntries states
