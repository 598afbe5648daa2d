-- Whom naming knows of as holders of locks and as prepared, and how it is told that a node is up again.
use Rattle.std.specs.Prelude.{◌≡◌, List, ◌++◌, Option, Some, None, is_some, option_map}
use Rattle.arj_disk.specs.FileMap.{FileMap}
use Rattle.arj_lock.specs.Held.{AreListed}
use Rattle.arj_msg.specs.declared.message.Hello.{Hello}
use Rattle.arj_naming.specs.Kept as naming
use Rattle.arj_protocol.specs.Effect.{Disk}
use Rattle.arj_protocol.specs.Naming.{naming_holders}
use Rattle.arj_protocol.specs.Node.{naming_hello, prepared_actions}
use Rattle.arj_protocol.specs.Words.{Uid}
use Rattle.arj_serve.specs.Kept.{Kept, StandsOn, part_of}
use Rattle.arj_store.specs.declared.store.ObjectStore.{Ghosts}

-- at the end stand the holders, each once, and the prepared actions
abbrev pub ListsNames : {O : Type 0} → Option (naming.Kept O) → List Uid → List Uid → Type 0
ListsNames None old new = new ≡ old
ListsNames (Some n) old new = (held : List Uid) × AreListed (naming_holders n.part) held × (new ≡ old ++ held ++ prepared_actions n.pair)

-- at the end stand the prepared actions
abbrev pub ListsPrepared : {O : Type 0} → Option (naming.Kept O) → List Uid → List Uid → Type 0
ListsPrepared None old new = new ≡ old
ListsPrepared (Some n) old new = new ≡ old ++ prepared_actions n.pair

-- naming dropped the live bindings to earlier incarnations of a node, and all else is as before
pub record Greets {O : Type 0} (o : Ghosts O) (m : Hello) (old new : Kept O) : Type 0 where
  pub number : new.number ≡ old.number
  pub named : is_some new.naming ≡ is_some old.naming
  pub server : new.server ≡ old.server
  pub part : option_map part_of new.naming ≡ naming_hello m.node m.inc (option_map part_of old.naming)
  pub stands : (file : FileMap) (d : Disk) → StandsOn o old file d → StandsOn o new file d
