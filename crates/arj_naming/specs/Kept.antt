-- Naming over a store, with its disk, and what a call did.
use Rattle.std.specs.Prelude.{◌≡◌, ◌⊎◌, List, ◌∷◌, ◌++◌}
use Rattle.arj_disk.specs.FileMap.{FileMap}
use Rattle.arj_disk.specs.declared.slot.Role.TheVariants as role
use Rattle.arj_journal.specs.declared.body.Line.{Line}
use Rattle.arj_law_store.specs.store.Files.{IsPairOf}
use Rattle.arj_naming.specs.Said.{said, names_disk, pair_after}
use Rattle.arj_protocol.specs.Effect.{Effect, Do, Work, Pair, Stop, Did, stopped}
use Rattle.arj_protocol.specs.Naming.{Naming}
use Rattle.arj_store.specs.Pair as files
use Rattle.arj_store.specs.declared.store.ObjectStore.{Ghosts}

-- naming's part, the entries in memory, and the store
pub record Kept (O : Type 0) : Type 0 where
  pub part : Naming
  pub pair : Pair
  pub store : O

-- Naming stands on a disk with these files: its store is of the entries and answers by the files, which are formed, and
-- the entries in memory are those that the files give.
pub record StandsOn {O : Type 0} (o : Ghosts O) (n : Kept O) (file : FileMap) : Type 0 where
  pub role_is : o.own_role n.store ≡ role.Names
  pub keeps : o.keeps n.store file
  pub formed : o.formed file role.Names
  pub pair : IsPairOf (o.pair file role.Names) n.pair

-- A call did this: the part is this, the lines stand behind those before, and the entries are what the work makes of them.
pub record HasDone {O : Type 0} (did : Did Naming) (old new : Kept O) (before after : List Line) : Type 0 where
  pub part : new.part ≡ did.part
  pub lines : after ≡ before ++ said did.outs
  pub pair : new.pair ≡ pair_after did.outs old.pair

-- the pair of entries as a stop leaves the work on which it falls
abbrev pub pair_stopped : Stop → Work → Pair → Pair
pair_stopped how w d = let disk = stopped how w (names_disk d) in disk.names

-- A stop cut the effects at a work: what stands before it is done and said, the work is as a stop leaves it, and nothing
-- behind it happened.
pub record IsCut (outs : List Effect) (d : Pair) (p : files.Pair) (before after : List Line) : Type 0 where
  pub front : List Effect
  pub work : Work
  pub back : List Effect
  pub how : Stop
  pub are : outs ≡ front ++ Do work ∷ back
  pub pair : IsPairOf p (pair_stopped how work (pair_after front d))
  pub lines : after ≡ before ++ said front

-- A front of the effects is done, and the work behind it may be as a stop leaves it. Of lines nothing is said.
pub record IsDoneInPart (outs : List Effect) (d : Pair) (p : files.Pair) : Type 0 where
  pub front : List Effect
  pub back : List Effect
  pub are : outs ≡ front ++ back
  pub pair : IsPairOf p (pair_after front d) ⊎ ((how : Stop) × (work : Work) × (rest : List Effect) × (back ≡ Do work ∷ rest) × IsPairOf p (pair_stopped how work (pair_after front d)))
