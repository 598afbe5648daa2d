-- How a node's parts begin: naming, and what a restart does before it sends anything.
use Rattle.std.specs.Prelude.{◌≡◌, ◌+◌, ◌++◌, ◌∷◌, ℕ, List, Option, is_some, option_map}
use Rattle.arj_disk.specs.FileMap.{FileMap}
use Rattle.arj_naming.specs.Kept as naming
use Rattle.arj_naming.specs.Said.{said}
use Rattle.arj_node.specs.Ran.{IsStoppedAt}
use Rattle.arj_parts.specs.Kept.{RestsOn, has_naming}
use Rattle.arj_protocol.specs.Effect.{Disk, Effect, Pair, Do, Look}
use Rattle.arj_protocol.specs.Step.{naming_at, naming_back, recovered_records}
use Rattle.arj_recover.specs.Done.{Written, begins_on}
use Rattle.arj_serve.specs.Did.{AreLocal}
use Rattle.arj_serve.specs.Kept.{NamingStands, part_of}
use Rattle.arj_store.specs.declared.store.ObjectStore.{Ghosts}

-- The node of this number has naming, or hasn't: it stands on these files, and is what these entries give in this
-- incarnation.
pub record HasNaming {O : Type 0} (o : Ghosts O) (n inc : ℕ) (found : Option (naming.Kept O)) (file : FileMap) (p : Pair) : Type 0 where
  pub stands : NamingStands o found file p
  pub named : is_some found ≡ has_naming n
  pub part : option_map part_of found ≡ naming_at n inc p

-- the disk in its next incarnation
abbrev pub raised : Disk → Disk
raised d = record d { inc = d.inc + 1 }

-- what a restart of node n reads, writes and says, before it sends anything
abbrev pub outs_back : ℕ → Disk → List Effect
outs_back n d = begins_on n d ++ (naming_back (naming_at n (d.inc + 1) d.names) ++ (Do Look ∷ recovered_records n d.intents))

-- A stop cut a restart of node n: what stands before it was said, and the node rests on what the stop left.
pub record StopsBack {O : Type 0} (o : Ghosts O) (n : ℕ) (file : FileMap) (d : Disk) (w : Written) : Type 0 where
  pub front : List Effect
  pub stop : IsStoppedAt (RestsOn o n file) (outs_back n d) d front
  pub local : AreLocal front
  pub lines : w.after ≡ w.before ++ said front
