-- What a call of the services did, as the protocol's node handles the message.
use Rattle.std.specs.Prelude.{◌≡◌, ℕ, List, [], ◌∷◌, ◌++◌, map, is_some, ⊤}
use Rattle.arj_disk.specs.FileMap.{FileMap}
use Rattle.arj_journal.specs.declared.body.Line.{Line}
use Rattle.arj_naming.specs.Said.{said}
use Rattle.arj_protocol.specs.Coord.{Coord}
use Rattle.arj_protocol.specs.Effect.{Disk, Effect, Say, Send, Do, Work, Look, Stop, stopped, worked}
use Rattle.arj_protocol.specs.Node.{Handled, Void, Took}
use Rattle.arj_protocol.specs.Words.{Message}
use Rattle.arj_serve.specs.Kept.{Kept, StandsOn, IsDiskOf, parts_with}
use Rattle.arj_store.specs.declared.store.ObjectStore.{Ghosts}

-- a call of the services: they, the files of the disk and the lines, before it and after it
pub record Call (O : Type 0) : Type 0 where
  pub old : Kept O
  pub new : Kept O
  pub file : FileMap
  pub left : FileMap
  pub before : List Line
  pub after : List Line

-- the services are those of the same node, with naming or without as before
pub record SamePlace {O : Type 0} (call : Call O) : Type 0 where
  pub number : call.new.number ≡ call.old.number
  pub named : is_some call.new.naming ≡ is_some call.old.naming

-- messages, each with the node that it goes to
abbrev pub sends : List (ℕ × Message) → List Effect
sends sent = map (λ (p : ℕ × Message). Send p.0 p.1) sent

-- lines and work, and no message
abbrev pub AreLocal : List Effect → Type 0
AreLocal [] = ⊤
AreLocal (Say b ∷ es) = AreLocal es
AreLocal (Send to m ∷ es) = ⊥
AreLocal (Do w ∷ es) = AreLocal es

-- reads, and nothing else
abbrev pub AreLooks : List Effect → Type 0
AreLooks [] = ⊤
AreLooks (Do Look ∷ es) = AreLooks es
AreLooks _ = ⊥

-- the disk after effects in order
abbrev pub disk_after : List Effect → Disk → Disk
disk_after [] d = d
disk_after (Do w ∷ es) d = disk_after es (worked w d)
disk_after (Say b ∷ es) d = disk_after es d
disk_after (Send to m ∷ es) d = disk_after es d

-- what handling a message put out, void or not
abbrev pub outs_of : Handled → List Effect
outs_of (Void outs) = outs
outs_of (Took t outs) = outs

-- The message was taken: its lines stand behind those before, its work is done, these messages are to be sent behind
-- both, and the services stand on what is then on the disk.
pub record Takes {O : Type 0} (o : Ghosts O) (h : Handled) (c : Coord) (call : Call O) (d : Disk) (sent : List (ℕ × Message)) : Type 0 where
  pub place : SamePlace call
  pub done : List Effect
  pub local : AreLocal done
  pub is : h ≡ Took (parts_with call.new c) (done ++ sends sent)
  pub lines : call.after ≡ call.before ++ said done
  pub stands : StandsOn o call.new call.left (disk_after done d)

-- The message was void: no part changed, and at most the disk was read.
pub record IsVoid {O : Type 0} (o : Ghosts O) (h : Handled) (call : Call O) (d : Disk) : Type 0 where
  pub place : SamePlace call
  pub looks : List Effect
  pub are : AreLooks looks
  pub is : h ≡ Void looks
  pub parts : (c : Coord) → parts_with call.new c ≡ parts_with call.old c
  pub lines : call.after ≡ call.before
  pub stands : StandsOn o call.new call.left d

-- A stop cut the effects at a work: what stands before it is done and said, the work is as a stop leaves it, and nothing
-- behind it happened.
pub record IsCut {O : Type 0} (o : Ghosts O) (outs : List Effect) (call : Call O) (d : Disk) : Type 0 where
  pub front : List Effect
  pub work : Work
  pub back : List Effect
  pub how : Stop
  pub are : outs ≡ front ++ Do work ∷ back
  pub local : AreLocal front
  pub lines : call.after ≡ call.before ++ said front
  pub disk : IsDiskOf o (is_some call.old.naming) call.left (stopped how work (disk_after front d))
