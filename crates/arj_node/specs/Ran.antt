-- What a handler's effects are to a node: what goes out, what it sends to itself, and what its disk is then.
use Rattle.std.specs.Prelude.{◌≡◌, ℕ, ◌==◌, if◌then◌else◌, List, [], ◌∷◌, ◌++◌}
use Rattle.arj_core.specs.declared.output.Output.{Output}
use Rattle.arj_core.specs.Steps.{PutsOut}
use Rattle.arj_protocol.specs.Effect.{Disk, Effect, Say, Send, Do, Work, Stop, worked, stopped}
use Rattle.arj_protocol.specs.Words.{Message}

-- the effects of node n but for what it sends to itself
abbrev pub outward : ℕ → List Effect → List Effect
outward n [] = []
outward n (Say b ∷ es) = Say b ∷ outward n es
outward n (Do w ∷ es) = Do w ∷ outward n es
outward n (Send to m ∷ es) = if to == n then outward n es else Send to m ∷ outward n es

-- what node n sends to itself, first sent first
abbrev pub inward : ℕ → List Effect → List Message
inward n [] = []
inward n (Say b ∷ es) = inward n es
inward n (Do w ∷ es) = inward n es
inward n (Send to m ∷ es) = if to == n then m ∷ inward n es else inward n es

-- the disk after effects in order
abbrev pub disk_after : List Effect → Disk → Disk
disk_after [] d = d
disk_after (Do w ∷ es) d = disk_after es (worked w d)
disk_after (Say b ∷ es) d = disk_after es d
disk_after (Send to m ∷ es) d = disk_after es d

-- A stop cut effects at a work, with this front before it; what it left of the disk passes a test.
pub record IsStoppedAt (left : Disk → Type 0) (outs : List Effect) (d : Disk) (front : List Effect) : Type 0 where
  pub work : Work
  pub back : List Effect
  pub how : Stop
  pub are : outs ≡ front ++ Do work ∷ back
  pub disk : left (stopped how work (disk_after front d))

-- and the front was put out
pub record IsCut (left : Disk → Type 0) (outs : List Effect) (d : Disk) (before after : List Output) : Type 0 where
  pub front : List Effect
  pub stop : IsStoppedAt left outs d front
  pub puts : PutsOut front before after
