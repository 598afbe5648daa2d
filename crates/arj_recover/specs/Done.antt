-- What a row of effects does to a disk and says, and what a stop leaves of it.
use Rattle.std.specs.Prelude.{◌≡◌, ◌+◌, ℕ, List, [], ◌∷◌, ◌++◌, map}
use Rattle.std.specs.List.{flat_map}
use Rattle.arj_disk.specs.FileMap.{FileMap}
use Rattle.arj_journal.specs.declared.body.Line.{Line}
use Rattle.arj_protocol.specs.Effect.{Disk, Effect, Say, Send, Do, Look, PutInc, Work, Stop, worked, stopped}
use Rattle.arj_protocol.specs.Node.{prepared_actions, query_about}
use Rattle.arj_protocol.specs.Order.{uid_set, without_number}
use Rattle.arj_protocol.specs.Step.{hello_to, numbers_to, tolds_again}
use Rattle.arj_protocol.specs.Words.{Header}
use Rattle.arj_protocol.specs.Words.body
use Rattle.arj_recover.specs.OnDisk.{IsDiskOf}
use Rattle.arj_store.specs.declared.store.ObjectStore.{Ghosts}

-- the line of an effect, if it is one; a world gives it the number of its event
abbrev pub line_of : Effect → List Line
line_of (Say b) = record { event = 0; body = b } ∷ []
line_of (Send to m) = []
line_of (Do w) = []

-- the lines that effects say, in order
abbrev pub said : List Effect → List Line
said outs = flat_map line_of outs

-- the disk after effects in order
abbrev pub disk_after : List Effect → Disk → Disk
disk_after [] d = d
disk_after (Do w ∷ es) d = disk_after es (worked w d)
disk_after (Say b ∷ es) d = disk_after es d
disk_after (Send to m ∷ es) d = disk_after es d

-- the lines before a call and after it
pub record Written : Type 0 where
  pub before : List Line
  pub after : List Line

-- A stop cut the effects at a work: what stands before it is done and said, the work is as a stop leaves it, and nothing
-- behind it happened.
pub record IsCut {O : Type 0} (o : Ghosts O) (outs : List Effect) (d : Disk) (file : FileMap) (w : Written) : Type 0 where
  pub front : List Effect
  pub work : Work
  pub back : List Effect
  pub how : Stop
  pub are : outs ≡ front ++ Do work ∷ back
  pub disk : IsDiskOf o file (stopped how work (disk_after front d))
  pub lines : w.after ≡ w.before ++ said front

-- whatever disk the files said before, a stop cut these effects, which may hang on that disk
abbrev pub IsCutOf : {O : Type 0} → Ghosts O → (Disk → List Effect) → FileMap → FileMap → List Line → List Line → Type 0
IsCutOf o outs old new before after = (d : Disk) → IsDiskOf o old d → IsCut o (outs d) d new (record { before = before; after = after })

-- How a restart of node n begins, up to its own store: the incarnation is read and raised, the node is said to be up, and the
-- store is read.
abbrev pub begins_again : ℕ → ℕ → List Effect
begins_again n inc = Do Look ∷ Do (PutInc inc) ∷ Say (body.Up n inc) ∷ Do Look ∷ []

-- and of any disk
abbrev pub begins_on : ℕ → Disk → List Effect
begins_on n d = begins_again n (d.inc + 1)

-- what is sent last: tolds of the records, queries about what is prepared, and a hello to each other node
abbrev pub sent_again : Header → ℕ → ℕ → Disk → List Effect
sent_again hd n inc d =
    tolds_again d.intents ++ (map query_about (uid_set (prepared_actions d.store ++ prepared_actions d.names)) ++ map (hello_to n inc) (without_number n (numbers_to hd.nodes)))
