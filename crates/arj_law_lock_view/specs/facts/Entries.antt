-- An object's entry stays on the disk of naming's node.
use Rattle.std.specs.Prelude.{◌≡◌, ℕ, true, Some, Contains, is_some}
use Rattle.arj_protocol.specs.Words.{Header, ObjectLine, entry}
use Rattle.arj_protocol.specs.Confirm.{recovered_naming}
use Rattle.arj_protocol.specs.Effect.{Pair, held_at}
use Rattle.arj_protocol.specs.Order.{at_number}
use Rattle.arj_protocol.specs.Step.{Node}
use Rattle.arj_law_parts.specs.moves.Keeps.{Keeps}
use Rattle.arj_promise.specs.Runs.{Seen}

-- the header has the object
abbrev pub HasObject : Header → ℕ → Type 0
HasObject hd x = (o : ObjectLine) × Contains hd.objects o × (o.x ≡ x)

-- naming's node has its entry on the disk, up or down
abbrev pub HoldsEntry : ℕ → Seen → Type 0
HoldsEntry x M = (n : Node) → M.nodes 1 ≡ Some n → is_some (held_at (entry x) (let d = n.disk in d.names)) ≡ true

-- each handler keeps it
abbrev pub HandlersKeepEntries : Type 0
HandlersKeepEntries = (hd : Header) (x : ℕ) → HasObject hd x → Keeps hd (HoldsEntry x)

-- So naming finds the object as it starts.
abbrev pub EntriesAreFound : Type 0
EntriesAreFound = (x inc : ℕ) (d : Pair) → is_some (held_at (entry x) d) ≡ true →
    is_some (at_number x (let n = recovered_naming inc d in n.objects)) ≡ true
