-- How many bindings naming made, by the journal.
use Rattle.std.specs.Prelude.{◌≡◌, ◌≤◌, ◌<◌, ◌+◌, ℕ, List, [], ◌∷◌, Option, Some}
use Rattle.arj_protocol.specs.Words.{Body, Line}
use Rattle.arj_protocol.specs.Words.body
use Rattle.arj_protocol.specs.Naming.{Naming}
use Rattle.arj_protocol.specs.Node.{Parts}
use Rattle.arj_protocol.specs.Step.{Node}
use Rattle.arj_promise.specs.Runs.{Seen}

-- 1 for a line of a new binding, 0 for any other
abbrev pub bound_by : Body → ℕ
bound_by (body.Bound x b server) = 1
bound_by _ = 0

-- how many new bindings a journal has
abbrev pub bindings_made : List Line → ℕ
bindings_made [] = 0
bindings_made (line ∷ lines) = bound_by line.body + bindings_made lines

-- counts of bindings have 32 bits, and begin at 1
abbrev pub most_bindings : ℕ
most_bindings = 4294967295

-- fewer bindings were made in all than counts tell apart in one incarnation of naming
abbrev pub HasFewBindings : List Line → Type 0
HasFewBindings lines = bindings_made lines < most_bindings

-- naming counted no more bindings than these lines say, while the node is up
abbrev pub IsSaidBy : List Line → Option Parts → Type 0
IsSaidBy lines live = (t : Parts) (o : Naming) → live ≡ Some t → t.naming ≡ Some o → o.count ≤ bindings_made lines

-- so it is at each node
abbrev pub AreSaid : Seen → Type 0
AreSaid M = (j : ℕ) (n : Node) → M.nodes j ≡ Some n → IsSaidBy M.lines n.live
