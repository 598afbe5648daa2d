-- Work on the states of a node's disk, and no other.
use Rattle.std.specs.Prelude.{Bool, true, false}
use Rattle.arj_protocol.specs.Effect.{Effect, Say, Send, Do, Work, Look, PutInc, Prepare, Commit, Abort, PutIntent, RemoveIntent}
use Rattle.arj_protocol.specs.Words.{Role}
use Rattle.arj_protocol.specs.Words.role

-- the store's states, or entries where the node has naming
abbrev pub is_kept : Bool → Role → Bool
is_kept named role.Store = true
is_kept named role.Names = named

-- a read, or work on states
abbrev pub is_state_work : Bool → Work → Bool
is_state_work named Look = true
is_state_work named (PutInc i) = false
is_state_work named (Prepare r act states) = is_kept named r
is_state_work named (Commit r act) = is_kept named r
is_state_work named (Abort r act) = is_kept named r
is_state_work named (PutIntent top i) = false
is_state_work named (RemoveIntent top) = false

-- so it is of an effect
abbrev pub is_state_effect : Bool → Effect → Bool
is_state_effect named (Say b) = true
is_state_effect named (Send to m) = true
is_state_effect named (Do w) = is_state_work named w
