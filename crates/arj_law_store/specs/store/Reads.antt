-- What a store reads of an object, as the protocol's pair has it.
use Rattle.std.specs.Prelude.{◌≡◌, Option, Some, None}
use Rattle.arj_protocol.specs.Effect.{Pair, held_at, holder_of}
use Rattle.arj_protocol.specs.Words.{Uid, ObjectState}
use Rattle.arj_store.specs.declared.answer.Read.{Read}
use Rattle.arj_store.specs.declared.answer.Read.TheVariants as read

-- the action that has prepared it, else the committed state, or none
abbrev pub ReadsAs : Pair → Uid → Read → Type 0
ReadsAs d u (read.InDoubt holder) = holder_of u d ≡ Some holder
ReadsAs d u (read.State s) = (holder_of u d ≡ None) × (held_at u d ≡ Some s)
ReadsAs d u read.Absent = (holder_of u d ≡ None) × (held_at u d ≡ None)

-- the state that was read, if there is one
abbrev pub state_of : Read → Option ObjectState
state_of (read.State s) = Some s
state_of (read.InDoubt holder) = None
state_of read.Absent = None
