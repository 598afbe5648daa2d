-- How long a packed state is, in either format.
use Rattle.std.proofs.Common.{◌≤◌, ◌+◌, length, arith}
use Rattle.arj_base.specs.State.{state_bytes}
use Rattle.arj_base.specs.declared.state.Format.{Format}
use Rattle.arj_base.specs.declared.state.Format.TheVariants.{One, Two}
use Rattle.arj_base.specs.declared.state.ObjectState.{ObjectState}

-- the head has 47 bytes in format one, and 48 in format two
pub state_within : (s : ObjectState) → (47 + length s.payload ≤ length (state_bytes s)) × (length (state_bytes s) ≤ 48 + length s.payload)
state_within s = by s.format
  where
    by : (f : Format) → (47 + length s.payload ≤ length (state_bytes (record s { format = f })))
        × (length (state_bytes (record s { format = f })) ≤ 48 + length s.payload)
    by One = (omega arith, omega arith)
    by Two = (omega arith, omega arith)
