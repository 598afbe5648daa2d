-- A message that a node takes is handled, or it is void.
use Rattle.std.proofs.Common.{◌≡◌, Bool, true, false, if◌then◌else◌, ℕ, List, []}
use Rattle.arj_protocol.specs.Words.{Message}
use Rattle.arj_protocol.specs.Effect.{Disk, Effect}
use Rattle.arj_protocol.specs.Node.{Parts, Handled, Void, Took, handle, taken, is_meant}

pub taken_as : (P : Handled → Type 0) (n : ℕ) (d : Disk) (t : Parts) (from : ℕ) (m : Message) → P (Void []) → P (handle n d t from m) →
    P (taken n d t from m)
taken_as P n d t from m void handled = by (is_meant t m)
  where
    by : (b : Bool) → P (if b then handle n d t from m else Void [])
    by true = handled
    by false = void

-- what isn't void was handled
pub taken_took : (n : ℕ) (d : Disk) (t v : Parts) (from : ℕ) (m : Message) (outs : List Effect) → taken n d t from m ≡ Took v outs →
    handle n d t from m ≡ Took v outs
taken_took n d t v from m outs = by (is_meant t m)
  where
    by : (b : Bool) → (if b then handle n d t from m else Void []) ≡ Took v outs → handle n d t from m ≡ Took v outs
    by true is = is
    by false is = absurd (cc is)
