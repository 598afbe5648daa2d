-- The bytes of Segment and Pending files, and what is read of them.
use Rattle.std.specs.Prelude.{◌≡◌, ◌≤◌, ◌+◌, ◌*◌, ◌&&◌, nat_le, ℕ, zero, suc, Bool, List, [], ◌∷◌, ◌++◌, codes, length, take, drop}
use Rattle.std.specs.Prelude.{flat_map, slice_index, if◌then◌else◌, Option, None, Some}
use Rattle.std.specs.List.{AllByRecursion}
use Rattle.byteorder.specs.Endian.{big_bytes}
use Rattle.arj_base.specs.State.{state_bytes, StateInForm}
use Rattle.arj_base.specs.declared.limits.TheConstants.{MOST_BYTES}
use Rattle.arj_base.specs.declared.state.ObjectState.{ObjectState}
use Rattle.arj_base.specs.declared.uid.Uid.{Uid}
use Rattle.arj_disk.specs.Says.{new_of, uid_in}
use Rattle.arj_disk.specs.declared.limits.TheConstants.{MOST_KNOWN}
use Rattle.arj_disk.specs.declared.slot.Role.{Role}
use Rattle.arj_store.specs.Pair.{AreDistinct}

-- a row of such a file: bytes behind their length
abbrev pub row_of : List ℕ → List ℕ
row_of state = big_bytes 2 (length state) ++ state

-- the row of a state: the state is packed
abbrev pub row_bytes : ObjectState → List ℕ
row_bytes s = row_of (state_bytes s)

-- `ARJS`, the count of the states, and a row for each
abbrev pub segment_bytes : List ObjectState → List ℕ
segment_bytes states = codes "ARJS" ++ (big_bytes 2 (length states) ++ flat_map row_bytes states)

-- a state that has room in a row
abbrev pub FitsRow : ObjectState → Type 0
FitsRow s = StateInForm s × (length (state_bytes s) ≤ MOST_BYTES)

-- the number in the first two bytes
abbrev pub two_in : List ℕ → ℕ
two_in bytes = slice_index bytes 0 * 256 + slice_index bytes 1

-- the bytes begin with a row that is there whole, and long enough to have a Uid
abbrev pub has_row : List ℕ → Bool
has_row bytes = nat_le 2 (length bytes) && (nat_le 20 (two_in bytes) && nat_le (2 + two_in bytes) (length bytes))

-- the packed state of the first row
abbrev pub first_in : List ℕ → List ℕ
first_in bytes = take (two_in bytes) (drop 2 bytes)

-- what stands behind the first row
abbrev pub rest_in : List ℕ → List ℕ
rest_in bytes = drop (2 + two_in bytes) bytes

-- a packed state under its Uid
abbrev pub keyed : List ℕ → Uid × List ℕ
keyed state = (uid_in (take 16 (drop 4 state)), state)

-- the packed states of the first n rows, up to the first that isn't there
unfoldable pub rows_in : ℕ → List ℕ → List (Uid × List ℕ)
rows_in zero bytes = []
rows_in (suc n) bytes = if has_row bytes then keyed (first_in bytes) ∷ rows_in n (rest_in bytes) else []

-- the packed states of a file, under their Uids
abbrev pub states_in : List ℕ → List (Uid × List ℕ)
states_in bytes = rows_in (two_in (drop 4 bytes)) (drop 6 bytes)

-- the state of an object in a file that is there
abbrev pub state_in : Uid → Option (List ℕ) → Option (List ℕ)
state_in u None = None
state_in u (Some bytes) = new_of (states_in bytes) u

-- The bytes are those of a Segment or Pending file of the role: of states of distinct objects of the role, at most as many
-- as the count has room for.
pub record IsSegment (role : Role) (bytes : List ℕ) : Type 0 where
  pub states : List ObjectState
  pub fit : AllByRecursion FitsRow states
  pub count : length states ≤ MOST_KNOWN
  pub distinct : AreDistinct role states
  pub written : bytes ≡ segment_bytes states
