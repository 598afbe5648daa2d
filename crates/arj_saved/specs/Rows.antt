-- Which bytes are those of a Segment or Pending file.
use Rattle.std.specs.Prelude.{ℕ, zero, suc, Bool, true, false, ◌&&◌, not, nat_le, List, [], ◌∷◌, ◌++◌, codes, length, take, drop, is_some}
use Rattle.std.specs.List.{list_any}
use Rattle.std.specs.Str.{bytes_eq}
use Rattle.arj_base.specs.State.{state_fault}
use Rattle.arj_base.specs.Uid.{uid_eq}
use Rattle.arj_base.specs.declared.state.ObjectState.{ObjectState}
use Rattle.arj_base.specs.declared.uid.Uid.{Uid}
use Rattle.arj_segment_file.specs.Format.{first_in, has_row, keyed, rest_in, two_in}

-- the bytes are a packed state
abbrev pub is_packed : List ℕ → Bool
is_packed state = not (is_some (state_fault state))

-- a state of this Uid is among these
abbrev pub has_uid : List (Uid × List ℕ) → Uid → Bool
has_uid es u = list_any (λ e. uid_eq e.0 u) es

-- the same of states that are not packed
abbrev pub names_uid : List ObjectState → Uid → Bool
names_uid ss u = list_any (λ s. uid_eq s.uid u) ss

-- there are no bytes
abbrev pub is_end : List ℕ → Bool
is_end [] = true
is_end (b ∷ bs) = false

-- n rows and nothing behind them, each with a packed state, whose Uid none of those before it has
unfoldable pub are_rows : ℕ → List ℕ → List (Uid × List ℕ) → Bool
are_rows zero bytes before = is_end bytes
are_rows (suc n) bytes before =
    has_row bytes && (is_packed (first_in bytes) && (not (has_uid before (let e = keyed (first_in bytes) in e.0))
    && are_rows n (rest_in bytes) (before ++ keyed (first_in bytes) ∷ [])))

-- The bytes are those of a Segment or Pending file: `ARJS`, how many states there are, and each packed behind its length, no two of one
-- Uid; nothing follows.
abbrev pub is_segment : List ℕ → Bool
is_segment bytes = nat_le 6 (length bytes) && (bytes_eq (take 4 bytes) (codes "ARJS") && are_rows (two_in (drop 4 bytes)) (drop 6 bytes) [])
