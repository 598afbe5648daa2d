-- Forms of files: packed states, the incarnation, and records of commits.
use Rattle.std.specs.Prelude.{◌≡◌, ◌<◌, ◌≤◌, ℕ, List, ◌++◌, ◌∷◌, codes, length, Contains}
use Rattle.std.specs.List.{IsDistinct, AllByRecursion}
use Rattle.std.specs.List.Sorted.{IsStrictlySortedBy}
use Rattle.std.specs.Ordering.{nat_cmp}
use Rattle.byteorder.specs.Endian.{big_bytes}
use Rattle.arj_base.specs.declared.state.ObjectState.{ObjectState}
use Rattle.arj_base.specs.declared.uid.Uid.{Uid}
use Rattle.arj_base.specs.State.{state_bytes, StateInForm}
use Rattle.arj_base.specs.Uid.{uid_bytes, uid_eq, UidFits}

-- a packed state with this Uid
abbrev pub IsStateOf : Uid → List ℕ → Type 0
IsStateOf u bytes = (s : ObjectState) × StateInForm s × (s.uid ≡ u) × (bytes ≡ state_bytes s)

-- `ARJI` and the incarnation
abbrev pub incarnation_bytes : ℕ → List ℕ
incarnation_bytes n = codes "ARJI" ++ big_bytes 4 n

-- an incarnation file, of a number of four bytes
abbrev pub IsIncarnation : List ℕ → Type 0
IsIncarnation bytes = (n : ℕ) × (n < 4294967296) × (bytes ≡ incarnation_bytes n)

-- `ARJN`, the root, the top, a count of one byte, and the nodes, increasing
abbrev pub intent_bytes : Uid → Uid → List ℕ → List ℕ
intent_bytes root top nodes = codes "ARJN" ++ (uid_bytes root ++ (uid_bytes top ++ (length nodes ∷ nodes)))

-- a record of this top, in form
abbrev pub IsIntentOf : Uid → List ℕ → Type 0
IsIntentOf top bytes =
    (root : Uid) × (nodes : List ℕ) × UidFits root × UidFits top × (length nodes < 256) × AllByRecursion (λ n. n < 256) nodes × IsStrictlySortedBy nat_cmp nodes × (bytes ≡ intent_bytes root top nodes)

-- at most n Uids are such
abbrev pub AtMost : ℕ → (Uid → Type 0) → Type 0
AtMost n P = (us : List Uid) → IsDistinct uid_eq us → ((u : Uid) → Contains us u → P u) → length us ≤ n
