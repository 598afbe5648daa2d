-- Pairs of a table: they stand by key, and each key once.
use Rattle.std.specs.Prelude.{◌≡◌, ℕ, ◌<◌, ◌≤◌, List, [], ◌∷◌, ◌++◌, length, slice_index_or, ⊤}
use Rattle.byteorder.specs.Endian.{big_bytes}

-- each key is above this one
abbrev pub KeysAbove : ℕ → List (ℕ × ℕ) → Type 0
KeysAbove k [] = ⊤
KeysAbove k (p ∷ ps) = (k < p.0) × KeysAbove k ps

-- each key is below this one
abbrev pub KeysBelow : ℕ → List (ℕ × ℕ) → Type 0
KeysBelow k [] = ⊤
KeysBelow k (p ∷ ps) = (p.0 < k) × KeysBelow k ps

-- each key is above those before it
abbrev pub KeysRise : List (ℕ × ℕ) → Type 0
KeysRise [] = ⊤
KeysRise (p ∷ ps) = KeysAbove p.0 ps × KeysRise ps

-- the key of the pair at place i
abbrev pub key_at : List (ℕ × ℕ) → ℕ → ℕ
key_at ps i = let pair = slice_index_or ps i (0, 0) in pair.0

-- the pair at place i has the key, and the keys before it are smaller
pub record IsPlace (k : ℕ) (ps : List (ℕ × ℕ)) (i : ℕ) : Type 0 where
  pub within : i < length ps
  pub here : key_at ps i ≡ k
  pub before : (j : ℕ) → j < i → key_at ps j < k

-- the key belongs at place i: smaller keys before it, and greater keys from it on
pub record IsGap (k : ℕ) (ps : List (ℕ × ℕ)) (i : ℕ) : Type 0 where
  pub within : i ≤ length ps
  pub before : (j : ℕ) → j < i → key_at ps j < k
  pub after : (j : ℕ) → i ≤ j → j < length ps → k < key_at ps j

-- a pair in a payload: the key and the value, each in eight bytes
abbrev pub pair_bytes : ℕ × ℕ → List ℕ
pair_bytes p = big_bytes 8 p.0 ++ big_bytes 8 p.1
