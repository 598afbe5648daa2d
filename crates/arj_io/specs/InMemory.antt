-- Sources and sinks in memory, as contracts see them.
use Rattle.std.specs.Prelude.{ℕ, ◌+◌, min, Bool, ◌==◌, nat_le, nat_lt, if◌then◌else◌, ◌++◌, List, length, Option, Some, None}
use Rattle.std.specs.List.{list_any}

-- the call with this number is one of those that fail
abbrev pub is_planned : List ℕ → ℕ → Bool
is_planned failing number = list_any (λ n. n == number) failing

-- a count in 64 bits, one higher, or the same at its last value
abbrev pub counted : ℕ → ℕ
counted n = if nat_lt n 18446744073709551615 then n + 1 else n

-- a source in memory: the bytes left, the most that a read gives, the numbers of the reads that fail, how many
-- reads were made, and how many of them failed
pub record PlannedSource : Type 0 where
  pub left : List ℕ
  pub chunk : ℕ
  pub failing : List ℕ
  pub calls : ℕ
  pub faults : ℕ

-- how many bytes a read of such a source gives into a buffer of this length
abbrev pub given_count : PlannedSource → ℕ → ℕ
given_count source length_of_buffer = min source.chunk (min length_of_buffer (length source.left))

-- a sink in memory: its room, and the bytes taken, where they are told
pub record Filled : Type 0 where
  pub room : ℕ
  pub taken : Option (List ℕ)

-- such a sink, with the numbers of the writes that fail, how many writes were made, and how many of them failed
pub record PlannedSink : Type 0 where
  pub room : ℕ
  pub taken : Option (List ℕ)
  pub failing : List ℕ
  pub calls : ℕ
  pub faults : ℕ

-- the bytes taken with a piece behind them, told while they fit the room
abbrev pub taken_with : ℕ → Option (List ℕ) → List ℕ → Option (List ℕ)
taken_with room None piece = None
taken_with room (Some before) piece = if nat_le (length (before ++ piece)) room then Some (before ++ piece) else None
