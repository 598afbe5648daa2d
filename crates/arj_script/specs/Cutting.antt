-- What a cutter takes of a piece, and what a stream's feeds give.
use Rattle.std.specs.Prelude.{◌≡◌, ◌<◌, ◌≤◌, ℕ, ◌+◌, List, [], ◌∷◌, ◌++◌, length, take, Bool, true, false}
use Rattle.arj_script.specs.declared.cutter.Fed.{Fed}
use Rattle.arj_script.specs.declared.cutter.Full.{Full}
use Rattle.arj_script.specs.declared.cutter.Full.TheVariants as full
use Rattle.arj_script.specs.Input.{ended_from, rest_from}

-- What a cutter has: the most bytes of a line, and the line in hand, without its end.
pub record InHand : Type 0 where
  pub most : ℕ
  pub line : List ℕ

-- what a cutter has, of these
abbrev pub in_hand : ℕ → List ℕ → InHand
in_hand most line = record { most = most; line = line }

-- what taking these bytes makes of the line in hand, which has so many at most, by what ended the feed: the line goes on; it is
-- whole; or it has one byte too many, which the cutter doesn't keep
abbrev pub Takes : ℕ → List ℕ → List ℕ → Full → List ℕ → Type 0
Takes most line bytes full.No after = (ended_from line bytes ≡ []) × (rest_from line bytes ≡ after) × (length after ≤ most)
Takes most line bytes full.Line after = (ended_from line bytes ≡ after ∷ []) × (rest_from line bytes ≡ []) × (length after ≤ most)
Takes most line bytes full.Long after =
    (ended_from line bytes ≡ []) × (take most (rest_from line bytes) ≡ after) × (length (rest_from line bytes) ≡ most + 1)

-- All of the piece is taken, or what is taken of it ends the feed.
abbrev pub IsTaken : Full → ℕ → ℕ → Type 0
IsTaken full.No used whole = used ≡ whole
IsTaken _ used whole = 0 < used

-- A feed, from the line in hand before it to the line in hand behind it.
pub record Feeds (most : ℕ) (line piece : List ℕ) (fed : Fed) (after : List ℕ) : Type 0 where
  pub taken : IsTaken fed.full fed.used (length piece)
  pub takes : Takes most line (take fed.used piece) fed.full after

-- One feed of a stream: the bytes that it took, and what ended it.
pub record Took : Type 0 where
  pub bytes : List ℕ
  pub full : Full

-- all bytes that these feeds took
abbrev pub bytes_of : List Took → List ℕ
bytes_of [] = []
bytes_of (t ∷ ts) = t.bytes ++ bytes_of ts

-- What the feeds of a stream give: the lines that ended, the line in hand behind them, and whether it is too long.
pub record Cut : Type 0 where
  pub lines : List (List ℕ)
  pub rest : List ℕ
  pub long : Bool

-- how the feeds go on behind one: with the line in hand; with none, since it was cleared; or not at all
abbrev pub GoesOn : Full → List ℕ → List Took → (List ℕ → Cut → Type 0) → Cut → Type 0
GoesOn full.No after ts on cut = on after cut
GoesOn full.Line after ts on cut =
    (more : Cut) × (cut ≡ record { lines = after ∷ more.lines; rest = more.rest; long = more.long }) × on [] more
GoesOn full.Long after ts on cut = (ts ≡ []) × (cut ≡ record { lines = []; rest = after; long = true })

-- Feeds one after another, from the line in hand, and what they give.
abbrev pub Along : ℕ → List ℕ → List Took → Cut → Type 0
Along most line [] cut = cut ≡ record { lines = []; rest = line; long = false }
Along most line (t ∷ ts) cut =
    (after : List ℕ) × Takes most line t.bytes t.full after × GoesOn t.full after ts (λ l c. Along most l ts c) cut
