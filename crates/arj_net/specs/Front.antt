-- The frames before the first open one.
use Rattle.std.specs.Prelude.{ℕ, ◌≡◌, ◌<◌, ◌≤◌, ◌+◌, List, length, true, false}
use Rattle.arj_net.specs.Net.{is_open}
use Rattle.arj_net.specs.declared.net.Sent.{Sent}
use Rattle.arj_net.specs.declared.net.TheConstants.{MOST_FRAMES}

-- the first n frames were delivered or lost
abbrev pub ClosedBelow : List Sent → ℕ → Type 0
ClosedBelow net n = (k : ℕ) → k ≤ n → is_open net k ≡ false

-- n frames stand before the first open one, or before the end
pub record IsFront (net : List Sent) (n : ℕ) : Type 0 where
  pub within : n ≤ length net
  pub closed : ClosedBelow net n
  pub next : n < length net → is_open net (n + 1) ≡ true

-- a net has no more frames than it may, and so many of them stand before the first open one
pub record KeepsFront (net : List Sent) (n : ℕ) : Type 0 where
  pub few : length net ≤ MOST_FRAMES
  pub front : IsFront net n
