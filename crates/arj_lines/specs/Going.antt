-- What holds while lines are read.
use Rattle.std.specs.Prelude.{◌≡◌, ◌<◌, ◌≤◌, ◌+◌, ◌-◌, ◌*◌, ⊤, ℕ, List, length}
use Rattle.arj_lines.specs.declared.ending.Ending.{Ending}
use Rattle.arj_lines.specs.declared.ending.Ending.TheVariants as ending
use Rattle.arj_lines.specs.declared.taker.Taker.{Ghosts}
use Rattle.arj_script.specs.Cutting.{InHand}
use Rattle.arj_script.specs.Input.{ended_lines, rest_line}

-- one more than the most that 32 bits count
abbrev pub word_bound : ℕ
word_bound = 4294967296

-- The lines that ended in these bytes were taken, and what stands behind them is the line in hand.
pub record IsGoing {T F : Type 0} (t : Ghosts T F) (used : List ℕ) (cutter : InHand) (taker : T) : Type 0 where
  pub stands : t.stands (ended_lines used) taker
  pub in_hand : cutter.line ≡ rest_line used
  pub room : cutter.most ≡ t.most taker
  pub short : length cutter.line ≤ cutter.most
  pub small : cutter.most < word_bound

-- Some bytes were read so.
abbrev pub Goes : {T F : Type 0} → Ghosts T F → InHand → T → Type 0
Goes t cutter taker = (used : List ℕ) × IsGoing t used cutter taker

-- why no further line is taken, where the line in hand ends
abbrev pub StopsAt : {T F : Type 0} → Ghosts T F → List (List ℕ) → List ℕ → Ending F → T → Type 0
StopsAt t done line (ending.Stopped why) taker = t.stops done line why taker
StopsAt t done line ending.Memory taker = ⊤
StopsAt t done line _ taker = ⊥

-- more than the bytes that can yet come: for each line that may be taken one more than the longest that a cutter can hold
abbrev pub budget : {T F : Type 0} → Ghosts T F → InHand → T → ℕ
budget t cutter taker = t.room taker * word_bound + (word_bound - length cutter.line)
