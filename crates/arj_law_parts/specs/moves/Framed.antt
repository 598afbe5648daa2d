-- Messages between nodes go in frames, and each frame has its line.
use Rattle.std.specs.Prelude.{◌≡◌, ◌⊎◌, ℕ, List, ◌∷◌, ◌++◌}
use Rattle.arj_promise.specs.Runs.{Post, Run, world_by}
use Rattle.arj_protocol.specs.Words.{Header, Line}
use Rattle.arj_protocol.specs.Words.body
use Rattle.arj_protocol.specs.Ask.{frame_kind}
use Rattle.arj_law_parts.specs.moves.Moments.{Moment}
use Rattle.arj_law_parts.specs.moves.Seen.{In}
use Rattle.arj_law_parts.specs.moves.With.{HoldsWith, past_of}

-- a line says that a frame with the message was sent from its node to that for which it is, by its kind
pub record HasLine (p : Post) (lines : List Line) : Type 0 where
  pub before : List Line
  pub line : Line
  pub after : List Line
  pub number : ℕ
  pub are : lines ≡ before ++ line ∷ after
  pub says : line.body ≡ body.Sent number p.from p.to (frame_kind p.message)

-- so it is of each message that was sent, but those of a node to itself
abbrev pub AreFramed : Moment → Type 0
AreFramed M = (p : Post) → In p (let s = M.seen in s.sent) → (p.from ≡ p.to) ⊎ HasLine p (let s = M.seen in s.lines)

-- so it is in every run: what is seen beside the world has no message that didn't fit
abbrev pub RunsFrameMessages : Type 0
RunsFrameMessages = (hd : Header) (r : Run hd) → HoldsWith hd AreFramed (past_of hd r) (world_by hd r)
