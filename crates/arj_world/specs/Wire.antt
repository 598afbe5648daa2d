-- Frames and lines as they come of what a node puts out.
use Rattle.std.specs.Prelude.{ℕ, ◌+◌, ◌≤◌, Bool, ◌||◌, List, [], ◌∷◌, ◌++◌, length, map, Option, Some, None}
use Rattle.arj_core.specs.Steps.{Seen, Said, Sent, message_of}
use Rattle.arj_net.specs.declared.net.Sent as net
use Rattle.arj_protocol.specs.Words.{Body, Line}
use Rattle.arj_protocol.specs.Words.body
use Rattle.arj_protocol.specs.World.{Frame, new_frame, sent_line, frames_with, numbered, overflows}
use Rattle.arj_world.specs.declared.wire.Wire.{Wire}
use Rattle.arj_start.specs.Limits.{most_frames}

-- a frame of the net, with the message that its bytes are
abbrev pub frame_of : net.Sent → Frame
frame_of s = record { from = s.frame.from; to = s.frame.to; message = message_of s.frame.bytes; delivered = s.delivered; lost = s.lost }

-- what is seen of a node becomes frames
abbrev pub seen_frames : ℕ → List Seen → List Frame
seen_frames n [] = []
seen_frames n (Said b ∷ es) = seen_frames n es
seen_frames n (Sent to k m ∷ es) = new_frame n to m ∷ seen_frames n es

-- and what lines say, where so many frames are there already
abbrev pub seen_bodies : ℕ → ℕ → List Seen → List Body
seen_bodies n k [] = []
seen_bodies n k (Said b ∷ es) = b ∷ seen_bodies n k es
seen_bodies n k (Sent to what m ∷ es) = sent_line (k + 1) n to what ++ seen_bodies n (k + 1) es

-- a frame that is there and is lost has a line
abbrev pub dropped_line : {A : Type 0} → ℕ → Option A → List Body
dropped_line k None = []
dropped_line k (Some f) = body.Dropped k ∷ []

-- the frames, the lines, and whether a frame didn't fit
pub record Put : Type 0 where
  pub frames : List Frame
  pub lines : List Line
  pub full : Bool

-- what a node put out in the event of this number is put behind them
abbrev pub put_seen : ℕ → ℕ → List Seen → Put → Put
put_seen n event es p = record {
  frames = frames_with p.frames (seen_frames n es);
  lines = p.lines ++ numbered event (seen_bodies n (length p.frames) es);
  full = p.full || overflows p.frames (seen_frames n es);
}

-- a wire with the journal
abbrev pub shown : Wire → List Line → Put
shown w journal = record { frames = map frame_of w.net; lines = journal; full = w.full }

-- no more frames than a run may have
abbrev pub AreFew : List net.Sent → Type 0
AreFew sent = length sent ≤ most_frames
