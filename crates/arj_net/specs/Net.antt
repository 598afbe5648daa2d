-- A net as the list of its frames in order of sending, with what became of each.
use Rattle.std.specs.Prelude.{ℕ, suc, zero, ◌≡◌, ◌<◌, List, map, Bool, true, false, not, ◌||◌, Option, None, slice_get, slice_set}
use Rattle.std.specs.Option.{option_map, option_map_or}
use Rattle.arj_net.specs.declared.net.Frame.{Frame}
use Rattle.arj_net.specs.declared.net.Sent.{Sent}

-- the frames, in order of sending
abbrev pub frames : List Sent → List Frame
frames net = map (λ s. s.frame) net

-- what was sent under a number, which counts from 1
abbrev pub sent_as : List Sent → ℕ → Option Sent
sent_as net zero = None
sent_as net (suc place) = slice_get net place

-- the frame of a number
abbrev pub frame_of : List Sent → ℕ → Option Frame
frame_of net k = option_map (λ s. s.frame) (sent_as net k)

-- neither delivered nor lost
abbrev pub is_pending : Sent → Bool
is_pending s = not (s.delivered || s.lost)

-- a frame of this number is there, and it was neither delivered nor lost
abbrev pub is_open : List Sent → ℕ → Bool
is_open net k = option_map_or is_pending (sent_as net k) false

-- what was sent just now
abbrev pub new_frame : Frame → Sent
new_frame frame = record { frame = frame; delivered = false; lost = false }

-- what was sent, once it was delivered and once it is lost
abbrev pub as_delivered : Sent → Sent
as_delivered s = record { frame = s.frame; delivered = true; lost = s.lost }

-- a frame that is lost
abbrev pub as_lost : Sent → Sent
as_lost s = record { frame = s.frame; delivered = s.delivered; lost = true }

-- the net with a change of what was sent under a number; a number that no frame has changes nothing
abbrev pub changed_at : (Sent → Sent) → List Sent → ℕ → List Sent
changed_at change net zero = net
changed_at change net (suc place) = option_map_or (λ s. slice_set net place (change s)) (slice_get net place) net

-- the least number of an open frame
pub record IsLowest (net : List Sent) (k : ℕ) : Type 0 where
  pub here : is_open net k ≡ true
  pub below : (j : ℕ) → j < k → is_open net j ≡ false
