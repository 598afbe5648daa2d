-- Frames of a net as the protocol's: by number, marked, and the lowest that is still to be delivered.
use Rattle.std.proofs.Common.{◌≡◌, ℕ, zero, suc, ◌+◌, ◌<◌, Bool, true, false, List, [], ◌∷◌, length, map, refl, ap, sym, ◌∙◌, Option, Some}
use Rattle.std.proofs.Common.{None, MatchOption, arith}
use Rattle.std.specs.Prelude.{if◌then◌else◌, slice_get, slice_set}
use Rattle.std.specs.Option.{option_map, option_map_or}
use Rattle.arj_net.specs.declared.net.Frame as net_frame
use Rattle.arj_net.specs.declared.net.Sent as net
use Rattle.arj_net.specs.Net as nets
use Rattle.arj_protocol.specs.Tree.{at_place, set_place}
use Rattle.arj_protocol.specs.World.{Frame, lowest_from}
use Rattle.arj_world.specs.Wire.{frame_of}

placed : (k : ℕ) (sent : List net.Sent) → slice_get (map frame_of sent) k ≡ option_map frame_of (slice_get sent k)
placed k [] = refl
placed zero (s ∷ ss) = refl
placed (suc k) (s ∷ ss) = placed k ss

-- the frame of a number
pub frame_at : (k : ℕ) (sent : List net.Sent) → at_place k (map frame_of sent) ≡ option_map frame_of (nets.sent_as sent k)
frame_at zero sent = refl
frame_at (suc k) sent = placed k sent

-- what was sent under the number of a frame that is there
pub sent_there : (o : Option net.Sent) (f : net_frame.Frame) → option_map (λ (s : net.Sent). s.frame) o ≡ Some f →
    (s : net.Sent) × (o ≡ Some s) × (s.frame ≡ f)
sent_there None f is = absurd (cc is)
sent_there (Some s) f is = (s, refl, cc is)

pub none_there : (o : Option net.Sent) → option_map (λ (s : net.Sent). s.frame) o ≡ None → o ≡ None
none_there None is = refl
none_there (Some s) is = absurd (cc is)

-- a number that no frame has marks nothing
pub nothing_marked : (mark : net.Sent → net.Sent) (k : ℕ) (sent : List net.Sent) → nets.sent_as sent k ≡ None →
    nets.changed_at mark sent k ≡ sent
nothing_marked mark zero sent none = refl
nothing_marked mark (suc k) sent none = ap (λ (o : Option net.Sent). option_map_or (λ s. slice_set sent k (mark s)) o sent) none

map_set : (sent : List net.Sent) (k : ℕ) (s : net.Sent) → map frame_of (slice_set sent k s) ≡ slice_set (map frame_of sent) k (frame_of s)
map_set [] k s = refl
map_set (t ∷ ts) zero s = refl
map_set (t ∷ ts) (suc k) s = ap (λ fs. frame_of t ∷ fs) (map_set ts k s)

-- a mark of a frame that is there
pub marked : (mark : net.Sent → net.Sent) (change : Frame → Frame) (k : ℕ) (sent : List net.Sent) (s : net.Sent) →
    nets.sent_as sent k ≡ Some s → change (frame_of s) ≡ frame_of (mark s)
    → map frame_of (nets.changed_at mark sent k) ≡ set_place k (change (frame_of s)) (map frame_of sent)
marked mark change zero sent s at same = absurd (cc at)
marked mark change (suc k) sent s at same =
    ap (λ (o : Option net.Sent). map frame_of (option_map_or (λ t. slice_set sent k (mark t)) o sent)) at ∙ map_set sent k (mark s) ∙ ap (slice_set (map frame_of sent) k) (sym same)

-- no frame comes or goes
pub marked_count : (mark : net.Sent → net.Sent) (k : ℕ) (sent : List net.Sent) → length (nets.changed_at mark sent k) ≡ length sent
marked_count mark zero sent = refl
marked_count mark (suc k) sent = by (slice_get sent k)
  where
    set : (xs : List net.Sent) (i : ℕ) (s : net.Sent) → length (slice_set xs i s) ≡ length xs
    set [] i s = refl
    set (x ∷ xs) zero s = refl
    set (x ∷ xs) (suc i) s = ap suc (set xs i s)

    by : (o : Option net.Sent) → length (option_map_or (λ t. slice_set sent k (mark t)) o sent) ≡ length sent
    by None = refl
    by (Some s) = set sent k (mark s)

-- ---- the lowest frame

abbrev Waits : List net.Sent → ℕ → Bool
Waits sent k = option_map_or nets.is_pending (slice_get sent k) false

none_from : (from : ℕ) (sent : List net.Sent) → ((k : ℕ) → Waits sent k ≡ false) → lowest_from from (map frame_of sent) ≡ None
none_from from [] all = refl
none_from from (s ∷ ss) all = by (nets.is_pending s) (all 0) (none_from (from + 1) ss (λ k. all (suc k)))
  where
    by : (b : Bool) → b ≡ false → lowest_from (from + 1) (map frame_of ss) ≡ None →
        (if b then Some from else lowest_from (from + 1) (map frame_of ss)) ≡ None
    by true h later = absurd (cc h)
    by false h later = later

one_from : (from k : ℕ) (sent : List net.Sent) → Waits sent k ≡ true → ((j : ℕ) → j < k → Waits sent j ≡ false) →
    lowest_from from (map frame_of sent) ≡ Some (from + k)
one_from from k [] here below = absurd (cc here)
one_from from zero (s ∷ ss) here below = by (nets.is_pending s) here
  where
    by : (b : Bool) → b ≡ true → (if b then Some from else lowest_from (from + 1) (map frame_of ss)) ≡ Some (from + 0)
    by true h = ap Some (omega arith)
    by false h = absurd (cc h)
one_from from (suc k) (s ∷ ss) here below =
    by (nets.is_pending s) (below 0 (omega arith)) (one_from (from + 1) k ss here (λ j less. below (suc j) (omega (arith, less))))
  where
    by : (b : Bool) → b ≡ false → lowest_from (from + 1) (map frame_of ss) ≡ Some (from + 1 + k) →
        (if b then Some from else lowest_from (from + 1) (map frame_of ss)) ≡ Some (from + suc k)
    by true h later = absurd (cc h)
    by false h later = later ∙ ap Some (omega arith)

-- no frame waits
pub none_lowest : (sent : List net.Sent) → ((k : ℕ) → nets.is_open sent k ≡ false) → lowest_from 1 (map frame_of sent) ≡ None
none_lowest sent all = none_from 1 sent (λ k. all (suc k))

-- the lowest that waits
pub one_lowest : (sent : List net.Sent) (k : ℕ) → nets.IsLowest sent k → lowest_from 1 (map frame_of sent) ≡ Some k
one_lowest sent zero is = absurd (cc is.here)
one_lowest sent (suc k) is = one_from 1 k sent is.here (λ j less. is.below (suc j) (omega (arith, less))) ∙ ap Some (omega arith)

-- the lowest that is found
pub lowest_found : (o : Option ℕ) (sent : List net.Sent) → MatchOption o ((k : ℕ) → nets.is_open sent k ≡ false) (nets.IsLowest sent) →
    o ≡ lowest_from 1 (map frame_of sent)
lowest_found None sent all = sym (none_lowest sent all)
lowest_found (Some k) sent is = sym (one_lowest sent k is)
