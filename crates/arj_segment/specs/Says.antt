-- What the files of a role say: the committed states, and what is prepared.
use Rattle.std.specs.Prelude.{ℕ, List, Option, option_map}
use Rattle.arj_base.specs.declared.uid.Uid.{Uid}
use Rattle.arj_disk.specs.declared.slot.Role.{Role}
use Rattle.arj_disk.specs.declared.slot.Slot.TheVariants.{Pending, Segment}
use Rattle.arj_disk.specs.FileMap.{FileMap}
use Rattle.arj_store.specs.Pair.{Pair}
pub use Rattle.arj_segment_file.specs.Format.{state_in}
use Rattle.arj_segment_file.specs.Format.{states_in}
use Rattle.arj_segment_file.specs.Newest.{newest}

-- segments have numbers below this one
abbrev pub numbers : ℕ
numbers = 18446744073709551616

-- the segments of a role, by their numbers
abbrev pub segments : FileMap → Role → ℕ → Option (List ℕ)
segments file role k = file (Segment role k)

-- the state of an object in each segment
abbrev pub state_at : (ℕ → Option (List ℕ)) → Uid → ℕ → Option (List ℕ)
state_at segment u k = state_in u (segment k)

-- the state of an object in the segment with the greatest number that has one, with that number
abbrev pub placed : (ℕ → Option (List ℕ)) → Uid → Option (ℕ × List ℕ)
placed segment u = newest (state_at segment u) numbers

-- the number of that segment
abbrev pub place : (ℕ → Option (List ℕ)) → Uid → Option ℕ
place segment u = option_map (λ p. p.0) (placed segment u)

-- the committed state of an object: the one in the segment with the greatest number that has one
abbrev pub held : FileMap → Role → Uid → Option (List ℕ)
held file role u = option_map (λ p. p.1) (placed (segments file role) u)

-- the states that an action has prepared
abbrev pub pend : FileMap → Role → Uid → Option (List (Uid × List ℕ))
pend file role a = option_map states_in (file (Pending role a))

-- the pair that the files of a role give
abbrev pub pair_of : FileMap → Role → Pair
pair_of file role = record { held = held file role; pend = pend file role }
