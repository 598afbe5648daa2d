-- The counts of a disk over a row of calls that were done.
use Rattle.std.proofs.Common.{◌≡◌, ◌∙◌}
use Rattle.std.specs.Prelude.{Ok}
use Rattle.arj_disk.specs.Disk.{Counts, CountsCall}

-- the counts are as before
pub record SameCounts (old new : Counts) : Type 0 where
  pub stops : new.stops ≡ old.stops
  pub arms : new.arms ≡ old.arms
  pub last_arm : new.last_arm ≡ old.last_arm

-- one more call that was done
pub counts_on : {T E : Type 0} {old mid new : Counts} {x : T} {stopped : E} → CountsCall mid new (Ok x) stopped → SameCounts old mid →
    SameCounts old new
counts_on call same = record { stops = call.stops.ok ∙ same.stops; arms = call.arms ∙ same.arms; last_arm = call.last_arm ∙ same.last_arm }
