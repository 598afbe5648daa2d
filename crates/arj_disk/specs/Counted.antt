-- The counts of any disk.
use Rattle.arj_disk.specs.Disk.{Counts, counted}
use Rattle.arj_disk.specs.declared.disk.Disk.{Ghosts}

-- the stops, the arms and the last arm of a disk, by what its trait says of it
abbrev pub counts : {D : Type 0} → Ghosts D → D → Counts
counts disk d = counted disk.stops disk.arms disk.last_arm d
