-- Locks, seen as rows.
use Rattle.std.specs.Prelude.{ℕ, List, map}
use Rattle.arj_base.specs.Path.{uids_of, tops_of}
use Rattle.arj_base.specs.Rows.{Row}
use Rattle.arj_lock.specs.declared.lock.Lock.{Lock}

-- the row that a lock is: its object, its holder with the tops on the path, its mode
abbrev pub shown : Lock → Row
shown lock = record { object = lock.object; holder = uids_of lock.path; tops = tops_of lock.path; mode = lock.mode }

-- locks under their grants
abbrev pub rows_in : List (ℕ × Lock) → List Row
rows_in grants = map (λ e. shown e.1) grants
