use Rattle.std.proofs.Common.{◌≡◌, ◌++◌, take}
use Rattle.std.specs.Prelude.{flat_map}
use Rattle.std.specs.List.{AllByRecursion}
use Rattle.arj_segment_file.specs.Format.{FitsRow, row_bytes}
use Rattle.arj_segment_file.proofs.written.put_rows.Given as goal

-- the rows so far are put
abbrev pub invariant-loop-state : goal.invariant-loop-state
invariant-loop-state l =
    record { bytes : l.bytes ≡ l.initial.bytes ++ flat_map row_bytes (take l.state-index l.states); fit : AllByRecursion FitsRow (take l.state-index l.states) }
