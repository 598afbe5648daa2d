-- What is told so far.
use Rattle.std.proofs.Common.{◌≡◌, ◌++◌, take}
use Rattle.std.specs.List.{flat_map}
use Rattle.arj_standing.specs.Held.{rows_of}
use Rattle.arj_view_data.specs.Texts.{row_text}
use Rattle.arj_view_data.proofs.records.put_rows.Given as goal

abbrev pub invariant-loop-lock : goal.invariant-loop-lock
invariant-loop-lock l = l.out ≡ l.fn.out ++ flat_map row_text (rows_of (take l.lock-index l.locks))
