use Rattle.std.proofs.Common.{◌≡◌, drop, map}
use Rattle.std.specs.Prelude.{is_some}
use Rattle.std.specs.List.{list_any}
use Rattle.arj_saved.specs.Saved.{rows_of, state_in_rows}
use Rattle.arj_saved.proofs.found.do_name.Given as goal

abbrev pub invariant-loop-one : goal.invariant-loop-one
invariant-loop-one l = list_any (λ r. is_some (state_in_rows l.node l.role l.uid r)) (map rows_of (drop l.one-index l.files))
    ≡ list_any (λ r. is_some (state_in_rows l.node l.role l.uid r)) (map rows_of l.files)
