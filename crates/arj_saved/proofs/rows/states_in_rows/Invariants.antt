use Rattle.std.proofs.Common.{◌≡◌, ◌-◌, ◌++◌, []}
use Rattle.std.specs.List.{AllByRecursion}
use Rattle.arj_base.specs.State.{StateInForm}
use Rattle.arj_saved.specs.Rows.{are_rows}
use Rattle.arj_segment_file.specs.Format.{rows_in}
use Rattle.arj_store.specs.Pair.{packed}
use Rattle.arj_saved.proofs.rows.states_in_rows.Given as goal

-- the states so far and the rows that are left are those of the file
abbrev pub invariant-loop-row : goal.invariant-loop-row
invariant-loop-row l = record {
  rows : packed l.states ++ rows_in (l.count - l.row) l.rest ≡ rows_in l.count l.rows;
  test : are_rows (l.count - l.row) l.rest (packed l.states) ≡ are_rows l.count l.rows [];
  in_form : AllByRecursion StateInForm l.states;
}
