use Rattle.std.proofs.Common.{◌≡◌, ◌-◌, ◌++◌}
use Rattle.std.specs.List.{AllByRecursion}
use Rattle.arj_base.specs.State.{StateInForm}
use Rattle.arj_disk.specs.Formed.{IsStateOf}
use Rattle.arj_store.specs.Pair.{packed}
use Rattle.arj_segment_file.specs.Format.{rows_in, states_in}
use Rattle.arj_segment_file.proofs.rows.states_of.Given as goal

-- the states so far and the rows that are left are those of the file
abbrev pub invariant-loop-row : goal.invariant-loop-row
invariant-loop-row l = record {
  rows : packed l.states ++ rows_in (l.count - l.row) l.rest ≡ states_in l.bytes;
  left : AllByRecursion (λ e. IsStateOf e.0 e.1) (rows_in (l.count - l.row) l.rest);
  in_form : AllByRecursion StateInForm l.states;
}
