-- Whether none stands twice is asked of those that are left.
use Rattle.std.proofs.Common.{◌≡◌, drop}
use Rattle.arj_text.specs.Fields.{is_distinct}
use Rattle.arj_text.proofs.field_list.are_distinct.Given as goal

abbrev pub invariant-loop-at : goal.invariant-loop-at
invariant-loop-at l = is_distinct (drop l.at l.nodes) ≡ is_distinct l.nodes
