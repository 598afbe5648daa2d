-- The items so far, each with the comma behind it, and the text that is left.
use Rattle.std.proofs.Common.{◌≡◌, ◌++◌, ◌<◌, length}
use Rattle.std.specs.List.{AllByRecursion}
use Rattle.arj_text.proofs.Items.{with_commas}
use Rattle.arj_text.proofs.field_list.items.Given as goal

abbrev pub invariant-loop-word : goal.invariant-loop-word
invariant-loop-word g l = record {
  front : l.bytes ≡ with_commas g.T.Item.text l.found ++ l.rest;
  fits : AllByRecursion g.T.Item.in_form l.found;
  few : length l.found < l.most;
}

abbrev pub decreases-loop-word : goal.decreases-loop-word
decreases-loop-word g l = length l.rest
