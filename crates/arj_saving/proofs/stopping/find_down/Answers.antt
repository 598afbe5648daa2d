-- no node is up
use Rattle.std.proofs.Common.{◌≡◌, ◌∙◌, arith, length, sym}
use Rattle.std.proofs.lemmas.Bool.Decides.{nat_tests}
use Rattle.arj_saving.proofs.Lengths.{no_items}
use Rattle.arj_saving.proofs.stopping.find_down.Goals as goal

pub returns-then-is_empty : goal.returns-then-is_empty
returns-then-is_empty c =
    let none : length c.as_slice.result.now ≡ 0 = grind (arith, nat_tests) in
    sym c.in_ok-ups.ensures ∙ sym c.as_slice.ensures ∙ no_items c.as_slice.result.now none
