-- What was put, and what is still to put.
use Rattle.std.specs.Prelude.{◌≡◌, ◌++◌, drop, map}
use Rattle.std.specs.List.{flat_map}
use Rattle.arj_image.specs.Grammar.{Says}
use Rattle.arj_image.specs.Written.{form_text}
use Rattle.arj_image.proofs.text.put_journal.Given as goal

abbrev pub invariant-loop-line : goal.invariant-loop-line
invariant-loop-line l =
    l.out ++ flat_map form_text (map Says (drop l.line-index l.lines)) ≡ l.fn.out ++ flat_map form_text (map Says l.lines)
