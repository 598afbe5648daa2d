-- What was put, and what is still to put.
use Rattle.std.specs.Prelude.{◌≡◌, ◌++◌, drop, map}
use Rattle.std.specs.List.{flat_map}
use Rattle.arj_image.specs.Grammar.{Has}
use Rattle.arj_image.specs.Written.{form_text}
use Rattle.arj_image.proofs.text.put_files.Given as goal

abbrev pub invariant-loop-file : goal.invariant-loop-file
invariant-loop-file l =
    l.out ++ flat_map form_text (map Has (drop l.file-index l.files)) ≡ l.fn.out ++ flat_map form_text (map Has l.files)
