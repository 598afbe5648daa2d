-- What was put, and what is still to put.
use Rattle.std.specs.Prelude.{◌≡◌, ◌++◌, drop, map}
use Rattle.std.specs.List.{flat_map}
use Rattle.arj_image.specs.Grammar.{Object}
use Rattle.arj_image.specs.Written.{form_text}
use Rattle.arj_image.proofs.text.put_objects.Given as goal

abbrev pub invariant-loop-object : goal.invariant-loop-object
invariant-loop-object l =
    l.out ++ flat_map form_text (map Object (drop l.object-index l.objects)) ≡ l.fn.out ++ flat_map form_text (map Object l.objects)
