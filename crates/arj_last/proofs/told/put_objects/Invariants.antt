-- What is told so far.
use Rattle.std.proofs.Common.{◌≡◌, ◌++◌, true, take}
use Rattle.std.specs.List.{flat_map}
use Rattle.arj_journal.specs.declared.body.Body.{Body}
use Rattle.arj_model.specs.Actions.{acts}
use Rattle.arj_standing.specs.Begun.{links}
use Rattle.arj_last.specs.Behind.{StandsBehind}
use Rattle.arj_last.specs.Told.{is_readable, told_path, told_text}
use Rattle.arj_last.proofs.told.put_objects.Given as goal

abbrev pub invariant-loop-object : goal.invariant-loop-object
invariant-loop-object l = (body : Body) → StandsBehind l.lines l.standing → is_readable l.header l.lines ≡ true →
    l.path ≡ links (told_path (acts l.lines) body)
    → l.out ≡ l.fn.out ++ flat_map (told_text l.header l.lines body) (take l.object-index l.header.objects)
