-- What is told so far.
use Rattle.std.proofs.Common.{◌≡◌, ◌++◌, List, take}
use Rattle.std.specs.List.{flat_map}
use Rattle.arj_journal.specs.declared.body.Line.{Line}
use Rattle.arj_view_data.specs.Behind.{StandsBehind}
use Rattle.arj_view_data.specs.Texts.{entry_text}
use Rattle.arj_view_data.proofs.entries.put_entries.Given as goal

abbrev pub invariant-loop-object : goal.invariant-loop-object
invariant-loop-object l =
    (lines : List Line) → StandsBehind lines l.standing →
    l.out ≡ l.fn.out ++ flat_map (entry_text l.header lines) (take l.object-index l.objects)
