-- What is told so far.
use Rattle.std.proofs.Common.{◌≡◌, ◌++◌, take}
use Rattle.std.specs.List.{flat_map}
use Rattle.arj_view_data.specs.Texts.{step_text}
use Rattle.arj_view_data.proofs.records.put_path.Given as goal

abbrev pub invariant-loop-uid : goal.invariant-loop-uid
invariant-loop-uid l = l.out ≡ l.fn.out ++ flat_map step_text (take l.uid-index l.path)
