-- What is told so far.
use Rattle.std.proofs.Common.{◌≡◌, ◌++◌, take}
use Rattle.std.specs.List.{flat_map}
use Rattle.arj_view_data.specs.Texts.{doubt_text}
use Rattle.arj_view_data.proofs.records.put_each_doubt.Given as goal

abbrev pub invariant-loop-doubt : goal.invariant-loop-doubt
invariant-loop-doubt l = l.out ≡ l.fn.out ++ flat_map doubt_text (take l.doubt-index l.doubts)
