-- What is told so far, and what is to be told of the lines that are left.
use Rattle.std.proofs.Common.{◌≡◌, ◌++◌, take, drop}
use Rattle.arj_view_data.specs.Behind.{StandsBehind}
use Rattle.arj_view_data.specs.Texts.{lines_behind, run_text}
use Rattle.arj_view_data.proofs.run.put_run.Given as goal

abbrev pub invariant-loop-line : goal.invariant-loop-line
invariant-loop-line l = record {
  told : l.out ++ lines_behind l.header (take l.line-index l.lines) (drop l.line-index l.lines) ≡ l.fn.out ++ run_text l.header l.lines;
  standing : StandsBehind (take l.line-index l.lines) l.standing;
}
