-- What is told so far.
use Rattle.std.proofs.Common.{◌≡◌, ◌++◌, take}
use Rattle.std.specs.List.{flat_map}
use Rattle.arj_view_html.specs.Page.{script_line}
use Rattle.arj_view_html.proofs.writing.put_script.Given as goal

abbrev pub invariant-loop-line : goal.invariant-loop-line
invariant-loop-line l = l.out ≡ l.fn.out ++ flat_map script_line (take l.line-index l.script)
