use Rattle.std.proofs.Common.{◌≡◌, drop}
use Rattle.std.specs.List.{list_all}
use Rattle.arj_rest.specs.Nodes.{line_fits}
use Rattle.arj_rest.proofs.nodes.do_lines_fit.Given as goal

abbrev pub invariant-loop-line : goal.invariant-loop-line
invariant-loop-line l = list_all (line_fits l.image) (drop l.line-index l.lines) ≡ list_all (line_fits l.image) l.lines
