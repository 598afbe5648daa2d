use Rattle.std.proofs.Common.{◌≡◌, drop}
use Rattle.std.specs.List.{list_all}
use Rattle.arj_past.specs.Rows.{row_fits}
use Rattle.arj_past.proofs.header.do_fit.Given as goal

abbrev pub invariant-loop-one : goal.invariant-loop-one
invariant-loop-one l = list_all (row_fits l.objects l.node l.role) (drop l.one-index l.segments) ≡ list_all (row_fits l.objects l.node l.role) l.segments
