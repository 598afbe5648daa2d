use Rattle.std.proofs.Common.{◌∙◌, ap, length, sym, subst}
use Rattle.arj_view_data.specs.Behind.{AreTables}
use Rattle.arj_view_data.proofs.standing.Standing.table_of.Goals as goal

pub returns : goal.returns
returns c = λ lines h. c.table_in.ensures lines (subst (AreTables lines) (sym c.as_slice.ensures.value) h.tables) (ap length c.as_slice.ensures.value ∙ h.nodes)
