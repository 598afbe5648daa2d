use Rattle.arj_naming.proofs.touched.tidy_path.Goals as goal

pub loop-action-preserved : goal.loop-action-preserved
loop-action-preserved c = λ u are. c.tidy_at.ensures u (c.loop-action.invariant u are)
