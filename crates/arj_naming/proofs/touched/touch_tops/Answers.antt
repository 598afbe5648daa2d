use Rattle.std.proofs.Common.{◌≡◌, ◌∙◌, true, ap}
use Rattle.std.proofs.lemmas.Result.{on_ok_weaker}
use Rattle.arj_base.specs.Rows.{is_on}
use Rattle.arj_base.specs.declared.uid.Uid.{Uid}
use Rattle.arj_naming.specs.Touched.{is_touched}
use Rattle.arj_naming.proofs.touched.touch_tops.Goals as goal

pub returns-clause-here : goal.returns-clause-here
returns-clause-here c = on_ok_weaker c.touch_all.result
    (λ (here : (u : Uid) → is_on c.as_slice.result.now u ≡ true →
    is_touched c.touch_all.new.touched.entries u c.args.x ≡ true). λ u on. here u (ap (λ us. is_on us u) c.as_slice.ensures ∙ (c.in_ok-tops.ensures u ∙ on))) c.touch_all.ensures.here
