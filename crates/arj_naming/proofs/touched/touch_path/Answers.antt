use Rattle.std.proofs.Common.{◌≡◌, ◌∙◌, true, ap, subst}
use Rattle.std.proofs.lemmas.Result.{on_ok_weaker}
use Rattle.arj_base.specs.Rows.{is_on, last_uid}
use Rattle.arj_base.specs.declared.uid.Uid.{Uid}
use Rattle.arj_naming.proofs.Indexed.{off_or_touched}
use Rattle.arj_naming.specs.Touched.{is_touched}
use Rattle.arj_protocol.specs.Ask.{top_of}
use Rattle.arj_naming.proofs.touched.touch_path.Goals as goal

pub returns-clause-here : goal.returns-clause-here
returns-clause-here c =
    let acts = c.touch_all.new.touched.entries in
    let path = c.as_slice.ensures ∙ c.top_path-top.ensures.uids in
    on_ok_weaker c.touch_all.result
    (λ (here : (u : Uid) → is_on c.as_slice.result.now u ≡ true →
    is_touched acts u c.args.x ≡ true). λ u. off_or_touched u c.args.path.now acts c.args.x
    (c.touch_all.ensures.kept (top_of c.args.path.now) c.args.x (subst (λ w. is_touched c.touch.new.touched.entries w c.args.x ≡ true) (c.last.ensures ∙ ap last_uid c.top_path-top.ensures.uids) c.in_ok-touch.ensures.here))
    (λ w on. here w (ap (λ us. is_on us w) path ∙ on))) c.touch_all.ensures.here

pub returns-clause-kept : goal.returns-clause-kept
returns-clause-kept c = λ u x is. c.touch_all.ensures.kept u x (c.touch.ensures.kept u x is)
