use Rattle.std.proofs.Common.{◌∙◌, refl}
use Rattle.arj_naming.proofs.Apart.{apart_ended}
use Rattle.arj_naming.proofs.Quiet.{all_changed, touched_all}
use Rattle.arj_naming.specs.Touched.{changed_at, is_in_set, is_touched}
use Rattle.arj_protocol.specs.Named.{end_named}
use Rattle.arj_protocol.specs.Order.{at_number}
use Rattle.arj_naming.proofs.touched.end_under.Goals as goal

pub returns-in_default : goal.returns-in_default
returns-in_default c =
    let f = end_named c.args.action c.args.end in
    let m = c.args.objects.now.entries in
    let acts = c.args.touched.now.entries in
    all_changed f m m refl c.requires.sorted
    (λ q. (λ i. changed_at f (is_in_set q (c.in_default.ensures.value i)) (at_number q m)) ∙ touched_all f c.args.action (apart_ended c.args.action c.args.end) m (is_touched acts c.args.action) c.requires.touched q)

pub returns : goal.returns
returns c =
    let f = end_named c.args.action c.args.end in
    let m = c.args.objects.now.entries in
    let acts = c.args.touched.now.entries in
    all_changed f m c.change_each.new.objects.entries c.change_each.ensures.keys c.requires.sorted
    (λ q. c.change_each.ensures.at q ∙ ((λ i. changed_at f (is_in_set q (c.in-Some.ensures.value i)) (at_number q m)) ∙ touched_all f c.args.action (apart_ended c.args.action c.args.end) m (is_touched acts c.args.action) c.requires.touched q))
