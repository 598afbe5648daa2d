use Rattle.arj_last.proofs.Put.{one_put}
use Rattle.arj_last.proofs.groups.put_item.Goals as goal

pub returns : goal.returns
returns g c = one_put c.args.number c.args.item c.args.groups.now c.take_items-items.new.groups c.put_back.new.groups
    c.take_items-items.result c.push.new.self c.take_items-items.ensures.taken c.in_ok-push.ensures.items
    c.take_items-items.ensures.others c.in_ok-put_back.ensures
