use Rattle.arj_node.proofs.Classes.{classes_more}
use Rattle.arj_node.proofs.roster.classes_of.Goals as goal

pub loop-object-preserved : goal.loop-object-preserved
loop-object-preserved c =
    classes_more c.args.objects.now c.loop-object.object-index c.object-item.result c.loop-object.classes c.put_class.new.classes c.loop-object-test.true c.object-item.is c.loop-object.invariant c.in_ok-put_class.ensures
