use Rattle.std.proofs.Common.{◌∙◌, length}
use Rattle.arj_msg.proofs.PathLaws.{path_again, take_whole, tops_end}
use Rattle.arj_msg.proofs.head.path_with.Goals as goal

pub returns : goal.returns
returns c =
    path_again c.loop-i.path c.args.uids.now c.args.tops (c.loop-i.invariant.front ∙ take_whole c.args.uids.now c.loop-i.i c.loop-i-test.false)
    (tops_end c.loop-i.i (length c.args.uids.now) c.args.tops c.loop-i.path.tops c.loop-i-test.false c.requires.one_top c.requires.within c.loop-i.invariant.top)
