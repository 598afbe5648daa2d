use Rattle.arj_bind.proofs.OtherReplies.{other_in}
use Rattle.arj_bind.specs.Heard.{reply_in}
use Rattle.arj_bind.specs.Shown.{at_of, goal_of, moved_of}
use Rattle.arj_bind.proofs.at.At.answered.Goals as goal

pub returns-in-Err : goal.returns-in-Err
returns-in-Err c =
    other_in c.args.free c.args.kept (goal_of c.args.goal.now) (at_of c.args.self) (reply_in c.args.message) (moved_of c.moves.result) c.in-Err.ensures.other c.moves.ensures
