use Rattle.std.proofs.Common.{List}
use Rattle.std.proofs.lemmas.Result.{IfOk-weaker}
use Rattle.std.specs.BTreeSet.{IsFromIterResult}
use Rattle.arj_base.specs.declared.uid.Uid.{Uid}
use Rattle.arj_lock.specs.Held.{AreListed, set_order}
use Rattle.arj_manager.proofs.tops.in_order.Goals as goal

pub returns : goal.returns
returns c =
    IfOk-weaker c.listed.result (λ list. (us : List Uid) → IsFromIterResult set_order us c.in_ok-set.set →
    AreListed us list) (AreListed c.args.uids.now) (λ list are. are c.args.uids.now c.in_ok-set.ensures) c.listed.ensures
