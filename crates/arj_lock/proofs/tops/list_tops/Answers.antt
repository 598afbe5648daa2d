use Rattle.std.proofs.Common.{List, map}
use Rattle.std.proofs.lemmas.Result.{IfOk-weaker}
use Rattle.std.specs.BTreeSet.{IsFromIterResult}
use Rattle.arj_base.specs.declared.uid.Uid.{Uid}
use Rattle.arj_lock.specs.Held.{AreListed, set_order, top_of}
use Rattle.arj_lock.specs.Locks.{rows_in}
use Rattle.arj_lock.proofs.tops.list_tops.Goals as goal

pub returns : goal.returns
returns c =
    let uids : List Uid = map top_of (rows_in c.args.grants.now) in
    IfOk-weaker c.listed.result (λ list. (us : List Uid) → IsFromIterResult set_order us c.in_ok-tops.tops →
    AreListed us list) (AreListed uids) (λ list are. are uids c.in_ok-tops.ensures) c.listed.ensures
