use Rattle.std.proofs.Common.{List}
use Rattle.std.proofs.lemmas.Result.{IfOk-weaker}
use Rattle.std.specs.BTreeSet.{IsFromIterResult}
use Rattle.arj_base.specs.declared.uid.Uid.{Uid}
use Rattle.arj_lock.specs.Held.{AreListed, below, set_order}
use Rattle.arj_lock.specs.Locks.{rows_in}
use Rattle.arj_lock.proofs.tops.list_below.Goals as goal

pub returns : goal.returns
returns c =
    let uids : List Uid = below c.args.action (rows_in c.args.grants.now) in
    IfOk-weaker c.listed.result (λ list. (us : List Uid) → IsFromIterResult set_order us c.in_ok-holders.holders →
    AreListed us list) (AreListed uids) (λ list are. are uids c.in_ok-holders.ensures) c.listed.ensures
