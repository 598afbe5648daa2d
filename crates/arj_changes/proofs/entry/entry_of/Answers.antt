use Rattle.std.proofs.Common.{◌∙◌, ap}
use Rattle.std.proofs.lemmas.Result.{IfOk-weaker}
use Rattle.arj_changes.specs.Folded.{IsFolded, tops_ranked}
use Rattle.arj_changes.specs.Stores.{IsEntry}
use Rattle.arj_changes.proofs.Folded.{entry_is}
use Rattle.arj_changes.proofs.entry.entry_of.Goals as goal

pub returns : goal.returns
returns c = λ lines begun has.
    let header = c.args.header.now in
    let x = c.args.x in
    let first = c.first_stores.result.now in
    let ts = tops_ranked c.as_slice.result.now in
    IfOk-weaker c.fold.result (IsFolded lines x first ts) (IsEntry header lines x)
    (λ e f. entry_is header lines x first ts e c.first_stores.ensures (ap tops_ranked c.as_slice.ensures.value ∙ c.in_ok-ranked.ensures lines has) f) (c.fold.ensures lines begun has)
