use Rattle.std.proofs.Common.{◌∙◌, ◌||◌, ◌+◌, sym, drop, get_or}
use Rattle.std.proofs.lemmas.List.{drop_more}
use Rattle.arj_base.specs.Rows.{is_on}
use Rattle.arj_base.specs.Uid.{nobody, uid_eq}
use Rattle.arj_law_store.proofs.store.Keys.{with_on, or_three}
use Rattle.arj_naming.proofs.uids.insert_all.Goals as goal

pub loop-uid-preserved : goal.loop-uid-preserved
loop-uid-preserved c = λ u.
    let i = c.loop-uid.uid-index in
    let x = get_or c.args.uids.now i nobody in
    let rest = drop (i + 1) c.args.uids.now in
    let old = c.loop-uid.set.keys in
    (λ j. is_on (c.in_ok-insert.ensures.keys j) u || is_on rest u)
    ∙ ((λ j. with_on old x u j || is_on rest u)
    ∙ (sym (or_three (is_on old u) (uid_eq x u) (is_on rest u))
    ∙ ((λ j. is_on old u || is_on (sym (drop_more c.args.uids.now i nobody c.loop-uid-test.true) j) u) ∙ c.loop-uid.invariant u)))
