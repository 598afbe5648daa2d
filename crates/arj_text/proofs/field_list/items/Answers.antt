use Rattle.std.proofs.Common.{◌≡◌, ◌+◌, length, ap, arith}
use Rattle.arj_text.proofs.Items.{too_many, no_item, no_last, item_more, all_items}
use Rattle.arj_text.proofs.field_list.items.Goals as goal

pub returns-then-as_slice-most : goal.returns-then-as_slice-most
returns-then-as_slice-most g c = λ a form e.
    let full : length c.loop-word.found + 1 ≡ c.args.most = omega (arith, c.if-as_slice-most.true, ap length c.as_slice.ensures) in
    too_many g.T.Item.in_form g.T.Item.text c.requires.no_comma c.args.most c.args.bytes.now c.loop-word.rest.now c.in-Some.word.now c.in-Some.behind.now c.loop-word.found a c.loop-word.invariant.front c.loop-word.invariant.fits c.in-Some.ensures.1 full form e

pub returns-in_default-2 : goal.returns-in_default-2
returns-in_default-2 g c = λ a form e.
    no_item g.T.Item.in_form g.T.Item.text c.requires.no_comma c.args.most c.args.bytes.now c.loop-word.rest.now c.in-Some.word.now c.in-Some.behind.now c.loop-word.found a c.loop-word.invariant.front c.loop-word.invariant.fits c.in-Some.ensures.0 c.in-Some.ensures.1 (rw c.in_default-2.is at c.in_ok-item.ensures) form e

pub loop-word-preserved : goal.loop-word-preserved
loop-word-preserved g c =
    item_more g.T.Item.in_form g.T.Item.text c.args.most c.args.bytes.now c.loop-word.rest.now c.in-Some.word.now c.in-Some.behind.now c.loop-word.found c.push.new.self c.in-Some-2.item c.loop-word.invariant.front c.loop-word.invariant.fits c.in-Some.ensures.1 (rw c.in-Some-2.is at c.in_ok-item.ensures) c.in_ok-push.ensures.ok c.loop-word.invariant.few (omega (arith, c.if-as_slice-most.false, ap length c.as_slice.ensures))

pub returns-in_default-3 : goal.returns-in_default-3
returns-in_default-3 g c = λ a form e.
    no_last g.T.Item.in_form g.T.Item.text c.requires.no_comma c.args.most c.args.bytes.now c.loop-word.rest.now c.loop-word.found a c.loop-word.invariant.front c.loop-word.invariant.fits c.in_default.ensures (rw c.in_default-3.is at c.in_ok-item-2.ensures) form e

pub returns : goal.returns
returns g c =
    all_items g.T.Item.in_form g.T.Item.text c.args.most c.args.bytes.now c.loop-word.rest.now c.loop-word.found c.push-2.new.self c.in-Some-3.item c.loop-word.invariant.front c.loop-word.invariant.fits (rw c.in-Some-3.is at c.in_ok-item-2.ensures) c.in_ok-push-2.ensures.ok c.loop-word.invariant.few
