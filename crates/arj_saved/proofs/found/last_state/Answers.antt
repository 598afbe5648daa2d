use Rattle.std.proofs.Common.{◌∙◌, ap, sym, subst}
use Rattle.std.specs.Prelude.{IfSome}
use Rattle.std.specs.List.{AllByRecursion}
use Rattle.std.specs.Option.{option_copied, option_map, option_or}
use Rattle.arj_base.specs.State.{StateInForm, state_bytes}
use Rattle.arj_saved.proofs.Finding.{all_item, held_more, map_or, some_or}
use Rattle.arj_saved.proofs.found.last_state.Goals as goal

pub loop-one-preserved : goal.loop-one-preserved
loop-one-preserved c = record {
  shown = ap (option_map (λ s. state_bytes s)) c.newer-found.ensures ∙ map_or (λ s. state_bytes s) (option_copied c.state_in.result) (option_copied c.loop-one.found)
      ∙ (λ i. option_or (c.state_in.ensures.shown i) (c.loop-one.invariant.shown i))
      ∙ sym (held_more c.args.segments.now c.loop-one.one-index c.one-item.result c.args.node c.args.role c.args.uid c.loop-one-test.true c.one-item.is);
  in_form = λ all.
      let p = all_item (λ k. AllByRecursion StateInForm k.states) c.args.segments.now c.loop-one.one-index c.one-item.result c.loop-one-test.true c.one-item.is (c.loop-one.invariant.rest all) in
      subst (λ o. IfSome o StateInForm) (sym c.newer-found.ensures) (some_or StateInForm (option_copied c.state_in.result) (option_copied c.loop-one.found) (c.state_in.ensures.in_form p.0) (c.loop-one.invariant.in_form all));
  rest = λ all. (all_item (λ k. AllByRecursion StateInForm k.states) c.args.segments.now c.loop-one.one-index c.one-item.result c.loop-one-test.true c.one-item.is (c.loop-one.invariant.rest all)).1;
}
