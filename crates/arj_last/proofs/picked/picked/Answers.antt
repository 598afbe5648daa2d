use Rattle.std.proofs.Common.{◌++◌, ◌∙◌, [], sym}
use Rattle.std.specs.List.{cons_option}
use Rattle.arj_changes.proofs.Steps.{filter_map_more}
use Rattle.arj_last.specs.Survivors.{wrote_at}
use Rattle.arj_last.proofs.picked.picked.Goals as goal

pub loop-place-preserved : goal.loop-place-preserved
loop-place-preserved c =
    c.in_ok-put.ensures ∙ (λ k. c.loop-place.invariant k ++ cons_option (c.wrote_at.ensures k) [])
    ∙ sym (filter_map_more (wrote_at c.args.all.now) c.args.places.now c.loop-place.place-index _ c.loop-place-test.true)
