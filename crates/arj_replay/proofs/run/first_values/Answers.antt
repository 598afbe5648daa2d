use Rattle.std.proofs.Common.{rules, ◌≡◌, ◌<◌, ◌==◌, Some, None, length, slice_index_or}
use Rattle.arj_replay.specs.Verdict.{first_among, or_value}
use Rattle.arj_replay.proofs.run.first_values.Goals as goal
use Rattle.std.proofs.Common.{◌∙◌, ap, sym, cond, take}
use Rattle.arj_replay.proofs.Runs.{first_put, take_next}

pub loop-object-preserved : goal.loop-object-preserved
loop-object-preserved c = λ x.
    let lt : c.loop-object.object-index < length c.args.objects.now = search rules in
    let is : c.object-item.result ≡ slice_index_or c.args.objects.now c.loop-object.object-index c.object-item.result = search rules in
    c.in_ok-put_first.ensures x
    ∙ ap (λ v. or_value v (cond (c.object-item.result.x == x) (Some c.object-item.result.value) None)) (c.loop-object.invariant x)
    ∙ sym (first_put (take c.loop-object.object-index c.args.objects.now) c.object-item.result x)
    ∙ ap (λ os. first_among os x) (sym (take_next c.args.objects.now c.loop-object.object-index c.object-item.result lt is))
