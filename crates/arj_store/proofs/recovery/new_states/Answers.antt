use Rattle.std.proofs.Common.{◌<◌, ◌∙◌, sym, ap, arith, length, map, Some}
use Rattle.std.specs.Prelude.{IsSome}
use Rattle.arj_store.specs.Recovery.{newest}
use Rattle.arj_store.specs.Table.{at}
use Rattle.arj_store.proofs.Finding.{states_more}
use Rattle.arj_store.proofs.Lists.{all_at}
use Rattle.arj_store.proofs.recovery.new_states.Goals as goal

pub new_state-requires : goal.new_state-requires
new_state-requires c =
    let within : c.loop-uid.uid-index < length c.args.objects.now = omega arith in
    all_at (λ u. IsSome (newest (at c.args.shadows.now) (at c.args.committed.now) u)) c.args.objects.now c.loop-uid.uid-index _ within c.requires

pub loop-uid-preserved : goal.loop-uid-preserved
loop-uid-preserved c =
    let within : c.loop-uid.uid-index < length c.args.objects.now = omega arith in
    states_more (newest (at c.args.shadows.now) (at c.args.committed.now)) c.args.objects.now c.loop-uid.uid-index _ c.loop-uid.states c.in_ok-state.state within c.loop-uid.invariant c.in_ok-state.ensures ∙ ap (map Some) (sym c.in_ok-push.ensures.ok)
