use Rattle.std.proofs.Common.{◌∙◌, ◌<◌, ◌++◌, arith, length, subst}
use Rattle.arj_store.proofs.Lists.{all_take_more}
use Rattle.arj_segment_file.specs.Format.{FitsRow, row_bytes}
use Rattle.arj_segment_file.proofs.Read.{flat_more}
use Rattle.arj_segment_file.proofs.written.put_rows.Goals as goal

pub loop-state-preserved : goal.loop-state-preserved
loop-state-preserved c =
    let within : c.loop-state.state-index < length c.args.states.now = omega arith in
    record {
      bytes = c.in_ok-put_row.ensures.ok ∙ (λ i. c.loop-state.invariant.bytes i ++ row_bytes (c.state-item.is i))
          ∙ flat_more row_bytes c.args.bytes.now c.args.states.now c.loop-state.state-index c.state-item.result within;
      fit = all_take_more FitsRow c.args.states.now c.loop-state.state-index c.state-item.result within c.loop-state.invariant.fit (subst FitsRow c.state-item.is c.in_ok-put_row.ensures.fit);
    }
