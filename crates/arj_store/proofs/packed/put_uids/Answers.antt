use Rattle.std.proofs.Common.{◌<◌, ◌∙◌, ◌++◌, arith, length}
use Rattle.arj_store.proofs.Bytes.{bytes_more, fit_more}
use Rattle.arj_store.proofs.packed.put_uids.Goals as goal

pub loop-uid-preserved : goal.loop-uid-preserved
loop-uid-preserved c =
    let within : c.loop-uid.uid-index < length c.args.uids.now = omega arith in
    record {
      bytes = c.in_ok-extend.ensures.ok ∙ (λ i. c.loop-uid.invariant.bytes i ++ c.to_bytes.ensures.bytes i) ∙ bytes_more c.args.bytes.now c.args.uids.now c.loop-uid.uid-index _ within;
      fit = fit_more c.args.uids.now c.loop-uid.uid-index _ within c.loop-uid.invariant.fit c.to_bytes.ensures.fits;
    }
