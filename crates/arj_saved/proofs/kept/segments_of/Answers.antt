use Rattle.arj_saved.proofs.Finding.{kept_more}
use Rattle.arj_saved.specs.Saved.{segment_at, rows_of}
use Rattle.std.specs.Option.{option_map}
use Rattle.arj_saved.proofs.kept.segments_of.Goals as goal

pub loop-file-preserved : goal.loop-file-preserved
loop-file-preserved c = record {
  shown = kept_more (λ f. segment_at f.node f.slot f.bytes) c.args.files.now c.loop-file.file-index c.file-item.result c.loop-file.kept.items c.put.new.kept.items
      (option_map rows_of c.in_ok-segment_of.field-0) c.loop-file-test.true c.file-item.is c.in_ok-segment_of.ensures.shown c.in_ok-put.ensures.shown c.loop-file.invariant.shown;
  in_form = c.in_ok-put.ensures.in_form c.loop-file.invariant.in_form c.in_ok-segment_of.ensures.in_form;
}
