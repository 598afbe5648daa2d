use Rattle.std.proofs.Common.{◌∙◌, ap, get_or, sym, take}
use Rattle.std.proofs.lemmas.List.{take_more}
use Rattle.arj_base.specs.Uid.{nobody}
use Rattle.arj_last.proofs.Counts.{no_write, writer_more}
use Rattle.arj_last.specs.Survivors.{writer_after}
use Rattle.arj_last.proofs.counting.last_writer.Goals as goal

pub loop-wrote-preserved : goal.loop-wrote-preserved
loop-wrote-preserved c =
    let ws = c.args.wrotes.now in
    let i = c.loop-wrote.wrote-index in
    sym (ap (writer_after nobody) (take_more ws i no_write c.loop-wrote-test.true) ∙ writer_more nobody (take i ws) (get_or ws i no_write))
