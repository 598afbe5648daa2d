-- the image of nodes of which none is up
use Rattle.std.proofs.Common.{◌∙◌, sym}
use Rattle.arj_saving.proofs.Behind.{read_none}
use Rattle.arj_saving.specs.Stops.{up_nodes}
use Rattle.arj_saving.proofs.imaging.say_files.Goals as goal

pub returns-in-Ok-clause-down : goal.returns-in-Ok-clause-down
returns-in-Ok-clause-down g c told =
    (λ i. up_nodes (sym c.as_slice.ensures i) (let h = sym c.header-header.ensures.header i in h.nodes)) ∙ c.in-Ok.ensures

pub returns-in-Err-clause-files : goal.returns-in-Err-clause-files
returns-in-Err-clause-files g c = read_none g.D.Disk _ c.args.rack.now
