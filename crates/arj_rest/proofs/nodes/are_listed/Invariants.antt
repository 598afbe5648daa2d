use Rattle.std.proofs.Common.{◌≡◌, drop, List}
use Rattle.std.specs.List.{list_all}
use Rattle.arj_model.specs.Last.{listed}
use Rattle.arj_rest.specs.Nodes.{is_listing}
use Rattle.arj_image.specs.declared.image.NodeFile.{NodeFile}
use Rattle.arj_clean.specs.Standing.{IsSaved}
use Rattle.arj_rest.proofs.nodes.are_listed.Given as goal

abbrev pub invariant-loop-object : goal.invariant-loop-object
invariant-loop-object l = (files : List NodeFile) → IsSaved l.saved.header.now l.saved.lines.now l.saved.standing.now l.saved.segments.now l.saved.pendings.now files →
    list_all (λ o. is_listing (listed l.saved.header.now l.saved.lines.now o.x)) (drop l.object-index l.object-items) ≡ list_all (λ o. is_listing (listed l.saved.header.now l.saved.lines.now o.x)) l.object-items
