use Rattle.std.proofs.Common.{◌∙◌}
use Rattle.arj_image.proofs.Lasts.{last_at}
use Rattle.arj_image.proofs.file.is_behind.Goals as goal
use Rattle.arj_image.specs.declared.image.NodeFile.{NodeFile}
use Rattle.arj_image.specs.Texts.{is_before}

pub returns-in-len1-up : goal.returns-in-len1-up
returns-in-len1-up c =
    c.is_before.ensures ∙ last_at (λ
    (g : NodeFile). is_before g c.args.file.now) c.args.files.now c.last-item.result c.in-len1-up.len_at_least c.last-item.is
