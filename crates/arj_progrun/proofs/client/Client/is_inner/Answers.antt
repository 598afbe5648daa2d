-- the innermost label
use Rattle.std.proofs.Common.{◌∙◌, ap}
use Rattle.std.specs.Str.{bytes_eq}
use Rattle.arj_text.specs.Label.{name}
use Rattle.arj_progrun.proofs.client.Client.is_inner.Goals as goal

pub returns : goal.returns
returns c = c.is_label.ensures ∙ ap (λ b. bytes_eq b (name c.args.label)) (c.as_bytes.ensures ∙ c.label.ensures)
