-- the longest word
use Rattle.std.proofs.Common.{◌∙◌, ◌++◌, ap, sym}
use Rattle.std.proofs.lemmas.Result.{on_ok_weaker}
use Rattle.std.specs.Prelude.{codes}
use Rattle.arj_programs.specs.Text.{told_line, told_text}
use Rattle.arj_programs.proofs.text.put_line.Goals as goal

pub returns-in-Unfinished : goal.returns-in-Unfinished
returns-in-Unfinished c =
    on_ok_weaker c.put_told-in-Unfinished.result
    (λ e. e ∙ (λ i. c.args.out.now ++ told_line (codes "unfinished ") (c.as_bytes-in-Unfinished.ensures i))
    ∙ ap (λ l. c.args.out.now ++ told_text l) (sym c.in-Unfinished.is))
    c.put_told-in-Unfinished.ensures
