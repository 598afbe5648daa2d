-- both are what the bytes say
use Rattle.std.proofs.Common.{◌∙◌, sym, ap, arith, []}
use Rattle.arj_script.proofs.Cutting.{cut_is, cut_of}
use Rattle.arj_script.proofs.laws.cuts_leave_the_lines.Goals as goal

pub returns : goal.returns
returns _ most ts us c d same along other =
    cut_is most [] ts c (omega arith) along ∙ (ap (λ bs. cut_of most [] bs) same ∙ sym (cut_is most [] us d (omega arith) other))
