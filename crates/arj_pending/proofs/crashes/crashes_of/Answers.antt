use Rattle.std.proofs.Common.{◌++◌, ◌∷◌, ◌∙◌, [], ap, false, sym}
use Rattle.std.specs.List.{cons_option}
use Rattle.arj_changes.proofs.Steps.{filter_map_more}
use Rattle.arj_pending.specs.Crashes.{flag_of}
use Rattle.arj_pending.proofs.crashes.crashes_of.Goals as goal

pub loop-line-preserved : goal.loop-line-preserved
loop-line-preserved c =
    let line = c.line-item.result in
    let gives = c.flag_of.ensures ∙ ap flag_of c.line-item.is in
    c.in_ok-put.ensures ∙ (λ k. c.loop-line.invariant k ++ cons_option (gives k) [])
    ∙ ap (λ flags. false ∷ flags) (sym (filter_map_more flag_of c.args.script.now c.loop-line.line-index line c.loop-line-test.true))
