use Rattle.std.proofs.Common.{◌++◌, ◌∙◌, [], ap, sym}
use Rattle.std.proofs.lemmas.Result.{on_ok_weaker}
use Rattle.std.specs.List.{cons_option}
use Rattle.std.specs.Option.{option_map}
use Rattle.arj_standing.specs.Begun.{top_in_links}
use Rattle.arj_pending.specs.Commits.{called_by, commits_after}
use Rattle.arj_pending.proofs.Steps.{called_is}
use Rattle.arj_pending.proofs.commits.note_commits.Goals as goal

pub returns-in-Committing : goal.returns-in-Committing
returns-in-Committing c =
    let l = c.in-Committing.label in
    let at = c.args.at in
    let old = c.args.commits.now.items in
    let top = c.top_of.ensures ∙ ap top_in_links c.path_named.ensures in
    on_ok_weaker c.call.result (λ e. λ us has.
    e ∙ ap (λ o. old ++ cons_option o []) (ap (option_map (called_by l at)) top ∙ called_is us c.args.begun.now has l at)
    ∙ ap (λ b. commits_after us at b old) (sym c.in-Committing.is)) c.call.ensures
