-- Both halves where an action begins, and where a node ticks.
use Rattle.arj_law_parts.proofs.Words
use Words.{false, ◌++◌, map, refl, Some, again_all, begin_action, holders, query_about, with_coord, tolds_again, again_own, tolds_again_own}
use Words.{all_both, tick_outs}
use Rattle.arj_law_disk_view.proofs.Terms.{given, up, leaves_the_inc}
use Rattle.arj_law_disk_view.proofs.names
use names.{NamingWalks.queries_leave, StepsBoth.labels_keep_both}
use names.CommitBoth.{coord_leaves, plain_both}
use names.StepsFollowed.{actions_are_followed, ticks_are_followed}
use Rattle.arj_law_disk_view.specs.names.Handlers.{ActionsKeepBoth, TicksKeepBoth}

pub actions_keep_both : ActionsKeepBoth
actions_keep_both x tops e k d t l g how parent above A M unwalked knows fits both =
    let did = begin_action l how parent above t.coord in
    plain_both x tops unwalked e k d t A (given l g M) (labels_keep_both x tops l g A (up k d t M) both) (with_coord t did.part) did.outs
    refl refl (actions_are_followed x tops (λ n. false) e k d t l g how parent above A M knows fits both)

pub ticks_keep_both : TicksKeepBoth
ticks_keep_both x tops e k d t A M unwalked knows begun both =
    let again = again_all t.coord.doings t.coord in
    plain_both x tops unwalked e k d t A M both (with_coord t again.part) (tick_outs (record { number = k; disk = d; live = Some t }) t)
    (all_both leaves_the_inc (again.outs ++ tolds_again t.coord.telling) (map query_about (holders d t))
    (all_both leaves_the_inc again.outs (tolds_again t.coord.telling) (coord_leaves again.outs (again_own t.coord.doings t.coord))
    (coord_leaves (tolds_again t.coord.telling) (tolds_again_own t.coord.telling))) (queries_leave (holders d t)))
    refl (ticks_are_followed x tops (λ n. false) e k d t A M knows begun both)
