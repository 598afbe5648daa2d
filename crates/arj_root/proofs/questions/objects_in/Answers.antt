use Rattle.std.proofs.Common.{◌≡◌, List, ap, ◌∙◌, filter, map, ℕ}
use Rattle.std.proofs.lemmas.Result.{IfOk-weaker}
use Rattle.arj_protocol.specs.Coord as coord
use Rattle.arj_protocol.specs.Order.{number_set}
use Rattle.arj_root.specs.Merged.{of_work, more_numbers}
use Rattle.arj_root.specs.Noted.{of_tree}
use Rattle.arj_root.proofs.Merged.{more_is}
use Rattle.arj_root.proofs.questions.objects_in.Goals as goal

pub returns : goal.returns
returns c =
    let t = of_tree c.args.tree.now in
    let called : List coord.Said → List ℕ =
    λ said. map (λ (s : coord.Said). s.x) (filter (λ (s : coord.Said). coord.counts c.args.top s.path t) said) in
    let joined : List coord.Joined → List ℕ =
    λ js. map (λ (j : coord.Joined). j.x) (filter (λ (j : coord.Joined). coord.counts c.args.top j.path t) js) in
    IfOk-weaker c.listed.result (λ objects. objects ≡ c.in_ok-objects.objects.keys) (λ objects. objects ≡ coord.objects_in c.args.top (of_work c.args.calls.now c.args.joins.now) t)
    (λ objects is. is ∙ c.in_ok-objects.ensures
    ∙ (λ i. more_numbers (called (c.as_slice-2.ensures i)) (c.in_ok-joined.ensures i))
    ∙ ap (λ js. more_numbers (called c.args.calls.now) (number_set (joined js))) c.as_slice.ensures
    ∙ more_is (called c.args.calls.now) (joined c.args.joins.now)) c.listed.ensures
