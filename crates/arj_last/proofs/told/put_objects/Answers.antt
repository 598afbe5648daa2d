use Rattle.std.proofs.Common.{rules, ◌≡◌, ◌<◌, ◌∙◌, ◌++◌, [], Some, ap, append_assoc, cond, length, slice_index_or, subst, sym, take}
use Rattle.std.specs.List.{flat_map}
use Rattle.arj_journal.specs.declared.header.ObjectLine.{ObjectLine}
use Rattle.arj_model.specs.Last.{object_line}
use Rattle.arj_last.proofs.Tells.{all_found, at_place, flat_next}
use Rattle.arj_last.specs.Told.{object_text, told_text}
use Rattle.arj_last.proofs.told.put_objects.Goals as goal

pub loop-object-preserved : goal.loop-object-preserved
loop-object-preserved c = λ body h readable is.
    let header = c.args.header.now in
    let lines = c.args.lines.now in
    let objects = header.objects in
    let i = c.loop-object.object-index in
    let o = c.object-item.result in
    let lt : i < length objects = search rules in
    let at : o ≡ slice_index_or objects i o = search rules in
    let P : ObjectLine → Type 0 = λ q. (p : ObjectLine) × (object_line header q.x ≡ Some p) in
    let here : P o = subst P (sym at) (at_place P objects i o lt (all_found header)) in
    let text = told_text header lines body in
    c.in_ok-put_object_if.ensures here.0 h readable here.1
    ∙ (λ j. c.loop-object.out ++ cond (c.is_told-told.ensures lines body h is j) (object_text header lines o.x) [])
    ∙ ap (λ t. t ++ text o) (c.loop-object.invariant body h readable is)
    ∙ append_assoc c.args.out.now (flat_map text (take i objects)) (text o)
    ∙ ap (λ t. c.args.out.now ++ t) (sym (flat_next text objects i o lt at))
