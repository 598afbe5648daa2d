use Rattle.arj_protocol.specs.Words.{Uid}
use Rattle.std.proofs.Common.{List, Bool, sym, ap, ◌∙◌}
use Rattle.std.specs.List.{list_any}
use Rattle.arj_protocol.specs.Coord as coord
use Rattle.arj_root.specs.Noted.{of_calls, of_tree, is_call_on}
use Rattle.arj_root.proofs.Noted.{any_by, any_within}
use Rattle.arj_root.proofs.calls.Calls.is_called.Goals as goal

pub returns : goal.returns
returns c =
    let test : List Uid → Bool = λ p. coord.counts c.args.top p (of_tree c.args.tree.now) in
    c.counts.ensures ∙ ap (list_any test) (c.self.invariant c.args.x) ∙ sym (any_by (is_call_on c.args.x) (λ (s : coord.Said). s.path) test c.self.inside.said.items)
    ∙ sym (any_within (is_call_on c.args.x) (λ (s : coord.Said). test s.path) c.self.inside.said.items)
    ∙ ap (λ (l : List coord.Said). coord.is_called c.args.x c.args.top (of_calls l) (of_tree c.args.tree.now)) c.self.view_is
