use Rattle.arj_protocol.specs.Words.{Uid}
use Rattle.std.proofs.Common.{List, Bool, sym, ap, ◌∙◌, ◌&&◌, ◌==◌}
use Rattle.std.specs.List.{list_any}
use Rattle.arj_protocol.specs.Coord as coord
use Rattle.arj_root.specs.Noted.{of_tree, is_call_on}
use Rattle.arj_root.proofs.Noted.{any_by}
use Rattle.arj_root.proofs.calls.Calls.uses.Goals as goal

pub returns : goal.returns
returns c =
    let test : List Uid → Bool = λ p. coord.survives c.args.top p (of_tree c.args.tree.now) in
    c.survives.ensures ∙ ap (list_any test) (c.self.invariant c.args.x) ∙ sym (any_by (is_call_on c.args.x) (λ (s : coord.Said). s.path) test c.self.inside.said.items)
    ∙ ap (λ (l : List coord.Said). list_any (λ (s : coord.Said). (s.x == c.args.x) && coord.survives c.args.top s.path (of_tree c.args.tree.now)) l) c.self.view_is
