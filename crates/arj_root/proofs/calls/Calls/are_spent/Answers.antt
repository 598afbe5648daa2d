use Rattle.arj_protocol.specs.Words.{Uid}
use Rattle.std.proofs.Common.{List, Bool, sym, ap, ◌∙◌, not, ◌||◌, ◌==◌}
use Rattle.std.specs.List.{list_all}
use Rattle.arj_protocol.specs.Coord.{Said}
use Rattle.arj_protocol.specs.Tree.{is_spent}
use Rattle.arj_root.specs.Noted.{is_call_on}
use Rattle.arj_root.proofs.Noted.{all_by}
use Rattle.arj_root.proofs.calls.Calls.are_spent.Goals as goal

pub returns : goal.returns
returns c =
    let test : List Uid → Bool = λ p. is_spent p c.args.tree.now in
    c.are_spent.ensures ∙ ap (list_all test) (c.self.invariant c.args.x) ∙ sym (all_by (is_call_on c.args.x) (λ (s : Said). s.path) test c.self.inside.said.items)
    ∙ ap (λ (l : List Said). list_all (λ s. not (s.x == c.args.x) || is_spent s.path c.args.tree.now) l) c.self.view_is
