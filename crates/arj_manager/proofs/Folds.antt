-- Who has no parent is a top.
use Rattle.std.proofs.Common.{◌≡◌, ◌≤◌, Bool, true, false, nat_le, List, [], ◌∷◌, Option, None, Some, length, get_or, cond, ap, sym, ◌∙◌}
use Rattle.std.proofs.Common.{refl, arith, find}
use Rattle.std.proofs.lemmas.Bool.Decides.{nat_tests}
use Rattle.std.specs.Option.{option_map}
use Rattle.arj_base.specs.declared.path.Path.{Path}
use Rattle.arj_base.specs.declared.uid.Uid.{Uid}
use Rattle.arj_base.specs.Path.{uids_of, tops_of, before_last}
use Rattle.arj_protocol.specs.Copy.{is_of, is_top_over, over_of, folded}
use Rattle.arj_manager.specs.declared.overlay.Overlay.{Overlay}
use Rattle.arj_manager.specs.Stack.{shown, stack_of, is_deepest}

short : (us : List Uid) → before_last us ≡ None → length us ≤ 1
short [] none = omega arith
short (u ∷ []) none = omega arith
short (u ∷ w ∷ []) none = absurd (cc none)
short (u ∷ w ∷ v ∷ us) none = let less : length (w ∷ v ∷ us) ≤ 1 = short (w ∷ v ∷ us) none in absurd (omega (arith, less))

alone_is_top : (p : Path) → before_last (uids_of p) ≡ None → nat_le (length (uids_of p)) (tops_of p) ≡ true
alone_is_top p none = grind (arith, nat_tests, short (uids_of p) none, p.one_top)

-- a fold of an overlay that is no top's meets a parent
pub fold_none : (u : Uid) (items : List Overlay) (first : Overlay) → first ≡ get_or items 0 first → is_deepest u (stack_of items) ≡ true →
    before_last (uids_of first.path) ≡ None → option_map is_top_over (over_of u (stack_of items)) ≡ Some false →
    stack_of items ≡ folded u (stack_of items)
fold_none u [] first e deep none kept = refl
fold_none u (o ∷ os) first e deep none kept =
    let here : Option Bool = option_map is_top_over (cond (is_of u (shown o)) (Some (shown o)) (find (is_of u) (stack_of os))) in
    let is : Some (is_top_over (shown o)) ≡ here =
    λ i. option_map is_top_over (cond (sym deep i) (Some (shown o)) (find (is_of u) (stack_of os))) in
    let top : is_top_over (shown o) ≡ true = alone_is_top o.path (ap (λ (q : Overlay). before_last (uids_of q.path)) (sym e) ∙ none) in
    let never : Some true ≡ Some false = ap Some (sym top) ∙ (is ∙ kept) in
    absurd (cc never)
