-- Items under numbers, with one more.
use Rattle.std.proofs.Common.{◌≡◌, ℕ, List, [], ◌∷◌, ◌++◌, Bool, true, false, cond, ◌==◌, Option, Some, None, refl, ◌∙◌, ap}
use Rattle.std.specs.BTreeMap.{BTreeMap, get}
use Rattle.std.specs.Ordering.{nat_cmp}
use Rattle.std.specs.Global.{Vec}
use Rattle.std.proofs.lemmas.Bool.{eqb-true}
use Rattle.arj_last.specs.Groups.{items_of, items_or_none}

-- what is kept after the items under a number were taken out, and put back with one more
pub one_put : {A : Type 0} (x : ℕ) (item : A) (old mid new : BTreeMap ℕ (Vec A)) (taken own : Vec A) → taken.items ≡ items_of old x →
    own.items ≡ taken.items ++ item ∷ []
    → ((y : ℕ) → (x == y) ≡ false → items_of mid y ≡ items_of old y) →
    ((y : ℕ) → get nat_cmp new y ≡ cond (x == y) (Some own) (get nat_cmp mid y))
    → (y : ℕ) → items_of new y ≡ cond (x == y) (items_of old y ++ item ∷ []) (items_of old y)
one_put x item old mid new taken own is has others put y = ap items_or_none (put y) ∙ by (x == y) refl
  where
    by : (b : Bool) → (x == y) ≡ b →
        items_or_none (cond b (Some own) (get nat_cmp mid y)) ≡ cond b (items_of old y ++ item ∷ []) (items_of old y)
    by true e = has ∙ ap (λ items. items ++ item ∷ []) (is ∙ ap (items_of old) (eqb-true x y e))
    by false e = others y e
