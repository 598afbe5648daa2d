-- Committed tops, as they are kept.
use Rattle.std.proofs.Common.{◌≡◌, ℕ, List, [], ◌∷◌, ◌++◌, map, Bool, true, false, cond, ◌==◌, max, Some, refl, sym, ◌∙◌, ap}
use Rattle.std.specs.BTreeMap.{get}
use Rattle.std.specs.Option.{unwrap_or}
use Rattle.std.specs.Ordering.{nat_cmp}
use Rattle.arj_model.specs.Actions.{Placed}
use Rattle.arj_model.specs.Calls.{Top}
use Rattle.arj_reading.specs.Reading.{first_place, noted}
use Rattle.arj_check.specs.Keys.{place_item, root_item}
use Rattle.arj_check.specs.Kept.{HasTops}
use Rattle.arj_check.specs.declared.tops.Tops.{Tops}
use Rattle.arj_check.proofs.Marks.{unit_push}

-- one item more
first_push : (f : Top → Placed ℕ) (ts : List Top) (t : Top) (i : ℕ) →
    first_place (map f (ts ++ t ∷ [])) i ≡ noted (Some (f t).it) (f t).at (first_place (map f ts) i) i
first_push f [] t i = refl
first_push f (u ∷ ts) t i = by (first_push f ts t i) ((f u).it == i)
  where
    by : first_place (map f (ts ++ t ∷ [])) i ≡ noted (Some (f t).it) (f t).at (first_place (map f ts) i) i → (b : Bool)
        → cond b (Some (f u).at) (first_place (map f (ts ++ t ∷ [])) i) ≡ noted (Some (f t).it) (f t).at (cond b (Some (f u).at) (first_place (map f ts) i)) i
    by ih true = refl
    by ih false = ih

-- one top more
pub has_push : (ts : List Top) (t : Top) (old new : Tops) → HasTops ts old →
    ((i : ℕ) → get nat_cmp new.roots i ≡ noted (Some t.id) t.root (get nat_cmp old.roots i) i) →
    ((i : ℕ) → get nat_cmp new.places i ≡ noted (Some t.id) t.at (get nat_cmp old.places i) i)
    → ((i : ℕ) → unwrap_or (get nat_cmp new.units i) 0 ≡ cond (t.root == i) (max t.at (unwrap_or (get nat_cmp old.units i) 0)) (unwrap_or (get nat_cmp old.units i) 0)) → HasTops (ts ++ t ∷ []) new
has_push ts t old new has roots places units = record {
  roots = λ i. roots i ∙ ap (λ o. noted (Some t.id) t.root o i) (has.roots i) ∙ sym (first_push root_item ts t i);
  places = λ i. places i ∙ ap (λ o. noted (Some t.id) t.at o i) (has.places i) ∙ sym (first_push place_item ts t i);
  units = λ i. units i ∙ ap (λ n. cond (t.root == i) (max t.at n) n) (has.units i) ∙ sym (unit_push ts t i);
}
