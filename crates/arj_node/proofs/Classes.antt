-- The classes of objects, one after another.
use Rattle.std.proofs.Common.{◌≡◌, ◌∙◌, ◌<◌, ◌+◌, ◌==◌, ℕ, Bool, true, false, cond, List, [], ◌∷◌, ◌++◌, Some, None, refl, sym, ap}
use Rattle.std.proofs.Common.{find, get_or, length, take}
use Rattle.std.proofs.lemmas.List.{take_more}
use Rattle.std.specs.BTreeMap.{BTreeMap}
use Rattle.arj_node.specs.Roster.{AreClasses, class_kept, one_class}
use Rattle.arj_protocol.specs.Effect.{either}
use Rattle.arj_protocol.specs.Step.{class_in}
use Rattle.arj_protocol.specs.Words.{Class, ObjectLine, own_class}

-- one more object counts where none before it has the number
pub class_behind : (os : List ObjectLine) (o : ObjectLine) (x : ℕ) →
    class_in (find (λ (p : ObjectLine). p.x == x) (os ++ o ∷ [])) ≡ either (class_in (find (λ (p : ObjectLine). p.x == x) os)) (one_class x o)
class_behind [] o x = by (o.x == x)
  where
    by : (b : Bool) → class_in (cond b (Some o) None) ≡ cond b (Some (own_class o.value)) None
    by true = refl
    by false = refl
class_behind (p ∷ os) o x = by (p.x == x) (class_behind os o x)
  where
    by : (b : Bool) →
        class_in (find (λ (q : ObjectLine). q.x == x) (os ++ o ∷ [])) ≡ either (class_in (find (λ (q : ObjectLine). q.x == x) os)) (one_class x o)
        → class_in (cond b (Some p) (find (λ (q : ObjectLine). q.x == x) (os ++ o ∷ []))) ≡ either (class_in (cond b (Some p) (find (λ (q : ObjectLine). q.x == x) os))) (one_class x o)
    by true later = refl
    by false later = later

pub classes_more : (os : List ObjectLine) (i : ℕ) (o : ObjectLine) (old new : BTreeMap ℕ Class) → i < length os → o ≡ get_or os i o →
    AreClasses (take i os) old → ((x : ℕ) → class_kept new x ≡ either (class_kept old x) (one_class x o))
    → AreClasses (take (i + 1) os) new
classes_more os i o old new lt here so_far more = λ x. more x ∙ ((λ j. either (so_far x j) (one_class x o))
    ∙ (sym (class_behind (take i os) o x) ∙ sym (ap (λ ls. class_in (find (λ (p : ObjectLine). p.x == x) ls)) (take_more os i o lt ∙ ap (λ p. take i os ++ p ∷ []) (sym here)))))
