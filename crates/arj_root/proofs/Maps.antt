-- A value written at a key that is there is put there.
use Rattle.std.proofs.Common.{◌≡◌, ℕ, List, [], ◌∷◌, refl, ap, sym, ◌∙◌, subst, cond, Some, Result, Ok, Err}
use Rattle.std.specs.Prelude.{IsSome, OnErr}
use Rattle.std.specs.BTreeMap.{is_at}
use Rattle.std.specs.List.Sorted.{IsStrictlySortedBy}
use Rattle.std.specs.Map.{keys_of, lookup, set_value}
use Rattle.std.specs.declared.cmp.Ordering.{Ordering}
use Rattle.std.specs.declared.cmp.Ordering.TheVariants.{Less, Equal, Greater}
use Rattle.std.specs.Ordering.{nat_cmp, is_eq, match_ordering}
use Rattle.std.specs.Cmp.{nat_cmp_total}
use Rattle.std.proofs.lemmas.Map.{lookup-none}
use Rattle.std.proofs.lemmas.Map.Entries.{none_below_head}
use Rattle.std.proofs.lemmas.Map.Keys.{sorted_tail}
use Rattle.std.proofs.lemmas.Map.Steps.{set_value_same}
use Rattle.arj_protocol.specs.Order.{at_number, put_number}

pub put_found : {X : Type 0} (x : ℕ) (v : X) (es : List (ℕ × X)) → IsStrictlySortedBy nat_cmp (keys_of es) →
    IsSome (lookup (is_at (nat_cmp x)) es) → set_value (is_at (nat_cmp x)) es v ≡ put_number x v es
put_found x v [] sorted there = absurd (cc there)
put_found {X} x v (e ∷ es) sorted there =
    by (nat_cmp x e.0) refl (λ more. put_found x v es (sorted_tail nat_cmp e.0 (keys_of es) sorted) more) there
  where
    by : (r : Ordering) → nat_cmp x e.0 ≡ r →
        (IsSome (lookup (is_at (nat_cmp x)) es) → set_value (is_at (nat_cmp x)) es v ≡ put_number x v es)
        → IsSome (cond (is_eq r) (Some e.1) (lookup (is_at (nat_cmp x)) es))
        → cond (is_eq r) ((e.0, v) ∷ es) (e ∷ set_value (is_at (nat_cmp x)) es v) ≡ match_ordering r ((x, v) ∷ e ∷ es) ((e.0, v) ∷ es) (e ∷ put_number x v es)
    by Less is ih more =
        absurd (cc (subst IsSome (lookup-none (is_at (nat_cmp x)) (e ∷ es) (none_below_head nat_cmp_total x e es sorted is)) there))
    by Equal is ih more = refl
    by Greater is ih more = ap (λ rest. e ∷ rest) (ih more)

pub on_err : {T E : Type 0} {P : Type 0} (r : Result T E) → P → OnErr r P
on_err (Ok x) p = tt
on_err (Err e) p = p

-- what was found and is written back as it was changes nothing
pub written_back : {X : Type 0} (k : ℕ) (m kept es : List (ℕ × X)) (c new : X) → m ≡ kept → at_number k m ≡ Some c →
    es ≡ set_value (is_at (nat_cmp k)) m new → new ≡ c → es ≡ kept
written_back k m kept es c new same at written is =
    written ∙ (ap (set_value (is_at (nat_cmp k)) m) is ∙ (set_value_same (is_at (nat_cmp k)) m c at ∙ same))

-- what was found and is written back changed is put there
pub put_back : {X : Type 0} (k : ℕ) (m es : List (ℕ × X)) (c new v : X) → at_number k m ≡ Some c → IsStrictlySortedBy nat_cmp (keys_of m) →
    es ≡ set_value (is_at (nat_cmp k)) m new → new ≡ v → es ≡ put_number k v m
put_back k m es c new v at sorted written is =
    written ∙ put_found k new m sorted (subst IsSome (sym at) refl) ∙ ap (λ v. put_number k v m) is
