-- What a root has, changed: a value written at a key that is there is put there.
use Rattle.std.proofs.Common.{◌≡◌, ℕ, ◌≤◌, List, [], ◌∷◌, refl, ap, sym, ◌∙◌, subst, cond, false, Some, unwrap_or, arith, Result, Ok, Err}
use Rattle.std.specs.Prelude.{IsSome, OnErr}
use Rattle.std.specs.BTreeMap.{is_at}
use Rattle.std.specs.List.Sorted.{IsStrictlySortedBy}
use Rattle.std.specs.Map.{keys_of, lookup, set_value}
use Rattle.std.specs.declared.cmp.Ordering.{Ordering}
use Rattle.std.specs.declared.cmp.Ordering.TheVariants.{Less, Equal, Greater}
use Rattle.std.specs.Ordering.{nat_cmp, is_eq, match_ordering}
use Rattle.std.specs.FinMap.{nat_cmp-IsAntisymmetric}
use Rattle.std.specs.Cmp.{nat_cmp_total}
use Rattle.std.proofs.lemmas.Map.{lookup-none}
use Rattle.std.proofs.lemmas.Map.Entries.{none_below_head}
use Rattle.std.proofs.lemmas.Map.Keys.{sorted_tail}
use Rattle.std.proofs.lemmas.Map.Steps.{set_value_same}
use Rattle.arj_protocol.proofs.Maps.{put_other, put_same}
use Rattle.arj_protocol.specs.Order.{at_number, put_number}
use Rattle.arj_protocol.specs.Tree.{Family}
use Rattle.arj_tree.specs.Tally.{Families, family_in, changed, AreWithin}

pub put_found : {X : Type 0} (x : ℕ) (v : X) (es : List (ℕ × X)) → IsStrictlySortedBy nat_cmp (keys_of es) →
    IsSome (lookup (is_at (nat_cmp x)) es) → set_value (is_at (nat_cmp x)) es v ≡ put_number x v es
put_found x v [] sorted there = absurd (cc there)
put_found {X} x v (e ∷ es) sorted there =
    by (nat_cmp x e.0) refl (λ more. put_found x v es (sorted_tail nat_cmp e.0 (keys_of es) sorted) more) there
  where
    by : (r : Ordering) → nat_cmp x e.0 ≡ r →
        (IsSome (lookup (is_at (nat_cmp x)) es) → set_value (is_at (nat_cmp x)) es v ≡ put_number x v es)
        → IsSome (cond (is_eq r) (Some e.1) (lookup (is_at (nat_cmp x)) es))
        → cond (is_eq r) ((e.0, v) ∷ es) (e ∷ set_value (is_at (nat_cmp x)) es v) ≡ match_ordering r ((x, v) ∷ e ∷ es) ((e.0, v) ∷ es) (e ∷ put_number x v es)
    by Less is ih more =
        absurd (cc (subst IsSome (lookup-none (is_at (nat_cmp x)) (e ∷ es) (none_below_head nat_cmp_total x e es sorted is)) there))
    by Equal is ih more = refl
    by Greater is ih more = ap (λ rest. e ∷ rest) (ih more)

pub on_err : {T E : Type 0} {P : Type 0} (r : Result T E) → P → OnErr r P
on_err (Ok x) p = tt
on_err (Err e) p = p

-- what was found and is written back as it was changes nothing
pub written_back : (root : ℕ) (m kept es : Families) (c new : Family) → m ≡ kept → at_number root m ≡ Some c →
    es ≡ set_value (is_at (nat_cmp root)) m new → new ≡ c → es ≡ kept
written_back root m kept es c new same at written is =
    written ∙ (ap (set_value (is_at (nat_cmp root)) m) is ∙ (set_value_same (is_at (nat_cmp root)) m c at ∙ same))

-- what was found and is written back changed
pub changed_found : (f : Family → Family) (root : ℕ) (m kept es : Families) (c new : Family) → m ≡ kept → at_number root m ≡ Some c →
    IsStrictlySortedBy nat_cmp (keys_of m) → es ≡ set_value (is_at (nat_cmp root)) m new → new ≡ f c → es ≡ changed f root kept
changed_found f root m kept es c new same at sorted written is =
    let there : IsSome (at_number root m) = subst IsSome (sym at) refl in
    let found : new ≡ f (family_in root m) = is ∙ ap (λ o. f (unwrap_or o (record { ends = []; actions = 0; objects = [] }))) (sym at) in
    written ∙ put_found root new m sorted there ∙ ap (λ v. put_number root v m) found ∙ ap (λ (ks : Families). changed f root ks) same

-- each root's count stays within a limit, where the changed one does
pub within_changed : (f : Family → Family) (a b root : ℕ) (m : Families) → AreWithin a m → a ≤ b → (f (family_in root m)).actions ≤ b →
    AreWithin b (changed f root m)
within_changed f a b root m within le here other = by (nat_cmp other root) refl
  where
    v : Family
    v = f (family_in root m)

    elsewhere : is_eq (nat_cmp other root) ≡ false → (family_in other (put_number root v m)).actions ≤ b
    elsewhere apart = rw (put_other root other v m apart) (omega (arith, within other, le))

    by : (r : Ordering) → nat_cmp other root ≡ r → (family_in other (put_number root v m)).actions ≤ b
    by Less is = elsewhere (ap is_eq is)
    by Equal is = let same : other ≡ root = nat_cmp-IsAntisymmetric other root is in rw same (rw (put_same root v m) here)
    by Greater is = elsewhere (ap is_eq is)
