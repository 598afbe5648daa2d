-- A value written at a key that is there is put there.
use Rattle.std.proofs.Common.{◌≡◌, ℕ, List, [], ◌∷◌, refl, ap, sym, ◌∙◌, subst, cond, Some}
use Rattle.std.specs.Prelude.{IsSome, OnErr, Result, Ok, Err}
use Rattle.std.specs.BTreeMap.{is_at}
use Rattle.std.specs.List.Sorted.{IsStrictlySortedBy}
use Rattle.std.specs.Map.{keys_of, lookup, set_value}
use Rattle.std.specs.declared.cmp.Ordering.{Ordering}
use Rattle.std.specs.declared.cmp.Ordering.TheVariants.{Less, Equal, Greater}
use Rattle.std.specs.Ordering.{nat_cmp, is_eq, match_ordering}
use Rattle.std.specs.Cmp.{nat_cmp_total}
use Rattle.std.proofs.lemmas.Map.{lookup-none}
use Rattle.std.proofs.lemmas.Map.Entries.{none_below_head}
use Rattle.std.proofs.lemmas.Map.Keys.{sorted_tail}
use Rattle.std.proofs.lemmas.Map.Steps.{set_value_same}
use Rattle.arj_base.specs.declared.path.Path.{Path}
use Rattle.arj_class.specs.declared.op.Op.{Op}
use Rattle.arj_protocol.specs.Copy.{Copy, ask_copy, invoke_copy}
use Rattle.arj_protocol.specs.Order.{at_number, put_number}
use Rattle.arj_manager.specs.Manager.{Copies, invoke_at, invoke_in}
use Rattle.arj_manager.specs.Ran.{IsRun, MayRun}
use Rattle.arj_manager.specs.declared.ran.Ran.{Ran}

pub put_found : {X : Type 0} (x : ℕ) (v : X) (es : List (ℕ × X)) → IsStrictlySortedBy nat_cmp (keys_of es) →
    IsSome (lookup (is_at (nat_cmp x)) es) → set_value (is_at (nat_cmp x)) es v ≡ put_number x v es
put_found x v [] sorted there = absurd (cc there)
put_found {X} x v (e ∷ es) sorted there =
    by (nat_cmp x e.0) refl (λ more. put_found x v es (sorted_tail nat_cmp e.0 (keys_of es) sorted) more) there
  where
    by : (r : Ordering) → nat_cmp x e.0 ≡ r →
        (IsSome (lookup (is_at (nat_cmp x)) es) → set_value (is_at (nat_cmp x)) es v ≡ put_number x v es)
        → IsSome (cond (is_eq r) (Some e.1) (lookup (is_at (nat_cmp x)) es))
        → cond (is_eq r) ((e.0, v) ∷ es) (e ∷ set_value (is_at (nat_cmp x)) es v) ≡ match_ordering r ((x, v) ∷ e ∷ es) ((e.0, v) ∷ es) (e ∷ put_number x v es)
    by Less is ih more =
        absurd (cc (subst IsSome (lookup-none (is_at (nat_cmp x)) (e ∷ es) (none_below_head nat_cmp_total x e es sorted is)) there))
    by Equal is ih more = refl
    by Greater is ih more = ap (λ rest. e ∷ rest) (ih more)

pub on_err : {T E : Type 0} {P : Type 0} (r : Result T E) → P → OnErr r P
on_err (Ok x) p = tt
on_err (Err e) p = p

-- a copy that is written back as it was found changes nothing
pub put_same : (x : ℕ) (m kept es : Copies) (c new : Copy) → m ≡ kept → at_number x m ≡ Some c → es ≡ set_value (is_at (nat_cmp x)) m new →
    new ≡ c → es ≡ kept
put_same x m kept es c new same at written is =
    written ∙ (ap (set_value (is_at (nat_cmp x)) m) is ∙ (set_value_same (is_at (nat_cmp x)) m c at ∙ same))

-- a copy that did an operation is written back as the protocol puts it back
pub put_ran : (x : ℕ) (p : Path) (op : Op) (m shown es : Copies) (c new : Copy) (ran : Ran) → m ≡ shown → at_number x m ≡ Some c →
    IsStrictlySortedBy nat_cmp (keys_of m) → es ≡ set_value (is_at (nat_cmp x)) m new
    → MayRun p x op c → IsRun p x op c new ran → (n : ℕ) → es ≡ (invoke_in n p x op shown).part
put_ran x p op m shown es c new ran same at sorted written may is n =
    let there : IsSome (at_number x m) = subst IsSome (sym at) refl in
    let done : new ≡ (invoke_copy n p x op c).part = is.part ∙ (λ i. (ask_copy n p x op c (sym may.free i)).part) in
    written
    ∙ (put_found x new m sorted there
    ∙ ((λ i. put_number x (done i) m) ∙ ((λ i. (invoke_at n p x op m (sym at i)).part) ∙ ap (λ (m : Copies). (invoke_in n p x op m).part) same)))
