-- What is found where a value was written, and where it was put.
use Rattle.std.proofs.Common.{◌≡◌, ◌∙◌, Bool, true, false, cond, List, ap, refl, sym, subst, Some}
use Rattle.std.specs.Prelude.{IsSome}
use Rattle.std.specs.BTreeMap.{is_at}
use Rattle.std.specs.Cmp.{IsTotalOrder, eq_by_cmp_equiv}
use Rattle.std.specs.Map.{lookup, set_value}
use Rattle.std.specs.Ordering.{eq_by_cmp, is_eq}
use Rattle.std.specs.declared.cmp.Ordering.{Ordering}
use Rattle.std.proofs.lemmas.Map.{lookup-set_value}
use Rattle.arj_base.specs.Order.{uid_order}
use Rattle.arj_base.specs.Uid.{uid_eq}
use Rattle.arj_base.specs.declared.uid.Uid.{Uid}
use Rattle.arj_base.proofs.Uids.{uid_is, uid_sym}
use Rattle.arj_protocol.specs.Order.{at_uid, put_uid}
use Rattle.arj_law_store.proofs.store.Keys.{put_here, put_other, tied_is, tied as tied_uid, total}

pub written_at : {K X : Type 0} (cmp : K → K → Ordering) → IsTotalOrder cmp → ((x y : K) → is_eq (cmp x y) ≡ true → x ≡ y) →
    (k : K) (v : X) (m : List (K × X)) → IsSome (lookup (is_at (cmp k)) m)
    → (q : K) → lookup (is_at (cmp q)) (set_value (is_at (cmp k)) m v) ≡ cond (is_eq (cmp k q)) (Some v) (lookup (is_at (cmp q)) m)
written_at cmp order exact k v m there q =
    lookup-set_value {eq = eq_by_cmp cmp} (eq_by_cmp_equiv order) (is_at (cmp k)) (λ y z is. λ i. is_eq (cmp (exact k y is i) z)) q v m there

module _ {X : Type 0} where
  -- by Uid, where one was there
  pub written_uid : (k : Uid) (x v : X) (old new : List (Uid × X)) → at_uid k old ≡ Some x → new ≡ set_value (is_at (uid_order k)) old v →
      (u : Uid) → at_uid u new ≡ cond (is_eq (uid_order k u)) (Some v) (at_uid u old)
  written_uid k x v old new at written u =
      ap (at_uid u) written ∙ written_at uid_order total tied_uid k v old (subst IsSome (sym at) refl) u

  -- and where it is put, whatever was there
  pub put_uid_at : (k : Uid) (v : X) (m : List (Uid × X)) (u : Uid) → at_uid u (put_uid k v m) ≡ cond (uid_eq k u) (Some v) (at_uid u m)
  put_uid_at k v m u = by (uid_eq k u) refl
    where
      by : (b : Bool) → uid_eq k u ≡ b → at_uid u (put_uid k v m) ≡ cond b (Some v) (at_uid u m)
      by true is = (λ i. at_uid (sym (uid_is k u is) i) (put_uid k v m)) ∙ put_here k v m
      by false isnt = put_other k u v m (tied_is u k ∙ isnt)

-- the two tests of one Uid
pub tests_are : (k u : Uid) → is_eq (uid_order k u) ≡ uid_eq k u
tests_are k u = tied_is k u ∙ uid_sym u k
