-- What holds of each state of a map by Uid holds after a change.
use Rattle.arj_law_store.proofs.Terms
use Terms.{◌≡◌, Bool, true, false, cond, List, [], ◌∷◌, refl, sym, subst, Some, IfSome, AllByRecursion, is_eq, match_ordering, Ordering}
use Terms.{Less, Equal, Greater, uid_order, Uid, at_uid, put_uid, without_uid}
use Rattle.arj_law_store.proofs.store.Keys.{order_exact}

module _ {X : Type 0} (P : Uid → X → Type 0) where
  pub all_without : (u : Uid) (es : List (Uid × X)) → AllByRecursion (λ (e : Uid × X). P e.0 e.1) es →
      AllByRecursion (λ (e : Uid × X). P e.0 e.1) (without_uid u es)
  all_without u [] all = tt
  all_without u (e ∷ es) all = by (is_eq (uid_order u e.0)) (all_without u es all.1)
    where
      by : (b : Bool) → AllByRecursion (λ (e : Uid × X). P e.0 e.1) (without_uid u es) →
          AllByRecursion (λ (e : Uid × X). P e.0 e.1) (cond b es (e ∷ without_uid u es))
      by true rest = all.1
      by false rest = (all.0, rest)

  pub all_put : (u : Uid) (x : X) (es : List (Uid × X)) → AllByRecursion (λ (e : Uid × X). P e.0 e.1) es → P u x →
      AllByRecursion (λ (e : Uid × X). P e.0 e.1) (put_uid u x es)
  all_put u x [] all p = (p, tt)
  all_put u x (e ∷ es) all p = by (uid_order u e.0) refl (all_put u x es all.1 p)
    where
      by : (o : Ordering) → uid_order u e.0 ≡ o → AllByRecursion (λ (e : Uid × X). P e.0 e.1) (put_uid u x es) →
          AllByRecursion (λ (e : Uid × X). P e.0 e.1) (match_ordering o ((u, x) ∷ e ∷ es) ((e.0, x) ∷ es) (e ∷ put_uid u x es))
      by Less is rest = (p, all)
      by Equal is rest = (subst (λ w. P w x) (order_exact u e.0 is) p, all.1)
      by Greater is rest = (all.0, rest)

  pub found : (u : Uid) (es : List (Uid × X)) → AllByRecursion (λ (e : Uid × X). P e.0 e.1) es → IfSome (at_uid u es) (P u)
  found u [] all = tt
  found u (e ∷ es) all = by (uid_order u e.0) refl (found u es all.1)
    where
      by : (o : Ordering) → uid_order u e.0 ≡ o → IfSome (at_uid u es) (P u) → IfSome (cond (is_eq o) (Some e.1) (at_uid u es)) (P u)
      by Less is rest = rest
      by Greater is rest = rest
      by Equal is rest = subst (λ w. P w e.1) (sym (order_exact u e.0 is)) all.0
