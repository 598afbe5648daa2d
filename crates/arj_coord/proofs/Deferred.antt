-- Records of commits without one of them.
use Rattle.std.proofs.Common.{◌≡◌, ℕ, List, [], ◌∷◌, Bool, true, false, refl, ap, sym, ◌∙◌, ◌||◌, cond, subst}
use Rattle.std.specs.List.{list_any, AllByRecursion}
use Rattle.std.specs.List.Sorted.{IsStrictlySortedBy}
use Rattle.std.specs.Map.{keys_of}
use Rattle.std.specs.declared.cmp.Ordering.{Ordering}
use Rattle.std.specs.declared.cmp.Ordering.TheVariants.{Less, Equal, Greater}
use Rattle.std.specs.Ordering.{is_eq}
use Rattle.arj_coord.specs.Ended.{deferred_but}
use Rattle.arj_base.proofs.Uids.{uid_same, uid_is}
use Rattle.arj_intent.proofs.Entries.{order_exact, order_itself}
use Rattle.arj_protocol.specs.Effect.{Intent}
use Rattle.arj_protocol.specs.Ending.{is_deferred, is_member_of}
use Rattle.arj_protocol.specs.Order.{without_uid}
use Rattle.arj_protocol.specs.Words.{Uid, uid_eq, uid_order}

-- a Uid in order before or behind another one isn't that
apart : (u w : Uid) (o : Ordering) → uid_order u w ≡ o → is_eq o ≡ false → uid_eq w u ≡ false
apart u w o is isnt = by (uid_eq w u) refl
  where
    by : (t : Bool) → uid_eq w u ≡ t → t ≡ false
    by true same =
        let equal : w ≡ u =
        uid_is w u same in let never : true ≡ false = ap is_eq (sym (order_itself u) ∙ ap (uid_order u) (sym equal) ∙ is) ∙ isnt in never
    by false same = refl

-- where none of these is of the top, all count
all_count : (u root : Uid) (n : ℕ) (es : List (Uid × Intent)) → AllByRecursion (λ w. uid_order u w ≡ Less) (keys_of es) →
    list_any (is_member_of root n) es ≡ deferred_but u root n es
all_count u root n [] below = refl
all_count u root n (e ∷ es) below =
    rw (apart u e.0 Less below.0 refl) (ap (λ r. is_member_of root n e || r) (all_count u root n es below.1))

-- without the record of a top
pub deferred_is : (u root : Uid) (n : ℕ) (es : List (Uid × Intent)) → IsStrictlySortedBy uid_order (keys_of es) →
    is_deferred root (without_uid u es) n ≡ deferred_but u root n es
unfolding IsStrictlySortedBy
deferred_is u root n [] sorted = refl
deferred_is u root n (e ∷ es) sorted = by (uid_order u e.0) refl (deferred_is u root n es sorted.1)
  where
    by : (o : Ordering) → uid_order u e.0 ≡ o → list_any (is_member_of root n) (without_uid u es) ≡ deferred_but u root n es
        → list_any (is_member_of root n) (cond (is_eq o) es (e ∷ without_uid u es)) ≡ deferred_but u root n (e ∷ es)
    by Less is ih = rw (apart u e.0 Less is refl) (ap (λ r. is_member_of root n e || r) ih)
    by Equal is ih =
        let same : u ≡ e.0 = order_exact u e.0 is in
        let here : uid_eq e.0 u ≡ true = ap (λ w. uid_eq w u) (sym same) ∙ uid_same u in
        rw here (all_count u root n es (subst (λ w. AllByRecursion (λ v. uid_order w v ≡ Less) (keys_of es)) (sym same) sorted.0))
    by Greater is ih = rw (apart u e.0 Greater is refl) (ap (λ r. is_member_of root n e || r) ih)
