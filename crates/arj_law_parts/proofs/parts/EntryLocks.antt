-- Each step of a lock table keeps the locks on an entry good.
use Rattle.arj_law_parts.proofs.Words
use Words.{◌≡◌, ◌⊎◌, ℕ, List, [], ◌∷◌, Bool, true, false, cond, not, ◌&&◌, ◌||◌, Option, Some, None, refl, sym, ◌∙◌, ap, subst, inl, inr}
use Words.{⊎_elim, Contains, list_any, or_parts, or_cases, or_left, or_right, false_from_ne_true, Read, Uid, before_last, Row, last_uid}
use Words.{front, is_on, has_any, has_row, is_row_of, is_held_by, grant_row, drop_rows, lower_row, pass_rows, first_conflict, strengthened}
use Words.{uid_eq, entry, uid_same, uid_is, CameBy, stayed, passed_on, In, in_from, in_to, in_filter, in_map, one_each_grant}
use Words.{one_each_filter, one_each_map, one_each_pass, grant_each, grant_any, kept_any, gone_any, came_by, pass_fewer}
use Rattle.arj_law_parts.proofs.Terms.{Told, AreGoodRows, Owners, stands_above, IsTop, IsHolder}
use Rattle.arj_lock.proofs.{Apart.apart_filter, Apart.apart_lower, Apart.apart_grant, Apart.apart_pass, Leaves.lower_any}
use Rattle.arj_lock.specs.Exclusion.{StandsBelow, IsRightAbove, MayPass}

never : {P : Type 0} (b : Bool) → b ≡ true → b ≡ false → P
never b holds fails = let no_way : true ≡ false = sym holds ∙ fails in cc

-- Who stands above whom.

itself : (owner : Owners) (u : Uid) → stands_above owner u u ≡ true
itself owner u = or_left (uid_eq u u) (uid_eq u (owner u)) (uid_same u)

its_owner : (owner : Owners) (u : Uid) → stands_above owner u (owner u) ≡ true
its_owner owner u = or_right (uid_eq (owner u) u) (uid_eq (owner u) (owner u)) (uid_same (owner u))

-- whoever is on the path of a holder is the action or its owner
pub on_holder : (owner : Owners) (us : List Uid) → IsHolder owner us → (b : Uid) → is_on us b ≡ true →
    (last_uid us ≡ b) ⊎ ((owner (last_uid us) ≡ b) × (uid_eq (owner (last_uid us)) (last_uid us) ≡ false))
on_holder owner us (inl own) b on = ⊎_elim (λ same. inl (uid_is (last_uid us) b same)) (λ none. never false none refl)
    (or_cases (uid_eq (last_uid us) b) false (subst (λ vs. is_on vs b ≡ true) own on))
on_holder owner us (inr own) b on =
    ⊎_elim (λ same. inr (uid_is (owner (last_uid us)) b same, own.1))
    (λ rest.
    ⊎_elim (λ same. inl (uid_is (last_uid us) b same)) (λ none. never false none refl) (or_cases (uid_eq (last_uid us) b) false rest))
    (or_cases (uid_eq (owner (last_uid us)) b) (uid_eq (last_uid us) b || false) (subst (λ vs. is_on vs b ≡ true) own.0 on))

-- and stands above it
holder_below : (owner : Owners) (us : List Uid) → IsHolder owner us → StandsBelow (stands_above owner) us
holder_below owner us h = (itself owner (last_uid us), λ b on. by b (on_holder owner us h b on))
  where
    by : (b : Uid) → (last_uid us ≡ b) ⊎ ((owner (last_uid us) ≡ b) × (uid_eq (owner (last_uid us)) (last_uid us) ≡ false)) →
        stands_above owner (last_uid us) b ≡ true
    by b (inl same) = subst (λ w. stands_above owner (last_uid us) w ≡ true) same (itself owner (last_uid us))
    by b (inr f) = subst (λ w. stands_above owner (last_uid us) w ≡ true) f.0 (its_owner owner (last_uid us))

pub good_none : (owner : Owners) (told : Told) (x : ℕ) → AreGoodRows owner told x []
good_none owner told x =
    record { objects = λ r c. none r c; holders = λ r c. none r c; apart = λ r s c d same conflict. none r c; one = tt; none = λ u e. refl }
  where
    none : {P : Type 0} (r : Row) → Contains [] r → P
    none r c = absurd (in_from r [] c)

-- ---- grant

module _ (owner : Owners) (told : Told) (x : ℕ) (new : Row) (rows : List Row) (good : AreGoodRows owner told x rows) where
  pub good_grant : new.object ≡ entry x → IsHolder owner new.holder → first_conflict new.holder new.object new.mode rows ≡ None →
      ((u : Uid) → told u ≡ true → is_on new.holder u ≡ false) → AreGoodRows owner told x (grant_row new rows)
  good_grant object holder free untold =
      record {
        objects = λ r c. ⊎_elim (λ i. good.objects r (in_to r rows i)) (λ s. ⊎_elim (λ same. ap (λ (q : Row). q.object) same ∙ object)
            (λ f. ap (λ (q : Row). q.object) f.3 ∙ good.objects f.0 (in_to f.0 rows f.1)) s)
            (grant_each new r rows (in_from r (grant_row new rows) c));
        holders = λ r c. ⊎_elim (λ i. good.holders r (in_to r rows i)) (λ s. ⊎_elim (λ same. subst (λ (q : Row). IsHolder owner q.holder)
            (sym same) holder) (λ f. subst (λ (q : Row). IsHolder owner q.holder) (sym f.3) (good.holders f.0 (in_to f.0 rows f.1))) s)
            (grant_each new r rows (in_from r (grant_row new rows) c));
        apart = apart_grant (stands_above owner) new rows (holder_below owner new.holder holder) free good.apart;
        one = one_each_grant new rows good.one;
        none = λ u e. grant_any new rows u ∙ (λ i. good.none u e i || (not (has_row new.object (last_uid new.holder) rows) && untold u e i))
            ∙ and_false (not (has_row new.object (last_uid new.holder) rows));
      }
    where
      and_false : (b : Bool) → (b && false) ≡ false
      and_false true = refl
      and_false false = refl

-- ---- lower

lowered_holder : (action object : Uid) (row : Row) →
    (cond (is_row_of object action row) (record row { mode = Read }) row).holder ≡ row.holder
lowered_holder action object row = by (is_row_of object action row)
  where
    by : (b : Bool) → (cond b (record row { mode = Read }) row).holder ≡ row.holder
    by true = refl
    by false = refl

lowered_object : (action object : Uid) (row : Row) →
    (cond (is_row_of object action row) (record row { mode = Read }) row).object ≡ row.object
lowered_object action object row = by (is_row_of object action row)
  where
    by : (b : Bool) → (cond b (record row { mode = Read }) row).object ≡ row.object
    by true = refl
    by false = refl

pub good_lower : (owner : Owners) (told : Told) (x : ℕ) (action object : Uid) (rows : List Row) → AreGoodRows owner told x rows →
    AreGoodRows owner told x (lower_row action object rows)
good_lower owner told x action object rows good =
    record {
      objects = λ r c. let f = in_map (λ row. cond (is_row_of object action row) (record row { mode = Read }) row) r rows
          (in_from r (lower_row action object rows) c) in
          ap (λ (q : Row). q.object) (sym f.2) ∙ lowered_object action object f.0 ∙ good.objects f.0 (in_to f.0 rows f.1);
      holders = λ r c. let f = in_map (λ row. cond (is_row_of object action row) (record row { mode = Read }) row) r rows
          (in_from r (lower_row action object rows) c) in subst (IsHolder owner)
          (sym (lowered_holder action object f.0) ∙ ap (λ (q : Row). q.holder) f.2) (good.holders f.0 (in_to f.0 rows f.1));
      apart = apart_lower (stands_above owner) action object rows good.apart;
      one = one_each_map (λ row. cond (is_row_of object action row) (record row { mode = Read }) row) rows (lowered_object action object)
          (lowered_holder action object) good.one;
      none = λ u e. lower_any action object rows u ∙ good.none u e;
    }

-- ---- the end of an action

any_less : (q p : Row → Bool) (rows : List Row) → list_any q rows ≡ false → list_any (λ r. q r && p r) rows ≡ false
any_less q p [] e = refl
any_less q p (r ∷ rows) e = let f = or_parts (q r) (list_any q rows) e in (λ i. (f.0 i && p r) || any_less q p rows f.1 i)

pub good_drop : (owner : Owners) (told later : Told) (x : ℕ) (action : Uid) (rows : List Row) → ((u : Uid) → later u ≡ true →
    (told u ≡ true) ⊎ (u ≡ action)) → AreGoodRows owner told x rows → AreGoodRows owner later x (drop_rows action rows)
good_drop owner told later x action rows now good =
    record {
      objects = λ r c. good.objects r (in_to r rows (kept r c));
      holders = λ r c. good.holders r (in_to r rows (kept r c));
      apart = apart_filter (stands_above owner) (λ row. not (is_on row.holder action)) rows good.apart;
      one = one_each_filter (λ row. not (is_on row.holder action)) rows good.one;
      none = λ u e. ⊎_elim (λ old. kept_any (λ row. is_on row.holder u) (λ row. not (is_on row.holder action)) rows
          ∙ any_less (λ row. is_on row.holder u) (λ row. not (is_on row.holder action)) rows (good.none u old))
          (λ same. ap (λ w. has_any w (drop_rows action rows)) same ∙ gone_any action rows) (now u e);
    }
  where
    kept : (r : Row) → Contains (drop_rows action rows) r → In r rows
    kept r c = (in_filter (λ row. not (is_on row.holder action)) r rows (in_from r (drop_rows action rows) c)).0

held_is : (action : Uid) (r : Row) → is_held_by action r ≡ true → last_uid r.holder ≡ action
held_is action r e = uid_is (last_uid r.holder) action e

strengthened_holder : (r : Row) (o : Option Row) → (strengthened r o).holder ≡ r.holder
strengthened_holder r None = refl
strengthened_holder r (Some s) = refl

strengthened_object : (r : Row) (o : Option Row) → (strengthened r o).object ≡ r.object
strengthened_object r None = refl
strengthened_object r (Some s) = refl

any_none : (q : Row → Bool) (rows : List Row) → ((r : Row) → In r rows → q r ≡ false) → list_any q rows ≡ false
any_none q [] h = refl
any_none q (r ∷ rows) h = (λ i. h r (inl refl) i || any_none q rows (λ s j. h s (inr j)) i)

module _ (owner : Owners) (told later : Told) (x : ℕ) (action : Uid) (rows : List Row) (top : IsTop owner action)
    (good : AreGoodRows owner told x rows) where
  -- a row of the top passes to its owner, and one of the owner alone comes back
  handed : (r : Row) → In r rows → last_uid r.holder ≡ action → (heir : Uid) → before_last r.holder ≡ Some heir →
      (front r.holder ≡ heir ∷ []) × (heir ≡ owner action) × (uid_eq heir action ≡ false)
  handed r i own heir parent = by (good.holders r (in_to r rows i))
    where
      by : IsHolder owner r.holder → (front r.holder ≡ heir ∷ []) × (heir ≡ owner action) × (uid_eq heir action ≡ false)
      by (inl alone) = let e : ◌≡◌ {A = Option Uid} None (Some heir) = ap before_last (sym alone) ∙ parent in cc
      by (inr behind) =
          let e : ◌≡◌ {A = Option Uid} (Some (owner (last_uid r.holder))) (Some heir) = ap before_last (sym behind.0) ∙ parent in
          let is : owner (last_uid r.holder) ≡ heir = cc in
          let its : heir ≡ owner action = sym is ∙ ap owner own in (
            ap front behind.0 ∙ (λ k. is k ∷ []),
            its,
            (λ k. uid_eq (its k) (sym own k)) ∙ (λ k. uid_eq (owner (sym own k)) (last_uid r.holder)) ∙ behind.1,
          )

  may_pass : MayPass (stands_above owner) action rows
  may_pass = record {
    heirs = λ r c own heir parent. let h = handed r (in_from r rows c) own heir parent in
        subst (IsRightAbove (stands_above owner) action) (sym h.1) (record {
          above = its_owner owner action;
          nearest = λ b on. ⊎_elim (λ same. inl (uid_is b action same)) (λ same. inr (or_left (uid_eq b (owner action))
              (uid_eq b (owner (owner action))) same)) (or_cases (uid_eq b action) (uid_eq b (owner action)) on);
        });
    lowest = λ r c on. ⊎_elim (λ same. sym (uid_is action (last_uid r.holder) same)) (λ same. top (last_uid r.holder) (sym (uid_is action
        (owner (last_uid r.holder)) same))) (or_cases (uid_eq action (last_uid r.holder)) (uid_eq action (owner (last_uid r.holder))) on);
  }

  -- after the pass the top is on no path
  gone : (y : Row) → In y (pass_rows action rows) → is_on y.holder action ≡ false
  gone y i = by (came_by action rows y i)
    where
      by : CameBy action rows y → is_on y.holder action ≡ false
      by (stayed r there other is) =
          let same : y.holder ≡ r.holder = ap (λ (q : Row). q.holder) is ∙ strengthened_holder r _ in
          false_from_ne_true (is_on y.holder action) (λ on.
          its r there other (on_holder owner r.holder (good.holders r there) action (subst (λ us. is_on us action ≡ true) same on)))
        where
          its : (r : Row) → Contains rows r → is_held_by action r ≡ false → (last_uid r.holder ≡ action)
              ⊎ ((owner (last_uid r.holder) ≡ action) × (uid_eq (owner (last_uid r.holder)) (last_uid r.holder) ≡ false)) → ⊥
          its r there other (inl same) =
              never (is_held_by action r) (subst (λ u. uid_eq (last_uid r.holder) u ≡ true) same (uid_same (last_uid r.holder))) other
          its r there other (inr f) = let same = top (last_uid r.holder) f.0 in
              never (is_held_by action r) (subst (λ u. uid_eq (last_uid r.holder) u ≡ true) same (uid_same (last_uid r.holder))) other
      by (passed_on r there own heir parent free is) =
          let h = handed r (in_from r rows there) (held_is action r own) heir parent in
          let same : y.holder ≡ heir ∷ [] = ap (λ (q : Row). q.holder) is ∙ h.0 in
          (λ k. is_on (same k) action) ∙ (λ k. h.2 k || false)

  pub good_pass : ((u : Uid) → later u ≡ true → (told u ≡ true) ⊎ (u ≡ action)) → AreGoodRows owner later x (pass_rows action rows)
  good_pass now =
      record {
        objects = λ y c. objects y (came_by action rows y (in_from y (pass_rows action rows) c));
        holders = λ y c. holders y (came_by action rows y (in_from y (pass_rows action rows) c));
        apart = apart_pass (stands_above owner) action rows may_pass good.apart;
        one = one_each_pass action rows good.one;
        none = λ u e. ⊎_elim (λ old. false_from_ne_true (has_any u (pass_rows action rows)) (λ some. never (has_any u rows)
            (pass_fewer action rows u some) (good.none u old))) (λ same. ap (λ w. has_any w (pass_rows action rows)) same
            ∙ any_none (λ row. is_on row.holder action) (pass_rows action rows) gone) (now u e);
      }
    where
      objects : (y : Row) → CameBy action rows y → y.object ≡ entry x
      objects y (stayed r there other is) = ap (λ (q : Row). q.object) is ∙ strengthened_object r _ ∙ good.objects r there
      objects y (passed_on r there own heir parent free is) = ap (λ (q : Row). q.object) is ∙ good.objects r there

      holders : (y : Row) → CameBy action rows y → IsHolder owner y.holder
      holders y (stayed r there other is) =
          subst (IsHolder owner) (sym (ap (λ (q : Row). q.holder) is ∙ strengthened_holder r _)) (good.holders r there)
      holders y (passed_on r there own heir parent free is) =
          let h = handed r (in_from r rows there) (held_is action r own) heir parent in
          let same : y.holder ≡ heir ∷ [] = ap (λ (q : Row). q.holder) is ∙ h.0 in
          subst (IsHolder owner) (sym same) (inl refl)
