-- The row steps keep conflicting rows of one object with related holders, whatever relation the caller gives.
use Rattle.std.proofs.Common.{◌≡◌, ◌≢◌, ◌⊎◌, List, Bool, true, false, Some, None, sym, ◌∙◌, ap, inl, inr, filter}
use Rattle.std.proofs.lemmas.Bool.{and_parts}
use Rattle.arj_base.specs.declared.uid.Uid.{Uid}
use Rattle.arj_base.specs.Mode.{conflicting, stronger}
use Rattle.arj_base.specs.Path.{before_last}
use Rattle.arj_base.specs.Rows.{Row, last_uid, is_row_of, is_held_by, grant_row, pass_rows, lower_row, first_conflict}
use Rattle.arj_base.specs.Uid.{uid_eq}
use Rattle.arj_base.proofs.Uids.{uid_is, uid_same}
use Rattle.arj_lock.specs.Exclusion.{AreRelated, AreApart, StandsBelow, IsRightAbove, MayPass}
use Rattle.arj_lock.proofs.Leaves.{grant_each, IsRaised}
use Rattle.arj_lock.proofs.Exclusion.{conflict_sym, conflict_parts, on_path, lowered}
use Rattle.arj_lock.proofs.Members.{In, in_from, in_to, in_filter}
use Rattle.arj_lock.proofs.Passing.{IsOwn, IsHeirs, Share, is_passed}

turned : (on : Uid → Uid → Bool) (a b : Uid) → AreRelated on b a → AreRelated on a b
turned on a b (inl is) = inr is
turned on a b (inr is) = inl is

pub apart_filter : (on : Uid → Uid → Bool) (p : Row → Bool) (rows : List Row) → AreApart on rows → AreApart on (filter p rows)
apart_filter on p rows apart = λ r s c d.
    apart r s (in_to r rows (in_filter p r rows (in_from r (filter p rows) c)).0) (in_to s rows (in_filter p s rows (in_from s (filter p rows) d)).0)

pub apart_lower : (on : Uid → Uid → Bool) (action object : Uid) (rows : List Row) → AreApart on rows →
    AreApart on (lower_row action object rows)
apart_lower on action object rows apart = λ r s c d same conflict.
    let l = lowered action object r rows (in_from r (lower_row action object rows) c) in
    let k = lowered action object s rows (in_from s (lower_row action object rows) d) in
    let first = l.conflicts s.mode conflict in
    let second = k.conflicts l.row.mode (conflict_sym s.mode l.row.mode ∙ first) in
    let related =
    apart l.row k.row (in_to l.row rows l.there) (in_to k.row rows k.there) (l.object ∙ same ∙ sym k.object) (conflict_sym l.row.mode k.row.mode ∙ second) in
    moved (last_uid l.row.holder) (last_uid k.row.holder) (last_uid r.holder) (last_uid s.holder) (ap last_uid l.holder) (ap last_uid k.holder) related
  where
    moved : (a b c d : Uid) → a ≡ c → b ≡ d → AreRelated on a b → AreRelated on c d
    moved a b c d e f (inl is) = inl ((λ i. on (sym e i) (sym f i)) ∙ is)
    moved a b c d e f (inr is) = inr ((λ i. on (sym f i) (sym e i)) ∙ is)

-- A grant.

-- what a row after a grant conflicts with, its old one or the new one conflicts with, and all three have one holder
grant_one : (on : Uid → Uid → Bool) (new y z : Row) (rows : List Row) → StandsBelow on new.holder →
    first_conflict new.holder new.object new.mode rows ≡ None → AreApart on rows
    → (y ≡ new) ⊎ IsRaised new rows y → In z rows → y.object ≡ z.object → conflicting y.mode z.mode ≡ true →
    AreRelated on (last_uid y.holder) (last_uid z.holder)
grant_one on new y z rows below free apart from j same conflict = by from
  where
    -- the new mode conflicts: whoever has it is on the path
    by_new : y.object ≡ new.object → last_uid y.holder ≡ last_uid new.holder → conflicting new.mode z.mode ≡ true →
        AreRelated on (last_uid y.holder) (last_uid z.holder)
    by_new object last c =
        let here : uid_eq z.object new.object ≡ true = ap (λ u. uid_eq u new.object) (sym same ∙ object) ∙ uid_same new.object in
        inl (ap (λ u. on u (last_uid z.holder)) last ∙ below.1 (last_uid z.holder) (on_path new z rows free j here (conflict_sym z.mode new.mode ∙ c)))

    raised : (x : Row) → In x rows → is_row_of new.object (last_uid new.holder) x ≡ true → y ≡ record x { mode = stronger x.mode new.mode }
        → (conflicting x.mode z.mode ≡ true) ⊎ (conflicting new.mode z.mode ≡ true) → AreRelated on (last_uid y.holder) (last_uid z.holder)
    raised x i own is (inl c) =
        let last : last_uid x.holder ≡ last_uid y.holder = sym (ap (λ r. last_uid r.holder) is) in
        moved last (apart x z (in_to x rows i) (in_to z rows j) (sym (ap (λ r. r.object) is) ∙ same) c)
      where
        moved : last_uid x.holder ≡ last_uid y.holder → AreRelated on (last_uid x.holder) (last_uid z.holder) →
            AreRelated on (last_uid y.holder) (last_uid z.holder)
        moved e (inl r) = inl (ap (λ u. on u (last_uid z.holder)) (sym e) ∙ r)
        moved e (inr r) = inr (ap (on (last_uid z.holder)) (sym e) ∙ r)
    raised x i own is (inr c) =
        let p = and_parts (uid_eq x.object new.object) (uid_eq (last_uid x.holder) (last_uid new.holder)) own in
        by_new (ap (λ r. r.object) is ∙ uid_is x.object new.object p.0) (ap (λ r. last_uid r.holder) is ∙ uid_is (last_uid x.holder) (last_uid new.holder) p.1) c

    by : (y ≡ new) ⊎ IsRaised new rows y → AreRelated on (last_uid y.holder) (last_uid z.holder)
    by (inl is) = by_new (ap (λ r. r.object) is) (ap (λ r. last_uid r.holder) is) (ap (λ r. conflicting r.mode z.mode) (sym is) ∙ conflict)
    by (inr (x, i, own, is)) =
        raised x i own is (conflict_parts x.mode new.mode z.mode (ap (λ r. conflicting r.mode z.mode) (sym is) ∙ conflict))

pub apart_grant : (on : Uid → Uid → Bool) (new : Row) (rows : List Row) → StandsBelow on new.holder →
    first_conflict new.holder new.object new.mode rows ≡ None → AreApart on rows → AreApart on (grant_row new rows)
apart_grant on new rows below free apart = λ r s c d same conflict.
    by r s same conflict (grant_each new r rows (in_from r (grant_row new rows) c)) (grant_each new s rows (in_from s (grant_row new rows) d))
  where
    last : (y : Row) → (y ≡ new) ⊎ IsRaised new rows y → last_uid y.holder ≡ last_uid new.holder
    last y (inl is) = ap (λ r. last_uid r.holder) is
    last y (inr (x, i, own, is)) =
        ap (λ r. last_uid r.holder) is ∙ uid_is (last_uid x.holder) (last_uid new.holder) (and_parts (uid_eq x.object new.object) (uid_eq (last_uid x.holder) (last_uid new.holder)) own).1

    by : (r s : Row) → r.object ≡ s.object → conflicting r.mode s.mode ≡ true → In r rows ⊎ ((r ≡ new) ⊎ IsRaised new rows r) →
        In s rows ⊎ ((s ≡ new) ⊎ IsRaised new rows s) → AreRelated on (last_uid r.holder) (last_uid s.holder)
    by r s same conflict (inl i) (inl j) = apart r s (in_to r rows i) (in_to s rows j) same conflict
    by r s same conflict (inr g) (inl j) = grant_one on new r s rows below free apart g j same conflict
    by r s same conflict (inl i) (inr h) =
        turned on (last_uid r.holder) (last_uid s.holder) (grant_one on new s r rows below free apart h i (sym same) (conflict_sym s.mode r.mode ∙ conflict))
    by r s same conflict (inr g) (inr h) = inl ((λ i. on (last r g i) (last s h i)) ∙ below.0)

-- A pass.

module _ (on : Uid → Uid → Bool) (action : Uid) (rows : List Row) (may : MayPass on action rows) where
  -- the holder of a row that isn't the action is related to the heir if it is to the action
  to_heir : (a heir : Uid) (d : Row) → In d rows → is_held_by action d ≡ true → before_last d.holder ≡ Some heir → a ≢ action →
      ((on a action ≡ true) → a ≡ action) → AreRelated on a action → AreRelated on a heir
  to_heir a heir d j own parent another lowest (inl is) = absurd (another (lowest is))
  to_heir a heir d j own parent another lowest (inr is) =
      by ((may.heirs d (in_to d rows j) (uid_is (last_uid d.holder) action own) heir parent).nearest a is)
    where
      by : (a ≡ action) ⊎ (on heir a ≡ true) → AreRelated on a heir
      by (inl same) = absurd (another same)
      by (inr above) = inr above

  -- two heirs of the action are related
  two_heirs : (h k : Uid) (c d : Row) → In c rows → In d rows → is_held_by action c ≡ true → is_held_by action d ≡ true →
      before_last c.holder ≡ Some h → before_last d.holder ≡ Some k → AreRelated on h k
  two_heirs h k c d i j own also parent other =
      let above = may.heirs c (in_to c rows i) (uid_is (last_uid c.holder) action own) h parent in
      let there = may.heirs d (in_to d rows j) (uid_is (last_uid d.holder) action also) k other in
      by above there (above.nearest k there.above)
    where
      by : IsRightAbove on action h → IsRightAbove on action k → (k ≡ action) ⊎ (on h k ≡ true) → AreRelated on h k
      by above there (inl same) = inr (ap (λ u. on u h) same ∙ above.above)
      by above there (inr is) = inl is

  pub apart_pass : AreApart on rows → AreApart on (pass_rows action rows)
  apart_pass apart = λ y z c d same conflict.
      let p = is_passed action rows y (in_from y (pass_rows action rows) c) in
      let q = is_passed action rows z (in_from z (pass_rows action rows) d) in
      let s = p.shares z.mode conflict in
      let t = q.shares s.0.mode (conflict_sym z.mode s.0.mode ∙ s.2) in
      by s.0 t.0 y z s.1 t.1 (apart s.0 t.0 (in_to s.0 rows s.1.there) (in_to t.0 rows t.1.there) (s.1.object ∙ same ∙ sym t.1.object) (conflict_sym s.0.mode t.0.mode ∙ t.2))
    where
      not_it : (c : Row) → is_held_by action c ≡ false → last_uid c.holder ≢ action
      not_it c other same = let never : true ≡ false = sym (uid_same action) ∙ ap (λ u. uid_eq u action) (sym same) ∙ other in cc

      by : (c d y z : Row) → Share action rows c y → Share action rows d z → AreRelated on (last_uid c.holder) (last_uid d.holder) →
          AreRelated on (last_uid y.holder) (last_uid z.holder)
      by c d y z s t related = kinds s.kind t.kind
        where
          kinds : IsOwn action c y ⊎ IsHeirs action rows c y → IsOwn action d z ⊎ IsHeirs action rows d z →
              AreRelated on (last_uid y.holder) (last_uid z.holder)
          kinds (inl o) (inl p) = rw (sym (ap last_uid o.1), sym (ap last_uid p.1)) related
          kinds (inl o) (inr h) =
              rw (sym (ap last_uid o.1)) (to_heir (last_uid c.holder) (last_uid z.holder) d t.there h.own h.parent (not_it c o.0) (may.lowest c (in_to c rows s.there)) (rw (sym (uid_is (last_uid d.holder) action h.own)) related))
          kinds (inr g) (inl p) =
              turned on (last_uid y.holder) (last_uid z.holder) (rw (sym (ap last_uid p.1)) (to_heir (last_uid d.holder) (last_uid y.holder) c s.there g.own g.parent (not_it d p.0) (may.lowest d (in_to d rows t.there)) (turned on (last_uid d.holder) action (rw (sym (uid_is (last_uid c.holder) action g.own)) related))))
          kinds (inr g) (inr h) = two_heirs (last_uid y.holder) (last_uid z.holder) c d s.there t.there g.own h.own g.parent h.parent
