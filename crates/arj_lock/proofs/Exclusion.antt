-- The row steps keep exclusion.
use Rattle.std.proofs.Common.{◌≡◌, ◌⊎◌, ◌≤◌, List, [], ◌∷◌, length, Bool, true, false, cond, not, ◌&&◌, None, refl, sym, ◌∙◌, ap, subst}
use Rattle.std.proofs.Common.{inl, inr, filter, nat_le}
use Rattle.std.proofs.lemmas.Bool.{and_parts}
use Rattle.arj_base.specs.declared.mode.Mode.{Mode}
use Rattle.arj_base.specs.declared.mode.Mode.TheVariants.{Read, Exclude, Write}
use Rattle.arj_base.specs.declared.uid.Uid.{Uid}
use Rattle.arj_base.specs.Mode.{conflicting, stronger, mode_code}
use Rattle.arj_base.specs.Rows.{Row, is_on, last_uid, is_row_of, grant_row, drop_rows, close_rows, lower_row, is_against, first_conflict}
use Rattle.arj_base.specs.Uid.{uid_eq}
use Rattle.arj_lock.specs.Exclusion.{Agree, AgreesWithAll, GoTogether, Excluding}
use Rattle.arj_base.proofs.Uids.{uid_same, uid_is}
use Rattle.arj_lock.proofs.Members.{In, in_from, in_to, in_filter, in_map, in_find_none}
use Rattle.arj_lock.proofs.Paths.{on_last, between, agree_same, agree_sym}

-- Modes.

pub conflict_sym : (m n : Mode) → conflicting m n ≡ conflicting n m
conflict_sym Read Read = refl
conflict_sym Read Exclude = refl
conflict_sym Read Write = refl
conflict_sym Exclude Read = refl
conflict_sym Exclude Exclude = refl
conflict_sym Exclude Write = refl
conflict_sym Write Read = refl
conflict_sym Write Exclude = refl
conflict_sym Write Write = refl

-- what conflicts with the stronger of two modes conflicts with one of them
pub conflict_parts : (m n with' : Mode) → conflicting (stronger m n) with' ≡ true →
    (conflicting m with' ≡ true) ⊎ (conflicting n with' ≡ true)
conflict_parts m n with' e = by (nat_le (mode_code n) (mode_code m)) e
  where
    by : (b : Bool) → conflicting (cond b m n) with' ≡ true → (conflicting m with' ≡ true) ⊎ (conflicting n with' ≡ true)
    by true e = inl e
    by false e = inr e

-- what conflicts with read conflicts with each mode
conflict_read : (m with' : Mode) → conflicting Read with' ≡ true → conflicting m with' ≡ true
conflict_read Read w e = e
conflict_read Exclude Read e = cc
conflict_read Exclude Exclude e = cc
conflict_read Exclude Write e = refl
conflict_read Write w e = refl

together_sym : (r s : Row) → GoTogether r s → GoTogether s r
together_sym r s go = λ same conflict. by (go (sym same) (conflict_sym r.mode s.mode ∙ conflict))
  where
    by : (is_on s.holder (last_uid r.holder) ≡ true) ⊎ (is_on r.holder (last_uid s.holder) ≡ true) →
        (is_on r.holder (last_uid s.holder) ≡ true) ⊎ (is_on s.holder (last_uid r.holder) ≡ true)
    by (inl on) = inr on
    by (inr on) = inl on

-- Exclusion, with members by recursion.

pub record Excludes (rows : List Row) : Type 0 where
  pub named : (r : Row) → In r rows → 1 ≤ length r.holder
  pub agreed : (r s : Row) → In r rows → In s rows → Agree r.holder s.holder
  pub apart : (r s : Row) → In r rows → In s rows → GoTogether r s

pub excludes_from : (rows : List Row) → Excluding rows → Excludes rows
excludes_from rows e = record {
  named = λ r i. e.named r (in_to r rows i);
  agreed = λ r s i j. e.agreed r s (in_to r rows i) (in_to s rows j);
  apart = λ r s i j. e.apart r s (in_to r rows i) (in_to s rows j);
}

pub excludes_to : (rows : List Row) → Excludes rows → Excluding rows
excludes_to rows e = record {
  named = λ r c. e.named r (in_from r rows c);
  agreed = λ r s c d. e.agreed r s (in_from r rows c) (in_from s rows d);
  apart = λ r s c d. e.apart r s (in_from r rows c) (in_from s rows d);
}

pub none_excludes : Excluding []
none_excludes = excludes_to [] (record { named = λ r i. absurd i; agreed = λ r s i j. absurd i; apart = λ r s i j. absurd i })

-- Fewer rows.

fewer : (p : Row → Bool) (rows : List Row) → Excludes rows → Excludes (filter p rows)
fewer p rows e = record {
  named = λ r i. e.named r (in_filter p r rows i).0;
  agreed = λ r s i j. e.agreed r s (in_filter p r rows i).0 (in_filter p s rows j).0;
  apart = λ r s i j. e.apart r s (in_filter p r rows i).0 (in_filter p s rows j).0;
}

pub drop_excludes : (action : Uid) (rows : List Row) → Excluding rows → Excluding (drop_rows action rows)
drop_excludes action rows e = excludes_to (drop_rows action rows) (fewer (λ row. not (is_on row.holder action)) rows (excludes_from rows e))

pub close_excludes : (object : Uid) (rows : List Row) → Excluding rows → Excluding (close_rows object rows)
close_excludes object rows e =
    excludes_to (close_rows object rows) (fewer (λ row. not (uid_eq row.object object)) rows (excludes_from rows e))

-- A row that is lowered: it conflicts with nothing more.

pub record IsLowered (rows : List Row) (y : Row) : Type 0 where
  pub row : Row
  pub there : In row rows
  pub object : row.object ≡ y.object
  pub holder : row.holder ≡ y.holder
  pub conflicts : (m : Mode) → conflicting y.mode m ≡ true → conflicting row.mode m ≡ true

pub lowered : (action object : Uid) (y : Row) (rows : List Row) → In y (lower_row action object rows) → IsLowered rows y
lowered action object y rows i = by (in_map (λ row. cond (is_row_of object action row) (record row { mode = Read }) row) y rows i)
  where
    at : (x : Row) → In x rows → (b : Bool) → cond b (record x { mode = Read }) x ≡ y → IsLowered rows y
    at x i true e =
        record {
          row = x;
          there = i;
          object = ap (λ r. r.object) e;
          holder = ap (λ r. r.holder) e;
          conflicts =
              λ m c. conflict_read x.mode m (ap (λ r. conflicting r.mode m) e ∙ c);
        }
    at x i false e =
        record {
          row = x;
          there = i;
          object = ap (λ r. r.object) e;
          holder = ap (λ r. r.holder) e;
          conflicts =
              λ m c. ap (λ r. conflicting r.mode m) e ∙ c;
        }

    by : (x : Row) × In x rows × (cond (is_row_of object action x) (record x { mode = Read }) x ≡ y) → IsLowered rows y
    by f = at f.0 f.1 (is_row_of object action f.0) f.2

pub lower_excludes : (action object : Uid) (rows : List Row) → Excluding rows → Excluding (lower_row action object rows)
lower_excludes action object rows excluding =
    let e = excludes_from rows excluding in
    excludes_to (lower_row action object rows) (record {
      named = λ r i. let l = lowered action object r rows i in subst (λ us. 1 ≤ length us) l.holder (e.named l.row l.there);
      agreed = λ r s i j. let l = lowered action object r rows i in let k = lowered action object s rows j in
          subst (λ us. Agree us s.holder) l.holder (subst (Agree l.row.holder) k.holder (e.agreed l.row k.row l.there k.there));
      apart = λ r s i j. together r s (lowered action object r rows i) (lowered action object s rows j) e;
    })
  where
    together : (r s : Row) → IsLowered rows r → IsLowered rows s → Excludes rows → GoTogether r s
    together r s l k e = λ same conflict.
        let first = l.conflicts s.mode conflict in
        let second = k.conflicts l.row.mode (conflict_sym s.mode l.row.mode ∙ first) in
        let P : List Uid → List Uid → Type 0 = λ p q. (is_on q (last_uid p) ≡ true) ⊎ (is_on p (last_uid q) ≡ true) in
        subst (λ p. P p s.holder) l.holder (subst (P l.row.holder) k.holder (e.apart l.row k.row l.there k.there (l.object ∙ same ∙ sym k.object) (conflict_sym l.row.mode k.row.mode ∙ second)))

-- A grant: each row is an old one, or the new one, or an old one of the same action that was raised.

record IsGranted (new : Row) (rows : List Row) (y : Row) : Type 0 where
  object : uid_eq y.object new.object ≡ true
  last : last_uid y.holder ≡ last_uid new.holder
  holder : (y.holder ≡ new.holder) ⊎ ((x : Row) × In x rows × (x.holder ≡ y.holder))
  conflicts : (m : Mode) → conflicting y.mode m ≡ true →
      (conflicting new.mode m ≡ true) ⊎ ((x : Row) × In x rows × (x.object ≡ y.object) × (x.holder ≡ y.holder) × (conflicting x.mode m ≡ true))

is_new : (new : Row) (rows : List Row) (y : Row) → new ≡ y → IsGranted new rows y
is_new new rows y e = record {
  object = ap (λ r. uid_eq r.object new.object) (sym e) ∙ uid_same new.object;
  last = ap (λ r. last_uid r.holder) (sym e);
  holder = inl (ap (λ r. r.holder) (sym e));
  conflicts = λ m c. inl (ap (λ r. conflicting r.mode m) e ∙ c);
}

is_raised : (new row : Row) (rows : List Row) (y : Row) → is_row_of new.object (last_uid new.holder) row ≡ true →
    record row { mode = stronger row.mode new.mode } ≡ y → In row rows
    → IsGranted new rows y
is_raised new row rows y own e i =
    let parts = and_parts (uid_eq row.object new.object) (uid_eq (last_uid row.holder) (last_uid new.holder)) own in
    record {
      object = ap (λ r. uid_eq r.object new.object) (sym e) ∙ parts.0;
      last = ap (λ r. last_uid r.holder) (sym e) ∙ uid_is (last_uid row.holder) (last_uid new.holder) parts.1;
      holder = inr (row, i, ap (λ r. r.holder) e);
      conflicts = λ m c. by m (conflict_parts row.mode new.mode m (ap (λ r. conflicting r.mode m) e ∙ c));
    }
  where
    by : (m : Mode) → (conflicting row.mode m ≡ true) ⊎ (conflicting new.mode m ≡ true)
        → (conflicting new.mode m ≡ true) ⊎ ((x : Row) × In x rows × (x.object ≡ y.object) × (x.holder ≡ y.holder) × (conflicting x.mode m ≡ true))
    by m (inl c) = inr (row, i, ap (λ r. r.object) e, ap (λ r. r.holder) e, c)
    by m (inr c) = inl c

more_rows : (new row : Row) (rows : List Row) (y : Row) → IsGranted new rows y → IsGranted new (row ∷ rows) y
more_rows new row rows y g =
    record { object = g.object; last = g.last; holder = holder g.holder; conflicts = λ m c. conflicts m (g.conflicts m c) }
  where
    holder : (y.holder ≡ new.holder) ⊎ ((x : Row) × In x rows × (x.holder ≡ y.holder)) →
        (y.holder ≡ new.holder) ⊎ ((x : Row) × In x (row ∷ rows) × (x.holder ≡ y.holder))
    holder (inl e) = inl e
    holder (inr f) = inr (f.0, inr f.1, f.2)

    conflicts : (m : Mode) →
        (conflicting new.mode m ≡ true) ⊎ ((x : Row) × In x rows × (x.object ≡ y.object) × (x.holder ≡ y.holder) × (conflicting x.mode m ≡ true))
        → (conflicting new.mode m ≡ true) ⊎ ((x : Row) × In x (row ∷ rows) × (x.object ≡ y.object) × (x.holder ≡ y.holder) × (conflicting x.mode m ≡ true))
    conflicts m (inl c) = inl c
    conflicts m (inr f) = inr (f.0, inr f.1, f.2, f.3, f.4)

granted : (new y : Row) (rows : List Row) → In y (grant_row new rows) → In y rows ⊎ IsGranted new rows y
granted new y [] (inl e) = inr (is_new new [] y e)
granted new y [] (inr i) = absurd i
granted new y (row ∷ rows) i = by (granted new y rows) (is_row_of new.object (last_uid new.holder) row) refl i
  where
    later : In y rows ⊎ IsGranted new rows y → In y (row ∷ rows) ⊎ IsGranted new (row ∷ rows) y
    later (inl i) = inl (inr i)
    later (inr g) = inr (more_rows new row rows y g)

    by : (In y (grant_row new rows) → In y rows ⊎ IsGranted new rows y) → (b : Bool) → is_row_of new.object (last_uid new.holder) row ≡ b
        → In y (cond b (record row { mode = stronger row.mode new.mode } ∷ rows) (row ∷ grant_row new rows)) →
        In y (row ∷ rows) ⊎ IsGranted new (row ∷ rows) y
    by ih true own (inl e) = inr (is_raised new row (row ∷ rows) y own e (inl refl))
    by ih true own (inr i) = inl (inr i)
    by ih false own (inl e) = inl (inl e)
    by ih false own (inr i) = later (ih i)

-- whoever conflicts with a request that meets no conflict is on its path
pub on_path : (new z : Row) (rows : List Row) → first_conflict new.holder new.object new.mode rows ≡ None → In z rows →
    uid_eq z.object new.object ≡ true → conflicting z.mode new.mode ≡ true
    → is_on new.holder (last_uid z.holder) ≡ true
on_path new z rows free i same conflict =
    by (is_on new.holder (last_uid z.holder)) ((λ k. sym same k && (not (is_on new.holder (last_uid z.holder)) && sym conflict k)) ∙ in_find_none (is_against new.holder new.object new.mode) z rows free i)
  where
    by : (b : Bool) → (true && (not b && true)) ≡ false → b ≡ true
    by true e = refl
    by false e = cc

grant_one : (new y z : Row) (rows : List Row) → Excludes rows → 1 ≤ length new.holder → ((r : Row) → In r rows → Agree new.holder r.holder)
    → first_conflict new.holder new.object new.mode rows ≡ None → IsGranted new rows y → In z rows → GoTogether y z
grant_one new y z rows e long agree free g i = λ same conflict. by same (g.conflicts z.mode conflict)
  where
    last_of_z : is_on z.holder (last_uid z.holder) ≡ true
    last_of_z = on_last z.holder (e.named z i)

    new_on_new : is_on new.holder (last_uid new.holder) ≡ true
    new_on_new = on_last new.holder long

    Aim : Type 0
    Aim = (is_on z.holder (last_uid y.holder) ≡ true) ⊎ (is_on y.holder (last_uid z.holder) ≡ true)

    turned : (is_on y.holder (last_uid z.holder) ≡ true) ⊎ (is_on z.holder (last_uid y.holder) ≡ true) → Aim
    turned (inl on) = inr on
    turned (inr on) = inl on

    held : is_on new.holder (last_uid z.holder) ≡ true → (y.holder ≡ new.holder) ⊎ ((x : Row) × In x rows × (x.holder ≡ y.holder)) → Aim
    held on (inl is) = inr (ap (λ us. is_on us (last_uid z.holder)) is ∙ on)
    held on (inr f) =
        let agrees : Agree y.holder new.holder = subst (λ us. Agree us new.holder) f.2 (agree_sym new.holder f.0.holder (agree f.0 f.1)) in
        let own : is_on y.holder (last_uid y.holder) ≡ true =
        subst (λ us. is_on us (last_uid us) ≡ true) f.2 (on_last f.0.holder (e.named f.0 f.1)) in
        turned (between y.holder new.holder z.holder (last_uid y.holder) (last_uid z.holder) agrees (agree_sym new.holder z.holder (agree z i)) own (ap (is_on new.holder) g.last ∙ new_on_new) last_of_z on)

    by : y.object ≡ z.object →
        (conflicting new.mode z.mode ≡ true) ⊎ ((x : Row) × In x rows × (x.object ≡ y.object) × (x.holder ≡ y.holder) × (conflicting x.mode z.mode ≡ true)) → Aim
    by same (inl c) =
        held (on_path new z rows free i (ap (λ u. uid_eq u new.object) (sym same) ∙ g.object) (conflict_sym z.mode new.mode ∙ c)) g.holder
    by same (inr f) =
        subst (λ us. (is_on z.holder (last_uid us) ≡ true) ⊎ (is_on us (last_uid z.holder) ≡ true)) f.3 (e.apart f.0 z f.1 i (f.2 ∙ same) f.4)

pub grant_excludes : (new : Row) (rows : List Row) → Excluding rows → 1 ≤ length new.holder → AgreesWithAll new.holder rows →
    first_conflict new.holder new.object new.mode rows ≡ None
    → Excluding (grant_row new rows)
grant_excludes new rows excluding long with_all free =
    excludes_to (grant_row new rows) (record {
      named = λ r i. named r (holder r (granted new r rows i));
      agreed = λ r s i j. agreed r s (holder r (granted new r rows i)) (holder s (granted new s rows j));
      apart = λ r s i j. apart r s (granted new r rows i) (granted new s rows j);
    })
  where
    e : Excludes rows
    e = excludes_from rows excluding

    agree : (r : Row) → In r rows → Agree new.holder r.holder
    agree r i = with_all r (in_to r rows i)

    holder : (r : Row) → In r rows ⊎ IsGranted new rows r → (r.holder ≡ new.holder) ⊎ ((x : Row) × In x rows × (x.holder ≡ r.holder))
    holder r (inl i) = inr (r, i, refl)
    holder r (inr g) = g.holder

    named : (r : Row) → (r.holder ≡ new.holder) ⊎ ((x : Row) × In x rows × (x.holder ≡ r.holder)) → 1 ≤ length r.holder
    named r (inl is) = subst (λ us. 1 ≤ length us) (sym is) long
    named r (inr f) = subst (λ us. 1 ≤ length us) f.2 (e.named f.0 f.1)

    agreed : (r s : Row) → (r.holder ≡ new.holder) ⊎ ((x : Row) × In x rows × (x.holder ≡ r.holder)) →
        (s.holder ≡ new.holder) ⊎ ((x : Row) × In x rows × (x.holder ≡ s.holder)) → Agree r.holder s.holder
    agreed r s (inl is) (inl also) = subst (λ us. Agree us s.holder) (also ∙ sym is) (agree_same s.holder)
    agreed r s (inl is) (inr f) = subst (λ us. Agree us s.holder) (sym is) (subst (Agree new.holder) f.2 (agree f.0 f.1))
    agreed r s (inr f) (inl also) =
        subst (Agree r.holder) (sym also) (subst (λ us. Agree us new.holder) f.2 (agree_sym new.holder f.0.holder (agree f.0 f.1)))
    agreed r s (inr f) (inr h) = subst (Agree r.holder) h.2 (subst (λ us. Agree us h.0.holder) f.2 (e.agreed f.0 h.0 f.1 h.1))

    apart : (r s : Row) → In r rows ⊎ IsGranted new rows r → In s rows ⊎ IsGranted new rows s → GoTogether r s
    apart r s (inl i) (inl j) = e.apart r s i j
    apart r s (inr g) (inl j) = grant_one new r s rows e long agree free g j
    apart r s (inl i) (inr h) = together_sym s r (grant_one new s r rows e long agree free h i)
    apart r s (inr g) (inr h) =
        λ same conflict. inl (ap (is_on s.holder) (g.last ∙ sym h.last) ∙ on_last s.holder (named s (holder s (inr h))))
