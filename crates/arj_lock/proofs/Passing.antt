-- A pass keeps exclusion, where no descendant of the action has a row.
use Rattle.std.proofs.Common.{◌≡◌, ◌⊎◌, ◌≤◌, List, length, Bool, true, false, cond, Option, Some, None, refl, sym, ◌∙◌, ap, subst, inl, inr}
use Rattle.std.proofs.Common.{find}
use Rattle.std.proofs.lemmas.Bool.{and_parts}
use Rattle.arj_base.specs.declared.mode.Mode.{Mode}
use Rattle.arj_base.specs.declared.uid.Uid.{Uid}
use Rattle.arj_base.specs.Mode.{conflicting}
use Rattle.arj_base.specs.Path.{before_last}
use Rattle.arj_base.specs.Rows.{Row, is_on, front, last_uid, is_row_of, is_held_by, has_row, pass_rows, passed, handed_on, strengthened}
use Rattle.arj_base.specs.Rows.{goes_to, is_heir, renamed}
use Rattle.arj_base.specs.Uid.{uid_eq}
use Rattle.arj_lock.specs.Exclusion.{Agree, GoTogether, Excluding, NoneBelow}
use Rattle.arj_lock.proofs.Exclusion.{Excludes, excludes_from, excludes_to, conflict_sym, conflict_parts}
use Rattle.arj_lock.proofs.Members.{In, in_to, in_filter_map, in_find}
use Rattle.arj_lock.proofs.Paths.{on_last, on_parts, on_front, heir_is, before_last_is, between, agree_sym, agree_front}
use Rattle.arj_base.proofs.Uids.{uid_same, uid_is}

-- Where a mode after the pass comes from: the row itself, or one of the action's rows, whose heir holds it then.

abbrev pub IsOwn : Uid → Row → Row → Type 0
IsOwn action c y = (is_held_by action c ≡ false) × (c.holder ≡ y.holder)

pub record IsHeirs (action : Uid) (rows : List Row) (c y : Row) : Type 0 where
  pub own : is_held_by action c ≡ true
  pub heir : last_uid (front c.holder) ≡ last_uid y.holder
  pub parent : before_last c.holder ≡ Some (last_uid y.holder)
  pub long : 1 ≤ length (front c.holder)
  pub on : is_on c.holder (last_uid y.holder) ≡ true
  pub path : (front c.holder ≡ y.holder) ⊎ ((x : Row) × In x rows × (x.holder ≡ y.holder))

pub record Share (action : Uid) (rows : List Row) (c y : Row) : Type 0 where
  pub there : In c rows
  pub object : c.object ≡ y.object
  pub kind : IsOwn action c y ⊎ IsHeirs action rows c y

-- the holder of a row after the pass: that of an old row, or the path without its last
abbrev pub HasHolder : List Row → Row → Type 0
HasHolder rows y = (x : Row) × In x rows × ((x.holder ≡ y.holder) ⊎ ((1 ≤ length (front x.holder)) × (front x.holder ≡ y.holder)))

pub record IsPassed (action : Uid) (rows : List Row) (y : Row) : Type 0 where
  pub holder : HasHolder rows y
  pub shares : (m : Mode) → conflicting y.mode m ≡ true → (c : Row) × Share action rows c y × (conflicting c.mode m ≡ true)

-- the heir of a path is on it
heir_on : (us : List Uid) (heir : Uid) → before_last us ≡ Some heir → is_on us heir ≡ true
heir_on us heir e =
    let h = heir_is us heir e in
    on_front us heir (ap (is_on (front us)) (sym h.0) ∙ on_last (front us) h.1)

handed : (action : Uid) (rows : List Row) (x y : Row) → In x rows → is_held_by action x ≡ true → (o : Option Uid) →
    before_last x.holder ≡ o → handed_on rows x o ≡ Some y → IsPassed action rows y
handed action rows x y i own None heir e = cc
handed action rows x y i own (Some heir) before e = by (has_row x.object heir rows) e
  where
    by : (b : Bool) → cond b None (Some (renamed x)) ≡ Some y → IsPassed action rows y
    by true is = cc
    by false is =
        let same : renamed x ≡ y = cc in
        let h = heir_is x.holder heir before in
        let holder : front x.holder ≡ y.holder = ap (λ r. r.holder) same in
        record {
          holder = (x, i, inr (h.1, holder));
          shares = λ m c. (
            x,
            record {
              there = i;
              object = ap (λ r. r.object) same;
              kind =
                  inr (record {
                    own = own;
                    heir = ap last_uid holder;
                    parent = before ∙ ap Some (sym h.0 ∙ ap last_uid holder);
                    long = h.1;
                    on =
                        ap (is_on x.holder) (ap last_uid (sym holder) ∙ h.0) ∙ heir_on x.holder heir before;
                    path =
                        inl holder;
                  });
            },
            ap (λ r. conflicting r.mode m) same ∙ c,
          );
        }

heir_last : (us : List Uid) (o : Option Uid) (holder : Uid) → before_last us ≡ o → is_heir o holder ≡ true → before_last us ≡ Some holder
heir_last us None holder e is = cc
heir_last us (Some heir) holder e is = e ∙ ap Some (uid_is heir holder is)

kept : (action : Uid) (rows : List Row) (x y : Row) → In x rows → is_held_by action x ≡ false → (o : Option Row) →
    find (goes_to action x) rows ≡ o → strengthened x o ≡ y → IsPassed action rows y
kept action rows x y i other None found e = record {
  holder = (x, i, inl (ap (λ r. r.holder) e));
  shares = λ m c. (
    x,
    record {
      there = i;
      object = ap (λ r. r.object) e;
      kind =
          inl (other, ap (λ r. r.holder) e);
    },
    ap (λ r. conflicting r.mode m) e ∙ c,
  );
}
kept action rows x y i other (Some p) found e = record {
  holder = (x, i, inl holder);
  shares = λ m c. by m (conflict_parts x.mode p.mode m (ap (λ r. conflicting r.mode m) e ∙ c));
}
  where
    holder : x.holder ≡ y.holder
    holder = ap (λ r. r.holder) e

    f : In p rows × (goes_to action x p ≡ true)
    f = in_find (goes_to action x) p rows found

    parts : (is_row_of x.object action p ≡ true) × (is_heir (before_last p.holder) (last_uid x.holder) ≡ true)
    parts = and_parts (is_row_of x.object action p) (is_heir (before_last p.holder) (last_uid x.holder)) f.1

    own : (uid_eq p.object x.object ≡ true) × (is_held_by action p ≡ true)
    own = and_parts (uid_eq p.object x.object) (is_held_by action p) parts.0

    heir : before_last p.holder ≡ Some (last_uid x.holder)
    heir = heir_last p.holder (before_last p.holder) (last_uid x.holder) refl parts.1

    by : (m : Mode) → (conflicting x.mode m ≡ true) ⊎ (conflicting p.mode m ≡ true) →
        (c : Row) × Share action rows c y × (conflicting c.mode m ≡ true)
    by m (inl c) = (x, record { there = i; object = ap (λ r. r.object) e; kind = inl (other, holder) }, c)
    by m (inr c) =
        let h = heir_is p.holder (last_uid x.holder) heir in (
          p,
          record {
            there = f.0;
            object = uid_is p.object x.object own.0 ∙ ap (λ r. r.object) e;
            kind = inr (record {
              own = own.1;
              heir = h.0 ∙ ap last_uid holder;
              parent = heir ∙ ap (λ us. Some (last_uid us)) holder;
              long =
                  h.1;
              on = ap (λ us. is_on p.holder (last_uid us)) (sym holder) ∙ heir_on p.holder (last_uid x.holder) heir;
              path =
                  inr (x, i, holder);
            });
          },
          c,
        )

pub is_passed : (action : Uid) (rows : List Row) (y : Row) → In y (pass_rows action rows) → IsPassed action rows y
is_passed action rows y i = by (in_filter_map (passed action rows) y rows i)
  where
    at : (x : Row) → In x rows → (b : Bool) → is_held_by action x ≡ b →
        cond b (handed_on rows x (before_last x.holder)) (Some (strengthened x (find (goes_to action x) rows))) ≡ Some y →
        IsPassed action rows y
    at x i true own e = handed action rows x y i own (before_last x.holder) refl e
    at x i false other e =
        let is : strengthened x (find (goes_to action x) rows) ≡ y = cc in kept action rows x y i other (find (goes_to action x) rows) refl is

    by : (x : Row) × In x rows × (passed action rows x ≡ Some y) → IsPassed action rows y
    by f = at f.0 f.1 (is_held_by action f.0) refl f.2

-- The rows that two modes come from go together, and so do the rows that they come to.

abbrev Apart : Row → Row → Type 0
Apart y z = (is_on z.holder (last_uid y.holder) ≡ true) ⊎ (is_on y.holder (last_uid z.holder) ≡ true)

-- the path above the action is the same in each of its rows
one_path : (action : Uid) (c d : Row) → Agree c.holder d.holder → 1 ≤ length c.holder → 1 ≤ length d.holder → is_held_by action c ≡ true →
    is_held_by action d ≡ true
    → is_on (front c.holder) action ≡ false → is_on (front d.holder) action ≡ false → front c.holder ≡ front d.holder
one_path action c d agree long also own other new none =
    sym (before_last_is c.holder action own new)
    ∙ agree action (ap (is_on c.holder) (sym (uid_is (last_uid c.holder) action own)) ∙ on_last c.holder long) (ap (is_on d.holder) (sym (uid_is (last_uid d.holder) action other)) ∙ on_last d.holder also)
    ∙ before_last_is d.holder action other none

-- whoever is not the action and is on its row's path stands before it
stands_before : (action : Uid) (d : Row) (a : Uid) → is_held_by action d ≡ true → uid_eq a action ≡ false → is_on d.holder a ≡ true →
    is_on (front d.holder) a ≡ true
stands_before action d a own other on = by (on_parts d.holder a on)
  where
    by : (uid_eq (last_uid d.holder) a ≡ true) ⊎ (is_on (front d.holder) a ≡ true) → is_on (front d.holder) a ≡ true
    by (inl last) =
        let same : a ≡ action = sym (uid_is (last_uid d.holder) a last) ∙ uid_is (last_uid d.holder) action own in
        let never : false ≡ true = sym other ∙ ap (λ u. uid_eq u action) same ∙ uid_same action in cc
    by (inr before) = before

-- the holder of the row that one mode comes from is on the other's path
on_other : (action : Uid) (rows : List Row) (c d y z : Row) → Excludes rows →
    ((r : Row) → In r rows → is_on (front r.holder) action ≡ false)
    → 1 ≤ length z.holder → Share action rows c y → Share action rows d z → is_on d.holder (last_uid c.holder) ≡ true → Apart y z
on_other action rows c d y z e none long s t on = by s.kind t.kind
  where
    -- the holder of z's mode was the action: the other's holder stood before it
    above : IsHeirs action rows d z → is_held_by action c ≡ false → c.holder ≡ y.holder → is_on (front d.holder) (last_uid c.holder) ≡ true
        → (front d.holder ≡ z.holder) ⊎ ((x : Row) × In x rows × (x.holder ≡ z.holder)) → Apart y z
    above h other same before (inl is) =
        inl (ap (is_on z.holder) (ap last_uid (sym same)) ∙ ap (λ us. is_on us (last_uid c.holder)) (sym is) ∙ before)
    above h other same before (inr x) =
        let agrees : Agree z.holder d.holder = subst (λ us. Agree us d.holder) x.2 (e.agreed x.0 d x.1 t.there) in
        let with_y : Agree y.holder d.holder = subst (λ us. Agree us d.holder) same (e.agreed c d s.there t.there) in
        let own : is_on y.holder (last_uid y.holder) ≡ true =
        subst (λ us. is_on us (last_uid us) ≡ true) same (on_last c.holder (e.named c s.there)) in
        between z.holder d.holder y.holder (last_uid z.holder) (last_uid y.holder) agrees with_y (on_last z.holder long) h.on own (ap (is_on d.holder) (ap last_uid (sym same)) ∙ on)

    by : IsOwn action c y ⊎ IsHeirs action rows c y → IsOwn action d z ⊎ IsHeirs action rows d z → Apart y z
    by (inl o) (inl p) = inl (ap (is_on z.holder) (ap last_uid (sym o.1)) ∙ ap (λ us. is_on us (last_uid c.holder)) (sym p.1) ∙ on)
    by (inl o) (inr h) = above h o.0 o.1 (stands_before action d (last_uid c.holder) h.own o.0 on) h.path
    by (inr g) (inl p) = own_below (on_parts d.holder action (ap (is_on d.holder) (sym (uid_is (last_uid c.holder) action g.own)) ∙ on))
      where
        own_below : (uid_eq (last_uid d.holder) action ≡ true) ⊎ (is_on (front d.holder) action ≡ true) → Apart y z
        own_below (inl last) = let never : false ≡ true = sym p.0 ∙ last in cc
        own_below (inr below) = let never : false ≡ true = sym (none d t.there) ∙ below in cc
    by (inr g) (inr h) =
        let same = one_path action c d (e.agreed c d s.there t.there) (e.named c s.there) (e.named d t.there) g.own h.own (none c s.there) (none d t.there) in
        inl (ap (is_on z.holder) (sym g.heir ∙ ap last_uid same ∙ h.heir) ∙ on_last z.holder long)

pub pass_excludes : (action : Uid) (rows : List Row) → Excluding rows → NoneBelow action rows → Excluding (pass_rows action rows)
pass_excludes action rows excluding none_below =
    excludes_to (pass_rows action rows) (record {
      named = λ r i. named r (is_passed action rows r i).holder;
      agreed = λ r s i j. agreed r s (is_passed action rows r i).holder (is_passed action rows s j).holder;
      apart = λ r s i j. apart r s (is_passed action rows r i) (is_passed action rows s j);
    })
  where
    e : Excludes rows
    e = excludes_from rows excluding

    none : (r : Row) → In r rows → is_on (front r.holder) action ≡ false
    none r i = none_below r (in_to r rows i)

    named : (r : Row) → HasHolder rows r → 1 ≤ length r.holder
    named r (x, i, inl is) = subst (λ us. 1 ≤ length us) is (e.named x i)
    named r (x, i, inr f) = subst (λ us. 1 ≤ length us) f.1 f.0

    agreed : (r s : Row) → HasHolder rows r → HasHolder rows s → Agree r.holder s.holder
    agreed r s (x, i, inl is) (w, j, inl also) = subst (Agree r.holder) also (subst (λ us. Agree us w.holder) is (e.agreed x w i j))
    agreed r s (x, i, inr f) (w, j, inl also) =
        subst (Agree r.holder) also (subst (λ us. Agree us w.holder) f.1 (agree_front x.holder w.holder (e.agreed x w i j)))
    agreed r s (x, i, inl is) (w, j, inr g) =
        subst (Agree r.holder) g.1 (subst (λ us. Agree us (front w.holder)) is (agree_sym (front w.holder) x.holder (agree_front w.holder x.holder (e.agreed w x j i))))
    agreed r s (x, i, inr f) (w, j, inr g) =
        let half : Agree (front w.holder) x.holder = agree_front w.holder x.holder (e.agreed w x j i) in
        subst (Agree r.holder) g.1 (subst (λ us. Agree us (front w.holder)) f.1 (agree_front x.holder (front w.holder) (agree_sym (front w.holder) x.holder half)))

    turned : (y z : Row) → Apart z y → Apart y z
    turned y z (inl on) = inr on
    turned y z (inr on) = inl on

    apart : (y z : Row) → IsPassed action rows y → IsPassed action rows z → GoTogether y z
    apart y z p q = λ same conflict.
        let s = p.shares z.mode conflict in
        let t = q.shares s.0.mode (conflict_sym z.mode s.0.mode ∙ s.2) in
        by s.0 t.0 s.1 t.1 (e.apart s.0 t.0 s.1.there t.1.there (s.1.object ∙ same ∙ sym t.1.object) (conflict_sym s.0.mode t.0.mode ∙ t.2))
      where
        by : (c d : Row) → Share action rows c y → Share action rows d z →
            (is_on d.holder (last_uid c.holder) ≡ true) ⊎ (is_on c.holder (last_uid d.holder) ≡ true) → Apart y z
        by c d s t (inl on) = on_other action rows c d y z e none (named z q.holder) s t on
        by c d s t (inr on) = turned y z (on_other action rows d c z y e none (named y p.holder) t s on)
