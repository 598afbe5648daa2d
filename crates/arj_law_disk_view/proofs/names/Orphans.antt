-- Who of a serializing action still has an entry prepared when naming takes its end had its lock given back.
use Rattle.arj_law_parts.proofs.Words
use Words.{◌≡◌, ◌≢◌, ◌⊎◌, ◌&&◌, ◌||◌, not, ℕ, List, [], ◌∷◌, map, filter, Bool, true, false, Option, Some, None, is_some, refl, sym, ◌∙◌}
use Words.{ap, inl, inr, ⊎_elim, list_any, if◌then◌else◌, cond, uid_cases, uid_other, uid_same, In as Stands, in_to, Uid, End, ObjectState}
use Words.{Row, entry, is_on, last_uid, uid_eq, Disk, Naming, loses, loses_row, orphans, Parts, at_number, at_uid, uid_number, number_tells}
use Words.ending
use Words.naming_named as protocol
use Rattle.arj_law_disk_view.proofs.Terms
use Terms.{HasRow, Office, never, or_left, or_right, some_is, SeesEntry, IsOf, hold_of, packed_entry, Kinds, IsFixed, IsAlone, IsBehind}
use Terms.{SeesNamed, SeesNaming}
use Terms.names
use Rattle.arj_law_disk_view.proofs.names.EntriesLeft.{left_was, names_left, no_orphan, Whole_outs}
use Rattle.arj_law_disk_view.proofs.names.Locks.{RowOf, last_of, row_behind}
use Rattle.std.proofs.Common.{is_eq, nat_cmp}
use Rattle.arj_law_disk_view.proofs.view.Keys as keys

-- ---- lists

on_keys : {X : Type 0} (a : Uid) (v : X) (m : List (Uid × X)) → at_uid a m ≡ Some v →
    is_on (map {A = Uid × X} {B = Uid} (λ p. p.0) m) a ≡ true
on_keys a v [] is = absurd (cc is)
on_keys {X} a v (e ∷ es) is = ⊎_elim
    (λ (same : a ≡ e.0).
    or_left (uid_eq e.0 a) (is_on (map {A = Uid × X} {B = Uid} (λ p. p.0) es) a) (ap (λ w. uid_eq w a) (sym same) ∙ uid_same a))
    (λ other. or_right (uid_eq e.0 a) (is_on (map {A = Uid × X} {B = Uid} (λ p. p.0) es) a)
    (on_keys a v es (sym (keys.at_there a e.0 e.1 es other) ∙ is)))
    (uid_cases a e.0)

on_filter : (f : Uid → Bool) (us : List Uid) (a : Uid) → is_on us a ≡ true → f a ≡ true → is_on (filter f us) a ≡ true
on_filter f [] a on is = on
on_filter f (u ∷ us) a on is = by (f u) refl (uid_cases a u) (on_filter f us a)
  where
    by : (b : Bool) → f u ≡ b → (a ≡ u) ⊎ (a ≢ u) → (is_on us a ≡ true → f a ≡ true → is_on (filter f us) a ≡ true) →
        is_on (if b then u ∷ filter f us else filter f us) a ≡ true
    by true e (inl same) ih = or_left (uid_eq u a) (is_on (filter f us) a) (ap (λ w. uid_eq w a) (sym same) ∙ uid_same a)
    by true e (inr other) ih = or_right (uid_eq u a) (is_on (filter f us) a) (ih (rest other) is)
      where
        rest : a ≢ u → is_on us a ≡ true
        rest other = ap (λ b. b || is_on us a) (sym (uid_other u a (λ same. other (sym same)))) ∙ on
    by false e (inl same) ih = absurd (never (ap f (sym same) ∙ is) e)
    by false e (inr other) ih = ih (ap (λ b. b || is_on us a) (sym (uid_other u a (λ same. other (sym same)))) ∙ on) is

any_in : (f : Row → Bool) (r : Row) (rows : List Row) → Stands r rows → f r ≡ true → list_any f rows ≡ true
any_in f r [] i is = absurd i
any_in f r (q ∷ qs) (inl same) is = or_left (f q) (list_any f qs) (ap f same ∙ is)
any_in f r (q ∷ qs) (inr more) is = or_right (f q) (list_any f qs) (any_in f r qs more is)

any_at : {X : Type 0} (f : X → Bool) (x : ℕ) (v : X) (m : List (ℕ × X)) → at_number x m ≡ Some v → f v ≡ true →
    list_any (λ (e : ℕ × X). f e.1) m ≡ true
any_at f x v [] there is = absurd (cc there)
any_at {X} f x v (e ∷ es) there is = by (is_eq (nat_cmp x e.0)) there (any_at f x v es)
  where
    by : (b : Bool) → cond b (Some e.1) (at_number x es) ≡ Some v → (at_number x es ≡ Some v → f v ≡ true →
        list_any (λ (e : ℕ × X). f e.1) es ≡ true) → (f e.1 || list_any (λ (e : ℕ × X). f e.1) es) ≡ true
    by true h ih = or_left (f e.1) (list_any (λ (e : ℕ × X). f e.1) es) (ap f (some_is refl h) ∙ is)
    by false h ih = or_right (f e.1) (list_any (λ (e : ℕ × X). f e.1) es) (ih h is)

-- ---- an entry that is left

module _ (x : ℕ) (tops : Kinds) (d : Disk) (t : Parts) (n : Naming) (from : ℕ) (ack : Bool) (ends : List (Uid × End)) (u : Uid) (how : End)
    (A : Office) (c : names.Named A) (now : SeesNaming x tops n A.world.disk A.names) (here : SeesEntry x d.names A.world.disk)
    (fixed : IsFixed tops A.world.disk)
    (kinds : (z : ℕ) → A.world.disk.begun z ≡ true →
    (tops.is_top z ≡ true) × (A.world.disk.serial z ≡ false)) (serial : A.world.disk.serial (uid_number u) ≡ true)
    (has_it : is_some (at_number x n.objects) ≡ true) (new : is_on n.told u ≡ false) (aborted : how ≡ ending.Abort) where
  module _ (a : Uid) (states : List ObjectState) (st : ObjectState)
      (left : at_uid a (names_left (Whole_outs u how d t n from ack ends (let p = here.pair in p.sorted)) d.names).pend ≡ Some states)
      (of : IsOf (entry x) states st) (root : tops.root (uid_number a) ≡ uid_number u) where
    before : at_uid a d.names.pend ≡ Some states
    before = left_was u how d t n from ack ends (let p = here.pair in p.sorted) a states left

    -- it is no serializing action
    apart : a ≢ u
    apart same = never (ap (λ w. A.world.disk.serial (uid_number w)) same ∙ serial) (kinds (uid_number a) (here.begun a states before)).1

    guard : HasRow A.names (uid_number a) 1
    guard = let p = here.pair in (c.rows.guard (hold_of packed_entry a st) (p.held_by a states st before of)).0

    object : (o : Option protocol.Named) → at_number x n.objects ≡ o → (q : protocol.Named) × (at_number x n.objects ≡ Some q)
    object None is = absurd (never (ap is_some (sym is) ∙ has_it) refl)
    object (Some o) is = (o, is)

    given_by : (o : protocol.Named) → at_number x n.objects ≡ Some o → A.names.given (uid_number a) ≡ true
    given_by o there = ⊎_elim alone behind (let s = so.rows in s.holders r.row (in_to r.row o.rows r.there))
      where
        so : SeesNamed x tops o A.world.disk A.names
        so = now.object o there

        r : RowOf x a guard.0 o.rows
        r = row_behind x a guard.0 o.rows (sym (let s = so.rows in s.row_is a) ∙ guard.1)

        last_is : last_uid r.row.holder ≡ a
        last_is = last_of x a r.row r.of

        alone : IsAlone A.world.disk.root A.names.given r.row.holder → A.names.given (uid_number a) ≡ true
        alone (us, inl own) = absurd (apart (number_tells a u (sym (ap (λ w. A.world.disk.root (uid_number w)) (sym last_is) ∙ own
            ∙ ap uid_number last_is) ∙ ap (λ f. f (uid_number a)) fixed.root ∙ root)))
        alone (us, inr back) = ap (λ w. A.names.given (uid_number w)) (sym last_is) ∙ back

        behind : IsBehind A.world.disk.root A.names.given r.row.holder → A.names.given (uid_number a) ≡ true
        behind (w, us, rooted, other, fresh) =
            absurd (no_orphan u how d t n from ack ends (let p = here.pair in p.sorted) a states new aborted left orphan)
          where
            same : w ≡ u
            same = number_tells w u
                (sym rooted ∙ ap (λ z. A.world.disk.root (uid_number z)) last_is ∙ ap (λ f. f (uid_number a)) fixed.root ∙ root)

            on_path : is_on r.row.holder u ≡ true
            on_path = ap (λ vs. is_on vs u) us
                ∙ or_left (uid_eq w u) (is_on (last_uid r.row.holder ∷ []) u) (ap (λ z. uid_eq z u) same ∙ uid_same u)

            lost : loses u a r.row ≡ true
            lost = (λ i. uid_eq (last_is i) a && on_path i) ∙ (λ i. uid_same a i && true)

            orphan : is_on (orphans u d.names n) a ≡ true
            orphan = on_filter (λ act. not (uid_eq act u) && loses_row u act n) (map (λ (p : Uid × List ObjectState). p.0) d.names.pend) a
                (on_keys a states d.names.pend before)
                ((λ i. not (uid_other a u apart i) && loses_row u a n) ∙ any_at (λ (q : protocol.Named). list_any (loses u a) q.rows) x o
                n.objects there (any_in (loses u a) r.row o.rows r.there lost))

    pub given_left : A.names.given (uid_number a) ≡ true
    given_left = let q = object (at_number x n.objects) refl in given_by q.0 q.1
