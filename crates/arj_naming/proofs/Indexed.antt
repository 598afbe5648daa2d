-- What naming keeps beside its objects still finds them: after a call on one, after an end, and after a restart.
use Rattle.std.proofs.Common.{◌≡◌, ◌∙◌, ◌||◌, ◌&&◌, ◌⊎◌, inl, inr, arith, ℕ, ◌+◌, ◌<◌, length, take, get_or, Bool, true, false, cond, not}
use Rattle.std.proofs.Common.{List, [], ◌∷◌, map, filter, refl, sym, ap, subst, Option, Some, None}
use Rattle.std.proofs.Math.Logic.{⊎_elim}
use Rattle.std.specs.Prelude.{IsSome, is_none, is_some}
use Rattle.std.specs.BTreeMap.{is_at}
use Rattle.std.specs.BTreeSet.{BTreeSet, insert_key}
use Rattle.std.specs.Cmp.{both_ways, eq_by_cmp_equiv, nat_cmp_total}
use Rattle.std.specs.List.{list_any}
use Rattle.std.specs.List.Sorted.{IsStrictlySortedBy}
use Rattle.std.specs.Map.{keys_of, remove_entry, set_value}
use Rattle.std.specs.Ordering.{eq_by_cmp, is_eq, match_ordering, nat_cmp}
use Rattle.std.specs.declared.cmp.Ordering.{Ordering}
use Rattle.std.specs.declared.cmp.Ordering.TheVariants.{Less, Equal, Greater}
use Rattle.std.proofs.lemmas.Bool.{and_parts, false_from_ne_true}
use Rattle.std.proofs.lemmas.List.{take_more}
use Rattle.std.proofs.lemmas.Map.{keys-set_value, lookup-remove_entry}
use Rattle.std.proofs.lemmas.Map.Made.{is_some-lookup}
use Rattle.std.proofs.lemmas.Map.Keys.{IsDistinct-from_sorted}
use Rattle.arj_base.specs.Order.{uid_order}
use Rattle.arj_base.specs.Rows.{Row, is_held_by, is_on, last_uid}
use Rattle.arj_base.specs.declared.state.ObjectState.{ObjectState}
use Rattle.arj_base.proofs.Uids.{uid_is, uid_same}
use Rattle.arj_lock.proofs.OneEach.{none_in}
use Rattle.arj_lock.proofs.Paths.{on_last}
use Rattle.arj_law_store.proofs.store.Keys.{order_itself, put_other, tied as tied_uid, without_other}
use Rattle.arj_naming.proofs.Apart.{none_each}
use Rattle.arj_naming.proofs.Listed.{on_append, or_nothing}
use Rattle.arj_naming.proofs.Servers.{in_passed}
use Rattle.arj_naming.proofs.Written.{written_at, written_uid}
use Rattle.arj_naming.proofs.Quiet.{any_here, any_looked, any_where, itself, looked_any, tied}
use Rattle.arj_naming.specs.Bound.{AreBound, AreIndexed, KeepsBound, is_under, live_at, live_in}
use Rattle.arj_naming.specs.Touched.{AreTouched, IsApart, IsOff, KeepsTouched, any_of, any_under, is_in, is_in_set, is_touched, looks_apart}
use Rattle.arj_naming.specs.Touched.{looks_apart_in, test_at}
use Rattle.arj_protocol.specs.Ask.{top_of, top_path}
use Rattle.arj_protocol.specs.Confirm.{named_back, pending_of, rows_back}
use Rattle.arj_protocol.specs.Copy.{holds}
use Rattle.arj_protocol.specs.Effect.{Pair}
use Rattle.arj_protocol.specs.Named.{Live, Made, Named, unnamed}
use Rattle.arj_protocol.specs.Order.{at_number, at_uid, put_uid, without_uid}
use Rattle.arj_protocol.specs.Server.{row_top}
use Rattle.arj_protocol.specs.Words.{Path, Uid, nobody, uid_eq}

-- ---- one object is changed

-- what is found where one was taken out
pub gone_at : {X : Type 0} (x : ℕ) (m : List (ℕ × X)) → IsStrictlySortedBy nat_cmp (keys_of m) → (q : ℕ) →
    at_number q (remove_entry (is_at (nat_cmp x)) m) ≡ cond (is_eq (nat_cmp x q)) None (at_number q m)
gone_at x m sorted q =
    lookup-remove_entry {eq =
    eq_by_cmp nat_cmp} (eq_by_cmp_equiv nat_cmp_total) (is_at (nat_cmp x)) (λ y z is. λ i. is_eq (nat_cmp (tied x y is i) z)) q m (IsDistinct-from_sorted nat_cmp (keys_of m) sorted)

-- the object of this number may be another one now, and all others are as before
abbrev pub Elsewhere : ℕ → List (ℕ × Named) → List (ℕ × Named) → Type 0
Elsewhere x m es = (q : ℕ) → is_eq (nat_cmp x q) ≡ false → at_number q es ≡ at_number q m

pub more_touched : (m : List (ℕ × Named)) (acts more : List (Uid × BTreeSet ℕ)) → KeepsTouched acts more → (u : Uid) →
    AreTouched u m (is_touched acts u) → AreTouched u m (is_touched more u)
more_touched m acts more keeps u are x o at =
    ⊎_elim (λ (apart : IsApart u o). inl apart) (λ (on : is_touched acts u x ≡ true). inr (keeps u x on)) (are x o at)

-- an object whose call failed is gone, and the others are found
pub lost_touched : (x : ℕ) (m es : List (ℕ × Named)) (acts more : List (Uid × BTreeSet ℕ)) → Elsewhere x m es → at_number x es ≡ None →
    KeepsTouched acts more → (u : Uid) → AreTouched u m (is_touched acts u) → AreTouched u es (is_touched more u)
lost_touched x m es acts more other gone keeps u are q o at = by (is_eq (nat_cmp x q)) refl
  where
    by : (b : Bool) → is_eq (nat_cmp x q) ≡ b → IsApart u o ⊎ (is_touched more u q ≡ true)
    by true is = let never : None ≡ Some o = sym gone ∙ ap (λ k. at_number k es) (tied x q is) ∙ at in cc
    by false is = more_touched m acts more keeps u are q o (sym (other q is) ∙ at)

pub lost_bound : (x : ℕ) (m es : List (ℕ × Named)) (under more : List (ℕ × BTreeSet ℕ)) → Elsewhere x m es → at_number x es ≡ None →
    KeepsBound under more → AreBound m under → AreBound es more
lost_bound x m es under more other gone keeps are q l live = by (is_eq (nat_cmp x q)) refl
  where
    by : (b : Bool) → is_eq (nat_cmp x q) ≡ b → is_under more l.server q ≡ true
    by true is = let never : None ≡ Some l = sym (ap live_in gone) ∙ ap (λ k. live_at k es) (tied x q is) ∙ live in cc
    by false is = keeps l.server q (are q l (sym (ap live_in (other q is)) ∙ live))

-- an object is another one: each action that isn't apart from it has it
pub put_touched : (x : ℕ) (o new : Named) (m es : List (ℕ × Named)) (acts more : List (Uid × BTreeSet ℕ)) → at_number x m ≡ Some o →
    Elsewhere x m es → at_number x es ≡ Some new → KeepsTouched acts more
    → (u : Uid) → (IsApart u o → IsApart u new ⊎ (is_touched more u x ≡ true)) → AreTouched u m (is_touched acts u) →
    AreTouched u es (is_touched more u)
put_touched x o new m es acts more at other here keeps u apart are q p is = by (is_eq (nat_cmp x q)) refl
  where
    by : (b : Bool) → is_eq (nat_cmp x q) ≡ b → IsApart u p ⊎ (is_touched more u q ≡ true)
    by true e =
        let found : Some new ≡ Some p = sym here ∙ ap (λ k. at_number k es) (tied x q e) ∙ is in
        let same : new ≡ p = cc in
        ⊎_elim (λ (old : IsApart u o). ⊎_elim (λ (now : IsApart u new). inl (subst (IsApart u) same now)) (λ (on : is_touched more u x ≡ true). inr (ap (is_touched more u) (sym (tied x q e)) ∙ on)) (apart old))
        (λ (on : is_touched acts u x ≡ true). inr (ap (is_touched more u) (sym (tied x q e)) ∙ keeps u x on)) (are x o at)
    by false e = more_touched m acts more keeps u are q p (sym (other q e) ∙ is)

pub put_bound : (x : ℕ) (new : Named) (m es : List (ℕ × Named)) (under more : List (ℕ × BTreeSet ℕ)) → Elsewhere x m es →
    at_number x es ≡ Some new → KeepsBound under more → ((l : Live) → new.live ≡ Some l → is_under more l.server x ≡ true)
    → AreBound m under → AreBound es more
put_bound x new m es under more other here keeps live are q l is = by (is_eq (nat_cmp x q)) refl
  where
    by : (b : Bool) → is_eq (nat_cmp x q) ≡ b → is_under more l.server q ≡ true
    by true e = ap (is_under more l.server) (sym (tied x q e)) ∙ live l (sym (ap live_in here) ∙ ap (λ k. live_at k es) (tied x q e) ∙ is)
    by false e = keeps l.server q (are q l (sym (ap live_in (other q e)) ∙ is))

pub more_indexed : (m : List (ℕ × Named)) (acts more : List (Uid × BTreeSet ℕ)) (under wider : List (ℕ × BTreeSet ℕ)) →
    KeepsTouched acts more → KeepsBound under wider → AreIndexed m acts under → AreIndexed m more wider
more_indexed m acts more under wider keeps stays are = record {
  sorted = are.sorted;
  touched = λ u. more_touched m acts more keeps u (are.touched u);
  bound = λ x l live. stays l.server x (are.bound x l live);
}

module _ (x : ℕ) (o new : Named) (m es : List (ℕ × Named)) (at : at_number x m ≡ Some o) (written : es ≡ set_value (is_at (nat_cmp x)) m new) (acts more : List (Uid × BTreeSet ℕ)) (under wider : List (ℕ × BTreeSet ℕ))
    (keeps : KeepsTouched acts more) (stays : KeepsBound under wider) (are : AreIndexed m acts under) where
  now_at : (q : ℕ) → at_number q es ≡ cond (is_eq (nat_cmp x q)) (Some new) (at_number q m)
  now_at q = ap (at_number q) written ∙ written_at nat_cmp nat_cmp_total tied x new m (subst IsSome (sym at) refl) q

  still_sorted : IsStrictlySortedBy nat_cmp (keys_of es)
  still_sorted = subst (IsStrictlySortedBy nat_cmp) (sym (ap keys_of written ∙ keys-set_value (is_at (nat_cmp x)) m new)) are.sorted

  elsewhere : Elsewhere x m es
  elsewhere q other = now_at q ∙ (λ i. cond (other i) (Some new) (at_number q m))

  -- the object is another one
  pub changed_indexed : ((u : Uid) → IsApart u o → IsApart u new ⊎ (is_touched more u x ≡ true)) →
      ((l : Live) → new.live ≡ Some l → is_under wider l.server x ≡ true) → AreIndexed es more wider
  changed_indexed apart live = record {
    sorted = still_sorted;
    touched = λ u. put_touched x o new m es acts more at elsewhere here keeps u (apart u) (are.touched u);
    bound = put_bound x new m es under wider elsewhere here stays live are.bound;
  }
    where
      here : at_number x es ≡ Some new
      here = now_at x ∙ (λ i. cond (is_eq (itself x i)) (Some new) (at_number x m))

  -- or it goes
  pub lost_indexed : (gone : List (ℕ × Named)) → gone ≡ remove_entry (is_at (nat_cmp x)) es → IsStrictlySortedBy nat_cmp (keys_of gone) →
      AreIndexed gone more wider
  lost_indexed gone removed rises = record {
    sorted = rises;
    touched = λ u. lost_touched x m gone acts more others none keeps u (are.touched u);
    bound = lost_bound x m gone under wider others none stays are.bound;
  }
    where
      others : Elsewhere x m gone
      others q other =
          (ap (at_number q) removed ∙ gone_at x es still_sorted q) ∙ ((λ i. cond (other i) None (at_number q es)) ∙ elsewhere q other)

      none : at_number x gone ≡ None
      none = (ap (at_number x) removed ∙ gone_at x es still_sorted x) ∙ (λ i. cond (is_eq (itself x i)) None (at_number x es))

-- ---- what is looked at

seen_made : (o : Option Made) → is_none o ≡ true → o ≡ None
seen_made None is = refl
seen_made (Some m) is = cc

turned_off : (b : Bool) → not b ≡ true → b ≡ false
turned_off true is = cc
turned_off false is = refl

holds_on : (u : Uid) (us : List Uid) → not (uid_eq u nobody) ≡ true → uid_eq (last_uid us) u ≡ true → is_on us u ≡ true
holds_on u [] some is = let never : uid_eq u nobody ≡ true = ap (λ w. uid_eq w nobody) (sym (uid_is nobody u is)) ∙ uid_same nobody in cc
holds_on u (w ∷ us) some is = subst (λ v. is_on (w ∷ us) v ≡ true) (uid_is (last_uid (w ∷ us)) u is) (on_last (w ∷ us) (omega arith))

pub seen_apart : (u : Uid) (o : Named) → looks_apart u o ≡ true → IsApart u o
seen_apart u o is =
    let a = and_parts (not (uid_eq u nobody)) (is_none (at_uid u o.made) && (not (is_on o.asked u) && not (holds u o.rows))) is in
    let b = and_parts (is_none (at_uid u o.made)) (not (is_on o.asked u) && not (holds u o.rows)) a.1 in
    let c = and_parts (not (is_on o.asked u)) (not (holds u o.rows)) b.1 in
    let off = turned_off (holds u o.rows) c.1 in
    record {
      made = seen_made (at_uid u o.made) b.0;
      asked = turned_off (is_on o.asked u) c.0;
      rows = off;
      held = none_each (is_held_by u) o.rows (λ r i. false_from_ne_true (is_held_by u r) (λ own.
          let never : true ≡ false = sym (holds_on u r.holder a.0 own) ∙ none_in (λ (q : Row). is_on q.holder u) r o.rows off i in cc));
    }

-- those that are left out are apart from the action
pub kept_left : (u : Uid) (m : List (ℕ × Named)) (xs ys : List ℕ) → ys ≡ filter (λ x. not (looks_apart_in u (at_number x m))) xs →
    (x : ℕ) (o : Named) → at_number x m ≡ Some o → is_in xs x ≡ true → IsApart u o ⊎ (is_in ys x ≡ true)
kept_left u m xs ys are x o at on = by (looks_apart u o) refl
  where
    passes : (b : Bool) → looks_apart u o ≡ b → not (looks_apart_in u (at_number x m)) ≡ not b
    passes b is = (λ i. not (looks_apart_in u (at i))) ∙ ap not is

    by : (b : Bool) → looks_apart u o ≡ b → IsApart u o ⊎ (is_in ys x ≡ true)
    by true is = inl (seen_apart u o is)
    by false is = inr (ap (λ zs. is_in zs x) are ∙ in_passed (λ y. not (looks_apart_in u (at_number y m))) xs x on (passes false is))

-- and so where one is taken out
pub removed_left : (u : Uid) (m : List (ℕ × Named)) (x : ℕ) (xs ys : List ℕ) →
    ((q : ℕ) → is_eq (nat_cmp x q) ≡ false → is_in ys q ≡ is_in xs q) → looks_apart_in u (at_number x m) ≡ true
    → (q : ℕ) (o : Named) → at_number q m ≡ Some o → is_in xs q ≡ true → IsApart u o ⊎ (is_in ys q ≡ true)
removed_left u m x xs ys others apart q o at on = by (is_eq (nat_cmp x q)) refl
  where
    by : (b : Bool) → is_eq (nat_cmp x q) ≡ b → IsApart u o ⊎ (is_in ys q ≡ true)
    by true is = inl (seen_apart u o (ap (looks_apart_in u) (sym at ∙ ap (λ k. at_number k m) (sym (tied x q is))) ∙ apart))
    by false other = inr (others q other ∙ on)

-- ---- after a restart

module _ (acts : List (Uid × BTreeSet ℕ)) (d : Pair) where
  pub touched_back : (m : List (ℕ × Named)) →
      ((u : Uid) (x : ℕ) (o : Named) → at_number x m ≡ Some o → is_on (map row_top o.rows) u ≡ true → is_touched acts u x ≡ true)
      → (held : List (Uid × ObjectState)) → m ≡ map (named_back d) held → (u : Uid) → AreTouched u m (is_touched acts u)
  touched_back m tops held is u x o at = let f = which held (sym (ap (at_number x) is) ∙ at) in row f.0 (pending_of f.0.0 d.pend) f.1
    where
      which : (es : List (Uid × ObjectState)) → at_number x (map (named_back d) es) ≡ Some o →
          (e : Uid × ObjectState) × (o ≡ unnamed (rows_back e.0 e.1 (pending_of e.0 d.pend)))
      which [] found = cc
      which (e ∷ es) found = by (is_eq (nat_cmp x e.0.num)) (which es) found
        where
          by : (b : Bool) →
              (at_number x (map (named_back d) es) ≡ Some o →
              (f : Uid × ObjectState) × (o ≡ unnamed (rows_back f.0 f.1 (pending_of f.0 d.pend)))) →
              cond b (Some (named_back d e).1) (at_number x (map (named_back d) es)) ≡ Some o
              → (f : Uid × ObjectState) × (o ≡ unnamed (rows_back f.0 f.1 (pending_of f.0 d.pend)))
          by true rest here = let same : (named_back d e).1 ≡ o = cc in (e, sym same)
          by false rest later = rest later

      row : (e : Uid × ObjectState) (p : Option (Uid × ObjectState)) → o ≡ unnamed (rows_back e.0 e.1 p) →
          IsApart u o ⊎ (is_touched acts u x ≡ true)
      row e None same = inl (subst (IsApart u) (sym same) (record { made = refl; asked = refl; rows = refl; held = refl }))
      row e (Some p) same = by (uid_eq p.0 u) refl
        where
          by : (b : Bool) → uid_eq p.0 u ≡ b → IsApart u o ⊎ (is_touched acts u x ≡ true)
          by true own = inr (tops u x o at (subst (λ (n : Named). is_on (map row_top n.rows) u ≡ true) (sym same) (λ i. own i || false)))
          by false other =
              inl (subst (IsApart u) (sym same) (record {
                made = refl;
                asked = refl;
                rows = λ i. (other i || false) || false;
                held =
                    λ i. other i || false;
              }))

-- ---- who holds locks

any_in : (f : BTreeSet ℕ → Bool) (u : Uid) (x : ℕ) (acts : List (Uid × BTreeSet ℕ)) → is_touched acts u x ≡ true →
    ((xs : BTreeSet ℕ) → is_in xs.keys x ≡ true → f xs ≡ true) → list_any (λ (e : Uid × BTreeSet ℕ). f e.1) acts ≡ true
any_in f u x [] on finds = cc
any_in f u x (e ∷ es) on finds = by (is_at (uid_order u) e.0) on (λ more. any_in f u x es more finds)
  where
    or_true : (b : Bool) → (b || true) ≡ true
    or_true true = refl
    or_true false = refl

    by : (b : Bool) → is_in_set x (cond b (Some e.1) (at_uid u es)) ≡ true →
        (is_touched es u x ≡ true → list_any (λ (d : Uid × BTreeSet ℕ). f d.1) es ≡ true) →
        list_any (λ (d : Uid × BTreeSet ℕ). f d.1) (e ∷ es) ≡ true
    by true here rest = λ i. finds e.1 here i || list_any (λ (d : Uid × BTreeSet ℕ). f d.1) es
    by false later rest = (λ i. f e.1 || rest later i) ∙ or_true (f e.1)

any_of_some : (t : Named → Bool) (m : List (ℕ × Named)) (acts : List (Uid × BTreeSet ℕ)) → any_under t m acts ≡ true →
    list_any (λ (e : ℕ × Named). t e.1) m ≡ true
any_of_some t m [] on = cc
any_of_some t m (e ∷ es) on = by (any_of t m e.1.keys) refl (any_of_some t m es) on
  where
    by : (b : Bool) → any_of t m e.1.keys ≡ b →
        (list_any (λ (d : Uid × BTreeSet ℕ). any_of t m d.1.keys) es ≡ true → list_any (λ (d : ℕ × Named). t d.1) m ≡ true) →
        (b || list_any (λ (d : Uid × BTreeSet ℕ). any_of t m d.1.keys) es) ≡ true → list_any (λ (d : ℕ × Named). t d.1) m ≡ true
    by true is rest here = let w = any_where (λ x. test_at t (at_number x m)) e.1.keys is in looked_any t w.0 m w.1
    by false is rest later = rest later

-- whoever passes a test by a row is found among the objects that some action has touched
pub tops_touched : (t : Named → Bool) (m : List (ℕ × Named)) (acts : List (Uid × BTreeSet ℕ)) → IsStrictlySortedBy nat_cmp (keys_of m) →
    ((u : Uid) → AreTouched u m (is_touched acts u)) → ((o : Named) → o.rows ≡ [] → t o ≡ false)
    → any_under t m acts ≡ list_any (λ (e : ℕ × Named). t e.1) m
tops_touched t m acts sorted are fails = both_ways (any_under t m acts) (list_any (λ (e : ℕ × Named). t e.1) m) (any_of_some t m acts)
    (λ on. let w = any_looked t m sorted on in
    let passes : test_at t (at_number w.0 m) ≡ true = rw w.2 w.3 in
    let act = holder w.1 w.1.rows refl w.3 in
    any_in (λ xs. any_of t m xs.keys) act.0 w.0 acts (⊎_elim (λ (apart : IsApart act.0 w.1). let never : true ≡ false =
    sym act.1 ∙ apart.held in cc) (λ (among : is_touched acts act.0 w.0 ≡ true). among) (are act.0 w.0 w.1 w.2))
    (λ xs among. any_here (λ x. test_at t (at_number x m)) xs.keys w.0 among passes))
  where
    holder : (o : Named) (rows : List Row) → o.rows ≡ rows → t o ≡ true → (u : Uid) × (list_any (is_held_by u) o.rows ≡ true)
    holder o [] none passes = let never : true ≡ false = sym passes ∙ fails o none in cc
    holder o (r ∷ rows) is passes =
        (last_uid r.holder, ap (list_any (is_held_by (last_uid r.holder))) is ∙ (λ i. uid_same (last_uid r.holder) i || list_any (is_held_by (last_uid r.holder)) rows))

-- ---- loops

-- one more action has the object
pub next_touched : (us : List Uid) (i x : ℕ) (old new : List (Uid × BTreeSet ℕ)) → i < length us →
    ((u : Uid) → is_on (take i us) u ≡ true → is_touched old u x ≡ true) → KeepsTouched old new → is_touched new (get_or us i nobody) x ≡ true
    → (u : Uid) → is_on (take (i + 1) us) u ≡ true → is_touched new u x ≡ true
next_touched us i x old new within done keeps here u on =
    by (is_on (take i us) u) refl (sym (ap (λ vs. is_on vs u) (take_more us i nobody within) ∙ (on_append (take i us) (get_or us i nobody ∷ []) u ∙ (λ j. is_on (take i us) u || or_nothing (uid_eq (get_or us i nobody) u) j))) ∙ on)
  where
    by : (b : Bool) → is_on (take i us) u ≡ b → (b || uid_eq (get_or us i nobody) u) ≡ true → is_touched new u x ≡ true
    by true is both = keeps u x (done u is)
    by false is last = subst (λ v. is_touched new v x ≡ true) (uid_is (get_or us i nobody) u last) here

-- an action isn't on the path to the top, or the object stands under it
pub off_or_touched : (u : Uid) (p : Path) (acts : List (Uid × BTreeSet ℕ)) (x : ℕ) → is_touched acts (top_of p) x ≡ true →
    ((w : Uid) → is_on (top_path p) w ≡ true → is_touched acts w x ≡ true) → IsOff u p ⊎ (is_touched acts u x ≡ true)
off_or_touched u p acts x top path = by (is_on (top_path p) u) (uid_eq (top_of p) u) refl refl
  where
    by : (a b : Bool) → is_on (top_path p) u ≡ a → uid_eq (top_of p) u ≡ b → IsOff u p ⊎ (is_touched acts u x ≡ true)
    by true b on same = inr (path u on)
    by false true on same = inr (subst (λ w. is_touched acts w x ≡ true) (uid_is (top_of p) u same) top)
    by false false on same = inl (record { on = on; top = same })

-- the number that was looked at is done, and the others are left
pub next_first : (t : Uid → Named → Bool) (m : List (ℕ × Named)) (x : ℕ) (xs : List ℕ) (old new : List (Uid × BTreeSet ℕ)) (u : Uid) →
    ((q : ℕ) → test_at (t u) (at_number q m) ≡ true → (is_touched old u q || is_in (x ∷ xs) q) ≡ true)
    → (test_at (t u) (at_number x m) ≡ true → is_touched new u x ≡ true) → KeepsTouched old new → (q : ℕ) →
    test_at (t u) (at_number q m) ≡ true → (is_touched new u q || is_in xs q) ≡ true
next_first t m x xs old new u are here keeps q on = by (is_touched old u q) refl (is_eq (nat_cmp q x)) refl (are q on)
  where
    or_first : (a b : Bool) → a ≡ true → (a || b) ≡ true
    or_first a b is = rw is refl

    or_second : (a b : Bool) → b ≡ true → (a || b) ≡ true
    or_second true b is = refl
    or_second false b is = is

    by : (a : Bool) → is_touched old u q ≡ a → (b : Bool) → is_eq (nat_cmp q x) ≡ b → (a || (b || is_in xs q)) ≡ true →
        (is_touched new u q || is_in xs q) ≡ true
    by true is b at_x both = or_first (is_touched new u q) (is_in xs q) (keeps u q is)
    by false is true at_x both =
        or_first (is_touched new u q) (is_in xs q) (ap (is_touched new u) (tied q x at_x) ∙ here (ap (λ k. test_at (t u) (at_number k m)) (sym (tied q x at_x)) ∙ on))
    by false is false at_x both = or_second (is_touched new u q) (is_in xs q) both

-- whoever passes a test is among all
pub passes_in : (t : Named → Bool) (m : List (ℕ × Named)) (q : ℕ) → test_at t (at_number q m) ≡ true → is_in (keys_of m) q ≡ true
passes_in t m q on = sym (is_some-lookup (is_at (nat_cmp q)) m) ∙ by (at_number q m) on
  where
    by : (o : Option Named) → test_at t o ≡ true → is_some o ≡ true
    by None on = cc
    by (Some o) on = refl

-- ---- what stands under an action is written, or goes

module _ (action : Uid) (m : List (ℕ × Named)) (xs kept : BTreeSet ℕ) (old new : List (Uid × BTreeSet ℕ)) (at : at_uid action old ≡ Some xs) (written : new ≡ set_value (is_at (uid_order action)) old kept) where
  found : (u : Uid) → at_uid u new ≡ cond (is_eq (uid_order action u)) (Some kept) (at_uid u old)
  found = written_uid action xs kept old new at written

  pub tidied : ((x : ℕ) (o : Named) → at_number x m ≡ Some o → is_in xs.keys x ≡ true → IsApart action o ⊎ (is_in kept.keys x ≡ true)) →
      (u : Uid) → AreTouched u m (is_touched old u) → AreTouched u m (is_touched new u)
  tidied left u are x o there = ⊎_elim (λ (apart : IsApart u o). inl apart) (by (is_eq (uid_order action u)) refl) (are x o there)
    where
      by : (b : Bool) → is_eq (uid_order action u) ≡ b → is_touched old u x ≡ true → IsApart u o ⊎ (is_touched new u x ≡ true)
      by true is on =
          let same : action ≡ u = tied_uid action u is in
          let among : is_in xs.keys x ≡ true = ap (is_in_set x) (sym at) ∙ (ap (λ w. is_touched old w x) same ∙ on) in
          ⊎_elim (λ (apart : IsApart action o). inl (subst (λ w. IsApart w o) same apart))
          (λ (stays : is_in kept.keys x ≡ true). inr (ap (is_in_set x) (found u ∙ (λ i. cond (is i) (Some kept) (at_uid u old))) ∙ stays)) (left x o there among)
      by false other on = inr (ap (is_in_set x) (found u ∙ (λ i. cond (other i) (Some kept) (at_uid u old))) ∙ on)

  -- where nothing is left under it, the action goes
  pub untouched : kept.keys ≡ [] → (u : Uid) → AreTouched u m (is_touched new u) → AreTouched u m (is_touched (without_uid action new) u)
  untouched none u are x o there = by (is_eq (uid_order u action)) refl
    where
      by : (b : Bool) → is_eq (uid_order u action) ≡ b → IsApart u o ⊎ (is_touched (without_uid action new) u x ≡ true)
      by true is = ⊎_elim (λ (apart : IsApart u o). inl apart)
          (λ (on : is_touched new u x ≡ true).
          let here : at_uid u new ≡ Some kept =
          found u ∙ (λ i. cond ((ap (λ w. is_eq (uid_order action w)) (tied_uid u action is) ∙ ap is_eq (order_itself action)) i) (Some kept) (at_uid u old)) in
          let no_way : true ≡ false = sym on ∙ (ap (is_in_set x) here ∙ ap (λ ks. is_in ks x) none) in cc) (are x o there)
      by false other =
          ⊎_elim (λ (apart : IsApart u o). inl apart) (λ (on : is_touched new u x ≡ true). inr (ap (is_in_set x) (without_other action u new other) ∙ on)) (are x o there)

pub no_keys : (xs : List ℕ) → length xs ≡ 0 → xs ≡ []
no_keys [] none = refl
no_keys (x ∷ xs) none = absurd (omega (arith, none))

-- ---- more comes to stand under an action

in_inserted : (xs : List ℕ) (k q : ℕ) → is_in xs q ≡ true → is_in (insert_key nat_cmp xs k) q ≡ true
in_inserted [] k q on = cc
in_inserted (y ∷ ys) k q on = by (nat_cmp k y) (split (is_eq (nat_cmp q y)) (is_in ys q) on) (in_inserted ys k q)
  where
    first : (a b : Bool) → a ≡ true → (a || b) ≡ true
    first a b is = rw is refl

    second : (a b : Bool) → b ≡ true → (a || b) ≡ true
    second true b is = refl
    second false b is = is

    split : (a b : Bool) → (a || b) ≡ true → (a ≡ true) ⊎ (b ≡ true)
    split true b is = inl refl
    split false b is = inr is

    by : (o : Ordering) → (is_eq (nat_cmp q y) ≡ true) ⊎ (is_in ys q ≡ true) →
        (is_in ys q ≡ true → is_in (insert_key nat_cmp ys k) q ≡ true)
        → is_in (match_ordering o (k ∷ y ∷ ys) (y ∷ ys) (y ∷ insert_key nat_cmp ys k)) q ≡ true
    by Less both rest = second (is_eq (nat_cmp q k)) (is_eq (nat_cmp q y) || is_in ys q) on
    by Equal both rest = on
    by Greater (inl here) rest = first (is_eq (nat_cmp q y)) (is_in (insert_key nat_cmp ys k) q) here
    by Greater (inr later) rest = second (is_eq (nat_cmp q y)) (is_in (insert_key nat_cmp ys k) q) (rest later)

pub more_under : (action : Uid) (xs more : BTreeSet ℕ) (old new : List (Uid × BTreeSet ℕ)) → at_uid action old ≡ Some xs →
    new ≡ set_value (is_at (uid_order action)) old more → ((x : ℕ) → is_in xs.keys x ≡ true → is_in more.keys x ≡ true) → KeepsTouched old new
more_under action xs more old new at written keeps u x on = by (is_eq (uid_order action u)) refl
  where
    now : at_uid u new ≡ cond (is_eq (uid_order action u)) (Some more) (at_uid u old)
    now = written_uid action xs more old new at written u

    by : (b : Bool) → is_eq (uid_order action u) ≡ b → is_touched new u x ≡ true
    by true is =
        let before : is_in xs.keys x ≡ true = sym (ap (is_in_set x) at) ∙ (ap (λ w. is_touched old w x) (tied_uid action u is) ∙ on) in
        ap (is_in_set x) (now ∙ (λ i. cond (is i) (Some more) (at_uid u old))) ∙ keeps x before
    by false other = ap (is_in_set x) (now ∙ (λ i. cond (other i) (Some more) (at_uid u old))) ∙ on

pub inserted_under : (action : Uid) (xs more : BTreeSet ℕ) (k : ℕ) (old new : List (Uid × BTreeSet ℕ)) → at_uid action old ≡ Some xs →
    new ≡ set_value (is_at (uid_order action)) old more → more.keys ≡ insert_key nat_cmp xs.keys k → KeepsTouched old new
inserted_under action xs more k old new at written keys =
    more_under action xs more old new at written (λ x on. ap (λ ks. is_in ks x) keys ∙ in_inserted xs.keys k x on)

pub first_under : (action : Uid) (xs : BTreeSet ℕ) (old new : List (Uid × BTreeSet ℕ)) → at_uid action old ≡ None →
    new ≡ put_uid action xs old → KeepsTouched old new
first_under action xs old new none put u x on = by (is_eq (uid_order u action)) refl
  where
    by : (b : Bool) → is_eq (uid_order u action) ≡ b → is_touched new u x ≡ true
    by true is = let no_way : true ≡ false = sym on ∙ (ap (λ w. is_touched old w x) (tied_uid u action is) ∙ ap (is_in_set x) none) in cc
    by false other = ap (λ es. is_touched es u x) put ∙ (ap (is_in_set x) (put_other action u xs old other) ∙ on)
