-- What naming has found where a check of a Confirm is its answer.
use Rattle.arj_law_parts.proofs.Words
use Words.{◌≡◌, ◌⊎◌, ◌==◌, ◌&&◌, ◌||◌, ◌++◌, ℕ, List, [], ◌∷◌, Bool, true, false, cond, not, Option, Some, None, refl, sym, ◌∙◌, ap}
use Words.{subst, inl, inr}
use Words.{⊎_elim, filter, map, if◌then◌else◌, list_all, list_any, option_map, and_parts, In, Entry, ObjectState, ConfirmedReply, Path}
use Words.{Row}
use Words.{entry, is_listed, is_on, last_uid, top_of, Grants, Marks, checked, confirm, confirm_entries, confirm_new, confirms}
use Words.{conflict_in, either}
use Words.{cons_option, filter_map, entries_after, entry_after, entry_state, first_of_each, has_all, is_bare, is_there, is_wanted}
use Words.{lock_all, marked}
use Words.{other_grant, prepared_by, refused_exclude, same_nodes, stores_after, with_store, with_stores, without_stores, wanted}
use Words.{wants_lock, Pair}
use Words.{Prep, Ready, Already, Old, InDoubt, Did, Served, held_at, is_prepared, prepare_answer, reply, void, Naming, is_over}
use Words.{listed_entry, entry_of}
use Words.{at_number, state_entry, entry_back}
use Words.confirmed
use Words.what
use Rattle.arj_law_lock_view.proofs.Terms.{some_is}
use Rattle.arj_law_disk_view.proofs.Terms.{never, or_cases, or_left, or_right, test_is, test_same}
use Rattle.arj_law_disk_view.proofs.view.{ConfirmSteps.marked_is, ConfirmSteps.take_out, ConfirmWalks.both_none}
use Rattle.arj_law_serial.proofs.Terms.{any_in}
use Rattle.arj_protocol.specs.Confirm.{is_prepared_with}

-- ---- the first that a test refuses

pub either_cases : (a b : Option ConfirmedReply) (r : ConfirmedReply) → either a b ≡ Some r → (a ≡ Some r) ⊎ ((a ≡ None) × (b ≡ Some r))
either_cases None b r h = inr (refl, h)
either_cases (Some a) b r h = inl h

pub first_some : {A : Type 0} (f : A → Option ConfirmedReply) (xs : List A) (r : ConfirmedReply) → first_of_each f xs ≡ Some r →
    (a : A) × In a xs × (f a ≡ Some r)
first_some f [] r h = absurd (cc h)
first_some f (x ∷ xs) r h = ⊎_elim (λ here. (x, inl refl, here)) (λ more. let z = first_some f xs r more.1 in (z.0, inr z.1, z.2))
    (either_cases (f x) (first_of_each f xs) r h)

first_bare : (f : ℕ → Option ObjectState) (gs : Grants) (r : ConfirmedReply) →
    first_of_each is_bare (filter_map (λ (g : ℕ × ℕ). f g.0) gs) ≡ Some r →
    (g : ℕ × ℕ) × In g gs × (st : ObjectState) × (f g.0 ≡ Some st) × (is_bare st ≡ Some r)
first_bare f [] r h = absurd (cc h)
first_bare f (g ∷ gs) r h = by (f g.0) refl h (first_bare f gs r)
  where
    by : (o : Option ObjectState) → f g.0 ≡ o → first_of_each is_bare (cons_option o (filter_map (λ (k : ℕ × ℕ). f k.0) gs)) ≡ Some r →
        (first_of_each is_bare (filter_map (λ (k : ℕ × ℕ). f k.0) gs) ≡ Some r →
        (k : ℕ × ℕ) × In k gs × (st : ObjectState) × (f k.0 ≡ Some st) × (is_bare st ≡ Some r)) →
        (k : ℕ × ℕ) × In k (g ∷ gs) × (st : ObjectState) × (f k.0 ≡ Some st) × (is_bare st ≡ Some r)
    by None e h ih = let z = ih h in (z.0, inr z.1, z.2, z.3, z.4)
    by (Some st) e h ih = ⊎_elim (λ here. (g, inl refl, st, e, here)) (λ more. let z = ih more.1 in (z.0, inr z.1, z.2, z.3, z.4))
        (either_cases (is_bare st) (first_of_each is_bare (filter_map (λ (k : ℕ × ℕ). f k.0) gs)) r h)

pub none_at : (f : ℕ → Option ConfirmedReply) (y : ℕ) (xs : List ℕ) → In y xs → first_of_each f xs ≡ None → f y ≡ None
none_at f y [] i h = absurd i
none_at f y (x ∷ xs) (inl same) h = ap f (sym same) ∙ (both_none (f x) (first_of_each f xs) h).0
none_at f y (x ∷ xs) (inr more) h = none_at f y xs more (both_none (f x) (first_of_each f xs) h).1

-- ---- lists of stores

nil_is : (ss : List ℕ) → same_nodes ss [] ≡ true → ss ≡ []
nil_is [] h = refl
nil_is (s ∷ ss) h = absurd (cc h)

store_some : (m : ℕ) (ss : List ℕ) → with_store m ss ≡ [] → ⊥
store_some m ss = by (is_listed m ss) refl
  where
    more : (rs : List ℕ) → rs ++ m ∷ [] ≡ [] → ⊥
    more [] h = cc h
    more (r ∷ rs) h = cc h

    by : (b : Bool) → is_listed m ss ≡ b → (if b then ss else ss ++ m ∷ []) ≡ [] → ⊥
    by true is h = let no_way : is_listed m [] ≡ true = ap (is_listed m) (sym h) ∙ is in cc no_way
    by false is h = more ss h

with_none : (ms ss : List ℕ) → with_stores ms ss ≡ [] → (ms ≡ []) × (ss ≡ [])
with_none [] ss h = (refl, h)
with_none (m ∷ ms) ss h = absurd (store_some m ss (with_none ms (with_store m ss) h).1)

all_out : (ms ss : List ℕ) → filter (λ s. not (is_listed s ms)) ss ≡ [] → list_all (λ s. is_listed s ms) ss ≡ true
all_out ms [] h = refl
all_out ms (s ∷ ss) h = by (is_listed s ms) refl h (all_out ms ss)
  where
    by : (b : Bool) → is_listed s ms ≡ b →
        cond (not b) (s ∷ filter (λ r. not (is_listed r ms)) ss) (filter (λ r. not (is_listed r ms)) ss) ≡ [] →
        (filter (λ r. not (is_listed r ms)) ss ≡ [] → list_all (λ r. is_listed r ms) ss ≡ true) →
        (is_listed s ms && list_all (λ r. is_listed r ms) ss) ≡ true
    by true is h ih = λ i. is i && ih h i
    by false is h ih = absurd (cc h)

pub any_listed : (f : ℕ → Bool) (s : ℕ) (ss : List ℕ) → is_listed s ss ≡ true → f s ≡ true → list_any f ss ≡ true
any_listed f s [] on h = absurd (cc on)
any_listed f s (r ∷ rs) on h = ⊎_elim (λ e. or_left (f r) (list_any f rs) (ap f (test_is r s e) ∙ h))
    (λ more. or_right (f r) (list_any f rs) (any_listed f s rs more h)) (or_cases (r == s) (is_listed s rs) on)

-- a mark of the list is one of its object
pub in_marked : (m : ℕ × ℕ) (ms : Marks) → In m ms → is_listed m.1 (marked m.0 ms) ≡ true
in_marked m ms i = marked_is m.0 m.1 ms ∙ any_in (λ (k : ℕ × ℕ). (k.0 == m.0) && (k.1 == m.1)) m ms i
    (λ j. test_same m.0 j && test_same m.1 j)

pub wanted_in : (f : ℕ → Bool) (g : ℕ × ℕ) (gs : Grants) → In g gs → f g.0 ≡ true → In g.0 (filter f (map (λ (k : ℕ × ℕ). k.0) gs))
wanted_in f g [] i wants = absurd i
wanted_in f g (k ∷ ks) i wants = by (f k.0) refl i (λ more. wanted_in f g ks more wants)
  where
    by : (b : Bool) → f k.0 ≡ b → (k ≡ g) ⊎ In g ks → (In g ks → In g.0 (filter f (map (λ (q : ℕ × ℕ). q.0) ks))) →
        In g.0 (cond b (k.0 ∷ filter f (map (λ (q : ℕ × ℕ). q.0) ks)) (filter f (map (λ (q : ℕ × ℕ). q.0) ks)))
    by true e (inl same) ih = inl (ap (λ (q : ℕ × ℕ). q.0) same)
    by true e (inr more) ih = inr (ih more)
    by false e (inl same) ih = absurd (never (ap (λ (q : ℕ × ℕ). f q.0) same ∙ wants) e)
    by false e (inr more) ih = ih more

pub unrefused : {A : Type 0} (f : Row → A) (o : Option Row) → option_map f o ≡ None → o ≡ None
unrefused f None h = refl
unrefused f (Some r) h = absurd (cc h)

-- an answer that a check of entries alone gives
abbrev pub is_of_entries : ConfirmedReply → Bool
is_of_entries (confirmed.Listed x s) = true
is_of_entries (confirmed.NoStores x) = true
is_of_entries r = false

-- of which object and store it is
abbrev mark_of : ConfirmedReply → ℕ × ℕ
mark_of (confirmed.Listed x s) = (x, s)
mark_of (confirmed.NoStores x) = (x, 0)
mark_of r = (0, 0)

abbrev is_there_already : ConfirmedReply → Bool
is_there_already (confirmed.Listed x s) = true
is_there_already r = false

module _ (p : Path) (grants : Grants) (excluded included : Marks) (d : Pair) (n : Naming) where
  -- Naming checked the Confirm anew, and the first check that failed is its answer.
  pub record IsRefused (r : ConfirmedReply) : Type 0 where
    pub untold : is_over p n ≡ false
    pub named : has_all grants n ≡ true
    pub unconfirmed : is_on n.confirmed (top_of p) ≡ false
    pub why : checked p grants excluded included d n ≡ Some r
    pub silent : (confirm p grants excluded included d n).outs ≡ []

  abbrev Answer_by : Bool → Bool → Bool → Bool → Option ConfirmedReply → Served Naming ConfirmedReply
  Answer_by over all on pre o = if over || not all then void n
      else (if on || pre then reply (confirms (top_of p) n) confirmed.Yes else confirm_new p grants excluded included d n o)

  module _ (r : ConfirmedReply) (its : is_of_entries r ≡ true) where
    other_reply : (q : ConfirmedReply) → is_of_entries q ≡ false → ◌≡◌ {A = Option ConfirmedReply} (Some q) (Some r) → ⊥
    other_reply q off h = never (ap is_of_entries (some_is h) ∙ its) off

    prepared_none : (states : List ObjectState) (t : Did Naming) (a : Prep) → (prepared_by (top_of p) states t a).reply ≡ Some r → ⊥
    prepared_none states t Ready h = other_reply confirmed.Yes refl h
    prepared_none states t (Already u) h = other_reply _ refl h
    prepared_none states t (Old u v) h = other_reply _ refl h
    prepared_none states t (InDoubt u holder) h = other_reply _ refl h

    entered_none : (states : List ObjectState) (t : Did Naming) → (confirm_entries (top_of p) states d t).reply ≡ Some r → ⊥
    entered_none [] t h = other_reply confirmed.Yes refl h
    entered_none (s ∷ ss) t h = prepared_none (s ∷ ss) t (prepare_answer (top_of p) (s ∷ ss) d) h

    pub refused : (confirm p grants excluded included d n).reply ≡ Some r → IsRefused r
    refused = by (is_over p n) refl (has_all grants n) refl (is_on n.confirmed (top_of p)) refl (is_prepared (top_of p) d)
        (checked p grants excluded included d n) refl refl
      where
        by : (over : Bool) → is_over p n ≡ over → (all : Bool) → has_all grants n ≡ all → (on : Bool) → is_on n.confirmed (top_of p) ≡ on →
            (pre : Bool) → (o : Option ConfirmedReply) → checked p grants excluded included d n ≡ o →
            confirm p grants excluded included d n ≡ Answer_by over all on pre o →
            (Answer_by over all on pre o).reply ≡ Some r → IsRefused r
        by true e0 all e1 on e2 pre o e3 is h = absurd (cc h)
        by false e0 false e1 on e2 pre o e3 is h = absurd (cc h)
        by false e0 true e1 true e2 pre o e3 is h = absurd (other_reply confirmed.Yes refl h)
        by false e0 true e1 false e2 true o e3 is h = absurd (other_reply confirmed.Yes refl h)
        by false e0 true e1 false e2 false (Some q) e3 is h = record {
          untold = e0;
          named = e1;
          unconfirmed = e2;
          why = e3 ∙ h;
          silent = ap (λ (s : Served Naming ConfirmedReply). s.outs) is;
        }
        by false e0 true e1 false e2 false None e3 is h = absurd (entered_none (entries_after (top_of p) grants excluded included d)
            (lock_all (wanted (top_of p) grants excluded d) p n) h)

    -- ---- what its check found

    other_not : (g : ℕ × ℕ) → other_grant n g ≡ Some r → ⊥
    other_not g = by (g.1 == n.inc)
      where
        by : (b : Bool) → (if b then None else Some (confirmed.Changed (what.Inc g.1 n.inc))) ≡ Some r → ⊥
        by true h = cc h
        by false h = other_reply _ refl h

    exclude_not : (y : ℕ) → refused_exclude p n y ≡ Some r → ⊥
    exclude_not y = by (conflict_in y p (at_number y n.objects))
      where
        by : (o : Option Row) → option_map (λ q. confirmed.Conflict (last_uid q.holder) q.mode) o ≡ Some r → ⊥
        by None h = cc h
        by (Some q) h = other_reply _ refl h

    there_is : (m : ℕ × ℕ) → is_there d m ≡ Some r → (is_listed m.1 (listed_entry m.0 d).stores ≡ true) × (confirmed.Listed m.0 m.1 ≡ r)
    there_is m = by (is_listed m.1 (listed_entry m.0 d).stores) refl
      where
        by : (b : Bool) → is_listed m.1 (listed_entry m.0 d).stores ≡ b → (if b then Some (confirmed.Listed m.0 m.1) else None) ≡ Some r →
            (is_listed m.1 (listed_entry m.0 d).stores ≡ true) × (confirmed.Listed m.0 m.1 ≡ r)
        by true is h = (is, some_is h)
        by false is h = absurd (cc h)

    bare_is : (st : ObjectState) → is_bare st ≡ Some r →
        (same_nodes (state_entry st).stores [] ≡ true) × (confirmed.NoStores st.uid.num ≡ r)
    bare_is st = by (same_nodes (state_entry st).stores []) refl
      where
        by : (b : Bool) → same_nodes (state_entry st).stores [] ≡ b → (if b then Some (confirmed.NoStores st.uid.num) else None) ≡ Some r →
            (same_nodes (state_entry st).stores [] ≡ true) × (confirmed.NoStores st.uid.num ≡ r)
        by true is h = (is, some_is h)
        by false is h = absurd (cc h)

    -- its grants are naming's own, and each exclude lock that it wants is free
    pub record IsFoundSo : Type 0 where
      pub own : first_of_each (other_grant n) grants ≡ None
      pub locks : first_of_each (refused_exclude p n) (wanted (top_of p) grants excluded d) ≡ None
      pub by_entries : (first_of_each (is_there d) included ≡ Some r)
          ⊎ (first_of_each is_bare (entries_after (top_of p) grants excluded included d) ≡ Some r)

    pub found_so : checked p grants excluded included d n ≡ Some r → IsFoundSo
    found_so h = ⊎_elim
        (λ bad. let z = first_some (other_grant n) grants r bad in absurd (other_not z.0 z.2))
        (λ one. ⊎_elim
        (λ bad. let z = first_some (refused_exclude p n) (wanted (top_of p) grants excluded d) r bad in absurd (exclude_not z.0 z.2))
        (λ two. record {
          own = one.0;
          locks = two.0;
          by_entries = ⊎_elim (λ there. inl there) (λ bare. inr bare.1)
              (either_cases (first_of_each (is_there d) included) (first_of_each is_bare Entries) r two.1);
        })
        (either_cases (first_of_each (refused_exclude p n) (wanted (top_of p) grants excluded d)) Behind r one.1))
        (either_cases (first_of_each (other_grant n) grants)
        (either (first_of_each (refused_exclude p n) (wanted (top_of p) grants excluded d)) Behind) r h)
      where
        Entries : List ObjectState
        Entries = entries_after (top_of p) grants excluded included d

        Behind : Option ConfirmedReply
        Behind = either (first_of_each (is_there d) included) (first_of_each is_bare (entries_after (top_of p) grants excluded included d))

  -- ---- an included store that is listed

  pub listed_found : (y s : ℕ) → IsFoundSo (confirmed.Listed y s) refl →
      (is_listed s (marked y included) ≡ true) × (is_listed s (listed_entry y d).stores ≡ true)
  listed_found y s f = by f.by_entries
    where
      by : (first_of_each (is_there d) included ≡ Some (confirmed.Listed y s))
          ⊎ (first_of_each is_bare (entries_after (top_of p) grants excluded included d) ≡ Some (confirmed.Listed y s)) →
          (is_listed s (marked y included) ≡ true) × (is_listed s (listed_entry y d).stores ≡ true)
      by (inr bare) = let z = first_some is_bare (entries_after (top_of p) grants excluded included d) (confirmed.Listed y s) bare in
          let q = bare_is (confirmed.Listed y s) refl z.0 z.2 in absurd (never (ap is_there_already q.1) refl)
      by (inl there) =
          let z = first_some (is_there d) included (confirmed.Listed y s) there in
          let q = there_is (confirmed.Listed y s) refl z.0 z.2 in
          let same : z.0 ≡ (y, s) = ap mark_of q.1 in (
            subst (λ (m : ℕ × ℕ). is_listed m.1 (marked m.0 included) ≡ true) same (in_marked z.0 included z.1),
            subst (λ (m : ℕ × ℕ). is_listed m.1 (listed_entry m.0 d).stores ≡ true) same q.0,
          )

  -- ---- an entry that is left without a store

  -- All its stores are excluded, and none is included; its exclude lock is free.
  pub record LeavesNone (y : ℕ) : Type 0 where
    pub grant : ℕ × ℕ
    pub there : In grant grants
    pub object : grant.0 ≡ y
    pub none : marked y included ≡ []
    pub some : same_nodes [] (listed_entry y d).stores ≡ false
    pub all : list_all (λ s. is_listed s (marked y excluded)) (listed_entry y d).stores ≡ true
    pub free : conflict_in y p (at_number y n.objects) ≡ None

  -- what this state of an entry was made of
  abbrev IsMadeOf : ℕ → Option ObjectState → ObjectState → Type 0
  IsMadeOf y o st = (old : ObjectState) × (o ≡ Some old)
      × (same_nodes (stores_after y excluded included (state_entry old)) (state_entry old).stores ≡ false)
      × ((state_entry st).stores ≡ stores_after y excluded included (state_entry old)) × (st.uid.num ≡ y)

  from_entry : (y : ℕ) (o : Option ObjectState) (st : ObjectState) → entry_after (top_of p) excluded included y o ≡ Some st →
      IsMadeOf y o st
  from_entry y None st h = absurd (cc h)
  from_entry y (Some old) st h = by (same_nodes (stores_after y excluded included (state_entry old)) (state_entry old).stores) refl h
    where
      by : (b : Bool) → same_nodes (stores_after y excluded included (state_entry old)) (state_entry old).stores ≡ b →
          (if b then None else Some (entry_state y (top_of p) old (stores_after y excluded included (state_entry old)))) ≡ Some st →
          IsMadeOf y (Some old) st
      by true is e = absurd (cc e)
      by false is e =
          let same : entry_state y (top_of p) old (stores_after y excluded included (state_entry old)) ≡ st = some_is e in (
            old,
            refl,
            is,
            ap (λ (q : ObjectState). (state_entry q).stores) (sym same)
                ∙ ap (λ (z : Entry). z.stores) (entry_back (record {
                  servers = (state_entry old).servers;
                  stores = stores_after y excluded included (state_entry old);
                })),
            ap (λ (q : ObjectState). q.uid.num) (sym same),
          )

  pub bare_found : (y : ℕ) → IsFoundSo (confirmed.NoStores y) refl → LeavesNone y
  bare_found y f = by f.by_entries
    where
      by : (first_of_each (is_there d) included ≡ Some (confirmed.NoStores y))
          ⊎ (first_of_each is_bare (entries_after (top_of p) grants excluded included d) ≡ Some (confirmed.NoStores y)) → LeavesNone y
      by (inl there) = let z = first_some (is_there d) included (confirmed.NoStores y) there in
          let q = there_is (confirmed.NoStores y) refl z.0 z.2 in absurd (never (sym (ap is_there_already q.1)) refl)
      by (inr bare) = record {
        grant = z.0;
        there = z.1;
        object = object;
        none = (with_none (marked y included) (without_stores (marked y excluded) now) empty).0;
        some = some;
        all = all;
        free = unrefused (λ (q : Row). confirmed.Conflict (last_uid q.holder) q.mode) (conflict_in y p (at_number y n.objects))
            (none_at (refused_exclude p n) y (wanted (top_of p) grants excluded d) (subst (λ m. In m (wanted (top_of p) grants excluded d))
            object (wanted_in (wants_lock (top_of p) excluded d) z.0 grants z.1 (ap (wants_lock
            (top_of p) excluded d) object ∙ wants now refl)))
            f.locks);
      }
        where
          z : (g : ℕ × ℕ) × In g grants × (st : ObjectState)
              × (entry_after (top_of p) excluded included g.0 (held_at (entry g.0) d) ≡ Some st) × (is_bare st ≡ Some
              (confirmed.NoStores y))
          z = first_bare (λ m. entry_after (top_of p) excluded included m (held_at (entry m) d)) grants (confirmed.NoStores y) bare

          e : IsMadeOf z.0.0 (held_at (entry z.0.0) d) z.2
          e = from_entry z.0.0 (held_at (entry z.0.0) d) z.2 z.3

          q : (same_nodes (state_entry z.2).stores [] ≡ true) × (confirmed.NoStores (let st = z.2 in st.uid.num) ≡ confirmed.NoStores y)
          q = bare_is (confirmed.NoStores y) refl z.2 z.4

          object : z.0.0 ≡ y
          object = sym e.4 ∙ ap (λ (m : ℕ × ℕ). m.0) (ap mark_of q.1)

          now : List ℕ
          now = (listed_entry y d).stores

          now_is : (state_entry e.0).stores ≡ (listed_entry y d).stores
          now_is = ap (λ o. (entry_of o).stores) (sym e.1) ∙ ap (λ m. (listed_entry m d).stores) object

          empty : with_stores (marked y included) (without_stores (marked y excluded) (listed_entry y d).stores) ≡ []
          empty = (λ i. with_stores (marked (sym object i) included) (without_stores (marked (sym object i) excluded) (sym now_is i)))
              ∙ sym e.3 ∙ nil_is (state_entry z.2).stores q.0

          some : same_nodes [] (listed_entry y d).stores ≡ false
          some = (λ i. same_nodes ((sym empty) i) (sym now_is i))
              ∙ (λ i. same_nodes (with_stores (marked (sym object i) included) (without_stores (marked (sym object i) excluded)
              (sym now_is i)))
              (state_entry e.0).stores) ∙ e.2

          all : list_all (λ s. is_listed s (marked y excluded)) (listed_entry y d).stores ≡ true
          all = all_out (marked y excluded) (listed_entry y d).stores (sym (take_out (marked y excluded) (listed_entry y d).stores)
              ∙ (with_none (marked y included) (without_stores (marked y excluded) (listed_entry y d).stores) empty).1)

          wants : (ss : List ℕ) → ss ≡ (listed_entry y d).stores → wants_lock (top_of p) excluded d y ≡ true
          wants [] same = absurd (never refl (ap (same_nodes []) same ∙ some))
          wants (s ∷ ss) same =
              let a = subst (λ l. list_all (λ r. is_listed r (marked y excluded)) l ≡ true) (sym same) all in
              any_listed (is_wanted y (top_of p) d) s (marked y excluded)
              (and_parts (is_listed s (marked y excluded)) (list_all (λ r. is_listed r (marked y excluded)) ss) a).0
              (or_left (is_listed s (listed_entry y d).stores) (is_prepared_with y (top_of p) s d)
              (ap (is_listed s) (sym same) ∙ or_left (s == s) (is_listed s ss) (test_same s)))
