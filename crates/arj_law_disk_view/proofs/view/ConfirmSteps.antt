-- What naming makes of an entry at a Confirm is what the machine makes of it.
use Rattle.arj_law_parts.proofs.Words
use Words.{◌≡◌, ◌⊎◌, ◌<◌, ℕ, ◌+◌, ◌==◌, ◌&&◌, ◌||◌, not, List, [], ◌∷◌, ◌++◌, Bool, true, false, cond, Option, Some, None, refl, sym, ◌∙◌}
use Words.{ap, subst, inl, inr, ⊎_elim, arith, filter, map, append-nil, append_assoc, min, is_some, if◌then◌else◌, option_map, list_any}
use Words.{cons_option, or_parts, or_right, or_cases, Uid, ObjectState, entry, is_listed, without_store, Grants, Marks, marked}
use Words.{stores_after, with_stores, without_stores, entries_after, entry_after, entry_state, same_nodes, Pair, held_at, names_grant}
use Words.{uid_number, next_version, state_entry, entry_back}
use Rattle.arj_law_disk_view.proofs.Terms
use Terms.{filter_map, bytes_eq, entry_hold, new_list, State, Packed, target, list_after, has, test_is, test_same, never, never_some}
use Terms.{some_is, falls_to, Among, IsOf, HasNone, AreOne, packed_entry, SeesEntry, AreDistinct, SaysMarks, AreNew, FitsVersion}
use Rattle.arj_law_disk.proofs.machine.Listing.{list_is, list_same, find_true}
use Rattle.arj_law_disk_view.specs.view.Confirming.{ListsAreSeen}

-- ---- lists of stores

-- a store isn't among those that a filter leaves
passes_not : (f : ℕ → Bool) (s : ℕ) (ss : List ℕ) → is_listed s ss ≡ false → is_listed s (filter f ss) ≡ false
passes_not f s [] h = refl
passes_not f s (t ∷ ts) h = let p = or_parts (t == s) (is_listed s ts) h in by (f t) p.0 (passes_not f s ts p.1)
  where
    by : (b : Bool) → (t == s) ≡ false → is_listed s (filter f ts) ≡ false → is_listed s (cond b (t ∷ filter f ts) (filter f ts)) ≡ false
    by true e ih = (λ i. e i || is_listed s (filter f ts)) ∙ ih
    by false e ih = ih

behind_not : (s t : ℕ) (ss : List ℕ) → is_listed s ss ≡ false → (t == s) ≡ false → is_listed s (ss ++ t ∷ []) ≡ false
behind_not s t [] h e = (λ i. e i || false)
behind_not s t (r ∷ rs) h e = let p = or_parts (r == s) (is_listed s rs) h in
    (λ i. p.0 i || is_listed s (rs ++ t ∷ [])) ∙ behind_not s t rs p.1 e

new_behind : (ms : List ℕ) (t : ℕ) (ss : List ℕ) → AreNew ms ss → is_listed t ms ≡ false → AreNew ms (ss ++ t ∷ [])
new_behind [] t ss new other = tt
new_behind (m ∷ ms) t ss new other =
    let p = or_parts (m == t) (is_listed t ms) other in (
      behind_not m t ss new.0 (falls_to (t == m) (λ on. never (ap (λ k. m == k) (test_is t m on) ∙ test_same m) p.0)),
      new_behind ms t ss new.1 p.1,
    )

-- new stores go last
put_last : (ms ss : List ℕ) → AreDistinct ms → AreNew ms ss → with_stores ms ss ≡ ss ++ ms
put_last [] ss distinct new = sym (append-nil ss)
put_last (m ∷ ms) ss distinct new =
    ap (λ b. with_stores ms (if b then ss else ss ++ m ∷ [])) new.0
    ∙ put_last ms (ss ++ m ∷ []) distinct.1 (new_behind ms m ss new.1 distinct.0)
    ∙ append_assoc ss (m ∷ []) ms

-- stores that are taken out, one after another
filter_both : (f g : ℕ → Bool) (ss : List ℕ) → filter f (filter g ss) ≡ filter (λ s. f s && g s) ss
filter_both f g [] = refl
filter_both f g (s ∷ ss) = by (g s) (f s) refl refl (filter_both f g ss)
  where
    by : (b c : Bool) → g s ≡ b → f s ≡ c → filter f (filter g ss) ≡ filter (λ s. f s && g s) ss →
        filter f (cond b (s ∷ filter g ss) (filter g ss)) ≡ cond (c && b) (s ∷ filter (λ s. f s && g s) ss) (filter (λ s. f s && g s) ss)
    by true true e h ih = ap (λ k. cond k (s ∷ filter f (filter g ss)) (filter f (filter g ss))) h ∙ ap (λ xs. s ∷ xs) ih
    by true false e h ih = ap (λ k. cond k (s ∷ filter f (filter g ss)) (filter f (filter g ss))) h ∙ ih
    by false true e h ih = ih
    by false false e h ih = ih

pub take_out : (ms ss : List ℕ) → without_stores ms ss ≡ filter (λ s. not (is_listed s ms)) ss
take_out [] ss = sym (all ss)
  where
    all : (ss : List ℕ) → filter (λ (s : ℕ). true) ss ≡ ss
    all [] = refl
    all (s ∷ ss) = ap (λ xs. s ∷ xs) (all ss)
take_out (m ∷ ms) ss =
    take_out ms (without_store m ss) ∙ filter_both (λ s. not (is_listed s ms)) (λ s. not (s == m)) ss ∙ (λ i. filter (λ s. same s i) ss)
  where
    flip : (a b : ℕ) → (a == b) ≡ (b == a)
    flip a b = by (a == b) refl
      where
        by : (c : Bool) → (a == b) ≡ c → c ≡ (b == a)
        by true e = sym (ap (λ k. b == k) (test_is a b e) ∙ test_same b)
        by false e = sym (falls_to (b == a) (λ on. never (ap (λ k. a == k) (test_is b a on) ∙ test_same a) e))

    parts : (a b : Bool) → (not a && not b) ≡ not (b || a)
    parts true true = refl
    parts true false = refl
    parts false true = refl
    parts false false = refl

    same : (s : ℕ) → (not (is_listed s ms) && not (s == m)) ≡ not ((m == s) || is_listed s ms)
    same s = ap (λ b. not (is_listed s ms) && not b) (flip s m) ∙ parts (is_listed s ms) (m == s)

-- the marks of an object, as a list of stores
pub marked_is : (x s : ℕ) (ms : Marks) → is_listed s (marked x ms) ≡ list_any (λ (m : ℕ × ℕ). (m.0 == x) && (m.1 == s)) ms
marked_is x s [] = refl
marked_is x s (m ∷ ms) = by (m.0 == x) (marked_is x s ms)
  where
    by : (b : Bool) → is_listed s (marked x ms) ≡ list_any (λ (k : ℕ × ℕ). (k.0 == x) && (k.1 == s)) ms →
        is_listed s (map (λ (k : ℕ × ℕ). k.1) (cond b (m ∷ filter (λ (k : ℕ × ℕ). k.0 == x) ms) (filter (λ (k : ℕ × ℕ). k.0 == x) ms)))
        ≡ ((b && (m.1 == s)) || list_any (λ (k : ℕ × ℕ). (k.0 == x) && (k.1 == s)) ms)
    by true ih = ap (λ c. (m.1 == s) || c) ih
    by false ih = ih

new_left : (f : ℕ → Bool) (ms ss : List ℕ) → AreNew ms ss → AreNew ms (filter f ss)
new_left f [] ss new = tt
new_left f (m ∷ ms) ss new = (passes_not f m ss new.0, new_left f ms ss new.1)

pub lists_are_seen : ListsAreSeen
lists_are_seen x p got grants excluded included e says new =
    ap (λ ss. with_stores (marked x included) ss) (take_out (marked x excluded) e.stores ∙ (λ i. filter (λ s. same s i) e.stores))
    ∙ put_last (marked x included) (filter (λ s. not (target p s && not (got s))) e.stores) says.distinct
    (new_left (λ s. not (target p s && not (got s))) (marked x included) e.stores new)
    ∙ ap (λ ms. filter (λ s. not (target p s && not (got s))) e.stores ++ ms) says.joins
  where
    same : (s : ℕ) → not (is_listed s (marked x excluded)) ≡ not (target p s && not (got s))
    same s = ap not (marked_is x s excluded ∙ says.marks s)

-- ---- the entry

same_is : (ms ns : List ℕ) → same_nodes ms ns ≡ bytes_eq ms ns
same_is [] [] = refl
same_is [] (n ∷ ns) = refl
same_is (m ∷ ms) [] = refl
same_is (m ∷ ms) (n ∷ ns) = ap (λ b. (m == n) && b) (same_is ms ns)

-- what a filter leaves comes from an object, and an object with a grant is left
entered_from : (f : ℕ → Option ObjectState) (grants : Grants) (q : ObjectState) → Among q (filter_map (λ (g : ℕ × ℕ). f g.0) grants) →
    (y : ℕ) × (f y ≡ Some q)
entered_from f [] q a = absurd a
entered_from f (g ∷ gs) q a = by (f g.0) refl a (entered_from f gs q)
  where
    by : (o : Option ObjectState) → f g.0 ≡ o → Among q (cons_option o (filter_map (λ (k : ℕ × ℕ). f k.0) gs)) →
        (Among q (filter_map (λ (k : ℕ × ℕ). f k.0) gs) → (y : ℕ) × (f y ≡ Some q)) → (y : ℕ) × (f y ≡ Some q)
    by None e a ih = ih a
    by (Some t) e (inl same) ih = (g.0, e ∙ ap Some same)
    by (Some t) e (inr more) ih = ih more

entered_there : (f : ℕ → Option ObjectState) (x : ℕ) (grants : Grants) (q : ObjectState) → names_grant x grants ≡ true → f x ≡ Some q →
    Among q (filter_map (λ (g : ℕ × ℕ). f g.0) grants)
entered_there f x [] q on is = absurd (cc on)
entered_there f x (g ∷ gs) q on is = by (f g.0) refl (or_cases (g.0 == x) (names_grant x gs) on) (λ more. entered_there f x gs q more is)
  where
    here : (g.0 == x) ≡ true → f g.0 ≡ Some q
    here e = ap f (test_is g.0 x e) ∙ is

    by : (o : Option ObjectState) → f g.0 ≡ o → ((g.0 == x) ≡ true) ⊎ (names_grant x gs ≡ true) → (names_grant x gs ≡ true →
        Among q (filter_map (λ (k : ℕ × ℕ). f k.0) gs)) → Among q (cons_option o (filter_map (λ (k : ℕ × ℕ). f k.0) gs))
    by None e (inl one) ih = absurd (never_some (here one) e)
    by None e (inr more) ih = ih more
    by (Some t) e (inl one) ih = inl (some_is e (here one))
    by (Some t) e (inr more) ih = inr (ih more)

-- the entry that is held
abbrev pub Held : ℕ → Pair → State → Type 0
Held x d S = (st : ObjectState) × (held_at (entry x) d ≡ Some st) × (packed_entry st ≡ S.entry)

pub held_is : (x : ℕ) (d : Pair) (S : State) → SeesEntry x d S → Held x d S
held_is x d S sees = by (held_at (entry x) d) refl sees.pair.held_is
  where
    by : (o : Option ObjectState) → held_at (entry x) d ≡ o → option_map packed_entry o ≡ Some S.entry → Held x d S
    by None e h = absurd (cc h)
    by (Some st) e h = (st, e, (let same : packed_entry st ≡ S.entry = cc h in same))

module _ (x : ℕ) (d : Pair) (S : State) (top : Uid) (grants : Grants) (excluded included : Marks) (sees : SeesEntry x d S)
    (says : SaysMarks x (S.plan (uid_number top)) (S.got (uid_number top)) grants excluded included)
    (new : AreNew (marked x included) S.entry.content) where
  abbrev Now : List ℕ
  Now = new_list S (uid_number top)

  -- the state of an entry names its object
  of_its : (y : ℕ) (q : ObjectState) → entry_after top excluded included y (held_at (entry y) d) ≡ Some q → q.uid ≡ entry y
  of_its y q is = from (held_at (entry y) d) is
    where
      from : (o : Option ObjectState) → entry_after top excluded included y o ≡ Some q → q.uid ≡ entry y
      from None h = absurd (cc h)
      from (Some st) h = by (same_nodes (stores_after y excluded included (state_entry st)) (state_entry st).stores) h
        where
          by : (b : Bool) → (if b then None else Some (entry_state y top st (stores_after y excluded included (state_entry st))))
              ≡ Some q → q.uid ≡ entry y
          by true h = absurd (cc h)
          by false h = let same : entry_state y top st (stores_after y excluded included (state_entry st)) ≡ q = cc h in
              ap (λ (k : ObjectState). k.uid) (sym same)

  -- a state of the object among the new entries is what is made of its own
  own_made : (q : ObjectState) → IsOf (entry x) (entries_after top grants excluded included d) q →
      entry_after top excluded included x (held_at (entry x) d) ≡ Some q
  own_made q of =
      let f = entered_from (λ y. entry_after top excluded included y (held_at (entry y) d)) grants q of.0 in
      let same : f.0 ≡ x = ap (λ (u : Uid). u.num) (sym (of_its f.0 q f.1) ∙ of.1) in
      subst (λ y. entry_after top excluded included y (held_at (entry y) d) ≡ Some q) same f.1

  module _ (st : ObjectState) (there : held_at (entry x) d ≡ Some st) (is : packed_entry st ≡ S.entry) where
    stores_are : (state_entry st).stores ≡ S.entry.content
    stores_are = ap (λ (e : Packed). e.content) is

    list_is_now : stores_after x excluded included (state_entry st) ≡ Now
    list_is_now = lists_are_seen x (S.plan (uid_number top)) (S.got (uid_number top)) grants excluded included (state_entry st) says
        (subst (λ l. AreNew (marked x included) l) (sym stores_are) new)
        ∙ ap (λ l. list_after (S.plan (uid_number top)) (S.got (uid_number top)) l) stores_are

    test_is_now : same_nodes (stores_after x excluded included (state_entry st)) (state_entry st).stores ≡ bytes_eq Now S.entry.content
    test_is_now = (λ i. same_nodes (list_is_now i) (stores_are i)) ∙ same_is Now S.entry.content

    makes : entry_after top excluded included x (held_at (entry x) d)
        ≡ (if bytes_eq Now S.entry.content then None else Some (entry_state x top st Now))
    makes = ap (λ o. entry_after top excluded included x o) there
        ∙ (λ i. if test_is_now i then None else Some (entry_state x top st (list_is_now i)))

    next_is : FitsVersion S.entry → next_version st.version ≡ S.entry.version + 1
    next_is fits = ap next_version (ap (λ (e : Packed). e.version) is) ∙ capped S.entry.version fits
      where
        capped : (v : ℕ) → v < 18446744073709551615 → min (v + 1) 18446744073709551615 ≡ v + 1
        capped v h = grind arith

    packs : FitsVersion S.entry →
        packed_entry (entry_state x top st Now) ≡ record { version = S.entry.version + 1; writer = uid_number top; content = Now }
    packs fits = λ i. record {
      version = next_is fits i;
      writer = uid_number top;
      content = (entry_back (record { servers = (state_entry st).servers; stores = Now }) i).stores;
    }

    -- a list that changes has a target, and so a grant
    pub has_target : bytes_eq Now S.entry.content ≡ false → (s : ℕ) × (target (S.plan (uid_number top)) s ≡ true)
    has_target other = ⊎_elim
        (λ (f : (m : ℕ) × (has m S.entry.content ≡ true) × (target (S.plan (uid_number top)) m ≡ true)). (f.0, f.2))
        (λ (none : (m : ℕ) → has m S.entry.content ≡ true → target (S.plan (uid_number top)) m ≡ false). ⊎_elim
        (λ (f : (m : ℕ) × (has m (S.plan (uid_number top)).joins ≡ true) × (S.got (uid_number top) m ≡ true)). (
          f.0,
          or_right (is_some (S.plan (uid_number top)).writes && has f.0 (S.plan (uid_number top)).list)
              (has f.0 (S.plan (uid_number top)).joins) f.1,
        ))
        (λ (nobody : (m : ℕ) → has m (S.plan (uid_number top)).joins ≡ true → S.got (uid_number top) m ≡ false).
        absurd (never (list_is Now S.entry.content (list_same (S.plan (uid_number top)) (S.got (uid_number top)) S.entry.content
        (λ m i goal. absurd (never goal (none m i))) nobody)) other))
        (find_true (S.got (uid_number top)) (S.plan (uid_number top)).joins))
        (find_true (target (S.plan (uid_number top))) S.entry.content)

    -- a list that changes makes a new entry of the object
    pub is_made : bytes_eq Now S.entry.content ≡ false →
        entry_after top excluded included x (held_at (entry x) d) ≡ Some (entry_state x top st Now)
    is_made other = makes ∙ ap (λ b. if b then None else Some (entry_state x top st Now)) other

    pub stands_there : bytes_eq Now S.entry.content ≡ false →
        IsOf (entry x) (entries_after top grants excluded included d) (entry_state x top st Now)
    stands_there other = let s = has_target other in (
      entered_there (λ y. entry_after top excluded included y (held_at (entry y) d)) x grants (entry_state x top st Now)
          (says.granted s.0 s.1) (is_made other),
      refl,
    )

    pub is_one : FitsVersion S.entry → bytes_eq Now S.entry.content ≡ false →
        AreOne packed_entry (entry x) (entries_after top grants excluded included d) (entry_hold S (uid_number top)).new
    is_one fits other r of = ap packed_entry (some_is (own_made r of) (is_made other)) ∙ packs fits
        ∙ sym (ap (λ b. if b then S.entry else record { version = S.entry.version + 1; writer = uid_number top; content = Now }) other)

    pub rests : bytes_eq Now S.entry.content ≡ true → HasNone (entry x) (entries_after top grants excluded included d)
    rests same q of = never_some (own_made q of) (makes ∙ ap (λ b. if b then None else Some (entry_state x top st Now)) same)
