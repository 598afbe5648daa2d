-- Locks under their grants: one that is found, one that comes, one that goes.
use Rattle.std.proofs.Common.{◌≡◌, ℕ, suc, ◌+◌, ◌<◌, ◌≤◌, Bool, true, false, cond, not, ◌&&◌, ◌||◌, List, [], ◌∷◌, ◌++◌, length, filter}
use Rattle.std.proofs.Common.{find, Option, Some, None, refl, sym, ◌∙◌, ap, subst, arith}
use Rattle.std.proofs.Math.Bool.{or-false}
use Rattle.std.proofs.lemmas.Bool.{and_parts}
use Rattle.std.proofs.lemmas.Bool.Decides.{nat_tests}
use Rattle.std.proofs.lemmas.Map.Keys.{ge_from_not_lt}
use Rattle.std.proofs.lemmas.Cmp.{nat_cmp_total, tied_itself}
use Rattle.std.specs.Borrow.{Bor}
use Rattle.std.specs.BTreeMap.{insert_entry, is_at}
use Rattle.std.specs.Cmp.{nat_cmp_is}
use Rattle.std.specs.BTreeSet.{BTreeSet}
use Rattle.std.specs.List.{All, AllByRecursion, list_any}
use Rattle.std.specs.List.Sorted.{IsStrictlySortedBy}
use Rattle.std.specs.Map.{keys_of, remove_entry, set_value}
use Rattle.std.specs.Option.{IfSome, is_some, option_map}
use Rattle.std.specs.Ordering.{is_eq, is_lt, match_ordering, nat_cmp, ordering_reverse}
use Rattle.std.specs.declared.cmp.Ordering.{Ordering}
use Rattle.std.specs.declared.cmp.Ordering.TheVariants.{Less, Equal, Greater}
use Rattle.arj_base.specs.Rows.{Row}
use Rattle.arj_lock.specs.Groups.{has, is_after, is_next}
use Rattle.arj_lock.specs.Index.{AreIndexed, IsAbove, IsFirst, IsFound, Joins, has_lock, lock_at, put_lock, stands, without_lock}
use Rattle.arj_lock.specs.Locks.{rows_in, shown}
use Rattle.arj_lock.specs.declared.group.Group.{Group}
use Rattle.arj_lock.specs.declared.group.Member.{Member}
use Rattle.arj_lock.specs.declared.lock.Lock.{Lock}
use Rattle.arj_lock.proofs.Orders.{number}

-- ---- one that is found, among the others

pub record Parted (n : ℕ) (lock : Lock) (es : List (ℕ × Lock)) : Type 0 where
  pub front : List Row
  pub rest : List Row
  pub split : rows_in es ≡ front ++ shown lock ∷ rest
  pub removed : rows_in (remove_entry (is_at (nat_cmp n)) es) ≡ front ++ rest
  pub put : (w : Lock) → rows_in (set_value (is_at (nat_cmp n)) es w) ≡ front ++ shown w ∷ rest
  pub shorter : length es ≡ suc (length (remove_entry (is_at (nat_cmp n)) es))

pub parted : (n : ℕ) (lock : Lock) (es : List (ℕ × Lock)) → lock_at n es ≡ Some lock → Parted n lock es
parted n lock [] at = cc
parted n lock (e ∷ es) at = by (is_eq (nat_cmp n e.0)) refl at (parted n lock es)
  where
    test : ℕ → Bool
    test = is_at (nat_cmp n)

    by : (b : Bool) → is_eq (nat_cmp n e.0) ≡ b → cond b (Some e.1) (lock_at n es) ≡ Some lock →
        (lock_at n es ≡ Some lock → Parted n lock es) → Parted n lock (e ∷ es)
    by true is found ih =
        let same : e.1 ≡ lock = cc in
        record {
          front = [];
          rest = rows_in es;
          split = λ i. shown (same i) ∷ rows_in es;
          removed = λ i. rows_in (cond (is i) es (e ∷ remove_entry (is_at (nat_cmp n)) es));
          put = λ w i. rows_in (cond (is i) ((e.0, w) ∷ es) (e ∷ set_value (is_at (nat_cmp n)) es w));
          shorter = λ i. suc (length (cond (sym is i) es (e ∷ remove_entry (is_at (nat_cmp n)) es)));
        }
    by false is found ih =
        let a = ih found in
        record {
          front = shown e.1 ∷ a.front;
          rest = a.rest;
          split = ap (λ rs. shown e.1 ∷ rs) a.split;
          removed = (λ i. rows_in (cond (is i) es (e ∷ remove_entry (is_at (nat_cmp n)) es))) ∙ ap (λ rs. shown e.1 ∷ rs) a.removed;
          put = λ w. (λ i. rows_in (cond (is i) ((e.0, w) ∷ es) (e ∷ set_value (is_at (nat_cmp n)) es w))) ∙ ap (λ rs. shown e.1 ∷ rs) (a.put w);
          shorter = ap suc a.shorter ∙ (λ i. suc (length (cond (sym is i) es (e ∷ remove_entry (is_at (nat_cmp n)) es))));
        }

-- ---- the first one that passes a test

itself : (n : ℕ) → is_eq (nat_cmp n n) ≡ true
itself n = ap is_eq (tied_itself nat_cmp_total n)

at_head : (e : ℕ × Lock) (es : List (ℕ × Lock)) → lock_at e.0 (e ∷ es) ≡ Some e.1
at_head e es = λ i. cond (itself e.0 i) (Some e.1) (lock_at e.0 es)

abbrev pub Rises : List (ℕ × Lock) → Type 0
Rises es = IsStrictlySortedBy nat_cmp (keys_of es)

pub less_from : (m n : ℕ) → nat_cmp m n ≡ Less → m < n
less_from m n e = grind (arith, nat_tests, e)

later_in : (k m : ℕ) (lock : Lock) (es : List (ℕ × Lock)) → AllByRecursion (λ y. nat_cmp k y ≡ Less) (keys_of es) →
    lock_at m es ≡ Some lock → k < m
later_in k m lock [] all at = cc
later_in k m lock (e ∷ es) all at = by (is_eq (nat_cmp m e.0)) refl at (later_in k m lock es all.1)
  where
    by : (b : Bool) → is_eq (nat_cmp m e.0) ≡ b → cond b (Some e.1) (lock_at m es) ≡ Some lock → (lock_at m es ≡ Some lock → k < m) → k < m
    by true is found ih = subst (λ y. k < y) (sym (number m e.0 is)) (less_from k e.0 all.0)
    by false is found ih = ih found

-- a later lock is under a greater grant, and is found there in the whole
pub later : (e : ℕ × Lock) (es : List (ℕ × Lock)) (m : ℕ) (lock : Lock) → Rises (e ∷ es) → lock_at m es ≡ Some lock →
    (e.0 < m) × (lock_at m (e ∷ es) ≡ Some lock)
unfolding IsStrictlySortedBy
later e es m lock rises at = (less, (λ i. cond (other i) (Some e.1) (lock_at m es)) ∙ at)
  where
    less : e.0 < m
    less = later_in e.0 m lock es rises.0 at

    other : is_eq (nat_cmp m e.0) ≡ false
    other = ap is_eq (sym (nat_cmp_is m e.0 Greater less))

module _ (p : ℕ × Lock → Bool) where
  pub find_none : (es : List (ℕ × Lock)) → Rises es → ((m : ℕ) (lock : Lock) → lock_at m es ≡ Some lock → p (m, lock) ≡ false) →
      find p es ≡ None
  unfolding IsStrictlySortedBy
  find_none [] rises none = refl
  find_none (e ∷ es) rises none =
      (λ i. cond (none e.0 e.1 (at_head e es) i) (Some e) (find p es)) ∙ find_none es rises.1 (λ m lock at. none m lock (later e es m lock rises at).1)

  pub find_first : (es : List (ℕ × Lock)) (n : ℕ) (lock : Lock) → Rises es → lock_at n es ≡ Some lock → p (n, lock) ≡ true →
      ((m : ℕ) (l : Lock) → lock_at m es ≡ Some l → p (m, l) ≡ true → n ≤ m) → find p es ≡ Some (n, lock)
  unfolding IsStrictlySortedBy
  find_first [] n lock rises at passes least = cc
  find_first (e ∷ es) n lock rises at passes least =
      by (p e) refl (is_eq (nat_cmp n e.0)) refl at (λ there. find_first es n lock rises.1 there passes (λ m l found. least m l (later e es m l rises found).1))
    where
      by : (b : Bool) → p e ≡ b → (c : Bool) → is_eq (nat_cmp n e.0) ≡ c → cond c (Some e.1) (lock_at n es) ≡ Some lock →
          (lock_at n es ≡ Some lock → find p es ≡ Some (n, lock)) → cond b (Some e) (find p es) ≡ Some (n, lock)
      by true is true here found ih = let same : e.1 ≡ lock = cc in λ i. Some (sym (number n e.0 here) i, same i)
      by true is false there found ih =
          let less = (later e es n lock rises found).0 in let le = least e.0 e.1 (at_head e es) is in absurd (omega (arith, less, le))
      by false is true here found ih =
          let same : e.1 ≡ lock = cc in
          let never : true ≡ false = sym passes ∙ (λ i. p (number n e.0 here i, sym same i)) ∙ is in cc
      by false is false there found ih = ih found

  pub found_at : (es : List (ℕ × Lock)) (e : ℕ × Lock) → Rises es → find p es ≡ Some e → (lock_at e.0 es ≡ Some e.1) × (p e ≡ true)
  unfolding IsStrictlySortedBy
  found_at [] e rises found = cc
  found_at (x ∷ es) e rises found =
      by (p x) refl found (λ there. let f = found_at es e rises.1 there in ((later x es e.0 e.1 rises f.0).1, f.1))
    where
      by : (b : Bool) → p x ≡ b → cond b (Some x) (find p es) ≡ Some e →
          (find p es ≡ Some e → (lock_at e.0 (x ∷ es) ≡ Some e.1) × (p e ≡ true)) → (lock_at e.0 (x ∷ es) ≡ Some e.1) × (p e ≡ true)
      by true is here ih = let same : x ≡ e = cc in (subst (λ y. lock_at y.0 (x ∷ es) ≡ Some y.1) same (at_head x es), ap p (sym same) ∙ is)
      by false is there ih = ih there

  pub if_found : (es : List (ℕ × Lock)) (o : Option (ℕ × Bor Lock)) → Rises es → IsFound (find p es) o
      → IfSome o (λ e. lock_at e.0 es ≡ Some e.1.now)
  if_found es None rises is = tt
  if_found es (Some e) rises is = (found_at es (e.0, e.1.now) rises is).0

-- and so by an index
module _ (group : Group) (after : Option ℕ) (es : List (ℕ × Lock)) (index : BTreeSet Member) (rises : Rises es) (are : AreIndexed (λ n. lock_at n es) index) where
  abbrev test : ℕ → Bool
  test n = stands index group n && is_after after n

  test_is : (m : ℕ) (lock : Lock) → lock_at m es ≡ Some lock → test m ≡ is_next group after (m, lock)
  test_is m lock at =
      (λ i. (are group m ∙ ap (has_lock group) at) i && is_after after m) ∙ turned (has group (shown lock)) (is_after after m)
    where
      turned : (a b : Bool) → (a && b) ≡ (b && a)
      turned true true = refl
      turned true false = refl
      turned false true = refl
      turned false false = refl

  pub indexed_none : IsFirst test None → find (is_next group after) es ≡ None
  indexed_none none = find_none (is_next group after) es rises (λ m lock at. sym (test_is m lock at) ∙ none m)

  pub indexed_some : (n : ℕ) (lock : Lock) → lock_at n es ≡ Some lock → IsFirst test (Some n) →
      find (is_next group after) es ≡ Some (n, lock)
  indexed_some n lock at first =
      find_first (is_next group after) es n lock rises at (sym (test_is n lock at) ∙ first.0) (λ m l there is. first.1 m (test_is m l there ∙ is))

  -- what the index has first is there
  pub indexed_there : (n : ℕ) → IsFirst test (Some n) → lock_at n es ≡ None → ⊥
  indexed_there n first none =
      let never : true ≡ false =
      sym (and_parts (stands index group n) (is_after after n) first.0).0 ∙ are group n ∙ ap (has_lock group) none in cc

-- ---- one more, above all

pub above_all : (k : ℕ) (es : List (ℕ × Lock)) → All (λ q. is_lt (nat_cmp k q) ≡ false) (keys_of es) → IsAbove es (k + 1)
above_all k [] all = tt
above_all k (e ∷ es) all =
    let le = ge_from_not_lt k e.0 (all 0 0 (omega arith)) in
    (omega (arith, le), above_all k es (λ i d less. all (suc i) d (omega (arith, less))))

module _ (n : ℕ) (lock : Lock) where
  above : (k : ℕ) → k < n → nat_cmp n k ≡ Greater
  above k less = sym (nat_cmp_is n k Greater less)

  pub pushed : (es : List (ℕ × Lock)) → IsAbove es n → insert_entry nat_cmp es n lock ≡ es ++ (n, lock) ∷ []
  pushed [] all = refl
  pushed (e ∷ es) all =
      (λ i. match_ordering (above e.0 all.0 i) ((n, lock) ∷ e ∷ es) ((e.0, lock) ∷ es) (e ∷ insert_entry nat_cmp es n lock)) ∙ ap (λ xs. e ∷ xs) (pushed es all.1)

  pub none_above : (es : List (ℕ × Lock)) → IsAbove es n → lock_at n es ≡ None
  none_above [] all = refl
  none_above (e ∷ es) all = (λ i. cond (is_eq (above e.0 all.0 i)) (Some e.1) (lock_at n es)) ∙ none_above es all.1

pub rows_append : (es : List (ℕ × Lock)) (n : ℕ) (lock : Lock) → rows_in (es ++ (n, lock) ∷ []) ≡ rows_in es ++ shown lock ∷ []
rows_append [] n lock = refl
rows_append (e ∷ es) n lock = ap (λ rs. shown e.1 ∷ rs) (rows_append es n lock)

-- one in another's place
pub put_again : (n : ℕ) (lock : Lock) (at : ℕ → Option Lock) (m : ℕ) → put_lock n lock (without_lock n at) m ≡ put_lock n lock at m
put_again n lock at m = by (is_eq (nat_cmp n m))
  where
    by : (b : Bool) → cond b (Some lock) (cond b None (at m)) ≡ cond b (Some lock) (at m)
    by true = refl
    by false = refl

pub gone_here : (n : ℕ) (at : ℕ → Option Lock) → without_lock n at n ≡ None
gone_here n at = λ i. cond (itself n i) None (at n)

-- ---- the index of all, one lock more

-- nothing later is under the grant
alone : (e : ℕ × Lock) (es : List (ℕ × Lock)) → Rises (e ∷ es) → lock_at e.0 es ≡ None
alone e es rises = by (lock_at e.0 es) refl
  where
    by : (o : Option Lock) → lock_at e.0 es ≡ o → lock_at e.0 es ≡ None
    by None is = is
    by (Some lock) is = let less = (later e es e.0 lock rises is).0 in absurd (omega (arith, less))

pub one_indexed : (e : ℕ × Lock) (es : List (ℕ × Lock)) → Rises (e ∷ es) → (old new : BTreeSet Member) → Joins e.0 e.1 old new →
    (g : Group) (n : ℕ) (whole : Bool)
    → (stands old g n || has_lock g (lock_at n (e ∷ es))) ≡ whole → (stands new g n || has_lock g (lock_at n es)) ≡ whole
one_indexed e es rises old new joins g n whole are = (λ i. joins g n i || has_lock g (lock_at n es)) ∙ by (is_eq (nat_cmp n e.0)) refl ∙ are
  where
    turned : is_eq (nat_cmp e.0 n) ≡ is_eq (nat_cmp n e.0)
    turned = ap is_eq (nat_cmp_total.antisymm e.0 n) ∙ reversed (nat_cmp n e.0)
      where
        reversed : (o : Ordering) → is_eq (ordering_reverse o) ≡ is_eq o
        reversed Less = refl
        reversed Equal = refl
        reversed Greater = refl

    by : (b : Bool) → is_eq (nat_cmp n e.0) ≡ b →
        ((stands old g n || (is_eq (nat_cmp e.0 n) && has g (shown e.1))) || has_lock g (lock_at n es)) ≡ (stands old g n || has_lock g (cond (is_eq (nat_cmp n e.0)) (Some e.1) (lock_at n es)))
    by true is =
        (λ i. (stands old g n || ((turned ∙ is) i && has g (shown e.1))) || has_lock g ((ap (λ m. lock_at m es) (number n e.0 is) ∙ alone e es rises) i))
        ∙ or-false (stands old g n || has g (shown e.1)) ∙ (λ i. stands old g n || has_lock g (cond (sym is i) (Some e.1) (lock_at n es)))
    by false is =
        (λ i. (stands old g n || ((turned ∙ is) i && has g (shown e.1))) || has_lock g (lock_at n es)) ∙ (λ i. or-false (stands old g n) i || has_lock g (lock_at n es))
        ∙ (λ i. stands old g n || has_lock g (cond (sym is i) (Some e.1) (lock_at n es)))

-- ---- what a search among the locks says of the rows

module _ {X : Type 0} (p : X → Bool) where
  pub none_passes : (xs : List X) → find p xs ≡ None → list_any p xs ≡ false
  none_passes [] none = refl
  none_passes (x ∷ xs) none = by (p x) none (none_passes xs)
    where
      by : (b : Bool) → cond b (Some x) (find p xs) ≡ None → (find p xs ≡ None → list_any p xs ≡ false) → (b || list_any p xs) ≡ false
      by true is ih = cc
      by false is ih = ih is

  pub one_passes : (xs : List X) (x : X) → find p xs ≡ Some x → list_any p xs ≡ true
  one_passes [] x found = cc
  one_passes (y ∷ xs) x found = by (p y) found (one_passes xs x)
    where
      by : (b : Bool) → cond b (Some y) (find p xs) ≡ Some x → (find p xs ≡ Some x → list_any p xs ≡ true) → (b || list_any p xs) ≡ true
      by true is ih = refl
      by false is ih = ih is

module _ (p : Row → Bool) where
  pub find_row : (es : List (ℕ × Lock)) → find p (rows_in es) ≡ option_map (λ e. shown e.1) (find (λ e. p (shown e.1)) es)
  find_row [] = refl
  find_row (e ∷ es) = by (p (shown e.1)) (find_row es)
    where
      by : (b : Bool) → find p (rows_in es) ≡ option_map (λ x. shown x.1) (find (λ x. p (shown x.1)) es)
          → cond b (Some (shown e.1)) (find p (rows_in es)) ≡ option_map (λ x. shown x.1) (cond b (Some e) (find (λ x. p (shown x.1)) es))
      by true ih = refl
      by false ih = ih

  pub filter_none : (rows : List Row) → list_any p rows ≡ false → filter (λ r. not (p r)) rows ≡ rows
  filter_none [] none = refl
  filter_none (r ∷ rows) none = by (p r) none (filter_none rows)
    where
      by : (b : Bool) → (b || list_any p rows) ≡ false → (list_any p rows ≡ false → filter (λ x. not (p x)) rows ≡ rows) →
          cond (not b) (r ∷ filter (λ x. not (p x)) rows) (filter (λ x. not (p x)) rows) ≡ r ∷ rows
      by true is ih = cc
      by false is ih = ap (λ rs. r ∷ rs) (ih is)

  pub filter_without : (bs : List Row) (r : Row) (as' : List Row) → p r ≡ true →
      filter (λ x. not (p x)) (bs ++ as') ≡ filter (λ x. not (p x)) (bs ++ r ∷ as')
  filter_without [] r as' is = λ i. cond (not (sym is i)) (r ∷ filter (λ x. not (p x)) as') (filter (λ x. not (p x)) as')
  filter_without (b ∷ bs) r as' is = by (p b) (filter_without bs r as' is)
    where
      by : (c : Bool) → filter (λ x. not (p x)) (bs ++ as') ≡ filter (λ x. not (p x)) (bs ++ r ∷ as')
          → cond (not c) (b ∷ filter (λ x. not (p x)) (bs ++ as')) (filter (λ x. not (p x)) (bs ++ as')) ≡ cond (not c) (b ∷ filter (λ x. not (p x)) (bs ++ r ∷ as')) (filter (λ x. not (p x)) (bs ++ r ∷ as'))
      by true ih = ih
      by false ih = ap (λ rs. b ∷ rs) ih

-- ---- a look at a group

module _ (group : Group) (es : List (ℕ × Lock)) where
  pub none_in_group : find (is_next group None) es ≡ None → list_any (has group) (rows_in es) ≡ false
  none_in_group none = none_passes (has group) (rows_in es) (find_row (has group) es ∙ ap (option_map (λ (e : ℕ × Lock). shown e.1)) none)

  pub one_in_group : (e : ℕ × Lock) → find (is_next group None) es ≡ Some e → list_any (has group) (rows_in es) ≡ true
  one_in_group e found =
      one_passes (has group) (rows_in es) (shown e.1) (find_row (has group) es ∙ ap (option_map (λ (x : ℕ × Lock). shown x.1)) found)

  pub some_in_group : (o : Option (ℕ × Bor Lock)) → IsFound (find (is_next group None) es) o → is_some o ≡ list_any (has group) (rows_in es)
  some_in_group None is = sym (none_in_group is)
  some_in_group (Some e) is = sym (one_in_group (e.0, e.1.now) is)

  pub is_in_group : (e : ℕ × Lock) → Rises es → find (is_next group None) es ≡ Some e → has group (shown e.1) ≡ true
  is_in_group e rises found = (found_at (is_next group None) es e rises found).1

  pub without_one : (n : ℕ) (lock : Lock) → lock_at n es ≡ Some lock → has group (shown lock) ≡ true
      → filter (λ r. not (has group r)) (rows_in (remove_entry (is_at (nat_cmp n)) es)) ≡ filter (λ r. not (has group r)) (rows_in es)
  without_one n lock at passes =
      let a = parted n lock es at in
      ap (filter (λ r. not (has group r))) a.removed ∙ filter_without (has group) a.front (shown lock) a.rest passes ∙ ap (filter (λ r. not (has group r))) (sym a.split)
