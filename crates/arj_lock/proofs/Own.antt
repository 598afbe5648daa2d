-- A change of an action's row of an object.
use Rattle.std.proofs.Common.{Result, Ok, Err, OnErr, ◌≡◌, ℕ, List, [], ◌∷◌, ◌++◌, Bool, true, false, cond, ◌&&◌, ◌||◌, Option, Some, None}
use Rattle.std.proofs.Common.{refl, sym, ◌∙◌, ap, subst, find, map}
use Rattle.std.proofs.Math.Bool.{or-false}
use Rattle.std.proofs.lemmas.Bool.{and_parts, or_parts}
use Rattle.std.specs.BTreeMap.{is_at}
use Rattle.std.specs.List.{list_any}
use Rattle.std.specs.Map.{set_value}
use Rattle.std.specs.Option.{option_map}
use Rattle.std.specs.Ordering.{nat_cmp}
use Rattle.std.specs.Prelude.{nat_lt}
use Rattle.arj_base.specs.declared.mode.Mode.{Mode}
use Rattle.arj_base.specs.declared.mode.Mode.TheVariants.{Read, Exclude, Write}
use Rattle.arj_base.specs.declared.uid.Uid.{Uid}
use Rattle.arj_base.specs.Mode.{mode_code, stronger}
use Rattle.arj_base.specs.Rows.{Row, grant_row, has_row, is_row_of, last_uid, mode_of}
use Rattle.arj_base.specs.Uid.{uid_eq}
use Rattle.arj_base.proofs.Uids.{uid_is}
use Rattle.arj_lock.specs.Exclusion.{IsOneEach}
use Rattle.arj_lock.specs.Groups.{is_next}
use Rattle.arj_lock.specs.Index.{lock_at}
use Rattle.arj_lock.specs.Locks.{rows_in, shown}
use Rattle.arj_lock.specs.Passing.{raised}
use Rattle.arj_lock.specs.Requests.{lowered}
use Rattle.arj_lock.specs.declared.group.Group.TheVariants.{Own}
use Rattle.arj_lock.specs.declared.lock.Lock.{Lock}
use Rattle.arj_lock.proofs.Entries.{Parted, find_row, none_in_group, none_passes, one_passes, parted}

-- a change of rows that pass a test
abbrev pub changed : (Row → Bool) → (Row → Row) → Row → Row
changed p g row = cond (p row) (g row) row

pub changed_none : (p : Row → Bool) (g : Row → Row) (rows : List Row) → list_any p rows ≡ false → map (changed p g) rows ≡ rows
changed_none p g [] none = refl
changed_none p g (r ∷ rows) none =
    let parts = or_parts (p r) (list_any p rows) none in
    λ i. cond (parts.0 i) (g r) r ∷ changed_none p g rows parts.1 i

-- the rows of an action on an object: where one is found, there is no other
own_apart : (object holder : Uid) (r : Row) (rows : List Row) → is_row_of object holder r ≡ true →
    has_row r.object (last_uid r.holder) rows ≡ false → has_row object holder rows ≡ false
own_apart object holder r rows own none =
    let parts = and_parts (uid_eq r.object object) (uid_eq (last_uid r.holder) holder) own in
    (λ i. has_row (sym (uid_is r.object object parts.0) i) (sym (uid_is (last_uid r.holder) holder parts.1) i) rows) ∙ none

pub changed_at : (object holder : Uid) (g : Row → Row) (bs : List Row) (r : Row) (as' : List Row) → IsOneEach (bs ++ r ∷ as') →
    is_row_of object holder r ≡ true
    → map (changed (is_row_of object holder) g) (bs ++ r ∷ as') ≡ bs ++ g r ∷ as'
changed_at object holder g [] r as' one own =
    λ i. cond (own i) (g r) r ∷ changed_none (is_row_of object holder) g as' (own_apart object holder r as' own one.0) i
changed_at object holder g (b ∷ bs) r as' one own =
    λ i. by (is_row_of object holder b) refl i ∷ changed_at object holder g bs r as' one.1 own i
  where
    mid : (p : Row → Bool) (xs : List Row) → list_any p (xs ++ r ∷ as') ≡ false → p r ≡ false
    mid p [] e = (or_parts (p r) (list_any p as') e).0
    mid p (x ∷ xs) e = mid p xs (or_parts (p x) (list_any p (xs ++ r ∷ as')) e).1

    by : (c : Bool) → is_row_of object holder b ≡ c → cond c (g b) b ≡ b
    by true e =
        let never : true ≡ false = sym own ∙ mid (is_row_of object holder) bs (own_apart object holder b (bs ++ r ∷ as') e one.0) in cc
    by false e = refl

-- a grant to an action that has a row of the object, and to one that has none
pub grant_raises : (new : Row) (rows : List Row) → IsOneEach rows → has_row new.object (last_uid new.holder) rows ≡ true →
    map (raised new.object (last_uid new.holder) new.mode) rows ≡ grant_row new rows
grant_raises new [] one there = cc
grant_raises new (r ∷ rows) one there = by (is_row_of new.object (last_uid new.holder) r) refl there (grant_raises new rows one.1)
  where
    p : Row → Bool
    p = is_row_of new.object (last_uid new.holder)

    g : Row → Row
    g row = record row { mode = stronger row.mode new.mode }

    by : (b : Bool) → p r ≡ b → (b || list_any p rows) ≡ true →
        (has_row new.object (last_uid new.holder) rows ≡ true →
        map (raised new.object (last_uid new.holder) new.mode) rows ≡ grant_row new rows)
        → cond b (g r) r ∷ map (raised new.object (last_uid new.holder) new.mode) rows ≡ cond b (g r ∷ rows) (r ∷ grant_row new rows)
    by true e is ih = ap (λ rs. g r ∷ rs) (changed_none p g rows (own_apart new.object (last_uid new.holder) r rows e one.0))
    by false e is ih = ap (λ rs. r ∷ rs) (ih is)

pub grant_new : (new : Row) (rows : List Row) → has_row new.object (last_uid new.holder) rows ≡ false →
    rows ++ new ∷ [] ≡ grant_row new rows
grant_new new [] none = refl
grant_new new (r ∷ rows) none =
    let parts = or_parts (is_row_of new.object (last_uid new.holder) r) (has_row new.object (last_uid new.holder) rows) none in
    ap (λ rs. r ∷ rs) (grant_new new rows parts.1) ∙ (λ i. cond (sym parts.0 i) (record r {
      mode =
          stronger r.mode new.mode;
    } ∷ rows) (r ∷ grant_row new rows))

-- a lowered row is of the same object and holder

pub lowered_object : (action object : Uid) (row : Row) → (lowered action object row).object ≡ row.object
lowered_object action object row = by (is_row_of object action row)
  where
    by : (b : Bool) → (cond b (record row { mode = Read }) row).object ≡ row.object
    by true = refl
    by false = refl

pub lowered_holder : (action object : Uid) (row : Row) → (lowered action object row).holder ≡ row.holder
lowered_holder action object row = by (is_row_of object action row)
  where
    by : (b : Bool) → (cond b (record row { mode = Read }) row).holder ≡ row.holder
    by true = refl
    by false = refl

-- ---- the lock that is found

module _ (object holder : Uid) (g : Row → Row) (es : List (ℕ × Lock)) where
  abbrev owned : Row → Bool
  owned = is_row_of object holder

  module _ (n : ℕ) (lock : Lock) (at : lock_at n es ≡ Some lock) (own : owned (shown lock) ≡ true) (one : IsOneEach (rows_in es)) where
    found : Parted n lock es
    found = parted n lock es at

    all : map (changed owned g) (rows_in es) ≡ found.front ++ g (shown lock) ∷ found.rest
    all = ap (map (changed owned g)) found.split ∙ changed_at object holder g found.front (shown lock) found.rest (subst IsOneEach found.split one) own

    pub own_changed : (w : Lock) → shown w ≡ g (shown lock) →
        rows_in (set_value (is_at (nat_cmp n)) es w) ≡ map (changed owned g) (rows_in es)
    own_changed w is = found.put w ∙ (λ i. found.front ++ is i ∷ found.rest) ∙ sym all

    pub own_same : g (shown lock) ≡ shown lock → rows_in es ≡ map (changed owned g) (rows_in es)
    own_same same = found.split ∙ (λ i. found.front ++ sym same i ∷ found.rest) ∙ sym all

  pub own_none : find (is_next (Own object holder) None) es ≡ None → rows_in es ≡ map (changed owned g) (rows_in es)
  own_none none = sym (changed_none owned g (rows_in es) (none_in_group (Own object holder) es none))

pub own_mode : (object holder : Uid) (es : List (ℕ × Lock)) (o : Option (ℕ × Lock)) → find (is_next (Own object holder) None) es ≡ o →
    mode_of object holder (rows_in es) ≡ option_map (λ e. e.1.mode) o
own_mode object holder es None found =
    ap (option_map (λ (r : Row). r.mode)) (find_row (is_row_of object holder) es ∙ ap (option_map (λ (e : ℕ × Lock). shown e.1)) found)
own_mode object holder es (Some e) found =
    ap (option_map (λ (r : Row). r.mode)) (find_row (is_row_of object holder) es ∙ ap (option_map (λ (x : ℕ × Lock). shown x.1)) found)

pub weaker : (a b : Mode) → nat_lt (mode_code a) (mode_code b) ≡ false → stronger a b ≡ a
weaker Read Read e = refl
weaker Read Exclude e = cc
weaker Read Write e = cc
weaker Exclude Read e = refl
weaker Exclude Exclude e = refl
weaker Exclude Write e = cc
weaker Write Read e = refl
weaker Write Exclude e = refl
weaker Write Write e = refl

-- of an action's own row alone does a test hold that asks for it
pub none_own : (object holder : Uid) (w : Row → Bool) (rows : List Row) → has_row object holder rows ≡ false →
    list_any (λ x. is_row_of object holder x && w x) rows ≡ false
none_own object holder w [] e = refl
none_own object holder w (x ∷ rows) e =
    let parts = or_parts (is_row_of object holder x) (has_row object holder rows) e in λ i. (parts.0 i && w x) || none_own object holder w rows parts.1 i

pub only_own : (object holder : Uid) (w : Row → Bool) (bs : List Row) (r : Row) (as' : List Row) → IsOneEach (bs ++ r ∷ as') →
    is_row_of object holder r ≡ true
    → list_any (λ x. is_row_of object holder x && w x) (bs ++ r ∷ as') ≡ w r
only_own object holder w [] r as' one own =
    (λ i. (own i && w r) || none_own object holder w as' (own_apart object holder r as' own one.0) i) ∙ or-false (w r)
only_own object holder w (b ∷ bs) r as' one own = by (is_row_of object holder b) refl (only_own object holder w bs r as' one.1 own)
  where
    mid : (p : Row → Bool) (xs : List Row) → list_any p (xs ++ r ∷ as') ≡ false → p r ≡ false
    mid p [] e = (or_parts (p r) (list_any p as') e).0
    mid p (x ∷ xs) e = mid p xs (or_parts (p x) (list_any p (xs ++ r ∷ as')) e).1

    by : (c : Bool) → is_row_of object holder b ≡ c → list_any (λ x. is_row_of object holder x && w x) (bs ++ r ∷ as') ≡ w r →
        ((c && w b) || list_any (λ x. is_row_of object holder x && w x) (bs ++ r ∷ as')) ≡ w r
    by true e ih =
        let never : true ≡ false = sym own ∙ mid (is_row_of object holder) bs (own_apart object holder b (bs ++ r ∷ as') e one.0) in cc
    by false e ih = ih

-- ---- whether there is one, by its mode

module _ (object holder : Uid) (f : Mode → Bool) (rows : List Row) where
  pub has_own : (b : Bool) → Some b ≡ option_map f (mode_of object holder rows) → has_row object holder rows ≡ true
  has_own b is = by (find (is_row_of object holder) rows) refl is
    where
      by : (o : Option Row) → find (is_row_of object holder) rows ≡ o → Some b ≡ option_map f (option_map (λ (r : Row). r.mode) o) →
          has_row object holder rows ≡ true
      by None found e = cc
      by (Some r) found e = one_passes (is_row_of object holder) rows r found

  pub has_none : None ≡ option_map f (mode_of object holder rows) → has_row object holder rows ≡ false
  has_none is = by (find (is_row_of object holder) rows) refl is
    where
      by : (o : Option Row) → find (is_row_of object holder) rows ≡ o → None ≡ option_map f (option_map (λ (r : Row). r.mode) o) →
          has_row object holder rows ≡ false
      by None found e = none_passes (is_row_of object holder) rows found
      by (Some r) found e = cc

pub on_err : {T E P : Type 0} (r : Result T E) → P → OnErr r P
on_err (Ok t) p = tt
on_err (Err e) p = p
