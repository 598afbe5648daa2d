-- One row of an action passes: what is left to pass gives the same, and less of it is the action's.
use Rattle.std.proofs.Common.{◌≡◌, ℕ, suc, ◌<◌, List, [], ◌∷◌, ◌++◌, length, filter, map, Bool, true, false, cond, Option, Some, None, refl}
use Rattle.std.proofs.Common.{sym, ◌∙◌, ap, subst, arith}
use Rattle.std.proofs.lemmas.List.{map-append}
use Rattle.std.specs.BTreeMap.{is_at}
use Rattle.std.specs.Map.{remove_entry, set_value}
use Rattle.std.specs.Ordering.{nat_cmp}
use Rattle.arj_base.specs.declared.uid.Uid.{Uid}
use Rattle.arj_base.specs.Path.{before_last}
use Rattle.arj_base.specs.Rows.{Row, has_row, is_held_by, last_uid, pass_rows, renamed}
use Rattle.arj_base.specs.Uid.{uid_eq}
use Rattle.arj_lock.specs.Exclusion.{IsOneEach}
use Rattle.arj_lock.specs.Index.{lock_at}
use Rattle.arj_lock.specs.Locks.{rows_in, shown}
use Rattle.arj_lock.specs.Passing.{PassesOne, count, raised}
use Rattle.arj_lock.specs.declared.lock.Lock.{Lock}
use Rattle.arj_lock.proofs.Entries.{Parted, parted}
use Rattle.arj_lock.proofs.OneEach.{one_without, one_with, one_each_map}
use Rattle.arj_lock.proofs.Passes.{passes_gone, passes_merged, passes_renamed, renamed_other, free_without, raised_object, raised_holder}
use Rattle.arj_lock.proofs.Paths.{heir_is}

-- with one row more in the middle

pub count_in : (p : Row → Bool) (bs : List Row) (r : Row) (as' : List Row) → p r ≡ true →
    count p (bs ++ r ∷ as') ≡ suc (count p (bs ++ as'))
count_in p [] r as' e = λ i. length (cond (e i) (r ∷ filter p as') (filter p as'))
count_in p (b ∷ bs) r as' e = by (p b) (count_in p bs r as' e)
  where
    by : (c : Bool) → count p (bs ++ r ∷ as') ≡ suc (count p (bs ++ as')) →
        length (cond c (b ∷ filter p (bs ++ r ∷ as')) (filter p (bs ++ r ∷ as'))) ≡ suc (length (cond c (b ∷ filter p (bs ++ as')) (filter p (bs ++ as'))))
    by true ih = ap suc ih
    by false ih = ih

count_out : (p : Row → Bool) (bs : List Row) (r : Row) (as' : List Row) → p r ≡ false → count p (bs ++ r ∷ as') ≡ count p (bs ++ as')
count_out p [] r as' e = λ i. length (cond (e i) (r ∷ filter p as') (filter p as'))
count_out p (b ∷ bs) r as' e = by (p b) (count_out p bs r as' e)
  where
    by : (c : Bool) → count p (bs ++ r ∷ as') ≡ count p (bs ++ as') →
        length (cond c (b ∷ filter p (bs ++ r ∷ as')) (filter p (bs ++ r ∷ as'))) ≡ length (cond c (b ∷ filter p (bs ++ as')) (filter p (bs ++ as')))
    by true ih = ap suc ih
    by false ih = ih

count_map : (p : Row → Bool) (f : Row → Row) (xs : List Row) → ((x : Row) → p (f x) ≡ p x) → count p (map f xs) ≡ count p xs
count_map p f [] same = refl
count_map p f (x ∷ xs) same =
    (λ i. length (cond (same x i) (f x ∷ filter p (map f xs)) (filter p (map f xs)))) ∙ by (p x) (count_map p f xs same)
  where
    by : (b : Bool) → count p (map f xs) ≡ count p xs →
        length (cond b (f x ∷ filter p (map f xs)) (filter p (map f xs))) ≡ length (cond b (x ∷ filter p xs) (filter p xs))
    by true ih = ap suc ih
    by false ih = ih

module _ (action : Uid) (bs : List Row) (r : Row) (as' : List Row) (one : IsOneEach (bs ++ r ∷ as')) (own : is_held_by action r ≡ true) where
  less : count (is_held_by action) (bs ++ as') < count (is_held_by action) (bs ++ r ∷ as')
  less = let e = count_in (is_held_by action) bs r as' own in omega (arith, e)

  pub step_gone : before_last r.holder ≡ None → PassesOne action (bs ++ r ∷ as') (bs ++ as')
  step_gone parent = record { rows = passes_gone action bs r as' one own parent; one_each = one_without bs r as' one; fewer = less }

  pub step_merged : (heir : Uid) → before_last r.holder ≡ Some heir → has_row r.object heir (bs ++ r ∷ as') ≡ true →
      PassesOne action (bs ++ r ∷ as') (map (raised r.object heir r.mode) (bs ++ as'))
  step_merged heir parent there = record {
    rows = ap (pass_rows action) (map-append f bs as') ∙ passes_merged action bs r as' one own heir parent there;
    one_each = one_each_map f (bs ++ as') (raised_object r.object heir r.mode) (raised_holder r.object heir r.mode) (one_without bs r as' one);
    fewer = let e =
        count_map (is_held_by action) f (bs ++ as') (λ x i. uid_eq (last_uid (raised_holder r.object heir r.mode x i)) action) in omega (arith, e, less);
  }
    where
      f : Row → Row
      f = raised r.object heir r.mode

  pub step_renamed : (heir : Uid) → before_last r.holder ≡ Some heir → has_row r.object heir (bs ++ r ∷ as') ≡ false →
      PassesOne action (bs ++ r ∷ as') (bs ++ renamed r ∷ as')
  step_renamed heir parent free = record {
    rows = passes_renamed action bs r as' one own heir parent free;
    one_each = one_with bs (renamed r) as' (one_without bs r as' one) (ap (λ u. has_row r.object u (bs ++ as')) (heir_is r.holder heir parent).0 ∙ free_without action bs r as' one own heir parent free);
    fewer = let e =
        count_out (is_held_by action) bs (renamed r) as' (renamed_other action bs r as' one own heir parent free) in omega (arith, e, less);
  }

  -- one way or another it passes
  pub step : (new : List Row) × PassesOne action (bs ++ r ∷ as') new
  step = by (before_last r.holder) refl
    where
      to_heir : (heir : Uid) → before_last r.holder ≡ Some heir → (b : Bool) → has_row r.object heir (bs ++ r ∷ as') ≡ b →
          (new : List Row) × PassesOne action (bs ++ r ∷ as') new
      to_heir heir parent true there = (map (raised r.object heir r.mode) (bs ++ as'), step_merged heir parent there)
      to_heir heir parent false free = (bs ++ renamed r ∷ as', step_renamed heir parent free)

      by : (o : Option Uid) → before_last r.holder ≡ o → (new : List Row) × PassesOne action (bs ++ r ∷ as') new
      by None parent = (bs ++ as', step_gone parent)
      by (Some heir) parent = to_heir heir parent (has_row r.object heir (bs ++ r ∷ as')) refl

-- ---- the lock under a grant passes

module _ (action : Uid) (n : ℕ) (lock : Lock) (es : List (ℕ × Lock)) (at : lock_at n es ≡ Some lock) (own : is_held_by action (shown lock) ≡ true) (one : IsOneEach (rows_in es)) where
  found : Parted n lock es
  found = parted n lock es at

  one' : IsOneEach (found.front ++ shown lock ∷ found.rest)
  one' = subst IsOneEach found.split one

  abbrev left : List (ℕ × Lock)
  left = remove_entry (is_at (nat_cmp n)) es

  from : (new : List Row) → PassesOne action (found.front ++ shown lock ∷ found.rest) new → PassesOne action (rows_in es) new
  from new s = subst (λ old. PassesOne action old new) (sym found.split) s

  pub left_one : IsOneEach (rows_in left)
  left_one = subst IsOneEach (sym found.removed) (one_without found.front (shown lock) found.rest one')

  pub lock_gone : before_last (shown lock).holder ≡ None → PassesOne action (rows_in es) (rows_in left)
  lock_gone parent =
      subst (PassesOne action (rows_in es)) (sym found.removed) (from (found.front ++ found.rest) (step_gone action found.front (shown lock) found.rest one' own parent))

  module _ (heir : Uid) (parent : before_last (shown lock).holder ≡ Some heir) where
    abbrev f : Row → Row
    f = raised lock.object heir lock.mode

    pub lock_merged : has_row lock.object heir (rows_in es) ≡ true → PassesOne action (rows_in es) (map f (rows_in left))
    lock_merged there =
        subst (λ rows. PassesOne action (rows_in es) (map f rows)) (sym found.removed)
        (from (map f (found.front ++ found.rest)) (step_merged action found.front (shown lock) found.rest one' own heir parent (ap (has_row lock.object heir) (sym found.split) ∙ there)))

    pub lock_renamed : (up : Lock) → shown up ≡ renamed (shown lock) → has_row lock.object heir (rows_in es) ≡ false →
        PassesOne action (rows_in es) (rows_in (set_value (is_at (nat_cmp n)) es up))
    lock_renamed up is free =
        subst (PassesOne action (rows_in es)) (sym (found.put up ∙ (λ i. found.front ++ is i ∷ found.rest)))
        (from (found.front ++ renamed (shown lock) ∷ found.rest) (step_renamed action found.front (shown lock) found.rest one' own heir parent (ap (has_row lock.object heir) (sym found.split) ∙ free)))
