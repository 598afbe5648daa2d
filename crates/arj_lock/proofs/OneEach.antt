-- No action has two rows of one object.
use Rattle.std.proofs.Common.{◌≡◌, List, [], ◌∷◌, ◌++◌, Bool, true, false, cond, ◌||◌, ◌&&◌, refl, sym, ◌∙◌, ap, inl, inr, map, filter}
use Rattle.std.specs.List.{list_any}
use Rattle.std.proofs.lemmas.Bool.{or_parts}
use Rattle.arj_base.specs.Mode.{stronger}
use Rattle.arj_base.specs.Rows.{Row, has_row, is_row_of, last_uid, grant_row}
use Rattle.arj_lock.specs.Exclusion.{IsOneEach}
use Rattle.arj_lock.proofs.Members.{In}
use Rattle.arj_base.proofs.Uids.{uid_sym}

-- Tests over a list.

pub none_in : {X : Type 0} (p : X → Bool) (x : X) (xs : List X) → list_any p xs ≡ false → In x xs → p x ≡ false
none_in p x [] e i = absurd i
none_in p x (y ∷ ys) e (inl is) = ap p (sym is) ∙ (or_parts (p y) (list_any p ys) e).0
none_in p x (y ∷ ys) e (inr i) = none_in p x ys (or_parts (p y) (list_any p ys) e).1 i

pub any_same : {X Y : Type 0} (p : X → Bool) (q : Y → Bool) (f : Y → X) (ys : List Y) → ((y : Y) → p (f y) ≡ q y) →
    list_any p (map f ys) ≡ list_any q ys
any_same p q f [] e = refl
any_same p q f (y ∷ ys) e = λ i. e y i || any_same p q f ys e i

-- with one more in the middle
pub any_more : {X : Type 0} (p : X → Bool) (xs : List X) (x : X) (ys : List X) → p x ≡ false →
    list_any p (xs ++ x ∷ ys) ≡ list_any p (xs ++ ys)
any_more p [] x ys fails = λ i. fails i || list_any p ys
any_more p (y ∷ xs) x ys fails = ap (λ b. p y || b) (any_more p xs x ys fails)

pub any_here : {X : Type 0} (p : X → Bool) (xs : List X) (x : X) (ys : List X) → list_any p (xs ++ x ∷ ys) ≡ false → p x ≡ false
any_here p [] x ys e = (or_parts (p x) (list_any p ys) e).0
any_here p (y ∷ xs) x ys e = any_here p xs x ys (or_parts (p y) (list_any p (xs ++ x ∷ ys)) e).1

-- the part of a test that a filter keeps
any_fewer : {X : Type 0} (p q : X → Bool) (xs : List X) → list_any p xs ≡ false → list_any p (filter q xs) ≡ false
any_fewer p q [] e = refl
any_fewer {X} p q (x ∷ xs) e = by (q x) (any_fewer p q xs parts.1)
  where
    parts : (p x ≡ false) × (list_any p xs ≡ false)
    parts = or_parts (p x) (list_any p xs) e

    by : (b : Bool) → list_any p (filter q xs) ≡ false → list_any p (cond b (x ∷ filter q xs) (filter q xs)) ≡ false
    by true ih = λ i. parts.0 i || ih i
    by false ih = ih

-- Rows with one object and one holder.

pub row_sym : (r s : Row) → is_row_of r.object (last_uid r.holder) s ≡ is_row_of s.object (last_uid s.holder) r
row_sym r s = λ i. uid_sym s.object r.object i && uid_sym (last_uid s.holder) (last_uid r.holder) i

pub apart_from : (bs : List Row) (r : Row) (as' : List Row) (x : Row) → IsOneEach (bs ++ r ∷ as') → In x (bs ++ as') →
    is_row_of r.object (last_uid r.holder) x ≡ false
apart_from [] r as' x one i = none_in (is_row_of r.object (last_uid r.holder)) x as' one.0 i
apart_from (b ∷ bs) r as' x one (inl is) =
    let p : Row → Bool = is_row_of b.object (last_uid b.holder) in
    ap (is_row_of r.object (last_uid r.holder)) (sym is) ∙ row_sym r b ∙ any_here p bs r as' one.0
apart_from (b ∷ bs) r as' x one (inr i) = apart_from bs r as' x one.1 i

pub one_without : (bs : List Row) (r : Row) (as' : List Row) → IsOneEach (bs ++ r ∷ as') → IsOneEach (bs ++ as')
one_without [] r as' one = one.1
one_without (b ∷ bs) r as' one =
    let p : Row → Bool = is_row_of b.object (last_uid b.holder) in
    (sym (any_more p bs r as' (any_here p bs r as' one.0)) ∙ one.0, one_without bs r as' one.1)

any_left : {X : Type 0} (p : X → Bool) (xs : List X) (x : X) (ys : List X) → list_any p (xs ++ ys) ≡ false → p x ≡ false →
    list_any p (xs ++ x ∷ ys) ≡ false
any_left p xs x ys e fails = any_more p xs x ys fails ∙ e

any_back : {X : Type 0} (p : X → Bool) (xs ys : List X) → list_any p (xs ++ ys) ≡ false → list_any p ys ≡ false
any_back p [] ys e = e
any_back p (x ∷ xs) ys e = any_back p xs ys (or_parts (p x) (list_any p (xs ++ ys)) e).1

pub one_with : (bs : List Row) (r : Row) (as' : List Row) → IsOneEach (bs ++ as') →
    has_row r.object (last_uid r.holder) (bs ++ as') ≡ false → IsOneEach (bs ++ r ∷ as')
one_with [] r as' one new = (new, one)
one_with (b ∷ bs) r as' one new =
    let p : Row → Bool = is_row_of r.object (last_uid r.holder) in
    let parts = or_parts (p b) (list_any p (bs ++ as')) new in
    (any_left (is_row_of b.object (last_uid b.holder)) bs r as' one.0 (row_sym b r ∙ parts.0), one_with bs r as' one.1 parts.1)

-- a change of modes alone
pub one_each_map : (f : Row → Row) (rows : List Row) → ((r : Row) → (f r).object ≡ r.object) → ((r : Row) → (f r).holder ≡ r.holder) →
    IsOneEach rows → IsOneEach (map f rows)
one_each_map f [] object holder one = tt
one_each_map f (row ∷ rows) object holder one =
    let p : Row → Bool = is_row_of (f row).object (last_uid (f row).holder) in
    let q : Row → Bool = is_row_of row.object (last_uid row.holder) in (
      any_same p q f rows (λ r i. is_row_of (object row i) (last_uid (holder row i)) (record r {
        object = object r i;
        holder =
            holder r i;
      })) ∙ one.0,
      one_each_map f rows object holder one.1,
    )

pub one_each_filter : (p : Row → Bool) (rows : List Row) → IsOneEach rows → IsOneEach (filter p rows)
one_each_filter p [] one = tt
one_each_filter p (row ∷ rows) one = by (p row) (one_each_filter p rows one.1)
  where
    by : (b : Bool) → IsOneEach (filter p rows) → IsOneEach (cond b (row ∷ filter p rows) (filter p rows))
    by true ih = (any_fewer (is_row_of row.object (last_uid row.holder)) p rows one.0, ih)
    by false ih = ih

-- a grant
any_grant : (p : Row → Bool) (new : Row) (rows : List Row) → ((r : Row) → p (record r { mode = stronger r.mode new.mode }) ≡ p r) →
    p new ≡ false → list_any p rows ≡ false → list_any p (grant_row new rows) ≡ false
any_grant p new [] modes fails e = λ i. fails i || false
any_grant p new (row ∷ rows) modes fails e = by (is_row_of new.object (last_uid new.holder) row) (any_grant p new rows modes fails parts.1)
  where
    parts : (p row ≡ false) × (list_any p rows ≡ false)
    parts = or_parts (p row) (list_any p rows) e

    by : (b : Bool) → list_any p (grant_row new rows) ≡ false →
        list_any p (cond b (record row { mode = stronger row.mode new.mode } ∷ rows) (row ∷ grant_row new rows)) ≡ false
    by true ih = λ i. (modes row ∙ parts.0) i || parts.1 i
    by false ih = λ i. parts.0 i || ih i

pub one_each_grant : (new : Row) (rows : List Row) → IsOneEach rows → IsOneEach (grant_row new rows)
one_each_grant new [] one = (refl, tt)
one_each_grant new (row ∷ rows) one = by (is_row_of new.object (last_uid new.holder) row) refl (one_each_grant new rows one.1)
  where
    by : (b : Bool) → is_row_of new.object (last_uid new.holder) row ≡ b → IsOneEach (grant_row new rows) →
        IsOneEach (cond b (record row { mode = stronger row.mode new.mode } ∷ rows) (row ∷ grant_row new rows))
    by true own ih = one
    by false other ih = (any_grant (is_row_of row.object (last_uid row.holder)) new rows (λ r. refl) (row_sym row new ∙ other) one.0, ih)
