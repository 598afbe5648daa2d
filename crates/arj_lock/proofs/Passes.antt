-- One row passes: what is left to pass gives the same.
use Rattle.std.proofs.Common.{◌≡◌, List, [], ◌∷◌, ◌++◌, Bool, true, false, cond, ◌&&◌, Option, Some, None, refl, sym, ◌∙◌, ap, inl, inr}
use Rattle.std.proofs.Common.{find, map}
use Rattle.std.specs.List.{filter_map, list_any, cons_option}
use Rattle.std.proofs.lemmas.List.Elements.{filter_map-append}
use Rattle.std.proofs.lemmas.List.{map-append, map-id}
use Rattle.std.proofs.lemmas.Bool.{false_from_ne_true, and_parts}
use Rattle.arj_base.specs.declared.mode.Mode.{Mode}
use Rattle.arj_base.specs.declared.uid.Uid.{Uid}
use Rattle.arj_base.specs.Mode.{stronger}
use Rattle.arj_base.specs.Path.{before_last}
use Rattle.arj_base.specs.Rows.{Row, last_uid, front, is_row_of, is_held_by, has_row, pass_rows, passed, handed_on, strengthened, goes_to}
use Rattle.arj_base.specs.Rows.{is_heir, renamed}
use Rattle.arj_base.specs.Uid.{uid_eq}
use Rattle.arj_lock.specs.Exclusion.{IsOneEach}
use Rattle.arj_lock.specs.Passing.{raised}
use Rattle.arj_lock.proofs.Members.{In, in_map}
use Rattle.arj_lock.proofs.OneEach.{none_in, any_same, any_more, apart_from, any_here}
use Rattle.arj_lock.proofs.Paths.{heir_is}
use Rattle.arj_base.proofs.Uids.{uid_same, uid_sym, uid_is}

-- Lists.

pub in_left : {X : Type 0} (x : X) (xs ys : List X) → In x xs → In x (xs ++ ys)
in_left x [] ys i = absurd i
in_left x (z ∷ xs) ys (inl is) = inl is
in_left x (z ∷ xs) ys (inr i) = inr (in_left x xs ys i)

pub in_right : {X : Type 0} (x : X) (xs ys : List X) → In x ys → In x (xs ++ ys)
in_right x [] ys i = i
in_right x (z ∷ xs) ys i = inr (in_right x xs ys i)

-- two searches that agree at each row, where the rows of one come from those of the other
same_rows : (p q : Row → Option Row) (f : Row → Row) (xs : List Row) → ((x : Row) → In x xs → p (f x) ≡ q x) →
    filter_map p (map f xs) ≡ filter_map q xs
same_rows p q f [] e = refl
same_rows p q f (x ∷ xs) e = λ i. cons_option (e x (inl refl) i) (same_rows p q f xs (λ y j. e y (inr j)) i)

-- and with other rows in the place of one
with_row : (p q : Row → Option Row) (f : Row → Row) (bs : List Row) (more : List Row) (r : Row) (as' : List Row) →
    ((x : Row) → In x (bs ++ as') → p (f x) ≡ q x) → filter_map p more ≡ cons_option (q r) []
    → filter_map p (map f bs ++ (more ++ map f as')) ≡ filter_map q (bs ++ r ∷ as')
with_row p q f [] more r as' e here =
    filter_map-append p more (map f as') ∙ ap (λ rs. rs ++ filter_map p (map f as')) here ∙ back (q r) ∙ (λ i. cons_option (q r) (same_rows p q f as' e i))
  where
    back : (o : Option Row) → cons_option o [] ++ filter_map p (map f as') ≡ cons_option o (filter_map p (map f as'))
    back None = refl
    back (Some x) = refl
with_row p q f (b ∷ bs) more r as' e here = λ i. cons_option (e b (inl refl) i) (with_row p q f bs more r as' (λ y j. e y (inr j)) here i)

find_more : (p : Row → Bool) (xs : List Row) (x : Row) (ys : List Row) → p x ≡ false → find p (xs ++ x ∷ ys) ≡ find p (xs ++ ys)
find_more p [] x ys other = λ i. cond (other i) (Some x) (find p ys)
find_more p (y ∷ xs) x ys other = ap (cond (p y) (Some y)) (find_more p xs x ys other)

find_here : (p : Row → Bool) (xs : List Row) (x : Row) (ys : List Row) → p x ≡ true → ((y : Row) → In y (xs ++ ys) → p y ≡ false) →
    find p (xs ++ x ∷ ys) ≡ Some x
find_here p [] x ys own others = λ i. cond (own i) (Some x) (find p ys)
find_here p (y ∷ xs) x ys own others =
    (λ i. cond (others y (inl refl) i) (Some y) (find p (xs ++ x ∷ ys))) ∙ find_here p xs x ys own (λ z j. others z (inr j))

pub find_none : (p : Row → Bool) (xs : List Row) → ((y : Row) → In y xs → p y ≡ false) → find p xs ≡ None
find_none p [] others = refl
find_none p (y ∷ xs) others = (λ i. cond (others y (inl refl) i) (Some y) (find p xs)) ∙ find_none p xs (λ z j. others z (inr j))

-- a search is the same among rows that are changed where it doesn't look
find_map : (p : Row → Bool) (f : Row → Row) (xs : List Row) → ((x : Row) → p (f x) ≡ p x) → ((x : Row) → In x xs → p x ≡ true → f x ≡ x) →
    find p (map f xs) ≡ find p xs
find_map p f [] same kept = refl
find_map p f (x ∷ xs) same kept = (λ i. cond (same x i) (Some (f x)) (find_map p f xs same (λ y j. kept y (inr j)) i)) ∙ by (p x) refl
  where
    by : (b : Bool) → p x ≡ b → cond (p x) (Some (f x)) (find p xs) ≡ cond (p x) (Some x) (find p xs)
    by true own = ap (λ r. cond (p x) (Some r) (find p xs)) (kept x (inl refl) own)
    by false other = (λ i. cond (other i) (Some (f x)) (find p xs)) ∙ (λ i. cond (sym other i) (Some x) (find p xs))

-- What a row becomes.

pub at_held : (action : Uid) (rows : List Row) (x : Row) → is_held_by action x ≡ true →
    passed action rows x ≡ handed_on rows x (before_last x.holder)
at_held action rows x own =
    λ i. cond (own i) (handed_on rows x (before_last x.holder)) (Some (strengthened x (find (goes_to action x) rows)))

pub at_other : (action : Uid) (rows : List Row) (x : Row) → is_held_by action x ≡ false →
    passed action rows x ≡ Some (strengthened x (find (goes_to action x) rows))
at_other action rows x other =
    λ i. cond (other i) (handed_on rows x (before_last x.holder)) (Some (strengthened x (find (goes_to action x) rows)))

handed_same : (old new : List Row) (x : Row) (o : Option Uid) → ((heir : Uid) → has_row x.object heir new ≡ has_row x.object heir old) →
    handed_on new x o ≡ handed_on old x o
handed_same old new x None e = refl
handed_same old new x (Some heir) e = λ i. cond (e heir i) None (Some (renamed x))

-- a row becomes the same in both lists
same_row : (action : Uid) (old new : List Row) (f : Row → Row) (x : Row) → is_held_by action (f x) ≡ is_held_by action x →
    (is_held_by action x ≡ true → f x ≡ x)
    → (is_held_by action x ≡ true → (heir : Uid) → has_row x.object heir new ≡ has_row x.object heir old)
    → (is_held_by action x ≡ false → strengthened (f x) (find (goes_to action (f x)) new) ≡ strengthened x (find (goes_to action x) old))
    → passed action new (f x) ≡ passed action old x
same_row action old new f x last fixed heirs found = by (is_held_by action x) refl
  where
    by : (b : Bool) → is_held_by action x ≡ b → passed action new (f x) ≡ passed action old x
    by true own =
        ap (passed action new) (fixed own) ∙ at_held action new x own ∙ handed_same old new x (before_last x.holder) (heirs own) ∙ sym (at_held action old x own)
    by false other = at_other action new (f x) (last ∙ other) ∙ ap Some (found other) ∙ sym (at_other action old x other)

and_false : (a : Bool) → (a && false) ≡ false
and_false true = refl
and_false false = refl

-- Where the action has no row, nothing passes.
pub nothing_passes : (action : Uid) (rows : List Row) → list_any (is_held_by action) rows ≡ false → pass_rows action rows ≡ rows
nothing_passes action rows none = among rows (λ x i. none_in (is_held_by action) x rows none i)
  where
    kept : (x : Row) → is_held_by action x ≡ false → passed action rows x ≡ Some x
    kept x other =
        at_other action rows x other
        ∙ ap (λ o. Some (strengthened x o)) (find_none (goes_to action x) rows (λ y j. λ k. ((λ i. uid_eq y.object x.object && none_in (is_held_by action) y rows none j i) ∙ and_false (uid_eq y.object x.object)) k && is_heir (before_last y.holder) (last_uid x.holder)))

    among : (xs : List Row) → ((x : Row) → In x xs → is_held_by action x ≡ false) → filter_map (passed action rows) xs ≡ xs
    among [] others = refl
    among (x ∷ xs) others = λ i. cons_option (kept x (others x (inl refl)) i) (among xs (λ y j. others y (inr j)) i)

-- a row of another object is no row of this one
object_apart : (object holder : Uid) (x : Row) → uid_eq x.object object ≡ false → is_row_of object holder x ≡ false
object_apart object holder x apart = λ i. apart i && uid_eq (last_uid x.holder) holder

raised_at : (object heir : Uid) (mode : Mode) (x : Row) → is_row_of object heir x ≡ true →
    raised object heir mode x ≡ record x { mode = stronger x.mode mode }
raised_at object heir mode x own = λ i. cond (own i) (record x { mode = stronger x.mode mode }) x

raised_other : (object heir : Uid) (mode : Mode) (x : Row) → is_row_of object heir x ≡ false → raised object heir mode x ≡ x
raised_other object heir mode x other = λ i. cond (other i) (record x { mode = stronger x.mode mode }) x

pub raised_object : (object heir : Uid) (mode : Mode) (x : Row) → (raised object heir mode x).object ≡ x.object
raised_object object heir mode x = by (is_row_of object heir x)
  where
    by : (b : Bool) → (cond b (record x { mode = stronger x.mode mode }) x).object ≡ x.object
    by true = refl
    by false = refl

pub raised_holder : (object heir : Uid) (mode : Mode) (x : Row) → (raised object heir mode x).holder ≡ x.holder
raised_holder object heir mode x = by (is_row_of object heir x)
  where
    by : (b : Bool) → (cond b (record x { mode = stronger x.mode mode }) x).holder ≡ x.holder
    by true = refl
    by false = refl

-- A row of the action in the middle: where it goes or is renamed, what is left to pass gives the same.
module _ (action : Uid) (bs : List Row) (r : Row) (as' : List Row) (one : IsOneEach (bs ++ r ∷ as')) (own : is_held_by action r ≡ true) where
  -- no other row of the object is the action's
  apart : (x : Row) → In x (bs ++ as') → is_row_of r.object action x ≡ false
  apart x i = ap (λ u. is_row_of r.object u x) (sym (uid_is (last_uid r.holder) action own)) ∙ apart_from bs r as' x one i

  -- another row of the action is of another object
  object_other : (x : Row) → In x (bs ++ as') → is_held_by action x ≡ true → uid_eq x.object r.object ≡ false
  object_other x i held = by (uid_eq x.object r.object) (ap (λ b. uid_eq x.object r.object && b) (sym held) ∙ apart x i)
    where
      by : (b : Bool) → (b && true) ≡ false → b ≡ false
      by true e = e
      by false e = refl

  -- it doesn't count for another row of the action
  heirs_same : (x : Row) → In x (bs ++ as') → is_held_by action x ≡ true → (heir : Uid) →
      has_row x.object heir (bs ++ r ∷ as') ≡ has_row x.object heir (bs ++ as')
  heirs_same x i held heir =
      any_more (is_row_of x.object heir) bs r as' (object_apart x.object heir r (uid_sym r.object x.object ∙ object_other x i held))

  -- It has no parent, and goes.
  pub passes_gone : before_last r.holder ≡ None → pass_rows action (bs ++ as') ≡ pass_rows action (bs ++ r ∷ as')
  passes_gone none =
      (λ i. filter_map (passed action (bs ++ as')) (sym (map-id bs) i ++ sym (map-id as') i))
      ∙ with_row (passed action (bs ++ as')) (passed action (bs ++ r ∷ as')) (λ x. x) bs [] r as' at (sym (ap (λ o. cons_option o []) here))
    where
      here : passed action (bs ++ r ∷ as') r ≡ None
      here = at_held action (bs ++ r ∷ as') r own ∙ ap (handed_on (bs ++ r ∷ as') r) none

      never : (x : Row) → goes_to action x r ≡ false
      never x = (λ i. is_row_of x.object action r && is_heir (none i) (last_uid x.holder)) ∙ and_false (is_row_of x.object action r)

      at : (x : Row) → In x (bs ++ as') → passed action (bs ++ as') x ≡ passed action (bs ++ r ∷ as') x
      at x i = same_row action (bs ++ r ∷ as') (bs ++ as') (λ x. x) x refl (λ held. refl) (λ held heir. sym (heirs_same x i held heir)) (λ other. ap (strengthened x) (sym (find_more (goes_to action x) bs r as' (never x))))

  module _ (heir : Uid) (parent : before_last r.holder ≡ Some heir) where
    -- what goes to a row's holder is of its object, and the holder is the heir
    goes : (x : Row) → goes_to action x r ≡ is_row_of r.object heir x
    goes x = by (uid_eq r.object x.object) refl
      where
        by : (b : Bool) → uid_eq r.object x.object ≡ b → goes_to action x r ≡ is_row_of r.object heir x
        by b e = (λ i. (e i && own i) && is_heir (parent i) (last_uid x.holder)) ∙ turned b ∙ (λ i. (sym e ∙ uid_sym r.object x.object) i && uid_sym heir (last_uid x.holder) i)
          where
            turned : (b : Bool) → ((b && true) && uid_eq heir (last_uid x.holder)) ≡ (b && uid_eq heir (last_uid x.holder))
            turned true = refl
            turned false = refl

    -- Its heir has a row already, which takes its mode.
    pub passes_merged : has_row r.object heir (bs ++ r ∷ as') ≡ true
        → pass_rows action (map (raised r.object heir r.mode) bs ++ map (raised r.object heir r.mode) as') ≡ pass_rows action (bs ++ r ∷ as')
    passes_merged there =
        with_row (passed action new) (passed action (bs ++ r ∷ as')) f bs [] r as' at (sym (ap (λ o. cons_option o []) here))
      where
        f : Row → Row
        f = raised r.object heir r.mode

        new : List Row
        new = map f bs ++ map f as'

        here : passed action (bs ++ r ∷ as') r ≡ None
        here = at_held action (bs ++ r ∷ as') r own ∙ ap (handed_on (bs ++ r ∷ as') r) parent ∙ (λ i. cond (there i) None (Some (renamed r)))

        new_is : new ≡ map f (bs ++ as')
        new_is = sym (map-append f bs as')

        object : (x : Row) → (f x).object ≡ x.object
        object = raised_object r.object heir r.mode

        holder : (x : Row) → (f x).holder ≡ x.holder
        holder = raised_holder r.object heir r.mode

        row_same : (o h : Uid) (x : Row) → is_row_of o h (f x) ≡ is_row_of o h x
        row_same o h x = λ i. uid_eq (object x i) o && uid_eq (last_uid (holder x i)) h

        held_same : (x : Row) → is_held_by action (f x) ≡ is_held_by action x
        held_same x = λ i. uid_eq (last_uid (holder x i)) action

        heirs : (x : Row) → In x (bs ++ as') → is_held_by action x ≡ true → (h : Uid) →
            has_row x.object h new ≡ has_row x.object h (bs ++ r ∷ as')
        heirs x i held h =
            ap (has_row x.object h) new_is ∙ any_same (is_row_of x.object h) (is_row_of x.object h) f (bs ++ as') (row_same x.object h) ∙ sym (heirs_same x i held h)

        -- the action has no row of the object any more
        none_new : (x : Row) → uid_eq x.object r.object ≡ true → (y : Row) → In y (map f (bs ++ as')) → goes_to action x y ≡ false
        none_new x same y i =
            let z = in_map f y (bs ++ as') i in
            let e : is_row_of r.object action y ≡ false =
            ap (is_row_of r.object action) (sym z.2) ∙ row_same r.object action z.0 ∙ apart z.0 z.1 in
            (λ k. (ap (λ o. is_row_of o action y) (uid_is x.object r.object same) ∙ e) k && is_heir (before_last y.holder) (last_uid x.holder))

        -- the heir's row
        heirs_row : (x : Row) → In x (bs ++ as') → is_row_of r.object heir x ≡ true →
            strengthened (f x) (find (goes_to action (f x)) new) ≡ strengthened x (find (goes_to action x) (bs ++ r ∷ as'))
        heirs_row x i is =
            let same : uid_eq x.object r.object ≡ true = (and_parts (uid_eq x.object r.object) (uid_eq (last_uid x.holder) heir) is).0 in
            ap (strengthened (f x)) (ap (find (goes_to action (f x))) new_is ∙ find_none (goes_to action (f x)) (map f (bs ++ as')) (none_new (f x) (ap (λ o. uid_eq o r.object) (object x) ∙ same)))
            ∙ raised_at r.object heir r.mode x is
            ∙ sym (ap (strengthened x) (find_here (goes_to action x) bs r as' (goes x ∙ is) (λ y j. none_old x same y j)))
          where
            none_old : (x : Row) → uid_eq x.object r.object ≡ true → (y : Row) → In y (bs ++ as') → goes_to action x y ≡ false
            none_old x same y j =
                λ k. (ap (λ o. is_row_of o action y) (uid_is x.object r.object same) ∙ apart y j) k && is_heir (before_last y.holder) (last_uid x.holder)

        -- a row of the action is not the heir's of this object
        kept : (x y : Row) → In y (bs ++ as') → goes_to action x y ≡ true → f y ≡ y
        kept x y j is = raised_other r.object heir r.mode y (false_from_ne_true (is_row_of r.object heir y) (λ e.
            let own_y : is_held_by action y ≡ true =
            (and_parts (uid_eq y.object x.object) (is_held_by action y) (and_parts (is_row_of x.object action y) (is_heir (before_last y.holder) (last_uid x.holder)) is).0).1 in
            let same : uid_eq y.object r.object ≡ true = (and_parts (uid_eq y.object r.object) (uid_eq (last_uid y.holder) heir) e).0 in
            let never : true ≡ false = sym same ∙ object_other y j own_y in cc))

        another : (x : Row) → In x (bs ++ as') → is_row_of r.object heir x ≡ false →
            strengthened (f x) (find (goes_to action (f x)) new) ≡ strengthened x (find (goes_to action x) (bs ++ r ∷ as'))
        another x i other =
            ap (λ y. strengthened y (find (goes_to action y) new)) (raised_other r.object heir r.mode x other)
            ∙ ap (strengthened x) (ap (find (goes_to action x)) new_is ∙ find_map (goes_to action x) f (bs ++ as') goes_same (kept x) ∙ sym (find_more (goes_to action x) bs r as' (goes x ∙ other)))
          where
            goes_same : (y : Row) → goes_to action x (f y) ≡ goes_to action x y
            goes_same y = λ k. row_same x.object action y k && is_heir (before_last (holder y k)) (last_uid x.holder)

        at : (x : Row) → In x (bs ++ as') → passed action new (f x) ≡ passed action (bs ++ r ∷ as') x
        at x i = same_row action (bs ++ r ∷ as') new f x (held_same x)
            (λ held. raised_other r.object heir r.mode x (object_apart r.object heir x (object_other x i held)))
            (heirs x i)
            (λ other. by (is_row_of r.object heir x) refl)
          where
            by : (b : Bool) → is_row_of r.object heir x ≡ b →
                strengthened (f x) (find (goes_to action (f x)) new) ≡ strengthened x (find (goes_to action x) (bs ++ r ∷ as'))
            by true e = heirs_row x i e
            by false e = another x i e

    -- Its heir has none yet: it is renamed, and is the action's no more.
    module _ (free : has_row r.object heir (bs ++ r ∷ as') ≡ false) where
      -- the heir is another action
      pub renamed_other : is_held_by action (renamed r) ≡ false
      renamed_other =
          let e : is_row_of r.object heir r ≡ false = any_here (is_row_of r.object heir) bs r as' free in
          ap (λ u. uid_eq u action) (heir_is r.holder heir parent).0 ∙ uid_sym heir action ∙ ap (λ u. uid_eq u heir) (sym (uid_is (last_uid r.holder) action own)) ∙ (λ i. sym (uid_same r.object) i && uid_eq (last_uid r.holder) heir) ∙ e

      pub free_without : has_row r.object heir (bs ++ as') ≡ false
      free_without = sym (any_more (is_row_of r.object heir) bs r as' (any_here (is_row_of r.object heir) bs r as' free)) ∙ free

      pub passes_renamed : pass_rows action (bs ++ renamed r ∷ as') ≡ pass_rows action (bs ++ r ∷ as')
      passes_renamed =
          (λ i. filter_map (passed action new) (sym (map-id bs) i ++ (renamed r ∷ sym (map-id as') i)))
          ∙ with_row (passed action new) (passed action (bs ++ r ∷ as')) (λ x. x) bs (renamed r ∷ []) r as' at (ap (λ o. cons_option o []) (there ∙ sym here))
        where
          new : List Row
          new = bs ++ renamed r ∷ as'

          here : passed action (bs ++ r ∷ as') r ≡ Some (renamed r)
          here = at_held action (bs ++ r ∷ as') r own ∙ ap (handed_on (bs ++ r ∷ as') r) parent ∙ (λ i. cond (free i) None (Some (renamed r)))

          never_new : (x : Row) → goes_to action x (renamed r) ≡ false
          never_new x =
              (λ i. (uid_eq r.object x.object && renamed_other i) && is_heir (before_last (front r.holder)) (last_uid x.holder)) ∙ (λ i. and_false (uid_eq r.object x.object) i && is_heir (before_last (front r.holder)) (last_uid x.holder))

          there : passed action new (renamed r) ≡ Some (renamed r)
          there =
              at_other action new (renamed r) renamed_other
              ∙ ap (λ o. Some (strengthened (renamed r) o)) (find_more (goes_to action (renamed r)) bs (renamed r) as' (never_new (renamed r))
              ∙ find_none (goes_to action (renamed r)) (bs ++ as') (λ y j. λ k. apart y j k && is_heir (before_last y.holder) (last_uid (front r.holder))))

          at : (x : Row) → In x (bs ++ as') → passed action new x ≡ passed action (bs ++ r ∷ as') x
          at x i = same_row action (bs ++ r ∷ as') new (λ x. x) x refl (λ held. refl)
              (λ held h. any_more (is_row_of x.object h) bs (renamed r) as' (object_apart x.object h (renamed r) (uid_sym r.object x.object ∙ object_other x i held)) ∙ sym (heirs_same x i held h))
              (λ other. ap (strengthened x) (find_more (goes_to action x) bs (renamed r) as' (never_new x) ∙ sym (find_more (goes_to action x) bs r as' (goes x ∙ none_in (is_row_of r.object heir) x (bs ++ as') free_without i))))
