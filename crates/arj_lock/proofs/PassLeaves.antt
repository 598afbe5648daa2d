-- What a pass leaves, object by object and holder by holder.
use Rattle.std.proofs.Common.{◌≡◌, ◌⊎◌, ◌≤◌, List, [], ◌∷◌, length, Bool, true, false, cond, not, ◌&&◌, ◌||◌, Option, Some, None, refl, sym}
use Rattle.std.proofs.Common.{◌∙◌, ap, inl, inr, find, Contains}
use Rattle.std.specs.List.{list_any, filter_map, cons_option}
use Rattle.std.specs.Option.{option_map}
use Rattle.std.proofs.lemmas.Bool.{and_parts, false_from_ne_true}
use Rattle.arj_base.specs.declared.uid.Uid.{Uid}
use Rattle.arj_base.specs.Mode.{strongest}
use Rattle.arj_base.specs.Path.{before_last}
use Rattle.arj_base.specs.Rows.{Row, last_uid, front, is_on, is_row_of, is_held_by, is_heir, goes_to, has_any, has_row, mode_of}
use Rattle.arj_base.specs.Rows.{strengthened, handed_on, renamed, passed, pass_rows}
use Rattle.arj_base.specs.Uid.{uid_eq}
use Rattle.arj_base.proofs.Uids.{uid_is, uid_same}
use Rattle.arj_lock.specs.Exclusion.{IsOneEach, NoneBelow}
use Rattle.arj_lock.specs.Passing.{passing, passing_mode, CameBy, stayed, passed_on, HeirsAgree}
use Rattle.arj_lock.proofs.Members.{In, in_from, in_to, in_filter_map, in_find, in_find_none}
use Rattle.arj_lock.proofs.OneEach.{none_in}
use Rattle.arj_lock.proofs.Passes.{find_none, at_held, at_other}
use Rattle.arj_lock.proofs.Paths.{heir_is, on_front, on_last, on_parts}
use Rattle.arj_lock.proofs.Uniqueness.{one_each_pass}

-- what a search over a list gives stands in the list of what it gives
given : {X Y : Type 0} (f : X → Option Y) (x : X) (y : Y) (xs : List X) → In x xs → f x ≡ Some y → In y (filter_map f xs)
given f x y [] i e = absurd i
given {X} {Y} f x y (z ∷ zs) i e = by (f z) refl i (given f x y zs)
  where
    by : (o : Option Y) → f z ≡ o → In x (z ∷ zs) → (In x zs → f x ≡ Some y → In y (filter_map f zs)) →
        In y (cons_option o (filter_map f zs))
    by None at (inl is) ih = let never : ◌≡◌ {A = Option Y} None (Some y) = sym at ∙ ap f is ∙ e in cc
    by None at (inr j) ih = ih j e
    by (Some w) at (inl is) ih = let same : ◌≡◌ {A = Option Y} (Some w) (Some y) = sym at ∙ ap f is ∙ e in let one : w ≡ y = cc in inl one
    by (Some w) at (inr j) ih = inr (ih j e)

-- the one row of an object and a holder is found
pub only_found : (object holder : Uid) (r : Row) (rows : List Row) → IsOneEach rows → In r rows → is_row_of object holder r ≡ true →
    find (is_row_of object holder) rows ≡ Some r
only_found object holder r [] one i own = absurd i
only_found object holder r (row ∷ rows) one i own = by (is_row_of object holder row) refl i (only_found object holder r rows one.1)
  where
    by : (b : Bool) → is_row_of object holder row ≡ b → In r (row ∷ rows) →
        (In r rows → is_row_of object holder r ≡ true → find (is_row_of object holder) rows ≡ Some r)
        → cond b (Some row) (find (is_row_of object holder) rows) ≡ Some r
    by true e (inl is) ih = ap Some is
    by true e (inr j) ih =
        let p = and_parts (uid_eq row.object object) (uid_eq (last_uid row.holder) holder) e in
        let other : is_row_of object holder r ≡ false =
        (λ k. is_row_of (sym (uid_is row.object object p.0) k) (sym (uid_is (last_uid row.holder) holder p.1) k) r) ∙ none_in (is_row_of row.object (last_uid row.holder)) r rows one.0 j in
        let never : true ≡ false = sym own ∙ other in cc
    by false e (inl is) ih = let never : true ≡ false = sym own ∙ ap (is_row_of object holder) (sym is) ∙ e in cc
    by false e (inr j) ih = ih j own

-- Where a row after a pass comes from.

pub came_by : (action : Uid) (rows : List Row) (y : Row) → In y (pass_rows action rows) → CameBy action rows y
came_by action rows y i = by (in_filter_map (passed action rows) y rows i)
  where
    handed : (x : Row) → In x rows → is_held_by action x ≡ true → (o : Option Uid) → before_last x.holder ≡ o →
        handed_on rows x o ≡ Some y → CameBy action rows y
    handed x j own None heir e = cc
    handed x j own (Some heir) parent e = cases (has_row x.object heir rows) refl e
      where
        cases : (b : Bool) → has_row x.object heir rows ≡ b → cond b None (Some (renamed x)) ≡ Some y → CameBy action rows y
        cases true there is = cc
        cases false free is = let same : renamed x ≡ y = cc in passed_on x (in_to x rows j) own heir parent free (sym same)

    at : (x : Row) → In x rows → (b : Bool) → is_held_by action x ≡ b → passed action rows x ≡ Some y → CameBy action rows y
    at x j true own e = handed x j own (before_last x.holder) refl (sym (at_held action rows x own) ∙ e)
    at x j false other e =
        let is : ◌≡◌ {A = Option Row} (Some (strengthened x (find (goes_to action x) rows))) (Some y) =
        sym (at_other action rows x other) ∙ e in
        let same : strengthened x (find (goes_to action x) rows) ≡ y = cc in
        stayed x (in_to x rows j) other (sym same)

    by : (x : Row) × In x rows × (passed action rows x ≡ Some y) → CameBy action rows y
    by f = at f.0 f.1 (is_held_by action f.0) refl f.2

pub stays_in : (action : Uid) (rows : List Row) (r : Row) → In r rows → is_held_by action r ≡ false →
    In (strengthened r (passing action r.object (last_uid r.holder) rows)) (pass_rows action rows)
stays_in action rows r i other =
    given (passed action rows) r (strengthened r (passing action r.object (last_uid r.holder) rows)) rows i (at_other action rows r other)

passes_in : (action : Uid) (rows : List Row) (r : Row) (heir : Uid) → In r rows → is_held_by action r ≡ true →
    before_last r.holder ≡ Some heir → has_row r.object heir rows ≡ false → In (renamed r) (pass_rows action rows)
passes_in action rows r heir i own parent free =
    given (passed action rows) r (renamed r) rows i (at_held action rows r own ∙ ap (handed_on rows r) parent ∙ (λ k. cond (free k) None (Some (renamed r))))

-- a strengthened row is of the same object and holder

strong_object : (r : Row) (o : Option Row) → (strengthened r o).object ≡ r.object
strong_object r None = refl
strong_object r (Some p) = refl

strong_holder : (r : Row) (o : Option Row) → (strengthened r o).holder ≡ r.holder
strong_holder r None = refl
strong_holder r (Some p) = refl

strong_mode : (r : Row) (o : Option Row) → Some (strengthened r o).mode ≡ strongest (Some r.mode) (option_map (λ row. row.mode) o)
strong_mode r None = refl
strong_mode r (Some p) = refl

-- a row of the list passes a test
pub has : (p : Row → Bool) (r : Row) (rows : List Row) → In r rows → p r ≡ true → list_any p rows ≡ true
has p r [] i e = absurd i
has p r (row ∷ rows) (inl is) e = ap (λ b. b || list_any p rows) (ap p is ∙ e)
has p r (row ∷ rows) (inr i) e = by (p row) (has p r rows i e)
  where
    by : (b : Bool) → list_any p rows ≡ true → (b || list_any p rows) ≡ true
    by true ih = refl
    by false ih = ih

pub which : (p : Row → Bool) (rows : List Row) → list_any p rows ≡ true → (r : Row) × In r rows × (p r ≡ true)
which p [] e = cc
which p (row ∷ rows) e = by (p row) refl e (which p rows)
  where
    by : (b : Bool) → p row ≡ b → (b || list_any p rows) ≡ true → (list_any p rows ≡ true → (r : Row) × In r rows × (p r ≡ true)) →
        (r : Row) × In r (row ∷ rows) × (p r ≡ true)
    by true own t ih = (row, inl refl, own)
    by false other t ih = let f = ih t in (f.0, inr f.1, f.2)

-- The mode of a holder on an object.

module _ (action : Uid) (rows : List Row) (one : IsOneEach rows) (object holder : Uid) where
  abbrev pub t : Row → Bool
  t = is_row_of object holder

  -- an heir is another action, where it has no row of the object yet
  other_heir : (x : Row) (heir : Uid) → In x rows → is_held_by action x ≡ true → has_row x.object heir rows ≡ false →
      uid_eq heir action ≡ false
  other_heir x heir i own free = false_from_ne_true (uid_eq heir action) (λ same.
      let here : is_row_of x.object heir x ≡ true =
      (λ k. uid_same x.object k && uid_eq (last_uid x.holder) (uid_is heir action same k)) ∙ own in
      let never : true ≡ false = sym (has (is_row_of x.object heir) x rows i here) ∙ free in cc)

  -- the action holds nothing any more
  pub none_left : (y : Row) → In y (pass_rows action rows) → is_held_by action y ≡ false
  none_left y i = by (came_by action rows y i)
    where
      by : CameBy action rows y → is_held_by action y ≡ false
      by (stayed x c other is) =
          ap (λ us. uid_eq (last_uid us) action) (ap (λ r. r.holder) is ∙ strong_holder x (passing action x.object (last_uid x.holder) rows)) ∙ other
      by (passed_on x c own heir parent free is) =
          ap (λ us. uid_eq (last_uid us) action) (ap (λ r. r.holder) is) ∙ ap (λ u. uid_eq u action) (heir_is x.holder heir parent).0 ∙ other_heir x heir (in_from x rows c) own free

  mine : uid_eq holder action ≡ true → mode_of object holder (pass_rows action rows) ≡ None
  mine is = ap (option_map (λ row. row.mode)) (find_none t (pass_rows action rows) (λ y i.
      (λ k. uid_eq y.object object && (ap (uid_eq (last_uid y.holder)) (uid_is holder action is) ∙ none_left y i) k) ∙ never (uid_eq y.object object)))
    where
      never : (a : Bool) → (a && false) ≡ false
      never true = refl
      never false = refl

  module _ (another : uid_eq holder action ≡ false) where
    not_held : (x : Row) → t x ≡ true → is_held_by action x ≡ false
    not_held x own =
        ap (λ u. uid_eq u action) (uid_is (last_uid x.holder) holder (and_parts (uid_eq x.object object) (uid_eq (last_uid x.holder) holder) own).1) ∙ another

    -- the holder had a row
    had : (x : Row) → find t rows ≡ Some x →
        mode_of object holder (pass_rows action rows) ≡ strongest (mode_of object holder rows) (passing_mode action object holder rows)
    had x found =
        let f = in_find t x rows found in
        let p = and_parts (uid_eq x.object object) (uid_eq (last_uid x.holder) holder) f.1 in
        let o = passing action x.object (last_uid x.holder) rows in
        let tested : t (strengthened x o) ≡ true =
        (λ k. uid_eq (strong_object x o k) object && uid_eq (last_uid (strong_holder x o k)) holder) ∙ f.1 in
        ap (option_map (λ row. row.mode)) (only_found object holder (strengthened x o) (pass_rows action rows) (one_each_pass action rows one) (stays_in action rows x f.0 (not_held x f.1)) tested)
        ∙ strong_mode x o
        ∙ (λ k. strongest (Some x.mode) (passing_mode action (uid_is x.object object p.0 k) (uid_is (last_uid x.holder) holder p.1 k) rows))
        ∙ ap (λ m. strongest (option_map (λ row. row.mode) m) (passing_mode action object holder rows)) (sym found)

    abbrev pub goes : Row → Bool
    goes = λ row. is_row_of object action row && is_heir (before_last row.holder) holder

    heir_of : (o : Option Uid) → is_heir o holder ≡ true → o ≡ Some holder
    heir_of None e = cc
    heir_of (Some heir) e = ap Some (uid_is heir holder e)

    -- it had none: it has what passes to it
    had_none : find t rows ≡ None →
        mode_of object holder (pass_rows action rows) ≡ strongest (mode_of object holder rows) (passing_mode action object holder rows)
    had_none none =
        by (find goes rows) refl ∙ ap (λ m. strongest (option_map (λ row. row.mode) m) (passing_mode action object holder rows)) (sym none)
      where
        free : (x : Row) → uid_eq x.object object ≡ true → has_row x.object holder rows ≡ false
        free x same = ap (λ u. has_row u holder rows) (uid_is x.object object same) ∙ false_from_ne_true (has_row object holder rows) (λ e.
            let f = which t rows e in let never : true ≡ false = sym f.2 ∙ in_find_none t f.0 rows none f.1 in cc)

        comes : (c : Row) → find goes rows ≡ Some c → mode_of object holder (pass_rows action rows) ≡ Some c.mode
        comes c found =
            let f = in_find goes c rows found in
            let g = and_parts (is_row_of object action c) (is_heir (before_last c.holder) holder) f.1 in
            let p = and_parts (uid_eq c.object object) (uid_eq (last_uid c.holder) action) g.0 in
            let parent = heir_of (before_last c.holder) g.1 in
            let tested : t (renamed c) ≡ true = (λ k. p.0 k && uid_eq ((heir_is c.holder holder parent).0 k) holder) ∙ uid_same holder in
            ap (option_map (λ row. row.mode)) (only_found object holder (renamed c) (pass_rows action rows) (one_each_pass action rows one) (passes_in action rows c holder f.0 p.1 parent (free c p.0)) tested)

        nobody : find goes rows ≡ None → (y : Row) → In y (pass_rows action rows) → t y ≡ false
        nobody nothing y i = at (came_by action rows y i)
          where
            at : CameBy action rows y → t y ≡ false
            at (stayed x c other is) =
                let o = passing action x.object (last_uid x.holder) rows in
                ap t is ∙ (λ k. uid_eq (strong_object x o k) object && uid_eq (last_uid (strong_holder x o k)) holder) ∙ in_find_none t x rows none (in_from x rows c)
            at (passed_on x c own heir parent alone is) = ap t is ∙ false_from_ne_true (t (renamed x)) (λ e.
                let p = and_parts (uid_eq x.object object) (uid_eq (last_uid (front x.holder)) holder) e in
                let same : uid_eq heir holder ≡ true = ap (λ u. uid_eq u holder) (sym (heir_is x.holder heir parent).0) ∙ p.1 in
                let passes : goes x ≡ true = λ k. (p.0 k && own k) && (ap (λ m. is_heir m holder) parent ∙ same) k in
                let never : true ≡ false = sym passes ∙ in_find_none goes x rows nothing (in_from x rows c) in cc)

        by : (o : Option Row) → find goes rows ≡ o →
            mode_of object holder (pass_rows action rows) ≡ option_map (λ row. row.mode) (find goes rows)
        by None e = ap (option_map (λ row. row.mode)) (find_none t (pass_rows action rows) (nobody e) ∙ sym e)
        by (Some c) e = comes c e ∙ ap (option_map (λ row. row.mode)) (sym e)

    others : (o : Option Row) → find t rows ≡ o →
        mode_of object holder (pass_rows action rows) ≡ strongest (mode_of object holder rows) (passing_mode action object holder rows)
    others None e = had_none e
    others (Some x) e = had x e

  pub pass_mode : mode_of object holder (pass_rows action rows) ≡ cond (uid_eq holder action) None (strongest (mode_of object holder rows) (passing_mode action object holder rows))
  pass_mode = by (uid_eq holder action) refl
    where
      by : (b : Bool) → uid_eq holder action ≡ b →
          mode_of object holder (pass_rows action rows) ≡ cond b None (strongest (mode_of object holder rows) (passing_mode action object holder rows))
      by true is = mine is
      by false another = others another (find t rows) refl

-- Who has a row, itself or below it.

pub pass_fewer : (action : Uid) (rows : List Row) (other : Uid) → has_any other (pass_rows action rows) ≡ true → has_any other rows ≡ true
pass_fewer action rows other e = by (which (λ r. is_on r.holder other) (pass_rows action rows) e)
  where
    at : (y : Row) → is_on y.holder other ≡ true → CameBy action rows y → has_any other rows ≡ true
    at y on (stayed x c held is) =
        has (λ r. is_on r.holder other) x rows (in_from x rows c) (ap (λ us. is_on us other) (sym (ap (λ r. r.holder) is ∙ strong_holder x (passing action x.object (last_uid x.holder) rows))) ∙ on)
    at y on (passed_on x c own heir parent free is) =
        has (λ r. is_on r.holder other) x rows (in_from x rows c) (on_front x.holder other (ap (λ us. is_on us other) (sym (ap (λ r. r.holder) is)) ∙ on))

    by : (y : Row) × In y (pass_rows action rows) × (is_on y.holder other ≡ true) → has_any other rows ≡ true
    by f = at f.0 f.2 (came_by action rows f.0 f.1)

module _ (action : Uid) (rows : List Row) (none : NoneBelow action rows) (agree : HeirsAgree action rows) (other : Uid) where
  -- the last of a path without a parent is all that is on it
  alone_on : (us : List Uid) → before_last us ≡ None → is_on us other ≡ true → uid_eq (last_uid us) other ≡ true
  alone_on us parent on = by (on_parts us other on)
    where
      nowhere : (vs : List Uid) → before_last vs ≡ None → is_on (front vs) other ≡ false
      nowhere [] e = refl
      nowhere (v ∷ []) e = refl
      nowhere (v ∷ w ∷ []) e = cc
      nowhere (v ∷ w ∷ x ∷ vs) e = let never = long w x vs e in absurd never
        where
          long : (w x : Uid) (vs : List Uid) → before_last (w ∷ x ∷ vs) ≡ None → ⊥
          long w x [] e = cc
          long w x (y ∷ vs) e = long x y vs e

      by : (uid_eq (last_uid us) other ≡ true) ⊎ (is_on (front us) other ≡ true) → uid_eq (last_uid us) other ≡ true
      by (inl last) = last
      by (inr before) = let never : true ≡ false = sym before ∙ nowhere us parent in cc

  abbrev pub after : List Row
  after = pass_rows action rows

  abbrev pub q : Row → Bool
  q = λ r. is_on r.holder other

  kept : (x : Row) → In x rows → is_held_by action x ≡ false → q x ≡ true → has_any other after ≡ true
  kept x i held on =
      let o = passing action x.object (last_uid x.holder) rows in
      has q (strengthened x o) after (stays_in action rows x i held) (ap (λ us. is_on us other) (strong_holder x o) ∙ on)

  module _ (another : uid_eq other action ≡ false) where
    handed : (x : Row) → In x rows → is_held_by action x ≡ true → q x ≡ true → (m : Option Uid) → before_last x.holder ≡ m →
        has_any other after ≡ true
    handed x i own on None parent =
        let last : other ≡ last_uid x.holder = sym (uid_is (last_uid x.holder) other (alone_on x.holder parent on)) in
        let never : true ≡ false = sym own ∙ ap (λ u. uid_eq u action) (sym last) ∙ another in cc
    handed x i own on (Some heir) parent = by (on_parts x.holder other on)
      where
        before : is_on (front x.holder) other ≡ true → (b : Bool) → has_row x.object heir rows ≡ b → has_any other after ≡ true
        before on_front_of false free = has q (renamed x) after (passes_in action rows x heir i own parent free) on_front_of
        before on_front_of true there =
            let s = which (is_row_of x.object heir) rows there in
            let last : last_uid s.0.holder ≡ heir =
            uid_is (last_uid s.0.holder) heir (and_parts (uid_eq s.0.object x.object) (uid_eq (last_uid s.0.holder) heir) s.2).1 in
            let path : s.0.holder ≡ front x.holder = agree x s.0 (in_to x rows i) (in_to s.0 rows s.1) own (parent ∙ ap Some (sym last)) in
            kept s.0 s.1 (not_the_action s.0 last) (ap (λ us. is_on us other) path ∙ on_front_of)
          where
            h : (last_uid (front x.holder) ≡ heir) × (1 ≤ length (front x.holder))
            h = heir_is x.holder heir parent

            not_the_action : (s : Row) → last_uid s.holder ≡ heir → is_held_by action s ≡ false
            not_the_action s last = ap (λ u. uid_eq u action) last ∙ false_from_ne_true (uid_eq heir action) (λ same.
                let on_it : is_on (front x.holder) action ≡ true = last_on (front x.holder) heir parent_on (uid_is heir action same) in
                let never : true ≡ false = sym on_it ∙ none x (in_to x rows i) in cc)
              where
                parent_on : is_on (front x.holder) heir ≡ true
                parent_on = ap (is_on (front x.holder)) (sym h.0) ∙ on_last (front x.holder) h.1

                last_on : (us : List Uid) (u : Uid) → is_on us u ≡ true → u ≡ action → is_on us action ≡ true
                last_on us u on same = ap (is_on us) (sym same) ∙ on

        by : (uid_eq (last_uid x.holder) other ≡ true) ⊎ (is_on (front x.holder) other ≡ true) → has_any other after ≡ true
        by (inl last) =
            let never : true ≡ false = sym own ∙ ap (λ u. uid_eq u action) (uid_is (last_uid x.holder) other last) ∙ another in cc
        by (inr up) = before up (has_row x.object heir rows) refl

    still : has_any other rows ≡ true → has_any other after ≡ true
    still e =
        let f = which q rows e in
        by f.0 f.1 f.2 (is_held_by action f.0) refl
      where
        by : (x : Row) → In x rows → q x ≡ true → (b : Bool) → is_held_by action x ≡ b → has_any other after ≡ true
        by x i on true own = handed x i own on (before_last x.holder) refl
        by x i on false held = kept x i held on

  -- nobody is below the action any more, and it has nothing itself
  gone : uid_eq other action ≡ true → has_any other after ≡ false
  gone is = false_from_ne_true (has_any other after) (λ e.
      let f = which q after e in
      let never : true ≡ false =
      sym (ap (is_on f.0.holder) (sym (uid_is other action is)) ∙ f.2) ∙ off f.0 (came_by action rows f.0 f.1) in cc)
    where
      off : (y : Row) → CameBy action rows y → is_on y.holder action ≡ false
      off y (stayed x c held is) =
          ap (λ us. is_on us action) (ap (λ r. r.holder) is ∙ strong_holder x (passing action x.object (last_uid x.holder) rows))
          ∙ false_from_ne_true (is_on x.holder action) (λ on. by x c held (on_parts x.holder action on))
        where
          by : (x : Row) → Contains rows x → is_held_by action x ≡ false →
              (uid_eq (last_uid x.holder) action ≡ true) ⊎ (is_on (front x.holder) action ≡ true) → ⊥
          by x c held (inl last) = let never : true ≡ false = sym last ∙ held in cc
          by x c held (inr up) = let never : true ≡ false = sym up ∙ none x c in cc
      off y (passed_on x c own heir parent free is) = ap (λ us. is_on us action) (ap (λ r. r.holder) is) ∙ none x c

  pub pass_any : has_any other after ≡ (has_any other rows && not (uid_eq other action))
  pass_any = by (uid_eq other action) refl (has_any other rows) refl
    where
      by : (a : Bool) → uid_eq other action ≡ a → (b : Bool) → has_any other rows ≡ b → has_any other after ≡ (b && not a)
      by true is true e = gone is
      by true is false e = gone is
      by false another true e = still another e
      by false another false e =
          false_from_ne_true (has_any other after) (λ on. let never : true ≡ false = sym (pass_fewer action rows other on) ∙ e in cc)
