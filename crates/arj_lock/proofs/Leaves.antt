-- What grants, drops, closings and lowerings leave, object by object and holder by holder.
use Rattle.std.proofs.Common.{◌≡◌, ◌⊎◌, ◌↔◌, Contains, List, [], ◌∷◌, Bool, true, false, cond, not, ◌&&◌, ◌||◌, Option, Some, None, refl}
use Rattle.std.proofs.Common.{sym, ◌∙◌, ap, inl, inr, filter, map, find}
use Rattle.std.specs.List.{list_any}
use Rattle.std.specs.Option.{option_map}
use Rattle.std.proofs.lemmas.Bool.{and_parts, not-true, or_parts}
use Rattle.std.proofs.Math.Bool.{or_assoc}
use Rattle.arj_base.specs.declared.mode.Mode.{Mode}
use Rattle.arj_base.specs.declared.mode.Mode.TheVariants.{Read}
use Rattle.arj_base.specs.declared.uid.Uid.{Uid}
use Rattle.arj_base.specs.Mode.{conflicting, stronger, strongest}
use Rattle.arj_base.specs.Rows.{Row, last_uid, is_on, is_row_of, has_any, has_row, mode_of, grant_row, drop_rows, close_rows, lower_row}
use Rattle.arj_base.specs.Rows.{is_against, first_conflict}
use Rattle.arj_base.specs.Uid.{uid_eq}
use Rattle.arj_base.proofs.Uids.{uid_is}
use Rattle.arj_lock.specs.Exclusion.{IsOneEach}
use Rattle.arj_lock.specs.Requests.{lowered}
use Rattle.arj_lock.proofs.Own.{lowered_object, lowered_holder}
use Rattle.arj_lock.proofs.Members.{In, in_filter, in_find_none, in_from, in_to}
use Rattle.arj_lock.proofs.OneEach.{none_in, any_same}
use Rattle.arj_lock.proofs.Passes.{find_none}

abbrev mode_in : Option Row → Option Mode
mode_in o = option_map (λ row. row.mode) o

or_false : (a : Bool) → (a || false) ≡ a
or_false true = refl
or_false false = refl

and_false : (a : Bool) → (a && false) ≡ false
and_false true = refl
and_false false = refl

-- rows of one object and holder pass the same tests of both
pub same_test : (o h o' h' : Uid) (row : Row) → is_row_of o h row ≡ true → is_row_of o' h' row ≡ (uid_eq o o' && uid_eq h h')
same_test o h o' h' row own =
    let p = and_parts (uid_eq row.object o) (uid_eq (last_uid row.holder) h) own in
    λ i. uid_eq (uid_is row.object o p.0 i) o' && uid_eq (uid_is (last_uid row.holder) h p.1 i) h'

-- Grants.

pub grant_mode : (new : Row) (rows : List Row) (object holder : Uid)
    → mode_of object holder (grant_row new rows) ≡ cond (is_row_of object holder new) (strongest (mode_of object holder rows) (Some new.mode)) (mode_of object holder rows)
grant_mode new [] object holder = by (is_row_of object holder new)
  where
    by : (b : Bool) → mode_in (cond b (Some new) None) ≡ cond b (Some new.mode) None
    by true = refl
    by false = refl
grant_mode new (row ∷ rows) object holder = by (is_row_of new.object (last_uid new.holder) row) refl (grant_mode new rows object holder)
  where
    raised : Row
    raised = record row { mode = stronger row.mode new.mode }

    t : Row → Bool
    t = is_row_of object holder

    here : (b : Bool) →
        mode_in (cond b (Some raised) (find t rows)) ≡ cond b (strongest (mode_in (cond b (Some row) (find t rows))) (Some new.mode)) (mode_in (cond b (Some row) (find t rows)))
    here true = refl
    here false = refl

    past : (b n : Bool) → is_row_of object holder row ≡ b → t new ≡ n → is_row_of new.object (last_uid new.holder) row ≡ false
        → mode_in (find t (grant_row new rows)) ≡ cond n (strongest (mode_in (find t rows)) (Some new.mode)) (mode_in (find t rows))
        → mode_in (cond b (Some row) (find t (grant_row new rows))) ≡ cond n (strongest (mode_in (cond b (Some row) (find t rows))) (Some new.mode)) (mode_in (cond b (Some row) (find t rows)))
    past true true is also other ih =
        let p = and_parts (uid_eq new.object object) (uid_eq (last_uid new.holder) holder) also in
        let never : true ≡ false =
        sym is ∙ (λ i. is_row_of (sym (uid_is new.object object p.0) i) (sym (uid_is (last_uid new.holder) holder p.1) i) row) ∙ other in cc
    past true false is also other ih = refl
    past false n is also other ih = ih

    by : (own : Bool) → is_row_of new.object (last_uid new.holder) row ≡ own
        → mode_of object holder (grant_row new rows) ≡ cond (t new) (strongest (mode_of object holder rows) (Some new.mode)) (mode_of object holder rows)
        → mode_in (find t (cond own (raised ∷ rows) (row ∷ grant_row new rows))) ≡ cond (t new) (strongest (mode_in (find t (row ∷ rows))) (Some new.mode)) (mode_in (find t (row ∷ rows)))
    by true own ih =
        here (t row)
        ∙ (λ i. cond (same_test new.object (last_uid new.holder) object holder row own i) (strongest (mode_in (find t (row ∷ rows))) (Some new.mode)) (mode_in (find t (row ∷ rows))))
    by false other ih = past (t row) (t new) refl refl other ih

pub grant_any : (new : Row) (rows : List Row) (action : Uid)
    → has_any action (grant_row new rows) ≡ (has_any action rows || (not (has_row new.object (last_uid new.holder) rows) && is_on new.holder action))
grant_any new [] action = or_false (is_on new.holder action)
grant_any new (row ∷ rows) action = by (is_row_of new.object (last_uid new.holder) row) (grant_any new rows action)
  where
    on : Bool
    on = is_on row.holder action

    by : (own : Bool) →
        has_any action (grant_row new rows) ≡ (has_any action rows || (not (has_row new.object (last_uid new.holder) rows) && is_on new.holder action))
        → has_any action (cond own (record row { mode = stronger row.mode new.mode } ∷ rows) (row ∷ grant_row new rows))
        ≡ ((on || has_any action rows) || (not (own || has_row new.object (last_uid new.holder) rows) && is_on new.holder action))
    by true ih = sym (or_false (on || has_any action rows))
    by false ih =
        ap (λ b. on || b) ih ∙ sym (or_assoc on (has_any action rows) (not (has_row new.object (last_uid new.holder) rows) && is_on new.holder action))

pub grant_stays : (new r : Row) (rows : List Row) → In r rows → is_row_of new.object (last_uid new.holder) r ≡ false →
    In r (grant_row new rows)
grant_stays new r [] i other = absurd i
grant_stays new r (row ∷ rows) i other = by (is_row_of new.object (last_uid new.holder) row) refl i (grant_stays new r rows)
  where
    by : (own : Bool) → is_row_of new.object (last_uid new.holder) row ≡ own → In r (row ∷ rows)
        → (In r rows → is_row_of new.object (last_uid new.holder) r ≡ false → In r (grant_row new rows))
        → In r (cond own (record row { mode = stronger row.mode new.mode } ∷ rows) (row ∷ grant_row new rows))
    by true own (inl is) ih = let never : true ≡ false = sym own ∙ ap (is_row_of new.object (last_uid new.holder)) is ∙ other in cc
    by true own (inr j) ih = inr j
    by false own (inl is) ih = inl is
    by false own (inr j) ih = inr (ih j other)

-- the action's old row in the stronger mode
abbrev pub IsRaised : Row → List Row → Row → Type 0
IsRaised new rows r =
    (old : Row) × In old rows × (is_row_of new.object (last_uid new.holder) old ≡ true) × (r ≡ record old {
      mode =
          stronger old.mode new.mode;
    })

pub grant_each : (new r : Row) (rows : List Row) → In r (grant_row new rows) → In r rows ⊎ ((r ≡ new) ⊎ IsRaised new rows r)
grant_each new r [] (inl is) = inr (inl (sym is))
grant_each new r [] (inr i) = absurd i
grant_each new r (row ∷ rows) i = by (is_row_of new.object (last_uid new.holder) row) refl i (grant_each new r rows)
  where
    more : In r rows ⊎ ((r ≡ new) ⊎ IsRaised new rows r) → In r (row ∷ rows) ⊎ ((r ≡ new) ⊎ IsRaised new (row ∷ rows) r)
    more (inl j) = inl (inr j)
    more (inr (inl is)) = inr (inl is)
    more (inr (inr f)) = inr (inr (f.0, inr f.1, f.2, f.3))

    by : (own : Bool) → is_row_of new.object (last_uid new.holder) row ≡ own →
        In r (cond own (record row { mode = stronger row.mode new.mode } ∷ rows) (row ∷ grant_row new rows))
        → (In r (grant_row new rows) → In r rows ⊎ ((r ≡ new) ⊎ IsRaised new rows r)) →
        In r (row ∷ rows) ⊎ ((r ≡ new) ⊎ IsRaised new (row ∷ rows) r)
    by true own (inl is) ih = inr (inr (row, inl refl, own, sym is))
    by true own (inr j) ih = inl (inr j)
    by false own (inl is) ih = inl (inl is)
    by false own (inr j) ih = more (ih j)

-- whose holder is on the path is never against it
friendly : (path : List Uid) (object : Uid) (mode : Mode) (r : Row) → is_on path (last_uid r.holder) ≡ true →
    is_against path object mode r ≡ false
friendly path object mode r on =
    (λ i. uid_eq r.object object && (not (on i) && conflicting r.mode mode)) ∙ and_false (uid_eq r.object object)

pub grant_clear : (path : List Uid) (object : Uid) (mode : Mode) (new : Row) (rows : List Row) → is_on path (last_uid new.holder) ≡ true
    → first_conflict path object mode rows ≡ None → first_conflict path object mode (grant_row new rows) ≡ None
grant_clear path object mode new rows on free =
    find_none (is_against path object mode) (grant_row new rows) (λ y i. by y (grant_each new y rows i))
  where
    by : (y : Row) → In y rows ⊎ ((y ≡ new) ⊎ IsRaised new rows y) → is_against path object mode y ≡ false
    by y (inl i) = in_find_none (is_against path object mode) y rows free i
    by y (inr (inl is)) = ap (is_against path object mode) is ∙ friendly path object mode new on
    by y (inr (inr f)) =
        let last = uid_is (last_uid f.0.holder) (last_uid new.holder) (and_parts (uid_eq f.0.object new.object) (uid_eq (last_uid f.0.holder) (last_uid new.holder)) f.2).1 in
        ap (is_against path object mode) f.3 ∙ friendly path object mode (record f.0 {
          mode =
              stronger f.0.mode new.mode;
        }) (ap (is_on path) last ∙ on)

-- Rows that are kept by a test.

pub kept_from : (p : Row → Bool) (r : Row) (rows : List Row) → In r rows → p r ≡ true → In r (filter p rows)
kept_from p r [] i keeps = absurd i
kept_from p r (row ∷ rows) i keeps = by (p row) refl i (kept_from p r rows)
  where
    by : (b : Bool) → p row ≡ b → In r (row ∷ rows) → (In r rows → p r ≡ true → In r (filter p rows)) →
        In r (cond b (row ∷ filter p rows) (filter p rows))
    by true e (inl is) ih = inl is
    by true e (inr j) ih = inr (ih j keeps)
    by false e (inl is) ih = let never : true ≡ false = sym keeps ∙ ap p (sym is) ∙ e in cc
    by false e (inr j) ih = ih j keeps

-- the rows that don't go are those that stay
pub kept_rows : (gone : Row → Bool) (r : Row) (rows : List Row) →
    Contains (filter (λ row. not (gone row)) rows) r ↔ (Contains rows r × (gone r ≡ false))
kept_rows gone r rows = (
  λ there. let f = in_filter kept r rows (in_from r (filter kept rows) there) in (in_to r rows f.0, not-true (gone r) f.1),
  λ p. in_to r (filter kept rows) (kept_from kept r rows (in_from r rows p.0) (ap not p.1)),
)
  where
    kept : Row → Bool
    kept = λ row. not (gone row)

pub kept_any : (q p : Row → Bool) (rows : List Row) → list_any q (filter p rows) ≡ list_any (λ r. q r && p r) rows
kept_any q p [] = refl
kept_any q p (row ∷ rows) = by (p row) (kept_any q p rows)
  where
    true_right : (a : Bool) → a ≡ (a && true)
    true_right true = refl
    true_right false = refl

    by : (b : Bool) → list_any q (filter p rows) ≡ list_any (λ r. q r && p r) rows →
        list_any q (cond b (row ∷ filter p rows) (filter p rows)) ≡ ((q row && b) || list_any (λ r. q r && p r) rows)
    by true ih = λ i. true_right (q row) i || ih i
    by false ih = ih ∙ ap (λ a. a || list_any (λ r. q r && p r) rows) (sym (and_false (q row)))

-- a search among the rows that are kept, where only one may be found
pub kept_found : (object holder : Uid) (gone : Row → Bool) (rows : List Row) → IsOneEach rows
    → mode_of object holder (filter (λ r. not (gone r)) rows) ≡ cond (list_any (λ r. is_row_of object holder r && gone r) rows) None (mode_of object holder rows)
kept_found object holder gone [] one = refl
kept_found object holder gone (row ∷ rows) one = by (gone row) (is_row_of object holder row) refl (kept_found object holder gone rows one.1)
  where
    t : Row → Bool
    t = is_row_of object holder

    kept : Row → Bool
    kept = λ r. not (gone r)

    -- no other row passes the test
    alone : t row ≡ true → list_any t rows ≡ false
    alone own =
        let p = and_parts (uid_eq row.object object) (uid_eq (last_uid row.holder) holder) own in
        (λ i. list_any (is_row_of (sym (uid_is row.object object p.0) i) (sym (uid_is (last_uid row.holder) holder p.1) i)) rows) ∙ one.0

    fewer : (q : Row → Bool) (rs : List Row) → list_any t rs ≡ false → list_any (λ r. t r && q r) rs ≡ false
    fewer q [] e = refl
    fewer q (r ∷ rs) e = let p = or_parts (t r) (list_any t rs) e in λ i. (p.0 i && q r) || fewer q rs p.1 i

    -- nothing is found among the others
    nothing : list_any t rows ≡ false → mode_in (find t (filter kept rows)) ≡ None
    nothing e = ap mode_in (find_none t (filter kept rows) (λ y i. none_in t y (filter kept rows) (kept_any t kept rows ∙ fewer kept rows e) i))

    by : (g b : Bool) → t row ≡ b →
        mode_of object holder (filter kept rows) ≡ cond (list_any (λ r. t r && gone r) rows) None (mode_of object holder rows)
        → mode_in (find t (cond (not g) (row ∷ filter kept rows) (filter kept rows))) ≡ cond ((b && g) || list_any (λ r. t r && gone r) rows) None (mode_in (cond b (Some row) (find t rows)))
    by true true own ih = nothing (alone own)
    by true false own ih = ih
    by false true own ih =
        (λ i. mode_in (cond (own i) (Some row) (find t (filter kept rows)))) ∙ sym (λ i. cond (fewer gone rows (alone own) i) None (Some row.mode))
    by false false own ih = (λ i. mode_in (cond (own i) (Some row) (find t (filter kept rows)))) ∙ ih

pub gone_any : (action : Uid) (rows : List Row) → has_any action (drop_rows action rows) ≡ false
gone_any action rows = kept_any (λ r. is_on r.holder action) (λ r. not (is_on r.holder action)) rows ∙ never rows
  where
    both : (a : Bool) → (a && not a) ≡ false
    both true = refl
    both false = refl

    never : (rs : List Row) → list_any (λ r. is_on r.holder action && not (is_on r.holder action)) rs ≡ false
    never [] = refl
    never (r ∷ rs) = λ i. both (is_on r.holder action) i || never rs i

pub close_mode : (closed : Uid) (rows : List Row) (object holder : Uid) →
    mode_of object holder (close_rows closed rows) ≡ cond (uid_eq object closed) None (mode_of object holder rows)
close_mode closed [] object holder = by (uid_eq object closed)
  where
    by : (b : Bool) → None ≡ cond {A = Option Mode} b None None
    by true = refl
    by false = refl
close_mode closed (row ∷ rows) object holder =
    by (uid_eq row.object closed) refl (uid_eq object closed) refl (is_row_of object holder row) refl (close_mode closed rows object holder)
  where
    t : Row → Bool
    t = is_row_of object holder

    object_is : t row ≡ true → row.object ≡ object
    object_is own = uid_is row.object object (and_parts (uid_eq row.object object) (uid_eq (last_uid row.holder) holder) own).0

    by : (g : Bool) → uid_eq row.object closed ≡ g → (c : Bool) → uid_eq object closed ≡ c → (b : Bool) → t row ≡ b
        → mode_of object holder (close_rows closed rows) ≡ cond c None (mode_of object holder rows)
        → mode_in (find t (cond (not g) (row ∷ close_rows closed rows) (close_rows closed rows))) ≡ cond c None (mode_in (cond b (Some row) (find t rows)))
    by true e true f b own ih = ih
    by true e false f true own ih = let never : true ≡ false = sym e ∙ ap (λ u. uid_eq u closed) (object_is own) ∙ f in cc
    by true e false f false own ih = ih
    by false e true f true own ih = let never : true ≡ false = sym f ∙ ap (λ u. uid_eq u closed) (sym (object_is own)) ∙ e in cc
    by false e true f false own ih = (λ i. mode_in (cond (own i) (Some row) (find t (close_rows closed rows)))) ∙ ih
    by false e false f true own ih = λ i. mode_in (cond (own i) (Some row) (find t (close_rows closed rows)))
    by false e false f false own ih = (λ i. mode_in (cond (own i) (Some row) (find t (close_rows closed rows)))) ∙ ih

-- Rows that are lowered.

pub lower_mode : (action lower : Uid) (rows : List Row) (object holder : Uid)
    → mode_of object holder (lower_row action lower rows) ≡ cond (uid_eq object lower && uid_eq holder action) (option_map (λ _. Read) (mode_of object holder rows)) (mode_of object holder rows)
lower_mode action lower [] object holder = by (uid_eq object lower && uid_eq holder action)
  where
    by : (b : Bool) → None ≡ cond {A = Option Mode} b None None
    by true = refl
    by false = refl
lower_mode action lower (row ∷ rows) object holder =
    (λ i. mode_in (cond (tested i) (Some (lowered action lower row)) (find t (lower_row action lower rows)))) ∙ by (t row) refl (lower_mode action lower rows object holder)
  where
    t : Row → Bool
    t = is_row_of object holder

    tested : t (lowered action lower row) ≡ t row
    tested = λ i. uid_eq (lowered_object action lower row i) object && uid_eq (last_uid (lowered_holder action lower row i)) holder

    here : (b : Bool) → Some (cond b (record row { mode = Read }) row).mode ≡ cond b (Some Read) (Some row.mode)
    here true = refl
    here false = refl

    by : (b : Bool) → t row ≡ b
        → mode_of object holder (lower_row action lower rows) ≡ cond (uid_eq object lower && uid_eq holder action) (option_map (λ _. Read) (mode_of object holder rows)) (mode_of object holder rows)
        → mode_in (cond b (Some (lowered action lower row)) (find t (lower_row action lower rows)))
        ≡ cond (uid_eq object lower && uid_eq holder action) (option_map (λ _. Read) (mode_in (cond b (Some row) (find t rows)))) (mode_in (cond b (Some row) (find t rows)))
    by true own ih =
        here (is_row_of lower action row) ∙ (λ i. cond (same_test object holder lower action row own i) (Some Read) (Some row.mode))
    by false own ih = ih

pub lower_any : (action object : Uid) (rows : List Row) (other : Uid) → has_any other (lower_row action object rows) ≡ has_any other rows
lower_any action object rows other =
    any_same (λ r. is_on r.holder other) (λ r. is_on r.holder other) (lowered action object) rows (λ r. ap (λ us. is_on us other) (lowered_holder action object r))

pub changed_in : (f : Row → Row) (r : Row) (rows : List Row) → In r rows → In (f r) (map f rows)
changed_in f r [] i = absurd i
changed_in f r (row ∷ rows) (inl is) = inl (ap f is)
changed_in f r (row ∷ rows) (inr i) = inr (changed_in f r rows i)
