-- What each line makes of a table's rows on one object.
use Rattle.arj_law_parts.proofs.Words
use Words.{◌≡◌, ◌∙◌, ◌==◌, ◌&&◌, ◌||◌, List, [], ◌∷◌, Bool, true, false, cond, find, not, Option, Some, None, refl, sym, ap, cons_option}
use Words.{filter_map, and_parts, uid_is, uid_same, before_last, Row, drop_rows, goes_to, grant_row, handed_on, has_row, is_heir}
use Words.{is_held_by, is_on, is_row_of, last_uid, lower_row, passed, renamed, strengthened, object, uid_eq, End, Mode, Uid, stronger, Part}
use Words.{row_for}
use Rattle.arj_law_serial.proofs.Terms
use Terms.{Act, IsOfPart, holders_in, rows_on}
use Terms.ending
use Terms.body
use Terms.part
use Rattle.arj_base.specs.Rows.{close_rows}
use Rattle.arj_law_serial.specs.tables.Tables.{LinesGoByObjects}
use Rattle.arj_model.specs.Table.{granted_row, is_entry, is_in_part, tell_rows}
use Rattle.arj_protocol.specs.Laws.{rows_ended, same_part}
use Rattle.arj_base.specs.declared.mode.Mode.TheVariants as mode

differ : {A : Type 0} (b : Bool) → b ≡ true → b ≡ false → A
differ b yes_it no_it = absurd (let never : true ≡ false = sym yes_it ∙ no_it in cc never)

-- what is kept in front of a list, and what isn't
kept_front : (o : Uid) (r : Row) (rs : List Row) → uid_eq r.object o ≡ true → rows_on o (r ∷ rs) ≡ r ∷ rows_on o rs
kept_front o r rs e = λ i. cond (e i) (r ∷ rows_on o rs) (rows_on o rs)

left_out : (o : Uid) (r : Row) (rs : List Row) → uid_eq r.object o ≡ false → rows_on o (r ∷ rs) ≡ rows_on o rs
left_out o r rs e = λ i. cond (e i) (r ∷ rows_on o rs) (rows_on o rs)

-- ---- grants

grant_here : (o : Uid) (new : Row) (rows : List Row) → uid_eq new.object o ≡ true →
    rows_on o (grant_row new rows) ≡ grant_row new (rows_on o rows)
grant_here o new [] e = kept_front o new [] e
grant_here o new (r ∷ rs) e = by (is_row_of new.object (last_uid new.holder) r) refl (uid_eq r.object o) refl (grant_here o new rs e)
  where
    raised : Row
    raised = record r { mode = stronger r.mode new.mode }

    by : (b : Bool) → is_row_of new.object (last_uid new.holder) r ≡ b → (c : Bool) → uid_eq r.object o ≡ c → rows_on o (grant_row new rs)
        ≡ grant_row new (rows_on o rs) → rows_on o (cond b (raised ∷ rs) (r ∷ grant_row new rs)) ≡ grant_row new (rows_on o (r ∷ rs))
    by true is true on ih = kept_front o raised rs on
        ∙ sym (ap (grant_row new) (kept_front o r rs on) ∙ (λ i. cond (is i) (raised ∷ rows_on o rs) (r ∷ grant_row new (rows_on o rs))))
    by true is false off ih =
        let p = and_parts (uid_eq r.object new.object) (uid_eq (last_uid r.holder) (last_uid new.holder)) is in
        differ (uid_eq r.object o) (ap (λ w. uid_eq w o) (uid_is r.object new.object p.0) ∙ e) off
    by false is true on ih = kept_front o r (grant_row new rs) on ∙ ap (λ z. r ∷ z) ih
        ∙ sym (ap (grant_row new) (kept_front o r rs on) ∙ (λ i. cond (is i) (raised ∷ rows_on o rs) (r ∷ grant_row new (rows_on o rs))))
    by false is false off ih = left_out o r (grant_row new rs) off ∙ ih ∙ sym (ap (grant_row new) (left_out o r rs off))

grant_else : (o : Uid) (new : Row) (rows : List Row) → uid_eq new.object o ≡ false → rows_on o (grant_row new rows) ≡ rows_on o rows
grant_else o new [] e = left_out o new [] e
grant_else o new (r ∷ rs) e = by (is_row_of new.object (last_uid new.holder) r) refl (uid_eq r.object o) refl (grant_else o new rs e)
  where
    raised : Row
    raised = record r { mode = stronger r.mode new.mode }

    by : (b : Bool) → is_row_of new.object (last_uid new.holder) r ≡ b → (c : Bool) → uid_eq r.object o ≡ c →
        rows_on o (grant_row new rs) ≡ rows_on o rs → rows_on o (cond b (raised ∷ rs) (r ∷ grant_row new rs)) ≡ rows_on o (r ∷ rs)
    by true is true on ih =
        let p = and_parts (uid_eq r.object new.object) (uid_eq (last_uid r.holder) (last_uid new.holder)) is in
        differ (uid_eq r.object o) on (ap (λ w. uid_eq w o) (uid_is r.object new.object p.0) ∙ e)
    by true is false off ih = left_out o raised rs off ∙ sym (left_out o r rs off)
    by false is true on ih = kept_front o r (grant_row new rs) on ∙ ap (λ z. r ∷ z) ih ∙ sym (kept_front o r rs on)
    by false is false off ih = left_out o r (grant_row new rs) off ∙ ih ∙ sym (left_out o r rs off)

granted : (o : Uid) (new : Row) (rows : List Row) (b : Bool) → uid_eq new.object o ≡ b →
    rows_on o (grant_row new rows) ≡ cond b (grant_row new (rows_on o rows)) (rows_on o rows)
granted o new rows true e = grant_here o new rows e
granted o new rows false e = grant_else o new rows e

-- ---- lowered and closed

lowered : (o u x : Uid) (rows : List Row) (b : Bool) → uid_eq x o ≡ b →
    rows_on o (lower_row u x rows) ≡ cond b (lower_row u o (rows_on o rows)) (rows_on o rows)
lowered o u x [] true e = refl
lowered o u x [] false e = refl
lowered o u x (r ∷ rs) b e = by b e (is_row_of x u r) refl (uid_eq r.object o) refl (lowered o u x rs b e)
  where
    low : Row
    low = record r { mode = mode.Read }

    by : (b : Bool) → uid_eq x o ≡ b → (c : Bool) → is_row_of x u r ≡ c → (d : Bool) → uid_eq r.object o ≡ d →
        rows_on o (lower_row u x rs) ≡ cond b (lower_row u o (rows_on o rs)) (rows_on o rs)
        → rows_on o (cond c low r ∷ lower_row u x rs) ≡ cond b (lower_row u o (rows_on o (r ∷ rs))) (rows_on o (r ∷ rs))
    by true e true is true on ih = kept_front o low (lower_row u x rs) on ∙ ap (λ z. low ∷ z) ih
        ∙ sym (ap (lower_row u o) (kept_front o r rs on) ∙ (λ i. cond (here i) low r ∷ lower_row u o (rows_on o rs)))
      where
        here : is_row_of o u r ≡ true
        here = ap (λ w. is_row_of w u r) (sym (uid_is x o e)) ∙ is
    by true e false is true on ih = kept_front o r (lower_row u x rs) on ∙ ap (λ z. r ∷ z) ih
        ∙ sym (ap (lower_row u o) (kept_front o r rs on) ∙ (λ i. cond (here i) low r ∷ lower_row u o (rows_on o rs)))
      where
        here : is_row_of o u r ≡ false
        here = ap (λ w. is_row_of w u r) (sym (uid_is x o e)) ∙ is
    by true e true is false off ih = left_out o low (lower_row u x rs) off ∙ ih ∙ sym (ap (lower_row u o) (left_out o r rs off))
    by true e false is false off ih = left_out o r (lower_row u x rs) off ∙ ih ∙ sym (ap (lower_row u o) (left_out o r rs off))
    by false e true is true on ih =
        let p = and_parts (uid_eq r.object x) (uid_eq (last_uid r.holder) u) is in
        differ (uid_eq r.object o) on (ap (λ w. uid_eq w o) (uid_is r.object x p.0) ∙ e)
    by false e true is false off ih = left_out o low (lower_row u x rs) off ∙ ih ∙ sym (left_out o r rs off)
    by false e false is true on ih = kept_front o r (lower_row u x rs) on ∙ ap (λ z. r ∷ z) ih ∙ sym (kept_front o r rs on)
    by false e false is false off ih = left_out o r (lower_row u x rs) off ∙ ih ∙ sym (left_out o r rs off)

closed : (o x : Uid) (rows : List Row) (b : Bool) → uid_eq x o ≡ b → rows_on o (close_rows x rows) ≡ cond b [] (rows_on o rows)
closed o x [] true e = refl
closed o x [] false e = refl
closed o x (r ∷ rs) b e = by b e (uid_eq r.object x) refl (uid_eq r.object o) refl (closed o x rs b e)
  where
    by : (b : Bool) → uid_eq x o ≡ b → (c : Bool) → uid_eq r.object x ≡ c → (d : Bool) → uid_eq r.object o ≡ d →
        rows_on o (close_rows x rs) ≡ cond b [] (rows_on o rs)
        → rows_on o (cond (not c) (r ∷ close_rows x rs) (close_rows x rs)) ≡ cond b [] (rows_on o (r ∷ rs))
    by true e true is d on ih = ih
    by true e false is true on ih =
        differ (uid_eq r.object x) (ap (λ w. uid_eq w x) (uid_is r.object o on ∙ sym (uid_is x o e)) ∙ uid_same x) is
    by true e false is false off ih = left_out o r (close_rows x rs) off ∙ ih
    by false e true is true on ih = differ (uid_eq x o) (ap (λ w. uid_eq w o) (sym (uid_is r.object x is)) ∙ on) e
    by false e true is false off ih = ih ∙ sym (left_out o r rs off)
    by false e false is true on ih = kept_front o r (close_rows x rs) on ∙ ap (λ z. r ∷ z) ih ∙ sym (kept_front o r rs on)
    by false e false is false off ih = left_out o r (close_rows x rs) off ∙ ih ∙ sym (left_out o r rs off)

-- ---- ends

-- whether a row on the object is in a part
of_part : (p q : Part) (o : Uid) → IsOfPart p o → (r : Row) → uid_eq r.object o ≡ true → is_in_part q r ≡ same_part p q
of_part part.Naming part.Naming o is r on = ap is_entry (uid_is r.object o on) ∙ is
of_part part.Naming part.Server o is r on = ap (λ w. not (is_entry w)) (uid_is r.object o on) ∙ ap not is
of_part part.Server part.Naming o is r on = ap is_entry (uid_is r.object o on) ∙ is
of_part part.Server part.Server o is r on = ap (λ w. not (is_entry w)) (uid_is r.object o on) ∙ ap not is

dropped : (p q : Part) (o u : Uid) → IsOfPart p o → (rows : List Row) →
    rows_on o (tell_rows q u ending.Abort rows) ≡ cond (same_part p q) (drop_rows u (rows_on o rows)) (rows_on o rows)
dropped p q o u is rows = by (same_part p q) refl rows
  where
    by : (b : Bool) → same_part p q ≡ b → (rows : List Row) →
        rows_on o (tell_rows q u ending.Abort rows) ≡ cond b (drop_rows u (rows_on o rows)) (rows_on o rows)
    by true e [] = refl
    by false e [] = refl
    by b e (r ∷ rs) = one b e (uid_eq r.object o) refl (is_in_part q r) refl (is_on r.holder u) refl (by b e rs)
      where
        one : (b : Bool) → same_part p q ≡ b → (c : Bool) → uid_eq r.object o ≡ c → (d : Bool) → is_in_part q r ≡ d → (f : Bool) →
            is_on r.holder u ≡ f → rows_on o (tell_rows q u ending.Abort rs) ≡ cond b (drop_rows u (rows_on o rs)) (rows_on o rs)
            → rows_on o (cond (not (d && f)) (r ∷ tell_rows q u ending.Abort rs) (tell_rows q u ending.Abort rs))
            ≡ cond b (drop_rows u (rows_on o (r ∷ rs))) (rows_on o (r ∷ rs))
        one true e true on true in_it true below ih = ih ∙ sym (ap (drop_rows u) (kept_front o r rs on)
            ∙ (λ i. cond (not (below i)) (r ∷ drop_rows u (rows_on o rs)) (drop_rows u (rows_on o rs))))
        one true e true on true in_it false below ih =
            kept_front o r (tell_rows q u ending.Abort rs) on ∙ ap (λ z. r ∷ z) ih ∙ sym (ap (drop_rows u) (kept_front o r rs on)
            ∙ (λ i. cond (not (below i)) (r ∷ drop_rows u (rows_on o rs)) (drop_rows u (rows_on o rs))))
        one true e true on false out f below ih = differ (is_in_part q r) (of_part p q o is r on ∙ e) out
        one false e true on true in_it f below ih = differ (is_in_part q r) in_it (of_part p q o is r on ∙ e)
        one false e true on false out f below ih =
            kept_front o r (tell_rows q u ending.Abort rs) on ∙ ap (λ z. r ∷ z) ih ∙ sym (kept_front o r rs on)
        one true e false off true in_it true below ih = ih ∙ sym (ap (drop_rows u) (left_out o r rs off))
        one true e false off true in_it false below ih =
            left_out o r (tell_rows q u ending.Abort rs) off ∙ ih ∙ sym (ap (drop_rows u) (left_out o r rs off))
        one true e false off false out f below ih =
            left_out o r (tell_rows q u ending.Abort rs) off ∙ ih ∙ sym (ap (drop_rows u) (left_out o r rs off))
        one false e false off true in_it true below ih = ih ∙ sym (left_out o r rs off)
        one false e false off true in_it false below ih = left_out o r (tell_rows q u ending.Abort rs) off ∙ ih ∙ sym (left_out o r rs off)
        one false e false off false out f below ih = left_out o r (tell_rows q u ending.Abort rs) off ∙ ih ∙ sym (left_out o r rs off)

-- what passes on an object is seen among its rows
has_on : (o w heir : Uid) (rows : List Row) → w ≡ o → has_row w heir rows ≡ has_row w heir (rows_on o rows)
has_on o w heir [] is = refl
has_on o w heir (r ∷ rs) is = by (uid_eq r.object o) refl (has_on o w heir rs is)
  where
    by : (b : Bool) → uid_eq r.object o ≡ b → has_row w heir rs ≡ has_row w heir (rows_on o rs) →
        (is_row_of w heir r || has_row w heir rs) ≡ has_row w heir (rows_on o (r ∷ rs))
    by true on ih = ap (λ b. is_row_of w heir r || b) ih ∙ sym (ap (has_row w heir) (kept_front o r rs on))
    by false off ih = (λ i. (other i && uid_eq (last_uid r.holder) heir) || ih i) ∙ sym (ap (has_row w heir) (left_out o r rs off))
      where
        other : uid_eq r.object w ≡ false
        other = ap (uid_eq r.object) is ∙ off

find_on : (o u : Uid) (row : Row) (rows : List Row) → row.object ≡ o → find (goes_to u row) rows ≡ find (goes_to u row) (rows_on o rows)
find_on o u row [] is = refl
find_on o u row (r ∷ rs) is = by (uid_eq r.object o) refl (find_on o u row rs is)
  where
    by : (b : Bool) → uid_eq r.object o ≡ b → find (goes_to u row) rs ≡ find (goes_to u row) (rows_on o rs) →
        cond (goes_to u row r) (Some r) (find (goes_to u row) rs) ≡ find (goes_to u row) (rows_on o (r ∷ rs))
    by true on ih = ap (λ z. cond (goes_to u row r) (Some r) z) ih ∙ sym (ap (find (goes_to u row)) (kept_front o r rs on))
    by false off ih = (λ i. cond ((other i && uid_eq (last_uid r.holder) u) && heir_of) (Some r) (ih i))
        ∙ sym (ap (find (goes_to u row)) (left_out o r rs off))
      where
        other : uid_eq r.object row.object ≡ false
        other = ap (uid_eq r.object) is ∙ off

        heir_of : Bool
        heir_of = is_heir (before_last r.holder) (last_uid row.holder)

-- what a row becomes is on its object, by the rows on that
passed_on : (o u : Uid) (row : Row) (rows : List Row) → row.object ≡ o → passed u rows row ≡ passed u (rows_on o rows) row
passed_on o u row rows is = by (is_held_by u row) (before_last row.holder)
  where
    by : (b : Bool) (h : Option Uid) → cond b (handed_on rows row h) (Some (strengthened row (find (goes_to u row) rows)))
        ≡ cond b (handed_on (rows_on o rows) row h) (Some (strengthened row (find (goes_to u row) (rows_on o rows))))
    by true None = refl
    by true (Some heir) = ap (λ b. cond b None (Some (renamed row))) (has_on o row.object heir rows is)
    by false h = ap (λ z. Some (strengthened row z)) (find_on o u row rows is)

-- a row that is left is on the same object
same_object : (u : Uid) (rows : List Row) (row left : Row) → passed u rows row ≡ Some left → left.object ≡ row.object
same_object u rows row left e = by (is_held_by u row) (before_last row.holder) e
  where
    some_is : {a b : Row} → ◌≡◌ {A = Option Row} (Some a) (Some b) → a ≡ b
    some_is {a} {b} q = cc q

    strong : (z : Option Row) → Some (strengthened row z) ≡ Some left → left.object ≡ row.object
    strong None q = ap (λ (r : Row). r.object) (sym (some_is q))
    strong (Some r) q = ap (λ (r : Row). r.object) (sym (some_is q))

    handed : (b : Bool) → cond b None (Some (renamed row)) ≡ Some left → left.object ≡ row.object
    handed true q = absurd (cc q)
    handed false q = ap (λ (r : Row). r.object) (sym (some_is q))

    by : (b : Bool) (h : Option Uid) → cond b (handed_on rows row h) (Some (strengthened row (find (goes_to u row) rows))) ≡ Some left →
        left.object ≡ row.object
    by true None q = absurd (cc q)
    by true (Some heir) q = handed (has_row row.object heir rows) q
    by false h q = strong (find (goes_to u row) rows) q

abbrev told_one : Part → Uid → List Row → Row → Option Row
told_one q u all row = cond (is_in_part q row) (passed u all row) (Some row)

told_object : (q : Part) (u : Uid) (all : List Row) (row left : Row) → told_one q u all row ≡ Some left → left.object ≡ row.object
told_object q u all row left e = by (is_in_part q row) e
  where
    itself : ◌≡◌ {A = Option Row} (Some row) (Some left) → row ≡ left
    itself q = cc q

    by : (b : Bool) → cond b (passed u all row) (Some row) ≡ Some left → left.object ≡ row.object
    by true q = same_object u all row left q
    by false q = ap (λ (r : Row). r.object) (sym (itself q))

cons_on : (o : Uid) (z : Option Row) (rest : List Row) → ((l : Row) → z ≡ Some l → uid_eq l.object o ≡ true) →
    rows_on o (cons_option z rest) ≡ cons_option z (rows_on o rest)
cons_on o None rest on = refl
cons_on o (Some l) rest on = kept_front o l rest (on l refl)

cons_off : (o : Uid) (z : Option Row) (rest : List Row) → ((l : Row) → z ≡ Some l → uid_eq l.object o ≡ false) →
    rows_on o (cons_option z rest) ≡ rows_on o rest
cons_off o None rest off = refl
cons_off o (Some l) rest off = left_out o l rest (off l refl)

passes : (p q : Part) (o u : Uid) → IsOfPart p o → (all rows : List Row) → rows_on o (filter_map (told_one q u all) rows)
    ≡ cond (same_part p q) (filter_map (passed u (rows_on o all)) (rows_on o rows)) (rows_on o rows)
passes p q o u is all rows = by (same_part p q) refl rows
  where
    by : (b : Bool) → same_part p q ≡ b → (rows : List Row) →
        rows_on o (filter_map (told_one q u all) rows) ≡ cond b (filter_map (passed u (rows_on o all)) (rows_on o rows)) (rows_on o rows)
    by true e [] = refl
    by false e [] = refl
    by b e (r ∷ rs) = one b e (uid_eq r.object o) refl (by b e rs)
      where
        one : (b : Bool) → same_part p q ≡ b → (c : Bool) → uid_eq r.object o ≡ c →
            rows_on o (filter_map (told_one q u all) rs) ≡ cond b (filter_map (passed u (rows_on o all)) (rows_on o rs)) (rows_on o rs)
            → rows_on o (cons_option (told_one q u all r) (filter_map (told_one q u all) rs))
            ≡ cond b (filter_map (passed u (rows_on o all)) (rows_on o (r ∷ rs))) (rows_on o (r ∷ rs))
        one true e true on ih =
            cons_on o (told_one q u all r) (filter_map (told_one q u all) rs) (λ l g. ap (λ w. uid_eq w o) (told_object q u all r l g) ∙ on)
            ∙ (λ i. cons_option (((λ j. cond ((of_part p q o is r on ∙ e) j) (passed u all r) (Some r)) ∙ passed_on o u r all
            (uid_is r.object o on)) i) (ih i)) ∙ sym (ap (filter_map (passed u (rows_on o all))) (kept_front o r rs on))
        one false e true on ih = (λ i.
            rows_on o (cons_option (cond ((of_part p q o is r on ∙ e) i) (passed u all r) (Some r)) (filter_map (told_one q u all) rs)))
            ∙ kept_front o r (filter_map (told_one q u all) rs) on ∙ ap (λ z. r ∷ z) ih ∙ sym (kept_front o r rs on)
        one true e false off ih = cons_off o (told_one q u all r) (filter_map (told_one q u all) rs) (λ l g. ap (λ w. uid_eq w o)
            (told_object q u all r l g) ∙ off) ∙ ih ∙ sym (ap (filter_map (passed u (rows_on o all))) (left_out o r rs off))
        one false e false off ih = cons_off o (told_one q u all r) (filter_map (told_one q u all) rs)
            (λ l g. ap (λ w. uid_eq w o) (told_object q u all r l g) ∙ off) ∙ ih ∙ sym (left_out o r rs off)

told : (p q : Part) (o u : Uid) (e : End) → IsOfPart p o → (rows : List Row) →
    rows_on o (tell_rows q u e rows) ≡ cond (same_part p q) (rows_ended e u (rows_on o rows)) (rows_on o rows)
told p q o u ending.Commit is rows = passes p q o u is rows rows
told p q o u ending.Abort is rows = dropped p q o u is rows

-- ---- lines

-- where a line is of the node
of_node : (b c : Bool) (xs ys : List Row) (o : Uid) (rows : List Row) → rows_on o xs ≡ cond c ys (rows_on o rows) →
    rows_on o (cond b xs rows) ≡ cond (b && c) ys (rows_on o rows)
of_node true c xs ys o rows e = e
of_node false c xs ys o rows e = refl

emptied : (b : Bool) (o : Uid) (rows : List Row) → rows_on o (cond b [] rows) ≡ cond b [] (rows_on o rows)
emptied true o rows = refl
emptied false o rows = refl

-- a grant's row
granted_as : (b : Bool) (begun : List Act) (u x o : Uid) (how : Mode) (rows : List Row) (c : Bool) → uid_eq x o ≡ c →
    rows_on o (grant_row (granted_row b begun u x how) rows)
    ≡ cond c (grant_row (let h = holders_in b begun in row_for o (h.path u) (h.tops u) how) (rows_on o rows)) (rows_on o rows)
granted_as true begun u x o how rows c e = granted o (granted_row true begun u x how) rows c e ∙ same c e
  where
    same : (c : Bool) → uid_eq x o ≡ c → cond c (grant_row (granted_row true begun u x how) (rows_on o rows)) (rows_on o rows)
        ≡ cond c (grant_row (row_for o (u ∷ []) 1 how) (rows_on o rows)) (rows_on o rows)
    same true e = ap (λ w. grant_row (row_for w (u ∷ []) 1 how) (rows_on o rows)) (uid_is x o e)
    same false e = refl
granted_as false begun u x o how rows c e = granted o (granted_row false begun u x how) rows c e ∙ same c e
  where
    same : (c : Bool) → uid_eq x o ≡ c → cond c (grant_row (granted_row false begun u x how) (rows_on o rows)) (rows_on o rows)
        ≡ cond c (grant_row (let h = holders_in false begun in row_for o (h.path u) (h.tops u) how) (rows_on o rows)) (rows_on o rows)
    same true e = ap (λ w. grant_row (granted_row false begun u w how) (rows_on o rows)) (uid_is x o e)
    same false e = refl

pub lines_go_by_objects : LinesGoByObjects
lines_go_by_objects n p o is begun up event (body.Granted m u x how) rows =
    of_node (m == n) (uid_eq x o) _ _ o rows (granted_as (event == up) begun u x o how rows (uid_eq x o) refl)
lines_go_by_objects n p o is begun up event (body.Lowered m u x) rows =
    of_node (m == n) (uid_eq x o) _ _ o rows (lowered o u x rows (uid_eq x o) refl)
lines_go_by_objects n p o is begun up event (body.Active m x b) rows =
    of_node (m == n) (uid_eq (object x) o) _ _ o rows (closed o (object x) rows (uid_eq (object x) o) refl)
lines_go_by_objects n p o is begun up event (body.Told m u e q) rows = of_node (m == n) (same_part p q) _ _ o rows (told p q o u e is rows)
lines_go_by_objects n p o is begun up event (body.Halted m) rows = emptied (m == n) o rows
lines_go_by_objects n p o is begun up event (body.Up m i) rows = emptied (m == n) o rows
lines_go_by_objects n p o is begun up event (body.Began a b c d) rows = refl
lines_go_by_objects n p o is begun up event (body.Ok a b c d) rows = refl
lines_go_by_objects n p o is begun up event (body.Includes a b c) rows = refl
lines_go_by_objects n p o is begun up event (body.Conflict a b c d) rows = refl
lines_go_by_objects n p o is begun up event (body.Lost a b) rows = refl
lines_go_by_objects n p o is begun up event (body.Changed a b c) rows = refl
lines_go_by_objects n p o is begun up event (body.Committing a) rows = refl
lines_go_by_objects n p o is begun up event (body.Committed a) rows = refl
lines_go_by_objects n p o is begun up event (body.Ended a) rows = refl
lines_go_by_objects n p o is begun up event (body.Aborted a b) rows = refl
lines_go_by_objects n p o is begun up event (body.GaveUp a b) rows = refl
lines_go_by_objects n p o is begun up event (body.Excluded a b c) rows = refl
lines_go_by_objects n p o is begun up event (body.Bound a b c) rows = refl
lines_go_by_objects n p o is begun up event (body.Prepared a b c) rows = refl
lines_go_by_objects n p o is begun up event (body.Done a b c d) rows = refl
lines_go_by_objects n p o is begun up event (body.Sent a b c d) rows = refl
lines_go_by_objects n p o is begun up event (body.Got a) rows = refl
lines_go_by_objects n p o is begun up event (body.Void a) rows = refl
lines_go_by_objects n p o is begun up event (body.Dropped a) rows = refl
lines_go_by_objects n p o is begun up event (body.Armed a) rows = refl
lines_go_by_objects n p o is begun up event (body.Recovered a b) rows = refl
lines_go_by_objects n p o is begun up event (body.Refused a) rows = refl
lines_go_by_objects n p o is begun up event (body.Entry a b c d) rows = refl
lines_go_by_objects n p o is begun up event (body.Copy a b c d e) rows = refl
lines_go_by_objects n p o is begun up event (body.Quiet a) rows = refl
lines_go_by_objects n p o is begun up event (body.Bad a) rows = refl
lines_go_by_objects n p o is begun up event (body.Limit a) rows = refl
