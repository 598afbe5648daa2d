-- Bindings that aren't recorded yet, of tops that have the write lock on the entry: no call of naming but a Bind makes one.
use Rattle.arj_law_parts.proofs.Words
use Words.{◌≡◌, ◌≢◌, ◌⊎◌, ◌≤◌, ◌∙◌, ◌==◌, ◌||◌, ◌&&◌, not, ℕ, Bool, true, false, cond, List, [], ◌∷◌, Option, Some, None, refl, sym, ap}
use Words.{subst}
use Words.{inl, inr, ⊎_elim, arith, is_some, and_parts, Contains, In, in_from, in_to, in_filter, in_find, in_map, grant_each, came_by}
use Words.{CameBy}
use Words.{stayed, passed_on, passing, heir_is, Uid, Path, Row, Mode, Read, Exclude, Write, mode_code, stronger, before_last, last_uid}
use Words.{is_on}
use Words.{is_heir, is_held_by, is_row_of, strengthened, uid_eq, uid_is, uid_same, grant_row, lower_row, drop_rows, pass_rows, is_granted}
use Words.{rows_asked}
use Words.{Binding, ConfirmedReply, End, ObjectState, RecordedReply, entry, top_of, Grants, Marks, checked, confirm, confirm_entries}
use Words.{confirm_new}
use Words.{confirms, entries_after, has_all, lock_all, lock_in, prepared_by, wanted, Did, Pair, Prep, Ready, Already, Old, InDoubt}
use Words.{Served, did_nothing}
use Words.{is_prepared, prepare_answer, reply, void, Made, Named, end_named, entry_row, hello_named, in_use, is_lowered, locked}
use Words.{lower_lines, lowered}
use Words.{note_made, note_named, note_other, Naming, hello, is_over, note, on_named, taken_end, told_new, at_number, at_uid, binding_eq}
use Words.{put_number}
use Words.{put_same, put_other, put_uid, is_binding, one_or_two}
use Words.confirmed
use Words.ending
use Words.mode
use Words.recorded
use Words.what
use Rattle.arj_law_parts.proofs.Terms.{HasLock, IsHolder, IsTop, Owners, told}
use Rattle.arj_law_parts.proofs.parts.{Keys.put_cases, Keys.without_cases, Pairs.at_each}
use Rattle.arj_law_parts.specs.parts.Objects.{AreSorted}

some_is : {A : Type 0} {a b : A} → Some a ≡ Some b → a ≡ b
some_is {A} {a} {b} is = let k : ◌≡◌ {A = Option A} (Some a) (Some b) = is in cc

-- ---- who has a write lock behind a step of the table, had it before

less_strong : (m n : Mode) → mode_code n ≤ 1 → 2 ≤ mode_code (stronger m n) → 2 ≤ mode_code m
less_strong m Write low strong = absurd (omega (arith, low))
less_strong Read Read low strong = strong
less_strong Read Exclude low strong = absurd (omega (arith, strong))
less_strong Exclude Read low strong = strong
less_strong Exclude Exclude low strong = strong
less_strong Write Read low strong = strong
less_strong Write Exclude low strong = strong

-- where another one asked for a lock, or asked for less
pub asked_less : (u : Uid) (new : Row) (rows : List Row) → (last_uid new.holder ≢ u) ⊎ (mode_code new.mode ≤ 1) →
    HasLock u 2 (rows_asked new rows) → HasLock u 2 rows
asked_less u new rows other = by (is_granted new.object (last_uid new.holder) new.mode rows)
  where
    raised : (r old : Row) → In old rows → is_row_of new.object (last_uid new.holder) old ≡ true →
        r ≡ record old { mode = stronger old.mode new.mode } → last_uid r.holder ≡ u → 2 ≤ mode_code r.mode → HasLock u 2 rows
    raised r old there own same last strong = one other
      where
        last_old : last_uid old.holder ≡ u
        last_old = sym (ap (λ (q : Row). last_uid q.holder) same) ∙ last

        one : (last_uid new.holder ≢ u) ⊎ (mode_code new.mode ≤ 1) → HasLock u 2 rows
        one (inl apart) = absurd (apart (sym (uid_is (last_uid old.holder) (last_uid new.holder)
            (and_parts (uid_eq old.object new.object) (uid_eq (last_uid old.holder) (last_uid new.holder)) own).1) ∙ last_old))
        one (inr low) = (
          old,
          in_to old rows there,
          last_old,
          less_strong old.mode new.mode low (subst (λ (q : Row). 2 ≤ mode_code q.mode) same strong),
        )

    here : (r : Row) → r ≡ new → last_uid r.holder ≡ u → 2 ≤ mode_code r.mode → HasLock u 2 rows
    here r same last strong = one other
      where
        one : (last_uid new.holder ≢ u) ⊎ (mode_code new.mode ≤ 1) → HasLock u 2 rows
        one (inl apart) = absurd (apart (sym (ap (λ (q : Row). last_uid q.holder) same) ∙ last))
        one (inr low) = let high : 2 ≤ mode_code new.mode = subst (λ (q : Row). 2 ≤ mode_code q.mode) same strong in absurd (omega
            (arith, high, low))

    by : (b : Bool) → HasLock u 2 (cond b rows (grant_row new rows)) → HasLock u 2 rows
    by true h = h
    by false h = ⊎_elim (λ i. (h.0, in_to h.0 rows i, h.2, h.3))
        (⊎_elim (λ same. here h.0 same h.2 h.3) (λ f. raised h.0 f.0 f.1 f.2 f.3 h.2 h.3))
        (grant_each new h.0 rows (in_from h.0 (grant_row new rows) h.1))

lower_less : (u action object : Uid) (rows : List Row) → HasLock u 2 (lower_row action object rows) → HasLock u 2 rows
lower_less u action object rows h = by (is_row_of object action f.0) f.2
  where
    low : Row → Row
    low row = cond (is_row_of object action row) (record row { mode = Read }) row

    f : (row : Row) × In row rows × (low row ≡ h.0)
    f = in_map low h.0 rows (in_from h.0 (lower_row action object rows) h.1)

    by : (b : Bool) → cond b (record f.0 { mode = Read }) f.0 ≡ h.0 → HasLock u 2 rows
    by true same = let no_way : 2 ≤ 0 = subst (λ (q : Row). 2 ≤ mode_code q.mode) (sym same) h.3 in absurd (omega (arith, no_way))
    by false same = (
      f.0,
      in_to f.0 rows f.1,
      ap (λ (q : Row). last_uid q.holder) same ∙ h.2,
      subst (λ (q : Row). 2 ≤ mode_code q.mode) (sym same) h.3,
    )

drop_less : (u action : Uid) (rows : List Row) → HasLock u 2 (drop_rows action rows) → HasLock u 2 rows
drop_less u action rows h =
    (h.0, in_to h.0 rows (in_filter (λ row. not (is_on row.holder action)) h.0 rows (in_from h.0 (drop_rows action rows) h.1)).0, h.2, h.3)

-- the rows of an action pass to others than this one
abbrev PassesElsewhere : Uid → Uid → List Row → Type 0
PassesElsewhere u action rows =
    (r : Row) → Contains rows r → is_held_by action r ≡ true → (heir : Uid) → before_last r.holder ≡ Some heir → heir ≢ u

pass_less : (u action : Uid) (rows : List Row) → PassesElsewhere u action rows → HasLock u 2 (pass_rows action rows) → HasLock u 2 rows
pass_less u action rows elsewhere h = by (came_by action rows h.0 (in_from h.0 (pass_rows action rows) h.1))
  where
    its_heir : (o : Option Uid) (holder : Uid) → is_heir o holder ≡ true → (w : Uid) × (o ≡ Some w) × (w ≡ holder)
    its_heir None holder is = absurd (cc is)
    its_heir (Some w) holder is = (w, refl, uid_is w holder is)

    kept : (old : Row) → Contains rows old → (o : Option Row) → passing action old.object (last_uid old.holder) rows ≡ o →
        h.0 ≡ strengthened old o → HasLock u 2 rows
    kept old c None none same =
        (old, c, ap (λ (q : Row). last_uid q.holder) (sym same) ∙ h.2, subst (λ (q : Row). 2 ≤ mode_code q.mode) same h.3)
    kept old c (Some s) some same =
        let f = in_find (λ (row : Row). is_row_of old.object action row && is_heir (before_last row.holder)
        (last_uid old.holder)) s rows some in
        let both = and_parts (is_row_of old.object action s) (is_heir (before_last s.holder) (last_uid old.holder)) f.1 in
        let heir = its_heir (before_last s.holder) (last_uid old.holder) both.1 in
        absurd (elsewhere s (in_to s rows f.0) (and_parts (uid_eq s.object old.object) (uid_eq
        (last_uid s.holder) action) both.0).1 heir.0 heir.1
        (heir.2 ∙ ap (λ (q : Row). last_uid q.holder) (sym same) ∙ h.2))

    by : CameBy action rows h.0 → HasLock u 2 rows
    by (stayed old c off same) = kept old c (passing action old.object (last_uid old.holder) rows) refl same
    by (passed_on old c own heir parent none same) =
        absurd (elsewhere old c own heir parent (sym (heir_is old.holder heir parent).0 ∙ ap (λ (q : Row). last_uid q.holder) (sym same)
        ∙ h.2))

-- a top is nobody's heir
pub top_elsewhere : (owner : Owners) (u action : Uid) (rows : List Row) → ((r : Row) → Contains rows r → IsHolder owner r.holder) →
    IsTop owner u →
    PassesElsewhere u action rows
top_elsewhere owner u action rows holders top r there own heir parent same = by (holders r there)
  where
    never : (a : Uid) → uid_eq a a ≡ false → ⊥
    never a off = let no_way : true ≡ false = sym (uid_same a) ∙ off in cc no_way

    by : IsHolder owner r.holder → ⊥
    by (inl alone) = let no_way : ◌≡◌ {A = Option Uid} None (Some heir) = sym (ap before_last alone) ∙ parent in cc no_way
    by (inr below) =
        let its : owner (last_uid r.holder) ≡ heir = some_is (sym (ap before_last below.0) ∙ parent) in
        let one : last_uid r.holder ≡ u = top (last_uid r.holder) (its ∙ same) in
        never u (sym (λ i. uid_eq ((its ∙ same) i) (one i)) ∙ below.1)

-- ---- what stands of an object

-- Each binding that isn't recorded now, of a top that has the write lock, stood so before.
abbrev pub Fewer : Named → Named → Type 0
Fewer o v = (u : Uid) (m : Made) → at_uid u v.made ≡ Some m → m.recorded ≡ false → HasLock u 2 v.rows →
    (at_uid u o.made ≡ Some m) × HasLock u 2 o.rows

-- so it is of each object
abbrev pub AllFewer : Naming → Naming → Type 0
AllFewer n p = (x : ℕ) (v : Named) → at_number x p.objects ≡ Some v → (o : Named) × (at_number x n.objects ≡ Some o) × Fewer o v

pub fewer_itself : (n : Naming) → AllFewer n n
fewer_itself n x v at = (v, at, λ u m found not_yet lock. (found, lock))

fewer_on : (n p q : Naming) → AllFewer n p → AllFewer p q → AllFewer n q
fewer_on n p q a b x v at =
    let g = b x v at in
    let f = a x g.0 g.1 in
    (f.0, f.1, λ u m found not_yet lock. let r = g.2 u m found not_yet lock in f.2 u m r.0 not_yet r.1)

-- one object is put back
pub fewer_put : (n : Naming) (x count : ℕ) (o v : Named) → at_number x n.objects ≡ Some o → Fewer o v →
    AllFewer n (record n { count = count; objects = put_number x v n.objects })
fewer_put n x count o v there fewer y w at = ⊎_elim here apart (one_or_two x y)
  where
    here : x ≡ y → (q : Named) × (at_number y n.objects ≡ Some q) × Fewer q w
    here same = (
      o,
      ap (λ z. at_number z n.objects) (sym same) ∙ there,
      subst (Fewer o) (some_is (sym (put_same x v n.objects) ∙ ap (λ z. at_number z (put_number x v n.objects)) same ∙ at)) fewer,
    )

    apart : (Words.is_eq (Words.nat_cmp y x) ≡ false) × ((x == y) ≡ false) → (q : Named) × (at_number y n.objects ≡ Some q) × Fewer q w
    apart off = (w, sym (put_other x y v n.objects off.0) ∙ at, λ u m found not_yet lock. (found, lock))

-- ---- a Record

noted_fewer : (x : ℕ) (top : Uid) (b : Binding) (i : ℕ) (o : Named) → Fewer o (let r = note_named x top b i o in r.part)
noted_fewer x top b i o = by (is_binding b o.recorded)
  where
    same : Fewer o o
    same u m found not_yet lock = (found, lock)

    never : {A : Type 0} (c : Bool) → c ≡ true → c ≡ false → A
    never c on off = let no_way : true ≡ false = sym on ∙ off in absurd (cc no_way)

    used : (m : Made) → Fewer o (lowered x top (in_use top m i o))
    used m u k = one (is_lowered x top (in_use top m i o))
      where
        stood : at_uid u (put_uid top (record m { recorded = true }) o.made) ≡ Some k → k.recorded ≡ false → HasLock u 2 o.rows →
            (at_uid u o.made ≡ Some k) × HasLock u 2 o.rows
        stood found not_yet lock = ⊎_elim (λ own. never k.recorded (ap (λ (z : Made). z.recorded) (sym own.1)) not_yet)
            (λ other. (other.1, lock)) (put_cases u top (record m { recorded = true }) k o.made found)

        one : (c : Bool) → let v = cond c (record (in_use top m i o) { rows = lower_row top (entry x) o.rows }) (in_use top m i o) in
            at_uid u v.made ≡ Some k → k.recorded ≡ false → HasLock u 2 v.rows → (at_uid u o.made ≡ Some k) × HasLock u 2 o.rows
        one true found not_yet lock = stood found not_yet (lower_less u top (entry x) o.rows lock)
        one false found not_yet lock = stood found not_yet lock

    made : (m : Made) (c : Bool) → Fewer o (let r = cond {A = Served Named RecordedReply} c (reply o recorded.Yes)
        (record { part = lowered x top (in_use top m i o); outs = lower_lines x top o; reply = Some recorded.Yes }) in r.part)
    made m true = same
    made m false = used m

    other : (q : Option Made) → Fewer o (let r = note_other x top b i o q in r.part)
    other None = same
    other (Some m) = one (binding_eq b m.binding)
      where
        one : (c : Bool) → Fewer o (let r = cond {A = Served Named RecordedReply} c (note_made x top i o m) (void o) in r.part)
        one true = made m m.recorded
        one false = same

    by : (c : Bool) → Fewer o
        (let r = cond {A = Served Named RecordedReply} c (reply o recorded.Yes) (note_other x top b i o (at_uid top o.made)) in r.part)
    by true = same
    by false = other (at_uid top o.made)

pub note_fewer : (p : Path) (x : ℕ) (b : Binding) (i g : ℕ) (n : Naming) → AllFewer n (note p x b i g n).part
note_fewer p x b i g n = by (is_over p n || not (is_some (at_number x n.objects))) (g == n.inc)
  where
    there : (o : Option Named) → at_number x n.objects ≡ o → AllFewer n (on_named x (note_named x (top_of p) b i) n o).part
    there None is = fewer_itself n
    there (Some o) is = fewer_put n x n.count o (let r = note_named x (top_of p) b i o in r.part) is (noted_fewer x (top_of p) b i o)

    by : (over ours : Bool) → AllFewer n (cond {A = Served Naming RecordedReply} over (void n) (cond {A = Served Naming RecordedReply} ours
        (on_named x (note_named x (top_of p) b i) n (at_number x n.objects)) (reply n (recorded.Changed (what.Inc g n.inc))))).part
    by true ours = fewer_itself n
    by false true = there (at_number x n.objects) refl
    by false false = fewer_itself n

-- ---- a Confirm

locks_fewer : (xs : List ℕ) (p : Path) (n : Naming) → AllFewer n (lock_all xs p n).part
locks_fewer [] p n = fewer_itself n
locks_fewer (x ∷ xs) p n = fewer_on n (lock_in x p n (at_number x n.objects)).part (lock_all (x ∷ xs) p n).part (one
    (at_number x n.objects) refl)
    (locks_fewer xs p (lock_in x p n (at_number x n.objects)).part)
  where
    one : (o : Option Named) → at_number x n.objects ≡ o → AllFewer n (lock_in x p n o).part
    one None is = fewer_itself n
    one (Some o) is = fewer_put n x n.count o (locked x p mode.Exclude o) is
        (λ u m found not_yet lock. (found, asked_less u (entry_row x p mode.Exclude) o.rows (inr (omega arith)) lock))

pub confirm_fewer : (p : Path) (grants : Grants) (excluded included : Marks) (d : Pair) (n : Naming) →
    AllFewer n (confirm p grants excluded included d n).part
confirm_fewer p grants excluded included d n =
    by (is_over p n || not (has_all grants n)) (is_on n.confirmed (top_of p) || is_prepared (top_of p) d)
  where
    answered : (states : List ObjectState) (t : Did Naming) (a : Prep) → AllFewer n t.part →
        AllFewer n (prepared_by (top_of p) states t a).part
    answered states t Ready s = s
    answered states t (Already u) s = s
    answered states t (Old u v) s = s
    answered states t (InDoubt u v) s = s

    entries : (states : List ObjectState) (t : Did Naming) → AllFewer n t.part → AllFewer n (confirm_entries (top_of p) states d t).part
    entries [] t s = s
    entries (x ∷ xs) t s = answered (x ∷ xs) t (prepare_answer (top_of p) (x ∷ xs) d) s

    new : (c : Option ConfirmedReply) → AllFewer n (confirm_new p grants excluded included d n c).part
    new (Some r) = fewer_itself n
    new None = entries (entries_after (top_of p) grants excluded included d) (lock_all (wanted (top_of p) grants excluded d) p n)
        (locks_fewer (wanted (top_of p) grants excluded d) p n)

    by : (over again : Bool) → AllFewer n (cond {A = Served Naming ConfirmedReply} over (void n)
        (cond {A = Served Naming ConfirmedReply} again (reply (confirms (top_of p) n) confirmed.Yes)
        (confirm_new p grants excluded included d n (checked p grants excluded included d n)))).part
    by true again = fewer_itself n
    by false true = fewer_itself n
    by false false = new (checked p grants excluded included d n)

-- ---- ends, and a node that is up again

-- of an object whose locks are in order, and whose bindings are of tops
abbrev pub IsInOrder : Owners → Named → Type 0
IsInOrder owner o = AreSorted o.made × ((r : Row) → Contains o.rows r → IsHolder owner r.holder)
    × ((u : Uid) (m : Made) → at_uid u o.made ≡ Some m → IsTop owner u)

pub told_fewer : (owner : Owners) (w : Uid) (e : End) (d : Pair) (n : Naming) →
    ((x : ℕ) (o : Named) → at_number x n.objects ≡ Some o → IsInOrder owner o) → AllFewer n (told w e d n).part
told_fewer owner w e d n good = by (is_on n.told w)
  where
    ended : (h : End) (o : Named) → IsInOrder owner o → Fewer o (end_named w h o)
    ended ending.Abort o its u m found not_yet lock = ((without_cases u w m o.made its.0 found).1, drop_less u w o.rows lock)
    ended ending.Commit o its u m found not_yet lock =
        let old = (without_cases u w m o.made its.0 found).1 in
        (old, pass_less u w o.rows (top_elsewhere owner u w o.rows its.1 (its.2 u m old)) lock)

    by : (b : Bool) → AllFewer n (cond {A = Did Naming} b (did_nothing n) (told_new w (taken_end w e n) d n)).part
    by true = fewer_itself n
    by false = λ x v at. let g = at_each (λ y. end_named w (taken_end w e n)) x n.objects v at in
        (g.0, g.1, subst (Fewer g.0) (sym g.2) (ended (taken_end w e n) g.0 (good x g.0 g.1)))

pub hello_fewer : (node inc : ℕ) (n : Naming) → AllFewer n (hello node inc n)
hello_fewer node inc n x v at = let g = at_each (λ y. hello_named node inc) x n.objects v at in
    (g.0, g.1, subst (Fewer g.0) (sym g.2) (λ u m found not_yet lock. (found, lock)))
