-- A lock that an action has, and what each step of the lock table leaves of it.
use Rattle.arj_law_parts.proofs.Words
use Words.{◌≡◌, ◌≢◌, ◌≤◌, ◌+◌, ℕ, List, [], ◌∷◌, Bool, true, false, cond, not, ◌&&◌, nat_le, Option, Some, None, refl, sym, ◌∙◌, ap, subst}
use Words.{inl, inr, ⊎_elim, arith, or_cases, and_parts, false_from_ne_true, leb-true, Mode, Read, Exclude, Write, Uid, mode_code, stronger}
use Words.{conflicting, Row, last_uid, is_on, is_row_of, grant_row, drop_rows, lower_row, pass_rows, first_conflict, strengthened, uid_eq}
use Words.{entry, uid_is, uid_other, passing, In, in_from, in_to, kept_from, which, stays_in, is_granted, rows_asked}
use Rattle.arj_law_parts.proofs.Terms.{Told, HasLock, AreGoodRows, Owners, stands_above, IsTop, IsHolder}
use Rattle.arj_law_parts.proofs.parts.EntryLocks.{good_grant, on_holder}
use Rattle.arj_lock.proofs.Leaves.{changed_in}

stronger_left : (m n : Mode) → mode_code m ≤ mode_code (stronger m n)
stronger_left Read Read = omega arith
stronger_left Read Exclude = omega arith
stronger_left Read Write = omega arith
stronger_left Exclude Read = omega arith
stronger_left Exclude Exclude = omega arith
stronger_left Exclude Write = omega arith
stronger_left Write Read = omega arith
stronger_left Write Exclude = omega arith
stronger_left Write Write = omega arith

pub stronger_right : (m n : Mode) → mode_code n ≤ mode_code (stronger m n)
stronger_right Read Read = omega arith
stronger_right Read Exclude = omega arith
stronger_right Read Write = omega arith
stronger_right Exclude Read = omega arith
stronger_right Exclude Exclude = omega arith
stronger_right Exclude Write = omega arith
stronger_right Write Read = omega arith
stronger_right Write Exclude = omega arith
stronger_right Write Write = omega arith

conflict_by : (m n : Mode) → 2 ≤ mode_code m + mode_code n → conflicting m n ≡ true
conflict_by Read Read h = absurd (omega (arith, h))
conflict_by Read Exclude h = absurd (omega (arith, h))
conflict_by Read Write h = refl
conflict_by Exclude Read h = absurd (omega (arith, h))
conflict_by Exclude Exclude h = refl
conflict_by Exclude Write h = refl
conflict_by Write Read h = refl
conflict_by Write Exclude h = refl
conflict_by Write Write h = refl

pub weaker : (u : Uid) (k l : ℕ) (rows : List Row) → k ≤ l → HasLock u l rows → HasLock u k rows
weaker u k l rows less h = (h.0, h.1, h.2, omega (arith, less, h.3))

-- ---- grant

-- a row as strong, of the same holder
record Stays (holder : Uid) (mode : Mode) (rows : List Row) : Type 0 where
  row : Row
  there : In row rows
  last : last_uid row.holder ≡ holder
  strong : mode_code mode ≤ mode_code row.mode

grant_stays : (new r : Row) (rows : List Row) → In r rows → Stays (last_uid r.holder) r.mode (grant_row new rows)
grant_stays new r [] i = absurd i
grant_stays new r (row ∷ rows) (inl is) = by (is_row_of new.object (last_uid new.holder) row)
  where
    by : (b : Bool) →
        Stays (last_uid r.holder) r.mode (cond b (record row { mode = stronger row.mode new.mode } ∷ rows) (row ∷ grant_row new rows))
    by true = record {
      row = record row { mode = stronger row.mode new.mode };
      there = inl refl;
      last = ap (λ (q : Row). last_uid q.holder) is;
      strong = subst (λ (q : Row). mode_code q.mode ≤ mode_code (stronger row.mode new.mode)) is (stronger_left row.mode new.mode);
    }
    by false = record {
      row = row;
      there = inl refl;
      last = ap (λ (q : Row). last_uid q.holder) is;
      strong = subst (λ (q : Row). mode_code q.mode ≤ mode_code row.mode) is (omega arith);
    }
grant_stays new r (row ∷ rows) (inr i) = by (is_row_of new.object (last_uid new.holder) row) (grant_stays new r rows i)
  where
    by : (b : Bool) → Stays (last_uid r.holder) r.mode (grant_row new rows) →
        Stays (last_uid r.holder) r.mode (cond b (record row { mode = stronger row.mode new.mode } ∷ rows) (row ∷ grant_row new rows))
    by true ih = record { row = r; there = inr i; last = refl; strong = omega arith }
    by false ih = record { row = ih.row; there = inr ih.there; last = ih.last; strong = ih.strong }

grant_own : (new : Row) (rows : List Row) → Stays (last_uid new.holder) new.mode (grant_row new rows)
grant_own new [] = record { row = new; there = inl refl; last = refl; strong = omega arith }
grant_own new (row ∷ rows) = by (is_row_of new.object (last_uid new.holder) row) refl (grant_own new rows)
  where
    by : (b : Bool) → is_row_of new.object (last_uid new.holder) row ≡ b → Stays (last_uid new.holder) new.mode (grant_row new rows) →
        Stays (last_uid new.holder) new.mode (cond b (record row { mode = stronger row.mode new.mode } ∷ rows) (row ∷ grant_row new rows))
    by true own ih = record {
      row = record row { mode = stronger row.mode new.mode };
      there = inl refl;
      last = uid_is (last_uid row.holder) (last_uid new.holder)
          (and_parts (uid_eq row.object new.object) (uid_eq (last_uid row.holder) (last_uid new.holder)) own).1;
      strong = stronger_right row.mode new.mode;
    }
    by false other ih = record { row = ih.row; there = inr ih.there; last = ih.last; strong = ih.strong }

pub stands_grant : (u : Uid) (k : ℕ) (new : Row) (rows : List Row) → HasLock u k rows → HasLock u k (grant_row new rows)
stands_grant u k new rows h =
    let s = grant_stays new h.0 rows (in_from h.0 rows h.1) in
    (s.row, in_to s.row (grant_row new rows) s.there, s.last ∙ h.2, omega (arith, h.3, s.strong))

pub stands_asked : (u : Uid) (k : ℕ) (new : Row) (rows : List Row) → HasLock u k rows → HasLock u k (rows_asked new rows)
stands_asked u k new rows h = by (is_granted new.object (last_uid new.holder) new.mode rows)
  where
    by : (b : Bool) → HasLock u k (cond b rows (grant_row new rows))
    by true = h
    by false = stands_grant u k new rows h

-- who asked has the lock
pub asked_has : (new : Row) (rows : List Row) → HasLock (last_uid new.holder) (mode_code new.mode) (rows_asked new rows)
asked_has new rows = by (is_granted new.object (last_uid new.holder) new.mode rows) refl
  where
    is_it : Row → Bool
    is_it r = is_row_of new.object (last_uid new.holder) r && nat_le (mode_code new.mode) (mode_code r.mode)

    there : is_granted new.object (last_uid new.holder) new.mode rows ≡ true → HasLock (last_uid new.holder) (mode_code new.mode) rows
    there e =
        let w = which is_it rows e in
        let p = and_parts (is_row_of new.object (last_uid new.holder) w.0) (nat_le (mode_code new.mode) (mode_code w.0.mode)) w.2 in (
          w.0,
          in_to w.0 rows w.1,
          uid_is (last_uid w.0.holder) (last_uid new.holder)
              (and_parts (uid_eq w.0.object new.object) (uid_eq (last_uid w.0.holder) (last_uid new.holder)) p.0).1,
          leb-true (mode_code new.mode) (mode_code w.0.mode) p.1,
        )

    by : (b : Bool) → is_granted new.object (last_uid new.holder) new.mode rows ≡ b →
        HasLock (last_uid new.holder) (mode_code new.mode) (cond b rows (grant_row new rows))
    by true e = there e
    by false e = let s = grant_own new rows in (s.row, in_to s.row (grant_row new rows) s.there, s.last, s.strong)

pub good_asked : (owner : Owners) (told : Told) (x : ℕ) (new : Row) (rows : List Row) → AreGoodRows owner told x rows →
    new.object ≡ entry x → IsHolder owner new.holder
    → first_conflict new.holder new.object new.mode rows ≡ None → ((u : Uid) → told u ≡ true → is_on new.holder u ≡ false) →
    AreGoodRows owner told x (rows_asked new rows)
good_asked owner told x new rows good object holder free untold = by (is_granted new.object (last_uid new.holder) new.mode rows)
  where
    by : (b : Bool) → AreGoodRows owner told x (cond b rows (grant_row new rows))
    by true = good
    by false = good_grant owner told x new rows good object holder free untold

-- ---- lower

module _ (action object : Uid) (rows : List Row) where
  abbrev lowered : Row → Row
  lowered row = cond (is_row_of object action row) (record row { mode = Read }) row

  pub stands_lower : (u : Uid) (k : ℕ) → u ≢ action → HasLock u k rows → HasLock u k (lower_row action object rows)
  stands_lower u k other h = (
    h.0,
    in_to h.0 (lower_row action object rows)
        (subst (λ r. In r (lower_row action object rows)) same (changed_in lowered h.0 rows (in_from h.0 rows h.1))),
    h.2,
    h.3,
  )
    where
      by : (a b : Bool) → b ≡ false → cond (a && b) (record h.0 { mode = Read }) h.0 ≡ h.0
      by true b e = (λ i. cond (e i) (record h.0 { mode = Read }) h.0)
      by false b e = refl

      same : lowered h.0 ≡ h.0
      same = by (uid_eq h.0.object object) (uid_eq (last_uid h.0.holder) action) (ap (λ w. uid_eq w action) h.2 ∙ uid_other u action other)

  pub stands_lower_any : (u : Uid) (k : ℕ) → HasLock u k rows → HasLock u 0 (lower_row action object rows)
  stands_lower_any u k h = (
    lowered h.0,
    in_to (lowered h.0) (lower_row action object rows) (changed_in lowered h.0 rows (in_from h.0 rows h.1)),
    holder (is_row_of object action h.0) ∙ h.2,
    omega arith,
  )
    where
      holder : (b : Bool) → last_uid (cond b (record h.0 { mode = Read }) h.0).holder ≡ last_uid h.0.holder
      holder true = refl
      holder false = refl

-- ---- ends

pub stands_drop : (owner : Owners) (told : Told) (x : ℕ) (action u : Uid) (k : ℕ) (rows : List Row) → AreGoodRows owner told x rows →
    u ≢ action → owner u ≢ action → HasLock u k rows → HasLock u k (drop_rows action rows)
stands_drop owner told x action u k rows good other free h = (
  h.0,
  in_to h.0 (drop_rows action rows) (kept_from (λ r. not (is_on r.holder action)) h.0 rows (in_from h.0 rows h.1) (ap not off)),
  h.2,
  h.3,
)
  where
    off : is_on h.0.holder action ≡ false
    off = false_from_ne_true (is_on h.0.holder action) (λ on.
        ⊎_elim (λ same. other (sym h.2 ∙ same)) (λ f. free (ap owner (sym h.2) ∙ f.0))
        (on_holder owner h.0.holder (good.holders h.0 h.1) action on))

strengthened_mode : (r : Row) (o : Option Row) → mode_code r.mode ≤ mode_code (strengthened r o).mode
strengthened_mode r None = omega arith
strengthened_mode r (Some s) = stronger_left r.mode s.mode

strengthened_last : (r : Row) (o : Option Row) → last_uid (strengthened r o).holder ≡ last_uid r.holder
strengthened_last r None = refl
strengthened_last r (Some s) = refl

pub stands_pass : (action u : Uid) (k : ℕ) (rows : List Row) → u ≢ action → HasLock u k rows → HasLock u k (pass_rows action rows)
stands_pass action u k rows other h =
    let o : Option Row = passing action h.0.object (last_uid h.0.holder) rows in
    let y : Row = strengthened h.0 o in (
      y,
      in_to y (pass_rows action rows)
          (stays_in action rows h.0 (in_from h.0 rows h.1) (ap (λ w. uid_eq w action) h.2 ∙ uid_other u action other)),
      strengthened_last h.0 o ∙ h.2,
      omega (arith, h.3, strengthened_mode h.0 o),
    )

-- ---- two locks

-- two tops that have locks which are strong enough together are one
pub one_top : (owner : Owners) (told : Told) (x : ℕ) (a b : Uid) (k l : ℕ) (rows : List Row) → AreGoodRows owner told x rows →
    IsTop owner a → IsTop owner b → 2 ≤ k + l → HasLock a k rows → HasLock b l rows → a ≡ b
one_top owner told x a b k l rows good top also strong h g =
    ⊎_elim (λ is. related a b also (subst (λ w. stands_above owner w b ≡ true) h.2
    (subst (λ w. stands_above owner (last_uid h.0.holder) w ≡ true) g.2 is))) (λ is. sym (related b a top
    (subst (λ w. stands_above owner w a ≡ true) g.2 (subst (λ w. stands_above owner (last_uid g.0.holder) w ≡ true) h.2 is))))
    (good.apart h.0 g.0 h.1 g.1 (good.objects h.0 h.1 ∙ sym (good.objects g.0 g.1))
    (conflict_by h.0.mode g.0.mode (omega (arith, strong, h.3, g.3))))
  where
    related : (c d : Uid) → IsTop owner d → stands_above owner c d ≡ true → c ≡ d
    related c d only e = ⊎_elim (λ same. sym (uid_is d c same)) (λ above. only c (sym (uid_is d (owner c) above)))
        (or_cases (uid_eq d c) (uid_eq d (owner c)) e)
