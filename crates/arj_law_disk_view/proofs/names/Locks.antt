-- Locks as rows, and as the machine has them.
use Rattle.arj_law_parts.proofs.Words
use Words.{◌≡◌, ◌⊎◌, ◌≤◌, ◌+◌, ℕ, ◌==◌, List, [], ◌∷◌, Bool, true, false, cond, not, ◌&&◌, ◌||◌, nat_le, Option, Some, None, refl, sym, ◌∙◌}
use Words.{ap, subst, inl, inr, ⊎_elim, arith, find, option_map, nat_lt, if◌then◌else◌, and_parts, leb-true, nat_tests, Mode, Read, Exclude}
use Words.{Write, conflicting, mode_code, stronger, strongest, Row, last_uid, is_on, is_row_of, is_against, first_conflict, mode_of, uid_is}
use Words.{uid_same, In, in_from, in_to, in_find, in_find_none, only_found, which, one_each_grant, Uid, Path, entry, uid_eq, grant_row}
use Words.{top_of, top_path, is_granted, rows_asked, entry_row, uid_number, number_tells}
use Rattle.arj_law_disk_view.proofs.Terms
use Terms.{Names, raised, State, put, never, or_cases, put_cases, test_same, falls_to, Kinds, IsNested, IsAlone, IsBehind, IsOfTop}
use Terms.{SeesRows, lock_in}
use Rattle.arj_law_disk.specs.machine.Guards.{IsFree}
use Rattle.arj_lock.proofs.Leaves.{IsRaised, grant_mode}

-- ---- modes

pub conflict_by : (m n : Mode) → 2 ≤ mode_code m + mode_code n → conflicting m n ≡ true
conflict_by Read Read h = absurd (omega (arith, h))
conflict_by Read Exclude h = absurd (omega (arith, h))
conflict_by Read Write h = refl
conflict_by Exclude Read h = absurd (omega (arith, h))
conflict_by Exclude Exclude h = refl
conflict_by Exclude Write h = refl
conflict_by Write Read h = refl
conflict_by Write Exclude h = refl
conflict_by Write Write h = refl

stronger_raised : (a b : Mode) → mode_code (stronger a b) ≡ raised (Some (mode_code a)) (mode_code b)
stronger_raised Read Read = refl
stronger_raised Read Exclude = refl
stronger_raised Read Write = refl
stronger_raised Exclude Read = refl
stronger_raised Exclude Exclude = refl
stronger_raised Exclude Write = refl
stronger_raised Write Read = refl
stronger_raised Write Exclude = refl
stronger_raised Write Write = refl

pub strongest_raised : (o : Option Mode) (m : Mode) →
    option_map mode_code (strongest o (Some m)) ≡ Some (raised (option_map mode_code o) (mode_code m))
strongest_raised None m = refl
strongest_raised (Some a) m = ap Some (stronger_raised a m)

-- a lock that is as strong already
stays_raised : (a n : ℕ) → n ≤ a → Some (raised (Some a) n) ≡ Some a
stays_raised a n less = ap Some (by (nat_lt a n) refl)
  where
    by : (b : Bool) → nat_lt a n ≡ b → (if b then n else a) ≡ a
    by true e = absurd (clash e)
      where
        clash : nat_lt a n ≡ true → ⊥
        clash h = grind (arith, nat_tests)
    by false e = refl

-- the write lock stays, and who is granted it has it
pub write_stays : (m : Mode) → raised (Some 2) (mode_code m) ≡ 2
write_stays Read = refl
write_stays Exclude = refl
write_stays Write = refl

pub write_raised : (o : Option Mode) → raised (option_map mode_code o) 2 ≡ 2
write_raised None = refl
write_raised (Some Read) = refl
write_raised (Some Exclude) = refl
write_raised (Some Write) = refl

-- ---- a lock and its row

pub record RowOf (x : ℕ) (u : Uid) (n : ℕ) (rows : List Row) : Type 0 where
  pub row : Row
  pub there : In row rows
  pub of : is_row_of (entry x) u row ≡ true
  pub mode : mode_code row.mode ≡ n

pub row_behind : (x : ℕ) (u : Uid) (n : ℕ) (rows : List Row) → lock_in x u rows ≡ Some n → RowOf x u n rows
row_behind x u n rows is = by (find (is_row_of (entry x) u) rows) refl is
  where
    by : (o : Option Row) → find (is_row_of (entry x) u) rows ≡ o →
        option_map mode_code (option_map (λ (row : Row). row.mode) o) ≡ Some n → RowOf x u n rows
    by None e h = absurd (cc h)
    by (Some r) e h = let f = in_find (is_row_of (entry x) u) r rows e in
        record { row = r; there = f.0; of = f.1; mode = (let same : mode_code r.mode ≡ n = cc h in same) }

pub last_of : (x : ℕ) (u : Uid) (r : Row) → is_row_of (entry x) u r ≡ true → last_uid r.holder ≡ u
last_of x u r h = uid_is (last_uid r.holder) u (and_parts (uid_eq r.object (entry x)) (uid_eq (last_uid r.holder) u) h).1

own_row : (x : ℕ) (r : Row) → r.object ≡ entry x → is_row_of (entry x) (last_uid r.holder) r ≡ true
own_row x r is = (λ i. uid_eq (is i) (entry x) && uid_eq (last_uid r.holder) (last_uid r.holder))
    ∙ (λ i. uid_same (entry x) i && uid_same (last_uid r.holder) i)

module _ (x : ℕ) (tops : Kinds) (rows : List Row) (root : ℕ → ℕ) (row : ℕ → Option ℕ) (given : ℕ →
    Bool) (s : SeesRows x tops rows root row given) where
  pub row_lock : (r : Row) → In r rows → row (uid_number (last_uid r.holder)) ≡ Some (mode_code r.mode)
  row_lock r i = s.row_is (last_uid r.holder) ∙ ap (λ z. option_map mode_code (option_map (λ (q : Row). q.mode) z))
      (only_found (entry x) (last_uid r.holder) r rows s.one i (own_row x r (s.objects r (in_to r rows i))))

-- ---- a lock that is asked

-- who is on the path of a request is its top, or the top's root
pub on_top_path : (tops : Kinds) (S : State) (p : Path) (u : Uid) → IsOfTop tops S p → is_on (top_path p) u ≡ true →
    (u ≡ top_of p) ⊎ (uid_number u ≡ S.root (uid_number (top_of p)))
on_top_path tops S p u of on = by of.path
  where
    by : ((top_path p ≡ top_of p ∷ []) × (S.root (uid_number (top_of p)) ≡ uid_number (top_of p)))
        ⊎ ((w : Uid) × (top_path p ≡ w ∷ top_of p ∷ []) × (S.root (uid_number (top_of p)) ≡ uid_number w) × (uid_eq w (top_of p) ≡ false)
        × (tops.is_serial (uid_number w) ≡ true)) → (u ≡ top_of p) ⊎ (uid_number u ≡ S.root (uid_number (top_of p)))
    by (inl own) = ⊎_elim (λ e. inl (sym (uid_is (top_of p) u e))) (λ (rest : false ≡ true). absurd (cc rest))
        (or_cases (uid_eq (top_of p) u) false (ap (λ us. is_on us u) (sym own.0) ∙ on))
    by (inr (w, path, root, other, serial)) = ⊎_elim (λ e. inr (ap uid_number (sym (uid_is w u e)) ∙ sym root))
        (λ rest. ⊎_elim (λ e. inl (sym (uid_is (top_of p) u e))) (λ (none : false ≡ true). absurd (cc none))
        (or_cases (uid_eq (top_of p) u) false rest))
        (or_cases (uid_eq w u) (uid_eq (top_of p) u || false) (ap (λ us. is_on us u) (sym path) ∙ on))

pub is_free : (x : ℕ) (tops : Kinds) (rows : List Row) (S : State) (N : Names) (p : Path) (m : Mode) → SeesRows x tops rows S.root N.row
    N.given → IsOfTop tops S p → first_conflict (top_path p) (entry x) m rows ≡ None → IsFree S N (uid_number (top_of p)) (mode_code m)
is_free x tops rows S N p m s of none h n is strong =
    ⊎_elim (λ e. inl (sym k.1 ∙ ap uid_number e)) (λ e. inr (sym k.1 ∙ e)) (on_top_path tops S p k.0 of on)
  where
    k : (u : Uid) × (uid_number u ≡ h)
    k = s.named h n is

    r : RowOf x k.0 n rows
    r = row_behind x k.0 n rows (sym (s.row_is k.0) ∙ ap N.row k.1 ∙ is)

    parts : (uid_eq r.row.object (entry x) ≡ true) × (uid_eq (last_uid r.row.holder) k.0 ≡ true)
    parts = and_parts (uid_eq r.row.object (entry x)) (uid_eq (last_uid r.row.holder) k.0) r.of

    clash : conflicting r.row.mode m ≡ true
    clash = conflict_by r.row.mode m (omega (arith, strong, r.mode))

    against : is_against (top_path p) (entry x) m r.row ≡ false
    against = in_find_none (is_against (top_path p) (entry x) m) r.row rows none r.there

    by : (a b c : Bool) → a ≡ true → c ≡ true → (a && (not b && c)) ≡ false → b ≡ true
    by true true true a c h = refl
    by true false true a c h = absurd (never refl h)
    by true b false a c h = absurd (never c refl)
    by false b c a d h = absurd (never a refl)

    on : is_on (top_path p) k.0 ≡ true
    on = ap (is_on (top_path p)) (sym (last_of x k.0 r.row r.of))
        ∙ by (uid_eq r.row.object (entry x)) (is_on (top_path p) (last_uid r.row.holder)) (conflicting r.row.mode m) parts.0 clash against

-- what a grant leaves: the rows as they were, a new one where there was none, or a stronger one in its place
grant_cases : (new r : Row) (rows : List Row) → In r (grant_row new rows) →
    In r rows ⊎ (((r ≡ new) × (find (is_row_of new.object (last_uid new.holder)) rows ≡ None)) ⊎ IsRaised new rows r)
grant_cases new r [] (inl is) = inr (inl (sym is, refl))
grant_cases new r [] (inr i) = absurd i
grant_cases new r (row ∷ rows) i = by (is_row_of new.object (last_uid new.holder) row) refl i (grant_cases new r rows)
  where
    Cases : List Row → Type 0
    Cases rs = In r rs ⊎ (((r ≡ new) × (find (is_row_of new.object (last_uid new.holder)) rs ≡ None)) ⊎ IsRaised new rs r)

    more : is_row_of new.object (last_uid new.holder) row ≡ false → Cases rows → Cases (row ∷ rows)
    more e (inl j) = inl (inr j)
    more e (inr (inl is)) = inr (inl (is.0, ap (λ b. cond b (Some row) (find (is_row_of new.object (last_uid new.holder)) rows)) e ∙ is.1))
    more e (inr (inr f)) = inr (inr (f.0, inr f.1, f.2, f.3))

    by : (own : Bool) → is_row_of new.object (last_uid new.holder) row ≡ own →
        In r (cond own (record row { mode = stronger row.mode new.mode } ∷ rows) (row ∷ grant_row new rows))
        → (In r (grant_row new rows) → Cases rows) → Cases (row ∷ rows)
    by true own (inl is) ih = inr (inr (row, inl refl, own, sym is))
    by true own (inr j) ih = inl (inr j)
    by false own (inl is) ih = inl (inl is)
    by false own (inr j) ih = more own (ih j)

module _ (x : ℕ) (tops : Kinds) (S : State) (p : Path) (m : Mode) (rows : List Row) (row : ℕ → Option ℕ) (given : ℕ →
    Bool) (s : SeesRows x tops rows S.root row given) (of : IsOfTop tops S p)
    (back : given (uid_number (top_of p)) ≡ true → row (uid_number (top_of p)) ≡ None → ⊥) where
  abbrev t : ℕ
  t = uid_number (top_of p)

  abbrev new : Row
  new = entry_row x p m

  abbrev next : ℕ → Option ℕ
  next = put t (Some (raised (row t) (mode_code m))) row

  -- the top has the lock already
  had_lock : is_granted (entry x) (top_of p) m rows ≡ true → (n : ℕ) × (row t ≡ Some n) × (mode_code m ≤ n)
  had_lock e =
      let w = which (λ r. is_row_of (entry x) (top_of p) r && nat_le (mode_code m) (mode_code r.mode)) rows e in
      let q = and_parts (is_row_of (entry x) (top_of p) w.0) (nat_le (mode_code m) (mode_code w.0.mode)) w.2 in (
        mode_code w.0.mode,
        ap (λ u. row (uid_number u)) (sym (last_of x (top_of p) w.0 q.0)) ∙ row_lock x tops rows S.root row given s w.0 w.1,
        leb-true (mode_code m) (mode_code w.0.mode) q.1,
      )

  named_next : (h k : ℕ) → next h ≡ Some k → (u : Uid) × (uid_number u ≡ h)
  named_next h k = put_cases (λ z. z ≡ Some k → (u : Uid) × (uid_number u ≡ h)) t (Some (raised (row t) (mode_code m))) row h
      (λ same is. (top_of p, sym same)) (λ other is. s.named h k is)

  -- the path of the request
  asks : given t ≡ false → IsAlone S.root given (top_path p) ⊎ IsBehind S.root given (top_path p)
  asks fresh = by of.path
    where
      by : ((top_path p ≡ top_of p ∷ []) × (S.root (uid_number (top_of p)) ≡ uid_number (top_of p)))
          ⊎ ((w : Uid) × (top_path p ≡ w ∷ top_of p ∷ []) × (S.root (uid_number (top_of p)) ≡ uid_number w) × (uid_eq w (top_of p)
          ≡ false) × (tops.is_serial (uid_number w) ≡ true)) → IsAlone S.root given (top_path p) ⊎ IsBehind S.root given (top_path p)
      by (inl own) = inl (own.0, inl own.1)
      by (inr (w, path, root, other, serial)) = inr (w, path, root, other, fresh)

  kept : is_granted (entry x) (top_of p) m rows ≡ true → SeesRows x tops rows S.root next given
  kept e = record {
    one = s.one;
    objects = s.objects;
    holders = s.holders;
    kinds = s.kinds;
    row_is = λ u. put_cases (λ z. z ≡ lock_in x u rows) t (Some (raised (row t) (mode_code m))) row (uid_number u)
        (λ same. let h = had_lock e in ap (λ z. Some (raised z (mode_code m))) h.1 ∙ stays_raised h.0 (mode_code m) h.2 ∙ sym h.1
        ∙ ap row (sym same) ∙ s.row_is u) (λ other. s.row_is u);
    named = named_next;
  }

  granted : SeesRows x tops (grant_row new rows) S.root next given
  granted = record {
    one = one_each_grant new rows s.one;
    objects = λ r c. each (λ q. q.object ≡ entry x) (λ q i. s.objects q (in_to q rows i)) (λ none. refl) (λ q how h. h) r
        (in_from r (grant_row new rows) c);
    holders = λ r c. each (λ q. IsAlone S.root given q.holder ⊎ IsBehind S.root given q.holder) (λ q i. s.holders q (in_to q rows i))
        (λ none. asks (falls_to (given t) (λ g. back g (s.row_is (top_of p)
        ∙ ap (λ z. option_map mode_code (option_map (λ (q : Row). q.mode) z)) none)))) (λ q how h. h) r (in_from r (grant_row new rows) c);
    kinds = λ r c. each (λ q. IsNested tops (uid_number (last_uid q.holder)) →
        ⊥) (λ q i. s.kinds q (in_to q rows i)) (λ none nested. never of.top nested.0) (λ q how h. h) r (in_from r (grant_row new rows) c);
    row_is = λ u. put_cases (λ z. z ≡ lock_in x u (grant_row new rows)) t (Some (raised (row t) (mode_code m))) row (uid_number u)
        (λ same. let one : u ≡ top_of p = number_tells u (top_of p) same in
        ap (λ z. Some (raised z (mode_code m))) (s.row_is (top_of p) ∙ ap (λ w. lock_in x w rows) (sym one))
        ∙ sym (strongest_raised (mode_of (entry x) u rows) m)
        ∙ ap (λ b. option_map mode_code (cond b (strongest (mode_of (entry x) u rows) (Some m)) (mode_of (entry x) u rows)))
        (sym (own u one)) ∙ ap (option_map mode_code) (sym (grant_mode new rows (entry x) u)))
        (λ other. s.row_is u ∙ ap (λ b. option_map mode_code (cond b (strongest (mode_of (entry x) u rows) (Some m))
        (mode_of (entry x) u rows))) (sym (apart u other)) ∙ ap (option_map mode_code) (sym (grant_mode new rows (entry x) u)));
    named = named_next;
  }
    where
      each : (P : Row → Type 0) → ((q : Row) → In q rows → P q) → (find (is_row_of (entry x) (top_of p)) rows ≡ None → P new) →
          ((q : Row) (how : Mode) → P q → P (record q { mode = how })) → (r : Row) → In r (grant_row new rows) → P r
      each P old fresh other r i = by (grant_cases new r rows i)
        where
          by : In r rows ⊎ (((r ≡ new) × (find (is_row_of (entry x) (top_of p)) rows ≡ None)) ⊎ IsRaised new rows r) → P r
          by (inl j) = old r j
          by (inr (inl e)) = subst P (sym e.0) (fresh e.1)
          by (inr (inr f)) = subst P (sym f.3) (other f.0 (stronger f.0.mode m) (old f.0 f.1))

      own : (u : Uid) → u ≡ top_of p → is_row_of (entry x) u new ≡ true
      own u one = (λ i. uid_same (entry x) i && (ap (uid_eq (top_of p)) one ∙ uid_same (top_of p)) i)

      apart : (u : Uid) → (uid_number u == t) ≡ false → is_row_of (entry x) u new ≡ false
      apart u other = (λ i. uid_same (entry x) i
          && falls_to (uid_eq (top_of p) u) (λ e. never (ap (λ w. uid_number w == t) (sym (uid_is (top_of p) u e)) ∙ test_same t) other) i)

  pub asked_seen : SeesRows x tops (rows_asked (entry_row x p m) rows) S.root
      (put (uid_number (top_of p)) (Some (raised (row (uid_number (top_of p))) (mode_code m))) row) given
  asked_seen = by (is_granted (entry x) (top_of p) m rows) refl
    where
      by : (b : Bool) → is_granted (entry x) (top_of p) m rows ≡ b → SeesRows x tops (cond b rows (grant_row new rows)) S.root next given
      by true e = kept e
      by false e = granted
