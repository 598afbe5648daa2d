-- Ends at naming, as acts.
use Rattle.arj_law_parts.proofs.Words
use Words.{◌≡◌, ◌≢◌, ◌⊎◌, ℕ, ◌==◌, ◌&&◌, ◌||◌, not, List, [], ◌∷◌, Bool, true, false, cond, Option, Some, None, refl, sym, ◌∙◌, ap, subst}
use Words.{inl, inr, ⊎_elim, find, Contains, if◌then◌else◌, option_map, list_any, nat_cmp, is_eq, Ordering, Less, Equal, Greater, Mode}
use Words.{strongest, before_last, Row, front, is_heir, is_row_of, last_uid, mode_of, strengthened, uid_is, uid_same, uid_cases, uid_other}
use Words.{CameBy, passed_on, passing_mode, stayed, In as Stands, in_filter, in_find, in_find_none, in_from, in_to, one_each_filter}
use Words.{came_by, only_found, pass_mode, one_each_pass, Uid, End, drop_rows, entry, is_on, mode_code, pass_rows, uid_eq, Pair, Did}
use Words.{did_nothing, Named, Live, end_named, hello_named, live_after, Naming, end_locks, taken_end, told_new, at_number, drop_uid, each}
use Words.{uid_number, without_uid, number_tells}
use Words.ending
use Rattle.arj_law_disk_view.proofs.Terms
use Terms.{told, IsNot, IsUntold, Names, Office, acted, State, Hold, naming, In, put, bool_cases, falls_to, never, or_left, put_cases}
use Terms.{put_same, put_other, some_is, test_is, test_same, test_not, Kinds, IsFixed, IsNested, ClaimsTop, OnlyEnds, IsAlone, IsBehind}
use Terms.{NamesGo, SeesNamed, SeesNaming, SeesRows, lock_in}
use Terms.names
use Rattle.arj_law_disk.specs.machine.Messages.{ToldAbort, ToldBare, ToldCommit, ToldSerial}
use Rattle.arj_law_disk.specs.machine.Names.{passed, rows_after}
use Rattle.arj_law_disk_view.proofs.names.Binding.{with_is}
use Rattle.arj_law_disk_view.proofs.names.Locks.{RowOf, last_of, row_behind, strongest_raised, write_stays}
use Rattle.arj_law_disk_view.specs.names.Calls.{HellosAreNothing, NestedEndsAreNothing, SerialsEndByActs, TopsEndByActs}
use Rattle.arj_lock.proofs.{Leaves.kept_found, PassLeaves.has}
use Rattle.arj_protocol.proofs.RowSteps.{drops_none}
use Rattle.arj_protocol.specs.Copy.{holds}
use Rattle.arj_law_disk.specs.machine.Names as machine
use Rattle.arj_law_disk_view.proofs.view.Keys as keys

-- ---- maps and sets

at_each : {X : Type 0} (f : X → X) (k : ℕ) (m : List (ℕ × X)) → at_number k (each (λ x. f) m) ≡ option_map f (at_number k m)
at_each f k [] = refl
at_each {X} f k (e ∷ es) = by (nat_cmp k e.0) (at_each f k es)
  where
    by : (r : Ordering) → at_number k (each (λ x. f) es) ≡ option_map f (at_number k es) →
        cond (is_eq r) (Some (f e.1)) (at_number k (each (λ x. f) es)) ≡ option_map f (cond (is_eq r) (Some e.1) (at_number k es))
    by Less ih = ih
    by Equal ih = refl
    by Greater ih = ih

found_each : {X : Type 0} (f : X → X) (k : ℕ) (m : List (ℕ × X)) (y : X) → at_number k (each (λ x. f) m) ≡ Some y →
    (x : X) × (at_number k m ≡ Some x) × (f x ≡ y)
found_each {X} f k m y is = by (at_number k m) refl (sym (at_each f k m) ∙ is)
  where
    by : (o : Option X) → at_number k m ≡ o → option_map f o ≡ Some y → (x : X) × (at_number k m ≡ Some x) × (f x ≡ y)
    by None e h = absurd (cc h)
    by (Some x) e h = (x, e, some_is refl h)

pub drop_stays : (u w : Uid) (us : List Uid) → u ≢ w → is_on (drop_uid w us) u ≡ is_on us u
drop_stays u w [] other = refl
drop_stays u w (v ∷ vs) other = by (uid_eq v w) refl (drop_stays u w vs other)
  where
    by : (b : Bool) → uid_eq v w ≡ b → is_on (drop_uid w vs) u ≡ is_on vs u →
        is_on (cond (not b) (v ∷ drop_uid w vs) (drop_uid w vs)) u ≡ (uid_eq v u || is_on vs u)
    by true e ih = ih ∙ (λ i. sym (uid_other v u (λ same. other (sym same ∙ uid_is v w e))) i || is_on vs u)
    by false e ih = ap (λ b. uid_eq v u || b) ih

-- ---- rows that go

-- The rows go whose holders this test of the machine finds.
module _ (x : ℕ) (tops : Kinds) (rows : List Row) (root : ℕ → ℕ) (row : ℕ → Option ℕ) (given : ℕ →
    Bool) (s : SeesRows x tops rows root row given) (u : Uid) (test : ℕ → Bool)
    (tests : (r : Row) → Stands r rows → is_on r.holder u ≡ test (uid_number (last_uid r.holder))) (after : ℕ → Bool) (stays : (h : ℕ) →
    test h ≡ false → after h ≡ given h) where
  kept : (r : Row) → Contains (drop_rows u rows) r → Stands r rows × (test (uid_number (last_uid r.holder)) ≡ false)
  kept r c = let f = in_filter (λ (q : Row). not (is_on q.holder u)) r rows (in_from r (drop_rows u rows) c) in
      (f.0, sym (tests r f.0) ∙ falls_to (is_on r.holder u) (λ on. never f.1 (ap not on)))

  nobody : (w : Uid) (qs : List Row) → ((q : Row) → Stands q qs → is_row_of (entry x) w q ≡ true → is_on q.holder u ≡ false) →
      list_any (λ r. is_row_of (entry x) w r && is_on r.holder u) qs ≡ false
  nobody w [] h = refl
  nobody w (q ∷ qs) h = λ i. by (is_row_of (entry x) w q) (is_on q.holder u) (h q (inl refl)) i || nobody w qs (λ r j. h r (inr j)) i
    where
      by : (a b : Bool) → (a ≡ true → b ≡ false) → (a && b) ≡ false
      by true b f = f refl
      by false b f = refl

  left : (w : Uid) → (if test (uid_number w) then None else lock_in x w rows)
      ≡ option_map mode_code (cond (list_any (λ r. is_row_of (entry x) w r && is_on r.holder u) rows) None (mode_of (entry x) w rows))
  left w = by (test (uid_number w)) (find (is_row_of (entry x) w) rows) refl refl
    where
      by : (b : Bool) (o : Option Row) → test (uid_number w) ≡ b → find (is_row_of (entry x) w) rows ≡ o
          → (if b then None else option_map mode_code (option_map (λ (q : Row). q.mode) o)) ≡ option_map mode_code
          (cond (list_any (λ r. is_row_of (entry x) w r && is_on r.holder u) rows) None (option_map (λ (q : Row). q.mode) o))
      by true None e f = same (list_any (λ r. is_row_of (entry x) w r && is_on r.holder u) rows)
        where
          same : (b : Bool) → None ≡ option_map mode_code (cond {A = Option Mode} b None None)
          same true = refl
          same false = refl
      by true (Some r) e f =
          let g = in_find (is_row_of (entry x) w) r rows f in
          let on : is_on r.holder u ≡ true = tests r g.0 ∙ ap (λ z. test (uid_number z)) (last_of x w r g.1) ∙ e in
          ap (λ b. option_map mode_code (cond {A = Option Mode} b None (Some r.mode)))
          (sym (has (λ q. is_row_of (entry x) w q && is_on q.holder u) r rows g.0 (λ i. g.1 i && on i)))
      by false o e f = ap (λ b. option_map mode_code (cond {A = Option Mode} b None (option_map (λ (q : Row). q.mode) o)))
          (sym (nobody w rows (λ q i own. tests q i ∙ ap (λ z. test (uid_number z)) (last_of x w q own) ∙ e)))

  pub dropped_rows : SeesRows x tops (drop_rows u rows) root (λ h. if test h then None else row h) after
  dropped_rows = record {
    one = one_each_filter (λ (q : Row). not (is_on q.holder u)) rows s.one;
    objects = λ r c. s.objects r (in_to r rows (kept r c).0);
    holders = λ r c. let f = kept r c in let same = stays (uid_number (last_uid r.holder)) f.1 in
        ⊎_elim (λ (a : IsAlone root given r.holder). inl (a.0, ⊎_elim (λ own. inl own) (λ back. inr (same ∙ back)) a.1))
        (λ (b : IsBehind root given r.holder). inr (b.0, b.1, b.2, b.3, same ∙ b.4)) (s.holders r (in_to r rows f.0));
    kinds = λ r c. s.kinds r (in_to r rows (kept r c).0);
    row_is = λ w. ap (λ o. if test (uid_number w) then None else o) (s.row_is w) ∙ left w
        ∙ ap (option_map mode_code) (sym (kept_found (entry x) w (λ r. is_on r.holder u) rows s.one));
    named = λ h m is. by h m (test h) is;
  }
    where
      by : (h m : ℕ) (b : Bool) → (if b then None else row h) ≡ Some m → (w : Uid) × (uid_number w ≡ h)
      by h m true is = absurd (cc is)
      by h m false is = s.named h m is

-- ---- who is on the path of a lock

module _ (root : ℕ → ℕ) (given : ℕ → Bool) (us : List Uid) where
  -- the action of a lock that stands alone
  pub alone_on : (u : Uid) → IsAlone root given us → is_on us u ≡ uid_eq (last_uid us) u
  alone_on u a = ap (λ vs. is_on vs u) a.0 ∙ or_false (uid_eq (last_uid us) u)
    where
      or_false : (b : Bool) → (b || false) ≡ b
      or_false true = refl
      or_false false = refl

  pub behind_on : (u : Uid) (b : IsBehind root given us) → is_on us u ≡ (uid_eq b.0 u || uid_eq (last_uid us) u)
  behind_on u b = ap (λ vs. is_on vs u) b.1 ∙ ap (λ c. uid_eq b.0 u || c) (or_false (uid_eq (last_uid us) u))
    where
      or_false : (b : Bool) → (b || false) ≡ b
      or_false true = refl
      or_false false = refl

pub number_test : (u w : Uid) → uid_eq u w ≡ (uid_number u == uid_number w)
number_test u w = ⊎_elim (λ (e : uid_eq u w ≡ true). e
    ∙ sym (ap (λ z. uid_number z == uid_number w) (uid_is u w e) ∙ test_same (uid_number w))) (λ (e : uid_eq u w ≡ false). e ∙ sym (test_not
    (uid_number u) (uid_number w) (λ same. never (ap (λ z. uid_eq z w) (number_tells u w same) ∙ uid_same w) e))) (bool_cases (uid_eq u w))

-- ---- an end at one object

-- what is left of a told action's bindings and includes
module _ (x : ℕ) (tops : Kinds) (S : State) (N M : Names) (o : Named) (so : SeesNamed x tops o S N) (u : Uid) (told : (h : ℕ) →
    M.told h ≡ false → N.told h ≡ false) (off : M.told (uid_number u) ≡ false → ⊥)
    (asked : M.asked ≡ N.asked) (live : M.live ≡ N.live) (rest : (w : Uid) → w ≢ u → IsUntold S M (uid_number w) →
    M.row (uid_number w) ≡ N.row (uid_number w) ⊎ (N.row (uid_number w) ≡ Some 2 → M.row (uid_number w) ≡ Some 2)) where
  not_own : (w : Uid) → IsUntold S M (uid_number w) → w ≢ u
  not_own w free same = off (ap (λ z. M.told (uid_number z)) (sym same) ∙ free.0)

  untold_before : (w : Uid) → IsUntold S M (uid_number w) → IsUntold S N (uid_number w)
  untold_before w free = (told (uid_number w) free.0, told (S.root (uid_number w)) free.1)

  pub ended_named : (rows : List Row) → SeesRows x tops rows S.root M.row M.given →
      SeesNamed x tops (record o { made = without_uid u o.made; asked = drop_uid u o.asked; rows = rows }) S M
  ended_named rows seen = record {
    rows = seen;
    asked = λ w kind free. drop_stays w u o.asked (not_own w free) ∙ so.asked w kind (untold_before w free)
        ∙ ap (λ f. f (uid_number w)) (sym asked);
    sorted = keys.sorted_without u o.made so.sorted;
    made = λ w m there un free.
        let had = so.made w m (keys.without_cases w u m o.made so.sorted there).1 un (untold_before w free) in
        ⊎_elim (λ same. same ∙ had) (λ keeps. keeps had) (rest w (not_own w free) free);
    live = λ l is. ap (λ (b : Bool). b) live ∙ so.live l is;
  }

-- naming's memory after the end of a top or a serializing action
ended_memory : (x : ℕ) (tops : Kinds) (n : Naming) (S : State) (N M : Names) (u : Uid) (e : End) → SeesNaming x tops n S N → M.inc ≡ N.inc →
    M.confd ≡ N.confd → (IsNested tops (uid_number u) → ⊥) → M.told ≡ put (uid_number u) true N.told
    → ((o : Named) → at_number x n.objects ≡ Some o → SeesNamed x tops (end_named u e o) S M) → SeesNaming x tops (end_locks u e n) S M
ended_memory x tops n S N M u e s inc confd plain told new = record {
  inc_is = inc ∙ s.inc_is;
  told_is = λ w kind. with_is w u n.told ∙ ⊎_elim
      (λ (same : w ≡ u). or_left (uid_eq u w) (is_on n.told w) (ap (uid_eq u) same ∙ uid_same u) ∙ sym (own w same))
      (λ (other : w ≢ u). ap (λ b. b || is_on n.told w) (uid_other u w (λ z. other (sym z))) ∙ s.told_is w kind ∙ sym (elsewhere w other))
      (uid_cases w u);
  confirmed_is = λ w kind off. ⊎_elim
      (λ (same : w ≡ u). absurd (never (own w same) off))
      (λ (other : w ≢ u). drop_stays w u n.confirmed other ∙ s.confirmed_is w kind (sym (elsewhere w other) ∙ off)
      ∙ ap (λ f. f (uid_number w)) (sym confd))
      (uid_cases w u);
  object = λ q is. let f = found_each (end_named u e) x n.objects q is in subst (λ (z : Named). SeesNamed x tops z S M) f.2 (new f.0 f.1);
}
  where
    own : (w : Uid) → w ≡ u → M.told (uid_number w) ≡ true
    own w same =
        ap (λ f. f (uid_number w)) told ∙ ap (λ z. put (uid_number u) true N.told (uid_number z)) same ∙ put_same (uid_number u) true N.told

    elsewhere : (w : Uid) → w ≢ u → M.told (uid_number w) ≡ N.told (uid_number w)
    elsewhere w other = ap (λ f. f (uid_number w)) told ∙ put_other (uid_number u) true N.told (uid_number w)
        (test_not (uid_number w) (uid_number u) (λ same. other (number_tells w u same)))

-- ---- a top's end by an abort, or by a commit that naming hasn't confirmed

module _ (x : ℕ) (tops : Kinds) (A : Office) (c : names.Named A) (u : Uid) (plain : A.world.disk.serial (uid_number u) ≡ false) where
  abbrev t : ℕ
  t = uid_number u

  abbrev S : State
  S = A.world.disk

  abbrev N : Names
  N = A.names

  -- a top is no other action's root
  not_root : (w : Uid) → S.root (uid_number w) ≡ t → uid_number w ≡ t
  not_root w is = sym (c.roots.plain (uid_number w) (ap S.serial is ∙ plain)) ∙ is

  pub top_tests : (rows : List Row) → SeesRows x tops rows S.root N.row N.given → (r : Row) → Stands r rows →
      is_on r.holder u ≡ (uid_number (last_uid r.holder) == t)
  top_tests rows s r i = ⊎_elim
      (λ (a : IsAlone S.root N.given r.holder). alone_on S.root N.given r.holder u a ∙ number_test (last_uid r.holder) u)
      (λ (b : IsBehind S.root N.given r.holder). behind_on S.root N.given r.holder u b ∙ (λ k. falls_to (uid_eq b.0 u) (λ same.
      let one : uid_number (last_uid r.holder) ≡ t = not_root (last_uid r.holder) (b.2 ∙ ap uid_number (uid_is b.0 u same)) in
      never (ap (uid_eq b.0) (number_tells (last_uid r.holder) u one) ∙ same) b.3) k || number_test (last_uid r.holder) u k))
      (s.holders r (in_to r rows i))

-- ---- the end of a serializing action

module _ (x : ℕ) (tops : Kinds) (A : Office) (c : names.Named A) (u : Uid) (serial : A.world.disk.serial (uid_number u) ≡ true) where
  abbrev r0 : ℕ
  r0 = uid_number u

  abbrev left_test : ℕ → Bool
  left_test h = (A.world.disk.root h == r0) && not (A.names.given h)

  -- nobody to whom a restart gave a lock back is serializing
  not_given : A.names.given (uid_number u) ≡ false
  not_given = falls_to (A.names.given (uid_number u)) (λ g. never serial (c.roots.tops (uid_number u) (c.rows.given (uid_number u) g).1))

  pub serial_tests : (rows : List Row) → SeesRows x tops rows A.world.disk.root A.names.row A.names.given → (r : Row) → Stands r rows →
      is_on r.holder u ≡ left_test (uid_number (last_uid r.holder))
  serial_tests rows s r i = ⊎_elim alone behind (s.holders r (in_to r rows i))
    where
      w : Uid
      w = last_uid r.holder

      and_false : (a : Bool) → false ≡ (a && false)
      and_false true = refl
      and_false false = refl

      and_true : (a b : Bool) → b ≡ false → a ≡ (a && not b)
      and_true true b e = ap not (sym e)
      and_true false b e = refl

      given_other : A.names.given (uid_number w) ≡ true → uid_eq w u ≡ false
      given_other g = falls_to (uid_eq w u) (λ same. never (ap (λ z. A.names.given (uid_number z)) (sym (uid_is w u same)) ∙ g) not_given)

      alone : IsAlone A.world.disk.root A.names.given r.holder → is_on r.holder u ≡ left_test (uid_number w)
      alone a = alone_on A.world.disk.root A.names.given r.holder u a ∙ by (A.names.given (uid_number w)) refl a.1
        where
          by : (g : Bool) → A.names.given (uid_number w) ≡ g → (A.world.disk.root (uid_number w) ≡ uid_number w)
              ⊎ (A.names.given (uid_number w) ≡ true) → uid_eq w u ≡ left_test (uid_number w)
          by true e how = given_other e ∙ and_false (A.world.disk.root (uid_number w) == r0)
              ∙ ap (λ b. (A.world.disk.root (uid_number w) == r0) && not b) (sym e)
          by false e (inl own) = number_test w u ∙ ap (λ z. z == r0) (sym own)
              ∙ and_true (A.world.disk.root (uid_number w) == r0) (A.names.given (uid_number w)) e
          by false e (inr g) = absurd (never g e)

      behind : IsBehind A.world.disk.root A.names.given r.holder → is_on r.holder u ≡ left_test (uid_number w)
      behind b = behind_on A.world.disk.root A.names.given r.holder u b ∙ (λ k. number_test b.0 u k || not_last k) ∙ or_false (uid_number
          b.0 == r0) ∙ ap (λ z. z == r0) (sym b.2) ∙ and_true (A.world.disk.root (uid_number w) == r0) (A.names.given (uid_number w)) b.4
        where
          or_false : (b : Bool) → (b || false) ≡ b
          or_false true = refl
          or_false false = refl

          not_last : uid_eq w u ≡ false
          not_last = falls_to (uid_eq w u) (λ same.
              let one : w ≡ u = uid_is w u same in
              let own : uid_number b.0 ≡ uid_number w = sym b.2 ∙ ap A.world.disk.root (ap uid_number one)
              ∙ c.roots.serial (uid_number u) serial ∙ ap uid_number (sym one) in
              never (ap (λ z. uid_eq z w) (number_tells b.0 w own) ∙ uid_same w) b.3)

-- ---- locks that pass to the root

find_both : (a b : Row → Bool) (r : Row) (rows : List Row) → find a rows ≡ Some r → b r ≡ true → find (λ q. a q && b q) rows ≡ Some r
find_both a b r [] is on = absurd (cc is)
find_both a b r (q ∷ qs) is on = by (a q) refl is (find_both a b r qs)
  where
    by : (k : Bool) → a q ≡ k → cond k (Some q) (find a qs) ≡ Some r → (find a qs ≡ Some r → b r ≡ true →
        find (λ z. a z && b z) qs ≡ Some r) → cond (k && b q) (Some q) (find (λ z. a z && b z) qs) ≡ Some r
    by true e h ih = let same : q ≡ r = cc h in ap (λ k. cond k (Some q) (find (λ z. a z && b z) qs)) (ap b same ∙ on) ∙ ap Some same
    by false e h ih = ih h on

find_nobody : (p : Row → Bool) (rows : List Row) → ((q : Row) → Stands q rows → p q ≡ false) → find p rows ≡ None
find_nobody p [] h = refl
find_nobody p (q ∷ qs) h = ap (λ k. cond k (Some q) (find p qs)) (h q (inl refl)) ∙ find_nobody p qs (λ r i. h r (inr i))

module _ (x : ℕ) (tops : Kinds) (A : Office) (c : names.Named A) (u : Uid) (fixed : IsFixed tops A.world.disk) (rows : List Row)
    (s : SeesRows x tops rows A.world.disk.root A.names.row A.names.given) where
  abbrev k : ℕ
  k = uid_number u

  abbrev R : ℕ → ℕ
  R = A.world.disk.root

  abbrev Nk : Names
  Nk = A.names

  -- the lock of a holder behind its root, which is a serializing action
  root_serial : (us : List Uid) → (b : IsBehind R Nk.given us) → tops.is_serial (uid_number b.0) ≡ true
  root_serial us b = sym (ap (λ f. f (uid_number b.0)) fixed.serial) ∙ by (bool_cases (A.world.disk.serial (uid_number b.0)))
    where
      by : (A.world.disk.serial (uid_number b.0) ≡ true) ⊎ (A.world.disk.serial (uid_number b.0) ≡ false) →
          A.world.disk.serial (uid_number b.0) ≡ true
      by (inl h) = h
      by (inr h) =
          let own : R (uid_number (last_uid us)) ≡ uid_number (last_uid us) = c.roots.plain (uid_number (last_uid us))
          (ap A.world.disk.serial b.2 ∙ h) in
          absurd (never (ap (λ z. uid_eq z (last_uid us)) (number_tells b.0 (last_uid us) (sym b.2 ∙ own)) ∙ uid_same (last_uid us)) b.3)

  heirless : (w : Uid) → ((q : Row) → Stands q rows → is_row_of (entry x) u q ≡ true → is_heir (before_last q.holder) w ≡ false) →
      passing_mode u (entry x) w rows ≡ None
  heirless w h = ap (option_map (λ (q : Row). q.mode)) (find_nobody (λ q. is_row_of (entry x) u q && is_heir (before_last q.holder) w) rows
      (λ q i. by (is_row_of (entry x) u q) (is_heir (before_last q.holder) w) (h q i)))
    where
      by : (a b : Bool) → (a ≡ true → b ≡ false) → (a && b) ≡ false
      by true b f = f refl
      by false b f = refl

  strongest_none : (o : Option Mode) → o ≡ strongest o None
  strongest_none None = refl
  strongest_none (Some m) = refl

  -- nothing comes to this holder
  nothing_comes : (w : Uid) → passing_mode u (entry x) w rows ≡ None →
      Nk.row (uid_number w) ≡ option_map mode_code (strongest (mode_of (entry x) w rows) (passing_mode u (entry x) w rows))
  nothing_comes w none = s.row_is w
      ∙ ap (option_map mode_code) (strongest_none (mode_of (entry x) w rows) ∙ ap (strongest (mode_of (entry x) w rows)) (sym none))

  abbrev Passes : Bool → ℕ → Option ℕ
  Passes b h = (if b then put (R k) (passed (Nk.row k) (Nk.row (R k))) Nk.row else Nk.row) h

  comes : (w : Uid) → (uid_number w == k) ≡ false → Passes (not (Nk.given k)) (uid_number w)
      ≡ option_map mode_code (strongest (mode_of (entry x) w rows) (passing_mode u (entry x) w rows))
  comes w other = by (find (is_row_of (entry x) u) rows) refl
    where
      stays : (b : Bool) → Nk.row k ≡ None → Passes b (uid_number w) ≡ Nk.row (uid_number w)
      stays true none = put_cases (λ z. z ≡ Nk.row (uid_number w)) (R k) (passed (Nk.row k) (Nk.row (R k))) Nk.row (uid_number w)
          (λ e. ap (λ o. passed o (Nk.row (R k))) none ∙ ap Nk.row (sym e)) (λ e. refl)
      stays false none = refl

      own_root : (b : Bool) → R k ≡ k → Passes b (uid_number w) ≡ Nk.row (uid_number w)
      own_root true e = put_other (R k) (passed (Nk.row k) (Nk.row (R k))) Nk.row (uid_number w) (ap (λ z. uid_number w == z) e ∙ other)
      own_root false e = refl

      by : (o : Option Row) → find (is_row_of (entry x) u) rows ≡ o → Passes (not (Nk.given k)) (uid_number w)
          ≡ option_map mode_code (strongest (mode_of (entry x) w rows) (passing_mode u (entry x) w rows))
      by None e = stays (not (Nk.given k)) (s.row_is u ∙ ap (λ o. option_map mode_code (option_map (λ (q : Row). q.mode) o)) e)
          ∙ nothing_comes w (heirless w (λ q i own. absurd (never own (in_find_none (is_row_of (entry x) u) q rows e i))))
      by (Some r) e = ⊎_elim alone behind (s.holders r (in_to r rows f.0))
        where
          f : Stands r rows × (is_row_of (entry x) u r ≡ true)
          f = in_find (is_row_of (entry x) u) r rows e

          last_is : last_uid r.holder ≡ u
          last_is = last_of x u r f.1

          one : (q : Row) → Stands q rows → is_row_of (entry x) u q ≡ true → r ≡ q
          one q i own = some_is e (only_found (entry x) u q rows s.one i own)

          alone : IsAlone R Nk.given r.holder → Passes (not (Nk.given k)) (uid_number w)
              ≡ option_map mode_code (strongest (mode_of (entry x) w rows) (passing_mode u (entry x) w rows))
          alone a = ⊎_elim
              (λ own. own_root (not (Nk.given k)) (ap (λ z. R (uid_number z)) (sym last_is) ∙ own ∙ ap uid_number last_is))
              (λ back. ap (λ b. Passes (not b) (uid_number w)) (ap (λ z. Nk.given (uid_number z)) (sym last_is) ∙ back)) a.1
              ∙ nothing_comes w (heirless w (λ q i own. ap (λ (z : Row). is_heir (before_last z.holder) w) (sym (one q i own))
              ∙ ap (λ us. is_heir (before_last us) w) a.0))

          behind : IsBehind R Nk.given r.holder → Passes (not (Nk.given k)) (uid_number w)
              ≡ option_map mode_code (strongest (mode_of (entry x) w rows) (passing_mode u (entry x) w rows))
          behind b = ap (λ g. Passes (not g) (uid_number w)) fresh ∙ to_heir (uid_eq b.0 w) refl
            where
              fresh : Nk.given k ≡ false
              fresh = ap (λ z. Nk.given (uid_number z)) (sym last_is) ∙ b.4

              root_is : R k ≡ uid_number b.0
              root_is = ap (λ z. R (uid_number z)) (sym last_is) ∙ b.2

              row_here : Nk.row k ≡ Some (mode_code r.mode)
              row_here = s.row_is u ∙ ap (λ o. option_map mode_code (option_map (λ (q : Row). q.mode) o)) e

              heir_is : is_heir (before_last r.holder) w ≡ uid_eq b.0 w
              heir_is = ap (λ us. is_heir (before_last us) w) b.1

              to_heir : (h : Bool) → uid_eq b.0 w ≡ h →
                  Passes true (uid_number w) ≡ option_map mode_code (strongest (mode_of (entry x) w rows) (passing_mode u (entry x) w rows))
              to_heir true here =
                  let same : b.0 ≡ w = uid_is b.0 w here in
                  let at : uid_number w ≡ R k = ap uid_number (sym same) ∙ sym root_is in
                  ap (put (R k) (passed (Nk.row k) (Nk.row (R k))) Nk.row) at ∙ put_same (R k) (passed (Nk.row k) (Nk.row (R k))) Nk.row
                  ∙ ap (λ o. passed o (Nk.row (R k))) row_here ∙ ap (λ o. Some (machine.raised o (mode_code r.mode)))
                  (ap Nk.row (sym at) ∙ s.row_is w) ∙ sym (strongest_raised (mode_of (entry x) w rows) r.mode)
                  ∙ ap (λ o. option_map mode_code (strongest (mode_of (entry x) w rows) (option_map (λ (q : Row). q.mode) o)))
                  (sym (find_both (is_row_of (entry x) u) (λ q. is_heir (before_last q.holder) w) r rows e (heir_is ∙ here)))
              to_heir false here =
                  put_other (R k) (passed (Nk.row k) (Nk.row (R k))) Nk.row (uid_number w) (test_not (uid_number w) (R k)
                  (λ same. never (ap (λ z. uid_eq z w) (number_tells b.0 w (sym root_is ∙ sym same)) ∙ uid_same w) here))
                  ∙ nothing_comes w
                  (heirless w (λ q i own. ap (λ (z : Row). is_heir (before_last z.holder) w) (sym (one q i own)) ∙ heir_is ∙ here))

  strong_holder : (r : Row) (o : Option Row) → (strengthened r o).holder ≡ r.holder
  strong_holder r None = refl
  strong_holder r (Some q) = refl

  strong_object : (r : Row) (o : Option Row) → (strengthened r o).object ≡ r.object
  strong_object r None = refl
  strong_object r (Some q) = refl

  -- what a row that passed stands on
  handed : (q : Row) → Stands q rows → (heir : Uid) → before_last q.holder ≡ Some heir →
      (b : IsBehind R Nk.given q.holder) × (front q.holder ≡ b.0 ∷ [])
  handed q i heir parent = ⊎_elim
      (λ (a : IsAlone R Nk.given q.holder). let no_way : ◌≡◌ {A = Option Uid} None (Some heir) = sym (ap before_last a.0) ∙ parent in
      absurd (cc no_way))
      (λ (b : IsBehind R Nk.given q.holder). (b, ap front b.1)) (s.holders q (in_to q rows i))

  pub passed_rows : SeesRows x tops (pass_rows u rows) R
      (rows_after A.world.disk A.names (uid_number u) (not (A.names.given (uid_number u)))) (put (uid_number u) false A.names.given)
  passed_rows = record {
    one = one_each_pass u rows s.one;
    objects = λ y i. object y (came_by u rows y (in_from y (pass_rows u rows) i));
    holders = λ y i. holder y (came_by u rows y (in_from y (pass_rows u rows) i));
    kinds = λ y i. kind y (came_by u rows y (in_from y (pass_rows u rows) i));
    row_is = λ w. put_cases (λ z. z ≡ lock_in x w (pass_rows u rows)) k None (λ h. Passes (not (Nk.given k)) h) (uid_number w)
        (λ same. ap (λ b. option_map mode_code (cond b None (strongest (mode_of (entry x) w rows) (passing_mode u (entry x) w rows))))
        (sym (ap (λ z. uid_eq z u) (number_tells w u same) ∙ uid_same u))
        ∙ ap (option_map mode_code) (sym (pass_mode u rows s.one (entry x) w)))
        (λ other. comes w other ∙ ap (λ b. option_map mode_code (cond b None (strongest (mode_of (entry x) w rows) (passing_mode u (entry x)
        w rows)))) (sym (number_test w u ∙ other)) ∙ ap (option_map mode_code) (sym (pass_mode u rows s.one (entry x) w)));
    named = λ h m. put_cases (λ z. z ≡ Some m → (w : Uid) × (uid_number w ≡ h)) k None (λ z. Passes (not (Nk.given k)) z) h
        (λ same is. absurd (cc is)) (λ other is. passes_named h m other (not (Nk.given k)) refl is);
  }
    where
      object : (y : Row) → CameBy u rows y → y.object ≡ entry x
      object y (stayed q there other is) = ap (λ (z : Row). z.object) is ∙ strong_object q _ ∙ s.objects q there
      object y (passed_on q there own heir parent free is) = ap (λ (z : Row). z.object) is ∙ s.objects q there

      unmoved : (w : Uid) → uid_eq w u ≡ false → put k false Nk.given (uid_number w) ≡ Nk.given (uid_number w)
      unmoved w other = put_other k false Nk.given (uid_number w) (sym (number_test w u) ∙ other)

      holder : (y : Row) → CameBy u rows y → IsAlone R (put k false Nk.given) y.holder ⊎ IsBehind R (put k false Nk.given) y.holder
      holder y (stayed q there other is) = subst (λ us. IsAlone R (put k false Nk.given) us ⊎ IsBehind R (put k false Nk.given) us)
          (sym (ap (λ (z : Row). z.holder) is ∙ strong_holder q _))
          (⊎_elim (λ (a : IsAlone R Nk.given q.holder).
          inl (a.0, ⊎_elim (λ own. inl own) (λ back. inr (unmoved (last_uid q.holder) other ∙ back)) a.1))
          (λ (b : IsBehind R Nk.given q.holder). inr (b.0, b.1, b.2, b.3, unmoved (last_uid q.holder) other ∙ b.4)) (s.holders q there))
      holder y (passed_on q there own heir parent free is) =
          let f = handed q (in_from q rows there) heir parent in
          subst (λ us. IsAlone R (put k false Nk.given) us ⊎ IsBehind R (put k false Nk.given) us) (sym (ap (λ (z : Row). z.holder) is
          ∙ f.1)) (inl (refl, inl (ap R (sym f.0.2) ∙ c.roots.idem (uid_number (last_uid q.holder)) ∙ f.0.2)))

      kind : (y : Row) → CameBy u rows y → IsNested tops (uid_number (last_uid y.holder)) → ⊥
      kind y (stayed q there other is) nested = s.kinds q there
          (subst (λ us. IsNested tops (uid_number (last_uid us))) (ap (λ (z : Row). z.holder) is ∙ strong_holder q _) nested)
      kind y (passed_on q there own heir parent free is) nested =
          let f = handed q (in_from q rows there) heir parent in
          never (root_serial q.holder f.0)
          (subst (λ us. tops.is_serial (uid_number (last_uid us)) ≡ false) (ap (λ (z : Row). z.holder) is ∙ f.1) nested.1)

      passes_named : (h m : ℕ) → (h == k) ≡ false → (b : Bool) → not (Nk.given k) ≡ b → Passes b h ≡ Some m → (w : Uid) × (uid_number w ≡ h)
      passes_named h m other false fresh = s.named h m
      passes_named h m other true fresh = put_cases (λ z. z ≡ Some m → (w : Uid) × (uid_number w ≡ h)) (R k)
          (passed (Nk.row k) (Nk.row (R k))) Nk.row h (λ same is. at_root same (Nk.row k) refl is) (λ apart is. s.named h m is)
        where
          at_root : h ≡ R k → (o : Option ℕ) → Nk.row k ≡ o → passed o (Nk.row (R k)) ≡ Some m → (w : Uid) × (uid_number w ≡ h)
          at_root same None e is = s.named h m (ap Nk.row same ∙ is)
          at_root same (Some n) e is =
              let r : RowOf x u n rows = row_behind x u n rows (sym (s.row_is u) ∙ e) in
              let last_is : last_uid r.row.holder ≡ u = last_of x u r.row r.of in
              ⊎_elim
              (λ (a : IsAlone R Nk.given r.row.holder). ⊎_elim
              (λ own. absurd (never
              (ap (λ z. z == k) (same ∙ ap (λ w. R (uid_number w)) (sym last_is) ∙ own ∙ ap uid_number last_is) ∙ test_same k) other))
              (λ back. absurd (never fresh (ap not (ap (λ w. Nk.given (uid_number w)) (sym last_is) ∙ back)))) a.1)
              (λ (b : IsBehind R Nk.given r.row.holder). (b.0, sym b.2 ∙ ap (λ w. R (uid_number w)) last_is ∙ sym same))
              (s.holders r.row (in_to r.row rows r.there))

-- ---- the ends, whole

module _ (x : ℕ) (tops : Kinds) (u : Uid) (d : Pair) (n : Naming) (A : Office) (c : names.Named A)
    (sees : SeesNaming x tops n A.world.disk A.names) (fixed : IsFixed tops A.world.disk) where
  abbrev End_goal : (Office → Type 0) → Did Naming → Type 0
  End_goal Q s = NamesGo A (λ B. OnlyEnds A B × SeesNaming x tops s.part B.world.disk B.names × Q B)

  only_here : OnlyEnds A A
  only_here = record { world = refl; inc = refl; confd = refl; had = refl; kept = refl; answers = refl; told = λ t h. h }

  -- ---- a top

  module _ (top : tops.is_top (uid_number u) ≡ true) (plain : A.world.disk.serial (uid_number u) ≡ false)
      (clear : IsNot A.world.disk.entry_pend (uid_number u)) where
    abbrev nt : ℕ
    nt = uid_number u

    abbrev Nt : Names
    Nt = A.names

    not_nested : IsNested tops (uid_number u) → ⊥
    not_nested nested = never top nested.0

    told_in : (f : ℕ → Bool) (h : ℕ) → put nt true f h ≡ false → f h ≡ false
    told_in f h = put_cases (λ b. b ≡ false → f h ≡ false) nt true f h (λ same off. absurd (cc off)) (λ other off. off)

    told_stays : (f : ℕ → Bool) (h : ℕ) → f h ≡ true → put nt true f h ≡ true
    told_stays f h on = put_cases (λ b. b ≡ true) nt true f h (λ same. refl) (λ other. on)

    told_not : put nt true Nt.told nt ≡ false → ⊥
    told_not off = never (put_same nt true Nt.told) off

    -- naming was told of it before
    already : is_on n.told u ≡ true → End_goal (λ B. B.names.told (uid_number u) ≡ true) (did_nothing n)
    already on = record { acts = []; may = tt; there = (only_here, sees, sym (sees.told_is u not_nested) ∙ on) }

    -- how the act goes, once the locks that it leaves are seen
    goes : (commits : Bool) (e : End) → is_on n.told u ≡ false → (commits ≡ true → In (ToldCommit nt naming) A.world.sent
        ⊎ In (ToldBare nt naming) A.world.sent) → (commits ≡ false → In (ToldAbort nt naming) A.world.sent)
        → ((o : Named) → at_number x n.objects ≡ Some o →
        SeesNamed x tops (end_named u e o) A.world.disk (let B = acted A (machine.EndTop (uid_number u) commits) in B.names))
        → NamesGo A (λ B. OnlyEnds A B × SeesNaming x tops (end_locks u e n) B.world.disk B.names × (B.names.told (uid_number u) ≡ true))
    goes commits e off committed aborted seen = record {
      acts = machine.EndTop (uid_number u) commits ∷ [];
      may = (record { top = plain; untold = sym (sees.told_is u not_nested) ∙ off; clear = clear; told = (committed, aborted) }, tt);
      there = (
        record { world = refl; inc = refl; confd = refl; had = refl; kept = refl; answers = refl; told = told_stays Nt.told },
        ended_memory x tops n A.world.disk Nt (let B = acted A (machine.EndTop (uid_number u) commits) in
            B.names) u e sees refl refl not_nested refl seen,
        put_same nt true Nt.told,
      );
    }

    given_stays : (h : ℕ) → (h == nt) ≡ false → put nt false Nt.given h ≡ Nt.given h
    given_stays h other = put_other nt false Nt.given h other

    -- other holders keep what they have, or get more of the same
    dropped : (commits : Bool) → (commits && Nt.confd nt && not (Nt.given nt)) ≡ false → (o : Named) → at_number x n.objects ≡ Some o →
        SeesNamed x tops (end_named u ending.Abort o) A.world.disk (let B = acted A (machine.EndTop (uid_number u) commits) in B.names)
    dropped commits passes o there = ended_named x tops A.world.disk Nt (let B = acted A (machine.EndTop (uid_number u) commits) in
        B.names) o so u (told_in Nt.told) told_not refl refl
        (λ w other free. inl (ap (λ f. f (uid_number w)) row_is ∙ put_other nt None Nt.row (uid_number w)
        (test_not (uid_number w) nt (λ same. other (number_tells w u same))))) (drop_rows u o.rows)
        (subst (λ f. SeesRows x tops (drop_rows u o.rows) A.world.disk.root f (put nt false Nt.given)) (sym row_is)
        (dropped_rows x tops o.rows A.world.disk.root Nt.row Nt.given so.rows u (λ h. h == nt) (top_tests x tops A c u plain o.rows so.rows)
        (put nt false Nt.given) given_stays))
      where
        so : SeesNamed x tops o A.world.disk Nt
        so = sees.object o there

        row_is : rows_after A.world.disk Nt nt (commits && Nt.confd nt && not (Nt.given nt)) ≡ put nt None Nt.row
        row_is = ap (λ b. rows_after A.world.disk Nt nt b) passes

    confirmed_here : is_on n.told u ≡ false → is_on n.confirmed u ≡ Nt.confd nt
    confirmed_here off = sees.confirmed_is u not_nested (sym (sees.told_is u not_nested) ∙ off)

    handed_on : is_on n.told u ≡ false → is_on n.confirmed u ≡ true → (o : Named) → at_number x n.objects ≡ Some o →
        SeesNamed x tops (end_named u ending.Commit o) A.world.disk (let B = acted A (machine.EndTop (uid_number u) true) in B.names)
    handed_on off on o there = ended_named x tops A.world.disk Nt (let B = acted A (machine.EndTop (uid_number u) true) in
        B.names) o so u (told_in Nt.told) told_not refl refl
        (λ w other free. inr (λ had. ap (λ f. f (uid_number w)) row_is ∙ put_other nt None (λ h. passing_row h) (uid_number w)
        (test_not (uid_number w) nt (λ same. other (number_tells w u same))) ∙ keeps (not (Nt.given nt)) w had)) (pass_rows u o.rows)
        (subst (λ f. SeesRows x tops (pass_rows u o.rows) A.world.disk.root f (put nt false Nt.given)) (sym row_is)
        (passed_rows x tops A c u fixed o.rows so.rows))
      where
        so : SeesNamed x tops o A.world.disk Nt
        so = sees.object o there

        row_is :
            rows_after A.world.disk Nt nt (true && Nt.confd nt && not (Nt.given nt)) ≡ rows_after A.world.disk Nt nt (not (Nt.given nt))
        row_is = ap (λ b. rows_after A.world.disk Nt nt (true && b && not (Nt.given nt))) (sym (confirmed_here off) ∙ on)

        passing_row : ℕ → Option ℕ
        passing_row h =
            (if not (Nt.given nt) then put (A.world.disk.root nt) (passed (Nt.row nt) (Nt.row (A.world.disk.root nt))) Nt.row else Nt.row) h

        -- the write lock stays the write lock
        still_two : (o : Option ℕ) → Nt.row nt ≡ o → (k : ℕ) → Nt.row k ≡ Some 2 → passed o (Nt.row k) ≡ Some 2
        still_two None e k had = had
        still_two (Some m) e k had = ap (λ z. Some (machine.raised z m)) had
            ∙ ap Some (most m (let r = row_behind x u m o.rows (sym (let s = so.rows in s.row_is u) ∙ e) in (r.row.mode, r.mode)))
          where
            most : (m : ℕ) → ((how : Mode) × (mode_code how ≡ m)) → machine.raised (Some 2) m ≡ 2
            most m how = subst (λ z. machine.raised (Some 2) z ≡ 2) how.1 (write_stays how.0)

        keeps : (b : Bool) (w : Uid) → Nt.row (uid_number w) ≡ Some 2 → (if b then put (A.world.disk.root nt)
            (passed (Nt.row nt) (Nt.row (A.world.disk.root nt))) Nt.row else Nt.row) (uid_number w) ≡ Some 2
        keeps false w had = had
        keeps true w had = put_cases (λ z. z ≡ Some 2) (A.world.disk.root nt) (passed (Nt.row nt) (Nt.row (A.world.disk.root nt))) Nt.row
            (uid_number w) (λ same. still_two (Nt.row nt) refl (A.world.disk.root nt) (ap Nt.row (sym same) ∙ had)) (λ other. had)

    by_end : (e : End) → ClaimsTop A (uid_number u) e → (b : Bool) → is_on n.told u ≡ b →
        End_goal (λ B. B.names.told (uid_number u) ≡ true) (if b then did_nothing n else told_new u (taken_end u e n) d n)
    by_end e claims true on = already on
    by_end ending.Abort claims false off = goes false ending.Abort off (λ h. absurd (cc h)) (λ h. claims) (dropped false refl)
    by_end ending.Commit claims false off = by (is_on n.confirmed u) refl
      where
        none : is_on n.confirmed u ≡ false → (true && Nt.confd nt && not (Nt.given nt)) ≡ false
        none unconfirmed = ap (λ b. true && b && not (Nt.given nt)) (sym (confirmed_here off) ∙ unconfirmed)

        by : (b : Bool) → is_on n.confirmed u ≡ b →
            End_goal (λ B. B.names.told (uid_number u) ≡ true) (told_new u (if b then ending.Commit else ending.Abort) d n)
        by true on = goes true ending.Commit off (λ h. claims) (λ h. absurd (cc h)) (handed_on off on)
        by false on = goes true ending.Abort off (λ h. claims) (λ h. absurd (cc h)) (dropped true (none on))

    pub top_ends : (e : End) → ClaimsTop A (uid_number u) e → NamesGo A
        (λ B. OnlyEnds A B × SeesNaming x tops (let s = told u e d n in s.part) B.world.disk B.names × (B.names.told (uid_number u) ≡ true))
    top_ends e claims = by_end e claims (is_on n.told u) refl

  -- ---- a serializing action

  module _ (kind : tops.is_serial (uid_number u) ≡ true) (serial : A.world.disk.serial (uid_number u) ≡ true)
      (telling : In (ToldSerial (uid_number u) naming) A.world.sent)
      (ended : is_on n.told u ≡ false → (h : Hold) → A.world.disk.entry_pend ≡ Some h → A.world.disk.root h.top ≡ uid_number u →
      A.names.given h.top ≡ true) where
    plain_kind : IsNested tops (uid_number u) → ⊥
    plain_kind nested = never kind nested.1

    root_told : (w : Uid) → IsUntold A.world.disk (let B = acted A (machine.EndSerial (uid_number u)) in B.names) (uid_number w) →
        (A.world.disk.root (uid_number w) == uid_number u) ≡ false
    root_told w free = falls_to (A.world.disk.root (uid_number w) == uid_number u) (λ e. never (ap (put (uid_number u) true A.names.told)
        (test_is (A.world.disk.root (uid_number w)) (uid_number u) e) ∙ put_same (uid_number u) true A.names.told) free.1)

    serial_named : (o : Named) → at_number x n.objects ≡ Some o →
        SeesNamed x tops (end_named u ending.Abort o) A.world.disk (let B = acted A (machine.EndSerial (uid_number u)) in B.names)
    serial_named o there = ended_named x tops A.world.disk A.names (let B = acted A (machine.EndSerial (uid_number u)) in B.names) o so u
        (λ h. put_cases (λ b. b ≡ false →
        A.names.told h ≡ false) (uid_number u) true A.names.told h (λ same off. absurd (cc off)) (λ other off. off))
        (λ off. never (put_same (uid_number u) true A.names.told) off) refl refl
        (λ w other free. inl (ap (λ b. if b && not (A.names.given (uid_number w)) then None else A.names.row (uid_number w))
        (root_told w free))) (drop_rows u o.rows)
        (dropped_rows x tops o.rows A.world.disk.root A.names.row A.names.given so.rows u (left_test x tops A c u serial)
        (serial_tests x tops A c u serial o.rows so.rows) A.names.given (λ h off. refl))
      where
        so : SeesNamed x tops o A.world.disk A.names
        so = sees.object o there

    by_serial : (b : Bool) → is_on n.told u ≡ b → NamesGo A (λ B. OnlyEnds A B
        × SeesNaming x tops (let s = (if b then did_nothing n else told_new u ending.Abort d n) in s.part) B.world.disk B.names)
    by_serial true on = record { acts = []; may = tt; there = (only_here, sees) }
    by_serial false off = record {
      acts = machine.EndSerial (uid_number u) ∷ [];
      may = (record { serial = serial; told = telling; clear = ended off }, tt);
      there = (
        record {
          world = refl;
          inc = refl;
          confd = refl;
          had = refl;
          kept = refl;
          answers = refl;
          told = λ h on. put_cases (λ b. b ≡ true) (uid_number u) true A.names.told h (λ same. refl) (λ other. on);
        },
        ended_memory x tops n A.world.disk A.names (let B = acted A (machine.EndSerial (uid_number u)) in
            B.names) u ending.Abort sees refl refl plain_kind refl serial_named,
      );
    }

    pub serial_ends : NamesGo A (λ B. OnlyEnds A B × SeesNaming x tops (let s = told u ending.Abort d n in s.part) B.world.disk B.names)
    serial_ends = by_serial (is_on n.told u) refl

pub tops_end_by_acts : TopsEndByActs
tops_end_by_acts x tops u e d n A c sees fixed top plain clear claims = top_ends x tops u d n A c sees fixed top plain clear e claims

pub serials_end_by_acts : SerialsEndByActs
serials_end_by_acts x tops u d n A c sees fixed kind serial telling ended =
    serial_ends x tops u d n A c sees fixed kind serial telling ended

-- ---- nothing to the machine

pub hellos_are_nothing : HellosAreNothing
hellos_are_nothing x tops node inc n A s = record {
  inc_is = s.inc_is;
  told_is = s.told_is;
  confirmed_is = s.confirmed_is;
  object = λ q is. let f = found_each (hello_named node inc) x n.objects q is in
      subst (λ (z : Named). SeesNamed x tops z A.world.disk A.names) f.2 (greeted f.0 (s.object f.0 f.1));
}
  where
    lives : (o : Option Live) (l : Live) → live_after node inc o ≡ Some l → (k : Live) × (o ≡ Some k)
    lives None l h = absurd (cc h)
    lives (Some k) l h = (k, refl)

    greeted : (o : Named) → SeesNamed x tops o A.world.disk A.names → SeesNamed x tops (hello_named node inc o) A.world.disk A.names
    greeted o so = record {
      rows = so.rows;
      asked = so.asked;
      sorted = so.sorted;
      made = so.made;
      live = λ l is. let k = lives o.live l is in so.live k.0 k.1;
    }

module _ (x : ℕ) (tops : Kinds) (u : Uid) (n : Naming) (A : Office) (c : names.Named A) (sees : SeesNaming x tops n A.world.disk A.names)
    (fixed : IsFixed tops A.world.disk) (nested : IsNested tops (uid_number u)) where
  -- no lock has a nested action on its holder's path
  holds_none : (rows : List Row) → SeesRows x tops rows A.world.disk.root A.names.row A.names.given → (qs : List Row) →
      ((q : Row) → Stands q qs → Stands q rows) → holds u qs ≡ false
  holds_none rows s [] all = refl
  holds_none rows s (q ∷ qs) all = λ i. off i || holds_none rows s qs (λ z j. all z (inr j)) i
    where
      last_not : uid_eq (last_uid q.holder) u ≡ false
      last_not = falls_to (uid_eq (last_uid q.holder) u) (λ e. s.kinds q (in_to q rows (all q (inl refl)))
          (subst (λ w. IsNested tops (uid_number w)) (sym (uid_is (last_uid q.holder) u e)) nested))

      off : is_on q.holder u ≡ false
      off = ⊎_elim
          (λ (a : IsAlone A.world.disk.root A.names.given q.holder). alone_on A.world.disk.root A.names.given q.holder u a ∙ last_not)
          (λ (b : IsBehind A.world.disk.root A.names.given q.holder). behind_on A.world.disk.root A.names.given q.holder u b
          ∙ (λ i. falls_to (uid_eq b.0 u) (λ e. never (root_serial x tops A c u fixed rows s q.holder b)
          (subst (λ w. tops.is_serial (uid_number w) ≡ false) (sym (uid_is b.0 u e)) nested.1)) i || last_not i))
          (s.holders q (in_to q rows (all q (inl refl))))

  other_kind : (w : Uid) → (IsNested tops (uid_number w) → ⊥) → w ≢ u
  other_kind w kind same = kind (subst (λ z. IsNested tops (uid_number z)) (sym same) nested)

  left_named : (o : Named) → SeesNamed x tops o A.world.disk A.names → SeesNamed x tops (end_named u ending.Abort o) A.world.disk A.names
  left_named o so = record {
    rows = subst (λ rs. SeesRows x tops rs A.world.disk.root A.names.row A.names.given)
        (sym (drops_none u o.rows (holds_none o.rows so.rows o.rows (λ q i. i)))) so.rows;
    asked = λ w kind free. drop_stays w u o.asked (other_kind w kind) ∙ so.asked w kind free;
    sorted = keys.sorted_without u o.made so.sorted;
    made = λ w m there. so.made w m (keys.without_cases w u m o.made so.sorted there).1;
    live = so.live;
  }

  left_memory : SeesNaming x tops (end_locks u ending.Abort n) A.world.disk A.names
  left_memory = record {
    inc_is = sees.inc_is;
    told_is =
        λ w kind. with_is w u n.told ∙ ap (λ b. b || is_on n.told w) (uid_other u w (λ z. other_kind w kind (sym z))) ∙ sees.told_is w kind;
    confirmed_is = λ w kind off. drop_stays w u n.confirmed (other_kind w kind) ∙ sees.confirmed_is w kind off;
    object = λ q is. let f = found_each (end_named u ending.Abort) x n.objects q is in
        subst (λ (z : Named). SeesNamed x tops z A.world.disk A.names) f.2 (left_named f.0 (sees.object f.0 f.1));
  }

  pub nested_left : is_on n.confirmed u ≡ false → (e : End) (d : Pair) →
      SeesNaming x tops (let s = told u e d n in s.part) A.world.disk A.names
  nested_left unconfirmed e d = by (is_on n.told u)
    where
      taken : (e : End) → taken_end u e n ≡ ending.Abort
      taken ending.Abort = refl
      taken ending.Commit = ap (λ b. if b then ending.Commit else ending.Abort) unconfirmed

      by : (b : Bool) →
          SeesNaming x tops (let s = (if b then did_nothing n else told_new u (taken_end u e n) d n) in s.part) A.world.disk A.names
      by true = sees
      by false = subst (λ z. SeesNaming x tops (end_locks u z n) A.world.disk A.names) (sym (taken e)) left_memory

pub nested_ends_are_nothing : NestedEndsAreNothing
nested_ends_are_nothing x tops u e d n A c sees fixed nested unconfirmed = nested_left x tops u n A c sees fixed nested unconfirmed e d
