-- What naming finds at a restart.
use Rattle.arj_law_parts.proofs.Words
use Words.{◌≡◌, ◌≢◌, ◌⊎◌, ℕ, ◌+◌, ◌==◌, ◌&&◌, ◌||◌, not, List, [], ◌∷◌, Bool, true, false, cond, Option, Some, None, refl, sym, ◌∙◌, ap}
use Words.{subst, inl, inr, ⊎_elim, find, map, arith, if◌then◌else◌, is_some, option_map, list_any, nat_cmp, is_eq, Ordering, Less, Equal}
use Words.{Greater, nat_cmp-IsAntisymmetric, Row, last_uid, uid_is, uid_same, uid_cases, In as Stands, in_find, in_find_none, in_from}
use Words.{in_to, Uid, ObjectState, entry, is_on, mode_code, uid_eq, uid_order, adds_store, mode_back, named_back, pending_of}
use Words.{recovered_naming, rows_back, row_for, Pair, either, held_at, Named, unnamed, at_number, at_uid, uid_number, state_entry}
use Words.{number_tells}
use Words.mode
use Rattle.arj_law_disk_view.proofs.Terms
use Terms.{Names, acted, State, Packed, Hold, undecided, has, never, or_cases, or_left, or_right, some_is, test_is, test_same, test_not}
use Terms.{falls_to, SeesEntry, Among, AreAbove, AreSorted, Holder, IsOf, hold_of, packed_entry, Kinds, IsNested, IsAlone, IsBehind}
use Terms.{SeesNamed, SeesNaming, SeesRows, lock_in, AreEntries, has_prepared}
use Rattle.arj_law_disk.specs.machine.Names.{given_mode, given_row, is_pending}
use Rattle.arj_law_disk_view.proofs.names.EndActs.{number_test}
use Rattle.arj_law_disk_view.proofs.view.{ConfirmSteps.Held, ConfirmSteps.held_is, ConfirmWalks.has_listed}
use Rattle.arj_law_disk_view.specs.names.Restarts.{FirstIsSeen, RestartsAreActs}
use Rattle.arj_law_disk.specs.machine.Names as machine
use Rattle.arj_law_disk_view.proofs.view.Keys as keys

-- ---- what is prepared of an entry

record IsPending (u : Uid) (m : List (Uid × List ObjectState)) (q : Uid × ObjectState) : Type 0 where
  states : List ObjectState
  listed : Stands (q.0, states) m
  there : Among q.1 states
  of : q.1.uid ≡ u

among : (s : ObjectState) (states : List ObjectState) → Stands s states → Among s states
among s [] i = absurd i
among s (q ∷ qs) (inl same) = inl same
among s (q ∷ qs) (inr more) = inr (among s qs more)

stands : (s : ObjectState) (states : List ObjectState) → Among s states → Stands s states
stands s [] i = absurd i
stands s (q ∷ qs) (inl same) = inl same
stands s (q ∷ qs) (inr more) = inr (stands s qs more)

pending_some : (u : Uid) (m : List (Uid × List ObjectState)) (q : Uid × ObjectState) → pending_of u m ≡ Some q → IsPending u m q
pending_some u [] q e = absurd (cc e)
pending_some u (p ∷ ps) q e = by (find (λ (s : ObjectState). uid_eq s.uid u) p.1) refl e (pending_some u ps q)
  where
    by : (o : Option ObjectState) → find (λ (s : ObjectState). uid_eq s.uid u) p.1 ≡ o → either (option_map (λ s. (p.0, s)) o)
        (pending_of u ps) ≡ Some q → (pending_of u ps ≡ Some q → IsPending u ps q) → IsPending u (p ∷ ps) q
    by None is h ih = let r = ih h in record { states = r.states; listed = inr r.listed; there = r.there; of = r.of }
    by (Some s) is h ih =
        let same : (p.0, s) ≡ q = some_is refl h in
        let f = in_find (λ (t : ObjectState). uid_eq t.uid u) s p.1 is in
        record {
          states = p.1;
          listed = inl (λ i. (let k = same i in k.0, p.1));
          there = subst (λ (k : Uid × ObjectState). Among k.1 p.1) same (among s p.1 f.0);
          of = subst (λ (k : Uid × ObjectState). k.1.uid ≡ u) same (uid_is s.uid u f.1);
        }

pending_none : (u : Uid) (m : List (Uid × List ObjectState)) (a : Uid) (states : List ObjectState) (s : ObjectState) →
    pending_of u m ≡ None → at_uid a m ≡ Some states → IsOf u states s → ⊥
pending_none u [] a states s none there of = cc there
pending_none u (p ∷ ps) a states s none there of =
    by (find (λ (t : ObjectState). uid_eq t.uid u) p.1) refl none (λ h more. pending_none u ps a states s h more of)
  where
    by : (o : Option ObjectState) → find (λ (t : ObjectState). uid_eq t.uid u) p.1 ≡ o →
        either (option_map (λ t. (p.0, t)) o) (pending_of u ps) ≡ None → (pending_of u ps ≡ None → at_uid a ps ≡ Some states → ⊥) → ⊥
    by (Some t) is h ih = cc h
    by None is h ih = ⊎_elim
        (λ (same : p.1 ≡ states). never (ap (λ w. uid_eq w u) of.1 ∙ uid_same u)
        (in_find_none (λ (t : ObjectState). uid_eq t.uid u) s p.1 is (subst (λ ss. Stands s ss) (sym same) (stands s states of.0))))
        (λ more. ih h more)
        (keys.found_cases a p states ps there)

-- ---- the objects

-- an object that is found has an entry that is held
found_back : (d : Pair) (x : ℕ) (o : Named) (m : List (Uid × ObjectState)) → ((e : Uid × ObjectState) → Stands e m → e.0 ≡ entry e.0.num) →
    at_number x (map (named_back d) m) ≡ Some o
    → (h : ObjectState) × (at_uid (entry x) m ≡ Some h) × (unnamed (rows_back (entry x) h (pending_of (entry x) d.pend)) ≡ o)
found_back d x o [] all is = absurd (cc is)
found_back d x o (e ∷ es) all is = by (nat_cmp x e.0.num) refl is (λ h. found_back d x o es (λ q i. all q (inr i)) h)
  where
    own : e.0 ≡ entry e.0.num
    own = all e (inl refl)

    itself : (n : ℕ) → is_eq (nat_cmp n n) ≡ true
    itself n = grind arith

    rest : is_eq (nat_cmp x e.0.num) ≡ false →
        (h : ObjectState) × (at_uid (entry x) es ≡ Some h) × (unnamed (rows_back (entry x) h (pending_of (entry x) d.pend)) ≡ o) →
        (h : ObjectState) × (at_uid (entry x) (e ∷ es) ≡ Some h) × (unnamed (rows_back (entry x) h (pending_of (entry x) d.pend)) ≡ o)
    rest off f = (
      f.0,
      keys.at_there (entry x) e.0 e.1 es
          (λ same. never (ap (λ n. is_eq (nat_cmp n e.0.num)) (ap (λ (w : Uid). w.num) same) ∙ itself e.0.num) off) ∙ f.1,
      f.2,
    )

    by : (r : Ordering) → nat_cmp x e.0.num ≡ r →
        cond (is_eq r) (Some (unnamed (rows_back e.0 e.1 (pending_of e.0 d.pend)))) (at_number x (map (named_back d) es)) ≡ Some o
        → (at_number x (map (named_back d) es) ≡ Some o →
        (h : ObjectState) × (at_uid (entry x) es ≡ Some h) × (unnamed (rows_back (entry x) h (pending_of (entry x) d.pend)) ≡ o)) →
        (h : ObjectState) × (at_uid (entry x) (e ∷ es) ≡ Some h) × (unnamed (rows_back (entry x) h (pending_of (entry x) d.pend)) ≡ o)
    by Less c h ih = rest (ap is_eq c) (ih h)
    by Greater c h ih = rest (ap is_eq c) (ih h)
    by Equal c h ih =
        let same : e.0 ≡ entry x = own ∙ ap entry (sym (nat_cmp-IsAntisymmetric x e.0.num c)) in (
          e.1,
          ap (λ w. at_uid w (e ∷ es)) (sym same) ∙ keys.at_here e.0 e.1 es,
          ap (λ w. unnamed (rows_back w e.1 (pending_of w d.pend))) (sym same) ∙ some_is refl h,
        )

-- so the object is there, where its entry is held
pub found_there : (d : Pair) (x : ℕ) (m : List (Uid × ObjectState)) → is_some (at_uid (entry x) m) ≡ true →
    is_some (at_number x (map (named_back d) m)) ≡ true
found_there d x [] there = absurd (cc there)
found_there d x (e ∷ es) there = by (nat_cmp x e.0.num) refl (found_there d x es)
  where
    itself : (n : ℕ) → is_eq (nat_cmp n n) ≡ true
    itself n = grind arith

    apart : is_eq (nat_cmp x e.0.num) ≡ false → is_some (at_uid (entry x) es) ≡ true
    apart off = ap is_some (sym (keys.at_there (entry x) e.0 e.1 es
        (λ same. never (ap (λ n. is_eq (nat_cmp n e.0.num)) (ap (λ (w : Uid). w.num) same) ∙ itself e.0.num) off))) ∙ there

    by : (r : Ordering) → nat_cmp x e.0.num ≡ r →
        (is_some (at_uid (entry x) es) ≡ true → is_some (at_number x (map (named_back d) es)) ≡ true) →
        is_some (cond (is_eq r) (Some (unnamed (rows_back e.0 e.1 (pending_of e.0 d.pend)))) (at_number x (map (named_back d) es))) ≡ true
    by Less c ih = ih (apart (ap is_eq c))
    by Greater c ih = ih (apart (ap is_eq c))
    by Equal c ih = refl

-- ---- the locks that are given back

adds_is : (new old : List ℕ) → adds_store new old ≡ list_any (λ s. not (has s old)) new
adds_is [] old = refl
adds_is (s ∷ ss) old = λ i. not (has_listed s old i) || adds_is ss old i

back_is : (new held : ObjectState) (h : Hold) (e : Packed) → packed_entry held ≡ e → h.new ≡ packed_entry new →
    mode_code (mode_back (state_entry new).stores (state_entry held).stores) ≡ given_mode e h
back_is new held h e is prepared =
    by (adds_store (state_entry new).stores (state_entry held).stores)
    ∙ ap (λ b. if b then 2 else 1) (adds_is (state_entry new).stores (state_entry held).stores
    ∙ (λ i. list_any (λ s. not (has s ((is i).content))) ((sym prepared i).content)))
  where
    by : (b : Bool) → mode_code (if b then mode.Write else mode.Exclude) ≡ (if b then 2 else 1)
    by true = refl
    by false = refl

pub is_on_pend : (u : Uid) (m : List (Uid × List ObjectState)) →
    is_on (map (λ (p : Uid × List ObjectState). p.0) m) u ≡ list_any (λ (p : Uid × List ObjectState). uid_number p.0 == uid_number u) m
is_on_pend u [] = refl
is_on_pend u (p ∷ ps) = λ i. number_test p.0 u i || is_on_pend u ps i

prepared_from : (t : ℕ) (m : List (Uid × List ObjectState)) → list_any (λ (p : Uid × List ObjectState). uid_number p.0 == t) m ≡ true →
    (a : Uid) × (states : List ObjectState) × (at_uid a m ≡ Some states) × (uid_number a ≡ t)
prepared_from t [] on = absurd (cc on)
prepared_from t (p ∷ ps) on = ⊎_elim
    (λ here. (p.0, p.1, keys.at_here p.0 p.1 ps, test_is (uid_number p.0) t here))
    (λ more. let f = prepared_from t ps more in by f.0 f.1 f.2 f.3 (uid_cases f.0 p.0))
    (or_cases (uid_number p.0 == t) (list_any (λ (q : Uid × List ObjectState). uid_number q.0 == t) ps) on)
  where
    by : (a : Uid) (states : List ObjectState) → at_uid a ps ≡ Some states → uid_number a ≡ t → (a ≡ p.0) ⊎ (a ≢ p.0) →
        (b : Uid) × (ss : List ObjectState) × (at_uid b (p ∷ ps) ≡ Some ss) × (uid_number b ≡ t)
    by a states there is (inl same) = (p.0, p.1, keys.at_here p.0 p.1 ps, ap uid_number (sym same) ∙ is)
    by a states there is (inr other) = (a, states, keys.at_there a p.0 p.1 ps other ∙ there, is)

pub prepared_in : (a : Uid) (states : List ObjectState) (m : List (Uid × List ObjectState)) → at_uid a m ≡ Some states →
    list_any (λ (p : Uid × List ObjectState). uid_number p.0 == uid_number a) m ≡ true
prepared_in a states [] is = absurd (cc is)
prepared_in a states (p ∷ ps) is = ⊎_elim
    (λ same. or_left (uid_number p.0 == uid_number a) (list_any (λ (q : Uid × List ObjectState). uid_number q.0 == uid_number a) ps)
    (ap (λ w. uid_number p.0 == uid_number w) same ∙ test_same (uid_number p.0)))
    (λ other. or_right (uid_number p.0 == uid_number a) (list_any (λ (q : Uid × List ObjectState). uid_number q.0 == uid_number a) ps)
    (prepared_in a states ps (sym (keys.at_there a p.0 p.1 ps other) ∙ is)))
    (uid_cases a p.0)

in_at : (e : Uid × List ObjectState) (m : List (Uid × List ObjectState)) → AreSorted m → Stands e m → at_uid e.0 m ≡ Some e.1
in_at e [] sorted i = absurd i
in_at e (p ∷ ps) sorted (inl same) = ap (λ (z : Uid × List ObjectState). at_uid z.0 (p ∷ ps)) (sym same) ∙ keys.at_here p.0 p.1 ps
    ∙ ap (λ (z : Uid × List ObjectState). Some z.1) same
in_at e (p ∷ ps) sorted (inr more) = keys.at_there e.0 p.0 p.1 ps (λ same. apart ps sorted.0 more same) ∙ in_at e ps sorted.1 more
  where
    apart : (qs : List (Uid × List ObjectState)) → AreAbove p.0 qs → Stands e qs → e.0 ≡ p.0 → ⊥
    apart [] above i same = i
    apart (q ∷ qs) above (inl here) same =
        less_not (ap (λ w. uid_order p.0 w) (sym (ap (λ (z : Uid × List ObjectState). z.0) here ∙ same)) ∙ above.0)
      where
        less_not : uid_order p.0 p.0 ≡ Less → ⊥
        less_not h = let no_way : Less ≡ Equal = sym h ∙ keys.order_itself p.0 in cc no_way
    apart (q ∷ qs) above (inr there) same = apart qs above.1 there same

-- ---- naming's part of the new incarnation

module _ (x : ℕ) (tops : Kinds) (inc : ℕ) (d : Pair) (S : State) (N : Names) (here : SeesEntry x d S) (entries : AreEntries d)
    (kinds : (t : ℕ) → S.begun t ≡ true → tops.is_top t ≡ true)
    (inc_is : N.inc ≡ inc) (row_is : (h : ℕ) → N.row h ≡ given_row S.entry S.entry_pend h) (given_is : (t : ℕ) →
    N.given t ≡ is_pending S.entry_pend t) (told_is : (t : ℕ) → N.told t ≡ false) (confd_is : (t : ℕ) →
    N.confd t ≡ has_prepared d t) (asked_is : (t : ℕ) → N.asked t ≡ false) where
  held : Held x d S
  held = held_is x d S here

  -- no entry is in doubt
  free_rows : S.entry_pend ≡ None → SeesRows x tops [] S.root N.row N.given
  free_rows none = record {
    one = tt;
    objects = λ r i. absurd (in_from r [] i);
    holders = λ r i. absurd (in_from r [] i);
    kinds = λ r i. absurd (in_from r [] i);
    row_is = λ u. row_is (uid_number u) ∙ ap (λ o. given_row S.entry o (uid_number u)) none;
    named = λ h m is. let no_way : ◌≡◌ {A = Option ℕ} None (Some m) = sym (row_is h ∙ ap (λ o. given_row S.entry o h) none) ∙ is in
        absurd (cc no_way);
  }

  abbrev Back : ObjectState → Uid × ObjectState → Row
  Back st q = row_for (entry x) (q.0 ∷ []) 1 (mode_back (state_entry q.1).stores (state_entry st).stores)

  -- one is
  back_rows : (st : ObjectState) → held_at (entry x) d ≡ Some st → (q : Uid × ObjectState) → pending_of (entry x) d.pend ≡ Some q →
      SeesRows x tops (rows_back (entry x) st (Some q)) S.root N.row N.given
  back_rows st there q is = record {
    one = (refl, tt);
    objects = λ r i. one_row (λ z. z.object ≡ entry x) refl r (in_from r ((Back st q) ∷ []) i);
    holders = λ r i. one_row (λ z. IsAlone S.root N.given z.holder ⊎ IsBehind S.root N.given z.holder)
        (inl (refl, inr (given_is (uid_number q.0) ∙ ap (λ o. is_pending o (uid_number q.0)) prepared ∙ test_same (uid_number q.0)))) r
        (in_from r ((Back st q) ∷ []) i);
    kinds = λ r i. one_row (λ z. IsNested tops (uid_number (last_uid z.holder)) →
        ⊥) (λ nested. never (kinds (uid_number q.0) (here.begun q.0 f.states at)) nested.0) r (in_from r ((Back st q) ∷ []) i);
    row_is = λ u. row_is (uid_number u) ∙ ap (λ o. given_row S.entry o (uid_number u)) prepared ∙ by u (uid_eq q.0 u) refl;
    named = λ h m e. whose h m (h == uid_number q.0) refl (sym (row_is h ∙ ap (λ o. given_row S.entry o h) prepared) ∙ e);
  }
    where
      f : IsPending (entry x) d.pend q
      f = pending_some (entry x) d.pend q is

      at : at_uid q.0 d.pend ≡ Some f.states
      at = in_at (q.0, f.states) d.pend (let p = here.pair in p.sorted) f.listed

      prepared : S.entry_pend ≡ Some (hold_of packed_entry q.0 q.1)
      prepared = let p = here.pair in p.held_by q.0 f.states q.1 at (f.there, f.of)

      held_same : st ≡ held.0
      held_same = some_is there held.1

      mode_is : mode_code (mode_back (state_entry q.1).stores (state_entry st).stores) ≡ given_mode S.entry (hold_of packed_entry q.0 q.1)
      mode_is = back_is q.1 st (hold_of packed_entry q.0 q.1) S.entry (ap packed_entry held_same ∙ held.2) refl

      one_row : (P : Row → Type 0) → P (Back st q) → (r : Row) → Stands r ((Back st q) ∷ []) → P r
      one_row P p r (inl same) = subst P same p
      one_row P p r (inr none) = absurd none

      by : (u : Uid) (b : Bool) → uid_eq q.0 u ≡ b → (if uid_number u
          == uid_number q.0 then Some (given_mode S.entry (hold_of packed_entry q.0 q.1)) else None) ≡ lock_in x u ((Back st q) ∷ [])
      by u true e = ap (λ b. if b then Some (given_mode S.entry (hold_of packed_entry q.0 q.1)) else None)
          (ap (λ w. uid_number w == uid_number q.0) (sym (uid_is q.0 u e)) ∙ test_same (uid_number q.0)) ∙ ap Some (sym mode_is)
          ∙ ap (λ b. option_map mode_code (option_map (λ (z : Row). z.mode) (cond b (Some (Back st q)) None)))
          (sym (λ i. uid_same (entry x) i && e i))
      by u false e = ap (λ b. if b then Some (given_mode S.entry (hold_of packed_entry q.0 q.1)) else None)
          (test_not (uid_number u) (uid_number q.0) (λ same. never (ap (λ w. uid_eq w u) (number_tells q.0 u (sym same)) ∙ uid_same u) e))
          ∙ ap (λ b. option_map mode_code (option_map (λ (z : Row). z.mode) (cond b (Some (Back st q)) None)))
          (sym (λ i. uid_same (entry x) i && e i))

      whose : (h m : ℕ) (b : Bool) → (h == uid_number q.0) ≡ b →
          (if b then Some (given_mode S.entry (hold_of packed_entry q.0 q.1)) else None) ≡ Some m → (u : Uid) × (uid_number u ≡ h)
      whose h m true e s = (q.0, sym (test_is h (uid_number q.0) e))
      whose h m false e s = absurd (cc s)

  rows_now : (st : ObjectState) → held_at (entry x) d ≡ Some st → (o : Option (Uid × ObjectState)) → pending_of (entry x) d.pend ≡ o →
      SeesRows x tops (rows_back (entry x) st o) S.root N.row N.given
  rows_now st there (Some q) is = back_rows st there q is
  rows_now st there None is = free_rows (none S.entry_pend refl)
    where
      none : (o : Option Hold) → S.entry_pend ≡ o → S.entry_pend ≡ None
      none None e = e
      none (Some h) e = let f : Holder packed_entry (entry x) d h = (let p = here.pair in p.holder h e) in
          absurd (pending_none (entry x) d.pend f.action f.states f.state is f.prepared f.of)

  pub recovered_seen : SeesNaming x tops (recovered_naming inc d) S N
  recovered_seen = record {
    inc_is = inc_is;
    told_is = λ u kind. sym (told_is (uid_number u));
    confirmed_is = λ u kind off. is_on_pend u d.pend ∙ sym (confd_is (uid_number u));
    object = λ o is. let f = found_back d x o d.held (λ e i. entries e (in_to e d.held i)) is in
        subst (λ (z : Named). SeesNamed x tops z S N) f.2 (record {
          rows = rows_now f.0 f.1 (pending_of (entry x) d.pend) refl;
          asked = λ u kind free. sym (asked_is (uid_number u));
          sorted = tt;
          made = λ u m there. absurd (cc there);
          live = λ l there. absurd (cc there);
        });
  }

pub restarts_are_acts : RestartsAreActs
restarts_are_acts x tops inc d A c inc_is here entries kinds = (
  record {
    pending = λ h is. let p = here.pair in let f : Holder packed_entry (entry x) d h = p.holder h is in
        ap (has_prepared d) (sym (ap (λ (g : Hold). g.top) f.is)) ∙ prepared_in f.action f.states d.pend f.prepared;
    taken = λ t on. let f = prepared_from t d.pend on in (
      ap A.world.disk.begun (sym f.3) ∙ here.begun f.0 f.1 f.2,
      subst (λ z. undecided A.world.disk z ≡ true →
          (A.world.disk.conf z ≡ true) ⊎ (A.world.disk.light z ≡ true)) f.3 (here.taken f.0 f.1 f.2),
    );
  },
  recovered_seen x tops (inc + 1) d A.world.disk (let B = acted A (machine.Restart (has_prepared d)) in
      B.names) here entries kinds (ap (λ n. n + 1) inc_is) (λ h. refl) (λ t. refl) (λ t. refl) (λ t. refl) (λ t. refl),
)

pub first_is_seen : FirstIsSeen
first_is_seen x tops inc d S N first none inc_is live here entries =
    recovered_seen x tops inc d S N here entries (λ t began. absurd (never began (first.unbegun t))) inc_is
    (λ h. none.row h ∙ ap (λ o. given_row S.entry o h) (sym first.entry_free))
    (λ t. none.given t ∙ ap (λ o. is_pending o t) (sym first.entry_free)) none.told (λ t. none.confd t ∙ sym (nobody t)) none.asked
  where
    nobody : (t : ℕ) → has_prepared d t ≡ false
    nobody t = falls_to (has_prepared d t) (λ on. let f = prepared_from t d.pend on in
        never (here.begun f.0 f.1 f.2) (first.unbegun (uid_number f.0)))
