-- Binds, Records and exclude locks, as acts.
use Rattle.arj_law_parts.proofs.Words
use Words.{◌≡◌, ◌≢◌, ◌⊎◌, ℕ, ◌+◌, ◌==◌, ◌||◌, List, [], ◌∷◌, ◌++◌, Bool, true, false, Option, Some, None, refl, sym, ◌∙◌, ap, subst, inl}
use Words.{inr, ⊎_elim, if◌then◌else◌, list_any, match_ordering, nat_cmp, is_eq, Ordering, Less, Equal, Greater, or_parts, Mode, Read}
use Words.{Write, Row, last_uid, mode_of, uid_is, uid_same, Uid, Binding, BoundReply, Entry, Path, entry, is_on, mode_code, uid_eq}
use Words.{uid_order, top_of, top_path, rows_asked, Pair, Served, reply, void, Named, Counted, Live, Made, bind_call, bind_made, bind_named}
use Words.{conflict_on, entry_row, include_asked, live_above, live_asked, locked, made_above, make_asked, next_server, Naming, bind}
use Words.{is_over, listed_entry, on_counted, at_number, at_uid, put_number, put_uid, uid_number, with_uid, put_other as number_other}
use Words.{put_same as number_same, number_tells, one_or_two}
use Words.body
use Words.bound
use Words.effect
use Words.naming_named
use Words.naming
use Rattle.arj_law_disk_view.proofs.Terms
use Terms.{IsUntold, Names, Office, Answer, acted, raised, State, Packed, put, falls_to, never, never_some, or_left, or_right, put_cases}
use Terms.{put_same, some_is, test_same, SeesEntry, Kinds, IsNested, ClaimsBound, OnlyLocks, IsOfTop, NamesGo, SeesNamed, SeesNaming}
use Terms.{SeesRows}
use Terms.names
use Rattle.arj_law_disk.specs.machine.Guards.{MayLock}
use Rattle.arj_law_disk_view.proofs.names.Locks.{asked_seen, is_free, write_raised, write_stays}
use Rattle.arj_law_disk_view.proofs.view.ConfirmSteps.{Held, held_is}
use Rattle.arj_law_disk_view.specs.names.Calls.{BindsAreActs}
use Rattle.arj_protocol.specs.Named.{bound_live, bound_write, refused_lock}
use Rattle.arj_law_disk.specs.machine.Names as machine
use Rattle.arj_law_disk_view.proofs.view.Keys as keys

-- ---- sets

or_twice : (a b : Bool) → (a || b) ≡ (a || (a || b))
or_twice true b = refl
or_twice false b = refl

or_swap : (a b c : Bool) → (a || (b || c)) ≡ (b || (a || c))
or_swap true true c = refl
or_swap true false c = refl
or_swap false b c = refl

pub with_is : (u w : Uid) (us : List Uid) → is_on (with_uid w us) u ≡ (uid_eq w u || is_on us u)
with_is u w [] = refl
with_is u w (v ∷ vs) = by (uid_order w v) refl (with_is u w vs)
  where
    by : (o : Ordering) → uid_order w v ≡ o → is_on (with_uid w vs) u ≡ (uid_eq w u || is_on vs u) →
        is_on (match_ordering o (w ∷ v ∷ vs) (v ∷ vs) (v ∷ with_uid w vs)) u ≡ (uid_eq w u || (uid_eq v u || is_on vs u))
    by Less e ih = refl
    by Equal e ih =
        or_twice (uid_eq v u) (is_on vs u) ∙ ap (λ (z : Uid). uid_eq z u || (uid_eq v u || is_on vs u)) (sym (keys.order_exact w v e))
    by Greater e ih = ap (λ b. uid_eq v u || b) ih ∙ or_swap (uid_eq v u) (uid_eq w u) (is_on vs u)

-- ---- what naming has of one object

-- the object is another one now
pub with_object : (x : ℕ) (tops : Kinds) (n : Naming) (o : Named) (count : ℕ) (S : State) (N M : Names) → SeesNaming x tops n S N →
    M.inc ≡ N.inc → M.told ≡ N.told → M.confd ≡ N.confd → SeesNamed x tops o S M
    → SeesNaming x tops (record n { count = count; objects = put_number x o n.objects }) S M
with_object x tops n o count S N M s inc told confd new = record {
  inc_is = inc ∙ s.inc_is;
  told_is = λ u kind. s.told_is u kind ∙ ap (λ f. f (uid_number u)) (sym told);
  confirmed_is = λ u kind off. s.confirmed_is u kind (ap (λ f. f (uid_number u)) (sym told) ∙ off) ∙ ap (λ f. f (uid_number u)) (sym confd);
  object = λ q is. let same : o ≡ q = some_is (number_same x o n.objects) is in subst (λ (z : Named). SeesNamed x tops z S M) same new;
}

-- another object is another one now
pub other_object : (x y : ℕ) (tops : Kinds) (n : Naming) (o : Named) (count : ℕ) (S : State) (N : Names) → is_eq (nat_cmp x y) ≡ false →
    SeesNaming x tops n S N → SeesNaming x tops (record n { count = count; objects = put_number y o n.objects }) S N
other_object x y tops n o count S N apart s = record {
  inc_is = s.inc_is;
  told_is = s.told_is;
  confirmed_is = s.confirmed_is;
  object = λ q is. s.object q (sym (number_other y x o n.objects apart) ∙ is);
}

pub only_same : (A : Office) → OnlyLocks A A
only_same A = record { world = refl; inc = refl; told = refl; given = refl; confd = refl; had = refl; kept = refl; answers = λ a i. i }

-- neither a path's top nor its root was told of
pub path_untold : (x : ℕ) (tops : Kinds) (n : Naming) (S : State) (N : Names) (p : Path) → SeesNaming x tops n S N → IsOfTop tops S p →
    is_over p n ≡ false → IsUntold S N (uid_number (top_of p))
path_untold x tops n S N p sees of off = by of.path
  where
    told_of : (u : Uid) → (IsNested tops (uid_number u) → ⊥) → is_on n.told u ≡ false → N.told (uid_number u) ≡ false
    told_of u kind off = sym (sees.told_is u kind) ∙ off

    plain : IsNested tops (uid_number (top_of p)) → ⊥
    plain nested = never of.top nested.0

    by : ((top_path p ≡ top_of p ∷ []) × (S.root (uid_number (top_of p)) ≡ uid_number (top_of p)))
        ⊎ ((w : Uid) × (top_path p ≡ w ∷ top_of p ∷ []) × (S.root (uid_number (top_of p)) ≡ uid_number w) × (uid_eq w (top_of p) ≡ false)
        × (tops.is_serial (uid_number w) ≡ true)) → IsUntold S N (uid_number (top_of p))
    by (inl (path, root)) =
        let none = told_of (top_of p) plain
        (or_parts (is_on n.told (top_of p)) false (ap (λ us. list_any (λ u. is_on n.told u) us) (sym path) ∙ off)).0 in
        (none, ap N.told root ∙ none)
    by (inr (w, path, root, other, serial)) =
        let q = or_parts (is_on n.told w) (is_on n.told (top_of p) || false)
        (ap (λ us. list_any (λ u. is_on n.told u) us) (sym path) ∙ off) in (
          told_of (top_of p) plain (or_parts (is_on n.told (top_of p)) false q.1).0,
          ap N.told root ∙ told_of w (λ nested. never serial nested.1) q.0,
        )

pub given_has : (A : Office) → names.Named A → (t : ℕ) → A.names.given t ≡ true → A.names.row t ≡ None → ⊥
given_has A c t g none = let h = (c.rows.given t g).0 in never_some h.1 none

-- ---- a lock is granted

module _ (x : ℕ) (tops : Kinds) (p : Path) (n : Naming) (A : Office) (o : Named) (c : names.Named A)
    (so : SeesNamed x tops o A.world.disk A.names) (of : IsOfTop tops A.world.disk p) where
  abbrev t : ℕ
  t = uid_number (top_of p)

  abbrev S : State
  S = A.world.disk

  abbrev N : Names
  N = A.names

  rows_of : (m : Mode) →
      SeesRows x tops (rows_asked (entry_row x p m) o.rows) S.root (put t (Some (raised (N.row t) (mode_code m))) N.row) N.given
  rows_of m = asked_seen x tops S p m o.rows N.row N.given so.rows of (given_has A c t)

  -- bindings that were made before have their locks still
  made_of : (m : Mode) (u : Uid) (k : Made) → at_uid u o.made ≡ Some k → k.recorded ≡ false → IsUntold S N (uid_number u) →
      put t (Some (raised (N.row t) (mode_code m))) N.row (uid_number u) ≡ Some 2
  made_of m u k there un off = put_cases (λ z. z ≡ Some 2) t (Some (raised (N.row t) (mode_code m))) N.row (uid_number u)
      (λ same. ap (λ z. Some (raised z (mode_code m))) (ap N.row (sym same) ∙ so.made u k there un off) ∙ ap Some (write_stays m))
      (λ other. so.made u k there un off)

  -- a lock that is free may be granted
  pub may : (m : Mode) → conflict_on x p m o ≡ None → MayLock A t (mode_code m)
  may m free = record { top = of.plain; free = is_free x tops o.rows S N p m so.rows of free }

  pub locked_named : (m : Mode) (asked : ℕ → Bool) (live : Bool) (answers : List Answer) → asked ≡ N.asked → (N.live ≡ true → live ≡ true)
      → SeesNamed x tops (locked x p m o) S
      (record N { row = put t (Some (raised (N.row t) (mode_code m))) N.row; asked = asked; live = live; answers = answers })
  locked_named m asked live answers same alive = record {
    rows = rows_of m;
    asked = λ u kind off. so.asked u kind off ∙ ap (λ f. f (uid_number u)) (sym same);
    sorted = so.sorted;
    made = made_of m;
    live = λ l is. alive (so.live l is);
  }

  -- an include
  pub included_named : (answers : List Answer) →
      SeesNamed x tops (let q = locked x p Write o in record q { asked = with_uid (top_of p) q.asked }) S
      (record N { row = put t (Some (raised (N.row t) 2)) N.row; asked = put t (N.asked t || true) N.asked; answers = answers })
  included_named answers = record {
    rows = rows_of Write;
    asked = λ u kind off. with_is u (top_of p) o.asked
        ∙ put_cases (λ b. (uid_eq (top_of p) u || is_on o.asked u) ≡ b) t (N.asked t || true) N.asked (uid_number u)
        (λ same. or_left (uid_eq (top_of p) u) (is_on o.asked u)
        (ap (uid_eq (top_of p)) (number_tells u (top_of p) same) ∙ uid_same (top_of p)) ∙ sym (or_right (N.asked t) true refl))
        (λ other. ap (λ b. b || is_on o.asked u) (falls_to (uid_eq (top_of p) u)
        (λ e. never (ap (λ w. uid_number w == t) (sym (uid_is (top_of p) u e)) ∙ test_same t) other)) ∙ so.asked u kind off);
    sorted = so.sorted;
    made = made_of Write;
    live = so.live;
  }

  -- a new binding is made
  pub made_named : (k : Made) (turn : Option ℕ) (asked : ℕ → Bool) (answers : List Answer) → asked ≡ N.asked
      → SeesNamed x tops (let q = locked x p Write o in record q { made = put_uid (top_of p) k q.made; turn = turn }) S
      (record N { row = put t (Some (raised (N.row t) 2)) N.row; asked = asked; answers = answers })
  made_named k turn asked answers same = record {
    rows = rows_of Write;
    asked = λ u kind off. so.asked u kind off ∙ ap (λ f. f (uid_number u)) (sym same);
    sorted = keys.sorted_put (top_of p) k o.made so.sorted;
    made = λ u q there un off. ⊎_elim
        (λ (own : (u ≡ top_of p) × (k ≡ q)). ap (λ w. put t (Some (raised (N.row t) 2)) N.row (uid_number w)) own.0
        ∙ put_same t (Some (raised (N.row t) 2)) N.row ∙ ap (λ z. Some (raised z 2)) (let s = so.rows in s.row_is (top_of p))
        ∙ ap Some (write_raised (mode_of (entry x) (top_of p) o.rows)))
        (λ (other : (u ≢ top_of p) × (at_uid u o.made ≡ Some q)). made_of Write u q other.1 un off)
        (keys.put_cases u (top_of p) k q o.made there);
    live = so.live;
  }

-- ---- a Bind of the object

module _ (x : ℕ) (tops : Kinds) (p : Path) (avoid : Binding) (d : Pair) (n : Naming) (A : Office) (o : Named) (c : names.Named A)
    (sees : SeesNaming x tops n A.world.disk A.names) (so : SeesNamed x tops o A.world.disk A.names)
    (here : SeesEntry x d A.world.disk) (of : IsOfTop tops A.world.disk p) (r : BoundReply) where
  abbrev u : ℕ
  u = uid_number (top_of p)

  abbrev E : Entry
  E = listed_entry x d

  abbrev C : Counted
  C = record { named = o; count = n.count }

  abbrev Goal : Served Counted BoundReply → Type 0
  Goal s = s.reply ≡ Some r → NamesGo A (λ B. OnlyLocks A B × SeesNaming x tops
      (record n { count = (let q = s.part in q.count); objects = put_number x (let q = s.part in q.named) n.objects }) B.world.disk B.names
      × ClaimsBound x x u r B.names)

  stores_is : A.world.disk.entry.content ≡ (listed_entry x d).stores
  stores_is = let h : Held x d A.world.disk = held_is x d A.world.disk here in
      sym (ap (λ q. (naming.entry_of q).stores) h.1 ∙ ap (λ (e : Packed). e.content) h.2)

  answer_is : (b : Bool) → machine.Bound u A.names.inc b A.world.disk.entry.content ≡ machine.Bound u n.inc b (listed_entry x d).stores
  answer_is b = λ i. machine.Bound u (sees.inc_is i) b (stores_is i)

  refused : (q : Row) → Goal (refused_lock C q)
  refused q is = record {
    acts = [];
    may = tt;
    there = (
      only_same A,
      with_object x tops n o n.count A.world.disk A.names A.names sees refl refl refl so,
      (let same : bound.Conflict (last_uid q.holder) q.mode ≡ r = cc is in subst (λ z. ClaimsBound x x u z A.names) same (λ e. tt)),
    );
  }

  by_live : (l : Live) → A.names.live ≡ true → conflict_on x p Read o ≡ None → Goal (bound_live n.inc x p E C l)
  by_live l alive free is = record {
    acts = machine.Read u ∷ [];
    may = ((may x tops p n A o c so of Read free, alive), tt);
    there = (
      record { world = refl; inc = refl; told = refl; given = refl; confd = refl; had = refl; kept = refl; answers = λ a i. inr i },
      with_object x tops n (locked x p Read o) n.count A.world.disk A.names (let B = acted A (machine.Read u) in
          B.names) sees refl refl refl
          (locked_named x tops p n A o c so of Read A.names.asked A.names.live
          (machine.Bound u A.names.inc false A.world.disk.entry.content ∷ A.names.answers) refl (λ h. h)),
      (let same : bound.Live l.binding l.server l.inc n.inc (listed_entry x d).stores ≡ r = cc is in
          subst (λ z. ClaimsBound x x u z (let B = acted A (machine.Read u) in B.names)) same (λ e. inl (answer_is false))),
    );
  }

  by_write : (o2 : Named) (count : ℕ) (q : BoundReply) (outs : List effect.Effect) → conflict_on x p Write o ≡ None →
      SeesNamed x tops o2 A.world.disk (let B = acted A (machine.Write u false) in B.names) →
      ClaimsBound x x u q (let B = acted A (machine.Write u false) in B.names)
      → Goal (record { part = record { named = o2; count = count }; outs = outs; reply = Some q })
  by_write o2 count q outs free new claim is = record {
    acts = machine.Write u false ∷ [];
    may = (may x tops p n A o c so of Write free, tt);
    there = (
      record { world = refl; inc = refl; told = refl; given = refl; confd = refl; had = refl; kept = refl; answers = λ a i. inr i },
      with_object x tops n o2 count A.world.disk A.names (let B = acted A (machine.Write u false) in B.names) sees refl refl refl new,
      (let same : q ≡ r = cc is in subst (λ z. ClaimsBound x x u z (let B = acted A (machine.Write u false) in B.names)) same claim),
    );
  }

  by_include : conflict_on x p Write o ≡ None → Goal (bound_write n.inc x p E C)
  by_include free is = record {
    acts = machine.Write u true ∷ [];
    may = (may x tops p n A o c so of Write free, tt);
    there = (
      record { world = refl; inc = refl; told = refl; given = refl; confd = refl; had = refl; kept = refl; answers = λ a i. inr i },
      with_object x tops n (let q = locked x p Write o in record q { asked = with_uid (top_of p) q.asked }) n.count A.world.disk A.names
          (let B = acted A (machine.Write u true) in B.names) sees refl refl refl
          (included_named x tops p n A o c so of (machine.Bound u A.names.inc true A.world.disk.entry.content ∷ A.names.answers)),
      (let same : bound.Write n.inc (listed_entry x d).stores ≡ r = cc is in
          subst (λ z. ClaimsBound x x u z (let B = acted A (machine.Write u true) in B.names)) same (λ e. inl (answer_is true))),
    );
  }

  unasked : (f : ℕ → Bool) (k : ℕ) → put k (f k || false) f ≡ f
  unasked f k = λ i z. same z i
    where
      same : (z : ℕ) → put k (f k || false) f z ≡ f z
      same z = put_cases (λ y. y ≡ f z) k (f k || false) f z (λ e. by (f k) ∙ ap f (sym e)) (λ e. refl)
        where
          by : (a : Bool) → (a || false) ≡ a
          by true = refl
          by false = refl

  by_made : (k : Option Made) → conflict_on x p Write o ≡ None → Goal (bind_made n.inc x p E C k)
  by_made (Some k) free = by_write (locked x p Write o) n.count (bound.Make k.binding k.server n.inc (listed_entry x d).stores)
      (naming_named.lock_lines x p Write o) free
      (locked_named x tops p n A o c so of Write (put u (A.names.asked u || false) A.names.asked) A.names.live (machine.Bound u A.names.inc
      false A.world.disk.entry.content ∷ A.names.answers) (unasked A.names.asked u) (λ h. h)) (λ e. inl (answer_is false))
  by_made None free = by_write (let q = locked x p Write o in record q {
    made = put_uid (top_of p)
        (record { binding = record { inc = n.inc; count = n.count + 1 }; server = next_server o.turn E.servers; recorded = false }) q.made;
    turn = Some (next_server o.turn E.servers);
  })
      (n.count + 1)
      (bound.Make (record { inc = n.inc; count = n.count + 1 }) (next_server o.turn E.servers) n.inc (listed_entry x d).stores)
      (naming_named.lock_lines x p Write o
      ++ effect.Say (body.Bound x (record { inc = n.inc; count = n.count + 1 }) (next_server o.turn E.servers)) ∷ []) free
      (made_named x tops p n A o c so of
      (record { binding = record { inc = n.inc; count = n.count + 1 }; server = next_server o.turn E.servers; recorded = false })
      (Some (next_server o.turn E.servers))
      (put u (A.names.asked u || false) A.names.asked) (machine.Bound u A.names.inc false A.world.disk.entry.content ∷ A.names.answers)
      (unasked A.names.asked u)) (λ e. inl (answer_is false))

  has_live : (l : Live) → live_above avoid o.live ≡ Some l → A.names.live ≡ true
  has_live l is = by o.live refl is
    where
      by : (q : Option Live) → o.live ≡ q → live_above avoid q ≡ Some l → A.names.live ≡ true
      by None e h = absurd (cc h)
      by (Some k) e h = so.live k e

  by_call : (q : Option Live) → live_above avoid o.live ≡ q → Goal (bind_call n.inc x p avoid E C q)
  by_call (Some l) e = by (conflict_on x p Read o) refl
    where
      by : (k : Option Row) → conflict_on x p Read o ≡ k → Goal (live_asked n.inc x p E C l k)
      by (Some row) f = refused row
      by None f = by_live l (has_live l e) f
  by_call None e = by (conflict_on x p Write o) refl
    where
      by : (k : Option Row) → conflict_on x p Write o ≡ k → Goal (make_asked n.inc x p avoid E C k)
      by (Some row) f = refused row
      by None f = by_made (made_above avoid (at_uid (top_of p) o.made)) f

  by_kind : (include : Bool) → Goal (bind_named n.inc x p include avoid E C)
  by_kind false = by_call (live_above avoid o.live) refl
  by_kind true = by (conflict_on x p Write o) refl
    where
      by : (k : Option Row) → conflict_on x p Write o ≡ k → Goal (include_asked n.inc x p E C k)
      by (Some row) f = refused row
      by None f = by_include f

-- ---- a Bind

module _ (x : ℕ) (tops : Kinds) (p : Path) (include : Bool) (avoid : Binding) (d : Pair) (n : Naming) (A : Office) (r : BoundReply)
    (c : names.Named A) (sees : SeesNaming x tops n A.world.disk A.names)
    (here : SeesEntry x d A.world.disk) (of : IsOfTop tops A.world.disk p) where
  abbrev Bound_goal : ℕ → Served Naming BoundReply → Type 0
  Bound_goal y s = s.reply ≡ Some r →
      NamesGo A (λ B. OnlyLocks A B × SeesNaming x tops s.part B.world.disk B.names × ClaimsBound x y (uid_number (top_of p)) r B.names)

  elsewhere : (y : ℕ) → is_eq (nat_cmp x y) ≡ false → (y ≡ x → ⊥) →
      (o : Named) (count : ℕ) (outs : List effect.Effect) (reply : Option BoundReply) →
      Bound_goal y (record { part = record n { count = count; objects = put_number y o n.objects }; outs = outs; reply = reply })
  elsewhere y apart other o count outs reply is = record {
    acts = [];
    may = tt;
    there = (only_same A, other_object x y tops n o count A.world.disk A.names apart sees, λ e. absurd (other e));
  }

  of_object : (y : ℕ) (q : Option Named) → at_number y n.objects ≡ q →
      Bound_goal y (on_counted y (bind_named n.inc y p include avoid (listed_entry y d)) n q)
  of_object y None e = λ is. absurd (cc is)
  of_object y (Some o) e = ⊎_elim
      (λ (same : y ≡ x). subst (λ z. Bound_goal z (on_counted z (bind_named n.inc z p include avoid (listed_entry z d)) n (Some o))) (sym
      same) (by_kind x tops p avoid d n A o c sees (sees.object o (ap (λ z. at_number z n.objects) (sym same) ∙ e)) here of r include))
      (λ other. elsewhere y other.0 (λ same. never (ap (λ z. z == x) same ∙ test_same x) other.1) (let s = bind_named n.inc y p include
      avoid (listed_entry y d) (record { named = o; count = n.count }) in let q = s.part in q.named)
      (let s = bind_named n.inc y p include avoid (listed_entry y d) (record { named = o; count = n.count }) in let q = s.part in q.count)
      (let s = bind_named n.inc y p include avoid (listed_entry y d) (record { named = o; count = n.count }) in
      s.outs) (let s = bind_named n.inc y p include avoid (listed_entry y d) (record { named = o; count = n.count }) in s.reply))
      (one_or_two y x)

  pub bound_by_acts : (y : ℕ) → Bound_goal y (bind p y include avoid d n)
  bound_by_acts y = by (is_over p n)
    where
      by : (b : Bool) → Bound_goal y
          (if b then void n else on_counted y (bind_named n.inc y p include avoid (listed_entry y d)) n (at_number y n.objects))
      by true = λ is. absurd (cc is)
      by false = of_object y (at_number y n.objects) refl

pub binds_are_acts : BindsAreActs
binds_are_acts x y tops p include avoid d n A r c sees here of is = bound_by_acts x tops p include avoid d n A r c sees here of y is
