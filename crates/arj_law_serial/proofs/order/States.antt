-- The last state of an object by its decided tops is the journal's.
use Rattle.arj_law_parts.proofs.Words
use Words.{◌≡◌, ◌≢◌, ◌⊎◌, ◌<◌, ◌≤◌, ℕ, ◌+◌, ◌==◌, ◌&&◌, ◌||◌, List, [], ◌∷◌, ◌++◌, filter, length, Bool, true, false, cond, nat_lt, Option}
use Words.{Some, None, is_some, unwrap_or, refl, sym, ◌∙◌, ap, subst, inl, inr, ⊎_elim, arith, Contains, eqb-true, eq-eqb, AllByRecursion}
use Words.{list_any, and_parts, nat_tests, value_after, writes, Value, Header, Line, In, in_filter, in_from, in_to, uid_number}
use Words.{Uid}
use Rattle.arj_law_serial.proofs.Terms
use Terms.{Top, committed_calls, tops, first_values, Values, run, serial_calls, top_place, writes_on, InOrder}
use Terms.{Pairwise, not_below_itself, writes_conflict, rises, new_book, AreRight, Chain, counts_of, Done, Packed, last_in, packed}
use Terms.{AreDecided, AreDecisions, AreNewestFirst, CommitsComeFirst, WroteSo, content_of, left_by, marked}
use Terms.words
use Rattle.arj_law.proofs.{Answers.run-append, Common.pairwise_before, Last.value_of_writes, Last.writes_are}
use Rattle.arj_law_disk.specs.machine.Laws.{writes_in}
use Rattle.arj_law_runs.proofs.journal.Books.{never}
use Rattle.arj_law_serial.proofs.{order.Ties.Ties, order.Tying.all_at, order.Values.to_filter}
use Rattle.arj_law_serial.proofs.order.Order.{all_called_first, all_in_order, call_before, listed, place_of_top}
use Rattle.arj_law_serial.specs.order.Decided.{IsCalledFirst, IsLastWrite}
use Rattle.arj_model.specs.{Book.writes_before, Calls.Call, Last.count_tops, Last.last_from, Last.writer_from, Last.writes_of}
use Rattle.arj_start.specs.{Start.Mark, Start.Marks, Start.format_at}
use Rattle.arj_base.specs.declared.state.Format.{Format}
use Rattle.arj_law_serial.proofs.order.Contents.{later_format}

-- ---- lists

-- the greatest of calls whose places rise is the last one
last_one : (xs : List Call) (c : Call) → Pairwise (λ (a b : Call). a.at < b.at) xs → In c xs → ((e : Call) → In e xs → e.at ≤ c.at) →
    (front : List Call) × (xs ≡ front ++ c ∷ [])
last_one [] c w i most = absurd i
last_one (x ∷ xs) c w (inl is) most = ([], by xs w.0 (λ e j. most e (inr j)))
  where
    by : (ys : List Call) → AllByRecursion (λ (b : Call). x.at < b.at) ys → ((e : Call) → In e ys → e.at ≤ c.at) → x ∷ ys ≡ c ∷ []
    by [] all f = ap (λ z. z ∷ []) is
    by (y ∷ ys) all f = let l = f y (inl refl) in let k = all.0 in let e = ap (λ (z : Call). z.at) is in absurd (omega (arith, l, k, e))
last_one (x ∷ xs) c w (inr i) most = let r = last_one xs c w.1 i (λ e j. most e (inr j)) in (x ∷ r.0, ap (λ ys. x ∷ ys) r.1)

rises_filtered : (p : Call → Bool) (xs : List Call) → Pairwise (λ (a b : Call). a.at < b.at) xs →
    Pairwise (λ (a b : Call). a.at < b.at) (filter p xs)
rises_filtered p [] w = tt
rises_filtered p (x ∷ xs) w = by (p x) (rises_filtered p xs w.1)
  where
    all_left : (ys : List Call) → AllByRecursion (λ (b : Call). x.at < b.at) ys → AllByRecursion (λ (b : Call). x.at < b.at) (filter p ys)
    all_left [] a = tt
    all_left (y ∷ ys) a = one (p y) (all_left ys a.1)
      where
        one : (b : Bool) → AllByRecursion (λ (z : Call). x.at < z.at) (filter p ys) →
            AllByRecursion (λ (z : Call). x.at < z.at) (cond b (y ∷ filter p ys) (filter p ys))
        one true r = (a.0, r)
        one false r = r

    by : (b : Bool) → Pairwise (λ (a c : Call). a.at < c.at) (filter p xs) →
        Pairwise (λ (a c : Call). a.at < c.at) (cond b (x ∷ filter p xs) (filter p xs))
    by true r = (all_left xs w.0, r)
    by false r = r

filter_and : (p q : Call → Bool) (xs : List Call) → filter (λ (w : Call). p w && q w) xs ≡ filter p (filter q xs)
filter_and p q [] = refl
filter_and p q (x ∷ xs) = by (q x) (p x) refl (filter_and p q xs)
  where
    by : (b a : Bool) → p x ≡ a → filter (λ (w : Call). p w && q w) xs ≡ filter p (filter q xs) → cond (a && b) (x
        ∷ filter (λ (w : Call). p w && q w) xs) (filter (λ (w : Call). p w && q w) xs) ≡ filter p (cond b (x ∷ filter q xs) (filter q xs))
    by true true is ih = ap (λ ys. x ∷ ys) ih ∙ sym (ap (λ t. cond t (x ∷ filter p (filter q xs)) (filter p (filter q xs))) is)
    by true false is ih = ih ∙ sym (ap (λ t. cond t (x ∷ filter p (filter q xs)) (filter p (filter q xs))) is)
    by false true is ih = ih
    by false false is ih = ih

-- what stands before the last one
before_last_one : (front : List Call) (c : Call) → AllByRecursion (λ (b : Call). b.at < c.at) front →
    filter (λ (w : Call). nat_lt w.at c.at) (front ++ c ∷ []) ≡ front
before_last_one [] c all = ap (λ b. cond b (c ∷ []) []) (not_below_itself c.at)
before_last_one (x ∷ front) c all = ap (λ b. cond b (x ∷ filter (λ (w : Call). nat_lt w.at c.at) (front ++ c ∷ []))
    (filter (λ (w : Call). nat_lt w.at c.at) (front ++ c ∷ []))) (yes x.at c.at all.0) ∙ ap (λ ys. x ∷ ys) (before_last_one front c all.1)
  where
    yes : (m n : ℕ) → m < n → nat_lt m n ≡ true
    yes m n l = grind (arith, nat_tests)

last_writer_is : (u : Uid) (front : List Call) (c : Call) → writer_from u (front ++ c ∷ []) ≡ c.writer
last_writer_is u [] c = refl
last_writer_is u (x ∷ front) c = last_writer_is x.writer front c

-- ---- how many tops made calls

-- none of these is that number
abbrev Without : ℕ → List ℕ → Type 0
Without n ms = AllByRecursion (λ m. m ≢ n) ms

-- each is there once
abbrev pub AreOnce : List ℕ → Type 0
AreOnce [] = Unit {0}
AreOnce (n ∷ ns) = Without n ns × AreOnce ns

off : (m n : ℕ) → m ≢ n → (m == n) ≡ false
off m n other = by (m == n) refl
  where
    by : (b : Bool) → (m == n) ≡ b → b ≡ false
    by true is = absurd (other (eqb-true m n is))
    by false is = refl

abbrev drop_one : ℕ → List ℕ → List ℕ
drop_one n [] = []
drop_one n (m ∷ ms) = cond (m == n) ms (m ∷ drop_one n ms)

dropped_length : (n : ℕ) (ms : List ℕ) → In n ms → length ms ≡ length (drop_one n ms) + 1
dropped_length n [] i = absurd i
dropped_length n (m ∷ ms) i = by (m == n) refl i (dropped_length n ms)
  where
    by : (b : Bool) → (m == n) ≡ b → In n (m ∷ ms) → (In n ms → length ms ≡ length (drop_one n ms) + 1) →
        length (m ∷ ms) ≡ length (cond b ms (m ∷ drop_one n ms)) + 1
    by true is j ih = omega arith
    by false is (inl same) ih = never (eq-eqb m n same) is
    by false is (inr j) ih = let e = ih j in omega (arith, e)

dropped_in : (n k : ℕ) (ms : List ℕ) → k ≢ n → In k ms → In k (drop_one n ms)
dropped_in n k [] other i = absurd i
dropped_in n k (m ∷ ms) other i = by (m == n) refl i (dropped_in n k ms other)
  where
    by : (b : Bool) → (m == n) ≡ b → In k (m ∷ ms) → (In k ms → In k (drop_one n ms)) → In k (cond b ms (m ∷ drop_one n ms))
    by true is (inl same) ih = absurd (other (sym same ∙ eqb-true m n is))
    by true is (inr j) ih = j
    by false is (inl same) ih = inl same
    by false is (inr j) ih = inr (ih j)

in_dropped : (n k : ℕ) (ms : List ℕ) → In k (drop_one n ms) → In k ms
in_dropped n k [] i = absurd i
in_dropped n k (m ∷ ms) i = by (m == n) i (in_dropped n k ms)
  where
    by : (b : Bool) → In k (cond b ms (m ∷ drop_one n ms)) → (In k (drop_one n ms) → In k ms) → In k (m ∷ ms)
    by true j ih = inr j
    by false (inl same) ih = inl same
    by false (inr j) ih = inr (ih j)

once_dropped : (n : ℕ) (ms : List ℕ) → AreOnce ms → AreOnce (drop_one n ms)
once_dropped n [] once = tt
once_dropped n (m ∷ ms) once = by (m == n) (once_dropped n ms once.1)
  where
    all_left : (ks : List ℕ) → Without m ks → Without m (drop_one n ks)
    all_left [] all = tt
    all_left (k ∷ ks) all = one (k == n) (all_left ks all.1)
      where
        one : (b : Bool) → Without m (drop_one n ks) → Without m (cond b ks (k ∷ drop_one n ks))
        one true r = all.1
        one false r = (all.0, r)

    by : (b : Bool) → AreOnce (drop_one n ms) → AreOnce (cond b ms (m ∷ drop_one n ms))
    by true r = once.1
    by false r = (all_left ms once.0, r)

-- it isn't left
not_dropped : (n : ℕ) (ms : List ℕ) → AreOnce ms → In n (drop_one n ms) → ⊥
not_dropped n [] once i = i
not_dropped n (m ∷ ms) once i = by (m == n) refl i (not_dropped n ms once.1)
  where
    at : (ks : List ℕ) → Without m ks → In n ks → m ≡ n → ⊥
    at [] all j e = j
    at (k ∷ ks) all (inl is) e = all.0 (is ∙ sym e)
    at (k ∷ ks) all (inr j) e = at ks all.1 j e

    by : (b : Bool) → (m == n) ≡ b → In n (cond b ms (m ∷ drop_one n ms)) → (In n (drop_one n ms) → ⊥) → ⊥
    by true is j ih = at ms once.0 j (eqb-true m n is)
    by false is (inl same) ih = never (eq-eqb m n same) is
    by false is (inr j) ih = ih j

-- The tops that made calls are as many as a list that has each of them once.
pub count_is : (cs : List Call) (ns : List ℕ) → AreOnce ns → ((c : Call) → In c cs → In c.top ns) →
    ((n : ℕ) → In n ns → (c : Call) × In c cs × (c.top ≡ n)) → count_tops cs ≡ length ns
count_is [] [] once there made = refl
count_is [] (n ∷ ns) once there made = absurd ((made n (inl refl)).1)
count_is (c ∷ cs) ns once there made = by (λ ms o t m. count_is cs ms o t m) (list_any (λ (d : Call). d.top == c.top) cs) refl
  where
    some_later : (ds : List Call) → list_any (λ (d : Call). d.top == c.top) ds ≡ true → (d : Call) × In d ds × (d.top ≡ c.top)
    some_later [] e = absurd (cc e)
    some_later (d ∷ ds) e = one (d.top == c.top) refl e (some_later ds)
      where
        one : (b : Bool) → (d.top == c.top) ≡ b → (b || list_any (λ (z : Call). z.top == c.top) ds) ≡ true → (list_any (λ (z : Call). z.top
            == c.top) ds ≡ true → (z : Call) × In z ds × (z.top ≡ c.top)) → (z : Call) × In z (d ∷ ds) × (z.top ≡ c.top)
        one true is f ih = (d, inl refl, eqb-true d.top c.top is)
        one false is f ih = let r = ih f in (r.0, inr r.1, r.2)

    none_later : (ds : List Call) → list_any (λ (d : Call). d.top == c.top) ds ≡ false → (d : Call) → In d ds → d.top ≢ c.top
    none_later [] e d i = absurd i
    none_later (z ∷ ds) e d i = one (z.top == c.top) refl e i (none_later ds)
      where
        one : (b : Bool) → (z.top == c.top) ≡ b → (b || list_any (λ (y : Call). y.top == c.top) ds) ≡ false → In d (z ∷ ds) →
            (list_any (λ (y : Call). y.top == c.top) ds ≡ false → (y : Call) → In y ds → y.top ≢ c.top) → d.top ≢ c.top
        one true is f j ih = absurd (cc f)
        one false is f (inl same) ih = λ e. never (eq-eqb z.top c.top (ap (λ (y : Call). y.top) same ∙ e)) is
        one false is f (inr j) ih = ih f d j

    by : ((ms : List ℕ) → AreOnce ms → ((d : Call) → In d cs → In d.top ms) → ((n : ℕ) → In n ms → (d : Call) × In d cs × (d.top ≡ n)) →
        count_tops cs ≡ length ms) → (b : Bool) → list_any (λ (d : Call). d.top == c.top) cs ≡ b →
        cond b (count_tops cs) (count_tops cs + 1) ≡ length ns
    by again true is =
        let d = some_later cs is in
        again ns once (λ e i. there e (inr i)) (λ n i. let m = made n i in
        ⊎_elim (λ (same : c ≡ m.0). (d.0, d.1, d.2 ∙ ap (λ (y : Call). y.top) same ∙ m.2)) (λ j. (m.0, j, m.2)) m.1)
    by again false is =
        let apart = none_later cs is in
        let ih : count_tops cs ≡ length (drop_one c.top ns) = again (drop_one c.top ns) (once_dropped c.top ns once)
        (λ e i. dropped_in c.top e.top ns (apart e i) (there e (inr i)))
        (λ n i. let m = made n (in_dropped c.top n ns i) in ⊎_elim (λ (same : c ≡ m.0). absurd (not_dropped c.top ns once
        (subst (λ k. In k (drop_one c.top ns)) (sym (ap (λ (y : Call). y.top) same ∙ m.2)) i))) (λ j. (m.0, j, m.2)) m.1) in
        let e = dropped_length c.top ns (there c (inl refl)) in
        omega (arith, ih, e)

-- ---- decided tops that count

module _ (values : Values) (lines : List Line) (right : AreRight new_book lines) (tied : Ties values lines) (x : ℕ) where
  abbrev K : List Call
  K = committed_calls lines

  -- the numbers of those that wrote
  abbrev by_write : Option Packed → Top → List ℕ → List ℕ
  by_write None t ns = ns
  by_write (Some w) t ns = t.id ∷ ns

  abbrev writers : List Done → List Top → List ℕ
  writers [] ts = []
  writers (d ∷ ds) [] = []
  writers (d ∷ ds) (t ∷ ts) = by_write d.plan.writes t (writers ds ts)

  writers_length : (ds : List Done) (ts : List Top) → AreDecisions values lines x ds ts → length (writers ds ts) ≡ writes_in ds
  writers_length [] [] are = refl
  writers_length [] (t ∷ ts) are = absurd are
  writers_length (d ∷ ds) [] are = absurd are
  writers_length (d ∷ ds) (t ∷ ts) are = by d.plan.writes (writers_length ds ts are.1)
    where
      by : (o : Option Packed) → length (writers ds ts) ≡ writes_in ds →
          length (by_write o t (writers ds ts)) ≡ writes_in ds + cond (is_some o) 1 0
      by None ih = omega (arith, ih)
      by (Some w) ih = omega (arith, ih)

  -- who wrote is one of the tops
  writer_is : (ds : List Done) (ts : List Top) (n : ℕ) → In n (writers ds ts) → (t : Top) × In t ts × (t.id ≡ n)
  writer_is [] ts n i = absurd i
  writer_is (d ∷ ds) [] n i = absurd i
  writer_is (d ∷ ds) (t ∷ ts) n i = by d.plan.writes i (writer_is ds ts n)
    where
      by : (o : Option Packed) → In n (by_write o t (writers ds ts)) → (In n (writers ds ts) → (u : Top) × In u ts × (u.id ≡ n)) →
          (u : Top) × In u (t ∷ ts) × (u.id ≡ n)
      by None j ih = let r = ih j in (r.0, inr r.1, r.2)
      by (Some w) (inl is) ih = (t, inl refl, is)
      by (Some w) (inr j) ih = let r = ih j in (r.0, inr r.1, r.2)

  -- and wrote
  wrote_some : (ds : List Done) (ts : List Top) → AreDecisions values lines x ds ts → (n : ℕ) → In n (writers ds ts) →
      (c : Call) × In c K × (writes_on x c ≡ true) × (c.top ≡ n)
  wrote_some [] [] are n i = absurd i
  wrote_some [] (t ∷ ts) are n i = absurd are
  wrote_some (d ∷ ds) [] are n i = absurd are
  wrote_some (d ∷ ds) (t ∷ ts) are n i = by d.plan.writes (let q = are.0 in q.wrote) i (wrote_some ds ts are.1 n)
    where
      by : (o : Option Packed) → WroteSo values lines x t o → In n (by_write o t (writers ds ts)) → (In n (writers ds ts) →
          (c : Call) × In c K × (writes_on x c ≡ true) × (c.top ≡ n)) → (c : Call) × In c K × (writes_on x c ≡ true) × (c.top ≡ n)
      by None w j ih = ih j
      by (Some g) w (inl is) ih = let l = w.1 in (w.0, in_from w.0 K l.there, l.write, l.whose ∙ is)
      by (Some g) w (inr j) ih = ih j

  -- a write is of one that wrote
  write_among : (ds : List Done) (ts : List Top) → AreDecisions values lines x ds ts → (e : Call) → In e K → writes_on x e ≡ true →
      (t : Top) → In t ts → e.top ≡ t.id → In e.top (writers ds ts)
  write_among [] [] are e i w t j same = absurd j
  write_among [] (u ∷ ts) are e i w t j same = absurd are
  write_among (d ∷ ds) [] are e i w t j same = absurd are
  write_among (d ∷ ds) (u ∷ ts) are e i w t j same =
      by d.plan.writes (let q = are.0 in q.wrote) j (λ k. write_among ds ts are.1 e i w t k same)
    where
      by : (o : Option Packed) → WroteSo values lines x u o → In t (u ∷ ts) → (In t ts → In e.top (writers ds ts)) →
          In e.top (by_write o u (writers ds ts))
      by None q (inl is) ih = never w (q e (in_to e K i) (same ∙ ap (λ (y : Top). y.id) (sym is)))
      by None q (inr k) ih = ih k
      by (Some g) q (inl is) ih = inl (ap (λ (y : Top). y.id) is ∙ sym same)
      by (Some g) q (inr k) ih = inr (ih k)

  those_listed : (ds : List Done) (ts : List Top) → AreDecisions values lines x ds ts → (t : Top) → In t ts → In t (tops lines)
  those_listed [] [] are t i = absurd i
  those_listed [] (u ∷ ts) are t i = absurd are
  those_listed (d ∷ ds) [] are t i = absurd are
  those_listed (d ∷ ds) (u ∷ ts) are t (inl is) = subst (λ y. In y (tops lines)) is (in_from u (tops lines) (let q = are.0 in q.listed))
  those_listed (d ∷ ds) (u ∷ ts) are t (inr i) = those_listed ds ts are.1 t i

  -- tops with one number are one
  same_top : (t u : Top) → In t (tops lines) → In u (tops lines) → t.id ≡ u.id → t.at ≡ u.at
  same_top t u i j e = let a = let l = listed lines right in l.apart in
      sym (place_of_top (tops lines) t a i) ∙ ap (top_place (tops lines)) e ∙ place_of_top (tops lines) u a j

  writers_once : (ds : List Done) (ts : List Top) → AreDecisions values lines x ds ts → AreNewestFirst ts → AreOnce (writers ds ts)
  writers_once [] ts are falls = tt
  writers_once (d ∷ ds) [] are falls = tt
  writers_once (d ∷ ds) (t ∷ ts) are falls = by d.plan.writes (writers_once ds ts are.1 falls.1)
    where
      apart : (ns : List ℕ) → ((n : ℕ) → In n ns → In n (writers ds ts)) → Without t.id ns
      apart [] f = tt
      apart (n ∷ ns) f = (
        (λ e. let r = writer_is ds ts n (f n (inl refl)) in
            let less = all_at (λ (u : Top). u.at < t.at) ts falls.0 r.0 r.1 in
            let same = same_top r.0 t (those_listed ds ts are.1 r.0 r.1) (in_from t (tops lines) (let q = are.0 in q.listed)) (r.2 ∙ e) in
            absurd (omega (arith, less, same))),
        apart ns (λ m i. f m (inr i)),
      )

      by : (o : Option Packed) → AreOnce (writers ds ts) → AreOnce (by_write o t (writers ds ts))
      by None r = r
      by (Some w) r = (apart (writers ds ts) (λ n i. i), r)

  -- ---- the newest that wrote

  -- no surviving write on the object is of the top
  abbrev IsSilent : Top → Type 0
  IsSilent u = (e : Call) → In e K → e.top ≡ u.id → writes_on x e ≡ false

  record IsNewest (first : Packed) (ds : List Done) (ts : List Top) : Type 0 where
    top : Top
    there : In top ts
    state : Packed
    last_is : last_in first ds ≡ state
    wrote : WroteSo values lines x top (Some state)
    others : (u : Top) → In u ts → (u ≡ top) ⊎ ((u.at < top.at) ⊎ IsSilent u)

  find_newest : (first : Packed) (ds : List Done) (ts : List Top) → AreDecisions values lines x ds ts → AreNewestFirst ts →
      (((u : Top) → In u ts → IsSilent u) × (last_in first ds ≡ first) × (writes_in ds ≡ 0)) ⊎ IsNewest first ds ts
  find_newest first [] [] are falls = inl ((λ u i. absurd i), refl, refl)
  find_newest first [] (t ∷ ts) are falls = absurd are
  find_newest first (d ∷ ds) [] are falls = absurd are
  find_newest first (d ∷ ds) (t ∷ ts) are falls = by d.plan.writes refl (let q = are.0 in q.wrote) (find_newest first ds ts are.1 falls.1)
    where
      silent : WroteSo values lines x t None → IsSilent t
      silent q e i = q e (in_to e K i)

      by : (o : Option Packed) → d.plan.writes ≡ o → WroteSo values lines x t o →
          (((u : Top) → In u ts → IsSilent u) × (last_in first ds ≡ first) × (writes_in ds ≡ 0)) ⊎ IsNewest first ds ts
          → (((u : Top) → In u (t ∷ ts) → IsSilent u) × (last_in first (d ∷ ds) ≡ first) × (writes_in (d ∷ ds) ≡ 0))
          ⊎ IsNewest first (d ∷ ds) (t ∷ ts)
      by None is q (inl (none, last_first, zero)) = inl (
        (λ u i. ⊎_elim (λ (same : t ≡ u). subst IsSilent same (silent q)) (λ j. none u j) i),
        ap (λ o. unwrap_or o (last_in first ds)) is ∙ last_first,
        ap (λ o. writes_in ds + cond (is_some o) 1 0) is ∙ (let e : writes_in ds + 0 ≡ 0 = omega (arith, zero) in e),
      )
      by None is q (inr n) = inr (record {
        top = n.top;
        there = inr n.there;
        state = n.state;
        last_is = ap (λ o. unwrap_or o (last_in first ds)) is ∙ n.last_is;
        wrote = n.wrote;
        others = λ u i. ⊎_elim (λ (same : t ≡ u). inr (inr (subst IsSilent same (silent q)))) (λ j. n.others u j) i;
      })
      by (Some w) is q rest = inr (record {
        top = t;
        there = inl refl;
        state = w;
        last_is = ap (λ o. unwrap_or o (last_in first ds)) is;
        wrote = q;
        others = λ u i. ⊎_elim (λ (same : t ≡ u). inl (sym same)) (λ j. inr (inl (all_at (λ (v : Top). v.at < t.at) ts falls.0 u j))) i;
      })

-- ---- the last state

-- who called the last of calls is counted
count_some : (cs : List Call) (c : Call) → 1 ≤ count_tops (cs ++ c ∷ [])
count_some [] c = omega arith
count_some (d ∷ cs) c = by (list_any (λ (e : Call). e.top == d.top) (cs ++ c ∷ [])) (count_some cs c)
  where
    by : (b : Bool) → 1 ≤ count_tops (cs ++ c ∷ []) → 1 ≤ cond b (count_tops (cs ++ c ∷ [])) (count_tops (cs ++ c ∷ []) + 1)
    by true ih = ih
    by false ih = omega (arith, ih)

-- versions rise with each top that wrote
chain_version : (first : Packed) (ds : List Done) → Chain first ds → (last_in first ds).version ≡ first.version + writes_in ds
chain_version first [] c = let e : first.version ≡ first.version + 0 = omega arith in e
chain_version first (d ∷ ds) c = by (chain_version first ds c.1) d.plan.writes refl
  where
    by : (last_in first ds).version ≡ first.version + writes_in ds → (o : Option Packed) → d.plan.writes ≡ o →
        (unwrap_or o (last_in first ds)).version ≡ first.version + (writes_in ds + cond (is_some o) 1 0)
    by ih None e = omega (arith, ih)
    by ih (Some w) e = let above = c.0 w e in omega (arith, ih, above)

module _ (header : Header) (lines : List Line) (right : AreRight new_book lines) (tied : Ties (first_values header) lines) (x : ℕ)
    (first : Packed) (ds : List Done) (chain : Chain first ds) (plain : (d : Done) → words.In d ds → d.counts ≡ false → d.plan.writes
    ≡ None) (decided : AreDecided header lines x ds) (marks : Marks) (first_is : first ≡ marked (marks.states x)
    (content_of (format_at header.format (let m = marks.states x in m.version)) (first_values header x))) where
  abbrev mark : Mark
  mark = marks.states x

  abbrev values : Values
  values = first_values header

  abbrev counting : List Done
  counting = filter counts_of ds

  abbrev written : List Call
  written = filter (writes_on x) (committed_calls lines)

  order : InOrder lines
  order = all_in_order values lines right tied

  first_calls : CommitsComeFirst lines
  first_calls = all_called_first values lines right tied

  counted_last : (es : List Done) → ((d : Done) → words.In d es → d.counts ≡ false → d.plan.writes ≡ None) →
      last_in first es ≡ last_in first (filter counts_of es)
  counted_last [] none = refl
  counted_last (d ∷ es) none = by d.counts refl (counted_last es (λ e i. none e (inr i)))
    where
      by : (b : Bool) → d.counts ≡ b → last_in first es ≡ last_in first (filter counts_of es) →
          unwrap_or d.plan.writes (last_in first es) ≡ last_in first (cond b (d ∷ filter counts_of es) (filter counts_of es))
      by true is ih = ap (unwrap_or d.plan.writes) ih
      by false is ih = ap (λ o. unwrap_or o (last_in first es)) (none d (inl refl) is) ∙ ih

  by_counting : last_in first counting ≡ last_in first ds
  by_counting = sym (counted_last ds plain)

  counted_writes : (es : List Done) → ((d : Done) → words.In d es → d.counts ≡ false → d.plan.writes ≡ None) →
      writes_in es ≡ writes_in (filter counts_of es)
  counted_writes [] none = refl
  counted_writes (d ∷ es) none = by d.counts refl (counted_writes es (λ e i. none e (inr i)))
    where
      by : (b : Bool) → d.counts ≡ b → writes_in es ≡ writes_in (filter counts_of es) →
          writes_in es + cond (is_some d.plan.writes) 1 0 ≡ writes_in (cond b (d ∷ filter counts_of es) (filter counts_of es))
      by true is ih = ap (λ n. n + cond (is_some d.plan.writes) 1 0) ih
      by false is ih = ap (λ o. writes_in es + cond (is_some o) 1 0) (none d (inl refl) is)
          ∙ (let e : writes_in es + 0 ≡ writes_in (filter counts_of es) = omega (arith, ih) in e)

  version_is : (last_in first ds).version ≡ first.version + writes_in counting
  version_is = chain_version first ds chain ∙ ap (λ n. first.version + n) (counted_writes ds plain)

  -- versions count the tops that wrote
  count_of : count_tops written ≡ writes_in counting
  count_of =
      count_is written (writers values lines right tied x counting decided.those)
      (writers_once values lines right tied x counting decided.those decided.each decided.called)
      (λ c i. let f = in_filter (writes_on x) c (committed_calls lines) i in let t = decided.all c (in_to c (committed_calls lines) f.0) f.1
      in write_among values lines right tied x counting decided.those decided.each c f.0 f.1 t.0 (in_from t.0 decided.those t.1) t.2)
      (λ n i. let w = wrote_some values lines right tied x counting decided.those decided.each n i in
      (w.0, to_filter (writes_on x) w.0 (committed_calls lines) w.1 w.2, w.3))
      ∙ writers_length values lines right tied x counting decided.those decided.each

  state_is : (v : Value) (cs : List Call) → run values (serial_calls lines) x ≡ v → writes_of lines x ≡ cs →
      packed (last_from header marks lines x)
      ≡ record {
        version = mark.version + count_tops cs;
        writer = uid_number (writer_from mark.writer cs);
        content = content_of (format_at header.format (mark.version + count_tops cs)) v;
      }
  state_is v cs e f = (λ i. record {
    version = mark.version + count_tops (f i);
    writer = uid_number (writer_from mark.writer (f i));
    content = content_of (format_at header.format (mark.version + count_tops (f i))) (e i);
  })

  writes_same : writes_of lines x ≡ written
  writes_same = writes_are lines x order

  value_same : run values (serial_calls lines) x ≡ run values written x
  value_same = value_of_writes values lines x ∙ ap (λ cs. run values cs x) writes_same

  none_written : (cs : List Call) → ((e : Call) → In e cs → writes_on x e ≡ false) → filter (writes_on x) cs ≡ []
  none_written [] none = refl
  none_written (c ∷ cs) none =
      ap (λ b. cond b (c ∷ filter (writes_on x) cs) (filter (writes_on x) cs)) (none c (inl refl)) ∙ none_written cs (λ e i. none e (inr i))

  -- nothing was written
  unwritten : ((u : Top) → In u decided.those → IsSilent values lines right tied x u) → last_in first counting ≡ first →
      last_in first ds ≡ packed (last_from header marks lines x)
  unwritten silent same =
      let empty : written ≡ [] = none_written (committed_calls lines) (λ e i. by e i (writes_on x e) refl) in
      sym by_counting ∙ same ∙ first_is ∙ (λ i. record {
        version = zero i;
        writer = uid_number mark.writer;
        content = content_of (format_at header.format (zero i)) (values x);
      })
      ∙ sym (state_is (values x) [] (value_same ∙ ap (λ cs. run values cs x) empty) (writes_same ∙ empty))
    where
      zero : mark.version ≡ mark.version + 0
      zero = omega arith

      by : (e : Call) → In e (committed_calls lines) → (b : Bool) → writes_on x e ≡ b → writes_on x e ≡ false
      by e i true is = let t = decided.all e (in_to e (committed_calls lines) i) is in silent t.0 (in_from t.0 decided.those t.1) e i t.2
      by e i false is = is

  -- the newest write
  newest_write : IsNewest values lines right tied x first counting decided.those →
      last_in first ds ≡ packed (last_from header marks lines x)
  newest_write n = sym whole_state ∙ sym (state_is (left_by values lines c) (found.0 ++ c ∷ [])
      (value_same ∙ ap (λ cs. run values cs x) split ∙ value_left) (writes_same ∙ split))
    where
      c : Call
      c = let w = n.wrote in w.0

      l : IsLastWrite lines x n.top c
      l = let w = n.wrote in w.1

      c_there : In c (committed_calls lines)
      c_there = in_from c (committed_calls lines) l.there

      c_in : In c written
      c_in = to_filter (writes_on x) c (committed_calls lines) c_there l.write

      object : c.x ≡ x
      object = eqb-true c.x x (and_parts (c.x == x) (writes c.op) l.write).0

      n_listed : In n.top (tops lines)
      n_listed = those_listed values lines right tied x counting decided.those decided.each n.top n.there

      place : top_place (tops lines) c.top ≡ (let t = n.top in t.at)
      place = ap (top_place (tops lines)) l.whose ∙ place_of_top (tops lines) n.top (let q = listed lines right in q.apart) n_listed

      most : (e : Call) → In e written → e.at ≤ c.at
      most e i = by (n.others u.0 (in_from u.0 decided.those u.1))
        where
          f : In e (committed_calls lines) × (writes_on x e ≡ true)
          f = in_filter (writes_on x) e (committed_calls lines) i

          u : (t : Top) × Contains decided.those t × (e.top ≡ t.id)
          u = decided.all e (in_to e (committed_calls lines) f.0) f.1

          u_listed : In u.0 (tops lines)
          u_listed = those_listed values lines right tied x counting decided.those decided.each u.0 (in_from u.0 decided.those u.1)

          cases : (a b : ℕ) → (a ≤ b) ⊎ (b < a)
          cases a b = grind arith

          by : (u.0 ≡ n.top) ⊎ (((let t = u.0 in t.at) < (let t = n.top in t.at)) ⊎ IsSilent values lines right tied x u.0) → e.at ≤ c.at
          by (inl same) = l.last e (in_to e (committed_calls lines) f.0) (u.2 ∙ ap (λ (t : Top). t.id) same) f.1
          by (inr (inl older)) = ⊎_elim (λ fine. fine) (λ late.
              let other : (c.top == e.top) ≡ false = off c.top e.top (λ same. let at = same_top values lines right tied x n.top u.0 n_listed
              u_listed (sym l.whose ∙ same ∙ u.2) in absurd (omega (arith, at, older))) in
              let early = all_at (IsCalledFirst lines c) (committed_calls lines)
              (all_at (λ (a : Call). AllByRecursion (IsCalledFirst lines a) (committed_calls lines)) (committed_calls lines) first_calls
              c c_there) e f.0 late other (writes_conflict x c e l.write f.1) in
              let b = call_before values lines right tied e f.0 in
              let at = same_top values lines right tied x b.0 u.0 b.1 u_listed (sym b.2 ∙ u.2) in
              let less = b.3 in
              absurd (omega (arith, early, place, less, at, older))) (cases e.at c.at)
          by (inr (inr silent)) = never f.1 (silent e f.0 u.2)

      found : (front : List Call) × (written ≡ front ++ c ∷ [])
      found = last_one written c (rises_filtered (writes_on x) (committed_calls lines) (rises lines)) c_in most

      split : written ≡ found.0 ++ c ∷ []
      split = found.1

      before : writes_before (committed_calls lines) c ≡ found.0
      before =
          ap (λ y. filter (λ (w : Call). nat_lt w.at c.at && writes_on y w) (committed_calls lines)) object
          ∙ filter_and (λ (w : Call). nat_lt w.at c.at) (writes_on x) (committed_calls lines)
          ∙ ap (filter (λ (w : Call). nat_lt w.at c.at)) split
          ∙ before_last_one found.0 c (pairwise_before (λ (a b : Call). a.at < b.at) found.0 c [] (subst
          (λ cs. Pairwise (λ (a b : Call). a.at < b.at) cs) split (rises_filtered (writes_on x) (committed_calls lines) (rises lines))))

      value_left : run values (found.0 ++ c ∷ []) x ≡ left_by values lines c
      value_left =
          (λ i. run-append values found.0 (c ∷ []) i x)
          ∙ ap (λ b. cond b (value_after c.op (run values found.0 c.x)) (run values found.0 x)) (eq-eqb x c.x (sym object))
          ∙ ap (λ cs. value_after c.op (run values cs c.x)) (sym before)

      whole_state : record {
        version = mark.version + count_tops (found.0 ++ c ∷ []);
        writer = uid_number (writer_from mark.writer (found.0 ++ c ∷ []));
        content = content_of (format_at header.format (mark.version + count_tops (found.0 ++ c ∷ []))) (left_by values lines c);
      } ≡ last_in first ds
      whole_state =
          let state : last_in first ds ≡ n.state = sym by_counting ∙ n.last_is in
          let version : n.state.version ≡ mark.version + count_tops (found.0 ++ c ∷ []) = ap (λ (p : Packed). p.version) (sym state)
          ∙ version_is ∙ ap (λ (p : Packed). p.version + writes_in counting) first_is
          ∙ ap (λ m. mark.version + m) (sym count_of ∙ ap count_tops split) in
          let w = n.wrote in
          let writer : n.state.writer ≡ uid_number (writer_from mark.writer (found.0 ++ c ∷ [])) = w.2
          ∙ ap uid_number (sym (last_writer_is mark.writer found.0 c)) in
          let some = count_some found.0 c in
          let format = later_format header.format (mark.version + count_tops (found.0 ++ c ∷ [])) (omega (arith, some)) in
          (λ i. record {
            version = sym version i;
            writer = sym writer i;
            content = (ap (λ (g : Format). content_of g (left_by values lines c)) (sym format) ∙ sym w.3) i;
          })
          ∙ sym state

  pub state_is_last : last_in first ds ≡ packed (last_from header marks lines x)
  state_is_last = ⊎_elim (λ none. unwritten none.0 none.1) (λ n. newest_write n)
      (find_newest values lines right tied x first counting decided.those decided.each decided.called)
