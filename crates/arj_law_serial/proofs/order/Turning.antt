-- Tops that had their turns one after another stand in the serial order as their commits were called.
use Rattle.arj_law_parts.proofs.Words
use Words.{Contains, ◌≡◌, ◌⊎◌, ◌<◌, ℕ, ◌==◌, List, [], ◌∷◌, ◌++◌, filter, reverse, Bool, true, false, cond, Option, Some, None, refl, sym}
use Words.{◌∙◌, ap, subst, inl, inr, ⊎_elim, arith, eqb-true, eq-eqb, AllByRecursion, reverse-append, Header, Line, In, in_filter, in_from}
use Words.{in_to}
use Rattle.arj_law_serial.proofs.Terms
use Terms.{Act, Placed, committed, is_committed, recovered, root_in, top_in, serial_tops, Top, committed_calls, committing_of, committings}
use Terms.{root_or, top_by, tops, Values, lex, root_of, serial_key, top_place, unit_place, Pairwise, read_rises, writes_conflict, new_book}
use Terms.{rises, AreRight, AreNewestFirst, HaveTurns, IsInTurn}
use Rattle.arj_law.proofs.{Common.lex_turn, Common.pairwise_filter_map, Last.filter_arrange}
use Rattle.arj_law.specs.Growth.{AreDecidedInOrder}
use Rattle.arj_law_runs.proofs.journal.{Books.never, Likes.some_is}
use Rattle.arj_law_runs.specs.journal.Laws.{AreApart}
use Rattle.arj_law_serial.proofs.{order.Ties.Ties, order.Tying.all_at, order.Values.to_filter}
use Rattle.arj_law_serial.proofs.order.Order.{all_called_first, all_unit_first, call_before, listed, off_one, lex_first, lex_second}
use Rattle.arj_law_serial.proofs.order.Order.{place_of_top, root_of_top, unit_behind}
use Rattle.arj_law_serial.specs.order.Decided.{IsCalledFirst, WritersHaveTurns}
use Rattle.arj_model.specs.Calls.{Call, top_of}

-- ---- lists of tops by place

abbrev pub Rise : List Top → Type 0
Rise ts = Pairwise (λ (a b : Top). a.at < b.at) ts

pub tops_rise : (lines : List Line) → Rise (tops lines)
tops_rise lines =
    pairwise_filter_map (λ (m n : Placed (List Act)). m.at < n.at) (λ (a b : Top). a.at < b.at) (top_of (committed lines) (recovered lines))
    (λ m n a b less e f. subst (λ k. k < b.at) (sym (at_is m a e)) (subst (λ k. m.at < k) (sym (at_is n b f)) less)) (committings lines)
    (read_rises committing_of [] 0 lines)
  where
    at_is : (m : Placed (List Act)) (t : Top) → top_of (committed lines) (recovered lines) m ≡ Some t → t.at ≡ m.at
    at_is m t e = by (top_in m.it) e
      where
        from : (a : Act) (b : Bool) → cond b (Some (record { id = a.id; root = root_or a.id (root_in m.it); at = m.at })) None ≡ Some t →
            t.at ≡ m.at
        from a true f = ap (λ (z : Top). z.at) (sym (some_is (record { id = a.id; root = root_or a.id (root_in m.it); at = m.at }) t f))
        from a false f = absurd (cc f)

        by : (o : Option Act) → top_by (committed lines) (recovered lines) m o ≡ Some t → t.at ≡ m.at
        by None f = absurd (cc f)
        by (Some a) f = from a (is_committed (committed lines) (recovered lines) a) f

pub rises_kept : (p : Top → Bool) (ts : List Top) → Rise ts → Rise (filter p ts)
rises_kept p [] w = tt
rises_kept p (t ∷ ts) w = by (p t) (rises_kept p ts w.1)
  where
    all_left : (us : List Top) → AllByRecursion (λ (b : Top). t.at < b.at) us → AllByRecursion (λ (b : Top). t.at < b.at) (filter p us)
    all_left [] a = tt
    all_left (u ∷ us) a = one (p u) (all_left us a.1)
      where
        one : (b : Bool) → AllByRecursion (λ (z : Top). t.at < z.at) (filter p us) →
            AllByRecursion (λ (z : Top). t.at < z.at) (cond b (u ∷ filter p us) (filter p us))
        one true r = (a.0, r)
        one false r = r

    by : (b : Bool) → Rise (filter p ts) → Rise (cond b (t ∷ filter p ts) (filter p ts))
    by true r = (all_left ts w.0, r)
    by false r = r

rise_last : (ts : List Top) (t : Top) → Rise ts → AllByRecursion (λ (u : Top). u.at < t.at) ts → Rise (ts ++ t ∷ [])
rise_last [] t w all = (tt, tt)
rise_last (u ∷ ts) t w all = (more ts w.0, rise_last ts t w.1 all.1)
  where
    more : (us : List Top) → AllByRecursion (λ (b : Top). u.at < b.at) us → AllByRecursion (λ (b : Top). u.at < b.at) (us ++ t ∷ [])
    more [] a = (all.0, tt)
    more (v ∷ us) a = (a.0, more us a.1)

pub turned : (t : Top) (ts : List Top) → reverse (t ∷ ts) ≡ reverse ts ++ t ∷ []
turned t ts = reverse-append (t ∷ []) ts

in_last : (t u : Top) (ts : List Top) → In u ts ⊎ (t ≡ u) → In u (ts ++ t ∷ [])
in_last t u [] (inl i) = absurd i
in_last t u [] (inr is) = inl is
in_last t u (v ∷ ts) (inl (inl is)) = inl is
in_last t u (v ∷ ts) (inl (inr i)) = inr (in_last t u ts (inl i))
in_last t u (v ∷ ts) (inr is) = inr (in_last t u ts (inr is))

last_in : (t u : Top) (ts : List Top) → In u (ts ++ t ∷ []) → In u ts ⊎ (t ≡ u)
last_in t u [] (inl is) = inr is
last_in t u [] (inr i) = absurd i
last_in t u (v ∷ ts) (inl is) = inl (inl is)
last_in t u (v ∷ ts) (inr i) = ⊎_elim (λ j. inl (inr j)) (λ is. inr is) (last_in t u ts i)

pub to_reverse : (u : Top) (ts : List Top) → In u ts → In u (reverse ts)
to_reverse u [] i = absurd i
to_reverse u (t ∷ ts) i =
    subst (In u) (sym (turned t ts)) (in_last t u (reverse ts) (⊎_elim (λ is. inr is) (λ j. inl (to_reverse u ts j)) i))

pub from_reverse : (u : Top) (ts : List Top) → In u (reverse ts) → In u ts
from_reverse u [] i = absurd i
from_reverse u (t ∷ ts) i = ⊎_elim (λ j. inr (from_reverse u ts j)) (λ is. inl is) (last_in t u (reverse ts) (subst (In u) (turned t ts) i))

pub all_of : (P : Top → Type 0) (ts : List Top) → ((t : Top) → In t ts → P t) → AllByRecursion P ts
all_of P [] f = tt
all_of P (t ∷ ts) f = (f t (inl refl), all_of P ts (λ u i. f u (inr i)))

pub reversed_rises : (ts : List Top) → AreNewestFirst ts → Rise (reverse ts)
reversed_rises [] w = tt
reversed_rises (t ∷ ts) w = subst Rise (sym (turned t ts)) (rise_last (reverse ts) t (reversed_rises ts w.1)
    (all_of (λ (u : Top). u.at < t.at) (reverse ts) (λ u i. all_at (λ (v : Top). v.at < t.at) ts w.0 u (from_reverse u ts i))))

-- lists of the same tops, by place, are one
pub one_list : (ts us : List Top) → Rise ts → Rise us → ((t : Top) → In t ts → In t us) → ((t : Top) → In t us → In t ts) → ts ≡ us
one_list [] [] w v f g = refl
one_list [] (u ∷ us) w v f g = absurd (g u (inl refl))
one_list (t ∷ ts) [] w v f g = absurd (f t (inl refl))
one_list (t ∷ ts) (u ∷ us) w v f g = (λ i. first i ∷ one_list ts us w.1 v.1 forth back i)
  where
    itself : (x : Top) → x.at < x.at → ⊥
    itself x e = absurd (omega (arith, e))

    first : t ≡ u
    first = ⊎_elim (λ is. sym is) (λ j. ⊎_elim (λ is. is) (λ k. absurd (let l = all_at (λ (b : Top). u.at < b.at) us v.0 t j in
        let m = all_at (λ (b : Top). t.at < b.at) ts w.0 u k in omega (arith, l, m))) (g u (inl refl))) (f t (inl refl))

    forth : (x : Top) → In x ts → In x us
    forth x i = ⊎_elim (λ is. absurd (itself x (subst (λ y. y.at < x.at) (first ∙ is) (all_at (λ (b : Top). t.at < b.at) ts w.0 x i))))
        (λ j. j) (f x (inr i))

    back : (x : Top) → In x us → In x ts
    back x i = ⊎_elim (λ is. absurd (itself x (subst (λ y. y.at < x.at) (sym first ∙ is) (all_at (λ (b : Top). u.at < b.at) us v.0 x i))))
        (λ j. j) (g x (inr i))

-- ---- the serial order

module _ (lines : List Line) (right : AreRight new_book lines) where
  abbrev pub less : Top → Top → Bool
  less t u = lex (serial_key (tops lines) t.id) (serial_key (tops lines) u.id)

  key_is : (t : Top) → In t (tops lines) → serial_key (tops lines) t.id ≡ unit_place (tops lines) t.root ∷ t.at ∷ []
  key_is t i = let a = let l = listed lines right in l.apart in
      (λ k. unit_place (tops lines) (root_of_top (tops lines) t a i k) ∷ place_of_top (tops lines) t a i k ∷ [])

  -- one whose commit was called later isn't less
  pub stays : (u t : Top) → In u (tops lines) → In t (tops lines) → IsInTurn lines u t → u.at < t.at → less t u ≡ false
  stays u t i j turn called =
      lex_turn (serial_key (tops lines) u.id) (serial_key (tops lines) t.id) ((λ k. lex (key_is u i k) (key_is t j k)) ∙ by turn)
    where
      by : IsInTurn lines u t → lex (unit_place (tops lines) u.root ∷ u.at ∷ []) (unit_place (tops lines) t.root ∷ t.at ∷ []) ≡ true
      by (inl same) =
          lex_second (unit_place (tops lines) u.root) (unit_place (tops lines) t.root) u.at t.at (ap (unit_place (tops lines)) same) called
      by (inr before) = let l = unit_behind (tops lines) t j in
          lex_first (unit_place (tops lines) u.root) (unit_place (tops lines) t.root) u.at t.at (omega (arith, before, l))

  -- Of tops that had their turns one after another the serial order is that of their commit calls.
  module _ (counts : Top → Bool) (turns : (u t : Top) → In u (tops lines) → In t (tops lines) → counts u ≡ true → counts t ≡ true →
      u.at < t.at → IsInTurn lines u t) where
    pairs : (ts : List Top) → ((t : Top) → In t ts → In t (tops lines)) → Rise ts →
        Pairwise (λ (u t : Top). counts u ≡ true → counts t ≡ true → less t u ≡ false) ts
    pairs [] f w = tt
    pairs (u ∷ ts) f w = (
      all_of (λ (t : Top). counts u ≡ true → counts t ≡ true → less t u ≡ false) ts (λ t i cu ct. let called = all_at (λ (b : Top). u.at
          < b.at) ts w.0 t i in stays u t (f u (inl refl)) (f t (inr i)) (turns u t (f u (inl refl)) (f t (inr i)) cu ct called) called),
      pairs ts (λ t i. f t (inr i)) w.1,
    )

    pub in_call_order : filter counts (serial_tops lines) ≡ filter counts (tops lines)
    in_call_order = filter_arrange counts less (tops lines) (pairs (tops lines) (λ t i. i) (tops_rise lines))

-- tops that count, the newest first, are all that do
module _ (lines : List Line) (counts : Top → Bool) (those : List Top) (called : AreNewestFirst those) (there : (t : Top) → Contains those t
    → Contains (tops lines) t × (counts t ≡ true)) (every : (t : Top) → Contains (tops lines) t → counts t ≡ true → Contains those t) where
  pub counting : filter counts (tops lines) ≡ reverse those
  counting =
      one_list (filter counts (tops lines)) (reverse those) (rises_kept counts (tops lines) (tops_rise lines)) (reversed_rises those called)
      (λ t i. let f = in_filter counts t (tops lines) i in to_reverse t those (in_from t those (every t (in_to t (tops lines) f.0) f.1)))
      (λ t i. let l = there t (in_to t those (from_reverse t those i)) in to_filter counts t (tops lines) (in_from t (tops lines) l.0) l.1)

module _ (header : Header) (lines : List Line) (right : AreRight new_book lines) (x : ℕ) (counts : Top →
    Bool) (those : List Top) (h : HaveTurns header lines x counts those) where
  all_counted : filter counts (reverse those) ≡ reverse those
  all_counted = keep (reverse those) (λ t i. let l = h.listed t (in_to t those (from_reverse t those i)) in l.1)
    where
      keep : (ts : List Top) → ((t : Top) → In t ts → counts t ≡ true) → filter counts ts ≡ ts
      keep [] f = refl
      keep (t ∷ ts) f =
          ap (λ b. cond b (t ∷ filter counts ts) (filter counts ts)) (f t (inl refl)) ∙ ap (λ us. t ∷ us) (keep ts (λ u i. f u (inr i)))

  pub in_decided_order : AreDecidedInOrder header lines x counts (reverse those)
  in_decided_order = record {
    order = in_call_order lines right counts (λ u t iu it cu ct called. h.turns u t (h.all u (in_to u (tops lines) iu) cu)
        (h.all t (in_to t (tops lines) it) ct) called) ∙ counting lines counts those h.called h.listed h.all ∙ sym all_counted;
    idle = h.idle;
  }

-- ---- writers

-- calls of one place are one
pub one_call : (cs : List Call) → Pairwise (λ (a b : Call). a.at < b.at) cs → (c d : Call) → In c cs → In d cs → c.at ≡ d.at → c ≡ d
one_call [] w c d i j e = absurd i
one_call (k ∷ cs) w c d (inl is) (inl js) e = sym is ∙ js
one_call (k ∷ cs) w c d (inl is) (inr j) e = let l = at_of cs w.0 d j in let same = ap (λ (z : Call). z.at) is in
    absurd (omega (arith, l, same, e))
  where
    at_of : (ds : List Call) → AllByRecursion (λ (b : Call). k.at < b.at) ds → (z : Call) → In z ds → k.at < z.at
    at_of [] all z m = absurd m
    at_of (y ∷ ys) all z (inl same) = subst (λ (b : Call). k.at < b.at) same all.0
    at_of (y ∷ ys) all z (inr m) = at_of ys all.1 z m
one_call (k ∷ cs) w c d (inr i) (inl js) e = let l = at_of cs w.0 c i in let same = ap (λ (z : Call). z.at) js in
    absurd (omega (arith, l, same, e))
  where
    at_of : (ds : List Call) → AllByRecursion (λ (b : Call). k.at < b.at) ds → (z : Call) → In z ds → k.at < z.at
    at_of [] all z m = absurd m
    at_of (y ∷ ys) all z (inl same) = subst (λ (b : Call). k.at < b.at) same all.0
    at_of (y ∷ ys) all z (inr m) = at_of ys all.1 z m
one_call (k ∷ cs) w c d (inr i) (inr j) e = one_call cs w.1 c d i j e

module _ (values : Values) (lines : List Line) (right : AreRight new_book lines) (tied : Ties values lines) where
  pub writers_turn : WritersHaveTurns lines
  writers_turn x u t u_listed t_listed (c, c_there, c_write, c_top) (d, d_there, d_write, d_top) called = by (u.root == t.root) refl
    where
      apart : AreApart (tops lines)
      apart = let l = listed lines right in l.apart

      i : In c (committed_calls lines)
      i = in_from c (committed_calls lines) c_there

      j : In d (committed_calls lines)
      j = in_from d (committed_calls lines) d_there

      root_c : root_of (tops lines) c.top ≡ u.root
      root_c = ap (root_of (tops lines)) c_top ∙ root_of_top (tops lines) u apart (in_from u (tops lines) u_listed)

      root_d : root_of (tops lines) d.top ≡ t.root
      root_d = ap (root_of (tops lines)) d_top ∙ root_of_top (tops lines) t apart (in_from t (tops lines) t_listed)

      place_c : top_place (tops lines) c.top ≡ u.at
      place_c = ap (top_place (tops lines)) c_top ∙ place_of_top (tops lines) u apart (in_from u (tops lines) u_listed)

      place_d : top_place (tops lines) d.top ≡ t.at
      place_d = ap (top_place (tops lines)) d_top ∙ place_of_top (tops lines) t apart (in_from t (tops lines) t_listed)

      before_c : c.at < u.at
      before_c = let b = call_before values lines right tied c i in
          let e = ap (top_place (tops lines)) b.2 ∙ place_of_top (tops lines) b.0 apart b.1 in let l = b.3 in omega (arith, e, l, place_c)

      before_d : d.at < t.at
      before_d = let b = call_before values lines right tied d j in
          let e = ap (top_place (tops lines)) b.2 ∙ place_of_top (tops lines) b.0 apart b.1 in let l = b.3 in omega (arith, e, l, place_d)

      other_tops : (d.top == c.top) ≡ false
      other_tops = off_one d.top c.top (λ e. let p = ap (top_place (tops lines)) e in omega (arith, p, place_c, place_d, called))

      cases : (a b : ℕ) → (a < b) ⊎ ((b < a) ⊎ (a ≡ b))
      cases a b = grind arith

      -- the one whose commit was called first called first
      first : c.at < d.at
      first = ⊎_elim (λ less. less) (λ rest. ⊎_elim
          (λ late. let e = all_at (IsCalledFirst lines d) (committed_calls lines)
          (all_at (λ (a : Call). AllByRecursion (IsCalledFirst lines a) (committed_calls lines)) (committed_calls lines)
          (all_called_first values lines right tied) d j) c i late other_tops (writes_conflict x d c d_write c_write) in
          absurd (omega (arith, e, place_d, before_c, called)))
          (λ same. never (eq-eqb d.top c.top (ap (λ (z : Call). z.top) (sym (one_call (committed_calls lines) (rises lines) c d i j same))))
          other_tops) rest) (cases c.at d.at)

      by : (b : Bool) → (u.root == t.root) ≡ b → IsInTurn lines u t
      by true is = inl (eqb-true u.root t.root is)
      by false is = inr (let l = all_unit_first values lines right tied c d i j first (writes_conflict x c d c_write d_write)
          (λ e. never (eq-eqb u.root t.root (sym root_c ∙ e ∙ root_d)) is) in
          let k = subst (λ r. unit_place (tops lines) r < d.at) root_c l in omega (arith, k, before_d))
