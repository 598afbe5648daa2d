-- A state that was an object's last one at some time is the last one behind the committed tops up to some place in serial order.
use Rattle.arj_law_parts.proofs.Words
use Words.{◌≡◌, ◌⊎◌, ◌<◌, ◌≤◌, ◌+◌, ◌==◌, ◌&&◌, ℕ, not, List, [], ◌∷◌, ◌++◌, filter, Bool, true, false, cond, nat_le, nat_lt, Option}
use Words.{Some, None, is_some, unwrap_or, refl, sym, ◌∙◌, ap, subst, inl, inr, ⊎_elim, arith, eqb-true, eq-eqb, AllByRecursion, and_parts}
use Words.{value_after, writes, Header, Line, In, in_filter, in_from, in_to, uid_number, nobody}
use Rattle.arj_law_serial.proofs.Terms
use Terms.{Top, committed_calls, tops, first_values, Values, run, serial_calls, top_place, writes_on, InOrder, lex, serial_key, writes_conflict}
use Terms.{rises, new_book, AreRight, Chain, Done, KnownIn, Packed, last_in, packed, AreDecisions, AreNewestFirst}
use Terms.{CommitsComeFirst, Pairwise, WroteSo, content_of, left_by}
use Rattle.arj_law.proofs.{Answers.run-append, Answers.run_writes, Common.lex_same, Common.lex_turn, Last.writes_are}
use Rattle.arj_law_disk.specs.machine.Laws.{writes_in}
use Rattle.arj_law_runs.proofs.journal.Books.{never}
use Rattle.arj_law_serial.proofs.order.{Contents.later_format, Ties.Ties, Tying.all_at}
use Rattle.arj_law_serial.proofs.order.Order.{all_called_first, all_in_order, call_before, listed, place_of_top}
use Rattle.arj_law_serial.specs.order.Decided.{IsCalledFirst, IsLastWrite}
use Rattle.arj_model.specs.{Book.StandInOrder, Book.writes_before, Calls.Call, Last.count_tops}
use Rattle.arj_model.specs.{Last.writer_from}
use Rattle.arj_start.specs.Start.{format_at}
use Rattle.arj_base.specs.declared.state.Format.{Format}
use Rattle.arj_past.specs.Past.{calls_to, is_up_to, state_to}
use Rattle.arj_law_images.proofs.Cuts.{compare, cut_at, filter_same, filter_swap, into, le_test, lt_test, not_le, not_lt, one_at, one_more}
use Rattle.arj_base.specs.declared.state.Format.TheVariants.{Two}

turned : (m n : ℕ) → (m == n) ≡ false → (n == m) ≡ false
turned m n other = by (n == m) refl
  where
    by : (b : Bool) → (n == m) ≡ b → b ≡ false
    by true is = never (eq-eqb m n (sym (eqb-true n m is))) other
    by false is = refl

-- the last of calls wrote
last_writer : (front : List Call) (c : Call) → writer_from nobody (front ++ c ∷ []) ≡ c.writer
last_writer front c = by nobody front
  where
    by : (u : _) (cs : List Call) → writer_from u (cs ++ c ∷ []) ≡ c.writer
    by u [] = refl
    by u (d ∷ cs) = by d.writer cs

filter_both : (p q : Call → Bool) (cs : List Call) → filter (λ (w : Call). p w && q w) cs ≡ filter p (filter q cs)
filter_both p q [] = refl
filter_both p q (c ∷ cs) = by (q c) (p c) refl (filter_both p q cs)
  where
    by : (b a : Bool) → p c ≡ a → filter (λ (w : Call). p w && q w) cs ≡ filter p (filter q cs) →
        cond (a && b) (c ∷ filter (λ (w : Call). p w && q w) cs) (filter (λ (w : Call). p w && q w) cs)
        ≡ filter p (cond b (c ∷ filter q cs) (filter q cs))
    by true true is ih = ap (λ ys. c ∷ ys) ih ∙ sym (ap (λ t. cond t (c ∷ filter p (filter q cs)) (filter p (filter q cs))) is)
    by true false is ih = ih ∙ sym (ap (λ t. cond t (c ∷ filter p (filter q cs)) (filter p (filter q cs))) is)
    by false true is ih = ih
    by false false is ih = ih

-- calls whose places rise, fewer of them
fewer : (p : Call → Bool) (cs : List Call) → Pairwise (λ (a b : Call). a.at < b.at) cs →
    Pairwise (λ (a b : Call). a.at < b.at) (filter p cs)
fewer p [] rising = tt
fewer p (c ∷ cs) rising = by (p c) (fewer p cs rising.1)
  where
    left : (ds : List Call) → AllByRecursion (λ (b : Call). c.at < b.at) ds → AllByRecursion (λ (b : Call). c.at < b.at) (filter p ds)
    left [] all = tt
    left (d ∷ ds) all = one (p d) (left ds all.1)
      where
        one : (b : Bool) → AllByRecursion (λ (z : Call). c.at < z.at) (filter p ds) →
            AllByRecursion (λ (z : Call). c.at < z.at) (cond b (d ∷ filter p ds) (filter p ds))
        one true rest = (all.0, rest)
        one false rest = rest

    by : (b : Bool) → Pairwise (λ (a d : Call). a.at < d.at) (filter p cs) →
        Pairwise (λ (a d : Call). a.at < d.at) (cond b (c ∷ filter p cs) (filter p cs))
    by true rest = (left cs rising.0, rest)
    by false rest = rest

module _ (header : Header) (lines : List Line) (right : AreRight new_book lines) (tied : Ties (first_values header) lines) (x : ℕ) where
  abbrev values : Values
  values = first_values header

  abbrev K : List Call
  K = committed_calls lines

  abbrev W : List Call
  W = filter (writes_on x) (committed_calls lines)

  order : InOrder lines
  order = all_in_order values lines right tied

  first_calls : CommitsComeFirst lines
  first_calls = all_called_first values lines right tied

  its : (e : Call) → In e W → In e K × (writes_on x e ≡ true)
  its e i = in_filter (writes_on x) e K i

  -- of two writes of different tops the first one's is first in serial order
  ordered : (c d : Call) → In c W → In d W → c.at < d.at → (c.top == d.top) ≡ false →
      lex (serial_key (tops lines) c.top) (serial_key (tops lines) d.top) ≡ true
  ordered c d i j less other =
      let p = its c i in
      let q = its d j in
      all_at (StandInOrder lines c) K (all_at (λ (a : Call). AllByRecursion (StandInOrder lines a) K) K order c p.0) d q.0 less other
      (writes_conflict x c d p.1 q.1)

  -- ---- up to a top's last write

  module _ (t : Top) (c : Call) (l : IsLastWrite lines x t c) where
    there : In c W
    there = into (writes_on x) c K (in_from c K l.there) l.write

    up_is : (e : Call) → In e W → is_up_to lines (serial_key (tops lines) t.id) e ≡ nat_le e.at c.at
    up_is e i = by (e.top == c.top) refl
      where
        key : serial_key (tops lines) c.top ≡ serial_key (tops lines) t.id
        key = ap (serial_key (tops lines)) l.whose

        apart : (e.top == c.top) ≡ false → (e.at < c.at) ⊎ ((e.at ≡ c.at) ⊎ (c.at < e.at)) →
            not (lex (serial_key (tops lines) t.id) (serial_key (tops lines) e.top)) ≡ nat_le e.at c.at
        apart other (inl less) =
            ap (λ (k : List ℕ). not (lex k (serial_key (tops lines) e.top))) (sym key)
            ∙ ap not (lex_turn (serial_key (tops lines) e.top) (serial_key (tops lines) c.top) (ordered e c i there less other))
            ∙ sym (le_test e.at c.at (omega (arith, less)))
        apart other (inr (inl same)) =
            let one = one_at W (fewer (writes_on x) K (rises lines)) e c i there same in
            never (eq-eqb e.top c.top (ap (λ (z : Call). z.top) one)) other
        apart other (inr (inr less)) =
            ap (λ (k : List ℕ). not (lex k (serial_key (tops lines) e.top))) (sym key)
            ∙ ap not (ordered c e there i less (turned e.top c.top other))
            ∙ sym (not_le e.at c.at less)

        by : (b : Bool) → (e.top == c.top) ≡ b → is_up_to lines (serial_key (tops lines) t.id) e ≡ nat_le e.at c.at
        by true is =
            let own : e.top ≡ t.id = eqb-true e.top c.top is ∙ l.whose in
            ap (λ n. not (lex (serial_key (tops lines) t.id) (serial_key (tops lines) n))) own
            ∙ ap not (lex_same (serial_key (tops lines) t.id))
            ∙ sym (le_test e.at c.at (let p = its e i in l.last e (in_to e K p.0) own p.1))
        by false other = apart other (compare e.at c.at)

    abbrev place : List ℕ
    place = serial_key (tops lines) t.id

    abbrev front : List Call
    front = filter (λ (e : Call). nat_lt e.at c.at) W

    writes_to : filter (writes_on x) (calls_to lines place) ≡ front ++ c ∷ []
    writes_to =
        filter_swap (writes_on x) (is_up_to lines place) (serial_calls lines)
        ∙ ap (filter (is_up_to lines place)) (writes_are lines x order)
        ∙ filter_same (is_up_to lines place) (λ (e : Call). nat_le e.at c.at) W up_is
        ∙ cut_at W c (fewer (writes_on x) K (rises lines)) there

    object : c.x ≡ x
    object = eqb-true c.x x (and_parts (c.x == x) (writes c.op) l.write).0

    before : writes_before K c ≡ front
    before = ap (λ y. filter (λ (w : Call). nat_lt w.at c.at && writes_on y w) K) object
        ∙ filter_both (λ (w : Call). nat_lt w.at c.at) (writes_on x) K

    value_to : run values (calls_to lines place) x ≡ left_by values lines c
    value_to =
        sym (run_writes values values x (calls_to lines place) refl)
        ∙ ap (λ cs. run values cs x) writes_to
        ∙ (λ i. run-append values front (c ∷ []) i x)
        ∙ ap (λ b. cond b (value_after c.op (run values front c.x)) (run values front x)) (eq-eqb x c.x (sym object))
        ∙ ap (λ cs. value_after c.op (run values cs c.x)) (sym before)

    abbrev upto : List Call
    upto = filter (λ (e : Call). nat_le e.at c.at) W

    upto_is : upto ≡ front ++ c ∷ []
    upto_is = cut_at W c (fewer (writes_on x) K (rises lines)) there

    -- the state behind it, once its version is known
    pub state_is : (g : Packed) → g.writer ≡ uid_number c.writer → g.content ≡ content_of Two (left_by values lines c) →
        g.version ≡ count_tops upto → 1 ≤ count_tops upto → packed (state_to header lines place x) ≡ g
    state_is g writer content version some = λ i. record {
      version = versions i;
      writer = writers i;
      content = contents i;
    }
      where
        counted : count_tops (filter (writes_on x) (calls_to lines place)) ≡ count_tops upto
        counted = ap count_tops (writes_to ∙ sym upto_is)

        zero_more : (n : ℕ) → 0 + n ≡ n
        zero_more n = omega arith

        versions : 0 + count_tops (filter (writes_on x) (calls_to lines place)) ≡ g.version
        versions = zero_more (count_tops (filter (writes_on x) (calls_to lines place))) ∙ counted ∙ sym version

        writers : uid_number (writer_from nobody (filter (writes_on x) (calls_to lines place))) ≡ g.writer
        writers = ap (λ cs. uid_number (writer_from nobody cs)) writes_to ∙ ap uid_number (last_writer front c) ∙ sym writer

        contents : content_of (format_at header.format (0 + count_tops (filter (writes_on x) (calls_to lines place))))
            (run values (calls_to lines place) x) ≡ g.content
        contents =
            ap (λ n. content_of (format_at header.format n) (run values (calls_to lines place) x)) (versions ∙ version)
            ∙ ap (λ (f : Format). content_of f (run values (calls_to lines place) x)) (sym (later_format header.format (count_tops upto) some))
            ∙ ap (content_of Two) value_to
            ∙ sym content

  -- ---- how many tops wrote

  top_at : (u : Top) → In u (tops lines) → top_place (tops lines) u.id ≡ u.at
  top_at u i = place_of_top (tops lines) u (let q = listed lines right in q.apart) i

  -- of two writes, that of the top whose commit was called first was answered first
  earlier : (c d : Call) (u v : Top) → In c W → In d W → In u (tops lines) → In v (tops lines) → c.top ≡ u.id → d.top ≡ v.id →
      u.at < v.at → c.at < d.at
  earlier c d u v i j iu iv cu dv less = by (compare c.at d.at)
    where
      other : (d.top == c.top) ≡ false
      other = by_test (d.top == c.top) refl
        where
          by_test : (b : Bool) → (d.top == c.top) ≡ b → b ≡ false
          by_test true is =
              let same : u.at ≡ v.at = sym (top_at u iu) ∙ ap (top_place (tops lines)) (sym cu ∙ sym (eqb-true d.top c.top is) ∙ dv)
              ∙ top_at v iv in
              absurd (omega (arith, same, less))
          by_test false is = refl

      by : (c.at < d.at) ⊎ ((c.at ≡ d.at) ⊎ (d.at < c.at)) → c.at < d.at
      by (inl fine) = fine
      by (inr (inl same)) =
          let one = one_at W (fewer (writes_on x) K (rises lines)) c d i j same in
          never (eq-eqb d.top c.top (sym (ap (λ (z : Call). z.top) one))) other
      by (inr (inr late)) =
          let p = its c i in
          let q = its d j in
          let called = all_at (IsCalledFirst lines d) K (all_at (λ (a : Call). AllByRecursion (IsCalledFirst lines a) K) K first_calls d q.0)
          c p.0 late other (writes_conflict x d c q.1 p.1) in
          let place : top_place (tops lines) d.top ≡ v.at = ap (top_place (tops lines)) dv ∙ top_at v iv in
          let b = call_before values lines right tied c p.0 in
          let same : (let t = b.0 in t.at) ≡ u.at = sym (top_at b.0 b.1) ∙ ap (top_place (tops lines)) (sym b.2 ∙ cu) ∙ top_at u iu in
          let behind = b.3 in
          absurd (omega (arith, called, place, behind, same, less))

  listed_of : (ds : List Done) (ts : List Top) → AreDecisions values lines x ds ts → (t : Top) → In t ts → In t (tops lines)
  listed_of [] [] are t i = absurd i
  listed_of [] (u ∷ ts) are t i = absurd are
  listed_of (d ∷ ds) [] are t i = absurd are
  listed_of (d ∷ ds) (u ∷ ts) are t (inl is) = subst (λ y. In y (tops lines)) is (in_from u (tops lines) (let q = are.0 in q.listed))
  listed_of (d ∷ ds) (u ∷ ts) are t (inr i) = listed_of ds ts are.1 t i

  -- each write is of one of these tops, if its top's commit was called before this place
  abbrev Known : ℕ → List Top → Type 0
  Known n ts = (e : Call) → In e W → (u : Top) × In u (tops lines) × (e.top ≡ u.id) × (u.at < n → In u ts)

  abbrev below : ℕ → Call → Bool
  below n e = nat_lt (top_place (tops lines) e.top) n

  below_is : (n : ℕ) (e : Call) (u : Top) → In u (tops lines) → e.top ≡ u.id → below n e ≡ nat_lt u.at n
  below_is n e u i same = ap (λ m. nat_lt m n) (ap (top_place (tops lines)) same ∙ top_at u i)

  count_is : (first : Packed) (ds : List Done) (ts : List Top) (n : ℕ) → AreDecisions values lines x ds ts → AreNewestFirst ts →
      AllByRecursion (λ (u : Top). u.at < n) ts → Known n ts → count_tops (filter (below n) W) ≡ writes_in ds
  count_is first [] [] n are falls low known = ap count_tops (filter_same (below n) (λ e. false) W none ∙ nothing W)
    where
      none : (e : Call) → In e W → below n e ≡ false
      none e i = let k = known e i in by k.0 k.1 k.2 k.3
        where
          by : (u : Top) → In u (tops lines) → e.top ≡ u.id → (u.at < n → In u []) → below n e ≡ false
          by u j same out = ⊎_elim (λ less. absurd (out less)) (λ more. below_is n e u j same ∙ not_lt u.at n (more_of u.at n more))
              (compare u.at n)
            where
              more_of : (a b : ℕ) → (a ≡ b) ⊎ (b < a) → b ≤ a
              more_of a b (inl is) = omega (arith, is)
              more_of a b (inr is) = omega (arith, is)

      nothing : (cs : List Call) → filter (λ (e : Call). false) cs ≡ []
      nothing [] = refl
      nothing (c ∷ cs) = nothing cs
  count_is first [] (t ∷ ts) n are falls low known = absurd are
  count_is first (d ∷ ds) [] n are falls low known = absurd are
  count_is first (d ∷ ds) (t ∷ ts) n are falls low known =
      by d.plan.writes (let q = are.0 in q.wrote) (count_is first ds ts t.at are.1 falls.1 falls.0 later)
    where
      t_listed : In t (tops lines)
      t_listed = in_from t (tops lines) (let q = are.0 in q.listed)

      later : Known t.at ts
      later e i = let k = known e i in (k.0, k.1, k.2, λ less. out k.0 less (k.3 (through (let u = k.0 in u.at) t.at n less low.0)))
        where
          through : (a b c : ℕ) → a < b → b < c → a < c
          through a b c p q = omega (arith, p, q)

          out : (u : Top) → u.at < t.at → In u (t ∷ ts) → In u ts
          out u less (inl same) = let at = ap (λ (z : Top). z.at) same in absurd (omega (arith, at, less))
          out u less (inr j) = j

      -- a write of the top is below the one place and not below the other; any other is below both or neither
      wide : (e : Call) → In e W →
          ((e.top ≡ t.id → ⊥) → below n e ≡ below t.at e) × (e.top ≡ t.id → (below n e ≡ true) × (below t.at e ≡ false))
      wide e i = let k = known e i in by_top k.0 k.1 k.2 k.3
        where
          by_top : (u : Top) → In u (tops lines) → e.top ≡ u.id → (u.at < n → In u (t ∷ ts)) →
              ((e.top ≡ t.id → ⊥) → below n e ≡ below t.at e) × (e.top ≡ t.id → (below n e ≡ true) × (below t.at e ≡ false))
          by_top u j same out = (
            λ other. below_is n e u j same ∙ ⊎_elim (λ less. lt_test u.at n less ∙ sym (lt_test u.at t.at (older other (out less))))
                (λ more. not_lt u.at n (more_of u.at n more) ∙ sym (not_lt u.at t.at (through u.at n t.at (more_of u.at n more) low.0)))
                (compare u.at n) ∙ sym (below_is t.at e u j same),
            λ own. (
              below_is n e t t_listed own ∙ lt_test t.at n low.0,
              below_is t.at e t t_listed own ∙ not_lt t.at t.at (itself t.at),
            ),
          )
            where
              itself : (a : ℕ) → a ≤ a
              itself a = omega arith

              more_of : (a b : ℕ) → (a ≡ b) ⊎ (b < a) → b ≤ a
              more_of a b (inl is) = omega (arith, is)
              more_of a b (inr is) = omega (arith, is)

              through : (a b c : ℕ) → b ≤ a → c < b → c ≤ a
              through a b c p q = omega (arith, p, q)

              older : (e.top ≡ t.id → ⊥) → In u (t ∷ ts) → u.at < t.at
              older other (inl is) = absurd (other (same ∙ ap (λ (z : Top). z.id) (sym is)))
              older other (inr k) = all_at (λ (v : Top). v.at < t.at) ts falls.0 u k

      zero_more : (m : ℕ) → m ≡ m + 0
      zero_more m = omega arith

      by : (o : Option Packed) → WroteSo values lines x t o → count_tops (filter (below t.at) W) ≡ writes_in ds →
          count_tops (filter (below n) W) ≡ writes_in ds + cond (is_some o) 1 0
      by None silent ih =
          ap count_tops (filter_same (below n) (below t.at) W (λ e i. (wide e i).0 (λ own. never (its e i).1
          (silent e (in_to e K (its e i).0) own)))) ∙ ih ∙ zero_more (writes_in ds)
      by (Some g) (c, last, writer, content) ih =
          one_more t.id (below t.at) (below n) W wide c (there t c last) last.whose ∙ ap (λ m. m + 1) ih

  -- ---- a state that was the last one

  -- It is the last one of these decided tops, whose last write is known, and each write is of one of them, or called later.
  module _ (first : Packed) (start : first.version ≡ 0) where
    version_is : (ds : List Done) → Chain first ds → (last_in first ds).version ≡ writes_in ds
    version_is [] chain = start
    version_is (d ∷ ds) chain = by d.plan.writes refl (version_is ds chain.1)
      where
        by : (o : Option Packed) → d.plan.writes ≡ o → (last_in first ds).version ≡ writes_in ds →
            (unwrap_or o (last_in first ds)).version ≡ writes_in ds + cond (is_some o) 1 0
        by None is ih = omega (arith, ih)
        by (Some w) is ih = let above = chain.0 w is in omega (arith, ih, above)

    pub past_state : (ds : List Done) (ts : List Top) (n : ℕ) → AreDecisions values lines x ds ts → AreNewestFirst ts →
        AllByRecursion (λ (u : Top). u.at < n) ts → Known n ts → Chain first ds → (g : Packed) → KnownIn first ds g →
        (first ≡ g) ⊎ ((place : List ℕ) × (packed (state_to header lines place x) ≡ g))
    past_state [] ts n are falls low known chain g is = inl is
    past_state (d ∷ ds) [] n are falls low known chain g is = absurd are
    past_state (d ∷ ds) (t ∷ ts) n are falls low known chain g (inl wrote) =
        inr (its_state (subst (WroteSo values lines x t) wrote (let q = are.0 in q.wrote)))
      where
        t_listed : In t (tops lines)
        t_listed = in_from t (tops lines) (let q = are.0 in q.listed)

        its_state : WroteSo values lines x t (Some g) → (place : List ℕ) × (packed (state_to header lines place x) ≡ g)
        its_state (c, last, writer, content) =
            (serial_key (tops lines) t.id, state_is t c last g writer content version (some (let p = d.plan in p.writes) wrote))
          where
            -- what is answered up to the last write is of tops called no later
            same : (e : Call) → In e W → nat_le e.at c.at ≡ below (t.at + 1) e
            same e i = let k = known e i in by k.0 k.1 k.2 k.3
              where
                i_c : In c W
                i_c = there t c last

                by : (u : Top) → In u (tops lines) → e.top ≡ u.id → (u.at < n → In u (t ∷ ts)) → nat_le e.at c.at ≡ below (t.at + 1) e
                by u j own out = sides (compare u.at t.at)
                  where
                    sides : (u.at < t.at) ⊎ ((u.at ≡ t.at) ⊎ (t.at < u.at)) → nat_le e.at c.at ≡ below (t.at + 1) e
                    sides (inl less) =
                        let first = earlier e c u t i i_c j t_listed own last.whose less in
                        le_test e.at c.at (omega (arith, first)) ∙ sym (below_is (t.at + 1) e u j own
                        ∙ lt_test u.at (t.at + 1) (omega (arith, less)))
                    sides (inr (inl at)) =
                        le_test e.at c.at (last.last e (in_to e K (its e i).0) (own ∙ number (out (under u.at t.at n at low.0))) (its e i).1)
                        ∙ sym (below_is (t.at + 1) e u j own ∙ lt_test u.at (t.at + 1) (omega (arith, at)))
                      where
                        under : (a b c : ℕ) → a ≡ b → b < c → a < c
                        under a b c p q = omega (arith, p, q)

                        number : In u (t ∷ ts) → u.id ≡ t.id
                        number (inl is) = ap (λ (z : Top). z.id) (sym is)
                        number (inr k) = let l = all_at (λ (v : Top). v.at < t.at) ts falls.0 u k in absurd (omega (arith, l, at))
                    sides (inr (inr more)) =
                        let late = earlier c e t u i_c i t_listed j last.whose own more in
                        not_le e.at c.at late ∙ sym (below_is (t.at + 1) e u j own ∙ not_lt u.at (t.at + 1) (omega (arith, more)))

            low_now : AllByRecursion (λ (u : Top). u.at < t.at + 1) (t ∷ ts)
            low_now = (omega arith, all ts falls.0)
              where
                all : (us : List Top) → AllByRecursion (λ (u : Top). u.at < t.at) us → AllByRecursion (λ (u : Top). u.at < t.at + 1) us
                all [] less = tt
                all (u ∷ us) less = (let l = less.0 in omega (arith, l), all us less.1)

            known_now : Known (t.at + 1) (t ∷ ts)
            known_now e i = let k = known e i in (k.0, k.1, k.2, λ less. k.3 (through (let u = k.0 in u.at) t.at n less low.0))
              where
                through : (a b c : ℕ) → a < b + 1 → b < c → a < c
                through a b c p q = omega (arith, p, q)

            counted : count_tops (filter (λ (e : Call). nat_le e.at c.at) W) ≡ writes_in (d ∷ ds)
            counted = ap count_tops (filter_same (λ (e : Call). nat_le e.at c.at) (below (t.at + 1)) W same)
                ∙ count_is first (d ∷ ds) (t ∷ ts) (t.at + 1) are falls low_now known_now

            version : g.version ≡ count_tops (filter (λ (e : Call). nat_le e.at c.at) W)
            version = ap (λ (o : Option Packed). (unwrap_or o (last_in first ds)).version) (sym wrote) ∙ version_is (d ∷ ds) chain
                ∙ sym counted

            some : (o : Option Packed) → o ≡ Some g → 1 ≤ count_tops (filter (λ (e : Call). nat_le e.at c.at) W)
            some o is = subst (λ m. 1 ≤ m) (sym (counted ∙ ap (λ (p : Option Packed). writes_in ds + cond (is_some p) 1 0) wrote))
                (one (writes_in ds))
              where
                one : (m : ℕ) → 1 ≤ m + 1
                one m = omega arith
    past_state (d ∷ ds) (t ∷ ts) n are falls low known chain g (inr is) =
        past_state ds ts t.at are.1 falls.1 falls.0 later chain.1 g is
      where
        later : Known t.at ts
        later e i = let k = known e i in (k.0, k.1, k.2, λ less. out k.0 less (k.3 (through (let u = k.0 in u.at) t.at n less low.0)))
          where
            through : (a b c : ℕ) → a < b → b < c → a < c
            through a b c p q = omega (arith, p, q)

            out : (u : Top) → u.at < t.at → In u (t ∷ ts) → In u ts
            out u less (inl same) = let at = ap (λ (z : Top). z.at) same in absurd (omega (arith, at, less))
            out u less (inr j) = j
