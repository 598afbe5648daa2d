-- A top that changes nothing finds, at its place in the serial order, none of the stores listed that it includes.
use Rattle.arj_law_parts.proofs.Words
use Words.{Contains, ◌≡◌, ◌⊎◌, ◌<◌, ◌==◌, ◌||◌, ◌++◌, ◌∙◌, ℕ, Bool, true, false, cond, not, List, [], ◌∷◌, append-nil, filter, reverse, ap}
use Words.{arith, eq-eqb, eqb-true, inl, inr, refl, subst, sym, ⊎_elim, reverse-append, filter-append, In, in_filter, in_from}
use Words.{in_to, Line, Wrote}
use Rattle.arj_law_serial.proofs.Terms
use Terms.{Mark, marked}
use Terms.{counts_of, Done, Packed, entry_in, has, or_cases, new_book, AreRight, State, Top, tops, is_among, leaves_of, listed_after}
use Terms.{listed_from, serial_tops, Values, AreDecisions, AreNewestFirst, ChangersHaveTurns, IsDecision, Joined, IsTied, AddsNone, IsSplit}
use Terms.{IsCalledBefore}
use Terms.words as disk
use Rattle.arj_law_serial.proofs.joint
use joint.{IdlePlaces.added, NamedTops.is_one_of}
use joint.Called.{IsOf, called_in_turn, its_top_of, one_number, there_before}
use joint.JoinOrder.{counts_there, its_at, none_there}
use Rattle.arj_law_serial.proofs.order
use order.{Cleaning.has_among, Entries.by_decisions, Entries.entry_counted, Order.IsTopOf, Tying.all_at, Values.to_filter}
use order.Turning.{Rise, counting, from_reverse, in_call_order, rises_kept, tops_rise}

-- ---- lists

in_front_of : (u : Top) (ts us : List Top) → In u ts → In u (ts ++ us)
in_front_of u [] us i = absurd i
in_front_of u (t ∷ ts) us (inl same) = inl same
in_front_of u (t ∷ ts) us (inr i) = inr (in_front_of u ts us i)

in_behind : (u : Top) (ts us : List Top) → In u us → In u (ts ++ us)
in_behind u [] us i = i
in_behind u (t ∷ ts) us i = inr (in_behind u ts us i)

-- of a list that rises those before one of it have earlier places, and those behind it later ones
rise_around : (ts : List Top) (w : Top) (us : List Top) → Rise (ts ++ (w ∷ us)) →
    ((u : Top) → In u ts → u.at < w.at) × ((u : Top) → In u us → w.at < u.at)
rise_around [] w us r = ((λ u i. absurd i), all_at (λ (b : Top). w.at < b.at) us r.0)
rise_around (t ∷ ts) w us r = (λ u i. before (rise_around ts w us r.1).0 u i, (rise_around ts w us r.1).1)
  where
    before : ((u : Top) → In u ts → u.at < w.at) → (u : Top) → In u (t ∷ ts) → u.at < w.at
    before ih u (inl same) = subst (λ (z : Top). z.at < w.at) same
        (all_at (λ (b : Top). t.at < b.at) (ts ++ (w ∷ us)) r.0 w (in_behind w ts (w ∷ us) (inl refl)))
    before ih u (inr i) = ih u i

-- Where two lists are cut, one before all of a place and one behind it, the one cut is in front of the other.
cut_twice : (p : ℕ) (ks ls es ms : List Top) → ks ++ ls ≡ es ++ ms → ((u : Top) → In u es → u.at < p) → ((u : Top) → In u ls → p < u.at) →
    (more : List Top) × (ks ≡ es ++ more) × (ms ≡ more ++ ls)
cut_twice p ks ls [] ms same low high = (ks, refl, sym same)
cut_twice p [] ls (e ∷ es) ms same low high =
    absurd (let a = low e (inl refl) in let b = high e (subst (In e) (sym same) (inl refl)) in omega (arith, a, b))
cut_twice p (k ∷ ks) ls (e ∷ es) ms same low high =
    let r = cut_twice p ks ls es ms (ap rest same) (λ u i. low u (inr i)) high in
    (r.0, (λ i. head same i ∷ r.1 i), r.2)
  where
    rest : List Top → List Top
    rest [] = []
    rest (t ∷ ts) = ts

    first : List Top → Top
    first [] = k
    first (t ∷ ts) = t

    head : k ∷ (ks ++ ls) ≡ e ∷ (es ++ ms) → k ≡ e
    head is = ap first is

listed_on : (lines : List Line) (x : ℕ) (stores : List ℕ) (ts us : List Top) →
    listed_from lines x stores (ts ++ us) ≡ listed_from lines x (listed_from lines x stores ts) us
listed_on lines x stores [] us = refl
listed_on lines x stores (t ∷ ts) us = listed_on lines x (listed_after lines x stores t) ts us

-- a store that isn't listed is not by tops that add none
stays_unlisted : (lines : List Line) (x s : ℕ) (stores : List ℕ) (ts : List Top) → ((u : Top) → In u ts → added lines x u ≡ []) →
    is_among stores s ≡ false → is_among (listed_from lines x stores ts) s ≡ false
stays_unlisted lines x s stores [] adds off = off
stays_unlisted lines x s stores (t ∷ ts) adds off =
    stays_unlisted lines x s (listed_after lines x stores t) ts (λ u i. adds u (inr i)) (ap (λ ns. is_among (filter p stores ++ ns) s)
    (adds t (inl refl)) ∙ ap (λ ns. is_among ns s) (append-nil (filter p stores)) ∙ less stores off)
  where
    p : ℕ → Bool
    p n = not (is_among (leaves_of lines t.id x) n)

    less : (ns : List ℕ) → is_among ns s ≡ false → is_among (filter p ns) s ≡ false
    less [] none = refl
    less (n ∷ ns) none = by (n == s) (p n) none (less ns)
      where
        outside : (c : Bool) → (c || is_among ns s) ≡ false → c ≡ false
        outside true is = absurd (cc is)
        outside false is = refl

        by : (a b : Bool) → (a || is_among ns s) ≡ false → (is_among ns s ≡ false → is_among (filter p ns) s ≡ false) →
            (is_among (cond b (n ∷ filter p ns) (filter p ns)) s) ≡ false
        by true b none_here ih = absurd (cc none_here)
        by false false none_here ih = ih none_here
        by false true none_here ih = ap (λ c. c || is_among (filter p ns) s) (outside (n == s) none) ∙ ih none_here

-- one that stands among these
pub is_there : (u : Top) (ts : List Top) → In u ts → is_one_of ts u ≡ true
is_there u [] i = absurd i
is_there u (v ∷ ts) (inl same) = ap (λ b. b || is_one_of ts u) (eq-eqb v.id u.id (ap (λ (z : Top). z.id) same))
is_there u (v ∷ ts) (inr i) = by (v.id == u.id) (is_there u ts i)
  where
    by : (b : Bool) → is_one_of ts u ≡ true → (b || is_one_of ts u) ≡ true
    by true on = refl
    by false on = on

-- decisions one by one, of two lists
cut_decisions : (values : Values) (lines : List Line) (x : ℕ) (ds es : List Done) (ts : List Top) → AreDecisions values lines x (ds ++ es)
    ts → (us : List Top) × (vs : List Top) × (ts ≡ us ++ vs) × AreDecisions values lines x ds us × AreDecisions values lines x es vs
cut_decisions values lines x [] es ts are = ([], ts, refl, tt, are)
cut_decisions values lines x (d ∷ ds) es [] are = absurd are
cut_decisions values lines x (d ∷ ds) es (t ∷ ts) are =
    let r = cut_decisions values lines x ds es ts are.1 in
    (t ∷ r.0, r.1, ap (λ us. t ∷ us) r.2, (are.0, r.3), r.4)

-- ---- the place

module _ (values : Values) (lines : List Line) (right : AreRight new_book lines) (x : ℕ) (S : State) (t : IsTied values lines x S)
    (turn : ChangersHaveTurns lines x) (first : Packed) (mark : Mark) (start : List ℕ)
    (begins : first ≡ marked mark start)
    (ds : List Done) (those : List Top) (are : AreDecisions values lines x (filter counts_of ds) those) (called : AreNewestFirst those)
    (changed : (u : Top) → Contains those u → Wrote lines x u ⊎ Joined lines x u) (every : (u : Top) → Contains (tops lines) u →
    is_one_of those u ≡ true → Contains those u) where
  abbrev counts : Top → Bool
  counts u = is_one_of those u

  its_those : (es : List Done) (ts : List Top) → AreDecisions values lines x es ts → (u : Top) → In u ts → In u (tops lines)
  its_those es ts are_so u i = let m = its_at values lines x S right t es ts are_so u i in
      let k = its_top_of values lines x S right t m.0 u m.2 in k.listed

  -- in the serial order those that count stand as they were decided
  in_order : filter counts (serial_tops lines) ≡ reverse those
  in_order = in_call_order lines right counts (λ u v iu iv cu cv less. turn u v (in_to u (tops lines) iu) (in_to v (tops lines) iv)
      (changed u (every u (in_to u (tops lines) iu) cu)) (changed v (every v (in_to v (tops lines) iv) cv)) less)
      ∙ counting lines counts those called (λ u c.
      (in_to u (tops lines) (its_those (filter counts_of ds) those are u (in_from u those c)), is_there u those (in_from u those c)))
      every

  module _ (w : Top) (a : IsTopOf lines w) (listed : In w (tops lines)) (off : counts w ≡ false) (joined : Joined lines x w)
      (stores : List ℕ) (split : IsSplit first lines (let k = a.act in k.uid) stores ds) (before after : List Top)
      (is : serial_tops lines ≡ before ++ (w ∷ after)) where
    -- it, or one that counts
    abbrev Either : Top → Bool
    Either u = counts u || (u.id == w.id)

    either_changed : (u : Top) → In u (tops lines) → Either u ≡ true → Wrote lines x u ⊎ Joined lines x u
    either_changed u i on = ⊎_elim (λ c. changed u (every u (in_to u (tops lines) i) c)) (λ same. inr (subst (Joined lines x)
        (one_number values lines x S right t w u listed i (sym (eqb-true u.id w.id same))) joined)) (or_cases (counts u) (u.id == w.id) on)

    either_w : Either w ≡ true
    either_w = ap (λ b. counts w || b) (eq-eqb w.id w.id refl) ∙ always (counts w)
      where
        always : (b : Bool) → (b || true) ≡ true
        always true = refl
        always false = refl

    around : ((u : Top) → In u (filter Either before) → u.at < w.at) × ((u : Top) → In u (filter Either after) → w.at < u.at)
    around =
        rise_around (filter Either before) w (filter Either after) (subst Rise places (rises_kept Either (tops lines) (tops_rise lines)))
      where
        places : filter Either (tops lines) ≡ filter Either before ++ (w ∷ filter Either after)
        places = sym (in_call_order lines right Either (λ u v iu iv cu cv less.
            turn u v (in_to u (tops lines) iu) (in_to v (tops lines) iv) (either_changed u iu cu) (either_changed v iv cv) less))
            ∙ ap (filter Either) is ∙ filter-append Either before (w ∷ after)
            ∙ ap (λ b. filter Either before ++ cond b (w ∷ filter Either after) (filter Either after)) either_w

    wider : (us : List Top) (u : Top) → In u (filter counts us) → In u (filter Either us)
    wider us u i = let f = in_filter counts u us i in to_filter Either u us f.0 (ap (λ b. b || (u.id == w.id)) f.1)

    cut : (us : List Top) × (vs : List Top) × (those ≡ us ++ vs) × AreDecisions values lines x (filter counts_of split.later) us
        × AreDecisions values lines x (filter counts_of split.earlier) vs
    cut = cut_decisions values lines x (filter counts_of split.later) (filter counts_of split.earlier) those (subst (λ es.
        AreDecisions values lines x es those) (ap (filter counts_of) split.are ∙ filter-append counts_of split.later split.earlier) are)

    -- those that were decided before naming confirmed it had their commits called before
    low : (u : Top) → In u (reverse cut.1) → u.at < w.at
    low u i =
        let d = its_at values lines x S right t (filter counts_of split.earlier) cut.1 cut.4 u (from_reverse u cut.1 i) in
        let m : IsOf values lines x S right t d.0 u = its_top_of values lines x S right t d.0 u d.2 in
        called_in_turn values lines right x S t u w (let k = m.its in k.act) a.act m.listed listed (let k = m.its in
        k.there) a.there (let k = m.its in k.number) a.number
        (split.before d.0 (let k = m.its in let z = k.act in
        z.uid) (there_before counts_of d.0 split.earlier d.1) (counts_there d.0 split.earlier d.1) (sym m.number))

    places : (more : List Top) × (filter counts before ≡ reverse cut.1 ++ more) × (reverse cut.0 ≡ more ++ filter counts after)
    places = cut_twice w.at (filter counts before) (filter counts after) (reverse cut.1) (reverse cut.0) same low
        (λ u i. around.1 u (wider after u i))
      where
        same : filter counts before ++ filter counts after ≡ reverse cut.1 ++ reverse cut.0
        same = ap (λ b. filter counts before ++ cond b (w ∷ filter counts after) (filter counts after)) (sym off) ∙ sym (filter-append
            counts before (w ∷ after)) ∙ ap (filter counts) (sym is) ∙ in_order ∙ ap reverse cut.2 ∙ reverse-append cut.0 cut.1

    -- the others before it add no store
    adds : (u : Top) → In u places.0 → added lines x u ≡ []
    adds u i = by (split.behind d.0 (let k = m.its in let z = k.act in
        z.uid) (there_before counts_of d.0 split.later d.1) (counts_there d.0 split.later d.1) (sym m.number))
      where
        d : (d : Done) × disk.In d (filter counts_of split.later) × IsDecision values lines x d u
        d = its_at values lines x S right t (filter counts_of split.later) cut.0 cut.3 u
            (from_reverse u cut.0 (subst (In u) (sym places.2) (in_front_of u places.0 (filter counts after) i)))

        m : IsOf values lines x S right t d.0 u
        m = its_top_of values lines x S right t d.0 u d.2

        early : u.at < w.at
        early = around.0 u (wider before u (subst (In u) (sym places.1) (in_behind u (reverse cut.1) places.0 i)))

        by : IsCalledBefore lines (let k = a.act in k.uid) (let k = m.its in let z = k.act in z.uid) ⊎ AddsNone d.0 → added lines x u ≡ []
        by (inl first_w) = absurd (let late = called_in_turn values lines right x S t w u a.act (let k = m.its in k.act) listed m.listed
            a.there (let k = m.its in k.there) a.number (let k = m.its in k.number) first_w in omega (arith, late, early))
        by (inr none) = let q = d.2 in
            sym q.joins ∙ ap (filter (let z = d.0 in z.got)) (none_there (let z = d.0 in let p = z.plan in p.joins) none)

    -- none of its stores is listed there
    pub unlisted_there : (s : ℕ) → has s stores ≡ true → is_among (listed_from lines x start (filter counts before)) s ≡ false
    unlisted_there s on = ap (λ us. is_among (listed_from lines x start us) s) places.1 ∙ ap (λ ns. is_among ns s) (listed_on lines x start
        (reverse cut.1) places.0) ∙ stays_unlisted lines x s (listed_from lines x start (reverse cut.1)) places.0 adds front
      where
        content : (let e = entry_in first split.earlier in e.content) ≡ listed_from lines x start (reverse cut.1)
        content = ap (λ (e : Packed). e.content) (entry_counted first split.earlier
            ∙ by_decisions values lines x start mark first begins (filter counts_of split.earlier) cut.1 cut.4)

        front : is_among (listed_from lines x start (reverse cut.1)) s ≡ false
        front = by (is_among (listed_from lines x start (reverse cut.1)) s) refl
          where
            by : (b : Bool) → is_among (listed_from lines x start (reverse cut.1)) s ≡ b →
                is_among (listed_from lines x start (reverse cut.1)) s ≡ false
            by false none = none
            by true among =
                absurd (split.unlisted s on (ap (has s) content ∙ has_among s (listed_from lines x start (reverse cut.1)) ∙ among))
