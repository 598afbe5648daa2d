-- Of the tops that an object's disk machine decided and that count, the one that was said last, and wrote the object, had its commit called
-- last; so it is the machine's latest.
use Rattle.arj_law_disk.specs.machine.{State.is_latest, State.is_latest_in, Words.In}
use Rattle.arj_law_parts.proofs.Words
use Words.{Contains, ◌≡◌, ◌⊎◌, ◌≤◌, ◌<◌, ◌==◌, ◌++◌, ℕ, List, [], ◌∷◌, Bool, true, false, cond, filter, length, Option, Some, None}
use Words.{is_some, refl, sym, ◌∙◌, ap, subst, inl, inr, ⊎_elim, arith, eq-eqb, eqb-true, is_on, in_from, in_to, Header, Label, Line}
use Words.{uid_number}
use Words.{World, Wrote, name, uid_of}
use Words.list as members
use Words.body
use Rattle.arj_law_parts.specs.moves.Keeps.{Holds}
use Rattle.arj_law_runs.proofs.journal.{Books.book_more, Books.decided_later, Books.later_from, Books.never}
use Rattle.arj_law_runs.specs.journal.Book.{Book, book, book_from, is_decided, new_book}
use Rattle.arj_law_runs.specs.journal.Laws.{AreApart}
use Rattle.arj_law_runs.specs.journal.Right.{AreRight}
use Rattle.arj_law_serial.proofs.Terms
use Terms.{Act, act_in, acts, Top, tops, first_values, uid_of_id, Values, top_place, counts_of, Done, Packed, in_decided, AreDecided}
use Terms.{AreDecisions}
use Terms.{AreNewestFirst, Core, IsDecision, WroteSo, IncludersKnow, IsSaidFirst, IsOrderedSo, IsTied, State}
use Terms.disk as disk_machine
use Rattle.arj_law_serial.proofs.joint
use joint.{Called.there_before, Called.writers_are_called_first, Excluding.each_decision, JoinOrder.counts_there, NamedTops.disk_of}
use joint.{NewWriters.its_uid}
use Rattle.arj_law_serial.proofs.order.Order.{IsTopOf, listed, place_of_top, same_number, top_item}
use Rattle.arj_law_serial.proofs.order.Tying.{all_at}
use Rattle.arj_law_serial.specs.joint.SaidFirst.{IncluderKnows}
use Rattle.arj_law_cause.proofs.stores.Moments.{AreCalm}
use Rattle.arj_law_cause.proofs.stores.Saying as saying

-- ---- lists

-- of two fronts of a list the longer one begins with the other
longer : {A : Type 0} (xs us ys vs : List A) → xs ++ ys ≡ us ++ vs → length xs ≤ length us → (ms : List A) × (us ≡ xs ++ ms)
longer [] us ys vs same less = (us, refl)
longer (x ∷ xs) [] ys vs same less = absurd (omega (arith, less))
longer {A} (x ∷ xs) (u ∷ us) ys vs same less =
    let head : x ≡ u = cc same in
    let tail : xs ++ ys ≡ us ++ vs = cc same in
    let r = longer xs us ys vs tail (omega (arith, less)) in
    (r.0, ap (λ z. z ∷ us) (sym head) ∙ ap (λ zs. x ∷ zs) r.1)

-- the first of the decided tops that count is the latest
first_is_latest : (ds : List Done) (d : Done) (es : List Done) → filter counts_of ds ≡ d ∷ es → is_latest_in ds d.top ≡ true
first_is_latest [] d es e = absurd (cc e)
first_is_latest (z ∷ ds) d es e = by z.counts e (first_is_latest ds d es)
  where
    by : (b : Bool) → cond b (z ∷ filter counts_of ds) (filter counts_of ds) ≡ d ∷ es →
        (filter counts_of ds ≡ d ∷ es → is_latest_in ds d.top ≡ true) → cond b (z.top == d.top) (is_latest_in ds d.top) ≡ true
    by true f ih = let same : z ≡ d = cc f in eq-eqb z.top d.top (ap (λ (y : Done). y.top) same)
    by false f ih = ih f

-- a top behind which none stands is the first
newest_first : (ts : List Top) (t : Top) → AreNewestFirst ts → members.In t ts → ((u : Top) → members.In u ts → u.at ≤ t.at) →
    (us : List Top) × (ts ≡ t ∷ us)
newest_first [] t order i most = absurd i
newest_first (u ∷ ts) t order (inl is) most = (ts, ap (λ z. z ∷ ts) is)
newest_first (u ∷ ts) t order (inr i) most = let less = all_at (λ (z : Top). z.at < u.at) ts order.0 t i in let le = most u (inl refl) in
    absurd (omega (arith, less, le))

-- its decision is the first one
first_decision : (values : Values) (lines : List Line) (x : ℕ) (ds : List Done) (t : Top) (ts : List Top) →
    AreDecisions values lines x ds (t ∷ ts) → (d : Done) × (es : List Done) × (ds ≡ d ∷ es) × IsDecision values lines x d t
first_decision values lines x [] t ts are = absurd are
first_decision values lines x (d ∷ ds) t ts are = (d, ds, refl, are.0)

know_left : (lines : List Line) (p : Done → Bool) (ds : List Done) → IncludersKnow lines ds → IncludersKnow lines (filter p ds)
know_left lines p [] know = tt
know_left lines p (d ∷ ds) know = by (p d) (know_left lines p ds know.1)
  where
    by : (b : Bool) → IncludersKnow lines (filter p ds) → IncludersKnow lines (cond b (d ∷ filter p ds) (filter p ds))
    by true ih = (λ e k. know.0 e (there_before p e ds k), ih)
    by false ih = ih

-- two decisions, of which the second one's came later
record IsLaterOne (values : Values) (lines : List Line) (x : ℕ) (ds : List Done) (w u : Top) : Type 0 where
  first : Done
  second : Done
  first_there : In first ds
  second_there : In second ds
  first_is : IsDecision values lines x first w
  second_is : IsDecision values lines x second u
  knows : IncluderKnows lines first second

-- a top whose commit was called behind that of another one was decided later
later_one : (values : Values) (lines : List Line) (x : ℕ) (ds : List Done) (us : List Top) → AreDecisions values lines x ds us →
    IncludersKnow lines ds → AreNewestFirst us → (u w : Top) → members.In u us → members.In w us →
    (u.at ≤ w.at) ⊎ IsLaterOne values lines x ds w u
later_one values lines x [] [] are know order u w i j = absurd i
later_one values lines x [] (v ∷ us) are know order u w i j = absurd are
later_one values lines x (d ∷ ds) [] are know order u w i j = absurd are
later_one values lines x (d ∷ ds) (v ∷ us) are know order u w (inl a) (inl b) =
    inl (let e = ap (λ (z : Top). z.at) (sym a ∙ b) in omega (arith, e))
later_one values lines x (d ∷ ds) (v ∷ us) are know order u w (inl a) (inr j) =
    let r = each_decision values lines x ds us are.1 w j in
    inr (record {
      first = r.0;
      second = d;
      first_there = inr r.1;
      second_there = inl refl;
      first_is = r.2;
      second_is = subst (IsDecision values lines x d) a are.0;
      knows = know.0 r.0 r.1;
    })
later_one values lines x (d ∷ ds) (v ∷ us) are know order u w (inr i) (inl b) =
    inl (let less = all_at (λ (z : Top). z.at < v.at) us order.0 u i in let e = ap (λ (z : Top). z.at) b in omega (arith, less, e))
later_one values lines x (d ∷ ds) (v ∷ us) are know order u w (inr i) (inr j) =
    elim (later_one values lines x ds us are.1 know.1 order.1 u w i j) [
      | inl le ↦ inl le
      | inr r ↦ inr (record {
        first = r.first;
        second = r.second;
        first_there = inr r.first_there;
        second_there = inr r.second_there;
        first_is = r.first_is;
        second_is = r.second_is;
        knows = r.knows;
      })
    ]

-- a top that counts wrote, or it didn't
wrote_or_not : (values : Values) (lines : List Line) (x : ℕ) (d : Done) (u : Top) → IsDecision values lines x d u →
    Wrote lines x u ⊎ (Wrote lines x u → ⊥)
wrote_or_not values lines x d u q = by (let p = d.plan in p.writes) q.wrote
  where
    by : (o : Option Packed) → WroteSo values lines x u o → Wrote lines x u ⊎ (Wrote lines x u → ⊥)
    by None none = inr (λ c. never c.2 (none c.0 c.1 c.3))
    by (Some w) some = let k = some.1 in inl (some.0, k.there, k.write, k.whose)

-- ---- the one that was said last

module _ (hd : Header) (w : World) (right : AreRight new_book w.lines) (x : ℕ) (h : Holds hd (IsOrderedSo hd x) w)
    (d : AreDecided hd w.lines x (let Q = disk_of h.holds in Q.tops))
    (tied : (S : State) × IsTied (first_values hd) w.lines x S) (before calm : List Line) (line : Line) (l : Label)
    (is : line.body ≡ body.Committed l) (quiet : AreCalm calm) (are : w.lines ≡ before ++ line ∷ calm) (a : Act)
    (named : act_in (acts before) (name l) ≡ Some a) (undone : is_decided (book before) a.uid ≡ false) (t : Top)
    (listed_top : members.In t (tops w.lines))
    (own : t.id ≡ a.id) (wrote : Wrote w.lines x t) where
  abbrev values : Values
  values = first_values hd

  abbrev S : disk_machine.State
  S = disk_of h.holds

  there_a : members.In a (acts w.lines)
  there_a = saying.began_there w.lines right before calm line l is quiet are a named

  pub ti : IsTopOf w.lines t
  ti = top_item w.lines right t listed_top

  pub same_act : (let k = ti in k.act) ≡ a
  same_act = same_number w.lines right ti.act a ti.there there_a (ti.number ∙ own)

  uid_is : uid_of w.lines t ≡ a.uid
  uid_is = its_uid w.lines right t ti ∙ ap (λ (z : Act). z.uid) same_act

  apart : AreApart (tops w.lines)
  apart = let l = listed w.lines right in l.apart

  -- its decision
  mine : (v : Top) × Contains d.those v × (v.id ≡ t.id)
  mine = let r = d.all wrote.0 wrote.1 wrote.2 in (r.0, r.1, sym r.2 ∙ wrote.3)

  v_there : members.In mine.0 (tops w.lines)
  v_there = in_from mine.0 (tops w.lines) (let q =
      (each_decision values w.lines x (filter counts_of S.tops) d.those d.each mine.0 (in_from mine.0 d.those mine.1)).2 in q.listed)

  same_place : (let v = mine.0 in v.at) ≡ t.at
  same_place = sym (place_of_top (tops w.lines) mine.0 apart v_there) ∙ ap (top_place (tops w.lines)) mine.2
      ∙ place_of_top (tops w.lines) t apart listed_top

  -- no action whose commit is called was so only once it was decided
  unknown : (b : Act) → members.In b (acts w.lines) → is_on (let B = book w.lines in B.called) b.uid ≡ true →
      IsSaidFirst w.lines a.uid b.uid → ⊥
  unknown b b_there on (first, behind, cut, old, off) = by (cases (length before) (length first))
    where
      cases : (m n : ℕ) → (m ≤ n) ⊎ (n < m)
      cases m n = grind arith

      then : is_on (let B = book before in B.called) b.uid ≡ true
      then = saying.called_then w.lines right before calm line l is quiet are a named b.uid on

      by : (length before ≤ length first) ⊎ (length first < length before) → ⊥
      by (inl le) =
          let m = longer before first (line ∷ calm) behind (sym are ∙ cut) le in
          never (ap (λ (B : Book). is_on B.called b.uid) (ap book m.1 ∙ book_more new_book before m.0)
          ∙ (let z = later_from (book before) m.0 in z.called b.uid then)) off
      by (inr less) =
          let m = longer first before behind (line ∷ calm) (sym cut ∙ are) (omega (arith, less)) in
          never (ap (λ ls. is_decided (book ls) a.uid) m.1
          ∙ ap (λ (B : Book). is_decided B a.uid) (book_more new_book first m.0)
          ∙ decided_later (book first) (book_from (book first) m.0) (later_from (book first) m.0)
          a.uid old) undone

  its_number : (e : Done) (z : Top) → z.id ≡ t.id → IsDecision values w.lines x e z →
      uid_number a.uid ≡ e.top
  its_number e z same q = sym (q.number ∙ ap (λ n. uid_number (uid_of_id (acts w.lines) n)) same ∙ ap uid_number uid_is)

  its_write : (e : Done) (z : Top) → z.id ≡ t.id → IsDecision values w.lines x e z → is_some (let p = e.plan in p.writes) ≡ true
  its_write e z same q = by (let p = e.plan in p.writes) q.wrote
    where
      by : (o : Option Packed) → WroteSo values w.lines x z o → is_some o ≡ true
      by None none = absurd (never wrote.2 (none wrote.0 wrote.1 (wrote.3 ∙ sym same)))
      by (Some g) some = refl

  -- none that was decided later and didn't write counts
  none_later : (e z : Done) (v : Top) → In z S.tops → v.id ≡ t.id → IsDecision values w.lines x e v → e.counts ≡ true → z.counts ≡ true →
      (let p = z.plan in p.writes) ≡ None → IncluderKnows w.lines e z → ⊥
  none_later e z v inside same q counts_e counts_z none knows =
      unknown whose.0 (in_from whose.0 (acts w.lines) whose.1) (let o = h.holds in o.called z inside (let c = whose.0 in c.uid) whose.2)
      (knows a.uid (let c = whose.0 in c.uid) counts_z counts_e
      (its_write e v same q) none (its_number e v same q) whose.2)
    where
      whose : (c : Act) × Contains (acts w.lines) c × (uid_number c.uid ≡ z.top)
      whose = let o = h.holds in let b = o.begun in let k = b.journalled in k.whose z.top (in_decided S.tops z inside)

  none_last : (u : Top) → members.In u d.those → (Wrote w.lines x u → ⊥) → u.at ≤ t.at
  none_last u i silent = by (later_one values w.lines x (filter counts_of S.tops) d.those d.each (know_left w.lines counts_of S.tops
      (let o = h.holds in o.know)) d.called u mine.0 i (in_from mine.0 d.those mine.1))
    where
      wrote_nothing : (o : Option Packed) → WroteSo values w.lines x u o → o ≡ None
      wrote_nothing None none = refl
      wrote_nothing (Some z) (k, last, writer, content) = absurd (silent (k, last.there, last.write, last.whose))

      by : (u.at ≤ (let v = mine.0 in v.at)) ⊎ IsLaterOne values w.lines x (filter counts_of S.tops) mine.0 u → u.at ≤ t.at
      by (inl le) = let e = same_place in omega (arith, le, e)
      by (inr r) = absurd (none_later r.first r.second mine.0
          (there_before counts_of r.second S.tops r.second_there)
          mine.2 r.first_is (counts_there r.first S.tops r.first_there) (counts_there r.second S.tops r.second_there)
          (wrote_nothing (let p = r.second.plan in p.writes) (let q = r.second_is in q.wrote)) r.knows)

  wrote_last : (u : Top) → members.In u (tops w.lines) → Wrote w.lines x u → u.at ≤ t.at
  wrote_last u i its = by (u.id == t.id) refl
    where
      k : IsTopOf w.lines u
      k = top_item w.lines right u i

      by : (b : Bool) → (u.id == t.id) ≡ b → u.at ≤ t.at
      by true same = let e = sym (place_of_top (tops w.lines) u apart i) ∙ ap (top_place (tops w.lines)) (eqb-true u.id t.id same)
          ∙ place_of_top (tops w.lines) t apart listed_top in omega (arith, e)
      by false off =
          let less = writers_are_called_first values w.lines x tied.0 right tied.1 u t k.act ti.act
          (record { listed = in_to u (tops w.lines) i; wrote = its; there = in_to k.act (acts w.lines) k.there; number = k.number })
          (record {
            listed = in_to t (tops w.lines) listed_top;
            wrote = wrote;
            there = in_to ti.act (acts w.lines) ti.there;
            number = ti.number;
          })
          (λ same. let no_way : true ≡ false = sym (eq-eqb u.id t.id same) ∙ off in cc no_way) (
            before,
            line ∷ calm,
            are,
            saying.called_of_top w.lines right before calm line l is quiet are a named u k,
            ap (λ (z : Act). is_decided (book before) z.uid) same_act ∙ undone,
          ) in
          omega (arith, less)

  newest : (u : Top) → members.In u d.those → u.at ≤ (let v = mine.0 in v.at)
  newest u i =
      let q = each_decision values w.lines x (filter counts_of S.tops) d.those d.each u i in
      let k = q.2 in
      let le : u.at ≤ t.at = ⊎_elim {C = u.at ≤ t.at} (λ (yes : Wrote w.lines x u). wrote_last u (in_from u (tops w.lines) k.listed) yes)
      (λ none. none_last u i none)
      (wrote_or_not values w.lines x q.0 u k) in
      let e = same_place in omega (arith, le, e)

  first : (us : List Top) × (d.those ≡ mine.0 ∷ us)
  first = newest_first d.those mine.0 d.called (in_from mine.0 d.those mine.1) newest

  its : (e : Done) × (es : List Done) × (filter counts_of S.tops ≡ e ∷ es) × IsDecision values w.lines x e mine.0
  its = first_decision values w.lines x (filter counts_of S.tops) mine.0 first.0
      (subst (AreDecisions values w.lines x (filter counts_of S.tops)) first.1 d.each)

  number : (let e = its.0 in e.top) ≡ uid_number a.uid
  number = sym (its_number its.0 mine.0 mine.2 its.3)

  inside : In its.0 S.tops
  inside = there_before counts_of its.0 S.tops (subst (In its.0) (sym its.2) (inl refl))

  -- so it is the latest
  pub latest : is_latest S (uid_number a.uid) ≡ true
  latest = ap (is_latest_in S.tops) (sym number) ∙ first_is_latest S.tops its.0 its.1 its.2

  -- and its plan has what it wrote
  pub has_written : Core S → is_some (let p = S.plan (uid_number a.uid) in
      p.writes) ≡ true
  has_written core = ap (λ n. is_some (let p = S.plan n in p.writes)) (sym number)
      ∙ ap (λ (p : disk_machine.Plan). is_some p.writes) (sym (let k = core.journal in k.plan its.0 inside))
      ∙ its_write its.0 mine.0 mine.2 its.3
