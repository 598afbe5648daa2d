-- As decided tops that only include a store knew those that wrote the object before them, none of these is behind a top that is new in the
-- last event.
use Rattle.arj_law_parts.proofs.Words
use Words.{Contains, ◌≡◌, ◌⊎◌, ◌≤◌, ◌<◌, ◌++◌, ℕ, List, [], ◌∷◌, Bool, true, false, cond, filter, length, Option, Some, None, is_some, refl}
use Words.{sym, ◌∙◌, ap, subst, inl, inr, arith, is_on, in_from, Header, Label, Line, Uid, uid_number, World, Wrote, IsNew, lines_before}
use Words.list
use Words.body
use Rattle.arj_law_serial.proofs.Terms
use Terms.{Act, Placed, acts, Top, tops, first_values, uid_of_id, Values, top_place, counts_of, Done, Packed, in_decided, Book, book}
use Terms.{book_from, is_decided, new_book, called, called_of, AreRight, book_more, decided_later, later_from, its_call, AreDecided}
use Terms.{AreDecisions, AreNewestFirst, IsDecision, WroteSo, CommitsBeginIt, IncludersKnow, IsSaidFirst, IsOrderedSo, is_said}
use Terms.words as disk
use Rattle.arj_law_disk.specs.machine.State.{State}
use Rattle.arj_law_parts.specs.moves.Keeps.{Holds}
use Rattle.arj_law_runs.proofs.journal.Books.{never}
use Rattle.arj_law_runs.specs.journal.Laws.{AreApart}
use Rattle.arj_law_serial.proofs.joint
use joint.{Excluding.each_decision, JoinOrder.counts_there, NamedTops.disk_of}
use joint.Called.{end_in, on_front, there_before}
use joint.NewWriters.{IsReadAt, call_is, its_uid, read_at, said_before}
use Rattle.arj_law_serial.proofs.order.{Order.IsTopOf, Order.listed, Order.place_of_top, Order.top_item, Tying.all_at}
use Rattle.arj_law_serial.specs.joint.SaidFirst.{IncluderKnows}

-- ---- lists

-- of two fronts of a list the longer one begins with the other
longer : {A : Type 0} (xs us ys vs : List A) → xs ++ ys ≡ us ++ vs → length xs ≤ length us → (ms : List A) × (us ≡ xs ++ ms)
longer [] us ys vs same less = (us, refl)
longer (x ∷ xs) [] ys vs same less = absurd (omega (arith, less))
longer {A} (x ∷ xs) (u ∷ us) ys vs same less =
    let head : x ≡ u = cc same in
    let tail : xs ++ ys ≡ us ++ vs = cc same in
    let r = longer xs us ys vs tail (omega (arith, less)) in
    (r.0, ap (λ z. z ∷ us) (sym head) ∙ ap (λ zs. x ∷ zs) r.1)

-- ---- each two of these

-- of some of them
know_left : (lines : List Line) (p : Done → Bool) (ds : List Done) → IncludersKnow lines ds → IncludersKnow lines (filter p ds)
know_left lines p [] know = tt
know_left lines p (d ∷ ds) know = by (p d) (know_left lines p ds know.1)
  where
    by : (b : Bool) → IncludersKnow lines (filter p ds) → IncludersKnow lines (cond b (d ∷ filter p ds) (filter p ds))
    by true ih = (λ e k. know.0 e (there_before p e ds k), ih)
    by false ih = ih

-- two decisions, of which the second one's came later
record IsLaterOne (values : Values) (lines : List Line) (x : ℕ) (ds : List Done) (w u : Top) : Type 0 where
  first : Done
  second : Done
  first_there : disk.In first ds
  second_there : disk.In second ds
  first_is : IsDecision values lines x first w
  second_is : IsDecision values lines x second u
  knows : IncluderKnows lines first second

-- a top whose commit was called behind that of another one was decided later
later_one : (values : Values) (lines : List Line) (x : ℕ) (ds : List Done) (us : List Top) → AreDecisions values lines x ds us →
    IncludersKnow lines ds → AreNewestFirst us → (u w : Top) → list.In u us → list.In w us →
    (u.at ≤ w.at) ⊎ IsLaterOne values lines x ds w u
later_one values lines x [] [] are know order u w i j = absurd i
later_one values lines x [] (v ∷ us) are know order u w i j = absurd are
later_one values lines x (d ∷ ds) [] are know order u w i j = absurd are
later_one values lines x (d ∷ ds) (v ∷ us) are know order u w (inl a) (inl b) =
    inl (let e = ap (λ (z : Top). z.at) (sym a ∙ b) in omega (arith, e))
later_one values lines x (d ∷ ds) (v ∷ us) are know order u w (inl a) (inr j) =
    let r = each_decision values lines x ds us are.1 w j in
    inr (record {
      first = r.0;
      second = d;
      first_there = inr r.1;
      second_there = inl refl;
      first_is = r.2;
      second_is = subst (IsDecision values lines x d) a are.0;
      knows = know.0 r.0 r.1;
    })
later_one values lines x (d ∷ ds) (v ∷ us) are know order u w (inr i) (inl b) =
    inl (let less = all_at (λ (z : Top). z.at < v.at) us order.0 u i in let e = ap (λ (z : Top). z.at) b in omega (arith, less, e))
later_one values lines x (d ∷ ds) (v ∷ us) are know order u w (inr i) (inr j) =
    elim (later_one values lines x ds us are.1 know.1 order.1 u w i j) [
      | inl le ↦ inl le
      | inr r ↦ inr (record {
        first = r.first;
        second = r.second;
        first_there = inr r.first_there;
        second_there = inr r.second_there;
        first_is = r.first_is;
        second_is = r.second_is;
        knows = r.knows;
      })
    ]

-- ---- in a world

module _ (hd : Header) (w : World) (right : AreRight new_book w.lines) (begins : CommitsBeginIt w.event w.lines) (x : ℕ)
    (h : Holds hd (IsOrderedSo hd x) w) (d : AreDecided hd w.lines x (let Q = disk_of h.holds in Q.tops))
    (t : Top) (new : IsNew w.event w.lines t) (wrote : Wrote w.lines x t) where
  abbrev lines : List Line
  lines = w.lines

  abbrev values : Values
  values = first_values hd

  abbrev S : State
  S = disk_of h.holds

  abbrev event : ℕ
  event = w.event

  ti : IsTopOf lines t
  ti = top_item lines right t (in_from t (tops lines) new.0)

  abbrev v : Uid
  v = let k = ti.act in k.uid

  -- no action whose commit is called knew it
  unknown : (a : Act) → list.In a (acts lines) → is_on (let B = book lines in B.called) a.uid ≡ true → IsSaidFirst lines v a.uid → ⊥
  unknown a a_there on (before, behind, is, old, off) = by (cases (let e = call.0 in e.at) (length before))
    where
      call : (e : Placed ℕ) × list.In e (called lines) × (e.it ≡ a.id)
      call = end_in (called lines) a.id (its_call lines right a a_there ∙ on)

      spot : IsReadAt called_of [] 0 lines call.0
      spot = read_at called_of [] 0 lines call.0 call.1

      label : (l : Label) × ((let k = spot.line in k.body) ≡ body.Committing l)
      label = let r = call_is (acts spot.before) (let k = spot.line in k.body) (let e = call.0 in e.it) spot.reads in (r.0, r.1)

      cases : (m n : ℕ) → (m < n) ⊎ (n ≤ m)
      cases m n = grind arith

      by : ((let e = call.0 in e.at) < length before) ⊎ (length before ≤ (let e = call.0 in e.at)) → ⊥
      by (inl less) = never (on_front lines right before behind is a a_there call.0 call.1 call.2 less) off
      by (inr more) =
          let at = spot.place in
          let m = longer before spot.before behind (spot.line ∷ spot.behind) (sym is ∙ spot.are) (omega (arith, more, at)) in
          let there : is_decided (book spot.before) v ≡ true =
          ap (λ zs. is_decided (book zs) v) m.1 ∙ ap (λ (B : Book). is_decided B v) (book_more new_book before m.0)
          ∙ decided_later (book before) (book_from (book before) m.0) (later_from (book before) m.0) v old in
          never (ap (is_said (lines_before event lines)) (its_uid lines right t ti)
          ∙ said_before lines right event begins spot.before spot.line spot.behind label.0 spot.are label.1 v there) new.1

  -- its decision
  there : (w : Top) × Contains d.those w × (w.id ≡ t.id)
  there = let r = d.all wrote.0 wrote.1 wrote.2 in (r.0, r.1, sym r.2 ∙ wrote.3)

  its_number : (e : Done) (w : Top) → w.id ≡ t.id → IsDecision values lines x e w → uid_number v ≡ e.top
  its_number e w same is = sym (is.number ∙ ap (λ n. uid_number (uid_of_id (acts lines) n)) same ∙ ap uid_number (its_uid lines right t ti))

  its_write : (e : Done) (w : Top) → w.id ≡ t.id → IsDecision values lines x e w → is_some (let p = e.plan in p.writes) ≡ true
  its_write e w same is = by (let p = e.plan in p.writes) is.wrote
    where
      by : (o : Option Packed) → WroteSo values lines x w o → is_some o ≡ true
      by None none = absurd (never wrote.2 (none wrote.0 wrote.1 (wrote.3 ∙ sym same)))
      by (Some z) some = refl

  -- none that was decided later and didn't write counts
  none_later : (e z : Done) (w : Top) → disk.In z S.tops → w.id ≡ t.id → IsDecision values lines x e w → e.counts ≡ true → z.counts ≡ true →
      (let p = z.plan in p.writes) ≡ None → IncluderKnows lines e z → ⊥
  none_later e z w inside same is counts_e counts_z none knows =
      unknown whose.0 (in_from whose.0 (acts lines) whose.1) (let o = h.holds in o.called z inside (let a = whose.0 in a.uid) whose.2)
      (knows v (let a = whose.0 in a.uid) counts_z counts_e (its_write e w same is) none (its_number e w same is) whose.2)
    where
      whose : (a : Act) × Contains (acts lines) a × (uid_number a.uid ≡ z.top)
      whose = let o = h.holds in let b = o.begun in let k = b.journalled in k.whose z.top (in_decided S.tops z inside)

  pub none_last : (u : Top) → Contains d.those u → (Wrote lines x u → ⊥) → u.at ≤ t.at
  none_last u c silent = by (later_one values lines x (filter counts_of S.tops) d.those d.each (know_left lines counts_of S.tops
      (let o = h.holds in o.know)) d.called u there.0 (in_from u d.those c) (in_from there.0 d.those there.1))
    where
      apart : AreApart (tops lines)
      apart = let l = listed lines right in l.apart

      w_there : list.In there.0 (tops lines)
      w_there = in_from there.0 (tops lines) (let q =
          (each_decision values lines x (filter counts_of S.tops) d.those d.each there.0 (in_from there.0 d.those there.1)).2 in q.listed)

      place : (let w = there.0 in w.at) ≡ t.at
      place = sym (place_of_top (tops lines) there.0 apart w_there) ∙ ap (top_place (tops lines)) there.2
          ∙ place_of_top (tops lines) t apart (in_from t (tops lines) new.0)

      wrote_nothing : (o : Option Packed) → WroteSo values lines x u o → o ≡ None
      wrote_nothing None none = refl
      wrote_nothing (Some z) (k, last, writer, content) = absurd (silent (k, last.there, last.write, last.whose))

      by : (u.at ≤ (let w = there.0 in w.at)) ⊎ IsLaterOne values lines x (filter counts_of S.tops) there.0 u → u.at ≤ t.at
      by (inl le) = omega (arith, le, place)
      by (inr r) = absurd (none_later r.first r.second there.0
          (there_before counts_of r.second S.tops r.second_there)
          there.2 r.first_is (counts_there r.first S.tops r.first_there) (counts_there r.second S.tops r.second_there)
          (wrote_nothing (let p = r.second.plan in p.writes) (let q = r.second_is in q.wrote)) r.knows)
