-- The pair of entries under what naming does, and maps by number.
use Rattle.arj_law_parts.proofs.Words
use Words.{◌≡◌, ◌≢◌, ◌⊎◌, ℕ, List, [], ◌∷◌, ◌++◌, Bool, true, false, cond, Some, refl, sym, ◌∙◌, ap, subst, inl, inr, ⊎_elim, Contains}
use Words.{Option, None, unwrap_or, flat_map, nat_cmp, is_eq, match_ordering, nat_cmp-IsAntisymmetric, Ordering, Less, Equal, Greater}
use Words.{uid_order, uid_cases, In, in_from, in_to, Uid, ObjectState, Body, entry, at_number, each, at_uid, put_uid, Effect, Say, Send, Do}
use Words.{Pair, new_states, pair_committed, pair_aborted, end_entries}
use Words.ending
use Rattle.arj_law_parts.proofs.Terms.{moved, names_after, HasPrepared, IsGoodPair, AreSorted, Owners}
use Rattle.arj_law_parts.proofs.parts.Keys.{put_same, put_other, put_cases, without_cases, sorted_without, order_exact}
use Rattle.arj_law_parts.specs.parts.Entries.{names_worked}

-- ---- effects

pub names_both : (es fs : List Effect) (d : Pair) → names_after (es ++ fs) d ≡ names_after fs (names_after es d)
names_both [] fs d = refl
names_both (Do w ∷ es) fs d = names_both es fs (names_worked w d)
names_both (Say b ∷ es) fs d = names_both es fs d
names_both (Send to m ∷ es) fs d = names_both es fs d

-- a line or none
pub names_line : (b : Bool) (l : Body) (d : Pair) → names_after (cond b (Say l ∷ []) []) d ≡ d
names_line true l d = refl
names_line false l d = refl

pub names_no_line : (b : Bool) (l : Body) (d : Pair) → names_after (cond b [] (Say l ∷ [])) d ≡ d
names_no_line true l d = refl
names_no_line false l d = refl

-- ---- aborts, one after another

abbrev pub aborts : List Uid → List Effect
aborts us = flat_map (λ act. end_entries act ending.Abort) us

pub aborts_held : (us : List Uid) (d : Pair) → (names_after (aborts us) d).held ≡ d.held
aborts_held [] d = refl
aborts_held (u ∷ us) d = aborts_held us (pair_aborted u d)

pub aborts_sorted : (us : List Uid) (d : Pair) → AreSorted d.pend → AreSorted (names_after (aborts us) d).pend
aborts_sorted [] d sorted = sorted
aborts_sorted (u ∷ us) d sorted = aborts_sorted us (pair_aborted u d) (sorted_without u d.pend sorted)

-- what is left prepared was prepared, by another action
pub aborts_left : (us : List Uid) (d : Pair) (a : Uid) (states : List ObjectState) → AreSorted d.pend →
    at_uid a (names_after (aborts us) d).pend ≡ Some states → (at_uid a d.pend ≡ Some states) × (In a us → ⊥)
aborts_left [] d a states sorted is = (is, λ i. i)
aborts_left (u ∷ us) d a states sorted is =
    let r = aborts_left us (pair_aborted u d) a states (sorted_without u d.pend sorted) is in
    let f = without_cases a u states d.pend sorted r.0 in
    (f.1, λ i. ⊎_elim (λ same. f.0 (sym same)) (λ rest. r.1 rest) i)

-- ---- committed states

pub moved_cases : (ss : List ObjectState) (held : List (Uid × ObjectState)) (w : Uid) (h : ObjectState) →
    at_uid w (moved ss held) ≡ Some h → (at_uid w held ≡ Some h) ⊎ (In h ss × (w ≡ h.uid))
moved_cases [] held w h is = inl is
moved_cases (s ∷ ss) held w h is =
    ⊎_elim (λ old. ⊎_elim (λ f. inr (inl f.1, f.0 ∙ ap (λ (t : ObjectState). t.uid) f.1)) (λ f. inl f.1) (put_cases w s.uid s h held old))
    (λ f. inr (inr f.0, f.1)) (moved_cases ss (put_uid s.uid s held) w h is)

pub moved_other : (ss : List ObjectState) (held : List (Uid × ObjectState)) (w : Uid) → ((s : ObjectState) → In s ss → w ≢ s.uid) →
    at_uid w (moved ss held) ≡ at_uid w held
moved_other [] held w other = refl
moved_other (s ∷ ss) held w other =
    moved_other ss (put_uid s.uid s held) w (λ t i. other t (inr i)) ∙ put_other w s.uid s held (other s (inl refl))

-- something stays under each Uid
pub moved_stays : (ss : List ObjectState) (held : List (Uid × ObjectState)) (w : Uid) (h : ObjectState) → at_uid w held ≡ Some h →
    (k : ObjectState) × (at_uid w (moved ss held) ≡ Some k)
moved_stays [] held w h is = (h, is)
moved_stays (s ∷ ss) held w h is = ⊎_elim (λ same. moved_stays ss (put_uid s.uid s held) w s (ap (λ k. at_uid k (put_uid s.uid s held)) same
    ∙ put_same s.uid s held)) (λ other. moved_stays ss (put_uid s.uid s held) w h (put_other w s.uid s held other ∙ is)) (uid_cases w s.uid)

in_put : {X : Type 0} (e : Uid × X) (w : Uid) (v : X) (m : List (Uid × X)) → In e (put_uid w v m) → (e.0 ≡ w) ⊎ In e m
in_put {X} e w v [] (inl same) = inl (ap (λ (f : Uid × X). f.0) (sym same))
in_put e w v [] (inr i) = absurd i
in_put {X} e w v (f ∷ fs) i = by (uid_order w f.0) refl i (in_put e w v fs)
  where
    by : (r : Ordering) → uid_order w f.0 ≡ r → In e (match_ordering r ((w, v) ∷ f ∷ fs) ((f.0, v) ∷ fs) (f ∷ put_uid w v fs)) →
        (In e (put_uid w v fs) → (e.0 ≡ w) ⊎ In e fs) → (e.0 ≡ w) ⊎ In e (f ∷ fs)
    by Less is (inl same) ih = inl (ap (λ (g : Uid × X). g.0) (sym same))
    by Less is (inr j) ih = inr j
    by Equal is (inl same) ih = inl (ap (λ (g : Uid × X). g.0) (sym same) ∙ sym (order_exact w f.0 is))
    by Equal is (inr j) ih = inr (inr j)
    by Greater is (inl same) ih = inr (inl same)
    by Greater is (inr j) ih = ⊎_elim (λ new. inl new) (λ old. inr (inr old)) (ih j)

pub moved_names : (ss : List ObjectState) (held : List (Uid × ObjectState)) → ((s : ObjectState) → In s ss → s.uid ≡ entry s.uid.num) →
    ((e : Uid × ObjectState) → In e held → e.0 ≡ entry e.0.num)
    → (e : Uid × ObjectState) → In e (moved ss held) → e.0 ≡ entry e.0.num
moved_names [] held new old e i = old e i
moved_names (s ∷ ss) held new old e i =
    moved_names ss (put_uid s.uid s held) (λ t j. new t (inr j)) (λ f j. ⊎_elim
    (λ same. same ∙ new s (inl refl) ∙ ap (λ (w : Uid). entry w.num) (sym same)) (λ there. old f there) (in_put f s.uid s held j)) e i

-- ---- fewer prepared actions

pub fewer_good : (owner : Owners) (d e : Pair) → e.held ≡ d.held → AreSorted e.pend → ((a : Uid) (states : List ObjectState) →
    at_uid a e.pend ≡ Some states → at_uid a d.pend ≡ Some states) → IsGoodPair owner d → IsGoodPair owner e
fewer_good owner d e same sorted fewer good = record {
  sorted = sorted;
  names = λ f c. good.names f (subst (λ m. Contains m f) same c);
  tops = λ a states is. good.tops a states (fewer a states is);
  own = λ a states s is c. let o = good.own a states s (fewer a states is) c in
      record { writer = o.writer; x = o.x; of = o.of; held = o.held; there = ap (at_uid s.uid) same ∙ o.there };
  alone = λ a b x s t p q. good.alone a b x s t (back a x s p) (back b x t q);
}
  where
    back : (a : Uid) (x : ℕ) (s : ObjectState) → HasPrepared a x s e → HasPrepared a x s d
    back a x s p = record { states = p.states; prepared = fewer a p.states p.prepared; there = p.there; of = p.of }

-- ---- committed states, put in their places

module _ (owner : Owners) (d : Pair) (good : IsGoodPair owner d) where
  -- states of entries, put in the places of the committed ones
  pub moved_good : (ss : List ObjectState) → ((s : ObjectState) → In s ss → s.uid ≡ entry s.uid.num) →
      IsGoodPair owner (record d { held = moved ss d.held })
  moved_good ss entries = record {
    sorted = good.sorted;
    names = λ e c. moved_names ss d.held entries (λ g j. good.names g (in_to g d.held j)) e (in_from e (moved ss d.held) c);
    tops = good.tops;
    own = λ a states s is c. let o = good.own a states s is c in let k = moved_stays ss d.held s.uid o.held o.there in
        record { writer = o.writer; x = o.x; of = o.of; held = k.0; there = k.1 };
    alone = λ a b x s t p q. good.alone a b x s t (back a x s p) (back b x t q);
  }
    where
      back : (a : Uid) (x : ℕ) (s : ObjectState) → HasPrepared a x s (record d { held = moved ss d.held }) → HasPrepared a x s d
      back a x s p = record { states = p.states; prepared = p.prepared; there = p.there; of = p.of }

  -- what an action has prepared is of entries
  pub entries_of : (u : Uid) (s : ObjectState) → In s (new_states u d) → s.uid ≡ entry s.uid.num
  entries_of u s i = by (at_uid u d.pend) refl i
    where
      by : (o : Option (List ObjectState)) → at_uid u d.pend ≡ o → In s (unwrap_or o []) → s.uid ≡ entry s.uid.num
      by None is j = absurd j
      by (Some states) is j = let o = good.own u states s is (in_to s states j) in o.of ∙ ap (λ (w : Uid). entry w.num) (sym o.of)

pub committed_good : (owner : Owners) (d : Pair) → IsGoodPair owner d → (u : Uid) → IsGoodPair owner (pair_committed u d)
committed_good owner d good u =
    let m : Pair = record d { held = moved (new_states u d) d.held } in
    fewer_good owner m (pair_committed u d) refl (sorted_without u d.pend good.sorted) (λ a states is.
    (without_cases a u states d.pend good.sorted is).1) (moved_good owner d good (new_states u d) (entries_of owner d good u))

-- ---- maps by number

pub at_each : {X : Type 0} (f : ℕ → X → X) (k : ℕ) (m : List (ℕ × X)) (y : X) → at_number k (each f m) ≡ Some y →
    (x : X) × (at_number k m ≡ Some x) × (y ≡ f k x)
at_each f k [] y is = cc
at_each {X} f k (e ∷ es) y is = by (nat_cmp k e.0) refl is (at_each f k es y)
  where
    by : (r : Ordering) → nat_cmp k e.0 ≡ r → cond (is_eq r) (Some (f e.0 e.1)) (at_number k (each f es)) ≡ Some y →
        (at_number k (each f es) ≡ Some y → (x : X) × (at_number k es ≡ Some x) × (y ≡ f k x))
        → (x : X) × (cond (is_eq r) (Some e.1) (at_number k es) ≡ Some x) × (y ≡ f k x)
    by Less e' found ih = ih found
    by Equal e' found ih = let same : f e.0 e.1 ≡ y = cc in
        (e.1, refl, sym same ∙ ap (λ j. f j e.1) (sym (nat_cmp-IsAntisymmetric k e.0 e')))
    by Greater e' found ih = ih found

pub each_at : {X : Type 0} (f : ℕ → X → X) (k : ℕ) (m : List (ℕ × X)) (x : X) → at_number k m ≡ Some x →
    at_number k (each f m) ≡ Some (f k x)
each_at f k [] x is = cc
each_at {X} f k (e ∷ es) x is = by (nat_cmp k e.0) refl is (each_at f k es x)
  where
    by : (r : Ordering) → nat_cmp k e.0 ≡ r → cond (is_eq r) (Some e.1) (at_number k es) ≡ Some x →
        (at_number k es ≡ Some x → at_number k (each f es) ≡ Some (f k x))
        → cond (is_eq r) (Some (f e.0 e.1)) (at_number k (each f es)) ≡ Some (f k x)
    by Less e' found ih = ih found
    by Equal e' found ih = let same : e.1 ≡ x = cc in λ i. Some (f (sym (nat_cmp-IsAntisymmetric k e.0 e') i) (same i))
    by Greater e' found ih = ih found

-- what a key finds stands in the list
pub number_in : {X : Type 0} (k : ℕ) (m : List (ℕ × X)) (x : X) → at_number k m ≡ Some x → In (k, x) m
number_in k [] x is = cc
number_in {X} k (e ∷ es) x is = by (nat_cmp k e.0) refl is (number_in k es x)
  where
    by : (r : Ordering) → nat_cmp k e.0 ≡ r → cond (is_eq r) (Some e.1) (at_number k es) ≡ Some x →
        (at_number k es ≡ Some x → In (k, x) es) → In (k, x) (e ∷ es)
    by Less e' found ih = inr (ih found)
    by Equal e' found ih = let same : e.1 ≡ x = cc in inl (λ i. (sym (nat_cmp-IsAntisymmetric k e.0 e') i, same i))
    by Greater e' found ih = inr (ih found)
