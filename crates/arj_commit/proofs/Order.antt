-- The order of a commit, step by step.
use Rattle.std.proofs.Common.{◌≡◌, ◌⊎◌, ℕ, ◌+◌, List, [], ◌∷◌, ◌++◌, Bool, true, false, not, ◌||◌, ◌&&◌, ◌==◌, nat_lt, if◌then◌else◌, map}
use Rattle.std.proofs.Common.{refl, sym, ap, ◌∙◌, subst, arith, inl, inr}
use Rattle.std.specs.List.{flat_map, find, list_any, list_all, AllByRecursion}
use Rattle.std.specs.Ordering.{nat_cmp, match_ordering}
use Rattle.std.specs.declared.cmp.Ordering.{Ordering}
use Rattle.std.specs.declared.cmp.Ordering.TheVariants.{Less, Equal, Greater}
use Rattle.std.proofs.lemmas.Bool.Decides.{nat_tests}
use Rattle.std.proofs.lemmas.List.Folds.{list_any-append}
use Rattle.arj_base.specs.declared.state.ObjectState.{ObjectState}
use Rattle.arj_base.specs.declared.uid.Uid.{Uid}
use Rattle.arj_base.specs.Uid.{uid_eq, object}
use Rattle.arj_journal.specs.declared.body.Cause.{Cause}
use Rattle.arj_protocol.specs.Ask.{Reply}
use Rattle.arj_protocol.specs.Words.voted
use Rattle.arj_protocol.specs.Words.prepared
use Rattle.arj_protocol.specs.Words.confirmed
use Rattle.arj_protocol.specs.Order.{has, with_number, without_number, number_set}
use Rattle.arj_protocol.specs.Commit.{Plan, Used, Machine, Voting, Preparing, Stays, Asks, Decides, Aborts, Marked, start, servers_of}
use Rattle.arj_protocol.specs.Commit.{targets_of, states_for, marks_at, marks_store, marks_stores, stores_by, changed_of, is_marked}
use Rattle.arj_protocol.specs.Commit.{with_mark, with_marks, with_states, naming_node, participants, further, begin_confirm, begin_prepare}
use Rattle.arj_protocol.specs.Commit.{begin_vote, votes_left, stores_left}
use Rattle.arj_commit.specs.Requests.{states_in}
use Rattle.arj_commit.specs.Sets.{servers_in}
use Rattle.arj_commit.specs.Runs.{Heard, Answer, GiveUp, DecidedBy, InOrder, IsFresh, Confirms, AllMarked, is_vote, is_of_store, is_ready}
use Rattle.arj_commit.specs.Runs.{answers_of}

-- ---- sets

swap : (a b c : Bool) → (a || (b || c)) ≡ (b || (a || c))
swap true true c = refl
swap true false c = refl
swap false b c = refl

same_test : (k m n : ℕ) → nat_cmp k m ≡ Equal → (m == n) ≡ (k == n)
same_test k m n is = ap (λ x. x == n) (same is)
  where
    same : nat_cmp k m ≡ Equal → m ≡ k
    same e = grind (arith, nat_tests, e)

twice : (a b : Bool) → (a || b) ≡ (a || (a || b))
twice true b = refl
twice false b = refl

has_with : (k : ℕ) (ns : List ℕ) (n : ℕ) → has (with_number k ns) n ≡ ((k == n) || has ns n)
has_with k [] n = refl
has_with k (m ∷ ns) n = by (nat_cmp k m) refl (has_with k ns n)
  where
    by : (o : Ordering) → nat_cmp k m ≡ o → has (with_number k ns) n ≡ ((k == n) || has ns n)
        → has (match_ordering o (k ∷ m ∷ ns) (m ∷ ns) (m ∷ with_number k ns)) n ≡ ((k == n) || ((m == n) || has ns n))
    by Less is rest = refl
    by Equal is rest =
        ap (λ b. b || has ns n) (same_test k m n is) ∙ twice (k == n) (has ns n) ∙ ap (λ b. (k == n) || (b || has ns n)) (sym (same_test k m n is))
    by Greater is rest = ap (λ b. (m == n) || b) rest ∙ swap (m == n) (k == n) (has ns n)

pub has_set : (ns : List ℕ) (n : ℕ) → has (number_set ns) n ≡ has ns n
has_set [] n = refl
has_set (m ∷ ns) n = has_with m (number_set ns) n ∙ ap (λ b. (m == n) || b) (has_set ns n)

or_assoc : (a b c : Bool) → ((a || b) || c) ≡ (a || (b || c))
or_assoc true b c = refl
or_assoc false b c = refl

pub lists : (p : Plan) (n : ℕ) → has (participants p) n ≡ (has (servers_of p) n || (has p.prepared n || has (naming_node p) n))
lists p n =
    has_set (servers_of p ++ p.prepared ++ naming_node p) n
    ∙ list_any-append (λ m. m == n) (servers_of p ++ p.prepared) (naming_node p)
    ∙ ap (λ b. b || has (naming_node p) n) (list_any-append (λ m. m == n) (servers_of p) p.prepared)
    ∙ or_assoc (has (servers_of p) n) (has p.prepared n) (has (naming_node p) n)

has_flat : (f : Used → List ℕ) (us : List Used) (n : ℕ) → has (flat_map f us) n ≡ list_any (λ u. has (f u) n) us
has_flat f [] n = refl
has_flat f (u ∷ us) n = list_any-append (λ m. m == n) (f u) (flat_map f us) ∙ ap (λ b. has (f u) n || b) (has_flat f us n)

pub asks : (p : Plan) (n : ℕ) → has (targets_of p) n ≡ list_any (λ u. has (stores_by u (changed_of u.x p)) n) p.used
asks p n = has_set (flat_map (λ u. stores_by u (changed_of u.x p)) p.used) n ∙ has_flat (λ u. stores_by u (changed_of u.x p)) p.used n

gone : (n : ℕ) (ns : List ℕ) → has (without_number n ns) n ≡ false
gone n [] = refl
gone n (m ∷ ns) = by (m == n) refl (gone n ns)
  where
    by : (b : Bool) → (m == n) ≡ b → has (without_number n ns) n ≡ false →
        has (if not b then m ∷ without_number n ns else without_number n ns) n ≡ false
    by true is rest = rest
    by false is rest = ap (λ b. b || has (without_number n ns) n) is ∙ rest

stays : (n s : ℕ) (ns : List ℕ) → (n == s) ≡ false → has (without_number n ns) s ≡ has ns s
stays n s [] other = refl
stays n s (m ∷ ns) other = by (m == n) refl (stays n s ns other)
  where
    apart : (m == n) ≡ true → (m == s) ≡ false
    apart is = grind (arith, nat_tests, is, other)

    by : (b : Bool) → (m == n) ≡ b → has (without_number n ns) s ≡ has ns s
        → has (if not b then m ∷ without_number n ns else without_number n ns) s ≡ ((m == s) || has ns s)
    by true is rest = rest ∙ sym (ap (λ b. b || has ns s) (apart is))
    by false is rest = ap (λ b. (m == s) || b) rest

-- ---- tests

left_true : (a b : Bool) → a ≡ true → (a || b) ≡ true
left_true a b is = ap (λ c. c || b) is

right_true : (a b : Bool) → b ≡ true → (a || b) ≡ true
right_true true b is = refl
right_true false b is = is

either_true : (a b : Bool) → (a || b) ≡ true → (a ≡ true) ⊎ (b ≡ true)
either_true true b is = inl refl
either_true false b is = inr is

-- ---- the confirmation

ended : (hs : List Heard) (p q : Plan) → DecidedBy hs (Decides p) q → (hs ≡ []) × (p ≡ q)
ended [] p q is = (refl, is)
ended (h ∷ hs) p q never = absurd never

aborted : (hs : List Heard) (why : Cause) (p q : Plan) → DecidedBy hs (Aborts why p) q → ⊥
aborted [] why p q never = never
aborted (h ∷ hs) why p q never = never

as_stays : (hs : List Heard) (m : Machine) (q : Plan) → DecidedBy hs (Asks m) q → DecidedBy hs (Stays m) q
as_stays [] m q never = absurd never
as_stays (h ∷ hs) m q d = d

-- what the confirmation adds to a plan
record Confirmed (us : List Used) (p : Plan) (hs : List Heard) (q : Plan) : Type 0 where
  says : Confirms us hs q
  used : q.used ≡ p.used
  path : q.path ≡ p.path
  ends : q.ends ≡ p.ends
  changed : q.changed ≡ p.changed
  prepared : q.prepared ≡ p.prepared
  excluded : q.excluded ≡ p.excluded

confirm_phase : (us : List Used) (p q : Plan) (hs : List Heard) → DecidedBy hs (begin_confirm us p) q → Confirmed us p hs q
confirm_phase [] p q hs d =
    let e = ended hs p q d in
    let is : p ≡ q = e.1 in
    record {
      says = e.0;
      used = sym (ap (λ (r : Plan). r.used) is);
      path = sym (ap (λ (r : Plan). r.path) is);
      ends = sym (ap (λ (r : Plan). r.ends) is);
      changed = sym (ap (λ (r : Plan). r.changed) is);
      prepared = sym (ap (λ (r : Plan). r.prepared) is);
      excluded = sym (ap (λ (r : Plan). r.excluded) is);
    }
confirm_phase (u ∷ us) p q [] d = absurd d
confirm_phase (u ∷ us) p q (GiveUp ∷ hs) d = absurd (aborted hs _ _ q d.1)
confirm_phase (u ∷ us) p q (Answer from (Reply.Confirmed confirmed.Yes) ∷ hs) d =
    let e = ended hs (record (further (1 ∷ []) p) { confirmed = true }) q d.1 in
    let is : record (further (1 ∷ []) p) { confirmed = true } ≡ q = e.1 in
    let naming : from ≡ 1 = one d.0 in
    record {
      says = ((λ i. Answer (naming i) (Reply.Confirmed confirmed.Yes) ∷ e.0 i), sym (ap (λ (r : Plan). r.confirmed) is));
      used = sym (ap (λ (r : Plan). r.used) is);
      path = sym (ap (λ (r : Plan). r.path) is);
      ends = sym (ap (λ (r : Plan). r.ends) is);
      changed = sym (ap (λ (r : Plan). r.changed) is);
      prepared = sym (ap (λ (r : Plan). r.prepared) is);
      excluded = sym (ap (λ (r : Plan). r.excluded) is);
    }
  where
    one : ((1 == from) || false) ≡ true → from ≡ 1
    one is = grind (arith, nat_tests, is)
confirm_phase (u ∷ us) p q (Answer from (Reply.Confirmed (confirmed.Conflict holder m)) ∷ hs) d = absurd (aborted hs _ _ q d.1)
confirm_phase (u ∷ us) p q (Answer from (Reply.Confirmed (confirmed.Changed w)) ∷ hs) d = absurd (aborted hs _ _ q d.1)
confirm_phase (u ∷ us) p q (Answer from (Reply.Confirmed (confirmed.NoStores x)) ∷ hs) d = absurd (aborted hs _ _ q d.1)
confirm_phase (u ∷ us) p q (Answer from (Reply.Confirmed (confirmed.Listed x s)) ∷ hs) d = absurd (aborted hs _ _ q d.1)
confirm_phase (u ∷ us) p q (Answer from (Reply.Bound r) ∷ hs) d = absurd (cc d.0)
confirm_phase (u ∷ us) p q (Answer from (Reply.Loaded r) ∷ hs) d = absurd (cc d.0)
confirm_phase (u ∷ us) p q (Answer from (Reply.Activated r) ∷ hs) d = absurd (cc d.0)
confirm_phase (u ∷ us) p q (Answer from (Reply.Noted r) ∷ hs) d = absurd (cc d.0)
confirm_phase (u ∷ us) p q (Answer from (Reply.Invoked r) ∷ hs) d = absurd (cc d.0)
confirm_phase (u ∷ us) p q (Answer from (Reply.Voted r) ∷ hs) d = absurd (cc d.0)
confirm_phase (u ∷ us) p q (Answer from (Reply.Prepared r) ∷ hs) d = absurd (cc d.0)

-- ---- marks

abbrev marked_in : List (ℕ × ℕ) → ℕ → ℕ → Bool
marked_in ms x s = list_any (λ (m : ℕ × ℕ). (m.0 == x) && (m.1 == s)) ms

abbrev marks_it : ℕ × ℕ → ℕ → ℕ → Bool
marks_it m x s = (m.0 == x) && (m.1 == s)

any_mark : (m : ℕ × ℕ) (ms : List (ℕ × ℕ)) (x s : ℕ) → marked_in (with_mark m ms) x s ≡ (marks_it m x s || marked_in ms x s)
any_mark m [] x s = refl
any_mark m (k ∷ ks) x s = by (nat_lt k.0 m.0 || ((k.0 == m.0) && nat_lt k.1 m.1)) (any_mark m ks x s)
  where
    by : (b : Bool) → marked_in (with_mark m ks) x s ≡ (marks_it m x s || marked_in ks x s)
        → marked_in (if b then k ∷ with_mark m ks else m ∷ k ∷ ks) x s ≡ (marks_it m x s || (marks_it k x s || marked_in ks x s))
    by true rest = ap (λ b. marks_it k x s || b) rest ∙ swap (marks_it k x s) (marks_it m x s) (marked_in ks x s)
    by false rest = refl

any_marks : (ms all : List (ℕ × ℕ)) (x s : ℕ) → marked_in (with_marks ms all) x s ≡ (marked_in ms x s || marked_in all x s)
any_marks [] all x s = refl
any_marks (m ∷ ms) all x s =
    any_marks ms (with_mark m all) x s
    ∙ ap (λ b. marked_in ms x s || b) (any_mark m all x s)
    ∙ swap (marked_in ms x s) (marks_it m x s) (marked_in all x s)
    ∙ sym (or_assoc (marks_it m x s) (marked_in ms x s) (marked_in all x s))

weaker : (P Q : ObjectState → Type 0) → ((st : ObjectState) → P st → Q st) → (sts : List ObjectState) → AllByRecursion P sts →
    AllByRecursion Q sts
weaker P Q f [] all = tt
weaker P Q f (st ∷ sts) all = (f st all.0, weaker P Q f sts all.1)

abbrev marks_of : ℕ → List ObjectState → List (ℕ × ℕ)
marks_of s sts = map {A = ObjectState} {B = ℕ × ℕ} (λ st. (st.uid.num, s)) sts

itself : (x s : ℕ) → ((x == x) && (s == s)) ≡ true
itself x s = grind (arith, nat_tests)

all_own : (s : ℕ) (sts : List ObjectState) → AllByRecursion (λ st. marked_in (marks_of s sts) st.uid.num s ≡ true) sts
all_own s [] = tt
all_own s (st ∷ sts) = (
  left_true _ (marked_in (marks_of s sts) st.uid.num s) (itself st.uid.num s),
  weaker (λ t. marked_in (marks_of s sts) t.uid.num s ≡ true) (λ t. marked_in (marks_of s (st ∷ sts)) t.uid.num s ≡ true)
      (λ t is. right_true (marks_it (st.uid.num, s) t.uid.num s) _ is) sts (all_own s sts),
)

all_marked : (s : ℕ) (p : Plan) → AllMarked s (marks_store s p)
all_marked s p =
    weaker (λ t. marked_in (marks_at s p) t.uid.num s ≡ true) (λ t. marked_in (with_marks (marks_at s p) p.excluded) t.uid.num s ≡ true)
    (λ t is. any_marks (marks_at s p) p.excluded t.uid.num s ∙ left_true _ (marked_in p.excluded t.uid.num s) is) (states_for s p) (all_own s (states_for s p))

kept_mark : (t : ℕ) (p : Plan) (x s : ℕ) → is_marked x s p ≡ true → is_marked x s (marks_store t p) ≡ true
kept_mark t p x s is = any_marks (marks_at t p) p.excluded x s ∙ right_true (marked_in (marks_at t p) x s) _ is

kept_marks : (ts : List ℕ) (p : Plan) (x s : ℕ) → is_marked x s p ≡ true → is_marked x s (marks_stores ts p) ≡ true
kept_marks [] p x s is = is
kept_marks (t ∷ ts) p x s is = kept_marks ts (marks_store t p) x s (kept_mark t p x s is)

-- the stores that are given up are marked for what they were sent
given_marks : (ts : List ℕ) (p : Plan) (s : ℕ) → has ts s ≡ true →
    AllByRecursion (λ st. is_marked st.uid.num s (marks_stores ts p) ≡ true) (states_for s p)
given_marks [] p s there = absurd (cc there)
given_marks (t ∷ ts) p s there = by (t == s) refl there (given_marks ts (marks_store t p) s)
  where
    same : (t == s) ≡ true → t ≡ s
    same is = grind (arith, nat_tests, is)

    kept : AllMarked t (marks_store t p) →
        AllByRecursion (λ st. is_marked st.uid.num t (marks_stores ts (marks_store t p)) ≡ true) (states_for t p)
    kept all = weaker (λ st. is_marked st.uid.num t (marks_store t p) ≡ true) (λ st. is_marked st.uid.num t (marks_stores ts (marks_store t p)) ≡ true)
        (λ st is. kept_marks ts (marks_store t p) st.uid.num t is) (states_for t p) all

    by : (b : Bool) → (t == s) ≡ b → (b || has ts s) ≡ true
        → (has ts s ≡ true → AllByRecursion (λ st. is_marked st.uid.num s (marks_stores ts (marks_store t p)) ≡ true) (states_for s p))
        → AllByRecursion (λ st. is_marked st.uid.num s (marks_stores ts (marks_store t p)) ≡ true) (states_for s p)
    by true is e rest =
        subst (λ k. AllByRecursion (λ st. is_marked st.uid.num k (marks_stores ts (marks_store t p)) ≡ true) (states_for k p)) (same is) (kept (all_marked t p))
    by false is e rest = rest e

marks_only : (ts : List ℕ) (p : Plan) → marks_stores ts p ≡ record p { excluded = let r = marks_stores ts p in r.excluded }
marks_only [] p = refl
marks_only (t ∷ ts) p = marks_only ts (marks_store t p)

-- ---- the prepare step

-- what is heard from the stores that are left on, and what it leads to
record Stored (p : Plan) (left : List ℕ) (heard : List Heard) (q : Plan) : Type 0 where
  stores : List Heard
  confirms : List Heard
  in_turn : heard ≡ stores ++ confirms
  all_stores : list_all is_of_store stores ≡ true
  says : Confirms p.used confirms q
  used : q.used ≡ p.used
  path : q.path ≡ p.path
  ends : q.ends ≡ p.ends
  changed : q.changed ≡ p.changed
  ready : (s : ℕ) → has left s ≡ true → (has q.prepared s ≡ true) ⊎ AllMarked s q
  prepared_grows : (s : ℕ) → has p.prepared s ≡ true → has q.prepared s ≡ true
  marks_grow : (x s : ℕ) → is_marked x s p ≡ true → is_marked x s q ≡ true
  said : (s : ℕ) → has q.prepared s ≡ true → (has p.prepared s ≡ true) ⊎ (list_any (is_ready s) stores ≡ true)

stored_none : (p q : Plan) (hs : List Heard) → Confirmed p.used p hs q → Stored p [] hs q
stored_none p q hs t = record {
  stores = [];
  confirms = hs;
  in_turn = refl;
  all_stores = refl;
  says = t.says;
  used = t.used;
  path = t.path;
  ends = t.ends;
  changed = t.changed;
  ready = λ s there. absurd (cc there);
  prepared_grows = λ s there. ap (λ ns. has ns s) t.prepared ∙ there;
  marks_grow = λ x s there. ap (λ ms. marked_in ms x s) t.excluded ∙ there;
  said = λ s there. inl (sym (ap (λ ns. has ns s) t.prepared) ∙ there);
}

stores_go_on : (left : List ℕ) (p q : Plan) (hs : List Heard) → (DecidedBy hs (Stays (Preparing p left)) q → Stored p left hs q)
    → (let t : Marked = stores_left left p in DecidedBy hs t.step q) → Stored p left hs q
stores_go_on [] p q hs next d = stored_none p q hs (confirm_phase p.used p q hs d)
stores_go_on (n ∷ ns) p q hs next d = next d

-- the states that a store is sent are the same
sent_same : (s : ℕ) (p q : Plan) → q.used ≡ p.used → q.changed ≡ p.changed → states_for s q ≡ states_for s p
sent_same s p q used changed = λ i. states_in s (changed i) (used i)

after_yes : (from : ℕ) (left : List ℕ) (p q : Plan) (hs : List Heard)
    → Stored (record p { prepared = with_number from p.prepared }) (without_number from left) hs q →
    Stored p left (Answer from (Reply.Prepared prepared.Yes) ∷ hs) q
after_yes from left p q hs t = record {
  stores = Answer from (Reply.Prepared prepared.Yes) ∷ t.stores;
  confirms = t.confirms;
  in_turn = ap (λ r. Answer from (Reply.Prepared prepared.Yes) ∷ r) t.in_turn;
  all_stores = t.all_stores;
  says = t.says;
  used = t.used;
  path = t.path;
  ends = t.ends;
  changed = t.changed;
  ready = λ s there. ready s there (from == s) refl;
  prepared_grows = λ s there. t.prepared_grows s (has_with from p.prepared s ∙ right_true (from == s) _ there);
  marks_grow = t.marks_grow;
  said = λ s there. said s (t.said s there);
}
  where
    ready : (s : ℕ) → has left s ≡ true → (b : Bool) → (from == s) ≡ b → (has q.prepared s ≡ true) ⊎ AllMarked s q
    ready s there true is = inl (t.prepared_grows s (has_with from p.prepared s ∙ left_true (from == s) _ is))
    ready s there false is = t.ready s (stays from s left is ∙ there)

    first : (s : ℕ) → ((from == s) ≡ true) ⊎ (has p.prepared s ≡ true) →
        (has p.prepared s ≡ true) ⊎ (((from == s) || list_any (is_ready s) t.stores) ≡ true)
    first s (inl is) = inr (left_true (from == s) _ is)
    first s (inr is) = inl is

    said : (s : ℕ) → (has (with_number from p.prepared) s ≡ true) ⊎ (list_any (is_ready s) t.stores ≡ true)
        → (has p.prepared s ≡ true) ⊎ (((from == s) || list_any (is_ready s) t.stores) ≡ true)
    said s (inl is) = first s (either_true (from == s) (has p.prepared s) (sym (has_with from p.prepared s) ∙ is))
    said s (inr is) = inr (right_true (from == s) _ is)

after_busy : (from x : ℕ) (holder : Uid) (left : List ℕ) (p q : Plan) (hs : List Heard)
    → Stored (marks_store from p) (without_number from left) hs q →
    Stored p left (Answer from (Reply.Prepared (prepared.InDoubt x holder)) ∷ hs) q
after_busy from x holder left p q hs t = record {
  stores = Answer from (Reply.Prepared (prepared.InDoubt x holder)) ∷ t.stores;
  confirms = t.confirms;
  in_turn = ap (λ r. Answer from (Reply.Prepared (prepared.InDoubt x holder)) ∷ r) t.in_turn;
  all_stores = t.all_stores;
  says = t.says;
  used = t.used;
  path = t.path;
  ends = t.ends;
  changed = t.changed;
  ready = λ s there. ready s there (from == s) refl;
  prepared_grows = t.prepared_grows;
  marks_grow = λ y s there. t.marks_grow y s (kept_mark from p y s there);
  said = t.said;
}
  where
    marked : AllMarked from q
    marked = subst (AllByRecursion (λ st. is_marked st.uid.num from q ≡ true)) (sym (sent_same from p q t.used t.changed))
        (weaker (λ st. is_marked st.uid.num from (marks_store from p) ≡ true) (λ st. is_marked st.uid.num from q ≡ true)
        (λ st is. t.marks_grow st.uid.num from is) (states_for from p) (all_marked from p))

    same : (s : ℕ) → (from == s) ≡ true → from ≡ s
    same s is = grind (arith, nat_tests, is)

    ready : (s : ℕ) → has left s ≡ true → (b : Bool) → (from == s) ≡ b → (has q.prepared s ≡ true) ⊎ AllMarked s q
    ready s there true is = inr (subst (λ n. AllMarked n q) (same s is) marked)
    ready s there false is = t.ready s (stays from s left is ∙ there)

after_giveup : (left : List ℕ) (p q : Plan) (hs : List Heard)
    → Stored (record p { excluded = let r = marks_stores left p in r.excluded }) [] hs q → Stored p left (GiveUp ∷ hs) q
after_giveup left p q hs t = record {
  stores = GiveUp ∷ t.stores;
  confirms = t.confirms;
  in_turn = ap (λ r. GiveUp ∷ r) t.in_turn;
  all_stores = t.all_stores;
  says = t.says;
  used = t.used;
  path = t.path;
  ends = t.ends;
  changed = t.changed;
  ready = λ s there. inr (marked s there);
  prepared_grows = t.prepared_grows;
  marks_grow = λ x s there. t.marks_grow x s (kept_marks left p x s there);
  said = t.said;
}
  where
    marked : (s : ℕ) → has left s ≡ true → AllMarked s q
    marked s there = subst (AllByRecursion (λ st. is_marked st.uid.num s q ≡ true)) (sym (sent_same s p q t.used t.changed))
        (weaker (λ st. is_marked st.uid.num s (marks_stores left p) ≡ true) (λ st. is_marked st.uid.num s q ≡ true)
        (λ st is. t.marks_grow st.uid.num s is) (states_for s p) (given_marks left p s there))

stores_phase : (hs : List Heard) (p q : Plan) (left : List ℕ) → DecidedBy hs (Stays (Preparing p left)) q → Stored p left hs q
stores_phase [] p q left d = absurd d
stores_phase (GiveUp ∷ hs) p q left d =
    let r : Plan = marks_stores left p in
    after_giveup left p q hs (subst (λ r. Stored r [] hs q) (marks_only left p) (stored_none r q hs (confirm_phase r.used r q hs d.1)))
stores_phase (Answer from (Reply.Prepared prepared.Yes) ∷ hs) p q left d =
    let r : Plan = record p { prepared = with_number from p.prepared } in
    after_yes from left p q hs (stores_go_on (without_number from left) r q hs (stores_phase hs r q (without_number from left)) d.1)
stores_phase (Answer from (Reply.Prepared (prepared.InDoubt x holder)) ∷ hs) p q left d =
    after_busy from x holder left p q hs (stores_go_on (without_number from left) (marks_store from p) q hs (stores_phase hs (marks_store from p) q (without_number from left)) d.1)
stores_phase (Answer from (Reply.Prepared (prepared.Old x v)) ∷ hs) p q left d = absurd (aborted hs _ _ q d.1)
stores_phase (Answer from (Reply.Bound r) ∷ hs) p q left d = absurd (cc d.0)
stores_phase (Answer from (Reply.Loaded r) ∷ hs) p q left d = absurd (cc d.0)
stores_phase (Answer from (Reply.Activated r) ∷ hs) p q left d = absurd (cc d.0)
stores_phase (Answer from (Reply.Noted r) ∷ hs) p q left d = absurd (cc d.0)
stores_phase (Answer from (Reply.Invoked r) ∷ hs) p q left d = absurd (cc d.0)
stores_phase (Answer from (Reply.Voted r) ∷ hs) p q left d = absurd (cc d.0)
stores_phase (Answer from (Reply.Confirmed r) ∷ hs) p q left d = absurd (cc d.0)

-- from the end of the vote on
from_stores : (ts : List ℕ) (p q : Plan) (hs : List Heard) → DecidedBy hs (begin_prepare ts p) q → Stored p ts hs q
from_stores [] p q hs d = stored_none p q hs (confirm_phase p.used p q hs d)
from_stores (t ∷ ts) p q hs d =
    let s = stores_phase hs (further (t ∷ ts) p) q (t ∷ ts) (as_stays hs _ q d) in
    record {
      stores = s.stores;
      confirms = s.confirms;
      in_turn = s.in_turn;
      all_stores = s.all_stores;
      says = s.says;
      used = s.used;
      path = s.path;
      ends = s.ends;
      changed = s.changed;
      ready = s.ready;
      prepared_grows = s.prepared_grows;
      marks_grow = s.marks_grow;
      said = s.said;
    }

-- ---- the vote

-- what is heard from the servers that are left on, and what it leads to
record Polled (p : Plan) (left : List ℕ) (heard : List Heard) (q : Plan) : Type 0 where
  votes : List Heard
  rest : List Heard
  in_turn : heard ≡ votes ++ rest
  all_votes : list_all is_vote votes ≡ true
  once : (s : ℕ) → answers_of s votes ≡ (if has left s then 1 else 0)
  end : Plan
  used : end.used ≡ p.used
  path : end.path ≡ p.path
  ends : end.ends ≡ p.ends
  prepared : end.prepared ≡ p.prepared
  follows : DecidedBy rest (begin_prepare (targets_of end) end) q

polled_none : (p q : Plan) (hs : List Heard) → DecidedBy hs (begin_prepare (targets_of p) p) q → Polled p [] hs q
polled_none p q hs d = record {
  votes = [];
  rest = hs;
  in_turn = refl;
  all_votes = refl;
  once = λ s. refl;
  end = p;
  used = refl;
  path = refl;
  ends = refl;
  prepared = refl;
  follows = d;
}

votes_go_on : (left : List ℕ) (p q : Plan) (hs : List Heard) → (DecidedBy hs (Stays (Voting p left)) q → Polled p left hs q)
    → DecidedBy hs (votes_left left p) q → Polled p left hs q
votes_go_on [] p q hs next d = polled_none p q hs d
votes_go_on (n ∷ ns) p q hs next d = next d

after_vote : (from : ℕ) (states : List ObjectState) (left : List ℕ) (p q : Plan) (hs : List Heard) → has left from ≡ true
    → Polled (record p { changed = with_states states p.changed }) (without_number from left) hs q →
    Polled p left (Answer from (Reply.Voted (voted.Yes states)) ∷ hs) q
after_vote from states left p q hs there t = record {
  votes = Answer from (Reply.Voted (voted.Yes states)) ∷ t.votes;
  rest = t.rest;
  in_turn = ap (λ r. Answer from (Reply.Voted (voted.Yes states)) ∷ r) t.in_turn;
  all_votes = t.all_votes;
  once = λ s. once s (from == s) refl;
  end = t.end;
  used = t.used;
  path = t.path;
  ends = t.ends;
  prepared = t.prepared;
  follows = t.follows;
}
  where
    same : (s : ℕ) → (from == s) ≡ true → from ≡ s
    same s is = grind (arith, nat_tests, is)

    once : (s : ℕ) (b : Bool) → (from == s) ≡ b
        → (if from == s then 1 + answers_of s t.votes else answers_of s t.votes) ≡ (if has left s then 1 else 0)
    once s true is =
        let none : has (without_number from left) s ≡ false =
        subst (λ n. has (without_number from left) n ≡ false) (same s is) (gone from left) in
        let had : has left s ≡ true = subst (λ n. has left n ≡ true) (same s is) there in
        (λ i. if is i then 1 + answers_of s t.votes else answers_of s t.votes)
        ∙ ap (λ n. 1 + n) (t.once s ∙ (λ i. if none i then 1 else 0))
        ∙ sym (λ i. if had i then 1 else 0)
    once s false is =
        (λ i. if is i then 1 + answers_of s t.votes else answers_of s t.votes) ∙ t.once s ∙ (λ i. if stays from s left is i then 1 else 0)

votes_phase : (hs : List Heard) (p q : Plan) (left : List ℕ) → DecidedBy hs (Stays (Voting p left)) q → Polled p left hs q
votes_phase [] p q left d = absurd d
votes_phase (GiveUp ∷ hs) p q left d = absurd (aborted hs _ _ q d.1)
votes_phase (Answer from (Reply.Voted (voted.Yes states)) ∷ hs) p q left d =
    let r : Plan = record p { changed = with_states states p.changed } in
    after_vote from states left p q hs d.0 (votes_go_on (without_number from left) r q hs (votes_phase hs r q (without_number from left)) d.1)
votes_phase (Answer from (Reply.Voted (voted.Changed w)) ∷ hs) p q left d = absurd (aborted hs _ _ q d.1)
votes_phase (Answer from (Reply.Bound r) ∷ hs) p q left d = absurd (cc d.0)
votes_phase (Answer from (Reply.Loaded r) ∷ hs) p q left d = absurd (cc d.0)
votes_phase (Answer from (Reply.Activated r) ∷ hs) p q left d = absurd (cc d.0)
votes_phase (Answer from (Reply.Noted r) ∷ hs) p q left d = absurd (cc d.0)
votes_phase (Answer from (Reply.Invoked r) ∷ hs) p q left d = absurd (cc d.0)
votes_phase (Answer from (Reply.Prepared r) ∷ hs) p q left d = absurd (cc d.0)
votes_phase (Answer from (Reply.Confirmed r) ∷ hs) p q left d = absurd (cc d.0)

from_votes : (ss : List ℕ) (p q : Plan) (hs : List Heard) → DecidedBy hs (begin_vote ss p) q → Polled p ss hs q
from_votes [] p q hs d = polled_none p q hs d
from_votes (s ∷ ss) p q hs d =
    let t = votes_phase hs (further (s ∷ ss) p) q (s ∷ ss) (as_stays hs _ q d) in
    record {
      votes = t.votes;
      rest = t.rest;
      in_turn = t.in_turn;
      all_votes = t.all_votes;
      once = t.once;
      end = t.end;
      used = t.used;
      path = t.path;
      ends = t.ends;
      prepared = t.prepared;
      follows = t.follows;
    }

-- ---- the whole

-- the stores that are asked, by parts of a plan
abbrev targets_by : List ObjectState → List Used → List ℕ
targets_by changed used = number_set (flat_map (λ u. stores_by u (find (λ s. uid_eq s.uid (object u.x)) changed)) used)

pub in_order : (p q : Plan) (heard : List Heard) → IsFresh p → (let begun : Marked = start p in DecidedBy heard begun.step q) →
    InOrder p heard q
in_order p q heard fresh d = record {
  votes = v.votes;
  stores = t.stores;
  confirms = t.confirms;
  in_turn = v.in_turn ∙ ap (λ r. v.votes ++ r) t.in_turn;
  all_votes = v.all_votes;
  voted_once = λ s. v.once s ∙ (λ i. if has (servers_in (sym used_is i)) s then 1 else 0);
  all_stores = t.all_stores;
  prepared_or_marked = λ s there. t.ready s (subst (λ ns. has ns s ≡ true) targets_are there);
  prepared_said = λ s there. heard_by s (t.said s there);
  confirmed = subst (λ us. Confirms us t.confirms q) (sym t.used) t.says;
  used = used_is;
  path = t.path ∙ v.path;
  ends = t.ends ∙ v.ends;
}
  where
    v : Polled p (servers_of p) heard q
    v = from_votes (servers_of p) p q heard d

    t : Stored v.end (targets_of v.end) v.rest q
    t = from_stores (targets_of v.end) v.end q v.rest v.follows

    used_is : q.used ≡ p.used
    used_is = t.used ∙ v.used

    targets_are : targets_of q ≡ targets_of v.end
    targets_are = λ i. targets_by (t.changed i) (t.used i)

    none : (s : ℕ) → has v.end.prepared s ≡ true → ⊥
    none s there = let never : has [] s ≡ true = sym (ap (λ ns. has ns s) (v.prepared ∙ fresh.prepared)) ∙ there in cc

    heard_by : (s : ℕ) → (has v.end.prepared s ≡ true) ⊎ (list_any (is_ready s) t.stores ≡ true) → list_any (is_ready s) t.stores ≡ true
    heard_by s (inl is) = absurd (none s is)
    heard_by s (inr is) = is
