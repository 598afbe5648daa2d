-- Calls by their keys.
use Rattle.std.proofs.Common.{◌≡◌, ◌<◌, ◌≤◌, ℕ, ◌+◌, ◌-◌, List, [], ◌∷◌, ◌++◌, Bool, true, false, cond, ◌&&◌, ◌||◌, ◌==◌, nat_lt, map, filter, take, length}
use Rattle.std.proofs.Common.{length-append, refl, sym, ◌∙◌, ap, arith, Some}
use Rattle.std.specs.Prelude.{MatchBool, not}
use Rattle.std.specs.List.{AllByRecursion, list_all}
use Rattle.std.proofs.lemmas.Bool.{eq-eqb, eqb-true, false_from_ne_true}
use Rattle.arj_book.proofs.Freed.{Waits, all_filtered, all_of_test, freed_in_order, freed_pairs, join_all, lt_true, order_freed, pairs_freed, test_of_all, true_lt}
use Rattle.arj_book.proofs.Orders.{and_left, and_right, answered_first, are_in_order, behind_pairs, pairs_behind}
use Rattle.arj_book.specs.Kept.{are_free, are_freed, are_past, call_in_lines, call_of, calls_conflict, commits_of, is_freed, key_freed, keys_freed}
use Rattle.arj_book.specs.Kept.{keys_in_time, no_ends, same_top, stand_behind}
use Rattle.arj_check.specs.Keys.{AreBelow, HaveOwnKeys, numbers_at}
use Rattle.std.proofs.lemmas.Option.{get_or_from_slice_get, slice_get-map}
use Rattle.std.specs.Option.{option_map}
use Rattle.arj_class.specs.Table.{writes}
use Rattle.arj_journal.specs.declared.body.Line.{Line}
use Rattle.arj_journal.specs.declared.header.Header.{Header}
use Rattle.arj_law.proofs.Common.{Pairwise, all_map, never, pairwise_of}
use Rattle.arj_law.proofs.Order.{rises}
use Rattle.arj_model.specs.Actions.{Placed, acts, committed}
use Rattle.arj_model.specs.Book.{InOrder}
use Rattle.arj_model.specs.Calls.{Call, Top, committed_calls, tops}
use Rattle.arj_model.specs.Last.{is_among, same_list}
use Rattle.arj_model.specs.Nested.{AnsweredInTime, FreedInOrder, commit_place}
use Rattle.arj_model.specs.Serial.{root_of, serial_calls, serial_key, top_place, unit_place}
use Rattle.arj_replay.proofs.Sorts.{last_push}
use Rattle.arj_replay.specs.Orders.{commits_in, nested_place, paths}
use Rattle.arj_replay.specs.Sorting.{last_of}
use Rattle.arj_replay.specs.Verdict.{HasCall}

take_front : (xs ys : List ℕ) → take (length xs) (xs ++ ys) ≡ xs
take_front [] ys = refl
take_front (x ∷ xs) ys = ap (λ zs. x ∷ zs) (take_front xs ys)

commits_is : (u p a : ℕ) (xs : List ℕ) → commits_of (u ∷ p ∷ (xs ++ a ∷ [])) ≡ xs
commits_is u p a xs =
    let whole : length (xs ++ a ∷ []) ≡ length xs + 1 = length-append xs (a ∷ []) in
    let many : length (u ∷ p ∷ (xs ++ a ∷ [])) - 1 - 2 ≡ length xs = omega (arith, whole) in
    ap (λ n. take n (xs ++ a ∷ [])) many ∙ take_front xs (a ∷ [])

list_all_map : {A B : Type 0} (t : B → Bool) (f : A → B) (xs : List A) → list_all t (map f xs) ≡ list_all (λ x. t (f x)) xs
list_all_map t f [] = refl
list_all_map t f (x ∷ xs) = ap (λ b. t (f x) && b) (list_all_map t f xs)

list_all_same : {A : Type 0} (t s : A → Bool) (xs : List A) → AllByRecursion (λ x. t x ≡ s x) xs → list_all t xs ≡ list_all s xs
list_all_same t s [] h = refl
list_all_same t s (x ∷ xs) h = λ i. h.0 i && list_all_same t s xs h.1 i

filter_map_same : {A B : Type 0} (t : B → Bool) (s : A → Bool) (f : A → B) → ((x : A) → t (f x) ≡ s x) → (xs : List A) →
    filter t (map f xs) ≡ map f (filter s xs)
filter_map_same t s f h [] = refl
filter_map_same {A} {B} t s f h (x ∷ xs) = by (filter_map_same t s f h xs) (t (f x)) (s x) (h x)
  where
    by : filter t (map f xs) ≡ map f (filter s xs) → (b d : Bool) → b ≡ d →
        cond b (f x ∷ filter t (map f xs)) (filter t (map f xs)) ≡ map f (cond d (x ∷ filter s xs) (filter s xs))
    by ih true true e = ap (λ ys. f x ∷ ys) ih
    by ih false false e = ih
    by ih true false e = never true refl e
    by ih false true e = never true refl (sym e)

map_push : {A B : Type 0} (f : A → B) (xs : List A) (x : A) → map f xs ++ f x ∷ [] ≡ map f (xs ++ x ∷ [])
map_push f [] x = refl
map_push f (y ∷ xs) x = ap (λ ys. f y ∷ ys) (map_push f xs x)

same_self : (xs : List ℕ) → same_list xs xs ≡ true
same_self [] = refl
same_self (x ∷ xs) = (λ i. eq-eqb x x refl i && same_list xs xs) ∙ same_self xs

same_lists : (xs ys : List ℕ) → same_list xs ys ≡ true → xs ≡ ys
same_lists [] [] e = refl
same_lists [] (y ∷ ys) e = never false e refl
same_lists (x ∷ xs) [] e = never false e refl
same_lists (x ∷ xs) (y ∷ ys) e =
    λ i. eqb-true x y (and_left (x == y) (same_list xs ys) e) i ∷ same_lists xs ys (and_right (x == y) (same_list xs ys) e) i

module _ (ts : List Top) (ends : List (Placed ℕ)) where
  abbrev np : Call → List ℕ
  np c = nested_place ts ends c

  last_is : (c : Call) → last_of (np c) ≡ c.at
  last_is c = last_push (unit_place ts (root_of ts c.top) ∷ top_place ts c.top ∷ map (commit_place ends) c.chain) c.at

  pub last_all : (cs : List Call) → map last_of (map np cs) ≡ map (λ c. c.at) cs
  last_all [] = refl
  last_all (c ∷ cs) = λ i. last_is c i ∷ last_all cs i

  commits_are : (c : Call) → commits_of (np c) ≡ map (commit_place ends) c.chain
  commits_are c = commits_is (unit_place ts (root_of ts c.top)) (top_place ts c.top) c.at (map (commit_place ends) c.chain)

  one_top : (c d : Call) → HaveOwnKeys ts c d → same_top (np c) (np d) ≡ (c.top == d.top)
  one_top c d own = by (c.top == d.top) refl
    where
      by : (b : Bool) → (c.top == d.top) ≡ b → same_list (serial_key ts c.top) (serial_key ts d.top) ≡ b
      by true same = (λ i. same_list (serial_key ts (eqb-true c.top d.top same i)) (serial_key ts d.top)) ∙ same_self (serial_key ts d.top)
      by false other = false_from_ne_true (same_list (serial_key ts c.top) (serial_key ts d.top))
          (λ e. own other (same_lists (serial_key ts c.top) (serial_key ts d.top) e))

  past_is : (chain other : List ℕ) (at : ℕ) →
      are_past (map (commit_place ends) chain) (map (commit_place ends) other) at ≡ are_free ends chain other at
  past_is chain other at = list_all_map (λ m. nat_lt m at || is_among (map (commit_place ends) other) m) (commit_place ends) chain

  past_of : (c d : Call) → are_past (commits_of (np c)) (commits_of (np d)) (last_of (np d)) ≡ are_free ends c.chain d.chain d.at
  past_of c d = (λ i. are_past (commits_are c i) (commits_are d i) (last_is d i)) ∙ past_is c.chain d.chain d.at

  past_alone : (d c : Call) → not (are_past (commits_of (np c)) [] (last_of (np d))) ≡ not (are_free ends c.chain [] d.at)
  past_alone d c = ap not ((λ i. are_past (commits_are c i) [] (last_is d i)) ∙ past_is c.chain [] d.at)

  module _ (header : Header) (lines : List Line) where
    here : (c : Call) → HasCall header lines c → call_in_lines lines (last_of (np c)) ≡ Some (c.x, writes c.op)
    here c h = ap (call_in_lines lines) (last_is c) ∙ ap call_of h.here

    -- the test by keys is that of the calls
    abbrev Meets : Call → Call → Type 0
    Meets c d = key_freed (call_in_lines lines) (np c) (np d) ≡ is_freed ends c d

    meets : (c d : Call) → HasCall header lines c × (HasCall header lines d × HaveOwnKeys ts c d) → Meets c d
    meets c d h = λ i. not (one_top c d h.1.1 i && calls_conflict (here c h.0 i) (here d h.1.0 i)) || past_of c d i

    pub keys_are : (before ds : List Call) → AllByRecursion (λ d. AllByRecursion (λ c. Meets c d) before) ds → Pairwise Meets ds →
        keys_freed (call_in_lines lines) (map np before) (map np ds) ≡ are_freed ends before ds
    keys_are before [] h p = refl
    keys_are before (d ∷ ds) h p =
        let now : list_all (λ k. key_freed (call_in_lines lines) k (np d)) (map np before) ≡ list_all (λ c. is_freed ends c d) before =
        list_all_map (λ k. key_freed (call_in_lines lines) k (np d)) np before
        ∙ list_all_same (λ c. key_freed (call_in_lines lines) (np c) (np d)) (λ c. is_freed ends c d) before h.0 in
        let left : filter (λ k. not (are_past (commits_of k) [] (last_of (np d)))) (map np before) ++ np d ∷ []
        ≡ map np (filter (λ c. not (are_free ends c.chain [] d.at)) before ++ d ∷ []) =
        ap (λ ks. ks ++ np d ∷ []) (filter_map_same (λ k. not (are_past (commits_of k) [] (last_of (np d)))) (λ c. not (are_free ends c.chain [] d.at)) np (past_alone d) before)
        ∙ map_push np (filter (λ c. not (are_free ends c.chain [] d.at)) before) d in
        let rest = keys_are (filter (λ c. not (are_free ends c.chain [] d.at)) before ++ d ∷ []) ds (each ds h.1 p.0) p.1 in
        λ i. now i && (ap (λ ks. keys_freed (call_in_lines lines) ks (map np ds)) left ∙ rest) i
      where
        each : (es : List Call) → AllByRecursion (λ e. AllByRecursion (λ c. Meets c e) before) es → AllByRecursion (Meets d) es →
            AllByRecursion (λ e. AllByRecursion (λ c. Meets c e) (filter (λ c. not (are_free ends c.chain [] d.at)) before ++ d ∷ [])) es
        each [] l q = tt
        each (x ∷ es) l q = (
          join_all (λ c. Meets c x) (filter (λ c. not (are_free ends c.chain [] d.at)) before) (d ∷ [])
              (all_filtered (λ c. Meets c x) (λ c. not (are_free ends c.chain [] d.at)) before l.0) (q.0, tt),
          each es l.1 q.1,
        )

-- ---- whole journals

empty_each : {A B : Type 0} (R : A → B → Type 0) (xs : List A) → AllByRecursion (λ x. AllByRecursion (R x) []) xs
empty_each R [] = tt
empty_each R (x ∷ xs) = (tt, empty_each R xs)

module _ (header : Header) (lines : List Line) (have : AllByRecursion (HasCall header lines) (committed_calls lines))
    (own : AllByRecursion (λ c. AllByRecursion (λ d. HaveOwnKeys (tops lines) d c) (committed_calls lines)) (committed_calls lines)) where
  turn_own : (c d : Call) → HaveOwnKeys (tops lines) d c → HaveOwnKeys (tops lines) c d
  turn_own c d f other same = f (false_from_ne_true (d.top == c.top) (λ e. never (c.top == d.top) (eq-eqb c.top d.top (sym (eqb-true d.top c.top e))) other)) (sym same)

  each_two : (cs ds : List Call) → AllByRecursion (HasCall header lines) cs → AllByRecursion (HasCall header lines) ds →
      AllByRecursion (λ c. AllByRecursion (λ d. HaveOwnKeys (tops lines) d c) ds) cs →
      AllByRecursion (λ c. AllByRecursion (λ d. HasCall header lines c × (HasCall header lines d × HaveOwnKeys (tops lines) c d)) ds) cs
  each_two [] ds h k o = tt
  each_two (c ∷ cs) ds h k o = (row ds k o.0, each_two cs ds h.1 k o.1)
    where
      row : (es : List Call) → AllByRecursion (HasCall header lines) es → AllByRecursion (λ d. HaveOwnKeys (tops lines) d c) es →
          AllByRecursion (λ d. HasCall header lines c × (HasCall header lines d × HaveOwnKeys (tops lines) c d)) es
      row [] l q = tt
      row (x ∷ es) l q = ((h.0, (l.0, turn_own c x q.0)), row es l.1 q.1)

  keys_same : keys_freed (call_in_lines lines) [] (map (nested_place (tops lines) (committed lines)) (committed_calls lines))
      ≡ are_freed (committed lines) [] (committed_calls lines)
  keys_same = keys_are (tops lines) (committed lines) header lines [] (committed_calls lines)
      (empty_each (λ d c. key_freed (call_in_lines lines) (nested_place (tops lines) (committed lines) c) (nested_place (tops lines) (committed lines) d) ≡ is_freed (committed lines) c d) (committed_calls lines))
      (pairwise_of (λ c d. key_freed (call_in_lines lines) (nested_place (tops lines) (committed lines) c) (nested_place (tops lines) (committed lines) d) ≡ is_freed (committed lines) c d) (committed_calls lines)
      (all_map (λ c. AllByRecursion (λ d. HasCall header lines c × (HasCall header lines d × HaveOwnKeys (tops lines) c d)) (committed_calls lines))
      (λ c. AllByRecursion (λ d. key_freed (call_in_lines lines) (nested_place (tops lines) (committed lines) c) (nested_place (tops lines) (committed lines) d) ≡ is_freed (committed lines) c d) (committed_calls lines))
      (λ c. all_map (λ d. HasCall header lines c × (HasCall header lines d × HaveOwnKeys (tops lines) c d))
      (λ d. key_freed (call_in_lines lines) (nested_place (tops lines) (committed lines) c) (nested_place (tops lines) (committed lines) d) ≡ is_freed (committed lines) c d)
      (λ d. meets (tops lines) (committed lines) header lines c d) (committed_calls lines))
      (committed_calls lines) (each_two (committed_calls lines) (committed_calls lines) have have own)))

  pub freed_test : (b : Bool) (keys : List (List ℕ)) → keys ≡ map (nested_place (tops lines) (committed lines)) (committed_calls lines) →
      b ≡ keys_freed (call_in_lines lines) [] keys → MatchBool b (FreedInOrder lines) (FreedInOrder lines → ⊥)
  freed_test b keys are is = by b (is ∙ ap (keys_freed (call_in_lines lines) []) are ∙ keys_same)
    where
      by : (d : Bool) → d ≡ are_freed (committed lines) [] (committed_calls lines) → MatchBool d (FreedInOrder lines) (FreedInOrder lines → ⊥)
      by true e = freed_in_order lines (freed_pairs (committed lines) [] (committed_calls lines) (rises lines) (sym e)).1
      by false e = λ order. never (are_freed (committed lines) [] (committed_calls lines))
          (pairs_freed (committed lines) [] (committed_calls lines) (empty_each (λ d c. Waits (committed lines) c d) (committed_calls lines)) (order_freed lines order)) (sym e)

  nothing_before : (cs : List Call) → AllByRecursion (λ d. cond (writes d.op) (no_ends d.x) (no_ends d.x) ≤ d.at) cs
  nothing_before [] = tt
  nothing_before (c ∷ cs) = (by (writes c.op), nothing_before cs)
    where
      by : (b : Bool) → cond b 0 0 ≤ c.at
      by true = omega arith
      by false = omega arith

  pub order_test : (b : Bool) → b ≡ stand_behind no_ends no_ends (serial_calls lines) → MatchBool b (InOrder lines) (InOrder lines → ⊥)
  order_test true e = are_in_order lines own (behind_pairs no_ends no_ends (serial_calls lines) (sym e)).1
  order_test false e = λ order. never (stand_behind no_ends no_ends (serial_calls lines))
      (pairs_behind no_ends no_ends (serial_calls lines) (nothing_before (serial_calls lines)) (answered_first lines order)) (sym e)

-- ---- in time

module _ (lines : List Line) where
  time_is : (cs : List Call) → keys_in_time (map (nested_place (tops lines) (committed lines)) cs)
      ≡ list_all (λ c. list_all (λ a. nat_lt c.at (commit_place (committed lines) a)) c.chain) cs
  time_is cs = list_all_map (λ k. list_all (λ m. nat_lt (last_of k) m) (commits_of k)) (nested_place (tops lines) (committed lines)) cs
      ∙ list_all_same (λ c. list_all (λ m. nat_lt (last_of (nested_place (tops lines) (committed lines) c)) m) (commits_of (nested_place (tops lines) (committed lines) c)))
      (λ c. list_all (λ a. nat_lt c.at (commit_place (committed lines) a)) c.chain) cs (one cs)
    where
      one : (ds : List Call) → AllByRecursion (λ c. list_all (λ m. nat_lt (last_of (nested_place (tops lines) (committed lines) c)) m) (commits_of (nested_place (tops lines) (committed lines) c))
          ≡ list_all (λ a. nat_lt c.at (commit_place (committed lines) a)) c.chain) ds
      one [] = tt
      one (c ∷ ds) = (
        (λ i. list_all (λ m. nat_lt (last_is (tops lines) (committed lines) c i) m) (commits_are (tops lines) (committed lines) c i))
            ∙ list_all_map (λ m. nat_lt c.at m) (commit_place (committed lines)) c.chain,
        one ds,
      )

  all_timely : (cs : List Call) → list_all (λ c. list_all (λ a. nat_lt c.at (commit_place (committed lines) a)) c.chain) cs ≡ true →
      AllByRecursion (λ c. AllByRecursion (λ a. c.at < commit_place (committed lines) a) c.chain) cs
  all_timely [] e = tt
  all_timely (c ∷ cs) e = (
    all_map (λ a. nat_lt c.at (commit_place (committed lines) a) ≡ true) (λ a. c.at < commit_place (committed lines) a)
        (λ a t. true_lt c.at (commit_place (committed lines) a) t) c.chain
        (all_of_test (λ a. nat_lt c.at (commit_place (committed lines) a)) c.chain (and_left (list_all (λ a. nat_lt c.at (commit_place (committed lines) a)) c.chain) _ e)),
    all_timely cs (and_right (list_all (λ a. nat_lt c.at (commit_place (committed lines) a)) c.chain) _ e),
  )

  timely_all : (cs : List Call) → AllByRecursion (λ c. AllByRecursion (λ a. c.at < commit_place (committed lines) a) c.chain) cs →
      list_all (λ c. list_all (λ a. nat_lt c.at (commit_place (committed lines) a)) c.chain) cs ≡ true
  timely_all cs h = test_of_all (λ c. list_all (λ a. nat_lt c.at (commit_place (committed lines) a)) c.chain) cs
      (all_map (λ c. AllByRecursion (λ a. c.at < commit_place (committed lines) a) c.chain)
      (λ c. list_all (λ a. nat_lt c.at (commit_place (committed lines) a)) c.chain ≡ true)
      (λ c l. test_of_all (λ a. nat_lt c.at (commit_place (committed lines) a)) c.chain
      (all_map (λ a. c.at < commit_place (committed lines) a) (λ a. nat_lt c.at (commit_place (committed lines) a) ≡ true)
      (λ a t. lt_true c.at (commit_place (committed lines) a) t) c.chain l)) cs h)

  pub time_test : (b : Bool) (keys : List (List ℕ)) → keys ≡ map (nested_place (tops lines) (committed lines)) (committed_calls lines) →
      b ≡ keys_in_time keys → MatchBool b (AnsweredInTime lines) (AnsweredInTime lines → ⊥)
  time_test b keys are is = by b (is ∙ ap keys_in_time are ∙ time_is (committed_calls lines))
    where
      by : (d : Bool) → d ≡ list_all (λ c. list_all (λ a. nat_lt c.at (commit_place (committed lines) a)) c.chain) (committed_calls lines) →
          MatchBool d (AnsweredInTime lines) (AnsweredInTime lines → ⊥)
      by true e = all_timely (committed_calls lines) (sym e)
      by false e = λ times. never (list_all (λ c. list_all (λ a. nat_lt c.at (commit_place (committed lines) a)) c.chain) (committed_calls lines))
          (timely_all (committed_calls lines) times) (sym e)

-- ---- the commits below the tops, of each path

pub commits_below : (lines : List Line) (keys : List (List ℕ)) → keys ≡ map (commits_in (committed lines)) (paths (acts lines)) →
    AreBelow (paths (acts lines)) (commits_in (committed lines)) keys
commits_below lines keys e = record {
  at = λ i p is. ap (λ ks. numbers_at ks (Some i)) e ∙ get_or_from_slice_get (map (commits_in (committed lines)) (paths (acts lines))) i (commits_in (committed lines) p) [] (slice_get-map (commits_in (committed lines)) (paths (acts lines)) i ∙ ap (option_map (commits_in (committed lines))) is);
}
