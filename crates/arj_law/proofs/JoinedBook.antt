-- Two journals that keep the lock book, one behind the other.
use Rattle.arj_law.proofs.Terms
use Terms.{◌≡◌, ◌<◌, ℕ, ◌+◌, List, [], ◌∷◌, ◌++◌, length, map, filter, Bool, true, false, cond, ◌&&◌, ◌||◌, ◌==◌, nat_lt, refl, sym, ◌∙◌}
use Terms.{ap, subst, arith, ⊎_elim, AllByRecursion, lt-ltb, nat_tests, filter-append, answer_of, answer_text, Line, Placed, acts}
use Terms.{committed, Call, Top, committed_calls, tops, is_among, Values, run, serial_less, top_place, writes_on, Answered, InOrder}
use Terms.{IsAnsweredBy, StandInOrder, writes_before, AreApart, AreCalled, call_behind, calls_behind, values_after, AnsweredInTime}
use Terms.{FreedInOrder, IsFreedFor, commit_place}
use Rattle.arj_law.proofs.{Answers.run-append, Answers.run_writes, JoinedActs.placed_behind, JoinedLists.all_append, JoinedLists.all_over}
use Rattle.arj_law.proofs.{Last.value_of_writes, Last.writes_are}
use Rattle.arj_law.proofs.Common.{all_both, all_map, filter_none, never, not_below_back}
use Rattle.arj_law.proofs.JoinedCalls.{calls_join, commits_join, commits_low, ends_join, other_number, same_behind, tops_join, tops_low}
use Rattle.arj_law.proofs.JoinedOrder.{IsCalledCall, IsLow, across_less, both_tops, lows, new_less, old_less, place_high, place_low}
use Rattle.arj_law.proofs.JoinedOrder.{run_over}
use Rattle.arj_model.specs.{Book.CommitsComeFirst, Book.IsCalledFirst, Book.OfEachTwo, Keeping.KeepsTheBook}
use Rattle.std.proofs.Common.{◌⊎◌, inl, inr}

-- what holds of each two of both, by what holds of each two of each
two_join : (R A B : Call → Call → Type 0) (P Q : Call → Type 0) (m : Call → Call) (cs ds : List Call) →
    ((c d : Call) → P c → P d → A c d → R c d) → ((c d : Call) → P c → Q d → R c (m d)) → ((c d : Call) → Q c → P d → R (m c) d) →
    ((c d : Call) → Q c → Q d → B c d → R (m c) (m d))
    → AllByRecursion P cs → AllByRecursion Q ds → OfEachTwo A cs → OfEachTwo B ds → OfEachTwo R (cs ++ map m ds)
two_join R A B P Q m cs ds old across back new ps qs each_a each_b =
    all_append (λ c. AllByRecursion (R c) (cs ++ map m ds)) cs (map m ds)
    (all_map (λ c. P c × AllByRecursion (A c) cs) (λ c. AllByRecursion (R c) (cs ++ map m ds)) first cs
    (all_both P (λ c. AllByRecursion (A c) cs) cs ps each_a))
    (all_over (λ c. Q c × AllByRecursion (B c) ds) (λ c. AllByRecursion (R c) (cs ++ map m ds)) m second ds
    (all_both Q (λ c. AllByRecursion (B c) ds) ds qs each_b))
  where
    first : (c : Call) → P c × AllByRecursion (A c) cs → AllByRecursion (R c) (cs ++ map m ds)
    first c h = all_append (R c) cs (map m ds) (all_map (λ d. P d × A c d) (R c) (λ d e. old c d h.0 e.0 e.1) cs
        (all_both P (A c) cs ps h.1)) (all_over Q (R c) m (λ d q. across c d h.0 q) ds qs)

    second : (c : Call) → Q c × AllByRecursion (B c) ds → AllByRecursion (R (m c)) (cs ++ map m ds)
    second c h = all_append (R (m c)) cs (map m ds) (all_map P (R (m c)) (λ d p. back c d h.0 p) cs ps)
        (all_over (λ d. Q d × B c d) (R (m c)) m (λ d e. new c d h.0 e.0 e.1) ds (all_both Q (B c) ds qs h.1))

-- ---- places of commits

place_none : (n k : ℕ) (F : List (Placed ℕ)) (i : ℕ) → i < k → commit_place (map (placed_behind n (λ j. j + k)) F) i ≡ 0
place_none n k [] i low = refl
place_none n k (e ∷ F) i low =
    (λ j. cond (other_number (e.it + k) i (λ same. omega (arith, same, low)) j) (e.at + n) (place_none n k F i low j))

commit_low : (n k : ℕ) (E F : List (Placed ℕ)) (i : ℕ) → i < k → commit_place (ends_join n k E F) i ≡ commit_place E i
commit_low n k [] F i low = place_none n k F i low
commit_low n k (e ∷ E) F i low = ap (cond (e.it == i) e.at) (commit_low n k E F i low)

-- where the place isn't 0 it is so much later
commit_over : (n k : ℕ) (F : List (Placed ℕ)) (i : ℕ) → (commit_place (map (placed_behind n (λ j. j + k)) F) (i + k) ≡ commit_place F i + n)
    ⊎ ((commit_place (map (placed_behind n (λ j. j + k)) F) (i + k) ≡ 0) × (commit_place F i ≡ 0))
commit_over n k [] i = inr (refl, refl)
commit_over n k (e ∷ F) i = by (e.it == i) refl (commit_over n k F i)
  where
    by : (b : Bool) → (e.it == i) ≡ b → (commit_place (map (placed_behind n (λ j. j + k)) F) (i + k) ≡ commit_place F i + n)
        ⊎ ((commit_place (map (placed_behind n (λ j. j + k)) F) (i + k) ≡ 0) × (commit_place F i ≡ 0))
        → (cond ((e.it + k) == (i + k)) (e.at + n) (commit_place (map (placed_behind n (λ j. j + k)) F) (i + k))
        ≡ cond (e.it == i) e.at (commit_place F i) + n) ⊎ ((cond ((e.it + k) == (i + k)) (e.at + n)
        (commit_place (map (placed_behind n (λ j. j + k)) F) (i + k)) ≡ 0) × (cond (e.it == i) e.at (commit_place F i) ≡ 0))
    by true same ih = inl ((λ j. cond ((same_behind e.it i k ∙ same) j) (e.at + n)
        (commit_place (map (placed_behind n (λ j. j + k)) F) (i + k))) ∙ ap (λ b. cond b e.at (commit_place F i) + n) (sym same))
    by false same ih = subst (λ b. (cond b (e.at + n) (commit_place (map (placed_behind n (λ j. j + k)) F) (i + k)) ≡ cond (e.it == i) e.at
        (commit_place F i) + n) ⊎ ((cond b (e.at + n) (commit_place (map (placed_behind n (λ j. j + k)) F) (i + k)) ≡ 0)
        × (cond (e.it == i) e.at (commit_place F i) ≡ 0)))
        (sym (same_behind e.it i k ∙ same))
        (subst (λ b. (commit_place (map (placed_behind n (λ j. j + k)) F) (i + k) ≡ cond b e.at (commit_place F i) + n)
        ⊎ ((commit_place (map (placed_behind n (λ j. j + k)) F) (i + k) ≡ 0) × (cond b e.at (commit_place F i) ≡ 0))) (sym same) ih)

commit_high : (n k : ℕ) (E F : List (Placed ℕ)) (i : ℕ) → AllByRecursion (λ (e : Placed ℕ). e.it < k) E →
    commit_place (ends_join n k E F) (i + k) ≡ commit_place (map (placed_behind n (λ j. j + k)) F) (i + k)
commit_high n k [] F i lows = refl
commit_high n k (e ∷ E) F i lows =
    (λ j. cond (other_number e.it (i + k) (λ same. let low = lows.0 in omega (arith, same, low)) j) e.at (commit_high n k E F i lows.1 j))

among_over : (k : ℕ) (js : List ℕ) (i : ℕ) → is_among (map (λ j. j + k) js) (i + k) ≡ is_among js i
among_over k [] i = refl
among_over k (j ∷ js) i = (λ h. same_behind j i k h || among_over k js i h)

-- ---- the book

module _ (first second : List Line) (apart : AreApart first second) (called : AreCalled second) where
  abbrev n : ℕ
  n = length first

  abbrev k : ℕ
  k = length (acts first)

  abbrev Low : Call → Type 0
  Low = IsLow first second apart called

  abbrev OfSecond : Call → Type 0
  OfSecond = IsCalledCall first second apart called

  abbrev cs : List Call
  cs = committed_calls first

  abbrev ds : List Call
  ds = committed_calls second

  abbrev ts : List Top
  ts = both_tops first second apart called

  low : AllByRecursion Low cs
  low = lows first second apart called

  -- a call of the second journal isn't answered before one of the first
  not_before : {P : Type 0} (c d : Call) → Low d → c.at + n < d.at → P
  not_before c d l lt = let below = l.0 in absurd (omega (arith, below, lt))

  -- what holds of each two calls of both
  pairs_join : (R : List Line → Call → Call → Type 0) → ((c d : Call) → Low c → Low d → R first c d → R (first ++ second) c d) →
      ((c d : Call) → Low c → OfSecond d → R (first ++ second) c (call_behind n k d)) →
      ((c d : Call) → OfSecond c → Low d → R (first ++ second) (call_behind n k c) d)
      → ((c d : Call) → OfSecond c → OfSecond d → R second c d → R (first ++ second) (call_behind n k c) (call_behind n k d)) →
      OfEachTwo (R first) cs → OfEachTwo (R second) ds → OfEachTwo (R (first ++ second)) (committed_calls (first ++ second))
  pairs_join R old across back new a b = subst (OfEachTwo (R (first ++ second))) (sym (calls_join first second apart))
      (two_join (R (first ++ second)) (R first) (R second) Low OfSecond (call_behind n k) cs ds old across back new low called a b)

  less_is : (c d : Call) → serial_less (tops (first ++ second)) c d ≡ serial_less ts c d
  less_is c d = (λ i. serial_less (tops_join first second apart i) c d)

  pub order_join : InOrder first → InOrder second → InOrder (first ++ second)
  order_join = pairs_join StandInOrder
      (λ c d a b stands lt other conflict. less_is c d ∙ old_less first second apart called c d a b ∙ stands lt other conflict)
      (λ c d a b lt other conflict. less_is c (call_behind n k d) ∙ across_less first second apart called c d a b)
      (λ c d a b lt other conflict. not_before c d b lt)
      (λ c d a b stands lt other conflict. less_is (call_behind n k c) (call_behind n k d) ∙ new_less first second apart called c d a b
      ∙ stands (omega (arith, lt)) (sym (same_behind c.top d.top k) ∙ other) conflict)

  top_is : (i : ℕ) → top_place (tops (first ++ second)) i ≡ top_place ts i
  top_is i = (λ j. top_place (tops_join first second apart j) i)

  place_first : (ts : List Top) (i : ℕ) → AllByRecursion (λ (t : Top). t.at < n) ts → 0 < n → top_place ts i < n
  place_first [] i below some = some
  place_first (t ∷ ts) i below some = by (place_first ts i below.1 some) (t.id == i)
    where
      by : top_place ts i < n → (b : Bool) → cond b t.at (top_place ts i) < n
      by ih true = below.0
      by ih false = ih

  pub commits_first : CommitsComeFirst first → CommitsComeFirst second → CommitsComeFirst (first ++ second)
  commits_first = pairs_join IsCalledFirst
      (λ c d a b called_first lt other conflict. subst (λ p. p < d.at) (sym (old_place c a)) (called_first lt other conflict))
      (λ c d a b lt other conflict. subst (λ p. p < d.at + n) (sym (old_place c a)) (let below = place_first (tops first) c.top
      (all_map _ (λ (t : Top). t.at < n) (λ t l. l.2) (tops first) (tops_low first second apart)) (let at = a.0 in omega (arith, at)) in
      omega (arith, below)))
      (λ c d a b lt other conflict. not_before c d b lt)
      (λ c d a b called_first lt other conflict. subst (λ p. p < d.at + n) (sym (new_place c a))
      (let l = called_first (omega (arith, lt)) (sym (same_behind c.top d.top k) ∙ other) conflict in omega (arith, l)))
    where
      old_place : (c : Call) → Low c → top_place (tops (first ++ second)) c.top ≡ top_place (tops first) c.top
      old_place c a = top_is c.top ∙ place_low n k (tops first) (tops second) c.top a.1

      new_place : (c : Call) → OfSecond c → top_place (tops (first ++ second)) (c.top + k) ≡ top_place (tops second) c.top + n
      new_place c a = top_is (c.top + k) ∙ place_high n k (tops first) (tops second) c.top (tops_low first second apart) a

  -- ---- answers

  -- writes before a call of the first journal are of it
  old_writes : (c : Call) → Low c → writes_before (committed_calls (first ++ second)) c ≡ writes_before cs c
  old_writes c l =
      ap (λ es. writes_before es c) (calls_join first second apart)
      ∙ filter-append (λ w. nat_lt w.at c.at && writes_on c.x w) cs (calls_behind first ds)
      ∙ ap (λ es. writes_before cs c ++ es) (filter_none (λ w. nat_lt w.at c.at && writes_on c.x w) (calls_behind first ds) (behind ds))
      ∙ nil (writes_before cs c)
    where
      nil : (es : List Call) → es ++ [] ≡ es
      nil [] = refl
      nil (e ∷ es) = ap (λ fs. e ∷ fs) (nil es)

      behind : (es : List Call) → AllByRecursion (λ w. (nat_lt w.at c.at && writes_on c.x w) ≡ false) (calls_behind first es)
      behind [] = tt
      behind (e ∷ es) = (
        (λ i. not_below_back c.at (e.at + n) (let below = l.0 in omega (arith, below)) i && writes_on c.x (call_behind n k e)),
        behind es,
      )

  -- those before one of the second are all of the first, and the second's
  new_writes : (d : Call) → writes_before (committed_calls (first ++ second)) (call_behind n k d)
      ≡ filter (writes_on d.x) cs ++ calls_behind first (writes_before ds d)
  new_writes d =
      ap (λ es. writes_before es (call_behind n k d)) (calls_join first second apart)
      ∙ filter-append (λ w. nat_lt w.at (d.at + n) && writes_on d.x w) cs (calls_behind first ds)
      ∙ (λ i. all_first cs low i ++ over ds i)
    where
      all_first : (es : List Call) → AllByRecursion Low es →
          filter (λ w. nat_lt w.at (d.at + n) && writes_on d.x w) es ≡ filter (writes_on d.x) es
      all_first [] ls = refl
      all_first (e ∷ es) ls = (λ i. cond (lt-ltb e.at (d.at + n) (let below = ls.0.0 in omega (arith, below)) i && writes_on d.x e)
          (e ∷ all_first es ls.1 i) (all_first es ls.1 i))

      less : (a b : ℕ) → nat_lt (a + n) (b + n) ≡ nat_lt a b
      less a b = grind (arith, nat_tests)

      over : (es : List Call) →
          filter (λ w. nat_lt w.at (d.at + n) && writes_on d.x w) (calls_behind first es) ≡ calls_behind first (writes_before es d)
      over [] = refl
      over (e ∷ es) = (λ i. cond (less e.at d.at i && writes_on d.x e) (call_behind n k e ∷ over es i) (over es i))
          ∙ by (nat_lt e.at d.at && writes_on d.x e)
        where
          by : (b : Bool) → cond b (call_behind n k e ∷ calls_behind first (writes_before es d)) (calls_behind first (writes_before es d))
              ≡ calls_behind first (cond b (e ∷ writes_before es d) (writes_before es d))
          by true = refl
          by false = refl

  -- which are all writes on its object
  only_writes : (d : Call) (es : List Call) → filter (writes_on d.x) (writes_before es d) ≡ writes_before es d
  only_writes d [] = refl
  only_writes d (e ∷ es) = by (only_writes d es) (nat_lt e.at d.at) (writes_on d.x e) refl
    where
      by : filter (writes_on d.x) (writes_before es d) ≡ writes_before es d → (a b : Bool) → writes_on d.x e ≡ b → filter (writes_on d.x)
          (cond (a && b) (e ∷ writes_before es d) (writes_before es d)) ≡ cond (a && b) (e ∷ writes_before es d) (writes_before es d)
      by ih true true is = (λ i. cond (is i) (e ∷ filter (writes_on d.x) (writes_before es d))
          (filter (writes_on d.x) (writes_before es d))) ∙ ap (λ fs. e ∷ fs) ih
      by ih true false is = ih
      by ih false b is = ih

  -- so the value that it finds is the one that it finds where the first journal left its object
  new_value : (values : Values) → InOrder first → (d : Call) → run values
      (writes_before (committed_calls (first ++ second)) (call_behind n k d)) d.x ≡ run (values_after values first) (writes_before ds d) d.x
  new_value values order d =
      ap (λ ws. run values ws d.x) (new_writes d)
      ∙ ap (λ v. v d.x) (run-append values (filter (writes_on d.x) cs) (calls_behind first (writes_before ds d)))
      ∙ ap (λ v. v d.x) (run_over n k (run values (filter (writes_on d.x) cs)) (writes_before ds d))
      ∙ moved (run values (filter (writes_on d.x) cs)) (values_after values first)
      (ap (λ ws. run values ws d.x) (sym (writes_are first d.x order)) ∙ sym (value_of_writes values first d.x))
    where
      moved : (v w : Values) → v d.x ≡ w d.x → run v (writes_before ds d) d.x ≡ run w (writes_before ds d) d.x
      moved v w same = ap (λ ws. run v ws d.x) (sym (only_writes d ds)) ∙ run_writes v w d.x (writes_before ds d) same

  pub answers_join : (values : Values) → InOrder first → Answered values first → Answered (values_after values first) second →
      Answered values (first ++ second)
  answers_join values order a b =
      subst (AllByRecursion (IsAnsweredBy values (committed_calls (first ++ second)))) (sym (calls_join first second apart))
      (all_append (IsAnsweredBy values (committed_calls (first ++ second))) cs (calls_behind first ds)
      (all_map (λ c. Low c × IsAnsweredBy values cs c) (IsAnsweredBy values (committed_calls (first ++ second)))
      (λ c h. subst (λ ws. answer_text (answer_of c.op (run values ws c.x)) ≡ c.answer) (sym (old_writes c h.0)) h.1) cs
      (all_both Low (IsAnsweredBy values cs) cs low a))
      (all_over (IsAnsweredBy (values_after values first) ds) (IsAnsweredBy values (committed_calls (first ++ second))) (call_behind n k)
      (λ d h. subst (λ v. answer_text (answer_of d.op v) ≡ d.answer) (sym (new_value values order d)) h) ds b))

  -- ---- nested actions

  abbrev E : List (Placed ℕ)
  E = committed first

  abbrev F : List (Placed ℕ)
  F = committed second

  old_commit : (i : ℕ) → i < k → commit_place (committed (first ++ second)) i ≡ commit_place E i
  old_commit i l = ap (λ es. commit_place es i) (commits_join first second apart) ∙ commit_low n k E F i l

  new_commit : (i : ℕ) → (commit_place (committed (first ++ second)) (i + k) ≡ commit_place F i + n)
      ⊎ ((commit_place (committed (first ++ second)) (i + k) ≡ 0) × (commit_place F i ≡ 0))
  new_commit i =
      let is = ap (λ es. commit_place es (i + k)) (commits_join first second apart)
      ∙ commit_high n k E F i (commits_low first second apart) in
      ⊎_elim (λ e. inl (is ∙ e)) (λ e. inr (is ∙ e.0, e.1)) (commit_over n k F i)

  pub freed_join : FreedInOrder first → FreedInOrder second → FreedInOrder (first ++ second)
  freed_join = pairs_join (λ lines. IsFreedFor (committed lines))
      (λ c d a b freed lt same conflict. old_freed c d a (freed lt same conflict))
      (λ c d a b lt same conflict. let top = a.1 in
      never (c.top == (d.top + k)) same (other_number c.top (d.top + k) (λ e. omega (arith, e, top))))
      (λ c d a b lt same conflict. not_before c d b lt)
      (λ c d a b freed lt same conflict. new_freed c d (freed (omega (arith, lt)) (sym (same_behind c.top d.top k) ∙ same) conflict))
    where
      old_freed : (c d : Call) → Low c → AllByRecursion (λ a. is_among d.chain a ≡ false → commit_place E a < d.at) c.chain →
          AllByRecursion (λ a. is_among d.chain a ≡ false → commit_place (committed (first ++ second)) a < d.at) c.chain
      old_freed c d l h = all_map (λ a. (a < k) × (is_among d.chain a ≡ false → commit_place E a < d.at)) (λ a. is_among d.chain a ≡ false →
          commit_place (committed (first ++ second)) a < d.at)
          (λ a e off. subst (λ p. p < d.at) (sym (old_commit a e.0)) (e.1 off)) c.chain
          (all_both (λ a. a < k) (λ a. is_among d.chain a ≡ false → commit_place E a < d.at) c.chain l.2 h)

      new_freed : (c d : Call) → AllByRecursion (λ a. is_among d.chain a ≡ false → commit_place F a < d.at) c.chain →
          AllByRecursion (λ a. is_among (map (λ i. i + k) d.chain) a ≡ false →
          commit_place (committed (first ++ second)) a < d.at + n) (map (λ i. i + k) c.chain)
      new_freed c d h = all_over (λ a. is_among d.chain a ≡ false → commit_place F a < d.at)
          (λ a. is_among (map (λ i. i + k) d.chain) a ≡ false → commit_place (committed (first ++ second)) a < d.at + n) (λ i. i + k)
          (λ a e off. let lt = e (sym (among_over k d.chain a) ∙ off) in
          ⊎_elim (λ (p : commit_place (committed (first ++ second)) (a + k) ≡ commit_place F a + n). omega (arith, p, lt))
          (λ (p : (commit_place (committed (first ++ second)) (a + k) ≡ 0) × (commit_place F a ≡ 0)). let none = p.0 in
          omega (arith, none, lt)) (new_commit a)) c.chain h

  pub times_join : AnsweredInTime first → AnsweredInTime second → AnsweredInTime (first ++ second)
  times_join a b =
      subst (AllByRecursion InTime) (sym (calls_join first second apart))
      (all_append InTime cs (calls_behind first ds)
      (all_map (λ c. Low c × AllByRecursion (λ i. c.at < commit_place E i) c.chain) InTime (λ c h.
      all_map (λ i. (i < k) × (c.at < commit_place E i)) (λ i. c.at < commit_place (committed (first ++ second)) i) (λ i e. subst
      (λ p. c.at < p) (sym (old_commit i e.0)) e.1) c.chain (all_both (λ i. i < k) (λ i. c.at < commit_place E i) c.chain h.0.2 h.1))
      cs (all_both Low (λ c. AllByRecursion (λ i. c.at < commit_place E i) c.chain) cs low a))
      (all_over (λ c. AllByRecursion (λ i. c.at < commit_place F i) c.chain) InTime (call_behind n k)
      (λ c h. all_over (λ i. c.at < commit_place F i) (λ i. c.at + n < commit_place (committed (first ++ second)) i) (λ i. i + k)
      (λ i lt. later c i lt (new_commit i)) c.chain h) ds b))
    where
      InTime : Call → Type 0
      InTime c = AllByRecursion (λ i. c.at < commit_place (committed (first ++ second)) i) c.chain

      later : (c : Call) (i : ℕ) → c.at < commit_place F i → (commit_place (committed (first ++ second)) (i + k) ≡ commit_place F i + n)
          ⊎ ((commit_place (committed (first ++ second)) (i + k) ≡ 0) × (commit_place F i ≡ 0)) →
          c.at + n < commit_place (committed (first ++ second)) (i + k)
      later c i lt (inl p) = omega (arith, p, lt)
      later c i lt (inr p) = let none = p.1 in absurd (omega (arith, none, lt))

  pub book_join : (values : Values) → KeepsTheBook values first → KeepsTheBook (values_after values first) second →
      KeepsTheBook values (first ++ second)
  book_join values a b = record {
    order = order_join a.order b.order;
    commits = commits_first a.commits b.commits;
    answers = answers_join values a.order a.answers b.answers;
    nested = freed_join a.nested b.nested;
    times = times_join a.times b.times;
  }
