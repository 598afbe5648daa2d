-- Calls of one top that wait for none before them.
use Rattle.std.proofs.Common.{◌≡◌, ◌<◌, ◌⊎◌, ℕ, List, [], ◌∷◌, ◌++◌, Bool, true, false, cond, ◌&&◌, ◌||◌, ◌==◌, nat_lt, map, filter, refl}
use Rattle.std.proofs.Common.{ap, arith}
use Rattle.std.specs.Prelude.{not}
use Rattle.std.specs.List.{AllByRecursion, list_all}
use Rattle.std.proofs.Math.Logic.{⊎_elim}
use Rattle.std.proofs.lemmas.Bool.{eq-eqb, eqb-true}
use Rattle.arj_book.specs.Kept.{are_free, are_freed, is_freed}
use Rattle.arj_book.proofs.Orders.{Either, and_left, and_of, and_right, all_two, both_two, each_way}
use Rattle.arj_book.proofs.Places.{chains_end, one_commit}
use Rattle.arj_journal.specs.declared.body.Line.{Line}
use Rattle.arj_law.proofs.Common.{Pairwise, all_map, never, pairwise_both, pairwise_map, pairwise_of}
use Rattle.arj_law.proofs.Order.{rises}
use Rattle.arj_model.specs.Actions.{Placed, committed, has_end}
use Rattle.arj_model.specs.Book.{is_conflict}
use Rattle.arj_model.specs.Calls.{Call, committed_calls}
use Rattle.arj_model.specs.Last.{is_among}
use Rattle.arj_model.specs.Nested.{FreedInOrder, IsFreedFor, commit_place}

pub true_lt : (m n : ℕ) → nat_lt m n ≡ true → m < n
true_lt m n e = grind (arith, e)

pub lt_true : (m n : ℕ) → m < n → nat_lt m n ≡ true
lt_true m n l = grind (arith, l)

-- tests of all items
pub all_of_test : {A : Type 0} (t : A → Bool) (xs : List A) → list_all t xs ≡ true → AllByRecursion (λ x. t x ≡ true) xs
all_of_test t [] e = tt
all_of_test t (x ∷ xs) e = (and_left (t x) (list_all t xs) e, all_of_test t xs (and_right (t x) (list_all t xs) e))

pub test_of_all : {A : Type 0} (t : A → Bool) (xs : List A) → AllByRecursion (λ x. t x ≡ true) xs → list_all t xs ≡ true
test_of_all t [] h = refl
test_of_all t (x ∷ xs) h = and_of (t x) (list_all t xs) h.0 (test_of_all t xs h.1)

all_join : {A : Type 0} (P : A → Type 0) (xs ys : List A) → AllByRecursion P (xs ++ ys) → AllByRecursion P xs × AllByRecursion P ys
all_join P [] ys h = (tt, h)
all_join P (x ∷ xs) ys h = let r = all_join P xs ys h.1 in ((h.0, r.0), r.1)

pub join_all : {A : Type 0} (P : A → Type 0) (xs ys : List A) → AllByRecursion P xs → AllByRecursion P ys → AllByRecursion P (xs ++ ys)
join_all P [] ys h k = k
join_all P (x ∷ xs) ys h k = (h.0, join_all P xs ys h.1 k)

-- what holds of what passes a test, and of what doesn't, holds of each
filtered_all : {A : Type 0} (P : A → Type 0) (t : A → Bool) (xs : List A) → AllByRecursion P (filter t xs) → ((x : A) → t x ≡ false → P x) →
    AllByRecursion P xs
filtered_all P t [] h f = tt
filtered_all {A} P t (x ∷ xs) h f = by (λ k. filtered_all P t xs k f) (t x) refl h
  where
    by : (AllByRecursion P (filter t xs) → AllByRecursion P xs) → (b : Bool) → t x ≡ b → AllByRecursion P (cond b (x ∷ filter t xs) (filter t xs)) → AllByRecursion P (x ∷ xs)
    by ih true e k = (k.0, ih k.1)
    by ih false e k = (f x e, ih k)

pub all_filtered : {A : Type 0} (P : A → Type 0) (t : A → Bool) (xs : List A) → AllByRecursion P xs → AllByRecursion P (filter t xs)
all_filtered P t [] h = tt
all_filtered {A} P t (x ∷ xs) h = by (all_filtered P t xs h.1) (t x)
  where
    by : AllByRecursion P (filter t xs) → (b : Bool) → AllByRecursion P (cond b (x ∷ filter t xs) (filter t xs))
    by ih true = (h.0, ih)
    by ih false = ih

module _ (ends : List (Placed ℕ)) where
  -- the second call doesn't wait for the first
  abbrev pub Waits : Call → Call → Type 0
  Waits c d = is_freed ends c d ≡ true

  not_free : (a : Bool) → not a ≡ false → a ≡ true
  not_free true e = refl
  not_free false e = never true refl e

  or_right : (a b : Bool) → b ≡ true → (a || b) ≡ true
  or_right true b e = refl
  or_right false b e = e

  -- what was free at a place is free behind it
  free_later : (chain other : List ℕ) (m n : ℕ) → m < n → are_free ends chain [] m ≡ true → are_free ends chain other n ≡ true
  free_later [] other m n lt e = refl
  free_later (a ∷ chain) other m n lt e = and_of (nat_lt (commit_place ends a) n || is_among (map (commit_place ends) other) (commit_place ends a)) _
      (first (nat_lt (commit_place ends a) m) refl (and_left (nat_lt (commit_place ends a) m || false) _ e))
      (free_later chain other m n lt (and_right (nat_lt (commit_place ends a) m || false) _ e))
    where
      first : (b : Bool) → nat_lt (commit_place ends a) m ≡ b → (b || false) ≡ true →
          (nat_lt (commit_place ends a) n || is_among (map (commit_place ends) other) (commit_place ends a)) ≡ true
      first true is g = (λ i. lt_true (commit_place ends a) n (let l = true_lt (commit_place ends a) m is in omega (arith, lt, l)) i
          || is_among (map (commit_place ends) other) (commit_place ends a))
      first false is g = never false g refl

  pub freed_pairs : (before ds : List Call) → Pairwise (λ c d. c.at < d.at) ds → are_freed ends before ds ≡ true →
      AllByRecursion (λ d. AllByRecursion (λ c. Waits c d) before) ds × Pairwise Waits ds
  freed_pairs before [] rise e = (tt, tt)
  freed_pairs before (d ∷ ds) rise e =
      let now = all_of_test (λ c. is_freed ends c d) before (and_left (list_all (λ c. is_freed ends c d) before) _ e) in
      let ih = freed_pairs (filter still before ++ d ∷ []) ds rise.1 (and_right (list_all (λ c. is_freed ends c d) before) _ e) in (
        (now, each ds rise.0 ih.0),
        (mine ds ih.0, ih.1),
      )
    where
      still : Call → Bool
      still c = not (are_free ends c.chain [] d.at)

      each : (es : List Call) → AllByRecursion (λ e. d.at < e.at) es → AllByRecursion (λ e. AllByRecursion (λ c. Waits c e) (filter still before ++ d ∷ [])) es →
          AllByRecursion (λ e. AllByRecursion (λ c. Waits c e) before) es
      each [] l h = tt
      each (x ∷ es) l h = (
        filtered_all (λ c. Waits c x) still before (all_join (λ c. Waits c x) (filter still before) (d ∷ []) h.0).0
            (λ c shut. or_right (not ((c.top == x.top) && is_conflict c x)) (are_free ends c.chain x.chain x.at)
            (free_later c.chain x.chain d.at x.at l.0 (not_free (are_free ends c.chain [] d.at) shut))),
        each es l.1 h.1,
      )

      mine : (es : List Call) → AllByRecursion (λ e. AllByRecursion (λ c. Waits c e) (filter still before ++ d ∷ [])) es → AllByRecursion (Waits d) es
      mine [] h = tt
      mine (x ∷ es) h = ((all_join (λ c. Waits c x) (filter still before) (d ∷ []) h.0).1.0, mine es h.1)

  pub pairs_freed : (before ds : List Call) → AllByRecursion (λ d. AllByRecursion (λ c. Waits c d) before) ds → Pairwise Waits ds →
      are_freed ends before ds ≡ true
  pairs_freed before [] h p = refl
  pairs_freed before (d ∷ ds) h p =
      and_of (list_all (λ c. is_freed ends c d) before) _ (test_of_all (λ c. is_freed ends c d) before h.0)
      (pairs_freed (filter still before ++ d ∷ []) ds (each ds h.1 p.0) p.1)
    where
      still : Call → Bool
      still c = not (are_free ends c.chain [] d.at)

      each : (es : List Call) → AllByRecursion (λ e. AllByRecursion (λ c. Waits c e) before) es → AllByRecursion (Waits d) es →
          AllByRecursion (λ e. AllByRecursion (λ c. Waits c e) (filter still before ++ d ∷ [])) es
      each [] l q = tt
      each (x ∷ es) l q = (join_all (λ c. Waits c x) (filter still before) (d ∷ []) (all_filtered (λ c. Waits c x) still before l.0) (q.0, tt), each es l.1 q.1)

-- ---- what it means of two calls

among_map : (f : ℕ → ℕ) (ns : List ℕ) (a : ℕ) → is_among ns a ≡ true → is_among (map f ns) (f a) ≡ true
among_map f [] a e = never false e refl
among_map f (n ∷ ns) a e = by (among_map f ns a) (n == a) refl e
  where
    second : (b : Bool) → is_among (map f ns) (f a) ≡ true → (b || is_among (map f ns) (f a)) ≡ true
    second true k = refl
    second false k = k

    by : (is_among ns a ≡ true → is_among (map f ns) (f a) ≡ true) → (b : Bool) → (n == a) ≡ b → (b || is_among ns a) ≡ true →
        ((f n == f a) || is_among (map f ns) (f a)) ≡ true
    by ih true same g = (λ i. eq-eqb (f n) (f a) (ap f (eqb-true n a same)) i || is_among (map f ns) (f a))
    by ih false other g = second (f n == f a) (ih g)

module _ (lines : List Line) where
  -- an action of which the commit stands among those of others is one of them
  map_among : (ns : List ℕ) (a : ℕ) → AllByRecursion (λ n. has_end (committed lines) n ≡ true) ns → has_end (committed lines) a ≡ true →
      is_among (map (commit_place (committed lines)) ns) (commit_place (committed lines) a) ≡ true → is_among ns a ≡ true
  map_among [] a hs h e = e
  map_among (n ∷ ns) a hs h e = by (map_among ns a hs.1 h) (commit_place (committed lines) n == commit_place (committed lines) a) refl e
    where
      more : (b : Bool) → is_among ns a ≡ true → (b || is_among ns a) ≡ true
      more true k = refl
      more false k = k

      by : (is_among (map (commit_place (committed lines)) ns) (commit_place (committed lines) a) ≡ true → is_among ns a ≡ true) → (b : Bool) →
          (commit_place (committed lines) n == commit_place (committed lines) a) ≡ b → (b || is_among (map (commit_place (committed lines)) ns) (commit_place (committed lines) a)) ≡ true → ((n == a) || is_among ns a) ≡ true
      by ih true same g = (λ i. eq-eqb n a (one_commit lines n a hs.0 h (eqb-true (commit_place (committed lines) n) (commit_place (committed lines) a) same)) i || is_among ns a)
      by ih false other g = more (n == a) (ih g)

  free_for : (chain other : List ℕ) (at : ℕ) → AllByRecursion (λ a. has_end (committed lines) a ≡ true) chain →
      AllByRecursion (λ a. has_end (committed lines) a ≡ true) other → are_free (committed lines) chain other at ≡ true →
      AllByRecursion (λ a. is_among other a ≡ false → commit_place (committed lines) a < at) chain
  free_for [] other at hs ks e = tt
  free_for (a ∷ chain) other at hs ks e = (
    first (nat_lt (commit_place (committed lines) a) at) refl (and_left (nat_lt (commit_place (committed lines) a) at || _) _ e),
    free_for chain other at hs.1 ks (and_right (nat_lt (commit_place (committed lines) a) at || _) _ e),
  )
    where
      first : (b : Bool) → nat_lt (commit_place (committed lines) a) at ≡ b →
          (b || is_among (map (commit_place (committed lines)) other) (commit_place (committed lines) a)) ≡ true → is_among other a ≡ false →
          commit_place (committed lines) a < at
      first true is g f = true_lt (commit_place (committed lines) a) at is
      first false is g f = never (is_among other a) (map_among other a ks hs.0 g) f

  for_free : (chain other : List ℕ) (at : ℕ) → AllByRecursion (λ a. is_among other a ≡ false → commit_place (committed lines) a < at) chain →
      are_free (committed lines) chain other at ≡ true
  for_free [] other at h = refl
  for_free (a ∷ chain) other at h = and_of (nat_lt (commit_place (committed lines) a) at || is_among (map (commit_place (committed lines)) other) (commit_place (committed lines) a)) _
      (by (is_among other a) refl) (for_free chain other at h.1)
    where
      more : (b : Bool) → is_among (map (commit_place (committed lines)) other) (commit_place (committed lines) a) ≡ true →
          (b || is_among (map (commit_place (committed lines)) other) (commit_place (committed lines) a)) ≡ true
      more true k = refl
      more false k = k

      by : (b : Bool) → is_among other a ≡ b →
          (nat_lt (commit_place (committed lines) a) at || is_among (map (commit_place (committed lines)) other) (commit_place (committed lines) a)) ≡ true
      by true e = more (nat_lt (commit_place (committed lines) a) at) (among_map (commit_place (committed lines)) other a e)
      by false e = (λ i. lt_true (commit_place (committed lines) a) at (h.0 e) i || is_among (map (commit_place (committed lines)) other) (commit_place (committed lines) a))

  abbrev Ended : Call → Type 0
  Ended c = AllByRecursion (λ a. has_end (committed lines) a ≡ true) c.chain

  -- two calls with their chains
  abbrev Chains : Call → Call → Type 0
  Chains c d = Ended c × Ended d

  chains_two : (cs ds : List Call) → AllByRecursion Ended cs → AllByRecursion Ended ds → AllByRecursion (λ c. AllByRecursion (Chains c) ds) cs
  chains_two [] ds h k = tt
  chains_two (c ∷ cs) ds h k = (all_map Ended (Chains c) (λ d e. (h.0, e)) ds k, chains_two cs ds h.1 k)

  -- calls that don't wait are freed in order
  pub freed_in_order : Pairwise (Waits (committed lines)) (committed_calls lines) → FreedInOrder lines
  freed_in_order p =
      all_two (λ c d. Either R c d × Chains c d) (IsFreedFor (committed lines)) one (committed_calls lines) (committed_calls lines)
      (both_two (Either R) Chains (committed_calls lines) (committed_calls lines)
      (each_way R (committed_calls lines) (pairwise_both (λ c d. c.at < d.at) (Waits (committed lines)) (committed_calls lines) (rises lines) p))
      (chains_two (committed_calls lines) (committed_calls lines) (chains_end lines) (chains_end lines)))
    where
      R : Call → Call → Type 0
      R c d = (c.at < d.at) × Waits (committed lines) c d

      free : (c d : Call) → Chains c d → (c.top == d.top) ≡ true → is_conflict c d ≡ true → (s k : Bool) → (c.top == d.top) ≡ s → is_conflict c d ≡ k →
          (not (s && k) || are_free (committed lines) c.chain d.chain d.at) ≡ true →
          AllByRecursion (λ a. is_among d.chain a ≡ false → commit_place (committed lines) a < d.at) c.chain
      free c d h same conflict true true e f g = free_for c.chain d.chain d.at h.0 h.1 g
      free c d h same conflict true false e f g = never (is_conflict c d) conflict f
      free c d h same conflict false k e f g = never (c.top == d.top) same e

      one : (c d : Call) → Either R c d × Chains c d → IsFreedFor (committed lines) c d
      one c d q lt same conflict = ⊎_elim (λ (r : R c d ⊎ R d c). ⊎_elim (λ (s : R c d). free c d q.1 same conflict (c.top == d.top) (is_conflict c d) refl refl s.1)
          (λ (s : R d c). let l : d.at < c.at = s.0 in absurd (omega (arith, lt, l))) r) (λ (s : c.at ≡ d.at). absurd (omega (arith, lt, s))) q.0

  pub order_freed : FreedInOrder lines → Pairwise (Waits (committed lines)) (committed_calls lines)
  order_freed h = pairwise_map (λ c d. (c.at < d.at) × IsFreedFor (committed lines) c d) (Waits (committed lines))
      (λ c d p. by c d p.0 p.1 (c.top == d.top) refl (is_conflict c d) refl) (committed_calls lines)
      (pairwise_both (λ c d. c.at < d.at) (IsFreedFor (committed lines)) (committed_calls lines) (rises lines)
      (pairwise_of (IsFreedFor (committed lines)) (committed_calls lines) h))
    where
      by : (c d : Call) → c.at < d.at → IsFreedFor (committed lines) c d → (s : Bool) → (c.top == d.top) ≡ s → (k : Bool) → is_conflict c d ≡ k →
          (not (s && k) || are_free (committed lines) c.chain d.chain d.at) ≡ true
      by c d lt f true e true g = for_free c.chain d.chain d.at (f lt e g)
      by c d lt f true e false g = refl
      by c d lt f false e k g = refl
