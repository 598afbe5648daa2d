-- A prepare step in the machine's terms.
use Rattle.arj_law_parts.proofs.Words
use Words.{◌≡◌, ◌⊎◌, ℕ, ◌==◌, ◌&&◌, ◌||◌, not, List, [], ◌∷◌, Bool, true, false, Some, refl, sym, ◌∙◌, ap, subst, inl, inr, ⊎_elim}
use Words.{list_any, nat_cmp, match_ordering, Ordering, Less, Equal, Greater, or_left, or_right, or_cases, and_parts, ObjectState, object}
use Words.{entry, is_marked, marks_store, marks_stores, targets_of, uid_number, with_number, without_number}
use Words.commit
use Words.order
use Rattle.arj_law_disk_view.proofs.Terms
use Terms.{World, CanBegin, after, State, Preparing, Confirming, is_idle, open_by, decided, undecided, target, state_for, In, put}
use Terms.{bool_cases, test_cases, test_is, test_same, never, falls_to, put_same, put_other, put_cases, put2_same, IsOf, SeesPair, packed}
use Terms.{packed_entry, IsTidy, plan_at, SeesPreparing, SeesConfirming, TopGoes, IsUnanswered}
use Terms.mail
use Rattle.arj_law_disk.specs.machine.{Core.Fresh, Effects.Begin, Effects.Take, Effects.Seal}
use Rattle.arj_law_disk_view.proofs.view.{Marks.marks_one, Marks.has_without, Planned.has_with, Planned.targets_are_asked}
use Rattle.arj_law_disk_view.specs.view
use view.Asking.{PreparesBegin, YesIsTaken, DoubtIsMarked, SilentAreMarked, PreparesEnd, StoresStayByTop, EntryStaysByTop}

-- ---- sets of numbers

has_with_from : (n : ℕ) (ns : List ℕ) (m : ℕ) → order.has (with_number n ns) m ≡ true → (m ≡ n) ⊎ (order.has ns m ≡ true)
has_with_from n [] m on = ⊎_elim (λ one. inl (sym (test_is n m one))) (λ none. absurd (cc none)) (or_cases (n == m) false on)
has_with_from n (k ∷ ks) m on = by (nat_cmp n k) on (has_with_from n ks m)
  where
    by : (o : Ordering) → order.has (match_ordering o (n ∷ k ∷ ks) (k ∷ ks) (k ∷ with_number n ks)) m ≡ true →
        (order.has (with_number n ks) m ≡ true → (m ≡ n) ⊎ (order.has ks m ≡ true)) → (m ≡ n) ⊎ (order.has (k ∷ ks) m ≡ true)
    by Less h ih = ⊎_elim (λ one. inl (sym (test_is n m one))) (λ more. inr more) (or_cases (n == m) (order.has (k ∷ ks) m) h)
    by Equal h ih = inr h
    by Greater h ih = ⊎_elim (λ one. inr (or_left (k == m) (order.has ks m) one)) (λ more. ⊎_elim (λ same. inl same)
        (λ rest. inr (or_right (k == m) (order.has ks m) rest)) (ih more)) (or_cases (k == m) (order.has (with_number n ks) m) h)

has_with_other : (n : ℕ) (ns : List ℕ) (m : ℕ) → (m == n) ≡ false → order.has (with_number n ns) m ≡ order.has ns m
has_with_other n ns m other = by (order.has ns m) refl
  where
    by : (b : Bool) → order.has ns m ≡ b → order.has (with_number n ns) m ≡ b
    by true e = has_with n ns m (inr e)
    by false e = falls_to (order.has (with_number n ns) m)
        (λ on. ⊎_elim (λ same. never (test_at same) other) (λ more. never more e) (has_with_from n ns m on))
      where
        test_at : m ≡ n → (m == n) ≡ true
        test_at same = ap (λ k. k == n) same ∙ test_same n

-- ---- the step

module _ (x : ℕ) where
  marked_none : (t h l : Bool) → (t ≡ true → l ≡ true) → false ≡ (t && (not h && not l))
  marked_none false h l asked = refl
  marked_none true true l asked = refl
  marked_none true false true asked = refl
  marked_none true false false asked = absurd (cc (asked refl))

  pub begins : (W : World) (t : ℕ) (p : commit.Plan) (nodes : List ℕ) → Fresh W.disk → CanBegin W.disk t (plan_at x p) → IsTidy p →
      IsUnanswered p → TopGoes t (λ S. SeesPreparing x S t (commit.further nodes p) (targets_of p)) W
  begins W t p nodes fresh can tidy unanswered = record {
    effects = Begin t (plan_at x p) ∷ [];
    own = (test_same t, tt);
    allowed = (can, tt);
    there = record {
      stage = put_same t Preparing W.disk.stage;
      begun = put_same t true W.disk.begun;
      plan = put_same t (plan_at x p) W.disk.plan;
      tidy = record { apart = tidy.apart; once = tidy.once; distinct = tidy.distinct; loaded = tidy.loaded; of = tidy.of };
      got = λ s on. ungot s ∙ sym (nobody s);
      marks = λ s. ap (λ ms. list_any (λ (m : ℕ × ℕ). (m.0 == x) && (m.1 == s)) ms) unanswered.excluded
          ∙ marked_none (target (plan_at x p) s) (order.has p.prepared s) (order.has (targets_of p) s) (targets_are_asked x s p);
      apart = λ s on. nobody s;
    };
    only = record {
      rest = refl;
      sent = refl;
      plans = λ z begun. let other = not_this z begun in
          (put_other t true W.disk.begun z other ∙ begun, put_other t (plan_at x p) W.disk.plan z other);
      stages = λ z other. put_other t Preparing W.disk.stage z other;
      starts = λ z other. put_other t true W.disk.begun z other;
      texts = λ z other. put_other t (plan_at x p) W.disk.plan z other;
      gots = λ z other. refl;
      outcomes = λ z begun u.
          subst (λ g. open_by (decided W.disk z) g (W.disk.intent z) ≡ true) (put_other t Preparing W.disk.stage z (not_this z begun)) u;
    };
  }
    where
      nobody : (s : ℕ) → order.has p.prepared s ≡ false
      nobody s = ap (λ ns. order.has ns s) unanswered.prepared

      unbegun : W.disk.begun t ≡ true → ⊥
      unbegun b = never (ap is_idle can.idle) (fresh.begun t b)

      ungot : (s : ℕ) → W.disk.got t s ≡ false
      ungot s = falls_to (W.disk.got t s) (λ g. unbegun (fresh.got t s g))

      not_this : (z : ℕ) → W.disk.begun z ≡ true → (z == t) ≡ false
      not_this z begun = falls_to (z == t) (λ same. unbegun (ap (λ k. W.disk.begun k) (sym (test_is z t same)) ∙ begun))

  -- the formula of marks after a Yes of s, at another store and at s
  yes_other : (m t h l h2 l2 : Bool) → m ≡ (t && (not h && not l)) → h2 ≡ h → l2 ≡ l → m ≡ (t && (not h2 && not l2))
  yes_other m t h l h2 l2 is same_h same_l = is ∙ (λ i. t && (not (sym same_h i) && not (sym same_l i)))

  yes_same : (m t h l h2 l2 : Bool) → m ≡ (t && (not h && not l)) → l ≡ true → h2 ≡ true → m ≡ (t && (not h2 && not l2))
  yes_same m true true l h2 l2 is asked new = is ∙ (λ i. true && (not (sym new i) && not l2))
  yes_same m true false l h2 l2 is asked new = is ∙ (λ i. not (asked i)) ∙ (λ i. true && (not (sym new i) && not l2))
  yes_same m false h l h2 l2 is asked new = is

  abbrev YesOf : ℕ → commit.Plan → commit.Plan
  YesOf s p = record p { prepared = with_number s p.prepared }

  yes_seen : (S V : State) (t s : ℕ) (p : commit.Plan) (left : List ℕ) → SeesPreparing x S t p left → order.has left s ≡ true
      → V.stage t ≡ S.stage t → V.begun t ≡ S.begun t → V.plan t ≡ S.plan t
      → ((r : ℕ) → (r == s) ≡ false → V.got t r ≡ S.got t r) → (target (plan_at x p) s ≡ true → V.got t s ≡ true)
      → SeesPreparing x V t (YesOf s p) (without_number s left)
  yes_seen S V t s p left sees asked stage begun plan others own = record {
    stage = stage ∙ sees.stage;
    begun = begun ∙ sees.begun;
    plan = plan ∙ sees.plan;
    tidy = record {
      apart = sees.tidy.apart;
      once = sees.tidy.once;
      distinct = sees.tidy.distinct;
      loaded = sees.tidy.loaded;
      of = sees.tidy.of;
    };
    got = λ r on. got r on (test_cases r s);
    marks = λ r. marks r (test_cases r s);
    apart = λ r on. apart r (and_parts (order.has left r) (not (r == s)) (sym (has_without s r left) ∙ on));
  }
    where
      here : order.has (with_number s p.prepared) s ≡ true
      here = has_with s p.prepared s (inl refl)

      got : (r : ℕ) → target (plan_at x p) r ≡ true → (r ≡ s) ⊎ ((r == s) ≡ false) → V.got t r ≡ order.has (with_number s p.prepared) r
      got r on (inl same) = ap (λ k. V.got t k) same ∙ own (subst (λ k. target (plan_at x p) k ≡ true) same on)
          ∙ sym (ap (λ k. order.has (with_number s p.prepared) k) same ∙ here)
      got r on (inr other) = others r other ∙ sees.got r on ∙ sym (has_with_other s p.prepared r other)

      marks : (r : ℕ) → (r ≡ s) ⊎ ((r == s) ≡ false) → is_marked x r p
          ≡ (target (plan_at x p) r && (not (order.has (with_number s p.prepared) r) && not (order.has (without_number s left) r)))
      marks r (inl same) = yes_same (is_marked x r p) (target (plan_at x p) r) (order.has p.prepared r) (order.has left r)
          (order.has (with_number s p.prepared) r) (order.has (without_number s left) r) (sees.marks r)
          (ap (λ k. order.has left k) same ∙ asked) (ap (λ k. order.has (with_number s p.prepared) k) same ∙ here)
      marks r (inr other) = yes_other (is_marked x r p) (target (plan_at x p) r) (order.has p.prepared r) (order.has left r)
          (order.has (with_number s p.prepared) r) (order.has (without_number s left) r) (sees.marks r)
          (has_with_other s p.prepared r other)
          (has_without s r left ∙ ap (λ b. order.has left r && not b) other ∙ and_true (order.has left r))
        where
          and_true : (b : Bool) → (b && true) ≡ b
          and_true true = refl
          and_true false = refl

      apart : (r : ℕ) → (order.has left r ≡ true) × (not (r == s) ≡ true) → order.has (with_number s p.prepared) r ≡ false
      apart r parts = has_with_other s p.prepared r (off (r == s) parts.1) ∙ sees.apart r parts.0
        where
          off : (b : Bool) → not b ≡ true → b ≡ false
          off true h = absurd (cc h)
          off false h = refl

  pub takes : (W : World) (t s : ℕ) (p : commit.Plan) (left : List ℕ) → SeesPreparing x W.disk t p left → order.has left s ≡ true →
      (target (plan_at x p) s ≡ true → In (mail.Prepared t s) W.sent)
      → TopGoes t (λ S. SeesPreparing x S t (YesOf s p) (without_number s left)) W
  takes W t s p left sees asked claim = by (bool_cases (target (plan_at x p) s))
    where
      by : (target (plan_at x p) s ≡ true) ⊎ (target (plan_at x p) s ≡ false) →
          TopGoes t (λ S. SeesPreparing x S t (YesOf s p) (without_number s left)) W
      by (inr off) = record {
        effects = [];
        own = tt;
        allowed = tt;
        there = yes_seen W.disk W.disk t s p left sees asked refl refl refl (λ r other. refl) (λ on. absurd (never on off));
        only = record {
          rest = refl;
          sent = refl;
          plans = λ z b. (b, refl);
          stages = λ z other. refl;
          starts = λ z other. refl;
          texts = λ z other. refl;
          gots = λ z other. refl;
          outcomes = λ z b u. u;
        };
      }
      by (inl on) = record {
        effects = Take t s ∷ [];
        own = (refl, tt);
        allowed = ((sees.stage, claim on), tt);
        there = yes_seen W.disk (after W (Take t s)).disk t s p left sees asked refl refl refl (λ r other. ap (λ f. f r)
            (put_same t (put s true (W.disk.got t)) W.disk.got) ∙ put_other s true (W.disk.got t) r other) (λ e. put2_same t s W.disk.got);
        only = record {
          rest = refl;
          sent = refl;
          plans = λ z b. (b, refl);
          stages = λ z other. refl;
          starts = λ z other. refl;
          texts = λ z other. refl;
          gots = λ z other. put_other t (put s true (W.disk.got t)) W.disk.got z other;
          outcomes = λ z b u. u;
        };
      }

  -- ---- marks

  -- the formula of marks after s is marked, which didn't say Yes
  doubt_same : (m t h l : Bool) → m ≡ (t && (not h && not l)) → h ≡ false → (t || m) ≡ (t && (not h && not false))
  doubt_same m true h l is unsaid = λ i. not (sym unsaid i) && true
  doubt_same m false h l is unsaid = is

  pub doubts : (S : State) (t s : ℕ) (p : commit.Plan) (left : List ℕ) → SeesPreparing x S t p left → order.has p.prepared s ≡ false →
      SeesPreparing x S t (marks_store s p) (without_number s left)
  doubts S t s p left sees unsaid = record {
    stage = sees.stage;
    begun = sees.begun;
    plan = sees.plan;
    tidy = record {
      apart = sees.tidy.apart;
      once = sees.tidy.once;
      distinct = sees.tidy.distinct;
      loaded = sees.tidy.loaded;
      of = sees.tidy.of;
    };
    got = sees.got;
    marks = λ r. marks_one x p sees.tidy s r ∙ marks r (test_cases r s);
    apart = λ r on. sees.apart r (and_parts (order.has left r) (not (r == s)) (sym (has_without s r left) ∙ on)).0;
  }
    where
      and_true : (b : Bool) → (b && true) ≡ b
      and_true true = refl
      and_true false = refl

      off : (a b : Bool) → b ≡ false → ((a && b) || is_marked x s p) ≡ is_marked x s p
      off true b e = ap (λ c. c || is_marked x s p) e
      off false b e = refl

      flipped : (r : ℕ) → (r == s) ≡ false → (s == r) ≡ false
      flipped r other = falls_to (s == r) (λ on. never (ap (λ k. r == k) (test_is s r on) ∙ test_same r) other)

      marks : (r : ℕ) → (r ≡ s) ⊎ ((r == s) ≡ false) → ((target (plan_at x p) s && (s == r)) || is_marked x r p)
          ≡ (target (plan_at x p) r && (not (order.has p.prepared r) && not (order.has (without_number s left) r)))
      marks r (inl same) = subst (λ k. ((target (plan_at x p) s && (s == k)) || is_marked x k p)
          ≡ (target (plan_at x p) k && (not (order.has p.prepared k) && not (order.has (without_number s left) k)))) (sym same)
          (ap (λ b. (target (plan_at x p) s && b) || is_marked x s p) (test_same s)
          ∙ ap (λ b. b || is_marked x s p) (and_true (target (plan_at x p) s))
          ∙ doubt_same (is_marked x s p) (target (plan_at x p) s) (order.has p.prepared s) (order.has left s) (sees.marks s) unsaid
          ∙ (λ i. target (plan_at x p) s && (not (order.has p.prepared s) && not (sym gone i))))
        where
          gone : order.has (without_number s left) s ≡ false
          gone = has_without s s left ∙ ap (λ b. order.has left s && not b) (test_same s) ∙ and_false (order.has left s)
            where
              and_false : (b : Bool) → (b && false) ≡ false
              and_false true = refl
              and_false false = refl
      marks r (inr other) =
          ap (λ b. (target (plan_at x p) s && b) || is_marked x r p) (flipped r other)
          ∙ no_part (target (plan_at x p) s) (is_marked x r p)
          ∙ sees.marks r
          ∙ (λ i. target (plan_at x p) r && (not (order.has p.prepared r)
          && not (sym (has_without s r left ∙ ap (λ b. order.has left r && not b) other ∙ and_true (order.has left r)) i)))
        where
          no_part : (a m : Bool) → ((a && false) || m) ≡ m
          no_part true m = refl
          no_part false m = refl

  -- only which stores are left counts
  same_left : (S : State) (t : ℕ) (p : commit.Plan) (left last : List ℕ) → ((r : ℕ) → order.has last r ≡ order.has left r) →
      SeesPreparing x S t p left → SeesPreparing x S t p last
  same_left S t p left last same sees = record {
    stage = sees.stage;
    begun = sees.begun;
    plan = sees.plan;
    tidy = sees.tidy;
    got = sees.got;
    marks = λ r. sees.marks r ∙ (λ i. target (plan_at x p) r && (not (order.has p.prepared r) && not (sym (same r) i)));
    apart = λ r on. sees.apart r (sym (same r) ∙ on);
  }

  silent : (S : State) (t : ℕ) (ss : List ℕ) (p : commit.Plan) (left last : List ℕ) → SeesPreparing x S t p left →
      ((r : ℕ) → order.has ss r ≡ true → order.has p.prepared r ≡ false)
      → ((r : ℕ) → order.has last r ≡ (order.has left r && not (order.has ss r))) → SeesPreparing x S t (marks_stores ss p) last
  silent S t [] p left last sees unsaid same = same_left S t p left last (λ r. same r ∙ and_true (order.has left r)) sees
    where
      and_true : (b : Bool) → (b && true) ≡ b
      and_true true = refl
      and_true false = refl
  silent S t (s ∷ ss) p left last sees unsaid same =
      silent S t ss (marks_store s p) (without_number s left) last (doubts S t s p left sees
      (unsaid s (or_left (s == s) (order.has ss s) (test_same s)))) (λ r on. unsaid r (or_right (s == r) (order.has ss r) on))
      (λ r. same r ∙ parts (order.has left r) (s == r) (order.has ss r) ∙ ap (λ b. (order.has left r && not b) && not (order.has ss r))
      (flip s r) ∙ ap (λ b. b && not (order.has ss r)) (sym (has_without s r left)))
    where
      parts : (a b c : Bool) → (a && not (b || c)) ≡ ((a && not b) && not c)
      parts true true c = refl
      parts true false c = refl
      parts false b c = refl

      flip : (a b : ℕ) → (a == b) ≡ (b == a)
      flip a b = by (a == b) refl
        where
          by : (c : Bool) → (a == b) ≡ c → c ≡ (b == a)
          by true e = sym (ap (λ k. b == k) (test_is a b e) ∙ test_same b)
          by false e = sym (falls_to (b == a) (λ on. never (ap (λ k. a == k) (test_is b a on) ∙ test_same a) e))

  pub given_up : (S : State) (t : ℕ) (p : commit.Plan) (left : List ℕ) → SeesPreparing x S t p left →
      SeesPreparing x S t (marks_stores left p) []
  given_up S t p left sees = silent S t left p left [] sees sees.apart (λ r. none (order.has left r))
    where
      none : (b : Bool) → false ≡ (b && not b)
      none true = refl
      none false = refl

  -- ---- the end of the step

  pub ends : (W : World) (t : ℕ) (p : commit.Plan) → SeesPreparing x W.disk t p [] → TopGoes t (λ S. SeesConfirming x S t p) W
  ends W t p sees = record {
    effects = Seal t ∷ [];
    own = (refl, tt);
    allowed = (sees.stage, tt);
    there = record {
      stage = put_same t Confirming W.disk.stage;
      begun = sees.begun;
      plan = sees.plan;
      tidy = sees.tidy;
      got = sees.got;
      marks = λ s. sees.marks s ∙ ap (λ b. target (plan_at x p) s && b) (and_true (not (order.has p.prepared s)));
    };
    only = record {
      rest = refl;
      sent = refl;
      plans = λ z b. (b, refl);
      stages = λ z other. put_other t Confirming W.disk.stage z other;
      starts = λ z other. refl;
      texts = λ z other. refl;
      gots = λ z other. refl;
      outcomes = λ z b.
          put_cases (λ g. open_by (decided W.disk z) g (W.disk.intent z) ≡ true → undecided W.disk z ≡ true) t Confirming W.disk.stage z
          (λ same u. subst (λ g. open_by (decided W.disk z) g (W.disk.intent z) ≡ true) (sym (ap (λ k. W.disk.stage k) same ∙ sees.stage))
          u) (λ other u. u);
    };
  }
    where
      and_true : (b : Bool) → (b && true) ≡ b
      and_true true = refl
      and_true false = refl

-- ---- as laws

pub prepares_begin : PreparesBegin
prepares_begin x W t p nodes fresh can tidy unanswered = begins x W t p nodes fresh can tidy unanswered

pub yes_is_taken : YesIsTaken
yes_is_taken x W t s p left sees asked claim = takes x W t s p left sees asked claim

pub doubt_is_marked : DoubtIsMarked
doubt_is_marked x S t s p left sees asked = doubts x S t s p left sees (sees.apart s asked)

pub silent_are_marked : SilentAreMarked
silent_are_marked x S t p left sees = given_up x S t p left sees

pub prepares_end : PreparesEnd
prepares_end x W t p sees = ends x W t p sees

pub stores_by_top : StoresStayByTop
stores_by_top x s t d W V only sees = record {
  pair = subst (λ o. SeesPair packed (object x) d o (V.disk.pend s)) (ap (λ (S : State). S.held s) (sym only.rest))
      (subst (λ o. SeesPair packed (object x) d (W.disk.held s) o) (ap (λ (S : State). S.pend s) (sym only.rest)) sees.pair);
  planned = λ a ss is.
      let p = sees.planned a ss is in
      let q = only.plans (uid_number a) p.begun in
      record {
        begun = q.0;
        named = subst (λ g. (st : ObjectState) → IsOf (object x) ss st → (target g s ≡ true) × (packed st ≡ state_for g)) (sym q.1) p.named;
        there = subst (λ g. target g s ≡ true → (st : ObjectState) × IsOf (object x) ss st) (sym q.1) p.there;
      };
}

pub entry_by_top : EntryStaysByTop
entry_by_top x t d W V only sees = record {
  pair = subst (λ o. SeesPair packed_entry (entry x) d o V.disk.entry_pend) (ap (λ (S : State). Some S.entry) (sym only.rest))
      (subst (λ o. SeesPair packed_entry (entry x) d (Some W.disk.entry) o) (ap (λ (S : State). S.entry_pend) (sym only.rest)) sees.pair);
  begun = λ a ss is. (only.plans (uid_number a) (sees.begun a ss is)).0;
  taken = λ a ss is u. ⊎_elim
      (λ c. inl (ap (λ (S : State). S.conf (uid_number a)) only.rest ∙ c))
      (λ c. inr (ap (λ (S : State). S.light (uid_number a)) only.rest ∙ c))
      (sees.taken a ss is (only.outcomes (uid_number a) (sees.begun a ss is) u));
  aimed = λ a ss st is of. let s = sees.aimed a ss st is of in
      (s.0, ap (λ g. target g s.0) (only.plans (uid_number a) (sees.begun a ss is)).1 ∙ s.1);
}
