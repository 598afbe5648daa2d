-- What was asked in another event than this one, and is a call of the object by an action of the same root.
use Rattle.arj_law_parts.proofs.Words
use Words.{◌≡◌, ◌⊎◌, ◌≤◌, ◌<◌, ◌∙◌, ◌++◌, ◌==◌, ◌&&◌, not, ℕ, Bool, true, false, cond, ⊤, List, [], ◌∷◌, length, Option, Some, None, refl, sym, ap, subst}
use Words.{inl, inr, arith, eqb-true, Event, nat_tests, filter, in_filter, eq-eqb, AllByRecursion, In, Line, Uid, first_uid, is_own, Coord, list_any}
use Words.event
use Rattle.arj_law_disk_view.proofs.view.Doings.{own_is}
use Rattle.arj_law_lock_view.specs.asking.Asked.{accepted_of}
use Rattle.arj_law_parts.specs.moves.Moments.{Asking}
use Rattle.arj_law_runs.proofs.journal.{Models.in_later, Owners.acts_more, Ties.on_path}
use Rattle.arj_law_serial.proofs.Terms.{Act, AreDistinct, acts, any_in, uids}
use Rattle.arj_model.specs.Actions.{root_in}
use Rattle.arj_model.specs.CauseAnswers.{is_other_call}
use Rattle.arj_model.specs.CauseSpans.{holds_in, is_call}
use Rattle.arj_model.specs.Past.{Asked as AskedOf, label_of}
use Rattle.arj_model.specs.Refusals.{asks_by, is_ask_by, is_root, last_asked}
use Rattle.arj_law_cause.proofs.rows.Asks.{AreSameAsks, asks_same, asks_some, is_asking}
use Rattle.arj_law_cause.proofs.rows.Entered.{one_root}
use Rattle.arj_law_cause.proofs.rows.Keepers.{IsFromCall, IsOther}
use Rattle.arj_law_cause.proofs.rows.Taking.{IsPathAt}
use Rattle.arj_law_cause.proofs.waits.waiting.Lists.{in_filter_too}

-- ---- numbers

-- accepted events have rising numbers
abbrev pub AreRising : List AskedOf → Type 0
AreRising [] = ⊤
AreRising (a ∷ qs) = AllByRecursion (λ (b : AskedOf). a.number < b.number) qs × AreRising qs

all_filter : (P : AskedOf → Type 0) (p : AskedOf → Bool) (qs : List AskedOf) → AllByRecursion P qs → AllByRecursion P (filter p qs)
all_filter P p [] all = tt
all_filter P p (a ∷ qs) all = by (p a) (all_filter P p qs all.1)
  where
    by : (b : Bool) → AllByRecursion P (filter p qs) → AllByRecursion P (cond b (a ∷ filter p qs) (filter p qs))
    by true rest = (all.0, rest)
    by false rest = rest

rising_filter : (p : AskedOf → Bool) (qs : List AskedOf) → AreRising qs → AreRising (filter p qs)
rising_filter p [] rises = tt
rising_filter p (a ∷ qs) rises = by (p a) (rising_filter p qs rises.1)
  where
    by : (b : Bool) → AreRising (filter p qs) → AreRising (cond b (a ∷ filter p qs) (filter p qs))
    by true rest = (all_filter (λ (b : AskedOf). a.number < b.number) p qs rises.0, rest)
    by false rest = rest

all_at : (P : AskedOf → Type 0) (a : AskedOf) (qs : List AskedOf) → In a qs → AllByRecursion P qs → P a
all_at P a [] i all = absurd i
all_at P a (b ∷ qs) (inl same) all = subst P same all.0
all_at P a (b ∷ qs) (inr i) all = all_at P a qs i all.1

one_number : (qs : List AskedOf) → AreRising qs → (a b : AskedOf) → In a qs → In b qs → a.number ≡ b.number → a ≡ b
one_number [] rises a b i j same = absurd i
one_number (c ∷ qs) rises a b (inl p) (inl q) same = sym p ∙ q
one_number (c ∷ qs) rises a b (inl p) (inr j) same = absurd (apart c.number b.number (ap (λ (z : AskedOf). z.number) p ∙ same)
    (all_at (λ (z : AskedOf). c.number < z.number) b qs j rises.0))
  where
    apart : (m n : ℕ) → m ≡ n → m < n → ⊥
    apart m n is less = omega (arith, is, less)
one_number (c ∷ qs) rises a b (inr i) (inl q) same = absurd (apart c.number a.number (ap (λ (z : AskedOf). z.number) q ∙ sym same)
    (all_at (λ (z : AskedOf). c.number < z.number) a qs i rises.0))
  where
    apart : (m n : ℕ) → m ≡ n → m < n → ⊥
    apart m n is less = omega (arith, is, less)
one_number (c ∷ qs) rises a b (inr i) (inr j) same = one_number qs rises.1 a b i j same

below_last : (front : List AskedOf) (e : AskedOf) → AreRising (front ++ e ∷ []) → (q : AskedOf) → In q front → q.number < e.number
below_last [] e rises q i = absurd i
below_last (a ∷ front) e rises q (inl same) = subst (λ (z : AskedOf). z.number < e.number) same
    (all_at (λ (z : AskedOf). a.number < z.number) e (front ++ e ∷ []) (in_end front) rises.0)
  where
    in_end : (xs : List AskedOf) → In e (xs ++ e ∷ [])
    in_end [] = inl refl
    in_end (x ∷ xs) = inr (in_end xs)
below_last (a ∷ front) e rises q (inr i) = below_last front e rises.1 q i

-- one more, of a higher number
pub rising_more : (qs : List AskedOf) (q : AskedOf) → AreRising qs → AllByRecursion (λ (b : AskedOf). b.number < q.number) qs →
    AreRising (qs ++ q ∷ [])
rising_more [] q rises low = (tt, tt)
rising_more (a ∷ qs) q rises low = (more qs rises.0, rising_more qs q rises.1 low.1)
  where
    more : (bs : List AskedOf) → AllByRecursion (λ (b : AskedOf). a.number < b.number) bs →
        AllByRecursion (λ (b : AskedOf). a.number < b.number) (bs ++ q ∷ [])
    more [] all = (low.0, tt)
    more (b ∷ bs) all = (all.0, more bs all.1)

-- ---- what was asked last

last_end : (front : List AskedOf) (e : AskedOf) → last_asked (front ++ e ∷ []) ≡ Some e
last_end [] e = refl
last_end (a ∷ []) e = refl
last_end (a ∷ b ∷ front) e = last_end (b ∷ front) e

last_in : (qs : List AskedOf) (q : AskedOf) → last_asked qs ≡ Some q → In q qs
last_in [] q is = let no_way : ◌≡◌ {A = Option AskedOf} None (Some q) = is in absurd (cc no_way)
last_in (a ∷ []) q is = inl (let e : ◌≡◌ {A = Option AskedOf} (Some a) (Some q) = is in cc)
last_in (a ∷ b ∷ qs) q is = inr (last_in (b ∷ qs) q is)

some_is : {a b : AskedOf} → Some a ≡ Some b → a ≡ b
some_is {a} {b} is = let k : ◌≡◌ {A = Option AskedOf} (Some a) (Some b) = is in cc

-- ---- what coordinators were asked

pub from_accepted : (q : AskedOf) (A : List Asking) → In q (accepted_of A) → (k : Asking) × In k A × (k.asked ≡ q)
from_accepted q [] i = absurd i
from_accepted q (k ∷ A) i = by (from_accepted q A) (parts (accepted_of A) i)
  where
    parts : (xs : List AskedOf) → In q (xs ++ k.asked ∷ []) → In q xs ⊎ (k.asked ≡ q)
    parts [] (inl is) = inr is
    parts [] (inr j) = absurd j
    parts (x ∷ xs) (inl is) = inl (inl is)
    parts (x ∷ xs) (inr j) = up (parts xs j)
      where
        up : In q xs ⊎ (k.asked ≡ q) → In q (x ∷ xs) ⊎ (k.asked ≡ q)
        up (inl l) = inl (inr l)
        up (inr is) = inr is

    by : (In q (accepted_of A) → (z : Asking) × In z A × (z.asked ≡ q)) → In q (accepted_of A) ⊎ (k.asked ≡ q) →
        (z : Asking) × In z (k ∷ A) × (z.asked ≡ q)
    by ih (inl j) = let r = ih j in (r.0, inr r.1, r.2)
    by ih (inr is) = (k, inl refl, is)

-- its path is of actions of the journal
pub asked_acts : (lines : List Line) (k : Asking) → IsPathAt lines k → (z : Act) → In z (let a = k.asked in a.path) → In z (acts lines)
asked_acts lines k f z i = subst (In z) (sym (ap acts f.are ∙ acts_more [] f.first f.more)) (in_later f.more (acts f.first) z
    (on_path (acts f.first) (label_of (let a = k.asked in a.event)) z (subst (In z) f.path i)))

-- ---- another call

module _ (A : List Asking) (accepted : List AskedOf) (same : AreSameAsks accepted (accepted_of A)) (rises : AreRising accepted) (c : Coord)
    (root : Uid) (own : is_own root c.tree ≡ true) (x : ℕ) (F : IsFromCall A (accepted_of A) c root x) (l : List ℕ) (q : AskedOf)
    (last : last_asked (asks_by (accepted_of A) l) ≡ Some q) (apart : IsOther A F.asked l) where
  is_ask : (e : AskedOf) → is_call e.event ≡ true → asks_some e ≡ true
  is_ask e call = by e.event call
    where
      by : (v : Event) → is_call v ≡ true → is_asking v ≡ true
      by (event.Call m y o) call = refl
      by v call = absurd (cc call)

  there : In F.asked accepted
  there = (in_filter asks_some F.asked accepted (subst (In F.asked) (sym same) (in_filter_too asks_some F.asked (accepted_of A) F.there
      (is_ask F.asked F.call)))).0

  asks : asks_by accepted l ≡ asks_by (accepted_of A) l
  asks = asks_same accepted (accepted_of A) same l

  its : In q (asks_by accepted l)
  its = subst (In q) (sym asks) (last_in (asks_by (accepted_of A) l) q last)

  other_number : ((let f = F.asked in f.number) == q.number) ≡ false
  other_number = by apart
    where
      lower : (m n : ℕ) → m < n → (m == n) ≡ false
      lower m n less = grind (arith, nat_tests, less)

      of : (b : Bool) → ((let f = F.asked in f.number) == q.number) ≡ b → is_ask_by l (let f = F.asked in f.event) ≡ false → b ≡ false
      of false e off = refl
      of true e off =
          let i = in_filter (λ (z : AskedOf). is_ask_by l z.event) q accepted its in
          let one : F.asked ≡ q = one_number accepted rises F.asked q there i.0 (eqb-true (let f = F.asked in f.number) q.number e) in
          let no_way : false ≡ true = sym off ∙ ap (λ (z : AskedOf). is_ask_by l z.event) one ∙ i.1 in absurd (cc no_way)

      by : IsOther A F.asked l → ((let f = F.asked in f.number) == q.number) ≡ false
      by (inl off) = of ((let f = F.asked in f.number) == q.number) refl off
      by (inr b) =
          let e_is : b.1 ≡ q = some_is (sym (last_end b.0 b.1) ∙ ap last_asked (sym b.2) ∙ last) in
          lower (let f = F.asked in f.number) q.number (subst (λ (z : AskedOf). (let f = F.asked in f.number) < z.number) e_is
          (below_last b.0 b.1 (subst AreRising (asks ∙ b.2) (rising_filter (λ (z : AskedOf). is_ask_by l z.event) accepted rises)) F.asked b.3))

  module _ (xs : List Act) (distinct : AreDistinct xs) (of_journal : (z : Act) → In z (let f = F.asked in f.path) → In z xs)
      (its_acts : (z : Act) → In z q.path → In z xs) (its_root : first_uid (uids q.path) ≡ root) (long : 1 ≤ length (uids q.path)) where
    roots : is_root (root_in (let f = F.asked in f.path)) (root_in q.path) ≡ true
    roots = one_root xs distinct (let f = F.asked in f.path) q.path of_journal its_acts F.some long
        (own_is root (first_uid (uids (let f = F.asked in f.path))) c own F.own F.root ∙ sym its_root)

    pub other_call : list_any (is_other_call q x) accepted ≡ true
    other_call = any_in (is_other_call q x) F.asked accepted there (λ i. not (other_number i) && (F.call i && ((ap (holds_in (λ y. y == x))
        F.object ∙ eq-eqb x x refl) i && roots i)))
