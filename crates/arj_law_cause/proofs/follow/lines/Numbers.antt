-- Actions of one node and incarnation are numbered in the order in which they began, in the journal as in a coordinator's tree.
use Rattle.arj_law_parts.proofs.Words
use Words.{◌≡◌, ◌∙◌, ◌≤◌, ◌+◌, ◌==◌, ◌&&◌, ◌||◌, not, ℕ, zero, suc, Bool, true, false, cond, List, [], ◌∷◌, ◌++◌, filter, length, map}
use Words.{refl, sym, ap, subst, arith, inl, inr, Option, Some, None, In, and_parts, eqb-true, bytes_eq, is_on, list_any, Uid, Kind, Line}
use Words.kind
use Rattle.arj_law_runs.proofs.Terms.{Act, path, path_in, uids, upwards, AreDistinct}
use Rattle.arj_law_runs.proofs.follow.Uids.{count_of}
use Rattle.arj_law_runs.proofs.journal.{Models.apart_acts, Ties.path_new, Ties.path_old}
use Rattle.arj_law_cause.proofs.follow.causes.Roots.{filter_same}
use Rattle.arj_model.specs.Actions.{is_over}
use Rattle.arj_model.specs.Own.{aborted_by}

-- each action has the next number of its node and incarnation
abbrev pub AreInTurn : List Act → Type 0
AreInTurn [] = Unit {0}
AreInTurn (a ∷ older) = ((let u = a.uid in u.num) ≡ count_of (let u = a.uid in u.node) (let u = a.uid in u.inc) older + 1) × AreInTurn older

-- the action is of this node and incarnation
abbrev pub is_at : ℕ → ℕ → Act → Bool
is_at k i a = ((let u = a.uid in u.node) == k) && ((let u = a.uid in u.inc) == i)

-- its number
abbrev pub number_of : Act → ℕ
number_of a = let u = a.uid in u.num

-- the numbers up to this one, the greatest first
abbrev pub down_from : ℕ → List ℕ
down_from zero = []
down_from (suc n) = suc n ∷ down_from n

-- so they stand in the journal, the newest first
pub in_turn : (k i : ℕ) (xs : List Act) → AreInTurn xs → map number_of (filter (is_at k i) xs) ≡ down_from (count_of k i xs)
in_turn k i [] turn = refl
in_turn k i (x ∷ xs) turn = by (is_at k i x) refl (in_turn k i xs turn.1)
  where
    next : (n m : ℕ) → n ≡ m + 1 → n ≡ suc m
    next n m is = omega (arith, is)

    own : is_at k i x ≡ true → number_of x ≡ suc (count_of k i xs)
    own is =
        let p = and_parts ((let u = x.uid in u.node) == k) ((let u = x.uid in u.inc) == i) is in
        next (number_of x) (count_of k i xs) (turn.0 ∙ (λ j. count_of (eqb-true (let u = x.uid in u.node) k p.0 j)
        (eqb-true (let u = x.uid in u.inc) i p.1 j) xs + 1))

    by : (b : Bool) → is_at k i x ≡ b → map number_of (filter (is_at k i) xs) ≡ down_from (length (filter (is_at k i) xs)) →
        map number_of (cond b (x ∷ filter (is_at k i) xs) (filter (is_at k i) xs))
        ≡ down_from (length (cond b (x ∷ filter (is_at k i) xs) (filter (is_at k i) xs)))
    by true is rest = λ j. own is j ∷ rest j
    by false is rest = rest

-- ---- paths

-- an action stands among these
pub in_path : (xs : List Act) (l : List ℕ) (b : Act) → In b (path xs l) → In b xs
in_path [] l b i = absurd i
in_path (x ∷ xs) l b i = by (λ m j. in_path xs m b j) (bytes_eq x.label l) i
  where
    up : ((m : List ℕ) → In b (path xs m) → In b xs) → (o : Option (List ℕ)) (k : Kind) → In b (upwards o k (path xs)) → In b xs
    up rest None k j = absurd j
    up rest (Some p) kind.Independent j = absurd j
    up rest (Some p) kind.Top j = rest p j
    up rest (Some p) kind.Serial j = rest p j
    up rest (Some p) kind.Nested j = rest p j
    up rest (Some p) kind.Constituent j = rest p j

    last : (us : List Act) → (In b us → In b xs) → In b (us ++ x ∷ []) → In b (x ∷ xs)
    last [] rest (inl same) = inl same
    last [] rest (inr none) = absurd none
    last (u ∷ us) rest (inl same) = inr (rest (inl same))
    last (u ∷ us) rest (inr j) = last us (λ h. rest (inr h)) j

    by : ((m : List ℕ) → In b (path xs m) → In b xs) → (z : Bool) → In b (cond z (path_in xs x) (path xs l)) → In b (x ∷ xs)
    by rest true j = last (upwards x.parent x.kind (path xs)) (up rest x.parent x.kind) j
    by rest false j = inr (rest l j)

-- by their numbers actions are on a path as by their Uids
pub on_same : (xs : List Act) → AreDistinct xs → (c : Act) → In c xs → (us : List Act) → ((b : Act) → In b us → In b xs) →
    list_any (λ (b : Act). b.id == c.id) us ≡ is_on (uids us) c.uid
on_same xs distinct c i [] all = refl
on_same xs distinct c i (u ∷ us) all =
    λ j. apart_acts xs distinct u c (all u (inl refl)) i j || on_same xs distinct c i us (λ b h. all b (inr h)) j

-- an abort ends these actions of the journal, the newest first
abbrev pub ends_below : List Line → List Act → Uid → Act → Bool
ends_below lines xs u a = not (is_over lines a) && is_on (uids (path xs a.label)) u

pub aborted_so : (lines : List Line) (all : List Act) (distinct : AreDistinct all) (c : Act) → In c all → (xs : List Act) → AreDistinct xs →
    ((b : Act) → In b xs → In b all) → aborted_by lines c.id xs ≡ filter (ends_below lines xs c.uid) xs
aborted_so lines all distinct c i [] apart inside = refl
aborted_so lines all distinct c i (x ∷ xs) apart inside =
    by (not (is_over lines x) && list_any (λ (b : Act). b.id == c.id) (path_in xs x))
    (not (is_over lines x) && is_on (uids (path (x ∷ xs) x.label)) c.uid) head
    (aborted_so lines all distinct c i xs apart.3 (λ b j. inside b (inr j)) ∙ filter_same (ends_below lines xs c.uid)
    (ends_below lines (x ∷ xs) c.uid) xs (λ b j. ap (λ us. not (is_over lines b) && is_on (uids us) c.uid) (sym
    (path_old x xs b apart.1 j))))
  where
    head : (not (is_over lines x) && list_any (λ (b : Act). b.id == c.id) (path_in xs x))
        ≡ (not (is_over lines x) && is_on (uids (path (x ∷ xs) x.label)) c.uid)
    head = λ h. not (is_over lines x) && (on_same all distinct c i (path_in xs x) inside_path
        ∙ ap (λ us. is_on (uids us) c.uid) (sym (path_new x xs))) h
      where
        inside_path : (b : Act) → In b (path_in xs x) → In b all
        inside_path b j = inside b (in_path (x ∷ xs) x.label b (subst (In b) (sym (path_new x xs)) j))

    by : (z y : Bool) → z ≡ y → aborted_by lines c.id xs ≡ filter (ends_below lines (x ∷ xs) c.uid) xs →
        cond z (x ∷ aborted_by lines c.id xs) (aborted_by lines c.id xs)
        ≡ cond y (x ∷ filter (ends_below lines (x ∷ xs) c.uid) xs) (filter (ends_below lines (x ∷ xs) c.uid) xs)
    by true true e rest = ap (λ (ys : List Act). x ∷ ys) rest
    by false false e rest = rest
    by true false e rest = absurd (cc e)
    by false true e rest = absurd (cc e)

-- ---- who is on a path began before

pub began_before : (xs : List Act) → AreDistinct xs → AreInTurn xs → (k i : ℕ) (a b : Act) → In a xs → is_at k i a ≡ true →
    is_at k i b ≡ true → In b (path xs a.label) → number_of b ≤ number_of a
began_before [] distinct turn k i a b j own also on = absurd j
began_before (x ∷ xs) distinct turn k i a b (inl same) own also on = by_in (in_path_of (subst (λ (y : Act). In b (path (x ∷ xs) y.label))
    (sym same) on))
  where
    in_path_of : In b (path (x ∷ xs) x.label) → In b (x ∷ xs)
    in_path_of h = in_path (x ∷ xs) x.label b h

    at_k : (let u = x.uid in u.node) ≡ k
    at_k = let p = and_parts ((let u = a.uid in u.node) == k) ((let u = a.uid in u.inc) == i) own in
        ap (λ (y : Act). let u = y.uid in u.node) same ∙ eqb-true (let u = a.uid in u.node) k p.0

    at_i : (let u = x.uid in u.inc) ≡ i
    at_i = let p = and_parts ((let u = a.uid in u.node) == k) ((let u = a.uid in u.inc) == i) own in
        ap (λ (y : Act). let u = y.uid in u.inc) same ∙ eqb-true (let u = a.uid in u.inc) i p.1

    numbers : number_of a ≡ count_of k i xs + 1
    numbers = ap number_of (sym same) ∙ turn.0 ∙ (λ j. count_of (at_k j) (at_i j) xs + 1)

    low : (ys : List Act) → AreInTurn ys → In b ys → number_of b ≤ count_of k i ys
    low ys its h = few (number_of b) ys its h
      where
        few : (n : ℕ) (zs : List Act) → AreInTurn zs → In b zs → number_of b ≤ count_of k i zs
        few n [] its h = absurd h
        few n (z ∷ zs) its (inl e) =
            let p = and_parts ((let u = b.uid in u.node) == k) ((let u = b.uid in u.inc) == i) also in
            let node : (let u = z.uid in u.node) ≡ k = ap (λ (y : Act). let u = y.uid in u.node) e ∙ eqb-true
            (let u = b.uid in u.node) k p.0 in
            let inc : (let u = z.uid in u.inc) ≡ i = ap (λ (y : Act). let u = y.uid in u.inc) e ∙ eqb-true (let u = b.uid in u.inc) i p.1 in
            let is : is_at k i z ≡ true = ap (is_at k i) e ∙ also in
            let num : number_of b ≡ count_of k i zs + 1 = ap number_of (sym e) ∙ its.0 ∙ (λ j. count_of (node j) (inc j) zs + 1) in
            subst (λ m. number_of b ≤ m) (sym (λ j. length (cond (is j) (z ∷ filter (is_at k i) zs) (filter (is_at k i) zs))))
            (one (number_of b) (count_of k i zs) num)
          where
            one : (m n : ℕ) → m ≡ n + 1 → m ≤ suc n
            one m n e = omega (arith, e)
        few n (z ∷ zs) its (inr h) = more (is_at k i z) (few n zs its.1 h)
          where
            more : (q : Bool) → number_of b ≤ length (filter (is_at k i) zs) →
                number_of b ≤ length (cond q (z ∷ filter (is_at k i) zs) (filter (is_at k i) zs))
            more true le = omega (arith, le)
            more false le = le

    by_in : In b (x ∷ xs) → number_of b ≤ number_of a
    by_in (inl e) = equal (number_of b) (number_of a) (ap number_of (sym e) ∙ ap number_of same)
      where
        equal : (m n : ℕ) → m ≡ n → m ≤ n
        equal m n e = omega (arith, e)
    by_in (inr h) = less (number_of b) (count_of k i xs) (number_of a) (low xs turn.1 h) numbers
      where
        less : (m n q : ℕ) → m ≤ n → q ≡ n + 1 → m ≤ q
        less m n q le e = omega (arith, le, e)
began_before (x ∷ xs) distinct turn k i a b (inr j) own also on =
    began_before xs distinct.3 turn.1 k i a b j own also (subst (In b) (path_old x xs a distinct.1 j) on)
