-- A commit's plan goes on with what it uses, and at first has each call that a top was answered.
use Rattle.arj_law_parts.proofs.Words
use Words.{◌≡◌, ◌⊎◌, ◌≤◌, ◌==◌, ◌||◌, ◌+◌, ℕ, List, [], ◌∷◌, ◌++◌, Bool, true, false, cond, Some, refl, sym, ◌∙◌, ap, inl, inr, ⊎_elim}
use Words.{nat_lt, arith, map, filter, find, ⊤, not, unwrap_or, list_any, match_ordering, nat_cmp, Ordering, Less, Equal, Greater, eqb-true}
use Words.{uid_same, ObjectState, Uid, Path, is_on, uid_eq, Reply, actor, Known, Aborts, Asks, CommitStep, Confirming, Decides, Machine}
use Words.{Plan, Preparing, Stays, Used, Voting, begin_confirm, begin_prepare, begin_vote, marks_store, marks_stores, plan_of, stores_left}
use Words.{targets_of, votes_left, with_state, with_states, Coord, Joined, Root, Said, counts, is_called, joined_in, kept_of, known_for}
use Words.{nothing_known, objects_in, plan_for, said_in, survives, used_of, is_retained, number_set, with_number, without_number, Tree}
use Words.{behind, is_committed, is_merged}
use Words.list
use Words.voted
use Words.prepared
use Words.confirmed
use Words.commit
use Rattle.arj_law_runs.proofs.Terms.{IsUsed}
use Rattle.arj_law_runs.proofs.calls.ServerCalls.{never}

-- ---- a plan goes on

-- a plan that uses and has changed the same by the same path, and whose request isn't of a lower number
abbrev pub IsLater : Plan → Plan → Type 0
IsLater p q = (q.used ≡ p.used) × (p.req ≤ q.req) × (q.changed ≡ p.changed) × (q.path ≡ p.path)

abbrev pub IsNextOf : Plan → CommitStep → Type 0
IsNextOf p (Stays m) = IsLater p (plan_of m)
IsNextOf p (Asks m) = IsLater p (plan_of m)
IsNextOf p (Decides q) = ⊤
IsNextOf p (Aborts why q) = ⊤

further_is : (p q : Plan) (n : ℕ) → n ≡ q.req + 1 → IsLater p q → p.req ≤ n
further_is p q n is later = omega (arith, is, later.1)

confirm_next : (us : List Used) (p q : Plan) → IsLater p q → IsNextOf p (begin_confirm us q)
confirm_next [] p q later = tt
confirm_next (u ∷ us) p q later = (later.0, further_is p q (q.req + 1) refl later, later.2, later.3)

prepare_next : (ns : List ℕ) (p q : Plan) → IsLater p q → IsNextOf p (begin_prepare ns q)
prepare_next [] p q later = confirm_next q.used p q later
prepare_next (n ∷ ns) p q later = (later.0, further_is p q (q.req + 1) refl later, later.2, later.3)

pub vote_next : (ns : List ℕ) (p q : Plan) → IsLater p q → IsNextOf p (begin_vote ns q)
vote_next [] p q later = prepare_next (targets_of q) p q later
vote_next (n ∷ ns) p q later = (later.0, further_is p q (q.req + 1) refl later, later.2, later.3)

stores_next : (ns : List ℕ) (p q : Plan) → IsLater p q → IsNextOf p (stores_left ns q).step
stores_next [] p q later = confirm_next q.used p q later
stores_next (n ∷ ns) p q later = later

votes_next : (ns : List ℕ) (p q : Plan) → IsLater p q → IsNextOf p (votes_left ns q)
votes_next [] p q later = prepare_next (targets_of q) p q later
votes_next (n ∷ ns) p q later = later

marks_later : (ns : List ℕ) (p q : Plan) → IsLater p q → IsLater p (marks_stores ns q)
marks_later [] p q later = later
marks_later (n ∷ ns) p q later = marks_later ns p (marks_store n q) later

itself : (p : Plan) → IsLater p p
itself p = (refl, omega arith, refl, refl)

-- the plan with what a vote brings
abbrev pub changed_by : Plan → Reply → List ObjectState
changed_by p (Reply.Voted (voted.Yes states)) = with_states states p.changed
changed_by p _ = p.changed

abbrev pub heard_plan : Machine → Reply → Plan
heard_plan (Voting p left) r = record p { changed = changed_by p r }
heard_plan (Preparing p left) r = p
heard_plan (Confirming p) r = p

pub heard_same : (m : Machine) (r : Reply) →
    ((heard_plan m r).used ≡ (plan_of m).used) × ((plan_of m).req ≤ (heard_plan m r).req) × ((heard_plan m r).path ≡ (plan_of m).path)
heard_same (Voting p left) r = (refl, omega arith, refl)
heard_same (Preparing p left) r = (refl, omega arith, refl)
heard_same (Confirming p) r = (refl, omega arith, refl)

with_one : (s w : ObjectState) (all : List ObjectState) → list.In s (with_state w all) → (w ≡ s) ⊎ list.In s all
with_one s w [] i = i
with_one s w (t ∷ ts) i = by (nat_lt t.uid.num w.uid.num) i (with_one s w ts)
  where
    by : (b : Bool) → list.In s (cond b (t ∷ with_state w ts) (w ∷ t ∷ ts)) → (list.In s (with_state w ts) → (w ≡ s) ⊎ list.In s ts) →
        (w ≡ s) ⊎ list.In s (t ∷ ts)
    by true (inl same) ih = inr (inl same)
    by true (inr more) ih = ⊎_elim (λ same. inl same) (λ old. inr (inr old)) (ih more)
    by false i ih = i

with_all : (s : ObjectState) (new all : List ObjectState) → list.In s (with_states new all) → list.In s new ⊎ list.In s all
with_all s [] all i = inr i
with_all s (w ∷ ws) all i = ⊎_elim (λ more. inl (inr more))
    (λ rest. ⊎_elim (λ same. inl (inl same)) (λ old. inr old) (with_one s w all rest)) (with_all s ws (with_state w all) i)

-- what the plan has as changed it had before, or it is voted
pub changed_from : (m : Machine) (r : Reply) (s : ObjectState) → list.In s (heard_plan m r).changed →
    list.In s (plan_of m).changed ⊎ ((states : List ObjectState) × (r ≡ Reply.Voted (voted.Yes states)) × list.In s states)
changed_from (Voting p left) (Reply.Voted (voted.Yes states)) s i =
    ⊎_elim (λ new. inr (states, refl, new)) (λ old. inl old) (with_all s states p.changed i)
changed_from (Voting p left) (Reply.Voted (voted.Changed w)) s i = inl i
changed_from (Voting p left) (Reply.Bound r) s i = inl i
changed_from (Voting p left) (Reply.Loaded r) s i = inl i
changed_from (Voting p left) (Reply.Activated r) s i = inl i
changed_from (Voting p left) (Reply.Noted r) s i = inl i
changed_from (Voting p left) (Reply.Invoked r) s i = inl i
changed_from (Voting p left) (Reply.Prepared r) s i = inl i
changed_from (Voting p left) (Reply.Confirmed r) s i = inl i
changed_from (Preparing p left) r s i = inl i
changed_from (Confirming p) r s i = inl i

pub answer_next : (from : ℕ) (m : Machine) (r : Reply) → IsNextOf (heard_plan m r) (commit.answered from m r).step
answer_next from (Voting p left) (Reply.Voted (voted.Yes states)) = let q : Plan = record p { changed = with_states states p.changed } in
    votes_next (without_number from left) q q (itself q)
answer_next from (Voting p left) (Reply.Voted (voted.Changed w)) = tt
answer_next from (Voting p left) (Reply.Bound r) = itself p
answer_next from (Voting p left) (Reply.Loaded r) = itself p
answer_next from (Voting p left) (Reply.Activated r) = itself p
answer_next from (Voting p left) (Reply.Noted r) = itself p
answer_next from (Voting p left) (Reply.Invoked r) = itself p
answer_next from (Voting p left) (Reply.Prepared r) = itself p
answer_next from (Voting p left) (Reply.Confirmed r) = itself p
answer_next from (Preparing p left) (Reply.Prepared prepared.Yes) =
    stores_next (without_number from left) p (record p { prepared = with_number from p.prepared }) (itself p)
answer_next from (Preparing p left) (Reply.Prepared (prepared.InDoubt x h)) =
    stores_next (without_number from left) p (marks_store from p) (itself p)
answer_next from (Preparing p left) (Reply.Prepared (prepared.Old x v)) = tt
answer_next from (Preparing p left) (Reply.Bound r) = itself p
answer_next from (Preparing p left) (Reply.Loaded r) = itself p
answer_next from (Preparing p left) (Reply.Activated r) = itself p
answer_next from (Preparing p left) (Reply.Noted r) = itself p
answer_next from (Preparing p left) (Reply.Invoked r) = itself p
answer_next from (Preparing p left) (Reply.Voted r) = itself p
answer_next from (Preparing p left) (Reply.Confirmed r) = itself p
answer_next from (Confirming p) (Reply.Confirmed confirmed.Yes) = tt
answer_next from (Confirming p) (Reply.Confirmed (confirmed.Conflict h m)) = tt
answer_next from (Confirming p) (Reply.Confirmed (confirmed.Changed w)) = tt
answer_next from (Confirming p) (Reply.Confirmed (confirmed.NoStores x)) = tt
answer_next from (Confirming p) (Reply.Confirmed (confirmed.Listed x s)) = tt
answer_next from (Confirming p) (Reply.Bound r) = itself p
answer_next from (Confirming p) (Reply.Loaded r) = itself p
answer_next from (Confirming p) (Reply.Activated r) = itself p
answer_next from (Confirming p) (Reply.Noted r) = itself p
answer_next from (Confirming p) (Reply.Invoked r) = itself p
answer_next from (Confirming p) (Reply.Voted r) = itself p
answer_next from (Confirming p) (Reply.Prepared r) = itself p

pub giveup_next : (m : Machine) → IsNextOf (plan_of m) (commit.given_up m).step
giveup_next (Voting p left) = tt
giveup_next (Preparing p left) = stores_next [] p (marks_stores left p) (marks_later left p p (itself p))
giveup_next (Confirming p) = tt

-- ---- what a plan has at first

in_with : (n x : ℕ) (ns : List ℕ) → (n ≡ x) ⊎ list.In x ns → list.In x (with_number n ns)
in_with n x [] (inl same) = inl same
in_with n x [] (inr i) = absurd i
in_with n x (m ∷ ms) i = by (nat_cmp n m) refl i (λ j. in_with n x ms j)
  where
    same_is : nat_cmp n m ≡ Equal → n ≡ m
    same_is e = grind (arith, e)

    by : (r : Ordering) → nat_cmp n m ≡ r → (n ≡ x) ⊎ list.In x (m ∷ ms) → ((n ≡ x) ⊎ list.In x ms → list.In x (with_number n ms)) →
        list.In x (match_ordering r (n ∷ m ∷ ms) (m ∷ ms) (m ∷ with_number n ms))
    by Less e (inl same) ih = inl same
    by Less e (inr j) ih = inr j
    by Equal e (inl same) ih = inl (sym (same_is e) ∙ same)
    by Equal e (inr j) ih = j
    by Greater e (inl same) ih = inr (ih (inl same))
    by Greater e (inr (inl same)) ih = inl same
    by Greater e (inr (inr j)) ih = inr (ih (inr j))

in_set : (x : ℕ) (ns : List ℕ) → list.In x ns → list.In x (number_set ns)
in_set x [] i = absurd i
in_set x (n ∷ ns) (inl same) = in_with n x (number_set ns) (inl same)
in_set x (n ∷ ns) (inr i) = in_with n x (number_set ns) (inr (in_set x ns i))

in_more : (x : ℕ) (ns ms : List ℕ) → list.In x ns → list.In x (ns ++ ms)
in_more x [] ms i = absurd i
in_more x (n ∷ ns) ms (inl same) = inl same
in_more x (n ∷ ns) ms (inr i) = inr (in_more x ns ms i)

in_map : {A B : Type 0} (f : A → B) (a : A) (items : List A) → list.In a items → list.In (f a) (map f items)
in_map f a [] i = absurd i
in_map f a (x ∷ xs) (inl same) = inl (ap f same)
in_map f a (x ∷ xs) (inr i) = inr (in_map f a xs i)

pub in_kept : {A : Type 0} (p : A → Bool) (a : A) (items : List A) → list.In a items → p a ≡ true → list.In a (filter p items)
in_kept p a [] i on = absurd i
in_kept {A} p a (x ∷ xs) i on = by (p x) refl i (λ j. in_kept p a xs j on)
  where
    by : (b : Bool) → p x ≡ b → list.In a (x ∷ xs) → (list.In a xs → list.In a (filter p xs)) →
        list.In a (cond b (x ∷ filter p xs) (filter p xs))
    by true e (inl same) ih = inl same
    by true e (inr j) ih = inr (ih j)
    by false e (inl same) ih = absurd (never on (ap p (sym same) ∙ e))
    by false e (inr j) ih = ih j

pub any_in : {A : Type 0} (p : A → Bool) (a : A) (items : List A) → list.In a items → p a ≡ true → list_any p items ≡ true
any_in p a [] i on = absurd i
any_in p a (x ∷ xs) (inl same) on = λ j. (ap p same ∙ on) j || list_any p xs
any_in p a (x ∷ xs) (inr i) on = by (p x) (any_in p a xs i on)
  where
    by : (b : Bool) → list_any p xs ≡ true → (b || list_any p xs) ≡ true
    by true h = refl
    by false h = h

same_number : (n : ℕ) → (n == n) ≡ true
same_number n = grind arith

-- the object is found among what is used of each
found : (f : ℕ → Used) → ((y : ℕ) → (f y).x ≡ y) → (x : ℕ) (xs : List ℕ) → list.In x xs →
    find (λ (u : Used). u.x == x) (map f xs) ≡ Some (f x)
found f of x [] i = absurd i
found f of x (y ∷ ys) i = by ((f y).x == x) refl i (found f of x ys)
  where
    by : (b : Bool) → ((f y).x == x) ≡ b → list.In x (y ∷ ys) → (list.In x ys → find (λ (u : Used). u.x == x) (map f ys) ≡ Some (f x)) →
        cond b (Some (f y)) (find (λ (u : Used). u.x == x) (map f ys)) ≡ Some (f x)
    by true e j ih = ap (λ z. Some (f z)) (sym (of y) ∙ eqb-true (f y).x x e)
    by false e (inl same) ih = absurd (never (ap (λ z. z == x) (of y ∙ same) ∙ same_number x) e)
    by false e (inr j) ih = ih j

-- a call that a top was answered and that survives in it is used at the server of what is kept
pub is_used : (p : Path) (req : ℕ) (r : Root) (c : Coord) (s : Said) (k : Known) → list.In s r.said → kept_of s.x r ≡ Some k →
    survives (actor p) s.path c ≡ true → IsUsed (let q = plan_for p req r c in q.used) s.x k.server
is_used p req r c s k i kept on = (
  used_of top r c s.x,
  found (used_of top r c) (λ y. refl) s.x (objects_in top r c) object,
  ap (λ b. (known_for b s.x r).server) called ∙ ap (λ o. (unwrap_or o nothing_known).server) kept,
  called,
)
  where
    top : Uid
    top = actor p

    here : list.In s (said_in (actor p) r c)
    here = in_kept (λ (z : Said). counts (actor p) z.path c) s r.said i (ap (λ b. b || is_retained s.path c) on)

    object : list.In s.x (objects_in (actor p) r c)
    object = in_set s.x (map (λ (z : Said). z.x) (said_in (actor p) r c) ++ map (λ (j : Joined). j.x) (joined_in (actor p) r c))
        (in_more s.x (map (λ (z : Said). z.x) (said_in (actor p) r c)) (map (λ (j : Joined). j.x) (joined_in (actor p) r c))
        (in_map (λ (z : Said). z.x) s (said_in (actor p) r c) here))

    called : is_called s.x (actor p) r c ≡ true
    called = any_in (λ (z : Said). z.x == s.x) s (said_in (actor p) r c) here (same_number s.x)

-- a path on which some action behind this one hasn't committed
pub unmerged : (u : Uid) (path : List Uid) (t : Tree) → is_merged u path t ≡ false →
    (w : Uid) × (is_on (behind u path) w ≡ true) × (is_committed w t ≡ false)
unmerged u path t off = by (behind u path) (inverse (list_any (λ w. not (is_committed w t)) (behind u path)) off)
  where
    inverse : (b : Bool) → not b ≡ false → b ≡ true
    inverse true h = refl
    inverse false h = let no_way : true ≡ false = h in cc

    by : (us : List Uid) → list_any (λ w. not (is_committed w t)) us ≡ true → (w : Uid) × (is_on us w ≡ true) × (is_committed w t ≡ false)
    by [] on = let no_way : false ≡ true = on in cc
    by (v ∷ vs) on = one (is_committed v t) refl on (by vs)
      where
        one : (b : Bool) → is_committed v t ≡ b → (not b || list_any (λ w. not (is_committed w t)) vs) ≡ true →
            (list_any (λ w. not (is_committed w t)) vs ≡ true → (w : Uid) × (is_on vs w ≡ true) × (is_committed w t ≡ false)) →
            (w : Uid) × (is_on (v ∷ vs) w ≡ true) × (is_committed w t ≡ false)
        one false e h ih = (v, (λ i. uid_same v i || is_on vs v), e)
        one true e h ih = let f = ih h in (f.0, last (uid_eq v f.0) f.1, f.2)
          where
            last : (b : Bool) {d : Bool} → d ≡ true → (b || d) ≡ true
            last true h = refl
            last false h = h
