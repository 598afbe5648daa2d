-- The objects that a coordinator asks about are of its roots.
use Rattle.arj_law_parts.proofs.Words
use Words.{◌≡◌, ◌+◌, ◌==◌, arith, ℕ, List, [], ◌∷◌, ◌++◌, length, Bool, true, false, cond, nat_le, ◌||◌, map, filter, Option, Some, None}
use Words.{refl, sym, ◌∙◌, ap, subst, ⊎_elim, unwrap_or, AllByRecursion, list_any, is_eq, match_ordering, nat_cmp, Ordering, Less, Equal}
use Words.{Greater, uid_cases, Uid, Binding, End, Kind, Path, Label, Ask, Asked, Head, asks, request, uids_of, Reply, actor, top_of}
use Words.{begin_action, root_heard, root_moved, notes_grant, granted_by, last_req, heard, root_lost, again_all, is_invoke_ask, store_of}
use Words.{Steps, At, AtBind, AtLoad, AtActivate, AtNote, AtInvoke, CallStep, CallEnd, Answered, Included, Conflict, Changed, Lost, Goal}
use Words.{given_up, next_ask, ask_at, Used, Plan, Machine, Voting, Preparing, Confirming, plan_of, participants, ask_of, is_at_server}
use Words.{Coord, new_coord, Doing, Now, Idle, Calling, Committing, Root, Went, Said, Joined, Grant, doing_of, set_doing, change_doing}
use Words.{on_doing, on_root, root_at, no_root, joined_with, later_state, same_join, objects_in, plan_for, used_of, with_keeping, with_went}
use Words.{with_said, same_went, same_said, counts, Effect, Say, Send, Do, Intent, ended, root_after, acked, at_number, has, number_set}
use Words.{put_number, with_number, Input, acts, parent_of, Tree, Branch, Family, begun_by, branch_of, is_own, at_place, doomed_branch}
use Words.{ended_branch, ends_of, family_of, next_uid, no_family, path_below, root_of, set_place, uses_object, doomed_at, ended_at}
use Words.{with_family, put_same, put_other, one_or_two}
use Words.ask
use Words.ending
use Rattle.arj_law_parts.proofs.coordinator
use coordinator.Trace.{Came, turned, kept_at_start, used_at, rested, noted, took_part, CallTurn, Answers, GivesUp, Calls, StartsCall}
use coordinator.Trace.{StartsInclude, GoesOn, CallsAgain, PlanFrom, NewPlan, OldPlan, PlanMove, Marks, Plans, plan_keeps, Commits}
use coordinator.Trace.{CommitsOn, CommitsAgain, OfCall, OfCommit, Move, Begins, Uses, Renews, Waits, Turns, Rests, Notes, Dooms, CommitsIn}
use coordinator.Trace.{EndsAt, TakesPart, KeepsAfter, SentTo, Out, AsksIt, Trace, trace_tells}
use coordinator.Walks.{acts_trace, heard_trace, acked_trace, again_trace}
use coordinator.Works.{works_begun, works_new, KeepsTree, tree_move, tree_same}
use Rattle.arj_law_parts.proofs.parts
use parts.GoodCoords.{doomed_same, uses_same}
use parts.Settled.{doing_other, doing_put, end_tree_on}
use Rattle.arj_law_parts.specs.parts.AskedObjects.{AreOfRoots, IsAskOf, IsAskedOf, IsNowOf, IsOfRoots, IsRootOf, IsUsedIn, KnowsObjects}

-- ---- the objects of a root

has_put : (n x : ℕ) (ns : List ℕ) → has ns x ≡ true → has (with_number n ns) x ≡ true
has_put n x [] is = let no_way : false ≡ true = is in cc
has_put n x (m ∷ ms) is = by (nat_cmp n m) (m == x) is (has_put n x ms)
  where
    either_one : (a : Bool) → a ≡ true → (b : Bool) → (b || a) ≡ true
    either_one a h true = refl
    either_one a h false = h

    by : (r : Ordering) (b : Bool) → (b || has ms x) ≡ true → (has ms x ≡ true → has (with_number n ms) x ≡ true) →
        has (match_ordering r (n ∷ m ∷ ms) (m ∷ ms) (m ∷ with_number n ms)) x ≡ true
    by Less b h ih = either_one (has (m ∷ ms) x) is (n == x)
    by Equal b h ih = is
    by Greater true h ih = first (m == x) is
      where
        first : (c : Bool) → (c || has ms x) ≡ true → (c || has (with_number n ms) x) ≡ true
        first true k = refl
        first false k = ih k
    by Greater false h ih = either_one (has (with_number n ms) x) (ih h) (m == x)

put_has : (n : ℕ) (ns : List ℕ) → has (with_number n ns) n ≡ true
put_has n [] = λ i. same n i || false
  where
    same : (k : ℕ) → (k == k) ≡ true
    same k = grind arith
put_has n (m ∷ ms) = by (nat_cmp n m) refl (put_has n ms)
  where
    same : (k : ℕ) → (k == k) ≡ true
    same k = grind arith

    equal : nat_cmp n m ≡ Equal → (m == n) ≡ true
    equal is = grind (arith, is)

    either_one : (a : Bool) → a ≡ true → (b : Bool) → (b || a) ≡ true
    either_one a h true = refl
    either_one a h false = h

    by : (r : Ordering) → nat_cmp n m ≡ r → has (with_number n ms) n ≡ true →
        has (match_ordering r (n ∷ m ∷ ms) (m ∷ ms) (m ∷ with_number n ms)) n ≡ true
    by Less is ih = λ i. same n i || has (m ∷ ms) n
    by Equal is ih = λ i. equal is i || has ms n
    by Greater is ih = either_one (has (with_number n ms) n) ih (m == n)

-- each object that a root uses in the first tree it uses in the second
abbrev Grows : Tree → Tree → Type 0
Grows t v = (k x : ℕ) → IsUsedIn t k x → IsUsedIn v k x

-- a family put at a root, with the objects that it had, or more
grows_family : (root : Uid) (f : Family) (t : Tree) → ((x : ℕ) → has (family_of root t).objects x ≡ true → has f.objects x ≡ true) →
    Grows t (with_family root f t)
grows_family root f t more k x is = ⊎_elim (λ same. subst (λ o. has (let g = unwrap_or o no_family in g.objects) x ≡ true)
    (sym (ap (λ j. at_number j (put_number root.num f t.families)) (sym same) ∙ put_same root.num f t.families))
    (more x (subst (λ j. IsUsedIn t j x) (sym same) is))) (λ apart. subst (λ o. has (let g = unwrap_or o no_family in g.objects) x ≡ true)
    (sym (put_other root.num k f t.families apart.0)) is) (one_or_two root.num k)

grows_ended : (u : Uid) (e : End) (t : Tree) → Grows t (ended_at u e t)
grows_ended u e t = by (branch_of u t)
  where
    by : (o : Option Branch) → Grows t (ended_branch u e t o)
    by None k x is = is
    by (Some b) k x is = one (nat_le (length (uids_of b.path)) 1)
      where
        m : Tree
        m = record t { branches = set_place u.num (record b { ended = Some e }) t.branches }

        f : Family
        f = let g = family_of (root_of b.path) m in record g { ends = g.ends ++ (u, e) ∷ [] }

        one : (c : Bool) → IsUsedIn (cond c m (with_family (root_of b.path) f m)) k x
        one true = is
        one false = grows_family (root_of b.path) f m (λ y h. h) k x is

grows_doomed : (u : Uid) (t : Tree) → Grows t (doomed_at u t)
grows_doomed u t = by (branch_of u t)
  where
    by : (o : Option Branch) → Grows t (doomed_branch u t o)
    by None k x is = is
    by (Some b) k x is = is

grows_uses : (p : Path) (x : ℕ) (t : Tree) → Grows t (uses_object p x t)
grows_uses p x t = grows_family (root_of p) (let f = family_of (root_of p) t in
    record f { objects = with_number x f.objects }) t (λ y h. has_put x y (family_of (root_of p) t).objects h)

uses_it : (p : Path) (x : ℕ) (t : Tree) → IsUsedIn (uses_object p x t) (let r = root_of p in r.num) x
uses_it p x t = subst (λ o. has (let g = unwrap_or o no_family in g.objects) x ≡ true) (sym (put_same (let r = root_of p in r.num) (let f =
    family_of (root_of p) t in record f { objects = with_number x f.objects }) t.families)) (put_has x (family_of (root_of p) t).objects)

grows_begun : (k : Kind) (p : Path) (t : Tree) → Grows t (begun_by k p t)
grows_begun k p t = let m : Tree = record t { branches = t.branches ++ record { path = p; kind = k; ended = None; doomed = false } ∷ [] } in
    grows_family (root_of p) (let f = family_of (root_of p) m in record f { actions = f.actions + 1 }) m (λ y h. h)

grows_by : (t v : Tree) → t ≡ v → Grows t v
grows_by t v is k x u = subst (λ w. IsUsedIn w k x) is u

-- ---- what grows with a tree

all_on : {A : Type 0} (P Q : A → Type 0) (xs : List A) → ((a : A) → P a → Q a) → AllByRecursion P xs → AllByRecursion Q xs
all_on P Q [] f h = tt
all_on P Q (x ∷ xs) f h = (f x h.0, all_on P Q xs f h.1)

now_on : (t v : Tree) → Grows t v → (n : Now) → IsNowOf t n → IsNowOf v n
now_on t v g Idle is = tt
now_on t v g (Calling s) is = g (let r = root_of s.path in r.num) s.x is
now_on t v g (Committing m) is =
    all_on _ _ (let p = plan_of m in p.used) (λ u h. g (let p = plan_of m in let r = root_of p.path in r.num) u.x h) is

root_on : (t v : Tree) → Grows t v → (k : ℕ) (r : Root) → IsRootOf t k r → IsRootOf v k r
root_on t v g k r is = (
  all_on (λ (s : Said). IsUsedIn t k s.x) (λ (s : Said). IsUsedIn v k s.x) r.said (λ s h. g k s.x h) is.0,
  all_on (λ (j : Joined). IsUsedIn t k j.x) (λ (j : Joined). IsUsedIn v k j.x) r.joined (λ j h. g k j.x h) is.1,
)

ask_on : (t v : Tree) → Grows t v → (k : ℕ) (a : Ask) → IsAskOf t k a → IsAskOf v k a
ask_on t v g k (ask.Bind x i avoid) is = g k x is
ask_on t v g k (ask.Load x) is = g k x is
ask_on t v g k (ask.Activate b st) is = tt
ask_on t v g k (ask.Record x b i n) is = g k x is
ask_on t v g k (ask.Invoke x b i ends o) is = g k x is
ask_on t v g k (ask.Vote i ties ends) is =
    all_on (λ (e : ℕ × Binding). IsUsedIn t k e.0) (λ (e : ℕ × Binding). IsUsedIn v k e.0) ties (λ e h. g k e.0 h) is
ask_on t v g k (ask.Prepare states) is = tt
ask_on t v g k (ask.Confirm grants e i) is =
    all_on (λ (x : ℕ × ℕ). IsUsedIn t k x.0) (λ (x : ℕ × ℕ). IsUsedIn v k x.0) grants (λ x h. g k x.0 h) is

asked_on : (t v : Tree) → Grows t v → (o : Option (Head × Ask)) → IsAskedOf t o → IsAskedOf v o
asked_on t v g None is = tt
asked_on t v g (Some a) is = ask_on t v g (let h = a.0 in let r = root_of h.path in r.num) a.1 is

outs_on : (t v : Tree) → Grows t v → (outs : List Effect) → AreOfRoots t outs → AreOfRoots v outs
outs_on t v g [] all = tt
outs_on t v g (Say b ∷ es) all = (tt, outs_on t v g es all.1)
outs_on t v g (Do w ∷ es) all = (tt, outs_on t v g es all.1)
outs_on t v g (Send to m ∷ es) all = (asked_on t v g (asks m) all.0, outs_on t v g es all.1)

request_of : (t : Tree) (h : Head) (a : Ask) → IsAskOf t (let r = root_of h.path in r.num) a → IsAskedOf t (asks (request h a))
request_of t h (ask.Bind x i avoid) s = s
request_of t h (ask.Load x) s = s
request_of t h (ask.Activate b st) s = s
request_of t h (ask.Record x b i g) s = s
request_of t h (ask.Invoke x b i ends o) s = s
request_of t h (ask.Vote i ties ends) s = s
request_of t h (ask.Prepare states) s = s
request_of t h (ask.Confirm g e i) s = s

-- ---- from one coordinator to the next

roots_on : (t v : Tree) → Grows t v → (rs : List (ℕ × Root)) → AllByRecursion (λ (e : ℕ × Root). IsRootOf t e.0 e.1) rs →
    AllByRecursion (λ (e : ℕ × Root). IsRootOf v e.0 e.1) rs
roots_on t v g rs all =
    all_on (λ (e : ℕ × Root). IsRootOf t e.0 e.1) (λ (e : ℕ × Root). IsRootOf v e.0 e.1) rs (λ e h. root_on t v g e.0 e.1 h) all

obj_on : (c e : Coord) → Grows c.tree e.tree → ((u : Uid) → is_own u e.tree ≡ is_own u c.tree) → e.doings ≡ c.doings → e.roots ≡ c.roots →
    KnowsObjects c → KnowsObjects e
obj_on c e g own doings roots k = record {
  works = λ u d at. now_on c.tree e.tree g d.now (k.works u d (sym (same u) ∙ at));
  roots =
      subst (λ rs. AllByRecursion (λ (x : ℕ × Root). IsRootOf e.tree x.0 x.1) rs) (sym roots) (roots_on c.tree e.tree g c.roots k.roots);
}
  where
    same : (u : Uid) → doing_of u e ≡ doing_of u c
    same u = λ i. cond (own u i) (at_place u.num (doings i)) None

root_found : (t : Tree) (k : ℕ) (rs : List (ℕ × Root)) → AllByRecursion (λ (e : ℕ × Root). IsRootOf t e.0 e.1) rs →
    IsRootOf t k (unwrap_or (at_number k rs) no_root)
root_found t k [] all = (tt, tt)
root_found t k (e ∷ es) all = by (nat_cmp k e.0) refl (root_found t k es all.1)
  where
    equal : nat_cmp k e.0 ≡ Equal → e.0 ≡ k
    equal is = grind (arith, is)

    by : (r : Ordering) → nat_cmp k e.0 ≡ r → IsRootOf t k (unwrap_or (at_number k es) no_root) →
        IsRootOf t k (unwrap_or (cond (is_eq r) (Some e.1) (at_number k es)) no_root)
    by Less is ih = ih
    by Equal is ih = subst (λ j. IsRootOf t j e.1) (equal is) all.0
    by Greater is ih = ih

root_put : (t : Tree) (k : ℕ) (r : Root) (rs : List (ℕ × Root)) → IsRootOf t k r →
    AllByRecursion (λ (e : ℕ × Root). IsRootOf t e.0 e.1) rs → AllByRecursion (λ (e : ℕ × Root). IsRootOf t e.0 e.1) (put_number k r rs)
root_put t k r [] its all = (its, tt)
root_put t k r (e ∷ es) its all = by (nat_cmp k e.0) refl (root_put t k r es its all.1)
  where
    equal : nat_cmp k e.0 ≡ Equal → k ≡ e.0
    equal is = grind (arith, is)

    by : (o : Ordering) → nat_cmp k e.0 ≡ o → AllByRecursion (λ (f : ℕ × Root). IsRootOf t f.0 f.1) (put_number k r es) →
        AllByRecursion (λ (f : ℕ × Root). IsRootOf t f.0 f.1) (match_ordering o ((k, r) ∷ e ∷ es) ((e.0, r) ∷ es) (e ∷ put_number k r es))
    by Less is ih = (its, all)
    by Equal is ih = (subst (λ j. IsRootOf t j r) (equal is) its, all.1)
    by Greater is ih = (all.0, ih)

obj_root : (root : Uid) (f : Root → Root) (c : Coord) → ((r : Root) → IsRootOf c.tree root.num r → IsRootOf c.tree root.num (f r)) →
    KnowsObjects c → KnowsObjects (on_root root f c)
obj_root root f c step k = record {
  works = k.works;
  roots =
      root_put c.tree root.num (f (root_at root c)) c.roots (step (root_at root c) (root_found c.tree root.num c.roots k.roots)) k.roots;
}

obj_do : (u : Uid) (f : Doing → Doing) (c : Coord) → ((d : Doing) → doing_of u c ≡ Some d → IsNowOf c.tree (f d).now) → KnowsObjects c →
    KnowsObjects (on_doing u f c)
obj_do u f c so k = by (doing_of u c) refl
  where
    some_is : (a b : Doing) → Some a ≡ Some b → a ≡ b
    some_is a b is = let e : ◌≡◌ {A = Option Doing} (Some a) (Some b) = is in cc

    by : (o : Option Doing) → doing_of u c ≡ o → KnowsObjects (change_doing f u c o)
    by None none = k
    by (Some old) found = record {
      works = λ w d at. ⊎_elim (λ same. subst (λ (q : Doing). IsNowOf c.tree q.now) (some_is (f old) d
          (sym (doing_put u (f old) old c found) ∙ ap (λ v. doing_of v (set_doing u (f old) c)) (sym same) ∙ at)) (so old found))
          (λ other. k.works w d (sym (doing_other u w (f old) old c found other) ∙ at)) (uid_cases w u);
      roots = k.roots;
    }

obj_idle : (u : Uid) (c : Coord) → KnowsObjects c → KnowsObjects (on_doing u (λ (d : Doing). record d { now = Idle }) c)
obj_idle u c k = obj_do u (λ (d : Doing). record d { now = Idle }) c (λ d found. tt) k

went_of : (t : Tree) (k : ℕ) (w : Went) (r : Root) → IsRootOf t k r → IsRootOf t k (with_went w r)
went_of t k w r so = by (list_any (same_went w) r.went)
  where
    by : (b : Bool) → IsRootOf t k (cond b r (record r { went = r.went ++ w ∷ [] }))
    by true = so
    by false = so

all_more : {A : Type 0} (P : A → Type 0) (xs : List A) (a : A) → AllByRecursion P xs → P a → AllByRecursion P (xs ++ a ∷ [])
all_more P [] a all its = (its, tt)
all_more P (x ∷ xs) a all its = (all.0, all_more P xs a all.1 its)

said_of : (t : Tree) (k : ℕ) (s : Said) (r : Root) → IsUsedIn t k s.x → IsRootOf t k r → IsRootOf t k (with_said s r)
said_of t k s r its so = by (list_any (same_said s) r.said)
  where
    by : (b : Bool) → IsRootOf t k (cond b r (record r { said = r.said ++ s ∷ [] }))
    by true = so
    by false = (all_more (λ (q : Said). IsUsedIn t k q.x) r.said s so.0 its, so.1)

joined_of : (t : Tree) (k : ℕ) (j : Joined) (js : List Joined) → IsUsedIn t k j.x → AllByRecursion (λ (q : Joined). IsUsedIn t k q.x) js →
    AllByRecursion (λ (q : Joined). IsUsedIn t k q.x) (joined_with j js)
joined_of t k j [] its all = (its, tt)
joined_of t k j (i ∷ rest) its all = by (same_join j i) (joined_of t k j rest its all.1)
  where
    by : (b : Bool) → AllByRecursion (λ (q : Joined). IsUsedIn t k q.x) (joined_with j rest) → AllByRecursion
        (λ (q : Joined). IsUsedIn t k q.x) (cond b (record i { loaded = later_state i.loaded j.loaded } ∷ rest) (i ∷ joined_with j rest))
    by true ih = (all.0, all.1)
    by false ih = (all.0, ih)

heard_of : (t : Tree) (k : ℕ) (s : Steps) (e : CallEnd) (r : Root) → IsUsedIn t k s.x → IsRootOf t k r → IsRootOf t k (root_heard s e r)
heard_of t k s (Answered a) r its so = said_of t k (record { path = uids_of s.path; x = s.x }) r its so
heard_of t k s (Included st) r its so =
    (so.0, joined_of t k (record { path = uids_of s.path; x = s.x; store = store_of s.goal; loaded = st }) r.joined its so.1)
heard_of t k s (Conflict h m n) r its so = so
heard_of t k s (Changed n w) r its so = so
heard_of t k s (Lost n b) r its so = so

step_of : (t : Tree) (k x : ℕ) (g : Goal) (ends : List (Uid × End)) (at : At) → IsUsedIn t k x → IsAskOf t k (ask_at x g ends at)
step_of t k x g ends (AtBind avoid) so = so
step_of t k x g ends (AtLoad q s rest) so = so
step_of t k x g ends (AtActivate q st) so = tt
step_of t k x g ends (AtNote q i) so = so
step_of t k x g ends (AtInvoke q i) so = so

obj_uses : (p : Path) (x : ℕ) (c : Coord) → KnowsObjects c → KnowsObjects (record c { tree = uses_object p x c.tree })
obj_uses p x c k = let q = uses_same p x c.tree in
    obj_on c (record c { tree = uses_object p x c.tree }) (grows_uses p x c.tree) q.own refl refl k

obj_ended : (u : Uid) (e : End) (c : Coord) → KnowsObjects c → KnowsObjects (ended u e c)
obj_ended u e c k = let g = end_tree_on u e c in obj_idle u (record c { tree = ended_at u e c.tree })
    (obj_on c (record c { tree = ended_at u e c.tree }) (grows_ended u e c.tree) g.own refl refl k)

-- ---- plans

abbrev PlanOf : Tree → Plan → Type 0
PlanOf t p = AllByRecursion (λ (u : Used). IsUsedIn t (let r = root_of p.path in r.num) u.x) p.used

machine_of : (t : Tree) (m : Machine) (n : ℕ) → PlanOf t (plan_of m) →
    IsAskOf t (let p = plan_of m in let r = root_of p.path in r.num) (ask_of m n)
machine_of t (Voting p left) n so = by p.used so
  where
    by : (us : List Used) → AllByRecursion (λ (u : Used). IsUsedIn t (let r = root_of p.path in r.num) u.x) us →
        AllByRecursion (λ (e : ℕ × Binding). IsUsedIn t (let r = root_of p.path in r.num) e.0)
        (map {A = Used} {B = ℕ × Binding} (λ u. (u.x, u.binding)) (filter (is_at_server n) us))
    by [] all = tt
    by (u ∷ us) all = one (is_at_server n u) (by us all.1)
      where
        one : (b : Bool) → AllByRecursion (λ (e : ℕ × Binding). IsUsedIn t (let r = root_of p.path in r.num) e.0)
            (map {A = Used} {B = ℕ × Binding} (λ u. (u.x, u.binding)) (filter (is_at_server n) us)) →
            AllByRecursion (λ (e : ℕ × Binding). IsUsedIn t (let r = root_of p.path in r.num) e.0) (map {A = Used} {B = ℕ × Binding}
            (λ u. (u.x, u.binding)) (cond b (u ∷ filter (is_at_server n) us) (filter (is_at_server n) us)))
        one true ih = (all.0, ih)
        one false ih = ih
machine_of t (Preparing p left) n so = tt
machine_of t (Confirming p) n so = by p.used so
  where
    by : (us : List Used) → AllByRecursion (λ (u : Used). IsUsedIn t (let r = root_of p.path in r.num) u.x) us → AllByRecursion
        (λ (e : ℕ × ℕ). IsUsedIn t (let r = root_of p.path in r.num) e.0) (map {A = Used} {B = ℕ × ℕ} (λ u. (u.x, u.grant)) us)
    by [] all = tt
    by (u ∷ us) all = (all.0, by us all.1)

all_put : (P : ℕ → Type 0) (n : ℕ) (ns : List ℕ) → P n → AllByRecursion P ns → AllByRecursion P (with_number n ns)
all_put P n [] its all = (its, tt)
all_put P n (m ∷ ms) its all = by (nat_cmp n m) (all_put P n ms its all.1)
  where
    by : (r : Ordering) → AllByRecursion P (with_number n ms) →
        AllByRecursion P (match_ordering r (n ∷ m ∷ ms) (m ∷ ms) (m ∷ with_number n ms))
    by Less ih = (its, all)
    by Equal ih = all
    by Greater ih = (all.0, ih)

all_set : (P : ℕ → Type 0) (ns : List ℕ) → AllByRecursion P ns → AllByRecursion P (number_set ns)
all_set P [] all = tt
all_set P (n ∷ ns) all = all_put P n (number_set ns) all.0 (all_set P ns all.1)

all_both : (P : ℕ → Type 0) (ms ns : List ℕ) → AllByRecursion P ms → AllByRecursion P ns → AllByRecursion P (ms ++ ns)
all_both P [] ns a b = b
all_both P (m ∷ ms) ns a b = (a.0, all_both P ms ns a.1 b)

all_picked : {A : Type 0} (P : ℕ → Type 0) (f : A → ℕ) (q : A → Bool) (xs : List A) → AllByRecursion (λ (a : A). P (f a)) xs →
    AllByRecursion P (map f (filter q xs))
all_picked P f q [] all = tt
all_picked P f q (x ∷ xs) all = by (q x) (all_picked P f q xs all.1)
  where
    by : (b : Bool) → AllByRecursion P (map f (filter q xs)) → AllByRecursion P (map f (cond b (x ∷ filter q xs) (filter q xs)))
    by true ih = (all.0, ih)
    by false ih = ih

plan_of_root : (p : Path) (req : ℕ) (r : Root) (c : Coord) (t : Tree) → IsRootOf t (let q = root_of p in q.num) r →
    PlanOf t (plan_for p req r c)
plan_of_root p req r c t so = by (objects_in (actor p) r c) (all_set P _ (all_both P _ _ (all_picked P (λ (s : Said). s.x) (λ (s : Said).
    counts (actor p) s.path c) r.said so.0) (all_picked P (λ (j : Joined). j.x) (λ (j : Joined). counts (actor p) j.path c) r.joined so.1)))
  where
    P : ℕ → Type 0
    P x = IsUsedIn t (let q = root_of p in q.num) x

    by : (xs : List ℕ) → AllByRecursion (λ (x : ℕ). IsUsedIn t (let q = root_of p in q.num) x) xs →
        AllByRecursion (λ (u : Used). IsUsedIn t (let q = root_of p in q.num) u.x) (map (used_of (actor p) r c) xs)
    by [] all = tt
    by (x ∷ xs) all = (all.0, by xs all.1)

-- ---- small steps

turn_of : {c : Coord} {came : Came} {s : Steps} {t : CallStep} {e : Coord} → KnowsObjects c → CallTurn c came s t e →
    IsUsedIn e.tree (root_of s.path).num s.x
turn_of {c} k (Answers from a r intents d s found is waits) = subst (IsNowOf c.tree) is (k.works a.act d found)
turn_of {c} k (GivesUp l b intents d s named found is) = subst (IsNowOf c.tree) is (k.works (actor b.path) d found)

calls_of : {c : Coord} {came : Came} {e : Coord} {u : Uid} {s : Steps} → KnowsObjects c → Calls c came e u s →
    IsUsedIn e.tree (root_of s.path).num s.x
calls_of {c} k (StartsCall l x o b intents named) = uses_it b.path x c.tree
calls_of {c} k (StartsInclude l x store b intents named) = uses_it b.path x c.tree
calls_of k (GoesOn s t e at turn is) = turn_of k turn
calls_of {c} k (CallsAgain u d s found is) = subst (IsNowOf c.tree) is (k.works u d found)

plans_of : {c : Coord} {came : Came} {u : Uid} {p q : Plan} {left : List ℕ} → KnowsObjects c → PlanFrom c came u p left → Plans came p q →
    PlanOf c.tree q
plans_of {c} k from plans = plan_keeps (PlanOf c.tree) move plans (before from)
  where
    before : {came : Came} {u : Uid} {p : Plan} {left : List ℕ} → PlanFrom c came u p left → PlanOf c.tree p
    before (NewPlan l b intents named) = plan_of_root b.path (last_req (doing_of (actor b.path) c)) (root_at (root_of b.path) c) c c.tree
        (root_found c.tree (root_of b.path).num c.roots k.roots)
    before (OldPlan u d m found is) = subst (IsNowOf c.tree) is (k.works u d found)

    move : {came : Came} (p q : Plan) → PlanMove came p q → PlanOf c.tree p → PlanOf c.tree q
    move _ _ (Marks n p) so = so
    move _ _ _ so = so

commits_of : {c : Coord} {came : Came} {u : Uid} {m : Machine} → KnowsObjects c → Commits c came u m → PlanOf c.tree (plan_of m)
commits_of k (CommitsOn u m on) = plans_of k on.from on.plans
commits_of {c} k (CommitsAgain u d m found is) = subst (IsNowOf c.tree) is (k.works u d found)

pub obj_begins : (l : Label) (q : Kind) (parent : Option Label) (c : Coord) → KnowsObjects c →
    let d = begin_action l q parent (parent_of parent c) c in KnowsObjects d.part × AreOfRoots d.part.tree d.outs
obj_begins l q parent c k = (
  record {
    works = works_begun (λ u d. IsNowOf v d.now) l q parent (parent_of parent c) c (λ u. tt)
        (λ u d at. now_on c.tree v g d.now (k.works u d at));
    roots = roots_on c.tree v g c.roots k.roots;
  },
  (tt, tt),
)
  where
    v : Tree
    v = begun_by q (path_below q (parent_of parent c) (next_uid c.tree)) c.tree

    g : Grows c.tree (begun_by q (path_below q (parent_of parent c) (next_uid c.tree)) c.tree)
    g = grows_begun q (path_below q (parent_of parent c) (next_uid c.tree)) c.tree

obj_move : {c : Coord} {came : Came} → KnowsObjects c → (e f : Coord) → Move c came e f → KnowsObjects e → KnowsObjects f
obj_move {c} k _ _ (Begins l q parent intents) h = (obj_begins l q parent c h).0
obj_move {c} k _ _ (Uses l b x named) h = obj_uses b.path x c h
obj_move {c} k _ _ (Renews p x) h = obj_root (root_of p) (with_keeping x (kept_at_start p x c)) (used_at p x c) (λ q so. so) h
obj_move k _ _ (Waits s e is) h =
    obj_do (actor s.path) (λ (d : Doing). record d { req = s.req; now = Calling s }) e (λ d found. calls_of k is) h
obj_move {c} k _ _ (Turns s t _ (Answers from a r intents d _ found is waits)) h =
    obj_root (root_of s.path) (root_moved s r (turned s r c)) c (λ q so. granted (granted_by (top_of s.path) s.x r) q so) h
  where
    granted : (o : Option Grant) (q : Root) → IsRootOf c.tree (root_of s.path).num q →
        IsRootOf c.tree (root_of s.path).num (notes_grant o q)
    granted None q so = so
    granted (Some g) q so = so
obj_move {c} k _ _ (Turns s t _ (GivesUp l b intents d _ named found is)) h =
    obj_root (root_of s.path) (root_lost s (given_up s.at)) c (λ q so. so) h
obj_move k _ _ (Rests s t e g turn is) h = obj_idle (actor s.path) e h
obj_move k _ _ (Notes s t e g turn is) h =
    let used = subst (λ v. IsUsedIn v (root_of s.path).num s.x) (sym (tree_same (actor s.path) (λ (d : Doing). record d { now = Idle }) e))
    (turn_of k turn) in
    obj_root (root_of s.path) (root_heard s g) (rested s e) (λ r so. heard_of (rested s e).tree (root_of s.path).num s g r used so) h
obj_move k _ _ (Dooms s t e n turn is) h = let f = noted s (Lost n true) e in obj_on f (record f { tree = doomed_at (actor s.path) f.tree })
    (grows_doomed (actor s.path) f.tree) (doomed_same (actor s.path) f.tree).own refl refl h
obj_move {c} k _ _ (CommitsIn u m on) h =
    obj_do u (λ (d : Doing). record d { req = (plan_of m).req; now = Committing m }) c (λ d found. plans_of k on.from on.plans) h
obj_move k _ _ (EndsAt u how f e ends) h = obj_ended u how e h
obj_move {c} k _ _ (TakesPart u p ends) h = obj_do (actor p.path) (λ (d : Doing). record d { took = participants p })
    (ended (actor p.path) ending.Commit c) (λ d found. h.works (actor p.path) d found) h
obj_move {c} k _ _ (KeepsAfter u p ends) h = obj_root (root_of p.path) (root_after p) (took_part p c) (λ q so. so) h
obj_move k _ _ (SentTo p req n a e q) h =
    let w : Went = record { path = uids_of p; node = n; invoke = is_invoke_ask a } in
    obj_root (root_of p) (with_went w) e (λ r so. went_of e.tree (root_of p).num w r so) h
obj_move k _ _ _ h = record { works = h.works; roots = h.roots }

effect_on : (t v : Tree) → Grows t v → (x : Effect) → IsOfRoots t x → IsOfRoots v x
effect_on t v g (Say b) so = tt
effect_on t v g (Do w) so = tt
effect_on t v g (Send to m) so = asked_on t v g (asks m) so

obj_later : {c : Coord} {came : Came} (e f : Coord) (x : Effect) → Move c came e f → KnowsObjects e → IsOfRoots e.tree x →
    IsOfRoots f.tree x
obj_later {c} {came} e f x m h so = effect_on e.tree f.tree (tree_move (Grows e.tree) keeps e f m (λ k y u. u)) x so
  where
    keeps : KeepsTree (Grows e.tree) c came
    keeps = record {
      begins = λ l q parent intents is g k y u. grows_begun q (path_below q (parent_of parent c) (next_uid c.tree)) c.tree k y (g k y u);
      uses = λ p z g k y u. grows_uses p z c.tree k y (g k y u);
      dooms = λ w t g k y u. grows_doomed w t k y (g k y u);
      ends = λ w how line t ends g k y u. grows_ended w how t k y (g k y u);
    }

obj_out : {c : Coord} {came : Came} → KnowsObjects c → (e : Coord) (x : Effect) → Out c came e x → KnowsObjects e → IsOfRoots e.tree x
obj_out k _ _ (AsksIt _ _ _ _ _ (OfCall u s f e is tree at)) h =
    let used = subst (λ v. IsUsedIn v (root_of s.path).num s.x) (sym tree) (calls_of k is) in
    request_of e.tree (record { path = s.path; req = s.req }) (next_ask (ends_of (root_of s.path) e.tree) s)
    (step_of e.tree (root_of s.path).num s.x s.goal (ends_of (root_of s.path) e.tree) s.at used)
obj_out k _ _ (AsksIt _ _ _ _ _ (OfCommit u m n e is i tree at)) h =
    request_of e.tree (record { path = (plan_of m).path; req = (plan_of m).req }) (ask_of m n)
    (machine_of e.tree m n (subst (λ v. PlanOf v (plan_of m)) (sym tree) (commits_of k is)))
obj_out k _ _ _ h = tt

-- what a coordinator did
objects_so : {c : Coord} {came : Came} {e : Coord} {outs : List Effect} → KnowsObjects c → Trace c came c outs e →
    KnowsObjects e × AreOfRoots e.tree outs
objects_so k t = trace_tells KnowsObjects (obj_move k) (λ e x. IsOfRoots e.tree x) (obj_out k) obj_later t k

pub obj_heard : (from : ℕ) (a : Asked) (r : Reply) (intents : List (Uid × Intent)) (c : Coord) → KnowsObjects c →
    let d = heard from a r intents c in KnowsObjects d.part × AreOfRoots d.part.tree d.outs
obj_heard from a r intents c k = objects_so k (heard_trace c from a r intents)

pub obj_again : (c : Coord) → KnowsObjects c → let d = again_all c.doings c in KnowsObjects d.part × AreOfRoots d.part.tree d.outs
obj_again c k = objects_so k (again_trace c)

pub obj_acts : (i : Input) (intents : List (Uid × Intent)) (c : Coord) → KnowsObjects c → let d = acts i intents c in
    KnowsObjects d.part × AreOfRoots d.part.tree d.outs
obj_acts i intents c k = objects_so k (acts_trace c i intents)

pub obj_acked : (from : ℕ) (u : Uid) (intents : List (Uid × Intent)) (c : Coord) → KnowsObjects c → let d = acked from u intents c in
    KnowsObjects d.part × AreOfRoots d.part.tree d.outs
obj_acked from u intents c k = objects_so k (acked_trace c from u intents)

pub obj_new : (node inc : ℕ) (records : List (Uid × Intent)) → KnowsObjects (record (new_coord node inc) { telling = records })
obj_new node inc records = record { works = works_new (λ u d. IsNowOf (new_coord node inc).tree d.now) node inc records; roots = tt }
