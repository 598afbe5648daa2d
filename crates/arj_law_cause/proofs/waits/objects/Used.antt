-- The objects that a root has used: by its accepted calls and includes, and by the tree of its coordinator.
use Rattle.arj_law_parts.proofs.Words
use Words.{◌≡◌, ◌∙◌, ◌+◌, ◌==◌, ◌++◌, ℕ, Bool, true, false, cond, if◌then◌else◌, List, [], ◌∷◌, Option, Some, None, refl, sym, ap, subst, arith, nat_tests}
use Words.{nat_lt, eqb-true, unwrap_or, at_number, put_number, put_other, put_same, match_ordering, Ordering, Less, Equal, Greater, uid_eq, uid_is}
use Words.{first_uid, Uid, End, Event, Kind, Path, Branch, Coord, Family, Tree, begun_by, branch_of, doomed_at, doomed_branch, ended_at}
use Words.{ended_branch, family_of, no_family, root_of, set_place, uids_of, uses_object, with_family, with_number}
use Words.event
use Rattle.std.specs.Ordering.{nat_cmp}
use Rattle.arj_law_runs.proofs.Terms.{uids}
use Rattle.arj_law_runs.specs.coordinators.Rooms.{family_at, objects_at}
use Rattle.arj_model.specs.Last.{insert_number}
use Rattle.arj_model.specs.Past.{Asked}
use Rattle.arj_model.specs.Refusals.{object_used, with_object}

-- ---- lists of numbers

-- a number is put into a list in one way
pub with_is : (x : ℕ) (xs : List ℕ) → with_number x xs ≡ insert_number x xs
with_is x [] = refl
with_is x (y ∷ ys) = by (nat_cmp x y) refl (with_is x ys)
  where
    less : (a b : ℕ) → nat_cmp a b ≡ Less → ((a == b) ≡ false) × (nat_lt a b ≡ true)
    less a b is = (grind (arith, nat_tests, is), grind (arith, nat_tests, is))

    equal : (a b : ℕ) → nat_cmp a b ≡ Equal → (a == b) ≡ true
    equal a b is = grind (arith, nat_tests, is)

    greater : (a b : ℕ) → nat_cmp a b ≡ Greater → ((a == b) ≡ false) × (nat_lt a b ≡ false)
    greater a b is = (grind (arith, nat_tests, is), grind (arith, nat_tests, is))

    by : (o : Ordering) → nat_cmp x y ≡ o → with_number x ys ≡ insert_number x ys →
        match_ordering o (x ∷ y ∷ ys) (y ∷ ys) (y ∷ with_number x ys)
        ≡ (if x == y then y ∷ ys else (if nat_lt x y then x ∷ y ∷ ys else y ∷ insert_number x ys))
    by Less is rest = let q = less x y is in
        sym (λ i. cond (q.0 i) (y ∷ ys) (cond (q.1 i) (x ∷ y ∷ ys) (y ∷ insert_number x ys)))
    by Equal is rest = sym (λ i. cond (equal x y is i) (y ∷ ys) (cond (nat_lt x y) (x ∷ y ∷ ys) (y ∷ insert_number x ys)))
    by Greater is rest = let q = greater x y is in
        ap (λ zs. y ∷ zs) rest ∙ sym (λ i. cond (q.0 i) (y ∷ ys) (cond (q.1 i) (x ∷ y ∷ ys) (y ∷ insert_number x ys)))

-- ---- by what was accepted

-- the action that was asked is of this root
abbrev pub is_rooted : Uid → Asked → Bool
is_rooted r a = uid_eq (first_uid (uids (let z = a in z.path))) r

-- the objects that a root used, with that of one event more
abbrev pub used_step : Uid → Asked → List ℕ → List ℕ
used_step r a used = if is_rooted r a then with_object used (object_used (let z = a in z.event)) else used

abbrev pub used_from : Uid → List ℕ → List Asked → List ℕ
used_from r used [] = used
used_from r used (a ∷ rest) = used_from r (used_step r a used) rest

abbrev pub used_in : Uid → List Asked → List ℕ
used_in r accepted = used_from r [] accepted

pub used_more : (r : Uid) (used : List ℕ) (acc : List Asked) (a : Asked) →
    used_from r used (acc ++ a ∷ []) ≡ used_step r a (used_from r used acc)
used_more r used [] a = refl
used_more r used (b ∷ acc) a = used_more r (used_step r b used) acc a

-- an event that uses no object, or is of another root
pub none_used : (r : Uid) (acc : List Asked) (a : Asked) → object_used a.event ≡ None → used_in r (acc ++ a ∷ []) ≡ used_in r acc
none_used r acc a none = used_more r [] acc a
    ∙ (λ i. cond (is_rooted r a) (with_object (used_in r acc) (none i)) (used_in r acc)) ∙ either (is_rooted r a)
  where
    either : (b : Bool) → cond b (used_in r acc) (used_in r acc) ≡ used_in r acc
    either true = refl
    either false = refl

pub other_root : (r : Uid) (acc : List Asked) (a : Asked) → is_rooted r a ≡ false → used_in r (acc ++ a ∷ []) ≡ used_in r acc
other_root r acc a off = used_more r [] acc a ∙ ap (λ b. cond b (with_object (used_in r acc) (object_used a.event)) (used_in r acc)) off

pub its_root : (r : Uid) (acc : List Asked) (a : Asked) (x : ℕ) → is_rooted r a ≡ true → object_used a.event ≡ Some x →
    used_in r (acc ++ a ∷ []) ≡ insert_number x (used_in r acc)
its_root r acc a x on is = used_more r [] acc a
    ∙ (λ i. cond (on i) (with_object (used_in r acc) (is i)) (used_in r acc))

-- ---- by a tree

module _ (root : Uid) (f : Family) (t : Tree) where
  there : (k : ℕ) → k ≡ root.num → family_at k (with_family root f t) ≡ f
  there k same = (λ i. unwrap_or (at_number (same i) (put_number root.num f t.families)) no_family)
      ∙ ap (λ o. unwrap_or o no_family) (put_same root.num f t.families)

  elsewhere : (k : ℕ) → (k == root.num) ≡ false → family_at k (with_family root f t) ≡ family_at k t
  elsewhere k other = ap (λ o. unwrap_or o no_family) (put_other root.num k f t.families (grind (arith, nat_tests, other)))

-- the node, the incarnation and the objects of roots are as in another tree
pub record IsLike (t s : Tree) : Type 0 where
  pub node : s.node ≡ t.node
  pub inc : s.inc ≡ t.inc
  pub objects : (k : ℕ) → objects_at k s ≡ objects_at k t

pub like_itself : (t : Tree) → IsLike t t
like_itself t = record { node = refl; inc = refl; objects = λ k. refl }

-- a root gets what has the same objects
like_family : (t s : Tree) (root : Uid) (f : Family) → f.objects ≡ objects_at root.num s → IsLike t s → IsLike t (with_family root f s)
like_family t s root f same its = record { node = its.node; inc = its.inc; objects = λ k. by k (k == root.num) refl }
  where
    by : (k : ℕ) (b : Bool) → (k == root.num) ≡ b → objects_at k (with_family root f s) ≡ objects_at k t
    by k true is = let e = eqb-true k root.num is in
        ap (λ (g : Family). g.objects) (there root f s k e) ∙ same ∙ ap (λ j. objects_at j s) (sym e) ∙ its.objects k
    by k false is = ap (λ (g : Family). g.objects) (elsewhere root f s k is) ∙ its.objects k

-- by its branches alone
like_branches : (t s : Tree) (bs : List Branch) → IsLike t s → IsLike t (record s { branches = bs })
like_branches t s bs its = record { node = its.node; inc = its.inc; objects = its.objects }

pub like_doomed : (t : Tree) (u : Uid) (s : Tree) → IsLike t s → IsLike t (doomed_at u s)
like_doomed t u s its = by (branch_of u s)
  where
    by : (o : Option Branch) → IsLike t (doomed_branch u s o)
    by None = its
    by (Some b) = like_branches t s (set_place u.num (record b { doomed = true }) s.branches) its

pub like_ended : (t : Tree) (u : Uid) (e : End) (s : Tree) → IsLike t s → IsLike t (ended_at u e s)
like_ended t u e s its = by (branch_of u s)
  where
    by : (o : Option Branch) → IsLike t (ended_branch u e s o)
    by None = its
    by (Some b) = listed (Words.nat_le (Words.length (uids_of b.path)) 1)
      where
        m : Tree
        m = record s { branches = set_place u.num (record b { ended = Some e }) s.branches }

        listed : (x : Bool) → IsLike t (cond x m (with_family (root_of b.path)
            (let g = family_of (root_of b.path) m in record g { ends = g.ends ++ (u, e) ∷ [] }) m))
        listed true = like_branches t s _ its
        listed false = like_family t m (root_of b.path) (let g = family_of (root_of b.path) m in record g { ends = g.ends ++ (u, e) ∷ [] }) refl
            (like_branches t s _ its)

pub like_begun : (t : Tree) (how : Kind) (p : Path) (s : Tree) → IsLike t s → IsLike t (begun_by how p s)
like_begun t how p s its =
    let b : Branch = record { path = p; kind = how; ended = None; doomed = false } in
    like_family t (record s { branches = s.branches ++ b ∷ [] }) (root_of p)
    (let f = family_of (root_of p) s in record f { actions = f.actions + 1 }) refl (like_branches t s _ its)

-- a root uses an object
pub uses_there : (p : Path) (x : ℕ) (t : Tree) (k : ℕ) → (k == (root_of p).num) ≡ true →
    objects_at k (uses_object p x t) ≡ insert_number x (objects_at k t)
uses_there p x t k is = let e = eqb-true k (root_of p).num is in
    ap (λ (g : Family). g.objects)
    (there (root_of p) (let f = family_of (root_of p) t in record f { objects = with_number x f.objects }) t k e)
    ∙ with_is x (objects_at (root_of p).num t) ∙ ap (λ j. insert_number x (objects_at j t)) (sym e)

pub uses_elsewhere : (p : Path) (x : ℕ) (t : Tree) (k : ℕ) → (k == (root_of p).num) ≡ false →
    objects_at k (uses_object p x t) ≡ objects_at k t
uses_elsewhere p x t k off = ap (λ (g : Family). g.objects)
    (elsewhere (root_of p) (let f = family_of (root_of p) t in record f { objects = with_number x f.objects }) t k off)
