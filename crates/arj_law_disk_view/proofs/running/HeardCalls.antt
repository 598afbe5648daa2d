-- What a coordinator has of its roots, where an action calls an object, or includes a store: it waits in a new step.
use Rattle.arj_law_parts.proofs.Words
use Words.{◌≡◌, ◌≢◌, ◌⊎◌, ◌≤◌, ◌<◌, ℕ, Bool, true, false, List, [], ◌∷◌, ◌++◌, Some, None, refl, sym, ◌∙◌, ap, subst, inl, inr, ⊎_elim}
use Words.{arith, cond, Contains, unwrap_or, list_any, uid_cases, Asked, Uid, uids_of, Reply, actor, asked_by, top_of, goes_on}
use Words.{is_invoke_ask, Known, Steps, is_include, next_ask, next_node, Calling, Committing, Coord, change_doing, no_root, same_went}
use Words.{Doing, Keeping, Root, Said, Went, doing_of, kept_of, on_doing, on_root, root_at, with_went, Disk, Parts, at_number, put_number}
use Words.{Tree, at_place, branch_of, ends_of, is_own, is_spent, root_of, put_same as put_number_same, put_other as put_number_other}
use Words.{one_or_two, Post, Seen}
use Rattle.arj_law_disk_view.proofs.Terms
use Terms.{doing_other, IsGood, head_of, KnowsFew, doing_here, roots_work, Names, Office, some_is, up, Kinds, SeesRootOf, IsToStep}
use Terms.{SeesCall, SeesHeard, SeesHeardAt, SeesStep, is_bound}
use Rattle.arj_law_disk_view.proofs.{running.HeardAsk.step_in, running.HeardServe.counted_at, view.Doings.doing_tree, view.Frames.node_here}
use Rattle.arj_law_disk_view.proofs.running.HeardLike.{call_same, path_on, root_like, same_path, spent_same}

-- ---- a root that gave up its binding

-- what is kept of the object is what was, or nothing is, and each call on it is spent
abbrev pub KeepsOrNone : ℕ → Tree → Root → Root → Type 0
KeepsOrNone x t r q =
    (kept_of x q ≡ kept_of x r) ⊎ ((kept_of x q ≡ None) × ((z : Said) → Contains r.said z → z.x ≡ x → is_spent z.path t ≡ true))

-- the root with other keepings, and with other nodes to which something went
abbrev pub keeps_to : List (ℕ × Keeping) → List Went → Root → Root
keeps_to k w r = record r { went = w; keeping = k }

pub root_keeps : (x : ℕ) (tops : Kinds) (root : Uid) (c : Coord) (r : Root) (k : List (ℕ × Keeping)) (w : List Went) (B : Office) →
    KeepsOrNone x c.tree r (keeps_to k w r) → SeesRootOf x tops root c r B → SeesRootOf x tops root c (keeps_to k w r) B
root_keeps x tops root c r k w B keeps s = record {
  grants = let g = s.grants in record { own = g.own; least = g.least; kept = g.kept };
  lists = let l = s.lists in record {
    agree = λ q h z is. l.agree q h z (was q is);
    family = l.family;
    granted = l.granted;
    named = λ q g is. l.named q g (was q is);
    short = λ q is. l.short q (was q is);
    called = λ q z t is. l.called q z t (was q is);
    retained = λ q z is. l.retained q z (was q is);
    nothing = λ is z there of. ⊎_elim (λ same. l.nothing (sym same ∙ is) z there of) (λ none. none.1 z there of) keeps;
  };
  loads = s.loads;
  state = s.state;
}
  where
    was : (q : Known) → kept_of x (keeps_to k w r) ≡ Some q → kept_of x r ≡ Some q
    was q is = ⊎_elim (λ same. sym same ∙ is) (λ none. absurd (let e : None ≡ Some q = sym none.0 ∙ is in cc)) keeps

-- ---- a coordinator in which an action waits in a new step

-- One coordinator comes of another: an action waits in this step, and nothing else is looked at.
pub record IsCalled (x : ℕ) (s : Steps) (c e : Coord) : Type 0 where
  pub tree : (u : Uid) → branch_of u e.tree ≡ branch_of u c.tree
  pub own : (u : Uid) → is_own u e.tree ≡ is_own u c.tree
  pub works : (u : Uid) (q : Doing) → doing_of u e ≡ Some q → ((u ≢ actor s.path) × (doing_of u c ≡ Some q)) ⊎ (q.now ≡ Calling s)
  pub roots : (u : Uid) → (k : List (ℕ × Keeping)) × (w : List Went) × (root_at u e ≡ keeps_to k w (root_at u c))
      × KeepsOrNone x c.tree (root_at u c) (keeps_to k w (root_at u c))

-- what is kept of the object is what was, for each other action that waits in a call on it
abbrev pub KeepsForOthers : ℕ → Uid → Coord → Coord → Type 0
KeepsForOthers x u c e = (w : Uid) (q : Doing) (z : Steps) → w ≢ u → doing_of w c ≡ Some q → q.now ≡ Calling z → z.x ≡ x →
    is_include z.goal ≡ false → kept_of x (root_at (root_of z.path) e) ≡ kept_of x (root_at (root_of z.path) c)

-- a step of a call has its list, where its binding is known
abbrev pub HasItsList : ℕ → Kinds → Coord → Steps → Names → Type 0
HasItsList x tops c s N = s.x ≡ x → is_include s.goal ≡ false → is_bound s.at ≡ true → SeesCall x tops c s N

-- where one waits anew, and its step is seen, what the coordinator has is seen still
pub at_called : (x k : ℕ) (tops : Kinds) (sent : List Post) (s : Steps) (c e : Coord) (B : Office) → IsCalled x s c e →
    KeepsForOthers x (actor s.path) c e → (s.x ≡ x → SeesStep x k sent s B.names) → HasItsList x tops e s B.names →
    SeesHeardAt x k tops sent c B → SeesHeardAt x k tops sent e B
at_called x k tops sent s c e B called others step list p = record {
  roots = λ root w.
      let q = called.roots root in
      let old = p.roots root
      (record { own = sym (called.own root) ∙ w.own; alone = w.alone; unended = λ b found. w.unended b (called.tree root ∙ found) }) in
      subst (λ z. SeesRootOf x tops root e z B) (sym q.2) (root_keeps x tops root e (root_at root c) q.0 q.1 B (keeps_there root q.0 q.1
      q.3) (root_like c e (λ w. inl (called.tree w)) x tops root (root_at root c) (let r = root_at root c in r.went) B old));
  steps = λ u q z does now of. ⊎_elim (λ old. p.steps u q z old.1 now of) (λ new. let same : s ≡ z = step_is (sym new ∙ now) in
      subst (λ y. SeesStep x k sent y B.names) same (step (ap (λ (y : Steps). y.x) same ∙ of))) (called.works u q does);
  calls = λ u q z does now of call past. ⊎_elim
      (λ old. call_same x tops c e z B.names (called.own (top_of z.path)) (others u q z old.0 old.1 now of call)
      (p.calls u q z old.1 now of call past))
      (λ new. let same : s ≡ z = step_is (sym new ∙ now) in
      subst (λ y. SeesCall x tops e y B.names) same (list (ap (λ (y : Steps). y.x) same ∙ of)
      (ap (λ (y : Steps). is_include y.goal) same ∙ call) (ap (λ (y : Steps). is_bound y.at) same ∙ past))) (called.works u q does);
  includes = λ root j i. path_on c e (λ w. same_path (branch_of w c.tree) (branch_of w e.tree) (called.tree w)) j.path
      (p.includes root j (subst (λ (r : Root). Contains r.joined j) (let q = called.roots root in q.2) i));
  plans = λ u q m does now. ⊎_elim (λ old. p.plans u q m old.1 now) (λ new. absurd (let e : Calling s ≡ Committing m = sym new ∙ now in cc))
      (called.works u q does);
}
  where
    step_is : {a b : Steps} → Calling a ≡ Calling b → a ≡ b
    step_is same = some_is refl (ap step_in same)

    keeps_there : (root : Uid) (k : List (ℕ × Keeping)) (w : List Went) → KeepsOrNone x c.tree (root_at root c)
        (keeps_to k w (root_at root c)) → KeepsOrNone x e.tree (root_at root c) (keeps_to k w (root_at root c))
    keeps_there root k w (inl same) = inl same
    keeps_there root k w (inr none) = inr (none.0, λ z there of. spent_same c e (λ w. inl (called.tree w)) z.path ∙ none.1 z there of)

-- ---- nothing answers a request that wasn't sent

module _ (x : ℕ) (tops : Kinds) (k : ℕ) (d : Disk) (t : Parts) (M : Seen) (A : Office) (good : IsGood (up k d t M))
    (few : KnowsFew (up k d t M)) (p : SeesHeard x tops A (up k d t M)) where
  pub fresh : (u : Uid) (q : Doing) (s : Steps) → doing_of u t.coord ≡ Some q → actor s.path ≡ u → q.req < s.req → (r : Reply) →
      IsToStep k M.sent s r → ⊥
  fresh u q s does actor_is less r to =
      let z = p.asked to.post (asked_by (head_of s)) r to.posted to.answer in
      let c = counted_at (up k d t M) good few k (record { number = k; disk = d; live = Some t }) t
      (node_here M k (record { number = k; disk = d; live = Some t })) refl z.post z.head z.request z.posted (z.from ∙ to.node) z.asking
      (ap (λ (y : Asked). y.act) z.asker ∙ actor_is) q does in
      not_both (ap (λ (y : Asked). y.req) z.asker) c
    where
      not_both : {a : ℕ} → a ≡ s.req → a ≤ q.req → ⊥
      not_both same low = omega (arith, same, low, less)

-- ---- a call begins, and an include

-- who waits after one action was set to work
pub work_apart : (u : Uid) (f : Doing → Doing) (c : Coord) (d : Doing) → doing_of u c ≡ Some d → (w : Uid) (q : Doing) →
    doing_of w (on_doing u f c) ≡ Some q → ((w ≡ u) × (f d ≡ q)) ⊎ ((w ≢ u) × (doing_of w c ≡ Some q))
work_apart u f c d found w q does =
    ⊎_elim (λ same. inl (same, some_is (doing_here u f c d found) (ap (λ z. doing_of z (on_doing u f c)) (sym same) ∙ does)))
    (λ other. inr (other, sym (ap (λ o. doing_of w (change_doing f u c o)) found ∙ doing_other u w (f d) d c found other) ∙ does))
    (uid_cases w u)

pub work_cases : (u : Uid) (f : Doing → Doing) (c : Coord) (d : Doing) → doing_of u c ≡ Some d → (w : Uid) (q : Doing) →
    doing_of w (on_doing u f c) ≡ Some q → ((w ≡ u) × (f d ≡ q)) ⊎ (doing_of w c ≡ Some q)
work_cases u f c d found w q does = ⊎_elim (λ same. inl same) (λ other. inr other.1) (work_apart u f c d found w q does)

-- a root after another one's change, or its own
pub root_put : (root : Uid) (f : Root → Root) (c : Coord) (u : Uid) →
    ((root.num ≡ u.num) × (root_at u (on_root root f c) ≡ f (root_at u c))) ⊎ (root_at u (on_root root f c) ≡ root_at u c)
root_put root f c u = ⊎_elim
    (λ same. inl (
      same,
      ap (λ n. unwrap_or (at_number n (put_number root.num (f (root_at root c)) c.roots)) no_root) (sym same) ∙ (ap (λ z. unwrap_or z
          no_root) (put_number_same root.num (f (root_at root c)) c.roots) ∙ ap (λ n. f (unwrap_or (at_number n c.roots) no_root)) same),
    ))
    (λ apart. inr (ap (λ z. unwrap_or z no_root) (put_number_other root.num u.num (f (root_at root c)) c.roots apart.0)))
    (one_or_two root.num u.num)

-- the nodes to which something went, with one more
pub went_with : (w : Went) (r : Root) → (v : List Went) × (with_went w r ≡ record r { went = v })
went_with w r = by (list_any (same_went w) r.went)
  where
    by : (b : Bool) → (v : List Went) × (cond b r (record r { went = r.went ++ w ∷ [] }) ≡ record r { went = v })
    by true = (r.went, refl)
    by false = (r.went ++ w ∷ [], refl)

-- an action waits in this step from now on: of its root nothing is looked at that has changed
pub goes_called : (x : ℕ) (s : Steps) (c t : Coord) (d : Doing) → doing_of (actor s.path) c ≡ Some d →
    ((u : Uid) → branch_of u t.tree ≡ branch_of u c.tree) → ((u : Uid) → is_own u t.tree ≡ is_own u c.tree) → t.doings ≡ c.doings
    → ((u : Uid) → (k : List (ℕ × Keeping)) × (w : List Went) × (root_at u t ≡ keeps_to k w (root_at u c))
    × KeepsOrNone x c.tree (root_at u c) (keeps_to k w (root_at u c))) → IsCalled x s c (goes_on s t).part
goes_called x s c t d found tree own doings roots = record {
  tree = λ u. ap (branch_of u) (doing_tree (actor s.path) new t) ∙ tree u;
  own = λ u. ap (is_own u) (doing_tree (actor s.path) new t) ∙ own u;
  works = λ u q does. ⊎_elim (λ mine. inr (ap (λ (y : Doing). y.now) (sym mine.1))) (λ old. inl (old.0, sym (same_doing u) ∙ old.1))
      (work_apart (actor s.path) new t d (same_doing (actor s.path) ∙ found) u q does);
  roots = λ u. by_root u (root_put (root_of s.path) (with_went went) mid u);
}
  where
    new : Doing → Doing
    new y = record y { req = s.req; now = Calling s }

    mid : Coord
    mid = on_doing (actor s.path) (λ (y : Doing). record y { req = s.req; now = Calling s }) t

    went : Went
    went = record {
      path = uids_of s.path;
      node = next_node s;
      invoke = is_invoke_ask (next_ask (ends_of (root_of s.path)
          (let m = on_doing (actor s.path) (λ (y : Doing). record y { req = s.req; now = Calling s }) t in m.tree)) s);
    }

    same_doing : (u : Uid) → doing_of u t ≡ doing_of u c
    same_doing u = (λ i. cond (own u i) (at_place u.num (doings i)) None)

    mid_root : (u : Uid) → root_at u mid ≡ root_at u t
    mid_root u = ap (λ (rs : List (ℕ × Root)). unwrap_or (at_number u.num rs) no_root) (roots_work (actor s.path) new t)

    by_root : (u : Uid) → ((let z = root_of s.path in z.num ≡ u.num) × (root_at u (on_root (root_of s.path) (with_went went) mid)
        ≡ with_went went (root_at u mid))) ⊎ (root_at u (on_root (root_of s.path) (with_went went) mid) ≡ root_at u mid)
        → (k : List (ℕ × Keeping)) × (w : List Went) × (root_at u (on_root (root_of s.path) (with_went went) mid)
        ≡ keeps_to k w (root_at u c)) × KeepsOrNone x c.tree (root_at u c) (keeps_to k w (root_at u c))
    by_root u (inl mine) = let r = roots u in let g = went_with went (root_at u mid) in (
      r.0,
      g.0,
      mine.1 ∙ (g.1 ∙ (ap (λ (z : Root). record z { went = g.0 }) (mid_root u) ∙ ap (λ (z : Root). record z { went = g.0 }) r.2)),
      went_away r.0 r.1 g.0 r.3,
    )
      where
        went_away : (k : List (ℕ × Keeping)) (w v : List Went) → KeepsOrNone x c.tree (root_at u c) (keeps_to k w (root_at u c)) →
            KeepsOrNone x c.tree (root_at u c) (keeps_to k v (root_at u c))
        went_away k w v (inl same) = inl same
        went_away k w v (inr none) = inr none
    by_root u (inr other) = let r = roots u in (r.0, r.1, other ∙ (mid_root u ∙ r.2), r.3)

-- what is kept of the object stays so, where a request goes out
pub goes_kept : (x : ℕ) (s : Steps) (t : Coord) (u : Uid) → kept_of x (root_at u (goes_on s t).part) ≡ kept_of x (root_at u t)
goes_kept x s t u = ⊎_elim (λ mine. ap (kept_of x) mine.1 ∙ (ap (kept_of x) (let g = went_with went (root_at u mid) in g.1)
    ∙ ap (kept_of x) mid_root)) (λ other. ap (kept_of x) (other ∙ mid_root)) (root_put (root_of s.path) (with_went went) mid u)
  where
    mid : Coord
    mid = on_doing (actor s.path) (λ (y : Doing). record y { req = s.req; now = Calling s }) t

    went : Went
    went = record {
      path = uids_of s.path;
      node = next_node s;
      invoke = is_invoke_ask (next_ask (ends_of (root_of s.path)
          (let m = on_doing (actor s.path) (λ (y : Doing). record y { req = s.req; now = Calling s }) t in m.tree)) s);
    }

    mid_root : root_at u mid ≡ root_at u t
    mid_root = ap (λ (rs : List (ℕ × Root)). unwrap_or (at_number u.num rs) no_root)
        (roots_work (actor s.path) (λ (y : Doing). record y { req = s.req; now = Calling s }) t)
