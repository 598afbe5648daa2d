-- The beginning of a call, of an include and of an action, and requests that are sent again.
use Rattle.arj_law_parts.proofs.Words
use Words.{◌≡◌, ◌⊎◌, ◌<◌, ◌&&◌, ◌||◌, ◌+◌, ℕ, List, [], ◌∷◌, Bool, true, false, cond, Option, Some, None, refl, sym, ◌∙◌, ap, subst, inl}
use Words.{inr, ⊎_elim, arith, unwrap_or, Uid, Ask, Op, Path, uids_of, actor, top_of, again_all, again_now, asks_all, asks_node, call}
use Words.{call_steps, goes_on, include, is_invoke_ask, known_at_start, last_req, next_req, renewed, was_named, Known, Steps, start}
use Words.{start_at, plan_of, Calling, Committing, Coord, Doing, Idle, Keeping, Now, Root, Went, doing_of, is_free, keeping_of, kept_of}
use Words.{no_root, on_root, retains, root_at, with_keeping, with_went, Intent, at_number, put_number, unbound, Branch, Tree, at_place}
use Words.{branch_of, ends_of, is_own, root_of, uses_object, put_same as put_number_same, put_other as put_number_other, one_or_two, Post}
use Words.list
use Words.ending
use Words.calls
use Words.commit
use Rattle.arj_law_runs.proofs.Terms
use Terms.{Action, IsGoodCoord, IsTree, Paths, IsDecided, stand_goes, on_tree, uses_same, Call, IsAsked, Answered, AreOfPaths, Doomed}
use Terms.{IsCovered, IsDoomed, IsOver, IsOwn, IsSpent, IsTied, IsTiedAt, IsWaiting, KnowsCalls, Nowhere, Refused, Spent}
use Rattle.arj_law_parts.proofs.parts.Decided.{stand_same}
use Rattle.arj_law_runs.proofs.calls.CoordCalls.{goes_known, kept_put, kept_same, not_idle, went_keeping}
use Rattle.arj_law_runs.proofs.calls.CoordKnown.{keep_root, loose_of, paths_root, paths_same, went_said}
use Rattle.arj_law_runs.proofs.calls.CoordSteps.{Goes, IsLoose, IsStill, KeepsAborts, Knowing, covered_on, goes_then, goes_tree, knowing_of}
use Rattle.arj_law_runs.proofs.calls.CoordSteps.{knowing_on}
use Rattle.arj_law_runs.proofs.calls.CoordTrees.{KeepsDoom, doom_is, doom_same, doom_then}
use Rattle.arj_law_runs.proofs.calls.ServerCalls.{some_is}

module _ (acts : List Action) (paths : Paths) (tree : IsTree paths) (sent : List Post) (c : Coord) (good : IsGoodCoord acts paths c)
    (knows : KnowsCalls paths sent c) where
  -- ---- an action at rest begins a call

  module _ (b : Branch) (found : branch_of (actor b.path) c.tree ≡ Some b) (d : Doing) (work : doing_of (actor b.path) c ≡ Some d)
      (rest : d.now ≡ Idle) (x : ℕ) where
    abbrev u : Uid
    u = actor b.path

    abbrev root : Uid
    root = root_of b.path

    abbrev uses : Coord
    uses = record c { tree = uses_object b.path x c.tree }

    none_waits : (to : ℕ) (k : Call) → IsWaiting c to k → actor (let h = k.head in h.path) ≡ u → ⊥
    none_waits to k w same =
        not_idle (sym rest ∙ ap (λ (z : Doing). z.now) (some_is (sym work ∙ ap (λ z. doing_of z c) (sym same) ∙ w.found)) ∙ w.now)

    starts : (s : Steps) (t : Coord) → actor s.path ≡ u → s.req ≡ d.req + 1 → t.tree ≡ uses_object b.path x c.tree →
        ((v : Tree) → KeepsAborts c.tree v → Goes v u c t) → doing_of u t ≡ Some d → IsTied t s → AreOfPaths paths t →
        KnowsCalls paths sent (goes_on s t).part
    starts s t who req its_tree goes at tied said =
        let e = (goes_on s t).part in
        let mid : KeepsAborts c.tree t.tree = λ w a. subst (λ z. IsDecided w ending.Abort z) (sym its_tree)
        ((stand_same c.tree (uses_object b.path x c.tree) (uses_same b.path x c.tree)).ends w ending.Abort a) in
        let aborts : KeepsAborts c.tree e.tree = λ w a. (stand_goes acts paths tree s t).ends w ending.Abort (mid w a) in
        let doom : KeepsDoom u c.tree e.tree = doom_then u c.tree t.tree e.tree (doom_then u c.tree (uses_object b.path x c.tree) t.tree
        (doom_same u c.tree (uses_object b.path x c.tree) (λ w. refl)) (doom_is u (uses_object b.path x c.tree) t.tree (sym its_tree)))
        (doom_is u t.tree e.tree (sym (on_tree (actor s.path) (λ (q : Doing). record q { req = s.req; now = Calling s }) t))) in
        let g = goes e.tree aborts in
        let k = knowing_on sent e.tree u (λ to q. ⊥) c t g (knowing_of paths sent e.tree u (λ to q. ⊥) c aborts doom.doomed
        (λ w z m other it is f. doom.free w other f) none_waits knows) in
        goes_known acts paths tree sent c good knows s t (λ to q. ⊥) d (ap (λ z. doing_of z c) who ∙ work) (ap (λ z. doing_of z t) who ∙ at)
        (number d.req s.req req) (subst (λ z. Goes e.tree z c t) (sym who) g)
        (subst (λ z. Knowing sent e.tree z (λ to q. ⊥) t) (sym who) k) (λ to q o none. none) tied said
      where
        number : (i j : ℕ) → j ≡ i + 1 → i < j
        number i j is = omega (arith, is)

    req_is : next_req u c ≡ d.req + 1
    req_is = ap (λ o. last_req o + 1) work

    pub call_known : (o : Op) → KnowsCalls paths sent (call b.path x o c).part
    call_known o = starts s t refl req_is refl (λ v aborts. goes_then v u c kept t (keep_root v u root x k (λ q. q) c (λ q. refl)
        (λ q. refl) (λ old is. its v aborts old is (is_free root u x c) refl)) (goes_tree v u kept (uses_object b.path x c.tree) refl
        (λ w. refl))) work (λ call. subst (λ z. IsTiedAt z s.at) (sym (kept_put root x k (root_at root c) c)) (tied k.kept))
        (paths_same paths kept t refl (paths_root paths root (with_keeping x k) c (λ z i. inl i) knows.said))
      where
        r : Root
        r = root_at root c

        old_k : Keeping
        old_k = keeping_of x (root_at root c)

        k : Keeping
        k = renewed (is_free root u x c) (keeping_of x (root_at root c)) (keeping_of x (root_at root c)).kept

        kept : Coord
        kept = on_root root (with_keeping x k) c

        t : Coord
        t = on_root root (with_keeping x k) uses

        s : Steps
        s = call_steps b.path x o (next_req u c) (root_at root c) c k

        its : (v : Tree) → KeepsAborts c.tree v → (old : Known) → kept_of x (root_at root c) ≡ Some old → (free : Bool) →
            is_free root u x c ≡ free →
            IsStill (renewed free (keeping_of x (root_at root c)) (keeping_of x (root_at root c)).kept).kept old ⊎ IsLoose v u c root x
        its v aborts old is true free = inr (loose_of acts paths tree c good v aborts u b found x free)
        its v aborts old is false free = inl (by (keeping_of x (root_at root c)).kept)
          where
            by : (z : Option Known) → IsStill (renewed false (keeping_of x (root_at root c)) z).kept old
            by None = (old, is, refl, refl)
            by (Some y) = (old, is, refl, refl)

        tied : (z : Option Known) → IsTiedAt z (start_at (known_at_start (top_of b.path) x (root_at root c) c z) k.avoid)
        tied None = tt
        tied (Some y) = one (y.recorded && (was_named (top_of b.path) x y.binding (root_at root c) || retains x (root_at root c) c))
          where
            one : (q : Bool) → IsTiedAt (Some y) (start_at (cond q (Some y) None) k.avoid)
            one true = inr (y, refl, refl, refl)
            one false = tt

    pub include_known : (n : ℕ) → KnowsCalls paths sent (include b.path x n c).part
    include_known n = starts (start b.path x (calls.Include n) None unbound (next_req u c)) uses refl req_is refl
        (λ v aborts. goes_tree v u c (uses_object b.path x c.tree) refl (λ w. refl)) work (λ call. let no_way : false ≡ true = call in
        cc) (paths_same paths c uses refl knows.said)

-- ---- the same tree and work, and roots that keep the same

same_known : (paths : Paths) (sent : List Post) (c e : Coord) → e.tree ≡ c.tree → e.doings ≡ c.doings →
    ((r : Uid) → (root_at r e).said ≡ (root_at r c).said) → ((r : Uid) (x : ℕ) → kept_of x (root_at r e) ≡ kept_of x (root_at r c)) →
    KnowsCalls paths sent c → KnowsCalls paths sent e
same_known paths sent c e trees doings said kept knows = record {
  counted = λ p h a i from is own. let f = knows.counted p h a i (from ∙ ap (λ (t : Tree). t.node) trees) is (ap (is_own (actor h.path))
      (sym trees) ∙ own) in record { doing = f.doing; found = work (actor h.path) ∙ f.found; low = f.low; last = f.last };
  calls = λ to k o. ⊎_elim (λ w. inl (record {
    doing = w.doing;
    step = w.step;
    found = work (actor (let h = k.head in h.path)) ∙ w.found;
    now = w.now;
    node = w.node;
    call = w.call;
  })) (λ over. inr (over_same to k over)) (knows.calls to k (back to k o));
  ties = λ u d s found now call.
      subst (λ o. IsTiedAt o s.at) (sym (kept (root_of s.path) s.x)) (knows.ties u d s (sym (work u) ∙ found) now call);
  plans = λ u d m found now. let v = knows.plans u d m (sym (work u) ∙ found) now in
      subst (λ t. IsCovered sent t e u m) (sym trees) (covered_on sent c.tree u c e (ap (λ (t : Tree). t.node) trees)
      (λ w. ap (is_own w) trees) (λ r s i. subst (λ ss. list.In s ss) (sym (said r)) i) u m v);
  said = λ r s i. knows.said r s (subst (λ ss. list.In s ss) (said r) i);
}
  where
    work : (u : Uid) → doing_of u e ≡ doing_of u c
    work u = λ i. cond (is_own u (trees i)) (at_place u.num (doings i)) None

    back : (to : ℕ) (k : Call) → IsOwn sent e to k → IsOwn sent c to k
    back to k o = record {
      asked = subst (λ (t : Tree). IsAsked sent t.node to k) trees o.asked;
      own = ap (is_own (actor (let h = k.head in h.path))) (sym trees) ∙ o.own;
      writing = o.writing;
    }

    over_same : (to : ℕ) (k : Call) → IsOver sent c.tree c to k → IsOver sent e.tree e to k
    over_same to k (Refused r) = Refused r
    over_same to k (Nowhere z) = Nowhere z
    over_same to k (Doomed d) = Doomed (subst (λ t. IsDoomed t (actor (let h = k.head in h.path))) (sym trees) d)
    over_same to k (Spent s) = Spent (subst (λ t. IsSpent t (uids_of (let h = k.head in h.path))) (sym trees) s)
    over_same to k (Answered s) = Answered (record {
      said = s.said;
      there = subst (λ ss. list.In s.said ss) (sym (said (root_of (let h = k.head in h.path)))) s.there;
      path = s.path;
      object = s.object;
      kept = s.kept;
      keeps = kept (root_of (let h = k.head in h.path)) k.x ∙ s.keeps;
      binding = s.binding;
      server = s.server;
    })

pub telling_known : (paths : Paths) (sent : List Post) (c : Coord) (telling : List (Uid × Intent)) → KnowsCalls paths sent c →
    KnowsCalls paths sent (record c { telling = telling })
telling_known paths sent c telling knows =
    same_known paths sent c (record c { telling = telling }) refl refl (λ r. refl) (λ r x. refl) knows

-- ---- requests that go out

went_known : (paths : Paths) (sent : List Post) (root : Uid) (w : Went) (c : Coord) → KnowsCalls paths sent c →
    KnowsCalls paths sent (on_root root (with_went w) c)
went_known paths sent root w c knows = same_known paths sent c (on_root root (with_went w) c) refl refl (λ r. said r)
    (λ r x. kept_same root r x (with_went w) c (went_keeping w (root_at root c))) knows
  where
    said : (r : Uid) → (root_at r (on_root root (with_went w) c)).said ≡ (root_at r c).said
    said r = ⊎_elim
        (λ same. ap (λ n. (unwrap_or (at_number n (put_number root.num (with_went w (root_at root c)) c.roots)) no_root).said) (sym same)
        ∙ ap (λ o. (unwrap_or o no_root).said) (put_number_same root.num (with_went w (root_at root c)) c.roots)
        ∙ went_said w (root_at root c) ∙ ap (λ n. (unwrap_or (at_number n c.roots) no_root).said) same)
        (λ apart. ap (λ o. (unwrap_or o no_root).said) (put_number_other root.num r.num (with_went w (root_at root c)) c.roots apart.0))
        (one_or_two root.num r.num)

pub asks_known : (paths : Paths) (sent : List Post) (p : Path) (req : ℕ) (as_asked : List (ℕ × Ask)) (c : Coord) → KnowsCalls paths sent c →
    KnowsCalls paths sent (asks_all p req as_asked c).part
asks_known paths sent p req [] c knows = knows
asks_known paths sent p req (a ∷ rest) c knows = asks_known paths sent p req rest (asks_node p req a c).part
    (went_known paths sent (root_of p) (record { path = uids_of p; node = a.0; invoke = is_invoke_ask a.1 }) c knows)

pub again_known : (paths : Paths) (sent : List Post) (ds : List Doing) (c : Coord) → KnowsCalls paths sent c →
    KnowsCalls paths sent (again_all ds c).part
again_known paths sent [] c knows = knows
again_known paths sent (d ∷ ds) c knows = again_known paths sent ds (again_now c d.now).part (by d.now)
  where
    by : (n : Now) → KnowsCalls paths sent (again_now c n).part
    by Idle = knows
    by (Calling s) = went_known paths sent (root_of s.path) (record {
      path = uids_of s.path;
      node = calls.next_node s;
      invoke = is_invoke_ask (calls.next_ask (ends_of (root_of s.path) c.tree) s);
    }) c knows
    by (Committing m) = asks_known paths sent (plan_of m).path (plan_of m).req (commit.waiting m) c knows
