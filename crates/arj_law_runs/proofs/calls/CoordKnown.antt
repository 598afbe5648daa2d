-- What a coordinator knows, once one of its actions has gone on.
use Rattle.arj_law_parts.proofs.Words
use Words.{◌≡◌, ◌≢◌, ◌⊎◌, ◌≤◌, ◌<◌, ◌==◌, ◌&&◌, ◌||◌, ℕ, zero, suc, List, [], ◌∷◌, ◌++◌, Bool, true, false, cond, Option, Some, None, refl}
use Words.{sym, ◌∙◌, ap, subst, inl, inr, ⊎_elim, arith, length, filter, not, unwrap_or, list_all, list_any, and_parts, uid_cases}
use Words.{uid_other, uid_same, before_last, Uid, Ask, End, Head, first_uid, front, is_on, last_uid, uid_eq, actor, Known, Steps, Machine}
use Words.{Calling, Committing, Coord, Doing, Keeping, Root, Said, Went, branch_calls, calls_now, calls_on, change_doing, doing_of, is_call}
use Words.{is_free, kept_of, no_keeping, no_root, of_root, on_doing, on_root, others_call, root_at, said_of, same_went, with_keeping}
use Words.{with_went, at_number, put_number, Branch, Tree, branch_of, has_end, ended_so, is_aborted, is_own, is_spent, root_of}
use Words.{put_same as put_number_same, put_other as put_number_other, one_or_two, Post}
use Words.list
use Words.ending
use Rattle.arj_law_runs.proofs.Terms
use Terms.{Action, IsAsking, IsBusy, IsGoodCoord, IsTree, Paths, IsDecided, found_by, own_is, place_in, shorter, doing_put, Call}
use Terms.{AreOfPaths, IsCovered, IsOver, IsOwn, IsSpent, IsTied, IsWaiting, KnowsCalls}
use Rattle.arj_law_runs.proofs.calls.{CommitPlans.any_in, CommitPlans.in_kept, ServerCalls.never}
use Rattle.arj_law_runs.proofs.calls.CoordSteps.{Goes, IsLoose, IsStill, KeepsAborts, Knowing, goes_root}
use Rattle.arj_law_runs.specs.calls.Coords.{IsCounted}

-- ---- what is kept of one object

-- another keeping of the object leaves what is kept of others
pub keep_root : (t : Tree) (u : Uid) (root : Uid) (x : ℕ) (k : Keeping) (g : Root → Root) (c : Coord) →
    ((r : Root) → (g r).keeping ≡ r.keeping) → ((r : Root) → (g r).said ≡ r.said) →
    ((old : Known) → kept_of x (root_at root c) ≡ Some old → IsStill k.kept old ⊎ IsLoose t u c root x)
    → Goes t u c (on_root root (λ r. with_keeping x k (g r)) c)
keep_root t u root x k g c same says its = goes_root t u root (λ r. with_keeping x k (g r)) c
    (λ s i. subst (λ ss. list.In s ss) (sym (says (root_at root c))) i) (λ y old is. ⊎_elim
    (λ at. ⊎_elim (λ (f : IsStill k.kept old). inl (
      f.0,
      ap (λ z. kept_of z (with_keeping x k (g (root_at root c)))) (sym at)
          ∙ ap (λ o. (unwrap_or o no_keeping).kept) (put_number_same x k (g (root_at root c)).keeping) ∙ f.1,
      f.2,
      f.3,
    )) (λ l. inr (subst (IsLoose t u c root) at l)) (its old (ap (λ z. kept_of z (root_at root c)) at ∙ is)))
    (λ apart. inl (
      old,
      ap (λ o. (unwrap_or o no_keeping).kept)
          (put_number_other x y k (g (root_at root c)).keeping apart.0 ∙ ap (at_number y) (same (root_at root c))) ∙ is,
      refl,
      refl,
    )) (one_or_two x y))

-- what a root keeps isn't changed
pub same_root : (t : Tree) (u : Uid) (root : Uid) (f : Root → Root) (c : Coord) → ((s : Said) → list.In s (root_at root c).said →
    list.In s (f (root_at root c)).said) → (f (root_at root c)).keeping ≡ (root_at root c).keeping → Goes t u c (on_root root f c)
same_root t u root f c says keeps =
    goes_root t u root f c says (λ x old is. inl (old, ap (λ m. (unwrap_or (at_number x m) no_keeping).kept) keeps ∙ is, refl, refl))

-- a request that goes out is noted
pub went_root : (t : Tree) (u : Uid) (root : Uid) (w : Went) (c : Coord) → Goes t u c (on_root root (with_went w) c)
went_root t u root w c = same_root t u root (with_went w) c (λ s i. subst (λ ss. list.In s ss)
    (sym (said (list_any (same_went w) (root_at root c).went))) i) (keeping (list_any (same_went w) (root_at root c).went))
  where
    said : (b : Bool) →
        (cond b (root_at root c) (record (root_at root c) { went = (root_at root c).went ++ w ∷ [] })).said ≡ (root_at root c).said
    said true = refl
    said false = refl

    keeping : (b : Bool) →
        (cond b (root_at root c) (record (root_at root c) { went = (root_at root c).went ++ w ∷ [] })).keeping ≡ (root_at root c).keeping
    keeping true = refl
    keeping false = refl

pub went_said : (w : Went) (r : Root) → (with_went w r).said ≡ r.said
went_said w r = by (list_any (same_went w) r.went)
  where
    by : (b : Bool) → (cond b r (record r { went = r.went ++ w ∷ [] })).said ≡ r.said
    by true = refl
    by false = refl

-- ---- what roots were answered

pub paths_root : (paths : Paths) (root : Uid) (f : Root → Root) (c : Coord) → ((s : Said) → list.In s (f (root_at root c)).said →
    list.In s (root_at root c).said ⊎ (s.path ≡ paths (last_uid s.path))) → AreOfPaths paths c → AreOfPaths paths (on_root root f c)
paths_root paths root f c says all r s i = ⊎_elim
    (λ same. ⊎_elim (λ old. all root s old) (λ new. new)
    (says s (subst (λ (q : Root). list.In s q.said) (ap (λ n. unwrap_or (at_number n (put_number root.num (f (root_at root c)) c.roots))
    no_root) (sym same) ∙ ap (λ o. unwrap_or o no_root) (put_number_same root.num (f (root_at root c)) c.roots)) i)))
    (λ apart. all r s (subst (λ (q : Root). list.In s q.said) (ap (λ o. unwrap_or o no_root)
    (put_number_other root.num r.num (f (root_at root c)) c.roots apart.0)) i)) (one_or_two root.num r.num)

pub paths_same : (paths : Paths) (c e : Coord) → e.roots ≡ c.roots → AreOfPaths paths c → AreOfPaths paths e
paths_same paths c e same all r s i =
    all r s (subst (λ (rs : List (ℕ × Root)). list.In s (unwrap_or (at_number r.num rs) no_root).said) same i)

pub roots_work : (u : Uid) (f : Doing → Doing) (c : Coord) → (on_doing u f c).roots ≡ c.roots
roots_work u f c = by (doing_of u c)
  where
    by : (o : Option Doing) → (change_doing f u c o).roots ≡ c.roots
    by None = refl
    by (Some d) = refl

-- ---- the work of one action

pub doing_here : (u : Uid) (f : Doing → Doing) (c : Coord) (d : Doing) → doing_of u c ≡ Some d → doing_of u (on_doing u f c) ≡ Some (f d)
doing_here u f c d found = ap (λ o. doing_of u (change_doing f u c o)) found ∙ doing_put u (f d) d c found

-- the action's last number doesn't fall, and if it waits in another call it rises
abbrev pub IsLaterWork : Doing → Doing → Type 0
IsLaterWork d e = (e ≡ d) ⊎ ((d.req ≤ e.req) × ((s : Steps) → e.now ≡ Calling s → d.req < e.req))

-- ---- all that is known

pub knows_of : (paths : Paths) (sent : List Post) (u : Uid) (Q : ℕ → Call → Type 0) (c e : Coord) → Goes e.tree u c e → ((d : Doing) →
    doing_of u c ≡ Some d → (q : Doing) × (doing_of u e ≡ Some q) × IsLaterWork d q) → KnowsCalls paths sent c → Knowing sent e.tree u Q e
    → ((to : ℕ) (k : Call) → IsOwn sent e to k → Q to k → IsWaiting e to k ⊎ IsOver sent e.tree e to k) →
    ((d : Doing) (s : Steps) → doing_of u e ≡ Some d → d.now ≡ Calling s → IsTied e s) → ((d : Doing) (m : Machine) →
    doing_of u e ≡ Some d → d.now ≡ Committing m → IsCovered sent e.tree e u m) → AreOfPaths paths e → KnowsCalls paths sent e
knows_of paths sent u Q c e g works knows k mine tie plan said = record {
  counted = λ p h a i from is own. counted p h a (knows.counted p h a i (from ∙ g.node) is (sym (g.own (actor h.path)) ∙ own));
  calls = λ to q o. ⊎_elim (λ its. mine to q o its) (λ z. ⊎_elim (λ w. inl w.0) (λ over. inr over) z) (k.calls to q o);
  ties = λ w d s found now.
      ⊎_elim (λ same. tie d s (ap (λ z. doing_of z e) (sym same) ∙ found) now) (λ other. k.ties w d s other found now) (uid_cases w u);
  plans = λ w d m found now. ⊎_elim (λ same. subst (λ z. IsCovered sent e.tree e z m) (sym same)
      (plan d m (ap (λ z. doing_of z e) (sym same) ∙ found) now)) (λ other. k.plans w d m other found now) (uid_cases w u);
  said = said;
}
  where
    counted : (p : Post) (h : Head) (a : Ask) → IsCounted c p.to h a → IsCounted e p.to h a
    counted p h a f = ⊎_elim (λ same. by same (works f.doing (ap (λ z. doing_of z c) (sym same) ∙ f.found)))
        (λ other. record { doing = f.doing; found = g.doings (actor h.path) other ∙ f.found; low = f.low; last = f.last })
        (uid_cases (actor h.path) u)
      where
        less : (i j l : ℕ) → i ≤ j → j < l → i ≡ l → ⊥
        less i j l a b is = omega (arith, a, b, is)

        by : actor h.path ≡ u → (q : Doing) × (doing_of u e ≡ Some q) × IsLaterWork f.doing q → IsCounted e p.to h a
        by same (q, found, inl is) = record {
          doing = q;
          found = ap (λ z. doing_of z e) same ∙ found;
          low = subst (λ (z : Doing). h.req ≤ z.req) (sym is) f.low;
          last = λ s now at. f.last s (ap (λ (z : Doing). z.now) (sym is) ∙ now) (at ∙ ap (λ (z : Doing). z.req) is);
        }
        by same (q, found, inr more) = record {
          doing = q;
          found = ap (λ z. doing_of z e) same ∙ found;
          low = omega (arith, f.low, more.0);
          last = λ s now at. absurd (less h.req f.doing.req q.req f.low (more.1 s now) at);
        }

-- ---- free of what is kept

module _ (acts : List Action) (paths : Paths) (tree : IsTree paths) (c : Coord) (good : IsGoodCoord acts paths c) where
  first_front : (us : List Uid) {h : Uid} → before_last us ≡ Some h → first_uid us ≡ first_uid (front us)
  first_front [] {h} is = let no_way : ◌≡◌ {A = Option Uid} None (Some h) = is in cc
  first_front (x ∷ []) {h} is = let no_way : ◌≡◌ {A = Option Uid} None (Some h) = is in cc
  first_front (x ∷ y ∷ us) is = refl

  alone : (us : List Uid) → before_last us ≡ None → first_uid us ≡ last_uid us
  alone [] is = refl
  alone (x ∷ []) is = refl
  alone (x ∷ y ∷ us) is = absurd (by x y us is)
    where
      by : (x y : Uid) (us : List Uid) → before_last (x ∷ y ∷ us) ≡ None → ⊥
      by x y [] e = let no_way : ◌≡◌ {A = Option Uid} (Some x) None = e in cc
      by x y (z ∷ us) e = by y z us e

  -- the root of an action is here
  pub root_there : (k : ℕ) (w : Uid) (b : Branch) → length (paths w) ≤ k → branch_of w c.tree ≡ Some b →
      (r : Branch) × (branch_of (first_uid (paths w)) c.tree ≡ Some r)
  root_there zero w b short found = by (paths w) refl short
    where
      by : (us : List Uid) → paths w ≡ us → length us ≤ 0 → (r : Branch) × (branch_of (first_uid us) c.tree ≡ Some r)
      by [] is le = (
        b,
        ap (λ z. branch_of z c.tree)
            (sym (sym (good.tree.lists.places w b found) ∙ ap last_uid (good.tree.lists.paths_are w b found ∙ is))) ∙ found,
      )
      by (x ∷ us) is le = absurd (let z = le in omega (arith, z))
  root_there (suc k) w b short found = by (before_last (paths w)) refl (λ h p le at. root_there k h p le at)
    where
      own : last_uid (paths w) ≡ w
      own = ap last_uid (sym (good.tree.lists.paths_are w b found)) ∙ good.tree.lists.places w b found

      by : (o : Option Uid) → before_last (paths w) ≡ o → ((h : Uid) (p : Branch) → length (paths h) ≤ k → branch_of h c.tree ≡ Some p →
          (r : Branch) × (branch_of (first_uid (paths h)) c.tree ≡ Some r)) →
          (r : Branch) × (branch_of (first_uid (paths w)) c.tree ≡ Some r)
      by None is ih = (b, ap (λ z. branch_of z c.tree) (alone (paths w) is ∙ own) ∙ found)
      by (Some h) is ih =
          let p = good.tree.lists.parents w h b found is in
          let f = tree.heir w h is in
          let r = ih h p.0 (shorter paths tree c.tree good.tree.lists w h k is f.0 short) p.1 in
          (r.0, ap (λ z. branch_of z c.tree) (first_front (paths w) is ∙ ap first_uid f.0) ∙ r.1)

  pub root_own : (w : Uid) (b : Branch) → branch_of w c.tree ≡ Some b → is_own (root_of b.path) c.tree ≡ true
  root_own w b found =
      let r = root_there (length (paths w)) w b (omega arith) found in
      subst (λ z. is_own z c.tree ≡ true) (ap first_uid (sym (good.tree.lists.paths_are w b found)))
      (found_by (first_uid (paths w)) c.tree r.0 r.1).0

  -- where the root is free of what it keeps, nothing else stands on it
  pub loose_of : (t : Tree) → KeepsAborts c.tree t → (u : Uid) (b : Branch) → branch_of u c.tree ≡ Some b → (x : ℕ) →
      is_free (root_of b.path) u x c ≡ true → IsLoose t u c (root_of b.path) x
  loose_of t decides u b found x free = record {
    spent = λ s i same. spent s (all_of (said_of root c) parts.1 s i) same;
    alone =
        λ w d s other at now object call num. never (waits w d s other at now object call num) (no_other (others_call root u x c) parts.0);
  }
    where
      root : Uid
      root = root_of b.path

      parts : (not (others_call (root_of b.path) u x c) ≡ true)
          × (list_all (λ (s : Said). not (s.x == x) || is_spent s.path c.tree) (said_of (root_of b.path) c) ≡ true)
      parts = and_parts (not (others_call (root_of b.path) u x c))
          (list_all (λ (s : Said). not (s.x == x) || is_spent s.path c.tree) (said_of (root_of b.path) c)) free

      no_other : (q : Bool) → not q ≡ true → q ≡ false
      no_other true h = let no_way : false ≡ true = h in cc
      no_other false h = refl

      all_of : (ss : List Said) → list_all (λ (s : Said). not (s.x == x) || is_spent s.path c.tree) ss ≡ true → (s : Said) → list.In s ss →
          (not (s.x == x) || is_spent s.path c.tree) ≡ true
      all_of [] h s i = absurd i
      all_of (z ∷ zs) h s (inl same) = subst (λ (q : Said). (not (q.x == x) || is_spent q.path c.tree) ≡ true) same
          (and_parts (not (z.x == x) || is_spent z.path c.tree) (list_all (λ (q : Said). not (q.x == x) || is_spent q.path c.tree) zs) h).0
      all_of (z ∷ zs) h s (inr i) = all_of zs (and_parts (not (z.x == x) || is_spent z.path c.tree)
          (list_all (λ (q : Said). not (q.x == x) || is_spent q.path c.tree) zs) h).1 s i

      aborted : (w : Uid) → is_aborted w c.tree ≡ true → IsDecided w ending.Abort c.tree
      aborted w on = at (branch_of w c.tree) refl on
        where
          end_is : (e : Option End) → has_end ending.Abort e ≡ true → e ≡ Some ending.Abort
          end_is None h = let no_way : false ≡ true = h in cc
          end_is (Some ending.Abort) h = refl
          end_is (Some ending.Commit) h = let no_way : false ≡ true = h in cc

          at : (o : Option Branch) → branch_of w c.tree ≡ o → ended_so ending.Abort o ≡ true → IsDecided w ending.Abort c.tree
          at None is h = let no_way : false ≡ true = h in cc
          at (Some q) is h = (q, is, end_is q.ended h)

      spent : (s : Said) → (not (s.x == x) || is_spent s.path c.tree) ≡ true → s.x ≡ x → IsSpent t s.path
      spent s h same = by s.path (sym (λ i. not (at i) || is_spent s.path c.tree) ∙ h)
        where
          at : (s.x == x) ≡ true
          at = ap (λ z. z == x) same ∙ same_number x
            where
              same_number : (n : ℕ) → (n == n) ≡ true
              same_number n = grind arith

          by : (us : List Uid) → list_any (λ w. is_aborted w c.tree) us ≡ true → IsSpent t us
          by [] g = let no_way : false ≡ true = g in cc
          by (v ∷ vs) g = one (is_aborted v c.tree) refl g (by vs)
            where
              last : (p : Bool) {q : Bool} → q ≡ true → (p || q) ≡ true
              last true z = refl
              last false z = z

              one : (q : Bool) → is_aborted v c.tree ≡ q → (q || list_any (λ w. is_aborted w c.tree) vs) ≡ true →
                  (list_any (λ w. is_aborted w c.tree) vs ≡ true → IsSpent t vs) → IsSpent t (v ∷ vs)
              one true e g ih = (v, (λ i. uid_same v i || is_on vs v), decides v (aborted v e))
              one false e g ih = let f = ih g in (f.0, last (uid_eq v f.0) f.1, f.2)

      waits : (w : Uid) (d : Doing) (s : Steps) → w ≢ u → doing_of w c ≡ Some d → d.now ≡ Calling s → s.x ≡ x → is_call s.goal ≡ true →
          (root_of s.path).num ≡ (root_of b.path).num → others_call (root_of b.path) u x c ≡ true
      waits w d s other at now object call num = any_in (branch_calls x u c) q (filter (of_root (root_of b.path)) c.tree.branches) (in_kept
          (of_root (root_of b.path)) q c.tree.branches (place_in w.num q c.tree.branches (found_by w c.tree q asking.found).1) of_it) calls
        where
          asking : IsAsking c.tree w s.path
          asking = subst (IsBusy c.tree w) now (good.busy w d at)

          q : Branch
          q = asking.branch

          place : actor asking.branch.path ≡ w
          place = good.tree.lists.places w asking.branch asking.found

          of_it : of_root (root_of b.path) asking.branch ≡ true
          of_it = ap (λ z. uid_eq z (root_of b.path)) (own_is (root_of asking.branch.path) (root_of b.path) c.tree (root_own w asking.branch
              asking.found) (root_own u b found) (ap (λ p. (root_of p).num) asking.path ∙ num)) ∙ uid_same (root_of b.path)

          same_number : (n : ℕ) → (n == n) ≡ true
          same_number n = grind arith

          calls : branch_calls x u c asking.branch ≡ true
          calls = (λ i. not (uid_eq (place i) u) && calls_now x (doing_of (place i) c)) ∙ (λ i. not (uid_other w u other i)
              && calls_now x (at i)) ∙ ap (calls_on x) now ∙ (λ i. (ap (λ z. z == x) object ∙ same_number x) i && call i)
