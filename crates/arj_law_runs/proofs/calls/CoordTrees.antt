-- Which actions of a tree can only abort, and what has ended below an action.
use Rattle.arj_law_parts.proofs.Words
use Words.{◌≡◌, ◌≢◌, ◌⊎◌, ◌≤◌, ℕ, zero, suc, List, [], ◌∷◌, ◌++◌, Bool, true, false, cond, ◌||◌, Option, Some, None, refl, sym, ◌∙◌, ap}
use Words.{subst, inl, inr, ⊎_elim, arith, length, is_some, uid_cases, uid_is, uid_same, before_last, Uid, End, Kind, Path, first_uid}
use Words.{front, is_on, last_uid, uid_eq, Branch, Tree, at_place, begun_by, behind, branch_of, doomed_at, doomed_branch, ended_at}
use Words.{ended_branch, has_open_child, is_own, set_place, place_other}
use Words.ending
use Rattle.arj_law_runs.proofs.Terms
use Terms.{IsTree, Paths, HasLists, above_of, after, all_over, at_others, at_u, ended_b, found_by, grown_cases, grown_still, own_is}
use Terms.{shorter, IsDoomed, IsFree}
use Rattle.arj_law_parts.proofs.parts.GoodTrees.{place_same}
use Rattle.arj_law_parts.specs.parts.Trees.{IsClosed}
use Rattle.arj_law_runs.proofs.calls.ServerCalls.{never, some_is}

-- From one tree to the next, who can only abort can so still, and nobody else but this action.
pub record KeepsDoom (u : Uid) (t v : Tree) : Type 0 where
  pub doomed : (w : Uid) → IsDoomed t w → IsDoomed v w
  pub free : (w : Uid) → w ≢ u → IsFree t w → IsFree v w

pub doom_same : (u : Uid) (t v : Tree) → ((w : Uid) → branch_of w v ≡ branch_of w t) → KeepsDoom u t v
doom_same u t v same = record { doomed = λ w d. (d.0, same w ∙ d.1, d.2, d.3); free = λ w other f b is. f b (sym (same w) ∙ is) }

pub doom_then : (u : Uid) (t v w : Tree) → KeepsDoom u t v → KeepsDoom u v w → KeepsDoom u t w
doom_then u t v w a b = record { doomed = λ x d. b.doomed x (a.doomed x d); free = λ x other f. b.free x other (a.free x other f) }

pub doom_is : (u : Uid) (t v : Tree) → t ≡ v → KeepsDoom u t v
doom_is u t v is = doom_same u t v (λ w. ap (branch_of w) (sym is))

-- an action is doomed that hasn't committed
pub doom_doomed : (u : Uid) (t : Tree) → KeepsDoom u t (doomed_at u t)
doom_doomed u t = by (branch_of u t) refl
  where
    by : (o : Option Branch) → branch_of u t ≡ o → KeepsDoom u t (doomed_branch u t o)
    by None none = doom_is u t t refl
    by (Some b) found = record {
      doomed = λ w d. ⊎_elim (λ same. (
        new,
        ap (λ z. branch_of z v) same ∙ here,
        refl,
        λ is. d.3 (ap (λ (z : Branch). z.ended) (some_is (sym d.1 ∙ ap (λ z. branch_of z t) same ∙ found)) ∙ is),
      )) (λ other. (d.0, there w other ∙ d.1, d.2, d.3)) (uid_cases w u);
      free = λ w other f q is. f q (sym (there w other) ∙ is);
    }
      where
        new : Branch
        new = record b { doomed = true }

        v : Tree
        v = record t { branches = set_place u.num (record b { doomed = true }) t.branches }

        here : branch_of u (record t { branches = set_place u.num (record b { doomed = true }) t.branches })
            ≡ Some (record b { doomed = true })
        here = let q = found_by u t b found in (λ i. cond (q.0 i) (at_place u.num (set_place u.num (record b { doomed = true }) t.branches))
            None) ∙ place_same u.num (record b { doomed = true }) b t.branches q.1

        there : (w : Uid) → w ≢ u →
            branch_of w (record t { branches = set_place u.num (record b { doomed = true }) t.branches }) ≡ branch_of w t
        there w other = one (is_own w t) refl
          where
            one : (c : Bool) → is_own w t ≡ c → cond c (at_place w.num (set_place u.num (record b { doomed = true }) t.branches)) None
                ≡ cond c (at_place w.num t.branches) None
            one true own = place_other u.num w.num (record b { doomed = true }) t.branches
                (λ same. other (own_is w u t own (found_by u t b found).0 same))
            one false own = refl

pub doomed_there : (u : Uid) (t : Tree) (b : Branch) → branch_of u t ≡ Some b → b.ended ≢ Some ending.Commit → IsDoomed (doomed_at u t) u
doomed_there u t b found open_yet = subst (λ o. IsDoomed (doomed_branch u t o) u) (sym found) (
  record b { doomed = true },
  (let q = found_by u t b found in (λ i. cond (q.0 i) (at_place u.num (set_place u.num (record b { doomed = true }) t.branches)) None)
      ∙ place_same u.num (record b { doomed = true }) b t.branches q.1),
  refl,
  open_yet,
)

-- an end: an abort, or the commit of an action that isn't doomed
pub doom_ended : (x u : Uid) (e : End) (t : Tree) → (e ≡ ending.Commit → IsFree t u) → KeepsDoom x t (ended_at u e t)
doom_ended x u e t free = by (branch_of u t) refl
  where
    by : (o : Option Branch) → branch_of u t ≡ o → KeepsDoom x t (ended_branch u e t o)
    by None none = doom_is x t t refl
    by (Some b) found = record {
      doomed = λ w d. ⊎_elim (λ same. own w same d) (λ other. (d.0, at_others u e t b found w other ∙ d.1, d.2, d.3)) (uid_cases w u);
      free = λ w other f q is. ⊎_elim
          (λ same. ap (λ (z : Branch). z.doomed) (some_is (sym is ∙ ap (λ z. branch_of z (after u e t b found)) same ∙ at_u u e t b found))
          ∙ f b (ap (λ z. branch_of z t) same ∙ found)) (λ apart. f q (sym (at_others u e t b found w apart) ∙ is)) (uid_cases w u);
    }
      where
        own : (w : Uid) → w ≡ u → IsDoomed t w → IsDoomed (after u e t b found) w
        own w same d =
            let its : d.0 ≡ b = some_is (sym d.1 ∙ ap (λ z. branch_of z t) same ∙ found) in
            let on : b.doomed ≡ true = ap (λ (z : Branch). z.doomed) (sym its) ∙ d.2 in (
              ended_b u e t b found,
              ap (λ z. branch_of z (after u e t b found)) same ∙ at_u u e t b found,
              on,
              λ is. never on (free (some_is is) b found),
            )

-- an action begins
pub doom_begun : (x : Uid) (k : Kind) (p : Path) (t : Tree) → KeepsDoom x t (begun_by k p t)
doom_begun x k p t = record {
  doomed = λ w d. (d.0, grown_still k p t w d.0 d.1, d.2, d.3);
  free = λ w other f b is. ⊎_elim (λ old. f b old) (λ new. ap (λ (z : Branch). z.doomed) (sym new.1)) (grown_cases k p t w b is);
}

-- ---- below an action

behind_more : (u : Uid) (us : List Uid) (w : Uid) → is_on us u ≡ true → behind u (us ++ w ∷ []) ≡ behind u us ++ w ∷ []
behind_more u [] w on = let no_way : false ≡ true = on in cc
behind_more u (v ∷ vs) w on = by (uid_eq v u) refl on (behind_more u vs w)
  where
    by : (b : Bool) → uid_eq v u ≡ b → (b || is_on vs u) ≡ true → (is_on vs u ≡ true → behind u (vs ++ w ∷ []) ≡ behind u vs ++ w ∷ []) →
        cond b (vs ++ w ∷ []) (behind u (vs ++ w ∷ [])) ≡ cond b vs (behind u vs) ++ w ∷ []
    by true same on ih = refl
    by false other on ih = ih on

-- behind its last Uid, which doesn't stand before, a path has nothing
behind_last : (u : Uid) (us : List Uid) → is_on us u ≡ false → behind u (us ++ u ∷ []) ≡ []
behind_last u [] off = λ i. cond (uid_same u i) [] []
behind_last u (v ∷ vs) off = by (uid_eq v u) refl off (behind_last u vs)
  where
    by : (b : Bool) → uid_eq v u ≡ b → (b || is_on vs u) ≡ false → (is_on vs u ≡ false → behind u (vs ++ u ∷ []) ≡ []) →
        cond b (vs ++ u ∷ []) (behind u (vs ++ u ∷ [])) ≡ []
    by true same off ih = let no_way : true ≡ false = off in cc
    by false other off ih = ih off

on_split : (us : List Uid) (w v : Uid) → is_on (us ++ v ∷ []) w ≡ true → (is_on us w ≡ true) ⊎ (v ≡ w)
on_split [] w v on = one (uid_eq v w) refl on
  where
    one : (b : Bool) → uid_eq v w ≡ b → (b || false) ≡ true → (false ≡ true) ⊎ (v ≡ w)
    one true same h = inr (uid_is v w same)
    one false other h = let no_way : false ≡ true = h in cc
on_split (x ∷ xs) w v on = one (uid_eq x w) refl on (on_split xs w v)
  where
    one : (b : Bool) → uid_eq x w ≡ b → (b || is_on (xs ++ v ∷ []) w) ≡ true →
        (is_on (xs ++ v ∷ []) w ≡ true → (is_on xs w ≡ true) ⊎ (v ≡ w)) → ((b || is_on xs w) ≡ true) ⊎ (v ≡ w)
    one true same h ih = inl refl
    one false other h ih = ih h

split_last : (us : List Uid) {h : Uid} → before_last us ≡ Some h → us ≡ front us ++ last_uid us ∷ []
split_last [] {h} is = let no_way : ◌≡◌ {A = Option Uid} None (Some h) = is in cc
split_last (x ∷ []) {h} is = let no_way : ◌≡◌ {A = Option Uid} None (Some h) = is in cc
split_last (x ∷ y ∷ []) is = refl
split_last (x ∷ y ∷ z ∷ us) is = ap (λ vs. x ∷ vs) (split_last (y ∷ z ∷ us) is)

none_short : (x y : Uid) (us : List Uid) → before_last (x ∷ y ∷ us) ≡ None → ⊥
none_short x y [] is = let no_way : ◌≡◌ {A = Option Uid} (Some x) None = is in cc
none_short x y (z ∷ us) is = none_short y z us is

first_more : (us : List Uid) (v : Uid) → 1 ≤ length us → first_uid (us ++ v ∷ []) ≡ first_uid us
first_more [] v some_it = absurd (let z : 1 ≤ 0 = some_it in omega (arith, z))
first_more (x ∷ xs) v some_it = refl

on_some : (us : List Uid) (u : Uid) → is_on us u ≡ true → 1 ≤ length us
on_some [] u on = let no_way : false ≡ true = on in cc
on_some (x ∷ xs) u on = omega arith

module _ (paths : Paths) (tree : IsTree paths) (t : Tree) (lists : HasLists paths t) (closed : IsClosed paths t) (u : Uid) (c : Branch)
    (there : branch_of u t ≡ Some c) where
  -- what stands on its path behind an action in which nothing is open has ended, and is of its root
  pub record IsBelow (path : List Uid) : Type 0 where
    pub over : has_open_child u t ≡ false → (w : Uid) → is_on (behind u path) w ≡ true →
        (b : Branch) × (branch_of w t ≡ Some b) × (is_some b.ended ≡ true)
    pub root : first_uid path ≡ first_uid (paths u)

  pub nothing_behind : behind u (paths u) ≡ []
  nothing_behind = by (before_last (paths u)) refl
    where
      own : last_uid (paths u) ≡ u
      own = ap last_uid (sym (lists.paths_are u c there)) ∙ lists.places u c there

      by : (o : Option Uid) → before_last (paths u) ≡ o → behind u (paths u) ≡ []
      by (Some h) is = let f = tree.heir u h is in
          ap (behind u) (split_last (paths u) is ∙ ap (λ z. front (paths u) ++ z ∷ []) own) ∙ behind_last u (front (paths u)) f.1
      by None is = by_length (paths u) is own
        where
          by_length : (us : List Uid) → before_last us ≡ None → last_uid us ≡ u → behind u us ≡ []
          by_length [] none last = refl
          by_length (x ∷ []) none last = by_same (uid_eq x u)
            where
              by_same : (b : Bool) → cond b [] (behind u []) ≡ []
              by_same true = refl
              by_same false = refl
          by_length (x ∷ y ∷ us) none last = absurd (none_short x y us none)

  pub is_below : (k : ℕ) (w : Uid) (b : Branch) → length (paths w) ≤ k → branch_of w t ≡ Some b → is_on (paths w) u ≡ true →
      IsBelow (paths w)
  is_below zero w b short found on = absurd (let z = on_some (paths w) u on in omega (arith, z, short))
  is_below (suc k) w b short found on = ⊎_elim
      (λ same. record {
        over = λ none v on_it. let no_way : false ≡ true = sym (ap (λ us. is_on us v) (ap (λ z. behind u (paths z)) same ∙ nothing_behind))
            ∙ on_it in cc;
        root = ap (λ z. first_uid (paths z)) same;
      })
      (λ other. up other (λ h p. is_below k h p) (above_of paths tree t lists u w b found on other)) (uid_cases w u)
    where
      up : w ≢ u → ((h : Uid) (p : Branch) → length (paths h) ≤ k → branch_of h t ≡ Some p → is_on (paths h) u ≡ true → IsBelow (paths h))
          → (h : Uid) × (before_last (paths w) ≡ Some h) × (is_on (paths h) u ≡ true) × (front (paths w) ≡ paths h) → IsBelow (paths w)
      up other rest (h, parent, above, is) =
          let p = lists.parents w h b found parent in
          let ih = rest h p.0 (shorter paths tree t lists w h k parent is short) p.1 above in
          let own : last_uid (paths w) ≡ w = ap last_uid (sym (lists.paths_are w b found)) ∙ lists.places w b found in
          let whole : paths w ≡ paths h ++ w ∷ [] = split_last (paths w) parent ∙ (λ i. is i ++ own i ∷ []) in
          record {
            over = λ none v on_it. ⊎_elim (λ low. ih.over none v low) (λ last. (
              b,
              ap (λ z. branch_of z t) (sym last) ∙ found,
              all_over paths tree t lists u closed none w b found (ap (λ us. is_on us u) (lists.paths_are w b found) ∙ on) other,
            )) (on_split (behind u (paths h)) v w
                (sym (ap (λ us. is_on us v) (ap (behind u) whole ∙ behind_more u (paths h) w above)) ∙ on_it));
            root = ap first_uid whole ∙ first_more (paths h) w (on_some (paths h) u above) ∙ ih.root;
          }
