-- Of each object that a commit finds called its root keeps a binding: no call that counts for an open top has an aborted action on its
-- path.
use Rattle.arj_law_parts.proofs.Words
use Words.{◌≡◌, ◌⊎◌, ◌≤◌, ◌==◌, ◌&&◌, ◌||◌, ℕ, zero, suc, List, [], ◌∷◌, ◌++◌, Bool, true, false, cond, filter, length, not, Option, Some}
use Words.{None, refl, sym, ◌∙◌, ap, subst, inl, inr, ⊎_elim, arith, is_some, list_any, and_parts, eqb-true, or_cases, uid_cases, uid_is}
use Words.{uid_same, before_last, Uid, first_uid, front, is_on, last_uid, uid_eq, uids_of, actor, Coord, Said, counts}
use Words.{is_constituent_branch, is_kept_top, is_retained, kept_of, retained_in, root_at, second_uid, survives, Branch, Tree, behind}
use Words.{branch_of, ended_so, has_end, is_committed, is_merged, root_of, Post}
use Words.list
use Words.ending
use Rattle.arj_law_runs.proofs.Terms
use Terms.{Action, IsGoodCoord, IsTree, Paths, IsDecided, on_more, path_some, above_of, over_below, own_is, shorter, IsThere, KeepsCalled}
use Terms.{KnowsBinds}
use Rattle.arj_law_runs.proofs.{addresses.Lists.never, calls.CoordKnown.root_own}
use Rattle.arj_law_runs.specs.addresses.Binds.{IsSaid}

-- ---- lists

-- an answered call on the object that counts
pub counted_said : (x : ℕ) (p : Said → Bool) (ss : List Said) → list_any (λ (s : Said). s.x == x) (filter p ss) ≡ true →
    (s : Said) × list.In s ss × (s.x ≡ x) × (p s ≡ true)
counted_said x p [] is = let no_way : false ≡ true = is in cc
counted_said x p (s ∷ ss) is = by (p s) refl is (counted_said x p ss)
  where
    later : (t : Said) × list.In t ss × (t.x ≡ x) × (p t ≡ true) → (t : Said) × list.In t (s ∷ ss) × (t.x ≡ x) × (p t ≡ true)
    later f = (f.0, inr f.1, f.2, f.3)

    by : (b : Bool) → p s ≡ b → list_any (λ (t : Said). t.x == x) (cond b (s ∷ filter p ss) (filter p ss)) ≡ true →
        (list_any (λ (t : Said). t.x == x) (filter p ss) ≡ true → (t : Said) × list.In t ss × (t.x ≡ x) × (p t ≡ true)) →
        (t : Said) × list.In t (s ∷ ss) × (t.x ≡ x) × (p t ≡ true)
    by true on h ih = ⊎_elim (λ same. (s, inl refl, eqb-true s.x x same, on)) (λ rest. later (ih rest))
        (or_cases (s.x == x) (list_any (λ (t : Said). t.x == x) (filter p ss)) h)
    by false off h ih = later (ih h)

behind_more : (u : Uid) (us : List Uid) (w : Uid) → is_on us u ≡ true → behind u (us ++ w ∷ []) ≡ behind u us ++ w ∷ []
behind_more u [] w on = let no_way : false ≡ true = on in cc
behind_more u (v ∷ vs) w on = by (uid_eq v u) on (behind_more u vs w)
  where
    by : (b : Bool) → (b || is_on vs u) ≡ true → (is_on vs u ≡ true → behind u (vs ++ w ∷ []) ≡ behind u vs ++ w ∷ []) →
        cond b (vs ++ w ∷ []) (behind u (vs ++ w ∷ [])) ≡ cond b vs (behind u vs) ++ w ∷ []
    by true on ih = refl
    by false on ih = ih on

split_last : (us : List Uid) {h : Uid} → before_last us ≡ Some h → us ≡ front us ++ last_uid us ∷ []
split_last [] {h} is = let no_way : ◌≡◌ {A = Option Uid} None (Some h) = is in cc
split_last (x ∷ []) {h} is = let no_way : ◌≡◌ {A = Option Uid} None (Some h) = is in cc
split_last (x ∷ y ∷ []) is = refl
split_last (x ∷ y ∷ z ∷ us) is = ap (λ vs. x ∷ vs) (split_last (y ∷ z ∷ us) is)

on_front : (us vs : List Uid) (w : Uid) → is_on us w ≡ true → is_on (us ++ vs) w ≡ true
on_front [] vs w on = let no_way : false ≡ true = on in cc
on_front (x ∷ us) vs w on = by (uid_eq x w) on (on_front us vs w)
  where
    by : (b : Bool) → (b || is_on us w) ≡ true → (is_on us w ≡ true → is_on (us ++ vs) w ≡ true) → (b || is_on (us ++ vs) w) ≡ true
    by true h ih = refl
    by false h ih = ih h

on_last : (us : List Uid) (w : Uid) → is_on (us ++ w ∷ []) w ≡ true
on_last [] w = λ i. uid_same w i || false
on_last (x ∷ us) w = by (uid_eq x w) (on_last us w)
  where
    by : (b : Bool) → is_on (us ++ w ∷ []) w ≡ true → (b || is_on (us ++ w ∷ []) w) ≡ true
    by true h = refl
    by false h = h

-- all behind an action were committed
merged_in : (t : Tree) (us : List Uid) (w : Uid) → not (list_any (λ v. not (is_committed v t)) us) ≡ true → is_on us w ≡ true →
    is_committed w t ≡ true
merged_in t [] w all on = let no_way : false ≡ true = on in cc
merged_in t (v ∷ vs) w all on = by (is_committed v t) refl all (merged_in t vs w)
  where
    by : (b : Bool) → is_committed v t ≡ b → not (not b || list_any (λ z. not (is_committed z t)) vs) ≡ true →
        (not (list_any (λ z. not (is_committed z t)) vs) ≡ true → is_on vs w ≡ true → is_committed w t ≡ true) → is_committed w t ≡ true
    by true is h ih =
        ⊎_elim (λ same. ap (λ z. is_committed z t) (sym (uid_is v w same)) ∙ is) (λ rest. ih h rest) (or_cases (uid_eq v w) (is_on vs w) on)
    by false is h ih = let no_way : false ≡ true = h in cc

-- who was aborted hasn't committed
not_both : (t : Tree) (w : Uid) → is_committed w t ≡ true → IsDecided w ending.Abort t → ⊥
not_both t w committed d = never committed (ap (ended_so ending.Commit) d.1 ∙ ap (has_end ending.Commit) d.2)

module _ (begun : List Action) (paths : Paths) (tree : IsTree paths) (sent : List Post) (k : ℕ) (c : Coord)
    (good : IsGoodCoord begun paths c) (knows : KnowsBinds sent k c) (b : Branch) (found : branch_of (actor b.path) c.tree ≡ Some b)
    (opened : is_some b.ended ≡ false) where
  abbrev u : Uid
  u = actor b.path

  abbrev root : Uid
  root = root_of b.path

  -- nothing above an open action was aborted
  above_open : (w : Uid) → is_on (paths u) w ≡ true → IsDecided w ending.Abort c.tree → ⊥
  above_open w on d = never (over_below paths tree c.tree good.tree.lists good.tree.closed w d.0 d.1 (ap is_some d.2) u b found on) opened

  -- what stands on a path with this action stands behind it, or on its path
  apart : (n : ℕ) (a : Uid) (q : Branch) (w : Uid) → length (paths a) ≤ n → branch_of a c.tree ≡ Some q → is_on (paths a) u ≡ true →
      is_on (paths a) w ≡ true → (is_on (behind u (paths a)) w ≡ true) ⊎ (is_on (paths u) w ≡ true)
  apart zero a q w short there on has = absurd (empty (paths a) short on)
    where
      empty : (us : List Uid) → length us ≤ 0 → is_on us u ≡ true → ⊥
      empty [] le o = let no_way : false ≡ true = o in cc
      empty (x ∷ us) le o = absurd (omega (arith, le))
  apart (suc n) a q w short there on has = ⊎_elim (λ same. inr (ap (λ z. is_on (paths z) w) (sym same) ∙ has))
      (λ other. up (above_of paths tree c.tree good.tree.lists u a q there on other) (λ h p. apart n h p w)) (uid_cases a u)
    where
      own : last_uid (paths a) ≡ a
      own = ap last_uid (sym (good.tree.lists.paths_are a q there)) ∙ good.tree.lists.places a q there

      up : (h : Uid) × (before_last (paths a) ≡ Some h) × (is_on (paths h) u ≡ true) × (front (paths a) ≡ paths h) → ((h : Uid)
          (p : Branch) → length (paths h) ≤ n → branch_of h c.tree ≡ Some p → is_on (paths h) u ≡ true → is_on (paths h) w ≡ true → (is_on
          (behind u (paths h)) w ≡ true) ⊎ (is_on (paths u) w ≡ true)) → (is_on (behind u (paths a)) w ≡ true) ⊎ (is_on (paths u) w ≡ true)
      up (h, parent, above, is) ih =
          let p = good.tree.lists.parents a h q there parent in
          let whole : paths a ≡ paths h ++ a ∷ [] = split_last (paths a) parent ∙ (λ i. is i ++ own i ∷ []) in
          let later : behind u (paths a) ≡ behind u (paths h) ++ a ∷ [] = ap (behind u) whole ∙ behind_more u (paths h) a above in
          ⊎_elim
          (λ low. ⊎_elim (λ z. inl (ap (λ us. is_on us w) later ∙ on_front (behind u (paths h)) (a ∷ []) w z)) (λ z. inr z)
          (ih h p.0 (shorter paths tree c.tree good.tree.lists a h n parent is short) p.1 above low))
          (λ last. inl (ap (λ us. is_on us w) later ∙ ap (λ z. is_on (behind u (paths h) ++ z ∷ []) w) last
          ∙ on_last (behind u (paths h)) w)) (on_more (paths h) a w (sym (ap (λ us. is_on us w) whole) ∙ has))

  module _ (s : Said) (z : IsSaid c.tree root.num (root_at root c) s) (w : Uid) (on : is_on s.path w ≡ true)
      (d : IsDecided w ending.Abort c.tree) where
    its_path : s.path ≡ paths (last_uid s.path)
    its_path = sym z.path ∙ good.tree.lists.paths_are (last_uid s.path) z.branch z.there

    pub surviving : survives u s.path c ≡ true → ⊥
    surviving is =
        let p = and_parts (is_on s.path u) (is_merged u s.path c.tree) is in
        ⊎_elim (λ low. not_both c.tree w (merged_in c.tree (behind u s.path) w p.1 (ap (λ us. is_on (behind u us) w) its_path ∙ low)) d)
        (λ up. above_open w up d)
        (apart (length (paths (last_uid s.path))) (last_uid s.path) z.branch w (omega arith) z.there
        (ap (λ us. is_on us u) (sym its_path) ∙ p.0) (ap (λ us. is_on us w) (sym its_path) ∙ on))

    -- the root of the call is that of the top
    same_root : first_uid s.path ≡ root
    same_root = ap first_uid (sym z.path) ∙ own_is (root_of (let q = z.branch in q.path)) (root_of b.path) c.tree
        (root_own begun paths tree c good (last_uid s.path) z.branch z.there) (root_own begun paths tree c good u b found) z.of

    root_above : is_on (paths u) root ≡ true
    root_above = ap (λ us. is_on us root) (sym (good.tree.lists.paths_are u b found)) ∙ first_on (uids_of b.path) (path_some b.path)
      where
        first_on : (us : List Uid) → 1 ≤ length us → is_on us (first_uid us) ≡ true
        first_on [] some = absurd (let q : 1 ≤ 0 = some in omega (arith, q))
        first_on (v ∷ vs) some = λ i. uid_same v i || is_on vs v

    pub retained : is_retained s.path c ≡ true → ⊥
    retained is = by s.path refl is on
      where
        below : (first top : Uid) (rest : List Uid) → first ≡ root → (is_kept_top top c && survives top (first ∷ top ∷ rest) c) ≡ true →
            is_on (first ∷ top ∷ rest) w ≡ true → ⊥
        below first top rest same kept has =
            let p = and_parts (is_kept_top top c) (survives top (first ∷ top ∷ rest) c) kept in
            let q = and_parts (is_constituent_branch (branch_of top c.tree)) (is_committed top c.tree) p.0 in
            let m = and_parts (is_on (first ∷ top ∷ rest) top) (is_merged top (first ∷ top ∷ rest) c.tree) p.1 in
            ⊎_elim (λ it. above_open w (ap (is_on (paths u)) (sym (uid_is first w it) ∙ same) ∙ root_above) d)
            (λ more. ⊎_elim (λ it. not_both c.tree w (ap (λ v. is_committed v c.tree) (sym (uid_is top w it)) ∙ q.1) d)
            (λ last. not_both c.tree w (merged_in c.tree (behind top (first ∷ top ∷ rest)) w m.1
            (in_rest (uid_eq first top) (uid_eq top top) (uid_same top) last)) d) (or_cases (uid_eq top w) (is_on rest w) more))
            (or_cases (uid_eq first w) (is_on (top ∷ rest) w) has)
          where
            either : (e : Bool) → is_on rest w ≡ true → (e || is_on rest w) ≡ true
            either true h = refl
            either false h = h

            in_rest : (e f : Bool) → f ≡ true → is_on rest w ≡ true → is_on (cond e (top ∷ rest) (cond f rest (behind top rest))) w ≡ true
            in_rest true f is h = either (uid_eq top w) h
            in_rest false f is h = (λ i. is_on (cond (is i) rest (behind top rest)) w) ∙ h

        by : (us : List Uid) → s.path ≡ us → retained_in us c (second_uid us) ≡ true → is_on us w ≡ true → ⊥
        by [] same h has = let no_way : false ≡ true = h in absurd (cc no_way)
        by (x ∷ []) same h has = let no_way : false ≡ true = h in absurd (cc no_way)
        by (x ∷ y ∷ rest) same h has = below x y rest (ap first_uid (sym same) ∙ same_root) h has

  pub plan_keeps : KeepsCalled (actor b.path) (root_at (root_of b.path) c) c
  plan_keeps x is = by (counted_said x (λ (s : Said). counts u s.path c) (let r = root_at root c in r.said) is)
    where
      by : (s : Said) × list.In s (let r = root_at root c in r.said) × (s.x ≡ x) × (counts u s.path c ≡ true) →
          IsThere (kept_of x (root_at root c))
      by (s, i, same, on) =
          let z = knows.said root s i in
          ⊎_elim (λ spent. absurd (⊎_elim (surviving s z spent.0 spent.1 spent.2) (retained s z spent.0 spent.1 spent.2) (or_cases (survives
          u s.path c) (is_retained s.path c) on))) (λ there. subst (λ n. IsThere (kept_of n (root_at root c))) same there) z.kept
