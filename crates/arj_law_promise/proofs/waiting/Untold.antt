-- No action on the path of one that waits was told to have ended.
use Rattle.arj_law_parts.proofs.Words
use Words.{◌≡◌, ◌≤◌, ◌==◌, arith, ℕ, zero, suc, Bool, true, false, List, [], ◌∷◌, length, take, refl, sym, ◌∙◌, ap, subst, ⊎_elim, eqb-true}
use Words.{Option, Some, ◌||◌, is_some, list_any, and_parts, false_from_ne_true, or_cases, uid_is, uid_same, Path, Uid, is_on, tops_of}
use Words.{uid_eq, uids_of, top_path, Naming, is_over, Parts, Server, has_ended, is_told, Node, Branch, branch_of, Seen}
use Rattle.arj_law_promise.proofs.Terms
use Terms.{Action, paths_of, IsAsking, IsGoodCoord, IsTree, begun_tree, path_found, found_by, IsGoodOf, IsMemory, IsUp, ArePastIn}
use Terms.{IsClosedAt, IsPast, live_in}
use Rattle.arj_law_parts.proofs.parts.GoodTrees.{above_of, over_below, shorter}
use Rattle.arj_law_serial.specs.past.Told.{ToldPast}

-- who passes the test stands in the list
any_on : (test : Uid → Bool) (us : List Uid) → list_any test us ≡ true → (w : Uid) × (is_on us w ≡ true) × (test w ≡ true)
any_on test [] is = absurd (cc is)
any_on test (u ∷ us) is = ⊎_elim (λ here. (u, (λ i. same u i || is_on us u), here)) (λ rest. let w = any_on test us rest in
    (w.0, further (uid_eq u w.0) w.1, w.2)) (or_cases (test u) (list_any test us) is)
  where
    same : (u : Uid) → uid_eq u u ≡ true
    same u = uid_same u

    further : (b : Bool) {c : Bool} → c ≡ true → (b || c) ≡ true
    further true is = refl
    further false is = is

on_front : (n : ℕ) (us : List Uid) (w : Uid) → is_on (take n us) w ≡ true → is_on us w ≡ true
on_front zero us w on = absurd (cc on)
on_front (suc n) [] w on = absurd (cc on)
on_front (suc n) (u ∷ us) w on = by (uid_eq u w) (on_front n us w) on
  where
    by : (b : Bool) → (is_on (take n us) w ≡ true → is_on us w ≡ true) → (b || is_on (take n us) w) ≡ true → (b || is_on us w) ≡ true
    by true ih is = refl
    by false ih is = ih is

-- where nobody on the path was told, neither server nor naming was
untold_server : (p : Path) (s : Server) → ((w : Uid) → is_on (uids_of p) w ≡ true → is_told w s ≡ true → ⊥) → has_ended p s ≡ false
untold_server p s none = false_from_ne_true (has_ended p s) (λ is. let w = any_on (λ u. is_told u s) (uids_of p) is in none w.0 w.1 w.2)

untold_naming : (p : Path) (n : Naming) → ((w : Uid) → is_on (uids_of p) w ≡ true → is_on n.told w ≡ true → ⊥) → is_over p n ≡ false
untold_naming p n none = false_from_ne_true (is_over p n) (λ is. let w = any_on (λ u. is_on n.told u) (top_path p) is in
    none w.0 (on_front (tops_of p) (uids_of p) w.0 w.1) w.2)

module _ (acts : List Action) (M : Seen) (good : IsGoodOf acts M) (k : ℕ) (n : Node) (t : Parts) (found : M.nodes k ≡ Some n)
    (up_it : n.live ≡ Some t) where
  pub its_up : IsUp acts M.sent M.labels k (let d = n.disk in d.inc) t
  its_up = let p = good.places k n found in subst (IsMemory acts M.sent M.labels k (let d = n.disk in d.inc)) up_it p.memory

  tree : IsTree (paths_of acts)
  tree = begun_tree acts good.begun

  pub its_coord : IsGoodCoord acts (paths_of acts) t.coord
  its_coord = let g = its_up.good (paths_of acts) tree (path_found acts good.begun) in g.coord

  -- all that stands above an action has a branch
  there_on : (j : ℕ) (w : Uid) (y : Branch) → length (paths_of acts w) ≤ j → branch_of w t.coord.tree ≡ Some y → (z : Uid) →
      is_on (paths_of acts w) z ≡ true → (r : Branch) × (branch_of z t.coord.tree ≡ Some r)
  there_on zero w y short is z on = absurd (empty (paths_of acts w) short on)
    where
      empty : (us : List Uid) → length us ≤ 0 → is_on us z ≡ true → ⊥
      empty [] le o = let no_way : false ≡ true = o in cc no_way
      empty (x ∷ us) le o = omega (arith, le)
  there_on (suc j) w y short is z on = by (uid_eq w z) refl (λ v x less at above. there_on j v x less at z above)
    where
      by : (b : Bool) → uid_eq w z ≡ b → ((v : Uid) (x : Branch) → length (paths_of acts v) ≤ j → branch_of v t.coord.tree ≡ Some x →
          is_on (paths_of acts v) z ≡ true → (r : Branch) × (branch_of z t.coord.tree ≡ Some r)) →
          (r : Branch) × (branch_of z t.coord.tree ≡ Some r)
      by true same ih = (y, ap (λ v. branch_of v t.coord.tree) (sym (uid_is w z same)) ∙ is)
      by false off ih =
          let up = above_of (paths_of acts) tree t.coord.tree its_coord.tree.lists z w y is on (λ same. other same off) in
          let p = its_coord.tree.lists.parents w up.0 y is up.1 in
          ih up.0 p.0 (shorter (paths_of acts) tree t.coord.tree its_coord.tree.lists w up.0 j up.1 up.3 short) p.1 up.2
        where
          other : w ≡ z → uid_eq w z ≡ false → ⊥
          other same off = let no_way : true ≡ false = sym (ap (uid_eq w) (sym same) ∙ uid_same w) ∙ off in cc no_way

  -- nobody on the path of an open action is past
  pub unpast : (u : Uid) (p : Path) → IsAsking t.coord.tree u p → (w : Uid) → is_on (uids_of p) w ≡ true →
      IsPast acts (λ j. live_in (M.nodes j)) w → ⊥
  unpast u p asks w on past = never (over_below (paths_of acts) tree t.coord.tree its_coord.tree.lists its_coord.tree.closed w r.0 r.1 ended
      u asks.branch asks.found above) asks.opened
    where
      above : is_on (paths_of acts u) w ≡ true
      above = ap (λ us. is_on us w) (sym (its_coord.tree.lists.paths_are u asks.branch asks.found) ∙ ap uids_of asks.path) ∙ on

      r : (r : Branch) × (branch_of w t.coord.tree ≡ Some r)
      r = there_on (length (paths_of acts u)) u asks.branch (itself (length (paths_of acts u))) asks.found w above
        where
          itself : (n : ℕ) → n ≤ n
          itself n = omega arith

      node : w.node ≡ k
      node = eqb-true w.node (let x = t.coord.tree in x.node) (and_parts (w.node == (let x = t.coord.tree in x.node))
          (w.inc == (let x = t.coord.tree in x.inc)) (found_by w t.coord.tree r.0 r.1).0).0 ∙ its_up.node

      live : live_in (M.nodes w.node) ≡ Some t
      live = ap (λ j. live_in (M.nodes j)) node ∙ ap live_in found ∙ up_it

      ended : is_some (let b = r.0 in b.ended) ≡ true
      ended = subst (λ (o : Option Parts). IsClosedAt w o) live past.1 r.0 r.1

      never : {b : Bool} → b ≡ true → b ≡ false → ⊥
      never yes_it no_it = let no_way : true ≡ false = sym yes_it ∙ no_it in cc no_way

  module _ (past : ArePastIn acts M) (j : ℕ) (m : Node) (v : Parts) (at_j : M.nodes j ≡ Some m) (up_j : m.live ≡ Some v) (u : Uid)
      (p : Path) (asks : IsAsking t.coord.tree u p) where
    pub told_there : ToldPast acts (λ j. live_in (M.nodes j)) j v
    told_there = let x = past.nodes j m at_j in x.live v up_j

    -- so no server was told of it, nor naming
    pub server_untold : has_ended p v.server ≡ false
    server_untold = untold_server p v.server (λ w on is. unpast u p asks w on (told_there.server w is))

    pub naming_untold : (o : Naming) → v.naming ≡ Some o → is_over p o ≡ false
    naming_untold o is = untold_naming p o (λ w on told. unpast u p asks w on (told_there.naming o w is told))
