-- A top has a part in an object only in what its own calls and includes use.
use Rattle.arj_law_parts.proofs.Words
use Words.{◌≡◌, ◌∙◌, ◌==◌, ◌&&◌, ◌||◌, ℕ, Bool, true, false, not, List, [], ◌∷◌, length, Some, refl, sym, ap, subst, inl, inr, Contains}
use Words.{arith, list_any, uid_is, uid_same, In, in_find, in_from, in_to, End, Uid, is_on, uid_eq, uids_of, actor, Machine, Used}
use Words.{plan_of, Committing, Coord, Doing, Joined, Root, Said, doing_of, root_at, survives, top_uses, Intent, Branch, behind, branch_of}
use Words.{ended_so, has_end, is_committed, is_merged, root_of, is_empty}
use Words.ending
use Rattle.arj_law_disk_view.proofs.Terms
use Terms.{Action, AreBegun, paths_of, IsBusy, IsGoodCoord, IsVoting, IsSure, begun_tree, KnowsUses, KnowsCoord, Kinds, Uses, used_at}
use Rattle.arj_law_disk_view.specs.view.Knows.{HasIncluded}
use Rattle.arj_law_parts.specs.parts.Servers.{has_end_of}
use Rattle.arj_law_runs.proofs.coordinators.UsesCommits.{behind_below}

uses_in : (v : Used) (us : List Used) → In v us → Uses v us
uses_in v [] i = absurd i
uses_in v (w ∷ us) (inl same) = inl same
uses_in v (w ∷ us) (inr i) = inr (uses_in v us i)

-- an end that a list has
end_in : (w : Uid) (ends : List (Uid × End)) → has_end_of w ends ≡ true → (e : End) × In (w, e) ends
end_in w [] on = absurd (cc on)
end_in w (f ∷ ends) on = by (uid_eq f.0 w) refl on (end_in w ends)
  where
    by : (b : Bool) → uid_eq f.0 w ≡ b → (b || has_end_of w ends) ≡ true → (has_end_of w ends ≡ true → (e : End) × In (w, e) ends) →
        (e : End) × In (w, e) (f ∷ ends)
    by true same h ih = (f.1, inl (λ i. (uid_is f.0 w same i, f.1)))
    by false other h ih = let r = ih h in (r.0, inr r.1)

none_such : (f : Uid → Bool) (us : List Uid) → ((w : Uid) → is_on us w ≡ true → f w ≡ true) → list_any (λ w. not (f w)) us ≡ false
none_such f [] all = refl
none_such f (u ∷ us) all = λ i. not (all u (here u us) i) || none_such f us (λ w on. all w (later u us w on)) i
  where
    here : (u : Uid) (us : List Uid) → is_on (u ∷ us) u ≡ true
    here u us = λ i. uid_same u i || is_on us u

    later : (u : Uid) (us : List Uid) (w : Uid) → is_on us w ≡ true → is_on (u ∷ us) w ≡ true
    later u us w on = by (uid_eq u w)
      where
        by : (b : Bool) → (b || is_on us w) ≡ true
        by true = refl
        by false = on

any_there : {A : Type 0} (f : A → Bool) (a : A) (all : List A) → In a all → f a ≡ true → list_any f all ≡ true
any_there f a [] i on = absurd i
any_there f a (b ∷ all) (inl same) on = λ j. (ap f same ∙ on) j || list_any f all
any_there f a (b ∷ all) (inr i) on = by (f b) (any_there f a all i on)
  where
    by : (z : Bool) → list_any f all ≡ true → (z || list_any f all) ≡ true
    by true h = refl
    by false h = h

or_right : (a b : Bool) → b ≡ true → (a || b) ≡ true
or_right true b is = refl
or_right false b is = is

module _ (acts : List Action) (begun : AreBegun acts) (c : Coord) (good : IsGoodCoord acts (paths_of acts) c) (sure : IsSure c)
    (tops : Kinds) (intents : List (Uid × Intent)) (knows : KnowsCoord tops intents c) (uses : KnowsUses c) (u : Uid) (q : Doing)
    (m : Machine) (at : doing_of u c ≡ Some q) (now : q.now ≡ Committing m) where
  voting : IsVoting c.tree u (plan_of m)
  voting = subst (IsBusy c.tree u) now (good.busy u q at)

  actor_is : actor (plan_of m).path ≡ u
  actor_is = let b = voting.asking in ap actor (sym b.path) ∙ good.tree.lists.places u b.branch b.found

  -- what stands behind the top on the path of an include that the plan has was committed
  merged : (us : List Uid) (w : Uid) (b : Branch) → branch_of w c.tree ≡ Some b → us ≡ uids_of b.path → ((z : Uid) → is_on (behind u us) z
      ≡ true → Contains (plan_of m).ends (z, ending.Abort) → ⊥) → (z : Uid) → is_on (behind u us) z ≡ true → is_committed z c.tree ≡ true
  merged us w b found path lives z on =
      let same : us ≡ paths_of acts w = path ∙ good.tree.lists.paths_are w b found in
      let d = behind_below (paths_of acts) (begun_tree acts begun) c.tree good.tree.lists u (length (paths_of acts w)) w b (omega arith)
      found z (ap (λ vs. is_on (behind u vs) z) (sym same) ∙ on) in
      let e = end_in z (plan_of m).ends (voting.below z d.0 d.1 (ap (λ vs. is_on vs u) (good.tree.lists.paths_are z d.0 d.1) ∙ d.2) d.3) in
      let its = sure.plans u q m at now z e.0 (in_to (z, e.0) (plan_of m).ends e.1) in
      by its.0 e.0 (in_to (z, e.0) (plan_of m).ends e.1) its.1 its.2
    where
      by : (d : Branch) (e : End) → Contains (plan_of m).ends (z, e) → branch_of z c.tree ≡ Some d → d.ended ≡ Some e →
          is_committed z c.tree ≡ true
      by d ending.Commit there is ended = ap (ended_so ending.Commit) is ∙ ap (has_end ending.Commit) ended
      by d ending.Abort there is ended = absurd (lives z on there)

  pub include_used : (x : ℕ) (v : Used) → used_at x (plan_of m).used ≡ Some v → is_empty v.joins ≡ false →
      top_uses u x (root_at (root_of (plan_of m).path) c) c ≡ true
  include_used x v is full =
      let f = in_find (λ (z : Used). z.x == x) v (plan_of m).used is in
      let a : HasIncluded (root_at (root_of (plan_of m).path) c) (plan_of m) v.x = knows.includes u q m at now v
      (uses_in v (plan_of m).used f.0) full in
      let j : Joined = a.joined in
      let b = uses.paths (root_of (plan_of m).path) j.path (inr (j, a.there, refl)) in
      let all = merged j.path b.0 b.1 b.2 b.3 (λ z on. a.lives z (ap (λ w. is_on (behind w j.path) z) actor_is ∙ on)) in
      let lives : survives u j.path c ≡ true = (λ i. (ap (is_on j.path) (sym actor_is) ∙ a.on) i && is_merged u j.path c.tree)
      ∙ ap not (none_such (λ w. is_committed w c.tree) (behind u j.path) all) in
      or_right (list_any (λ (s : Said). (s.x == x) && survives u s.path c) r.said)
      (list_any (λ (z : Joined). (z.x == x) && survives u z.path c) r.joined)
      (any_there (λ (z : Joined). (z.x == x) && survives u z.path c) j r.joined (in_from j r.joined a.there)
      (λ i. (ap (λ n. n == x) a.object ∙ f.1) i && lives i))
    where
      r : Root
      r = root_at (root_of (plan_of m).path) c
